-- A statement of a loop from its parts, as code finds them.
use Rattle.std.proofs.Common.{◌≡◌, List, ◌++◌, ℕ, Option, ap, ◌∙◌, append_assoc}
use Rattle.fd_words.specs.declared.combine.Combine.{Combine}
use Rattle.fd_words.specs.declared.place.Role.TheVariants as role
use Rattle.fd_words.specs.declared.source.SourceFault.{SourceFault}
use Rattle.fd_syntax.specs.declared.expr.Element.{Element}
use Rattle.fd_syntax.specs.declared.expr.Expr.{Expr}
use Rattle.fd_program.specs.declared.body.CheckedBody.{CheckedBody}
use Rattle.fd_program.specs.declared.body.CheckedExpr.{CheckedExpr}
use Rattle.fd_scope.specs.declared.head.Head.{Head}
use Rattle.fd_loops.specs.declared.draft.Draft.{Draft}
use Rattle.fd_loops.specs.declared.draft.Target.{Target}
use Rattle.fd_resolve.specs.declared.around.Around.{Around}
use Rattle.fd_loops.specs.Bodies.{after_expr, resolved_expr, expr_faults, plain_faults, checked_body, behind_target, with_body}
use Rattle.fd_loops.specs.Bodies.{after_written, written_faults}
use Rattle.fd_loops.specs.Drafts.{after_target, clash_faults}
use Rattle.fd_loops.specs.Elements.{after_element, element_number, element_faults}

module _ (h : Head) (a : Around) (index : List ℕ) (operator : Option Combine) (target : Element) (value : Expr) where
  behind : (d one two : Draft) → one ≡ after_target d target.name operator → two ≡ after_element h a role.Target one target
      → two ≡ behind_target h a operator d target
  behind d one two e1 e2 = e2 ∙ ap (λ z. after_element h a role.Target z target) e1

  pub written_draft : (d one two three : Draft) (n : ℕ) (v : CheckedExpr) (s : CheckedBody)
      → one ≡ after_target d target.name operator → two ≡ after_element h a role.Target one target → three ≡ after_expr h a index two value
      → n ≡ element_number h a one target → v ≡ resolved_expr h a index two value → s ≡ checked_body operator n v
      → with_body three s ≡ after_written h a index operator target value d
  written_draft d one two three n v s e1 e2 e3 en ev es =
      ap (λ x. with_body x s) (e3 ∙ ap (λ z. after_expr h a index z value) (behind d one two e1 e2))
      ∙ ap (with_body (after_expr h a index (behind_target h a operator d target) value))
      (es ∙ ap (λ k. checked_body operator k v) (en ∙ ap (λ z. element_number h a z target) e1)
      ∙ ap (checked_body operator (element_number h a (after_target d target.name operator) target)) (ev
      ∙ ap (λ z. resolved_expr h a index z value) (behind d one two e1 e2)))

  pub written_noted : (d one two : Draft) (targets : List Target) (start first second third last : List SourceFault)
      → one ≡ after_target d target.name operator → two ≡ after_element h a role.Target one target → targets ≡ d.targets
      → first ≡ start ++ plain_faults operator target → second ≡ first ++ clash_faults targets target.name operator target.at
      → third ≡ second ++ element_faults h a one target → last ≡ third ++ expr_faults h a index two value
      → last ≡ start ++ written_faults h a index operator target value d
  written_noted d one two targets start first second third last e1 e2 et f1 f2 f3 f4 =
      let p = plain_faults operator target in
      let k = clash_faults d.targets target.name operator target.at in
      let e = element_faults h a (after_target d target.name operator) target in
      let x = expr_faults h a index (behind_target h a operator d target) value in
      f4 ∙ ap (λ z. third ++ expr_faults h a index z value) (behind d one two e1 e2)
      ∙ ap (λ o. o ++ x) (f3 ∙ ap (λ z. second ++ element_faults h a z target) e1
      ∙ ap (λ o. o ++ e) (f2 ∙ ap (λ ts. first ++ clash_faults ts target.name operator target.at) et ∙ ap (λ o. o ++ k) f1))
      ∙ append_assoc ((start ++ p) ++ k) e x ∙ append_assoc (start ++ p) k (e ++ x) ∙ append_assoc start p (k ++ (e ++ x))
