-- An expression from its parts, as code finds them.
use Rattle.std.proofs.Common.{◌≡◌, List, ◌++◌, ℕ, ap, sym, ◌∙◌, append_assoc}
use Rattle.fd_words.specs.declared.source.SourceFault.{SourceFault}
use Rattle.fd_words.specs.declared.arith.Arith.{Arith}
use Rattle.fd_syntax.specs.declared.expr.Expr.{Expr}
use Rattle.fd_syntax.specs.declared.expr.Expr as expr
use Rattle.fd_program.specs.declared.body.CheckedExpr as checked
use Rattle.fd_scope.specs.declared.head.Head.{Head}
use Rattle.fd_loops.specs.declared.draft.Draft.{Draft}
use Rattle.fd_resolve.specs.declared.around.Around.{Around}
use Rattle.fd_loops.specs.Bodies.{after_expr, resolved_expr, expr_faults, after_expr-Negate, after_expr-Binary, resolved_expr-Negate}
use Rattle.fd_loops.specs.Bodies.{resolved_expr-Binary, expr_faults-Negate, expr_faults-Binary}

module _ (h : Head) (a : Around) (index : List ℕ) where
  pub negated_draft : (d new : Draft) (s inner got : Expr) → s ≡ expr.Negate inner → got ≡ inner → new ≡ after_expr h a index d got
      → new ≡ after_expr h a index d s
  negated_draft d new s inner got is g e =
      e ∙ ap (after_expr h a index d) g ∙ sym (after_expr-Negate h a index d inner) ∙ ap (after_expr h a index d) (sym is)

  pub negated_faults : (d : Draft) (old new : List SourceFault) (s inner got : Expr) → s ≡ expr.Negate inner → got ≡ inner
      → new ≡ old ++ expr_faults h a index d got → new ≡ old ++ expr_faults h a index d s
  negated_faults d old new s inner got is g e =
      e ∙ ap (λ x. old ++ expr_faults h a index d x) g ∙ ap (λ fs. old ++ fs) (sym (expr_faults-Negate h a index d inner))
      ∙ ap (λ x. old ++ expr_faults h a index d x) (sym is)

  pub negated_value : (d : Draft) (v : checked.CheckedExpr) (s inner got : Expr) → s ≡ expr.Negate inner → got ≡ inner
      → v ≡ resolved_expr h a index d got
      → checked.Negate v ≡ resolved_expr h a index d s
  negated_value d v s inner got is g e =
      ap checked.Negate (e ∙ ap (resolved_expr h a index d) g) ∙ sym (resolved_expr-Negate h a index d inner)
      ∙ ap (resolved_expr h a index d) (sym is)

  pub binary_draft : (op : Arith) (d one two : Draft) (s left right got_left got_right : Expr) → s ≡ expr.Binary op left right
      → got_left ≡ left → got_right ≡ right
      → one ≡ after_expr h a index d got_left → two ≡ after_expr h a index one got_right → two ≡ after_expr h a index d s
  binary_draft op d one two s left right got_left got_right is el er e1 e2 =
      e2 ∙ ap (after_expr h a index one) er ∙ ap (λ z. after_expr h a index z right) (e1 ∙ ap (after_expr h a index d) el)
      ∙ sym (after_expr-Binary h a index d op left right) ∙ ap (after_expr h a index d) (sym is)

  pub binary_faults : (op : Arith) (d middle : Draft) (old one two : List SourceFault) (s left right got_left got_right : Expr)
      → s ≡ expr.Binary op left right
      → got_left ≡ left → got_right ≡ right → middle ≡ after_expr h a index d got_left
      → one ≡ old ++ expr_faults h a index d got_left → two ≡ one ++ expr_faults h a index middle got_right
      → two ≡ old ++ expr_faults h a index d s
  binary_faults op d middle old one two s left right got_left got_right is el er em e1 e2 =
      e2 ∙ ap (λ x. one ++ expr_faults h a index middle x) er
      ∙ ap (λ z. one ++ expr_faults h a index z right) (em ∙ ap (after_expr h a index d) el)
      ∙ ap (λ o. o ++ expr_faults h a index (after_expr h a index d left) right) (e1 ∙ ap (λ x. old ++ expr_faults h a index d x) el)
      ∙ append_assoc old (expr_faults h a index d left) (expr_faults h a index (after_expr h a index d left) right)
      ∙ ap (λ fs. old ++ fs) (sym (expr_faults-Binary h a index d op left right)) ∙ ap (λ x. old ++ expr_faults h a index d x) (sym is)

  pub binary_value : (op : Arith) (d middle : Draft) (v w : checked.CheckedExpr) (s left right got_left got_right : Expr)
      → s ≡ expr.Binary op left right
      → got_left ≡ left → got_right ≡ right → middle ≡ after_expr h a index d got_left
      → v ≡ resolved_expr h a index d got_left → w ≡ resolved_expr h a index middle got_right
      → checked.Binary op v w ≡ resolved_expr h a index d s
  binary_value op d middle v w s left right got_left got_right is el er em e1 e2 =
      ap (λ x. checked.Binary op x w) (e1 ∙ ap (resolved_expr h a index d) el)
      ∙ ap (checked.Binary op (resolved_expr h a index d left)) (e2 ∙ ap (resolved_expr h a index middle) er
      ∙ ap (λ z. resolved_expr h a index z right) (em ∙ ap (after_expr h a index d) el))
      ∙ sym (resolved_expr-Binary h a index d op left right) ∙ ap (resolved_expr h a index d) (sym is)
