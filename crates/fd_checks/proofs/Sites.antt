-- The loops of an accepted program.
use Rattle.std.proofs.Common.{◌≡◌, refl, ℕ, ◌≤◌, ◌<◌, ◌+◌, ◌-◌, Bool, true, false, if◌then◌else◌, arith, List, [], ◌∷◌, ◌++◌, length}
use Rattle.std.proofs.Common.{length-append, get_or, Option, Some, None, ap, sym, ◌∙◌, subst}
use Rattle.std.specs.Prelude.{AllPairs, fold, IsSome}
use Rattle.std.specs.Option.{option_map_or}
use Rattle.std.proofs.lemmas.List.Elements.{All-nil, All-weaker}
use Rattle.fd_words.specs.declared.combine.Combine.{Combine}
use Rattle.fd_words.specs.declared.place.Role.TheVariants as role
use Rattle.fd_syntax.specs.declared.expr.Element.{Element}
use Rattle.fd_syntax.specs.declared.expr.Expr.{Expr}
use Rattle.fd_syntax.specs.declared.statement.BodyStatement.{BodyStatement}
use Rattle.fd_syntax.specs.declared.statement.BodyStatement.TheVariants as statement
use Rattle.fd_syntax.specs.declared.statement.Loop.{Loop}
use Rattle.fd_program.specs.Checks.{IsReference, IsStatement, IsSite, Agree}
use Rattle.fd_program.specs.Loops.{target_of}
use Rattle.fd_program.specs.Places.{decomposition_of}
use Rattle.fd_program.specs.Texts as texts
use Rattle.fd_program.specs.declared.body.CheckedBody.{CheckedBody}
use Rattle.fd_program.specs.declared.reference.Reference.{Reference}
use Rattle.fd_scope.specs.declared.head.Head.{Head}
use Rattle.fd_scope.specs.Faults.{along}
use Rattle.fd_loops.specs.declared.draft.Draft.{Draft}
use Rattle.fd_loops.specs.declared.draft.Target.{Target}
use Rattle.fd_resolve.specs.declared.around.Around.{Around}
use Rattle.fd_loops.specs.Bodies.{after_expr, behind_target, after_written, after_body, body_faults}
use Rattle.fd_loops.specs.Drafts.{start_draft, is_crowded, after_target}
use Rattle.fd_resolve.specs.Resolve.{array_called}
use Rattle.fd_checks.specs.Walks.{site_of, draft_of}
use Rattle.fd_checks.proofs.Accepted.{kept_along, anything, zip_length, zip_at}
use Rattle.fd_checks.proofs.Bodies.{IsTarget, IsSound, body_sound, expr_body, element_body}
use Rattle.fd_checks.proofs.References.{IsReferred, IsStampOf}
use Rattle.fd_checks.proofs.Shapes.{site_shaped}
use Rattle.fd_checks.proofs.Tables.{IsSoundHead, array_known, one_name, placed}

-- ---- each statement adds one

module _ (h : Head) (a : Around) (index : List ℕ) where
  target_body : (d : Draft) (name : List ℕ) (operator : Option Combine) → (after_target d name operator).body ≡ d.body
  target_body d name operator = by_test (is_crowded d)
    where
      by_test : (b : Bool) → (if b then d else record d { targets = d.targets ++ record { name = name; operator = operator } ∷ [] }).body
          ≡ d.body
      by_test true = refl
      by_test false = refl

  written_more : (operator : Option Combine) (target : Element) (value : Expr) (d : Draft)
      → length (after_written h a index operator target value d).body ≡ length d.body + 1
  written_more operator target value d =
      let same : (after_expr h a index (behind_target h a operator d target) value).body ≡ d.body =
      expr_body h a index value (behind_target h a operator d target) ∙ element_body h a role.Target (after_target d target.name operator)
      target ∙ target_body d target.name operator in
      length-append (after_expr h a index (behind_target h a operator d target) value).body _
      ∙ ap (λ (l : List CheckedBody). length l + 1) same

  body_more : (d : Draft) (s : BodyStatement) → length (after_body h a index d s).body ≡ length d.body + 1
  body_more d (statement.Assign target value) = written_more None target value d
  body_more d (statement.Reduce operator target value) = written_more (Some operator) target value d

  bodies_counted : (list : List BodyStatement) (d : Draft) → length list ≤ length (fold (after_body h a index) d list).body
  bodies_counted list d = let n : length d.body + length list ≤ length (fold (after_body h a index) d list).body = go list d in omega arith
    where
      go : (rest : List BodyStatement) (e : Draft) → length e.body + length rest ≤ length (fold (after_body h a index) e rest).body
      go [] e = omega arith
      go (s ∷ rest) e =
          let n : length (after_body h a index e s).body + length rest
          ≤ length (fold (after_body h a index) (after_body h a index e s) rest).body = go rest (after_body h a index e s) in
          let m : length (after_body h a index e s).body ≡ length e.body + 1 = body_more e s in
          omega arith

-- ---- a loop whose body has no fault

start_sound : (h : Head) (a : Around) (loop : Loop) (used : List ℕ) → IsSound h a loop used (start_draft used)
start_sound h a loop used = record {
  referred = record {
    used = refl;
    more = λ k. omega arith;
    stamped = All-nil (IsStampOf used used);
    references = All-nil (IsReferred h.tables.arrays used used);
  };
  body = All-nil (IsStatement (site_of h a loop (start_draft used)));
  targets = tt;
  alike = λ i j d before within. absurd (omega arith);
  written = λ place r there is. absurd (none there);
}
  where
    none : {r : Reference} → None ≡ Some r → ⊥
    none e = cc

module _ (h : Head) (g : IsSoundHead h) (a : Around) (loop : Loop) (used : List ℕ) (whole : length used ≡ length h.tables.layouts)
    (none : along (after_body h a loop.index) (body_faults h a loop.index) (start_draft used) loop.body ≡ []) where
  pub draft_sound : IsSound h a loop used (draft_of h a used loop)
  draft_sound =
      kept_along (IsSound h a loop used) (λ (s : BodyStatement). Unit {0}) (after_body h a loop.index) (body_faults h a loop.index)
      (λ d s sound q fine. body_sound h a loop used (array_known h g a) (λ k within. subst (λ n. decomposition_of h.tables.arrays k < n)
      (sym whole) (placed h g k within)) d s sound fine)
      loop.body (start_draft used) (start_sound h a loop used) (anything loop.body) none

  target_is : (references : List Reference) (t : Target) (s : CheckedBody) (is : IsTarget h a references t s)
      → texts.array_of references (target_of s) ≡ is.reference.array
  target_is references t s is = ap (texts.array_of references) is.number
      ∙ ap (λ (o : Option Reference). option_map_or (λ (r : Reference). r.array) o 0) is.there

  agreed : (d : Draft) → IsSound h a loop used d → AllPairs (Agree (site_of h a loop d)) d.body
  agreed d sound = λ i j s before within same.
      let none_yet : Target = record { name = []; operator = None } in
      let n : length d.targets ≡ length d.body = zip_length (IsTarget h a d.references) d.targets d.body sound.targets in
      let one = zip_at (IsTarget h a d.references) d.targets d.body i none_yet s sound.targets (omega arith) in
      let other = zip_at (IsTarget h a d.references) d.targets d.body j none_yet s sound.targets (omega arith) in
      let array : one.reference.array ≡ other.reference.array = sym (target_is d.references _ _ one) ∙ same
      ∙ target_is d.references _ _ other in
      let name = one_name h g a (get_or d.targets i none_yet).name (get_or d.targets j none_yet).name other.reference.array (one.array
      ∙ ap Some array) other.array in
      let alike = sound.alike i j none_yet before (omega arith) name in
      (subst IsSome (sym one.operator) alike.0, one.operator ∙ alike.1 ∙ sym other.operator)

  pub site_sound : 1 ≤ length loop.body → IsSite h.tables.arrays (site_of h a loop (draft_of h a used loop))
  site_sound some =
      let sound = draft_sound in
      let shaped = site_shaped h a used loop in
      let count : length loop.body ≤ length (draft_of h a used loop).body = bodies_counted h a loop.index loop.body (start_draft used) in
      record {
        few = shaped.few;
        references = All-weaker (IsReferred h.tables.arrays used (draft_of h a used loop).used) (IsReference h.tables.arrays)
            (λ r is. is.reference) (draft_of h a used loop).references sound.referred.references;
        served = shaped.served;
        some = omega arith;
        body = sound.body;
        agreed = agreed (draft_of h a used loop) sound;
        written = sound.written;
      }
