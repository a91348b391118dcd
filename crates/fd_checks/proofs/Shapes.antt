-- The loops of a resolved program are shaped: each addition to a draft keeps its references few and served.
use Rattle.std.proofs.Common.{◌≡◌, refl, ℕ, ℤ, ◌≤◌, ◌+◌, Bool, true, false, if◌then◌else◌, arith, List, [], ◌∷◌, ◌++◌, Option, Some, None}
use Rattle.std.proofs.Common.{sym, subst, length, length-append}
use Rattle.std.specs.Prelude.{fold, is_some, nat_le, IsSomeAnd, IfOk, Result, Ok, Err}
use Rattle.std.proofs.lemmas.Bool.Decides.{nat_tests}
use Rattle.std.proofs.lemmas.List.Elements.{All-nil}
use Rattle.fd_words.specs.declared.combine.Combine.{Combine}
use Rattle.fd_words.specs.declared.place.Role.{Role}
use Rattle.fd_words.specs.declared.source.SourcePlace.{SourcePlace}
use Rattle.fd_words.specs.declared.place.Role.TheVariants as role
use Rattle.fd_syntax.specs.declared.expr.Element.{Element}
use Rattle.fd_syntax.specs.declared.expr.Expr.{Expr, Number, Named, Read, Negate', Binary', more_of-Expr, end_of-Expr}
use Rattle.fd_syntax.specs.declared.expr.Subscript.{Subscript}
use Rattle.fd_syntax.specs.declared.scalar.Term.{Term}
use Rattle.fd_syntax.specs.declared.expr.Subscript.TheVariants.{Plain, Through, Twice, Scalar}
use Rattle.fd_syntax.specs.declared.program.Program.{Program}
use Rattle.fd_syntax.specs.declared.statement.BodyStatement.{BodyStatement}
use Rattle.fd_syntax.specs.declared.statement.BodyStatement.TheVariants as statement
use Rattle.fd_syntax.specs.declared.statement.Loop.{Loop}
use Rattle.fd_program.specs.Checks.{AreServed, IsServed, IsIndexFor}
use Rattle.fd_words.specs.declared.source.SourceStop.{SourceStop}
use Rattle.fd_program.specs.declared.checked.Checked.{Checked}
use Rattle.fd_program.specs.declared.reference.CheckedSubscript.TheVariants as resolved
use Rattle.fd_program.specs.declared.reference.Reference.{Reference}
use Rattle.fd_program.specs.Terms.{HaveTerms}
use Rattle.fd_scope.specs.declared.head.Head.{Head}
use Rattle.fd_scope.specs.Heads.{head_of}
use Rattle.fd_scope.specs.Names.{name_eq}
use Rattle.fd_loops.specs.declared.draft.Draft.{Draft}
use Rattle.fd_resolve.specs.declared.marks.Mark.{Mark}
use Rattle.fd_resolve.specs.declared.around.Around.{Around}
use Rattle.fd_loops.specs.Bodies.{after_name, after_expr, behind_target, after_written, after_body}
use Rattle.fd_loops.specs.Drafts.{start_draft, is_crowded, with_reference, is_worn, stamp_in, after_stamp, after_target}
use Rattle.fd_loops.specs.Elements.{index_reference, outer_reference, own_reference, after_index, after_own_stamp, after_element}
use Rattle.fd_resolve.specs.Resolve.{array_called, array_or_first, offset_resolved, subscript_resolved}
use Rattle.fd_checks.specs.Shapes.{IsShaped, AreShaped}
use Rattle.fd_checks.specs.Walks.{site_of, draft_of, start, resolved_program, IsAnswer}
use Rattle.fd_checks.proofs.Terms.{site_terms, have_terms, walk_all}

last_of : Option Reference → List Reference → Option Reference
last_of before [] = before
last_of before (r ∷ rs) = last_of (Some r) rs

served_push : (before : Option Reference) (rs : List Reference) (r : Reference) → AreServed before rs
    → IsServed (last_of before rs) r.subscript → AreServed before (rs ++ r ∷ [])
unfolding last_of
served_push before [] r h s = (s, tt)
served_push before (x ∷ xs) r h s = (h.0, served_push (Some x) xs r h.1 s)

last_push : (before : Option Reference) (rs : List Reference) (r : Reference) → last_of before (rs ++ r ∷ []) ≡ Some r
unfolding last_of
last_push before [] r = refl
last_push before (x ∷ xs) r = last_push (Some x) xs r

record IsGood (d : Draft) : Type 0 where
  few : length d.references ≤ 64
  served : AreServed None d.references

-- ---- what leaves the references as they are

one_of : (b : Bool) (x y : Draft) (rs : List Reference) → x.references ≡ rs → y.references ≡ rs → (if b then x else y).references ≡ rs
one_of true x y rs e f = e
one_of false x y rs e f = f

same_good : (d e : Draft) → e.references ≡ d.references → IsGood d → IsGood e
same_good d e same g = record {
  few = subst (λ (rs : List Reference). length rs ≤ 64) (sym same) g.few;
  served = subst (λ (rs : List Reference). AreServed None rs) (sym same) g.served;
}

after_stamp-references : (d : Draft) (decomposition : ℕ) (offset : ℤ) (marks : List Mark)
    → (after_stamp d decomposition offset marks).references ≡ d.references
after_stamp-references d decomposition offset marks =
    one_of (is_some (stamp_in d.stamped decomposition offset marks)) d _ d.references refl
    (one_of (is_worn d.used decomposition) d _ d.references refl refl)

pub after_own_stamp-references : (h : Head) (a : Around) (d : Draft) (s : Subscript) (array : Option ℕ)
    → (after_own_stamp h a d s array).references ≡ d.references
after_own_stamp-references h a d s None = refl
after_own_stamp-references h a d s (Some array) = after_stamp-references d _ _ _

pub after_target-references : (d : Draft) (name : List ℕ) (operator : Option Combine) → (after_target d name operator).references
    ≡ d.references
after_target-references d name operator = one_of (is_crowded d) d _ d.references refl refl

-- ---- what adds to them

room : (n : ℕ) → nat_le 64 n ≡ false → (n + 1) ≤ 64
room n h = grind (arith, nat_tests)

pushed : (d e : Draft) (r : Reference) → nat_le 64 (length d.references) ≡ false → e.references ≡ d.references ++ r ∷ []
    → IsServed (last_of None d.references) r.subscript → IsGood d → IsGood e
pushed d e r space same s g = record {
  few = subst (λ (rs : List Reference). length rs ≤ 64) (sym same) (subst (λ n. n ≤ 64) (sym (length-append d.references (r ∷ [])))
      (room (length d.references) space));
  served = subst (λ (rs : List Reference). AreServed None rs) (sym same) (served_push None d.references r g.served s);
}

with_by : (d : Draft) (r : Reference) (b : Bool) → is_crowded d ≡ b
    → (is_crowded d ≡ false → IsServed (last_of None d.references) r.subscript) → IsGood d
    → IsGood (if b then d else record d { references = d.references ++ r ∷ [] })
with_by d r true e s g = g
with_by d r false e s g = pushed d (record d { references = d.references ++ r ∷ [] }) r e refl (s e) g

with_room : (d : Draft) (r : Reference) → (is_crowded d ≡ false → IsServed (last_of None d.references) r.subscript) → IsGood d
    → IsGood (with_reference d r)
with_room d r s g = with_by d r (is_crowded d) refl s g

with_good : (d : Draft) (r : Reference) → IsServed (last_of None d.references) r.subscript → IsGood d → IsGood (with_reference d r)
with_good d r s g = with_room d r (λ room. s) g

module _ (h : Head) (a : Around) where
  -- a draft that is full, or whose last reference serves this subscript
  abbrev Serves : Draft → Subscript → Type 0
  Serves d (Plain add) = Unit {0}
  Serves d (Through index_array at inner_add add) = is_crowded d ≡ false
      → last_of None d.references ≡ Some (index_reference h a index_array inner_add)
  Serves d (Twice outer at inner inner_at first second add) = is_crowded d ≡ false
      → last_of None d.references ≡ Some (outer_reference h a outer inner inner_at first second)
  Serves d (Scalar s) = Unit {0}

  index_by : (d : Draft) (r : Reference) (b : Bool) → is_crowded d ≡ b
      → is_crowded (if b then d else record d { references = d.references ++ r ∷ [] }) ≡ false
      → last_of None (if b then d else record d { references = d.references ++ r ∷ [] }).references ≡ Some r
  index_by d r true e f = absurd (both e f)
    where
      both : is_crowded d ≡ true → is_crowded d ≡ false → ⊥
      both p q = cc
  index_by d r false e f = last_push None d.references r

  after_index-serves : (d : Draft) (s : Subscript) → Serves (after_index h a d s) s
  after_index-serves d (Plain add) = tt
  after_index-serves d (Through index_array at inner_add add) = index_by d (index_reference h a index_array inner_add) (is_crowded d) refl
  after_index-serves d (Twice outer at inner inner_at first second add) =
      let x = with_reference d (index_reference h a inner first) in
      index_by x (outer_reference h a outer inner inner_at first second) (is_crowded x) refl
  after_index-serves d (Scalar s) = tt

  -- the reference to an array that is read through another, behind that of the other
  outer_served : (d : Draft) (outer inner : List ℕ) (inner_at : SourcePlace) (first second : List Term)
      → is_crowded (with_reference d (index_reference h a inner first)) ≡ false
      → IsServed (last_of None (with_reference d (index_reference h a inner first)).references)
      (outer_reference h a outer inner inner_at first second).subscript
  outer_served d outer inner inner_at first second room =
      subst (λ (o : Option Reference). IsSomeAnd o (IsIndexFor (array_or_first h a inner)
      (resolved.Plain (offset_resolved h a first)))) (sym (index_by d (index_reference h a inner first) (is_crowded d) refl room))
      (record { role = refl; array = refl; subscript = refl })

  after_index-good : (d : Draft) (s : Subscript) → IsGood d → IsGood (after_index h a d s)
  after_index-good d (Plain add) g = g
  after_index-good d (Through index_array at inner_add add) g = with_good d (index_reference h a index_array inner_add) tt g
  after_index-good d (Twice outer at inner inner_at first second add) g =
      with_room (with_reference d (index_reference h a inner first)) (outer_reference h a outer inner inner_at first second)
      (outer_served d outer inner inner_at first second) (with_good d (index_reference h a inner first) tt g)
  after_index-good d (Scalar s) g = g

  served_by : (d : Draft) (s : Subscript) → Serves d s → is_crowded d ≡ false
      → IsServed (last_of None d.references) (subscript_resolved h a s)
  served_by d (Plain add) p f = tt
  served_by d (Through index_array at inner_add add) p f =
      subst (λ (o : Option Reference). IsSomeAnd o (IsIndexFor (array_or_first h a index_array)
      (resolved.Plain (offset_resolved h a inner_add)))) (sym (p f))
      (record { role = refl; array = refl; subscript = refl })
  served_by d (Twice outer at inner inner_at first second add) p f =
      subst (λ (o : Option Reference). IsSomeAnd o (IsIndexFor (array_or_first h a outer)
      (resolved.Through (array_or_first h a inner) inner_at (offset_resolved h a first) (offset_resolved h a second)))) (sym (p f))
      (record { role = refl; array = refl; subscript = refl })
  served_by d (Scalar s) p f = tt

  own_by : (r : Role) (d : Draft) (e : Element) (b : Bool) → is_crowded d ≡ b → Serves d e.subscript → IsGood d
      → IsGood (if b then d else with_reference (after_own_stamp h a d e.subscript (array_called h a e.name)) (own_reference h a d r e))
  own_by r d e true f p g = g
  own_by r d e false f p g =
      let same = after_own_stamp-references h a d e.subscript (array_called h a e.name) in
      with_good (after_own_stamp h a d e.subscript (array_called h a e.name)) (own_reference h a d r e)
      (subst (λ (rs : List Reference). IsServed (last_of None rs) (subscript_resolved h a e.subscript)) (sym same)
      (served_by d e.subscript p f))
      (same_good d (after_own_stamp h a d e.subscript (array_called h a e.name)) same g)

  after_element-good : (r : Role) (d : Draft) (e : Element) → IsGood d → IsGood (after_element h a r d e)
  after_element-good r d e g =
      own_by r (after_index h a d e.subscript) e (is_crowded (after_index h a d e.subscript)) refl (after_index-serves d e.subscript)
      (after_index-good d e.subscript g)

module _ (h : Head) (a : Around) (index : List ℕ) where
  after_expr-good : (e : Expr) (d : Draft) → IsGood d → IsGood (after_expr h a index d e)
  after_expr-good (Number value) d g = g
  after_expr-good (Named name at) d g = same_good d (after_name h a index d name at)
      (one_of (name_eq name index) d _ d.references refl refl) g
  after_expr-good (Read element) d g = after_element-good h a role.Read d element g
  after_expr-good (Negate' s (more_of-Expr inner end_of-Expr)) d g = after_expr-good inner d g
  after_expr-good (Binary' op s (more_of-Expr left end_of-Expr) t (more_of-Expr right end_of-Expr)) d g =
      after_expr-good right (after_expr h a index d left) (after_expr-good left d g)

  after_written-good : (operator : Option Combine) (target : Element) (value : Expr) (d : Draft) → IsGood d
      → IsGood (after_written h a index operator target value d)
  after_written-good operator target value d g =
      same_good (after_expr h a index (behind_target h a operator d target) value) _ refl
      (after_expr-good value (behind_target h a operator d target)
      (after_element-good h a role.Target (after_target d target.name operator) target
      (same_good d (after_target d target.name operator) (after_target-references d target.name operator) g)))

  after_body-good : (s : BodyStatement) (d : Draft) → IsGood d → IsGood (after_body h a index d s)
  after_body-good (statement.Assign target value) d g = after_written-good None target value d g
  after_body-good (statement.Reduce operator target value) d g = after_written-good (Some operator) target value d g

  body_good : (list : List BodyStatement) (d : Draft) → IsGood d → IsGood (fold (after_body h a index) d list)
  body_good [] d g = g
  body_good (s ∷ rest) d g = body_good rest (after_body h a index d s) (after_body-good s d g)

start_good : (used : List ℕ) → IsGood (start_draft used)
start_good used = record { few = omega arith; served = tt }

-- ---- the statements

pub site_shaped : (h : Head) (a : Around) (used : List ℕ) (loop : Loop) → IsShaped (site_of h a loop (draft_of h a used loop))
site_shaped h a used loop =
    let g = body_good h a loop.index loop.body (start_draft used) (start_good used) in
    record { few = g.few; served = g.served; terms = site_terms h a used loop }

have_shapes : (p : Program) → AreShaped (resolved_program p).sites
have_shapes p = walk_all IsShaped (head_of p) (site_shaped (head_of p)) p.statements (start (head_of p)) (All-nil IsShaped)

-- ---- an answer

pub answered_terms : (p : Program) (r : Result Checked SourceStop) → IsAnswer p r → IfOk r (λ (c : Checked). HaveTerms c.sites)
answered_terms p (Ok c) h = subst (λ (x : Checked). HaveTerms x.sites) (sym h.0) (have_terms p)
answered_terms p (Err stop) h = tt

pub answered_shapes : (p : Program) (r : Result Checked SourceStop) → IsAnswer p r → IfOk r (λ (c : Checked). AreShaped c.sites)
answered_shapes p (Ok c) h = subst (λ (x : Checked). AreShaped x.sites) (sym h.0) (have_shapes p)
answered_shapes p (Err stop) h = tt
