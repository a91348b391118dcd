-- The statements of a loop, where nothing in the loop is at fault.
use Rattle.std.proofs.Common.{◌≡◌, ◌≢◌, refl, ℕ, zero, suc, ◌≤◌, ◌<◌, ◌+◌, ◌-◌, Bool, true, false, if◌then◌else◌, arith, List, [], ◌∷◌}
use Rattle.std.proofs.Common.{◌++◌, length, length-append, get_or, Option, Some, None, ap, sym, ◌∙◌, subst, add-one, ◌⊎◌, inl, inr}
use Rattle.std.specs.Prelude.{All, AllPairs, Any, not, ◌&&◌, ◌||◌, is_some, nat_le, slice_get, unwrap_or, IsSome}
use Rattle.std.specs.List.{AllZip, list_any}
use Rattle.std.specs.Cmp.Lexicographic.{other_text}
use Rattle.std.proofs.lemmas.List.Elements.{All-push, All-weaker}
use Rattle.std.proofs.lemmas.List.Quantifiers.{Any-push, all_pairs_push}
use Rattle.std.proofs.lemmas.Option.{slice_get-get_or, get_or_from_slice_get}
use Rattle.fd_words.specs.declared.combine.Combine.{Combine}
use Rattle.fd_words.specs.declared.combine.Combine.TheVariants.{Add, Min, Max}
use Rattle.fd_words.specs.declared.place.Role.{Role}
use Rattle.fd_words.specs.declared.place.Role.TheVariants as role
use Rattle.fd_words.specs.declared.source.SourceCause.TheVariants as cause
use Rattle.fd_words.specs.declared.source.SourcePlace.{SourcePlace}
use Rattle.fd_syntax.specs.declared.expr.Element.{Element}
use Rattle.fd_syntax.specs.declared.expr.Expr.{Expr, Number, Named, Read, Negate', Binary', more_of-Expr, end_of-Expr}
use Rattle.fd_syntax.specs.declared.expr.Subscript.{Subscript}
use Rattle.fd_syntax.specs.declared.expr.Subscript.TheVariants.{Plain, Through, Twice, Scalar}
use Rattle.fd_syntax.specs.declared.statement.BodyStatement.{BodyStatement}
use Rattle.fd_syntax.specs.declared.statement.BodyStatement.TheVariants as statement
use Rattle.fd_syntax.specs.declared.statement.Loop.{Loop}
use Rattle.fd_program.specs.AmongLaws.{zip_weaker}
use Rattle.fd_program.specs.Checks.{IsPlain, IsStatement, HasRole, IsExpr}
use Rattle.fd_program.specs.Loops.{target_of, operator_of, expr_of}
use Rattle.fd_program.specs.Places.{decomposition_of}
use Rattle.fd_program.specs.Stores.{array_at}
use Rattle.fd_program.specs.declared.body.CheckedBody.{CheckedBody}
use Rattle.fd_program.specs.declared.body.CheckedExpr as checked
use Rattle.fd_program.specs.declared.reference.Reference.{Reference}
use Rattle.fd_program.specs.declared.scalar.CheckedScalar.{CheckedScalar}
use Rattle.fd_scope.specs.declared.head.Head.{Head}
use Rattle.fd_scope.specs.Faults.{fault_if}
use Rattle.fd_scope.specs.Names.{name_eq}
use Rattle.fd_loops.specs.declared.draft.Draft.{Draft}
use Rattle.fd_loops.specs.declared.draft.Stamped.{Stamped}
use Rattle.fd_loops.specs.declared.draft.Target.{Target}
use Rattle.fd_resolve.specs.declared.around.Around.{Around}
use Rattle.fd_loops.specs.Bodies.{after_name, name_value, after_expr, resolved_expr, expr_faults, is_plain, plain_faults, checked_body}
use Rattle.fd_loops.specs.Bodies.{behind_target, with_body, after_written, written_faults, after_body, body_faults}
use Rattle.fd_loops.specs.Drafts.{is_crowded, with_reference, is_worn, stamp_in, with_stamp, same_operator, is_assigned, is_reduced}
use Rattle.fd_loops.specs.Drafts.{is_other, is_reduced_otherwise, clash_faults, after_target}
use Rattle.fd_loops.specs.Elements.{index_reference, outer_reference, after_index, after_own_stamp, own_reference, after_own, after_element}
use Rattle.fd_loops.specs.Elements.{element_number, element_faults}
use Rattle.fd_resolve.specs.Resolve.{array_called, named, subscript_resolved, subscript_marks}
use Rattle.fd_checks.specs.Walks.{site_of}
use Rattle.fd_checks.proofs.Accepted.{left_empty, right_empty, test_false, not_false, true_not_false, is_some-some, slice_get-front}
use Rattle.fd_checks.proofs.Accepted.{slice_get-last, slice_get-push, some_and, some_and-is}
use Rattle.fd_checks.proofs.References.{own_room, own_known, own_added, number_of_own, AreReferred, element_referred}
use Rattle.fd_checks.proofs.Shapes.{after_own_stamp-references, after_target-references}
use Rattle.fd_checks.proofs.Terms.{after_own_stamp-terms, after_target-terms}

-- ---- a draft only grows

pub record Grows (d e : Draft) : Type 0 where
  pub references : (k : ℕ) (r : Reference) → slice_get d.references k ≡ Some r → slice_get e.references k ≡ Some r
  pub terms : length d.terms ≤ length e.terms

stays : (d e : Draft) → e.references ≡ d.references → e.terms ≡ d.terms → Grows d e
stays d e rs ts =
    let self : length d.terms ≤ length d.terms = omega arith in
    record {
      references = λ k r g. subst (λ (l : List Reference). slice_get l k ≡ Some r) (sym rs) g;
      terms = subst (λ (l : List CheckedScalar). length d.terms ≤ length l) (sym ts) self;
    }

grows_more : (d e f : Draft) → Grows d e → Grows e f → Grows d f
grows_more d e f one two =
    let m : length d.terms ≤ length e.terms = one.terms in
    let n : length e.terms ≤ length f.terms = two.terms in
    record { references = λ k r g. two.references k r (one.references k r g); terms = omega arith }

added : (d e : Draft) (r : Reference) → e.references ≡ d.references ++ r ∷ [] → e.terms ≡ d.terms → Grows d e
added d e r rs ts =
    let self : length d.terms ≤ length d.terms = omega arith in
    record {
      references = λ k x g. subst (λ (l : List Reference). slice_get l k ≡ Some x) (sym rs) (slice_get-front d.references (r ∷ []) k x g);
      terms = subst (λ (l : List CheckedScalar). length d.terms ≤ length l) (sym ts) self;
    }

with_grows : (d : Draft) (r : Reference) → Grows d (with_reference d r)
with_grows d r = by_test (is_crowded d)
  where
    by_test : (b : Bool) → Grows d (if b then d else record d { references = d.references ++ r ∷ [] })
    by_test true = stays d d refl refl
    by_test false = added d (record d { references = d.references ++ r ∷ [] }) r refl refl

module _ (h : Head) (a : Around) where
  index_grows : (d : Draft) (s : Subscript) → Grows d (after_index h a d s)
  index_grows d (Plain add) = stays d d refl refl
  index_grows d (Through index_array at inner_add add) = with_grows d (index_reference h a index_array inner_add)
  index_grows d (Twice outer at inner inner_at first second add) =
      let x = with_reference d (index_reference h a inner first) in
      grows_more d x (with_reference x (outer_reference h a outer inner inner_at first second))
      (with_grows d (index_reference h a inner first)) (with_grows x (outer_reference h a outer inner inner_at first second))
  index_grows d (Scalar s) = stays d d refl refl

  own_grows : (role : Role) (d : Draft) (e : Element) → Grows d (after_own h a role d e)
  own_grows role d e = by_test (is_crowded d)
    where
      by_test : (b : Bool) → Grows d (if b then d else with_reference (after_own_stamp h a d e.subscript (array_called h a e.name))
          (own_reference h a d role e))
      by_test true = stays d d refl refl
      by_test false =
          let x = after_own_stamp h a d e.subscript (array_called h a e.name) in
          grows_more d x (with_reference x (own_reference h a d role e))
          (stays d x (after_own_stamp-references h a d e.subscript (array_called h a e.name)) (after_own_stamp-terms h a d e.subscript
          (array_called h a e.name)))
          (with_grows x (own_reference h a d role e))

  pub element_grows : (role : Role) (d : Draft) (e : Element) → Grows d (after_element h a role d e)
  element_grows role d e = grows_more d (after_index h a d e.subscript) (after_element h a role d e) (index_grows d e.subscript)
      (own_grows role (after_index h a d e.subscript) e)

module _ (h : Head) (a : Around) (index : List ℕ) where
  name_grows : (d : Draft) (name : List ℕ) (at : SourcePlace) → Grows d (after_name h a index d name at)
  name_grows d name at = by_test (name_eq name index)
    where
      by_test : (b : Bool) → Grows d (if b then d else record d { terms = d.terms ++ named h a name at ∷ [] })
      by_test true = stays d d refl refl
      by_test false = record { references = λ k r g. g; terms = omega (arith, length-append d.terms (named h a name at ∷ [])) }

  pub expr_grows : (e : Expr) (d : Draft) → Grows d (after_expr h a index d e)
  expr_grows (Number value) d = stays d d refl refl
  expr_grows (Named name at) d = name_grows d name at
  expr_grows (Read element) d = element_grows h a role.Read d element
  expr_grows (Negate' s (more_of-Expr inner end_of-Expr)) d = expr_grows inner d
  expr_grows (Binary' op s (more_of-Expr left end_of-Expr) t (more_of-Expr right end_of-Expr)) d =
      grows_more d (after_expr h a index d left) (after_expr h a index (after_expr h a index d left) right)
      (expr_grows left d) (expr_grows right (after_expr h a index d left))

-- ---- the reference with a number

role_later : (d e : Draft) (role : Role) (n : ℕ) → Grows d e → HasRole d.references role n → HasRole e.references role n
role_later d e role n g has = (
  has.0,
  some_and (slice_get d.references (n - 1)) (slice_get e.references (n - 1))
      (λ (r : Reference). r.role ≡ role) (λ r. g.references (n - 1) r) has.1,
)

expr_later : (d e : Draft) → Grows d e → (x : checked.CheckedExpr) → IsExpr d.references (length d.terms) x
    → IsExpr e.references (length e.terms) x
expr_later d e g (checked.Number value) is = tt
expr_later d e g checked.Index is = tt
expr_later d e g (checked.Term place) is = let n : length d.terms ≤ length e.terms = g.terms in omega arith
expr_later d e g (checked.Read number) is = role_later d e role.Read number g is
expr_later d e g (checked.Negate' s (checked.more_of-CheckedExpr inner checked.end_of-CheckedExpr)) is = expr_later d e g inner is
expr_later d e g (checked.Binary' op s (checked.more_of-CheckedExpr left checked.end_of-CheckedExpr) t
    (checked.more_of-CheckedExpr right checked.end_of-CheckedExpr)) is =
    (expr_later d e g left is.0, expr_later d e g right is.1)

place_behind : (n place : ℕ) → n ≡ suc place → n - 1 ≡ place
place_behind n place e = omega arith

some_number : (n place : ℕ) → n ≡ suc place → 1 ≤ n
some_number n place e = omega arith

role_at : (rs : List Reference) (role : Role) (n place : ℕ) (r : Reference) → n ≡ suc place → slice_get rs place ≡ Some r → r.role ≡ role
    → HasRole rs role n
role_at rs role n place r e there is = (
  some_number n place e,
  some_and-is (slice_get rs (n - 1)) r (λ (x : Reference). x.role ≡ role)
      (ap (slice_get rs) (place_behind n place e) ∙ there) is,
)

module _ (h : Head) (a : Around) where
  pub own_there : (role : Role) (d : Draft) (e : Element) → is_crowded (after_index h a d e.subscript) ≡ false
      → slice_get (after_element h a role d e).references (length (after_index h a d e.subscript).references)
      ≡ Some (own_reference h a (after_index h a d e.subscript) role e)
  own_there role d e room =
      let x = after_index h a d e.subscript in
      subst (λ (l : List Reference). slice_get l (length x.references) ≡ Some (own_reference h a x role e))
      (sym (own_added h a role x e room)) (slice_get-last x.references (own_reference h a x role e))

  own_role : (role : Role) (d : Draft) (e : Element) → is_crowded (after_index h a d e.subscript) ≡ false
      → HasRole (after_element h a role d e).references role (element_number h a d e)
  own_role role d e room =
      role_at (after_element h a role d e).references role (element_number h a d e) (length (after_index h a d e.subscript).references)
      (own_reference h a (after_index h a d e.subscript) role e)
      (number_of_own h a d e room) (own_there role d e room) refl

module _ (h : Head) (a : Around) (index : List ℕ) where
  name_is : (d : Draft) (name : List ℕ) (at : SourcePlace) → IsExpr (after_name h a index d name at).references
      (length (after_name h a index d name at).terms) (name_value index d name)
  name_is d name at = by_test (name_eq name index)
    where
      by_test : (b : Bool) → IsExpr (if b then d else record d { terms = d.terms ++ named h a name at ∷ [] }).references
          (length (if b then d else record d { terms = d.terms ++ named h a name at ∷ [] }).terms)
          (if b then checked.Index else checked.Term (length d.terms))
      by_test true = tt
      by_test false = omega (arith, length-append d.terms (named h a name at ∷ []))

  pub value_is : (e : Expr) (d : Draft) → expr_faults h a index d e ≡ [] → IsExpr (after_expr h a index d e).references
      (length (after_expr h a index d e).terms) (resolved_expr h a index d e)
  value_is (Number value) d none = tt
  value_is (Named name at) d none = name_is d name at
  value_is (Read element) d none = own_role h a role.Read d element (own_room h a d element none)
  value_is (Negate' s (more_of-Expr inner end_of-Expr)) d none = value_is inner d none
  value_is (Binary' op s (more_of-Expr left end_of-Expr) t (more_of-Expr right end_of-Expr)) d none =
      let middle = after_expr h a index d left in (
        expr_later middle (after_expr h a index middle right) (expr_grows h a index right middle) (resolved_expr h a index d left)
            (value_is left d (left_empty (expr_faults h a index d left) (expr_faults h a index middle right) none)),
        value_is right middle (right_empty (expr_faults h a index d left) (expr_faults h a index middle right) none),
      )

-- ---- what a statement becomes

target_is : (operator : Option Combine) (n : ℕ) (v : checked.CheckedExpr) → target_of (checked_body operator n v) ≡ n
target_is None n v = refl
target_is (Some operator) n v = refl

operator_is : (operator : Option Combine) (n : ℕ) (v : checked.CheckedExpr) → operator_of (checked_body operator n v) ≡ operator
operator_is None n v = refl
operator_is (Some operator) n v = refl

expr_is : (operator : Option Combine) (n : ℕ) (v : checked.CheckedExpr) → expr_of (checked_body operator n v) ≡ v
expr_is None n v = refl
expr_is (Some operator) n v = refl

plain_resolved : (h : Head) (a : Around) (s : Subscript) → is_plain s ≡ true → IsPlain (subscript_resolved h a s)
plain_resolved h a (Plain add) e = tt
plain_resolved h a (Through index_array at inner_add add) e = cc
plain_resolved h a (Twice outer at inner inner_at first second add) e = cc
plain_resolved h a (Scalar s) e = cc

plain_known : (operator : Option Combine) (target : Element) → plain_faults operator target ≡ [] → operator ≡ None
    → is_plain target.subscript ≡ true
plain_known None target none e = not_false (is_plain target.subscript) (test_false (not (is_plain target.subscript)) target.at
    cause.AssignThroughIndex none)
plain_known (Some operator) target none e = cc

statement_later : (h : Head) (a : Around) (loop : Loop) (d e : Draft) → Grows d e → (s : CheckedBody) → IsStatement (site_of h a loop d) s
    → IsStatement (site_of h a loop e) s
statement_later h a loop d e g s is = record {
  target = role_later d e role.Target (target_of s) g is.target;
  plain = λ e'. some_and (slice_get d.references (target_of s - 1)) (slice_get e.references (target_of s - 1))
      (λ (r : Reference). IsPlain r.subscript) (λ r. g.references (target_of s - 1) r) (is.plain e');
  value = expr_later d e g (expr_of s) is.value;
}

-- ---- the targets that the draft keeps, and its statements

-- the target's array is that of the statement's reference
pub record IsTarget (h : Head) (a : Around) (references : List Reference) (t : Target) (s : CheckedBody) : Type 0 where
  pub place : ℕ
  pub reference : Reference
  pub number : target_of s ≡ suc place
  pub there : slice_get references place ≡ Some reference
  pub array : array_called h a t.name ≡ Some reference.array
  pub operator : operator_of s ≡ t.operator

target_later : (h : Head) (a : Around) (d e : Draft) → Grows d e → (t : Target) (s : CheckedBody) → IsTarget h a d.references t s
    → IsTarget h a e.references t s
target_later h a d e g t s is = record {
  place = is.place;
  reference = is.reference;
  number = is.number;
  there = g.references is.place is.reference is.there;
  array = is.array;
  operator = is.operator;
}

pub zip_push : {A B : Type 0} (R : A → B → Type 0) (xs : List A) (ys : List B) (x : A) (y : B) → AllZip R xs ys → R x y
    → AllZip R (xs ++ x ∷ []) (ys ++ y ∷ [])
zip_push R [] [] x y z r = (r, tt)
zip_push R [] (w ∷ ws) x y z r = absurd z
zip_push R (v ∷ vs) [] x y z r = absurd z
zip_push R (v ∷ vs) (w ∷ ws) x y z r = (z.0, zip_push R vs ws x y z.1 r)

-- two targets with one name are reduced with one operator
abbrev pub Alike : Target → Target → Type 0
Alike t u = t.name ≡ u.name → IsSome t.operator × (t.operator ≡ u.operator)

any_false : {A : Type 0} (p : A → Bool) (xs : List A) → list_any p xs ≡ false → (k : ℕ) (d : A) → k < length xs → p (get_or xs k d) ≡ false
any_false p [] e k d within = absurd (omega arith)
any_false p (x ∷ xs) e zero d within = first (p x) (list_any p xs) e
  where
    first : (b c : Bool) → (b || c) ≡ false → b ≡ false
    first true c f = cc
    first false c f = refl
any_false p (x ∷ xs) e (suc k) d within = any_false p xs (rest (p x) (list_any p xs) e) k d (omega arith)
  where
    rest : (b c : Bool) → (b || c) ≡ false → c ≡ false
    rest true c f = cc
    rest false c f = f

name_same : (xs ys : List ℕ) → xs ≡ ys → name_eq ys xs ≡ true
name_same xs ys e = by_test (name_eq ys xs) refl
  where
    by_test : (b : Bool) → name_eq ys xs ≡ b → name_eq ys xs ≡ true
    by_test true f = f
    by_test false f = absurd (other_text ys xs (sym f) (sym e))

both_ways : (b c : Bool) → b ≡ true → (b && not c) ≡ false → (b && c) ≡ false → ⊥
both_ways true true e f g = cc
both_ways true false e f g = cc
both_ways false c e f g = cc

second_false : (b c : Bool) → b ≡ true → (b && c) ≡ false → c ≡ false
second_false true c e f = f
second_false false c e f = cc

one_operator : (o p : Combine) → same_operator o p ≡ true → o ≡ p
one_operator Add Add e = refl
one_operator Add Min e = cc
one_operator Add Max e = cc
one_operator Min Add e = cc
one_operator Min Min e = refl
one_operator Min Max e = cc
one_operator Max Add e = cc
one_operator Max Min e = cc
one_operator Max Max e = refl

with_operator : (o : Option Combine) (p : Combine) → is_some o ≡ true → is_other o p ≡ false → o ≡ Some p
with_operator None p e f = cc
with_operator (Some o) p e f = ap Some (one_operator o p (not_false (same_operator o p) f))

alike_new : (targets : List Target) (name : List ℕ) (operator : Option Combine) (at : SourcePlace) → clash_faults targets name operator at
    ≡ []
    → (k : ℕ) (d : Target) → k < length targets → Alike (get_or targets k d) (record { name = name; operator = operator })
alike_new targets name None at none k d within = λ same.
    let t = get_or targets k d in
    absurd (both_ways (name_eq name t.name) (is_some t.operator) (name_same t.name name same)
    (any_false _ targets (test_false (is_assigned targets name) at (cause.TwoAssigns name)
    (left_empty _ (fault_if (is_reduced targets name) at (cause.AssignAndReduce name)) none)) k d within)
    (any_false _ targets (test_false (is_reduced targets name) at (cause.AssignAndReduce name)
    (right_empty (fault_if (is_assigned targets name) at (cause.TwoAssigns name)) _ none)) k d within))
alike_new targets name (Some operator) at none k d within = λ same.
    let t = get_or targets k d in
    let named = name_same t.name name same in
    let some : is_some t.operator ≡ true = not_false (is_some t.operator) (second_false (name_eq name t.name) (not (is_some t.operator))
    named
    (any_false _ targets (test_false (is_assigned targets name) at (cause.AssignAndReduce name)
    (left_empty _ (fault_if (is_reduced_otherwise targets name operator) at (cause.TwoOperators name)) none)) k d within)) in
    let other : is_other t.operator operator ≡ false = second_false (name_eq name t.name) (is_other t.operator operator) named
    (any_false _ targets (test_false (is_reduced_otherwise targets name operator) at (cause.TwoOperators name)
    (right_empty (fault_if (is_assigned targets name) at (cause.AssignAndReduce name)) _ none)) k d within) in
    (some, with_operator t.operator operator some other)

-- ---- which targets have a statement

-- each target is that of a statement
abbrev pub AreTargets : List Reference → List CheckedBody → Type 0
AreTargets rs body = (place : ℕ) (r : Reference) → slice_get rs place ≡ Some r → r.role ≡ role.Target
    → Any (λ s. target_of s ≡ place + 1) body

-- each but the one with this number
abbrev pub Pending : List Reference → List CheckedBody → ℕ → Type 0
Pending rs body n =
    (place : ℕ) (r : Reference) → slice_get rs place ≡ Some r → r.role ≡ role.Target → Any (λ s. target_of s ≡ place + 1) body
    ⊎ (suc place ≡ n)

any_later : {A : Type 0} (P : A → Type 0) (xs ys : List A) → Any P xs → Any P (xs ++ ys)
any_later P xs ys (k, x, within, is, p) = (
  k,
  x,
  omega (arith, length-append xs ys),
  get_or_from_slice_get (xs ++ ys) k (get_or xs k x) x (slice_get-front xs ys k (get_or xs k x) (slice_get-get_or xs k x within)) ∙ is,
  p,
)

pending_other : (rs : List Reference) (body : List CheckedBody) (n : ℕ) (x : Reference) → x.role ≢ role.Target → Pending rs body n
    → Pending (rs ++ x ∷ []) body n
pending_other rs body n x other p =
    slice_get-push (λ (place : ℕ) (r : Reference). r.role ≡ role.Target → Any (λ s. target_of s ≡ place + 1) body ⊎ (suc place ≡ n)) rs x
    p (λ is. absurd (other is))

pending_target : (rs : List Reference) (body : List CheckedBody) (n : ℕ) (x : Reference) → n ≡ suc (length rs) → AreTargets rs body
    → Pending (rs ++ x ∷ []) body n
pending_target rs body n x e p =
    slice_get-push (λ (place : ℕ) (r : Reference). r.role ≡ role.Target → Any (λ s. target_of s ≡ place + 1) body ⊎ (suc place ≡ n)) rs x
    (λ place r there is. inl (p place r there is)) (λ is. inr (sym e))

settled : (rs : List Reference) (body : List CheckedBody) (n : ℕ) (s : CheckedBody) → target_of s ≡ n → Pending rs body n
    → AreTargets rs (body ++ s ∷ [])
settled rs body n s e p = λ place r there is. by_case place (p place r there is)
  where
    by_case : (place : ℕ) → Any (λ t. target_of t ≡ place + 1) body ⊎ (suc place ≡ n) → Any (λ t. target_of t ≡ place + 1) (body ++ s ∷ [])
    by_case place (inl any) = any_later (λ t. target_of t ≡ place + 1) body (s ∷ []) any
    by_case place (inr same) = Any-push (λ t. target_of t ≡ place + 1) body s (e ∙ sym same ∙ sym (add-one place))

with_other : (d : Draft) (r : Reference) → r.role ≡ role.Index → (body : List CheckedBody) (n : ℕ) → Pending d.references body n
    → Pending (with_reference d r).references body n
with_other d r index body n p = by_test (is_crowded d)
  where
    no_index : role.Index ≢ role.Target
    no_index e = cc

    not_target : r.role ≢ role.Target
    not_target e = no_index (sym index ∙ e)

    by_test : (b : Bool) → Pending (if b then d else record d { references = d.references ++ r ∷ [] }).references body n
    by_test true = p
    by_test false = pending_other d.references body n r not_target p

index_other : (h : Head) (a : Around) (d : Draft) (s : Subscript) (body : List CheckedBody) (n : ℕ) → Pending d.references body n
    → Pending (after_index h a d s).references body n
index_other h a d (Plain add) body n p = p
index_other h a d (Scalar s) body n p = p
index_other h a d (Through index_array at inner_add add) body n p =
    with_other d (index_reference h a index_array inner_add) refl body n p
index_other h a d (Twice outer at inner inner_at first second add) body n p =
    with_other (with_reference d (index_reference h a inner first)) (outer_reference h a outer inner inner_at first second) refl body n
    (with_other d (index_reference h a inner first) refl body n p)

read_other : (h : Head) (a : Around) (d : Draft) (e : Element) (body : List CheckedBody) (n : ℕ) → element_faults h a d e ≡ []
    → Pending d.references body n → Pending (after_element h a role.Read d e).references body n
read_other h a d e body n none p =
    let x = after_index h a d e.subscript in
    subst (λ (l : List Reference). Pending l body n) (sym (own_added h a role.Read x e (own_room h a d e none)))
    (pending_other x.references body n (own_reference h a x role.Read e) not_target (index_other h a d e.subscript body n p))
  where
    not_target : role.Read ≢ role.Target
    not_target e' = cc

module _ (h : Head) (a : Around) (index : List ℕ) (body : List CheckedBody) (n : ℕ) where
  expr_other : (e : Expr) (d : Draft) → expr_faults h a index d e ≡ [] → Pending d.references body n
      → Pending (after_expr h a index d e).references body n
  expr_other (Number value) d none p = p
  expr_other (Named name at) d none p = by_test (name_eq name index)
    where
      by_test : (b : Bool) → Pending (if b then d else record d { terms = d.terms ++ named h a name at ∷ [] }).references body n
      by_test true = p
      by_test false = p
  expr_other (Read element) d none p = read_other h a d element body n none p
  expr_other (Negate' s (more_of-Expr inner end_of-Expr)) d none p = expr_other inner d none p
  expr_other (Binary' op s (more_of-Expr left end_of-Expr) t (more_of-Expr right end_of-Expr)) d none p =
      let middle = after_expr h a index d left in
      expr_other right middle (right_empty (expr_faults h a index d left) (expr_faults h a index middle right) none)
      (expr_other left d (left_empty (expr_faults h a index d left) (expr_faults h a index middle right) none) p)

-- ---- what an element and an expression leave alone

module _ {X : Type 0} (f : Draft → X) (references : (d : Draft) (rs : List Reference) → f (record d { references = rs }) ≡ f d)
    (terms : (d : Draft) (ts : List CheckedScalar) → f (record d { terms = ts }) ≡ f d)
    (stamps : (d : Draft) (ss : List Stamped) (us : List ℕ) → f (record d { stamped = ss; used = us }) ≡ f d) where
  one_same : (b : Bool) (d x y : Draft) → f x ≡ f d → f y ≡ f d → f (if b then x else y) ≡ f d
  one_same true d x y p q = p
  one_same false d x y p q = q

  with_same : (d : Draft) (r : Reference) → f (with_reference d r) ≡ f d
  with_same d r = one_same (is_crowded d) d d _ refl (references d (d.references ++ r ∷ []))

  module _ (h : Head) (a : Around) where
    index_same : (d : Draft) (s : Subscript) → f (after_index h a d s) ≡ f d
    index_same d (Plain add) = refl
    index_same d (Through index_array at inner_add add) = with_same d (index_reference h a index_array inner_add)
    index_same d (Twice outer at inner inner_at first second add) =
        let x = with_reference d (index_reference h a inner first) in
        with_same x (outer_reference h a outer inner inner_at first second) ∙ with_same d (index_reference h a inner first)
    index_same d (Scalar s) = refl

    stamp_same : (d : Draft) (s : Subscript) (o : Option ℕ) → f (after_own_stamp h a d s o) ≡ f d
    stamp_same d s None = refl
    stamp_same d s (Some array) =
        let facts = array_at h.tables.arrays array in
        let marks = subscript_marks h a s in
        one_same (is_some (stamp_in d.stamped facts.decomposition facts.offset marks)) d d
        (with_stamp d facts.decomposition facts.offset marks) refl
        (one_same (is_worn d.used facts.decomposition) d d _ refl (stamps d _ _))

    own_same : (role : Role) (d : Draft) (e : Element) → f (after_own h a role d e) ≡ f d
    own_same role d e =
        let x = after_own_stamp h a d e.subscript (array_called h a e.name) in
        one_same (is_crowded d) d d (with_reference x (own_reference h a d role e)) refl (with_same x (own_reference h a d role e)
        ∙ stamp_same d e.subscript (array_called h a e.name))

    element_same : (role : Role) (d : Draft) (e : Element) → f (after_element h a role d e) ≡ f d
    element_same role d e = own_same role (after_index h a d e.subscript) e ∙ index_same d e.subscript

    expr_same : (index : List ℕ) (e : Expr) (d : Draft) → f (after_expr h a index d e) ≡ f d
    expr_same index (Number value) d = refl
    expr_same index (Named name at) d = one_same (name_eq name index) d d _ refl (terms d _)
    expr_same index (Read element) d = element_same role.Read d element
    expr_same index (Negate' s (more_of-Expr inner end_of-Expr)) d = expr_same index inner d
    expr_same index (Binary' op s (more_of-Expr left end_of-Expr) t (more_of-Expr right end_of-Expr)) d =
        expr_same index right (after_expr h a index d left) ∙ expr_same index left d

pub expr_body : (h : Head) (a : Around) (index : List ℕ) (e : Expr) (d : Draft) → (after_expr h a index d e).body ≡ d.body
expr_body h a index e d = expr_same (λ (x : Draft). x.body) (λ d rs. refl) (λ d ts. refl) (λ d ss us. refl) h a index e d

pub element_body : (h : Head) (a : Around) (role : Role) (d : Draft) (e : Element) → (after_element h a role d e).body ≡ d.body
element_body h a role d e = element_same (λ (x : Draft). x.body) (λ d rs. refl) (λ d ts. refl) (λ d ss us. refl) h a role d e

expr_targets : (h : Head) (a : Around) (index : List ℕ) (e : Expr) (d : Draft) → (after_expr h a index d e).targets ≡ d.targets
expr_targets h a index e d = expr_same (λ (x : Draft). x.targets) (λ d rs. refl) (λ d ts. refl) (λ d ss us. refl) h a index e d

element_targets : (h : Head) (a : Around) (role : Role) (d : Draft) (e : Element) → (after_element h a role d e).targets ≡ d.targets
element_targets h a role d e = element_same (λ (x : Draft). x.targets) (λ d rs. refl) (λ d ts. refl) (λ d ss us. refl) h a role d e

-- ---- a loop's body

pub record IsSound (h : Head) (a : Around) (loop : Loop) (start : List ℕ) (d : Draft) : Type 0 where
  pub referred : AreReferred h.tables.arrays start d
  pub body : All (IsStatement (site_of h a loop d)) d.body
  pub targets : AllZip (IsTarget h a d.references) d.targets d.body
  pub alike : AllPairs Alike d.targets
  pub written : AreTargets d.references d.body

module _ (h : Head) (a : Around) (loop : Loop) (start : List ℕ) (known : (name : List ℕ) (k : ℕ) → array_called h a name ≡ Some k
    → k < length h.tables.arrays)
    (placed : (k : ℕ) → k < length h.tables.arrays → decomposition_of h.tables.arrays k < length start) where
  expr_referred : (e : Expr) (d : Draft) → expr_faults h a loop.index d e ≡ [] → AreReferred h.tables.arrays start d
      → AreReferred h.tables.arrays start (after_expr h a loop.index d e)
  expr_referred (Number value) d none g = g
  expr_referred (Named name at) d none g = by_test (name_eq name loop.index)
    where
      by_test : (b : Bool) → AreReferred h.tables.arrays start (if b then d else record d { terms = d.terms ++ named h a name at ∷ [] })
      by_test true = g
      by_test false = record { used = g.used; more = g.more; stamped = g.stamped; references = g.references }
  expr_referred (Read element) d none g = element_referred h a start known placed role.Read not_index d element none g
    where
      not_index : role.Read ≢ role.Index
      not_index e = cc
  expr_referred (Negate' s (more_of-Expr inner end_of-Expr)) d none g = expr_referred inner d none g
  expr_referred (Binary' op s (more_of-Expr left end_of-Expr) t (more_of-Expr right end_of-Expr)) d none g =
      let middle = after_expr h a loop.index d left in
      expr_referred right middle (right_empty (expr_faults h a loop.index d left) (expr_faults h a loop.index middle right) none)
      (expr_referred left d (left_empty (expr_faults h a loop.index d left) (expr_faults h a loop.index middle right) none) g)

  -- the draft with one more target, and the statement behind it
  module _ (operator : Option Combine) (target : Element) (value : Expr) (d : Draft)
      (none : written_faults h a loop.index operator target value d ≡ []) (g : IsSound h a loop start d) where
    abbrev one : Target
    one = record { name = target.name; operator = operator }

    abbrev aimed : Draft
    aimed = after_target d target.name operator

    abbrev behind : Draft
    behind = behind_target h a operator d target

    abbrev valued : Draft
    valued = after_expr h a loop.index behind value

    abbrev number : ℕ
    number = element_number h a aimed target

    abbrev made : CheckedBody
    made = checked_body operator number (resolved_expr h a loop.index behind value)

    no_clash : clash_faults d.targets target.name operator target.at ≡ []
    no_clash = left_empty (clash_faults d.targets target.name operator target.at) _ (right_empty (plain_faults operator target) _ none)

    no_element : element_faults h a aimed target ≡ []
    no_element =
        left_empty (element_faults h a aimed target) (expr_faults h a loop.index behind value)
        (right_empty (clash_faults d.targets target.name operator target.at) _ (right_empty (plain_faults operator target) _ none))

    no_value : expr_faults h a loop.index behind value ≡ []
    no_value =
        right_empty (element_faults h a aimed target) (expr_faults h a loop.index behind value)
        (right_empty (clash_faults d.targets target.name operator target.at) _ (right_empty (plain_faults operator target) _ none))

    room : is_crowded (after_index h a aimed target.subscript) ≡ false
    room = own_room h a aimed target no_element

    -- there is room before the target too
    room_before : is_crowded d ≡ false
    room_before = by_test (is_crowded d) refl
      where
        full : is_crowded d ≡ true → is_crowded (after_index h a aimed target.subscript) ≡ true
        full e = stays_full aimed target.subscript (ap (λ (rs : List Reference). nat_le 64 (length rs))
            (after_target-references d target.name operator) ∙ e)
          where
            with_full : (x : Draft) (r : Reference) → is_crowded x ≡ true → is_crowded (with_reference x r) ≡ true
            with_full x r f = ap (λ b. is_crowded (if b then x else record x { references = x.references ++ r ∷ [] })) f ∙ f

            stays_full : (x : Draft) (s : Subscript) → is_crowded x ≡ true → is_crowded (after_index h a x s) ≡ true
            stays_full x (Plain add) f = f
            stays_full x (Scalar s) f = f
            stays_full x (Through index_array at inner_add add) f = with_full x (index_reference h a index_array inner_add) f
            stays_full x (Twice outer at inner inner_at first second add) f =
                let y = with_reference x (index_reference h a inner first) in
                with_full y (outer_reference h a outer inner inner_at first second) (with_full x (index_reference h a inner first) f)

        by_test : (b : Bool) → is_crowded d ≡ b → is_crowded d ≡ false
        by_test true e = absurd (true_not_false (is_crowded (after_index h a aimed target.subscript)) (full e) room)
        by_test false e = e

    aimed_is : aimed ≡ record d { targets = d.targets ++ one ∷ [] }
    aimed_is = ap (λ b. if b then d else record d { targets = d.targets ++ one ∷ [] }) room_before

    aimed_referred : AreReferred h.tables.arrays start aimed
    aimed_referred = subst (AreReferred h.tables.arrays start) (sym aimed_is)
        (record { used = g.referred.used; more = g.referred.more; stamped = g.referred.stamped; references = g.referred.references })

    aimed_grows : Grows d aimed
    aimed_grows = stays d aimed (after_target-references d target.name operator) (after_target-terms d target.name operator)

    behind_grows : Grows aimed behind
    behind_grows = element_grows h a role.Target aimed target

    valued_grows : Grows behind valued
    valued_grows = expr_grows h a loop.index value behind

    all_grows : Grows d valued
    all_grows = grows_more d aimed valued aimed_grows (grows_more aimed behind valued behind_grows valued_grows)

    body_is : valued.body ≡ d.body
    body_is = expr_body h a loop.index value behind ∙ element_body h a role.Target aimed target ∙ ap (λ (x : Draft). x.body) aimed_is

    targets_is : valued.targets ≡ d.targets ++ one ∷ []
    targets_is = expr_targets h a loop.index value behind ∙ element_targets h a role.Target aimed target
        ∙ ap (λ (x : Draft). x.targets) aimed_is

    abbrev place : ℕ
    place = length (after_index h a aimed target.subscript).references

    abbrev own : Reference
    own = own_reference h a (after_index h a aimed target.subscript) role.Target target

    number_is : number ≡ suc place
    number_is = number_of_own h a aimed target room

    own_stays : slice_get valued.references place ≡ Some own
    own_stays = valued_grows.references place own (own_there h a role.Target aimed target room)

    made_is : IsStatement (site_of h a loop valued) made
    made_is = record {
      target = subst (HasRole valued.references role.Target) (sym (target_is operator number (resolved_expr h a loop.index behind value)))
          (role_at valued.references role.Target number place own number_is own_stays refl);
      plain = λ is.
          some_and-is (slice_get valued.references (target_of made - 1)) own (λ (r : Reference). IsPlain r.subscript)
          (ap (slice_get valued.references)
          (place_behind (target_of made) place (target_is operator number (resolved_expr h a loop.index behind value) ∙ number_is))
          ∙ own_stays)
          (plain_resolved h a target.subscript (plain_known operator target (left_empty (plain_faults operator target) _ none)
          (sym (operator_is operator number (resolved_expr h a loop.index behind value)) ∙ is)));
      value = subst (IsExpr valued.references (length valued.terms))
          (sym (expr_is operator number (resolved_expr h a loop.index behind value))) (value_is h a loop.index value behind no_value);
    }

    target_made : IsTarget h a valued.references one made
    target_made = from (is_some-some (array_called h a target.name) (own_known h a aimed target no_element))
      where
        from : (k : ℕ) × (array_called h a target.name ≡ Some k) → IsTarget h a valued.references one made
        from (k, is) = record {
          place = place;
          reference = own;
          number = target_is operator number (resolved_expr h a loop.index behind value) ∙ number_is;
          there = own_stays;
          array = is ∙ ap Some (sym (ap (λ (o : Option ℕ). unwrap_or o 0) is));
          operator = operator_is operator number (resolved_expr h a loop.index behind value);
        }

    not_index : role.Target ≢ role.Index
    not_index e = cc

    target_pending : Pending behind.references d.body number
    target_pending =
        let x = after_index h a aimed target.subscript in
        subst (λ (l : List Reference). Pending l d.body number) (sym (own_added h a role.Target x target room))
        (pending_target x.references d.body number own number_is
        (settled_index aimed target.subscript (subst (λ (l : List Reference). AreTargets l d.body)
        (sym (after_target-references d target.name operator)) g.written)))
      where
        settled_with : (x : Draft) (r : Reference) → r.role ≡ role.Index → AreTargets x.references d.body
            → AreTargets (with_reference x r).references d.body
        settled_with x r index p = by_test (is_crowded x)
          where
            other : role.Index ≢ role.Target
            other e = cc

            by_test : (b : Bool) → AreTargets (if b then x else record x { references = x.references ++ r ∷ [] }).references d.body
            by_test true = p
            by_test false = slice_get-push (λ (k : ℕ) (r : Reference). r.role ≡ role.Target → Any (λ s. target_of s ≡ k + 1) d.body)
                x.references r p (λ is. absurd (other (sym index ∙ is)))

        settled_index : (x : Draft) (s : Subscript) → AreTargets x.references d.body → AreTargets (after_index h a x s).references d.body
        settled_index x (Plain add) p = p
        settled_index x (Scalar s) p = p
        settled_index x (Through index_array at inner_add add) p = settled_with x (index_reference h a index_array inner_add) refl p
        settled_index x (Twice outer at inner inner_at first second add) p =
            let y = with_reference x (index_reference h a inner first) in
            settled_with y (outer_reference h a outer inner inner_at first second) refl
            (settled_with x (index_reference h a inner first) refl p)

    written_sound : IsSound h a loop start (after_written h a loop.index operator target value d)
    written_sound =
        let referred = expr_referred value behind no_value (element_referred h a start known placed role.Target not_index aimed target
        no_element aimed_referred) in
        record {
          referred = record { used = referred.used; more = referred.more; stamped = referred.stamped; references = referred.references };
          body = subst (λ (l : List CheckedBody). All (IsStatement (site_of h a loop (with_body valued made))) (l ++ made ∷ []))
              (sym body_is)
              (All-push (IsStatement (site_of h a loop (with_body valued made))) d.body made
              (All-weaker (IsStatement (site_of h a loop d)) (IsStatement (site_of h a loop (with_body valued made)))
              (λ s is. let l = statement_later h a loop d valued all_grows s is in record {
                target = l.target;
                plain = l.plain;
                value = l.value;
              }) d.body g.body)
              (record { target = made_is.target; plain = made_is.plain; value = made_is.value }));
          targets = subst (λ (l : List Target). AllZip (IsTarget h a valued.references) l (valued.body ++ made ∷ [])) (sym targets_is)
              (subst (λ (l : List CheckedBody). AllZip (IsTarget h a valued.references) (d.targets ++ one ∷ []) (l ++ made ∷ []))
              (sym body_is)
              (zip_push (IsTarget h a valued.references) d.targets d.body one made
              (zip_weaker (IsTarget h a d.references) (IsTarget h a valued.references) (target_later h a d valued all_grows) d.targets
              d.body g.targets) target_made));
          alike = subst (λ (l : List Target). AllPairs Alike l) (sym targets_is)
              (all_pairs_push Alike d.targets one g.alike (alike_new d.targets target.name operator target.at no_clash));
          written = subst (λ (l : List CheckedBody). AreTargets valued.references (l ++ made ∷ [])) (sym body_is)
              (settled valued.references d.body number made (target_is operator number (resolved_expr h a loop.index behind value))
              (expr_other h a loop.index d.body number value behind no_value target_pending));
        }

  pub body_sound : (d : Draft) (s : BodyStatement) → IsSound h a loop start d → body_faults h a loop.index d s ≡ []
      → IsSound h a loop start (after_body h a loop.index d s)
  body_sound d (statement.Assign target value) g none = written_sound None target value d none g
  body_sound d (statement.Reduce operator target value) g none = written_sound (Some operator) target value d none g
