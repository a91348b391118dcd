-- The references of a loop and their stamps, where nothing in the loop is at fault.
use Rattle.std.proofs.Common.{◌≡◌, ◌≢◌, refl, ℕ, zero, suc, ◌≤◌, ◌<◌, ◌+◌, ◌-◌, ℤ, Bool, true, false, if◌then◌else◌, arith, List, [], ◌∷◌}
use Rattle.std.proofs.Common.{◌++◌, length, Option, Some, None, ap, sym, ◌∙◌, subst, add-one}
use Rattle.std.specs.Prelude.{All, not, ◌&&◌, ◌==◌, is_some, nat_le, find, slice_set, unwrap_or}
use Rattle.std.specs.Option.{option_map}
use Rattle.std.proofs.lemmas.Bool.Decides.{nat_tests}
use Rattle.std.proofs.lemmas.List.Elements.{All-push, All-weaker, All-head, All-tail}
use Rattle.fd_words.specs.declared.place.Role.{Role}
use Rattle.fd_words.specs.declared.place.Role.TheVariants.{Index}
use Rattle.fd_words.specs.declared.source.SourceFault.{SourceFault}
use Rattle.fd_words.specs.declared.source.SourcePlace.{SourcePlace}
use Rattle.fd_words.specs.declared.source.SourceCause.TheVariants as cause
use Rattle.fd_syntax.specs.declared.expr.Element.{Element}
use Rattle.fd_syntax.specs.declared.expr.Subscript.{Subscript}
use Rattle.fd_syntax.specs.declared.expr.Subscript.TheVariants.{Plain, Through, Twice, Scalar}
use Rattle.fd_program.specs.Checks.{IsIndexing, IsReference}
use Rattle.fd_program.specs.Places.{decomposition_of}
use Rattle.fd_program.specs.Stores.{array_at}
use Rattle.fd_program.specs.declared.array.ArrayFacts.{ArrayFacts}
use Rattle.fd_program.specs.declared.reference.Reference.{Reference}
use Rattle.fd_scope.specs.declared.head.Head.{Head}
use Rattle.fd_scope.specs.Faults.{fault_if}
use Rattle.fd_loops.specs.declared.draft.Draft.{Draft}
use Rattle.fd_loops.specs.declared.draft.Stamped.{Stamped}
use Rattle.fd_resolve.specs.declared.marks.Mark.{Mark}
use Rattle.fd_resolve.specs.declared.around.Around.{Around}
use Rattle.fd_loops.specs.Drafts.{is_crowded, is_nearly_crowded, with_reference, is_stamped, stamp_in, used_at, is_worn, stamp_or_next}
use Rattle.fd_loops.specs.Drafts.{stamp_for, with_stamp}
use Rattle.fd_loops.specs.Drafts.{after_stamp, stamp_faults, crowd_faults}
use Rattle.fd_loops.specs.Elements.{index_reference, outer_reference, after_index, index_faults, is_index_crowded, after_own_stamp}
use Rattle.fd_loops.specs.Elements.{own_stamp}
use Rattle.fd_loops.specs.Elements.{own_stamp_faults, own_reference, after_own, own_faults, after_element, element_number, element_faults}
use Rattle.fd_resolve.specs.Resolve.{array_called, array_or_first, array_unknown, subscript_unknowns, subscript_marks}
use Rattle.fd_checks.proofs.Accepted.{left_empty, right_empty, test_false, not_false, is_some-some}
use Rattle.fd_checks.proofs.Shapes.{after_own_stamp-references}

-- ---- room for a reference

and_true : (a : Bool) → (a && true) ≡ false → a ≡ false
and_true true e = cc
and_true false e = refl

and_not : (a n : Bool) → (a && not n) ≡ false → n ≡ false → a ≡ false
and_not true true e f = cc
and_not true false e f = cc
and_not false n e f = refl

index_room : (d : Draft) (s : Subscript) → index_faults d s ≡ [] → is_index_crowded d s ≡ false
index_room d (Plain add) e = refl
index_room d (Through index_array at inner_add add) e = test_false (is_crowded d) at _ e
index_room d (Twice outer at inner inner_at first second add) e =
    and_not (is_nearly_crowded d) (is_crowded d)
    (test_false (is_nearly_crowded d && not (is_crowded d)) at _ (right_empty (crowd_faults d inner_at) _ e))
    (test_false (is_crowded d) inner_at _ (left_empty (crowd_faults d inner_at) _ e))
index_room d (Scalar s) e = refl

module _ (h : Head) (a : Around) (d : Draft) (e : Element) where
  own_rest : element_faults h a d e ≡ [] → own_faults h a (is_index_crowded d e.subscript) (after_index h a d e.subscript) e ≡ []
  own_rest none =
      right_empty (index_faults d e.subscript) _
      (right_empty (subscript_unknowns h a e.subscript) _ (right_empty (array_unknown h a e.name e.at) _ none))

  pub own_room : element_faults h a d e ≡ [] → is_crowded (after_index h a d e.subscript) ≡ false
  own_room none =
      and_not (is_crowded (after_index h a d e.subscript)) (is_index_crowded d e.subscript)
      (test_false (is_crowded (after_index h a d e.subscript) && not (is_index_crowded d e.subscript)) e.at _
      (left_empty _ (own_stamp_faults h a (after_index h a d e.subscript) e (array_called h a e.name)) (own_rest none)))
      (index_room d e.subscript
      (left_empty (index_faults d e.subscript) _
      (right_empty (subscript_unknowns h a e.subscript) _ (right_empty (array_unknown h a e.name e.at) _ none))))

  pub own_known : element_faults h a d e ≡ [] → is_some (array_called h a e.name) ≡ true
  own_known none = not_false _ (test_false
      (not (is_some (array_called h a e.name))) e.at _ (left_empty (array_unknown h a e.name e.at) _ none))

  pub names_known : element_faults h a d e ≡ [] → subscript_unknowns h a e.subscript ≡ []
  names_known none = left_empty (subscript_unknowns h a e.subscript) _ (right_empty (array_unknown h a e.name e.at) _ none)

  pub stamp_known : element_faults h a d e ≡ [] → own_stamp_faults h a (after_index h a d e.subscript) e (array_called h a e.name) ≡ []
  stamp_known none = right_empty (fault_if (is_crowded (after_index h a d e.subscript) && not (is_index_crowded d e.subscript)) e.at
      cause.TooManyReferences) _ (own_rest none)

-- ---- what a full draft takes

pub reference_added : (d : Draft) (r : Reference) → is_crowded d ≡ false → (with_reference d r).references ≡ d.references ++ r ∷ []
reference_added d r room = by_test (is_crowded d) room
  where
    by_test : (b : Bool) → b ≡ false → (if b then d else record d { references = d.references ++ r ∷ [] }).references ≡ d.references ++ r
        ∷ []
    by_test true e = cc
    by_test false e = refl

module _ (h : Head) (a : Around) where
  pub own_added : (role : Role) (d : Draft) (e : Element) → is_crowded d ≡ false → (after_own h a role d e).references ≡ d.references
      ++ own_reference h a d role e ∷ []
  own_added role d e room = by_test (is_crowded d) room
    where
      by_test : (b : Bool) → b ≡ false → (if b then d else with_reference (after_own_stamp h a d e.subscript (array_called h a e.name))
          (own_reference h a d role e)).references ≡ d.references ++ own_reference h a d role e ∷ []
      by_test true f = cc
      by_test false f =
          let same = after_own_stamp-references h a d e.subscript (array_called h a e.name) in
          reference_added (after_own_stamp h a d e.subscript (array_called h a e.name)) (own_reference h a d role e)
          (ap (λ (rs : List Reference). nat_le 64 (length rs)) same ∙ room)
          ∙ ap (λ (rs : List Reference). rs ++ own_reference h a d role e ∷ []) same

  pub number_of_own : (d : Draft) (e : Element) → is_crowded (after_index h a d e.subscript) ≡ false
      → element_number h a d e ≡ suc (length (after_index h a d e.subscript).references)
  number_of_own d e room = ap (λ b. if b then 0 else length (after_index h a d e.subscript).references + 1) room
      ∙ add-one (length (after_index h a d e.subscript).references)

-- ---- how many stamps of a decomposition are used

pub grown : (used : List ℕ) (i k : ℕ) → used_at used k ≤ used_at (slice_set used i (used_at used i + 1)) k
grown [] i k = omega arith
grown (x ∷ xs) zero zero = omega arith
grown (x ∷ xs) zero (suc k) = omega arith
grown (x ∷ xs) (suc i) zero = omega arith
grown (x ∷ xs) (suc i) (suc k) = grown xs i k

grown_there : (used : List ℕ) (i v : ℕ) → i < length used → used_at (slice_set used i v) i ≡ v
grown_there [] i v h = absurd (omega arith)
grown_there (x ∷ xs) zero v h = refl
grown_there (x ∷ xs) (suc i) v h = grown_there xs i v (omega arith)

set_length : (used : List ℕ) (i v : ℕ) → length (slice_set used i v) ≡ length used
set_length [] i v = refl
set_length (x ∷ xs) zero v = refl
set_length (x ∷ xs) (suc i) v = ap suc (set_length xs i v)

-- a stamp of this loop: it is new in it, and used behind it
pub record IsNew (start used : List ℕ) (decomposition stamp : ℕ) : Type 0 where
  pub low : used_at start decomposition ≤ stamp
  pub high : stamp < used_at used decomposition

new_later : (start used more : List ℕ) (decomposition stamp : ℕ) → ((k : ℕ) → used_at used k ≤ used_at more k)
    → IsNew start used decomposition stamp → IsNew start more decomposition stamp
new_later start used more decomposition stamp grows n = record {
  low = n.low;
  high = let g : used_at used decomposition
      ≤ used_at more decomposition = grows decomposition in let m : stamp < used_at used decomposition = n.high in omega arith;
}

pub record IsStampOf (start used : List ℕ) (s : Stamped) : Type 0 where
  pub most : s.stamp < 128
  pub new : IsNew start used s.decomposition s.stamp

pub record IsReferred (arrays : List ArrayFacts) (start used : List ℕ) (r : Reference) : Type 0 where
  pub reference : IsReference arrays r
  pub new : r.role ≢ Index → IsNew start used (decomposition_of arrays r.array) r.stamp

pub record AreReferred (arrays : List ArrayFacts) (start : List ℕ) (d : Draft) : Type 0 where
  pub used : length d.used ≡ length start
  pub more : (k : ℕ) → used_at start k ≤ used_at d.used k
  pub stamped : All (IsStampOf start d.used) d.stamped
  pub references : All (IsReferred arrays start d.used) d.references

-- ---- the stamp that a reference gets

found_in : (P : Stamped → Type 0) (test : Stamped → Bool) (xs : List Stamped) (x : Stamped) → All P xs → find test xs ≡ Some x → P x
    × (test x ≡ true)
found_in P test [] x p e = cc
found_in P test (y ∷ ys) x p e = by_test (λ f. found_in P test ys x (All-tail P y ys p) f) (test y) refl e
  where
    by_test : (find test ys ≡ Some x → P x × (test x ≡ true)) → (b : Bool) → test y ≡ b → (if b then Some y else find test ys) ≡ Some x
        → P x × (test x ≡ true)
    by_test rest true t f = let g : y ≡ x = cc in (subst P g (All-head P y ys p), ap test (sym g) ∙ t)
    by_test rest false t f = rest f

same_first : (a b : ℕ) (p q : Bool) → ((a == b) && p && q) ≡ true → a ≡ b
same_first a b p q e = grind (arith, nat_tests)

below_worn : (n : ℕ) → nat_le 128 n ≡ false → n < 128
below_worn n e = grind (arith, nat_tests)

-- a new stamp
abbrev with_next : Draft → ℕ → ℤ → List Mark → Draft
with_next d decomposition offset marks = record d {
  stamped = d.stamped ++ record {
    decomposition = decomposition;
    offset = offset;
    marks = marks;
    stamp = used_at d.used decomposition;
  } ∷ [];
  used = slice_set d.used decomposition (used_at d.used decomposition + 1);
}

pub record HasStamp (start : List ℕ) (d e : Draft) (decomposition stamp : ℕ) : Type 0 where
  pub most : stamp < 128
  pub new : IsNew start e.used decomposition stamp
  pub used : length e.used ≡ length start
  pub more : (k : ℕ) → used_at d.used k ≤ used_at e.used k
  pub stamped : All (IsStampOf start e.used) e.stamped
  pub references : e.references ≡ d.references

stamp_again : (start : List ℕ) (d : Draft) (decomposition : ℕ) (offset : ℤ) (marks : List Mark) (x : Stamped) → length d.used ≡ length start
    → All (IsStampOf start d.used) d.stamped → find (is_stamped decomposition offset marks) d.stamped ≡ Some x
    → HasStamp start d d decomposition x.stamp
stamp_again start d decomposition offset marks x used all e =
    let f = found_in (IsStampOf start d.used) (is_stamped decomposition offset marks) d.stamped x all e in
    let same : x.decomposition ≡ decomposition = same_first x.decomposition decomposition _ _ f.1 in
    record {
      most = f.0.most;
      new = subst (λ n. IsNew start d.used n x.stamp) same f.0.new;
      used = used;
      more = λ k. omega arith;
      stamped = all;
      references = refl;
    }

stamp_new : (start : List ℕ) (d : Draft) (decomposition : ℕ) (offset : ℤ) (marks : List Mark) → length d.used ≡ length start
    → ((k : ℕ) → used_at start k ≤ used_at d.used k)
    → decomposition < length start → All (IsStampOf start d.used) d.stamped → is_worn d.used decomposition ≡ false
    → HasStamp start d (with_next d decomposition offset marks) decomposition (used_at d.used decomposition)
stamp_new start d decomposition offset marks used more within all worn =
    let next = slice_set d.used decomposition (used_at d.used decomposition + 1) in
    let there : used_at next decomposition ≡ used_at d.used decomposition + 1 = grown_there d.used decomposition
    (used_at d.used decomposition + 1) (subst (λ n. decomposition < n) (sym used) within) in
    let least : used_at start decomposition ≤ used_at d.used decomposition = more decomposition in
    let most : used_at d.used decomposition < 128 = below_worn (used_at d.used decomposition) worn in
    let new : IsNew start next decomposition (used_at d.used decomposition) = record { low = least; high = omega arith } in
    record {
      most = most;
      new = new;
      used = set_length d.used decomposition (used_at d.used decomposition + 1) ∙ used;
      more = grown d.used decomposition;
      stamped =
          All-push (IsStampOf start next) d.stamped _
          (All-weaker (IsStampOf start d.used) (IsStampOf start next)
          (λ s o. record {
            most = o.most;
            new = new_later start d.used next s.decomposition s.stamp (grown d.used decomposition)
                o.new;
          }) d.stamped all)
          (record { most = most; new = new });
      references = refl;
    }

after_stamp-has : (start : List ℕ) (d : Draft) (decomposition : ℕ) (offset : ℤ) (marks : List Mark) (at : SourcePlace)
    → length d.used ≡ length start
    → ((k : ℕ) → used_at start k ≤ used_at d.used k) → decomposition < length start → All (IsStampOf start d.used) d.stamped
    → stamp_faults d decomposition offset marks at ≡ []
    → HasStamp start d (after_stamp d decomposition offset marks) decomposition (stamp_for d decomposition offset marks)
after_stamp-has start d decomposition offset marks at used more within all none =
    by_found (find (is_stamped decomposition offset marks) d.stamped) refl
    (test_false (not (is_some (stamp_in d.stamped decomposition offset marks)) && is_worn d.used decomposition) at cause.TooManyStamps none)
  where
    by_worn : (b : Bool) → is_worn d.used decomposition ≡ b → b ≡ false
        → HasStamp start d (if b then d else with_next d decomposition offset marks) decomposition
        (if b then 0 else used_at d.used decomposition)
    by_worn true e f = cc
    by_worn false e f = stamp_new start d decomposition offset marks used more within all e

    by_found : (o : Option Stamped) → find (is_stamped decomposition offset marks) d.stamped ≡ o
        → (not (is_some (option_map (λ (s : Stamped). s.stamp) o)) && is_worn d.used decomposition) ≡ false
        → HasStamp start d (if is_some (option_map (λ (s : Stamped). s.stamp) o) then d else with_stamp d decomposition offset marks)
        decomposition
        (stamp_or_next (option_map (λ (s : Stamped). s.stamp) o) d.used decomposition)
    by_found (Some x) e f = stamp_again start d decomposition offset marks x used all e
    by_found None e f = by_worn (is_worn d.used decomposition) refl f

-- ---- an element

module _ (h : Head) (a : Around) (start : List ℕ) (known : (name : List ℕ) (k : ℕ) → array_called h a name ≡ Some k
    → k < length h.tables.arrays)
    (placed : (k : ℕ) → k < length h.tables.arrays → decomposition_of h.tables.arrays k < length start) where
  first_known : (name : List ℕ) → is_some (array_called h a name) ≡ true → array_or_first h a name < length h.tables.arrays
  first_known name e = from (is_some-some (array_called h a name) e)
    where
      from : (k : ℕ) × (array_called h a name ≡ Some k) → array_or_first h a name < length h.tables.arrays
      from (k, is) = subst (λ (o : Option ℕ). unwrap_or o 0 < length h.tables.arrays) (sym is) (known name k is)

  index_is : (d : Draft) (r : Reference) → r.role ≡ Index → r.stamp ≡ 0 → IsIndexing r.subscript → r.array < length h.tables.arrays
      → IsReferred h.tables.arrays start d.used r
  index_is d r index unstamped form array = record {
    reference = record { array = array; stamp = omega (arith, unstamped); index = λ is. form };
    new = λ other. absurd (other index);
  }

  with_referred : (d : Draft) (r : Reference) → r.role ≡ Index → r.stamp ≡ 0 → IsIndexing r.subscript → r.array < length h.tables.arrays
      → AreReferred h.tables.arrays start d → AreReferred h.tables.arrays start (with_reference d r)
  with_referred d r index unstamped form array g = by_test (is_crowded d)
    where
      by_test : (b : Bool) → AreReferred h.tables.arrays start (if b then d else record d { references = d.references ++ r ∷ [] })
      by_test true = g
      by_test false = record {
        used = g.used;
        more = g.more;
        stamped = g.stamped;
        references = All-push (IsReferred h.tables.arrays start d.used) d.references r g.references
            (index_is d r index unstamped form array);
      }

  array_there : (name : List ℕ) (at : SourcePlace) (rest : List SourceFault) → array_unknown h a name at ++ rest ≡ []
      → array_or_first h a name < length h.tables.arrays
  array_there name at rest none =
      first_known name (not_false _ (test_false (not (is_some (array_called h a name))) at (cause.Unknown name)
      (left_empty (array_unknown h a name at) rest none)))

  index_referred : (d : Draft) (s : Subscript) → subscript_unknowns h a s ≡ [] → AreReferred h.tables.arrays start d
      → AreReferred h.tables.arrays start (after_index h a d s)
  index_referred d (Plain add) none g = g
  index_referred d (Scalar s) none g = g
  index_referred d (Through index_array at inner_add add) none g =
      with_referred d (index_reference h a index_array inner_add) refl refl tt (array_there index_array at _ none) g
  index_referred d (Twice outer at inner inner_at first second add) none g =
      with_referred (with_reference d (index_reference h a inner first)) (outer_reference h a outer inner inner_at first second)
      refl refl tt (array_there outer at _ none)
      (with_referred d (index_reference h a inner first) refl refl tt
      (array_there inner inner_at _ (right_empty (array_unknown h a outer at) _ none)) g)

  own_has : (d : Draft) (e : Element) (o : Option ℕ) (k : ℕ) → o ≡ Some k → k < length h.tables.arrays → own_stamp_faults h a d e o ≡ []
      → AreReferred h.tables.arrays start d
      → HasStamp start d (after_own_stamp h a d e.subscript o) (decomposition_of h.tables.arrays k) (own_stamp h a d e.subscript o)
  own_has d e None k is within none g = cc
  own_has d e (Some j) k is within none g =
      let same : j ≡ k = cc in
      let facts = array_at h.tables.arrays j in
      subst (λ n. HasStamp start d (after_own_stamp h a d e.subscript (Some j)) (decomposition_of h.tables.arrays n)
      (own_stamp h a d e.subscript (Some j))) same
      (after_stamp-has start d facts.decomposition facts.offset (subscript_marks h a e.subscript) e.at g.used g.more
      (placed j (subst (λ n. n < length h.tables.arrays) (sym same) within)) g.stamped none)

  own_is : (role : Role) (d : Draft) (e : Element) → is_crowded d ≡ false
      → after_own h a role d e ≡ record (after_own_stamp h a d e.subscript (array_called h a e.name))
      { references = (after_own_stamp h a d e.subscript (array_called h a e.name)).references ++ own_reference h a d role e ∷ [] }
  own_is role d e room =
      let x = after_own_stamp h a d e.subscript (array_called h a e.name) in
      ap (λ b. if b then d else with_reference x (own_reference h a d role e)) room
      ∙ ap (λ b. if b then x else record x { references = x.references ++ own_reference h a d role e ∷ [] })
      (ap (λ (rs : List Reference). nat_le 64 (length rs)) (after_own_stamp-references h a d e.subscript (array_called h a e.name)) ∙ room)

  own_referred : (role : Role) → role ≢ Index → (d : Draft) (e : Element) → is_crowded d ≡ false → is_some (array_called h a e.name) ≡ true
      → own_stamp_faults h a d e (array_called h a e.name) ≡ [] → AreReferred h.tables.arrays start d
      → AreReferred h.tables.arrays start (after_own h a role d e)
  own_referred role other d e room is none g = from (is_some-some (array_called h a e.name) is)
    where
      from : (k : ℕ) × (array_called h a e.name ≡ Some k) → AreReferred h.tables.arrays start (after_own h a role d e)
      from (k, is_k) =
          let x = after_own_stamp h a d e.subscript (array_called h a e.name) in
          let has = own_has d e (array_called h a e.name) k is_k (known e.name k is_k) none g in
          let first : k ≡ array_or_first h a e.name = sym (ap (λ (o : Option ℕ). unwrap_or o 0) is_k) in
          let one : IsReferred h.tables.arrays start x.used (own_reference h a d role e) = record {
            reference = record {
              array = first_known e.name is;
              stamp = has.most;
              index = λ same. absurd (other same);
            };
            new = λ same. subst (λ n. IsNew start x.used (decomposition_of h.tables.arrays n)
                (own_stamp h a d e.subscript (array_called h a e.name))) first has.new;
          } in
          let later : All (IsReferred h.tables.arrays start x.used) d.references =
          All-weaker (IsReferred h.tables.arrays start d.used) (IsReferred h.tables.arrays start x.used)
          (λ r o. record {
            reference = o.reference;
            new = λ same. new_later start d.used x.used (decomposition_of h.tables.arrays r.array)
                r.stamp has.more (o.new same);
          }) d.references g.references in
          subst (AreReferred h.tables.arrays start) (sym (own_is role d e room))
          (record {
            used = has.used;
            more = λ n. let low : used_at start n ≤ used_at d.used n = g.more n in let high : used_at d.used n ≤ used_at x.used n =
                has.more n in omega arith;
            stamped = has.stamped;
            references = All-push (IsReferred h.tables.arrays start x.used) x.references (own_reference h a d role e)
                (subst (λ (rs : List Reference). All (IsReferred h.tables.arrays start x.used) rs) (sym has.references) later) one;
          })

  pub element_referred : (role : Role) → role ≢ Index → (d : Draft) (e : Element) → element_faults h a d e ≡ []
      → AreReferred h.tables.arrays start d → AreReferred h.tables.arrays start (after_element h a role d e)
  element_referred role other d e none g =
      own_referred role other (after_index h a d e.subscript) e (own_room h a d e none) (own_known h a d e none) (stamp_known h a d e none)
      (index_referred d e.subscript (names_known h a d e none) g)
