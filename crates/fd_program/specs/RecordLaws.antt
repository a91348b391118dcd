-- A record determines an execution but for values.
use Rattle.std.specs.Prelude.{◌≡◌, refl, ℕ, zero, suc, ◌+◌, ◌<◌, ◌≤◌, pos, Bool, true, false, not, ◌&&◌, ◌||◌, ◌==◌, if◌then◌else◌, cond}
use Rattle.std.specs.Prelude.{List, [], ◌∷◌, length, map, filter, slice_get, unwrap_or, Some, ◌⊎◌}
use Rattle.std.specs.Cmp.Lexicographic.{pointwise, pointwise_decides}
use Rattle.std.specs.List.{AllByRecursion, list_any, enumerate_from, range_with_len}
use Rattle.std.specs.Ordering.{int_eq}
use Rattle.std.proofs.Common.{ap, sym, ◌∙◌, subst, arith, inl, inr}
use Rattle.std.proofs.lemmas.Bool.{eqb-true, cases_lt}
use Rattle.std.proofs.lemmas.Bool.Decides.{Decides-int_eq, nat_tests}
use Rattle.std.proofs.lemmas.List.Elements.{recursion_from_All}
use Rattle.fd_words.specs.Lists.{list_at}
use Rattle.fd_words.specs.declared.place.Role.TheVariants.{Index}
use Rattle.chaos_dist.specs.declared.shape.Shape.{Shape}
use Rattle.chaos_dist.specs.declared.shape.Shape.TheVariants.{Block, Cyclic, BlockCyclic}
use Rattle.chaos_dist.specs.declared.step_form.StepForm.{StepForm}
use Rattle.chaos_dist.specs.declared.step_form.StepForm.TheVariants.{Regular, Map}
use Rattle.fd_program.specs.Checks.{IsChecked, IsSite, IsReference, IsAligned}
use Rattle.fd_program.specs.Layouts.{Scene, store_at, owners_at, owners_by, layouts_at, loop_at, owners_by_map}
use Rattle.fd_program.specs.ListLaws.{all_at}
use Rattle.fd_program.specs.LoopCases.{both_parts}
use Rattle.fd_program.specs.Past.{form_set, is_same_shape, is_set_again, is_repeat, change_at, version_at, record_at, is_same_record}
use Rattle.fd_program.specs.Past.{latest_of, decompositions_of, index_arrays_of}
use Rattle.fd_program.specs.Places.{decomposition_of}
use Rattle.fd_program.specs.RunLaws.{IsHistory, IsBefore, same_change}
use Rattle.fd_program.specs.SameLoops.{AreSameExecutions, HaveSameIndexes, HaveSameOwners, same_loops}
use Rattle.fd_program.specs.Stores.{no_array}
use Rattle.fd_program.specs.Trace.{site_at, no_site, is_empty_turn}
use Rattle.fd_words.specs.Roles.{is_index}
use Rattle.fd_program.specs.declared.array.LayoutName.{LayoutName}
use Rattle.fd_program.specs.declared.checked.Checked.{Checked}
use Rattle.fd_program.specs.declared.loop_record.LoopRecord.{LoopRecord}
use Rattle.fd_program.specs.declared.reference.Reference.{Reference}
use Rattle.fd_program.specs.declared.site.Site.{Site}
use Rattle.fd_program.specs.declared.trace.LoopTurn.{LoopTurn}
use Rattle.fd_program.specs.declared.trace.Step.{Step}
use Rattle.fd_program.specs.declared.trace.Step.TheVariants.{Distribute, Print, Forall}

-- two executions of a FORALL in one run, after the steps `before` and `past`, whose records are equal
abbrev pub RecordDetermines : Type 0
RecordDetermines =
    (s : Scene) (site : ℕ) (one other : LoopTurn) (before past : List Step)
    → IsChecked s.checked → site < length s.checked.sites → IsBefore before past → IsHistory s past
    → is_same_record (record_at s.checked before site one) (record_at s.checked past site other) ≡ true
    → AreSameExecutions (loop_at s before site one) (loop_at s past site other) (owners_at s before) (owners_at s past)
    (store_at s before) (store_at s past)

-- the latest execution of a FORALL is before
pub latest_before : (past : List Step) (k : ℕ) (turn : LoopTurn) (before : List Step) → latest_of past k ≡ Some (turn, before)
    → IsBefore before past
latest_before [] k turn before e = cc
latest_before (Distribute d form ∷ past) k turn before e = inr (latest_before past k turn before e)
latest_before (Print array ∷ past) k turn before e = inr (latest_before past k turn before e)
latest_before (Forall site latest ∷ past) k turn before e = by ((site == k) && not (is_empty_turn latest)) e
    (latest_before past k turn before)
  where
    itself : (past : List Step) → IsBefore past past
    itself [] = refl
    itself (step ∷ past) = inl refl

    by : (b : Bool) → (if b then Some (latest, past) else latest_of past k) ≡ Some (turn, before)
        → (latest_of past k ≡ Some (turn, before) → IsBefore before past)
        → IsBefore before (Forall site latest ∷ past)
    by true same rest =
        let pair : (latest, past) ≡ (turn, before) = cc in
        let there : past ≡ before = ap (λ (p : LoopTurn × List Step). p.1) pair in
        inr (subst (λ p. IsBefore p past) there (itself past))
    by false same rest = inr (rest same)

-- ---- lists

get_some : {A : Type 0} (xs : List A) (k : ℕ) → k < length xs → (x : A) × (slice_get xs k ≡ Some x)
get_some [] k h = absurd (omega arith)
get_some (x ∷ xs) zero h = (x, refl)
get_some (x ∷ xs) (suc k) h = get_some xs k (omega arith)

pub each_place : {A : Type 0} (P : A → Type 0) (xs : List A) → ((k : ℕ) (x : A) → slice_get xs k ≡ Some x → P x) → AllByRecursion P xs
each_place P [] h = tt
each_place P (x ∷ xs) h = (h 0 x refl, each_place P xs (λ k y e. h (suc k) y e))

pub any_true : {A : Type 0} (q : A → Bool) (xs : List A) (k : ℕ) (x : A) → slice_get xs k ≡ Some x → q x ≡ true → list_any q xs ≡ true
any_true q [] k x e h = cc
any_true q (y ∷ ys) zero x e h = let same : y ≡ x = cc in ap (λ b. b || list_any q ys) (ap q same ∙ h)
any_true q (y ∷ ys) (suc k) x e h = later (q y) (list_any q ys) (any_true q ys k x e h)
  where
    later : (a b : Bool) → b ≡ true → (a || b) ≡ true
    later true b h = refl
    later false b h = h

-- what holds of each number that passes holds of one that does
in_filter : (P : ℕ → Type 0) (p : ℕ → Bool) (a n d : ℕ) → AllByRecursion P (filter p (range_with_len a n)) → a ≤ d → d < a + n
    → p d ≡ true → P d
in_filter P p a zero d h low high e = absurd (omega arith)
in_filter P p a (suc n) d h low high e = by (p a) refl h (λ rest above. in_filter P p (a + 1) n d rest above (omega arith) e)
  where
    here : (b : Bool) → p a ≡ b → AllByRecursion P (cond b (a ∷ filter p (range_with_len (a + 1) n))
        (filter p (range_with_len (a + 1) n))) → a ≡ d → P d
    here true s all same = subst P same all.0
    here false s all same = let no : p a ≡ true = ap p same ∙ e in cc

    later : (b : Bool) → AllByRecursion P (cond b (a ∷ filter p (range_with_len (a + 1) n)) (filter p (range_with_len (a + 1) n)))
        → AllByRecursion P (filter p (range_with_len (a + 1) n))
    later true all = all.1
    later false all = all

    split : (a ≡ d) ⊎ (a + 1 ≤ d)
    split = elim (cases_lt a d) [ inl below ↦ inr (omega arith) | inr least ↦ inl (omega arith) ]

    by : (b : Bool) → p a ≡ b → AllByRecursion P (cond b (a ∷ filter p (range_with_len (a + 1) n)) (filter p (range_with_len (a + 1) n)))
        → (AllByRecursion P (filter p (range_with_len (a + 1) n)) → a + 1 ≤ d → P d) → P d
    by b s all rest = elim split [ inl same ↦ here b s all same | inr above ↦ rest (later b all) above ]

-- ---- owners

pub same_shape_is : (a b : Shape) → is_same_shape a b ≡ true → a ≡ b
same_shape_is Block Block e = refl
same_shape_is Block Cyclic e = cc
same_shape_is Block (BlockCyclic b) e = cc
same_shape_is Cyclic Block e = cc
same_shape_is Cyclic Cyclic e = refl
same_shape_is Cyclic (BlockCyclic b) e = cc
same_shape_is (BlockCyclic a) Block e = cc
same_shape_is (BlockCyclic a) Cyclic e = cc
same_shape_is (BlockCyclic a) (BlockCyclic b) e = ap (λ n. BlockCyclic n) (eqb-true a b e)

-- a repeat leaves the owners as they are
set_again : (s : Scene) (extent : ℕ) (past : List Step) (old : StepForm) (before : List Step) (new : StepForm) → IsChecked s.checked
    → IsHistory s past
    → IsBefore before past → is_set_again s.checked past (old, before) new ≡ true → owners_by s extent (old, before) ≡ owners_by s extent
    (new, past)
set_again s extent past (Regular old) before (Regular new) known history h e =
    ap (λ shape. owners_by s extent (Regular shape, before)) (same_shape_is old new e)
set_again s extent past (Regular old) before (Map new) known history h e = cc
set_again s extent past (Map old) before (Regular new) known history h e = cc
set_again s extent past (Map old) before (Map new) known history h e =
    let both = both_parts (old == new) (change_at s.checked past new == change_at s.checked before new) e in
    let same : change_at s.checked before new ≡ change_at s.checked past new =
    sym (eqb-true (change_at s.checked past new) (change_at s.checked before new) both.1) in
    ap (λ array. owners_by s extent (Map array, before)) (eqb-true old new both.0)
    ∙ ap (owners_by_map s.nodes) (same_change s before past new known h history same)

-- the steps before the one that gave the form
form_before : (past : List Step) (d : ℕ) → IsBefore (form_set past d).1 past
form_before [] d = refl
form_before (Distribute at form ∷ past) d = by (at == d) (form_before past d)
  where
    itself : (past : List Step) → IsBefore past past
    itself [] = refl
    itself (step ∷ past) = inl refl

    by : (b : Bool) → IsBefore (form_set past d).1 past → IsBefore (if b then (form, past) else form_set past d).1
        (Distribute at form ∷ past)
    by true h = inr (itself past)
    by false h = inr h
form_before (Print array ∷ past) d = inr (form_before past d)
form_before (Forall site turn ∷ past) d = inr (form_before past d)

version_grows : (c : Checked) (before past : List Step) (d : ℕ) → IsBefore before past → version_at c before d ≤ version_at c past d
version_grows c before [] d h = let e : version_at c before d ≡ 0 = ap (λ p. version_at c p d) h in omega (arith, e)
version_grows c before (step ∷ past) d (inl e) = let same : version_at c before d ≡ version_at c (step ∷ past) d =
    ap (λ p. version_at c p d) e in omega (arith, same)
version_grows c before (step ∷ past) d (inr h) = omega (arith, version_grows c before past d h)

-- a decomposition whose version is the same has the same owners
pub same_version : (s : Scene) (extent : ℕ) (before past : List Step) (d : ℕ) → IsChecked s.checked → IsBefore before past
    → IsHistory s past
    → version_at s.checked before d ≡ version_at s.checked past d → owners_by s extent (form_set before d) ≡ owners_by s extent
    (form_set past d)
same_version s extent before [] d known h history same = ap (λ p. owners_by s extent (form_set p d)) h
same_version s extent before (step ∷ past) d known (inl e) history same = ap (λ p. owners_by s extent (form_set p d)) e
same_version s extent before (Print array ∷ past) d known (inr h) history same =
    let still : version_at s.checked before d ≡ version_at s.checked past d = omega (arith, same) in
    same_version s extent before past d known h history.1 still
same_version s extent before (Forall site turn ∷ past) d known (inr h) history same =
    let still : version_at s.checked before d ≡ version_at s.checked past d = omega (arith, same) in
    same_version s extent before past d known h history.1 still
same_version s extent before (Distribute at form ∷ past) d known (inr h) history same =
    by (at == d) (is_repeat s.checked past d form) refl same (version_grows s.checked before past d h)
    (same_version s extent before past d known h history.1)
  where
    by : (b r : Bool) → is_repeat s.checked past d form ≡ r
        → version_at s.checked before d ≡ version_at s.checked past d + (if b && not r then 1 else 0)
        → version_at s.checked before d ≤ version_at s.checked past d
        → (version_at s.checked before d ≡ version_at s.checked past d → owners_by s extent (form_set before d) ≡ owners_by s extent
        (form_set past d))
        → owners_by s extent (form_set before d) ≡ owners_by s extent (if b then (form, past) else form_set past d)
    by true true e f less rest =
        rest (omega (arith, f)) ∙ set_again s extent past (form_set past d).0 (form_set past d).1 form known history.1
        (form_before past d) e
    by true false e f less rest = absurd (omega (arith, f, less))
    by false r e f less rest = rest (omega (arith, f))

-- the owners in a list by decomposition
listed : (s : Scene) (before past : List Step) (layouts : List LayoutName) (a k : ℕ)
    → ((extent : ℕ) → owners_by s extent (form_set before (a + k)) ≡ owners_by s extent (form_set past (a + k)))
    → list_at (map (λ (d, l). owners_by s l.extent (form_set before d)) (enumerate_from a layouts)) k
    ≡ list_at (map (λ (d, l). owners_by s l.extent (form_set past d)) (enumerate_from a layouts)) k
listed s before past [] a k same = refl
listed s before past (l ∷ layouts) a zero same =
    let at : a + zero ≡ a = omega arith in
    subst (λ d. owners_by s l.extent (form_set before d) ≡ owners_by s l.extent (form_set past d)) at (same l.extent)
listed s before past (l ∷ layouts) a (suc k) same =
    let at : a + suc k ≡ a + 1 + k = omega arith in
    listed s before past layouts (a + 1) k
    (λ extent. subst (λ d. owners_by s extent (form_set before d) ≡ owners_by s extent (form_set past d)) at (same extent))

-- ---- records

same_maps : (f g : ℕ → ℕ) (xs : List ℕ) → map (λ x. pos (f x)) xs ≡ map (λ x. pos (g x)) xs → AllByRecursion (λ x. f x ≡ g x) xs
same_maps f g [] e = tt
same_maps f g (x ∷ xs) e = (cc, same_maps f g xs (cc))

pub record IsSameRecord (a b : LoopRecord) : Type 0 where
  pub low : a.low ≡ b.low
  pub high : a.high ≡ b.high
  pub adds : a.adds ≡ b.adds
  pub versions : a.versions ≡ b.versions
  pub changes : a.changes ≡ b.changes

pub same_record_is : (a b : LoopRecord) → is_same_record a b ≡ true → IsSameRecord a b
same_record_is a b e =
    let e1 = both_parts (int_eq a.low b.low && int_eq a.high b.high && pointwise int_eq a.adds b.adds && pointwise int_eq a.versions
    b.versions) (pointwise int_eq a.changes b.changes) e in
    let e2 = both_parts (int_eq a.low b.low && int_eq a.high b.high && pointwise int_eq a.adds b.adds)
    (pointwise int_eq a.versions b.versions) e1.0 in
    let e3 = both_parts (int_eq a.low b.low && int_eq a.high b.high) (pointwise int_eq a.adds b.adds) e2.0 in
    let e4 = both_parts (int_eq a.low b.low) (int_eq a.high b.high) e3.0 in
    record {
      low = (Decides-int_eq a.low b.low).0 e4.0;
      high = (Decides-int_eq a.high b.high).0 e4.1;
      adds = (pointwise_decides {E = int_eq} Decides-int_eq a.adds b.adds).0 e3.1;
      versions = (pointwise_decides {E = int_eq} Decides-int_eq a.versions b.versions).0 e2.1;
      changes = (pointwise_decides {E = int_eq} Decides-int_eq a.changes b.changes).0 e1.1;
    }

-- ---- the law

module _ (s : Scene) (site : ℕ) (one other : LoopTurn) (before past : List Step) (known : IsChecked s.checked)
    (there : site < length s.checked.sites)
    (h : IsBefore before past) (history : IsHistory s past) (same : IsSameRecord (record_at s.checked before site one)
    (record_at s.checked past site other)) where
  abbrev c : Checked
  c = s.checked

  abbrev it : Site
  it = site_at c.sites site

  is_site : IsSite c.arrays it
  is_site =
      let found = get_some c.sites site there in
      subst (λ o. IsSite c.arrays (unwrap_or o no_site)) (sym found.1)
      (all_at (IsSite c.arrays) c.sites site found.0 (recursion_from_All (IsSite c.arrays) c.sites known.sites) found.1)

  reference_at : (k : ℕ) (r : Reference) → slice_get it.references k ≡ Some r → IsReference c.arrays r
  reference_at k r e = all_at (IsReference c.arrays) it.references k r (recursion_from_All (IsReference c.arrays) it.references
      is_site.references) e

  same_indexes : HaveSameIndexes (store_at s before) (store_at s past) it.references
  same_indexes = each_place (λ (r : Reference). r.role ≡ Index → list_at (store_at s before) r.array ≡ list_at (store_at s past) r.array)
      it.references (λ k r e role.
      let named : list_any (λ (x : Reference). is_index x.role && (x.array == r.array)) it.references ≡ true =
      any_true (λ (x : Reference). is_index x.role && (x.array == r.array)) it.references k r e
      (ap (λ b. b && (r.array == r.array)) (ap is_index role) ∙ itself r.array) in
      let changes = same_maps (change_at c before) (change_at c past) (index_arrays_of c it) same.changes in
      let within : r.array < 0 + length c.arrays = omega (arith, (reference_at k r e).array) in
      same_change s before past r.array known h history
      (in_filter (λ array. change_at c before array ≡ change_at c past array)
      (λ array. list_any (λ (x : Reference). is_index x.role && (x.array == array)) it.references)
      0 (length c.arrays) r.array changes (omega arith) within named))
    where
      itself : (n : ℕ) → (n == n) ≡ true
      itself n = grind (arith, nat_tests)

  decomposition_there : (array : ℕ) → array < length c.arrays → decomposition_of c.arrays array < length c.layouts
  decomposition_there array less =
      let found = get_some c.arrays array less in
      let aligned = all_at (IsAligned c.layouts) c.arrays array found.0 (recursion_from_All (IsAligned c.layouts) c.arrays known.arrays)
      found.1 in
      subst (λ o. (unwrap_or o no_array).decomposition < length c.layouts) (sym found.1) aligned.decomposition

  same_owners : HaveSameOwners c.arrays (owners_at s before) (owners_at s past) it.references
  same_owners = each_place
      (λ (r : Reference). list_at (owners_at s before) (decomposition_of c.arrays r.array) ≡ list_at (owners_at s past)
      (decomposition_of c.arrays r.array)) it.references (λ k r e.
      let d = decomposition_of c.arrays r.array in
      let named : list_any (λ (x : Reference). decomposition_of c.arrays x.array == d) it.references ≡ true =
      any_true (λ (x : Reference). decomposition_of c.arrays x.array == d) it.references k r e (itself d) in
      let versions = same_maps (version_at c before) (version_at c past) (decompositions_of c it) same.versions in
      let inside : d < length c.layouts = decomposition_there r.array (reference_at k r e).array in
      let within : d < 0 + length c.layouts = omega (arith, inside) in
      let version : version_at c before d ≡ version_at c past d =
      in_filter (λ d. version_at c before d ≡ version_at c past d)
      (λ d. list_any (λ (x : Reference). decomposition_of c.arrays x.array == d) it.references)
      0 (length c.layouts) d versions (omega arith) within named in
      let at : d ≡ 0 + d = omega arith in
      listed s before past c.layouts 0 d
      (λ extent. subst (λ n. owners_by s extent (form_set before n) ≡ owners_by s extent (form_set past n)) at
      (same_version s extent before past d known h history version)))
    where
      itself : (n : ℕ) → (n == n) ≡ true
      itself n = grind (arith, nat_tests)

  determined : AreSameExecutions (loop_at s before site one) (loop_at s past site other) (owners_at s before) (owners_at s past)
      (store_at s before) (store_at s past)
  determined =
      same_loops c.arrays it s.nodes s.rule one other (layouts_at c before) (layouts_at c past) (owners_at s before) (owners_at s past)
      (store_at s before) (store_at s past)
      is_site (record { low = same.low; high = same.high; adds = same.adds }) same_indexes same_owners

pub record_determines : RecordDetermines
record_determines s site one other before past known there h history e =
    determined s site one other before past known there h history (same_record_is (record_at s.checked before site one)
    (record_at s.checked past site other) e)
