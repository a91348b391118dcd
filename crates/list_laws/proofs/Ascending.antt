-- A list of entries that ascends by distinct keys is the one list with these entries that does.
use Rattle.std.proofs.Common.{◌≡◌, ℕ, suc, ◌<◌, ◌≤◌, Bool, true, false, cond, ◌&&◌, List, [], ◌∷◌, Option, Some, None, refl, ap, sym, subst}
use Rattle.std.proofs.Common.{◌∙◌, arith, true≢false, filter, inl, inr, Less, Equal}
use Rattle.std.specs.Prelude.{nat_eq, IsPermutation, if◌then◌else◌}
use lib.Dec.{T}
use Rattle.std.specs.List.{AllByRecursion, IsDistinct}
use Rattle.std.specs.Map.{lookup, keys_of}
use Rattle.std.specs.Ordering.{nat_cmp, is_lt}
use Rattle.std.specs.Cmp.{nat_cmp_total, nat_eq_equiv, unsigned_tied, unsigned_Decides, nat_cmp_is}
use Rattle.std.specs.FinMap as fin
use Rattle.std.specs.FinMap.Entries.{below_all, is_sorted, same_entries}
use Rattle.std.specs.List.Sorted.{IsNonDecreasingBy}
use Rattle.std.proofs.lemmas.List.Elements.{recursion_from_All}
use Rattle.std.proofs.lemmas.List.Sorted.{IsNonDecreasingBy-drop, Contains-permutation, IsPermutation-sym, IsPermutation-map}
use Rattle.std.proofs.lemmas.Map.Keys.{IsDistinct-head, IsDistinct-tail, IsDistinct-IsPermutation}
use Rattle.std.proofs.lemmas.Map.Views.{Contains-from_lookup, lookup-from_Contains}
use Rattle.std.proofs.lemmas.Bool.Decides.{eqb_tells}

pub both : (a b : Bool) → T a → T b → T (a && b)
both true b p q = q
both false b p q = p

pub first : (a b : Bool) → T (a && b) → T a
first true b p = tt
first false b p = p

pub second : (a b : Bool) → T (a && b) → T b
second true b p = p
second false b p = absurd p

pub find-lookup : {X : Type 0} (es : List (ℕ × X)) (q : ℕ) → fin.find nat_cmp q es ≡ lookup (nat_eq q) es
find-lookup [] q = refl
find-lookup (e ∷ es) q = ap (λ b. cond b (Some e.1) (fin.find nat_cmp q es)) (unsigned_tied q e.0)
    ∙ ap (cond (nat_eq q e.0) (Some e.1)) (find-lookup es q)

less_is : (x y : ℕ) → x < y → T (is_lt (nat_cmp x y))
less_is x y lt = subst (λ r. T (is_lt r)) (nat_cmp_is x y Less lt) tt

more_is : (x y : ℕ) → T (is_lt (nat_cmp x y)) → nat_eq x y ≡ false
more_is x y lt = elim (eqb_tells x y) [
  | inl same ↦ absurd (subst (λ r. T (is_lt r)) (sym (nat_cmp_is x y Equal same.1)) lt)
  | inr other ↦ other.0
]

exact : (x y : ℕ) → nat_eq x y ≡ true → x ≡ y
exact x y e = (unsigned_Decides x y).0 e

module _ {X : Type 0} where
  -- one value of those that pass
  abbrev pub passing : (X → Bool) → Option X → Option X
  passing p None = None
  passing p (Some x) = if p x then Some x else None

  none_further : (q x : ℕ) (es : List (ℕ × X)) → nat_eq q x ≡ true → AllByRecursion (λ y. nat_eq x y ≡ false) (keys_of es)
      → lookup (nat_eq q) es ≡ None
  none_further q x [] e h = refl
  none_further q x (f ∷ es) e h = ap (λ b. cond b (Some f.1) (lookup (nat_eq q) es)) (nat_eq_equiv.congr q x f.0 e ∙ h.0)
      ∙ none_further q x es e h.1

  pub lookup-passing : (p : X → Bool) (q : ℕ) (es : List (ℕ × X)) → IsDistinct nat_eq (keys_of es)
      → lookup (nat_eq q) (filter (λ e. p e.1) es) ≡ passing p (lookup (nat_eq q) es)
  lookup-passing p q [] h = refl
  lookup-passing p q (e ∷ es) h =
      let rest = lookup-passing p q es (IsDistinct-tail nat_eq e.0 (keys_of es) h) in
      let left = filter (λ (e : ℕ × X). p e.1) es in
      elim (nat_eq q e.0) as (λ b. nat_eq q e.0 ≡ b → lookup (nat_eq q) (cond (p e.1) (e ∷ left) left)
      ≡ passing p (cond b (Some e.1) (lookup (nat_eq q) es))) [
        | true ↦ λ here.
            let none : lookup (nat_eq q) left ≡ None = rest
            ∙ ap (passing p) (none_further q e.0 es here (IsDistinct-head nat_eq e.0 (keys_of es) h)) in
            elim (p e.1) as (λ l. lookup (nat_eq q) (cond l (e ∷ left) left) ≡ (if l then Some e.1 else None)) [
              | true ↦ ap (λ b. cond b (Some e.1) (lookup (nat_eq q) left)) here
              | false ↦ none
            ]
        | false ↦ λ off.
            elim (p e.1) as (λ l. lookup (nat_eq q) (cond l (e ∷ left) left) ≡ passing p (lookup (nat_eq q) es)) [
              | true ↦ ap (λ b. cond b (Some e.1) (lookup (nat_eq q) left)) off ∙ rest
              | false ↦ rest
            ]
      ] refl

  same_when : (a b : Option X) → ((v : X) → a ≡ Some v → b ≡ Some v) → ((v : X) → b ≡ Some v → a ≡ Some v) → a ≡ b
  same_when None None f g = refl
  same_when None (Some y) f g = g y refl
  same_when (Some x) b f g = sym (f x refl)

  pub keys-permutation : (xs ys : List (ℕ × X)) → IsPermutation xs ys → IsDistinct nat_eq (keys_of xs) → IsDistinct nat_eq (keys_of ys)
  keys-permutation xs ys h distinct = IsDistinct-IsPermutation nat_eq nat_eq_equiv.symm (keys_of xs) (keys_of ys)
      (IsPermutation-map (λ (e : ℕ × X). e.0) xs ys h) distinct

  -- entries in another order answer alike
  pub lookup-permutation : (xs ys : List (ℕ × X)) → IsPermutation xs ys → IsDistinct nat_eq (keys_of xs) → (q : ℕ)
      → lookup (nat_eq q) ys ≡ lookup (nat_eq q) xs
  lookup-permutation xs ys h distinct q =
      let there = keys-permutation xs ys h distinct in
      same_when (lookup (nat_eq q) ys) (lookup (nat_eq q) xs)
      (λ v e. lookup-from_Contains nat_eq_equiv q v xs distinct (Contains-permutation ys xs (q, v) (IsPermutation-sym xs ys h)
      (Contains-from_lookup exact q v ys e)))
      (λ v e. lookup-from_Contains nat_eq_equiv q v ys there (Contains-permutation xs ys (q, v) h (Contains-from_lookup exact q v xs e)))

  below_passing : (p : ℕ × X → Bool) (x : ℕ) (es : List (ℕ × X)) → T (below_all nat_cmp x es) → T (below_all nat_cmp x (filter p es))
  below_passing p x [] h = tt
  below_passing p x (e ∷ es) h =
      let rest = below_passing p x es (second (is_lt (nat_cmp x e.0)) _ h) in
      elim (p e) as (λ b. T (below_all nat_cmp x (cond b (e ∷ filter p es) (filter p es))))
      [ true ↦ both (is_lt (nat_cmp x e.0)) _ (first (is_lt (nat_cmp x e.0)) _ h) rest | false ↦ rest ]

  pub sorted-passing : (p : ℕ × X → Bool) (es : List (ℕ × X)) → T (is_sorted nat_cmp es) → T (is_sorted nat_cmp (filter p es))
  sorted-passing p [] h = tt
  sorted-passing p (e ∷ es) h =
      let rest = sorted-passing p es (second (below_all nat_cmp e.0 es) _ h) in
      elim (p e) as (λ b. T (is_sorted nat_cmp (cond b (e ∷ filter p es) (filter p es)))) [
        | true ↦ both (below_all nat_cmp e.0 (filter p es)) _ (below_passing p e.0 es (first (below_all nat_cmp e.0 es) _ h)) rest
        | false ↦ rest
      ]

  others_above : (x : ℕ) (es : List (ℕ × X)) → T (below_all nat_cmp x es) → AllByRecursion (λ y. nat_eq x y ≡ false) (keys_of es)
  others_above x [] h = tt
  others_above x (e ∷ es) h = (more_is x e.0 (first (is_lt (nat_cmp x e.0)) _ h), others_above x es (second (is_lt (nat_cmp x e.0)) _ h))

  pub distinct-sorted : (es : List (ℕ × X)) → T (is_sorted nat_cmp es) → IsDistinct nat_eq (keys_of es)
  unfolding IsDistinct
  distinct-sorted [] h = tt
  distinct-sorted (e ∷ es) h = (
    others_above e.0 es (first (below_all nat_cmp e.0 es) _ h),
    distinct-sorted es (second (below_all nat_cmp e.0 es) _ h),
  )

  above : (x : ℕ) (es : List (ℕ × X)) → AllByRecursion (λ (e : ℕ × X). x ≤ e.0) es → AllByRecursion (λ y. nat_eq x y ≡ false) (keys_of es)
      → T (below_all nat_cmp x es)
  above x [] le other = tt
  above x (e ∷ es) le other =
      both (is_lt (nat_cmp x e.0)) _ (less_is x e.0 (lt_when x e.0 le.0 other.0)) (above x es le.1 other.1)
    where
      lt_when : (x y : ℕ) → x ≤ y → nat_eq x y ≡ false → x < y
      lt_when x y le other = elim (eqb_tells x y) [
        | inl same ↦ absurd (true≢false (sym same.0 ∙ other))
        | inr apart ↦
            (let a = apart.1 in omega (arith, le, a))
      ]

  pub sorted-rising : (es : List (ℕ × X)) → IsNonDecreasingBy (λ e. e.0) es → IsDistinct nat_eq (keys_of es) → T (is_sorted nat_cmp es)
  sorted-rising [] rising distinct = tt
  sorted-rising (e ∷ es) rising distinct =
      both (below_all nat_cmp e.0 es) _
      (above e.0 es (recursion_from_All (λ (f : ℕ × X). e.0 ≤ f.0) es (λ k d lt. rising 0 (suc k) d (omega arith) (omega (arith, lt))))
      (IsDistinct-head nat_eq e.0 (keys_of es) distinct))
      (sorted-rising es (IsNonDecreasingBy-drop (λ (f : ℕ × X). f.0) 1 (e ∷ es) rising) (IsDistinct-tail nat_eq e.0 (keys_of es) distinct))

  -- those that pass, sorted by key, are those of the map in order that pass
  pub sorted-entries : (p : X → Bool) (es ys : List (ℕ × X)) → IsDistinct nat_eq (keys_of es)
      → IsDistinct nat_eq (keys_of (filter (λ e. p e.1) es)) → IsPermutation (filter (λ e. p e.1) es) ys → IsNonDecreasingBy (λ e. e.0) ys
      → ys ≡ filter (λ e. p e.1) (fin.entries (fin.from_entries {R = nat_cmp} es))
  sorted-entries p es ys distinct few permuted rising =
      let m = fin.from_entries {R = nat_cmp} es in
      let sorted = fin.entries_sorted m in
      let all = distinct-sorted (fin.entries m) sorted in
      same_entries nat_cmp nat_cmp_total fin.nat_cmp-IsAntisymmetric ys (filter (λ (e : ℕ × X). p e.1) (fin.entries m))
      (sorted-rising ys rising (keys-permutation (filter (λ (e : ℕ × X). p e.1) es) ys permuted few))
      (sorted-passing (λ (e : ℕ × X). p e.1) (fin.entries m) sorted)
      (λ q. find-lookup ys q ∙ lookup-permutation (filter (λ (e : ℕ × X). p e.1) es) ys permuted few q ∙ lookup-passing p q es distinct
      ∙ ap (passing p) (sym (find-lookup es q) ∙ sym (fin.get-from_entries nat_cmp_total es q) ∙ fin.get-entries m q
      ∙ find-lookup (fin.entries m) q)
      ∙ sym (lookup-passing p q (fin.entries m) all) ∙ sym (find-lookup (filter (λ (e : ℕ × X). p e.1) (fin.entries m)) q))
