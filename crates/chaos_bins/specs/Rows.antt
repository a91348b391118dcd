-- Flat lists of pairs, gone through from the front.
use Rattle.std.specs.Prelude.{◌≡◌, refl, ℕ, suc, ◌+◌, ◌*◌, ◌/◌, ◌≤◌, ◌<◌, ℤ, pos, List, [], ◌∷◌, length, drop, slice_get, unwrap_or}
use Rattle.std.proofs.Common.{ap, sym, ◌∙◌, arith, get_or}
use Rattle.std.proofs.lemmas.List.{drop_more, length-drop}
use Rattle.std.proofs.lemmas.Option.{unwrap_or-slice_get}
use Rattle.chaos_bins.specs.Plan.{pairs_in}

-- the number at a place, 0 from the end on
abbrev pub number_at : List ℤ → ℕ → ℤ
number_at numbers at = unwrap_or (slice_get numbers at) (pos 0)

pub number_is : (xs : List ℤ) (k : ℕ) → get_or xs k (pos 0) ≡ number_at xs k
number_is xs k = sym (unwrap_or-slice_get xs k (pos 0))

pub drop_next : (xs : List ℤ) (k : ℕ) → k < length xs → drop k xs ≡ number_at xs k ∷ drop (k + 1) xs
drop_next xs k h = drop_more xs k (pos 0) h ∙ ap (λ x. x ∷ drop (k + 1) xs) (number_is xs k)

-- the next pair of a flat list
pub next_pair : (rows : List ℤ) (k : ℕ) (b v : ℤ) → k < length rows / 2 → b ≡ number_at rows (2 * k) → v ≡ number_at rows (2 * k + 1)
    → pairs_in (drop (2 * k) rows) ≡ (b, v) ∷ pairs_in (drop (2 * (k + 1)) rows)
next_pair rows k b v less b_is v_is =
    let first : drop (2 * k) rows ≡ number_at rows (2 * k) ∷ drop (2 * k + 1) rows = drop_next rows (2 * k) (omega (arith, less)) in
    let second : drop (2 * k + 1) rows ≡ number_at rows (2 * k + 1) ∷ drop (2 * k + 1 + 1) rows =
    drop_next rows (2 * k + 1) (omega (arith, less)) in
    let rest = drop (2 * (k + 1)) rows in
    let behind : drop (2 * k + 1 + 1) rows ≡ rest = ap (λ n. drop n rows) (let e : 2 * k + 1 + 1 ≡ 2 * (k + 1) = omega arith in e) in
    ap pairs_in
    (first
    ∙ ap (λ (l : List ℤ). number_at rows (2 * k) ∷ l) (second ∙ ap (λ (l : List ℤ). number_at rows (2 * k + 1) ∷ l) behind)
    ∙ ap (λ (x : ℤ). x ∷ number_at rows (2 * k + 1) ∷ rest) (sym b_is)
    ∙ ap (λ (x : ℤ). b ∷ x ∷ rest) (sym v_is))

no_pair : (xs : List ℤ) → length xs < 2 → pairs_in xs ≡ []
no_pair [] h = refl
no_pair (b ∷ []) h = refl
no_pair (b ∷ v ∷ rest) h = absurd (more (length rest) h)
  where
    more : (n : ℕ) → suc (suc n) < 2 → ⊥
    more n h = omega arith

-- and none behind the last
pub no_pair_more : (rows : List ℤ) (k : ℕ) → length rows / 2 ≤ k → pairs_in (drop (2 * k) rows) ≡ []
no_pair_more rows k over = no_pair (drop (2 * k) rows) (omega (arith, over, length-drop (2 * k) rows))
