-- Particles dealt out one after another.
use Rattle.std.specs.Prelude.{◌≡◌, refl, ℕ, zero, suc, ◌+◌, ◌*◌, ◌/◌, ◌≤◌, ◌<◌, min, ℤ, List, [], ◌∷◌, length, map, drop}
use Rattle.std.specs.List.{zip}
use Rattle.std.proofs.Common.{ap, sym, ◌∙◌, arith}
use Rattle.chaos_bins.specs.Dealing.{dealt_rows, given, stepped}
use Rattle.chaos_bins.specs.Plan.{pairs_in}
use Rattle.chaos_bins.specs.Rows.{drop_next, next_pair, no_pair_more, number_at}

pub deal_kept : (bins nodes : ℕ) (lists new total : List (List ℤ)) (rows : List ℤ) (k : ℕ) (b v : ℤ) → k < length rows / 2
    → b ≡ number_at rows (2 * k) → v ≡ number_at rows (2 * k + 1)
    → dealt_rows bins nodes lists (map (stepped bins) (pairs_in (drop (2 * k) rows))) ≡ total
    → new ≡ given bins nodes lists (stepped bins (b, v))
    → dealt_rows bins nodes new (map (stepped bins) (pairs_in (drop (2 * (k + 1)) rows))) ≡ total
deal_kept bins nodes lists new total rows k b v less b_is v_is before is =
    ap (λ l. dealt_rows bins nodes l (map (stepped bins) (pairs_in (drop (2 * (k + 1)) rows)))) is
    ∙ ap (λ l. dealt_rows bins nodes lists (map (stepped bins) l)) (sym (next_pair rows k b v less b_is v_is))
    ∙ before

pub deal_ended : (bins nodes : ℕ) (lists total : List (List ℤ)) (rows : List ℤ) (k : ℕ) → length rows / 2 ≤ k
    → dealt_rows bins nodes lists (map (stepped bins) (pairs_in (drop (2 * k) rows))) ≡ total → lists ≡ total
deal_ended bins nodes lists total rows k over all =
    ap (λ l. dealt_rows bins nodes lists (map (stepped bins) l)) (sym (no_pair_more rows k over)) ∙ all

-- ---- particles by their first bins

pub next_particle : (bins values : List ℤ) (k : ℕ) (b v : ℤ) → k < length bins → k < length values → b ≡ number_at bins k
    → v ≡ number_at values k
    → zip (drop k bins) (drop k values) ≡ (b, v) ∷ zip (drop (k + 1) bins) (drop (k + 1) values)
next_particle bins values k b v in_bins in_values b_is v_is =
    ap (λ l. zip l (drop k values)) (drop_next bins k in_bins)
    ∙ ap (λ l. zip (number_at bins k ∷ drop (k + 1) bins) l) (drop_next values k in_values)
    ∙ ap (λ (x : ℤ). (x, number_at values k) ∷ zip (drop (k + 1) bins) (drop (k + 1) values)) (sym b_is)
    ∙ ap (λ (x : ℤ). (b, x) ∷ zip (drop (k + 1) bins) (drop (k + 1) values)) (sym v_is)

pub first_kept : (bins nodes : ℕ) (lists new total : List (List ℤ)) (firsts amounts : List ℤ) (k : ℕ) (b v : ℤ) → k < length firsts
    → k < length amounts
    → b ≡ number_at firsts k → v ≡ number_at amounts k
    → dealt_rows bins nodes lists (zip (drop k firsts) (drop k amounts)) ≡ total → new ≡ given bins nodes lists (b, v)
    → dealt_rows bins nodes new (zip (drop (k + 1) firsts) (drop (k + 1) amounts)) ≡ total
first_kept bins nodes lists new total firsts amounts k b v in_firsts in_amounts b_is v_is before is =
    ap (λ l. dealt_rows bins nodes l (zip (drop (k + 1) firsts) (drop (k + 1) amounts))) is
    ∙ ap (dealt_rows bins nodes lists) (sym (next_particle firsts amounts k b v in_firsts in_amounts b_is v_is))
    ∙ before

zip_nil : (xs : List ℤ) → zip {K = ℤ} {X = ℤ} xs [] ≡ []
zip_nil [] = refl
zip_nil (x ∷ xs) = refl

pub no_particle_more : (bins values : List ℤ) (k : ℕ) → min (length bins) (length values) ≤ k → zip (drop k bins) (drop k values) ≡ []
no_particle_more [] values zero h = refl
no_particle_more [] values (suc k) h = refl
no_particle_more (b ∷ bins) [] zero h = refl
no_particle_more (b ∷ bins) [] (suc k) h = zip_nil (drop k bins)
no_particle_more (b ∷ bins) (v ∷ values) zero h = absurd (none (length bins) (length values) h)
  where
    none : (m n : ℕ) → min (suc m) (suc n) ≤ 0 → ⊥
    none m n h = omega arith
no_particle_more (b ∷ bins) (v ∷ values) (suc k) h = no_particle_more bins values k (less (length bins) (length values) k h)
  where
    less : (m n k : ℕ) → min (suc m) (suc n) ≤ suc k → min m n ≤ k
    less m n k h = omega arith
