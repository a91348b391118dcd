-- Which stage follows which.
use Rattle.std.specs.Prelude.{◌≡◌, ℕ, ◌+◌, ◌-◌, ◌*◌, ◌%◌, ◌==◌, ◌≤◌, ◌<◌, Bool, true, false, cond, nat_lt}
use Rattle.std.proofs.Common.{ap, ◌∙◌, arith, refl}
use Rattle.std.proofs.lemmas.Bool.{eq-eqb, eqb-true, le-ltb, lt-ltb, ltb-false, ltb-true}
use Rattle.std.proofs.lemmas.Bool.Decides.{nat_tests}
use Rattle.bisect_node.specs.Stages.{level_of, stage_of}
use Rattle.bisect_node.specs.declared.stage.Stage.{Stage}
use Rattle.bisect_node.specs.declared.stage.Stage.TheVariants.{Spread, Rank, Print}

-- ---- the stage of a phase

abbrev stage_by : Bool → Bool → ℕ → Stage
stage_by level whole bits = cond level (cond whole Spread (Rank bits)) Print

pub stage_spread : (levels t : ℕ) → t < 85 * levels → t % 85 ≡ 0 → stage_of levels t ≡ Spread
stage_spread levels t less none =
    ap (λ b. stage_by b (t % 85 == 0) (t % 85 - 1)) (lt-ltb t (85 * levels) less)
    ∙ ap (λ b. stage_by true b (t % 85 - 1)) (eq-eqb (t % 85) 0 none)

pub stage_rank : (levels t bits : ℕ) → t < 85 * levels → t % 85 ≡ bits + 1 → stage_of levels t ≡ Rank bits
stage_rank levels t bits less some =
    let apart : (t % 85 == 0) ≡ false = grind (arith, nat_tests, some) in
    let same : t % 85 - 1 ≡ bits = omega (arith, some) in
    ap (λ b. stage_by b (t % 85 == 0) (t % 85 - 1)) (lt-ltb t (85 * levels) less)
    ∙ ap (λ b. stage_by true b (t % 85 - 1)) apart
    ∙ ap Rank same

pub stage_print : (levels t : ℕ) → 85 * levels ≤ t → stage_of levels t ≡ Print
stage_print levels t over = ap (λ b. stage_by b (t % 85 == 0) (t % 85 - 1)) (le-ltb t (85 * levels) over)

-- ---- and back

spread_from : (a b : Bool) (bits : ℕ) → stage_by a b bits ≡ Spread → (a ≡ true) × (b ≡ true)
spread_from true true bits e = (refl, refl)
spread_from true false bits e = absurd (cc)
spread_from false b bits e = absurd (cc)

rank_from : (a b : Bool) (k bits : ℕ) → stage_by a b k ≡ Rank bits → (a ≡ true) × (b ≡ false) × (k ≡ bits)
rank_from true true k bits e = absurd (cc)
rank_from true false k bits e = (refl, refl, (let same : k ≡ bits = cc in same))
rank_from false b k bits e = absurd (cc)

print_from : (a b : Bool) (bits : ℕ) → stage_by a b bits ≡ Print → a ≡ false
print_from true true bits e = absurd (cc)
print_from true false bits e = absurd (cc)
print_from false b bits e = refl

pub spread_at : (levels t : ℕ) → stage_of levels t ≡ Spread → (t < 85 * levels) × (t % 85 ≡ 0)
spread_at levels t e =
    let is = spread_from (nat_lt t (85 * levels)) (t % 85 == 0) (t % 85 - 1) e in
    (ltb-true t (85 * levels) is.0, eqb-true (t % 85) 0 is.1)

pub rank_at : (levels t bits : ℕ) → stage_of levels t ≡ Rank bits → (t < 85 * levels) × (t % 85 ≡ bits + 1)
rank_at levels t bits e =
    let is = rank_from (nat_lt t (85 * levels)) (t % 85 == 0) (t % 85 - 1) bits e in
    let apart = is.1 in
    let same = is.2 in
    (ltb-true t (85 * levels) is.0, grind (arith, nat_tests, apart, same))

pub print_at : (levels t : ℕ) → stage_of levels t ≡ Print → 85 * levels ≤ t
print_at levels t e = ltb-false t (85 * levels) (print_from (nat_lt t (85 * levels)) (t % 85 == 0) (t % 85 - 1) e)

-- ---- the next phase

pub record IsRankNext (levels t bits : ℕ) : Type 0 where
  pub stage : stage_of levels (t + 1) ≡ Rank bits
  pub level : level_of (t + 1) ≡ level_of t
  pub within : t + 1 < 85 * levels

pub behind_spread : (levels t : ℕ) → stage_of levels t ≡ Spread → IsRankNext levels t 0
behind_spread levels t e =
    let is = spread_at levels t e in
    let less = is.0 in
    let whole = is.1 in
    record {
      stage = stage_rank levels (t + 1) 0 (omega (arith, less, whole)) (omega (arith, whole));
      level = omega (arith, whole);
      within = omega (arith, less, whole);
    }

pub behind_rank : (levels t bits : ℕ) → stage_of levels t ≡ Rank bits → bits < 83 → IsRankNext levels t (bits + 1)
behind_rank levels t bits e more =
    let is = rank_at levels t bits e in
    let less = is.0 in
    let some = is.1 in
    record {
      stage = stage_rank levels (t + 1) (bits + 1) (omega (arith, less, some, more)) (omega (arith, some, more));
      level = omega (arith, some, more);
      within = omega (arith, less, some, more);
    }

pub record IsLevelNext (levels t : ℕ) : Type 0 where
  pub level : level_of (t + 1) ≡ level_of t + 1
  pub within : t + 1 ≤ 85 * levels
  pub whole : (t + 1) % 85 ≡ 0

pub behind_ranks : (levels t bits : ℕ) → stage_of levels t ≡ Rank bits → 83 ≤ bits → IsLevelNext levels t
behind_ranks levels t bits e all =
    let is = rank_at levels t bits e in
    let less = is.0 in
    let some = is.1 in
    record {
      level = omega (arith, some, all);
      within = omega (arith, less);
      whole = omega (arith, some, all);
    }
