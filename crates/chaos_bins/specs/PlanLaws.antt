-- The rows of a plan meet: each phase is a round.
use Rattle.std.specs.Prelude.{◌≡◌, refl, ℕ, zero, suc, ◌+◌, ◌-◌, ◌*◌, ◌==◌, ◌≤◌, ◌<◌, ℤ, Bool, true, false, cond, List, [], ◌∷◌, length}
use Rattle.std.specs.Prelude.{count_by, filter}
use Rattle.std.proofs.Common.{ap, sym, ◌∙◌, arith, add-one}
use Rattle.std.proofs.lemmas.Bool.Decides.{nat_tests}
use Rattle.std.proofs.lemmas.List.{length-map}
use Rattle.chaos_letter.specs.Fits.{Fits, IsWantedLength}
use Rattle.bsp_core.specs.Views.{Meets}
use Rattle.bsp_desk.specs.Rounds.{IsRound}
use Rattle.bsp_desk.specs.Uniform.{uniform_fall, uniform_meets}
use Rattle.bsp_desk.specs.Ways.{not_to_self}
use Rattle.chaos_dist.specs.Counting.{count_up_to, count_up_to-le, length-filter-up_to, up_to}
use Rattle.chaos_bins.specs.Bags.{SameBag}
use Rattle.list_laws.specs.Counts.{first_counted}
use Rattle.chaos_bins.specs.Ascending.{pairs_are_sorted}
use Rattle.chaos_bins.specs.Bins.{bin_at, holder, value}
use Rattle.chaos_bins.specs.Plan.{AppendPlan, IsAppendPlan, append_rows, flat, held_by, letter_due, pairs_in, phases_of, print_rows}
use Rattle.chaos_bins.specs.Plan.{print_wanted, round_at, round_in, rows_at, stage_after, stage_at, wanted_in, way_in}
use Rattle.chaos_bins.specs.declared.stage.Stage.{Stage}
use Rattle.chaos_bins.specs.declared.stage.Stage.TheVariants.{Appending, Ended, Printing, Sizing}

-- ---- where stages are

abbrev pub IsPlace : ℕ → ℕ → Stage → Type 0
IsPlace steps phase (Sizing t) = (phase ≡ 2 * t) × (t ≤ steps)
IsPlace steps phase (Appending t) = (phase ≡ 2 * t + 1) × (t ≤ steps)
IsPlace steps phase Printing = phase ≡ 2 * (steps + 1)
IsPlace steps phase Ended = 2 * (steps + 1) < phase

is_last : (t steps : ℕ) → (t == steps) ≡ true → t ≡ steps
is_last t steps e = grind (arith, nat_tests)

not_last : (t steps : ℕ) → t ≤ steps → (t == steps) ≡ false → t + 1 ≤ steps
not_last t steps l e = grind (arith, nat_tests)

is_place_after : (steps phase : ℕ) (stage : Stage) → IsPlace steps phase stage → IsPlace steps (suc phase) (stage_after steps stage)
is_place_after steps phase (Sizing t) h = (omega (arith, h.0), h.1)
is_place_after steps phase (Appending t) h = by (t == steps) refl
  where
    by : (b : Bool) → (t == steps) ≡ b → IsPlace steps (suc phase) (cond b Printing (Sizing (t + 1)))
    by true e = omega (arith, h.0, is_last t steps e)
    by false e = (omega (arith, h.0), not_last t steps h.1 e)
is_place_after steps phase Printing h = omega (arith, h)
is_place_after steps phase Ended h = omega (arith, h)

pub placed : (steps phase : ℕ) → IsPlace steps phase (stage_at steps phase)
placed steps zero = (omega arith, omega arith)
placed steps (suc phase) = is_place_after steps phase (stage_at steps phase) (placed steps phase)

same_last : (t : ℕ) → (t == t) ≡ true
same_last t = grind (arith, nat_tests)

apart_last : (t steps : ℕ) → t < steps → (t == steps) ≡ false
apart_last t steps l = grind (arith, nat_tests)

pub at_sizing : (steps t : ℕ) → t ≤ steps → stage_at steps (2 * t) ≡ Sizing t
at_sizing steps zero l = refl
at_sizing steps (suc t) l =
    let two : 2 * suc t ≡ suc (suc (2 * t)) = omega arith in
    ap (stage_at steps) two
    ∙ ap (λ s. stage_after steps (stage_after steps s)) (at_sizing steps t (omega (arith, l)))
    ∙ ap (λ b. cond b Printing (Sizing (t + 1))) (apart_last t steps (omega (arith, l)))
    ∙ ap Sizing (add-one t)

pub at_appending : (steps t : ℕ) → t ≤ steps → stage_at steps (2 * t + 1) ≡ Appending t
at_appending steps t l = ap (stage_at steps) (add-one (2 * t)) ∙ ap (stage_after steps) (at_sizing steps t l)

pub at_printing : (steps : ℕ) → stage_at steps (2 * (steps + 1)) ≡ Printing
at_printing steps =
    let two : 2 * (steps + 1) ≡ suc (2 * steps + 1) = omega arith in
    ap (stage_at steps) two
    ∙ ap (stage_after steps) (at_appending steps steps (omega arith))
    ∙ ap (λ b. cond b Printing (Sizing (steps + 1))) (same_last steps)

-- ---- lengths

pub length-flat : (pairs : List (ℤ × ℤ)) → length (flat pairs) ≡ 2 * length pairs
length-flat [] = refl
length-flat (x ∷ pairs) = omega (arith, length-flat pairs)

pub pairs_in-flat : (pairs : List (ℤ × ℤ)) → pairs_in (flat pairs) ≡ pairs
pairs_in-flat [] = refl
pairs_in-flat (x ∷ pairs) = ap (λ l. x ∷ l) (pairs_in-flat pairs)

all_counted : {X : Type 0} (xs : List X) → count_by (λ x. true) xs ≡ length xs
all_counted [] = refl
all_counted (x ∷ xs) = first_counted (λ x. true) x xs ∙ omega (arith, all_counted xs)

pub length-bag : {X : Type 0} (xs ys : List X) → SameBag xs ys → length xs ≡ length ys
length-bag xs ys same = sym (all_counted xs) ∙ same (λ x. true) ∙ all_counted ys

print_rows_few : (plan : AppendPlan) (p : ℕ) → length (print_rows plan p) ≤ plan.particles.count
print_rows_few plan p =
    let holds = λ (i : ℕ). holder plan.bins plan.nodes plan.particles (suc plan.steps) i == p in
    let sorted : length (held_by plan p) ≡ length (print_rows plan p) =
    length-bag (held_by plan p) (print_rows plan p) (pairs_are_sorted (held_by plan p)).0 in
    let kept : length (held_by plan p) ≡ count_up_to holds plan.particles.count =
    length-map (filter holds (up_to plan.particles.count)) (λ i. (bin_at plan.bins plan.particles plan.steps i, value plan.particles i))
    ∙ length-filter-up_to holds plan.particles.count in
    omega (arith, sorted, kept, count_up_to-le holds plan.particles.count)

-- ---- each phase is a round

few : (plan : AppendPlan) → IsAppendPlan plan → (p : ℕ) → IsWantedLength (print_wanted plan.steps) (length (flat (print_rows plan p)))
few plan is p =
    let long : length (flat (print_rows plan p)) ≡ 2 * length (print_rows plan p) = length-flat (print_rows plan p) in
    record {
      groups = (length (print_rows plan p), omega (arith, long));
      least = omega arith;
      most = omega (arith, long, print_rows_few plan p, is.few_particles);
    }

fits_at : (plan : AppendPlan) → IsAppendPlan plan → (stage : Stage) (p q : ℕ) → Fits (wanted_in plan stage p q) (letter_due plan stage p q)
fits_at plan is (Sizing t) p q =
    record { kind = refl; execution = refl; site = refl; count = record { groups = (1, refl); least = omega arith; most = omega arith } }
fits_at plan is (Appending t) p q =
    let long : length (flat (rows_at plan t p q)) ≡ 2 * length (rows_at plan t p q) = length-flat (rows_at plan t p q) in
    record {
      kind = refl;
      execution = refl;
      site = refl;
      count = record {
        groups = (length (rows_at plan t p q), omega (arith, long));
        least = omega (arith, long);
        most = omega (arith, long);
      };
    }
fits_at plan is Printing p q = record { kind = refl; execution = refl; site = refl; count = few plan is p }
fits_at plan is Ended p q = record { kind = refl; execution = refl; site = refl; count = few plan is p }

pub round_is : (plan : AppendPlan) → IsAppendPlan plan → (stage : Stage) → IsRound plan.nodes (round_in plan stage)
round_is plan is stage = record { self = not_to_self (way_in stage); fits = λ p q lp lq e. fits_at plan is stage p q }

pub append_meets : (plan : AppendPlan) → IsAppendPlan plan → (phase : ℕ) → Meets plan.nodes (append_rows plan phase)
append_meets plan is phase =
    uniform_meets plan.nodes (phases_of plan) (round_at plan) (λ s less. round_is plan is (stage_at plan.steps s)) phase

pub append_falls : (plan : AppendPlan) (phase : ℕ) → (append_rows plan (phase + 1) 0).left ≤ (append_rows plan phase 0).left - 1
append_falls plan phase = uniform_fall plan.nodes (phases_of plan) (round_at plan) phase
