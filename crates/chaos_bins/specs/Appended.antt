-- What nodes tell each other in a run, told without the order in which they have their particles.
use Rattle.std.specs.Prelude.{◌≡◌, ◌≢◌, refl, ℕ, zero, suc, ◌+◌, ◌*◌, ◌==◌, ◌≤◌, ◌<◌, ℤ, false, cond, not, if◌then◌else◌, List, [], ◌∷◌}
use Rattle.std.specs.Prelude.{◌++◌, flat_map}
use Rattle.std.proofs.Common.{ap, sym, ◌∙◌, arith, append_assoc, append-nil, add-one}
use Rattle.std.proofs.lemmas.Bool.Decides.{nat_tests}
use Rattle.std.proofs.lemmas.List.Concat.{flat_map-append}
use Rattle.chaos_letter.specs.declared.letter.Letter.{Letter}
use Rattle.bsp_desk.specs.Uniform.{letters_of}
use Rattle.bsp_desk.specs.Uniform.{letter_in as letters_in}
use Rattle.bsp_desk.specs.Ways.{sends}
use Rattle.bsp_desk.specs.declared.way.Way.TheVariants.{ToFirst}
use Rattle.chaos_dist.specs.Counting.{below, below-last}
use Rattle.chaos_bins.specs.Bags.{SameBag}
use Rattle.chaos_bins.specs.Bins.{moving}
use Rattle.chaos_bins.specs.Moving.{rows_are_moving}
use Rattle.chaos_bins.specs.Plan.{AppendPlan, IsAppendPlan, append_letter, phases_of, print_letter, print_rows, round_at, round_in, rows_at}
use Rattle.chaos_bins.specs.Plan.{sizes_letter}
use Rattle.chaos_bins.specs.PlanLaws.{at_appending, at_printing, at_sizing}
use Rattle.chaos_bins.specs.Rounds.{flat_map-same}

-- behind the last round each node but node 0 tells node 0 what it has
abbrev pub print_letters : AppendPlan → ℕ → ℕ → List Letter
print_letters plan p q = if sends ToFirst p q then print_letter plan.steps (print_rows plan p) ∷ [] else []

-- From p to q: in each round how many particles follow, and then these. They are, as a bag, those that p has before the
-- round and whose bin of that round q owns.
pub record AreAppended (plan : AppendPlan) (p q : ℕ) (letters : List Letter) : Type 0 where
  pub order : ℕ → List (ℤ × ℤ)
  pub bag : (t : ℕ) → t ≤ plan.steps → SameBag (moving plan.bins plan.nodes plan.particles t p q) (order t)
  pub are : letters
      ≡ flat_map (λ t. sizes_letter t (order t) ∷ append_letter t (order t) ∷ []) (below (plan.steps + 1)) ++ print_letters plan p q

-- ---- two phases at a time

paired : {X : Type 0} (g : ℕ → List X) (n : ℕ) → flat_map g (below (2 * n)) ≡ flat_map (λ t. g (2 * t) ++ g (2 * t + 1)) (below n)
paired g zero = refl
paired {X} g (suc n) =
    let h = λ (t : ℕ). g (2 * t) ++ g (2 * t + 1) in
    let two : 2 * suc n ≡ suc (suc (2 * n)) = omega arith in
    let next : suc (2 * n) ≡ 2 * n + 1 = omega arith in
    let last : flat_map g (below (suc (suc (2 * n)))) ≡ flat_map g (below (2 * n)) ++ g (2 * n) ++ g (suc (2 * n)) =
    more g (suc (2 * n)) ∙ ap (λ (l : List X). l ++ g (suc (2 * n))) (more g (2 * n)) in
    ap (λ k. flat_map g (below k)) two
    ∙ last
    ∙ append_assoc (flat_map g (below (2 * n))) (g (2 * n)) (g (suc (2 * n)))
    ∙ ap (λ k. flat_map g (below (2 * n)) ++ (g (2 * n) ++ g k)) next
    ∙ ap (λ l. l ++ h n) (paired g n)
    ∙ sym (more h n)
  where
    more : (g : ℕ → List X) (n : ℕ) → flat_map g (below (suc n)) ≡ flat_map g (below n) ++ g n
    more g n =
        ap (flat_map g) (below-last n) ∙ flat_map-append g (below n) (n ∷ []) ∙ ap (λ l. flat_map g (below n) ++ l) (append-nil (g n))

all_sent : (p q : ℕ) (x : Letter) → p ≢ q → (if not (p == q) then x ∷ [] else []) ≡ x ∷ []
all_sent p q x apart = ap (λ b. cond (not b) (x ∷ []) []) (differs p q apart)
  where
    differs : (p q : ℕ) → p ≢ q → (p == q) ≡ false
    differs p q apart = grind (arith, nat_tests)

last_phase : (g : ℕ → List Letter) (n : ℕ) → flat_map g (below (n + 1)) ≡ flat_map g (below n) ++ g n
last_phase g n =
    ap (λ k. flat_map g (below k)) (add-one n)
    ∙ ap (flat_map g) (below-last n)
    ∙ flat_map-append g (below n) (n ∷ [])
    ∙ ap (λ l. flat_map g (below n) ++ l) (append-nil (g n))

letters_are : (plan : AppendPlan) (p q : ℕ) → p ≢ q → letters_of (phases_of plan) (round_at plan) p q
    ≡ flat_map (λ t. sizes_letter t (rows_at plan t p q) ∷ append_letter t (rows_at plan t p q) ∷ []) (below (plan.steps + 1))
    ++ print_letters plan p q
letters_are plan p q apart =
    let g = λ (s : ℕ). letters_in (round_at plan s) p q in
    let both = λ (t : ℕ). sizes_letter t (rows_at plan t p q) ∷ append_letter t (rows_at plan t p q) ∷ [] in
    last_phase g (2 * (plan.steps + 1))
    ∙ ap (λ l. l ++ g (2 * (plan.steps + 1))) (paired g (plan.steps + 1)
    ∙ flat_map-same (λ t. g (2 * t) ++ g (2 * t + 1)) both 0 (plan.steps + 1)
    (λ t l m.
    let within : t ≤ plan.steps = omega (arith, m) in
    ap (λ s. letters_in (round_in plan s) p q ++ g (2 * t + 1)) (at_sizing plan.steps t within)
    ∙ ap (λ s. (if not (p == q) then sizes_letter t (rows_at plan t p q) ∷ [] else []) ++ letters_in (round_in plan s) p q)
    (at_appending plan.steps t within)
    ∙ ap (λ l. l ++ (if not (p == q) then append_letter t (rows_at plan t p q) ∷ [] else []))
    (all_sent p q (sizes_letter t (rows_at plan t p q)) apart)
    ∙ ap (λ l. sizes_letter t (rows_at plan t p q) ∷ l) (all_sent p q (append_letter t (rows_at plan t p q)) apart)))
    ∙ ap (λ s. flat_map both (below (plan.steps + 1)) ++ letters_in (round_in plan s) p q) (at_printing plan.steps)

-- ---- what the law function says

-- the letters of the plan are these
abbrev pub PlanIsAppended : Type 0
PlanIsAppended =
    (plan : AppendPlan) (p q : ℕ) → IsAppendPlan plan → p < plan.nodes → p ≢ q
    → AreAppended plan p q (letters_of (phases_of plan) (round_at plan) p q)

pub plan_is_appended : PlanIsAppended
plan_is_appended plan p q is low apart = record {
  order = λ t. rows_at plan t p q;
  bag = λ t l. rows_are_moving plan.bins plan.nodes plan.particles t p q is.some_nodes is.in_bins low;
  are = letters_are plan p q apart;
}
