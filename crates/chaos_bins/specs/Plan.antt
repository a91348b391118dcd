-- The plan of a run: what nodes send to each other, phase by phase.
use Rattle.std.specs.Prelude.{ℕ, zero, suc, ◌+◌, ◌*◌, ◌^◌, ◌==◌, ◌≤◌, ℤ, pos, if◌then◌else◌, List, [], ◌∷◌, length, map, filter, flat_map}
use Rattle.chaos_letter.specs.declared.kind.Kind.TheVariants.{Append, Print, Sizes}
use Rattle.chaos_letter.specs.declared.letter.Letter.{Letter}
use Rattle.chaos_letter.specs.declared.wanted.Wanted.{Wanted}
use Rattle.bsp_core.specs.Views.{Face}
use Rattle.bsp_desk.specs.Rounds.{Round}
use Rattle.bsp_desk.specs.Uniform.{rows_of}
use Rattle.bsp_desk.specs.Ways.{sends}
use Rattle.bsp_desk.specs.declared.way.Way.{Way}
use Rattle.bsp_desk.specs.declared.way.Way.TheVariants.{ToAll, ToFirst}
use Rattle.chaos_dist.specs.Counting.{up_to}
use Rattle.chaos_bins.specs.Bins.{Particles, bin_at, holder, pair_le, sorted_by, value}
use Rattle.chaos_bins.specs.Moving.{AreInBins, rows}
use Rattle.chaos_bins.specs.declared.stage.Stage.{Stage}
use Rattle.chaos_bins.specs.declared.stage.Stage.TheVariants.{Appending, Ended, Printing, Sizing}

-- so many steps of these particles in so many bins, on so many nodes
pub record AppendPlan : Type 0 where
  pub bins : ℕ
  pub steps : ℕ
  pub nodes : ℕ
  pub particles : Particles

pub record IsAppendPlan (plan : AppendPlan) : Type 0 where
  pub some_bins : 1 ≤ plan.bins
  pub few_bins : plan.bins ≤ 2 ^ 16
  pub few_steps : plan.steps ≤ 1000
  pub some_nodes : 1 ≤ plan.nodes
  pub few_nodes : plan.nodes ≤ 16
  pub some_particles : 1 ≤ plan.particles.count
  pub few_particles : plan.particles.count ≤ 2 ^ 20
  pub in_bins : AreInBins plan.bins plan.particles

-- what goes from p to q in round t, in the order in which p has it
abbrev pub rows_at : AppendPlan → ℕ → ℕ → ℕ → List (ℤ × ℤ)
rows_at plan t p q = rows plan.bins plan.nodes plan.particles t p q

-- bin and value of the particles that p has at the end
abbrev pub held_by : AppendPlan → ℕ → List (ℤ × ℤ)
held_by plan p =
    map (λ i. (bin_at plan.bins plan.particles plan.steps i, value plan.particles i))
    (filter (λ i. holder plan.bins plan.nodes plan.particles (suc plan.steps) i == p) (up_to plan.particles.count))

-- the same in their order: what p tells node 0
abbrev pub print_rows : AppendPlan → ℕ → List (ℤ × ℤ)
print_rows plan p = sorted_by pair_le (held_by plan p)

-- ---- letters

-- the numbers of pairs, one after another
abbrev pub flat : List (ℤ × ℤ) → List ℤ
flat pairs = flat_map (λ (x : ℤ × ℤ). x.0 ∷ x.1 ∷ []) pairs

-- and back: a last number alone is left out
abbrev pub pairs_in : List ℤ → List (ℤ × ℤ)
pairs_in (bin ∷ value ∷ rest) = (bin, value) ∷ pairs_in rest
pairs_in _ = []

-- how many particles follow
abbrev pub sizes_letter : ℕ → List (ℤ × ℤ) → Letter
sizes_letter t pairs = record { kind = Sizes; execution = t; site = 0; numbers = pos (length pairs) ∷ [] }

abbrev pub append_letter : ℕ → List (ℤ × ℤ) → Letter
append_letter t pairs = record { kind = Append; execution = t; site = 0; numbers = flat pairs }

-- behind so many steps
abbrev pub print_letter : ℕ → List (ℤ × ℤ) → Letter
print_letter steps pairs = record { kind = Print; execution = steps + 1; site = 0; numbers = flat pairs }

abbrev pub sizes_wanted : ℕ → Wanted
sizes_wanted t = record { kind = Sizes; execution = t; site = 0; group = 1; least = 1; most = 1 }

-- just so many pairs
abbrev pub append_wanted : ℕ → ℕ → Wanted
append_wanted t count = record { kind = Append; execution = t; site = 0; group = 2; least = 2 * count; most = 2 * count }

abbrev pub print_wanted : ℕ → Wanted
print_wanted steps = record { kind = Print; execution = steps + 1; site = 0; group = 2; least = 0; most = 2 ^ 32 }

-- ---- phases

-- the stage behind a stage, in a run of so many steps
abbrev pub stage_after : ℕ → Stage → Stage
stage_after steps (Sizing t) = Appending t
stage_after steps (Appending t) = if t == steps then Printing else Sizing (t + 1)
stage_after steps Printing = Ended
stage_after steps Ended = Ended

-- the stage of a phase
abbrev pub stage_at : ℕ → ℕ → Stage
stage_at steps zero = Sizing 0
stage_at steps (suc phase) = stage_after steps (stage_at steps phase)

-- two for each round, and the last
abbrev pub phases_of : AppendPlan → ℕ
phases_of plan = 2 * (plan.steps + 1) + 1

abbrev pub way_in : Stage → Way
way_in (Sizing t) = ToAll
way_in (Appending t) = ToAll
way_in Printing = ToFirst
way_in Ended = ToFirst

abbrev pub letter_due : AppendPlan → Stage → ℕ → ℕ → Letter
letter_due plan (Sizing t) p q = sizes_letter t (rows_at plan t p q)
letter_due plan (Appending t) p q = append_letter t (rows_at plan t p q)
letter_due plan Printing p q = print_letter plan.steps (print_rows plan p)
letter_due plan Ended p q = print_letter plan.steps (print_rows plan p)

abbrev pub wanted_in : AppendPlan → Stage → ℕ → ℕ → Wanted
wanted_in plan (Sizing t) p q = sizes_wanted t
wanted_in plan (Appending t) p q = append_wanted t (length (rows_at plan t p q))
wanted_in plan Printing p q = print_wanted plan.steps
wanted_in plan Ended p q = print_wanted plan.steps

abbrev pub round_in : AppendPlan → Stage → Round
round_in plan stage = record { letter = letter_due plan stage; sent = sends (way_in stage); wanted = wanted_in plan stage }

abbrev pub round_at : AppendPlan → ℕ → Round
round_at plan phase = round_in plan (stage_at plan.steps phase)

-- the face of each node as a phase begins
abbrev pub append_rows : AppendPlan → ℕ → ℕ → Face
append_rows plan = rows_of plan.nodes (phases_of plan) (round_at plan)
