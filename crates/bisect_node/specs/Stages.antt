-- The stages of a bisection, phase by phase, and what is wanted in each.
use Rattle.std.specs.Prelude.{ℕ, ◌+◌, ◌-◌, ◌*◌, ◌%◌, ◌/◌, ◌==◌, nat_lt, if◌then◌else◌}
use Rattle.chaos_letter.specs.declared.kind.Kind.TheVariants as kind
use Rattle.chaos_letter.specs.declared.wanted.Wanted.{Wanted}
use Rattle.bsp_desk.specs.declared.way.Way.{Way}
use Rattle.bsp_desk.specs.declared.way.Way.TheVariants.{ToAll, ToFirst}
use Rattle.chaos_cut.specs.Bisection.{levels_of}
use Rattle.bisect_node.specs.declared.stage.Stage.{Stage}
use Rattle.bisect_node.specs.declared.stage.Stage.TheVariants.{Spread, Rank, Print}

-- how many phases there are for so many parts
abbrev pub phases_of : ℕ → ℕ
phases_of parts = 85 * levels_of parts + 1

-- the stage of phase t: at each level a Spread and 84 Ranks, before each of which so many bits are found, and at the end Print
abbrev pub stage_of : ℕ → ℕ → Stage
stage_of levels t = if nat_lt t (85 * levels) then (if t % 85 == 0 then Spread else Rank (t % 85 - 1)) else Print

-- its level
abbrev pub level_of : ℕ → ℕ
level_of t = t / 85

-- who sends
abbrev pub way_of : Stage → Way
way_of Spread = ToAll
way_of (Rank bits) = ToAll
way_of Print = ToFirst

-- what is wanted of a letter of phase t, where there are so many axes and so many numbers are told
abbrev pub wanted_in : ℕ → ℕ → ℕ → Stage → Wanted
wanted_in axes count t Spread = record { kind = kind.Spread; execution = t; site = 0; group = 2 * axes; least = count; most = count }
wanted_in axes count t (Rank bits) = record { kind = kind.Rank; execution = t; site = 0; group = 1; least = count; most = count }
wanted_in axes count t Print = record { kind = kind.Print; execution = t; site = 0; group = 2; least = 0; most = 4294967296 }
