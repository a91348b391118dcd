use Rattle.chaos_cut.proofs.laws.parts_are_bisected.Goals as goal
use Rattle.chaos_cut.specs.Depth.{depth_is_free, halves_have_parts, levels_are_enough, levels_are_least, one_part_is_first}

pub returns-clause-one : goal.returns-clause-one
returns-clause-one c = one_part_is_first

pub returns-clause-halves : goal.returns-clause-halves
returns-clause-halves c = halves_have_parts

pub returns-clause-depth : goal.returns-clause-depth
returns-clause-depth c = depth_is_free

pub returns-clause-enough : goal.returns-clause-enough
returns-clause-enough c = levels_are_enough

pub returns-clause-least : goal.returns-clause-least
returns-clause-least c = levels_are_least
