use Rattle.chaos_cut.proofs.laws.regions_are_whole.Goals as goal
use Rattle.chaos_cut.specs.Cover.{regions_are_consecutive, regions_cover}
use Rattle.chaos_cut.specs.Regions.{regions_are_sound}

pub returns-clause-sound : goal.returns-clause-sound
returns-clause-sound c = regions_are_sound

pub returns-clause-cover : goal.returns-clause-cover
returns-clause-cover c = regions_cover

pub returns-clause-consecutive : goal.returns-clause-consecutive
returns-clause-consecutive c = regions_are_consecutive
