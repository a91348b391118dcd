use Rattle.chaos_hash.proofs.Staying.{stays-entered, stays-cleared}
use Rattle.chaos_hash.proofs.stamp_table.stamps_stay.Goals as goal

pub returns : goal.returns
returns c = record { entered = stays-entered; cleared = stays-cleared }
