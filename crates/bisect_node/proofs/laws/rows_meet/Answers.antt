use Rattle.bisect_node.specs.RowLaws.{rows_meet_rounds}
use Rattle.bisect_node.proofs.laws.rows_meet.Goals as goal

pub returns : goal.returns
returns c = rows_meet_rounds
