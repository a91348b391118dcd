use Rattle.section_laws.proofs.Asks.{asks_are}
use Rattle.section_laws.proofs.Reached.{section_rows}
use Rattle.section_laws.proofs.Homed.{section_is_loop, section_is_reached}
use Rattle.section_laws.proofs.laws.section_laws.Goals as goal

pub returns : goal.returns
returns c = record { rows = section_rows; reached = section_is_reached; iterations = section_is_loop; asks = asks_are }
