use Rattle.chaos_table.proofs.Telling.{tells, tells_none}
use Rattle.chaos_table.proofs.OfLayout.{counts-of_layout, page-of_layout}
use Rattle.chaos_table.proofs.laws.page_laws.Goals as goal

pub returns : goal.returns
returns c = record { tells = tells; none = tells_none; counts = counts-of_layout; layout = page-of_layout }
