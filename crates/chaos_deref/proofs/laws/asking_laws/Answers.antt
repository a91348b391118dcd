use Rattle.chaos_deref.proofs.Composed.{asking-gives_places}
use Rattle.chaos_deref.proofs.OfLayout.{asking-gives_layout}
use Rattle.chaos_deref.proofs.laws.asking_laws.Goals as goal

pub returns : goal.returns
returns c = record { places = asking-gives_places; layout = asking-gives_layout }
