use Rattle.std.proofs.Common.{refl, sym, subst}
use Rattle.std.proofs.lemmas.Option.{slice_get_read}
use Rattle.bsp_core.specs.Views.{Below}
use Rattle.bsp_core.specs.declared.phased.Want.{Want}
use Rattle.bsp_core.proofs.Dues.{next_below}
use Rattle.bsp_core.proofs.steps.next_at.Goals as goal

pub returns : goal.returns
returns g c = (
  c.index-nodes-at.result,
  slice_get_read c.args.nodes.now _ c.args.at c.index-nodes-at.result refl c.requires c.index-nodes-at.is,
  c.next.ensures.is,
  subst (λ (w : Want). Below w (g.N.Phased.view c.index-nodes-at.result).face.count) (sym c.next.ensures.is)
      (next_below (g.N.Phased.view c.index-nodes-at.result).face c.next.ensures.out c.next.ensures.due),
)
