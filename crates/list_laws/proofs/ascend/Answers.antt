use Rattle.std.proofs.Common.{◌∙◌}
use Rattle.std.proofs.lemmas.List.Filters.{dedup_is}
use Rattle.list_laws.proofs.Once.{sorted-once}
use Rattle.list_laws.proofs.ascend.Goals as goal

pub returns : goal.returns
returns g c =
    dedup_is g.T.PartialEq.eq _ _ c.dedup.ensures.filtered
    ∙ sorted-once g.T.Ord.cmp g.met.T.Ord.total c.requires g.T.PartialEq.eq g.met.T.Ord.matches_eq _ _ c.sort_unstable.ensures.permutation
    c.sort_unstable.ensures.sorted
