use Rattle.std.proofs.Common.{◌≡◌, ◌++◌, rules, subst}
use Rattle.std.specs.List.{AllZip}
use Rattle.bsp_core.specs.Views.{WorksFor}
use Rattle.bsp_threads.specs.Rounds.{HasGone}
use Rattle.bsp_threads.proofs.Rounding.{zip_append}
use Rattle.bsp_threads.proofs.round.+fn-round-join_mut+arg2+fn-round-join_mut+arg3+round.Goals as goal

pub returns : goal.returns
returns g t c =
    let R = HasGone g.N.Phased.view (WorksFor g.N.Phased.IsPlan g.N.Phased.count g.N.Phased.rows g.N.Phased.holds) c.args.queues.now in
    let a = c.split_at_mut-front.result.0.now in
    let b = c.split_at_mut-front.result.1.now in
    let front : AllZip R a c.front-1.given.0 = search rules in
    let back : AllZip R b c.back-1.given.0 = search rules in
    let whole : a ++ b ≡ c.args.seats.now = search rules in
    record {
      gone = subst (λ k. AllZip R k (c.front-1.given.0 ++ c.back-1.given.0)) whole
          (zip_append R a b c.front-1.given.0 c.back-1.given.0 front back);
    }
