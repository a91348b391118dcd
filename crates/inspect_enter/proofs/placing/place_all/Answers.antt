use Rattle.std.proofs.Common.{subst, sym, ◌∙◌, ◌<◌, ◌^◌}
use Rattle.std.specs.List.{AllByRecursion}
use Rattle.fd_program.specs.ListLaws.{all_append, all_among}
use Rattle.inspect_enter.specs.Placed.{MayBeStamped, is_mapped}
use Rattle.inspect_enter.specs.declared.placed.Placed.{Placed}
use Rattle.inspect_enter.proofs.ByFormula.{placed_more, count_more, one_at_most, among_get}
use Rattle.inspect_enter.proofs.placing.place_all.Goals as goal

pub loop-used-preserved : goal.loop-used-preserved
loop-used-preserved c =
    let kept = all_among (MayBeStamped c.args.facts.now) c.args.uses.now _ c.requires.kept
    (among_get c.args.uses.now c.loop-used.used-index _ c.loop-used-test.true) in
    record {
      kept = subst (AllByRecursion (λ (x : Placed). MayBeStamped c.args.facts.now x.used)) (sym c.in_ok-push.ensures.ok)
          (all_append _ c.loop-used.placed _ c.loop-used.invariant.kept (kept, tt));
      locals = subst (AllByRecursion (λ (x : Placed). x.place.local < 2 ^ 63)) (sym c.in_ok-push.ensures.ok)
          (all_append _ c.loop-used.placed _ c.loop-used.invariant.locals (c.place-place.ensures.small, tt));
      next = c.behind-next.ensures ∙ count_more (is_mapped c.args.facts.now) c.args.uses.now c.loop-used.used-index _ c.loop-used.next
          c.loop-used-test.true c.loop-used.invariant.next;
      few = rw c.behind-next.ensures (one_at_most _ c.loop-used.next c.loop-used.used-index c.loop-used.invariant.few);
      places = λ owners owned are. placed_more c.args.facts.now owners c.args.uses.now c.loop-used.used-index _ c.args.places.now
          c.loop-used.next c.loop-used.placed c.push.new.self c.place-place.result
          c.requires.accepted owned kept c.loop-used-test.true are c.loop-used.invariant.next c.given.result c.given.ensures
          c.place-place.ensures.told
          (c.loop-used.invariant.places owners owned are) c.in_ok-push.ensures.ok;
    }
