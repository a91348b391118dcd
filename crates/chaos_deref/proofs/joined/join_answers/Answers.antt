use Rattle.std.proofs.Common.{◌+◌, ◌<◌, get_or, ◌∙◌, arith}
use Rattle.std.proofs.lemmas.List.{length-set}
use Rattle.chaos_deref.proofs.Steps.{join_step, taken_step}
use Rattle.chaos_deref.proofs.joined.join_answers.Goals as goal

pub loop-i-preserved : goal.loop-i-preserved
loop-i-preserved c =
    let page = c.page_at-page.result in
    let low : page < 16 = omega (arith, c.page_at-page.ensures.node, c.requires.few) in
    let size = c.loop-i.invariant.size in
    record {
      size = length-set c.loop-i.taken page (get_or c.loop-i.taken page 0 + 1) ∙ size;
      placed = join_step c.args.extent c.args.nodes c.as_slice-all.result.now c.args.answers.now c.loop-i.i page
          (get_or c.loop-i.taken page 0) c.place.result c.loop-i.places c.push.new.self
          c.loop-i.invariant.placed c.page_at-page.ensures.page (c.loop-i.invariant.taken page low) c.place.ensures c.in_ok-push.ensures.ok;
      taken = λ k h. taken_step c.args.extent c.args.nodes c.as_slice-all.result.now c.loop-i.taken c.loop-i.i k page c.loop-i-test.true
          c.page_at-page.ensures.page (omega (arith, size, h)) (c.loop-i.invariant.taken k h);
    }
