use Rattle.std.proofs.Common.{◌≡◌, ℕ, ◌+◌, ◌<◌, ◌≤◌, ◌==◌, length, get_or, take, count_by, refl, ap, sym, ◌∙◌, arith}
use Rattle.std.specs.Prelude.{slice_set}
use Rattle.std.proofs.lemmas.List.{length-set}
use Rattle.chaos_table.proofs.Placed.{push_placed, next_step}
use Rattle.chaos_table.proofs.pages.placed.Goals as goal

pub loop-owner-preserved : goal.loop-owner-preserved
loop-owner-preserved c =
    let owners = c.args.owners.now in
    let i = c.loop-owner.owner-index in
    let next = c.loop-owner.next in
    let o = get_or owners i 0 in
    let low : o < 16 = c.requires.nodes i 0 c.loop-owner-test.true in
    let size = c.loop-owner.invariant.size in
    record {
      size = length-set next o (get_or next o 0 + 1) ∙ size;
      placed = push_placed (λ node. get_or c.args.before node 0) owners next i c.loop-owner.places c.push.new.self c.loop-owner-test.true
          c.loop-owner.invariant.placed
          (c.loop-owner.invariant.next o low) c.in_ok-push.ensures.ok;
      next = λ k h. next_step owners next (λ node. get_or c.args.before node 0) i k o c.loop-owner-test.true refl (omega (arith, size, h))
          (c.loop-owner.invariant.next k h);
    }
