use Rattle.std.proofs.Common.{◌≡◌, ◌+◌, length, arith, ◌∙◌, ap}
use Rattle.std.proofs.lemmas.List.{length_push}
use Rattle.plan_run.specs.Picks.{tail_ascends}
use Rattle.chaos_node.proofs.node.Node.take_next.Goals as goal

pub invariant_of-self : goal.invariant_of-self
invariant_of-self c =
    let e = c.in-Some.ensures.items in
    let k : length c.self.inside.due.items ≡ length c.pop_front.new.self.items + 1 = ap length e ∙ omega arith in
    let j : length c.push.new.self.items ≡ length c.self.inside.got.items + 1 = ap length c.in-Ok.ensures.items
    ∙ length_push c.self.inside.got.items c.args.letter in
    let m = c.push.ensures.capacity in
    record {
      checked = c.self.invariant.checked;
      me = c.self.invariant.me;
      few = c.self.invariant.few;
      left = c.self.invariant.left;
      out = c.self.invariant.out;
      due = tail_ascends c.self.inside.me c.self.inside.session.now.nodes c.self.inside.due.items c.in-Some.field-0
          c.pop_front.new.self.items e c.self.invariant.due;
      sound = c.self.invariant.sound;
      room = omega (arith, c.self.invariant.room, k, j, m);
    }
