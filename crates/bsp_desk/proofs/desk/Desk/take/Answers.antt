use Rattle.std.proofs.Common.{◌≡◌, ◌+◌, length, arith, ◌∙◌, ap}
use Rattle.std.proofs.lemmas.List.{length_push}
use Rattle.bsp_desk.specs.Picks.{tail_ascends}
use Rattle.bsp_desk.proofs.desk.Desk.take.Goals as goal

pub invariant_of-self : goal.invariant_of-self
invariant_of-self c =
    let s = c.self.inside in
    let less = c.in-Some.ensures.items in
    let rest = c.pop_front.new.self.items in
    let fewer : length s.due.items ≡ length rest + 1 = ap length less ∙ omega arith in
    let more : length c.push.new.self.items ≡ length s.got.items + 1 =
    ap length c.in-Ok.ensures.items ∙ length_push s.got.items c.args.letter in
    let room = c.push.ensures.capacity in
    record {
      me = c.self.invariant.me;
      few = c.self.invariant.few;
      left = c.self.invariant.left;
      out = c.self.invariant.out;
      due = tail_ascends s.me s.count s.due.items c.in-Some.field-0 rest less c.self.invariant.due;
      room = omega (arith, c.self.invariant.room, fewer, more, room);
    }
