use Rattle.bsp_desk.specs.Picks.{tail_ascends}
use Rattle.bsp_desk.proofs.desk.Desk.post.Goals as goal

pub invariant_of-self : goal.invariant_of-self
invariant_of-self c =
    let s = c.self.inside in
    record {
      me = c.self.invariant.me;
      few = c.self.invariant.few;
      left = c.self.invariant.left;
      out = tail_ascends s.me s.count s.out.items c.in-Some.x c.pop_front.new.self.items c.in-Some.ensures.items c.self.invariant.out;
      due = c.self.invariant.due;
      room = c.self.invariant.room;
    }
