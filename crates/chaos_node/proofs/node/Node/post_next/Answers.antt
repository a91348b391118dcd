use Rattle.plan_run.specs.Picks.{tail_ascends}
use Rattle.chaos_node.proofs.node.Node.post_next.Goals as goal

pub invariant_of-self : goal.invariant_of-self
invariant_of-self c = record {
  checked = c.self.invariant.checked;
  me = c.self.invariant.me;
  few = c.self.invariant.few;
  left = c.self.invariant.left;
  out = tail_ascends c.self.inside.me c.self.inside.session.now.nodes c.self.inside.out.items c.in-Some.x c.pop_front.new.self.items
      c.in-Some.ensures.items c.self.invariant.out;
  due = c.self.invariant.due;
  sound = c.self.invariant.sound;
  room = c.self.invariant.room;
}
