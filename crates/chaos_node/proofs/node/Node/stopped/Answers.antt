use Rattle.chaos_node.specs.Changing.{change_with}
use Rattle.chaos_node.proofs.Making.{made_end}
use Rattle.chaos_node.proofs.node.Node.stopped.Goals as goal

pub returns : goal.returns
returns c = λ parts.
    made_end c.args.self.now (change_with parts _) c.requires (c.enter_end.ensures.stands c.args.self.now.face.me
    c.args.self.now.face.count)
    c.enter_end.ensures.left
