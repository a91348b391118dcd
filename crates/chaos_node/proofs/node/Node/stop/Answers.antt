use Rattle.chaos_node.proofs.Making.{made_end}
use Rattle.chaos_node.proofs.node.Node.stop.Goals as goal

pub returns : goal.returns
returns c =
    record {
      made = made_end c.args.self.now _ c.requires (c.enter_end.ensures.stands c.args.self.now.face.me c.args.self.now.face.count)
          c.enter_end.ensures.left;
    }
