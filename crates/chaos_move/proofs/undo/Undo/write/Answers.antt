use Rattle.std.proofs.Common.{◌∙◌, ap}
use Rattle.chaos_move.specs.Undoing.{taken_back}
use Rattle.chaos_move.proofs.Back.{write_back}
use Rattle.chaos_move.proofs.undo.Undo.write.Goals as goal

pub returns-clause-back : goal.returns-clause-back
returns-clause-back c =
    let s = c.stands_at-kept.ensures in
    ap (λ z. taken_back z c.put.new.lists) c.in_ok-push.ensures.items
    ∙ write_back c.self.inside.kept.items c.stands_at-kept.result c.args.lists.now c.put.new.lists c.args.list c.args.at _ s.list s.at s.old
    c.put.ensures
    ∙ ap (λ z. taken_back z c.args.lists.now) c.self.view_is
