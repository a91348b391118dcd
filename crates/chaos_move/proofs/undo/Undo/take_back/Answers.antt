use Rattle.std.proofs.Common.{◌∙◌, ap, sym}
use Rattle.chaos_move.specs.Undoing.{taken_back}
use Rattle.chaos_move.proofs.Back.{back_last}
use Rattle.chaos_move.proofs.undo.Undo.take_back.Goals as goal

pub loop-kept-preserved : goal.loop-kept-preserved
loop-kept-preserved c =
    ap (taken_back c.pop.new.self.items) c.put_back.ensures
    ∙ sym (back_last c.pop.new.self.items c.in-Some.kept c.loop-kept.lists)
    ∙ ap (λ z. taken_back z c.loop-kept.lists) (sym c.in-Some.ensures.items)
    ∙ c.loop-kept.invariant
