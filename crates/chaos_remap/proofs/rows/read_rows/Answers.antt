use Rattle.std.proofs.Common.{ℕ, ap}
use Rattle.fd_words.specs.Lists.{list_at}
use Rattle.chaos_remap.specs.Rows.{rows_of}
use Rattle.chaos_remap.proofs.Steps.{letter_more}
use Rattle.chaos_remap.proofs.rows.read_rows.Goals as goal

pub loop-sender-preserved : goal.loop-sender-preserved
loop-sender-preserved c =
    letter_more (λ (sender : ℕ). rows_of c.args.width sender (list_at c.args.taken.now sender)) c.loop-sender.sender
    c.loop-sender.rows.items c.add_rows.new.rows.items _ c.loop-sender.invariant
    c.in_ok-add_rows.ensures
    (ap (rows_of c.args.width c.loop-sender.sender) c.list_of.ensures)
