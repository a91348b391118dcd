use Rattle.std.proofs.Common.{◌≡◌, ◌*◌, ◌≤◌, ◌/◌, ap, sym, ◌∙◌, arith, length, refl}
use Rattle.chaos_table.specs.Noting.{noted_all}
use Rattle.chaos_table.proofs.Noted.{pair_step, none_left}
use Rattle.chaos_table.proofs.owners.note_pairs.Goals as goal

pub loop-i-preserved : goal.loop-i-preserved
loop-i-preserved c =
    pair_step c.args.first c.args.nodes c.args.list.now c.loop-i.i c.loop-i.owners.items c.note_at.new.owners.items _ c.loop-i-test.true
    c.note_at.ensures c.loop-i.invariant

pub returns : goal.returns
returns c =
    ap (λ ps. noted_all c.args.first c.args.nodes ps c.loop-i.owners.items)
    (sym (none_left c.args.list.now c.loop-i.i (2 * c.loop-i.i) refl c.loop-i-test.false)) ∙ c.loop-i.invariant
