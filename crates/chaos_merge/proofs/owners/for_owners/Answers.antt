use Rattle.std.proofs.Common.{ℕ, sym, ◌∙◌}
use Rattle.list_laws.specs.Dealt.{dealt-none}
use Rattle.chaos_hash.specs.declared.held.Held.{Held}
use Rattle.chaos_merge.specs.Merged.{number_of}
use Rattle.chaos_merge.proofs.Steps.{dealt_step}
use Rattle.chaos_merge.proofs.owners.for_owners.Goals as goal

pub loop-entry-init : goal.loop-entry-init
loop-entry-init c = c.in_ok-lists.ensures
    ∙ sym (dealt-none (λ (e : ℕ × Held). e.1.place.owner) (λ (e : ℕ × Held). number_of e.0) 0 c.args.nodes)

pub loop-entry-preserved : goal.loop-entry-preserved
loop-entry-preserved c =
    dealt_step c.args.nodes c.args.found.now c.loop-entry.entry-index _ c.loop-entry.lists c.note.new.lists c.loop-entry-test.true
    c.loop-entry.invariant c.in_ok-note.ensures
