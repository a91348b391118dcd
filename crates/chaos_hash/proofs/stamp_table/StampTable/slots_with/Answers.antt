use Rattle.std.proofs.Common.{◌≡◌, ℕ, ap, ◌∙◌, subst, map, pos, IfOk}
use Rattle.std.specs.FinMap as fin
use Rattle.chaos_hash.specs.declared.held.Held.{Held}
use Rattle.chaos_hash.specs.Stamps.{Stamps, chosen_list}
use Rattle.chaos_hash.proofs.stamp_table.StampTable.slots_with.Goals as goal

pub returns : goal.returns
returns c =
    subst (λ es. IfOk c.slots_of.result (λ slots. slots ≡ map (λ (e : ℕ × Held). pos e.1.slot) es))
    (c.deref.ensures.value ∙ c.in_ok-found.ensures ∙ ap (λ (s : Stamps). chosen_list c.args.mask (fin.entries s.held)) c.self.view_is)
    c.slots_of.ensures
