use Rattle.std.proofs.Common.{ap, sym, ◌∙◌}
use Rattle.std.specs.List.{flat_map}
use Rattle.std.proofs.lemmas.Result.{on_ok_weaker}
use Rattle.chaos_inspect.proofs.Homing.{joined_right}
use Rattle.chaos_inspect.proofs.inspection.Inspection.take_rows.Goals as goal

pub returns-then-asks-clause-inspecting : goal.returns-then-asks-clause-inspecting
returns-then-asks-clause-inspecting c = on_ok_weaker c.seek_references.result (λ e owners store h sound taken.
    let x = c.args.self.now in
    e owners store c.args.tables.now h sound (c.in_ok-rows.ensures ∙ ap (flat_map (λ l. l)) (c.as_slice.ensures ∙ taken)
    ∙ joined_right x.facts owners store x.me h.loop.accepted)) c.seek_references.ensures.inspecting

pub returns-else-asks-clause-inspecting : goal.returns-else-asks-clause-inspecting
returns-else-asks-clause-inspecting c = on_ok_weaker c.enter_rows.result (λ e owners store h sound taken.
    let x = c.args.self.now in
    e owners store c.args.tables.now h sound
    (c.as_slice-else-asks.ensures ∙ c.in_ok-rows.ensures ∙ ap (flat_map (λ l. l)) (c.as_slice.ensures ∙ taken)
    ∙ joined_right x.facts owners store x.me h.loop.accepted)
    (sym c.asks.ensures ∙ c.if-asks.false)) c.enter_rows.ensures.inspecting

pub returns-else-asks-clause-places : goal.returns-else-asks-clause-places
returns-else-asks-clause-places c = λ owners store h sound taken places.
    let x = c.args.self.now in
    c.enter_rows.ensures.places owners store c.args.tables.now h sound
    (c.as_slice-else-asks.ensures ∙ c.in_ok-rows.ensures ∙ ap (flat_map (λ l. l)) (c.as_slice.ensures ∙ taken)
    ∙ joined_right x.facts owners store x.me h.loop.accepted)
    (sym c.asks.ensures ∙ c.if-asks.false) places
