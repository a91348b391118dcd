use Rattle.std.proofs.Common.{ap, ◌∙◌, subst}
use Rattle.std.proofs.lemmas.Result.{on_ok_weaker}
use Rattle.chaos_inspect.specs.Inspecting.{InRound, IsSeeking}
use Rattle.chaos_inspect.specs.Met.{places_asked}
use Rattle.chaos_inspect.proofs.inspection.Inspection.take_places.Goals as goal

pub returns-in-Indexes-clause-inspecting : goal.returns-in-Indexes-clause-inspecting
returns-in-Indexes-clause-inspecting c = on_ok_weaker c.find_indexes.result (λ e owners store h seeking taken.
    let x = c.args.self.now in
    e owners store c.args.tables.now h (subst (InRound x owners store) c.in-Indexes.is seeking.1)
    (c.as_slice.ensures ∙ c.in_ok-told.ensures owners store c.args.asking h.owned seeking taken
    ∙ ap (λ a. places_asked x.facts owners store a x.me) c.in-Indexes.is)) c.find_indexes.ensures.inspecting

pub returns-in-References-clause-inspecting : goal.returns-in-References-clause-inspecting
returns-in-References-clause-inspecting c = on_ok_weaker c.enter_told.result (λ e owners store h seeking taken.
    let x = c.args.self.now in
    e owners store c.args.tables.now h (subst (IsSeeking x owners store) c.in-References.is seeking)
    (c.as_slice-in-References.ensures ∙ c.in_ok-told.ensures owners store c.args.asking h.owned seeking taken
    ∙ ap (λ a. places_asked x.facts owners store a x.me) c.in-References.is)) c.enter_told.ensures.inspecting

pub returns-in-References-clause-places : goal.returns-in-References-clause-places
returns-in-References-clause-places c = λ owners store h seeking taken places.
    let x = c.args.self.now in
    c.enter_told.ensures.places owners store c.args.tables.now h (subst (IsSeeking x owners store) c.in-References.is seeking)
    (c.as_slice-in-References.ensures ∙ c.in_ok-told.ensures owners store c.args.asking h.owned seeking taken
    ∙ ap (λ a. places_asked x.facts owners store a x.me) c.in-References.is) places
