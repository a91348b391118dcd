use Rattle.std.proofs.Common.{◌≡◌, ap, ◌∙◌, map, replicate, subst}
use Rattle.std.proofs.lemmas.Result.{on_ok_weaker}
use Rattle.fd_program.specs.Uses.{read_of}
use Rattle.plan_loop.specs.LoopLetters.{indexes_of, owed_in}
use Rattle.plan_loop.specs.declared.loop_phase.LoopPhase.TheVariants.{IndexValues}
use Rattle.chaos_inspect.specs.Dealing.{numbers_drawn}
use Rattle.chaos_inspect.specs.Inspecting.{AreKnown}
use Rattle.chaos_inspect.specs.declared.spot.Spot.{Spot}
use Rattle.chaos_inspect.proofs.Fetching.{values_right}
use Rattle.chaos_inspect.proofs.IndexLaws.{firsts_given}
use Rattle.chaos_inspect.proofs.inspection.Inspection.take_values.Goals as goal

pub returns-in-First-clause-inspecting : goal.returns-in-First-clause-inspecting
returns-in-First-clause-inspecting c = on_ok_weaker c.fetch_second.result (λ e owners store tables h spots known taken.
    let x = c.args.self.now in
    e owners store tables h
    (c.in_ok-values.ensures
    ∙ ap (λ lists. numbers_drawn lists (replicate 16 0) (map (λ (s : Spot). s.owner) c.as_slice.result.now)) taken
    ∙ ap (λ spots. numbers_drawn (owed_in x.facts owners store (IndexValues c.args.level) x.me) (replicate 16 0)
    (map (λ (s : Spot). s.owner) spots)) (c.as_slice.ensures ∙ spots)
    ∙ values_right x.facts owners store c.args.level x.me c.requires h.owned
    ∙ ap (λ level. map (read_of store) (indexes_of x.facts store level x.me)) c.in-First.is
    ∙ firsts_given x.facts store x.me)) c.fetch_second.ensures.inspecting

pub returns-in-Second-clause-inspecting : goal.returns-in-Second-clause-inspecting
returns-in-Second-clause-inspecting c = on_ok_weaker c.weave.result (λ e owners store tables h spots known taken.
    let x = c.args.self.now in
    e owners store tables h (subst (λ level. AreKnown x.facts store x.me level x.values) c.in-Second.is known)
    (c.as_slice-in-Second.ensures ∙ c.in_ok-values.ensures
    ∙ ap (λ lists. numbers_drawn lists (replicate 16 0) (map (λ (s : Spot). s.owner) c.as_slice.result.now)) taken
    ∙ ap (λ spots. numbers_drawn (owed_in x.facts owners store (IndexValues c.args.level) x.me) (replicate 16 0)
    (map (λ (s : Spot). s.owner) spots)) (c.as_slice.ensures ∙ spots)
    ∙ values_right x.facts owners store c.args.level x.me c.requires h.owned
    ∙ ap (λ level. map (read_of store) (indexes_of x.facts store level x.me)) c.in-Second.is)) c.weave.ensures.inspecting
