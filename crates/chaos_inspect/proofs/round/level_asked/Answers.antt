use Rattle.std.proofs.Common.{◌≡◌, true, sym, subst, ◌∙◌}
use Rattle.std.specs.List.{AllByRecursion}
use Rattle.std.proofs.lemmas.Result.{IfOk-weaker}
use Rattle.fd_program.specs.Uses.{is_met}
use Rattle.fd_program.specs.declared.loop_use.Use.{Use}
use Rattle.plan_loop.specs.declared.loop_phase.Asking.TheVariants.{Indexes}
use Rattle.inspect_places.specs.Asks.{IsAsked}
use Rattle.chaos_inspect.specs.Walking.{known_through}
use Rattle.chaos_inspect.proofs.Rounds.{asked_met}
use Rattle.chaos_inspect.proofs.round.level_asked.Goals as goal

pub new-requires-clause-met : goal.new-requires-clause-met
new-requires-clause-met c =
    let f = c.args.facts.now in
    subst (AllByRecursion (λ (u : Use). is_met f.arrays u ≡ true)) (sym (c.as_slice.ensures ∙ c.in_ok-uses.ensures))
    (asked_met f (Indexes c.args.level) (known_through f c.args.iterations.now c.args.firsts.now))

pub returns : goal.returns
returns c =
    let f = c.args.facts.now in
    IfOk-weaker c.new.result _ _ (λ asked e. subst (λ us. IsAsked f us asked) (c.as_slice.ensures ∙ c.in_ok-uses.ensures) e) c.new.ensures
