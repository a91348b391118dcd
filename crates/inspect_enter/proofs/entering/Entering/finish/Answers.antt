use Rattle.std.proofs.Common.{sym, subst, ◌∙◌}
use Rattle.std.specs.List.{AllZip}
use Rattle.plan_tables.specs.Fits.{StandsFor, IsOwn, IsOther, AreItems}
use Rattle.fd_program.specs.Met.{kept_uses}
use Rattle.inspect_enter.proofs.Asked as asked
use Rattle.plan_tables.specs.Tables.{slots_entered}
use Rattle.chaos_sched.specs.declared.schedule.Schedule.{Schedule}
use Rattle.fd_program.specs.Homes.{needed_of, given_of}
use Rattle.inspect_enter.proofs.entering.Entering.finish.Goals as goal

pub returns : goal.returns
returns c = λ owners store p tables settled entering taken.
    let f = c.args.facts.now in
    let slots = slots_entered f tables in
    record {
      iterations = c.in_ok-iterations.ensures ∙ entering.iterations;
      references = subst (λ its. AllZip (StandsFor f owners slots p) (kept_uses f store its) c.in_ok-references.references)
          (sym (c.in_ok-iterations.ensures ∙ entering.iterations))
          (subst (AllZip (StandsFor f owners slots p) (kept_uses f store _)) (sym (c.in_ok-references.ensures ∙ c.as_slice.ensures))
          entering.references);
      gather_send = subst (λ (s : Schedule). AreItems f.nodes (IsOwn f owners) (λ q. needed_of f owners store q p) s.gather_send)
          (sym c.in_ok-schedule.ensures)
          (asked.gather_send_is f owners store settled slots p c.args.self.now.needs entering.needs c.args.taken.now taken);
      gather_fetch = subst (λ (s : Schedule). AreItems f.nodes (IsOther f owners slots) (λ q. needed_of f owners store p q)
          s.gather_fetch) (sym c.in_ok-schedule.ensures)
          (asked.gather_fetch_is f owners store settled slots p c.args.self.now.needs entering.needs c.args.taken.now);
      scatter_send = subst (λ (s : Schedule). AreItems f.nodes (IsOther f owners slots) (λ q. given_of f owners store p q) s.scatter_send)
          (sym c.in_ok-schedule.ensures)
          (asked.scatter_send_is f owners store settled slots p c.args.self.now.needs entering.needs c.args.taken.now);
      scatter_take = subst (λ (s : Schedule). AreItems f.nodes (IsOwn f owners) (λ q. given_of f owners store q p) s.scatter_take)
          (sym c.in_ok-schedule.ensures)
          (asked.scatter_take_is f owners store settled slots p c.args.self.now.needs entering.needs c.args.taken.now taken);
    }
