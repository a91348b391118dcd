use Rattle.std.proofs.Common.{◌≡◌, ◌++◌, drop}
use Rattle.std.specs.List.{flat_map}
use Rattle.fd_program.specs.Runs.{run_from}
use Rattle.fd_program.specs.Texts.{printed}
use Rattle.fd_meaning.proofs.run.run_all.Given as goal

abbrev pub invariant-loop-step : goal.invariant-loop-step
invariant-loop-step l = record {
  text : l.text ++ flat_map (printed l.checked) (run_from l.checked (drop l.step-index l.steps) l.store).executed
      ≡ l.fn.text ++ flat_map (printed l.checked) (run_from l.checked l.steps l.fn.store).executed;
  refused : (run_from l.checked (drop l.step-index l.steps) l.store).refused ≡ (run_from l.checked l.steps l.fn.store).refused;
  last : (run_from l.checked (drop l.step-index l.steps) l.store).last ≡ (run_from l.checked l.steps l.fn.store).last;
}
