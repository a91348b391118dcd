-- A plan can be met.
use Rattle.std.specs.Prelude.{◌≡◌, refl, length}
use Rattle.std.proofs.Common.{arith}
use Rattle.plan_examples.specs.Programs.{scattering, scattering_data}
use Rattle.plan_examples.specs.Witness.{scattering_is_checked}
use Rattle.fd_program.specs.Trace.{trace_of}
use Rattle.fd_program.specs.declared.loop_facts.HomeRule.TheVariants.{Owner}
use Rattle.plan_run.specs.Limits.{IsWithin}
use Rattle.plan_run.specs.Rows.{RunPlan, IsRunPlan}

abbrev pub scattering_plan : RunPlan
scattering_plan = record { checked = scattering; nodes = 2; rule = Owner; store = scattering_data }

scattering_is_within : IsWithin scattering
scattering_is_within =
    let steps : length (trace_of scattering) ≡ 1 = refl in
    record {
      steps = omega (arith, steps);
      work = (record { some = omega arith; most = omega arith }, tt);
      outputs = omega arith;
    }

pub scattering_is_a_plan : IsRunPlan scattering_plan
scattering_is_a_plan = record {
  some = omega arith;
  few = omega arith;
  checked = scattering_is_checked;
  within = scattering_is_within;
  store = refl;
}
