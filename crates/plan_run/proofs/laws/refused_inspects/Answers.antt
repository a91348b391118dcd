use Rattle.plan_run.specs.RefusalLaws.{refused_inspects}
use Rattle.plan_run.proofs.laws.refused_inspects.Goals as goal

-- src/laws.rt:72:1
pub returns : goal.returns
returns c = refused_inspects
