-- What a FORALL counts behind an execution.
use Rattle.fd_program.specs.Reports.{plus_count}
use Rattle.fd_program.specs.declared.count.SiteCount.{SiteCount}
use Rattle.plan_run.specs.StandLaws.{counted_at}
use Rattle.chaos_sched.specs.declared.prepared.Prepared.{Prepared}
use Rattle.chaos_holdings.specs.Executions.{counted_with, is_last}
use Rattle.chaos_entering.specs.State.{NodeState}

-- what the FORALL of a phase counts behind it
abbrev pub count_behind : NodeState → Prepared → SiteCount
count_behind st prepared = plus_count (counted_at st.end.counts st.at.site) (counted_with prepared (is_last st.inspected st.at.execution))
