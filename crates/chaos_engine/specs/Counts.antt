-- What the FORALLs count on all nodes together.
use Rattle.std.specs.Prelude.{ℕ, ◌+◌, List, [], ◌∷◌, map, fold, slice_get, unwrap_or}
use Rattle.chaos_dist.specs.Counting.{below}
use Rattle.fd_program.specs.Reports.{no_count}
use Rattle.fd_program.specs.declared.count.SiteCount.{SiteCount}
use Rattle.plan_run.specs.StandLaws.{counted_at}

-- with what one more node gathered and scattered
abbrev pub more_count : SiteCount → SiteCount → SiteCount
more_count c one = record {
  executed = c.executed;
  inspected = c.inspected;
  gathered = c.gathered + one.gathered;
  scattered = c.scattered + one.scattered;
}

-- executed and inspected are those of the first node
abbrev pub first_count : List SiteCount → SiteCount
first_count [] = no_count
first_count (c ∷ counts) = record { executed = c.executed; inspected = c.inspected; gathered = 0; scattered = 0 }

abbrev pub total_among : List SiteCount → SiteCount
total_among counts = fold more_count (first_count counts) counts

-- for each FORALL, where each node has these counts
abbrev pub total_counts : ℕ → List (List SiteCount) → List SiteCount
total_counts sites counts = map (λ k. total_among (map (λ cs. counted_at cs k) counts)) (below sites)
