-- The report of a run: how often each FORALL was executed and inspected, and how many elements were gathered and scattered for it.
use Rattle.std.specs.Prelude.{ℕ, ◌+◌, ℤ, Bool, not, ◌&&◌, ◌==◌, if◌then◌else◌, List, [], ◌∷◌, ◌++◌, length, map, reverse, drop, sum_by}
use Rattle.std.specs.Prelude.{is_some, codes, decimal}
use Rattle.chaos_dist.specs.Counting.{below}
use Rattle.fd_program.specs.Cells.{Cell}
use Rattle.fd_program.specs.Homes.{needed_of, given_of}
use Rattle.fd_program.specs.Layouts.{Scene, scene_of, store_at, owners_at, loop_at}
use Rattle.fd_program.specs.Past.{inspects_at}
use Rattle.fd_program.specs.Runs.{Run, run_of}
use Rattle.fd_program.specs.Trace.{is_empty_turn}
use Rattle.fd_program.specs.declared.checked.Checked.{Checked}
use Rattle.fd_program.specs.declared.count.SiteCount.{SiteCount}
use Rattle.fd_program.specs.declared.loop_facts.HomeRule.{HomeRule}
use Rattle.fd_program.specs.declared.loop_facts.LoopFacts.{LoopFacts}
use Rattle.fd_program.specs.declared.site.Site.{Site}
use Rattle.fd_program.specs.declared.trace.Step.{Step}
use Rattle.fd_program.specs.declared.trace.Step.TheVariants.{Distribute, Print, Forall}

-- ---- counts

abbrev pub no_count : SiteCount
no_count = record { executed = 0; inspected = 0; gathered = 0; scattered = 0 }

abbrev pub plus_count : SiteCount → SiteCount → SiteCount
plus_count a b = record {
  executed = a.executed + b.executed;
  inspected = a.inspected + b.inspected;
  gathered = a.gathered + b.gathered;
  scattered = a.scattered + b.scattered;
}

-- how many elements a node has of all nodes together
abbrev pub total_of : ℕ → (ℕ → List Cell) → ℕ
total_of nodes cells = sum_by (λ q. length (cells q)) (below nodes)

-- what a completed execution counts on a node
abbrev pub count_of_loop : LoopFacts → List (List ℕ) → List (List ℤ) → Bool → ℕ → SiteCount
count_of_loop f owners store inspects node = record {
  executed = 1;
  inspected = if inspects then 1 else 0;
  gathered = total_of f.nodes (needed_of f owners store node);
  scattered = total_of f.nodes (given_of f owners store node);
}

-- what a completed step after `past` adds to the counts of a FORALL on a node
abbrev pub count_of_step : Scene → List Step → ℕ → ℕ → Step → SiteCount
count_of_step s past node k (Distribute decomposition form) = no_count
count_of_step s past node k (Print array) = no_count
count_of_step s past node k (Forall site turn) =
    if (site == k) && not (is_empty_turn turn)
    then count_of_loop (loop_at s past site turn) (owners_at s past) (store_at s past) (inspects_at s.checked past site turn) node
    else no_count

-- the counts of a FORALL on a node over these steps, the latest first
abbrev pub count_at : Scene → List Step → ℕ → ℕ → SiteCount
count_at s [] node k = no_count
count_at s (step ∷ past) node k = plus_count (count_at s past node k) (count_of_step s past node k step)

-- the counts of all nodes together: executed and inspected are those of node 0
abbrev pub total_count : ℕ → (ℕ → SiteCount) → SiteCount
total_count nodes count = record {
  executed = (count 0).executed;
  inspected = (count 0).inspected;
  gathered = sum_by (λ node. (count node).gathered) (below nodes);
  scattered = sum_by (λ node. (count node).scattered) (below nodes);
}

-- ---- the report

abbrev pub executed_part : ℕ → SiteCount → List ℕ
executed_part line n = codes "loop " ++ decimal line ++ codes ": executed " ++ decimal n.executed ++ codes ", inspected "
    ++ decimal n.inspected

abbrev pub moved_part : SiteCount → List ℕ
moved_part n = codes ", gathered " ++ decimal n.gathered ++ codes ", scattered " ++ decimal n.scattered ++ 10 ∷ []

-- the line of a FORALL in this line of the source
abbrev pub report_line : ℕ → SiteCount → List ℕ
report_line line n = executed_part line n ++ moved_part n

-- the lines for the counts of each FORALL
abbrev pub report_of : List Site → List SiteCount → List ℕ
report_of [] counts = []
report_of (site ∷ sites) [] = []
report_of (site ∷ sites) (n ∷ counts) = report_line site.at.line n ++ report_of sites counts

-- the executed steps of a run, and the completed ones, the latest first: a refused step isn't completed
abbrev pub executed_of : Run → List Step
executed_of run = reverse (map (λ s. s.0) run.executed)

abbrev pub completed_of : Run → List Step
completed_of run = drop (if is_some run.refused then 1 else 0) (executed_of run)

-- the counts of each FORALL over a run
abbrev pub counts_of : Scene → Run → List SiteCount
counts_of s run = map (λ k. total_count s.nodes (λ node. count_at s (completed_of run) node k)) (below (length s.checked.sites))

abbrev pub report_of_run : Checked → ℕ → HomeRule → Run → List ℕ
report_of_run c nodes rule run = report_of c.sites (counts_of (scene_of c nodes rule run) run)

-- the report of the program over these values, on so many nodes
abbrev pub report_of_program : Checked → ℕ → HomeRule → List (List ℤ) → List ℕ
report_of_program c nodes rule store = report_of_run c nodes rule (run_of c store)
