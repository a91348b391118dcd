-- The layouts at a step of a run: `past` has the steps before it, the latest first.
use Rattle.std.specs.Prelude.{ℕ, ℤ, List, length, map}
use Rattle.std.specs.List.{enumerate_from}
use Rattle.fd_words.specs.Lists.{list_at}
use Rattle.fd_words.specs.Value.{remainder_of}
use Rattle.chaos_dist.specs.Owners.{regular_owners}
use Rattle.chaos_dist.specs.declared.step_form.StepForm.{StepForm}
use Rattle.chaos_dist.specs.declared.step_form.StepForm.TheVariants.{Regular, Map}
use Rattle.fd_program.specs.Past.{form_set, form_at}
use Rattle.fd_program.specs.Runs.{Run, stores_of}
use Rattle.fd_program.specs.SameLoops.{facts_of}
use Rattle.fd_program.specs.Trace.{site_at}
use Rattle.fd_program.specs.declared.array.LayoutName.{LayoutName}
use Rattle.fd_program.specs.declared.checked.Checked.{Checked}
use Rattle.fd_program.specs.declared.loop_facts.HomeRule.{HomeRule}
use Rattle.fd_program.specs.declared.loop_facts.Layout.{Layout}
use Rattle.fd_program.specs.declared.loop_facts.LoopFacts.{LoopFacts}
use Rattle.fd_program.specs.declared.trace.LoopTurn.{LoopTurn}
use Rattle.fd_program.specs.declared.trace.Step.{Step}

-- the program, the number of nodes, the rule for homes, and the stores before step 0, step 1 and so on, the last one at the end
pub record Scene : Type 0 where
  pub checked : Checked
  pub nodes : ℕ
  pub rule : HomeRule
  pub stores : List (List (List ℤ))

abbrev pub scene_of : Checked → ℕ → HomeRule → Run → Scene
scene_of c nodes rule run = record { checked = c; nodes = nodes; rule = rule; stores = stores_of run }

-- the store before the step after `past`
abbrev pub store_at : Scene → List Step → List (List ℤ)
store_at s past = list_at s.stores (length past)

-- ---- owners

-- the owners of the elements 1, 2 and so on by a map array's values
abbrev pub owners_by_map : ℕ → List ℤ → List ℕ
owners_by_map nodes values = map (λ v. remainder_of v nodes) values

-- the owners by a form; `before` has the steps before the one that gave it, and a map's values are those of then
abbrev pub owners_by : Scene → ℕ → StepForm × List Step → List ℕ
owners_by s extent (Regular shape, before) = regular_owners shape extent s.nodes
owners_by s extent (Map array, before) = owners_by_map s.nodes (list_at (store_at s before) array)

-- for each decomposition the owners of its elements as the step after `past` begins
abbrev pub owners_at : Scene → List Step → List (List ℕ)
owners_at s past = map (λ (d, l). owners_by s l.extent (form_set past d)) (enumerate_from 0 s.checked.layouts)

-- ---- the facts of an execution

abbrev pub layout_at : List Step → ℕ × LayoutName → Layout
layout_at past (d, l) = record { extent = l.extent; form = form_at past d }

abbrev pub layouts_at : Checked → List Step → List Layout
layouts_at c past = map (layout_at past) (enumerate_from 0 c.layouts)

-- the facts of a FORALL's execution after these steps
abbrev pub facts_at : Checked → ℕ → HomeRule → List Step → ℕ → LoopTurn → LoopFacts
facts_at c nodes rule past site turn = facts_of c.arrays (site_at c.sites site) nodes rule turn (layouts_at c past)

abbrev pub loop_at : Scene → List Step → ℕ → LoopTurn → LoopFacts
loop_at s past site turn = facts_at s.checked s.nodes s.rule past site turn
