-- What a node prepares for a phase.
use Rattle.std.specs.Prelude.{◌≡◌, ℕ, ◌+◌, ◌≤◌, ◌/◌, ℤ, List, [], ◌∷◌, false, length, map, filter, replicate, vec_capacity}
use Rattle.fd_words.specs.Lists.{list_at}
use Rattle.fd_program.specs.Trace.{site_at}
use Rattle.fd_words.specs.Roles.{is_index}
use Rattle.fd_program.specs.declared.checked.Checked.{Checked}
use Rattle.fd_program.specs.declared.reference.Reference.{Reference}
use Rattle.plan_loop.specs.declared.loop_phase.LoopPhase.{LoopPhase}
use Rattle.plan_loop.specs.declared.loop_phase.LoopPhase.TheVariants as phase
use Rattle.plan_run.specs.Phases.{is_sent, arrays_in}
use Rattle.plan_run.specs.Picks.{picked}
use Rattle.plan_run.specs.declared.stage.Stage.{Stage}
use Rattle.plan_run.specs.declared.stage.Stage.TheVariants as stage
use Rattle.plan_walk.specs.Letters.{letter_in, number_in, wanted_in}
use Rattle.plan_walk.specs.declared.stages.Naming.{Naming}
use Rattle.chaos_entering.specs.declared.activity.Activity.{Activity}
use Rattle.chaos_entering.specs.declared.entered.Entered.{Entered}
use Rattle.chaos_entering.specs.declared.entered.Posted.{Posted}

-- ---- how many numbers belong together, by stage and what it is for

abbrev pub indexes_in : Checked → ℕ → ℕ
indexes_in c site = length (filter (λ (r : Reference). is_index r.role) (site_at c.sites site).references)

abbrev pub group_in_loop : Checked → LoopPhase → ℕ → ℕ
group_in_loop c (phase.DerefAsk asking) site = 2
group_in_loop c (phase.DerefAnswer asking) site = 2
group_in_loop c (phase.IndexAsk level) site = 2
group_in_loop c (phase.IndexValues level) site = 1
group_in_loop c phase.Vote site = 4
group_in_loop c phase.Iterations site = 1 + indexes_in c site
group_in_loop c phase.ScheduleAsk site = 4
group_in_loop c phase.Gather site = 3
group_in_loop c phase.Scatter site = 3

abbrev pub group_in : Checked → Stage → ℕ → ℕ
group_in c (stage.MapPairs array) site = 2
group_in c stage.PageCounts site = 1
group_in c stage.MovingAsk site = 2
group_in c stage.MovingAnswer site = 2
group_in c stage.Remap site = 1 + length (arrays_in c site)
group_in c stage.Print site = 2
group_in c (stage.Output j) site = 2
group_in c (stage.InLoop l) site = group_in_loop c l site

-- ---- lengths that are known, from the lengths of the lists that were sent in the phase before

abbrev pub counts_behind_loop : LoopPhase → List ℕ → List ℕ
counts_behind_loop (phase.DerefAnswer asking) sizes = sizes
counts_behind_loop (phase.IndexValues level) sizes = map (λ n. n / 2) sizes
counts_behind_loop _ sizes = []

abbrev pub counts_behind : Stage → ℕ → List ℕ → List ℕ
counts_behind stage.PageCounts nodes sizes = replicate nodes nodes
counts_behind stage.MovingAnswer nodes sizes = sizes
counts_behind (stage.InLoop l) nodes sizes = counts_behind_loop l sizes
counts_behind _ nodes sizes = []

-- ---- letters

-- the letters are these lists, by receiver, and what is wanted has these counts, by sender
pub record IsPosted (n : Naming) (me nodes : ℕ) (lists : List (List ℤ)) (counts : List ℕ) (e : Entered) : Type 0 where
  pub out : e.out.items ≡ picked (λ q. letter_in n (list_at lists q)) (λ q. is_sent n.stage me q) 0 nodes
  pub due : e.due.items ≡ picked (λ q. wanted_in n (number_in counts q)) (λ q. is_sent n.stage q me) 0 nodes
  pub got : e.got.items ≡ []
  pub room : length e.due.items ≤ vec_capacity e.got

-- the same of letters that aren't a phase's yet
pub record ArePosted (n : Naming) (me nodes : ℕ) (lists : List (List ℤ)) (counts : List ℕ) (p : Posted) : Type 0 where
  pub out : p.out.items ≡ picked (λ q. letter_in n (list_at lists q)) (λ q. is_sent n.stage me q) 0 nodes
  pub due : p.due.items ≡ picked (λ q. wanted_in n (number_in counts q)) (λ q. is_sent n.stage q me) 0 nodes
  pub got : p.got.items ≡ []
  pub room : length p.due.items ≤ vec_capacity p.got

-- a phase with these letters
abbrev pub phase_with : Naming → Activity → List ℤ → List ℕ → ℕ → Posted → Entered
phase_with n activity own sizes left p = record {
  at = record { execution = n.execution; site = n.site; activity = activity; own = own; sizes = sizes };
  begins = false;
  left = left;
  out = p.out;
  due = p.due;
  got = p.got;
}

-- what the letters of a stage name
abbrev pub naming_in : Checked → Stage → ℕ → ℕ → Naming
naming_in c stage execution site = record { stage = stage; execution = execution; site = site; group = group_in c stage site }

-- a stage in which a node sends these lists, its own among them
pub record IsStaged (n : Naming) (me nodes : ℕ) (activity : Activity) (lists : List (List ℤ)) (counts : List ℕ) (left : ℕ)
    (e : Entered) : Type 0 where
  pub at : e.at ≡ record { execution = n.execution; site = n.site; activity = activity; own = list_at lists me; sizes = map length lists }
  pub begins : e.begins ≡ false
  pub left_is : e.left ≡ left
  pub posted : IsPosted n me nodes lists counts e

-- a phase in which an array with these rows is printed
pub record IsRows (n : Naming) (me nodes : ℕ) (activity : Activity) (rows : List ℤ) (left : ℕ) (e : Entered) : Type 0 where
  pub at : e.at ≡ record { execution = n.execution; site = n.site; activity = activity; own = rows; sizes = [] }
  pub begins : e.begins ≡ false
  pub left_is : e.left ≡ left
  pub posted : IsPosted n me nodes (rows ∷ []) [] e
