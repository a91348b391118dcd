-- What a node knows, and what the end of a phase makes of it.
use Rattle.std.specs.Prelude.{◌≡◌, ℕ, ◌+◌, ◌-◌, ◌==◌, ℤ, if◌then◌else◌, List, [], map, nat_lt}
use Rattle.chaos_letter.specs.declared.letter.Letter.{Letter}
use Rattle.chaos_letter.specs.declared.wanted.Wanted.{Wanted}
use Rattle.bsp_core.specs.Views.{Face, View}
use Rattle.bsp_desk.specs.Picks.{picked}
use Rattle.bsp_desk.specs.Ways.{sends}
use Rattle.bsp_desk.specs.declared.way.Way.TheVariants.{ToAll, ToFirst}
use Rattle.chaos_dist.specs.Layout.{elements_of}
use Rattle.chaos_dist.specs.declared.shape.Shape.TheVariants.{Block}
use Rattle.chaos_bins.specs.Bins.{first_bin, lines_of, pair_le, sorted_by, value}
use Rattle.chaos_bins.specs.Coming.{all_pairs, told}
use Rattle.chaos_bins.specs.Lines.{lines_from}
use Rattle.chaos_bins.specs.Plan.{AppendPlan, IsAppendPlan, append_letter, append_rows, append_wanted, flat, print_letter, print_rows}
use Rattle.chaos_bins.specs.Plan.{print_wanted, rows_at, sizes_letter, sizes_wanted, stage_at}
use Rattle.chaos_bins.specs.declared.stage.Stage.{Stage}
use Rattle.chaos_bins.specs.declared.stage.Stage.TheVariants.{Appending, Ended, Printing, Sizing}
use Rattle.chaos_bins.specs.Dealing.{of_owner, stepped}
use Rattle.append_node.specs.Telling.{size_in}
use Rattle.append_node.specs.declared.begin.Begun.{Begun}
use Rattle.append_node.specs.declared.job.AppendJob.{AppendJob}

-- its job, where it is, its own pairs, what it tells in the next phase, and its text
pub record AppendState : Type 0 where
  pub job : AppendJob
  pub at : Stage
  pub own : List ℤ
  pub next : List (ℕ × Letter)
  pub text : List ℕ

-- ---- in a plan

pub record IsJob (plan : AppendPlan) (job : AppendJob) : Type 0 where
  pub bins : job.bins ≡ plan.bins
  pub steps : job.steps ≡ plan.steps
  pub count : job.count ≡ plan.particles.count
  pub nodes : job.nodes ≡ plan.nodes

-- the plan of a job with these first bins and values
abbrev pub plan_of : AppendJob → List ℤ → List ℤ → AppendPlan
plan_of job firsts amounts = record {
  bins = job.bins;
  steps = job.steps;
  nodes = job.nodes;
  particles = record { count = job.count; bins = firsts; values = amounts };
}

-- what a node has in a stage: the rows that stay, what it tells next, and the text
pub record Has (state : AppendState) (rows : List ℤ) (letters : List (ℕ × Letter)) (written : List ℕ) : Type 0 where
  pub own : state.own ≡ rows
  pub next : state.next ≡ letters
  pub text : state.text ≡ written

abbrev pub HasIn : AppendPlan → ℕ → Stage → AppendState → Type 0
HasIn plan p (Sizing t) state =
    Has state (flat (rows_at plan t p p)) (picked (λ q. append_letter t (rows_at plan t p q)) (λ q. sends ToAll p q) 0 plan.nodes) []
HasIn plan p (Appending t) state = Has state (flat (rows_at plan t p p)) [] []
HasIn plan p Printing state = Has state (if p == 0 then flat (print_rows plan p) else []) [] []
HasIn plan p Ended state = Has state [] [] (if p == 0 then lines_of plan.bins plan.steps plan.particles else [])

pub record Holds (plan : AppendPlan) (phase p : ℕ) (state : AppendState) : Type 0 where
  pub job : IsJob plan state.job
  pub at : state.at ≡ stage_at plan.steps phase
  pub has : HasIn plan p (stage_at plan.steps phase) state

abbrev pub append_holds : AppendPlan → ℕ → ℕ → AppendState → Type 0
append_holds plan phase p state = Holds plan phase p state

-- the first bins and the values of a node's block
pub record IsBlock (plan : AppendPlan) (p : ℕ) (firsts amounts : List ℤ) : Type 0 where
  pub bins : firsts ≡ map (first_bin plan.particles) (elements_of Block plan.particles.count plan.nodes p)
  pub values : amounts ≡ map (value plan.particles) (elements_of Block plan.particles.count plan.nodes p)

-- in each plan of this job whose block it has, the node stands at the beginning
abbrev pub StartsIn : AppendJob → ℕ → List ℤ → List ℤ → View AppendState → Type 0
StartsIn job p bins values v =
    (plan : AppendPlan) → IsAppendPlan plan → IsJob plan job → IsBlock plan p bins values
    → (v.face ≡ append_rows plan 0 p) × append_holds plan 0 p v.state

-- ---- the ends of phases, for whatever was taken

abbrev pub with_phase : Face → ℕ → List (ℕ × Letter) → List (ℕ × Wanted) → Face
with_phase v left out due = record { me = v.me; count = v.count; left = left; out = out; due = due; got = [] }

-- all pairs that a node has behind a phase
abbrev pub pairs_of : View AppendState → List (ℤ × ℤ)
pairs_of v = all_pairs v.face.count v.face.me v.state.own v.face.got

-- those that go to q in the next round
abbrev pub next_rows : View AppendState → ℕ → List (ℤ × ℤ)
next_rows v q = of_owner v.state.job.bins v.state.job.nodes (map (stepped v.state.job.bins) (pairs_of v)) q

abbrev pub sizes_ended : View AppendState → ℕ → View AppendState
sizes_ended v t = record {
  face = with_phase v.face (v.face.left - 1) v.state.next
      (picked (λ q. append_wanted t (size_in (told v.face.me v.face.got q))) (λ q. sends ToAll q v.face.me) 0 v.face.count);
  state = record { job = v.state.job; at = Appending t; own = v.state.own; next = []; text = v.state.text };
}

abbrev pub append_ended : View AppendState → ℕ → View AppendState
append_ended v t = record {
  face = with_phase v.face (v.face.left - 1)
      (picked (λ q. sizes_letter (t + 1) (next_rows v q)) (λ q. sends ToAll v.face.me q) 0 v.face.count)
      (picked (λ q. sizes_wanted (t + 1)) (λ q. sends ToAll q v.face.me) 0 v.face.count);
  state = record {
    job = v.state.job;
    at = Sizing (t + 1);
    own = flat (next_rows v v.face.me);
    next = picked (λ q. append_letter (t + 1) (next_rows v q)) (λ q. sends ToAll v.face.me q) 0 v.face.count;
    text = v.state.text;
  };
}

-- all pairs in their order
abbrev pub all_sorted : View AppendState → List (ℤ × ℤ)
all_sorted v = sorted_by pair_le (pairs_of v)

abbrev pub last_ended : View AppendState → View AppendState
last_ended v = record {
  face = with_phase v.face (v.face.left - 1)
      (picked (λ q. print_letter v.state.job.steps (all_sorted v)) (λ q. sends ToFirst v.face.me q) 0 v.face.count)
      (picked (λ q. print_wanted v.state.job.steps) (λ q. sends ToFirst q v.face.me) 0 v.face.count);
  state = record {
    job = v.state.job;
    at = Printing;
    own = if v.face.me == 0 then flat (all_sorted v) else [];
    next = [];
    text = v.state.text;
  };
}

abbrev pub text_of : View AppendState → List ℕ
text_of v = if v.face.me == 0 then lines_from v.state.job.bins (all_sorted v) else []

abbrev pub print_ended : View AppendState → View AppendState
print_ended v = record {
  face = with_phase v.face 0 [] [];
  state = record { job = v.state.job; at = Ended; own = []; next = []; text = text_of v };
}

-- a node with what a phase begins with
abbrev pub put_in : View AppendState → Stage → Begun → View AppendState
put_in v stage b = record {
  face = with_phase v.face b.phase.left b.phase.out.items b.phase.due.items;
  state = record { job = v.state.job; at = stage; own = b.own; next = b.next.items; text = v.state.text };
}

-- what a work makes of a node in a stage
abbrev pub worked_in : View AppendState → Stage → View AppendState
worked_in v (Sizing t) = sizes_ended v t
worked_in v (Appending t) = if nat_lt t v.state.job.steps then append_ended v t else last_ended v
worked_in v Printing = print_ended v
worked_in v Ended = print_ended v

abbrev pub worked : View AppendState → View AppendState
worked v = worked_in v v.state.at
