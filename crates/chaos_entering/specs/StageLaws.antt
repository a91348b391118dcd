-- A phase that is entered with the right lists and lengths is the one that comes.
use Rattle.std.specs.Prelude.{◌≡◌, refl, ℕ, ◌+◌, ◌<◌, ◌≤◌, ◌^◌, ℤ, Bool, true, false, List, [], ◌∷◌, length, map, is_some}
use Rattle.std.specs.Prelude.{vec_capacity}
use Rattle.std.proofs.Common.{ap, sym, subst, ◌∙◌, arith, add-one}
use Rattle.bsp_core.specs.Views.{Ascends, Face, nodes_in}
use Rattle.fd_words.specs.Lists.{list_at}
use Rattle.fd_program.specs.Layouts.{Scene}
use Rattle.fd_program.specs.Reports.{completed_of}
use Rattle.fd_program.specs.declared.checked.Checked.{Checked}
use Rattle.fd_program.specs.declared.trace.Step.{Step}
use Rattle.chaos_dist.specs.Counting.{below}
use Rattle.chaos_letter.specs.declared.letter.Letter.{Letter}
use Rattle.chaos_letter.specs.declared.wanted.Wanted.{Wanted}
use Rattle.plan_loop.specs.declared.loop_phase.LoopPhase.TheVariants as phase
use Rattle.plan_run.specs.Phases.{Phase, cut_phases, group_of, is_sent, numbers_at, site_of}
use Rattle.plan_run.specs.Picks.{picked, picked_ascends}
use Rattle.plan_run.specs.RowLaws.{not_sent}
use Rattle.plan_run.specs.Rows.{RunPlan, face_left, run_in, scene_in}
use Rattle.plan_run.specs.declared.stage.Stage.{Stage}
use Rattle.plan_run.specs.declared.stage.Stage.TheVariants as stage
use Rattle.plan_walk.specs.LetterLaws.{AreCounted, AreSent, all_lists_are_sent, row_below, naming_at, rows_are_made}
use Rattle.plan_walk.specs.Letters.{letter_in, number_in, wanted_in}
use Rattle.plan_walk.specs.Places.{left_in, present_phase, whole_in, whole_left}
use Rattle.plan_walk.specs.declared.stages.Naming.{Naming}
use Rattle.chaos_entering.specs.Coming.{CanStand, IsComing, IsSoundActivity, entered_state, face_entered}
use Rattle.chaos_entering.specs.Entering.{IsStaged, group_in, naming_in}
use Rattle.chaos_entering.specs.Standing.{HasSizes, StandsInStep, session_in}
use Rattle.chaos_entering.specs.State.{NodeState}
use Rattle.chaos_entering.specs.declared.activity.Activity.{Activity}
use Rattle.chaos_entering.specs.declared.activity.At.{At}
use Rattle.chaos_entering.specs.declared.entered.Entered.{Entered}

-- ---- statements

-- a phase entered as the stage of the step: its face, where the node is in it, and the lengths of its lists
pub record IsStage (plan : RunPlan) (past : List Step) (step : Step) (rest : List Step) (stage : Stage) (more : List Stage) (p : ℕ)
    (activity : Activity) (e : Entered) (st : NodeState) : Type 0 where
  pub activity_is : e.at.activity ≡ activity
  pub site_is : e.at.site ≡ site_of step
  pub kept : (entered_state st e).holdings ≡ st.holdings
  pub face : face_entered p plan.nodes e ≡ face_left (scene_in plan) (left_in plan past step rest (stage ∷ more)) p
  pub session : (entered_state st e).session ≡ session_in plan
  pub in_step : StandsInStep plan (left_in plan past step rest (stage ∷ more)) past step rest stage more p (entered_state st e)
  pub sizes : HasSizes plan past step stage p (entered_state st e)

-- ---- cases

-- cut or not, the first phase stays
face_cut : (s : Scene) (c : Checked) (f : Phase) (fs : List Phase) (past : List Step) (cut : Bool) (p : ℕ)
    → face_left s (cut_phases c (f ∷ fs) past cut) p ≡ face_left s (f ∷ fs) p
face_cut s c f fs past false p = refl
face_cut s c f fs past true p = refl

same_group : (c : Checked) (step : Step) (st : Stage) → group_in c st (site_of step) ≡ group_of c step st
same_group c step (stage.MapPairs array) = refl
same_group c step stage.PageCounts = refl
same_group c step stage.MovingAsk = refl
same_group c step stage.MovingAnswer = refl
same_group c step stage.Remap = refl
same_group c step stage.Print = refl
same_group c step (stage.Output j) = refl
same_group c step (stage.InLoop (phase.DerefAsk asking)) = refl
same_group c step (stage.InLoop (phase.DerefAnswer asking)) = refl
same_group c step (stage.InLoop (phase.IndexAsk level)) = refl
same_group c step (stage.InLoop (phase.IndexValues level)) = refl
same_group c step (stage.InLoop phase.Vote) = refl
same_group c step (stage.InLoop phase.Iterations) = refl
same_group c step (stage.InLoop phase.ScheduleAsk) = refl
same_group c step (stage.InLoop phase.Gather) = refl
same_group c step (stage.InLoop phase.Scatter) = refl

-- ---- lists

from_zero : (n : ℕ) → 0 + n ≤ n
from_zero n = omega arith

with_none : (got : List Letter) (due room : ℕ) → got ≡ [] → due ≤ room → length got + due ≤ room
with_none got due room e h = let none : length got ≡ 0 = ap (λ (l : List Letter). length l) e in omega (arith, none, h)

not_both : {A : Type 0} (b : Bool) → b ≡ true → b ≡ false → A
not_both true s t = cc
not_both false s t = cc

map_length : (x : ℕ → List ℤ) (qs : List ℕ) → map length (map x qs) ≡ map (λ q. length (x q)) qs
map_length x [] = refl
map_length x (q ∷ qs) = ap (λ (l : List ℕ). length (x q) ∷ l) (map_length x qs)

-- ---- where it stands

abbrev standing_at : NodeState → At → NodeState
standing_at st at = record st { at = at }

abbrev at_in : Naming → Activity → List (List ℤ) → ℕ → At
at_in n activity lists me = record {
  execution = n.execution;
  site = n.site;
  activity = activity;
  own = list_at lists me;
  sizes = map length lists;
}

abbrev state_if : NodeState → Entered → Bool → NodeState
state_if st e b = entered_state st (record e { begins = b })

-- only its place is new
stands_staged : (n : Naming) (me nodes : ℕ) (activity : Activity) (lists : List (List ℤ)) (counts : List ℕ) (left : ℕ) (e : Entered)
    (st : NodeState)
    → IsStaged n me nodes activity lists counts left e → entered_state st e ≡ standing_at st (at_in n activity lists me)
stands_staged n me nodes activity lists counts left e st h = ap (state_if st e) h.begins ∙ ap (standing_at st) h.at

abbrev face_having : ℕ → ℕ → ℕ → List (ℕ × Letter) → List (ℕ × Wanted) → List Letter → Face
face_having me nodes left out due got = record { me = me; count = nodes; left = left; out = out; due = due; got = got }

face_staged : (n : Naming) (me nodes : ℕ) (activity : Activity) (lists : List (List ℤ)) (counts : List ℕ) (left : ℕ) (e : Entered)
    → IsStaged n me nodes activity lists counts left e
    → face_entered me nodes e ≡ face_having me nodes left (picked (λ q. letter_in n (list_at lists q)) (λ q. is_sent n.stage me q) 0 nodes)
    (picked (λ q. wanted_in n (number_in counts q)) (λ q. is_sent n.stage q me) 0 nodes) []
face_staged n me nodes activity lists counts left e h =
    ap (λ left. face_having me nodes left e.out.items e.due.items e.got.items) h.left_is
    ∙ ap (λ out. face_having me nodes left out e.due.items e.got.items) h.posted.out
    ∙ ap (λ due. face_having me nodes left (picked (λ q. letter_in n (list_at lists q)) (λ q. is_sent n.stage me q) 0 nodes) due
    e.got.items) h.posted.due
    ∙ ap (face_having me nodes left (picked (λ q. letter_in n (list_at lists q)) (λ q. is_sent n.stage me q) 0 nodes)
    (picked (λ q. wanted_in n (number_in counts q)) (λ q. is_sent n.stage q me) 0 nodes)) h.posted.got

abbrev row_by : Scene → ℕ → List (List ℤ) → List ℕ → Naming → ℕ → Face
row_by s p lists counts n left =
    face_having p s.nodes left (picked (λ q. letter_in n (list_at lists q)) (λ q. is_sent n.stage p q) 0 s.nodes)
    (picked (λ q. wanted_in n (number_in counts q)) (λ q. is_sent n.stage q p) 0 s.nodes) []

-- it is the face of the phase
staged_face : (s : Scene) (f : Phase) (later : List Phase) (past : List Step) (cut : Bool) (n : Naming) (p : ℕ) (activity : Activity)
    (lists : List (List ℤ)) (counts : List ℕ) (left : ℕ) (e : Entered)
    → naming_at s f ≡ n → left ≡ f.left → AreSent s f p lists → AreCounted s f p counts → IsStaged n p s.nodes activity lists counts left e
    → face_entered p s.nodes e ≡ face_left s (cut_phases s.checked (f ∷ later) past cut) p
staged_face s f later past cut n p activity lists counts left e name many sent counted staged =
    face_staged n p s.nodes activity lists counts left e staged ∙ ap (row_by s p lists counts n) many
    ∙ ap (λ m. row_by s p lists counts m f.left) (sym name)
    ∙ sym (rows_are_made s f later p lists counts sent counted) ∙ sym (face_cut s s.checked f later past cut p)

abbrev with_group : Naming → ℕ → Naming
with_group n g = record n { group = g }

-- ---- what holds

pub stage_comes : (plan : RunPlan) (past : List Step) (step : Step) (rest : List Step) (stage : Stage) (more : List Stage) (p left : ℕ)
    (st : NodeState)
    (activity : Activity) (lists : List (List ℤ)) (counts : List ℕ) (e : Entered)
    → IsComing plan past step rest stage more p left st
    → lists ≡ map (λ q. numbers_at (scene_in plan) past step stage p q) (below plan.nodes)
    → AreCounted (scene_in plan) (present_phase plan past step rest stage more) p counts
    → IsStaged (naming_in plan.checked stage (length past) (site_of step)) p plan.nodes activity lists counts left e
    → IsStage plan past step rest stage more p activity e st
stage_comes plan past step rest stage more p left st activity lists counts e come lists_are counted staged =
    let s = scene_in plan in
    let f = present_phase plan past step rest stage more in
    let named = naming_in plan.checked stage (length past) (site_of step) in
    let x : ℕ → List ℤ = λ q. numbers_at s past step stage p q in
    let at = at_in named activity lists p in
    let stood : entered_state st e ≡ standing_at st at = stands_staged named p plan.nodes activity lists counts left e st staged in
    let name : naming_at s f ≡ named = ap (λ g. with_group named g) (sym (same_group plan.checked step stage)) in
    let own : list_at lists p ≡ x p = ap (λ l. list_at l p) lists_are ∙ row_below x [] plan.nodes p come.node in
    let sizes : map length lists ≡ map (λ q. length (x q)) (below plan.nodes) = ap (map length) lists_are
    ∙ map_length x (below plan.nodes) in
    let sent = all_lists_are_sent s f p lists lists_are in
    let many : left ≡ f.left = come.left_is ∙ sym (add-one (whole_left plan past step rest more)) in
    record {
      activity_is = ap (λ (a : At). a.activity) staged.at;
      site_is = ap (λ (a : At). a.site) staged.at;
      kept = ap (λ (t : NodeState). t.holdings) stood;
      face = staged_face s f (whole_in plan past step rest more) (completed_of (run_in plan)) (is_some (run_in plan).refused) named p
          activity lists counts left e
          name many sent counted staged;
      session = ap (λ (t : NodeState). t.session) stood ∙ come.session;
      in_step = subst (StandsInStep plan (left_in plan past step rest (stage ∷ more)) past step rest stage more p) (sym stood) (record {
        places = come.places;
        phases_are = refl;
        execution = refl;
        site = refl;
        own = own;
        knows = come.knows;
      });
      sizes = ap (λ (t : NodeState). t.at.sizes) stood ∙ sizes;
    }

pub staged_stands : (n : Naming) (me nodes : ℕ) (activity : Activity) (lists : List (List ℤ)) (counts : List ℕ) (left : ℕ) (e : Entered)
    → left < 2 ^ 31 → IsSoundActivity activity → IsStaged n me nodes activity lists counts left e → CanStand me nodes e
staged_stands n me nodes activity lists counts left e small sound h = record {
  left = subst (λ k. k < 2 ^ 31) (sym h.left_is) small;
  out = subst (λ (l : List (ℕ × Letter)). Ascends me nodes 0 (nodes_in l)) (sym h.posted.out)
      (picked_ascends (λ q. letter_in n (list_at lists q)) (λ q. is_sent n.stage me q) me nodes 0 nodes (from_zero nodes)
      (not_sent n.stage me));
  due = subst (λ (l : List (ℕ × Wanted)). Ascends me nodes 0 (nodes_in l)) (sym h.posted.due)
      (picked_ascends (λ q. wanted_in n (number_in counts q)) (λ q. is_sent n.stage q me) me nodes 0 nodes (from_zero nodes)
      (not_sent n.stage me));
  room = with_none e.got.items (length e.due.items) (vec_capacity e.got) h.posted.got h.posted.room;
  number = λ begins. not_both e.begins begins h.begins;
  sound = subst IsSoundActivity (sym (ap (λ (a : At). a.activity) h.at)) sound;
}
