-- The first phase of a step, as it is entered, and the end of the steps.
use Rattle.std.specs.Prelude.{◌≡◌, refl, ℕ, zero, suc, ◌+◌, ◌<◌, ◌≤◌, ◌^◌, ℤ, pos, Bool, true, false, ◌&&◌, ◌==◌, if◌then◌else◌, List, []}
use Rattle.std.specs.Prelude.{◌∷◌, ◌++◌, length, map, reverse, slice_get, slice_set, Option, Some, None, IsSomeAnd, IfSome, MatchBool}
use Rattle.std.specs.Prelude.{Result, IfOk}
use Rattle.std.specs.List.{AllByRecursion, AllZip, range_with_len}
use Rattle.std.specs.Option.{option_and_then, option_map}
use Rattle.std.proofs.Common.{ap, sym, ◌∙◌, subst, arith, append-nil}
use Rattle.chaos_begin.specs.Begins.{BeginsInspection, BeginsLoop, BeginsMove, IsBegun, IsLoopAt}
use Rattle.chaos_begin.specs.declared.begun.Begun.{Begun}
use Rattle.chaos_begin.specs.declared.between.Between.{Between}
use Rattle.chaos_dist.specs.Counting.{below}
use Rattle.chaos_dist.specs.declared.step_form.StepForm.{StepForm}
use Rattle.chaos_dist.specs.declared.step_form.StepForm.TheVariants.{Regular, Map}
use Rattle.chaos_execute.proofs.Ready.{steps_are_of_the_program}
use Rattle.fd_program.specs.StepLaws.{IsStepOf}
use Rattle.chaos_executing.specs.InRun.{CanExecute}
use Rattle.chaos_hash.specs.Stamps.{Stamps}
use Rattle.chaos_table.specs.declared.pages.Pages.{Pages}
use Rattle.chaos_inspect.specs.Inspecting.{IsInspecting, first_phase, phase_into, phase_of}
use Rattle.chaos_inspect.specs.declared.inspection.Inspection.{Inspection}
use Rattle.chaos_moving.specs.InRun.{owners_after}
use Rattle.chaos_moving.specs.IsMoving.{IsMoving}
use Rattle.chaos_moving.specs.declared.moving.Moving.{Moving}
use Rattle.plan_loop.specs.LoopLetters.{asks_places, has_level}
use Rattle.plan_loop.specs.declared.loop_phase.Asking.TheVariants.{Indexes}
use Rattle.plan_loop.specs.declared.loop_phase.Level.TheVariants.{First, Second}
use Rattle.plan_loop.specs.declared.loop_phase.LoopPhase.{LoopPhase}
use Rattle.plan_loop.specs.declared.loop_phase.LoopPhase.TheVariants as phase
use Rattle.plan_walk.specs.PhaseBegins.{only_inspections_stop, phases_are_counted, steps_are_over}
use Rattle.plan_walk.specs.Places.{left_from, left_in, outputs_left, stages_in, whole_in}
use Rattle.plan_walk.specs.StepEnds.{run_starts, stages_are_known}
use Rattle.inspect_uses.specs.Accepted.{AreOwners}
use Rattle.plan_run.specs.Held.{Held, IsInspected, KeepsAtEnd, KeepsLoop, is_executing, is_inspecting, is_stopped, lines_of}
use Rattle.plan_run.specs.Held.{text_on}
use Rattle.plan_run.specs.InspectionLaws.{inspection_begins}
use Rattle.plan_run.specs.KeptLaws.{reused_is_kept}
use Rattle.plan_run.specs.Phases.{is_free, loop_stages, moving_stages, site_of}
use Rattle.plan_run.specs.Rows.{IsRunPlan, RunPlan, run_in, scene_in}
use Rattle.fd_program.specs.AmongLaws.{zip_weaker}
use Rattle.plan_run.specs.WithinLaws.{is_output, not_refused, plain_text, present_inspected, step_begins}
use Rattle.plan_run.specs.declared.kept.Kept.{Kept}
use Rattle.plan_run.specs.declared.stage.Stage.{Stage}
use Rattle.plan_run.specs.declared.stage.Stage.TheVariants as stage
use Rattle.chaos_sched.specs.declared.prepared.Prepared.{Prepared}
use Rattle.fd_program.specs.Layouts.{Scene, loop_at, owners_at, store_at}
use Rattle.fd_program.specs.Loops.{offence_of}
use Rattle.fd_program.specs.Past.{inspecting_of, inspects_step, is_repeat}
use Rattle.fd_program.specs.Reports.{completed_of}
use Rattle.fd_program.specs.Runs.{refusal_of}
use Rattle.fd_program.specs.Stores.{FitsStore}
use Rattle.fd_program.specs.Texts.{refusal_text}
use Rattle.fd_program.specs.Trace.{is_empty_turn, site_at}
use Rattle.fd_program.specs.declared.checked.Checked.{Checked}
use Rattle.fd_program.specs.declared.loop_facts.LoopFacts.{LoopFacts}
use Rattle.fd_program.specs.declared.refused.Refused.{Refused}
use Rattle.fd_program.specs.declared.trace.LoopTurn.{LoopTurn}
use Rattle.fd_program.specs.declared.trace.Step.{Step}
use Rattle.fd_program.specs.declared.trace.Step.TheVariants.{Distribute, Print, Forall}
use Rattle.fd_words.specs.declared.place.Offence.{Offence}
use Rattle.fd_program.specs.ListLaws.{all_reversed, all_split}
use Rattle.chaos_entering.specs.Behind.{inspection_from_first, stages_behind}
use Rattle.fd_words.specs.declared.wanting.Memory.{Memory}
use Rattle.chaos_entering.specs.declared.ahead.Ahead.{Ahead}
use Rattle.chaos_entering.specs.Coming.{CanStand, EntersStep, FindsNone, FindsStep, IsBehindSteps, IsComing, IsHere, ComesNext, EntersAs}
use Rattle.chaos_entering.specs.Coming.{KnowsLengths}
use Rattle.chaos_entering.specs.Coming.{entered_state, noted_if}
use Rattle.chaos_entering.specs.Enters.{EntersGather, EntersInspection, EntersMove}
use Rattle.chaos_holdings.specs.Keeping.{no_kept, prepared_by, prepared_in}
use Rattle.chaos_entering.specs.Standing.{GoesOnInspecting, GoesOnMoving, HasCome, HoldsAt, KnowsInStep, KnowsBehind, session_in}
use Rattle.chaos_entering.specs.State.{NodeState, held_of}
use Rattle.chaos_entering.specs.declared.entered.Entered.{Entered}
use Rattle.chaos_holdings.specs.declared.session.Session.{Session}

from_nought : (n : ℕ) → 0 + n ≡ n
from_nought n = omega arith

one_at_least : (n : ℕ) → 0 < n → 1 ≤ n
one_at_least n h = omega (arith, h)

nought_least : (n : ℕ) → 0 ≤ n
nought_least n = omega arith

-- ---- the first stage of a step that inspects nothing

none_noted : (c : Checked) (past : List Step) (step : Step) → inspects_step c past step ≡ false
    → inspecting_of c past ≡ inspecting_of c (step ∷ past)
none_noted c past step e =
    sym (ap (λ b. inspecting_of c past ++ (if b then length past ∷ [] else [])) e ∙ append-nil (inspecting_of c past))

inspects_no_loop : (c : Checked) (past : List Step) (step : Step) (k : ℕ) → inspects_step c past step ≡ false
    → is_inspecting c past step k ≡ false
inspects_no_loop c past (Distribute d form) k e = refl
inspects_no_loop c past (Print array) k e = refl
inspects_no_loop c past (Forall site turn) k e = ap (λ b. (site == k) && b) e ∙ neither (site == k)
  where
    neither : (b : Bool) → (b && false) ≡ false
    neither true = refl
    neither false = refl

pub knows_first : (plan : RunPlan) (past rest : List Step) (step : Step) (first : Stage) (p : ℕ) (v : Held)
    → HasCome plan past (step ∷ rest) p v
    → is_output first ≡ false → inspects_step plan.checked past step ≡ false → KnowsInStep (scene_in plan) (run_in plan) past step first p v
knows_first plan past rest step first p v come plain none =
    let s = scene_in plan in
    let run = run_in plan in
    record {
      stands = come.stands;
      keeps = step_begins s run past step first p v.tables v.kept plain (λ k. inspects_no_loop plan.checked past step k none) come.keeps;
      inspected = come.inspected ∙ ap (map pos) (none_noted plan.checked past step none)
          ∙ sym (present_inspected s run past step first plain);
      text = come.text ∙ ap (text_on p) (sym (plain_text s run past first plain));
      refused = come.refused ∙ sym (not_refused run first plain);
      sized = come.sized;
    }

-- ---- what comes

pub coming_of : (plan : RunPlan) (past rest : List Step) (step : Step) (first : Stage) (more : List Stage) (p left : ℕ) (st : NodeState)
    → ComesNext plan past (step ∷ rest) p left st
    → stages_in plan past step ≡ first ∷ more → is_output first ≡ false → inspects_step plan.checked past step ≡ false
    → IsComing plan past step rest first more p left st
coming_of plan past rest step first more p left st next stages plain none = record {
  session = next.session;
  node = next.node;
  places = next.come.places;
  left_is = next.left_is ∙ ap (λ l. length (whole_in plan past step rest l)) stages;
  knows = knows_first plan past rest step first p (held_of st) next.come plain none;
}

pub right_from : (plan : RunPlan) (past rest : List Step) (step : Step) (stages : List Stage) (p : ℕ) (e : Entered) (st : NodeState)
    → stages_in plan past step ≡ stages
    → EntersAs plan (left_in plan past step rest stages) p e st → EntersAs plan (left_from plan past (step ∷ rest)) p e st
right_from plan past rest step stages p e st same h = subst (λ l. EntersAs plan (left_in plan past step rest l) p e st) (sym same) h

-- ---- a move

-- its stages are some
pub record HasFirst (form : StepForm) : Type 0 where
  pub first : Stage
  pub more : List Stage
  pub is : moving_stages form ≡ first ∷ more
  pub plain : is_output first ≡ false
  pub free : is_free first ≡ true

pub first_in_move : (form : StepForm) → HasFirst form
first_in_move (Regular shape) = record { first = stage.Remap; more = []; is = refl; plain = refl; free = refl }
first_in_move (Map array) = record {
  first = stage.MapPairs array;
  more = stage.PageCounts ∷ stage.MovingAsk ∷ stage.MovingAnswer ∷ stage.Remap ∷ [];
  is = refl;
  plain = refl;
  free = refl;
}

no_bool : {A : Type 0} → true ≡ false → A
no_bool e = absurd (let h : ⊥ = cc in h)

pub knows_free : (plan : RunPlan) (past : List Step) (step : Step) (first : Stage) (p : ℕ) (sizes : List ℕ) → is_free first ≡ true
    → KnowsLengths plan past step first p sizes
knows_free plan past step first p sizes free = λ known q less. no_bool (sym free ∙ known)

-- ---- a FORALL whose inspection is kept

-- what is kept of it
zip_at : {B : Type 0} (P : ℕ → B → Type 0) (a n k : ℕ) (ys : List B) → k < n → AllZip P (range_with_len a n) ys
    → IsSomeAnd (slice_get ys k) (P (a + k))
zip_at P a zero k ys less h = absurd (omega (arith, less))
zip_at P a (suc n) k [] less h = absurd h
zip_at {B} P a (suc n) zero (y ∷ ys) less h = let same : a ≡ a + 0 = omega arith in subst (λ i. P i y) same h.0
zip_at {B} P a (suc n) (suc k) (y ∷ ys) less h =
    let same : a + 1 + k ≡ a + suc k = omega arith in
    subst (λ i. IsSomeAnd (slice_get ys k) (P i)) same (zip_at P (a + 1) n k ys (omega (arith, less)) h.1)

-- the inspection that is kept of it fits
pub record HasKept (kept : Option Kept) (P : Prepared → Type 0) : Type 0 where
  pub prepared : Prepared
  pub is : prepared_by kept ≡ Some prepared
  pub fits : P prepared

kept_fits : (kept : Option Kept) (P : Prepared → Type 0) → IsSomeAnd kept (λ (x : Kept). IsSomeAnd x.prepared P) → HasKept kept P
kept_fits None P h = absurd h
kept_fits (Some x) P h = by x.prepared refl h
  where
    by : (o : Option Prepared) → x.prepared ≡ o → IsSomeAnd o P → HasKept (Some x) P
    by None e h = absurd h
    by (Some y) e h = record { prepared = y; is = e; fits = h }

pub record CanReuse (plan : RunPlan) (past : List Step) (site : ℕ) (turn : LoopTurn) (p : ℕ) (v : Held) : Type 0 where
  pub prepared : Prepared
  pub is : prepared_in v.kept site ≡ Some prepared
  pub can : CanExecute (scene_in plan) past site turn p v.tables prepared

no_offence : (site : ℕ) (b : Bool) (o : Option Offence) → b ≡ false
    → option_map (λ (o : Offence). let r : Refused = record { site = site; offence = o } in r) (if b then None else o) ≡ None → o ≡ None
no_offence site true o e h = cc
no_offence site false None e h = refl
no_offence site false (Some x) e h = cc

pub can_reuse : (plan : RunPlan) (past rest : List Step) (site : ℕ) (turn : LoopTurn) (p : ℕ) (v : Held) → IsRunPlan plan
    → HasCome plan past (Forall site turn ∷ rest) p v
    → IsLoopAt (scene_in plan) past site turn false → CanReuse plan past site turn p v
can_reuse plan past rest site turn p v known come at =
    by (slice_get v.kept site) refl
    (subst (λ k. IsSomeAnd (slice_get v.kept site) (λ kept. KeepsLoop (scene_in plan) past k p v.tables kept)) (from_nought site)
    (zip_at (λ k. KeepsLoop (scene_in plan) past k p v.tables) 0 (length plan.checked.sites) site v.kept at.there come.keeps))
  where
    s : Scene
    s = scene_in plan

    refusal : refusal_of plan.checked (Forall site turn) (store_at (scene_in plan) past) ≡ None
    refusal = only_inspections_stop plan past (Forall site turn) rest known.checked come.places at.inspects

    all : AllByRecursion (IsStepOf plan.checked) (reverse past ++ (Forall site turn ∷ rest))
    all = subst (AllByRecursion (IsStepOf plan.checked)) (sym come.places.trace) (steps_are_of_the_program plan.checked known.checked)

    can : (x : Prepared) → IsInspected (loop_at (scene_in plan) past site turn) (owners_at (scene_in plan) past)
        (store_at (scene_in plan) past) p v.tables x
        → CanExecute (scene_in plan) past site turn p v.tables x
    can x fits = record {
      some_nodes = one_at_least plan.nodes known.some;
      checked = known.checked;
      start = subst (FitsStore plan.checked.arrays) (sym (run_starts plan).store) known.store;
      history = come.places.history;
      steps = all_reversed (IsStepOf plan.checked) past (all_split (IsStepOf plan.checked) (reverse past) (Forall site turn ∷ rest) all).0;
      known = at.there;
      sound = no_offence site (is_empty_turn turn) (offence_of plan.checked.arrays (site_at plan.checked.sites site) turn
          (store_at (scene_in plan) past)) at.some refusal;
      inspected = fits;
    }

    by : (o : Option (Option Kept)) → slice_get v.kept site ≡ o → IsSomeAnd o (λ kept. KeepsLoop (scene_in plan) past site p v.tables kept)
        → CanReuse plan past site turn p v
    by None e h = absurd h
    by (Some kept) e h =
        let it = kept_fits kept (IsInspected (loop_at (scene_in plan) past site turn) (owners_at (scene_in plan) past)
        (store_at (scene_in plan) past) p v.tables)
        (reused_is_kept (scene_in plan) past site turn p v.tables kept known.checked at.there come.places.history at.some at.inspects h).0
        in
        record {
          prepared = it.prepared;
          is = ap (λ o. option_and_then prepared_by o) e ∙ it.is;
          can = can it.prepared it.fits;
        }

-- ---- an inspection

-- the facts of a step
abbrev no_turn : LoopTurn
no_turn = record { low = pos 0; high = pos 0; adds = []; terms = [] }

abbrev facts_of_step : Scene → List Step → Step → LoopFacts
facts_of_step s past (Forall site turn) = loop_at s past site turn
facts_of_step s past (Distribute d form) = loop_at s past 0 no_turn
facts_of_step s past (Print array) = loop_at s past 0 no_turn

-- where it begins its execution is noted, and nothing is kept of the FORALL
abbrev pub state_noted : NodeState → ℕ → ℕ → NodeState
state_noted st number site = record st {
  inspected = st.inspected ++ pos number ∷ [];
  holdings = record st.holdings { kept = slice_set st.holdings.kept site no_kept };
}

not_executing : (a b c d : Bool)
    → is_executing (stage.InLoop (phase_into a b First (phase_into c d Second phase.Vote))) ≡ false
not_executing true b c d = refl
not_executing false true c d = refl
not_executing false false true d = refl
not_executing false false false true = refl
not_executing false false false false = refl

free_first : (a b c d : Bool) → is_free (stage.InLoop (phase_into a b First (phase_into c d Second phase.Vote))) ≡ true
free_first true b c d = refl
free_first false true c d = refl
free_first false false true d = refl
free_first false false false true = refl
free_first false false false false = refl

map_append : (xs ys : List ℕ) → map pos (xs ++ ys) ≡ map pos xs ++ map pos ys
map_append [] ys = refl
map_append (x ∷ xs) ys = ap (λ (l : List ℤ). pos x ∷ l) (map_append xs ys)

stages_of_inspection : (plan : RunPlan) (past : List Step) (site : ℕ) (turn : LoopTurn) → IsLoopAt (scene_in plan) past site turn true
    → stages_in plan past (Forall site turn)
    ≡ stage.InLoop (first_phase (loop_at (scene_in plan) past site turn)) ∷ stages_behind (loop_at (scene_in plan) past site turn)
    (first_phase (loop_at (scene_in plan) past site turn))
stages_of_inspection plan past site turn at =
    (stages_are_known plan past).loops site turn at.some ∙ ap (loop_stages (loop_at (scene_in plan) past site turn)) at.inspects
    ∙ inspection_from_first (loop_at (scene_in plan) past site turn)

inspection_comes : (plan : RunPlan) (past rest : List Step) (number site : ℕ) (turn : LoopTurn) (p left : ℕ) (st : NodeState)
    → ComesNext plan past (Forall site turn ∷ rest) p left st → number ≡ length past → IsLoopAt (scene_in plan) past site turn true
    → IsComing plan past (Forall site turn) rest (stage.InLoop (first_phase (loop_at (scene_in plan) past site turn)))
    (stages_behind (loop_at (scene_in plan) past site turn) (first_phase (loop_at (scene_in plan) past site turn))) p left
    (state_noted st number site)
inspection_comes plan past rest number site turn p left st next numbered at =
    let s = scene_in plan in
    let c = plan.checked in
    let f = loop_at s past site turn in
    let come = next.come in
    let t = come.stands in
    let noted_if : st.inspected ++ pos number ∷ [] ≡ map pos (inspecting_of c (Forall site turn ∷ past))
    = ap (λ l. l ++ pos number ∷ []) come.inspected ∙ ap (λ n. map pos (inspecting_of c past) ++ pos n ∷ []) numbered
    ∙ sym (map_append (inspecting_of c past) (length past ∷ []))
    ∙ ap (λ b. map pos (inspecting_of c past ++ (if b then length past ∷ [] else []))) (sym at.inspects) in
    record {
      session = next.session;
      node = next.node;
      places = come.places;
      left_is = next.left_is ∙ ap (λ l. length (whole_in plan past (Forall site turn) rest l))
          (stages_of_inspection plan past site turn at);
      knows = record {
        stands = record {
          parts = t.parts;
          elements = t.elements;
          records = t.records;
          pages = t.pages;
          counts = t.counts;
          places = t.places;
        };
        keeps = inspection_begins s (run_in plan) past site turn (first_phase f) p st.holdings.tables st.holdings.tables st.holdings.kept
            at.inspects
            (not_executing (asks_places f (Indexes First)) (has_level f First) (asks_places f (Indexes Second)) (has_level f Second))
            (λ k other steps t owners store q x h. h) come.keeps;
        inspected = noted_if;
        text = come.text;
        refused = come.refused;
        sized = come.sized;
      };
    }

abbrev noted_at : NodeState → Entered → ℕ → ℕ → NodeState
noted_at st e number site = record st {
  at = e.at;
  inspected = st.inspected ++ pos number ∷ [];
  holdings = record st.holdings { kept = slice_set st.holdings.kept site no_kept };
}

abbrev entered_with : NodeState → Entered → Bool → NodeState
entered_with st e b = record st {
  at = e.at;
  inspected = noted_if b e.at.execution st.inspected;
  holdings = record st.holdings { kept = if b then slice_set st.holdings.kept e.at.site no_kept else st.holdings.kept };
}

abbrev pub with_begin : Entered → Entered
with_begin e = record e { begins = true }

same_state : (st : NodeState) (e : Entered) (number site : ℕ) → e.begins ≡ false → e.at.execution ≡ number → e.at.site ≡ site
    → entered_state (state_noted st number site) e ≡ entered_state st (with_begin e)
same_state st e number site plain execution place =
    ap (entered_with (state_noted st number site) e) plain ∙ ap (λ n. noted_at st e n site) (sym execution)
    ∙ ap (noted_at st e e.at.execution) (sym place)

-- a new inspection of this loop
pub record IsNew (i : Inspection) (f : LoopFacts) (me : ℕ) : Type 0 where
  pub facts : i.facts ≡ f
  pub node : i.me ≡ me
  pub phase_is : phase_of i.stage ≡ Some (first_phase f)
  pub inspecting : (owners : List (List ℕ)) (store : List (List ℤ)) (tables : List Stamps) → AreOwners f owners
      → IsInspecting i owners store tables

pub record IsPlacedAt (number site : ℕ) (e : Entered) : Type 0 where
  pub begins : e.begins ≡ false
  pub execution : e.at.execution ≡ number
  pub site_is : e.at.site ≡ site

-- the step is a FORALL with this number, as it is begun
pub record IsLoopStep (s : Scene) (past : List Step) (step : Step) (site : ℕ) (does : Bool) : Type 0 where
  pub turn : LoopTurn
  pub is : step ≡ Forall site turn
  pub at : IsLoopAt s past site turn does

pub loop_step : (s : Scene) (past : List Step) (step : Step) (site : ℕ) (does : Bool) → site ≡ site_of step → BeginsLoop s past step does
    → IsLoopStep s past step site does
loop_step s past step site does named loop =
    let same : loop.site ≡ site = sym (named ∙ ap site_of loop.is) in
    record {
      turn = loop.turn;
      is = loop.is ∙ ap (λ k. Forall k loop.turn) same;
      at = subst (λ k. IsLoopAt s past k loop.turn does) same loop.at;
    }

pub begin_is_right : (session : Session) (b : Between) (pages : List (Option Pages)) (number site : ℕ) (f : LoopFacts) (left : ℕ)
    (i : Inspection) (e : Entered)
    → IsNew i f b.me → IsPlacedAt number site e → EntersInspection session b.me number site i b.parts.now pages [] left e
    → (plan : RunPlan) (past rest : List Step) (step : Step) (st : NodeState) → IsRunPlan plan → session ≡ session_in plan
    → number ≡ length past → site ≡ site_of step
    → IsHere plan b (held_of st) → pages ≡ st.holdings.pages → ComesNext plan past (step ∷ rest) b.me left st
    → BeginsInspection (scene_in plan) past step f
    → EntersAs plan (left_from plan past (step ∷ rest)) b.me (with_begin e) st
begin_is_right session b pages number site f left i e new placed enters plan past rest step st known same numbered named here paged next
    begins =
    let s = scene_in plan in
    let loop = loop_step s past step site true named begins.loop in
    let owned = begins.owners in
    let facts : f ≡ loop_at s past site loop.turn = begins.facts ∙ facts_same s past step site begins.loop loop in
    let later : ComesNext plan past (Forall site loop.turn ∷ rest) b.me left st =
    subst (λ (x : Step). ComesNext plan past (x ∷ rest) b.me left st) loop.is next in
    let f = loop_at s past site loop.turn in
    let present = first_phase f in
    let goes_on : GoesOnInspecting plan past site loop.turn present b.me st.holdings.tables i = record {
      phase_is = new.phase_is ∙ ap (λ x. Some (first_phase x)) facts;
      some = loop.at.some;
      inspects = loop.at.inspects;
      facts = new.facts ∙ facts;
      node = new.node;
      inspecting = new.inspecting (owners_at s past) (store_at s past) st.holdings.tables owned;
    } in
    let right = enters plan past rest loop.turn present (state_noted st number site) known same numbered
    (inspection_comes plan past rest number site loop.turn b.me left st later numbered loop.at) goes_on (sym here.parts) paged
    (knows_free plan past (Forall site loop.turn) (stage.InLoop present) b.me []
    (free_first (asks_places f (Indexes First)) (has_level f First) (asks_places f (Indexes Second)) (has_level f Second))) in
    let phases = left_in plan past (Forall site loop.turn) rest (stage.InLoop present ∷ stages_behind (loop_at s past site loop.turn)
    present) in
    let begun : EntersAs plan phases b.me (with_begin e) st = record {
      face = right.face;
      holds = subst (λ x. HoldsAt plan phases b.me x) (same_state st e number site placed.begins placed.execution placed.site_is)
          right.holds;
    } in
    subst (λ (x : Step). EntersAs plan (left_from plan past (x ∷ rest)) b.me (with_begin e) st) (sym loop.is)
    (right_from plan past rest (Forall site loop.turn) (stage.InLoop present ∷ stages_behind (loop_at s past site loop.turn) present) b.me
    (with_begin e) st
    (stages_of_inspection plan past site loop.turn loop.at) begun)
  where
    facts_same : (s : Scene) (past : List Step) (step : Step) (site : ℕ) (loop : BeginsLoop s past step true)
        (found : IsLoopStep s past step site true)
        → loop_at s past loop.site loop.turn ≡ loop_at s past site found.turn
    facts_same s past step site loop found = ap (facts_of_step s past) (sym loop.is ∙ found.is)

-- ---- an execution by what is kept

-- what is kept is there
pub record IsReused (plan : RunPlan) (past rest : List Step) (step : Step) (b : Between) (site left : ℕ) (st : NodeState) : Type 0 where
  pub loop : IsLoopStep (scene_in plan) past step site false
  pub reuse : CanReuse plan past site loop.turn b.me (held_of st)
  pub there : prepared_in b.kept.now site ≡ Some reuse.prepared
  pub coming : IsComing plan past (Forall site loop.turn) rest (stage.InLoop phase.Gather) (stage.InLoop phase.Scatter ∷ []) b.me left st
  pub stages : stages_in plan past (Forall site loop.turn) ≡ stage.InLoop phase.Gather ∷ stage.InLoop phase.Scatter ∷ []

pub is_reused : (plan : RunPlan) (past rest : List Step) (step : Step) (b : Between) (site left : ℕ) (st : NodeState) → IsRunPlan plan
    → site ≡ site_of step
    → IsHere plan b (held_of st) → ComesNext plan past (step ∷ rest) b.me left st → BeginsLoop (scene_in plan) past step false
    → IsReused plan past rest step b site left st
is_reused plan past rest step b site left st known named here next begins =
    let s = scene_in plan in
    let loop = loop_step s past step site false named begins in
    let later : ComesNext plan past (Forall site loop.turn ∷ rest) b.me left st =
    subst (λ (x : Step). ComesNext plan past (x ∷ rest) b.me left st) loop.is next in
    let reuse = can_reuse plan past rest site loop.turn b.me (held_of st) known later.come loop.at in
    let stages : stages_in plan past (Forall site loop.turn) ≡ stage.InLoop phase.Gather ∷ stage.InLoop phase.Scatter ∷ []
    = (stages_are_known plan past).loops site loop.turn loop.at.some ∙ ap (loop_stages (loop_at s past site loop.turn)) loop.at.inspects in
    record {
      loop = loop;
      reuse = reuse;
      there = here.kept.inspections site reuse.prepared reuse.is;
      coming = coming_of plan past rest (Forall site loop.turn) (stage.InLoop phase.Gather) (stage.InLoop phase.Scatter ∷ []) b.me left st
          later stages refl loop.at.inspects;
      stages = stages;
    }

some_same : {A : Type 0} (x y : A) → Some x ≡ Some y → x ≡ y
some_same x y e = cc

pub execute_is_right : (session : Session) (b : Between) (number site : ℕ) (prepared : Prepared) (left : ℕ) (e : Entered)
    → prepared_in b.kept.now site ≡ Some prepared → EntersGather session b.me number site prepared b.parts.now left e
    → (plan : RunPlan) (past rest : List Step) (step : Step) (st : NodeState) → IsRunPlan plan → session ≡ session_in plan
    → number ≡ length past → site ≡ site_of step
    → IsHere plan b (held_of st) → ComesNext plan past (step ∷ rest) b.me left st → BeginsLoop (scene_in plan) past step false
    → EntersAs plan (left_from plan past (step ∷ rest)) b.me e st
execute_is_right session b number site prepared left e found enters plan past rest step st known same numbered named here next begins =
    let s = scene_in plan in
    let it = is_reused plan past rest step b site left st known named here next begins in
    let equal : it.reuse.prepared ≡ prepared = some_same it.reuse.prepared prepared (sym it.there ∙ found) in
    subst (λ (x : Step). EntersAs plan (left_from plan past (x ∷ rest)) b.me e st) (sym it.loop.is)
    (right_from plan past rest (Forall site it.loop.turn) (stage.InLoop phase.Gather ∷ stage.InLoop phase.Scatter ∷ []) b.me e st it.stages
    (enters plan past rest it.loop.turn st known same numbered it.coming it.loop.at.some (it.reuse.is ∙ ap Some equal)
    (subst (λ x. CanExecute s past site it.loop.turn b.me st.holdings.tables x) equal it.reuse.can) (sym here.parts)))

no_some : {A : Type 0} (x : A) → None ≡ Some x → ⊥
no_some x e = cc

-- nothing kept can't be
pub nothing_kept : (session : Session) (b : Between) (number site left : ℕ) (e : Entered) → prepared_in b.kept.now site ≡ None
    → (plan : RunPlan) (past rest : List Step) (step : Step) (st : NodeState) → IsRunPlan plan → session ≡ session_in plan
    → number ≡ length past → site ≡ site_of step
    → IsHere plan b (held_of st) → ComesNext plan past (step ∷ rest) b.me left st → BeginsLoop (scene_in plan) past step false
    → EntersAs plan (left_from plan past (step ∷ rest)) b.me e st
nothing_kept session b number site left e none plan past rest step st known same numbered named here next begins =
    absurd (no_some (is_reused plan past rest step b site left st known named here next begins).reuse.prepared
    (sym none ∙ (is_reused plan past rest step b site left st known named here next begins).there))

-- ---- a PRINT and a move

pub print_begins : (plan : RunPlan) (past rest : List Step) (step : Step) (array p left : ℕ) (e : Entered) (st : NodeState)
    → step ≡ Print array
    → ComesNext plan past (step ∷ rest) p left st
    → (IsComing plan past (Print array) rest stage.Print [] p left st
    → EntersAs plan (left_in plan past (Print array) rest (stage.Print ∷ [])) p e st)
    → EntersAs plan (left_from plan past (step ∷ rest)) p e st
print_begins plan past rest step array p left e st is next enters =
    subst (λ (x : Step). EntersAs plan (left_from plan past (x ∷ rest)) p e st) (sym is)
    (right_from plan past rest (Print array) (stage.Print ∷ []) p e st refl
    (enters (coming_of plan past rest (Print array) stage.Print [] p left st (subst (λ (x : Step). ComesNext plan past (x ∷ rest) p left st)
    is next) refl refl refl)))

-- what is begun is told of by its kind
pub begun_as : (a : Ahead) (b kind : Begun) (r : Result Entered Memory) → b ≡ kind
    → IfOk r (EntersStep a (λ s past step. IsBegun s past step a.between.now.me kind))
    → IfOk r (EntersStep a (λ s past step. IsBegun s past step a.between.now.me b))
begun_as a b kind r is h = subst (λ x. IfOk r (EntersStep a (λ s past step. IsBegun s past step a.between.now.me x))) (sym is) h

pub move_begins : (session : Session) (me number : ℕ) (m : Moving) (left : ℕ) (e : Entered) → EntersMove session me number m [] left e
    → (plan : RunPlan) (past rest : List Step) (step : Step) (st : NodeState) → IsRunPlan plan → session ≡ session_in plan
    → number ≡ length past
    → ComesNext plan past (step ∷ rest) me left st → BeginsMove (scene_in plan) past step me m
    → EntersAs plan (left_from plan past (step ∷ rest)) me e st
move_begins session me number m left e enters plan past rest step st known same numbered next begins =
    let s = scene_in plan in
    let d = m.share.decomposition in
    let form = begins.form in
    let equal : begins.d ≡ d = sym begins.begins.decomposition in
    let is : step ≡ Distribute d form = begins.is ∙ ap (λ k. Distribute k form) equal in
    let moves : is_repeat plan.checked past d form ≡ false = subst (λ k. is_repeat plan.checked past k form ≡ false) equal begins.moves in
    let first = first_in_move form in
    let stages : stages_in plan past (Distribute d form) ≡ first.first ∷ first.more = (stages_are_known plan past).moves d form moves
    ∙ first.is in
    let goes_on : GoesOnMoving plan past d form first.first first.more me m = record {
      left = begins.begins.stages ∙ first.is;
      repeats = moves;
      decomposition = refl;
      node = begins.begins.node;
      by = begins.begins.given;
      moving = subst (λ k. IsMoving m s (owners_at s past) (store_at s past) (owners_after s past k form)) equal begins.begins.moving;
    } in
    subst (λ (x : Step). EntersAs plan (left_from plan past (x ∷ rest)) me e st) (sym is)
    (right_from plan past rest (Distribute d form) (first.first ∷ first.more) me e st stages
    (enters plan past rest form first.first first.more st known same numbered
    (coming_of plan past rest (Distribute d form) first.first first.more me left st
    (subst (λ (x : Step). ComesNext plan past (x ∷ rest) me left st) is next) stages first.plain refl)
    goes_on (knows_free plan past (Distribute d form) first.first me [] first.free)))

-- ---- behind the steps

-- the next step is entered
pub next_enters : (plan : RunPlan) (past rest : List Step) (p left : ℕ) (st : NodeState) (number site : ℕ) (x : Begun) (e : Entered)
    → ComesNext plan past rest p left st
    → FindsStep plan past rest p (held_of st) number site x
    → ((before behind : List Step) (step : Step) → number ≡ length before → site ≡ site_of step
    → ComesNext plan before (step ∷ behind) p left st
    → IsBegun (scene_in plan) before step p x → EntersAs plan (left_from plan before (step ∷ behind)) p e st)
    → EntersAs plan (left_from plan past rest) p e st
next_enters plan past rest p left st number site x e next found enters =
    subst (λ l. EntersAs plan l p e st) (sym found.left)
    (enters found.before found.behind found.step found.number_is found.site_is
    (record { session = next.session; node = next.node; come = found.come; left_is = next.left_is ∙ ap length found.whole }) found.begins)

pub none_found : (plan : RunPlan) (past rest : List Step) (p left : ℕ) (st : NodeState) (e : Entered) → ComesNext plan past rest p left st
    → FindsNone plan past rest p (held_of st)
    → (IsBehindSteps plan 0 p left st → EntersAs plan (outputs_left plan (completed_of (run_in plan)) 0 plan.checked.outputs) p e st)
    → EntersAs plan (left_from plan past rest) p e st
none_found plan past rest p left st e next found enters =
    let s = scene_in plan in
    let run = run_in plan in
    let v = held_of st in
    let behind = steps_are_over plan found.before found.come.places in
    let knows : KnowsBehind s run found.before 0 p v = record {
      history = found.come.places.history;
      stands = found.come.stands;
      keeps = zip_weaker (λ k. KeepsLoop s found.before k p v.tables) (KeepsAtEnd s run found.before p v.tables)
          (λ k kept held. subst (λ o. MatchBool (is_stopped o k) (kept ≡ None) (KeepsLoop s found.before k p v.tables kept))
          (sym behind.refused) held)
          (below (length plan.checked.sites)) v.kept found.come.keeps;
      inspected = found.come.inspected ∙ ap (λ steps. map pos (inspecting_of plan.checked steps)) (sym behind.executed);
      text = found.come.text ∙ ap (text_on p) (sym (append-nil (lines_of s found.before ++ refusal_text plan.checked run.refused)
          ∙ ap (λ o. lines_of s found.before ++ refusal_text plan.checked o) behind.refused ∙ append-nil (lines_of s found.before)));
      refused = found.come.refused ∙ sym behind.refused;
      last = behind.last;
    } in
    subst (λ l. EntersAs plan l p e st) (sym (found.left ∙ behind.left))
    (subst (λ past. EntersAs plan (outputs_left plan past 0 plan.checked.outputs) p e st) behind.completed
    (enters (record {
      session = next.session;
      within = nought_least (length plan.checked.outputs);
      left_is = next.left_is ∙ ap length found.whole ∙ (phases_are_counted plan found.before).last;
      knows = subst (λ past. KnowsBehind s run past 0 p v) (sym behind.completed) knows;
    })))

-- ---- what the functions give

pub begin_stands : (me nodes number site : ℕ) (e : Entered) → CanStand me nodes e → IsPlacedAt number site e → number < 2 ^ 63
    → CanStand me nodes (with_begin e)
begin_stands me nodes number site e h placed less = record {
  left = h.left;
  out = h.out;
  due = h.due;
  room = h.room;
  number = λ b. subst (λ n. n < 2 ^ 63) (sym placed.execution) less;
  sound = h.sound;
}

pub placed_of : (o : Option LoopPhase) (l : LoopPhase) (number site : ℕ) (e : Entered) → o ≡ Some l → e.begins ≡ false
    → IfSome o (λ l. (e.at.execution ≡ number) × (e.at.site ≡ site)) → IsPlacedAt number site e
placed_of None l number site e some plain h = cc
placed_of (Some x) l number site e some plain h = record { begins = plain; execution = h.0; site_is = h.1 }
