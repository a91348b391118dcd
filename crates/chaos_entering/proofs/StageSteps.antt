-- The stages of steps as they are entered.
use Rattle.std.specs.Prelude.{◌≡◌, refl, ℕ, zero, suc, ◌+◌, ◌<◌, ◌≤◌, ◌*◌, ℤ, false, List, [], ◌∷◌, length, map, slice_get, unwrap_or}
use Rattle.std.specs.Prelude.{Option, Some, None, IfSome}
use Rattle.std.specs.List.{AllZip, enumerate_from, range_with_len}
use Rattle.std.proofs.Common.{ap, sym, subst, ◌∙◌, arith}
use Rattle.fd_words.specs.Lists.{list_at}
use Rattle.fd_program.specs.Layouts.{Scene, layout_at, layouts_at, loop_at, owners_at, store_at}
use Rattle.fd_program.specs.Past.{form_at}
use Rattle.fd_program.specs.Places.{parts_of}
use Rattle.fd_program.specs.Trace.{is_empty_turn}
use Rattle.fd_program.specs.declared.array.LayoutName.{LayoutName}
use Rattle.fd_program.specs.declared.loop_facts.LoopFacts.{LoopFacts}
use Rattle.fd_program.specs.declared.trace.LoopTurn.{LoopTurn}
use Rattle.fd_program.specs.declared.trace.Step.{Step}
use Rattle.fd_program.specs.declared.trace.Step.TheVariants.{Distribute, Forall}
use Rattle.chaos_dist.specs.Counting.{below}
use Rattle.chaos_dist.specs.Owners.{page_of}
use Rattle.chaos_dist.specs.declared.step_form.StepForm.{StepForm}
use Rattle.chaos_dist.specs.declared.step_form.StepForm.TheVariants.{Regular, Map}
use Rattle.inspect_places.specs.Asks.{ArePages, IsPageFor, page_at}
use Rattle.inspect_uses.specs.Accepted.{AreOwners}
use Rattle.plan_loop.specs.LoopLetters.{sent_in}
use Rattle.fd_program.specs.Met.{no_layout}
use Rattle.plan_loop.specs.declared.loop_phase.LoopPhase.{LoopPhase}
use Rattle.plan_loop.specs.declared.loop_phase.LoopPhase.TheVariants as phase
use Rattle.chaos_table.specs.declared.pages.Pages.{Pages}
use Rattle.chaos_hash.specs.Stamps.{Stamps}
use Rattle.plan_run.specs.Held.{HasPage, Held, Stands}
use Rattle.plan_run.specs.Phases.{numbers_at}
use Rattle.plan_run.specs.Rows.{RunPlan, scene_in}
use Rattle.plan_run.specs.declared.stage.Stage.{Stage}
use Rattle.plan_run.specs.declared.stage.Stage.TheVariants as stage
use Rattle.chaos_sched.specs.declared.prepared.Prepared.{Prepared}
use Rattle.chaos_moving.specs.InRun.{owners_after}
use Rattle.chaos_moving.specs.IsMoving.{IsMoving, lists_moved as sent_in_move}
use Rattle.chaos_moving.specs.Stages.{stage_in}
use Rattle.chaos_moving.specs.declared.moving.Moving.{Moving}
use Rattle.chaos_inspect.specs.Inspecting.{IsDue, IsInspecting, phase_of}
use Rattle.chaos_inspect.specs.declared.inspection.Inspection.{Inspection}
use Rattle.chaos_executing.specs.Counts.{GatherHasCounts, ScatterHasCounts}
use Rattle.chaos_executing.specs.InRun.{CanExecute, IsExecuting, sent_at_loop}
use Rattle.chaos_executing.specs.declared.executing.Executing.{Executing}
use Rattle.plan_walk.specs.LetterLaws.{AreCounted, all_lengths_are_counted}
use Rattle.plan_walk.specs.Letters.{number_in}
use Rattle.plan_walk.specs.Places.{left_in, present_phase}
use Rattle.plan_walk.specs.declared.stages.Naming.{Naming}
use Rattle.chaos_entering.specs.Behind.{stages_behind}
use Rattle.chaos_entering.specs.Coming.{IsComing, EntersAs, KnowsLengths, entered_state}
use Rattle.chaos_entering.specs.Entering.{ArePosted, IsStaged, counts_behind, naming_in, phase_with}
use Rattle.chaos_holdings.specs.Keeping.{prepared_in}
use Rattle.chaos_entering.specs.StageLaws.{IsStage, stage_comes}
use Rattle.chaos_entering.specs.Standing.{GoesOnInspecting, GoesOnMoving, HasSizes, StandsInStep, IsPlace, session_in}
use Rattle.chaos_entering.specs.State.{NodeState, held_of}
use Rattle.chaos_entering.specs.declared.activity.Activity.{Activity}
use Rattle.chaos_entering.specs.declared.activity.Activity.TheVariants.{Moving as Moves, Inspecting, Gathering, Scattering}
use Rattle.chaos_entering.specs.declared.entered.Entered.{Entered}
use Rattle.chaos_entering.specs.declared.entered.Posted.{Posted}
use Rattle.chaos_holdings.specs.declared.holdings.Holdings.{Holdings}
use Rattle.chaos_holdings.specs.declared.session.Session.{Session}

-- ---- in general

same_some : {A : Type 0} (x y : A) → Some x ≡ Some y → x ≡ y
same_some x y e = cc

none_some : {A : Type 0} (o : Option A) (x : A) → o ≡ None → o ≡ Some x → ⊥
none_some None x a b = cc
none_some (Some y) x a b = cc

pub least_left : (a b : ℕ) → a ≡ 0 → a ≤ b
least_left a b e = omega (arith, e)

from_nought : (n : ℕ) → 0 + n ≡ n
from_nought n = omega arith

staged_in_plan : (plan : RunPlan) (session : Session) (st told : Stage) (execution : ℕ) (past : List Step) (site me : ℕ)
    (activity : Activity) (lists : List (List ℤ)) (counts : List ℕ) (left : ℕ) (e : Entered)
    → told ≡ st → session ≡ session_in plan → execution ≡ length past
    → IsStaged (naming_in session.checked told execution site) me session.nodes activity lists counts left e
    → IsStaged (naming_in plan.checked st (length past) site) me plan.nodes activity lists counts left e
staged_in_plan plan session st told execution past site me activity lists counts left e equal same number h =
    subst (λ t. IsStaged (naming_in plan.checked t (length past) site) me plan.nodes activity lists counts left e) equal
    (subst (λ n. IsStaged (naming_in plan.checked told n site) me plan.nodes activity lists counts left e) number
    (subst (λ (x : Session). IsStaged (naming_in x.checked told execution site) me x.nodes activity lists counts left e) same h))

right_by : (plan : RunPlan) (past : List Step) (step : Step) (rest : List Step) (st : Stage) (more : List Stage) (p : ℕ)
    (activity : Activity) (e : Entered) (node : NodeState)
    → IsStage plan past step rest st more p activity e node → IsPlace plan (left_in plan past step rest (st ∷ more)) p
    (entered_state node e) activity
    → EntersAs plan (left_in plan past step rest (st ∷ more)) p e node
right_by plan past step rest st more p activity e node h place = record {
  face = h.face;
  holds = record {
    session = h.session;
    place = subst (IsPlace plan (left_in plan past step rest (st ∷ more)) p (entered_state node e))
        (sym h.activity_is) place;
  };
}

known_counts : (plan : RunPlan) (session : Session) (past : List Step) (step : Step) (rest : List Step) (st : Stage) (more : List Stage)
    (told : Stage) (p : ℕ) (sizes counts : List ℕ)
    → told ≡ st → session ≡ session_in plan → KnowsLengths plan past step st p sizes → counts ≡ counts_behind told session.nodes sizes
    → AreCounted (scene_in plan) (present_phase plan past step rest st more) p counts
known_counts plan session past step rest st more told p sizes counts equal same knows counted q less sent known =
    ap (λ (c : List ℕ). number_in c q) (counted ∙ ap (λ (x : Session). counts_behind told x.nodes sizes) same
    ∙ ap (λ t. counts_behind t plan.nodes sizes) equal) ∙ knows known q less

-- ---- a move

pub next_stage : (m : Moving) (plan : RunPlan) (past : List Step) (d : ℕ) (form : StepForm) (now : Stage) (more : List Stage) (p : ℕ)
    → GoesOnMoving plan past d form now more p m → stage_in m.stage ≡ Some now
next_stage m plan past d form now more p h = ap (λ (l : List Stage). slice_get l 0) h.left

-- by the stage that the move tells
pub move_enters : (plan : RunPlan) (past rest : List Step) (form : StepForm) (now : Stage) (more : List Stage) (p left : ℕ) (st : NodeState)
    (session : Session) (execution : ℕ) (m : Moving) (sizes counts : List ℕ) (lists : List (List ℤ)) (e : Entered) (told : Stage)
    → stage_in m.stage ≡ Some told
    → session ≡ session_in plan → execution ≡ length past
    → IsComing plan past (Distribute m.share.decomposition form) rest now more p left st
    → GoesOnMoving plan past m.share.decomposition form now more p m
    → KnowsLengths plan past (Distribute m.share.decomposition form) now p sizes
    → ((s : Scene) (owners : List (List ℕ)) (store : List (List ℤ)) (new : List ℕ) → IsMoving m s owners store new
    → IfSome (stage_in m.stage) (λ stage. lists ≡ sent_in_move s owners store m.share.decomposition new stage m.share.me))
    → counts ≡ counts_behind told session.nodes sizes
    → IsStaged (naming_in session.checked told execution m.share.decomposition) p session.nodes (Moves m) lists counts left e
    → EntersAs plan (left_in plan past (Distribute m.share.decomposition form) rest (now ∷ more)) p e st
move_enters plan past rest form now more p left st session execution m sizes counts lists e told is same number come goes knows sent
    counted staged =
    let s = scene_in plan in
    let d = m.share.decomposition in
    let step = Distribute d form in
    let phases = left_in plan past step rest (now ∷ more) in
    let after = entered_state st e in
    let owners = owners_at s past in
    let store = store_at s past in
    let new = owners_after s past d form in
    let equal : told ≡ now = same_some told now (sym is ∙ next_stage m plan past d form now more p goes) in
    let due : IfSome (Some now) (λ stage. lists ≡ sent_in_move s owners store d new stage m.share.me)
    = subst (λ o. IfSome o (λ stage. lists ≡ sent_in_move s owners store d new stage m.share.me))
    (next_stage m plan past d form now more p goes) (sent s owners store new goes.moving) in
    let lists_are : lists ≡ map (λ q. numbers_at s past step now p q) (below plan.nodes) = due
    ∙ ap (sent_in_move s owners store d new now) goes.node in
    let stands = stage_comes plan past step rest now more p left st (Moves m) lists counts e come lists_are
    (known_counts plan session past step rest now more told p sizes counts equal same knows counted)
    (staged_in_plan plan session now told execution past d p (Moves m) lists counts left e equal same number staged) in
    right_by plan past step rest now more p (Moves m) e st stands (record {
      past = past;
      rest = rest;
      form = form;
      stage = now;
      more = more;
      in_step = subst (λ k. StandsInStep plan phases past (Distribute k form) rest now more p after) (sym stands.site_is) stands.in_step;
      sizes = subst (λ k. HasSizes plan past (Distribute k form) now p after) (sym stands.site_is) stands.sizes;
      goes_on = subst (λ k. GoesOnMoving plan past k form now more p m) (sym stands.site_is) goes;
    })

-- ---- an execution

pub gather_comes : (plan : RunPlan) (past rest : List Step) (turn : LoopTurn) (p left : ℕ) (st : NodeState)
    (session : Session) (execution site : ℕ) (prepared : Prepared) (parts lists : List (List ℤ)) (counts : List ℕ) (e : Entered)
    → GatherHasCounts
    → session ≡ session_in plan → execution ≡ length past
    → IsComing plan past (Forall site turn) rest (stage.InLoop phase.Gather) (stage.InLoop phase.Scatter ∷ []) p left st
    → is_empty_turn turn ≡ false → prepared_in st.holdings.kept site ≡ Some prepared
    → CanExecute (scene_in plan) past site turn p st.holdings.tables prepared
    → (parts ≡ parts_of plan.checked.arrays (owners_at (scene_in plan) past) (store_at (scene_in plan) past) p
    → lists ≡ sent_at_loop (scene_in plan) past site turn phase.Gather p)
    → parts ≡ st.holdings.parts
    → counts ≡ map (λ items. 3 * length items) prepared.schedule.gather_fetch
    → IsStaged (naming_in session.checked (stage.InLoop phase.Gather) execution site) p session.nodes Gathering lists counts left e
    → EntersAs plan (left_in plan past (Forall site turn) rest (stage.InLoop phase.Gather ∷ stage.InLoop phase.Scatter ∷ [])) p e st
gather_comes plan past rest turn p left st session execution site prepared parts lists counts e law same number come some kept can sent
    here counted staged =
    let s = scene_in plan in
    let now = stage.InLoop phase.Gather in
    let more = stage.InLoop phase.Scatter ∷ [] in
    let step = Forall site turn in
    let phases = left_in plan past step rest (now ∷ more) in
    let after = entered_state st e in
    let f = present_phase plan past step rest now more in
    let lists_are : lists ≡ map (λ q. numbers_at s past step now p q) (below plan.nodes) = sent (here ∙ come.knows.stands.parts) in
    let counts_are = counted ∙ law (loop_at s past site turn) (owners_at s past) (store_at s past) _ p prepared can.inspected.fits in
    let stands = stage_comes plan past step rest now more p left st Gathering lists counts e come lists_are
    (all_lengths_are_counted s f p counts counts_are)
    (staged_in_plan plan session now now execution past site p Gathering lists counts left e refl same number staged) in
    right_by plan past step rest now more p Gathering e st stands (record {
      past = past;
      rest = rest;
      turn = turn;
      prepared = prepared;
      in_step = subst (λ k. StandsInStep plan phases past (Forall k turn) rest now more p after) (sym stands.site_is) stands.in_step;
      some = some;
      kept = ap (λ (h : Holdings). prepared_in h.kept e.at.site) stands.kept ∙ ap (prepared_in st.holdings.kept) stands.site_is ∙ kept;
      can = subst (λ k. CanExecute s past k turn p after.holdings.tables prepared) (sym stands.site_is)
          (subst (λ (h : Holdings). CanExecute s past site turn p h.tables prepared) (sym stands.kept) can);
    })

pub scatter_comes : (plan : RunPlan) (past rest : List Step) (turn : LoopTurn) (p left : ℕ) (st : NodeState)
    (session : Session) (execution site : ℕ) (prepared : Prepared) (x : Executing) (lists : List (List ℤ)) (counts : List ℕ) (e : Entered)
    → ScatterHasCounts
    → session ≡ session_in plan → execution ≡ length past
    → IsComing plan past (Forall site turn) rest (stage.InLoop phase.Scatter) [] p left st
    → is_empty_turn turn ≡ false → prepared_in st.holdings.kept site ≡ Some prepared
    → IsExecuting (scene_in plan) past site turn p st.holdings.tables prepared x
    → lists ≡ sent_at_loop (scene_in plan) past site turn phase.Scatter p
    → counts ≡ map (λ items. 3 * length items) prepared.schedule.scatter_take
    → IsStaged (naming_in session.checked (stage.InLoop phase.Scatter) execution site) p session.nodes (Scattering x) lists counts left e
    → EntersAs plan (left_in plan past (Forall site turn) rest (stage.InLoop phase.Scatter ∷ [])) p e st
scatter_comes plan past rest turn p left st session execution site prepared x lists counts e law same number come some kept executing sent
    counted staged =
    let s = scene_in plan in
    let now = stage.InLoop phase.Scatter in
    let step = Forall site turn in
    let phases = left_in plan past step rest (now ∷ []) in
    let after = entered_state st e in
    let f = present_phase plan past step rest now [] in
    let counts_are = counted ∙ law (loop_at s past site turn) (owners_at s past) (store_at s past) _ p prepared
    executing.can.inspected.fits in
    let stands = stage_comes plan past step rest now [] p left st (Scattering x) lists counts e come sent
    (all_lengths_are_counted s f p counts counts_are)
    (staged_in_plan plan session now now execution past site p (Scattering x) lists counts left e refl same number staged) in
    right_by plan past step rest now [] p (Scattering x) e st stands (record {
      past = past;
      rest = rest;
      turn = turn;
      prepared = prepared;
      in_step = subst (λ k. StandsInStep plan phases past (Forall k turn) rest now [] p after) (sym stands.site_is) stands.in_step;
      some = some;
      kept = ap (λ (h : Holdings). prepared_in h.kept e.at.site) stands.kept ∙ ap (prepared_in st.holdings.kept) stands.site_is ∙ kept;
      executing = subst (λ k. IsExecuting s past k turn p after.holdings.tables prepared x) (sym stands.site_is)
          (subst (λ (h : Holdings). IsExecuting s past site turn p h.tables prepared x) (sym stands.kept) executing);
    })

-- ---- pages

layouts_count : (past : List Step) (a : ℕ) (ls : List LayoutName) → length (map (layout_at past) (enumerate_from a ls)) ≡ length ls
layouts_count past a [] = refl
layouts_count past a (l ∷ ls) = ap suc (layouts_count past (a + 1) ls)

layout_form : (past : List Step) (a : ℕ) (ls : List LayoutName) (d : ℕ) → d < length ls
    → (unwrap_or (slice_get (map (layout_at past) (enumerate_from a ls)) d) no_layout).form ≡ form_at past (a + d)
layout_form past a [] d less = absurd (omega (arith, less))
layout_form past a (l ∷ ls) zero less = ap (form_at past) (let z : a ≡ a + 0 = omega arith in z)
layout_form past a (l ∷ ls) (suc d) less = layout_form past (a + 1) ls d (fewer d (length ls) less)
    ∙ ap (form_at past) (let z : a + 1 + d ≡ a + suc d = omega arith in z)
  where
    fewer : (k n : ℕ) → suc k < suc n → k < n
    fewer k n h = omega (arith, h)

page_get : (R : ℕ → Option Pages → Type 0) (low k : ℕ) (pages : List (Option Pages)) (d : ℕ) → d < k
    → AllZip R (range_with_len low k) pages → R (low + d) (page_at pages d)
page_get R low zero pages d less h = absurd (omega (arith, less))
page_get R low (suc k) [] d less h = absurd h
page_get R low (suc k) (page ∷ pages) zero less h = subst (λ n. R n page) (let z : low ≡ low + 0 = omega arith in z) h.0
page_get R low (suc k) (page ∷ pages) (suc d) less h =
    subst (λ n. R n (page_at pages d)) (let z : low + 1 + d ≡ low + suc d = omega arith in z)
    (page_get R (low + 1) k pages d (omega (arith, less)) h.1)

page_for : (form : StepForm) (nodes me extent : ℕ) (owners : List ℕ) (page : Option Pages) → length owners ≡ extent
    → HasPage nodes me form owners page → IsPageFor form nodes me extent owners page
page_for (Regular shape) nodes me extent owners page size h = tt
page_for (Map array) nodes me extent owners None size h = absurd h
page_for (Map array) nodes me extent owners (Some page) size h = λ g low high at. h g low high (ap (λ n. page_of n nodes g) size ∙ at)

are_pages : (s : Scene) (past : List Step) (site : ℕ) (turn : LoopTurn) (p : ℕ) (v : Held) → Stands s past p v
    → AreOwners (loop_at s past site turn) (owners_at s past)
    → ArePages (loop_at s past site turn) p (owners_at s past) v.pages
are_pages s past site turn p v stands owned d less =
    let layout = unwrap_or (slice_get (layouts_at s.checked past) d) no_layout in
    let owners = list_at (owners_at s past) d in
    let known : d < length s.checked.layouts = subst (λ n. d < n) (layouts_count past 0 s.checked.layouts) less in
    let form : layout.form ≡ form_at past d = layout_form past 0 s.checked.layouts d known ∙ ap (form_at past) (from_nought d) in
    let page : HasPage s.nodes p (form_at past d) owners (page_at v.pages d)
    = subst (λ n. HasPage s.nodes p (form_at past n) (list_at (owners_at s past) n) (page_at v.pages d)) (from_nought d)
    (page_get (λ d page. HasPage s.nodes p (form_at past d) (list_at (owners_at s past) d) page) 0 (length s.checked.layouts) v.pages d
    known stands.pages) in
    subst (λ f. IsPageFor f s.nodes p layout.extent owners (page_at v.pages d)) (sym form)
    (page_for (form_at past d) s.nodes p layout.extent owners (page_at v.pages d) (owned d less).elements page)

-- ---- an inspection

-- by the phase that the inspection tells
pub inspection_enters : (plan : RunPlan) (past rest : List Step) (turn : LoopTurn) (present : LoopPhase) (p left : ℕ) (st : NodeState)
    (session : Session) (execution site : ℕ) (i : Inspection) (parts lists : List (List ℤ)) (pages : List (Option Pages))
    (sizes counts : List ℕ) (e : Entered) (told : LoopPhase)
    → phase_of i.stage ≡ Some told
    → session ≡ session_in plan → execution ≡ length past
    → IsComing plan past (Forall site turn) rest (stage.InLoop present) (stages_behind (loop_at (scene_in plan) past site turn) present) p
    left st
    → GoesOnInspecting plan past site turn present p st.holdings.tables i → parts ≡ st.holdings.parts → pages ≡ st.holdings.pages
    → KnowsLengths plan past (Forall site turn) (stage.InLoop present) p sizes
    → ((owners : List (List ℕ)) (store : List (List ℤ)) (tables : List Stamps) → IsInspecting i owners store tables
    → parts ≡ parts_of i.facts.arrays owners store i.me → ArePages i.facts i.me owners pages → IsDue i owners store lists)
    → counts ≡ counts_behind (stage.InLoop told) session.nodes sizes
    → IsStaged (naming_in session.checked (stage.InLoop told) execution site) p session.nodes (Inspecting i) lists counts left e
    → EntersAs plan (left_in plan past (Forall site turn) rest
    (stage.InLoop present ∷ stages_behind (loop_at (scene_in plan) past site turn) present)) p e st
inspection_enters plan past rest turn present p left st session execution site i parts lists pages sizes counts e told is same number come
    goes here pages_here knows sent counted staged =
    let s = scene_in plan in
    let f = loop_at s past site turn in
    let now = stage.InLoop present in
    let more = stages_behind f present in
    let step = Forall site turn in
    let phases = left_in plan past step rest (now ∷ more) in
    let after = entered_state st e in
    let owners = owners_at s past in
    let store = store_at s past in
    let parts_are : parts ≡ parts_of i.facts.arrays owners store i.me
    = here ∙ come.knows.stands.parts ∙ sym (ap (λ (f : LoopFacts). parts_of f.arrays owners store i.me) goes.facts
    ∙ ap (parts_of s.checked.arrays owners store) goes.node) in
    let pages_are : ArePages i.facts i.me owners pages
    = subst (ArePages i.facts i.me owners) (sym pages_here)
    (subst (λ me. ArePages i.facts me owners st.holdings.pages) (sym goes.node)
    (subst (λ f. ArePages f p owners st.holdings.pages) (sym goes.facts)
    (are_pages s past site turn p (held_of st) come.knows.stands (subst (λ f. AreOwners f owners) goes.facts goes.inspecting.owned)))) in
    let due : IfSome (Some present) (λ l. lists ≡ sent_in i.facts owners store l i.me)
    = subst (λ o. IfSome o (λ l. lists ≡ sent_in i.facts owners store l i.me)) goes.phase_is
    (sent owners store st.holdings.tables goes.inspecting parts_are pages_are) in
    let lists_are : lists ≡ map (λ q. numbers_at s past step now p q) (below plan.nodes)
    = due ∙ ap (λ f. sent_in f owners store present i.me) goes.facts ∙ ap (sent_in f owners store present) goes.node in
    let equal : stage.InLoop told ≡ now = ap (λ l. stage.InLoop l) (same_some told present (sym is ∙ goes.phase_is)) in
    let stands = stage_comes plan past step rest now more p left st (Inspecting i) lists counts e come lists_are
    (known_counts plan session past step rest now more (stage.InLoop told) p sizes counts equal same knows counted)
    (staged_in_plan plan session now (stage.InLoop told) execution past site p (Inspecting i) lists counts left e equal same number
    staged) in
    right_by plan past step rest now more p (Inspecting i) e st stands (record {
      past = past;
      rest = rest;
      turn = turn;
      present = present;
      in_step = subst (λ k. StandsInStep plan phases past (Forall k turn) rest now (stages_behind (loop_at s past k turn) present) p after)
          (sym stands.site_is) stands.in_step;
      sizes = subst (λ k. HasSizes plan past (Forall k turn) now p after) (sym stands.site_is) stands.sizes;
      goes_on = subst (λ k. GoesOnInspecting plan past k turn present p after.holdings.tables i) (sym stands.site_is)
          (subst (λ (h : Holdings). GoesOnInspecting plan past site turn present p h.tables i) (sym stands.kept) goes);
    })

-- ---- what is over has no stage

pub no_move : (m : Moving) (plan : RunPlan) (past : List Step) (d : ℕ) (form : StepForm) (now : Stage) (more : List Stage) (p : ℕ)
    → stage_in m.stage ≡ None → GoesOnMoving plan past d form now more p m → ⊥
no_move m plan past d form now more p none h = none_some (stage_in m.stage) now none (next_stage m plan past d form now more p h)

pub no_inspection : (i : Inspection) (plan : RunPlan) (past : List Step) (site : ℕ) (turn : LoopTurn) (l : LoopPhase) (p : ℕ)
    (tables : List Stamps)
    → phase_of i.stage ≡ None → GoesOnInspecting plan past site turn l p tables i → ⊥
no_inspection i plan past site turn l p tables none h = none_some (phase_of i.stage) l none h.phase_is

-- ---- what was made

pub placed_there : (o : Option LoopPhase) (P : Type 0) → P → IfSome o (λ l. P)
placed_there None P h = tt
placed_there (Some l) P h = h

staged_of : (n : Naming) (me nodes : ℕ) (activity : Activity) (lists : List (List ℤ)) (counts : List ℕ) (left : ℕ) (p : Posted)
    → ArePosted n me nodes lists counts p
    → IsStaged n me nodes activity lists counts left (phase_with n activity (list_at lists me) (map length lists) left p)
staged_of n me nodes activity lists counts left p h = record {
  at = refl;
  begins = refl;
  left_is = refl;
  posted = record { out = h.out; due = h.due; got = h.got; room = h.room };
}

pub is_staged : (n : Naming) (me nodes : ℕ) (activity : Activity) (lists : List (List ℤ)) (counts : List ℕ) (left : ℕ) (own : List ℤ)
    (sizes : List ℕ) (p : Posted) (e : Entered)
    → own ≡ list_at lists me → sizes ≡ map length lists → ArePosted n me nodes lists counts p → e ≡ phase_with n activity own sizes left p
    → IsStaged n me nodes activity lists counts left e
is_staged n me nodes activity lists counts left own sizes p e mine many h is =
    subst (IsStaged n me nodes activity lists counts left)
    (sym (is ∙ ap (λ (l : List ℤ). phase_with n activity l sizes left p) mine
    ∙ ap (λ (l : List ℕ). phase_with n activity (list_at lists me) l left p) many))
    (staged_of n me nodes activity lists counts left p h)
