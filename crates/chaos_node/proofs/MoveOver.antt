-- The end of a move: the next step begins.
use Rattle.std.specs.Prelude.{◌≡◌, refl, ℕ, zero, suc, ◌+◌, ◌<◌, ◌≤◌, ◌^◌, ℤ, pos, ◌<ℤ◌, List, [], ◌∷◌, drop, length, map, slice_get}
use Rattle.std.specs.Prelude.{slice_set, unwrap_or, Option, None}
use Rattle.std.specs.List.{range_with_len}
use Rattle.std.proofs.Common.{ap, sym, ◌∙◌, subst, arith, append-nil, add-one}
use Rattle.std.proofs.lemmas.Int.{ints}
use Rattle.bsp_core.specs.Views.{View}
use Rattle.chaos_dist.specs.Counting.{below}
use Rattle.chaos_dist.specs.declared.step_form.StepForm.{StepForm}
use Rattle.fd_program.specs.Layouts.{Scene, owners_at, store_at}
use Rattle.fd_program.specs.Past.{version_at}
use Rattle.fd_program.specs.Places.{parts_of}
use Rattle.fd_program.specs.declared.checked.Checked.{Checked}
use Rattle.fd_program.specs.declared.trace.Step.{Step}
use Rattle.fd_program.specs.declared.trace.Step.TheVariants.{Distribute}
use Rattle.chaos_begin.specs.declared.between.Between.{Between}
use Rattle.fd_program.specs.StepLaws.{IsStepIn, StepsAreIn}
use Rattle.chaos_moving.specs.InRun.{owners_after}
use Rattle.chaos_moving.specs.IsMoving.{HasMovedTo, IsMoving}
use Rattle.chaos_moving.specs.Stages.{left_in as stages_left, stage_in}
use Rattle.chaos_moving.specs.declared.moving.Moved.{Moved}
use Rattle.chaos_moving.specs.declared.moving.Moving.{Moving}
use Rattle.chaos_records.specs.Keeping.{Keeps, first_setting, moved as noted_move, setting_at, setting_in}
use Rattle.chaos_records.specs.KeepingLaws.{MoveKeeps, VersionsAreFew}
use Rattle.chaos_records.specs.Numbering.{get_below}
use Rattle.chaos_records.specs.declared.records.Records.{Records}
use Rattle.chaos_records.specs.declared.setting.Setting.{Setting}
use Rattle.plan_run.specs.Held.{EachLoop, KeepsInStep, KeepsLoop, elements_held, lines_of, text_on}
use Rattle.plan_run.specs.OwnerLaws.{move_changes_one}
use Rattle.plan_run.specs.Rows.{IsRunPlan, RunPlan, phases_in, run_in, scene_in}
use Rattle.plan_run.specs.StandLaws.{EndsMove, move_stands}
use Rattle.plan_run.specs.TableLaws.{move_keeps_loops}
use Rattle.plan_run.specs.declared.stage.Stage.{Stage}
use Rattle.plan_walk.specs.PhaseBegins.{phases_follow}
use Rattle.plan_walk.specs.Places.{left_from, left_in, present_phase, whole_from, whole_left}
use Rattle.plan_walk.specs.StepEnds.{steps_are_known, steps_end}
use Rattle.chaos_table.specs.declared.pages.Pages.{Pages}
use Rattle.chaos_entering.specs.Coming.{Covers, IsHere, ComesNext, EntersAs}
use Rattle.chaos_entering.specs.Enters.{EntersNext}
use Rattle.chaos_entering.specs.Standing.{HasCome, session_in}
use Rattle.chaos_entering.specs.State.{NodeState, held_of}
use Rattle.chaos_entering.specs.declared.entered.Entered.{Entered}
use Rattle.chaos_holdings.specs.Keeping.{with_given_up}
use Rattle.chaos_holdings.specs.Parts.{parts_with}
use Rattle.chaos_holdings.specs.declared.effect.Effect.TheVariants.{Moves}
use Rattle.chaos_holdings.specs.declared.session.Session.{Session}
use Rattle.chaos_node.specs.Printed.{few_steps}
use Rattle.chaos_node.specs.Changing.{ChangesRight, changed_by}
use Rattle.chaos_node.specs.Ends.{LooksWith}
use Rattle.chaos_node.specs.Moves.{EndsStage, HasGoneOn}
use Rattle.chaos_node.specs.declared.change.Change.{Change}
use Rattle.chaos_node.proofs.InspectionComes.{steps_at}
use Rattle.chaos_node.proofs.InspectionSteps.{is_past}
use Rattle.chaos_node.proofs.MoveLists.{elements_moved, inspections_stay, is_dropped, keeps_given_up, latest_stay, length_set, parts_moved}
use Rattle.chaos_node.proofs.MoveSteps.{keeps_in_move, moving_is_plain}

-- ---- statements

-- what it changes
abbrev pub moves_with : ℕ → Moved → List (List ℤ) → Records → Entered → Change
moves_with d x parts records e = record { effect = Moves d x parts records; line = []; entered = e }

-- what is made at the end of a move
abbrev pub IsFinished : Moving → Moved → Type 0
IsFinished m x =
    (s : Scene) (owners : List (List ℕ)) (store : List (List ℤ)) (new : List ℕ) → IsMoving m s owners store new
    → HasMovedTo x s store m.share.decomposition m.form new m.share.me

-- the records with the move noted, where it is one of the decompositions and was moved so few times
abbrev pub NotesMove : Records → ℕ → StepForm → Records → Type 0
NotesMove before d form after =
    d < length before.settings → (setting_in before d).version <ℤ pos (2 ^ 32) → after ≡ noted_move before d form

-- ---- records

length_map : {A B : Type 0} (f : A → B) (xs : List A) → length (map f xs) ≡ length xs
length_map f [] = refl
length_map f (x ∷ xs) = ap suc (length_map f xs)

length_range : (low k : ℕ) → length (range_with_len low k) ≡ k
length_range low zero = refl
length_range low (suc k) = ap suc (length_range (low + 1) k)

small_version : (v : ℤ) (n k : ℕ) → v ≡ pos n → n ≤ k → k ≤ 20000 → v <ℤ pos (2 ^ 32)
small_version v n k e less few = subst (λ (z : ℤ). z <ℤ pos (2 ^ 32)) (sym e) (small n (omega (arith, less, few)))
  where
    small : (n : ℕ) → n < 2 ^ 32 → pos n <ℤ pos (2 ^ 32)
    small n h = omega (arith, ints, h)

records_moved : (c : Checked) (past : List Step) (d : ℕ) (form : StepForm) (before after : Records) → MoveKeeps → VersionsAreFew
    → Keeps c past before
    → IsStepIn c (Distribute d form) → length past ≤ 20000 → NotesMove before d form after → Keeps c (Distribute d form ∷ past) after
records_moved c past d form before after moves few keeps known short notes =
    let size : length before.settings ≡ length c.layouts
    = ap (λ (l : List Setting). length l) keeps.settings ∙ length_map (setting_at c past) (below (length c.layouts))
    ∙ length_range 0 (length c.layouts) in
    let here : setting_in before d ≡ setting_at c past d
    = ap (λ (l : List Setting). unwrap_or (slice_get l d) first_setting) keeps.settings
    ∙ ap (λ (o : Option Setting). unwrap_or o first_setting) (get_below (setting_at c past) (length c.layouts) d known.0) in
    let noted = notes (omega (arith, size, known.0)) (small_version (setting_in before d).version (version_at c past d) (length past)
    (ap (λ (x : Setting). x.version) here) (few c past d) short) in
    subst (Keeps c (Distribute d form ∷ past)) (sym noted) (moves c past d form before keeps known.0 known.1).1

-- ---- the next step

pub move_is_over : (v : View NodeState) (m : Moving) (x : Moved) (elements parts : List (List ℤ)) (records : Records)
    (pages : List (Option Pages)) (b : Between)
    (number left : ℕ) (e : Entered) → MoveKeeps → VersionsAreFew → StepsAreIn → EndsStage v m → stage_in m.stage ≡ None → IsFinished m x
    → elements ≡ slice_set v.state.holdings.elements m.share.decomposition x.elements
    → parts ≡ parts_with v.state.session.checked.arrays m.share.decomposition v.state.holdings.parts x.pieces
    → NotesMove v.state.holdings.records m.share.decomposition m.form records
    → pages ≡ slice_set v.state.holdings.pages m.share.decomposition x.page
    → LooksWith v.state v.face.me elements parts records b → (v.state.at.execution < 2 ^ 32 → number ≡ v.state.at.execution + 1)
    → left + 1 ≡ v.face.left
    → EntersNext v.state.session b pages number left e → ChangesRight v (moves_with m.share.decomposition x parts records e)
move_is_over v m x elements parts records pages b number left e moves few steps ends over finished elements_are parts_are notes pages_are
    look counts falls enters plan t p is less row holds =
    let h : HasGoneOn plan t p v.state m = ends plan t p is less row holds in
    let s = scene_in plan in
    let c = plan.checked in
    let site = v.state.at.site in
    let d = m.share.decomposition in
    let step = Distribute site h.form in
    let after = step ∷ h.past in
    let st = changed_by v.state (moves_with d x parts records e) in
    let now = changed_by v.state (moves_with site x parts records e) in
    let same_state : st ≡ now = ap (λ n. changed_by v.state (moves_with n x parts records e)) h.decomposition in
    let plain = moving_is_plain h.before h.stage (stages_left m.stage) h.from in
    let last : stages_left m.stage ≡ [] = none_left (stages_left m.stage) over in
    let left_is = phases_follow plan h.past step h.rest h.stage (stages_left m.stage) plain.votes in
    let past = is_past plan t p (present_phase plan h.past step h.rest h.stage (stages_left m.stage))
    (left_in plan h.past step h.rest (stages_left m.stage)) v.face row
    (h.in_step.phases_are ∙ left_is) in
    let k = h.in_step.knows in
    let places = h.in_step.places in
    let stands_behind = steps_end plan h.past step h.rest places refl in
    let counted = steps_are_known plan h.past (step ∷ h.rest) places in
    let short : length h.past ≤ 20000 = omega (arith, counted.count, is.within.steps) in
    let known : IsStepIn c step = (steps_at steps plan h.past (step ∷ h.rest) is.checked places).1.0 in
    let one = move_changes_one s h.past site h.form in
    let done : HasMovedTo x s (store_at s h.past) site h.form (owners_after s h.past site h.form) p =
    subst (λ n. HasMovedTo x s (store_at s h.past) n h.form (owners_after s h.past site h.form) p) h.decomposition
    (subst (λ f. HasMovedTo x s (store_at s h.past) d f (owners_after s h.past site h.form) p) h.by
    (subst (λ q. HasMovedTo x s (store_at s h.past) d m.form (owners_after s h.past site h.form) q) h.node
    (finished s (owners_at s h.past) (store_at s h.past) (owners_after s h.past site h.form) h.moving))) in
    let parts_now : parts ≡ parts_of c.arrays (owners_at s after) (store_at s h.past) p =
    parts_are ∙ ap (λ n. parts_with v.state.session.checked.arrays n v.state.holdings.parts x.pieces) h.decomposition
    ∙ ap (λ (z : Session). parts_with z.checked.arrays site v.state.holdings.parts x.pieces) h.session
    ∙ ap (λ l. parts_with c.arrays site l x.pieces) k.stands.parts
    ∙ ap (λ l. parts_with c.arrays site (parts_of c.arrays (owners_at s h.past) (store_at s h.past) p) l)
    (done.parts (owners_at s after) refl)
    ∙ parts_moved c (owners_at s h.past) (owners_at s after) (store_at s h.past) site p one.others in
    let elements_now : slice_set v.state.holdings.elements site x.elements ≡ elements_held (owners_at s after) p =
    ap (λ l. slice_set l site x.elements) k.stands.elements
    ∙ ap (λ (l : List ℤ). slice_set (elements_held (owners_at s h.past) p) site l) done.mine
    ∙ elements_moved s h.past after site p one.others in
    let noted = records_moved c h.past site h.form v.state.holdings.records records moves few k.stands.records known short
    (subst (λ f. NotesMove v.state.holdings.records site f records) h.by (subst (λ n. NotesMove v.state.holdings.records n m.form records)
    h.decomposition notes)) in
    let end : EndsMove s h.past site h.form p x.page (held_of v.state) (held_of now) = record {
      parts = parts_now;
      elements = elements_now;
      records = noted;
      pages = refl;
      covers = done.page;
      counts = refl;
      tables = is_dropped v.state.holdings.tables site;
    } in
    let come : HasCome plan after h.rest p (held_of now) = record {
      places = stands_behind.stands;
      stands = move_stands s h.past site h.form p x.page (held_of v.state) (held_of now) stands_behind.stands.history k.stands end;
      keeps = subst (λ (z : Session). EachLoop c (λ n. KeepsLoop s after n p now.holdings.tables)
          (with_given_up z.checked site v.state.holdings.kept)) (sym h.session)
          (keeps_given_up c site (KeepsInStep s (run_in plan) h.past step h.stage p v.state.holdings.tables)
          (λ n y. KeepsLoop s after n p now.holdings.tables y)
          (λ n y held. move_keeps_loops s h.past site h.form n p v.state.holdings.tables now.holdings.tables y known.0 h.repeats
          (is_dropped v.state.holdings.tables site)
          (keeps_in_move s (run_in plan) h.past site h.form h.stage p n (held_of v.state) y plain held))
          0 (length c.sites) v.state.holdings.kept k.keeps);
      inspected = k.inspected ∙ plain.inspected s (run_in plan) h.past step;
      text = append-nil v.state.text ∙ k.text ∙ ap (text_on p) (plain.text s (run_in plan) h.past ∙ sym (append-nil (lines_of s h.past)));
      refused = k.refused ∙ plain.refused (run_in plan);
      sized = length_set v.state.holdings.tables site _ ∙ k.sized;
    } in
    let next : ComesNext plan after h.rest p left now = record {
      session = h.session;
      node = less;
      come = come;
      left_is = let z : whole_left plan h.past step h.rest (stages_left m.stage) ≡ length (whole_from plan after h.rest) =
          ap (whole_left plan h.past step h.rest) last in
          omega (arith, z, past.left, falls);
    } in
    let numbered : number ≡ length after = counts (few_steps v.state.at.execution (length h.past) h.in_step.execution short)
    ∙ ap (λ n. n + 1) h.in_step.execution ∙ add-one (length h.past) in
    let here : IsHere plan b (held_of now) = record {
      checked = look.checked ∙ ap (λ (z : Session). z.checked) h.session;
      nodes = look.nodes ∙ ap (λ (z : Session). z.nodes) h.session;
      rule = look.rule ∙ ap (λ (z : Session). z.rule) h.session;
      elements = sym (look.elements_are ∙ elements_are ∙ ap (λ n. slice_set v.state.holdings.elements n x.elements) h.decomposition);
      parts = sym look.parts_are;
      records = sym look.records_are;
      kept = subst (λ l. Covers l (with_given_up v.state.session.checked site v.state.holdings.kept)) (sym look.kept)
          (record {
            records = latest_stay v.state.session.checked site 0 v.state.holdings.kept;
            inspections = λ n y held. inspections_stay v.state.session.checked site 0 v.state.holdings.kept n y held;
          });
    } in
    let me : b.me ≡ p = look.node ∙ past.me in
    let pages_now : pages ≡ now.holdings.pages = pages_are ∙ ap (λ n. slice_set v.state.holdings.pages n x.page) h.decomposition in
    let right = enters plan after h.rest now is h.session numbered here pages_now (subst (λ n. ComesNext plan after h.rest n left now)
    (sym me) next) in
    subst (λ z. EntersAs plan (drop (t + 1) (phases_in plan)) p e z) (sym same_state)
    (subst (λ fs. EntersAs plan fs p e now) (sym (past.behind ∙ ap (left_in plan h.past step h.rest) last ∙ stands_behind.left))
    (subst (λ n. EntersAs plan (left_from plan after h.rest) n e now) me right))
  where
    none_left : (l : List Stage) → slice_get l 0 ≡ None → l ≡ []
    none_left [] h = refl
    none_left (y ∷ l) h = cc
