-- The end of the phase in which contributions are scattered.
use Rattle.std.specs.Prelude.{◌≡◌, refl, ℕ, suc, ◌+◌, ◌<◌, ◌≤◌, ◌^◌, ℤ, List, [], ◌∷◌, ◌++◌, drop, fold, length, map, pos, if◌then◌else◌}
use Rattle.std.specs.Prelude.{false, slice_set, Option, Some, None}
use Rattle.std.specs.Option.{option_map}
use Rattle.std.proofs.Common.{ap, sym, ◌∙◌, subst, arith, append-nil}
use Rattle.bsp_core.specs.Views.{View}
use Rattle.fd_words.specs.declared.place.Offence.{Offence}
use Rattle.fd_program.specs.Layouts.{Scene, loop_at, owners_at, store_at}
use Rattle.fd_program.specs.Loops.{after_loop, offence_of}
use Rattle.fd_program.specs.Past.{inspecting_of, inspects_at}
use Rattle.fd_program.specs.Places.{parts_of}
use Rattle.fd_program.specs.Reports.{plus_count}
use Rattle.fd_program.specs.Runs.{refusal_of}
use Rattle.fd_program.specs.Trace.{is_empty_turn, site_at, trace_of}
use Rattle.fd_program.specs.declared.count.SiteCount.{SiteCount}
use Rattle.fd_program.specs.declared.refused.Refused.{Refused}
use Rattle.fd_program.specs.declared.site.Site.{Site}
use Rattle.fd_program.specs.declared.trace.LoopTurn.{LoopTurn}
use Rattle.fd_program.specs.declared.trace.Step.{Step}
use Rattle.fd_program.specs.declared.trace.Step.TheVariants.{Forall}
use Rattle.chaos_begin.specs.Begins.{latest_kept}
use Rattle.chaos_begin.specs.declared.between.Between.{Between}
use Rattle.chaos_count.specs.Counting.{noted_reference}
use Rattle.chaos_count.specs.Noting.{targets_are_noted}
use Rattle.chaos_executing.specs.Counts.{CountsAreReported}
use Rattle.chaos_executing.specs.InRun.{CanExecute, IsExecuting, owed_at_loop}
use Rattle.chaos_executing.specs.declared.executing.Executing.{Executing}
use Rattle.chaos_hash.specs.Stamps.{Stamps}
use Rattle.plan_loop.specs.declared.loop_phase.LoopPhase.TheVariants as phase
use Rattle.plan_walk.specs.LetterLaws.{own_list_is_put_in}
use Rattle.plan_walk.specs.Letters.{numbers_of, put_in}
use Rattle.plan_walk.specs.PhaseBegins.{phases_follow}
use Rattle.plan_walk.specs.Places.{left_from, left_in, present_phase, whole_from}
use Rattle.plan_walk.specs.StepEnds.{EndsStep, steps_are_known, steps_end}
use Rattle.plan_tables.specs.Tables.{slots_entered}
use Rattle.chaos_records.specs.Keeping.{Keeps}
use Rattle.chaos_records.specs.KeepingLaws.{WritesKeep}
use Rattle.chaos_records.specs.declared.records.Records.{Records}
use Rattle.plan_run.specs.Held.{lines_of, text_on}
use Rattle.plan_run.specs.Phases.{Phase, numbers_at}
use Rattle.plan_run.specs.Rows.{IsRunPlan, RunPlan, phases_in, run_in, scene_in}
use Rattle.plan_run.specs.StandLaws.{counted_at, counted_by, loop_stands}
use Rattle.plan_run.specs.WithinLaws.{loop_ends}
use Rattle.plan_run.specs.declared.kept.Kept.{Kept}
use Rattle.plan_run.specs.declared.stage.Stage.TheVariants as stage
use Rattle.chaos_sched.specs.declared.prepared.Prepared.{Prepared}
use Rattle.chaos_table.specs.declared.pages.Pages.{Pages}
use Rattle.chaos_node.proofs.ExecutionCounts.{counted_same, last_inspects}
use Rattle.chaos_node.proofs.ExecutionPlaces.{EndsPhase, ends_phase, some_same}
use Rattle.chaos_node.specs.Changing.{ChangesRight, changed_by}
use Rattle.chaos_entering.specs.Coming.{Covers, IsHere, ComesNext, EntersAs}
use Rattle.chaos_entering.specs.Enters.{EntersNext}
use Rattle.chaos_node.specs.Ends.{LooksWith}
use Rattle.chaos_holdings.specs.Executions.{counted_with, is_last}
use Rattle.chaos_node.specs.Executions.{count_behind}
use Rattle.chaos_holdings.specs.Keeping.{prepared_in}
use Rattle.chaos_entering.specs.Standing.{HasCome, IsPlace, IsScatter, session_in}
use Rattle.chaos_entering.specs.State.{NodeState, held_of}
use Rattle.chaos_entering.specs.declared.activity.Activity.TheVariants.{Scattering}
use Rattle.chaos_node.specs.declared.change.Change.{Change}
use Rattle.chaos_holdings.specs.declared.effect.Effect.TheVariants.{Executes}
use Rattle.chaos_entering.specs.declared.entered.Entered.{Entered}
use Rattle.chaos_holdings.specs.declared.session.Session.{Session}

-- what is known of a call that applies contributions, and of the step that is entered
abbrev pub AppliesRight : Prepared → Executing → List (List ℤ) → List (List ℤ) → List (List ℤ) → Type 0
AppliesRight prepared x taken pieces after =
    (s : Scene) (past : List Step) (site : ℕ) (turn : LoopTurn) (p : ℕ) (tables : List Stamps)
    → IsExecuting s past site turn p tables prepared x
    → pieces ≡ parts_of s.checked.arrays (owners_at s past) (store_at s past) p → taken ≡ owed_at_loop s past site turn phase.Scatter p
    → after ≡ parts_of s.checked.arrays (owners_at s past) (after_loop s.checked.arrays (site_at s.checked.sites site) turn
    (store_at s past)) p

-- ---- nothing else happens

pub never_scatters : (v : View NodeState) (x : Executing) (change : Change) → v.state.at.activity ≡ Scattering x
    → prepared_in v.state.holdings.kept v.state.at.site ≡ None → ChangesRight v change
never_scatters v x change at none plan t p is is_node row holds =
    absurd (by (subst (IsPlace plan (drop t (phases_in plan)) p v.state) at holds.place))
  where
    by : IsScatter plan (drop t (phases_in plan)) p v.state x → ⊥
    by h = let both : Some h.prepared ≡ None = sym h.kept ∙ none in cc

-- ---- the next step

-- what an execution changes, and how the next phase is entered
pub record EndsScatter (v : View NodeState) (prepared : Prepared) (x : Executing) (parts : List (List ℤ)) (records : Records)
    (count : SiteCount) (between : Between) (from left : ℕ) (e : Entered) : Type 0 where
  pub at : v.state.at.activity ≡ Scattering x
  pub kept : prepared_in v.state.holdings.kept v.state.at.site ≡ Some prepared
  pub less : v.face.left ≡ left + 1
  pub applies : AppliesRight prepared x (put_in v.face.me v.state.at.own (map numbers_of v.face.got)) v.state.holdings.parts parts
  pub noted : v.state.at.execution < 2 ^ 32
      → records ≡ fold (noted_reference v.state.at.execution) v.state.holdings.records
      (site_at v.state.session.checked.sites v.state.at.site).references
  pub count_is : count ≡ count_behind v.state prepared
  pub looks : LooksWith v.state v.face.me v.state.holdings.elements parts records between
  pub number : v.state.at.execution < 2 ^ 32 → from ≡ v.state.at.execution + 1
  pub enters : EntersNext v.state.session between v.state.holdings.pages from left e

no_refusal : (plan : RunPlan) (store : List (List ℤ)) (site : ℕ) (turn : LoopTurn) → is_empty_turn turn ≡ false
    → offence_of plan.checked.arrays (site_at plan.checked.sites site) turn store ≡ None
    → refusal_of plan.checked (Forall site turn) store ≡ None
no_refusal plan store site turn some none =
    ap (λ b. option_map (λ (o : Offence). let r : Refused = record { site = site; offence = o } in r)
    (if b then None else offence_of plan.checked.arrays (site_at plan.checked.sites site) turn store)) some
    ∙ ap (λ o. option_map (λ (o : Offence). let r : Refused = record { site = site; offence = o } in r) o) none

few_steps : (n m k : ℕ) → n + suc m ≡ k → k ≤ 20000 → n < 2 ^ 32
few_steps n m k e h = omega (arith, e, h)

same_kept : (kept now : List (Option Kept)) → kept ≡ now → Covers kept now
same_kept kept now e = record {
  records = ap (map latest_kept) e;
  inspections = λ k x is. ap (λ l. prepared_in l k) e ∙ is;
}

pub scatter_ends : CountsAreReported → WritesKeep → (v : View NodeState) (prepared : Prepared) (x : Executing) (parts : List (List ℤ))
    (records : Records) (count : SiteCount)
    (between : Between) (from left : ℕ) (e : Entered) → EndsScatter v prepared x parts records count between from left e
    → ChangesRight v (record { effect = Executes parts records count; line = []; entered = e })
scatter_ends reported writes v prepared x parts records count between from left e h plan t p is is_node row holds =
    by (subst (IsPlace plan (drop t (phases_in plan)) p v.state) h.at holds.place)
  where
    by : IsScatter plan (drop t (phases_in plan)) p v.state x
        → EntersAs plan (drop (t + 1) (phases_in plan)) p e
        (changed_by v.state (record { effect = Executes parts records count; line = []; entered = e }))
    by g =
        let s = scene_in plan in
        let st = v.state in
        let site = st.at.site in
        let past = g.past in
        let step = Forall site g.turn in
        let scatter = stage.InLoop phase.Scatter in
        let knows = g.in_step.knows in
        let can = g.executing.can in
        let after = changed_by st (record { effect = Executes parts records count; line = []; entered = e }) in
        let f = present_phase plan past step g.rest scatter [] in
        let later = left_in plan past step g.rest [] in
        let end : EndsPhase plan t p f later v = ends_phase plan t p f later v is_node row (g.in_step.phases_are
        ∙ phases_follow plan past step g.rest scatter [] refl) in
        let ends : EndsStep plan past step g.rest = steps_end plan past step g.rest g.in_step.places
        (no_refusal plan (store_at s past) site g.turn g.some can.sound) in
        let steps = steps_are_known plan past (step ∷ g.rest) g.in_step.places in
        let few : length past < 2 ^ 32 = few_steps (length past) (length g.rest) (length (trace_of plan.checked)) steps.count
        is.within.steps in
        let few_here : st.at.execution < 2 ^ 32 = subst (λ n. n < 2 ^ 32) (sym g.in_step.execution) few in
        let same : prepared ≡ g.prepared = some_same prepared g.prepared (sym h.kept ∙ g.kept) in
        let executing : IsExecuting s past site g.turn p st.holdings.tables prepared x =
        subst (λ y. IsExecuting s past site g.turn p st.holdings.tables y x) (sym same) g.executing in
        let taken : put_in v.face.me st.at.own (map numbers_of v.face.got) ≡ owed_at_loop s past site g.turn phase.Scatter p =
        ap (λ q. put_in q st.at.own (map numbers_of v.face.got)) end.me
        ∙ ap (λ own. put_in p own (map numbers_of v.face.got)) g.in_step.own
        ∙ ap (λ got. put_in p (numbers_at s past step scatter p p) (map numbers_of got)) end.got
        ∙ own_list_is_put_in s f p is_node refl in
        let noted_here : records ≡ fold (noted_reference (length past)) st.holdings.records (site_at plan.checked.sites site).references =
        h.noted few_here
        ∙ ap (λ n. fold (noted_reference n) st.holdings.records (site_at st.session.checked.sites site).references) g.in_step.execution
        ∙ ap (λ (y : Session). fold (noted_reference (length past)) st.holdings.records (site_at y.checked.sites site).references)
        holds.session in
        let last : is_last st.inspected st.at.execution ≡ inspects_at plan.checked past site g.turn =
        ap (λ l. is_last l st.at.execution) knows.inspected
        ∙ ap (is_last (map pos (inspecting_of plan.checked (step ∷ past)))) g.in_step.execution
        ∙ last_inspects plan.checked past step in
        let counted : count ≡ plus_count (counted_at st.end.counts site) (counted_by s past site g.turn p) =
        h.count_is
        ∙ ap (λ b. plus_count (counted_at st.end.counts site) (counted_with prepared b)) last
        ∙ ap (plus_count (counted_at st.end.counts site))
        (counted_same reported (loop_at s past site g.turn) (owners_at s past) (store_at s past)
        (slots_entered (loop_at s past site g.turn) st.holdings.tables) p prepared
        (inspects_at plan.checked past site g.turn) executing.can.inspected.fits) in
        let come : HasCome plan (step ∷ past) g.rest p (held_of after) = record {
          places = ends.stands;
          stands = loop_stands s past site g.turn p (held_of st) (held_of after) ends.stands.history can.known g.some knows.stands (record {
            parts = h.applies s past site g.turn p st.holdings.tables executing knows.stands.parts taken;
            elements = refl;
            records = subst (Keeps plan.checked (step ∷ past)) (sym noted_here)
                (targets_are_noted writes plan.checked past site g.turn st.holdings.records knows.stands.records g.some);
            pages = refl;
            counts = ap (slice_set st.end.counts site) counted;
            tables = refl;
          });
          keeps = loop_ends s (run_in plan) past site g.turn p st.holdings.tables st.holdings.kept is.checked can.known
              g.in_step.places.history g.some knows.keeps;
          inspected = knows.inspected;
          text = append-nil st.text ∙ knows.text ∙ ap (text_on p) (sym (append-nil (lines_of s past)));
          refused = knows.refused;
          sized = knows.sized;
        } in
        let next : ComesNext plan (step ∷ past) g.rest p left after = record {
          session = holds.session;
          node = is_node;
          come = come;
          left_is = same_left left (length (whole_from plan (step ∷ past) g.rest)) (sym h.less ∙ end.left);
        } in
        let here : IsHere plan between (held_of after) = record {
          checked = h.looks.checked ∙ ap (λ (y : Session). y.checked) holds.session;
          nodes = h.looks.nodes ∙ ap (λ (y : Session). y.nodes) holds.session;
          rule = h.looks.rule ∙ ap (λ (y : Session). y.rule) holds.session;
          elements = sym h.looks.elements_are;
          parts = sym h.looks.parts_are;
          records = sym h.looks.records_are;
          kept = same_kept between.kept.now st.holdings.kept h.looks.kept;
        } in
        let me : between.me ≡ p = h.looks.node ∙ end.me in
        let right : EntersAs plan (left_from plan (step ∷ past) g.rest) between.me e after =
        h.enters plan (step ∷ past) g.rest after is holds.session (same_number from (length past) (h.number few_here
        ∙ ap (λ n. n + 1) g.in_step.execution)) here refl
        (subst (λ q. ComesNext plan (step ∷ past) g.rest q left after) (sym me) next) in
        subst (λ fs. EntersAs plan fs p e after) (sym (end.behind ∙ ends.left))
        (subst (λ q. EntersAs plan (left_from plan (step ∷ past) g.rest) q e after) me right)
      where
        same_left : (n m : ℕ) → n + 1 ≡ m + 1 → n ≡ m
        same_left n m eq = omega (arith, eq)

        same_number : (n m : ℕ) → n ≡ m + 1 → n ≡ suc m
        same_number n m eq = omega (arith, eq)

-- the same, seen from the node's fields
pub scatter_seen : CountsAreReported → WritesKeep → (v w : View NodeState) (prepared : Prepared) (x : Executing) (parts : List (List ℤ))
    (records : Records) (count : SiteCount)
    (between : Between) (from left : ℕ) (e : Entered) (taken : List (List ℤ)) (sites : List Site) → v ≡ w
    → w.state.at.activity ≡ Scattering x
    → prepared_in w.state.holdings.kept w.state.at.site ≡ Some prepared → w.face.left ≡ left + 1
    → taken ≡ put_in v.face.me v.state.at.own (map numbers_of v.face.got) → AppliesRight prepared x taken v.state.holdings.parts parts
    → sites ≡ v.state.session.checked.sites
    → (v.state.at.execution < 2 ^ 32 → records ≡ fold (noted_reference v.state.at.execution) v.state.holdings.records
    (site_at sites v.state.at.site).references)
    → count ≡ count_behind w.state prepared → LooksWith w.state w.face.me v.state.holdings.elements parts records between
    → (w.state.at.execution < 2 ^ 32 → from ≡ w.state.at.execution + 1) → EntersNext v.state.session between v.state.holdings.pages from
    left e
    → ChangesRight w (record { effect = Executes parts records count; line = []; entered = e })
scatter_seen reported writes v w prepared x parts records count between from left e taken sites same at kept less taken_is
    applies sites_are notes count_is looks number enters =
    scatter_ends reported writes w prepared x parts records count between from left e (record {
      at = at;
      kept = kept;
      less = less;
      applies = subst (λ (y : View NodeState). AppliesRight prepared x (put_in y.face.me y.state.at.own (map numbers_of y.face.got))
          y.state.holdings.parts parts) same
          (subst (λ (l : List (List ℤ)). AppliesRight prepared x l v.state.holdings.parts parts) taken_is applies);
      noted = subst (λ (y : View NodeState). y.state.at.execution < 2 ^ 32
          → records ≡ fold (noted_reference y.state.at.execution) y.state.holdings.records
          (site_at y.state.session.checked.sites y.state.at.site).references) same
          (subst (λ (l : List Site). v.state.at.execution < 2 ^ 32
          → records ≡ fold (noted_reference v.state.at.execution) v.state.holdings.records (site_at l v.state.at.site).references)
          sites_are notes);
      count_is = count_is;
      looks = subst (λ (y : View NodeState). LooksWith w.state w.face.me y.state.holdings.elements parts records between) same looks;
      number = number;
      enters = subst (λ (y : View NodeState). EntersNext y.state.session between y.state.holdings.pages from left e) same enters;
    })
