-- The end of the phase in which ghosts are gathered.
use Rattle.std.specs.Prelude.{◌≡◌, refl, ℕ, ◌+◌, ◌<◌, ℤ, List, [], ◌∷◌, ◌++◌, drop, length, map, false, Option, Some, None}
use Rattle.std.proofs.Common.{ap, sym, ◌∙◌, subst, arith, append-nil}
use Rattle.bsp_core.specs.Views.{View}
use Rattle.fd_program.specs.Layouts.{Scene, loop_at, owners_at, store_at}
use Rattle.fd_program.specs.Places.{parts_of}
use Rattle.fd_program.specs.Trace.{is_empty_turn, trace_of}
use Rattle.fd_program.specs.declared.loop_facts.LoopFacts.{LoopFacts}
use Rattle.fd_program.specs.declared.trace.LoopTurn.{LoopTurn}
use Rattle.fd_program.specs.declared.trace.Step.{Step}
use Rattle.fd_program.specs.declared.trace.Step.TheVariants.{Forall}
use Rattle.chaos_executing.specs.InRun.{CanExecute, IsExecuting, owed_at_loop}
use Rattle.chaos_executing.specs.declared.executing.Executing.{Executing}
use Rattle.chaos_facts.specs.Facts.{facts_in}
use Rattle.chaos_facts.specs.FactsLaws.{FactsAreExact}
use Rattle.fd_program.specs.StepLaws.{StepsAreIn}
use Rattle.chaos_hash.specs.Stamps.{Stamps}
use Rattle.plan_loop.specs.declared.loop_phase.LoopPhase.TheVariants as phase
use Rattle.plan_walk.specs.LetterLaws.{own_list_is_put_in}
use Rattle.plan_walk.specs.Letters.{numbers_of, put_in}
use Rattle.plan_walk.specs.PhaseBegins.{phases_follow}
use Rattle.plan_walk.specs.Places.{left_in, present_phase, whole_left}
use Rattle.plan_run.specs.Held.{owed_at, text_on, lines_of}
use Rattle.plan_run.specs.Phases.{Phase, numbers_at}
use Rattle.plan_run.specs.Rows.{IsRunPlan, RunPlan, phases_in, run_in, scene_in}
use Rattle.plan_run.specs.declared.stage.Stage.TheVariants as stage
use Rattle.chaos_sched.specs.declared.prepared.Prepared.{Prepared}
use Rattle.chaos_node.proofs.ExecutionPlaces.{EndsPhase, ends_phase, some_same, steps_behind, turn_is}
use Rattle.chaos_node.specs.Changing.{ChangesRight, changed_by}
use Rattle.chaos_entering.specs.Coming.{IsComing, EntersAs}
use Rattle.chaos_entering.specs.Enters.{EntersScatter}
use Rattle.chaos_holdings.specs.Executions.{turn_in}
use Rattle.chaos_holdings.specs.Keeping.{prepared_in}
use Rattle.chaos_entering.specs.Standing.{IsGather, IsPlace, KnowsInStep, session_in}
use Rattle.chaos_entering.specs.State.{NodeState, held_of}
use Rattle.chaos_entering.specs.declared.activity.Activity.TheVariants.{Gathering}
use Rattle.chaos_node.specs.declared.change.Change.{Change}
use Rattle.chaos_holdings.specs.declared.effect.Effect.TheVariants.{Nothing}
use Rattle.chaos_entering.specs.declared.entered.Entered.{Entered}
use Rattle.chaos_holdings.specs.declared.session.Session.{Session}

-- what is known of a call that executes, and of the phase that is entered
abbrev pub ExecutesRight : List Stamps → Prepared → LoopFacts → List (List ℤ) → List (List ℤ) → Executing → Type 0
ExecutesRight tables prepared facts pieces taken x =
    (s : Scene) (past : List Step) (site : ℕ) (turn : LoopTurn) (p : ℕ) → CanExecute s past site turn p tables prepared
    → facts ≡ loop_at s past site turn → pieces ≡ parts_of s.checked.arrays (owners_at s past) (store_at s past) p
    → taken ≡ owed_at_loop s past site turn phase.Gather p → IsExecuting s past site turn p tables prepared x

-- ---- nothing else happens

-- a change that is made only where no FORALL gathers
pub never_gathers : (v : View NodeState) (change : Change) → v.state.at.activity ≡ Gathering
    → ((plan : RunPlan) (phases : List Phase) (p : ℕ) → v.state.session ≡ session_in plan → IsGather plan phases p v.state → ⊥)
    → ChangesRight v change
never_gathers v change at none plan t p is is_node row holds =
    absurd (none plan (drop t (phases_in plan)) p holds.session (subst (IsPlace plan (drop t (phases_in plan)) p v.state) at holds.place))

pub kept_there : (v : View NodeState) → prepared_in v.state.holdings.kept v.state.at.site ≡ None
    → (plan : RunPlan) (phases : List Phase) (p : ℕ) → v.state.session ≡ session_in plan → IsGather plan phases p v.state → ⊥
kept_there v none plan phases p session g = let both : Some g.prepared ≡ None = sym g.kept ∙ none in cc

turn_known : (plan : RunPlan) (phases : List Phase) (p : ℕ) (st : NodeState) (g : IsGather plan phases p st) → st.session ≡ session_in plan
    → turn_in st.session.trace st.at.execution ≡ Some g.turn
turn_known plan phases p st g session =
    ap (λ (x : Session). turn_in x.trace st.at.execution) session ∙ ap (turn_in (trace_of plan.checked)) g.in_step.execution
    ∙ turn_is plan g.past g.rest st.at.site g.turn g.in_step.places

pub turn_there : (v : View NodeState) → turn_in v.state.session.trace v.state.at.execution ≡ None
    → (plan : RunPlan) (phases : List Phase) (p : ℕ) → v.state.session ≡ session_in plan → IsGather plan phases p v.state → ⊥
turn_there v none plan phases p session g = let both : Some g.turn ≡ None = sym (turn_known plan phases p v.state g session) ∙ none in cc

pub site_there : (v : View NodeState) → ¬ (v.state.at.site < length v.state.session.checked.sites)
    → (plan : RunPlan) (phases : List Phase) (p : ℕ) → v.state.session ≡ session_in plan → IsGather plan phases p v.state → ⊥
site_there v none plan phases p session g =
    none (subst (λ (x : Session). v.state.at.site < length x.checked.sites) (sym session) g.can.known)

-- ---- the phase in which contributions are scattered is entered

pub gather_ends : StepsAreIn → FactsAreExact → (v : View NodeState) (prepared : Prepared) (turn : LoopTurn) (x : Executing) (left : ℕ)
    (e : Entered)
    → v.state.at.activity ≡ Gathering → prepared_in v.state.holdings.kept v.state.at.site ≡ Some prepared
    → turn_in v.state.session.trace v.state.at.execution ≡ Some turn → v.face.left ≡ left + 1
    → ExecutesRight v.state.holdings.tables prepared
    (facts_in v.state.session.checked v.state.session.nodes v.state.session.rule v.state.holdings.records v.state.at.site turn)
    v.state.holdings.parts (put_in v.face.me v.state.at.own (map numbers_of v.face.got)) x
    → EntersScatter v.state.session v.face.me v.state.at.execution v.state.at.site prepared x left e
    → ChangesRight v (record { effect = Nothing; line = []; entered = e })
gather_ends steps exact v prepared turn x left e at kept turned less executes enters plan t p is is_node row holds =
    by (subst (IsPlace plan (drop t (phases_in plan)) p v.state) at holds.place)
  where
    by : IsGather plan (drop t (phases_in plan)) p v.state → EntersAs plan (drop (t + 1) (phases_in plan)) p e
        (changed_by v.state (record { effect = Nothing; line = []; entered = e }))
    by g =
        let s = scene_in plan in
        let st = v.state in
        let site = st.at.site in
        let step = Forall site g.turn in
        let scatter = stage.InLoop phase.Scatter in
        let f = present_phase plan g.past step g.rest (stage.InLoop phase.Gather) (scatter ∷ []) in
        let later = left_in plan g.past step g.rest (scatter ∷ []) in
        let after = changed_by st (record { effect = Nothing; line = []; entered = e }) in
        let end : EndsPhase plan t p f later v =
        ends_phase plan t p f later v is_node row (g.in_step.phases_are
        ∙ phases_follow plan g.past step g.rest (stage.InLoop phase.Gather) (scatter ∷ []) refl) in
        let turn_same : turn ≡ g.turn = some_same turn g.turn (sym turned
        ∙ turn_known plan (drop t (phases_in plan)) p st g holds.session) in
        let same : prepared ≡ g.prepared = some_same prepared g.prepared (sym kept ∙ g.kept) in
        let facts : facts_in st.session.checked st.session.nodes st.session.rule st.holdings.records site turn
        ≡ loop_at s g.past site g.turn =
        ap (λ (x : Session). facts_in x.checked x.nodes x.rule st.holdings.records site turn) holds.session
        ∙ ap (facts_in plan.checked plan.nodes plan.rule st.holdings.records site) turn_same
        ∙ exact plan.checked plan.nodes plan.rule g.past st.holdings.records site g.turn
        (steps_behind steps plan g.past (step ∷ g.rest) is.checked g.in_step.places) g.in_step.knows.stands.records in
        let taken : put_in v.face.me st.at.own (map numbers_of v.face.got) ≡ owed_at_loop s g.past site g.turn phase.Gather p =
        ap (λ q. put_in q st.at.own (map numbers_of v.face.got)) end.me
        ∙ ap (λ own. put_in p own (map numbers_of v.face.got)) g.in_step.own
        ∙ ap (λ got. put_in p (numbers_at s g.past step (stage.InLoop phase.Gather) p p) (map numbers_of got)) end.got
        ∙ own_list_is_put_in s f p is_node refl in
        let executing : IsExecuting s g.past site g.turn p st.holdings.tables prepared x =
        executes s g.past site g.turn p (subst (CanExecute s g.past site g.turn p st.holdings.tables) (sym same) g.can) facts
        g.in_step.knows.stands.parts taken in
        let knows = g.in_step.knows in
        let stands = knows.stands in
        let coming : IsComing plan g.past step g.rest scatter [] p left after = record {
          session = holds.session;
          node = is_node;
          places = g.in_step.places;
          left_is = same_left left (whole_left plan g.past step g.rest (scatter ∷ [])) (sym less ∙ end.left);
          knows = record {
            stands = record {
              parts = stands.parts;
              elements = stands.elements;
              records = stands.records;
              pages = stands.pages;
              counts = stands.counts;
              places = stands.places;
            };
            keeps = knows.keeps;
            inspected = knows.inspected;
            text = append-nil st.text ∙ knows.text;
            refused = knows.refused;
            sized = knows.sized;
          };
        } in
        let right : EntersAs plan later v.face.me e after =
        enters plan g.past g.rest g.turn after is holds.session g.in_step.execution
        (subst (λ q. IsComing plan g.past step g.rest scatter [] q left after) (sym end.me) coming) g.some kept
        (subst (λ q. IsExecuting s g.past site g.turn q st.holdings.tables prepared x) (sym end.me) executing) in
        subst (λ fs. EntersAs plan fs p e after) (sym end.behind) (subst (λ q. EntersAs plan later q e after) end.me right)
      where
        same_left : (n m : ℕ) → n + 1 ≡ m + 1 → n ≡ m
        same_left n m e = omega (arith, e)

-- the same, seen from the node's fields
pub gather_seen : StepsAreIn → FactsAreExact → (v w : View NodeState) (prepared : Prepared) (turn : LoopTurn) (x : Executing) (left : ℕ)
    (e : Entered) (line : List ℕ)
    (facts : LoopFacts) (taken : List (List ℤ)) → v ≡ w → w.state.at.activity ≡ Gathering
    → prepared_in w.state.holdings.kept w.state.at.site ≡ Some prepared
    → turn_in w.state.session.trace w.state.at.execution ≡ Some turn → w.face.left ≡ left + 1 → line ≡ []
    → facts ≡ facts_in v.state.session.checked v.state.session.nodes v.state.session.rule v.state.holdings.records v.state.at.site turn
    → taken ≡ put_in v.face.me v.state.at.own (map numbers_of v.face.got)
    → ExecutesRight v.state.holdings.tables prepared facts v.state.holdings.parts taken x
    → EntersScatter v.state.session v.face.me v.state.at.execution v.state.at.site prepared x left e
    → ChangesRight w (record { effect = Nothing; line = line; entered = e })
gather_seen steps exact v w prepared turn x left e line facts taken same at kept turned less none facts_are taken_is executes enters =
    subst (λ (l : List ℕ). ChangesRight w (record { effect = Nothing; line = l; entered = e })) (sym none)
    (gather_ends steps exact w prepared turn x left e at kept turned less
    (subst (λ (y : View NodeState). ExecutesRight y.state.holdings.tables prepared
    (facts_in y.state.session.checked y.state.session.nodes y.state.session.rule y.state.holdings.records y.state.at.site turn)
    y.state.holdings.parts (put_in y.face.me y.state.at.own (map numbers_of y.face.got)) x) same
    (subst (λ (f : LoopFacts). ExecutesRight v.state.holdings.tables prepared f v.state.holdings.parts
    (put_in v.face.me v.state.at.own (map numbers_of v.face.got)) x) facts_are
    (subst (λ (l : List (List ℤ)). ExecutesRight v.state.holdings.tables prepared facts v.state.holdings.parts l x) taken_is executes)))
    (subst (λ (y : View NodeState). EntersScatter y.state.session y.face.me y.state.at.execution y.state.at.site prepared x left e) same
    enters))
