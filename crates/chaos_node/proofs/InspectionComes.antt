-- At the end of a phase of an inspection: what its letters made of it.
use Rattle.std.specs.Prelude.{◌≡◌, refl, ℕ, suc, ℤ, ◌+◌, ◌<◌, true, if◌then◌else◌, List, [], ◌∷◌, ◌++◌, drop, length, map, reverse, is_some}
use Rattle.std.specs.Prelude.{Option, Some, None, IfSome}
use Rattle.std.specs.List.{AllByRecursion, enumerate_from}
use Rattle.std.specs.Option.{option_and_then}
use Rattle.std.proofs.Common.{ap, sym, ◌∙◌, subst}
use Rattle.bsp_core.specs.Views.{Face, View, ready}
use Rattle.fd_program.specs.ListLaws.{all_split, all_reversed}
use Rattle.fd_program.specs.StepLaws.{IsStepIn, StepsAreIn}
use Rattle.chaos_hash.specs.Stamps.{Stamps}
use Rattle.fd_program.specs.Checks.{IsChecked}
use Rattle.fd_program.specs.Layouts.{layout_at, loop_at, owners_at, store_at}
use Rattle.fd_program.specs.declared.array.LayoutName.{LayoutName}
use Rattle.fd_program.specs.declared.loop_facts.LoopFacts.{LoopFacts}
use Rattle.fd_program.specs.declared.trace.LoopTurn.{LoopTurn}
use Rattle.fd_program.specs.declared.trace.Step.{Step}
use Rattle.fd_program.specs.declared.trace.Step.TheVariants.{Forall}
use Rattle.fd_words.specs.declared.place.Offence.{Offence}
use Rattle.plan_loop.specs.LoopLetters.{owed_in}
use Rattle.plan_loop.specs.declared.loop_phase.LoopPhase.{LoopPhase}
use Rattle.plan_loop.specs.declared.loop_phase.LoopPhase.TheVariants as phase
use Rattle.chaos_inspect.specs.Inspecting.{IsInspecting, IsNext, IsOwed, IsVoted, offence_in, phase_after, phase_of}
use Rattle.chaos_inspect.specs.declared.inspection.Inspection.{Inspection}
use Rattle.chaos_inspect.specs.declared.stage.Stage.{Stage as InspectStage}
use Rattle.chaos_inspect.specs.declared.stage.Stage.TheVariants.{Seeking, Telling, Fetching, Answering, Voting, Refused as Stopped, Homing}
use Rattle.chaos_inspect.specs.declared.stage.Stage.TheVariants.{Entered as Put, Ready}
use Rattle.plan_tables.specs.Tables.{HasPlaces, KeepsOtherStamps}
use Rattle.plan_run.specs.Phases.{Phase, numbers_at}
use Rattle.plan_run.specs.Rows.{RunPlan, face_left, node_row, phases_in, scene_in}
use Rattle.plan_run.specs.declared.stage.Stage.{Stage}
use Rattle.plan_run.specs.declared.stage.Stage.TheVariants as stage
use Rattle.plan_walk.specs.LetterLaws.{letters_come_in, own_list_is_put_in}
use Rattle.plan_walk.specs.Letters.{numbers_of, put_in}
use Rattle.plan_walk.specs.Places.{StandsBetween, present_phase}
use Rattle.chaos_entering.specs.Behind.{stages_behind}
use Rattle.chaos_node.specs.Changing.{ChangesRight}
use Rattle.chaos_node.specs.declared.change.Change.{Change}
use Rattle.chaos_node.specs.Inspections.{EndsPhase}
use Rattle.chaos_entering.specs.Standing.{IsInspection, IsPlace, node_holds}
use Rattle.chaos_entering.specs.State.{NodeState}
use Rattle.chaos_entering.specs.declared.activity.Activity.TheVariants.{Inspecting}
use Rattle.chaos_node.proofs.InspectionSteps.{inspection_is_early, some_left}

-- ---- steps

-- the steps behind and before a node are the program's
pub steps_at : StepsAreIn → (plan : RunPlan) (past rest : List Step) → IsChecked plan.checked → StandsBetween plan past rest
    → AllByRecursion (IsStepIn plan.checked) past × AllByRecursion (IsStepIn plan.checked) rest
steps_at steps plan past rest known h =
    let parts = all_split (IsStepIn plan.checked) (reverse past) rest (subst (AllByRecursion (IsStepIn plan.checked)) (sym h.trace)
    (steps plan.checked known)) in
    (all_reversed (IsStepIn plan.checked) past parts.0, parts.1)

-- ---- the plan's layouts

layouts_count : (past : List Step) (n : ℕ) (xs : List LayoutName) → length (map (layout_at past) (enumerate_from n xs)) ≡ length xs
layouts_count past n [] = refl
layouts_count past n (x ∷ xs) = ap suc (layouts_count past (n + 1) xs)

-- ---- what has come

no_offence : (o : Option Offence) → o ≡ None → is_some o ≡ true → ⊥
no_offence None e h = cc
no_offence (Some x) e h = cc

voted : (before after : InspectStage) (l : LoopPhase) → IsVoted before after → phase_of before ≡ Some l → is_some (offence_in after)
    ≡ true → l ≡ phase.Vote
voted (Seeking asking) after l h e told = absurd (no_offence (offence_in after) h told)
voted (Telling asking asked) after l h e told = absurd (no_offence (offence_in after) h told)
voted (Fetching level) after l h e told = absurd (no_offence (offence_in after) h told)
voted (Answering level asked) after l h e told = absurd (no_offence (offence_in after) h told)
voted Voting after l h e told = cc
voted (Stopped offence) after l h e told = cc
voted (Homing told) after l h e some = absurd (no_offence (offence_in after) h some)
voted (Put entering) after l h e told = absurd (no_offence (offence_in after) h told)
voted (Ready prepared) after l h e told = cc

next_is : (f g : LoopFacts) (before after : InspectStage) (l : LoopPhase) → IsNext f before after → f ≡ g → phase_of before ≡ Some l
    → phase_of after ≡ (if is_some (offence_in after) then None else phase_after g l)
next_is f g before after l h same e =
    h ∙ ap (λ (o : Option LoopPhase). if is_some (offence_in after) then None else option_and_then (phase_after f) o) e
    ∙ ap (λ (x : LoopFacts). if is_some (offence_in after) then None else phase_after x l) same

owed_now : (x : Inspection) (owners : List (List ℕ)) (store : List (List ℤ)) (taken : List (List ℤ)) (l : LoopPhase)
    → phase_of x.stage ≡ Some l
    → taken ≡ owed_in x.facts owners store l x.me → IsOwed x owners store taken
owed_now x owners store taken l e h = subst (λ (o : Option LoopPhase). IfSome o (λ l. taken ≡ owed_in x.facts owners store l x.me))
    (sym e) h

-- what an inspection becomes, where its letters are those that are due
abbrev pub Becomes : Inspection → Inspection → List Stamps → List Stamps → List (List ℤ) → Type 0
Becomes x i before after taken =
    (owners : List (List ℕ)) (store : List (List ℤ)) → IsInspecting x owners store before → IsOwed x owners store taken
    → IsInspecting i owners store after

abbrev pub StaysPlaced : Inspection → List Stamps → List Stamps → List (List ℤ) → Type 0
StaysPlaced x before after taken =
    (owners : List (List ℕ)) (store : List (List ℤ)) → IsInspecting x owners store before → IsOwed x owners store taken
    → HasPlaces owners before → HasPlaces owners after

-- the letters that a node has taken, with its own list put in, are those that it is owed
taken_are_owed : (plan : RunPlan) (t p : ℕ) (v : View NodeState) (past rest : List Step) (site : ℕ) (turn : LoopTurn) (l : LoopPhase)
    (stages : List Stage)
    (taken : List (List ℤ)) (later : List Phase) → p < plan.nodes → v.face ≡ ready (node_row plan t) p
    → drop t (phases_in plan) ≡ present_phase plan past (Forall site turn) rest (stage.InLoop l) stages ∷ later
    → v.state.at.own ≡ numbers_at (scene_in plan) past (Forall site turn) (stage.InLoop l) p p
    → taken ≡ put_in v.face.me v.state.at.own (map numbers_of v.face.got)
    → taken ≡ owed_in (loop_at (scene_in plan) past site turn) (owners_at (scene_in plan) past) (store_at (scene_in plan) past) l p
taken_are_owed plan t p v past rest site turn l stages taken later less row phases own is =
    let s = scene_in plan in
    let f = present_phase plan past (Forall site turn) rest (stage.InLoop l) stages in
    let face = row ∙ ap (λ fs. ready (face_left s fs) p) phases ∙ letters_come_in s f later p less in
    is ∙ ap (λ own. put_in v.face.me own (map numbers_of v.face.got)) own
    ∙ ap (λ (x : Face). put_in x.me (numbers_at s past (Forall site turn) (stage.InLoop l) p p) (map numbers_of x.got)) face
    ∙ own_list_is_put_in s f p less refl

-- ---- an inspection at the end of a phase

pub phase_ends : (v : View NodeState) (x i : Inspection) (tables : List Stamps) (taken : List (List ℤ)) → StepsAreIn
    → v.state.at.activity ≡ Inspecting x
    → taken ≡ put_in v.face.me v.state.at.own (map numbers_of v.face.got) → i.facts ≡ x.facts → i.me ≡ x.me
    → IsNext x.facts x.stage i.stage → IsVoted x.stage i.stage
    → Becomes x i v.state.holdings.tables tables taken → StaysPlaced x v.state.holdings.tables tables taken
    → KeepsOtherStamps x.facts v.state.holdings.tables tables
    → length tables ≡ length v.state.holdings.tables → EndsPhase v i tables
phase_ends v x i tables taken steps at is same_facts same_me next votes becomes placed others count plan t p run less row holds =
    let s = scene_in plan in
    let st = v.state in
    let h : IsInspection plan (drop t (phases_in plan)) p st x = subst (λ a. IsPlace plan (drop t (phases_in plan)) p st a) at holds.place
    in
    let f = loop_at s h.past st.at.site h.turn in
    let some = some_left plan h.past st.at.site h.turn h.rest h.present (stages_behind f h.present) in
    let owed_p = taken_are_owed plan t p v h.past h.rest st.at.site h.turn h.present (stages_behind f h.present) taken some.0 less row
    (h.in_step.phases_are ∙ some.1) h.in_step.own is in
    let owed : IsOwed x (owners_at s h.past) (store_at s h.past) taken = owed_now x (owners_at s h.past) (store_at s h.past) taken
    h.present h.goes_on.phase_is
    (owed_p ∙ ap (λ (g : LoopFacts). owed_in g (owners_at s h.past) (store_at s h.past) h.present p) (sym h.goes_on.facts)
    ∙ ap (λ q. owed_in x.facts (owners_at s h.past) (store_at s h.past) h.present q) (sym h.goes_on.node)) in
    record {
      past = h.past;
      rest = h.rest;
      turn = h.turn;
      present = h.present;
      session = holds.session;
      in_step = h.in_step;
      sizes = h.sizes;
      early = inspection_is_early x.stage h.present h.goes_on.phase_is;
      known = (steps_at steps plan h.past (Forall st.at.site h.turn ∷ h.rest) run.checked h.in_step.places).1.0;
      some = h.goes_on.some;
      inspects = h.goes_on.inspects;
      facts = same_facts ∙ h.goes_on.facts;
      node = same_me ∙ h.goes_on.node;
      next = next_is x.facts f x.stage i.stage h.present next h.goes_on.facts h.goes_on.phase_is;
      votes = voted x.stage i.stage h.present votes h.goes_on.phase_is;
      inspecting = becomes (owners_at s h.past) (store_at s h.past) h.goes_on.inspecting owed;
      places = placed (owners_at s h.past) (store_at s h.past) h.goes_on.inspecting owed h.in_step.knows.stands.places;
      sized = count ∙ h.in_step.knows.sized;
      others = subst (λ (g : LoopFacts). KeepsOtherStamps g st.holdings.tables tables) h.goes_on.facts others;
    }

-- where a phase of an inspection is over there is a table for each of its layouts
pub tables_are_sized : (v : View NodeState) (x : Inspection) → v.state.at.activity ≡ Inspecting x
    → (plan : RunPlan) (t p : ℕ) → node_holds plan t p v.state → length v.state.holdings.tables ≡ length x.facts.layouts
tables_are_sized v x at plan t p holds =
    let h : IsInspection plan (drop t (phases_in plan)) p v.state x = subst (λ a. IsPlace plan (drop t (phases_in plan)) p v.state a) at
    holds.place in
    h.in_step.knows.sized ∙ sym (layouts_count h.past 0 plan.checked.layouts) ∙ ap (λ (f : LoopFacts). length f.layouts)
    (sym h.goes_on.facts)

-- so it is over copies of the inspection and of the tables
pub copy_ends : (v : View NodeState) (x i here : Inspection) (before tables : List Stamps) (taken : List (List ℤ)) → StepsAreIn
    → v.state.at.activity ≡ Inspecting here
    → x ≡ here → before ≡ v.state.holdings.tables → taken ≡ put_in v.face.me v.state.at.own (map numbers_of v.face.got)
    → i.facts ≡ x.facts → i.me ≡ x.me
    → IsNext x.facts x.stage i.stage → IsVoted x.stage i.stage → Becomes x i before tables taken → StaysPlaced x before tables taken
    → KeepsOtherStamps x.facts before tables
    → length tables ≡ length before → EndsPhase v i tables
copy_ends v x i here before tables taken steps at same kept is same_facts same_me next votes becomes placed others count =
    phase_ends v x i tables taken steps (at ∙ ap (λ y. Inspecting y) (sym same)) is same_facts same_me next votes
    (subst (λ b. Becomes x i b tables taken) kept becomes) (subst (λ b. StaysPlaced x b tables taken) kept placed)
    (subst (λ b. KeepsOtherStamps x.facts b tables) kept others) (count ∙ ap (λ l. length l) kept)

-- where there isn't, no phase of an inspection is over
pub tables_are_there : (v : View NodeState) (x : Inspection) (change : Change) → v.state.at.activity ≡ Inspecting x
    → (length v.state.holdings.tables ≡ length x.facts.layouts → ⊥) → ChangesRight v change
tables_are_there v x change at none plan t p run less row holds = absurd (none (tables_are_sized v x at plan t p holds))
