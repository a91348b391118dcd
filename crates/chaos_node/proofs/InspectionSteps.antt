-- From one phase of an inspection to the next.
use Rattle.std.specs.Prelude.{◌≡◌, ◌≢◌, refl, ℕ, ℤ, zero, suc, ◌+◌, ◌*◌, ◌/◌, ◌<◌, Bool, true, false, ◌&&◌, ◌==◌, if◌then◌else◌, List, []}
use Rattle.std.specs.Prelude.{◌∷◌, length, map, drop, slice_get, unwrap_or, is_some, Option, Some, None, MatchBool, ◌⊎◌}
use Rattle.std.specs.List.{range_with_len}
use Rattle.std.specs.Option.{option_map}
use Rattle.std.proofs.Common.{ap, sym, ◌∙◌, subst, arith, inl, inr}
use Rattle.std.proofs.lemmas.Bool.{cases_eq}
use Rattle.bsp_core.specs.Views.{Face, next_of, next_with, ready}
use Rattle.bsp_core.specs.declared.phased.Want.TheVariants.{Work}
use Rattle.chaos_letter.specs.declared.letter.Letter.{Letter}
use Rattle.chaos_letter.specs.declared.wanted.Wanted.{Wanted}
use Rattle.chaos_dist.specs.Counting.{below}
use Rattle.chaos_hash.specs.Stamps.{Stamps}
use Rattle.fd_words.specs.declared.place.Offence.{Offence}
use Rattle.fd_program.specs.Layouts.{Scene, loop_at, owners_at, store_at}
use Rattle.fd_program.specs.Past.{inspects_at}
use Rattle.fd_program.specs.Runs.{Run, refusal_of}
use Rattle.fd_program.specs.Trace.{is_empty_turn, site_at}
use Rattle.fd_program.specs.Loops.{offence_of}
use Rattle.fd_program.specs.declared.loop_facts.LoopFacts.{LoopFacts}
use Rattle.fd_program.specs.declared.refused.Refused.{Refused}
use Rattle.fd_program.specs.declared.trace.LoopTurn.{LoopTurn}
use Rattle.fd_program.specs.declared.trace.Step.{Step}
use Rattle.fd_program.specs.declared.trace.Step.TheVariants.{Forall}
use Rattle.plan_loop.specs.LoopLetters.{asks_places, has_level}
use Rattle.plan_loop.specs.declared.loop_phase.Asking.{Asking}
use Rattle.plan_loop.specs.declared.loop_phase.Asking.TheVariants.{Indexes, Homes, References}
use Rattle.plan_loop.specs.declared.loop_phase.Level.{Level}
use Rattle.plan_loop.specs.declared.loop_phase.Level.TheVariants.{First, Second}
use Rattle.plan_loop.specs.declared.loop_phase.LoopPhase.{LoopPhase}
use Rattle.plan_loop.specs.declared.loop_phase.LoopPhase.TheVariants as phase
use Rattle.chaos_inspect.specs.Inspecting.{HasNoOffence, InHand, IsReady, offence_in, phase_after, phase_into, phase_of}
use Rattle.chaos_inspect.specs.Inspecting.{second_phase}
use Rattle.chaos_inspect.specs.declared.inspection.Inspection.{Inspection}
use Rattle.chaos_inspect.specs.declared.stage.Stage.{Stage as InspectStage}
use Rattle.chaos_inspect.specs.declared.stage.Stage.TheVariants.{Seeking, Telling, Fetching, Answering, Voting, Refused as Stopped, Homing}
use Rattle.chaos_inspect.specs.declared.stage.Stage.TheVariants.{Entered as Put, Ready}
use Rattle.plan_run.specs.Held.{EachLoop, KeepsInStep, KeepsLoop, is_executing}
use Rattle.plan_run.specs.InspectionLaws.{OthersStayInspected}
use Rattle.plan_run.specs.KeptLaws.{differ}
use Rattle.plan_run.specs.OwnerLaws.{equals_itself}
use Rattle.plan_run.specs.Phases.{Phase, cut_phases, is_free, numbers_at}
use Rattle.fd_program.specs.Reports.{completed_of}
use Rattle.plan_run.specs.Rows.{RunPlan, node_row, phases_in, run_in, scene_in}
use Rattle.fd_program.specs.AmongLaws.{zip_weaker}
use Rattle.plan_run.specs.TableLaws.{tables_keep_loops}
use Rattle.plan_run.specs.declared.kept.Kept.{Kept}
use Rattle.plan_run.specs.declared.stage.Stage.{Stage}
use Rattle.plan_run.specs.declared.stage.Stage.TheVariants as stage
use Rattle.plan_walk.specs.LetterLaws.{index_values_are_known, place_answers_are_known}
use Rattle.plan_walk.specs.Letters.{number_in}
use Rattle.plan_walk.specs.PhaseBegins.{phases_follow, rows_follow, votes_pass}
use Rattle.plan_walk.specs.Places.{StandsBetween, left_in, present_phase, whole_in}
use Rattle.chaos_entering.specs.Coming.{KnowsLengths}

-- ---- plain facts

-- where work is due a phase is left
pub work_is_left : (f : Face) → next_of f ≡ Work → 0 < f.left
work_is_left f e = by f.left f.due f.out e
  where
    by : (left : ℕ) (due : List (ℕ × Wanted)) (out : List (ℕ × Letter)) → next_with left due out ≡ Work → 0 < left
    by left due (x ∷ xs) e = cc
    by left (x ∷ xs) [] e = cc
    by zero [] [] e = cc
    by (suc n) [] [] e = omega arith

-- an inspection without a phase or an offence is at its end
pub ready_at_end : (s : InspectStage) → phase_of s ≡ None → offence_in s ≡ None → IsReady s
ready_at_end (Seeking asking) e h = cc
ready_at_end (Telling asking asked) e h = cc
ready_at_end (Fetching level) e h = cc
ready_at_end (Answering level asked) e h = cc
ready_at_end Voting e h = cc
ready_at_end (Stopped offence) e h = cc
ready_at_end (Homing told) e h = cc
ready_at_end (Put entering) e h = cc
ready_at_end (Ready prepared) e h = tt

some_of : {A : Type 0} (P : A → Type 0) (x y : A) → Some x ≡ Some y → P x → P y
some_of P x y e h = subst P (let same : x ≡ y = cc in same) h

abbrev IsEarly : LoopPhase → Type 0
IsEarly l = is_executing (stage.InLoop l) ≡ false

-- a phase of an inspection isn't one of the execution
pub inspection_is_early : (s : InspectStage) (l : LoopPhase) → phase_of s ≡ Some l → IsEarly l
inspection_is_early (Seeking asking) l e = some_of IsEarly (phase.DerefAsk asking) l e refl
inspection_is_early (Telling asking asked) l e = some_of IsEarly (phase.DerefAnswer asking) l e refl
inspection_is_early (Fetching level) l e = some_of IsEarly (phase.IndexAsk level) l e refl
inspection_is_early (Answering level asked) l e = some_of IsEarly (phase.IndexValues level) l e refl
inspection_is_early Voting l e = some_of IsEarly phase.Vote l e refl
inspection_is_early (Stopped offence) l e = cc
inspection_is_early (Homing told) l e = some_of IsEarly phase.Iterations l e refl
inspection_is_early (Put entering) l e = some_of IsEarly phase.ScheduleAsk l e refl
inspection_is_early (Ready prepared) l e = cc

-- ---- no offence behind the vote

abbrev phase_home : Bool → LoopPhase
phase_home b = if b then phase.DerefAsk Homes else phase.Iterations

no_offence_behind : (x : Inspection) (owners : List (List ℕ)) (store : List (List ℤ)) (tables : List Stamps) (s : InspectStage) (b : Bool)
    → phase_of s ≡ Some (phase_home b)
    → InHand x owners store tables s → HasNoOffence x store
no_offence_behind x owners store tables (Seeking (Indexes level)) true e h = cc
no_offence_behind x owners store tables (Seeking Homes) true e h = h.1.1
no_offence_behind x owners store tables (Seeking References) true e h = cc
no_offence_behind x owners store tables (Seeking asking) false e h = cc
no_offence_behind x owners store tables (Telling asking asked) true e h = cc
no_offence_behind x owners store tables (Telling asking asked) false e h = cc
no_offence_behind x owners store tables (Fetching level) true e h = cc
no_offence_behind x owners store tables (Fetching level) false e h = cc
no_offence_behind x owners store tables (Answering level asked) true e h = cc
no_offence_behind x owners store tables (Answering level asked) false e h = cc
no_offence_behind x owners store tables Voting true e h = cc
no_offence_behind x owners store tables Voting false e h = cc
no_offence_behind x owners store tables (Stopped offence) b e h = cc
no_offence_behind x owners store tables (Homing told) b e h = h.1
no_offence_behind x owners store tables (Put entering) b e h = h.0
no_offence_behind x owners store tables (Ready prepared) b e h = cc

-- a FORALL whose iterations have no offence isn't refused
pub not_refused : (s : Scene) (past : List Step) (site : ℕ) (turn : LoopTurn) (x : Inspection) → x.facts ≡ loop_at s past site turn
    → HasNoOffence x (store_at s past)
    → refusal_of s.checked (Forall site turn) (store_at s past) ≡ None
not_refused s past site turn x same h =
    let none : offence_of s.checked.arrays (site_at s.checked.sites site) turn (store_at s past) ≡ None
    = ap (λ (f : LoopFacts). offence_of f.arrays f.site f.turn (store_at s past)) (sym same) ∙ h in
    by (is_empty_turn turn) _ none
  where
    by : (b : Bool) (o : Option Offence) → o ≡ None
        → option_map (λ (o : Offence). let r : Refused = record { site = site; offence = o } in r) (if b then None else o) ≡ None
    by true o e = refl
    by false None e = refl
    by false (Some y) e = cc

pub vote_passes : (s : Scene) (past : List Step) (site : ℕ) (turn : LoopTurn) (x : Inspection) (tables : List Stamps)
    → x.facts ≡ loop_at s past site turn
    → phase_of x.stage ≡ phase_after (loop_at s past site turn) phase.Vote → InHand x (owners_at s past) (store_at s past) tables x.stage
    → refusal_of s.checked (Forall site turn) (store_at s past) ≡ None
vote_passes s past site turn x tables same next hand =
    not_refused s past site turn x same
    (no_offence_behind x (owners_at s past) (store_at s past) tables x.stage (asks_places (loop_at s past site turn) Homes) next hand)

-- ---- the phases that are left

-- behind a phase those of the other stages follow, unless the FORALL is refused at it
pub left_passes : (plan : RunPlan) (past : List Step) (site : ℕ) (turn : LoopTurn) (rest : List Step) (l : LoopPhase) (stages : List Stage)
    → StandsBetween plan past (Forall site turn ∷ rest)
    → (l ≡ phase.Vote → refusal_of plan.checked (Forall site turn) (store_at (scene_in plan) past) ≡ None)
    → left_in plan past (Forall site turn) rest (stage.InLoop l ∷ stages)
    ≡ present_phase plan past (Forall site turn) rest (stage.InLoop l) stages ∷ left_in plan past (Forall site turn) rest stages
left_passes plan past site turn rest (phase.DerefAsk asking) stages at h = phases_follow plan past (Forall site turn) rest _ stages refl
left_passes plan past site turn rest (phase.DerefAnswer asking) stages at h = phases_follow plan past (Forall site turn) rest _ stages refl
left_passes plan past site turn rest (phase.IndexAsk level) stages at h = phases_follow plan past (Forall site turn) rest _ stages refl
left_passes plan past site turn rest (phase.IndexValues level) stages at h = phases_follow plan past (Forall site turn) rest _ stages refl
left_passes plan past site turn rest phase.Vote stages at h = votes_pass plan past (Forall site turn) rest _ stages at (h refl)
left_passes plan past site turn rest phase.Iterations stages at h = phases_follow plan past (Forall site turn) rest _ stages refl
left_passes plan past site turn rest phase.ScheduleAsk stages at h = phases_follow plan past (Forall site turn) rest _ stages refl
left_passes plan past site turn rest phase.Gather stages at h = phases_follow plan past (Forall site turn) rest _ stages refl
left_passes plan past site turn rest phase.Scatter stages at h = phases_follow plan past (Forall site turn) rest _ stages refl

-- in any case there are such phases
pub some_left : (plan : RunPlan) (past : List Step) (site : ℕ) (turn : LoopTurn) (rest : List Step) (l : LoopPhase) (stages : List Stage)
    → (later : List Phase) × (left_in plan past (Forall site turn) rest (stage.InLoop l ∷ stages)
    ≡ present_phase plan past (Forall site turn) rest (stage.InLoop l) stages ∷ later)
some_left plan past site turn rest l stages =
    by (is_some (run_in plan).refused)
  where
    f : Phase
    f = present_phase plan past (Forall site turn) rest (stage.InLoop l) stages

    fs : List Phase
    fs = whole_in plan past (Forall site turn) rest stages

    by : (b : Bool) → (later : List Phase) × (cut_phases plan.checked (f ∷ fs) (completed_of (run_in plan)) b ≡ f ∷ later)
    by true = (_, refl)
    by false = (_, refl)

-- as a phase is ready, who the node is, how many phases are left, and those behind it
pub record IsPast (plan : RunPlan) (t p : ℕ) (f : Phase) (later : List Phase) (v : Face) : Type 0 where
  pub me : v.me ≡ p
  pub left : v.left ≡ f.left
  pub behind : drop (t + 1) (phases_in plan) ≡ later

pub is_past : (plan : RunPlan) (t p : ℕ) (f : Phase) (later : List Phase) (v : Face) → v ≡ ready (node_row plan t) p
    → drop t (phases_in plan) ≡ f ∷ later
    → IsPast plan t p f later v
is_past plan t p f later v row e =
    let rows = rows_follow plan t f later e in
    record {
      me = ap (λ (f : Face). f.me) row ∙ ap (λ (f : Face). f.me) (rows.now p);
      left = ap (λ (f : Face). f.left) row ∙ ap (λ (f : Face). f.left) (rows.now p);
      behind = rows.left;
    }

-- ---- what is kept

abbrev KeptEarly : Scene → List Step → ℕ → LoopTurn → LoopPhase → ℕ → List Stamps → ℕ → Option Kept → Bool → Type 0
KeptEarly s past site turn l p tables k kept inspecting =
    MatchBool inspecting (MatchBool (is_executing (stage.InLoop l)) (KeepsLoop s (Forall site turn ∷ past) k p tables kept) (kept ≡ None))
    (KeepsLoop s past k p tables kept)

-- from phase to phase of an inspection nothing is kept of this FORALL, and of each other what was kept
pub keeps_from_phase : (s : Scene) (run : Run) (past : List Step) (site : ℕ) (turn : LoopTurn) (l next : LoopPhase) (p : ℕ)
    (before after : List Stamps) (kept : List (Option Kept))
    → inspects_at s.checked past site turn ≡ true → is_executing (stage.InLoop l) ≡ false → is_executing (stage.InLoop next) ≡ false
    → OthersStayInspected s site before after
    → EachLoop s.checked (KeepsInStep s run past (Forall site turn) (stage.InLoop l) p before) kept
    → EachLoop s.checked (KeepsInStep s run past (Forall site turn) (stage.InLoop next) p after) kept
keeps_from_phase s run past site turn l next p before after kept inspects first second stay h =
    zip_weaker (KeepsInStep s run past (Forall site turn) (stage.InLoop l) p before) (KeepsInStep s run past (Forall site turn)
    (stage.InLoop next) p after)
    (λ k x held. by k x (cases_eq site k) held) (below (length s.checked.sites)) kept h
  where
    by : (k : ℕ) (x : Option Kept) → (site ≡ k) ⊎ (site ≢ k) → KeptEarly s past site turn l p before k x
        ((site == k) && inspects_at s.checked past site turn)
        → KeptEarly s past site turn next p after k x ((site == k) && inspects_at s.checked past site turn)
    by k x (inl same) held =
        let it : ((site == k) && inspects_at s.checked past site turn) ≡ true
        = ap (λ b. b && inspects_at s.checked past site turn) (subst (λ n. (site == n) ≡ true) same (equals_itself site)) ∙ inspects in
        subst (λ b. KeptEarly s past site turn next p after k x b) (sym it)
        (subst (λ b. MatchBool b (KeepsLoop s (Forall site turn ∷ past) k p after x) (x ≡ None)) (sym second)
        (subst (λ b. MatchBool b (KeepsLoop s (Forall site turn ∷ past) k p before x) (x ≡ None)) first
        (subst (λ b. KeptEarly s past site turn l p before k x b) it held)))
    by k x (inr other) held =
        let not_it : ((site == k) && inspects_at s.checked past site turn) ≡ false = ap (λ b. b && inspects_at s.checked past site turn)
        (differ site k other) in
        subst (λ b. KeptEarly s past site turn next p after k x b) (sym not_it)
        (tables_keep_loops s past k p before after x (stay k other)
        (subst (λ b. KeptEarly s past site turn l p before k x b) not_it held))

-- ---- lengths

get_map : {A : Type 0} (x : ℕ → A) (none : A) (q low k : ℕ) → q < k → unwrap_or (slice_get (map x (range_with_len low k)) q) none
    ≡ x (low + q)
get_map x none q low zero l = absurd (omega arith)
get_map x none zero low (suc k) l = let e : low ≡ low + 0 = omega arith in ap x e
get_map x none (suc q) low (suc k) l = get_map x none q (low + 1) k (omega (arith, l))
    ∙ ap x (let e : low + 1 + q ≡ low + suc q = omega arith in e)

pub number_at : (g : ℕ → ℕ) (n q : ℕ) → q < n → number_in (map g (below n)) q ≡ g q
number_at g n q less = get_map g 0 q 0 n less ∙ ap g (let z : 0 + q ≡ q = omega arith in z)

halves : (g : ℕ → ℕ) (xs : List ℕ) → map (λ n. n / 2) (map g xs) ≡ map (λ q. g q / 2) xs
halves g [] = refl
halves g (x ∷ xs) = ap (λ (l : List ℕ). g x / 2 ∷ l) (halves g xs)

half : (n m : ℕ) → 2 * n ≡ m → m / 2 ≡ n
half n m e = omega (arith, e)

-- the lengths of the lists that a node sent in a phase
abbrev sizes_at : RunPlan → List Step → ℕ → LoopTurn → LoopPhase → ℕ → List ℕ
sizes_at plan past site turn l p = map (λ q. length (numbers_at (scene_in plan) past (Forall site turn) (stage.InLoop l) p q))
    (below plan.nodes)

free_lengths : (plan : RunPlan) (past : List Step) (site : ℕ) (turn : LoopTurn) (next : LoopPhase) (p : ℕ) (sizes : List ℕ)
    → is_free (stage.InLoop next) ≡ true
    → KnowsLengths plan past (Forall site turn) (stage.InLoop next) p sizes
free_lengths plan past site turn next p sizes free known q less = absurd (both (is_free (stage.InLoop next)) free known)
  where
    both : (b : Bool) → b ≡ true → b ≡ false → ⊥
    both true s t = cc
    both false s t = cc

free_home : (b : Bool) → is_free (stage.InLoop (phase_home b)) ≡ true
free_home true = refl
free_home false = refl

free_rows : (b : Bool) → is_free (stage.InLoop (if b then phase.DerefAsk References else phase.ScheduleAsk)) ≡ true
free_rows true = refl
free_rows false = refl

abbrev Lengths : RunPlan → List Step → ℕ → LoopTurn → ℕ → List ℕ → LoopPhase → Type 0
Lengths plan past site turn p sizes next = KnowsLengths plan past (Forall site turn) (stage.InLoop next) p sizes

answers_known : (plan : RunPlan) (past : List Step) (site : ℕ) (turn : LoopTurn) (asking : Asking) (p : ℕ) (sizes : List ℕ)
    → sizes ≡ sizes_at plan past site turn (phase.DerefAsk asking) p
    → Lengths plan past site turn p sizes (phase.DerefAnswer asking)
answers_known plan past site turn asking p sizes e known q less =
    ap (λ l. number_in l q) e ∙ number_at
    (λ q. length (numbers_at (scene_in plan) past (Forall site turn) (stage.InLoop (phase.DerefAsk asking)) p q)) plan.nodes q less
    ∙ sym (place_answers_are_known (scene_in plan) past site turn asking p q)

values_known : (plan : RunPlan) (past : List Step) (site : ℕ) (turn : LoopTurn) (level : Level) (p : ℕ) (sizes : List ℕ)
    → sizes ≡ sizes_at plan past site turn (phase.IndexAsk level) p
    → Lengths plan past site turn p sizes (phase.IndexValues level)
values_known plan past site turn level p sizes e known q less =
    let g : ℕ → ℕ = λ q. length (numbers_at (scene_in plan) past (Forall site turn) (stage.InLoop (phase.IndexAsk level)) p q) in
    ap (λ l. number_in (map (λ n. n / 2) l) q) e ∙ ap (λ l. number_in l q) (halves g (below plan.nodes))
    ∙ number_at (λ q. g q / 2) plan.nodes q less
    ∙ half _ (g q) (index_values_are_known (scene_in plan) past site turn level p q)

free_second : (a b : Bool) → is_free (stage.InLoop (phase_into a b Second phase.Vote)) ≡ true
free_second true b = refl
free_second false true = refl
free_second false false = refl

-- the lengths of the letters of the next phase, from those of the lists that were sent
pub lengths_behind : (plan : RunPlan) (past : List Step) (site : ℕ) (turn : LoopTurn) (l next : LoopPhase) (p : ℕ) (sizes : List ℕ)
    → phase_after (loop_at (scene_in plan) past site turn) l ≡ Some next → sizes ≡ sizes_at plan past site turn l p
    → KnowsLengths plan past (Forall site turn) (stage.InLoop next) p sizes
lengths_behind plan past site turn (phase.DerefAsk asking) next p sizes e h =
    some_of (Lengths plan past site turn p sizes) (phase.DerefAnswer asking) next e (answers_known plan past site turn asking p sizes h)
lengths_behind plan past site turn (phase.DerefAnswer (Indexes level)) next p sizes e h =
    some_of (Lengths plan past site turn p sizes) (phase.IndexAsk level) next e
    (free_lengths plan past site turn (phase.IndexAsk level) p sizes refl)
lengths_behind plan past site turn (phase.DerefAnswer Homes) next p sizes e h =
    some_of (Lengths plan past site turn p sizes) phase.Iterations next e (free_lengths plan past site turn phase.Iterations p sizes refl)
lengths_behind plan past site turn (phase.DerefAnswer References) next p sizes e h =
    some_of (Lengths plan past site turn p sizes) phase.ScheduleAsk next e (free_lengths plan past site turn phase.ScheduleAsk p sizes refl)
lengths_behind plan past site turn (phase.IndexAsk level) next p sizes e h =
    some_of (Lengths plan past site turn p sizes) (phase.IndexValues level) next e (values_known plan past site turn level p sizes h)
lengths_behind plan past site turn (phase.IndexValues First) next p sizes e h =
    let f = loop_at (scene_in plan) past site turn in
    some_of (Lengths plan past site turn p sizes) (second_phase f) next e (free_lengths plan past site turn (second_phase f) p sizes
    (free_second (asks_places f (Indexes Second)) (has_level f Second)))
lengths_behind plan past site turn (phase.IndexValues Second) next p sizes e h =
    some_of (Lengths plan past site turn p sizes) phase.Vote next e (free_lengths plan past site turn phase.Vote p sizes refl)
lengths_behind plan past site turn phase.Vote next p sizes e h =
    let b = asks_places (loop_at (scene_in plan) past site turn) Homes in
    some_of (Lengths plan past site turn p sizes) (phase_home b) next e (free_lengths plan past site turn (phase_home b) p sizes
    (free_home b))
lengths_behind plan past site turn phase.Iterations next p sizes e h =
    let b = asks_places (loop_at (scene_in plan) past site turn) References in
    some_of (Lengths plan past site turn p sizes) (if b then phase.DerefAsk References else phase.ScheduleAsk) next e
    (free_lengths plan past site turn (if b then phase.DerefAsk References else phase.ScheduleAsk) p sizes (free_rows b))
lengths_behind plan past site turn phase.ScheduleAsk next p sizes e h = cc
lengths_behind plan past site turn phase.Gather next p sizes e h = cc
lengths_behind plan past site turn phase.Scatter next p sizes e h = cc
