-- What is read from the phases of a run, in order: `h` reads a stage of a step, from the steps before it, the step and its number.
use Rattle.std.specs.Prelude.{◌≡◌, refl, ℕ, ◌+◌, ◌<◌, ◌≤◌, Bool, true, false, ◌&&◌, ◌==◌, if◌then◌else◌, List, [], ◌∷◌, ◌++◌, length}
use Rattle.std.specs.Prelude.{flat_map}
use Rattle.std.specs.List.{AllByRecursion}
use Rattle.std.proofs.Common.{ap, sym, ◌∙◌, arith, append_assoc}
use Rattle.std.proofs.lemmas.Bool.Decides.{nat_tests}
use Rattle.chaos_dist.specs.declared.step_form.StepForm.{StepForm}
use Rattle.chaos_dist.specs.declared.step_form.StepForm.TheVariants.{Regular, Map}
use Rattle.fd_program.specs.Layouts.{facts_at}
use Rattle.fd_program.specs.Past.{is_repeat, inspects_at, inspects_step}
use Rattle.fd_program.specs.Trace.{is_empty_turn}
use Rattle.fd_program.specs.declared.array.OutputName.{OutputName}
use Rattle.fd_program.specs.declared.checked.Checked.{Checked}
use Rattle.fd_program.specs.declared.loop_facts.HomeRule.{HomeRule}
use Rattle.fd_program.specs.declared.trace.Step.{Step}
use Rattle.fd_program.specs.declared.trace.Step.TheVariants.{Distribute, Print, Forall}
use Rattle.plan_loop.specs.declared.loop_phase.LoopPhase.TheVariants as phase
use Rattle.plan_run.specs.Phases.{Phase, is_vote, is_vote_of, cut_at, moving_stages, loop_stages, stages_of, phases_before, phases_from}
use Rattle.plan_run.specs.Phases.{output_phases}
use Rattle.plan_run.specs.VoteLaws.{inspecting_votes, stages_to_vote}
use Rattle.plan_run.specs.declared.stage.Stage.{Stage}
use Rattle.plan_run.specs.declared.stage.Stage.TheVariants as stage
use Rattle.plan_run.specs.OwnerLaws.{equals_itself}

-- ---- reading

abbrev pub Reading : Type 0 → Type 0
Reading X = List Step → Step → ℕ → Stage → List X

abbrev pub at_phase : {X : Type 0} → Reading X → Phase → List X
at_phase h f = h f.past f.step f.execution f.stage

-- what is read from a step that is completed, and from one that is refused
abbrev pub of_step : {X : Type 0} → Checked → ℕ → HomeRule → Reading X → List Step → Step → List X
of_step c nodes rule h past step = flat_map (h past step (length past)) (stages_of c nodes rule past step)

abbrev pub of_refused : {X : Type 0} → Checked → ℕ → HomeRule → Reading X → List Step → Step → List X
of_refused c nodes rule h past step = flat_map (h past step (length past)) (stages_to_vote c nodes rule past step)

-- what is read from completed steps, the latest first
abbrev pub of_steps : {X : Type 0} → Checked → ℕ → HomeRule → Reading X → List Step → List X
of_steps c nodes rule h [] = []
of_steps c nodes rule h (step ∷ past) = of_steps c nodes rule h past ++ of_step c nodes rule h past step

-- ---- lists

pub read_joined : {X A : Type 0} (f : X → List A) (xs ys : List X) → flat_map f (xs ++ ys) ≡ flat_map f xs ++ flat_map f ys
read_joined f [] ys = refl
read_joined f (x ∷ xs) ys = ap (λ l. f x ++ l) (read_joined f xs ys) ∙ sym (append_assoc (f x) (flat_map f xs) (flat_map f ys))

-- a list put before another, the last first
abbrev pub onto : {A : Type 0} → List A → List A → List A
onto [] ys = ys
onto (x ∷ xs) ys = onto xs (x ∷ ys)

grown : (xs ys : List Step) → length ys ≤ length (onto xs ys)
grown [] ys = omega arith
grown (x ∷ xs) ys = let more : length (x ∷ ys) ≤ length (onto xs (x ∷ ys)) = grown xs (x ∷ ys) in omega (arith, more)

-- ---- phases

read_before : {X : Type 0} (h : Reading X) (later : List Phase) (past : List Step) (step : Step) (n : ℕ) (stages : List Stage)
    → flat_map (at_phase h) (phases_before later past step n stages) ≡ flat_map (h past step n) stages ++ flat_map (at_phase h) later
read_before h later past step n [] = refl
read_before h later past step n (a ∷ stages) =
    ap (λ l. h past step n a ++ l) (read_before h later past step n stages)
    ∙ sym (append_assoc (h past step n a) (flat_map (h past step n) stages) (flat_map (at_phase h) later))

-- a run without a refusal
pub read_from : {X : Type 0} (c : Checked) (nodes : ℕ) (rule : HomeRule) (h : Reading X) (past steps : List Step)
    → of_steps c nodes rule h past ++ flat_map (at_phase h) (phases_from c nodes rule past steps)
    ≡ of_steps c nodes rule h (onto steps past) ++ flat_map (at_phase h) (output_phases (length (onto steps past)) (onto steps past) 0
    c.outputs)
read_from c nodes rule h past [] = refl
read_from c nodes rule h past (step ∷ steps) =
    let later = phases_from c nodes rule (step ∷ past) steps in
    ap (λ l. of_steps c nodes rule h past ++ l) (read_before h later past step (length past) (stages_of c nodes rule past step))
    ∙ sym (append_assoc (of_steps c nodes rule h past) (of_step c nodes rule h past step) (flat_map (at_phase h) later))
    ∙ read_from c nodes rule h (step ∷ past) steps

-- ---- a cut

other : (n k : ℕ) → n < k → (n == k) ≡ false
other n k less = grind (arith, nat_tests)

-- none of these stages is a vote of step k
cut_later : {X : Type 0} (h : Reading X) (k : ℕ) (outs later : List Phase) (past : List Step) (step : Step) (n : ℕ) (stages : List Stage)
    → n < k
    → flat_map (at_phase h) (cut_at k outs (phases_before later past step n stages))
    ≡ flat_map (h past step n) stages ++ flat_map (at_phase h) (cut_at k outs later)
cut_later h k outs later past step n [] less = refl
cut_later h k outs later past step n (a ∷ stages) less =
    ap (λ b. h past step n a ++ flat_map (at_phase h) (if b && is_vote a then outs else cut_at k outs
    (phases_before later past step n stages))) (other n k less)
    ∙ ap (λ l. h past step n a ++ l) (cut_later h k outs later past step n stages less)
    ∙ sym (append_assoc (h past step n a) (flat_map (h past step n) stages) (flat_map (at_phase h) (cut_at k outs later)))

cut_here : {X : Type 0} (h : Reading X) (k : ℕ) (outs later : List Phase) (past : List Step) (step : Step) (first behind : List Stage)
    (vote : Stage)
    → AllByRecursion (λ u. is_vote u ≡ false) first → is_vote vote ≡ true
    → flat_map (at_phase h) (cut_at k outs (phases_before later past step k (first ++ vote ∷ behind)))
    ≡ flat_map (h past step k) (first ++ vote ∷ []) ++ flat_map (at_phase h) outs
cut_here h k outs later past step [] behind vote none is =
    ap (λ b. h past step k vote ++ flat_map (at_phase h) (if b then outs else cut_at k outs (phases_before later past step k behind)))
    (ap (λ b. b && is_vote vote) (equals_itself k) ∙ is)
    ∙ sym (append_assoc (h past step k vote) [] (flat_map (at_phase h) outs))
cut_here h k outs later past step (u ∷ first) behind vote none is =
    ap (λ b. h past step k u ++ flat_map (at_phase h)
    (if b then outs else cut_at k outs (phases_before later past step k (first ++ vote ∷ behind))))
    (ap (λ b. b && is_vote u) (equals_itself k) ∙ none.0)
    ∙ ap (λ l. h past step k u ++ l) (cut_here h k outs later past step first behind vote none.1 is)
    ∙ sym (append_assoc (h past step k u) (flat_map (h past step k) (first ++ vote ∷ [])) (flat_map (at_phase h) outs))

-- ---- votes

-- each vote is that of a step that inspects
abbrev pub VotesInspect : Checked → List Phase → Type 0
VotesInspect c phases = AllByRecursion (λ (f : Phase). is_vote f.stage ≡ true → inspects_step c f.past f.step ≡ true) phases

abbrev Votes : Bool → List Stage → Type 0
Votes b stages = AllByRecursion (λ (u : Stage). is_vote u ≡ true → b ≡ true) stages

all_true : (stages : List Stage) → Votes true stages
all_true [] = tt
all_true (u ∷ stages) = ((λ e. refl), all_true stages)

vote_inspects : (c : Checked) (nodes : ℕ) (rule : HomeRule) (past : List Step) (step : Step)
    → Votes (inspects_step c past step) (stages_of c nodes rule past step)
vote_inspects c nodes rule past (Distribute d form) = by (is_repeat c past d form) form
  where
    by : (b : Bool) (form : StepForm) → Votes false (if b then [] else moving_stages form)
    by true form = tt
    by false (Regular shape) = ((λ e. cc), tt)
    by false (Map array) = ((λ e. cc), ((λ e. cc), ((λ e. cc), ((λ e. cc), ((λ e. cc), tt)))))
vote_inspects c nodes rule past (Print array) = ((λ e. cc), tt)
vote_inspects c nodes rule past (Forall site turn) = by (is_empty_turn turn) (inspects_at c past site turn)
  where
    by : (a b : Bool) → Votes b (if a then [] else loop_stages (facts_at c nodes rule past site turn) b)
    by true b = tt
    by false true = all_true (loop_stages (facts_at c nodes rule past site turn) true)
    by false false = ((λ e. cc), ((λ e. cc), tt))

votes_before : (c : Checked) (later : List Phase) (past : List Step) (step : Step) (n : ℕ) (stages : List Stage)
    → Votes (inspects_step c past step) stages
    → VotesInspect c later → VotesInspect c (phases_before later past step n stages)
votes_before c later past step n [] h more = more
votes_before c later past step n (a ∷ stages) h more = (h.0, votes_before c later past step n stages h.1 more)

pub votes_in_outputs : (c : Checked) (steps : ℕ) (past : List Step) (j : ℕ) (os : List OutputName)
    → VotesInspect c (output_phases steps past j os)
votes_in_outputs c steps past j [] = tt
votes_in_outputs c steps past j (o ∷ os) = ((λ e. cc), votes_in_outputs c steps past (j + 1) os)

pub votes_from : (c : Checked) (nodes : ℕ) (rule : HomeRule) (past steps : List Step) → VotesInspect c (phases_from c nodes rule past steps)
votes_from c nodes rule past [] = votes_in_outputs c (length past) past 0 c.outputs
votes_from c nodes rule past (step ∷ steps) =
    votes_before c (phases_from c nodes rule (step ∷ past) steps) past step (length past) (stages_of c nodes rule past step)
    (vote_inspects c nodes rule past step)
    (votes_from c nodes rule (step ∷ past) steps)

pub votes_cut : (c : Checked) (k : ℕ) (outs fs : List Phase) → VotesInspect c outs → VotesInspect c fs → VotesInspect c (cut_at k outs fs)
votes_cut c k outs [] ho h = tt
votes_cut c k outs (f ∷ fs) ho h = (h.0, by (is_vote_of k f) (votes_cut c k outs fs ho h.1))
  where
    by : (b : Bool) → VotesInspect c (cut_at k outs fs) → VotesInspect c (if b then outs else cut_at k outs fs)
    by true more = ho
    by false more = more

-- ---- a run with a refusal

-- the steps before the refused one, that one, and those behind it
pub read_cut : {X : Type 0} (c : Checked) (nodes : ℕ) (rule : HomeRule) (h : Reading X) (outs : List Phase) (past steps : List Step)
    (step : Step) (rest : List Step)
    → inspects_step c (onto steps past) step ≡ true
    → of_steps c nodes rule h past ++ flat_map (at_phase h)
    (cut_at (length (onto steps past)) outs (phases_from c nodes rule past (steps ++ step ∷ rest)))
    ≡ of_steps c nodes rule h (onto steps past) ++ (of_refused c nodes rule h (onto steps past) step ++ flat_map (at_phase h) outs)
read_cut c nodes rule h outs past [] step rest inspects =
    let has = inspecting_votes c nodes rule past step inspects in
    let later = phases_from c nodes rule (step ∷ past) rest in
    ap (λ l. of_steps c nodes rule h past ++ l)
    (ap (λ stages. flat_map (at_phase h) (cut_at (length past) outs (phases_before later past step (length past) stages))) has.all
    ∙ cut_here h (length past) outs later past step has.first has.behind (stage.InLoop phase.Vote) has.none refl
    ∙ ap (λ stages. flat_map (h past step (length past)) stages ++ flat_map (at_phase h) outs) has.through_it)
read_cut c nodes rule h outs past (x ∷ steps) step rest inspects =
    let later = phases_from c nodes rule (x ∷ past) (steps ++ step ∷ rest) in
    let k = length (onto steps (x ∷ past)) in
    let more : length (x ∷ past) ≤ k = grown steps (x ∷ past) in
    ap (λ l. of_steps c nodes rule h past ++ l)
    (cut_later h k outs later past x (length past) (stages_of c nodes rule past x) (omega (arith, more)))
    ∙ sym (append_assoc (of_steps c nodes rule h past) (of_step c nodes rule h past x) (flat_map (at_phase h) (cut_at k outs later)))
    ∙ read_cut c nodes rule h outs (x ∷ past) steps step rest inspects
