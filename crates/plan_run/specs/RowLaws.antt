-- The rows of a run meet, and the phases left fall.
use Rattle.std.proofs.Common.{◌≡◌, ◌==◌, ℕ, suc, zero, ◌+◌, ◌-◌, ◌<◌, ◌≤◌, Bool, true, false, List, [], ◌∷◌, if◌then◌else◌, length, drop}
use Rattle.std.proofs.Common.{arith, refl, sym, ◌∙◌, ap, subst, add-one, not, ◌&&◌}
use Rattle.std.specs.Prelude.{is_some}
use Rattle.std.proofs.lemmas.Bool.Decides.{nat_tests}
use Rattle.chaos_letter.specs.declared.letter.Letter.{Letter}
use Rattle.chaos_letter.specs.declared.wanted.Wanted.{Wanted}
use Rattle.chaos_letter.specs.Fits.{Fits}
use Rattle.bsp_core.specs.Resting.{rest_meets}
use Rattle.bsp_core.specs.Views.{Meets, Serves, for_node}
use Rattle.fd_program.specs.Layouts.{Scene}
use Rattle.fd_program.specs.Reports.{completed_of}
use Rattle.fd_program.specs.Trace.{trace_of}
use Rattle.fd_program.specs.declared.array.OutputName.{OutputName}
use Rattle.fd_program.specs.declared.checked.Checked.{Checked}
use Rattle.fd_program.specs.declared.loop_facts.HomeRule.{HomeRule}
use Rattle.fd_program.specs.declared.trace.Step.{Step}
use Rattle.plan_run.specs.declared.stage.Stage.{Stage}
use Rattle.plan_run.specs.declared.stage.Stage.TheVariants as stage
use Rattle.plan_run.specs.Phases.{Phase, is_vote_of, output_phases, phases_from, phases_before, stages_of, cut_at, cut_phases, letter_of}
use Rattle.plan_run.specs.Phases.{is_sent, is_free, most_in, wanted_by, wanted_at, sends_at}
use Rattle.plan_run.specs.MeasureLaws.{letters_are_measured}
use Rattle.plan_run.specs.Picks.{picked_ascends, picked_one}
use Rattle.plan_run.specs.Rows.{RunPlan, run_in, scene_in, phases_in, face_left, node_row, IsMeasured, AreMeasured, IsRunPlan}

-- ---- who sends

self_is : (p : ℕ) → (p == p) ≡ true
self_is p = grind (arith, nat_tests)

-- no node sends to itself
pub not_sent : (stage : Stage) (p : ℕ) → is_sent stage p p ≡ false
not_sent stage.Print p = ap (λ b. not b && (p == 0)) (self_is p)
not_sent (stage.Output j) p = ap (λ b. not b && (p == 0)) (self_is p)
not_sent (stage.MapPairs array) p = ap not (self_is p)
not_sent stage.PageCounts p = ap not (self_is p)
not_sent stage.MovingAsk p = ap not (self_is p)
not_sent stage.MovingAnswer p = ap not (self_is p)
not_sent stage.Remap p = ap not (self_is p)
not_sent (stage.InLoop l) p = ap not (self_is p)

-- a letter of its length is wanted
pub letter_fits : (s : Scene) (f : Phase) (p q : ℕ) → IsMeasured s f p q → Fits (wanted_at s f q p) (letter_of s f p q)
letter_fits s f p q m = by (is_free f.stage) refl
  where
    n : ℕ
    n = length (letter_of s f p q).numbers

    none_least : (b : Bool) → (if b then 0 else n) ≤ n
    none_least true = omega arith
    none_least false = omega arith

    fitting : n ≤ (if is_free f.stage then most_in f.stage else n) → Fits (wanted_by s f n) (letter_of s f p q)
    fitting most = record {
      kind = refl;
      execution = refl;
      site = refl;
      count = record { groups = m.groups; least = none_least (is_free f.stage); most = most };
    }

    by : (b : Bool) → is_free f.stage ≡ b → Fits (wanted_by s f n) (letter_of s f p q)
    by true e = fitting (subst (λ b. n ≤ (if b then most_in f.stage else n)) (sym e) (m.most e))
    by false e = fitting (subst (λ b. n ≤ (if b then most_in f.stage else n)) (sym e) (omega arith))

serves_if : (b : Bool) (w : Wanted) (x : Letter) → Fits w x → Serves (if b then w ∷ [] else []) (if b then x ∷ [] else [])
serves_if true w x h = h
serves_if false w x h = tt

-- ---- the phases left

abbrev pub left_of : List Phase → ℕ
left_of [] = 0
left_of (f ∷ rest) = f.left

abbrev pub Falls : List Phase → Type 0
Falls [] = Unit {0}
Falls (f ∷ rest) = (left_of rest < f.left) × Falls rest

-- each phase counts itself and those behind it
abbrev pub Exact : List Phase → Type 0
Exact [] = Unit {0}
Exact (f ∷ rest) = (f.left ≡ length rest + 1) × Exact rest

-- behind each vote of step k there are n phases or more
abbrev pub Ample : ℕ → ℕ → List Phase → Type 0
Ample n k [] = Unit {0}
Ample n k (f ∷ rest) = (is_vote_of k f ≡ true → n ≤ length rest) × Ample n k rest

pub left_exact : (fs : List Phase) → Exact fs → left_of fs ≡ length fs
left_exact [] h = refl
left_exact (f ∷ rest) h = h.0 ∙ omega arith

exact_falls : (fs : List Phase) → Exact fs → Falls fs
exact_falls [] h = tt
exact_falls (f ∷ rest) h = (omega (arith, h.0, left_exact rest h.1), exact_falls rest h.1)

exact_before : (later : List Phase) (past : List Step) (step : Step) (execution : ℕ) (stages : List Stage) → Exact later
    → Exact (phases_before later past step execution stages)
exact_before later past step execution [] h = h
exact_before later past step execution (stage ∷ stages) h = (refl, exact_before later past step execution stages h)

exact_outputs : (steps : ℕ) (past : List Step) (j : ℕ) (os : List OutputName) → Exact (output_phases steps past j os)
exact_outputs steps past j [] = tt
exact_outputs steps past j (o ∷ os) = (refl, exact_outputs steps past (j + 1) os)

pub exact_from : (c : Checked) (n : ℕ) (r : HomeRule) (past steps : List Step) → Exact (phases_from c n r past steps)
exact_from c n r past [] = exact_outputs (length past) past 0 c.outputs
exact_from c n r past (step ∷ steps) = exact_before (phases_from c n r (step ∷ past) steps) past step (length past)
    (stages_of c n r past step) (exact_from c n r (step ∷ past) steps)

pub length-outputs : (steps : ℕ) (past : List Step) (j : ℕ) (os : List OutputName) → length (output_phases steps past j os) ≡ length os
length-outputs steps past j [] = refl
length-outputs steps past j (o ∷ os) = ap suc (length-outputs steps past (j + 1) os)

grows_before : (later : List Phase) (past : List Step) (step : Step) (execution : ℕ) (stages : List Stage)
    → length later ≤ length (phases_before later past step execution stages)
grows_before later past step execution [] = omega arith
grows_before later past step execution (stage ∷ stages) = omega (arith, grows_before later past step execution stages)

and_false : (b : Bool) → (b && false) ≡ true → ⊥
and_false true e = cc
and_false false e = cc

ample_outputs : (n k steps : ℕ) (past : List Step) (j : ℕ) (os : List OutputName) → Ample n k (output_phases steps past j os)
ample_outputs n k steps past j [] = tt
ample_outputs n k steps past j (o ∷ os) = ((λ e. absurd (and_false ((steps + j) == k) e)), ample_outputs n k steps past (j + 1) os)

ample_before : (n k : ℕ) (later : List Phase) (past : List Step) (step : Step) (execution : ℕ) (stages : List Stage) → n ≤ length later
    → Ample n k later
    → Ample n k (phases_before later past step execution stages)
ample_before n k later past step execution [] l h = h
ample_before n k later past step execution (stage ∷ stages) l h =
    ((λ e. omega (arith, l, grows_before later past step execution stages)), ample_before n k later past step execution stages l h)

ample_from : (c : Checked) (n : ℕ) (r : HomeRule) (k : ℕ) (past steps : List Step)
    → (length c.outputs ≤ length (phases_from c n r past steps)) × Ample (length c.outputs) k (phases_from c n r past steps)
ample_from c n r k past [] = (
  omega (arith, length-outputs (length past) past 0 c.outputs),
  ample_outputs (length c.outputs) k
      (length past) past 0 c.outputs,
)
ample_from c n r k past (step ∷ steps) =
    let rest = ample_from c n r k (step ∷ past) steps in
    let later : List Phase = phases_from c n r (step ∷ past) steps in (
      omega (arith, rest.0, grows_before later past step (length past) (stages_of c n r past step)),
      ample_before (length c.outputs) k later past step (length past) (stages_of c n r past step) rest.0 rest.1,
    )

-- what holds of both lists of a choice
pick_phases : (C : List Phase → Type 0) (b : Bool) (xs ys : List Phase) → (b ≡ true → C xs) → (b ≡ false → C ys) → C (if b then xs else ys)
pick_phases C true xs ys t f = t refl
pick_phases C false xs ys t f = f refl

pub left_cut : (k : ℕ) (outs fs : List Phase) → left_of (cut_at k outs fs) ≡ left_of fs
left_cut k outs [] = refl
left_cut k outs (f ∷ fs) = refl

falls_cut : (k : ℕ) (outs fs : List Phase) → Exact outs → Exact fs → Ample (length outs) k fs → Falls (cut_at k outs fs)
falls_cut k outs [] ho h a = tt
falls_cut k outs (f ∷ fs) ho h a =
    pick_phases (λ rest. Falls (f ∷ rest)) (is_vote_of k f) outs (cut_at k outs fs)
    (λ e. (omega (arith, h.0, left_exact outs ho, a.0 e), exact_falls outs ho))
    (λ e. (omega (arith, h.0, left_exact fs h.1, left_cut k outs fs), falls_cut k outs fs ho h.1 a.1))

falls_phases : (c : Checked) (n : ℕ) (r : HomeRule) (past : List Step) (b : Bool)
    → Falls (cut_phases c (phases_from c n r [] (trace_of c)) past b)
falls_phases c n r past false = exact_falls _ (exact_from c n r [] (trace_of c))
falls_phases c n r past true =
    let all : List Phase = phases_from c n r [] (trace_of c) in
    let outs : List Phase = output_phases (length (trace_of c)) past 0 c.outputs in
    falls_cut (length past) outs all (exact_outputs (length (trace_of c)) past 0 c.outputs) (exact_from c n r [] (trace_of c))
    (subst (λ m. Ample m (length past) all) (sym (length-outputs (length (trace_of c)) past 0 c.outputs))
    (ample_from c n r (length past) [] (trace_of c)).1)

pub falls_in : (plan : RunPlan) → Falls (phases_in plan)
falls_in plan = falls_phases plan.checked plan.nodes plan.rule (completed_of (run_in plan)) (is_some (run_in plan).refused)

pub falls_drop : (t : ℕ) (fs : List Phase) → Falls fs → Falls (drop t fs)
falls_drop zero fs h = h
falls_drop (suc t) [] h = tt
falls_drop (suc t) (f ∷ fs) h = falls_drop t fs h.1

falls_once : (t : ℕ) (fs : List Phase) → Falls fs → left_of (drop (suc t) fs) ≤ left_of (drop t fs) - 1
falls_once zero [] h = omega arith
falls_once zero (f ∷ fs) h = omega (arith, h.0)
falls_once (suc t) [] h = omega arith
falls_once (suc t) (f ∷ fs) h = falls_once t fs h.1

pub left_face : (s : Scene) (fs : List Phase) (p : ℕ) → (face_left s fs p).left ≡ left_of fs
left_face s [] p = refl
left_face s (f ∷ fs) p = refl

pub measured_drop : (s : Scene) (t : ℕ) (fs : List Phase) → AreMeasured s fs → AreMeasured s (drop t fs)
measured_drop s zero fs h = h
measured_drop s (suc t) [] h = tt
measured_drop s (suc t) (f ∷ fs) h = measured_drop s t fs h.1

-- ---- the rows

pub meets_left : (s : Scene) (phases : List Phase) → AreMeasured s phases → Falls phases → Meets s.nodes (face_left s phases)
meets_left s [] h d = rest_meets s.nodes
meets_left s (f ∷ rest) h d = record {
  me = λ p l. refl;
  count = λ p l. refl;
  left = λ p l. refl;
  got = λ p l. refl;
  out = λ p l. picked_ascends (letter_of s f p) (is_sent f.stage p) p s.nodes 0 s.nodes (omega arith) (not_sent f.stage p);
  due = λ p l. picked_ascends (wanted_at s f p) (λ q. is_sent f.stage q p) p s.nodes 0 s.nodes (omega arith) (not_sent f.stage p);
  serves = λ p q lp lq.
      subst (λ (z : List Wanted). Serves z (for_node q (sends_at s f p)))
      (sym (picked_one (wanted_at s f q) (λ r. is_sent f.stage r q) p 0 s.nodes (omega arith) (omega arith)))
      (subst (λ (z : List Letter). Serves (if is_sent f.stage p q then wanted_at s f q p ∷ [] else []) z)
      (sym (picked_one (letter_of s f p) (is_sent f.stage p) q 0 s.nodes (omega arith) (omega arith)))
      (serves_if (is_sent f.stage p q) (wanted_at s f q p) (letter_of s f p q) (letter_fits s f p q (h.0 p q))));
  done = λ p l z. absurd (omega (arith, d.0, z));
}

abbrev pub RowsMeet : Type 0
RowsMeet = (plan : RunPlan) → IsRunPlan plan → (t : ℕ) → Meets plan.nodes (node_row plan t)

abbrev pub RowsFall : Type 0
RowsFall = (plan : RunPlan) (t : ℕ) → (node_row plan (t + 1) 0).left ≤ (node_row plan t 0).left - 1

pub rows_meet : RowsMeet
rows_meet plan h t =
    meets_left (scene_in plan) (drop t (phases_in plan))
    (measured_drop (scene_in plan) t (phases_in plan) (letters_are_measured plan h.checked h.store h.within))
    (falls_drop t (phases_in plan) (falls_in plan))

pub rows_fall : RowsFall
rows_fall plan t =
    subst (λ k. (node_row plan k 0).left ≤ (node_row plan t 0).left - 1) (sym (add-one t))
    (omega (
      arith,
      falls_once t (phases_in plan) (falls_in plan),
      left_face (scene_in plan) (drop (suc t) (phases_in plan)) 0,
      left_face (scene_in plan) (drop t (phases_in plan)) 0,
    ))
