-- From one stage of a move to the next.
use Rattle.std.specs.Prelude.{◌≡◌, refl, ℕ, zero, suc, ◌<◌, pos, Bool, true, false, List, ◌∷◌, map, length, replicate, Option, None}
use Rattle.std.specs.Prelude.{MatchBool}
use Rattle.std.proofs.Common.{ap, sym, ◌∙◌, subst, arith}
use Rattle.chaos_dist.specs.Counting.{below}
use Rattle.chaos_dist.specs.declared.step_form.StepForm.{StepForm}
use Rattle.fd_program.specs.Layouts.{Scene}
use Rattle.fd_program.specs.Past.{inspecting_of}
use Rattle.fd_program.specs.Runs.{Run}
use Rattle.fd_program.specs.declared.refused.Refused.{Refused}
use Rattle.fd_program.specs.declared.trace.Step.{Step}
use Rattle.fd_program.specs.declared.trace.Step.TheVariants.{Distribute}
use Rattle.plan_run.specs.Held.{Held, KeepsInStep, KeepsLoop, inspected_at, is_executing, is_inspecting, is_stopped, lines_of, refused_at}
use Rattle.plan_run.specs.Held.{text_at, text_on}
use Rattle.plan_run.specs.Phases.{is_free, is_vote, numbers_at}
use Rattle.plan_run.specs.Rows.{RunPlan, scene_in}
use Rattle.fd_program.specs.AmongLaws.{zip_weaker}
use Rattle.plan_run.specs.declared.kept.Kept.{Kept}
use Rattle.plan_run.specs.declared.stage.Stage.{Stage}
use Rattle.plan_run.specs.declared.stage.Stage.TheVariants as stage
use Rattle.chaos_moving.specs.Stages.{left_in as stages_left}
use Rattle.chaos_moving.specs.declared.moving.MovingStage.{MovingStage}
use Rattle.chaos_moving.specs.declared.moving.MovingStage.TheVariants.{Pairing, Counting, Asking, Answering, Remapping, Moved}
use Rattle.plan_walk.specs.LetterLaws.{is_for_all, move_answers_are_known, page_counts_are_known}
use Rattle.plan_walk.specs.Letters.{number_in}
use Rattle.chaos_entering.specs.Coming.{KnowsLengths}
use Rattle.chaos_entering.specs.Standing.{KnowsInStep}
use Rattle.chaos_node.proofs.InspectionSteps.{number_at}

-- ---- the stages of a move

-- a stage before the execution of a step of the trace, in which all send to all
pub record IsPlainStage (stage : Stage) : Type 0 where
  pub executing : is_executing stage ≡ false
  pub votes : is_vote stage ≡ false
  pub all : is_for_all stage ≡ true
  pub refused : (run : Run) → refused_at run stage ≡ None
  pub text : (s : Scene) (run : Run) (past : List Step) → text_at s run past stage ≡ lines_of s past
  pub inspected : (s : Scene) (run : Run) (past : List Step) (step : Step) → inspected_at s run past step stage
      ≡ map pos (inspecting_of s.checked (step ∷ past))

map_pairs_is_plain : (array : ℕ) → IsPlainStage (stage.MapPairs array)
map_pairs_is_plain array =
    record {
      executing = refl;
      votes = refl;
      all = refl;
      refused = λ run. refl;
      text = λ s run past. refl;
      inspected = λ s run past step. refl;
    }

page_counts_is_plain : IsPlainStage stage.PageCounts
page_counts_is_plain =
    record {
      executing = refl;
      votes = refl;
      all = refl;
      refused = λ run. refl;
      text = λ s run past. refl;
      inspected = λ s run past step. refl;
    }

ask_is_plain : IsPlainStage stage.MovingAsk
ask_is_plain =
    record {
      executing = refl;
      votes = refl;
      all = refl;
      refused = λ run. refl;
      text = λ s run past. refl;
      inspected = λ s run past step. refl;
    }

answer_is_plain : IsPlainStage stage.MovingAnswer
answer_is_plain =
    record {
      executing = refl;
      votes = refl;
      all = refl;
      refused = λ run. refl;
      text = λ s run past. refl;
      inspected = λ s run past step. refl;
    }

remap_is_plain : IsPlainStage stage.Remap
remap_is_plain =
    record {
      executing = refl;
      votes = refl;
      all = refl;
      refused = λ run. refl;
      text = λ s run past. refl;
      inspected = λ s run past step. refl;
    }

first_of : (a b : Stage) (xs ys : List Stage) → a ∷ xs ≡ b ∷ ys → a ≡ b
first_of a b xs ys e = cc

second_of : (a b c d : Stage) (xs ys : List Stage) → a ∷ b ∷ xs ≡ c ∷ d ∷ ys → b ≡ d
second_of a b c d xs ys e = cc

pub moving_is_plain : (m : MovingStage) (now : Stage) (more : List Stage) → stages_left m ≡ now ∷ more → IsPlainStage now
moving_is_plain (Pairing array pairs) now more e = subst IsPlainStage (first_of (stage.MapPairs array) now _ more e)
    (map_pairs_is_plain array)
moving_is_plain (Counting pairs) now more e = subst IsPlainStage (first_of stage.PageCounts now _ more e) page_counts_is_plain
moving_is_plain Asking now more e = subst IsPlainStage (first_of stage.MovingAsk now _ more e) ask_is_plain
moving_is_plain (Answering asked) now more e = subst IsPlainStage (first_of stage.MovingAnswer now _ more e) answer_is_plain
moving_is_plain (Remapping places) now more e = subst IsPlainStage (first_of stage.Remap now _ more e) remap_is_plain
moving_is_plain (Moved part) now more e = cc

-- ---- what is known

-- from one plain stage of a step to another only the list for itself and what is in hand are new
pub knows_goes_on : (s : Scene) (run : Run) (past : List Step) (step : Step) (a b : Stage) (p : ℕ) (v : Held) → IsPlainStage a
    → IsPlainStage b → KnowsInStep s run past step a p v → KnowsInStep s run past step b p v
knows_goes_on s run past step a b p v one other h = record {
  stands = h.stands;
  keeps = zip_weaker (KeepsInStep s run past step a p v.tables) (KeepsInStep s run past step b p v.tables) next
      (below (length s.checked.sites)) v.kept h.keeps;
  inspected = h.inspected ∙ one.inspected s run past step ∙ sym (other.inspected s run past step);
  text = h.text ∙ ap (text_on p) (one.text s run past ∙ sym (other.text s run past));
  refused = h.refused ∙ one.refused run ∙ sym (other.refused run);
  sized = h.sized;
}
  where
    keeps : Option Refused → Bool → ℕ → Option Kept → Type 0
    keeps r e k x =
        MatchBool (is_stopped r k) (x ≡ None)
        (MatchBool (is_inspecting s.checked past step k) (MatchBool e (KeepsLoop s (step ∷ past) k p v.tables x) (x ≡ None))
        (KeepsLoop s past k p v.tables x))

    next : (k : ℕ) (x : Option Kept) → KeepsInStep s run past step a p v.tables k x → KeepsInStep s run past step b p v.tables k x
    next k x h =
        subst (λ r. keeps r (is_executing b) k x) (one.refused run ∙ sym (other.refused run))
        (subst (λ e. keeps (refused_at run a) e k x) (one.executing ∙ sym other.executing) h)

-- behind a plain stage of a DISTRIBUTE each FORALL keeps what it kept before the step
pub keeps_in_move : (s : Scene) (run : Run) (past : List Step) (d : ℕ) (form : StepForm) (a : Stage) (p k : ℕ) (v : Held)
    (x : Option Kept) → IsPlainStage a
    → KeepsInStep s run past (Distribute d form) a p v.tables k x → KeepsLoop s past k p v.tables x
keeps_in_move s run past d form a p k v x one h =
    subst (λ r. MatchBool (is_stopped r k) (x ≡ None) (KeepsLoop s past k p v.tables x)) (one.refused run) h

-- ---- lengths

abbrev Lengths : RunPlan → List Step → ℕ → StepForm → ℕ → List ℕ → Stage → Type 0
Lengths plan past d form p sizes now = KnowsLengths plan past (Distribute d form) now p sizes

free_lengths : (plan : RunPlan) (past : List Step) (d : ℕ) (form : StepForm) (p : ℕ) (sizes : List ℕ) (now : Stage) → is_free now ≡ true
    → Lengths plan past d form p sizes now
free_lengths plan past d form p sizes now free known q less = absurd (both (is_free now) free known)
  where
    both : (b : Bool) → b ≡ true → b ≡ false → ⊥
    both true s t = cc
    both false s t = cc

same_number_in : (n k q : ℕ) → q < k → number_in (replicate k n) q ≡ n
same_number_in n zero q less = absurd (omega (arith, less))
same_number_in n (suc k) zero less = refl
same_number_in n (suc k) (suc q) less = same_number_in n k q (omega (arith, less))

counts_known : (plan : RunPlan) (past : List Step) (d : ℕ) (form : StepForm) (p : ℕ) (sizes : List ℕ)
    → Lengths plan past d form p sizes stage.PageCounts
counts_known plan past d form p sizes known q less =
    same_number_in plan.nodes plan.nodes q less ∙ sym (page_counts_are_known (scene_in plan) past d form p q)

answers_known : (plan : RunPlan) (past : List Step) (d : ℕ) (form : StepForm) (p : ℕ) (sizes : List ℕ)
    → sizes ≡ map (λ q. length (numbers_at (scene_in plan) past (Distribute d form) stage.MovingAsk p q)) (below plan.nodes)
    → Lengths plan past d form p sizes stage.MovingAnswer
answers_known plan past d form p sizes e known q less =
    ap (λ l. number_in l q) e ∙ number_at (λ q. length (numbers_at (scene_in plan) past (Distribute d form) stage.MovingAsk p q))
    plan.nodes q less
    ∙ sym (move_answers_are_known (scene_in plan) past d form p q)

-- the lengths of the letters of the next stage, from those of the lists that were sent
pub move_lengths : (plan : RunPlan) (past : List Step) (d : ℕ) (form : StepForm) (p : ℕ) (sizes : List ℕ) (before : MovingStage)
    (last now : Stage) (more : List Stage)
    → stages_left before ≡ last ∷ now ∷ more → sizes ≡ map (λ q. length (numbers_at (scene_in plan) past (Distribute d form) last p q))
    (below plan.nodes)
    → KnowsLengths plan past (Distribute d form) now p sizes
move_lengths plan past d form p sizes (Pairing array pairs) last now more e h =
    subst (Lengths plan past d form p sizes) (second_of (stage.MapPairs array) stage.PageCounts last now _ more e)
    (counts_known plan past d form p sizes)
move_lengths plan past d form p sizes (Counting pairs) last now more e h =
    subst (Lengths plan past d form p sizes) (second_of stage.PageCounts stage.MovingAsk last now _ more e)
    (free_lengths plan past d form p sizes stage.MovingAsk refl)
move_lengths plan past d form p sizes Asking last now more e h =
    subst (Lengths plan past d form p sizes) (second_of stage.MovingAsk stage.MovingAnswer last now _ more e)
    (answers_known plan past d form p sizes
    (subst (λ (x : Stage). sizes ≡ map (λ q. length (numbers_at (scene_in plan) past (Distribute d form) x p q)) (below plan.nodes))
    (sym (first_of stage.MovingAsk last _ (now ∷ more) e)) h))
move_lengths plan past d form p sizes (Answering asked) last now more e h =
    subst (Lengths plan past d form p sizes) (second_of stage.MovingAnswer stage.Remap last now _ more e)
    (free_lengths plan past d form p sizes stage.Remap refl)
move_lengths plan past d form p sizes (Remapping places) last now more e h = cc
move_lengths plan past d form p sizes (Moved part) last now more e h = cc
