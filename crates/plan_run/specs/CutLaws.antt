-- The phases of a refused run end with the vote of the refused step, and the OUTPUT arrays.
use Rattle.std.specs.Prelude.{◌≡◌, refl, ℕ, zero, suc, ◌+◌, ◌<◌, ◌≤◌, ℤ, Bool, true, false, ◌&&◌, ◌==◌, if◌then◌else◌, List, [], ◌∷◌, ◌++◌}
use Rattle.std.specs.Prelude.{length, map, filter_map, flat_map, drop, is_some, slice_get, unwrap_or, Option, Some, None}
use Rattle.std.specs.List.{AllByRecursion}
use Rattle.std.specs.Option.{option_map}
use Rattle.std.proofs.Common.{ap, sym, ◌∙◌, subst, arith, append_assoc, append-nil}
use Rattle.std.proofs.lemmas.Bool.Decides.{nat_tests}
use Rattle.std.proofs.lemmas.Grind.{reverse_onto}
use Rattle.fd_words.specs.declared.place.Offence.{Offence}
use Rattle.fd_words.specs.Lists.{list_at}
use Rattle.fd_program.specs.Checks.{IsChecked}
use Rattle.fd_program.specs.Layouts.{Scene, scene_of, store_at}
use Rattle.fd_program.specs.ListLaws.{all_append, all_weaker}
use Rattle.fd_program.specs.Loops.{first_of, offence_of, offence_at, iterations_of}
use Rattle.fd_program.specs.Reports.{executed_of, completed_of}
use Rattle.fd_program.specs.RunLaws.{IsReached, IsHistory, reached_next, reached_start}
use Rattle.fd_program.specs.Runs.{Run, run_past, run_from, run_of, stores_of, refusal_of, after_step}
use Rattle.fd_program.specs.Trace.{trace_of, site_at, no_site, is_empty_turn}
use Rattle.fd_program.specs.Uses.{uses_of}
use Rattle.fd_program.specs.declared.array.ArrayFacts.{ArrayFacts}
use Rattle.fd_program.specs.declared.checked.Checked.{Checked}
use Rattle.fd_program.specs.declared.loop_facts.HomeRule.{HomeRule}
use Rattle.fd_program.specs.declared.refused.Refused.{Refused}
use Rattle.fd_program.specs.declared.site.Site.{Site}
use Rattle.fd_program.specs.declared.trace.LoopTurn.{LoopTurn}
use Rattle.fd_program.specs.declared.trace.Step.{Step}
use Rattle.fd_program.specs.declared.trace.Step.TheVariants.{Distribute, Print, Forall}
use Rattle.plan_loop.specs.declared.loop_phase.LoopPhase.TheVariants as phase
use Rattle.plan_run.specs.Phases.{Phase, is_vote, is_vote_of, cut_at, cut_phases, stages_of, phases_before, phases_from}
use Rattle.plan_run.specs.Phases.{phases_of, output_phases}
use Rattle.plan_run.specs.RefusalLaws.{AreCompleted, refused_inspects}
use Rattle.plan_run.specs.VoteLaws.{HasVote, inspecting_votes, stages_to_vote}
use Rattle.plan_run.specs.declared.stage.Stage.{Stage}
use Rattle.plan_run.specs.declared.stage.Stage.TheVariants as stage
use Rattle.plan_run.specs.OwnerLaws.{equals_itself}

-- ---- statements

-- Behind the first vote of the refused step, which is the one after the completed steps, stand the OUTPUT arrays alone.
pub record EndsAtVote (c : Checked) (run : Run) (phases : List Phase) : Type 0 where
  pub earlier : List Phase
  pub vote : Phase
  pub all : phases ≡ earlier ++ vote ∷ output_phases (length (trace_of c)) (completed_of run) 0 c.outputs
  pub none_before : AllByRecursion (λ f. is_vote_of (length (completed_of run)) f ≡ false) earlier
  pub steps_before : vote.past ≡ completed_of run
  pub refused_step : executed_of run ≡ vote.step ∷ completed_of run
  pub is_a_vote : vote.stage ≡ stage.InLoop phase.Vote

abbrev pub RefusedEndsAtVote : Type 0
RefusedEndsAtVote =
    (c : Checked) (nodes : ℕ) (rule : HomeRule) (store : List (List ℤ)) (r : Refused) → IsChecked c → (run_of c store).refused ≡ Some r
    → EndsAtVote c (run_of c store) (phases_of c nodes rule (run_of c store))

-- the completed steps of a run weren't refused
abbrev pub RunIsCompleted : Type 0
RunIsCompleted = (c : Checked) (nodes : ℕ) (rule : HomeRule) (store : List (List ℤ)) (r : Refused) → (run_of c store).refused ≡ Some r
    → AreCompleted (scene_of c nodes rule (run_of c store)) (completed_of (run_of c store))

-- ---- a FORALL that isn't there has no offence

no_uses : (arrays : List ArrayFacts) (turn : LoopTurn) (store : List (List ℤ)) (is : List ℤ)
    → flat_map (uses_of arrays no_site turn store) is ≡ []
no_uses arrays turn store [] = refl
no_uses arrays turn store (i ∷ is) = no_uses arrays turn store is

no_offence : (arrays : List ArrayFacts) (turn : LoopTurn) (store : List (List ℤ)) → offence_of arrays no_site turn store ≡ None
no_offence arrays turn store = ap (λ us. first_of (filter_map (offence_at arrays) us)) (no_uses arrays turn store (iterations_of turn))

abbrev refusal_with : ℕ → Bool → Option Offence → Option Refused
refusal_with site empty o = option_map (λ (o : Offence). let r : Refused = record { site = site; offence = o } in r)
    (if empty then None else o)

not_none : (site : ℕ) (b : Bool) (o : Option Offence) (r : Refused) → o ≡ None → refusal_with site b o ≡ Some r → ⊥
not_none site true o r e h = cc
not_none site false None r e h = cc
not_none site false (Some x) r e h = cc

pub site_there : (c : Checked) (site : ℕ) (turn : LoopTurn) (store : List (List ℤ)) (r : Refused) → refusal_of c (Forall site turn) store
    ≡ Some r → site < length c.sites
site_there c site turn store r h = by (slice_get c.sites site) refl
  where
    within : {A : Type 0} (xs : List A) (k : ℕ) (x : A) → slice_get xs k ≡ Some x → k < length xs
    within [] k x e = cc
    within (y ∷ ys) zero x e = omega arith
    within (y ∷ ys) (suc k) x e = omega (arith, within ys k x e)

    by : (o : Option Site) → slice_get c.sites site ≡ o → site < length c.sites
    by None e =
        absurd (not_none site (is_empty_turn turn) (offence_of c.arrays (site_at c.sites site) turn store) r
        (ap (λ (o : Option Site). offence_of c.arrays (unwrap_or o no_site) turn store) e ∙ no_offence c.arrays turn store) h)
    by (Some x) e = within c.sites site x e

-- ---- the phases of a step

-- those of these stages stand before the later ones
record StandsBefore (later : List Phase) (n : ℕ) (phases : List Phase) : Type 0 where
  mine : List Phase
  all : phases ≡ mine ++ later
  named : AllByRecursion (λ (f : Phase). f.execution ≡ n) mine

before_later : (later : List Phase) (past : List Step) (step : Step) (n : ℕ) (stages : List Stage)
    → StandsBefore later n (phases_before later past step n stages)
before_later later past step n [] = record { mine = []; all = refl; named = tt }
before_later later past step n (a ∷ stages) =
    let rest = before_later later past step n stages in
    let f : Phase = record {
      past = past;
      step = step;
      stage = a;
      execution = n;
      left = length (phases_before later past step n stages)
          + 1;
    } in
    record { mine = f ∷ rest.mine; all = ap (λ l. f ∷ l) rest.all; named = (refl, rest.named) }

-- ---- cutting

cut_behind : (k : ℕ) (outs xs ys : List Phase) → AllByRecursion (λ f. is_vote_of k f ≡ false) xs → cut_at k outs (xs ++ ys) ≡ xs
    ++ cut_at k outs ys
cut_behind k outs [] ys h = refl
cut_behind k outs (x ∷ xs) ys h =
    ap (λ b. x ∷ (if b then outs else cut_at k outs (xs ++ ys))) h.0 ∙ ap (λ l. x ∷ l) (cut_behind k outs xs ys h.1)

record IsCut (k : ℕ) (past : List Step) (step : Step) (a : Stage) (outs phases : List Phase) : Type 0 where
  mine : List Phase
  left : ℕ
  all : phases ≡ mine ++ record { past = past; step = step; stage = a; execution = k; left = left } ∷ outs
  none : AllByRecursion (λ f. is_vote_of k f ≡ false) mine

cut_stages : (k : ℕ) (outs later : List Phase) (past : List Step) (step : Step) (us vs : List Stage) (a : Stage)
    → AllByRecursion (λ u. is_vote u ≡ false) us → is_vote a ≡ true
    → IsCut k past step a outs (cut_at k outs (phases_before later past step k (us ++ a ∷ vs)))
cut_stages k outs later past step [] vs a h e =
    let rest = phases_before later past step k vs in
    let f : Phase = record { past = past; step = step; stage = a; execution = k; left = length rest + 1 } in
    let is : is_vote_of k f ≡ true = ap (λ b. b && is_vote a) (equals_itself k) ∙ e in
    record { mine = []; left = length rest + 1; all = ap (λ b. f ∷ (if b then outs else cut_at k outs rest)) is; none = tt }
cut_stages k outs later past step (u ∷ us) vs a h e =
    let rest = phases_before later past step k (us ++ a ∷ vs) in
    let f : Phase = record { past = past; step = step; stage = u; execution = k; left = length rest + 1 } in
    let not_it : is_vote_of k f ≡ false = ap (λ b. b && is_vote u) (equals_itself k) ∙ h.0 in
    let more = cut_stages k outs later past step us vs a h.1 e in
    record {
      mine = f ∷ more.mine;
      left = more.left;
      all = ap (λ b. f ∷ (if b then outs else cut_at k outs rest)) not_it ∙ ap (λ l. f ∷ l) more.all;
      none = (not_it, more.none);
    }

refused_votes : (s : Scene) (past : List Step) (step : Step) (r : Refused) → IsChecked s.checked → IsHistory s past → AreCompleted s past
    → refusal_of s.checked step (store_at s past) ≡ Some r
    → HasVote (stages_to_vote s.checked s.nodes s.rule past step) (stages_of s.checked s.nodes s.rule past step)
refused_votes s past (Distribute d form) r known history completed h = cc
refused_votes s past (Print array) r known history completed h = cc
refused_votes s past (Forall site turn) r known history completed h =
    inspecting_votes s.checked s.nodes s.rule past (Forall site turn)
    (refused_inspects s past site turn r known (site_there s.checked site turn (store_at s past) r h) history completed h)

-- ---- the refused step

record Finds (s : Scene) (r : Refused) (past : List Step) (phases : List Phase) (executed : List Step) : Type 0 where
  earlier : List Phase
  later : List Phase
  here : List Step
  step : Step
  all : phases ≡ earlier ++ phases_before later here step (length here) (stages_of s.checked s.nodes s.rule here step)
  below_here : AllByRecursion (λ (f : Phase). f.execution < length here) earlier
  grown : length past ≤ length here
  history : IsHistory s here
  completed : AreCompleted s here
  refusal : refusal_of s.checked step (store_at s here) ≡ Some r
  steps : executed ≡ step ∷ here

finds : (s : Scene) (r : Refused) (past rest : List Step) → IsReached s past rest → IsHistory s past → AreCompleted s past
    → (run_from s.checked rest (store_at s past)).refused ≡ Some r
    → Finds s r past (phases_from s.checked s.nodes s.rule past rest) (executed_of (run_from s.checked rest (store_at s past)) ++ past)
finds s r past [] at history completed e = cc
finds s r past (step ∷ rest) at history completed e =
    by (refusal_of s.checked step (store_at s past)) refl e (finds s r (step ∷ past) rest)
  where
    c : Checked
    c = s.checked

    by : (o : Option Refused) → refusal_of s.checked step (store_at s past) ≡ o
        → (run_past step (store_at s past) o (run_from s.checked rest (after_step s.checked step (store_at s past)))).refused ≡ Some r
        → (IsReached s (step ∷ past) rest → IsHistory s (step ∷ past) → AreCompleted s (step ∷ past)
        → (run_from s.checked rest (store_at s (step ∷ past))).refused ≡ Some r
        → Finds s r (step ∷ past) (phases_from s.checked s.nodes s.rule (step ∷ past) rest)
        (executed_of (run_from s.checked rest (store_at s (step ∷ past))) ++ step ∷ past))
        → Finds s r past (phases_from s.checked s.nodes s.rule past (step ∷ rest))
        (executed_of (run_past step (store_at s past) o (run_from s.checked rest (after_step s.checked step (store_at s past)))) ++ past)
    by (Some q) f e onwards = record {
      earlier = [];
      later = phases_from s.checked s.nodes s.rule (step ∷ past) rest;
      here = past;
      step = step;
      all = refl;
      below_here = tt;
      grown = omega arith;
      history = history;
      completed = completed;
      refusal = f ∙ e;
      steps = refl;
    }
    by None f e onwards =
        let next = reached_next s past step rest at f in
        let run = run_from s.checked rest (after_step s.checked step (store_at s past)) in
        let found = onwards next.1 (next.0, history) (f, completed) (ap (λ store. (run_from s.checked rest store).refused) next.0 ∙ e) in
        let mine = before_later (phases_from s.checked s.nodes s.rule (step ∷ past) rest) past step (length past)
        (stages_of s.checked s.nodes s.rule past step) in
        let there = phases_before found.later found.here found.step (length found.here)
        (stages_of s.checked s.nodes s.rule found.here found.step) in
        record {
          earlier = mine.mine ++ found.earlier;
          later = found.later;
          here = found.here;
          step = found.step;
          all = mine.all ∙ ap (λ l. mine.mine ++ l) found.all ∙ sym (append_assoc mine.mine found.earlier there);
          below_here = all_append (λ (g : Phase). g.execution < length found.here) mine.mine found.earlier
              (all_weaker (λ (g : Phase). g.execution ≡ length past) (λ (g : Phase). g.execution < length found.here)
              (λ g same. omega (arith, same, found.grown)) mine.mine mine.named)
              found.below_here;
          grown = omega (arith, found.grown);
          history = found.history;
          completed = found.completed;
          refusal = found.refusal;
          steps = ap (λ l. l ++ past) (reverse_onto (map (λ (x : Step × List (List ℤ)). x.0) run.executed) step [])
              ∙ append_assoc (executed_of run) (step ∷ []) past
              ∙ ap (λ store. executed_of (run_from s.checked rest store) ++ step ∷ past) (sym next.0) ∙ found.steps;
        }

pub first_store : (c : Checked) (steps : List Step) (store : List (List ℤ)) → list_at (stores_of (run_from c steps store)) 0 ≡ store
first_store c [] store = refl
first_store c (step ∷ steps) store = by (refusal_of c step store)
  where
    by : (o : Option Refused) → list_at (stores_of (run_past step store o (run_from c steps (after_step c step store)))) 0 ≡ store
    by None = refl
    by (Some r) = refl

begins_with : (c : Checked) (nodes : ℕ) (rule : HomeRule) (store : List (List ℤ)) → store_at (scene_of c nodes rule (run_of c store)) []
    ≡ store
begins_with c nodes rule store = first_store c (trace_of c) store

found_in_run : (c : Checked) (nodes : ℕ) (rule : HomeRule) (store : List (List ℤ)) (r : Refused) → (run_of c store).refused ≡ Some r
    → Finds (scene_of c nodes rule (run_of c store)) r [] (phases_from c nodes rule [] (trace_of c)) (executed_of (run_of c store))
found_in_run c nodes rule store r e =
    let s = scene_of c nodes rule (run_of c store) in
    subst (λ steps. Finds s r [] (phases_from c nodes rule [] (trace_of c)) steps) (append-nil (executed_of (run_of c store)))
    (subst (λ begin. Finds s r [] (phases_from c nodes rule [] (trace_of c)) (executed_of (run_from c (trace_of c) begin) ++ []))
    (begins_with c nodes rule store)
    (finds s r [] (trace_of c) (reached_start c nodes rule store) tt tt
    (ap (λ begin. (run_from c (trace_of c) begin).refused) (begins_with c nodes rule store) ∙ e)))

-- ---- the laws

completed_here : (c : Checked) (nodes : ℕ) (rule : HomeRule) (store : List (List ℤ)) (r : Refused) (e : (run_of c store).refused ≡ Some r)
    → completed_of (run_of c store) ≡ (found_in_run c nodes rule store r e).here
completed_here c nodes rule store r e =
    ap (λ (o : Option Refused). drop (if is_some o then 1 else 0) (executed_of (run_of c store))) e
    ∙ ap (drop 1) (found_in_run c nodes rule store r e).steps

pub run_is_completed : RunIsCompleted
run_is_completed c nodes rule store r e =
    subst (AreCompleted (scene_of c nodes rule (run_of c store))) (sym (completed_here c nodes rule store r e))
    (found_in_run c nodes rule store r e).completed

lower_is_unequal : (n k : ℕ) → n < k → (n == k) ≡ false
lower_is_unequal n k h = grind (arith, nat_tests)

pub refused_ends_at_vote : RefusedEndsAtVote
refused_ends_at_vote c nodes rule store r known e =
    let s = scene_of c nodes rule (run_of c store) in
    let run = run_of c store in
    let found = found_in_run c nodes rule store r e in
    let k = length found.here in
    let completed = completed_here c nodes rule store r e in
    let has = refused_votes s found.here found.step r known found.history found.completed found.refusal in
    let outs = output_phases (length (trace_of c)) found.here 0 c.outputs in
    let cut = cut_stages k outs found.later found.here found.step has.first has.behind (stage.InLoop phase.Vote) has.none refl in
    let vote : Phase = record { past = found.here; step = found.step; stage = stage.InLoop phase.Vote; execution = k; left = cut.left } in
    let none : AllByRecursion (λ f. is_vote_of k f ≡ false) found.earlier =
    all_weaker (λ (f : Phase). f.execution < k) (λ f. is_vote_of k f ≡ false) (λ f less. ap (λ b. b && is_vote f.stage)
    (lower_is_unequal f.execution k less)) found.earlier found.below_here in
    record {
      earlier = found.earlier ++ cut.mine;
      vote = vote;
      all = ap (λ (o : Option Refused). cut_phases c (phases_from c nodes rule [] (trace_of c)) (completed_of run) (is_some o)) e
          ∙ ap (λ past. cut_at (length past) (output_phases (length (trace_of c)) past 0 c.outputs)
          (phases_from c nodes rule [] (trace_of c))) completed
          ∙ ap (cut_at k outs) found.all
          ∙ cut_behind k outs found.earlier (phases_before found.later found.here found.step k
          (stages_of c nodes rule found.here found.step)) none
          ∙ ap (λ stages. found.earlier ++ cut_at k outs (phases_before found.later found.here found.step k stages)) has.all
          ∙ ap (λ l. found.earlier ++ l) cut.all
          ∙ sym (append_assoc found.earlier cut.mine (vote ∷ outs))
          ∙ ap (λ past. (found.earlier ++ cut.mine) ++ vote ∷ output_phases (length (trace_of c)) past 0 c.outputs) (sym completed);
      none_before = subst (λ past. AllByRecursion (λ f. is_vote_of (length past) f ≡ false) (found.earlier ++ cut.mine)) (sym completed)
          (all_append (λ f. is_vote_of k f ≡ false) found.earlier cut.mine none cut.none);
      steps_before = sym completed;
      refused_step = found.steps ∙ ap (λ past. found.step ∷ past) (sym completed);
      is_a_vote = refl;
    }
