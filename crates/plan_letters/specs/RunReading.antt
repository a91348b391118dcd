-- What is read from the phases of a run: the completed steps, then the refused one if there is one, then the OUTPUT arrays. And what is
-- read
-- from the letters that are due from one node to another.
use Rattle.std.specs.Prelude.{◌≡◌, ◌≢◌, refl, ℕ, ◌+◌, ℤ, Bool, true, false, not, ◌==◌, ◌⊎◌, if◌then◌else◌, List, [], ◌∷◌, ◌++◌, length, map}
use Rattle.std.specs.Prelude.{drop, reverse, flat_map, filter_map, is_some, Option, Some, None}
use Rattle.std.specs.List.{AllByRecursion, cons_option}
use Rattle.std.proofs.Common.{ap, sym, ◌∙◌, subst, append_assoc, append-nil, inl, inr, ne_eqb}
use Rattle.std.proofs.lemmas.Grind.{reverse_onto}
use Rattle.chaos_letter.specs.declared.kind.Kind.TheVariants as kind
use Rattle.chaos_letter.specs.declared.letter.Letter.{Letter}
use Rattle.fd_program.specs.Checks.{IsChecked}
use Rattle.fd_program.specs.Layouts.{Scene, scene_of}
use Rattle.fd_program.specs.Past.{inspects_step}
use Rattle.fd_program.specs.Reports.{executed_of, completed_of}
use Rattle.fd_program.specs.Runs.{Run, run_past, run_from, run_of, refusal_of, after_step}
use Rattle.fd_program.specs.Trace.{trace_of}
use Rattle.fd_program.specs.declared.array.OutputName.{OutputName}
use Rattle.fd_program.specs.declared.checked.Checked.{Checked}
use Rattle.fd_program.specs.declared.loop_facts.HomeRule.{HomeRule}
use Rattle.fd_program.specs.declared.refused.Refused.{Refused}
use Rattle.fd_program.specs.declared.trace.Step.{Step}
use Rattle.plan_run.specs.CutLaws.{refused_ends_at_vote}
use Rattle.plan_run.specs.Phases.{Phase, is_vote, cut_at, cut_phases, phases_from, phases_of, output_phases, kind_of, site_of, numbers_at}
use Rattle.plan_run.specs.Phases.{is_sent, letter_of, due, due_list}
use Rattle.plan_run.specs.declared.stage.Stage.{Stage}
use Rattle.plan_run.specs.declared.stage.Stage.TheVariants as stage
use Rattle.plan_letters.specs.PhaseReading.{Reading, at_phase, of_steps, of_refused, onto, read_from, read_cut, VotesInspect, votes_from}
use Rattle.plan_letters.specs.PhaseReading.{votes_cut, votes_in_outputs}
use Rattle.fd_program.specs.ListLaws.{all_split}

-- ---- the executed steps of a run

abbrev steps_in : Run → List Step
steps_in run = map (λ (s : Step × List (List ℤ)). s.0) run.executed

whole : (c : Checked) (steps : List Step) (store : List (List ℤ)) → (run_from c steps store).refused ≡ None
    → steps_in (run_from c steps store) ≡ steps
whole c [] store e = refl
whole c (step ∷ steps) store e = by (refusal_of c step store) e (whole c steps (after_step c step store))
  where
    rest : Run
    rest = run_from c steps (after_step c step store)

    by : (o : Option Refused) → (run_past step store o rest).refused ≡ None → (rest.refused ≡ None → steps_in rest ≡ steps)
        → steps_in (run_past step store o rest) ≡ step ∷ steps
    by None e more = ap (λ l. step ∷ l) (more e)
    by (Some r) e more = cc

-- the steps through the refused one
pub record Split (steps : List Step) (executed : List Step) : Type 0 where
  pub before : List Step
  pub step : Step
  pub rest : List Step
  pub all : steps ≡ before ++ step ∷ rest
  pub executed_all : executed ≡ before ++ step ∷ []

part : (c : Checked) (steps : List Step) (store : List (List ℤ)) (r : Refused) → (run_from c steps store).refused ≡ Some r
    → Split steps (steps_in (run_from c steps store))
part c [] store r e = cc
part c (step ∷ steps) store r e = by (refusal_of c step store) e (part c steps (after_step c step store) r)
  where
    rest : Run
    rest = run_from c steps (after_step c step store)

    by : (o : Option Refused) → (run_past step store o rest).refused ≡ Some r → (rest.refused ≡ Some r → Split steps (steps_in rest))
        → Split (step ∷ steps) (steps_in (run_past step store o rest))
    by None e more =
        let found = more e in
        record {
          before = step ∷ found.before;
          step = found.step;
          rest = found.rest;
          all = ap (λ l. step ∷ l) found.all;
          executed_all = ap (λ l. step ∷ l) found.executed_all;
        }
    by (Some q) e more = record { before = []; step = step; rest = steps; all = refl; executed_all = refl }

reverse_is : (xs ys : List Step) → reverse xs ++ ys ≡ onto xs ys
reverse_is [] ys = refl
reverse_is (x ∷ xs) ys =
    ap (λ l. l ++ ys) (reverse_onto xs x []) ∙ append_assoc (reverse xs) (x ∷ []) ys ∙ reverse_is xs (x ∷ ys)

reversed_onto : (xs : List Step) → reverse xs ≡ onto xs []
reversed_onto xs = sym (append-nil (reverse xs)) ∙ reverse_is xs []

onto_last : (xs : List Step) (x : Step) (ys : List Step) → onto (xs ++ x ∷ []) ys ≡ x ∷ onto xs ys
onto_last [] x ys = refl
onto_last (z ∷ xs) x ys = onto_last xs x (z ∷ ys)

-- ---- the phases of a run

-- what is read last
abbrev pub EndsIn : (X : Type 0) → Checked → ℕ → HomeRule → Reading X → List Step → List Step → List X → Type 0
EndsIn X c nodes rule h executed done last =
    ((executed ≡ done) × (last ≡ []))
    ⊎ ((step : Step) × (executed ≡ step ∷ done) × (inspects_step c done step ≡ true) × (last ≡ of_refused c nodes rule h done step))

-- what is read from these phases: first that of the completed steps, then `last`, that of the refused step if there is one, then that of
-- OUTPUT arrays
pub record IsReadIn (X : Type 0) (c : Checked) (nodes : ℕ) (rule : HomeRule) (h : Reading X) (executed : List Step) (phases : List Phase)
    (done : List Step) : Type 0 where
  pub last : List X
  pub steps : ℕ
  pub past : List Step
  pub all : flat_map (at_phase h) phases ≡ of_steps c nodes rule h done
      ++ (last ++ flat_map (at_phase h) (output_phases steps past 0 c.outputs))
  pub ends : EndsIn X c nodes rule h executed done last

votes_in_run : (c : Checked) (phases : List Phase) (past : List Step) (b : Bool) → VotesInspect c phases
    → VotesInspect c (cut_phases c phases past b)
votes_in_run c phases past false h = h
votes_in_run c phases past true h = votes_cut c (length past) _ phases (votes_in_outputs c (length (trace_of c)) past 0 c.outputs) h

same_first : (x y : Step) (xs ys : List Step) → x ∷ xs ≡ y ∷ ys → x ≡ y
same_first x y xs ys e = cc

pub run_is_read : (X : Type 0) (c : Checked) (nodes : ℕ) (rule : HomeRule) (store : List (List ℤ)) (h : Reading X) → IsChecked c
    → IsReadIn X c nodes rule h (executed_of (run_of c store)) (phases_of c nodes rule (run_of c store)) (completed_of (run_of c store))
run_is_read X c nodes rule store h known = by (run_of c store).refused refl
  where
    by : (o : Option Refused) → (run_of c store).refused ≡ o
        → IsReadIn X c nodes rule h (executed_of (run_of c store)) (phases_of c nodes rule (run_of c store)) (completed_of (run_of c store))
    by None e =
        let same : executed_of (run_of c store) ≡ onto (trace_of c) [] = ap reverse (whole c (trace_of c) store e)
        ∙ reversed_onto (trace_of c) in
        let done : completed_of (run_of c store) ≡ executed_of (run_of c store)
        = ap (λ (o : Option Refused). drop (if is_some o then 1 else 0) (executed_of (run_of c store))) e in
        subst (IsReadIn X c nodes rule h (executed_of (run_of c store)) (phases_of c nodes rule (run_of c store))) (sym (done ∙ same))
        (record {
          last = [];
          steps = length (onto (trace_of c) []);
          past = onto (trace_of c) [];
          all = ap (λ (o : Option Refused). flat_map (at_phase h) (cut_phases c (phases_from c nodes rule [] (trace_of c))
              (completed_of (run_of c store)) (is_some o))) e
              ∙ read_from c nodes rule h [] (trace_of c);
          ends = inl (same, refl);
        })
    by (Some r) e =
        let split = part c (trace_of c) store r e in
        let here = onto split.before [] in
        let executed : executed_of (run_of c store) ≡ split.step ∷ here
        = ap reverse split.executed_all ∙ reversed_onto (split.before ++ split.step ∷ []) ∙ onto_last split.before split.step [] in
        let done : completed_of (run_of c store) ≡ here
        = ap (λ (o : Option Refused). drop (if is_some o then 1 else 0) (executed_of (run_of c store))) e ∙ ap (drop 1) executed in
        let vote = refused_ends_at_vote c nodes rule store r known e in
        let votes = votes_in_run c (phases_from c nodes rule [] (trace_of c)) (completed_of (run_of c store))
        (is_some (run_of c store).refused) (votes_from c nodes rule [] (trace_of c)) in
        let behind = all_split (λ (f : Phase). is_vote f.stage ≡ true → inspects_step c f.past f.step ≡ true) vote.earlier _
        (subst (VotesInspect c) vote.all votes) in
        let inspects : inspects_step c vote.vote.past vote.vote.step ≡ true = behind.1.0 (ap is_vote vote.is_a_vote) in
        let same : vote.vote.step ≡ split.step = same_first _ _ _ _ (sym vote.refused_step ∙ executed) in
        let inspects_here : inspects_step c here split.step ≡ true
        = ap (λ past. inspects_step c past split.step) (sym (vote.steps_before ∙ done)) ∙ ap (inspects_step c vote.vote.past) (sym same)
        ∙ inspects in
        let outs = output_phases (length (trace_of c)) here 0 c.outputs in
        subst (IsReadIn X c nodes rule h (executed_of (run_of c store)) (phases_of c nodes rule (run_of c store))) (sym done)
        (record {
          last = of_refused c nodes rule h here split.step;
          steps = length (trace_of c);
          past = here;
          all = ap (λ (o : Option Refused). flat_map (at_phase h) (cut_phases c (phases_from c nodes rule [] (trace_of c))
              (completed_of (run_of c store)) (is_some o))) e
              ∙ ap (λ past. flat_map (at_phase h) (cut_at (length past) (output_phases (length (trace_of c)) past 0 c.outputs)
              (phases_from c nodes rule [] (trace_of c)))) done
              ∙ ap (λ steps. flat_map (at_phase h) (cut_at (length here) outs (phases_from c nodes rule [] steps))) split.all
              ∙ read_cut c nodes rule h outs [] split.before split.step split.rest inspects_here;
          ends = inr (split.step, executed, inspects_here, refl);
        })

-- ---- letters

-- what is read from the letters from p to q
abbrev pub read_letter : {X : Type 0} → Scene → ℕ → ℕ → (Letter → List X) → Reading X
read_letter s p q g past step n stage =
    g (record { kind = kind_of stage; execution = n; site = site_of step; numbers = numbers_at s past step stage p q })

-- nothing is read from the letters of a PRINT or an OUTPUT array
abbrev pub IsQuiet : {X : Type 0} → (Letter → List X) → Type 0
IsQuiet g = (letter : Letter) → letter.kind ≡ kind.Print → g letter ≡ []

all_sent : (p q : ℕ) (stage : Stage) → (p == q) ≡ false → (is_sent stage p q ≡ true) ⊎ (kind_of stage ≡ kind.Print)
all_sent p q (stage.MapPairs array) e = inl (ap not e)
all_sent p q stage.PageCounts e = inl (ap not e)
all_sent p q stage.MovingAsk e = inl (ap not e)
all_sent p q stage.MovingAnswer e = inl (ap not e)
all_sent p q stage.Remap e = inl (ap not e)
all_sent p q stage.Print e = inr refl
all_sent p q (stage.Output j) e = inr refl
all_sent p q (stage.InLoop l) e = inl (ap not e)

read_first : {X : Type 0} (g : Letter → List X) (x : Letter) (xs : List Letter) (b : Bool) → IsQuiet g → (b ≡ true) ⊎ (x.kind ≡ kind.Print)
    → flat_map g (cons_option (if b then Some x else None) xs) ≡ g x ++ flat_map g xs
read_first g x xs true quiet h = refl
read_first g x xs false quiet (inl e) = cc
read_first g x xs false quiet (inr e) = ap (λ l. l ++ flat_map g xs) (sym (quiet x e))

read_due : {X : Type 0} (s : Scene) (p q : ℕ) (g : Letter → List X) (phases : List Phase) → (p == q) ≡ false → IsQuiet g
    → flat_map g (filter_map (due s p q) phases) ≡ flat_map (at_phase (read_letter s p q g)) phases
read_due s p q g [] e quiet = refl
read_due s p q g (f ∷ phases) e quiet =
    read_first g (letter_of s f p q) (filter_map (due s p q) phases) (is_sent f.stage p q) quiet (all_sent p q f.stage e)
    ∙ ap (λ l. g (letter_of s f p q) ++ l) (read_due s p q g phases e quiet)

quiet_outputs : {X : Type 0} (s : Scene) (p q : ℕ) (g : Letter → List X) (steps : ℕ) (past : List Step) (j : ℕ) (os : List OutputName)
    → IsQuiet g
    → flat_map (at_phase (read_letter s p q g)) (output_phases steps past j os) ≡ []
quiet_outputs s p q g steps past j [] quiet = refl
quiet_outputs s p q g steps past j (o ∷ os) quiet =
    ap (λ l. l ++ flat_map (at_phase (read_letter s p q g)) (output_phases steps past (j + 1) os)) (quiet _ refl)
    ∙ quiet_outputs s p q g steps past (j + 1) os quiet

-- what is read from the letters that are due
pub record IsTold (X : Type 0) (c : Checked) (nodes : ℕ) (rule : HomeRule) (h : Reading X) (executed done : List Step)
    (told : List X) : Type 0 where
  pub last : List X
  pub all : told ≡ of_steps c nodes rule h done ++ last
  pub ends : EndsIn X c nodes rule h executed done last

other_nodes : (p q : ℕ) → p ≢ q → (p == q) ≡ false
other_nodes p q h = ne_eqb p q h

pub due_is_told : (X : Type 0) (c : Checked) (nodes : ℕ) (rule : HomeRule) (store : List (List ℤ)) (p q : ℕ) (g : Letter → List X)
    → IsChecked c → p ≢ q → IsQuiet g
    → IsTold X c nodes rule (read_letter (scene_of c nodes rule (run_of c store)) p q g) (executed_of (run_of c store))
    (completed_of (run_of c store))
    (flat_map g (due_list c nodes rule store p q))
due_is_told X c nodes rule store p q g known apart quiet =
    let s = scene_of c nodes rule (run_of c store) in
    let h : Reading X = read_letter s p q g in
    let read = run_is_read X c nodes rule store h known in
    record {
      last = read.last;
      all = read_due s p q g (phases_of c nodes rule (run_of c store)) (other_nodes p q apart) quiet ∙ read.all
          ∙ ap (λ l. of_steps c nodes rule h (completed_of (run_of c store)) ++ (read.last ++ l))
          (quiet_outputs s p q g read.steps read.past 0 c.outputs quiet)
          ∙ ap (λ l. of_steps c nodes rule h (completed_of (run_of c store)) ++ l) (append-nil read.last);
      ends = read.ends;
    }
