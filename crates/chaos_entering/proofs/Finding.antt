-- The way to the next step with phases: over those without, what a node holds stays.
use Rattle.std.specs.Prelude.{◌≡◌, refl, ℕ, zero, suc, ◌+◌, ◌<◌, ◌≤◌, ℤ, pos, Bool, true, false, not, ◌&&◌, if◌then◌else◌, List, [], ◌∷◌}
use Rattle.std.specs.Prelude.{◌++◌, length, map, drop, get_or, reverse, Option, Some, None, MatchOption}
use Rattle.std.specs.List.{AllByRecursion, AllZip}
use Rattle.std.specs.Option.{option_map_or}
use Rattle.std.proofs.Common.{ap, sym, ◌∙◌, subst, arith, add-one, append-nil}
use Rattle.chaos_begin.proofs.Kept.{kept_are_latest}
use Rattle.chaos_begin.specs.Begins.{HasLatest, IsBegun, IsBetween, latest_kept}
use Rattle.chaos_begin.specs.declared.begun.Begun.{Begun}
use Rattle.chaos_begin.specs.declared.between.Between.{Between}
use Rattle.chaos_dist.specs.Counting.{below}
use Rattle.fd_program.specs.ListLaws.{all_split, all_reversed}
use Rattle.fd_program.specs.StepLaws.{steps_are_in, IsStepIn}
use Rattle.chaos_facts.specs.FactsLaws.{IsRun}
use Rattle.plan_walk.specs.Places.{StandsBetween, left_from, stages_in, whole_from}
use Rattle.plan_walk.specs.StepEnds.{HasSteps, quiet_steps_pass, run_starts, steps_are_known}
use Rattle.plan_run.specs.Held.{Held, KeepsLoop, lines_of, text_on}
use Rattle.plan_run.specs.KeptLaws.{quiet_keeps_loops}
use Rattle.plan_run.specs.OwnerLaws.{is_quiet}
use Rattle.plan_run.specs.Phases.{site_of, stages_of}
use Rattle.plan_run.specs.Rows.{IsRunPlan, RunPlan, scene_in}
use Rattle.plan_run.specs.StandLaws.{quiet_stands}
use Rattle.fd_program.specs.AmongLaws.{zip_weaker}
use Rattle.plan_run.specs.declared.kept.Kept.{Kept}
use Rattle.fd_program.specs.Layouts.{Scene, store_at}
use Rattle.fd_program.specs.Past.{inspecting_of, inspects_step, is_same_record, latest_of, record_at}
use Rattle.fd_program.specs.Stores.{FitsStore}
use Rattle.fd_program.specs.Texts.{printed}
use Rattle.fd_program.specs.Trace.{is_empty_turn, trace_of}
use Rattle.fd_program.specs.declared.checked.Checked.{Checked}
use Rattle.fd_program.specs.declared.trace.Step.{Step}
use Rattle.fd_program.specs.declared.trace.Step.TheVariants.{Distribute, Print, Forall}
use Rattle.chaos_entering.specs.Coming.{FindsNone, FindsStep, IsHere}
use Rattle.chaos_entering.specs.Standing.{HasCome}

-- ---- what is kept

option_head : {A : Type 0} (x y : A) (xs ys : List A) → x ∷ xs ≡ y ∷ ys → x ≡ y
option_head x y xs ys e = cc

option_tail : {A : Type 0} (x y : A) (xs ys : List A) → x ∷ xs ≡ y ∷ ys → xs ≡ ys
option_tail x y xs ys e = cc

latest_same : (c : Checked) (past : List Step) (ks : List ℕ) (kept now : List (Option Kept)) → map latest_kept kept ≡ map latest_kept now
    → AllZip (HasLatest c past) ks now → AllZip (HasLatest c past) ks kept
latest_same c past [] [] [] e h = tt
latest_same c past [] (x ∷ kept) [] e h = cc
latest_same c past [] kept (y ∷ now) e h = absurd h
latest_same c past (k ∷ ks) kept [] e h = absurd h
latest_same c past (k ∷ ks) [] (y ∷ now) e h = cc
latest_same c past (k ∷ ks) (x ∷ kept) (y ∷ now) e h = (
  option_head (latest_kept x) (latest_kept y) (map latest_kept kept) (map latest_kept now) e ∙ h.0,
  latest_same c past ks kept now (option_tail (latest_kept x) (latest_kept y) (map latest_kept kept) (map latest_kept now) e) h.1,
)

-- ---- before a step

pub is_run : (plan : RunPlan) (past rest : List Step) → IsRunPlan plan → StandsBetween plan past rest → IsRun (scene_in plan) past
is_run plan past rest known h =
    let all : AllByRecursion (IsStepIn plan.checked) (reverse past ++ rest) = subst (AllByRecursion (IsStepIn plan.checked)) (sym h.trace)
    (steps_are_in plan.checked known.checked) in
    record {
      some_nodes = omega (arith, known.some);
      fits = subst (FitsStore plan.checked.arrays) (sym (run_starts plan).store) known.store;
      history = h.history;
      steps = all_reversed (IsStepIn plan.checked) past (all_split (IsStepIn plan.checked) (reverse past) rest all).0;
    }

pub step_is_in : (plan : RunPlan) (past : List Step) (step : Step) (rest : List Step) → IsRunPlan plan
    → StandsBetween plan past (step ∷ rest) → IsStepIn plan.checked step
step_is_in plan past step rest known h =
    let all : AllByRecursion (IsStepIn plan.checked) (reverse past ++ (step ∷ rest)) = subst (AllByRecursion (IsStepIn plan.checked))
    (sym h.trace) (steps_are_in plan.checked known.checked) in
    (all_split (IsStepIn plan.checked) (reverse past) (step ∷ rest) all).1.0

pub is_between : (plan : RunPlan) (past rest : List Step) (b : Between) (v : Held) → IsRunPlan plan → IsHere plan b v
    → HasCome plan past rest b.me v
    → IsBetween (scene_in plan) past v b
is_between plan past rest b v known here come = record {
  checked = sym here.checked;
  nodes = sym here.nodes;
  rule = sym here.rule;
  run = is_run plan past rest known come.places;
  stands = come.stands;
  elements = here.elements;
  parts = here.parts;
  records = here.records;
  kept = latest_same plan.checked past (below (length plan.checked.sites)) b.kept.now v.kept here.kept.records
      (kept_are_latest (scene_in plan) past b.me v.tables v.kept come.keeps);
}

-- ---- over a step without phases

inspects_none : (c : Checked) (past : List Step) (step : Step) → is_quiet c past step ≡ true → inspects_step c past step ≡ false
inspects_none c past (Distribute d form) e = refl
inspects_none c past (Print array) e = refl
inspects_none c past (Forall site turn) e = by (is_empty_turn turn) e
  where
    by : (b : Bool) → b ≡ true
        → (not b && option_map_or (λ (latest, before). not (is_same_record (record_at c before site latest) (record_at c past site turn)))
        (latest_of past site) true) ≡ false
    by true e = refl
    by false e = cc

prints_none : (plan : RunPlan) (past : List Step) (step : Step) (store : List (List ℤ)) → stages_in plan past step ≡ []
    → printed plan.checked (step, store) ≡ []
prints_none plan past (Distribute d form) store e = refl
prints_none plan past (Print array) store e = cc
prints_none plan past (Forall site turn) store e = refl

-- the node has come over it
pub record GoesOver (plan : RunPlan) (past : List Step) (step : Step) (rest : List Step) (p : ℕ) (v : Held) : Type 0 where
  pub come : HasCome plan (step ∷ past) rest p v
  pub left : left_from plan past (step ∷ rest) ≡ left_from plan (step ∷ past) rest
  pub whole : whole_from plan past (step ∷ rest) ≡ whole_from plan (step ∷ past) rest

pub goes_over : (plan : RunPlan) (past : List Step) (step : Step) (rest : List Step) (p : ℕ) (v : Held) → IsRunPlan plan
    → HasCome plan past (step ∷ rest) p v → stages_in plan past step ≡ [] → GoesOver plan past step rest p v
goes_over plan past step rest p v known h none =
    let s = scene_in plan in
    let passes = quiet_steps_pass plan past step rest h.places none in
    let inspecting : inspecting_of plan.checked (step ∷ past) ≡ inspecting_of plan.checked past
    = ap (λ b. inspecting_of plan.checked past ++ (if b then length past ∷ [] else [])) (inspects_none plan.checked past step passes.quiet)
    ∙ append-nil (inspecting_of plan.checked past) in
    let lines : lines_of s (step ∷ past) ≡ lines_of s past
    = ap (λ l. lines_of s past ++ l) (prints_none plan past step (store_at s past) none) ∙ append-nil (lines_of s past) in
    record {
      come = record {
        places = passes.stands;
        stands = quiet_stands s past step p v known.checked passes.stands.history passes.quiet h.stands;
        keeps = zip_weaker (λ k. KeepsLoop s past k p v.tables) (λ k. KeepsLoop s (step ∷ past) k p v.tables)
            (λ k kept held. quiet_keeps_loops s past step k p v.tables kept passes.quiet held) (below (length plan.checked.sites)) v.kept
            h.keeps;
        inspected = h.inspected ∙ ap (map pos) (sym inspecting);
        text = h.text ∙ ap (text_on p) (sym lines);
        refused = h.refused;
        sized = h.sized;
      };
      left = passes.left;
      whole = passes.whole;
    }

-- ---- the search

-- it has come to the step with this number, over steps without phases
pub record HasReached (plan : RunPlan) (past rest : List Step) (p : ℕ) (v : Held) (number : ℕ) : Type 0 where
  pub before : List Step
  pub behind : List Step
  pub come : HasCome plan before behind p v
  pub number_is : number ≡ length before
  pub left : left_from plan past rest ≡ left_from plan before behind
  pub whole : whole_from plan past rest ≡ whole_from plan before behind

-- for whatever plan
abbrev pub Searches : Between → List Step → ℕ → ℕ → Type 0
Searches b trace from number =
    (plan : RunPlan) (past rest : List Step) (v : Held) → IsRunPlan plan → trace ≡ trace_of plan.checked → from ≡ length past
    → IsHere plan b v → HasCome plan past rest b.me v → HasReached plan past rest b.me v number

pub search_begins : (b : Between) (trace : List Step) (from : ℕ) → Searches b trace from from
search_begins b trace from plan past rest v known same at here come =
    record { before = past; behind = rest; come = come; number_is = at; left = refl; whole = refl }

-- the step there is the next
pub record HasNext (plan : RunPlan) (past rest : List Step) (p : ℕ) (v : Held) (number : ℕ) (step : Step) : Type 0 where
  pub before : List Step
  pub behind : List Step
  pub come : HasCome plan before (step ∷ behind) p v
  pub number_is : number ≡ length before
  pub left : left_from plan past rest ≡ left_from plan before (step ∷ behind)
  pub whole : whole_from plan past rest ≡ whole_from plan before (step ∷ behind)

first_of : (step : Step) (next : Step) (behind : List Step) → step ≡ next → next ∷ behind ≡ step ∷ behind
first_of step next behind e = ap (λ (x : Step). x ∷ behind) (sym e)

get_drop : (n : ℕ) (xs : List Step) (none : Step) → get_or xs n none ≡ get_or (drop n xs) 0 none
get_drop zero xs none = refl
get_drop (suc n) [] none = refl
get_drop (suc n) (x ∷ xs) none = get_drop n xs none

pub has_next : (plan : RunPlan) (past rest : List Step) (p : ℕ) (v : Held) (number : ℕ) (trace : List Step) (step : Step)
    → trace ≡ trace_of plan.checked
    → number < length trace → step ≡ get_or trace number step → HasReached plan past rest p v number
    → HasNext plan past rest p v number step
has_next plan past rest p v number trace step same less is reached = by reached.behind reached.come reached.left reached.whole
    (steps_are_known plan reached.before reached.behind reached.come.places)
  where
    by : (behind : List Step) → HasCome plan reached.before behind p v → left_from plan past rest ≡ left_from plan reached.before behind
        → whole_from plan past rest ≡ whole_from plan reached.before behind → HasSteps plan reached.before behind
        → HasNext plan past rest p v number step
    by [] come left whole steps = absurd (omega (arith, less, ap length same, steps.count, reached.number_is))
    by (next ∷ behind) come left whole steps =
        let first : step ≡ next
        = is ∙ ap (λ l. get_or l number step) same ∙ ap (λ n. get_or (trace_of plan.checked) n step) reached.number_is
        ∙ get_drop (length reached.before) (trace_of plan.checked) step ∙ ap (λ l. get_or l 0 step) steps.left in
        record {
          before = reached.before;
          behind = behind;
          come = subst (λ (x : Step). HasCome plan reached.before (x ∷ behind) p v) (sym first) come;
          number_is = reached.number_is;
          left = subst (λ (x : Step). left_from plan past rest ≡ left_from plan reached.before (x ∷ behind)) (sym first) left;
          whole = subst (λ (x : Step). whole_from plan past rest ≡ whole_from plan reached.before (x ∷ behind)) (sym first) whole;
        }

-- what `begin` tells of the step there
abbrev pub Tells : Between → Step → Option Begun → Type 0
Tells b step o = (s : Scene) (past : List Step) (v : Held) → IsBetween s past v b → IsStepIn s.checked step
    → MatchOption o (stages_of s.checked s.nodes s.rule past step ≡ []) (IsBegun s past step b.me)

-- a step without phases is passed over
pub search_goes_on : (b : Between) (trace : List Step) (from number : ℕ) (step : Step) (o : Option Begun) → number < length trace
    → step ≡ get_or trace number step
    → o ≡ None → Tells b step o → Searches b trace from number → Searches b trace from (number + 1)
search_goes_on b trace from number step o less is none tells searched plan past rest v known same at here come =
    let next = has_next plan past rest b.me v number trace step same less is (searched plan past rest v known same at here come) in
    let quiet : stages_in plan next.before step ≡ []
    = subst (λ o. MatchOption o (stages_in plan next.before step ≡ []) (IsBegun (scene_in plan) next.before step b.me)) none
    (tells (scene_in plan) next.before v (is_between plan next.before (step ∷ next.behind) b v known here next.come)
    (step_is_in plan next.before step next.behind known next.come.places)) in
    let over = goes_over plan next.before step next.behind b.me v known next.come quiet in
    record {
      before = step ∷ next.before;
      behind = next.behind;
      come = over.come;
      number_is = ap (λ n. n + 1) next.number_is ∙ add-one (length next.before);
      left = next.left ∙ over.left;
      whole = next.whole ∙ over.whole;
    }

-- a step with phases is found
pub search_finds : (b : Between) (trace : List Step) (from number : ℕ) (step : Step) (o : Option Begun) (begun : Begun) (site : ℕ)
    → number < length trace → step ≡ get_or trace number step
    → o ≡ Some begun → site ≡ site_of step → Tells b step o → Searches b trace from number
    → (plan : RunPlan) (past rest : List Step) (v : Held) → IsRunPlan plan → trace ≡ trace_of plan.checked → from ≡ length past
    → IsHere plan b v → HasCome plan past rest b.me v → FindsStep plan past rest b.me v number site begun
search_finds b trace from number step o begun site less is some named tells searched plan past rest v known same at here come =
    let next = has_next plan past rest b.me v number trace step same less is (searched plan past rest v known same at here come) in
    record {
      before = next.before;
      step = step;
      behind = next.behind;
      come = next.come;
      number_is = next.number_is;
      site_is = named;
      left = next.left;
      whole = next.whole;
      begins = subst (λ o. MatchOption o (stages_in plan next.before step ≡ []) (IsBegun (scene_in plan) next.before step b.me)) some
          (tells (scene_in plan) next.before v (is_between plan next.before (step ∷ next.behind) b v known here next.come)
          (step_is_in plan next.before step next.behind known next.come.places));
    }

-- behind the last step none is found
pub search_is_over : (b : Between) (trace : List Step) (from number : ℕ) → length trace ≤ number → Searches b trace from number
    → (plan : RunPlan) (past rest : List Step) (v : Held) → IsRunPlan plan → trace ≡ trace_of plan.checked → from ≡ length past
    → IsHere plan b v → HasCome plan past rest b.me v → FindsNone plan past rest b.me v
search_is_over b trace from number most searched plan past rest v known same at here come =
    let reached = searched plan past rest v known same at here come in
    by reached reached.behind reached.come reached.left reached.whole
    (steps_are_known plan reached.before reached.behind reached.come.places)
  where
    by : (reached : HasReached plan past rest b.me v number) (behind : List Step) → HasCome plan reached.before behind b.me v
        → left_from plan past rest ≡ left_from plan reached.before behind
        → whole_from plan past rest ≡ whole_from plan reached.before behind → HasSteps plan reached.before behind
        → FindsNone plan past rest b.me v
    by reached [] come left whole steps = record { before = reached.before; come = come; left = left; whole = whole }
    by reached (next ∷ behind) come left whole steps = absurd (omega (arith, most, ap length same, steps.count, reached.number_is))
