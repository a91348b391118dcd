-- From one phase of a step to the next, from its last phase to the next step, and to that step's first phase.
use Rattle.std.specs.Prelude.{if◌then◌else◌, ◌≡◌, ◌≢◌, refl, ℕ, ◌<◌, pos, Bool, true, false, ◌&&◌, ◌==◌, List, ◌∷◌, length, map, Option}
use Rattle.std.specs.Prelude.{Some, None, MatchBool, ◌⊎◌}
use Rattle.std.specs.List.{AllZip}
use Rattle.std.proofs.Common.{ap, sym, ◌∙◌, subst, inl, inr}
use Rattle.std.proofs.lemmas.Bool.{cases_eq}
use Rattle.chaos_dist.specs.Counting.{below}
use Rattle.chaos_hash.specs.Stamps.{Stamps}
use Rattle.chaos_records.specs.declared.records.Records.{Records}
use Rattle.std.specs.Option.{option_map, option_map_or}
use Rattle.fd_words.specs.declared.place.Offence.{Offence}
use Rattle.fd_words.specs.Lists.{list_at}
use Rattle.fd_program.specs.Checks.{IsChecked}
use Rattle.fd_program.specs.Layouts.{Scene, store_at, owners_at}
use Rattle.fd_program.specs.Loops.{offence_of}
use Rattle.fd_program.specs.Past.{form_at, inspects_at, inspecting_of}
use Rattle.fd_program.specs.RunLaws.{IsHistory}
use Rattle.fd_program.specs.Runs.{Run, refusal_of}
use Rattle.fd_program.specs.Trace.{site_at, is_empty_turn}
use Rattle.fd_program.specs.declared.refused.Refused.{Refused}
use Rattle.fd_program.specs.declared.trace.LoopTurn.{LoopTurn}
use Rattle.fd_program.specs.declared.trace.Step.{Step}
use Rattle.fd_program.specs.declared.trace.Step.TheVariants.{Forall}
use Rattle.plan_loop.specs.declared.loop_phase.LoopPhase.TheVariants as phase
use Rattle.plan_run.specs.Held.{Held, Kept, HasPage, HasPlaces, Stands, InHand, is_inspecting, is_executing, refused_at, is_stopped}
use Rattle.plan_run.specs.Held.{KeepsLoop, KeepsInStep, KeepsAtEnd, EachLoop, AtPhase, text_at, text_on, lines_of, inspected_at}
use Rattle.plan_run.specs.KeptLaws.{other_loops_stay, reused_is_kept, differ}
use Rattle.plan_run.specs.OwnerLaws.{equals_itself}
use Rattle.plan_run.specs.Phases.{Phase, numbers_at}
use Rattle.fd_program.specs.AmongLaws.{zip_weaker}
use Rattle.plan_run.specs.declared.stage.Stage.{Stage}
use Rattle.plan_run.specs.declared.stage.Stage.TheVariants as stage

-- ---- statements

-- nothing differs but what is in hand, and the list that the node has for itself
pub record IsSameBut (v : Held) (w : Held) : Type 0 where
  pub parts : w.parts ≡ v.parts
  pub elements : w.elements ≡ v.elements
  pub records : w.records ≡ v.records
  pub pages : w.pages ≡ v.pages
  pub kept : w.kept ≡ v.kept
  pub counts : w.counts ≡ v.counts
  pub tables : w.tables ≡ v.tables
  pub inspected : w.inspected ≡ v.inspected
  pub text : w.text ≡ v.text
  pub refused : w.refused ≡ v.refused

abbrev pub is_output : Stage → Bool
is_output (stage.Output j) = true
is_output _ = false

-- two phases of one step of the trace, both before its execution or both in it
pub record AreInStep (f g : Phase) : Type 0 where
  pub past : g.past ≡ f.past
  pub step : g.step ≡ f.step
  pub first : is_output f.stage ≡ false
  pub second : is_output g.stage ≡ false
  pub executing : is_executing g.stage ≡ is_executing f.stage

-- Then only the list for itself and what is in hand are new.
abbrev pub StepGoesOn : Type 0
StepGoesOn =
    (s : Scene) (run : Run) (f g : Phase) (p : ℕ) (v w : Held) → AreInStep f g → AtPhase s run f p v → IsSameBut v w
    → w.own ≡ numbers_at s g.past g.step g.stage p p → InHand s g.past g.step p w.tables g.stage w.hand → AtPhase s run g p w

-- after the execution of a FORALL each FORALL keeps what it is to keep between steps
abbrev pub LoopEnds : Type 0
LoopEnds =
    (s : Scene) (run : Run) (past : List Step) (site : ℕ) (turn : LoopTurn) (p : ℕ) (tables : List Stamps) (kept : List (Option Kept))
    → IsChecked s.checked → site < length s.checked.sites → IsHistory s past → is_empty_turn turn ≡ false
    → EachLoop s.checked (KeepsInStep s run past (Forall site turn) (stage.InLoop phase.Scatter) p tables) kept
    → EachLoop s.checked (λ k. KeepsLoop s (Forall site turn ∷ past) k p tables) kept

-- a step that inspects nothing begins with what was kept
abbrev pub StepBegins : Type 0
StepBegins =
    (s : Scene) (run : Run) (past : List Step) (step : Step) (first : Stage) (p : ℕ) (tables : List Stamps) (kept : List (Option Kept))
    → is_output first ≡ false → ((k : ℕ) → is_inspecting s.checked past step k ≡ false)
    → EachLoop s.checked (λ k. KeepsLoop s past k p tables) kept → EachLoop s.checked (KeepsInStep s run past step first p tables) kept

-- behind the vote of a refused FORALL nothing is kept of it, and of each other what was kept: so as an OUTPUT begins, and at the end
abbrev pub RefusalStops : Type 0
RefusalStops =
    (s : Scene) (run : Run) (past : List Step) (site : ℕ) (turn : LoopTurn) (r : Refused) (p : ℕ) (tables : List Stamps)
    (kept : List (Option Kept))
    → run.refused ≡ Some r → refusal_of s.checked (Forall site turn) (store_at s past) ≡ Some r → inspects_at s.checked past site turn
    ≡ true
    → EachLoop s.checked (KeepsInStep s run past (Forall site turn) (stage.InLoop phase.Vote) p tables) kept
    → EachLoop s.checked (KeepsAtEnd s run past p tables) kept

-- ---- within a step

pub not_refused : (run : Run) (a : Stage) → is_output a ≡ false → refused_at run a ≡ None
not_refused run (stage.Output j) e = cc
not_refused run _ e = refl

pub plain_text : (s : Scene) (run : Run) (past : List Step) (a : Stage) → is_output a ≡ false → text_at s run past a ≡ lines_of s past
plain_text s run past (stage.Output j) e = cc
plain_text s run past _ e = refl

pub present_inspected : (s : Scene) (run : Run) (past : List Step) (step : Step) (a : Stage) → is_output a ≡ false
    → inspected_at s run past step a ≡ map (λ n. pos n) (inspecting_of s.checked (step ∷ past))
present_inspected s run past step (stage.Output j) e = cc
present_inspected s run past step _ e = refl

-- what is kept within a step, by whether it is refused and executing
abbrev KeepsWith : Scene → List Step → Step → ℕ → List Stamps → ℕ → Option Kept → Option Refused → Bool → Type 0
KeepsWith s past step p tables k kept refused executing =
    MatchBool (is_stopped refused k) (kept ≡ None)
    (MatchBool (is_inspecting s.checked past step k)
    (MatchBool executing (KeepsLoop s (step ∷ past) k p tables kept) (kept ≡ None))
    (KeepsLoop s past k p tables kept))

same_stands : (s : Scene) (past : List Step) (p : ℕ) (v w : Held) → IsSameBut v w → Stands s past p v → Stands s past p w
same_stands s past p v w same h = record {
  parts = same.parts ∙ h.parts;
  elements = same.elements ∙ h.elements;
  records = record {
    changes = ap (λ (r : Records). r.changes) same.records ∙ h.records.changes;
    settings = ap (λ (r : Records). r.settings) same.records ∙ h.records.settings;
  };
  pages = subst (λ pages. AllZip (λ d page. HasPage s.nodes p (form_at past d) (list_at (owners_at s past) d) page)
      (below (length s.checked.layouts)) pages) (sym same.pages) h.pages;
  counts = same.counts ∙ h.counts;
  places = subst (HasPlaces (owners_at s past)) (sym same.tables) h.places;
}

-- the same step
goes_on : (s : Scene) (run : Run) (past : List Step) (step : Step) (a b : Stage) (m n left more p : ℕ) (v w : Held)
    → is_output a ≡ false → is_output b ≡ false → is_executing b ≡ is_executing a
    → AtPhase s run (record { past = past; step = step; stage = a; execution = m; left = left }) p v → IsSameBut v w
    → w.own ≡ numbers_at s past step b p p → InHand s past step p w.tables b w.hand
    → AtPhase s run (record { past = past; step = step; stage = b; execution = n; left = more }) p w
goes_on s run past step a b m n left more p v w first second level h same own hand =
    let refused : refused_at run b ≡ refused_at run a = not_refused run b second ∙ sym (not_refused run a first) in
    record {
      stands = same_stands s past p v w same h.stands;
      keeps = subst (EachLoop s.checked (KeepsInStep s run past step b p w.tables)) (sym same.kept)
          (zip_weaker (KeepsInStep s run past step a p v.tables) (KeepsInStep s run past step b p w.tables)
          (λ k kept x.
          subst (λ tables. KeepsWith s past step p tables k kept (refused_at run b) (is_executing b)) (sym same.tables)
          (subst (λ r. KeepsWith s past step p v.tables k kept r (is_executing b)) (sym refused)
          (subst (λ e. KeepsWith s past step p v.tables k kept (refused_at run a) e) (sym level) x))) (below (length s.checked.sites))
          v.kept h.keeps);
      inspected = same.inspected ∙ h.inspected ∙ present_inspected s run past step a first
          ∙ sym (present_inspected s run past step b second);
      text = same.text ∙ h.text ∙ ap (text_on p) (plain_text s run past a first ∙ sym (plain_text s run past b second));
      refused = same.refused ∙ h.refused ∙ sym refused;
      own = own;
      hand = hand;
    }

pub step_goes_on : StepGoesOn
step_goes_on s run f g p v w both h same own hand =
    goes_on s run g.past g.step f.stage g.stage f.execution g.execution f.left g.left p v w both.first both.second both.executing
    (subst (λ past. AtPhase s run (record { past = past; step = g.step; stage = f.stage; execution = f.execution; left = f.left }) p v)
    (sym both.past)
    (subst (λ step. AtPhase s run (record { past = f.past; step = step; stage = f.stage; execution = f.execution; left = f.left }) p v)
    (sym both.step) h)) same own hand

-- ---- from step to step

pub loop_ends : LoopEnds
loop_ends s run past site turn p tables kept known there history some h =
    zip_weaker (KeepsInStep s run past (Forall site turn) (stage.InLoop phase.Scatter) p tables)
    (λ k. KeepsLoop s (Forall site turn ∷ past) k p tables)
    (λ k x held. by k x (cases_eq site k) (inspects_at s.checked past site turn) refl held) (below (length s.checked.sites)) kept h
  where
    by : (k : ℕ) (x : Option Kept) → (site ≡ k) ⊎ (site ≢ k) → (b : Bool) → inspects_at s.checked past site turn ≡ b
        → MatchBool ((site == k) && inspects_at s.checked past site turn) (KeepsLoop s (Forall site turn ∷ past) k p tables x)
        (KeepsLoop s past k p tables x)
        → KeepsLoop s (Forall site turn ∷ past) k p tables x
    by k x (inl same) true e held =
        subst (λ b. MatchBool b (KeepsLoop s (Forall site turn ∷ past) k p tables x) (KeepsLoop s past k p tables x))
        (ap (λ b. b && inspects_at s.checked past site turn) (subst (λ n. (site == n) ≡ true) same (equals_itself site)) ∙ e) held
    by k x (inl same) false e held =
        let before = subst (λ b. MatchBool b (KeepsLoop s (Forall site turn ∷ past) k p tables x) (KeepsLoop s past k p tables x))
        (ap (λ b. b && inspects_at s.checked past site turn) (subst (λ n. (site == n) ≡ true) same (equals_itself site)) ∙ e) held in
        subst (λ n. KeepsLoop s (Forall site turn ∷ past) n p tables x) same
        (reused_is_kept s past site turn p tables x known there history some e (subst (λ n. KeepsLoop s past n p tables x)
        (sym same) before)).1
    by k x (inr other) b e held =
        other_loops_stay s past site turn k p tables x other
        (subst (λ b. MatchBool b (KeepsLoop s (Forall site turn ∷ past) k p tables x) (KeepsLoop s past k p tables x))
        (ap (λ b. b && inspects_at s.checked past site turn) (differ site k other)) held)

pub step_begins : StepBegins
step_begins s run past step first p tables kept plain none h =
    zip_weaker (λ k. KeepsLoop s past k p tables) (KeepsInStep s run past step first p tables)
    (λ k x held.
    subst (λ r. KeepsWith s past step p tables k x r (is_executing first)) (sym (not_refused run first plain))
    (subst (λ b. MatchBool b (MatchBool (is_executing first) (KeepsLoop s (step ∷ past) k p tables x) (x ≡ None))
    (KeepsLoop s past k p tables x)) (sym (none k)) held))
    (below (length s.checked.sites)) kept h

-- ---- a refusal

refused_site : (s : Scene) (past : List Step) (site : ℕ) (turn : LoopTurn) (r : Refused)
    → refusal_of s.checked (Forall site turn) (store_at s past) ≡ Some r → site ≡ r.site
refused_site s past site turn r h = by (is_empty_turn turn) (offence_of s.checked.arrays (site_at s.checked.sites site) turn
    (store_at s past)) h
  where
    by : (b : Bool) (o : Option Offence) → option_map (λ (o : Offence). let r : Refused = record { site = site; offence = o } in r)
        (if b then None else o) ≡ Some r → site ≡ r.site
    by true o e = cc
    by false None e = cc
    by false (Some x) e = ap (λ (o : Option Refused). option_map_or (λ (r : Refused). r.site) o 0) e

pub refusal_stops : RefusalStops
refusal_stops s run past site turn r p tables kept e refused inspects h =
    zip_weaker (KeepsInStep s run past (Forall site turn) (stage.InLoop phase.Vote) p tables) (KeepsAtEnd s run past p tables)
    (λ k x held.
    subst (λ o. MatchBool (is_stopped o k) (x ≡ None) (KeepsLoop s past k p tables x)) (sym e)
    (subst (λ n. MatchBool (n == k) (x ≡ None) (KeepsLoop s past k p tables x)) (refused_site s past site turn r refused)
    (by k x (site == k) held)))
    (below (length s.checked.sites)) kept h
  where
    by : (k : ℕ) (x : Option Kept) (b : Bool) → MatchBool (b && inspects_at s.checked past site turn) (x ≡ None)
        (KeepsLoop s past k p tables x)
        → MatchBool b (x ≡ None) (KeepsLoop s past k p tables x)
    by k x true held = subst (λ i. MatchBool i (x ≡ None) (KeepsLoop s past k p tables x)) inspects held
    by k x false held = held
