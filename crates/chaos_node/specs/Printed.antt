-- The end of a PRINT, and that of an array of OUTPUT.
use Rattle.std.specs.Prelude.{◌≡◌, refl, ℕ, zero, suc, ◌+◌, ◌-◌, ◌<◌, ◌≤◌, ◌^◌, ℤ, Bool, true, false, if◌then◌else◌, List, [], ◌∷◌, ◌++◌}
use Rattle.std.specs.Prelude.{length, map, reverse, drop, take, slice_get, is_some, Option, Some, None}
use Rattle.std.specs.List.{AllZip}
use Rattle.std.proofs.Common.{ap, sym, ◌∙◌, subst, arith, append_assoc, add-one}
use Rattle.std.proofs.lemmas.List.{reverse-reverse}
use Rattle.std.proofs.lemmas.Grind.{reverse_onto}
use Rattle.bsp_core.specs.Views.{Face, View, next_with, ready}
use Rattle.bsp_core.specs.declared.phased.Want.TheVariants.{Done, Work}
use Rattle.chaos_letter.specs.declared.letter.Letter.{Letter}
use Rattle.chaos_letter.specs.declared.wanted.Wanted.{Wanted}
use Rattle.chaos_begin.specs.Begins.{latest_kept}
use Rattle.chaos_begin.specs.declared.between.Between.{Between}
use Rattle.chaos_dist.specs.Counting.{below}
use Rattle.chaos_hash.specs.Stamps.{Stamps}
use Rattle.fd_program.specs.Layouts.{Scene, store_at}
use Rattle.fd_program.specs.Reports.{completed_of, executed_of}
use Rattle.fd_program.specs.Runs.{Run, after_step, refusal_of, run_from, run_past}
use Rattle.fd_program.specs.Trace.{trace_of}
use Rattle.fd_program.specs.declared.array.OutputName.{OutputName}
use Rattle.fd_program.specs.declared.checked.Checked.{Checked}
use Rattle.fd_program.specs.declared.refused.Refused.{Refused}
use Rattle.fd_program.specs.declared.trace.Step.{Step}
use Rattle.fd_program.specs.declared.trace.Step.TheVariants.{Print}
use Rattle.plan_run.specs.CompletedLaws.{completed_first}
use Rattle.plan_run.specs.Held.{AtPhase, EachLoop, Held, KeepsInStep, KeepsLoop, Stands}
use Rattle.plan_run.specs.Phases.{Phase}
use Rattle.plan_run.specs.Rows.{IsRunPlan, RunPlan, face_left, phases_in, run_in, scene_in}
use Rattle.plan_run.specs.StepLaws.{print_keeps_loops, print_stands}
use Rattle.plan_run.specs.declared.kept.Kept.{Kept}
use Rattle.plan_run.specs.declared.stage.Stage.TheVariants as stage
use Rattle.plan_walk.specs.LetterLaws.{letters_come_in}
use Rattle.plan_walk.specs.PhaseBegins.{phases_follow, rows_follow}
use Rattle.fd_program.specs.RunLaws.{drop_first}
use Rattle.plan_walk.specs.Places.{left_from, left_in, output_phase, outputs_left, present_phase, whole_from}
use Rattle.plan_walk.specs.StepEnds.{steps_are_known, steps_end}
use Rattle.plan_walk.specs.Walking.{face_done}
use Rattle.chaos_print.specs.InPlan.{CanPrint, OutputsGoOn, PlansCanPrint, PrintsGoOn, text_with}
use Rattle.chaos_print.specs.Printing.{print_text}
use Rattle.chaos_entering.specs.Coming.{IsBehindSteps, IsHere, ComesNext, EntersAs}
use Rattle.chaos_entering.specs.Enters.{EntersNext, EntersOutput}
use Rattle.chaos_node.specs.Ends.{LooksAt}
use Rattle.chaos_holdings.specs.Keeping.{prepared_in}
use Rattle.chaos_entering.specs.Standing.{HoldsAt, IsOutput, IsPlace, IsPrint, session_in}
use Rattle.chaos_entering.specs.State.{NodeState, held_of}
use Rattle.chaos_entering.specs.declared.activity.Activity.{Activity}
use Rattle.chaos_entering.specs.declared.activity.Activity.TheVariants.{Output, Printing}
use Rattle.chaos_entering.specs.declared.entered.Entered.{Entered}
use Rattle.chaos_holdings.specs.declared.session.Session.{Session}

-- ---- statements

-- a node with a line more
abbrev pub with_line : NodeState → List ℕ → NodeState
with_line st line = record st { text = st.text ++ line }

-- the line that a node writes of the array in hand
abbrev pub line_at : View NodeState → List ℕ
line_at v = print_text v.state.session.checked.arrays v.face.me v.state.at.site v.state.at.own v.face.got

-- behind a PRINT the next step comes
pub record IsPrinted (plan : RunPlan) (t p : ℕ) (v : View NodeState) (line : List ℕ) : Type 0 where
  pub past : List Step
  pub rest : List Step
  pub session : v.state.session ≡ session_in plan
  pub number : v.state.at.execution ≡ length past
  pub few : length past ≤ 20000
  pub me : v.face.me ≡ p
  pub left : drop (t + 1) (phases_in plan) ≡ left_from plan (Print v.state.at.site ∷ past) rest
  pub next : (k : ℕ) → k + 1 ≡ v.face.left → ComesNext plan (Print v.state.at.site ∷ past) rest p k (with_line v.state line)

-- behind an array of OUTPUT the next array comes
pub record IsPutOut (plan : RunPlan) (t p j : ℕ) (v : View NodeState) (line : List ℕ) : Type 0 where
  pub session : v.state.session ≡ session_in plan
  pub few : j + 1 ≤ length plan.checked.outputs
  pub me : v.face.me ≡ p
  pub left : drop (t + 1) (phases_in plan) ≡ outputs_left plan (completed_of (run_in plan)) (j + 1) (drop (j + 1) plan.checked.outputs)
  pub next : (k : ℕ) → k + 1 ≡ v.face.left → IsBehindSteps plan (j + 1) p k (with_line v.state line)

-- ---- what doesn't hang on the text, and on the list for the node itself

stands_beside : (s : Scene) (past : List Step) (p : ℕ) (v : Held) (text : List ℕ) (own : List ℤ) → Stands s past p v
    → Stands s past p (record v { text = text; own = own })
stands_beside s past p v text own h = record {
  parts = h.parts;
  elements = h.elements;
  records = h.records;
  pages = h.pages;
  counts = h.counts;
  places = h.places;
}

each_weaker : (P Q : ℕ → Option Kept → Type 0) → ((k : ℕ) (x : Option Kept) → P k x → Q k x) → (ks : List ℕ) (xs : List (Option Kept))
    → AllZip P ks xs → AllZip Q ks xs
each_weaker P Q f [] [] h = tt
each_weaker P Q f (k ∷ ks) (x ∷ xs) (h, more) = (f k x h, each_weaker P Q f ks xs more)
each_weaker P Q f [] (x ∷ xs) h = absurd h
each_weaker P Q f (k ∷ ks) [] h = absurd h

-- ---- the end of a PRINT

place_at : (plan : RunPlan) (phases : List Phase) (p : ℕ) (st : NodeState) (a : Activity) → HoldsAt plan phases p st → st.at.activity ≡ a
    → IsPlace plan phases p st a
place_at plan phases p st a h e = subst (λ a. IsPlace plan phases p st a) e h.place

-- what the text is with the line
text_is : (plan : RunPlan) (t p : ℕ) (v : View NodeState) (line : List ℕ) (w : Held) → v.state.session ≡ session_in plan
    → v.face ≡ ready (face_left (scene_in plan) (drop t (phases_in plan))) p
    → v.face.me ≡ p → line ≡ line_at v → w.text ≡ v.state.text → w.own ≡ v.state.at.own
    → v.state.text ++ line ≡ text_with plan t p v.state.at.site w
text_is plan t p v line w session row me text same own =
    ap (λ l. v.state.text ++ l)
    (text ∙ ap (λ (x : Session). print_text x.checked.arrays v.face.me v.state.at.site v.state.at.own v.face.got) session
    ∙ ap (λ n. print_text plan.checked.arrays n v.state.at.site v.state.at.own v.face.got) me
    ∙ ap (λ (f : Face). print_text plan.checked.arrays p v.state.at.site v.state.at.own f.got) row
    ∙ ap (λ own. print_text plan.checked.arrays p v.state.at.site own (ready (face_left (scene_in plan) (drop t (phases_in plan))) p).got)
    (sym own))
    ∙ ap (λ l. l ++ print_text plan.checked.arrays p v.state.at.site w.own (ready (face_left (scene_in plan) (drop t (phases_in plan)))
    p).got) (sym same)

one_less : (k m n : ℕ) → k + 1 ≡ m → m ≡ n + 1 → k ≡ n
one_less k m n e h = omega (arith, e, h)

pub is_printed : PrintsGoOn → PlansCanPrint → (plan : RunPlan) (t p : ℕ) (v : View NodeState) (line : List ℕ) → IsRunPlan plan
    → p < plan.nodes
    → v.face ≡ ready (face_left (scene_in plan) (drop t (phases_in plan))) p → HoldsAt plan (drop t (phases_in plan)) p v.state
    → v.state.at.activity ≡ Printing → line ≡ line_at v → IsPrinted plan t p v line
is_printed goes can plan t p v line is less row holds at text =
    let s = scene_in plan in
    let a = v.state.at.site in
    let h : IsPrint plan (drop t (phases_in plan)) p v.state = place_at plan (drop t (phases_in plan)) p v.state Printing holds at in
    let i = h.in_step in
    let past = h.past in
    let f = present_phase plan past (Print a) h.rest stage.Print [] in
    let later = left_in plan past (Print a) h.rest [] in
    let drops : drop t (phases_in plan) ≡ f ∷ later = i.phases_are ∙ phases_follow plan past (Print a) h.rest stage.Print [] refl in
    let ends = steps_end plan past (Print a) h.rest i.places refl in
    let came : v.face ≡ face_done s f p = row ∙ ap (λ fs. ready (face_left s fs) p) drops ∙ letters_come_in s f later p less in
    let me : v.face.me ≡ p = ap (λ (x : Face). x.me) came in
    let phases : v.face.left ≡ length (whole_from plan (Print a ∷ past) h.rest) + 1 = ap (λ (x : Face). x.left) came in
    let held : Held = record (held_of v.state) { own = v.state.at.own } in
    let now : AtPhase s (run_in plan) f p held = record {
      stands = stands_beside s past p (held_of v.state) v.state.text v.state.at.own i.knows.stands;
      keeps = i.knows.keeps;
      inspected = i.knows.inspected;
      text = i.knows.text;
      refused = i.knows.refused;
      own = i.own;
      hand = tt;
    } in
    let fits = (can plan past (Print a ∷ h.rest) is.checked is.store i.places.trace i.places.history).fits in
    let steps = steps_are_known plan past (Print a ∷ h.rest) i.places in
    record {
      past = past;
      rest = h.rest;
      session = holds.session;
      number = i.execution;
      few = omega (arith, steps.count, is.within.steps);
      me = me;
      left = (rows_follow plan t f later drops).left ∙ ends.left;
      next = λ k e. record {
        session = holds.session;
        node = less;
        come = record {
          places = ends.stands;
          stands = print_stands s past a p (held_of (with_line v.state line)) ends.store (stands_beside s past p (held_of v.state)
              (v.state.text ++ line) [] i.knows.stands);
          keeps = each_weaker (KeepsInStep s (run_in plan) past (Print a) stage.Print p v.state.holdings.tables)
              (λ k x. KeepsLoop s (Print a ∷ past) k p v.state.holdings.tables x)
              (λ k x h. print_keeps_loops s past a k p v.state.holdings.tables x h) (below (length plan.checked.sites))
              v.state.holdings.kept i.knows.keeps;
          inspected = i.knows.inspected;
          text = text_is plan t p v line held holds.session row me text refl refl
              ∙ goes plan t p f later a held (record { node = less; left = drops; step = refl; at = now; fits = fits }) refl;
          refused = i.knows.refused;
          sized = i.knows.sized;
        };
        left_is = one_less k v.face.left (length (whole_from plan (Print a ∷ past) h.rest)) e phases;
      };
    }

-- ---- the end of an array of OUTPUT

drop_get : (j : ℕ) (xs : List OutputName) (x : OutputName) (rest : List OutputName) → drop j xs ≡ x ∷ rest → slice_get xs j ≡ Some x
drop_get zero [] x rest e = cc
drop_get zero (y ∷ ys) x rest e = ap (λ l. slice_get l 0) e
drop_get (suc j) [] x rest e = cc
drop_get (suc j) (y ∷ ys) x rest e = drop_get j ys x rest e

drop_within : (j : ℕ) (xs : List OutputName) (x : OutputName) (rest : List OutputName) → drop j xs ≡ x ∷ rest → j + 1 ≤ length xs
drop_within zero [] x rest e = cc
drop_within zero (y ∷ ys) x rest e = omega arith
drop_within (suc j) [] x rest e = cc
drop_within (suc j) (y ∷ ys) x rest e = let z = drop_within j ys x rest e in omega (arith, z)

outputs_count : (plan : RunPlan) (past : List Step) (j : ℕ) (os : List OutputName) → length (outputs_left plan past j os) ≡ length os
outputs_count plan past j [] = refl
outputs_count plan past j (o ∷ os) = ap suc (outputs_count plan past (j + 1) os)

pub is_put_out : OutputsGoOn → PlansCanPrint → (plan : RunPlan) (t p j : ℕ) (v : View NodeState) (line : List ℕ) → IsRunPlan plan
    → p < plan.nodes
    → v.face ≡ ready (face_left (scene_in plan) (drop t (phases_in plan))) p → HoldsAt plan (drop t (phases_in plan)) p v.state
    → v.state.at.activity ≡ Output j → line ≡ line_at v → IsPutOut plan t p j v line
is_put_out goes can plan t p j v line is less row holds at text =
    let s = scene_in plan in
    let a = v.state.at.site in
    let h : IsOutput plan (drop t (phases_in plan)) j p v.state = place_at plan (drop t (phases_in plan)) p v.state (Output j) holds at in
    let past = completed_of (run_in plan) in
    let f = output_phase plan past j h.name h.names in
    let later = outputs_left plan past (j + 1) h.names in
    let drops : drop t (phases_in plan) ≡ f ∷ later = h.phases_are in
    let came : v.face ≡ face_done s f p = row ∙ ap (λ fs. ready (face_left s fs) p) drops ∙ letters_come_in s f later p less in
    let me : v.face.me ≡ p = ap (λ (x : Face). x.me) came in
    let phases : v.face.left ≡ length h.names + 1 = ap (λ (x : Face). x.left) came
    ∙ ap (λ n. n + 1) (outputs_count plan past (j + 1) h.names) in
    let held : Held = record (held_of v.state) { own = v.state.at.own } in
    let now : AtPhase s (run_in plan) f p held = record {
      stands = stands_beside s past p (held_of v.state) v.state.text v.state.at.own h.knows.stands;
      keeps = h.knows.keeps;
      inspected = h.knows.inspected;
      text = h.knows.text;
      refused = h.knows.refused;
      own = h.own;
      hand = tt;
    } in
    let steps = completed_first plan in
    let fits = (can plan past steps.0 is.checked is.store steps.1 h.knows.history).fits in
    let names : drop (j + 1) plan.checked.outputs ≡ h.names = ap (λ n. drop n plan.checked.outputs) (add-one j)
    ∙ drop_first j plan.checked.outputs h.name h.names h.named in
    record {
      session = holds.session;
      few = drop_within j plan.checked.outputs h.name h.names h.named;
      me = me;
      left = (rows_follow plan t f later drops).left ∙ ap (outputs_left plan past (j + 1)) (sym names);
      next = λ k e. record {
        session = holds.session;
        within = drop_within j plan.checked.outputs h.name h.names h.named;
        left_is = one_less k v.face.left (length h.names) e phases ∙ ap length (sym names);
        knows = record {
          history = h.knows.history;
          stands = stands_beside s past p (held_of v.state) (v.state.text ++ line) [] h.knows.stands;
          keeps = h.knows.keeps;
          inspected = h.knows.inspected;
          text = text_is plan t p v line held holds.session row me text refl refl
              ∙ ap (λ n. text_with plan t p n held) h.site
              ∙ goes plan t p f later h.name held j (record { node = less; left = drops; step = refl; at = now; fits = fits }) refl
              (drop_get j plan.checked.outputs h.name h.names h.named) h.knows.last;
          refused = h.knows.refused;
          last = h.knows.last;
        };
      };
    }

-- ---- what is due where no letter is

pub work_left : (left : ℕ) (due : List (ℕ × Wanted)) (out : List (ℕ × Letter)) → next_with left due out ≡ Work → 1 ≤ left
work_left left due (x ∷ xs) e = cc
work_left left (x ∷ xs) [] e = cc
work_left zero [] [] e = cc
work_left (suc n) [] [] e = omega arith

pub falls_one : (e left : ℕ) → 1 ≤ left → e ≤ left - 1 → e < left
falls_one e left some less = omega (arith, some, less)

pub one_back : (left : ℕ) → 1 ≤ left → (left - 1) + 1 ≡ left
one_back left some = omega (arith, some)

pub still_small : (left : ℕ) → left < 2 ^ 31 → left - 1 < 2 ^ 31
still_small left few = omega (arith, few)

-- ---- what was entered is right

-- what is looked at is what is held
pub is_here : (plan : RunPlan) (st : NodeState) (me : ℕ) (line : List ℕ) (b : Between) → st.session ≡ session_in plan → LooksAt st me b
    → IsHere plan b (held_of (with_line st line))
is_here plan st me line b session look = record {
  checked = look.checked ∙ ap (λ (x : Session). x.checked) session;
  nodes = look.nodes ∙ ap (λ (x : Session). x.nodes) session;
  rule = look.rule ∙ ap (λ (x : Session). x.rule) session;
  elements = sym look.elements_are;
  parts = sym look.parts_are;
  records = sym look.records_are;
  kept = record {
    records = ap (map latest_kept) look.kept;
    inspections = λ k x e. ap (λ l. prepared_in l k) look.kept ∙ e;
  };
}

pub few_steps : (n m : ℕ) → n ≡ m → m ≤ 20000 → n < 2 ^ 32
few_steps n m e h = omega (arith, e, h)

pub print_right : (plan : RunPlan) (t p : ℕ) (v : View NodeState) (line : List ℕ) (b : Between) (number left : ℕ) (e : Entered)
    → IsRunPlan plan → IsPrinted plan t p v line
    → LooksAt v.state v.face.me b → (v.state.at.execution < 2 ^ 32 → number ≡ v.state.at.execution + 1) → left + 1 ≡ v.face.left
    → EntersNext v.state.session b v.state.holdings.pages number left e
    → EntersAs plan (drop (t + 1) (phases_in plan)) p e (with_line v.state line)
print_right plan t p v line b number left e is h look counts one enters =
    let past = Print v.state.at.site ∷ h.past in
    let st = with_line v.state line in
    let me : b.me ≡ p = look.node ∙ h.me in
    let numbered : number ≡ length past = counts (few_steps v.state.at.execution (length h.past) h.number h.few)
    ∙ ap (λ n. n + 1) h.number ∙ add-one (length h.past) in
    let right = enters plan past h.rest st is h.session numbered (is_here plan v.state v.face.me line b h.session look) refl
    (subst (λ n. ComesNext plan past h.rest n left st) (sym me) (h.next left one)) in
    subst (λ n. EntersAs plan (drop (t + 1) (phases_in plan)) n e st) me (subst (λ fs. EntersAs plan fs b.me e st) (sym h.left) right)

pub output_right : (plan : RunPlan) (t p j : ℕ) (v : View NodeState) (line : List ℕ) (number left : ℕ) (e : Entered) → IsRunPlan plan
    → IsPutOut plan t p j v line
    → (j + 1 < 2 ^ 32 → number ≡ j + 1) → left + 1 ≡ v.face.left
    → EntersOutput v.state.session v.face.me number v.state.holdings.elements v.state.holdings.parts left e
    → EntersAs plan (drop (t + 1) (phases_in plan)) p e (with_line v.state line)
output_right plan t p j v line number left e is h counts one enters =
    let st = with_line v.state line in
    let numbered : number ≡ j + 1 = counts (few_arrays (j + 1) (length plan.checked.outputs) h.few is.within.outputs) in
    let right = enters plan st is h.session
    (subst (λ n. IsBehindSteps plan n v.face.me left st) (sym numbered) (subst (λ n. IsBehindSteps plan (j + 1) n left st) (sym h.me)
    (h.next left one))) refl refl in
    let past = completed_of (run_in plan) in
    subst (λ n. EntersAs plan (drop (t + 1) (phases_in plan)) n e st) h.me
    (subst (λ fs. EntersAs plan fs v.face.me e st) (ap (λ n. outputs_left plan past n (drop n plan.checked.outputs)) numbered
    ∙ sym h.left) right)
  where
    few_arrays : (n m : ℕ) → n ≤ m → m ≤ 16777216 → n < 2 ^ 32
    few_arrays n m a b = omega (arith, a, b)
