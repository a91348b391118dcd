-- A phase in which an array is printed, as it is entered, and the end behind the last.
use Rattle.std.specs.Prelude.{◌≡◌, refl, ℕ, zero, suc, ◌+◌, ◌<◌, ◌≤◌, ◌^◌, ℤ, Bool, true, false, if◌then◌else◌, List, [], ◌∷◌, ◌++◌, length}
use Rattle.std.specs.Prelude.{drop, reverse, slice_get, slice_set, Some, None, vec_capacity}
use Rattle.std.proofs.Common.{ap, sym, ◌∙◌, subst, arith}
use Rattle.fd_words.specs.Lists.{list_at}
use Rattle.bsp_core.specs.Views.{Ascends, Face, nodes_in}
use Rattle.chaos_letter.specs.declared.letter.Letter.{Letter}
use Rattle.chaos_letter.specs.declared.wanted.Wanted.{Wanted}
use Rattle.plan_walk.specs.Letters.{letter_in, number_in, wanted_in}
use Rattle.plan_walk.specs.LetterLaws.{free_is_counted, is_for_all, naming_at, print_is_sent, rows_are_made, sends_in, takes_in}
use Rattle.plan_walk.specs.PhaseBegins.{outputs_follow, phases_are_counted, phases_follow}
use Rattle.plan_walk.specs.Places.{left_in, output_phase, outputs_left, present_phase}
use Rattle.plan_walk.specs.declared.stages.Naming.{Naming}
use Rattle.chaos_print.proofs.InPlan.{plans_can_print}
use Rattle.chaos_print.proofs.OwnRows.{rows_are_held}
use Rattle.chaos_print.specs.Printing.{rows_held}
use Rattle.plan_run.specs.CompletedLaws.{completed_first}
use Rattle.plan_run.specs.Held.{Stands}
use Rattle.plan_run.specs.Phases.{Phase, is_free, is_sent, print_rows}
use Rattle.plan_run.specs.Picks.{picked, picked_ascends}
use Rattle.plan_run.specs.RowLaws.{not_sent}
use Rattle.plan_run.specs.Rows.{IsRunPlan, RunPlan, face_left, run_in, scene_in}
use Rattle.plan_run.specs.declared.stage.Stage.TheVariants as stage
use Rattle.fd_program.specs.Layouts.{Scene, owners_at, store_at}
use Rattle.fd_program.specs.Reports.{completed_of}
use Rattle.fd_program.specs.RunLaws.{IsHistory}
use Rattle.fd_program.specs.Trace.{trace_of}
use Rattle.fd_program.specs.declared.array.OutputName.{OutputName}
use Rattle.fd_program.specs.declared.trace.Step.{Step}
use Rattle.fd_program.specs.declared.trace.Step.TheVariants.{Print}
use Rattle.chaos_entering.specs.Coming.{CanStand, IsBehindSteps, IsComing, EntersAs, IsSoundActivity, entered_state, face_entered, noted_if}
use Rattle.chaos_entering.specs.Entering.{ArePosted, IsRows, phase_with}
use Rattle.chaos_holdings.specs.Keeping.{no_kept}
use Rattle.chaos_entering.specs.Standing.{StandsInStep, IsOutput, StandsAtEnd, IsPlace, IsPrint, KnowsInStep, KnowsBehind, session_in}
use Rattle.chaos_entering.specs.State.{NodeState, held_of}
use Rattle.chaos_entering.specs.declared.activity.Activity.{Activity}
use Rattle.chaos_entering.specs.declared.activity.Activity.TheVariants.{Printing, Output, Ended}
use Rattle.chaos_entering.specs.declared.activity.At.{At}
use Rattle.chaos_entering.specs.declared.entered.Entered.{Entered}
use Rattle.chaos_entering.specs.declared.entered.Posted.{Posted}
use Rattle.chaos_holdings.specs.declared.session.Session.{Session}

-- ---- an entered phase

-- the state but for its place, as the inspection of a FORALL begins or doesn't
abbrev state_with : NodeState → Entered → Bool → NodeState
state_with st e b = record st {
  at = e.at;
  inspected = noted_if b e.at.execution st.inspected;
  holdings = record st.holdings { kept = if b then slice_set st.holdings.kept e.at.site no_kept else st.holdings.kept };
}

-- what is held stays where no inspection begins
pub holds_same : (st : NodeState) (e : Entered) → e.begins ≡ false → held_of st ≡ held_of (entered_state st e)
holds_same st e plain = ap (λ b. held_of (state_with st e b)) (sym plain)

-- ---- letters and wants

all_below : (n : ℕ) → 0 + n ≤ n
all_below n = omega arith

with_none : (got : List Letter) (due room : ℕ) → got ≡ [] → due ≤ room → length got + due ≤ room
with_none got due room e h = let none : length got ≡ 0 = ap (λ (l : List Letter). length l) e in omega (arith, none, h)

pub no_more : (a b : ℕ) → a ≡ b → a ≤ b
no_more a b e = omega (arith, e)

at_most : (a b : ℕ) → a ≤ b → b ≤ a → a ≡ b
at_most a b h g = omega (arith, h, g)

no_bool : {A : Type 0} → false ≡ true → A
no_bool e = absurd (let h : ⊥ = cc in h)

pub rows_stand : (n : Naming) (me nodes : ℕ) (activity : Activity) (rows : List ℤ) (left : ℕ) (e : Entered)
    → IsRows n me nodes activity rows left e → left < 2 ^ 31
    → is_for_all n.stage ≡ false → IsSoundActivity activity → CanStand me nodes e
rows_stand n me nodes activity rows left e h less kind sound = record {
  left = subst (λ k. k < 2 ^ 31) (sym h.left_is) less;
  out = subst (λ (l : List (ℕ × Letter)). Ascends me nodes 0 (nodes_in l)) (sym h.posted.out)
      (picked_ascends (λ q. letter_in n (list_at (rows ∷ []) q)) (λ q. is_sent n.stage me q) me nodes 0 nodes (all_below nodes)
      (not_sent n.stage me));
  due = subst (λ (l : List (ℕ × Wanted)). Ascends me nodes 0 (nodes_in l)) (sym h.posted.due)
      (picked_ascends (λ q. wanted_in n (number_in [] q)) (λ q. is_sent n.stage q me) me nodes 0 nodes (all_below nodes)
      (not_sent n.stage me));
  room = with_none e.got.items (length e.due.items) (vec_capacity e.got) h.posted.got h.posted.room;
  number = λ b. no_bool (sym h.begins ∙ b);
  sound = subst IsSoundActivity (sym (ap (λ (a : At). a.activity) h.at)) sound;
}

abbrev face : ℕ → ℕ → ℕ → List (ℕ × Letter) → List (ℕ × Wanted) → List Letter → Face
face me nodes left out due got = record { me = me; count = nodes; left = left; out = out; due = due; got = got }

face_with : (me nodes : ℕ) {a b : ℕ} {x y : List (ℕ × Letter)} {v w : List (ℕ × Wanted)} {g z : List Letter} → x ≡ y → v ≡ w → a ≡ b → g ≡ z
    → face me nodes a x v g ≡ face me nodes b y w z
face_with me nodes {a} {b} {x} {y} {v} {w} {g} {z} p q r t =
    ap (λ o. face me nodes a o v g) p ∙ ap (λ d. face me nodes a y d g) q ∙ ap (λ k. face me nodes k y w g) r ∙ ap (face me nodes b y w) t

-- it is the face of the phase
pub rows_face : (s : Scene) (f : Phase) (later : List Phase) (array me left : ℕ) (activity : Activity) (n : Naming) (rows : List ℤ)
    (e : Entered)
    → f.step ≡ Print array → is_for_all f.stage ≡ false → is_free f.stage ≡ true → n ≡ naming_at s f → left ≡ f.left
    → rows ≡ print_rows s.checked (owners_at s f.past) (store_at s f.past) array me → IsRows n me s.nodes activity rows left e
    → face_entered me s.nodes e ≡ face_left s (f ∷ later) me
rows_face s f later array me left activity n rows e step kind free named counted own h =
    let right = print_rows s.checked (owners_at s f.past) (store_at s f.past) array me in
    let out : e.out.items ≡ sends_in s f me (right ∷ [])
    = h.posted.out ∙ ap (λ (m : Naming). picked (λ q. letter_in m (list_at (rows ∷ []) q)) (λ q. is_sent m.stage me q) 0 s.nodes) named
    ∙ ap (λ (l : List ℤ). sends_in s f me (l ∷ [])) own in
    let due : e.due.items ≡ takes_in s f me []
    = h.posted.due ∙ ap (λ (m : Naming). picked (λ q. wanted_in m (number_in [] q)) (λ q. is_sent m.stage q me) 0 s.nodes) named in
    face_with me s.nodes out due (h.left_is ∙ counted) h.posted.got
    ∙ sym (rows_are_made s f later me (right ∷ []) [] (print_is_sent s f array me step kind) (free_is_counted s f me [] free))

-- ---- a PRINT

-- the rows that a node finds are those that it sends
pub rows_are : (plan : RunPlan) (past rest : List Step) (p array : ℕ) (st : NodeState) (elements parts : List (List ℤ)) → IsRunPlan plan
    → reverse past ++ rest ≡ trace_of plan.checked → IsHistory (scene_in plan) past → Stands (scene_in plan) past p (held_of st)
    → elements ≡ st.holdings.elements → parts ≡ st.holdings.parts
    → rows_held plan.checked.arrays elements parts array ≡ print_rows plan.checked (owners_at (scene_in plan) past)
    (store_at (scene_in plan) past) array p
rows_are plan past rest p array st elements parts known trace history stands same equal =
    ap (λ l. rows_held plan.checked.arrays l parts array) same ∙ ap (λ l. rows_held plan.checked.arrays st.holdings.elements l array) equal
    ∙ rows_are_held (scene_in plan) past p array (held_of st) known.checked (plans_can_print plan past rest known.checked known.store
    trace history).owned stands

-- the place of a PRINT
place_of : (plan : RunPlan) (phases : List Phase) (p array : ℕ) (st : NodeState) (past rest : List Step)
    → array ≡ st.at.site → StandsInStep plan phases past (Print array) rest stage.Print [] p st → IsPrint plan phases p st
place_of plan phases p array st past rest same h = record {
  past = past;
  rest = rest;
  in_step = subst (λ a. StandsInStep plan phases past (Print a) rest stage.Print [] p st) same h;
}

pub print_is_right : (plan : RunPlan) (past rest : List Step) (array p left : ℕ) (st : NodeState) (n : Naming) (rows : List ℤ) (e : Entered)
    → n ≡ record { stage = stage.Print; execution = length past; site = array; group = 2 }
    → IsComing plan past (Print array) rest stage.Print [] p left st
    → rows ≡ print_rows plan.checked (owners_at (scene_in plan) past) (store_at (scene_in plan) past) array p
    → IsRows n p plan.nodes Printing rows left e
    → EntersAs plan (left_in plan past (Print array) rest (stage.Print ∷ [])) p e st
print_is_right plan past rest array p left st n rows e named coming own h =
    let s = scene_in plan in
    let at_site : array ≡ (entered_state st e).at.site = sym (ap (λ (a : At). a.site) h.at ∙ ap (λ (m : Naming). m.site) named) in
    let knows = subst (λ v. KnowsInStep s (run_in plan) past (Print array) stage.Print p v) (holds_same st e h.begins) coming.knows in
    record {
      face = rows_face s (present_phase plan past (Print array) rest stage.Print []) (left_in plan past (Print array) rest []) array p
          left Printing n rows e
          refl refl refl named (coming.left_is ∙ sym ((phases_are_counted plan past).stages (Print array) rest stage.Print [])) own h
          ∙ ap (λ l. face_left s l p) (sym (phases_follow plan past (Print array) rest stage.Print [] refl));
      holds = record {
        session = coming.session;
        place = subst (λ a. IsPlace plan (left_in plan past (Print array) rest (stage.Print ∷ [])) p (entered_state st e) a)
            (sym (ap (λ (a : At). a.activity) h.at))
            (place_of plan (left_in plan past (Print array) rest (stage.Print ∷ [])) p array (entered_state st e) past rest at_site
            (record {
              places = coming.places;
              phases_are = refl;
              execution = ap (λ (a : At). a.execution) h.at ∙ ap (λ (m : Naming). m.execution) named;
              site = sym at_site;
              own = ap (λ (a : At). a.own) h.at ∙ own;
              knows = knows;
            }));
      };
    }

-- ---- OUTPUT

pub output_is_right : (plan : RunPlan) (name : OutputName) (j p left : ℕ) (st : NodeState) (n : Naming) (rows : List ℤ) (e : Entered)
    → drop j plan.checked.outputs ≡ name ∷ drop (j + 1) plan.checked.outputs
    → n ≡ record { stage = stage.Output j; execution = length (trace_of plan.checked) + j; site = name.array; group = 2 }
    → IsBehindSteps plan j p left st
    → rows ≡ print_rows plan.checked (owners_at (scene_in plan) (completed_of (run_in plan)))
    (store_at (scene_in plan) (completed_of (run_in plan))) name.array p
    → IsRows n p plan.nodes (Output j) rows left e
    → EntersAs plan (outputs_left plan (completed_of (run_in plan)) j (drop j plan.checked.outputs)) p e st
output_is_right plan name j p left st n rows e there named behind own h =
    let s = scene_in plan in
    let past = completed_of (run_in plan) in
    let names = drop (j + 1) plan.checked.outputs in
    let phases = outputs_left plan past j (name ∷ names) in
    let at_site : (entered_state st e).at.site ≡ name.array = ap (λ (a : At). a.site) h.at ∙ ap (λ (m : Naming). m.site) named in
    let place : IsOutput plan phases j p (entered_state st e) = record {
      name = name;
      names = names;
      named = there;
      phases_are = refl;
      execution = ap (λ (a : At). a.execution) h.at ∙ ap (λ (m : Naming). m.execution) named;
      site = at_site;
      own = ap (λ (a : At). a.own) h.at ∙ own;
      knows = subst (λ v. KnowsBehind s (run_in plan) past j p v) (holds_same st e h.begins) behind.knows;
    } in
    let right : EntersAs plan phases p e st = record {
      face = rows_face s (output_phase plan past j name names) (outputs_left plan past (j + 1) names) name.array p left (Output j) n rows e
          refl refl refl named (behind.left_is ∙ ap length there ∙ sym ((phases_are_counted plan past).outputs j name names)) own h
          ∙ ap (λ l. face_left s l p) (sym (outputs_follow plan past j name names));
      holds = record {
        session = behind.session;
        place = subst (λ a. IsPlace plan phases p (entered_state st e) a) (sym (ap (λ (a : At). a.activity) h.at)) place;
      };
    } in
    subst (λ os. EntersAs plan (outputs_left plan past j os) p e st) (sym there) right

-- ---- the end

-- no letters, and no phase left
pub record IsEnd (e : Entered) : Type 0 where
  pub left : e.left ≡ 0
  pub begins : e.begins ≡ false
  pub out : e.out.items ≡ []
  pub due : e.due.items ≡ []
  pub got : e.got.items ≡ []
  pub activity : e.at.activity ≡ Ended

drop_all : {A : Type 0} (xs : List A) → drop (length xs) xs ≡ []
drop_all [] = refl
drop_all (x ∷ xs) = drop_all xs

pub end_is_right : (plan : RunPlan) (j p left : ℕ) (st : NodeState) (e : Entered) → length plan.checked.outputs ≤ j
    → IsBehindSteps plan j p left st → IsEnd e
    → EntersAs plan (outputs_left plan (completed_of (run_in plan)) j (drop j plan.checked.outputs)) p e st
end_is_right plan j p left st e most behind h =
    let s = scene_in plan in
    let past = completed_of (run_in plan) in
    let all : j ≡ length plan.checked.outputs = at_most j (length plan.checked.outputs) behind.within most in
    let none : drop j plan.checked.outputs ≡ [] = ap (λ k. drop k plan.checked.outputs) all ∙ drop_all plan.checked.outputs in
    let over : StandsAtEnd plan [] p (entered_state st e) = record {
      none_left = refl;
      knows = subst (λ k. KnowsBehind s (run_in plan) past k p (held_of (entered_state st e))) all
          (subst (λ v. KnowsBehind s (run_in plan) past j p v) (holds_same st e h.begins) behind.knows);
    } in
    let right : EntersAs plan [] p e st = record {
      face = face_with p s.nodes h.out h.due h.left h.got;
      holds = record {
        session = behind.session;
        place = subst (λ a. IsPlace plan [] p (entered_state st e) a) (sym h.activity) over;
      };
    } in
    subst (λ os. EntersAs plan (outputs_left plan past j os) p e st) (sym none) right

-- ---- what the functions give

pub posted_alone : (n : Naming) (me nodes : ℕ) (own : List ℤ) (lists : List (List ℤ)) (p : Posted) → lists ≡ own ∷ []
    → ArePosted n me nodes lists [] p
    → ArePosted n me nodes (own ∷ []) [] p
posted_alone n me nodes own lists p e h = subst (λ l. ArePosted n me nodes l [] p) e h

-- a phase with these letters, with its own rows and no lengths
rows_of : (n : Naming) (me nodes : ℕ) (activity : Activity) (rows : List ℤ) (left : ℕ) (p : Posted) → ArePosted n me nodes (rows ∷ []) [] p
    → IsRows n me nodes activity rows left (phase_with n activity rows [] left p)
rows_of n me nodes activity rows left p h = record {
  at = refl;
  begins = refl;
  left_is = refl;
  posted = record { out = h.out; due = h.due; got = h.got; room = h.room };
}

pub is_rows : (n : Naming) (me nodes : ℕ) (activity : Activity) (rows own : List ℤ) (sizes : List ℕ) (left : ℕ) (p : Posted) (e : Entered)
    → own ≡ rows → sizes ≡ [] → ArePosted n me nodes (own ∷ []) [] p → e ≡ phase_with n activity own sizes left p
    → IsRows n me nodes activity rows left e
is_rows n me nodes activity rows own sizes left p e same none h is =
    subst (IsRows n me nodes activity rows left) (sym (is ∙ ap (λ (l : List ℕ). phase_with n activity own l left p) none
    ∙ ap (λ (l : List ℤ). phase_with n activity l [] left p) same))
    (rows_of n me nodes activity rows left p (subst (λ (l : List ℤ). ArePosted n me nodes (l ∷ []) [] p) same h))

pub print_enters : (session : Session) (plan : RunPlan) (past rest : List Step) (execution array me left : ℕ) (st : NodeState)
    (elements parts : List (List ℤ)) (e : Entered)
    → IsRows (record { stage = stage.Print; execution = execution; site = array; group = 2 }) me session.nodes Printing
    (rows_held session.checked.arrays elements parts array) left e
    → IsRunPlan plan → session ≡ session_in plan → execution ≡ length past → IsComing plan past (Print array) rest stage.Print [] me left st
    → elements ≡ st.holdings.elements → parts ≡ st.holdings.parts → EntersAs plan (left_in plan past (Print array) rest (stage.Print ∷ []))
    me e st
print_enters session plan past rest execution array me left st elements parts e h known same number coming equal alike =
    let n : Naming = record { stage = stage.Print; execution = execution; site = array; group = 2 } in
    print_is_right plan past rest array me left st n (rows_held plan.checked.arrays elements parts array) e
    (ap (λ k. let m : Naming = record { stage = stage.Print; execution = k; site = array; group = 2 } in m) number) coming
    (rows_are plan past (Print array ∷ rest) me array st elements parts known coming.places.trace coming.places.history
    coming.knows.stands equal alike)
    (subst (λ (x : Session). IsRows n me x.nodes Printing (rows_held x.checked.arrays elements parts array) left e) same h)

drop_some : (xs : List OutputName) (j : ℕ) (x : OutputName) → slice_get xs j ≡ Some x → drop j xs ≡ x ∷ drop (j + 1) xs
drop_some [] zero x e = cc
drop_some [] (suc j) x e = cc
drop_some (y ∷ ys) zero x e = let same : y ≡ x = cc in ap (λ (z : OutputName). z ∷ ys) same
drop_some (y ∷ ys) (suc j) x e =
    drop_some ys j x e ∙ ap (λ (l : List OutputName). x ∷ l) (drop_on ys j)
  where
    drop_on : (ys : List OutputName) (j : ℕ) → drop (j + 1) ys ≡ drop (suc j + 1) (y ∷ ys)
    drop_on ys j = let next : suc j + 1 ≡ suc (j + 1) = omega arith in sym (ap (λ k. drop k (y ∷ ys)) next)

pub output_enters : (session : Session) (plan : RunPlan) (execution j me left : ℕ) (name : OutputName) (st : NodeState)
    (elements parts : List (List ℤ)) (e : Entered)
    → slice_get session.checked.outputs j ≡ Some name → execution ≡ length session.trace + j
    → IsRows (record { stage = stage.Output j; execution = execution; site = name.array; group = 2 }) me session.nodes (Output j)
    (rows_held session.checked.arrays elements parts name.array) left e
    → IsRunPlan plan → session ≡ session_in plan → IsBehindSteps plan j me left st
    → elements ≡ st.holdings.elements → parts ≡ st.holdings.parts
    → EntersAs plan (outputs_left plan (completed_of (run_in plan)) j (drop j plan.checked.outputs)) me e st
output_enters session plan execution j me left name st elements parts e there numbered h known same behind equal alike =
    let n : Naming = record { stage = stage.Output j; execution = execution; site = name.array; group = 2 } in
    let rest = completed_first plan in
    output_is_right plan name j me left st n (rows_held plan.checked.arrays elements parts name.array) e
    (drop_some plan.checked.outputs j name (ap (λ (x : Session). slice_get x.checked.outputs j) (sym same) ∙ there))
    (ap (λ k. let m : Naming = record { stage = stage.Output j; execution = k; site = name.array; group = 2 } in m) (numbered
    ∙ ap (λ (x : Session). length x.trace + j) same)) behind
    (rows_are plan (completed_of (run_in plan)) rest.0 me name.array st elements parts known rest.1 behind.knows.history
    behind.knows.stands equal alike)
    (subst (λ (x : Session). IsRows n me x.nodes (Output j) (rows_held x.checked.arrays elements parts name.array) left e) same h)

-- behind the last there is none
none_behind : (xs : List OutputName) (j : ℕ) → slice_get xs j ≡ None → length xs ≤ j
none_behind [] j e = omega arith
none_behind (x ∷ xs) zero e = cc
none_behind (x ∷ xs) (suc j) e = omega (arith, none_behind xs j e)

pub end_enters : (session : Session) (plan : RunPlan) (j me left : ℕ) (st : NodeState) (e : Entered) → slice_get session.checked.outputs j
    ≡ None → IsEnd e
    → session ≡ session_in plan → IsBehindSteps plan j me left st
    → EntersAs plan (outputs_left plan (completed_of (run_in plan)) j (drop j plan.checked.outputs)) me e st
end_enters session plan j me left st e none h same behind =
    end_is_right plan j me left st e (none_behind plan.checked.outputs j (ap (λ (x : Session). slice_get x.checked.outputs j) (sym same)
    ∙ none)) behind h
