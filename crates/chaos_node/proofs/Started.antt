-- What a node has at its start.
use Rattle.std.specs.Prelude.{◌≡◌, refl, ℕ, zero, suc, ◌+◌, ◌<◌, ◌≤◌, ◌^◌, ◌==◌, Bool, true, false, if◌then◌else◌, ℤ, pos, List, [], ◌∷◌}
use Rattle.std.specs.Prelude.{length, map, replicate, drop, slice_get, slice_set, unwrap_or, Option, Some, None, Result, Ok, Err, IfOk}
use Rattle.std.specs.FinMap as fin
use Rattle.std.specs.List.{AllZip, enumerate_from, range_with_len}
use Rattle.std.proofs.Common.{ap, sym, ◌∙◌, subst, arith}
use Rattle.chaos_dist.specs.Counting.{below}
use Rattle.chaos_dist.specs.Owners.{elements_on, regular_owners}
use Rattle.chaos_dist.specs.declared.shape.Shape.TheVariants.{Block}
use Rattle.fd_words.specs.Lists.{list_at}
use Rattle.fd_program.specs.Layouts.{Scene, owners_at, owners_by, store_at}
use Rattle.fd_program.specs.Past.{form_at, form_set}
use Rattle.fd_program.specs.Places.{parts_of}
use Rattle.fd_program.specs.Reports.{count_at, no_count}
use Rattle.fd_program.specs.Trace.{trace_of}
use Rattle.fd_program.specs.declared.array.LayoutName.{LayoutName}
use Rattle.fd_program.specs.declared.trace.Step.{Step}
use Rattle.chaos_hash.specs.Stamps.{Stamps}
use Rattle.chaos_hash.specs.declared.held.Held.{Held as Entry}
use Rattle.plan_tables.specs.Tables.{no_table}
use Rattle.chaos_records.specs.Keeping.{Keeps as KeepsRecords}
use Rattle.plan_run.specs.Held.{Held, HasPage, HasPlaces, KeepsLoop, Stands, elements_held, entry_at, lines_of, text_on}
use Rattle.chaos_count.specs.Counted.{IsCount}
use Rattle.plan_run.specs.LeftLaws.{phases_few}
use Rattle.plan_run.specs.Rows.{IsRunPlan, RunPlan, face_left, node_row, phases_in, scene_in}
use Rattle.plan_run.specs.StepLaws.{start_stands}
use Rattle.plan_run.specs.declared.kept.Kept.{Kept}
use Rattle.plan_walk.specs.Places.{left_from, whole_from}
use Rattle.plan_walk.specs.StepEnds.{run_starts}
use Rattle.bsp_core.specs.Views.{Face}
use Rattle.chaos_entering.specs.Coming.{Covers, ComesNext, EntersAs, begun_holdings, entered_state, face_entered, noted_if}
use Rattle.chaos_holdings.specs.Keeping.{no_kept}
use Rattle.chaos_entering.specs.Standing.{HasCome, HoldsAt, node_holds, session_in}
use Rattle.chaos_holdings.specs.Starting.{HoldsFirst, block_elements, block_owners, no_pages}
use Rattle.chaos_entering.specs.State.{NodeState, held_of}
use Rattle.chaos_entering.specs.declared.activity.At.{At}
use Rattle.chaos_entering.specs.declared.entered.Entered.{Entered}
use Rattle.chaos_holdings.specs.declared.holdings.Holdings.{Holdings}
use Rattle.chaos_holdings.specs.declared.session.NodeEnd.{NodeEnd}
use Rattle.chaos_holdings.specs.declared.session.Session.{Session}

-- ---- lists of one thing

same_for_each : {A : Type 0} (x : A) (a n : ℕ) → replicate n x ≡ map (λ k. x) (range_with_len a n)
same_for_each x a zero = refl
same_for_each {A} x a (suc n) = ap (λ (l : List A). x ∷ l) (same_for_each x (a + 1) n)

each_same : {A : Type 0} (P : ℕ → A → Type 0) (x : A) → ((k : ℕ) → P k x) → (ks : List ℕ) → AllZip P ks (map (λ k. x) ks)
each_same P x h [] = tt
each_same P x h (k ∷ ks) = (h k, each_same P x h ks)

length_same : {A : Type 0} (x : A) (n : ℕ) → length (replicate n x) ≡ n
length_same x zero = refl
length_same x (suc n) = ap suc (length_same x n)

set_same : {A : Type 0} (x : A) (n k : ℕ) → slice_set (replicate n x) k x ≡ replicate n x
set_same x zero zero = refl
set_same x zero (suc k) = refl
set_same x (suc n) zero = refl
set_same {A} x (suc n) (suc k) = ap (λ (l : List A). x ∷ l) (set_same x n k)

table_of_none : (n d : ℕ) → unwrap_or (slice_get (replicate n no_table) d) no_table ≡ no_table
table_of_none zero zero = refl
table_of_none zero (suc d) = refl
table_of_none (suc n) zero = refl
table_of_none (suc n) (suc d) = table_of_none n d

-- ---- owners

owners_from : (s : Scene) (a : ℕ) (layouts : List LayoutName) → map (λ (d, l). owners_by s l.extent (form_set [] d))
    (enumerate_from a layouts) ≡ block_owners s.nodes layouts
owners_from s a [] = refl
owners_from s a (l ∷ ls) = ap (λ (o : List (List ℕ)). regular_owners Block l.extent s.nodes ∷ o) (owners_from s (a + 1) ls)

elements_from : (nodes : ℕ) (layouts : List LayoutName) (p : ℕ) → block_elements nodes layouts p
    ≡ elements_held (block_owners nodes layouts) p
elements_from nodes [] p = refl
elements_from nodes (l ∷ ls) p = ap (λ (es : List (List ℤ)). map pos (elements_on (regular_owners Block l.extent nodes) p) ∷ es)
    (elements_from nodes ls p)

-- ---- what is held

no_entry : (n d e : ℕ) → entry_at (replicate n no_table) d e ≡ entry_at [] d e
no_entry n d e = ap (λ (t : Stamps). fin.get t.held e) (table_of_none n d ∙ sym (table_of_none 0 d))

abbrev no_bytes : List ℕ
no_bytes = []

either_none : (b : Bool) → no_bytes ≡ (if b then no_bytes else no_bytes)
either_none true = refl
either_none false = refl

no_text : (p : ℕ) (s : Scene) → no_bytes ≡ text_on p (lines_of s [])
no_text p s = either_none (p == 0)

-- a node before its first step
abbrev pub state_first : Session → At → Holdings → NodeEnd → NodeState
state_first s at h e = record { session = s; at = at; holdings = h; text = []; inspected = []; end = e }

pub record EndsNew (s : Session) (e : NodeEnd) : Type 0 where
  pub refused : e.refused ≡ None
  pub counts : e.counts ≡ replicate (length s.checked.sites) no_count

stands_first : (plan : RunPlan) (p : ℕ) (own : List (List ℤ)) (at : At) (h : Holdings) (e : NodeEnd) → HoldsFirst (session_in plan) p own h
    → EndsNew (session_in plan) e
    → own ≡ parts_of plan.checked.arrays (block_owners plan.nodes plan.checked.layouts) plan.store p
    → Stands (scene_in plan) [] p (held_of (state_first (session_in plan) at h e))
stands_first plan p own at h e first new is =
    let s = scene_in plan in
    let owners : owners_at s [] ≡ block_owners plan.nodes plan.checked.layouts = owners_from s 0 plan.checked.layouts in
    let n = length plan.checked.layouts in
    record {
      parts = first.parts ∙ is ∙ ap (λ o. parts_of plan.checked.arrays o plan.store p) (sym owners)
          ∙ ap (λ store. parts_of plan.checked.arrays (owners_at s []) store p) (sym (run_starts plan).store);
      elements = first.elements ∙ elements_from plan.nodes plan.checked.layouts p ∙ ap (λ o. elements_held o p) (sym owners);
      records = subst (KeepsRecords plan.checked []) (sym first.records) (start_stands s p).records;
      pages = subst (λ pages. AllZip (λ d page. HasPage s.nodes p (form_at [] d) (list_at (owners_at s []) d) page) (below n) pages)
          (sym (first.pages ∙ same_for_each None 0 n))
          (each_same (λ d page. HasPage s.nodes p (form_at [] d) (list_at (owners_at s []) d) page) None (λ d. refl) (below n));
      counts = new.counts ∙ same_for_each no_count 0 (length plan.checked.sites);
      places = λ d x entry held. (start_stands s p).places d x entry
          (sym (ap (λ (tables : List Stamps). entry_at tables d x) first.tables ∙ no_entry n d x) ∙ held);
    }

come_first : (plan : RunPlan) (p : ℕ) (own : List (List ℤ)) (at : At) (h : Holdings) (e : NodeEnd) → HoldsFirst (session_in plan) p own h
    → EndsNew (session_in plan) e
    → own ≡ parts_of plan.checked.arrays (block_owners plan.nodes plan.checked.layouts) plan.store p
    → HasCome plan [] (trace_of plan.checked) p (held_of (state_first (session_in plan) at h e))
come_first plan p own at h e first new is =
    let s = scene_in plan in
    let n = length plan.checked.sites in
    record {
      places = (run_starts plan).stands;
      stands = stands_first plan p own at h e first new is;
      keeps = subst (λ (kept : List (Option Kept)). AllZip (λ k. KeepsLoop s [] k p h.tables) (below n) kept)
          (sym (first.kept ∙ same_for_each no_kept 0 n))
          (each_same (λ k. KeepsLoop s [] k p h.tables) no_kept (λ k. refl) (below n));
      inspected = refl;
      text = no_text p s;
      refused = new.refused;
      sized = ap length first.tables ∙ length_same no_table (length plan.checked.layouts);
    }

begun_same : (h : Holdings) (e : Entered) (n : ℕ) → h.kept ≡ replicate n no_kept → begun_holdings h e ≡ h
begun_same h e n none = ap (λ (kept : List (Option Kept)). record h { kept = kept }) (by e.begins)
  where
    by : (b : Bool) → (if b then slice_set h.kept e.at.site no_kept else h.kept) ≡ h.kept
    by true = ap (λ (kept : List (Option Kept)). slice_set kept e.at.site no_kept) none ∙ set_same no_kept n e.at.site ∙ sym none
    by false = refl

-- before the first step nothing is behind
pub next_first : (plan : RunPlan) (p left : ℕ) (own : List (List ℤ)) (at : At) (h : Holdings) (e : NodeEnd) → p < plan.nodes
    → HoldsFirst (session_in plan) p own h → EndsNew (session_in plan) e
    → own ≡ parts_of plan.checked.arrays (block_owners plan.nodes plan.checked.layouts) plan.store p
    → left ≡ length (whole_from plan [] (trace_of plan.checked))
    → ComesNext plan [] (trace_of plan.checked) p left (state_first (session_in plan) at h e)
next_first plan p left own at h e less first new is left_is = record {
  session = refl;
  node = less;
  come = come_first plan p own at h e first new is;
  left_is = left_is;
}

-- what was entered then is the first row
pub starts_right : (plan : RunPlan) (p : ℕ) (own : List (List ℤ)) (h : Holdings) (end : NodeEnd) (e : Entered) (st : NodeState)
    → HoldsFirst (session_in plan) p own h
    → EntersAs plan (left_from plan [] (trace_of plan.checked)) p e (state_first (session_in plan) e.at h end)
    → st ≡ record (state_first (session_in plan) e.at h end) { inspected = noted_if e.begins e.at.execution [] }
    → (face_entered p plan.nodes e ≡ node_row plan 0 p) × node_holds plan 0 p st
starts_right plan p own h end e st first right is = (
  right.face ∙ ap (λ fs. face_left (scene_in plan) fs p) (sym (run_starts plan).left),
  subst (λ fs. HoldsAt plan fs p st) (sym (run_starts plan).left)
      (subst (HoldsAt plan (left_from plan [] (trace_of plan.checked)) p)
      (ap (λ (x : Holdings). record (state_first (session_in plan) e.at x end) { inspected = noted_if e.begins e.at.execution [] })
      (begun_same h e (length plan.checked.sites) first.kept) ∙ sym is) right.holds),
)

-- the count of the phases of a plan
pub count_small : (plan : RunPlan) (n : ℕ) → IsRunPlan plan → IsCount plan.checked plan.nodes plan.rule (trace_of plan.checked) n
    → (n ≡ length (whole_from plan [] (trace_of plan.checked))) × (n < 2 ^ 31)
count_small plan n is count =
    let steps : length (trace_of plan.checked) ≤ 20000 = is.within.steps in
    let outputs : length plan.checked.outputs ≤ 16777216 = is.within.outputs in
    let few = phases_few plan.checked plan.nodes plan.rule [] (trace_of plan.checked) in
    let e : n ≡ length (whole_from plan [] (trace_of plan.checked)) = count refl (omega (arith, steps, outputs)) in
    (e, omega (arith, e, few, steps, outputs))

pub covers_same : (kept now : List (Option Kept)) → kept ≡ now → Covers kept now
covers_same kept now same = subst (λ x. Covers x now) (sym same) (record { records = refl; inspections = λ k x held. held })

-- a node begins with the first row, and with what holds there
pub started : (s : Session) (p left : ℕ) (own : List (List ℤ)) (h : Holdings) (end : NodeEnd) (e : Entered) (face : Face) (st : NodeState)
    → p < s.nodes → HoldsFirst s p own h → EndsNew s end
    → ((plan : RunPlan) → IsRunPlan plan → s ≡ session_in plan → left ≡ length (whole_from plan [] s.trace))
    → ((plan : RunPlan) → IsRunPlan plan → s ≡ session_in plan → ComesNext plan [] (trace_of plan.checked) p left
    (state_first (session_in plan) e.at h end)
    → EntersAs plan (left_from plan [] (trace_of plan.checked)) p e (state_first (session_in plan) e.at h end))
    → face ≡ face_entered p s.nodes e → st ≡ record (state_first s e.at h end) { inspected = noted_if e.begins e.at.execution [] }
    → (plan : RunPlan) → IsRunPlan plan → s ≡ session_in plan
    → own ≡ parts_of plan.checked.arrays (block_owners plan.nodes plan.checked.layouts) plan.store p
    → (face ≡ node_row plan 0 p) × node_holds plan 0 p st
started s p left own h end e face st less first new left_is right face_is st_is plan is same own_is =
    let firsts = subst (λ x. HoldsFirst x p own h) same first in
    let counts = subst (λ x. EndsNew x end) same new in
    let node : p < plan.nodes = subst (λ (x : Session). p < x.nodes) same less in
    let count = left_is plan is same ∙ ap (λ (x : Session). length (whole_from plan [] x.trace)) same in
    let next = next_first plan p left own e.at h end node firsts counts own_is count in
    let done = starts_right plan p own h end e st firsts (right plan is same next)
    (st_is ∙ ap (λ (x : Session). record (state_first x e.at h end) { inspected = noted_if e.begins e.at.execution [] }) same) in
    (face_is ∙ ap (λ (x : Session). face_entered p x.nodes e) same ∙ done.0, done.1)

-- so it is in a session
pub count_in : (s : Session) (n : ℕ) → IsCount s.checked s.nodes s.rule s.trace n → (plan : RunPlan) → IsRunPlan plan → s ≡ session_in plan
    → (n ≡ length (whole_from plan [] s.trace)) × (n < 2 ^ 31)
count_in s n count plan is same =
    let both = count_small plan n is (subst (λ (x : Session). IsCount x.checked x.nodes x.rule x.trace n) same count) in
    (both.0 ∙ sym (ap (λ (x : Session). length (whole_from plan [] x.trace)) same), both.1)

-- two facts of what is there give a third
pub if_both : {A E : Type 0} (r : Result A E) (P Q R : A → Type 0) → ((x : A) → P x → Q x → R x) → IfOk r P → IfOk r Q → IfOk r R
if_both (Ok x) P Q R f p q = f x p q
if_both (Err e) P Q R f p q = tt
