-- The letters and the actions of a plan are those that are due.
use Rattle.std.proofs.Common.{◌≡◌, ◌≢◌, ◌==◌, ℕ, suc, zero, ◌+◌, ◌-◌, ◌*◌, ◌<◌, ◌≤◌, Bool, true, false, List, [], ◌∷◌, ◌++◌, if◌then◌else◌}
use Rattle.std.proofs.Common.{length, take, drop, arith, refl, sym, ◌∙◌, ap, not, ◌&&◌, inl, inr, length-append}
use Rattle.std.specs.Prelude.{Some, None, filter_map}
use Rattle.std.specs.List.{cons_option}
use Rattle.std.proofs.lemmas.Bool.{cases_eq}
use Rattle.std.proofs.lemmas.Bool.Decides.{nat_tests}
use Rattle.std.proofs.lemmas.List.Elements.{filter_map-append}
use Rattle.std.proofs.lemmas.List.Sums.{sum_by-append}
use Rattle.chaos_letter.specs.declared.letter.Letter.{Letter}
use Rattle.bsp_core.specs.Views.{Face, for_node}
use Rattle.bsp_core.specs.Lockstep.{upto, IsEnd, sum_below, letters_before}
use Rattle.fd_program.specs.Layouts.{Scene}
use Rattle.plan_run.specs.declared.stage.Stage.{Stage}
use Rattle.plan_run.specs.declared.stage.Stage.TheVariants as stage
use Rattle.plan_run.specs.Phases.{Phase, letter_of, is_sent, due, due_in, due_list, letters_in, moves_in_phases, run_moves}
use Rattle.plan_run.specs.Picks.{picked_one}
use Rattle.plan_run.specs.Rows.{RunPlan, scene_in, phases_in, face_left, node_row}
use Rattle.plan_run.specs.RowLaws.{Falls, left_of, left_face, falls_in, falls_drop}

-- at the end of the plan the letters from p to q are those that are due in the run
abbrev pub RowsHaveDueLists : Type 0
RowsHaveDueLists = (plan : RunPlan) (p q end : ℕ) → q < plan.nodes → IsEnd (node_row plan) end
    → upto (node_row plan) p q end ≡ due_list plan.checked plan.nodes plan.rule plan.store p q

-- and there are two actions for each letter, and one work of each node in each phase
abbrev pub RowsHaveMoves : Type 0
RowsHaveMoves = (plan : RunPlan) (end : ℕ) → 0 < plan.nodes → IsEnd (node_row plan) end
    → 2 * letters_before (node_row plan) plan.nodes end + plan.nodes * end ≡ run_moves plan.checked plan.nodes plan.rule plan.store

-- ---- the letters before a phase

take_more : {A : Type 0} (t : ℕ) (xs : List A) → take (suc t) xs ≡ take t xs ++ take 1 (drop t xs)
take_more zero [] = refl
take_more zero (x ∷ xs) = refl
take_more (suc t) [] = refl
take_more (suc t) (x ∷ xs) = ap (λ l. x ∷ l) (take_more t xs)

as_due : (b : Bool) (x : Letter) → (if b then x ∷ [] else []) ≡ cons_option (if b then Some x else None) []
as_due true x = refl
as_due false x = refl

row_letters : (s : Scene) (fs : List Phase) (p q : ℕ) → q < s.nodes → for_node q (face_left s fs p).out ≡ due_in s (take 1 fs) p q
row_letters s [] p q h = refl
row_letters s (f ∷ rest) p q h =
    picked_one (letter_of s f p) (is_sent f.stage p) q 0 s.nodes (omega arith) (omega (arith, h))
    ∙ as_due (is_sent f.stage p q) (letter_of s f p q)

pub upto_due : (plan : RunPlan) (p q t : ℕ) → q < plan.nodes → upto (node_row plan) p q t ≡ due_in (scene_in plan)
    (take t (phases_in plan)) p q
upto_due plan p q zero h = refl
upto_due plan p q (suc t) h =
    let s = scene_in plan in
    let fs = phases_in plan in
    ap (λ l. l ++ for_node q (node_row plan t p).out) (upto_due plan p q t h)
    ∙ ap (λ l. due_in s (take t fs) p q ++ l) (row_letters s (drop t fs) p q h)
    ∙ sym (filter_map-append (due s p q) (take t fs) (take 1 (drop t fs)))
    ∙ ap (filter_map (due s p q)) (sym (take_more t fs))

-- ---- the end

none_left : (fs : List Phase) → Falls fs → left_of fs ≡ 0 → fs ≡ []
none_left [] h e = refl
none_left (f ∷ rest) h e = absurd (omega (arith, h.0, e))

takes_whole : {A : Type 0} (t : ℕ) (xs : List A) → drop t xs ≡ [] → take t xs ≡ xs
takes_whole zero xs e = sym e
takes_whole (suc t) [] e = refl
takes_whole (suc t) (x ∷ xs) e = ap (λ l. x ∷ l) (takes_whole t xs e)

pub end_drops : (plan : RunPlan) (end : ℕ) → IsEnd (node_row plan) end → drop end (phases_in plan) ≡ []
end_drops plan end h =
    none_left (drop end (phases_in plan)) (falls_drop end (phases_in plan) (falls_in plan))
    (sym (left_face (scene_in plan) (drop end (phases_in plan)) 0) ∙ h.0)

pub rows_have_due_lists : RowsHaveDueLists
rows_have_due_lists plan p q end h e =
    upto_due plan p q end h ∙ ap (λ fs. due_in (scene_in plan) fs p q) (takes_whole end (phases_in plan) (end_drops plan end e))

-- ---- sums over nodes

sum_ext : (n : ℕ) (f g : ℕ → ℕ) → ((p : ℕ) → p < n → f p ≡ g p) → sum_below n f ≡ sum_below n g
sum_ext zero f g h = refl
sum_ext (suc n) f g h = omega (arith, sum_ext n f g (λ p l. h p (omega (arith, l))), h n (omega arith))

sum_add : (n : ℕ) (f g : ℕ → ℕ) → sum_below n (λ p. f p + g p) ≡ sum_below n f + sum_below n g
sum_add zero f g = refl
sum_add (suc n) f g = omega (arith, sum_add n f g)

sum_same : (n k : ℕ) → sum_below n (λ p. k) ≡ n * k
sum_same zero k = omega arith
sum_same (suc n) k = let next : suc n * k ≡ n * k + k = omega arith in omega (arith, sum_same n k, next)

pairs_add : (n : ℕ) (f g : ℕ → ℕ → ℕ)
    → sum_below n (λ p. sum_below n (λ q. f p q + g p q)) ≡ sum_below n (λ p. sum_below n (f p)) + sum_below n (λ p. sum_below n (g p))
pairs_add n f g =
    sum_ext n (λ p. sum_below n (λ q. f p q + g p q)) (λ p. sum_below n (f p) + sum_below n (g p)) (λ p l. sum_add n (f p) (g p))
    ∙ sum_add n (λ p. sum_below n (f p)) (λ p. sum_below n (g p))

pairs_ext : (n : ℕ) (f g : ℕ → ℕ → ℕ) → ((p q : ℕ) → q < n → f p q ≡ g p q)
    → sum_below n (λ p. sum_below n (f p)) ≡ sum_below n (λ p. sum_below n (g p))
pairs_ext n f g h = sum_ext n (λ p. sum_below n (f p)) (λ p. sum_below n (g p)) (λ p l. sum_ext n (f p) (g p) (h p))

-- ---- how many letters a phase has

abbrev pub one_if_true : Bool → ℕ
one_if_true b = if b then 1 else 0

is_other : (p q : ℕ) → p ≡ q → one_if_true (not (p == q)) ≡ 0
is_other p q e = grind (arith, nat_tests)

is_one : (p q : ℕ) → p ≢ q → one_if_true (not (p == q)) ≡ 1
is_one p q e = grind (arith, nat_tests)

-- the nodes below m other than p
all_below : (m p : ℕ) → m ≤ p → sum_below m (λ q. one_if_true (not (p == q))) ≡ m
all_below zero p h = refl
all_below (suc m) p h = omega (arith, all_below m p (omega (arith, h)), is_one p m (λ e. absurd (omega (arith, h, e))))

others_below : (m p : ℕ) → p < m → sum_below m (λ q. one_if_true (not (p == q))) ≡ m - 1
others_below zero p h = absurd (omega (arith, h))
others_below (suc m) p h = elim (cases_eq p m) [
  | inl e ↦ omega (arith, all_below m p (omega (arith, e)), is_other p m e)
  | inr e ↦ omega (arith, others_below m p (omega (arith, h, e)), is_one p m e, h, e)
]

to_all : (n : ℕ) → sum_below n (λ p. sum_below n (λ q. one_if_true (not (p == q)))) ≡ n * (n - 1)
to_all n = sum_ext n (λ p. sum_below n (λ q. one_if_true (not (p == q)))) (λ p. n - 1) (λ p l. others_below n p l) ∙ sum_same n (n - 1)

not_first : (m : ℕ) → (suc m == 0) ≡ false
not_first m = grind (arith, nat_tests)

-- p sends to the first alone
to_one : (m p : ℕ) → sum_below (suc m) (λ q. one_if_true (not (p == q) && (q == 0))) ≡ one_if_true (not (p == 0))
to_one zero p = by (not (p == 0))
  where
    by : (b : Bool) → 0 + one_if_true (b && true) ≡ one_if_true b
    by true = refl
    by false = refl
to_one (suc m) p = omega (arith, to_one m p, none (not (p == suc m)))
  where
    none : (b : Bool) → one_if_true (b && (suc m == 0)) ≡ 0
    none true = ap one_if_true (not_first m)
    none false = refl

from_others : (m : ℕ) → sum_below (suc m) (λ p. one_if_true (not (p == 0))) ≡ m
from_others zero = refl
from_others (suc m) = omega (arith, from_others m, is_one (suc m) 0 (λ e. absurd (omega (arith, e))))

to_first : (n : ℕ) → 0 < n → sum_below n (λ p. sum_below n (λ q. one_if_true (not (p == q) && (q == 0)))) ≡ n - 1
to_first zero h = absurd (omega (arith, h))
to_first (suc m) h =
    sum_ext (suc m) (λ p. sum_below (suc m) (λ q. one_if_true (not (p == q) && (q == 0))))
    (λ p. one_if_true (not (p == 0))) (λ p l. to_one m p)
    ∙ from_others m ∙ (let back : m ≡ suc m - 1 = omega arith in back)

in_stage : (n : ℕ) (stage : Stage) → 0 < n → sum_below n (λ p. sum_below n (λ q. one_if_true (is_sent stage p q))) ≡ letters_in n stage
in_stage n stage.Print h = to_first n h
in_stage n (stage.Output j) h = to_first n h
in_stage n (stage.MapPairs array) h = to_all n
in_stage n stage.PageCounts h = to_all n
in_stage n stage.MovingAsk h = to_all n
in_stage n stage.MovingAnswer h = to_all n
in_stage n stage.Remap h = to_all n
in_stage n (stage.InLoop l) h = to_all n

-- ---- how many actions a plan has

count_due : (b : Bool) (x : Letter) → length (cons_option (if b then Some x else None) []) ≡ one_if_true b
count_due true x = refl
count_due false x = refl

-- the letters of the first of these phases
first_letters : (s : Scene) (fs : List Phase) → 0 < s.nodes → 0 < length fs
    → 2 * sum_below s.nodes (λ p. sum_below s.nodes (λ q. length (for_node q (face_left s fs p).out))) + s.nodes ≡ moves_in_phases s.nodes
    (take 1 fs)
first_letters s [] some more = absurd (omega (arith, more))
first_letters s (f ∷ rest) some more =
    let n = s.nodes in
    let counted : sum_below n (λ p. sum_below n (λ q. length (for_node q (face_left s (f ∷ rest) p).out))) ≡ letters_in n f.stage =
    pairs_ext n (λ p q. length (for_node q (face_left s (f ∷ rest) p).out)) (λ p q. one_if_true (is_sent f.stage p q))
    (λ p q l. ap length (row_letters s (f ∷ rest) p q l) ∙ count_due (is_sent f.stage p q) (letter_of s f p q)) ∙ in_stage n f.stage some in
    omega (arith, counted)

letters_next : (rows : ℕ → ℕ → Face) (n t : ℕ)
    → letters_before rows n (suc t) ≡ letters_before rows n t + sum_below n (λ p. sum_below n (λ q. length (for_node q (rows t p).out)))
letters_next rows n t =
    pairs_ext n (λ p q. length (upto rows p q (suc t))) (λ p q. length (upto rows p q t) + length (for_node q (rows t p).out))
    (λ p q l. length-append (upto rows p q t) (for_node q (rows t p).out))
    ∙ pairs_add n (λ p q. length (upto rows p q t)) (λ p q. length (for_node q (rows t p).out))

drop_some : {A : Type 0} (t : ℕ) (xs : List A) → t < length xs → 0 < length (drop t xs)
drop_some zero [] h = h
drop_some zero (x ∷ xs) h = h
drop_some (suc t) [] h = absurd (omega (arith, h))
drop_some (suc t) (x ∷ xs) h = drop_some t xs (omega (arith, h))

none_before : (n : ℕ) → sum_below n (λ p. sum_below n (λ q. 0)) ≡ 0
none_before n = sum_ext n (λ p. sum_below n (λ q. 0)) (λ p. 0) (λ p l. sum_same n 0 ∙ omega arith) ∙ sum_same n 0 ∙ omega arith

pub moves_before_is : (plan : RunPlan) (t : ℕ) → 0 < plan.nodes → t ≤ length (phases_in plan)
    → 2 * letters_before (node_row plan) plan.nodes t + plan.nodes * t ≡ moves_in_phases plan.nodes (take t (phases_in plan))
moves_before_is plan zero some h = omega (arith, none_before plan.nodes)
moves_before_is plan (suc t) some h =
    let n = plan.nodes in
    let fs = phases_in plan in
    let both : moves_in_phases n (take (suc t) fs) ≡ moves_in_phases n (take t fs) + moves_in_phases n (take 1 (drop t fs)) =
    ap (moves_in_phases n) (take_more t fs)
    ∙ sum_by-append (λ (f : Phase). 2 * letters_in n f.stage + n) (take t fs) (take 1 (drop t fs)) in
    let next : n * suc t ≡ n * t + n = omega arith in
    omega (
      arith,
      both,
      next,
      letters_next (node_row plan) n t,
      moves_before_is plan t some (omega (arith, h)),
      first_letters (scene_in plan) (drop t fs) some (drop_some t fs (omega (arith, h))),
    )

-- the end is behind the last phase
ends_at : (t : ℕ) (fs : List Phase) → drop t fs ≡ [] → ((k : ℕ) → k < t → 0 < left_of (drop k fs)) → t ≤ length fs
ends_at zero fs e h = omega arith
ends_at (suc t) [] e h = absurd (omega (arith, h 0 (omega arith)))
ends_at (suc t) (f ∷ fs) e h = omega (arith, ends_at t fs e (λ k less. h (suc k) (omega (arith, less))))

pub rows_have_moves : RowsHaveMoves
rows_have_moves plan end some e =
    let fs = phases_in plan in
    let gone = end_drops plan end e in
    moves_before_is plan end some (ends_at end fs gone (λ k less. omega (arith, e.1 k less, left_face (scene_in plan) (drop k fs) 0)))
    ∙ ap (moves_in_phases plan.nodes) (takes_whole end fs gone)
