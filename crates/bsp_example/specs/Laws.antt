-- The rows of the voter's plan meet, and its work goes from row to row.
use Rattle.std.proofs.Common.{◌≡◌, ◌≢◌, ◌==◌, ℕ, suc, zero, ◌+◌, ◌-◌, ◌<◌, ◌≤◌, Bool, true, false, List, [], ◌∷◌, ◌++◌, if◌then◌else◌, ◌⊎◌}
use Rattle.std.proofs.Common.{inl, inr, length, map, arith, refl, sym, ◌∙◌, ap, subst, add-one, slice_get, Some, take, get_or}
use Rattle.std.proofs.lemmas.List.{map-append, length-map, map-id}
use Rattle.std.proofs.Math.Seq.{take-suc}
use Rattle.bsp_core.specs.Turns.{Begins}
use Rattle.std.proofs.lemmas.Bool.{cases_eq}
use Rattle.std.proofs.lemmas.Bool.Decides.{nat_tests}
use Rattle.chaos_letter.specs.declared.letter.Letter.{Letter}
use Rattle.chaos_letter.specs.declared.wanted.Wanted.{Wanted}
use Rattle.chaos_letter.specs.Fits.{Fits, IsWantedLength}
use Rattle.bsp_core.specs.Views.{Face, View, Ascends, Meets, Serves, for_node, ready, nodes_in}
use Rattle.bsp_core.specs.Others.{others, each}
use Rattle.bsp_core.proofs.Everyone.{others_ascend, nodes_each, all_serves, each_none, each_one, serves_by, incoming_all, others_at}
use Rattle.bsp_core.proofs.Everyone.{others_by}
use Rattle.bsp_core.proofs.Places.{for_node_same, for_node_other}
use Rattle.bsp_example.specs.Rows.{VoterState, VoterPlan, either, any_below, flag_of, any_flag, voter_letter, voter_wanted, flag_in, heard}
use Rattle.bsp_example.specs.Rows.{all_of, to_whom, from_whom, voter_out, voter_due, face_by, new_left, new_flag, left_of_vote, flag_at}
use Rattle.bsp_example.specs.Rows.{voter_row, voter_holds}

if_is : {X : Type 0} (a b : ℕ) (x y : X) → a ≡ b → (if a == b then x else y) ≡ x
if_is a b x y e = grind (arith, nat_tests)

if_not : {X : Type 0} (a b : ℕ) (x y : X) → a ≢ b → (if a == b then x else y) ≡ y
if_not a b x y e = grind (arith, nat_tests)

voter_fits : (left : ℕ) (flag : Bool) → Fits (voter_wanted left) (voter_letter left flag)
voter_fits left flag = record { kind = refl; execution = refl; site = refl; count = one_or_two flag } where
  one_or_two : (b : Bool) → IsWantedLength (voter_wanted left) (length (voter_letter left b).numbers)
  one_or_two true = record { groups = (2, refl); least = omega arith; most = omega arith }
  one_or_two false = record { groups = (1, refl); least = omega arith; most = omega arith }

-- whom a node sends to and takes from
to_ascends : (left : ℕ) (all : Bool) (me n : ℕ) → me < n → Ascends me n 0 (to_whom left all me n)
to_ascends left all me n l = elim (cases_eq left 0) [
  | inl e ↦ subst (λ (z : List ℕ). Ascends me n 0 z)
      (sym (if_is left 0 [] (if all then others me n else if me == 0 then [] else 0 ∷ []) e)) tt
  | inr e ↦ subst (λ (z : List ℕ). Ascends me n 0 z)
      (sym (if_not left 0 [] (if all then others me n else if me == 0 then [] else 0 ∷ []) e)) (inner all)
] where
  inner : (b : Bool) → Ascends me n 0 (if b then others me n else if me == 0 then [] else 0 ∷ [])
  inner true = others_ascend me n n (omega arith)
  inner false = elim (cases_eq me 0) [
    | inl i ↦ subst (λ (z : List ℕ). Ascends me n 0 z) (sym (if_is me 0 [] (0 ∷ []) i)) tt
    | inr i ↦ subst (λ (z : List ℕ). Ascends me n 0 z) (sym (if_not me 0 [] (0 ∷ []) i)) (omega arith, omega arith, (λ z. i (sym z)), tt)
  ]

from_ascends : (left : ℕ) (all : Bool) (me n : ℕ) → Ascends me n 0 (from_whom left all me n)
from_ascends left all me n = elim (cases_eq left 0) [
  | inl e ↦ subst (λ (z : List ℕ). Ascends me n 0 z)
      (sym (if_is left 0 [] (if all then others me n else if me == 0 then others 0 n else []) e)) tt
  | inr e ↦ subst (λ (z : List ℕ). Ascends me n 0 z)
      (sym (if_not left 0 [] (if all then others me n else if me == 0 then others 0 n else []) e)) (inner all)
] where
  inner : (b : Bool) → Ascends me n 0 (if b then others me n else if me == 0 then others 0 n else [])
  inner true = others_ascend me n n (omega arith)
  inner false = elim (cases_eq me 0) [
    | inl i ↦ subst (λ (z : List ℕ). Ascends me n 0 z) (sym (if_is me 0 (others 0 n) [] i)) (subst (λ (k : ℕ). Ascends k n 0 (others 0 n))
        (sym i) (others_ascend 0 n n (omega arith)))
    | inr i ↦ subst (λ (z : List ℕ). Ascends me n 0 z) (sym (if_not me 0 (others 0 n) [] i)) tt
  ]

pub out_ascends : (left : ℕ) (all flag : Bool) (me n : ℕ) → me < n → Ascends me n 0 (nodes_in (voter_out left all flag me n))
out_ascends left all flag me n l = subst (λ (z : List ℕ). Ascends me n 0 z)
    (sym (nodes_each (λ q. voter_letter left flag) (to_whom left all me n))) (to_ascends left all me n l)

pub due_ascends : (left : ℕ) (all : Bool) (me n : ℕ) → Ascends me n 0 (nodes_in (voter_due left all me n))
due_ascends left all me n = subst (λ (z : List ℕ). Ascends me n 0 z) (sym (nodes_each (λ q. voter_wanted left) (from_whom left all me n)))
    (from_ascends left all me n)

-- what p wants of q is what q sends to p
voter_serves : (left : ℕ) (all flag : Bool) (n p q : ℕ) → p < n → q < n → Serves (for_node p (voter_due left all q n))
    (for_node q (voter_out left all flag p n))
voter_serves left all flag n p q lp lq =
    let w : ℕ → Wanted = λ r. voter_wanted left in
    let x : ℕ → Letter = λ r. voter_letter left flag in
    let asks : List ℕ → List Wanted = λ z. for_node p (each w z) in
    let gives : List ℕ → List Letter = λ z. for_node q (each x z) in
    let inner : (b : Bool) → Serves (asks (if b then others q n else if q == 0 then others 0 n else []))
    (gives (if b then others p n else if p == 0 then [] else 0 ∷ [])) =
    λ b. elim b as (λ c. Serves (asks (if c then others q n else if q == 0 then others 0 n else []))
    (gives (if c then others p n else if p == 0 then [] else 0 ∷ []))) [
      | true ↦ all_serves w x n p q lp lq (λ ne. voter_fits left flag)
      | false ↦ elim (cases_eq q 0) [
        | inl a ↦ elim (cases_eq p 0) [
          | inl c ↦ serves_by (asks (if q == 0 then others 0 n else [])) [] (gives (if p == 0 then [] else 0 ∷ [])) []
              (ap asks (if_is q 0 (others 0 n) [] a) ∙ each_none w 0 p n (inl c)) (ap gives (if_is p 0 [] (0 ∷ []) c)) tt
          | inr c ↦ serves_by (asks (if q == 0 then others 0 n else [])) (voter_wanted left ∷ []) (gives (if p == 0 then [] else 0 ∷ []))
              (voter_letter left flag ∷ [])
              (ap asks (if_is q 0 (others 0 n) [] a) ∙ each_one w 0 p n c lp) (ap gives (if_not p 0 [] (0 ∷ []) c)
              ∙ for_node_same q 0 (voter_letter left flag) [] a) (voter_fits left flag)
        ]
        | inr a ↦ serves_by (asks (if q == 0 then others 0 n else [])) [] (gives (if p == 0 then [] else 0 ∷ [])) []
            (ap asks (if_not q 0 (others 0 n) [] a))
            (elim (cases_eq p 0) [
              | inl c ↦ ap gives (if_is p 0 [] (0 ∷ []) c)
              | inr c ↦ ap gives (if_not p 0 [] (0 ∷ []) c)
                  ∙ for_node_other q 0 (voter_letter left flag) [] a
            ]) tt
      ]
    ] in
    elim (cases_eq left 0) [
      | inl e ↦ serves_by (asks (from_whom left all q n)) [] (gives (to_whom left all p n)) []
          (ap asks (if_is left 0 [] (if all then others q n else if q == 0 then others 0 n else []) e))
          (ap gives (if_is left 0 [] (if all then others p n else if p == 0 then [] else 0 ∷ []) e)) tt
      | inr e ↦ serves_by (asks (from_whom left all q n)) (asks (if all then others q n else if q == 0 then others 0 n else []))
          (gives (to_whom left all p n)) (gives (if all then others p n else if p == 0 then [] else 0 ∷ []))
          (ap asks (if_not left 0 [] (if all then others q n else if q == 0 then others 0 n else []) e))
          (ap gives (if_not left 0 [] (if all then others p n else if p == 0 then [] else 0 ∷ []) e)) (inner all)
    ]

pub voter_meets : (plan : VoterPlan) (t : ℕ) → Meets (length plan) (voter_row plan t)
voter_meets plan t =
    let n : ℕ = length plan in
    let left : ℕ = left_of_vote plan t in
    let all : Bool = all_of left (any_flag plan) in
    record {
      me = λ p l. refl;
      count = λ p l. refl;
      left = λ p l. refl;
      got = λ p l. refl;
      out = λ p l. out_ascends left all (flag_at plan t p) p n l;
      due = λ p l. due_ascends left all p n;
      serves = λ p q lp lq. voter_serves left all (flag_at plan t p) n p q lp lq;
      done = λ p l z. (
        ap (each (λ q. voter_letter left (flag_at plan t p))) (if_is left 0 [] (if all then others p n else if p == 0 then [] else 0 ∷ [])
            z),
        ap (each (λ q. voter_wanted left)) (if_is left 0 [] (if all then others p n else if p == 0 then others 0 n else []) z),
      );
    }

one_or_none : (b : Bool) → (if b then 1 else 0) ≤ 1
one_or_none true = omega arith
one_or_none false = omega arith

pub voter_falls : (plan : VoterPlan) (t : ℕ) → (voter_row plan (t + 1) 0).left ≤ (voter_row plan t 0).left - 1
voter_falls plan zero = omega arith
voter_falls plan (suc zero) = one_or_none (any_flag plan)
voter_falls plan (suc (suc zero)) = omega arith
voter_falls plan (suc (suc (suc t))) = rw add-one (omega arith)

-- what all tell
either_assoc : (a b c : Bool) → either (either a b) c ≡ either a (either b c)
either_assoc true b c = refl
either_assoc false b c = refl

either_false : (a : Bool) → a ≡ either a false
either_false true = refl
either_false false = refl

either_swap : (a b : Bool) → either a b ≡ either b a
either_swap true true = refl
either_swap true false = refl
either_swap false true = refl
either_swap false false = refl

pub heard_last : (b : Bool) (xs : List Letter) (x : Letter) → heard b (xs ++ x ∷ []) ≡ either (heard b xs) (flag_in x)
heard_last b [] x = refl
heard_last b (y ∷ ys) x = heard_last (either b (flag_in y)) ys x

flag_told : (left : ℕ) (b : Bool) → flag_in (voter_letter left b) ≡ b
flag_told left true = refl
flag_told left false = refl

heard_more : (f : ℕ → Bool) (own : Bool) (p k : ℕ) → k ≢ p →
    heard own (map (λ q. voter_letter 3 (f q)) (others p (suc k))) ≡ either (heard own (map (λ q. voter_letter 3 (f q)) (others p k))) (f k)
heard_more f own p k e =
    let x : ℕ → Letter = λ q. voter_letter 3 (f q) in
    ap (λ (z : List ℕ). heard own (map x z)) (others_by p k e) ∙ ap (heard own) (map-append x (others p k) (k ∷ []))
    ∙ heard_last own (map x (others p k)) (x k)
    ∙ ap (either (heard own (map x (others p k)))) (flag_told 3 (f k))

heard_below : (f : ℕ → Bool) (own : Bool) (p k : ℕ) → k ≤ p → heard own (map (λ q. voter_letter 3 (f q)) (others p k))
    ≡ either own (any_below k f)
heard_below f own p zero l = either_false own
heard_below f own p (suc k) l =
    heard_more f own p k (λ z. absurd (omega arith)) ∙ ap (λ (z : Bool). either z (f k)) (heard_below f own p k (omega arith))
    ∙ either_assoc own (any_below k f) (f k)

heard_all : (f : ℕ → Bool) (p k : ℕ) → p < k → heard (f p) (map (λ q. voter_letter 3 (f q)) (others p k)) ≡ any_below k f
heard_all f p zero l = absurd (omega arith)
heard_all f p (suc k) l = elim (cases_eq k p) [
  | inl e ↦ ap (λ (z : List ℕ). heard (f p) (map (λ q. voter_letter 3 (f q)) z)) (others_at p k e) ∙ heard_below f (f p) p k (omega arith)
      ∙ either_swap (f p) (any_below k f) ∙ ap (λ (j : ℕ). either (any_below k f) (f j)) (sym e)
  | inr e ↦ heard_more f (f p) p k e ∙ ap (λ (z : Bool). either z (f k)) (heard_all f p k (omega arith))
]

-- what a work makes of a voter
abbrev pub worked : Face → Bool → Face
worked v flag = face_by v.count v.me (new_left v.left flag) (all_of (new_left v.left flag) flag) flag

told_all : (plan : VoterPlan) (p : ℕ) → p < length plan → heard (flag_of plan p) (ready (voter_row plan 0) p).got ≡ any_flag plan
told_all plan p l =
    ap (heard (flag_of plan p)) (incoming_all (voter_row plan 0) (λ q. voter_wanted 3) (λ q. voter_letter 3 (flag_of plan q)) p
    (length plan)
    (λ q k ne. each_one (λ r. voter_letter 3 (flag_of plan q)) q p (length plan) (λ z. ne (sym z)) l))
    ∙ heard_all (flag_of plan) p (length plan) l

abbrev pub FlagNext : VoterPlan → ℕ → ℕ → Type 0
FlagNext plan t p = new_flag (left_of_vote plan t) (flag_at plan t p) (ready (voter_row plan t) p).got ≡ any_flag plan

cut_alike : (b : Bool) → all_of (if b then 1 else 0) b ≡ false
cut_alike true = refl
cut_alike false = refl

flag_next : (plan : VoterPlan) (t p : ℕ) → p < length plan → left_of_vote plan t ≢ 0 → FlagNext plan t p
flag_next plan zero p l h = told_all plan p l
flag_next plan (suc zero) p l h = refl
flag_next plan (suc (suc zero)) p l h = one_flag (any_flag plan) (any_flag plan) (ready (voter_row plan 2) p).got where
  one_flag : (b c : Bool) (got : List Letter) → new_flag (if b then 1 else 0) c got ≡ c
  one_flag true c got = refl
  one_flag false c got = refl
flag_next plan (suc (suc (suc t))) p l h = absurd (h refl)

left_next : (plan : VoterPlan) (t : ℕ) → left_of_vote plan t ≢ 0 → new_left (left_of_vote plan t) (any_flag plan)
    ≡ left_of_vote plan (t + 1)
left_next plan zero h = refl
left_next plan (suc zero) h = refl
left_next plan (suc (suc zero)) h = less (any_flag plan) (any_flag plan) where
  less : (b c : Bool) → new_left (if b then 1 else 0) c ≡ 0
  less true c = refl
  less false c = refl
left_next plan (suc (suc (suc t))) h = absurd (h refl)

flag_later : (plan : VoterPlan) (t p : ℕ) → flag_at plan (t + 1) p ≡ any_flag plan
flag_later plan t p = ap (λ (k : ℕ). flag_at plan k p) (add-one t)

pub work_row : (plan : VoterPlan) (t p : ℕ) (v : Face) (flag : Bool) → p < length plan → v.left ≢ 0 → v ≡ ready (voter_row plan t) p
    → flag ≡ flag_at plan t p →
    (worked v (new_flag v.left flag v.got) ≡ voter_row plan (t + 1) p) × (new_flag v.left flag v.got ≡ flag_at plan (t + 1) p)
work_row plan t p v flag l h e f =
    let some : left_of_vote plan t ≢ 0 = λ z. h (ap (λ (u : Face). u.left) e ∙ z) in
    let k : new_flag v.left flag v.got ≡ any_flag plan =
    ap (λ (u : Face). new_flag u.left flag u.got) e ∙ ap (λ (b : Bool). new_flag (left_of_vote plan t) b (ready (voter_row plan t) p).got) f
    ∙ flag_next plan t p l some in (
      ap (worked v) k ∙ ap (λ (u : Face). worked u (any_flag plan)) e
          ∙ ap (λ (j : ℕ). face_by (length plan) p j (all_of j (any_flag plan)) (any_flag plan)) (left_next plan t some)
          ∙ ap (λ (b : Bool). face_by (length plan) p (left_of_vote plan (t + 1)) (all_of (left_of_vote plan (t + 1)) (any_flag plan)) b)
          (sym (flag_later plan t p)),
      k ∙ sym (flag_later plan t p),
    )

-- nodes that begin
pub heard_next : (b : Bool) (ls : List Letter) (i : ℕ) (x : Letter) (is result : Bool) → i < length ls → x ≡ get_or ls i x
    → is ≡ heard b (take i ls) → result ≡ either is (flag_in x) →
    result ≡ heard b (take (i + 1) ls)
heard_next b ls i x is result l e h r =
    r ∙ ap (λ (z : Bool). either z (flag_in x)) h ∙ sym (heard_last b (take i ls) x)
    ∙ ap (heard b) (ap (λ (z : Letter). take i ls ++ z ∷ []) e ∙ sym (take-suc ls i x l) ∙ ap (λ (j : ℕ). take j ls) (sym (add-one i)))

pub voters_begin : (flags : List Bool) (nodes : List (View VoterState)) → length nodes ≡ length flags →
    ((k : ℕ) (v : View VoterState) → slice_get nodes k ≡ Some v → (v.face ≡ voter_row flags 0 k) × voter_holds flags 0 k v.state) →
    Begins (voter_row flags) (voter_holds flags) (length flags) (map (λ s. s) nodes)
voters_begin flags nodes l h = (
  length-map nodes (λ (s : View VoterState). s) ∙ l,
  λ p v e. h p v (subst (λ (z : List (View VoterState)). slice_get z p ≡ Some v)
      (map-id nodes) e),
)

pub count_again : (flags : List Bool) (p k : ℕ) (v w : View VoterState) → k ≡ p → v ≡ w
    → w.face ≡ face_by (length flags) p 3 (all_of 3 (get_or flags p false)) (get_or flags p false) → w.state.flag ≡ get_or flags p false
    → 4 ≤ w.state.room →
    (v.face ≡ voter_row flags 0 k) × voter_holds flags 0 k v.state
count_again flags p k v w i e face flag pool = (
  ap (λ (u : View VoterState). u.face) e ∙ face ∙ ap (λ (j : ℕ). voter_row flags 0 j) (sym i),
  (
    ap (λ (u : View VoterState). u.state.flag) e ∙ flag ∙ ap (λ (j : ℕ). get_or flags j false) (sym i),
    subst (λ (u : View VoterState). 4 ≤ u.state.room) (sym e) pool,
  ),
)
