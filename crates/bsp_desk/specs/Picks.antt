-- Lists by nodes, for those nodes that pass a test.
use Rattle.std.proofs.Common.{◌≡◌, ◌≢◌, ◌==◌, ℕ, suc, zero, ◌+◌, ◌<◌, ◌≤◌, Bool, true, false, List, [], ◌∷◌, ◌++◌, if◌then◌else◌, inl, inr}
use Rattle.std.proofs.Common.{map, arith, refl, sym, ◌∙◌, ap, subst, filter, add-one}
use Rattle.std.proofs.lemmas.List.{append-nil}
use Rattle.std.proofs.lemmas.Bool.{cases_eq}
use Rattle.std.proofs.lemmas.Bool.Decides.{nat_tests}
use Rattle.std.specs.List.{range_with_len}
use Rattle.bsp_core.specs.Others.{each}
use Rattle.bsp_core.specs.Views.{for_node, Ascends, nodes_in}

-- for those of the k nodes from `low` on that pass, what each has
abbrev pub picked : {A : Type 0} → (ℕ → A) → (ℕ → Bool) → ℕ → ℕ → List (ℕ × A)
picked f P low k = map (λ q. (q, f q)) (filter P (range_with_len low k))

-- what holds of both lists of a choice
pub pick_with : (C : List ℕ → Type 0) (b : Bool) (xs ys : List ℕ) → (b ≡ true → C xs) → (b ≡ false → C ys) → C (if b then xs else ys)
pick_with C true xs ys t f = t refl
pick_with C false xs ys t f = f refl

no_bool : true ≡ false → ⊥
no_bool z = cc

if_is : {X : Type 0} (a b : ℕ) (x y : X) → a ≡ b → (if a == b then x else y) ≡ x
if_is a b x y e = grind (arith, nat_tests)

if_not : {X : Type 0} (a b : ℕ) (x y : X) → a ≢ b → (if a == b then x else y) ≡ y
if_not a b x y e = grind (arith, nat_tests)

-- ---- they ascend

lower : (me n low : ℕ) (xs : List ℕ) → Ascends me n (low + 1) xs → Ascends me n low xs
lower me n low [] h = tt
lower me n low (x ∷ xs) h = (omega (arith, h.0), h.1, h.2, h.3)

pub picked_ascends : {A : Type 0} (f : ℕ → A) (P : ℕ → Bool) (me n low k : ℕ) → low + k ≤ n → P me ≡ false
    → Ascends me n low (nodes_in (picked f P low k))
picked_ascends f P me n low zero l h = tt
picked_ascends {A} f P me n low (suc k) l h =
    let rest = filter P (range_with_len (low + 1) k) in
    pick_with (λ gs. Ascends me n low (nodes_in (each f gs))) (P low) (low ∷ rest) rest
    (λ e. (omega arith, omega arith, (λ z. absurd (no_bool (sym e ∙ ap P z ∙ h))), picked_ascends f P me n (low + 1) k (omega arith) h))
    (λ e. lower me n low _ (picked_ascends f P me n (low + 1) k (omega arith) h))

pub tail_ascends : {A : Type 0} (me count : ℕ) (xs : List (ℕ × A)) (x : ℕ × A) (ys : List (ℕ × A)) → xs ≡ x ∷ ys
    → Ascends me count 0 (nodes_in xs) → Ascends me count 0 (nodes_in ys)
tail_ascends {A} me count xs x ys e h =
    lower_all (x.0 + 1) (nodes_in ys) (subst (λ (w : List (ℕ × A)). Ascends me count 0 (nodes_in w)) e h).3
  where
    lower_all : (low : ℕ) (zs : List ℕ) → Ascends me count low zs → Ascends me count 0 zs
    lower_all low [] h = tt
    lower_all low (z ∷ zs) h = (omega arith, h.1, h.2, h.3)

-- ---- what one node has there

pub picked_none : {A : Type 0} (f : ℕ → A) (P : ℕ → Bool) (q low k : ℕ) → q < low → for_node q (picked f P low k) ≡ []
picked_none f P q low zero l = refl
picked_none {A} f P q low (suc k) l =
    let rest = filter P (range_with_len (low + 1) k) in
    let none = for_node q (picked f P (low + 1) k) in
    pick_with (λ gs. for_node q (each f gs) ≡ []) (P low) (low ∷ rest) rest
    (λ e. if_not low q (f low ∷ none) none (λ z. absurd (omega arith)) ∙ picked_none f P q (low + 1) k (omega arith))
    (λ e. picked_none f P q (low + 1) k (omega arith))

pub picked_one : {A : Type 0} (f : ℕ → A) (P : ℕ → Bool) (q low k : ℕ) → low ≤ q → q < low + k
    → for_node q (picked f P low k) ≡ (if P q then f q ∷ [] else [])
picked_one f P q low zero l h = absurd (omega arith)
picked_one {A} f P q low (suc k) l h =
    let rest = filter P (range_with_len (low + 1) k) in
    let others = for_node q (picked f P (low + 1) k) in
    pick_with (λ gs. for_node q (each f gs) ≡ (if P q then f q ∷ [] else [])) (P low) (low ∷ rest) rest
    (λ e. elim (cases_eq low q) [
      | inl i ↦
          if_is low q (f low ∷ others) others i
          ∙ ap (λ (z : List A). f low ∷ z) (picked_none f P q (low + 1) k (omega arith))
          ∙ ap (λ (z : ℕ). f z ∷ []) i
          ∙ ap (λ (b : Bool). if b then f q ∷ [] else []) (sym e ∙ ap P i)
      | inr i ↦ if_not low q (f low ∷ others) others i ∙ picked_one f P q (low + 1) k (omega (arith, i)) (omega arith)
    ])
    (λ e. elim (cases_eq low q) [
      | inl i ↦ picked_none f P q (low + 1) k (omega arith) ∙ ap (λ (b : Bool). if b then f q ∷ [] else []) (sym e ∙ ap P i)
      | inr i ↦ picked_one f P q (low + 1) k (omega (arith, i)) (omega arith)
    ])

-- ---- one node more

-- what a node has, if it passes
abbrev one_if : {A : Type 0} → (ℕ → A) → Bool → ℕ → List (ℕ × A)
one_if f b q = if b then (q, f q) ∷ [] else []

if_map : {A : Type 0} (f : ℕ → A) (b : Bool) (q : ℕ) → each f (if b then q ∷ [] else []) ≡ one_if f b q
if_map f true q = refl
if_map f false q = refl

more : {A : Type 0} (f : ℕ → A) (P : ℕ → Bool) (low k : ℕ)
    → picked f P low (suc k) ≡ picked f P low k ++ one_if f (P (low + k)) (low + k)
more {A} f P low zero =
    let same : low ≡ low + 0 = omega arith in
    subst (λ (j : ℕ). picked f P low 1 ≡ one_if f (P j) j) same (if_map f (P low) low)
more {A} f P low (suc k) =
    let same : low + 1 + k ≡ low + suc k = omega arith in
    let rest = λ (j : ℕ). filter P (range_with_len (low + 1) j) in
    by (rest (suc k)) (rest k) (P low) (one_if f (P (low + suc k)) (low + suc k))
    (subst (λ (j : ℕ). picked f P (low + 1) (suc k) ≡ picked f P (low + 1) k ++ one_if f (P j) j) same (more f P (low + 1) k))
  where
    by : (xs ys : List ℕ) (b : Bool) (last : List (ℕ × A)) → each f xs ≡ each f ys ++ last
        → each f (if b then low ∷ xs else xs) ≡ each f (if b then low ∷ ys else ys) ++ last
    by xs ys true last ih = ap (λ (z : List (ℕ × A)). (low, f low) ∷ z) ih
    by xs ys false last ih = ih

pub picked_more : {A : Type 0} (f : ℕ → A) (P : ℕ → Bool) (k : ℕ) → picked f P 0 (k + 1) ≡ picked f P 0 k ++ one_if f (P k) k
picked_more f P k =
    let same : 0 + k ≡ k = omega arith in
    ap (picked f P 0) (add-one k) ∙ subst (λ (j : ℕ). picked f P 0 (suc k) ≡ picked f P 0 k ++ one_if f (P j) j) same (more f P 0 k)

pub picked_then : {A : Type 0} (f : ℕ → A) (P : ℕ → Bool) (k : ℕ) (xs ys : List (ℕ × A)) → xs ≡ picked f P 0 k → P k ≡ true
    → ys ≡ xs ++ (k, f k) ∷ [] → ys ≡ picked f P 0 (k + 1)
picked_then {A} f P k xs ys h e g =
    g
    ∙ ap (λ (z : List (ℕ × A)). z ++ (k, f k) ∷ []) h
    ∙ ap (λ (b : Bool). picked f P 0 k ++ one_if f b k) (sym e)
    ∙ sym (picked_more f P k)

pub picked_else : {A : Type 0} (f : ℕ → A) (P : ℕ → Bool) (k : ℕ) (xs ys : List (ℕ × A)) → xs ≡ picked f P 0 k → P k ≡ false
    → ys ≡ xs → ys ≡ picked f P 0 (k + 1)
picked_else {A} f P k xs ys h e g =
    g ∙ h ∙ sym (append-nil (picked f P 0 k)) ∙ ap (λ (b : Bool). picked f P 0 k ++ one_if f b k) (sym e) ∙ sym (picked_more f P k)
