-- How many actions a plan has: two for each letter, and one for each work.
use Rattle.std.proofs.Common.{◌≡◌, ◌≢◌, ℕ, suc, zero, ◌+◌, ◌*◌, ◌<◌, List, [], ◌∷◌, ◌++◌, inl, inr, length, refl, sym, ◌∙◌, ap, arith}
use Rattle.std.proofs.Common.{length-append}
use Rattle.std.proofs.lemmas.Bool.{cases_eq}
use Rattle.std.proofs.lemmas.Bool.Decides.{nat_tests}
use Rattle.bsp_core.specs.Views.{Face, Meets, for_node, Ascends, nodes_in}
use Rattle.bsp_core.specs.Lockstep.{upto, moves_before, moves_in, sum_below, letters_before, times_in, AreBelow}
use Rattle.bsp_core.proofs.Places.{serves_length, for_node_same, for_node_other}

pub sum_ext : (n : ℕ) (f g : ℕ → ℕ) → ((p : ℕ) → p < n → f p ≡ g p) → sum_below n f ≡ sum_below n g
sum_ext zero f g h = refl
sum_ext (suc n) f g h = omega (arith, sum_ext n f g (λ p l. h p (omega arith)), h n (omega arith))

sum_add : (n : ℕ) (f g : ℕ → ℕ) → sum_below n (λ p. f p + g p) ≡ sum_below n f + sum_below n g
sum_add zero f g = refl
sum_add (suc n) f g = omega (arith, sum_add n f g)

sum_zero : (n : ℕ) → sum_below n (λ p. 0) ≡ 0
sum_zero zero = refl
sum_zero (suc n) = omega (arith, sum_zero n)

sum_ones : (n : ℕ) → sum_below n (λ p. 1) ≡ n
sum_ones zero = refl
sum_ones (suc n) = omega (arith, sum_ones n)

sum_swap : (n m : ℕ) (f : ℕ → ℕ → ℕ) → sum_below n (λ p. sum_below m (λ q. f p q)) ≡ sum_below m (λ q. sum_below n (λ p. f p q))
sum_swap zero m f = sym (sum_zero m)
sum_swap (suc n) m f =
    ap (λ (k : ℕ). k + sum_below m (λ q. f n q)) (sum_swap n m f) ∙ sym (sum_add m (λ q. sum_below n (λ p. f p q)) (λ q. f n q))

-- one more at one place
sum_one_more : (n k : ℕ) (f g : ℕ → ℕ) → k < n → f k ≡ g k + 1 → ((p : ℕ) → p ≢ k → f p ≡ g p) → sum_below n f ≡ sum_below n g + 1
sum_one_more zero k f g l h i = absurd (omega arith)
sum_one_more (suc n) k f g l h i = elim (cases_eq n k) [
  | inl e ↦
      let a : sum_below n f ≡ sum_below n g = sum_ext n f g (λ p lp. i p (λ z. absurd (omega (arith, z, e)))) in
      let b : f n ≡ g n + 1 = ap f e ∙ h ∙ ap (λ (j : ℕ). g j + 1) (sym e) in
      omega (arith, a, b)
  | inr e ↦ omega (arith, i n e, sum_one_more n k f g (omega arith) h i)
]

-- a list by nodes below n, by parts
parts : {A : Type 0} (me n low : ℕ) (xs : List (ℕ × A)) → Ascends me n low (nodes_in xs) → sum_below n (λ q. length (for_node q xs))
    ≡ length xs
parts me n low [] h = sum_zero n
parts me n low (x ∷ xs) h =
    sum_one_more n x.0 (λ q. length (for_node q (x ∷ xs))) (λ q. length (for_node q xs)) h.1
    (ap length (for_node_same x.0 x.0 x.1 xs refl) ∙ (let j : suc (length (for_node x.0 xs)) ≡ length (for_node x.0 xs)
    + 1 = omega arith in j))
    (λ q ne. ap length (for_node_other q x.0 x.1 xs ne))
    ∙ ap (λ (k : ℕ). k + 1) (parts me n (x.0 + 1) xs h.3) ∙ (let j : length xs + 1 ≡ suc (length xs) = omega arith in j)

times_same : (q x : ℕ) (xs : List ℕ) → q ≡ x → times_in q (x ∷ xs) ≡ times_in q xs + 1
times_same q x xs e = grind (arith, nat_tests)

times_other : (q x : ℕ) (xs : List ℕ) → q ≢ x → times_in q (x ∷ xs) ≡ times_in q xs
times_other q x xs e = grind (arith, nat_tests)

pub times_all : (n : ℕ) (xs : List ℕ) → AreBelow n xs → length xs ≡ sum_below n (λ q. times_in q xs)
times_all n [] h = sym (sum_zero n)
times_all n (x ∷ xs) h =
    let a : sum_below n (λ q. times_in q (x ∷ xs)) ≡ sum_below n (λ q. times_in q xs) + 1 =
    sum_one_more n x (λ q. times_in q (x ∷ xs)) (λ q. times_in q xs) h.0 (times_same x x xs refl) (λ q ne. times_other q x xs ne) in
    omega (arith, a, times_all n xs h.1)

pub times_last : (q : ℕ) (xs : List ℕ) → times_in q (xs ++ q ∷ []) ≡ times_in q xs + 1
times_last q [] = times_same q q [] refl
times_last q (x ∷ xs) = elim (cases_eq q x) [
  | inl e ↦ times_same q x (xs ++ q ∷ []) e ∙ ap (λ (k : ℕ). k + 1) (times_last q xs ∙ sym (times_same q x xs e))
  | inr e ↦ times_other q x (xs ++ q ∷ []) e ∙ times_last q xs ∙ ap (λ (k : ℕ). k + 1) (sym (times_other q x xs e))
]

pub times_not : (q p : ℕ) (xs : List ℕ) → q ≢ p → times_in q (xs ++ p ∷ []) ≡ times_in q xs
times_not q p [] n = times_other q p [] n
times_not q p (x ∷ xs) n = elim (cases_eq q x) [
  | inl e ↦ times_same q x (xs ++ p ∷ []) e ∙ ap (λ (k : ℕ). k + 1) (times_not q p xs n) ∙ sym (times_same q x xs e)
  | inr e ↦ times_other q x (xs ++ p ∷ []) e ∙ times_not q p xs n ∙ sym (times_other q x xs e)
]

pub below_last : (n p : ℕ) (xs : List ℕ) → AreBelow n xs → p < n → AreBelow n (xs ++ p ∷ [])
below_last n p [] h l = (l, tt)
below_last n p (x ∷ xs) h l = (h.0, below_last n p xs h.1 l)

-- the letters of a phase
abbrev pub in_phase : (ℕ → ℕ → Face) → ℕ → ℕ → ℕ
in_phase rows n t = sum_below n (λ p. sum_below n (λ q. length (for_node q (rows t p).out)))

letters_next : (rows : ℕ → ℕ → Face) (n t : ℕ) → letters_before rows n (suc t) ≡ letters_before rows n t + in_phase rows n t
letters_next rows n t =
    sum_ext n (λ p. sum_below n (λ q. length (upto rows p q (suc t)))) (λ p. sum_below n (λ q. length (upto rows p q t))
    + sum_below n (λ q. length (for_node q (rows t p).out)))
    (λ p l. sum_ext n (λ q. length (upto rows p q (suc t))) (λ q. length (upto rows p q t) + length (for_node q (rows t p).out))
    (λ q k. length-append (upto rows p q t) (for_node q (rows t p).out))
    ∙ sum_add n (λ q. length (upto rows p q t)) (λ q. length (for_node q (rows t p).out)))
    ∙ sum_add n (λ p. sum_below n (λ q. length (upto rows p q t))) (λ p. sum_below n (λ q. length (for_node q (rows t p).out)))

sends_in : (rows : ℕ → ℕ → Face) (n t : ℕ) → Meets n (rows t) → sum_below n (λ p. length (rows t p).out) ≡ in_phase rows n t
sends_in rows n t m = sum_ext n (λ p. length (rows t p).out) (λ p. sum_below n (λ q. length (for_node q (rows t p).out)))
    (λ p l. sym (parts p n 0 (rows t p).out (m.out p l)))

takes_in : (rows : ℕ → ℕ → Face) (n t : ℕ) → Meets n (rows t) → sum_below n (λ p. length (rows t p).due) ≡ in_phase rows n t
takes_in rows n t m =
    sum_ext n (λ p. length (rows t p).due) (λ p. sum_below n (λ q. length (for_node p (rows t q).out)))
    (λ p l. sym (parts p n 0 (rows t p).due (m.due p l))
    ∙ sum_ext n (λ q. length (for_node q (rows t p).due)) (λ q. length (for_node p (rows t q).out))
    (λ q k. serves_length _ _ (m.serves q p k l)))
    ∙ sum_swap n n (λ p q. length (for_node p (rows t q).out))

moves_next : (rows : ℕ → ℕ → Face) (n t : ℕ) → Meets n (rows t) →
    sum_below n (λ p. moves_before rows p (suc t)) ≡ sum_below n (λ p. moves_before rows p t) + (in_phase rows n t + in_phase rows n t) + n
moves_next rows n t m =
    sum_add n (λ p. moves_before rows p t + moves_in rows p t) (λ p. 1)
    ∙ ap (λ (k : ℕ). k + sum_below n (λ p. 1)) (sum_add n (λ p. moves_before rows p t) (λ p. moves_in rows p t)
    ∙ ap (λ (k : ℕ). sum_below n (λ p. moves_before rows p t) + k) (sum_add n (λ p. length (rows t p).out) (λ p. length (rows t p).due)
    ∙ ap (λ (k : ℕ). k + sum_below n (λ p. length (rows t p).due)) (sends_in rows n t m)
    ∙ ap (λ (k : ℕ). in_phase rows n t + k) (takes_in rows n t m)))
    ∙ ap (λ (k : ℕ). sum_below n (λ p. moves_before rows p t) + (in_phase rows n t + in_phase rows n t) + k) (sum_ones n)

no_letters_yet : (rows : ℕ → ℕ → Face) (n : ℕ) → letters_before rows n zero ≡ 0
no_letters_yet rows n = sum_ext n (λ p. sum_below n (λ q. 0)) (λ p. 0) (λ p l. sum_zero n) ∙ sum_zero n

add_up : (m' m i n l' l t : ℕ) (nt nt' : ℕ) → m' ≡ m + (i + i) + n → l' ≡ l + i → m ≡ 2 * l + nt → nt' ≡ nt + n → m' ≡ 2 * l' + nt'
add_up m' m i n l' l t nt nt' a b c d = omega arith

mul_next : (n t : ℕ) → n * suc t ≡ n * t + n
mul_next n t = omega arith

pub two_each : (rows : ℕ → ℕ → Face) (n : ℕ) → ((t : ℕ) → Meets n (rows t)) → (t : ℕ) → sum_below n (λ p. moves_before rows p t)
    ≡ 2 * letters_before rows n t + n * t
two_each rows n meets zero =
    let a : letters_before rows n zero ≡ 0 = no_letters_yet rows n in
    sum_zero n ∙ (let j : 0 ≡ 2 * letters_before rows n zero + n * 0 = omega (arith, a) in j)
two_each rows n meets (suc t) =
    add_up (sum_below n (λ p. moves_before rows p (suc t))) (sum_below n (λ p. moves_before rows p t)) (in_phase rows n t) n
    (letters_before rows n (suc t)) (letters_before rows n t) t (n * t) (n * suc t)
    (moves_next rows n t (meets t)) (letters_next rows n t) (two_each rows n meets t) (mul_next n t)
