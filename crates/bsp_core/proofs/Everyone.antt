-- Phases in which each node sends to all others, or all others send to node 0.
use Rattle.std.proofs.Common.{◌≡◌, ◌≢◌, ℕ, suc, zero, ◌+◌, ◌<◌, ◌≤◌, List, [], ◌∷◌, ◌++◌, ◌⊎◌, inl, inr, map, arith, refl, sym, ◌∙◌, ap}
use Rattle.std.proofs.Common.{subst}
use Rattle.std.proofs.lemmas.List.{append-nil, map-append}
use Rattle.std.proofs.lemmas.Bool.{cases_eq}
use Rattle.std.proofs.lemmas.Bool.Decides.{nat_tests}
use Rattle.chaos_letter.specs.declared.letter.Letter.{Letter}
use Rattle.chaos_letter.specs.declared.wanted.Wanted.{Wanted}
use Rattle.chaos_letter.specs.Fits.{Fits}
use Rattle.bsp_core.specs.Views.{Face, for_node, incoming, Ascends, nodes_in, Serves}
use Rattle.bsp_core.specs.Others.{others, each}
use Rattle.bsp_core.proofs.Places.{for_node-append, for_node_same, for_node_other, incoming-append}

pub nodes_each : {A : Type 0} (f : ℕ → A) (qs : List ℕ) → nodes_in (each f qs) ≡ qs
nodes_each f [] = refl
nodes_each f (q ∷ qs) = ap (λ (z : List ℕ). q ∷ z) (nodes_each f qs)

pub each_append : {A : Type 0} (f : ℕ → A) (xs ys : List ℕ) → each f (xs ++ ys) ≡ each f xs ++ each f ys
each_append f [] ys = refl
each_append f (x ∷ xs) ys = ap (λ (z : List (ℕ × _)). (x, f x) ∷ z) (each_append f xs ys)

pub others_at : (me k : ℕ) → k ≡ me → others me (suc k) ≡ others me k
others_at me k e = grind (arith, nat_tests)

pub others_by : (me k : ℕ) → k ≢ me → others me (suc k) ≡ others me k ++ k ∷ []
others_by me k e = grind (arith, nat_tests)

-- ascending lists
abbrev pub Under : ℕ → List ℕ → Type 0
Under y [] = Unit {0}
Under y (x ∷ xs) = (x < y) × Under y xs

under_snoc : (y z : ℕ) (xs : List ℕ) → Under y xs → y ≤ z → Under (suc z) (xs ++ z ∷ [])
under_snoc y z [] h l = (omega arith, tt)
under_snoc y z (x ∷ xs) h l = (omega (arith, h.0), under_snoc y z xs h.1 l)

under_more : (y z : ℕ) (xs : List ℕ) → Under y xs → y ≤ z → Under z xs
under_more y z [] h l = tt
under_more y z (x ∷ xs) h l = (omega (arith, h.0), under_more y z xs h.1 l)

asc_snoc : (me count low : ℕ) (xs : List ℕ) (y : ℕ) → Ascends me count low xs → Under y xs → low ≤ y → y < count → y ≢ me
    → Ascends me count low (xs ++ y ∷ [])
asc_snoc me count low [] y h b l c n = (l, c, n, tt)
asc_snoc me count low (x ∷ xs) y h b l c n = (h.0, h.1, h.2, asc_snoc me count (x + 1) xs y h.3 b.1 (omega (arith, b.0)) c n)

others_under : (me k : ℕ) → Under k (others me k)
others_under me zero = tt
others_under me (suc k) = elim (cases_eq k me) [
  | inl e ↦ subst (λ (z : List ℕ). Under (suc k) z) (sym (others_at me k e)) (under_more k (suc k) (others me k) (others_under me k)
      (omega arith))
  | inr e ↦ subst (λ (z : List ℕ). Under (suc k) z) (sym (others_by me k e)) (under_snoc k k (others me k) (others_under me k)
      (omega arith))
]

pub others_ascend : (me count k : ℕ) → k ≤ count → Ascends me count 0 (others me k)
others_ascend me count zero h = tt
others_ascend me count (suc k) h = elim (cases_eq k me) [
  | inl e ↦ subst (λ (z : List ℕ). Ascends me count 0 z) (sym (others_at me k e)) (others_ascend me count k (omega arith))
  | inr e ↦ subst (λ (z : List ℕ). Ascends me count 0 z) (sym (others_by me k e))
      (asc_snoc me count 0 (others me k) k (others_ascend me count k (omega arith)) (others_under me k) (omega arith) (omega arith) e)
]

-- what all others have for p
each_last : {A : Type 0} (f : ℕ → A) (me p k : ℕ) → k ≢ me → for_node p (each f (others me (suc k))) ≡ for_node p (each f (others me k))
    ++ for_node p ((k, f k) ∷ [])
each_last f me p k e =
    ap (λ (z : List ℕ). for_node p (each f z)) (others_by me k e) ∙ ap (for_node p) (each_append f (others me k) (k ∷ []))
    ∙ for_node-append p (each f (others me k)) ((k, f k) ∷ [])

pub each_none : {A : Type 0} (f : ℕ → A) (me p k : ℕ) → (p ≡ me) ⊎ (k ≤ p) → for_node p (each f (others me k)) ≡ []
each_none f me p zero h = refl
each_none f me p (suc k) h =
    let less : (p ≡ me) ⊎ (k ≤ p) = elim h [ inl a ↦ inl a | inr b ↦ inr (omega arith) ] in
    elim (cases_eq k me) [
      | inl e ↦ ap (λ (z : List ℕ). for_node p (each f z)) (others_at me k e) ∙ each_none f me p k less
      | inr e ↦ each_last f me p k e
          ∙ ap (λ (z : List _). z ++ for_node p ((k, f k) ∷ [])) (each_none f me p k less)
          ∙ for_node_other p k (f k) [] (elim h [ inl a ↦ (λ z. e (sym z ∙ a)) | inr b ↦ (λ z. absurd (omega arith)) ])
    ]

pub each_one : {A : Type 0} (f : ℕ → A) (me p k : ℕ) → p ≢ me → p < k → for_node p (each f (others me k)) ≡ f p ∷ []
each_one f me p zero n l = absurd (omega arith)
each_one f me p (suc k) n l = elim (cases_eq p k) [
  | inl e ↦ each_last f me p k (λ z. n (e ∙ z)) ∙ ap (λ (z : List _). z ++ for_node p ((k, f k) ∷ []))
      (each_none f me p k (inr (omega arith)))
      ∙ for_node_same p k (f k) [] e ∙ ap (λ (j : ℕ). f j ∷ []) (sym e)
  | inr e ↦ elim (cases_eq k me) [
    | inl i ↦ ap (λ (z : List ℕ). for_node p (each f z)) (others_at me k i) ∙ each_one f me p k n (omega (arith, e))
    | inr i ↦ each_last f me p k i ∙ ap (λ (z : List _). z ++ for_node p ((k, f k) ∷ [])) (each_one f me p k n (omega (arith, e)))
        ∙ ap (λ (z : List _). f p ∷ z) (for_node_other p k (f k) [] e)
  ]
]

pub serves_by : (ws vs : List Wanted) (xs ys : List Letter) → ws ≡ vs → xs ≡ ys → Serves vs ys → Serves ws xs
serves_by ws vs xs ys e i h = subst (λ (z : List Wanted). Serves z xs) (sym e) (subst (λ (z : List Letter). Serves vs z) (sym i) h)

-- each sends to all others
pub all_serves : (wanted : ℕ → Wanted) (letter : ℕ → Letter) (n p q : ℕ) → p < n → q < n → (p ≢ q → Fits (wanted p) (letter q)) →
    Serves (for_node p (each wanted (others q n))) (for_node q (each letter (others p n)))
all_serves wanted letter n p q lp lq fits = elim (cases_eq p q) [
  | inl e ↦ serves_by (for_node p (each wanted (others q n))) [] (for_node q (each letter (others p n))) []
      (each_none wanted q p n (inl e)) (each_none letter p q n (inl (sym e))) tt
  | inr e ↦ serves_by (for_node p (each wanted (others q n))) (wanted p ∷ []) (for_node q (each letter (others p n))) (letter q ∷ [])
      (each_one wanted q p n e lp) (each_one letter p q n (λ z. e (sym z)) lq) (fits e)
]

-- the letters that come from all others
pub incoming_all : (row : ℕ → Face) (wanted : ℕ → Wanted) (x : ℕ → Letter) (p k : ℕ)
    → ((q : ℕ) → q < k → q ≢ p → for_node p (row q).out ≡ x q ∷ []) →
    incoming row p (each wanted (others p k)) ≡ map x (others p k)
incoming_all row wanted x p zero h = refl
incoming_all row wanted x p (suc k) h =
    let ih : incoming row p (each wanted (others p k)) ≡ map x (others p k) = incoming_all row wanted x p k (λ q l. h q (omega arith)) in
    elim (cases_eq k p) [
      | inl e ↦ ap (λ (z : List ℕ). incoming row p (each wanted z)) (others_at p k e) ∙ ih ∙ ap (map x) (sym (others_at p k e))
      | inr e ↦
          ap (λ (z : List ℕ). incoming row p (each wanted z)) (others_by p k e)
          ∙ ap (incoming row p) (each_append wanted (others p k) (k ∷ []))
          ∙ incoming-append row p (each wanted (others p k)) ((k, wanted k) ∷ [])
          ∙ ap (λ (z : List Letter). z ++ incoming row p ((k, wanted k) ∷ [])) ih
          ∙ ap (λ (z : List Letter). map x (others p k) ++ z) (append-nil (for_node p (row k).out) ∙ h k (omega arith) e)
          ∙ sym (map-append x (others p k) (k ∷ []))
          ∙ ap (map x) (sym (others_by p k e))
    ]
