-- The lowest of the nodes that are most often among the owners.
use Rattle.std.specs.Prelude.{find, nat_le, ◌==◌, ◌&&◌, count_by}
use Rattle.std.specs.List.{list_all, range_with_len}
use Rattle.std.proofs.Common.{◌≡◌, refl, ℕ, zero, suc, ◌+◌, ◌≤◌, ◌<◌, Bool, true, false, cond, List, length, get_or, Some, unwrap_or, ap}
use Rattle.std.proofs.Common.{sym, ◌∙◌, arith, inl, inr}
use Rattle.std.proofs.lemmas.Bool.{cases_lt}
use Rattle.std.proofs.lemmas.Bool.Decides.{nat_tests}
use Rattle.chaos_dist.specs.Homes.{is_most, most_of}

-- the first of n numbers from a that passes
find_range : (p : ℕ → Bool) (a n b : ℕ) → a ≤ b → b < a + n → p b ≡ true → ((m : ℕ) → a ≤ m → m < b → p m ≡ false)
    → find p (range_with_len a n) ≡ Some b
find_range p a zero b low high passes fails = absurd (omega arith)
find_range p a (suc n) b low high passes fails =
    elim (cases_lt a b) [
      | inl less ↦
          ap (λ t. cond t (Some a) (find p (range_with_len (a + 1) n))) (fails a (omega arith) less)
          ∙ find_range p (a + 1) n b (omega arith) (omega arith) passes (λ m from to. fails m (omega arith) to)
      | inr more ↦
          let same : b ≡ a = omega arith in
          ap (λ t. cond t (Some a) (find p (range_with_len (a + 1) n))) (ap p (sym same) ∙ passes) ∙ ap Some (sym same)
    ]

all_range : (q : ℕ → Bool) (a n : ℕ) → ((m : ℕ) → a ≤ m → m < a + n → q m ≡ true) → list_all q (range_with_len a n) ≡ true
all_range q a zero each = refl
all_range q a (suc n) each =
    ap (λ t. t && list_all q (range_with_len (a + 1) n)) (each a (omega arith) (omega arith))
    ∙ all_range q (a + 1) n (λ m from to. each m (omega arith) (omega arith))

neither : (t r : Bool) → r ≡ false → (t && r) ≡ false
neither true r h = h
neither false r h = refl

some_not : (q : ℕ → Bool) (a n b : ℕ) → a ≤ b → b < a + n → q b ≡ false → list_all q (range_with_len a n) ≡ false
some_not q a zero b low high fails = absurd (omega arith)
some_not q a (suc n) b low high fails =
    elim (cases_lt a b) [
      | inl less ↦ neither (q a) (list_all q (range_with_len (a + 1) n)) (some_not q (a + 1) n b (omega arith) (omega arith) fails)
      | inr more ↦
          let same : b ≡ a = omega arith in
          ap (λ t. t && list_all q (range_with_len (a + 1) n)) (ap q (sym same) ∙ fails)
    ]

no_more : (x y : ℕ) → x ≤ y → nat_le x y ≡ true
no_more x y h = grind (arith, nat_tests)

more : (x y : ℕ) → y < x → nat_le x y ≡ false
more x y h = grind (arith, nat_tests)

-- a node that none exceeds, and that exceeds those below it
pub most_of-is : (nodes home : ℕ) (owners : List ℕ) → home < nodes
    → ((m : ℕ) → m < nodes → count_by (λ o. o == m) owners ≤ count_by (λ o. o == home) owners)
    → ((m : ℕ) → m < home → count_by (λ o. o == m) owners < count_by (λ o. o == home) owners)
    → most_of nodes owners ≡ home
most_of-is nodes home owners inside none_more below_less =
    let count = λ (m : ℕ). count_by (λ o. o == m) owners in
    ap (λ o. unwrap_or o 0) (find_range (is_most nodes owners) 0 nodes home (omega arith) (omega arith)
    (all_range (λ m. nat_le (count m) (count home)) 0 nodes (λ m from to. no_more (count m) (count home) (none_more m (omega arith))))
    (λ k from to. some_not (λ m. nat_le (count m) (count k)) 0 nodes home (omega arith) (omega arith)
    (more (count home) (count k) (below_less k to))))

-- the same, by the counts of the nodes
pub most_of-counts : (counts owners : List ℕ) (nodes home : ℕ) → home < nodes → nodes ≤ length counts
    → ((i : ℕ) → i < length counts → get_or counts i 0 ≡ count_by (λ o. o == i) owners)
    → ((m : ℕ) → m < nodes → get_or counts m 0 ≤ get_or counts home 0)
    → ((m : ℕ) → m < home → get_or counts m 0 < get_or counts home 0)
    → home ≡ most_of nodes owners
most_of-counts counts owners nodes home inside places counted none_more lower_less =
    let here = counted home (omega arith) in
    sym (most_of-is nodes home owners inside
    (λ m low. omega (arith, none_more m low, counted m (omega arith), here))
    (λ m low. omega (arith, lower_less m low, counted m (omega arith), here)))
