-- Pairs drawn, over plain lists.
use Rattle.std.proofs.Common.{◌≡◌, ◌≢◌, ℕ, zero, suc, ◌+◌, ◌<◌, ◌≤◌, ℤ, pos, Bool, true, false, ◌==◌, cond, List, [], ◌∷◌, ◌++◌, length}
use Rattle.std.proofs.Common.{map, filter, drop, replicate, get_or, set, refl, ap, sym, ◌∙◌, subst, arith, inl, inr, append_assoc}
use Rattle.std.proofs.Common.{append-nil}
use Rattle.std.specs.Prelude.{nat_le, ◌&&◌, ◌-◌, if◌then◌else◌}
use Rattle.std.specs.List.{flat_map, AllByRecursion}
use Rattle.std.proofs.lemmas.Bool.{cases_eq}
use Rattle.std.proofs.lemmas.Bool.Decides.{nat_tests}
use Rattle.std.proofs.lemmas.List.{get_or-set_same, get_or-set_other, length-set}
use Rattle.fd_words.specs.Lists.{list_at}
use Rattle.list_laws.specs.Fronts.{begins}
use Rattle.list_laws.specs.Tests.{same_number, other_number, both_true}
use Rattle.fd_program.specs.Stores.{number_at}
use Rattle.inspect_places.specs.Dealing.{draws, drawn_after, has_pair, pair_at, pair_drawn}

abbrev pub pair_of : ℤ → ℤ → ℤ × ℤ
pair_of a b = (a, b)

-- what is left of a list that begins with a pair
record BeginsPair (l : List ℤ) (c : ℕ) (a b : ℤ) (more : List ℤ) : Type 0 where
  has : has_pair l c ≡ true
  pair : pair_at l c ≡ pair_of a b
  rest : drop (c + 2) l ≡ more

there : (n c : ℕ) → c + 1 < n → (nat_le 2 n && nat_le c (n - 2)) ≡ true
there n c h =
    let two : nat_le 2 n ≡ true = grind (arith, nat_tests) in
    let low : nat_le c (n - 2) ≡ true = grind (arith, nat_tests) in
    both_true (nat_le 2 n) (nat_le c (n - 2)) two low

begins_pair : (l : List ℤ) (c : ℕ) (a b : ℤ) (more : List ℤ) → drop c l ≡ a ∷ b ∷ more → BeginsPair l c a b more
begins_pair l c a b more e =
    let one = begins (pos 0) l c a (b ∷ more) e in
    let two = begins (pos 0) l (c + 1) b more one.rest in
    let has : has_pair l c ≡ true = there (length l) c two.within in
    let next : c + 2 ≡ c + 1 + 1 = omega arith in
    record {
      has = has;
      pair =
          ap (λ t. if t then pair_of (number_at l c) (number_at l (c + 1)) else pair_of (pos 0) (pos 0)) has
          ∙ ap (λ v. pair_of v (number_at l (c + 1))) one.first
          ∙ ap (λ v. pair_of a v) two.first;
      rest = ap (λ k. drop k l) next ∙ two.rest;
    }

module _ {A : Type 0} (key : A → ℕ) (first second : A → ℤ) (lists : List (List ℤ)) (n : ℕ) where
  abbrev pub row : A → List ℤ
  row x = first x ∷ second x ∷ []

  abbrev pub value : A → ℤ × ℤ
  value x = pair_of (first x) (second x)

  -- behind those that are drawn stand the pairs of these items
  abbrev pub AreLeft : List ℕ → List A → Type 0
  AreLeft drawn xs = (k : ℕ) → k < n → drop (get_or drawn k 0) (list_at lists k) ≡ flat_map row (filter (λ x. key x == k) xs)

  abbrev one_more : List ℕ → ℕ → List ℕ
  one_more drawn k = set drawn k (get_or drawn k 0 + 2)

  drawn_is : (drawn : List ℕ) (k : ℕ) → has_pair (list_at lists k) (get_or drawn k 0) ≡ true → pair_drawn lists drawn k ≡ one_more drawn k
  drawn_is drawn k on = ap (λ b. cond b (one_more drawn k) drawn) on

  -- what the pairs of the first items are, and what is left behind them
  pub record AreDrawn (drawn : List ℕ) (us vs : List A) : Type 0 where
    pub pairs : draws lists drawn (map key us) ≡ map value us
    pub left : AreLeft (drawn_after lists drawn (map key us)) vs
    pub wide : n ≤ length (drawn_after lists drawn (map key us))

  left_next : (drawn : List ℕ) (x : A) (xs : List A) → key x < length drawn → AreLeft drawn (x ∷ xs)
      → drop (get_or drawn (key x) 0 + 2) (list_at lists (key x)) ≡ flat_map row (filter (λ y. key y == key x) xs)
      → AreLeft (one_more drawn (key x)) xs
  left_next drawn x xs low left rest j less =
      let k = key x in
      elim (cases_eq j k) [
        | inl e ↦
            ap (λ i. drop (get_or (one_more drawn k) i 0) (list_at lists i)) e
            ∙ ap (λ c. drop c (list_at lists k)) (get_or-set_same drawn k (get_or drawn k 0 + 2) 0 low)
            ∙ rest
            ∙ ap (λ i. flat_map row (filter (λ y. key y == i) xs)) (sym e)
        | inr e ↦
            let other : k ≢ j = λ f. e (sym f) in
            ap (λ c. drop c (list_at lists j)) (get_or-set_other drawn k j (get_or drawn k 0 + 2) 0 e)
            ∙ left j less
            ∙ ap (λ b. flat_map row (cond b (x ∷ filter (λ y. key y == j) xs) (filter (λ y. key y == j) xs))) (other_number k j other)
      ]

  pub drawn_right : (us vs : List A) (drawn : List ℕ) → n ≤ length drawn → AllByRecursion (λ x. key x < n) us → AreLeft drawn (us ++ vs)
      → AreDrawn drawn us vs
  drawn_right [] vs drawn wide low left = record { pairs = refl; left = left; wide = wide }
  drawn_right (x ∷ us) vs drawn wide low left =
      let k = key x in
      let xs = us ++ vs in
      let less : k < length drawn = omega (arith, low.0, wide) in
      let here : drop (get_or drawn k 0) (list_at lists k) ≡ first x ∷ second x ∷ flat_map row (filter (λ y. key y == k) xs) =
      left k low.0 ∙ ap (λ b. flat_map row (cond b (x ∷ filter (λ y. key y == k) xs) (filter (λ y. key y == k) xs))) (same_number k) in
      let it = begins_pair (list_at lists k) (get_or drawn k 0) (first x) (second x) (flat_map row (filter (λ y. key y == k) xs)) here in
      let is = drawn_is drawn k it.has in
      let same : length (one_more drawn k) ≡ length drawn = length-set drawn k (get_or drawn k 0 + 2) in
      let after : n ≤ length (pair_drawn lists drawn k) = subst (λ (d : List ℕ). n ≤ length d) (sym is) (omega (arith, same, wide)) in
      let more : AreLeft (pair_drawn lists drawn k) xs = subst (λ d. AreLeft d xs) (sym is) (left_next drawn x xs less left it.rest) in
      let rest = drawn_right us vs (pair_drawn lists drawn k) after low.1 more in
      record {
        pairs = ap (λ v. v ∷ draws lists (pair_drawn lists drawn k) (map key us)) it.pair ∙ ap (λ l. value x ∷ l) rest.pairs;
        left = rest.left;
        wide = rest.wide;
      }
