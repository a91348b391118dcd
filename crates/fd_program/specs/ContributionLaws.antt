-- What a loop leaves at an element, from what each node's own iterations contribute to it.
use Rattle.std.specs.Prelude.{◌≡◌, refl, ℕ, ◌+◌, ◌<◌, ℤ, Bool, true, false, ◌==◌, cond, List, [], ◌∷◌, ◌++◌, length, map, fold, filter}
use Rattle.std.specs.Prelude.{filter_map, flat_map, count_by, Some, None}
use Rattle.std.specs.List.{AllByRecursion, cons_option}
use Rattle.std.proofs.Common.{ap, sym, ◌∙◌, subst, arith, inl, inr}
use Rattle.std.proofs.Math.Path.{fun_ext}
use Rattle.std.proofs.lemmas.List.{map-append}
use Rattle.std.proofs.lemmas.List.Elements.{filter-append, recursion_from_All}
use Rattle.std.proofs.lemmas.List.Sums.{sum_by-cons}
use Rattle.chaos_dist.specs.Buckets.{bucket}
use Rattle.fd_words.specs.Combining.{combined}
use Rattle.fd_words.specs.Lists.{list_at}
use Rattle.fd_words.specs.declared.combine.Combine.{Combine}
use Rattle.fd_program.specs.Checks.{IsSite}
use Rattle.fd_program.specs.CombinedLaws.{AreOnce, joined_by, combining_splits, one_if}
use Rattle.fd_program.specs.Contributions.{with_value, joined, contributions_of}
use Rattle.fd_program.specs.Homes.{home_of}
use Rattle.fd_program.specs.ListLaws.{PairsByRecursion, all_weaker, all_filter, all_flat_map, all_parts, pairs_filter, pairs_weaker}
use Rattle.fd_program.specs.LoopCases.{Together, Agreeing, reduced_fold, three_of, writes_agree}
use Rattle.fd_program.specs.LoopLaws.{reaches, writes_to, applied, element_after_writes}
use Rattle.fd_program.specs.Loops.{Write, changed, writes_at, writes_of, after_loop, offence_of, iterations_of}
use Rattle.fd_program.specs.Stores.{number_at}
use Rattle.fd_program.specs.declared.loop_facts.LoopFacts.{LoopFacts}

-- after a loop without an offence an element is the old one with the nodes' contributions, in any order of the nodes
abbrev pub ContributionsMakeElements : Type 0
ContributionsMakeElements =
    (f : LoopFacts) (owners : List (List ℕ)) (store : List (List ℤ)) (array place : ℕ) (nodes : List ℕ)
    → IsSite f.arrays f.site → offence_of f.arrays f.site f.turn store ≡ None
    → AreOnce (home_of f owners store) nodes (iterations_of f.turn)
    → array < length store → place < length (list_at store array)
    → number_at (list_at (after_loop f.arrays f.site f.turn store) array) place
    ≡ fold applied (number_at (list_at store array) place) (contributions_of f owners store array place nodes)

-- ---- lists

pub filter_parts : {A B : Type 0} (p : B → Bool) (g : A → List B) (xs : List A)
    → filter p (flat_map g xs) ≡ flat_map (λ x. filter p (g x)) xs
filter_parts p g [] = refl
filter_parts p g (x ∷ xs) = filter-append p (g x) (flat_map g xs) ∙ ap (λ l. filter p (g x) ++ l) (filter_parts p g xs)

map_parts : {A B C : Type 0} (h : B → C) (g : A → List B) (xs : List A) → map h (flat_map g xs) ≡ flat_map (λ x. map h (g x)) xs
map_parts h g [] = refl
map_parts h g (x ∷ xs) = map-append h (g x) (flat_map g xs) ∙ ap (λ l. map h (g x) ++ l) (map_parts h g xs)

first_empty : {A : Type 0} (xs ys : List A) → xs ++ ys ≡ [] → xs ≡ []
first_empty [] ys e = refl
first_empty (x ∷ xs) ys e = cc

second_empty : {A : Type 0} (xs ys : List A) → xs ++ ys ≡ [] → ys ≡ []
second_empty [] ys e = e
second_empty (x ∷ xs) ys e = cc

abbrev value_in : Write → ℤ
value_in w = w.value

module _ (P : ℤ → List Write) (home : ℤ → ℕ) where
  abbrev part : List ℤ → ℕ → List Write
  part is node = flat_map P (bucket home is node)

  abbrev joined_parts : List ℤ → List ℕ → List Write
  joined_parts is nodes = filter_map (λ node. joined (part is node)) nodes

  -- ---- nothing is written

  all_empty : (is : List ℤ) → flat_map P is ≡ [] → AllByRecursion (λ i. P i ≡ []) is
  all_empty [] e = tt
  all_empty (i ∷ is) e = (first_empty (P i) (flat_map P is) e, all_empty is (second_empty (P i) (flat_map P is) e))

  empty_of : (is : List ℤ) → AllByRecursion (λ i. P i ≡ []) is → flat_map P is ≡ []
  empty_of [] h = refl
  empty_of (i ∷ is) h = ap (λ l. l ++ flat_map P is) h.0 ∙ empty_of is h.1

  empty_part : (is : List ℤ) (node : ℕ) → flat_map P is ≡ [] → part is node ≡ []
  empty_part is node e =
      empty_of (bucket home is node)
      (all_weaker (λ i. (home i == node ≡ true) × (P i ≡ [])) (λ i. P i ≡ []) (λ i k. k.1) (bucket home is node)
      (all_filter (λ i. P i ≡ []) (λ i. home i == node) is (all_empty is e)))

  no_parts : (is : List ℤ) (nodes : List ℕ) → flat_map P is ≡ [] → joined_parts is nodes ≡ []
  no_parts is [] e = refl
  no_parts is (p ∷ ps) e = ap (λ ws. cons_option (joined ws) (joined_parts is ps)) (empty_part is p e) ∙ no_parts is ps e

  -- ---- one write

  skipped : (b : Bool) (i : ℤ) (is : List ℤ) → P i ≡ [] → flat_map P (cond b (i ∷ is) is) ≡ flat_map P is
  skipped true i is e = ap (λ l. l ++ flat_map P is) e
  skipped false i is e = refl

  module _ (i : ℤ) (is : List ℤ) (w : Write) (here : P i ≡ w ∷ []) (nowhere : flat_map P is ≡ []) where
    first_count : (p : ℕ) (ps : List ℕ) → count_by (λ node. home i == node) (p ∷ ps) ≡ one_if (home i == p)
        + count_by (λ node. home i == node) ps
    first_count p ps = sum_by-cons (λ node. one_if (home i == node)) p ps

    its_part : (b : Bool) (p : ℕ) → home i == p ≡ b → part (i ∷ is) p ≡ cond b (w ∷ []) []
    its_part true p e =
        ap (λ b. flat_map P (cond b (i ∷ bucket home is p) (bucket home is p))) e
        ∙ ap (λ l. l ++ part is p) here
        ∙ ap (λ l. w ∷ l) (empty_part is p nowhere)
    its_part false p e = ap (λ b. flat_map P (cond b (i ∷ bucket home is p) (bucket home is p))) e ∙ empty_part is p nowhere

    none_of : (nodes : List ℕ) → count_by (λ node. home i == node) nodes ≡ 0 → joined_parts (i ∷ is) nodes ≡ []
    none_of [] none = refl
    none_of (p ∷ ps) none = by (home i == p) refl (none_of ps)
      where
        by : (b : Bool) → home i == p ≡ b → (count_by (λ node. home i == node) ps ≡ 0 → joined_parts (i ∷ is) ps ≡ [])
            → joined_parts (i ∷ is) (p ∷ ps) ≡ []
        by true e rest = absurd (let one : one_if (home i == p) ≡ 1 = ap one_if e in omega (arith, first_count p ps, none, one))
        by false e rest =
            let nought : one_if (home i == p) ≡ 0 = ap one_if e in
            let still : count_by (λ node. home i == node) ps ≡ 0 = omega (arith, first_count p ps, none, nought) in
            ap (λ ws. cons_option (joined ws) (joined_parts (i ∷ is) ps)) (its_part false p e) ∙ rest still

    one_of : (nodes : List ℕ) → count_by (λ node. home i == node) nodes ≡ 1 → joined_parts (i ∷ is) nodes ≡ with_value w w.value ∷ []
    one_of [] one = cc
    one_of (p ∷ ps) one = by (home i == p) refl (one_of ps)
      where
        by : (b : Bool) → home i == p ≡ b → (count_by (λ node. home i == node) ps ≡ 1 → joined_parts (i ∷ is) ps ≡ with_value w w.value
            ∷ [])
            → joined_parts (i ∷ is) (p ∷ ps) ≡ with_value w w.value ∷ []
        by true e rest =
            let whole : one_if (home i == p) ≡ 1 = ap one_if e in
            let none : count_by (λ node. home i == node) ps ≡ 0 = omega (arith, first_count p ps, one, whole) in
            ap (λ ws. cons_option (joined ws) (joined_parts (i ∷ is) ps)) (its_part true p e)
            ∙ ap (λ l. with_value w w.value ∷ l) (none_of ps none)
        by false e rest =
            let nought : one_if (home i == p) ≡ 0 = ap one_if e in
            let still : count_by (λ node. home i == node) ps ≡ 1 = omega (arith, first_count p ps, one, nought) in
            ap (λ ws. cons_option (joined ws) (joined_parts (i ∷ is) ps)) (its_part false p e) ∙ rest still

  one_part : (is : List ℤ) (nodes : List ℕ) (w : Write) → flat_map P is ≡ w ∷ [] → AreOnce home nodes is
      → joined_parts is nodes ≡ with_value w w.value ∷ []
  one_part [] nodes w e once = cc
  one_part (i ∷ is) nodes w e once = by (P i) refl e (λ rest. one_part is nodes w rest once.1)
    where
      by : (l : List Write) → P i ≡ l → l ++ flat_map P is ≡ w ∷ []
          → (flat_map P is ≡ w ∷ [] → joined_parts is nodes ≡ with_value w w.value ∷ [])
          → joined_parts (i ∷ is) nodes ≡ with_value w w.value ∷ []
      by [] none f rest =
          let same : joined_parts (i ∷ is) nodes ≡ joined_parts is nodes =
          ap (λ (g : ℕ → List Write). filter_map (λ node. joined (g node)) nodes)
          (fun_ext (λ node. skipped (home i == node) i (bucket home is node) none)) in
          same ∙ rest f
      by (v ∷ vs) some f rest =
          let same : v ≡ w = cc in
          let tail : vs ++ flat_map P is ≡ [] = cc in
          let here : P i ≡ w ∷ [] = some ∙ ap (λ x. x ∷ vs) same ∙ ap (λ l. w ∷ l) (first_empty vs (flat_map P is) tail) in
          one_of i is w here (second_empty vs (flat_map P is) tail) nodes once.0

  -- ---- writes by one operator

  module _ (op : Combine) where
    abbrev By : Write → Type 0
    By w = w.operator ≡ Some op

    abbrev values_in : ℤ → List ℤ
    values_in i = map value_in (P i)

    joined_step : (ws : List Write) (old : ℤ) (rest : List Write) (vs : List ℤ) → AllByRecursion By ws
        → ((o : ℤ) → fold applied o rest ≡ fold (combined op) o vs)
        → fold applied old (cons_option (joined ws) rest) ≡ fold (combined op) old (cons_option (joined_by op (map value_in ws)) vs)
    joined_step [] old rest vs h same = same old
    joined_step (w ∷ ws) old rest vs h same =
        ap (λ o. fold applied (changed o old (fold applied w.value ws)) rest) h.0
        ∙ ap (λ v. fold applied (combined op old v) rest) (reduced_fold op ws w.value h.1)
        ∙ same (combined op old (fold (combined op) w.value (map value_in ws)))

    joined_values : (is : List ℤ) (nodes : List ℕ) (old : ℤ) → AllByRecursion (λ i. AllByRecursion By (P i)) is
        → fold applied old (joined_parts is nodes) ≡ fold (combined op) old
        (filter_map (λ node. joined_by op (flat_map values_in (bucket home is node))) nodes)
    joined_values is [] old h = refl
    joined_values is (p ∷ ps) old h =
        let all : AllByRecursion By (part is p) =
        all_flat_map By P (bucket home is p)
        (all_weaker (λ i. (home i == p ≡ true) × AllByRecursion By (P i)) (λ i. AllByRecursion By (P i)) (λ i k. k.1) (bucket home is p)
        (all_filter (λ i. AllByRecursion By (P i)) (λ i. home i == p) is h)) in
        let vs = filter_map (λ node. joined_by op (flat_map values_in (bucket home is node))) ps in
        joined_step (part is p) old (joined_parts is ps) vs all (λ o. joined_values is ps o h)
        ∙ ap (λ l. fold (combined op) old (cons_option (joined_by op l) vs)) (map_parts value_in P (bucket home is p))

    many_parts : (is : List ℤ) (nodes : List ℕ) (old : ℤ) → AllByRecursion By (flat_map P is) → AreOnce home nodes is
        → fold applied old (flat_map P is) ≡ fold applied old (joined_parts is nodes)
    many_parts is nodes old h once =
        reduced_fold op (flat_map P is) old h
        ∙ ap (fold (combined op) old) (map_parts value_in P is)
        ∙ combining_splits op values_in home is nodes old once
        ∙ sym (joined_values is nodes old (all_parts By P is h))

  pub by_nodes : (is : List ℤ) (nodes : List ℕ) (old : ℤ) → PairsByRecursion Together (flat_map P is) → AreOnce home nodes is
      → fold applied old (flat_map P is) ≡ fold applied old (joined_parts is nodes)
  by_nodes is nodes old pairs once = elim (three_of (flat_map P is) old (fold applied old (flat_map P is)) pairs refl) [
    | inl one ↦ ap (fold applied old) one.only ∙ sym (ap (fold applied old) (one_part is nodes one.write one.only once))
    | inr (inl many) ↦ many_parts many.operator is nodes old (recursion_from_All (λ (w : Write). w.operator ≡ Some many.operator)
        (flat_map P is) many.each) once
    | inr (inr none) ↦ ap (fold applied old) (none.none ∙ sym (no_parts is nodes none.none))
  ]

pub contributions_make_elements : ContributionsMakeElements
contributions_make_elements f owners store array place nodes known none once ha hp =
    let P : ℤ → List Write = λ i. writes_to array place (writes_at f.arrays f.site f.turn store i) in
    let home : ℤ → ℕ = home_of f owners store in
    let is = iterations_of f.turn in
    let old = number_at (list_at store array) place in
    let all : writes_to array place (writes_of f.arrays f.site f.turn store) ≡ flat_map P is = filter_parts (reaches array place)
    (writes_at f.arrays f.site f.turn store) is in
    let agreed = pairs_filter (Agreeing array place) (reaches array place) (writes_of f.arrays f.site f.turn store)
    (writes_agree f.arrays f.site f.turn store array place known none) in
    let pairs = pairs_weaker (λ v w. (reaches array place v ≡ true) × (reaches array place w ≡ true) × Agreeing array place v w) Together
    (λ v w k. k.2 k.0 k.1)
    (writes_to array place (writes_of f.arrays f.site f.turn store)) agreed in
    element_after_writes (writes_of f.arrays f.site f.turn store) store array place ha hp
    ∙ ap (fold applied old) all
    ∙ by_nodes P home is nodes old (subst (λ ws. PairsByRecursion Together ws) all pairs) once
    ∙ ap (λ (g : ℕ → List Write). fold applied old (filter_map (λ node. joined (g node)) nodes))
    (fun_ext (λ node. sym (filter_parts (reaches array place) (writes_at f.arrays f.site f.turn store) (bucket home is node))))
