-- Values that are combined may be combined first where they arise, and in any order of the nodes.
use Rattle.std.specs.Prelude.{◌≡◌, refl, ℕ, ◌+◌, ℤ, Bool, true, false, ◌==◌, cond, List, [], ◌∷◌, ◌++◌, fold, filter_map, flat_map}
use Rattle.std.specs.Prelude.{count_by, Option, Some, None}
use Rattle.std.specs.List.{AllByRecursion, cons_option}
use Rattle.std.proofs.Common.{ap, sym, ◌∙◌, arith, append_assoc}
use Rattle.std.proofs.lemmas.List.Sums.{sum_by-cons}
use Rattle.chaos_dist.specs.Buckets.{bucket}
use Rattle.fd_words.specs.CombineLaws.{combined_comm, combined_assoc}
use Rattle.fd_words.specs.Combining.{combined}
use Rattle.fd_words.specs.declared.combine.Combine.{Combine}

-- values combined into one, where there are any
abbrev pub joined_by : Combine → List ℤ → Option ℤ
joined_by op [] = None
joined_by op (v ∷ vs) = Some (fold (combined op) v vs)

-- each iteration's home is among the nodes once
abbrev pub AreOnce : (ℤ → ℕ) → List ℕ → List ℤ → Type 0
AreOnce home nodes iterations = AllByRecursion (λ i. count_by (λ node. home i == node) nodes ≡ 1) iterations

-- to combine the values of all iterations, each node may first combine those of its own iterations
abbrev pub CombiningSplits : Type 0
CombiningSplits =
    (op : Combine) (values : ℤ → List ℤ) (home : ℤ → ℕ) (iterations : List ℤ) (nodes : List ℕ) (old : ℤ) → AreOnce home nodes iterations
    → fold (combined op) old (flat_map values iterations)
    ≡ fold (combined op) old (filter_map (λ node. joined_by op (flat_map values (bucket home iterations node))) nodes)

-- ---- parts that are combined first

fold_first : (op : Combine) (a x : ℤ) (xs : List ℤ) → fold (combined op) (combined op a x) xs ≡ combined op a (fold (combined op) x xs)
fold_first op a x [] = refl
fold_first op a x (y ∷ ys) = ap (λ b. fold (combined op) b ys) (combined_assoc op a x y) ∙ fold_first op a (combined op x y) ys

fold_append : (op : Combine) (a : ℤ) (xs ys : List ℤ) → fold (combined op) a (xs ++ ys) ≡ fold (combined op) (fold (combined op) a xs) ys
fold_append op a [] ys = refl
fold_append op a (x ∷ xs) ys = fold_append op (combined op a x) xs ys

fold_part : (op : Combine) (a : ℤ) (xs : List ℤ) (rest : List ℤ) → fold (combined op) (fold (combined op) a xs) rest
    ≡ fold (combined op) a (cons_option (joined_by op xs) rest)
fold_part op a [] rest = refl
fold_part op a (x ∷ xs) rest = ap (λ b. fold (combined op) b rest) (fold_first op a x xs)

pub fold_parts : {A : Type 0} (op : Combine) (g : A → List ℤ) (ps : List A) (a : ℤ)
    → fold (combined op) a (flat_map g ps) ≡ fold (combined op) a (filter_map (λ p. joined_by op (g p)) ps)
fold_parts op g [] a = refl
fold_parts op g (p ∷ ps) a =
    fold_append op a (g p) (flat_map g ps)
    ∙ fold_parts op g ps (fold (combined op) a (g p))
    ∙ fold_part op a (g p) (filter_map (λ p. joined_by op (g p)) ps)

-- ---- parts in another order

swapped : (op : Combine) (a x y : ℤ) → combined op (combined op a x) y ≡ combined op (combined op a y) x
swapped op a x y = combined_assoc op a x y ∙ ap (combined op a) (combined_comm op x y) ∙ sym (combined_assoc op a y x)

one_earlier : (op : Combine) (a x : ℤ) (ys : List ℤ) → combined op (fold (combined op) a ys) x ≡ fold (combined op) (combined op a x) ys
one_earlier op a x [] = refl
one_earlier op a x (y ∷ ys) = one_earlier op (combined op a y) x ys ∙ ap (λ b. fold (combined op) b ys) (swapped op a y x)

-- a part is taken before what stands before it
part_earlier : (op : Combine) (a : ℤ) (ys xs : List ℤ) → fold (combined op) (fold (combined op) a ys) xs ≡ fold (combined op)
    (fold (combined op) a xs) ys
part_earlier op a ys [] = refl
part_earlier op a ys (x ∷ xs) =
    ap (λ b. fold (combined op) b xs) (one_earlier op a x ys) ∙ part_earlier op (combined op a x) ys xs

abbrev pub one_if : Bool → ℕ
one_if b = cond b 1 0

module _ (op : Combine) (values : ℤ → List ℤ) (home : ℤ → ℕ) where
  abbrev of_node : List ℤ → ℕ → List ℤ
  of_node iterations node = flat_map values (bucket home iterations node)

  abbrev of_nodes : List ℤ → List ℕ → List ℤ
  of_nodes iterations nodes = flat_map (of_node iterations) nodes

  -- an iteration more changes nothing where its home isn't among the nodes
  more_elsewhere : (i : ℤ) (is : List ℤ) (nodes : List ℕ) → count_by (λ node. home i == node) nodes ≡ 0
      → of_nodes (i ∷ is) nodes ≡ of_nodes is nodes
  more_elsewhere i is [] none = refl
  more_elsewhere i is (p ∷ ps) none = by (home i == p) refl (more_elsewhere i is ps)
    where
      first : count_by (λ node. home i == node) (p ∷ ps) ≡ one_if (home i == p) + count_by (λ node. home i == node) ps
      first = sum_by-cons (λ node. one_if (home i == node)) p ps

      by : (b : Bool) → home i == p ≡ b → (count_by (λ node. home i == node) ps ≡ 0 → of_nodes (i ∷ is) ps ≡ of_nodes is ps)
          → of_nodes (i ∷ is) (p ∷ ps) ≡ of_nodes is (p ∷ ps)
      by true e rest = absurd (let one : one_if (home i == p) ≡ 1 = ap one_if e in omega (arith, first, none, one))
      by false e rest =
          let nought : one_if (home i == p) ≡ 0 = ap one_if e in
          let still : count_by (λ node. home i == node) ps ≡ 0 = omega (arith, first, none, nought) in
          ap (λ b. flat_map values (cond b (i ∷ bucket home is p) (bucket home is p)) ++ of_nodes (i ∷ is) ps) e
          ∙ ap (λ l. of_node is p ++ l) (rest still)

  -- and where it is there once, its values may be taken first
  more_here : (i : ℤ) (is : List ℤ) (nodes : List ℕ) (a : ℤ) → count_by (λ node. home i == node) nodes ≡ 1
      → fold (combined op) a (of_nodes (i ∷ is) nodes) ≡ fold (combined op) (fold (combined op) a (values i)) (of_nodes is nodes)
  more_here i is [] a one = cc
  more_here i is (p ∷ ps) a one = by (home i == p) refl (more_here i is ps (fold (combined op) a (of_node is p)))
    where
      first : count_by (λ node. home i == node) (p ∷ ps) ≡ one_if (home i == p) + count_by (λ node. home i == node) ps
      first = sum_by-cons (λ node. one_if (home i == node)) p ps

      by : (b : Bool) → home i == p ≡ b
          → (count_by (λ node. home i == node) ps ≡ 1
          → fold (combined op) (fold (combined op) a (of_node is p)) (of_nodes (i ∷ is) ps)
          ≡ fold (combined op) (fold (combined op) (fold (combined op) a (of_node is p)) (values i)) (of_nodes is ps))
          → fold (combined op) a (of_nodes (i ∷ is) (p ∷ ps)) ≡ fold (combined op) (fold (combined op) a (values i)) (of_nodes is (p ∷ ps))
      by true e rest =
          let whole : one_if (home i == p) ≡ 1 = ap one_if e in
          let none : count_by (λ node. home i == node) ps ≡ 0 = omega (arith, first, one, whole) in
          ap (λ b. fold (combined op) a (flat_map values (cond b (i ∷ bucket home is p) (bucket home is p)) ++ of_nodes (i ∷ is) ps)) e
          ∙ ap (λ l. fold (combined op) a (values i ++ of_node is p ++ l)) (more_elsewhere i is ps none)
          ∙ ap (fold (combined op) a) (append_assoc (values i) (of_node is p) (of_nodes is ps))
          ∙ fold_append op a (values i) (of_node is p ++ of_nodes is ps)
      by false e rest =
          let nought : one_if (home i == p) ≡ 0 = ap one_if e in
          let still : count_by (λ node. home i == node) ps ≡ 1 = omega (arith, first, one, nought) in
          ap (λ b. fold (combined op) a (flat_map values (cond b (i ∷ bucket home is p) (bucket home is p)) ++ of_nodes (i ∷ is) ps)) e
          ∙ fold_append op a (of_node is p) (of_nodes (i ∷ is) ps)
          ∙ rest still
          ∙ ap (λ b. fold (combined op) b (of_nodes is ps)) (part_earlier op a (of_node is p) (values i))
          ∙ sym (fold_append op (fold (combined op) a (values i)) (of_node is p) (of_nodes is ps))

  no_values : (nodes : List ℕ) → of_nodes [] nodes ≡ []
  no_values [] = refl
  no_values (p ∷ ps) = no_values ps

  pub by_home : (iterations : List ℤ) (nodes : List ℕ) (a : ℤ) → AreOnce home nodes iterations
      → fold (combined op) a (flat_map values iterations) ≡ fold (combined op) a (of_nodes iterations nodes)
  by_home [] nodes a once = ap (fold (combined op) a) (sym (no_values nodes))
  by_home (i ∷ is) nodes a once =
      fold_append op a (values i) (flat_map values is)
      ∙ by_home is nodes (fold (combined op) a (values i)) once.1
      ∙ sym (more_here i is nodes a once.0)

pub combining_splits : CombiningSplits
combining_splits op values home iterations nodes old once =
    by_home op values home iterations nodes old once ∙ fold_parts op (λ node. flat_map values (bucket home iterations node)) nodes old
