-- What nodes have that hand items on in rounds, and what goes from one to another.
use Rattle.std.specs.Prelude.{◌≡◌, ℕ, zero, suc, ◌+◌, ◌≤◌, ◌<◌, ◌==◌, ◌&&◌, Bool, true, false, List, [], ◌∷◌, ◌++◌, map, filter, flat_map}
use Rattle.std.specs.Prelude.{count_by, slice_get, unwrap_or}
use Rattle.std.specs.List.{range_with_len}
use Rattle.std.proofs.Common.{ap, sym, ◌∙◌, subst, arith, refl}
use Rattle.chaos_dist.specs.Buckets.{bucket}
use Rattle.chaos_dist.specs.Counting.{below}
use Rattle.chaos_bins.specs.Bags.{SameBag, AreDealt, bag_dealt}
use Rattle.list_laws.specs.Counts.{count_by-same, count_by-map, count_by-filter, count_by-append}

-- the list at a place, empty from the end on
abbrev pub list_in : {X : Type 0} → List (List X) → ℕ → List X
list_in lists at = unwrap_or (slice_get lists at) []

-- ---- lists of lists

flat_map-map : {X Y : Type 0} (h : List X → List Y) (f : ℕ → List X) (qs : List ℕ) → flat_map h (map f qs) ≡ flat_map (λ q. h (f q)) qs
flat_map-map h f [] = refl
flat_map-map h f (q ∷ qs) = ap (λ l. h (f q) ++ l) (flat_map-map h f qs)

map-agree : {X : Type 0} (f g : ℕ → List X) (qs : List ℕ) → ((q : ℕ) → f q ≡ g q) → map f qs ≡ map g qs
map-agree f g [] h = refl
map-agree f g (q ∷ qs) h = ap (λ l. l ∷ map f qs) (h q) ∙ ap (λ l. g q ∷ l) (map-agree f g qs h)

at_from : {X : Type 0} (f : ℕ → List X) (a n p : ℕ) → p < n → list_in (map f (range_with_len a n)) p ≡ f (a + p)
at_from f a zero p low = absurd (omega (arith, low))
at_from f a (suc n) zero low = let e : a ≡ a + 0 = omega arith in ap f e
at_from f a (suc n) (suc p) low =
    let e : a + 1 + p ≡ a + suc p = omega arith in
    at_from f (a + 1) n p (omega (arith, low)) ∙ ap f e

pub bag_flat_map : {X : Type 0} (f g : ℕ → List X) (qs : List ℕ) → ((q : ℕ) → SameBag (f q) (g q)) → SameBag (flat_map f qs) (flat_map g qs)
bag_flat_map f g [] h test = refl
bag_flat_map f g (q ∷ qs) h test =
    count_by-append test (f q) (flat_map f qs)
    ∙ ap (λ k. k + count_by test (flat_map f qs)) (h q test)
    ∙ ap (λ k. count_by test (g q) + k) (bag_flat_map f g qs h test)
    ∙ sym (count_by-append test (g q) (flat_map g qs))

pub flat_map-same : {X : Type 0} (f g : ℕ → List X) (a k : ℕ) → ((q : ℕ) → a ≤ q → q < a + k → f q ≡ g q)
    → flat_map f (range_with_len a k) ≡ flat_map g (range_with_len a k)
flat_map-same f g a zero h = refl
flat_map-same f g a (suc k) h =
    ap (λ l. l ++ flat_map f (range_with_len (a + 1) k)) (h a (omega arith) (omega arith))
    ∙ ap (λ l. g a ++ l) (flat_map-same f g (a + 1) k (λ q l m. h q (omega (arith, l)) (omega (arith, m))))

-- what is done to each list can be done to all together
count_by-each : {X Y : Type 0} (f : ℕ → List X) (h : List X → List Y) (test : Y → Bool) (same : X → Bool)
    → ((xs : List X) → count_by test (h xs) ≡ count_by same xs)
    → (qs : List ℕ) → count_by test (flat_map (λ q. h (f q)) qs) ≡ count_by same (flat_map f qs)
count_by-each f h test same e [] = refl
count_by-each f h test same e (q ∷ qs) =
    count_by-append test (h (f q)) (flat_map (λ r. h (f r)) qs)
    ∙ ap (λ k. k + count_by test (flat_map (λ r. h (f r)) qs)) (e (f q))
    ∙ ap (λ k. count_by same (f q) + k) (count_by-each f h test same e qs)
    ∙ sym (count_by-append same (f q) (flat_map f qs))

count_by-moved : {X Y : Type 0} (move : X → Y) (p test : Y → Bool) (xs : List X)
    → count_by test (filter p (map move xs)) ≡ count_by (λ x. p (move x) && test (move x)) xs
count_by-moved move p test xs = count_by-filter p test (map move xs) ∙ count_by-map move (λ y. p y && test y) xs

and_assoc : (a b c : Bool) → (a && (b && c)) ≡ ((a && b) && c)
and_assoc true b c = refl
and_assoc false b c = refl

-- ---- rounds of n nodes

module _ {X : Type 0} (n : ℕ) (items : List ℕ) (first : ℕ → X) (begin : ℕ → ℕ) (move : ℕ → X → X) (owner : X → ℕ) where
  -- item i as it stands before round t, and the node that has it then
  abbrev pub item_before : ℕ → ℕ → X
  item_before zero i = first i
  item_before (suc t) i = move t (item_before t i)

  abbrev pub node_before : ℕ → ℕ → ℕ
  node_before zero i = begin i
  node_before (suc t) i = owner (item_before (suc t) i)

  -- what is for node p in a round, of what one node has
  abbrev pub for_node : ℕ → ℕ → List X → List X
  for_node t p xs = filter (λ x. owner x == p) (map (move t) xs)

  -- for each node the items that it has before round t, in its order: those of each node in turn, its own in its own place
  abbrev pub lists_before : ℕ → List (List X)
  lists_before zero = map (λ p. map first (filter (λ i. begin i == p) items)) (below n)
  lists_before (suc t) = map (λ p. flat_map (for_node t p) (lists_before t)) (below n)

  -- what goes from p to q in round t
  abbrev pub rows_in : ℕ → ℕ → ℕ → List X
  rows_in t p q = for_node t q (list_in (lists_before t) p)

  -- the same as a bag: the items that p has before the round and q owns behind it
  abbrev pub moving_in : ℕ → ℕ → ℕ → List X
  moving_in t p q = map (item_before (suc t)) (filter (λ i. (node_before t i == p) && (owner (item_before (suc t) i) == q)) items)

  -- ---- one list at a time

  abbrev standing : ℕ → ℕ → List X
  standing zero p = map first (filter (λ i. begin i == p) items)
  standing (suc t) p = flat_map (λ q. for_node t p (standing t q)) (below n)

  all_standing : (t : ℕ) → lists_before t ≡ map (standing t) (below n)
  all_standing zero = refl
  all_standing (suc t) =
      map-agree (λ p. flat_map (for_node t p) (lists_before t)) (standing (suc t)) (below n)
      (λ p. ap (flat_map (for_node t p)) (all_standing t) ∙ flat_map-map (for_node t p) (standing t) (below n))

  abbrev pub held : ℕ → ℕ → List X
  held t p = map (item_before t) (filter (λ i. node_before t i == p) items)

  -- all that the nodes have, together
  pub all_held : (t : ℕ) → AreDealt (node_before t) n items → SameBag (map (item_before t) items) (flat_map (held t) (below n))
  all_held t dealt test =
      count_by-map (item_before t) test items
      ∙ bag_dealt (node_before t) n items dealt (λ i. test (item_before t i))
      ∙ sym (count_by-each (bucket (node_before t) items) (map (item_before t)) test (λ i. test (item_before t i))
      (count_by-map (item_before t) test) (below n))

  are_held : ((t : ℕ) → AreDealt (node_before t) n items) → (t p : ℕ) → SameBag (held t p) (standing t p)
  are_held dealt zero p test = refl
  are_held dealt (suc t) p test =
      let kept = λ (x : X). (owner (move t x) == p) && test (move t x) in
      count_by-map (item_before (suc t)) test (filter (λ i. node_before (suc t) i == p) items)
      ∙ count_by-filter (λ i. node_before (suc t) i == p) (λ i. test (item_before (suc t) i)) items
      ∙ sym (count_by-map (item_before t) kept items)
      ∙ all_held t (dealt t) kept
      ∙ bag_flat_map (held t) (standing t) (below n) (λ q. are_held dealt t q) kept
      ∙ sym (count_by-each (standing t) (for_node t p) test kept (count_by-moved (move t) (λ x. owner x == p) test) (below n))

  are_moving : ((t : ℕ) → AreDealt (node_before t) n items) → (t p q : ℕ) → SameBag (moving_in t p q) (for_node t q (standing t p))
  are_moving dealt t p q test =
      let kept = λ (x : X). (owner (move t x) == q) && test (move t x) in
      let goes = λ (i : ℕ). owner (item_before (suc t) i) == q in
      let has = λ (i : ℕ). node_before t i == p in
      count_by-map (item_before (suc t)) test (filter (λ i. has i && goes i) items)
      ∙ count_by-filter (λ i. has i && goes i) (λ i. test (item_before (suc t) i)) items
      ∙ count_by-same (λ i. (has i && goes i) && test (item_before (suc t) i)) (λ i. has i && kept (item_before t i)) items
      (λ i. sym (and_assoc (has i) (goes i) (test (item_before (suc t) i))))
      ∙ sym (count_by-filter has (λ i. kept (item_before t i)) items)
      ∙ sym (count_by-map (item_before t) kept (filter has items))
      ∙ are_held dealt t p kept
      ∙ sym (count_by-moved (move t) (λ x. owner x == q) test (standing t p))

  stands : (t p : ℕ) → p < n → list_in (lists_before t) p ≡ standing t p
  stands t p low =
      let none : 0 + p ≡ p = omega arith in
      ap (λ l. list_in l p) (all_standing t) ∙ at_from (standing t) 0 n p low ∙ ap (standing t) none

  -- before round 0 a node has the items that it begins with
  pub first_stands : (p : ℕ) → p < n → list_in (lists_before 0) p ≡ map first (filter (λ i. begin i == p) items)
  first_stands p low = stands 0 p low

  -- what a node has before a round is, as a bag, the items that it holds
  pub held_stand : ((t : ℕ) → AreDealt (node_before t) n items) → (t p : ℕ) → p < n → SameBag (held t p) (list_in (lists_before t) p)
  held_stand dealt t p low = subst (λ l. SameBag (held t p) l) (sym (stands t p low)) (are_held dealt t p)

  -- and what it has before the next is what came to it in the round, from each node in turn
  pub rows_come_in : (t p : ℕ) → p < n → list_in (lists_before (suc t)) p ≡ flat_map (λ q. rows_in t q p) (below n)
  rows_come_in t p low =
      let none : 0 + p ≡ p = omega arith in
      at_from (λ r. flat_map (for_node t r) (lists_before t)) 0 n p low
      ∙ ap (λ r. flat_map (for_node t r) (lists_before t)) none
      ∙ ap (flat_map (for_node t p)) (all_standing t)
      ∙ flat_map-map (for_node t p) (standing t) (below n)
      ∙ flat_map-same (λ q. for_node t p (standing t q)) (λ q. rows_in t q p) 0 n
      (λ q l m. ap (for_node t p) (sym (stands t q (omega (arith, m)))))

  -- the rows of each round and pair of nodes are, as a bag, the items that the first has and the second owns next
  pub rows_move : ((t : ℕ) → AreDealt (node_before t) n items) → (t p q : ℕ) → p < n → SameBag (moving_in t p q) (rows_in t p q)
  rows_move dealt t p q low =
      subst (λ l. SameBag (moving_in t p q) (for_node t q l)) (sym (stands t p low)) (are_moving dealt t p q)
