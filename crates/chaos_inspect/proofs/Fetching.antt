-- The letters by which the values of index arrays are fetched.
use Rattle.std.proofs.Common.{◌≡◌, ℕ, ◌+◌, ◌<◌, ◌≤◌, ℤ, pos, negsuc, ◌+ℤ◌, ◌-ℤ◌, ◌≤ℤ◌, Bool, true, false, ◌==◌, cond, List, [], ◌∷◌, length}
use Rattle.std.proofs.Common.{map, filter, drop, replicate, refl, ap, sym, ◌∙◌, arith, inl, inr}
use Rattle.std.specs.Prelude.{unwrap_or, ◌&&◌}
use Rattle.std.specs.Option.{option_map}
use Rattle.std.specs.List.{flat_map, AllByRecursion}
use Rattle.std.specs.Int.{w64}
use Rattle.std.proofs.lemmas.Bool.{cases_lt}
use Rattle.std.proofs.lemmas.Bool.Decides.{nat_tests}
use Rattle.std.proofs.lemmas.Int.{ints, to_z_pos}
use Rattle.std.proofs.lemmas.Option.{unwrap_or-slice_get, slice_get_past, slice_get-map}
use Rattle.std.proofs.lemmas.List.{get_or-replicate}
use Rattle.std.proofs.lemmas.List.FromFn.{get_or-map-range_with_len, length-map-range_with_len}
use Rattle.std.proofs.lemmas.List.Sums.{count_by-le-length}
use Rattle.fd_words.specs.Lists.{list_at}
use Rattle.chaos_dist.specs.Counting.{below}
use Rattle.chaos_dist.specs.Homes.{natural}
use Rattle.chaos_dist.specs.Owners.{length_in, elements_on}
use Rattle.chaos_dist.specs.OwnersLaws.{local_in-below, slice_get-elements_on}
use Rattle.list_laws.specs.Rows.{map-range-same, deals}
use Rattle.fd_program.specs.Homes.{owner_met, uses_at, inspected_by}
use Rattle.fd_program.specs.ListLaws.{all_filter, all_weaker, all_trivial}
use Rattle.fd_program.specs.Places.{parts_of, part_of, value_on, decomposition_of}
use Rattle.fd_program.specs.Stores.{array_at, element, is_within, number_at}
use Rattle.fd_program.specs.Uses.{is_met, read_of}
use Rattle.fd_words.specs.Roles.{is_index}
use Rattle.fd_program.specs.declared.loop_facts.LoopFacts.{LoopFacts}
use Rattle.fd_program.specs.declared.loop_use.Use.{Use}
use Rattle.plan_loop.specs.LoopLetters.{index_ask_of, index_uses_of, indexes_of, is_at, numbers_in_loop, owed_in, sent_in}
use Rattle.fd_program.specs.Met.{decomposition_met, layout_for, local_met, stands_met}
use Rattle.plan_loop.specs.declared.loop_phase.Level.{Level}
use Rattle.plan_loop.specs.declared.loop_phase.LoopPhase.TheVariants.{IndexAsk, IndexValues}
use Rattle.inspect_uses.specs.Accepted.{AreOwners, IsAccepted}
use Rattle.inspect_uses.specs.PlaceLaws.{each_is_owned, local_small}
use Rattle.inspect_uses.specs.Standing.{standing, natural_bounds}
use Rattle.chaos_inspect.specs.Dealing.{numbers_drawn}
use Rattle.chaos_inspect.specs.Walking.{piece_value, piece_values, spot_ask}
use Rattle.chaos_inspect.specs.Met.{spot_met}
use Rattle.chaos_inspect.specs.declared.spot.Spot.{Spot}
use Rattle.chaos_inspect.proofs.Deals.{drawn_right, AreLeft}

-- ---- lists

pub map_map_same : {A B C : Type 0} (g : B → C) (h : A → B) (k : A → C) → ((x : A) → g (h x) ≡ k x) → (xs : List A)
    → map g (map h xs) ≡ map k xs
map_map_same g h k same [] = refl
map_map_same g h k same (x ∷ xs) = ap (λ y. y ∷ map g (map h xs)) (same x) ∙ ap (λ l. k x ∷ l) (map_map_same g h k same xs)

pub list_family : {B : Type 0} (h : ℕ → List B) (n k : ℕ) → k < n → list_at (map h (below n)) k ≡ h k
list_family h n k less =
    let at : 0 + k ≡ k = omega arith in
    unwrap_or-slice_get (map h (below n)) k [] ∙ get_or-map-range_with_len h 0 n k k [] less at

pub list_past : {B : Type 0} (h : ℕ → List B) (n k : ℕ) → n ≤ k → list_at (map h (below n)) k ≡ []
list_past h n k more =
    let long : length (map h (below n)) ≡ n = length-map-range_with_len h 0 n in
    ap (λ o. unwrap_or o []) (slice_get_past (map h (below n)) k (omega (arith, long)))

same_numbers : (k q : ℕ) → (k == q) ≡ true → k ≡ q
same_numbers k q e = grind (arith, nat_tests)

other_numbers : (k q : ℕ) → k < q → (k == q) ≡ false
other_numbers k q e = grind (arith, nat_tests)

both : (a b : Bool) → (a && b) ≡ true → (a ≡ true) × (b ≡ true)
both true b e = (refl, e)
both false b e = cc

-- ---- places of met references

pub indexes_met : (f : LoopFacts) (store : List (List ℤ)) (level : Level) (p : ℕ)
    → AllByRecursion (λ u. is_met f.arrays u ≡ true) (indexes_of f store level p)
indexes_met f store level p =
    let all = flat_map (uses_at f store) (inspected_by f p) in
    all_weaker (λ u. (is_at level u.plain ≡ true) × (((is_index u.role && is_met f.arrays u) ≡ true) × Unit {0}))
    (λ u. is_met f.arrays u ≡ true) (λ u h. (both (is_index u.role) (is_met f.arrays u) h.1.0).1) (indexes_of f store level p)
    (all_filter (λ u. ((is_index u.role && is_met f.arrays u) ≡ true) × Unit {0}) (λ u. is_at level u.plain) (index_uses_of f store p)
    (all_filter (λ u. Unit {0}) (λ u. is_index u.role && is_met f.arrays u) all (all_trivial all)))

-- ---- asks

asks_along : (f : LoopFacts) (owners : List (List ℕ)) (q : ℕ) (us : List Use)
    → AllByRecursion (λ u. local_met f owners u < 9223372036854775808) us
    → flat_map spot_ask (filter (λ (s : Spot). s.owner == q) (map (spot_met f owners) us)) ≡ flat_map (index_ask_of f owners)
    (filter (λ u. owner_met f owners u == q) us)
asks_along f owners q [] small = refl
asks_along f owners q (u ∷ us) small = by (owner_met f owners u == q) (asks_along f owners q us small.1)
  where
    by : (b : Bool)
        → flat_map spot_ask (filter (λ (s : Spot). s.owner == q) (map (spot_met f owners) us)) ≡ flat_map (index_ask_of f owners)
        (filter (λ v. owner_met f owners v == q) us)
        → flat_map spot_ask (cond b (spot_met f owners u ∷ filter (λ (s : Spot). s.owner == q) (map (spot_met f owners) us))
        (filter (λ (s : Spot). s.owner == q) (map (spot_met f owners) us)))
        ≡ flat_map (index_ask_of f owners) (cond b (u ∷ filter (λ v. owner_met f owners v == q) us)
        (filter (λ v. owner_met f owners v == q) us))
    by true e =
        ap (λ z. pos u.array ∷ z ∷ flat_map spot_ask (filter (λ (s : Spot). s.owner == q) (map (spot_met f owners) us)))
        (to_z_pos w64 (local_met f owners u) small.0)
        ∙ ap (λ l. pos u.array ∷ pos (local_met f owners u) ∷ l) e
    by false e = e

pub asks_right : (f : LoopFacts) (owners : List (List ℕ)) (store : List (List ℤ)) (level : Level) (p : ℕ) → IsAccepted f
    → AreOwners f owners
    → deals (λ (s : Spot). s.owner) spot_ask f.nodes (map (spot_met f owners) (indexes_of f store level p)) ≡ sent_in f owners store
    (IndexAsk level) p
asks_right f owners store level p accepted owned =
    map-range-same _ _ 0 f.nodes (λ q. asks_along f owners q (indexes_of f store level p)
    (all_weaker (λ u. is_met f.arrays u ≡ true) (λ u. local_met f owners u < 9223372036854775808)
    (λ u met. local_small f owners u accepted owned met)
    (indexes_of f store level p) (indexes_met f store level p)))

-- ---- answers

-- the element of the array that stands where a met reference reaches
value_there : (f : LoopFacts) (store : List (List ℤ)) (u : Use) → IsAccepted f → is_met f.arrays u ≡ true
    → value_on f.arrays store u.array (stands_met f u) ≡ read_of store u
value_there f store u accepted met =
    let s = standing f accepted u met in
    let offset = (array_at f.arrays u.array).offset in
    let back : (pos (stands_met f u) -ℤ offset) ≡ u.subscript = by (u.subscript +ℤ offset) refl s.first in
    ap (λ z. cond (is_within f.arrays u.array z) (element store u.array z) (pos 0)) back
    ∙ ap (λ b. cond b (read_of store u) (pos 0)) (both u.defined _ met).1
  where
    by : (z : ℤ) → (u.subscript +ℤ (array_at f.arrays u.array).offset) ≡ z → pos 1 ≤ℤ z
        → (pos (natural z) -ℤ (array_at f.arrays u.array).offset) ≡ u.subscript
    by (pos n) e low = omega (arith, ints, e)
    by (negsuc n) e low = absurd (omega (arith, ints, low))

-- the number at a reference's place of its owner's parts is the element
part_read : (f : LoopFacts) (owners : List (List ℕ)) (store : List (List ℤ)) (u : Use) → IsAccepted f → AreOwners f owners
    → is_met f.arrays u ≡ true
    → piece_value (parts_of f.arrays owners store (owner_met f owners u)) (pos u.array) (pos (local_met f owners u)) ≡ read_of store u
part_read f owners store u accepted owned met =
    let s = standing f accepted u met in
    let o = owned (decomposition_of f.arrays u.array) s.decomposition in
    let bounds = natural_bounds _ (layout_for f u.array).extent s.first s.last in
    let list : List ℕ = list_at owners (decomposition_met f u) in
    let last : stands_met f u ≤ length list = omega (arith, o.elements, bounds.1) in
    let node = owner_met f owners u in
    ap (λ l. number_at l (local_met f owners u)) (list_family (part_of f.arrays owners store node) (length f.arrays) u.array s.array)
    ∙ ap (λ o. unwrap_or o (pos 0)) (slice_get-map (value_on f.arrays store u.array) (elements_on list node) (local_met f owners u)
    ∙ ap (option_map (value_on f.arrays store u.array)) (slice_get-elements_on list (stands_met f u) bounds.0 last))
    ∙ value_there f store u accepted met

answers_along : (f : LoopFacts) (owners : List (List ℕ)) (store : List (List ℤ)) (p : ℕ) → IsAccepted f → AreOwners f owners
    → (us : List Use)
    → AllByRecursion (λ u. is_met f.arrays u ≡ true) us
    → piece_values (parts_of f.arrays owners store p) (flat_map (index_ask_of f owners) (filter (λ u. owner_met f owners u == p) us))
    ≡ map (read_of store) (filter (λ u. owner_met f owners u == p) us)
answers_along f owners store p accepted owned [] met = refl
answers_along f owners store p accepted owned (u ∷ us) met =
    by (owner_met f owners u == p) refl (answers_along f owners store p accepted owned us met.1)
  where
    by : (b : Bool) → (owner_met f owners u == p) ≡ b
        → piece_values (parts_of f.arrays owners store p) (flat_map (index_ask_of f owners) (filter (λ v. owner_met f owners v == p) us))
        ≡ map (read_of store) (filter (λ v. owner_met f owners v == p) us)
        → piece_values (parts_of f.arrays owners store p)
        (flat_map (index_ask_of f owners) (cond b (u ∷ filter (λ v. owner_met f owners v == p) us)
        (filter (λ v. owner_met f owners v == p) us)))
        ≡ map (read_of store) (cond b (u ∷ filter (λ v. owner_met f owners v == p) us) (filter (λ v. owner_met f owners v == p) us))
    by true e rest =
        let here : owner_met f owners u ≡ p = same_numbers _ _ e in
        ap (λ v. v ∷ piece_values (parts_of f.arrays owners store p)
        (flat_map (index_ask_of f owners) (filter (λ v. owner_met f owners v == p) us)))
        (ap (λ q. piece_value (parts_of f.arrays owners store q) (pos u.array) (pos (local_met f owners u))) (sym here)
        ∙ part_read f owners store u accepted owned met.0)
        ∙ ap (λ l. read_of store u ∷ l) rest
    by false e rest = rest

pub answers_right : (f : LoopFacts) (owners : List (List ℕ)) (store : List (List ℤ)) (level : Level) (p : ℕ) → IsAccepted f
    → AreOwners f owners
    → map (piece_values (parts_of f.arrays owners store p)) (owed_in f owners store (IndexAsk level) p) ≡ sent_in f owners store
    (IndexValues level) p
answers_right f owners store level p accepted owned =
    map_map_same (piece_values (parts_of f.arrays owners store p)) (λ q. numbers_in_loop f owners store (IndexAsk level) q p)
    (λ q. numbers_in_loop f owners store (IndexValues level) p q)
    (λ q. answers_along f owners store p accepted owned (indexes_of f store level q) (indexes_met f store level q)) (below f.nodes)

-- ---- values

none_kept : (f : LoopFacts) (owners : List (List ℕ)) (k : ℕ) (us : List Use) → AllByRecursion (λ u. owner_met f owners u < k) us
    → filter (λ u. owner_met f owners u == k) us ≡ []
none_kept f owners k [] h = refl
none_kept f owners k (u ∷ us) h =
    ap (λ b. cond b (u ∷ filter (λ v. owner_met f owners v == k) us) (filter (λ v. owner_met f owners v == k) us)) (other_numbers _ k h.0)
    ∙ none_kept f owners k us h.1

pub values_right : (f : LoopFacts) (owners : List (List ℕ)) (store : List (List ℤ)) (level : Level) (p : ℕ) → IsAccepted f
    → AreOwners f owners
    → numbers_drawn (owed_in f owners store (IndexValues level) p) (replicate 16 0)
    (map (λ (s : Spot). s.owner) (map (spot_met f owners) (indexes_of f store level p))) ≡ map (read_of store) (indexes_of f store level p)
values_right f owners store level p accepted owned =
    let us = indexes_of f store level p in
    let lists = owed_in f owners store (IndexValues level) p in
    let low : AllByRecursion (λ u. owner_met f owners u < f.nodes) us =
    all_weaker (λ u. is_met f.arrays u ≡ true) (λ u. owner_met f owners u < f.nodes)
    (λ u met. each_is_owned f owners u accepted owned met) us (indexes_met f store level p) in
    let left : AreLeft (owner_met f owners) (read_of store) lists (replicate 16 0) us = λ k less.
    ap (λ c. drop c (list_at lists k)) (get_or-replicate 16 k 0 0 less)
    ∙ elim (cases_lt k f.nodes) [
      | inl within ↦ list_family (λ q. numbers_in_loop f owners store (IndexValues level) q p) f.nodes k within
      | inr past ↦
          list_past (λ q. numbers_in_loop f owners store (IndexValues level) q p) f.nodes k past
          ∙ sym (ap (map (read_of store)) (none_kept f owners k us
          (all_weaker (λ u. owner_met f owners u < f.nodes) (λ u. owner_met f owners u < k) (λ u h. omega (arith, h, past)) us low)))
    ] in
    ap (numbers_drawn lists (replicate 16 0)) (map_map_same (λ (s : Spot). s.owner) (spot_met f owners) (owner_met f owners) (λ u. refl) us)
    ∙ drawn_right (owner_met f owners) (read_of store) lists (replicate 16 0) us
    (all_weaker (λ u. owner_met f owners u < f.nodes) (λ u. owner_met f owners u < 16) (λ u h. omega (arith, h, accepted.few_nodes)) us
    low) left
