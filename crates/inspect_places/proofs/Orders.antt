-- What is asked, told and put into order, for the references of a loop.
use Rattle.std.proofs.Common.{◌≡◌, refl, ℕ, zero, suc, ◌+◌, ◌-◌, ◌*◌, ◌<◌, ◌≤◌, ℤ, pos, Bool, true, false, ◌==◌, cond, List, [], ◌∷◌, ◌++◌}
use Rattle.std.proofs.Common.{length, map, filter, drop, replicate, Some, ap, sym, ◌∙◌, arith, append-nil}
use Rattle.std.specs.Prelude.{nat_lt, if◌then◌else◌}
use Rattle.std.specs.Int.{w64}
use Rattle.std.specs.List.{flat_map, range_with_len, AllByRecursion}
use Rattle.std.proofs.lemmas.Bool.Decides.{nat_tests}
use Rattle.std.proofs.lemmas.Int.{to_z_pos}
use Rattle.std.proofs.lemmas.List.{get_or-replicate, length-replicate}
use Rattle.std.proofs.lemmas.List.Folds.{flat_map-map}
use Rattle.std.proofs.lemmas.List.FromFn.{get_or-map-range_with_len}
use Rattle.std.proofs.lemmas.Nat.{div_below}
use Rattle.std.proofs.lemmas.Option.{unwrap_or-slice_get}
use Rattle.fd_words.specs.Lists.{list_at}
use Rattle.fd_words.specs.declared.place.Place.{Place}
use Rattle.chaos_deref.specs.Asking.{owner_read}
use Rattle.chaos_dist.specs.Counting.{below}
use Rattle.chaos_dist.specs.Layout.{divided_up}
use Rattle.chaos_dist.specs.LayoutLaws.{divided_up-is, divided_up-enough}
use Rattle.chaos_dist.specs.Owners.{page_of}
use Rattle.chaos_table.specs.Pages.{pairs_in}
use Rattle.fd_program.specs.Homes.{owner_met}
use Rattle.fd_program.specs.ListLaws.{all_filter, all_weaker}
use Rattle.fd_program.specs.Uses.{is_met}
use Rattle.fd_program.specs.declared.loop_facts.LoopFacts.{LoopFacts}
use Rattle.fd_program.specs.declared.loop_use.Use.{Use}
use Rattle.plan_loop.specs.LoopLetters.{page_met, place_answer_of, place_ask_of}
use Rattle.fd_program.specs.Met.{decomposition_met, layout_for, local_met, stands_met}
use Rattle.inspect_uses.specs.Accepted.{AreOwners, IsAccepted}
use Rattle.inspect_uses.specs.PlaceLaws.{each_is_owned}
use Rattle.inspect_uses.specs.Reached.{place_met}
use Rattle.inspect_uses.specs.Standing.{standing, natural_bounds}
use Rattle.inspect_places.specs.Asks.{IsAsked, answers_of, asked_on, asks_of, by_decomposition, wanted_row}
use Rattle.inspect_places.specs.Dealing.{drawn_after, draws}
use Rattle.list_laws.specs.Rows.{appended_at, dealt_onto, dealt_all, dealt_on}
use Rattle.inspect_places.specs.Telling.{ask_row, asks_onto, page_in, pair_row, place_told, told_all}
use Rattle.inspect_places.specs.declared.asked.Asked.{Asked}
use Rattle.list_laws.specs.Tests.{same_when}
use Rattle.inspect_places.proofs.Deals.{drawn_right, AreLeft, pair_of}

list_family : {B : Type 0} (h : ℕ → List B) (n k : ℕ) → k < n → list_at (map h (below n)) k ≡ h k
list_family h n k less =
    let at : 0 + k ≡ k = omega arith in
    unwrap_or-slice_get (map h (below n)) k [] ∙ get_or-map-range_with_len h 0 n k k [] less at

-- those of one decomposition
abbrev of : LoopFacts → List Use → ℕ → List Use
of f uses d = filter (λ u. decomposition_met f u == d) uses

-- ---- asks

dealt_filtered : (f : LoopFacts) (d : ℕ) → d < 9223372036854775808 → (lists : List (List ℤ)) (xs : List Use)
    → dealt_onto page_in (ask_row d) lists (pairs_in (flat_map (wanted_row f) (of f xs d))) ≡ dealt_onto (page_met f) (place_ask_of f)
    lists (of f xs d)
dealt_filtered f d low lists [] = refl
dealt_filtered f d low lists (u ∷ xs) = by (decomposition_met f u == d) refl (λ l. dealt_filtered f d low l xs)
  where
    by : (b : Bool) → (decomposition_met f u == d) ≡ b
        → ((l : List (List ℤ)) → dealt_onto page_in (ask_row d) l (pairs_in (flat_map (wanted_row f) (of f xs d)))
        ≡ dealt_onto (page_met f) (place_ask_of f) l (of f xs d))
        → dealt_onto page_in (ask_row d) lists (pairs_in (flat_map (wanted_row f) (cond b (u ∷ of f xs d) (of f xs d))))
        ≡ dealt_onto (page_met f) (place_ask_of f) lists (cond b (u ∷ of f xs d) (of f xs d))
    by true e rest =
        ap (λ v. dealt_onto page_in (ask_row d) (appended_at lists (page_met f u) (v ∷ pos (stands_met f u) ∷ []))
        (pairs_in (flat_map (wanted_row f) (of f xs d))))
        (to_z_pos w64 d low ∙ ap pos (sym (same_when (decomposition_met f u) d e)))
        ∙ rest (appended_at lists (page_met f u) (place_ask_of f u))
    by false e rest = rest lists

asks_family : (f : LoopFacts) (uses : List Use) (a n : ℕ) (lists : List (List ℤ)) → a + n ≤ 128
    → asks_onto a lists (map (λ d. flat_map (wanted_row f) (of f uses d)) (range_with_len a n))
    ≡ dealt_onto (page_met f) (place_ask_of f) lists (flat_map (of f uses) (range_with_len a n))
asks_family f uses a zero lists few = refl
asks_family f uses a (suc n) lists few =
    let small : a < 9223372036854775808 = omega arith in
    let next : a + 1 + n ≤ 128 = omega arith in
    ap (λ l. asks_onto (a + 1) l (map (λ d. flat_map (wanted_row f) (of f uses d)) (range_with_len (a + 1) n)))
    (dealt_filtered f a small lists uses)
    ∙ asks_family f uses (a + 1) n (dealt_onto (page_met f) (place_ask_of f) lists (of f uses a)) next
    ∙ sym (dealt_on (page_met f) (place_ask_of f) lists (of f uses a) (flat_map (of f uses) (range_with_len (a + 1) n)))

pub asks_are : (f : LoopFacts) (uses : List Use) (asked : Asked) → IsAsked f uses asked → asks_onto 0 (replicate f.nodes []) asked.wanted
    ≡ asks_of f uses
asks_are f uses asked is =
    let few : 0 + length f.layouts ≤ 128 = omega (arith, is.few_layouts) in
    ap (asks_onto 0 (replicate f.nodes [])) is.wanted
    ∙ asks_family f uses 0 (length f.layouts) (replicate f.nodes []) few
    ∙ dealt_all (page_met f) (place_ask_of f) f.nodes (by_decomposition f uses)

-- ---- a page is a node

page_low : (extent nodes g : ℕ) → 1 ≤ nodes → 1 ≤ g → g ≤ extent → page_of extent nodes g < nodes
page_low extent nodes g some from_one within =
    let w = divided_up extent nodes in
    let elements : 1 ≤ extent = omega arith in
    let width : 1 ≤ w = omega (arith, divided_up-is extent nodes elements some) in
    let enough : extent ≤ nodes * w = divided_up-enough extent nodes some in
    let low : g - 1 < nodes * w = omega (arith, enough, from_one, within) in
    div_below (g - 1) w nodes width low

abbrev IsMet : LoopFacts → Use → Type 0
IsMet f u = is_met f.arrays u ≡ true

page_is_node : (f : LoopFacts) → IsAccepted f → (u : Use) → IsMet f u → page_met f u < f.nodes
page_is_node f accepted u met =
    let s = standing f accepted u met in
    let bounds = natural_bounds _ (layout_for f u.array).extent s.first s.last in
    page_low (layout_for f u.array).extent f.nodes (stands_met f u) accepted.some_nodes bounds.0 bounds.1

-- ---- places

owner_small : (n : ℕ) → n < 4294967296 → owner_read (Some (pos n)) ≡ n
owner_small n h =
    let low : nat_lt n 4294967296 ≡ true = grind (arith, nat_tests) in
    ap (λ b. if b then n else 0) low

abbrev place_with : ℕ → ℕ → Place
place_with owner local = record { owner = owner; local = local }

module _ (f : LoopFacts) (owners : List (List ℕ)) where
  abbrev owner_told : Use → ℤ
  owner_told u = pos (owner_met f owners u)

  abbrev local_told : Use → ℤ
  local_told u = pos (local_met f owners u)

  abbrev both_told : Use → ℤ × ℤ
  both_told u = pair_of (owner_told u) (local_told u)

  keys_of : (us : List Use) → map page_in (pairs_in (flat_map (wanted_row f) us)) ≡ map (page_met f) us
  keys_of [] = refl
  keys_of (u ∷ us) = ap (λ l. page_met f u ∷ l) (keys_of us)

  -- the answers that are left, once those to the elements before are drawn
  abbrev Left : List (List ℤ) → List ℕ → List Use → Type 0
  Left answers drawn us = AreLeft (page_met f) owner_told local_told answers f.nodes drawn us

  told_family : (answers : List (List ℤ)) (uses : List Use) → AllByRecursion (λ u. page_met f u < f.nodes) uses
      → (a n : ℕ) (drawn : List ℕ) → f.nodes ≤ length drawn
      → Left answers drawn (flat_map (of f uses) (range_with_len a n))
      → told_all answers drawn (map (λ d. flat_map (wanted_row f) (of f uses d)) (range_with_len a n))
      ≡ map (λ d. flat_map (place_answer_of f owners) (of f uses d)) (range_with_len a n)
  told_family answers uses low a zero drawn wide left = refl
  told_family answers uses low a (suc n) drawn wide left =
      let us = of f uses a in
      let more = map (λ d. flat_map (wanted_row f) (of f uses d)) (range_with_len (a + 1) n) in
      let low_here : AllByRecursion (λ u. page_met f u < f.nodes) us =
      all_weaker (λ u. ((decomposition_met f u == a) ≡ true) × (page_met f u < f.nodes)) (λ u. page_met f u < f.nodes) (λ u h. h.1) us
      (all_filter (λ u. page_met f u < f.nodes) (λ u. decomposition_met f u == a) uses low) in
      let r = drawn_right (page_met f) owner_told local_told answers f.nodes us (flat_map (of f uses) (range_with_len (a + 1) n)) drawn
      wide low_here left in
      ap (λ ks. flat_map pair_row (draws answers drawn ks) ∷ told_all answers (drawn_after answers drawn ks) more) (keys_of us)
      ∙ ap (λ ps. flat_map pair_row ps ∷ told_all answers (drawn_after answers drawn (map (page_met f) us)) more) r.pairs
      ∙ ap (λ l. l ∷ told_all answers (drawn_after answers drawn (map (page_met f) us)) more) (flat_map-map pair_row both_told us)
      ∙ ap (λ l. flat_map (place_answer_of f owners) us ∷ l)
      (told_family answers uses low (a + 1) n (drawn_after answers drawn (map (page_met f) us)) r.wide r.left)

  placed : IsAccepted f → AreOwners f owners → (us : List Use) → AllByRecursion (IsMet f) us → map place_told (map both_told us)
      ≡ map (place_met f owners) us
  placed accepted owned [] met = refl
  placed accepted owned (u ∷ us) met =
      let node : owner_met f owners u < f.nodes = each_is_owned f owners u accepted owned met.0 in
      let small : owner_met f owners u < 4294967296 = omega (arith, node, accepted.few_nodes) in
      ap (λ o. place_with o (local_met f owners u) ∷ map place_told (map both_told us)) (owner_small (owner_met f owners u) small)
      ∙ ap (λ l. place_met f owners u ∷ l) (placed accepted owned us met.1)

  -- the places that are told of each decomposition's elements
  abbrev told_of_each : List Use → List (List ℤ)
  told_of_each uses = map (λ d. flat_map (place_answer_of f owners) (of f uses d)) (below (length f.layouts))

  told_are : IsAccepted f → (uses : List Use) (asked : Asked) (answers : List (List ℤ)) → IsAsked f uses asked
      → answers ≡ answers_of f owners uses
      → told_all answers (replicate 16 0) asked.wanted ≡ told_of_each uses
  told_are accepted uses asked answers is answered =
      let none : List ℕ = replicate 16 0 in
      let size : length none ≡ 16 = length-replicate 16 zero in
      let pages : AllByRecursion (λ u. page_met f u < f.nodes) uses = all_weaker (IsMet f) (λ u. page_met f u < f.nodes)
      (page_is_node f accepted) uses is.met in
      let left : Left answers (replicate 16 0) (by_decomposition f uses) = λ k less.
      let low : k < 16 = omega (arith, less, accepted.few_nodes) in
      ap (λ c. drop c (list_at answers k)) (get_or-replicate 16 k 0 0 low)
      ∙ ap (λ (l : List (List ℤ)). list_at l k) answered
      ∙ list_family (λ q. flat_map (place_answer_of f owners) (asked_on f uses q)) f.nodes k less in
      ap (told_all answers (replicate 16 0)) is.wanted
      ∙ told_family answers uses pages 0 (length f.layouts) (replicate 16 0) (omega (arith, size, accepted.few_nodes)) left

  in_order : IsAccepted f → (uses : List Use) → length f.layouts ≤ 128 → AllByRecursion (IsMet f) uses
      → draws (told_of_each uses) (replicate 128 0) (map (decomposition_met f) uses) ≡ map both_told uses
  in_order accepted uses few met =
      let D = length f.layouts in
      let none : List ℕ = replicate 128 0 in
      let size : length none ≡ 128 = length-replicate 128 zero in
      let layouts : AllByRecursion (λ u. decomposition_met f u < D) uses =
      all_weaker (IsMet f) (λ u. decomposition_met f u < D) (λ u m. (standing f accepted u m).decomposition) uses met in
      let left : AreLeft (decomposition_met f) owner_told local_told (told_of_each uses) D (replicate 128 0) (uses ++ []) = λ k less.
      let low : k < 128 = omega (arith, less, few) in
      ap (λ c. drop c (list_at (told_of_each uses) k)) (get_or-replicate 128 k 0 0 low)
      ∙ list_family (λ d. flat_map (place_answer_of f owners) (of f uses d)) D k less
      ∙ ap (λ (us : List Use). flat_map (place_answer_of f owners) (of f us k)) (sym (append-nil uses)) in
      (drawn_right (decomposition_met f) owner_told local_told (told_of_each uses) D uses [] (replicate 128 0) (omega (arith, size, few))
      layouts left).pairs

  pub places_are : IsAccepted f → AreOwners f owners → (uses : List Use) (asked : Asked) (answers : List (List ℤ)) → IsAsked f uses asked
      → answers ≡ answers_of f owners uses
      → map place_told (draws (told_all answers (replicate 16 0) asked.wanted) (replicate 128 0) asked.decompositions)
      ≡ map (place_met f owners) uses
  places_are accepted owned uses asked answers is answered =
      ap (λ l. map place_told (draws l (replicate 128 0) asked.decompositions)) (told_are accepted uses asked answers is answered)
      ∙ ap (λ ks. map place_told (draws (told_of_each uses) (replicate 128 0) ks)) is.decompositions
      ∙ ap (map place_told) (in_order accepted uses is.few_layouts is.met)
      ∙ placed accepted owned uses is.met
