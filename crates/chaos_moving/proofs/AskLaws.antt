-- What a node asks of the new pages, what it is asked, and the places that are answered.
use Rattle.std.proofs.Common.{◌≡◌, refl, ℕ, ◌+◌, ◌-◌, ◌*◌, ◌/◌, ◌<◌, ◌≤◌, ◌==◌, ◌&&◌, true, List, [], ◌∷◌, length}
use Rattle.std.proofs.lemmas.List.FromFn.{get_or-map-range_with_len, length-map-range_with_len}
use Rattle.std.proofs.Common.{take, map, filter, get_or, ap, sym, subst, ◌∙◌, arith, add-zero}
use Rattle.std.specs.Prelude.{ℤ, pos, negsuc, All, Option, Some, None, IsSomeAnd, slice_get, unwrap_or, nat_le, if◌then◌else◌}
use Rattle.std.specs.Int.{w64}
use Rattle.std.specs.List.{flat_map}
use Rattle.std.proofs.lemmas.Bool.Decides.{nat_tests}
use Rattle.std.proofs.lemmas.Int.{ints, to_z_pos}
use Rattle.std.proofs.lemmas.List.{length-take}
use Rattle.std.proofs.lemmas.List.Folds.{flat_map-map}
use Rattle.std.proofs.lemmas.List.Sums.{count_by-le-length}
use Rattle.std.proofs.lemmas.Nat.{div-mul-add}
use Rattle.std.proofs.lemmas.Option.{slice_get-get_or, unwrap_or-slice_get}
use Rattle.list_laws.specs.Tests.{same_when, right_true}
use Rattle.fd_words.specs.Lists.{list_at}
use Rattle.chaos_dist.specs.Counting.{below, up_to}
use Rattle.chaos_dist.specs.Owners.{owner_in, local_in, elements_on, page_of}
use Rattle.chaos_deref.specs.Asking.{IsElement, page_for, asks_for, nowhere, place_looked_up, numbers_of, answers_to, joined}
use Rattle.chaos_deref.specs.Laws.{IsSent}
use Rattle.chaos_deref.proofs.Composed.{asking-gives_places}
use Rattle.chaos_deref.proofs.OfLayout.{page_low}
use Rattle.fd_program.specs.Layouts.{Scene}
use Rattle.chaos_table.specs.Pages.{look_in}
use Rattle.chaos_table.specs.declared.pages.Pages.{Pages}
use Rattle.chaos_remap.proofs.Composition.{is_kth}
use Rattle.chaos_remap.proofs.Families.{by_node, filter-both, map-same, map-places, get-pieces, length-pieces}
use Rattle.plan_run.specs.Held.{IsPageOf, place_in}
use Rattle.plan_run.specs.Phases.{moving_of}
use Rattle.plan_run.specs.declared.stage.Stage.TheVariants as stage
use Rattle.chaos_moving.specs.declared.share.Share.{Share}
use Rattle.chaos_moving.specs.Asks.{asks_named, asked_in, answers_by}
use Rattle.chaos_moving.specs.IsMoving.{HasShare, lists_moved, taken_in}
use Rattle.chaos_moving.proofs.Lists.{map_twice, map_below, filter_mapped, flat_map_each}

-- ---- asks

-- the elements on a node that are asked of a page
asked_of : (nodes : ℕ) (old : List ℕ) (p q : ℕ) → filter (λ v. page_for (length old) nodes v == q) (map pos (elements_on old p))
    ≡ map pos (moving_of nodes old p q)
asked_of nodes old p q =
    filter_mapped (λ v. page_for (length old) nodes v == q) pos (elements_on old p)
    ∙ ap (map pos) (filter-both (λ g. owner_in old g == p) (λ g. page_of (length old) nodes g == q) (up_to (length old)))

-- an element behind its decomposition
abbrev ask_row : ℕ → ℕ → List ℤ
ask_row d g = pos d ∷ pos g ∷ []

named_of : (nodes d : ℕ) (old : List ℕ) (p q : ℕ)
    → asks_named d (filter (λ v. page_for (length old) nodes v == q) (map pos (elements_on old p))) ≡ flat_map (ask_row d)
    (moving_of nodes old p q)
named_of nodes d old p q = ap (asks_named d) (asked_of nodes old p q) ∙ flat_map-map (λ v. pos d ∷ v ∷ []) pos (moving_of nodes old p q)

read_back : (d : ℕ) (gs : List ℕ) → asked_in (flat_map (ask_row d) gs) ≡ map pos gs
read_back d gs =
    let numbers = flat_map (ask_row d) gs in
    let count : length numbers / 2 ≡ length gs =
    ap (λ n. n / 2) (length-pieces (ask_row d) 2 (λ g. refl) gs ∙ sym (add-zero (length gs * 2)))
    ∙ div-mul-add (length gs) 2 0 (omega arith) in
    ap (λ n. map (λ k. get_or numbers (2 * k + 1) (pos 0)) (below n)) count
    ∙ map-places (λ k. get_or numbers (2 * k + 1) (pos 0)) pos 0 gs
    (λ k g e.
    let at : 2 * (0 + k) + 1 ≡ k * 2 + 1 = omega arith in
    ap (λ n. get_or numbers n (pos 0)) at ∙ sym (unwrap_or-slice_get numbers (k * 2 + 1) (pos 0))
    ∙ ap (λ o. unwrap_or o (pos 0)) (get-pieces (ask_row d) 2 (λ g. refl) gs k 1 g e (omega arith)))

-- ---- answers

-- the numbers of an element's place
abbrev place_row : List ℕ → ℕ → List ℤ
place_row new g = pos (owner_in new g) ∷ pos (local_in new g) ∷ []

local_small : (new : List ℕ) (g : ℕ) → length new ≤ 1048576 → local_in new g < 9223372036854775808
local_small new g short =
    let counted : local_in new g ≤ length (take (g - 1) new) = count_by-le-length (λ o. o == owner_in new g) (take (g - 1) new) in
    omega (arith, counted, length-take (g - 1) new, short)

numbers_are : (new : List ℕ) (g : ℕ) → length new ≤ 1048576 → numbers_of (place_in new g) ≡ place_row new g
numbers_are new g short = ap (λ v. pos (owner_in new g) ∷ v ∷ []) (to_z_pos w64 (local_in new g) (local_small new g short))

-- a page answers with the places that it tells
answered_of : (page : Pages) (nodes : ℕ) (old new : List ℕ) (p q : ℕ) → length new ≤ 1048576
    → ((g : ℕ) → 1 ≤ g → g ≤ length old → page_of (length old) nodes g ≡ q → look_in page g ≡ Some (place_in new g))
    → answers_to page (map pos (moving_of nodes old p q)) ≡ flat_map (place_row new) (moving_of nodes old p q)
answered_of page nodes old new p q short tells =
    flat_map-map (λ v. numbers_of (place_looked_up page v)) pos (moving_of nodes old p q)
    ∙ flat_map_each (λ g. numbers_of (place_looked_up page (pos g))) (place_row new) (moving_of nodes old p q)
    (λ k g e.
    let h = is_kth (λ g. (owner_in old g == p) && (page_of (length old) nodes g == q)) (length old) k g e in
    let here : page_of (length old) nodes g ≡ q = same_when (page_of (length old) nodes g) q
    (right_true (owner_in old g == p) (page_of (length old) nodes g == q) h.passes) in
    ap (λ o. numbers_of (unwrap_or o nowhere)) (tells g h.from_one h.within here) ∙ numbers_are new g short)

-- ---- a page with all elements

abbrev whole : List ℕ → Pages
whole new = record { first = 1; places = map (place_in new) (up_to (length new)) }

look_whole : (new : List ℕ) (g : ℕ) → 1 ≤ g → g ≤ length new → look_in (whole new) g ≡ Some (place_in new g)
look_whole new g low high =
    let yes : nat_le 1 g ≡ true = grind (arith, nat_tests) in
    let back : 1 + (g - 1) ≡ g = omega arith in
    ap (λ b. if b then slice_get (map (place_in new) (up_to (length new))) (g - 1) else None) yes
    ∙ slice_get-get_or (map (place_in new) (up_to (length new))) (g - 1) nowhere
    (subst (λ n. g - 1 < n) (sym (length-map-range_with_len (place_in new) 1 (length new))) (omega arith))
    ∙ ap Some (get_or-map-range_with_len (place_in new) 1 (length new) (g - 1) g nowhere (omega arith) back)

owner_small : (nodes : ℕ) (new : List ℕ) (g : ℕ) → nodes ≤ 16 → All (λ o. o < nodes) new → 1 ≤ g → g ≤ length new
    → owner_in new g < 4294967296
owner_small nodes new g few owned low high =
    let there : g - 1 < length new = omega arith in
    let node : owner_in new g < nodes = subst (λ o. o < nodes) (sym (unwrap_or-slice_get new (g - 1) 0)) (owned (g - 1) 0 there) in
    omega (arith, node, few)

module _ (nodes : ℕ) (new : List ℕ) (some : 1 ≤ nodes) (few : nodes ≤ 16) (short : length new ≤ 1048576)
    (owned : All (λ o. o < nodes) new) where
  each_low : (v : ℤ) → IsElement (length new) v → page_for (length new) nodes v < nodes
  each_low (pos g) e = page_low (length new) nodes g some (omega (arith, ints, e.0)) (omega (arith, ints, e.1))
  each_low (negsuc n) e = absurd (omega (arith, ints, e.0))

  each_sent : (v : ℤ) → IsElement (length new) v → IsSent (place_looked_up (whole new) v)
  each_sent (pos g) e =
      let low : 1 ≤ g = omega (arith, ints, e.0) in
      let high : g ≤ length new = omega (arith, ints, e.1) in
      subst (λ o. IsSent (unwrap_or o nowhere)) (sym (look_whole new g low high)) (
        owner_small nodes new g few owned low high,
        local_small new g short,
      )
  each_sent (negsuc n) e = absurd (omega (arith, ints, e.0))

  pub places_joined : (old : List ℕ) (p : ℕ) (taken : List (List ℤ)) → length old ≡ length new
      → All (IsElement (length new)) (map pos (elements_on old p))
      → taken ≡ map (λ q. flat_map (place_row new) (moving_of nodes old p q)) (below nodes)
      → joined (length new) nodes (map pos (elements_on old p)) taken ≡ map (place_in new) (elements_on old p)
  places_joined old p taken size elements is =
      let wanted = map pos (elements_on old p) in
      let answers : (q : ℕ) → q < nodes → flat_map (place_row new) (moving_of nodes old p q) ≡ answers_to (whole new)
      (list_at (asks_for (length new) nodes wanted) q) =
      λ q there.
      sym (ap (answers_to (whole new))
      (by_node (λ q. filter (λ v. page_for (length new) nodes v == q) wanted) q nodes there
      ∙ ap (λ n. filter (λ v. page_for n nodes v == q) wanted) (sym size)
      ∙ asked_of nodes old p q)
      ∙ answered_of (whole new) nodes old new p q short (λ g low high _. look_whole new g low (subst (λ n. g ≤ n) size high))) in
      ap (joined (length new) nodes wanted)
      (is ∙ map_below (λ q. flat_map (place_row new) (moving_of nodes old p q))
      (λ q. answers_to (whole new) (list_at (asks_for (length new) nodes wanted) q)) nodes answers)
      ∙ asking-gives_places (length new) nodes (λ _. whole new) wanted (λ i d h. each_low (get_or wanted i d) (elements i d h))
      (λ i d h. each_sent (get_or wanted i d) (elements i d h))
      ∙ map_twice (place_looked_up (whole new)) pos (elements_on old p)
      ∙ map-same (λ g. place_looked_up (whole new) (pos g)) (place_in new) (elements_on old p)
      (λ k g e.
      let h = is_kth (λ g. owner_in old g == p) (length old) k g e in
      ap (λ o. unwrap_or o nowhere) (look_whole new g h.from_one (subst (λ n. g ≤ n) size h.within)))

-- ---- one node

module _ (share : Share) (s : Scene) (owners : List (List ℕ)) (store : List (List ℤ)) (new : List ℕ) (has : HasShare share s owners store)
    (size : length new ≡ share.extent) where
  abbrev d : ℕ
  d = share.decomposition

  abbrev old : List ℕ
  old = list_at owners d

  pub asks_sent : map (asks_named d) (asks_for share.extent share.nodes share.elements) ≡ lists_moved s owners store d new stage.MovingAsk
      share.me
  asks_sent =
      ap (λ n. map (asks_named d) (asks_for n share.nodes share.elements)) (sym has.size)
      ∙ ap (λ n. map (asks_named d) (asks_for (length old) n share.elements)) has.count
      ∙ ap (λ l. map (asks_named d) (asks_for (length old) s.nodes l)) has.mine
      ∙ map_twice (asks_named d) (λ q. filter (λ v. page_for (length old) s.nodes v == q) (map pos (elements_on old share.me)))
      (below s.nodes)
      ∙ ap (λ (f : ℕ → List ℤ). map f (below s.nodes)) (λ i q. named_of s.nodes d old share.me q i)

  pub asks_read : (taken : List (List ℤ)) → taken ≡ taken_in s owners store d new stage.MovingAsk share.me
      → map asked_in taken ≡ map (λ q. map pos (moving_of s.nodes old q share.me)) (below s.nodes)
  asks_read taken is =
      ap (map asked_in) is
      ∙ map_twice asked_in (λ q. flat_map (ask_row d) (moving_of s.nodes old q share.me)) (below s.nodes)
      ∙ ap (λ (f : ℕ → List ℤ). map f (below s.nodes)) (λ i q. read_back d (moving_of s.nodes old q share.me) i)

  pub answers_sent : (page : Option Pages) (asked : List (List ℤ)) → IsSomeAnd page (IsPageOf s.nodes share.me new)
      → asked ≡ map (λ q. map pos (moving_of s.nodes old q share.me)) (below s.nodes)
      → answers_by page asked ≡ lists_moved s owners store d new stage.MovingAnswer share.me
  answers_sent None asked h is = absurd h
  answers_sent (Some page) asked h is =
      let same : length old ≡ length new = has.size ∙ sym size in
      let short : length new ≤ 1048576 = subst (λ n. n ≤ 1048576) (sym size) share.few_elements in
      ap (map (answers_to page)) is
      ∙ map_twice (answers_to page) (λ q. map pos (moving_of s.nodes old q share.me)) (below s.nodes)
      ∙ ap (λ (f : ℕ → List ℤ). map f (below s.nodes))
      (λ i q. answered_of page s.nodes old new q share.me short
      (λ g low high here. h g low (subst (λ n. g ≤ n) same high) (ap (λ n. page_of n s.nodes g) (sym same) ∙ here)) i)

  pub answers_joined : (taken : List (List ℤ)) → All (λ o. o < s.nodes) new → taken ≡ taken_in s owners store d new stage.MovingAnswer
      share.me
      → joined share.extent share.nodes share.elements taken ≡ map (place_in new) (elements_on old share.me)
  answers_joined taken owned is =
      let short : length new ≤ 1048576 = subst (λ n. n ≤ 1048576) (sym size) share.few_elements in
      let within : All (IsElement (length new)) (map pos (elements_on old share.me)) =
      subst (λ (l : List ℤ). All (IsElement (length new)) l) has.mine (subst (λ n. All (IsElement n) share.elements)
      (sym size) share.within) in
      ap (λ n. joined n share.nodes share.elements taken) (sym size)
      ∙ ap (λ n. joined (length new) n share.elements taken) has.count
      ∙ ap (λ l. joined (length new) s.nodes l taken) has.mine
      ∙ places_joined s.nodes new (subst (λ n. 1 ≤ n) has.count share.some_nodes) (subst (λ n. n ≤ 16) has.count share.few_nodes) short
      owned old share.me taken (has.size ∙ sym size) within is
