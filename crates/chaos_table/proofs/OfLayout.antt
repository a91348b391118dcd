-- A page whose pairs and counts are those of a layout.
use Rattle.std.proofs.Common.{◌≡◌, refl, ℕ, zero, suc, ◌+◌, ◌*◌, ◌-◌, ◌/◌, ◌%◌, ◌≤◌, ◌<◌, min, Bool, true, false, ◌==◌, cond, List, [], ◌∷◌}
use Rattle.std.proofs.Common.{◌++◌, length, take, drop, map, filter, count_by, get_or, ap, sym, subst, ◌∙◌, arith, length-drop}
use Rattle.std.specs.Prelude.{ℤ, pos, Option, Some, None, All, slice_get, unwrap_or, sum_by, nat_lt, nat_le}
use Rattle.std.specs.List.{range_with_len}
use Rattle.std.proofs.lemmas.Bool.Decides.{nat_tests}
use Rattle.std.proofs.lemmas.Nat.{mod_below, div-mul-add}
use Rattle.std.proofs.Math.Nat.{div-add-mod'}
use Rattle.std.proofs.lemmas.Option.{unwrap_or-slice_get}
use Rattle.std.proofs.lemmas.List.{ext_get_or, get_or-take, get_or-drop, length-take, take-take}
use Rattle.std.proofs.lemmas.List.FromFn.{get_or-map-range_with_len, length-map-range_with_len}
use Rattle.std.proofs.lemmas.List.Sums.{sum_by_push, count_by-le-length}
use Rattle.fd_words.specs.Lists.{list_at}
use Rattle.fd_words.specs.declared.place.Place.{Place}
use Rattle.chaos_dist.specs.Layout.{divided_up}
use Rattle.chaos_dist.specs.LayoutLaws.{divided_up-is}
use Rattle.chaos_dist.specs.Counting.{below, below-last}
use Rattle.chaos_dist.specs.Owners.{owner_in, count_in, length_in, local_in, page_of, page_owners}
use Rattle.chaos_dist.specs.OwnersLaws.{count_in-pages, local_in-pages, get_range}
use Rattle.chaos_table.specs.Pages.{first_on, size_on, is_element, all_pairs, node_named, after_pair, last_owner, owner_by, owners_on}
use Rattle.chaos_table.specs.Pages.{counts_of, sound_count, earlier, place_on, page_given, look_in}
use Rattle.chaos_table.specs.Laws.{IsCovered, CountsBefore}
use Rattle.chaos_table.proofs.Telling.{told}

-- ---- the owner of an element with one pair

-- only its own pairs tell
own_pairs : (nodes g before : ℕ) (pairs : List (ℤ × ℤ)) → last_owner nodes g before pairs ≡ last_owner nodes g before
    (filter (λ pair. is_element pair.0 g) pairs)
own_pairs nodes g before [] = refl
own_pairs nodes g before (p ∷ ps) =
    elim (is_element p.0 g) as (λ b. is_element p.0 g ≡ b → last_owner nodes g (after_pair nodes g before p) ps
    ≡ last_owner nodes g before (cond b (p ∷ filter (λ pair. is_element pair.0 g) ps) (filter (λ pair. is_element pair.0 g) ps))) [
      | true ↦ λ e. own_pairs nodes g (after_pair nodes g before p) ps
      | false ↦ λ e. ap (λ b. last_owner nodes g (cond b (unwrap_or (node_named nodes p.1) before) before) ps) e
          ∙ own_pairs nodes g before ps
    ] refl

same_number : (m : ℕ) → (m == m) ≡ true
same_number m = grind (arith, nat_tests)

is_below : (o nodes : ℕ) → o < nodes → nat_lt o nodes ≡ true
is_below o nodes h = grind (arith, nat_tests)

one_pair : (nodes g o : ℕ) (pairs : List (ℤ × ℤ)) → o < nodes → filter (λ pair. is_element pair.0 g) pairs ≡ (pos g, pos o) ∷ []
    → owner_by nodes pairs g ≡ o
one_pair nodes g o pairs low is =
    own_pairs nodes g 0 pairs ∙ ap (last_owner nodes g 0) is
    ∙ ap (λ b. cond b (unwrap_or (node_named nodes (pos o)) 0) 0) (same_number g)
    ∙ ap (λ b. unwrap_or (cond b (Some o) None) 0) (is_below o nodes low)

-- ---- the elements of a page

width-some : (extent nodes : ℕ) → 1 ≤ extent → 1 ≤ nodes → 1 ≤ divided_up extent nodes
width-some extent nodes small some = omega (arith, divided_up-is extent nodes small some)

pub record IsAt (extent nodes page g : ℕ) : Type 0 where
  pub low : page * divided_up extent nodes < g
  pub high : g ≤ page * divided_up extent nodes + divided_up extent nodes

on_page : (extent nodes page g : ℕ) → 1 ≤ extent → 1 ≤ nodes → 1 ≤ g → page_of extent nodes g ≡ page → IsAt extent nodes page g
on_page extent nodes page g small some from_one is =
    let w = divided_up extent nodes in
    let same : (g - 1) / w * w ≡ page * w = ap (λ p. p * w) is in
    let rest : (g - 1) % w < w = mod_below (g - 1) w (width-some extent nodes small some) in
    let whole : (g - 1) / w * w + (g - 1) % w ≡ g - 1 = div-add-mod' (g - 1) w in
    record { low = omega (arith, same, rest, whole, from_one); high = omega (arith, same, rest, whole, from_one) }

page_at : (q r w g : ℕ) → g ≡ q * w + r → r < w → g / w ≡ q
page_at q r w g at low = ap (λ k. k / w) at ∙ div-mul-add q w r low

-- the page of an element that stands at i on it
page_is : (extent nodes page i : ℕ) → i < divided_up extent nodes → page_of extent nodes (first_on extent nodes page + i) ≡ page
page_is extent nodes page i low =
    let w = divided_up extent nodes in
    let at : first_on extent nodes page + i - 1 ≡ page * w + i = omega arith in
    page_at page i w (first_on extent nodes page + i - 1) at low

-- ---- the owners on a page

owner_low : (owners : List ℕ) (nodes k : ℕ) → All (λ o. o < nodes) owners → k < length owners → get_or owners k 0 < nodes
owner_low owners nodes k all h = all k 0 h

owner-get_or : (owners : List ℕ) (g : ℕ) → owner_in owners g ≡ get_or owners (g - 1) 0
owner-get_or owners g = unwrap_or-slice_get owners (g - 1) 0

pub owners-same : (nodes page : ℕ) (owners : List ℕ) (pairs : List (List ℤ)) → IsCovered nodes page owners pairs
    → owners_on (length owners) nodes page pairs ≡ page_owners nodes page owners
owners-same nodes page owners pairs covered =
    let extent = length owners in
    let w = divided_up extent nodes in
    let first = first_on extent nodes page in
    let size = size_on extent nodes page in
    let on = owners_on extent nodes page pairs in
    let long : length on ≡ size = length-map-range_with_len (owner_by nodes (all_pairs pairs)) first size in
    let other : length (take w (drop (page * w) owners)) ≡ min w (length (drop (page * w) owners)) =
    length-take w (drop (page * w) owners) in
    let rest : length (drop (page * w) owners) ≡ extent - page * w = length-drop (page * w) owners in
    ext_get_or 0 on (page_owners nodes page owners) (long ∙ ap (λ k. min w k) (sym rest) ∙ sym other)
    (λ i low.
    let here : i < size = subst (λ k. i < k) long low in
    let within : i < w = omega arith in
    let inside : page * w + i < extent = omega arith in
    let at : first + i - 1 ≡ page * w + i = omega arith in
    let from_one : 1 ≤ first + i = omega arith in
    let to_end : first + i ≤ extent = omega arith in
    let own : owner_in owners (first + i) ≡ get_or owners (page * w + i) 0 = owner-get_or owners (first + i)
    ∙ ap (λ k. get_or owners k 0) at in
    let node : owner_in owners (first + i) < nodes = subst (λ o. o < nodes) (sym own)
    (owner_low owners nodes (page * w + i) covered.below inside) in
    get_or-map-range_with_len (owner_by nodes (all_pairs pairs)) first size i (first + i) 0 here refl
    ∙ one_pair nodes (first + i) (owner_in owners (first + i)) (all_pairs pairs) node (covered.once (first + i) from_one to_end
    (page_is extent nodes page i within))
    ∙ own
    ∙ sym (get_or-take w (drop (page * w) owners) i 0 within ∙ get_or-drop (page * w) owners i 0))

pub counts-of_layout : (nodes page : ℕ) (owners : List ℕ) (pairs : List (List ℤ)) → IsCovered nodes page owners pairs
    → counts_of nodes (owners_on (length owners) nodes page pairs) ≡ counts_of nodes (page_owners nodes page owners)
counts-of_layout nodes page owners pairs covered = ap (counts_of nodes) (owners-same nodes page owners pairs covered)

-- ---- the elements of the pages before

sum_same : (f g : ℕ → ℕ) (n : ℕ) → ((k : ℕ) → k < n → f k ≡ g k) → sum_by f (below n) ≡ sum_by g (below n)
sum_same f g zero same = refl
sum_same f g (suc n) same =
    ap (sum_by f) (below-last n) ∙ sum_by_push f (below n) n
    ∙ ap (λ k. k + f n) (sum_same f g n (λ k low. same k (omega arith))) ∙ ap (λ k. sum_by g (below n) + k) (same n (omega arith))
    ∙ sym (ap (sum_by g) (below-last n) ∙ sum_by_push g (below n) n)

sound : (extent n : ℕ) → n ≤ extent → sound_count extent (Some (pos n)) ≡ n
sound extent n h = let on : nat_le n extent ≡ true = grind (arith, nat_tests) in ap (λ b. cond b n 0) on

count_short : (nodes page : ℕ) (owners : List ℕ) (node : ℕ) → length_in (page_owners nodes page owners) node ≤ length owners
count_short nodes page owners node =
    let w = divided_up (length owners) nodes in
    omega (
      arith,
      count_by-le-length (λ o. o == node) (take w (drop (page * w) owners)),
      length-take w (drop (page * w) owners),
      length-drop (page * w) owners,
    )

pub earlier-is : (nodes page : ℕ) (owners : List ℕ) (counts : List (List ℤ)) (node : ℕ) → node < nodes
    → CountsBefore nodes page owners counts
    → earlier (length owners) counts page node ≡ sum_by (λ before. count_in (drop (before * divided_up (length owners) nodes) owners) node
    (divided_up (length owners) nodes)) (below page)
earlier-is nodes page owners counts node low all =
    let w = divided_up (length owners) nodes in
    sum_same (λ before. sound_count (length owners) (slice_get (list_at counts before) node))
    (λ before. count_in (drop (before * w) owners) node w) page
    (λ before less.
    let at : 0 + node ≡ node = omega arith in
    ap (λ l. sound_count (length owners) (slice_get l node)) (all before less)
    ∙ ap (sound_count (length owners)) (get_range (λ n. pos (length_in (page_owners nodes before owners) n)) 0 node nodes low)
    ∙ ap (λ n. sound_count (length owners) (Some (pos (length_in (page_owners nodes before owners) n)))) at
    ∙ sound (length owners) (length_in (page_owners nodes before owners) node) (count_short nodes before owners node))

-- ---- the places

pub page-of_layout : (nodes page : ℕ) (owners : List ℕ) (pairs counts : List (List ℤ)) → IsCovered nodes page owners pairs
    → CountsBefore nodes page owners counts
    → (g : ℕ) → 1 ≤ g → g ≤ length owners → page_of (length owners) nodes g ≡ page
    → look_in (page_given (length owners) nodes page pairs counts) g
    ≡ Some (record { owner = owner_in owners g; local = local_in owners g })
page-of_layout nodes page owners pairs counts covered all g from_one within is =
    let extent = length owners in
    let w = divided_up extent nodes in
    let first = first_on extent nodes page in
    let on = page_owners nodes page owners in
    let before = earlier extent counts page in
    let spot = on_page extent nodes page g covered.elements covered.some from_one is in
    let low = spot.low in
    let high = spot.high in
    let k = g - first in
    let here : k < w = omega arith in
    let at : page * w + k ≡ g - 1 = omega arith in
    let less : k ≤ w = omega arith in
    let span : g - 1 - page * w ≡ k = omega arith in
    let many : length on ≡ min w (extent - page * w) = length-take w (drop (page * w) owners)
    ∙ ap (min w) (length-drop (page * w) owners) in
    let inside : g < first + length on = omega (arith, many) in
    let under : first ≤ g = omega arith in
    let back : 1 + k - 1 ≡ k = omega arith in
    let own : owner_in on (1 + k) ≡ owner_in owners g =
    owner-get_or on (1 + k) ∙ ap (λ j. get_or on j 0) back ∙ get_or-take w (drop (page * w) owners) k 0 here
    ∙ get_or-drop (page * w) owners k 0
    ∙ ap (λ j. get_or owners j 0) at ∙ sym (owner-get_or owners g) in
    let node : owner_in owners g < nodes = subst (λ o. o < nodes) (sym (owner-get_or owners g))
    (owner_low owners nodes (g - 1) covered.below (omega arith)) in
    let on_it : count_by (λ o. o == owner_in owners g) (take (1 + k - 1) on) ≡ count_in (drop (page * w) owners) (owner_in owners g)
    (g - 1 - page * w) =
    ap (λ j. count_by (λ o. o == owner_in owners g) (take j on)) back
    ∙ ap (count_by (λ o. o == owner_in owners g)) (take-take k w (drop (page * w) owners) less)
    ∙ ap (count_in (drop (page * w) owners) (owner_in owners g)) (sym span) in
    let local : before (owner_in owners g) + count_by (λ o. o == owner_in owners g) (take (1 + k - 1) on) ≡ local_in owners g =
    ap (λ n. before (owner_in owners g) + n) on_it
    ∙ ap (λ n. n + count_in (drop (page * w) owners) (owner_in owners g) (g - 1 - page * w))
    (earlier-is nodes page owners counts (owner_in owners g) node all)
    ∙ sym (local_in-pages owners g w page low) in
    let made : ℕ → ℕ → Place = λ o n. record { owner = o; local = n } in
    ap (λ os. look_in (record { first = first; places = map (place_on before os) (range_with_len 1 (length os)) }) g)
    (owners-same nodes page owners pairs covered)
    ∙ told before on first g under inside
    ∙ ap (λ o. Some (made o (before o + count_by (λ x. x == o) (take (1 + k - 1) on)))) own
    ∙ ap (λ n. Some (made (owner_in owners g) n)) local
