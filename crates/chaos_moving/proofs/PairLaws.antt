-- The pairs of a map array on a node are the numbers that it sends to each page.
use Rattle.std.proofs.Common.{◌≡◌, refl, ℕ, ◌+◌, ◌-◌, ◌<◌, ◌≤◌, ◌==◌, ◌&&◌, Bool, true, false, List, [], ◌∷◌, cond, length, map, filter}
use Rattle.std.proofs.Common.{get_or, ap, sym, subst, ◌∙◌, arith, zero-add}
use Rattle.std.specs.Prelude.{ℤ, pos, negsuc, All, Option, Some, None, slice_get, unwrap_or, nat_lt, nat_le, int_le, ◌-ℤ◌, ◌+ℤ◌}
use Rattle.std.specs.Prelude.{if◌then◌else◌}
use Rattle.std.specs.List.{flat_map}
use Rattle.std.specs.Option.{option_map}
use Rattle.std.proofs.lemmas.Bool.Decides.{nat_tests}
use Rattle.std.proofs.lemmas.Int.{ints}
use Rattle.std.proofs.lemmas.Nat.{mod_below}
use Rattle.std.proofs.lemmas.List.{get_or-map}
use Rattle.std.proofs.lemmas.List.Elements.{All-map}
use Rattle.std.proofs.lemmas.Option.{unwrap_or-slice_get, slice_get-map}
use Rattle.fd_words.specs.Lists.{list_at}
use Rattle.fd_words.specs.Value.{remainder_of}
use Rattle.chaos_dist.specs.Counting.{below, up_to}
use Rattle.chaos_dist.specs.Homes.{natural}
use Rattle.chaos_dist.specs.Owners.{owner_in, elements_on, page_of}
use Rattle.fd_program.specs.Layouts.{Scene, owners_by_map}
use Rattle.fd_program.specs.Places.{decomposition_of, owner_for, value_on}
use Rattle.fd_program.specs.Stores.{array_at, element, is_within, number_at}
use Rattle.plan_run.specs.Phases.{map_rows}
use Rattle.plan_run.specs.declared.stage.Stage.TheVariants as stage
use Rattle.chaos_moving.specs.declared.share.Share.{Share}
use Rattle.chaos_moving.specs.Pairs.{element_within, pairs_to_page, pairs_at, map_pairs}
use Rattle.chaos_moving.specs.IsMoving.{HasShare, HasMap, StandsOnNodes, lists_moved}
use Rattle.chaos_moving.proofs.Lists.{map_flat_map, filter_flat_map, flat_map_at, flat_map_filtered, shifted, length-mapped}

-- ---- owners by a map

remainder-below : (v : ℤ) (nodes : ℕ) → 1 ≤ nodes → remainder_of v nodes < nodes
remainder-below (pos a) nodes some = mod_below a nodes (omega (arith, some))
remainder-below (negsuc a) nodes some = omega (arith, some)

pub mapped_owned : (nodes : ℕ) (values : List ℤ) → 1 ≤ nodes → All (λ o. o < nodes) (owners_by_map nodes values)
mapped_owned nodes values some = All-map (λ o. o < nodes) (λ (v : ℤ). remainder_of v nodes) values
    (λ k d h. remainder-below (get_or values k d) nodes some)

owner_mapped : (nodes g : ℕ) (values : List ℤ) → 1 ≤ g → g ≤ length values → owner_in (owners_by_map nodes values) g ≡ remainder_of
    (number_at values (g - 1)) nodes
owner_mapped nodes g values low high =
    let there : g - 1 < length values = omega arith in
    unwrap_or-slice_get (owners_by_map nodes values) (g - 1) 0
    ∙ get_or-map (λ (v : ℤ). remainder_of v nodes) values (g - 1) (pos 0) 0 there
    ∙ ap (λ v. remainder_of v nodes) (sym (unwrap_or-slice_get values (g - 1) (pos 0)))

-- ---- the numbers of one page

-- of an element and its value
abbrev row_to : ℕ → ℕ → ℕ → Option ℕ → ℤ → List ℤ
row_to extent nodes q None value = []
row_to extent nodes q (Some g) value = cond (page_of extent nodes g == q) (pos g ∷ pos (remainder_of value nodes) ∷ []) []

two_kept : (w q : ℕ) (a b : ℤ) → map (λ (pair : ℕ × ℤ). pair.1) (filter (λ (pair : ℕ × ℤ). pair.0 == q) ((w, a) ∷ (w, b) ∷ []))
    ≡ cond (w == q) (a ∷ b ∷ []) []
two_kept w q a b =
    elim (w == q) as (λ t. map (λ (pair : ℕ × ℤ). pair.1) (cond t ((w, a) ∷ cond t ((w, b) ∷ []) []) (cond t ((w, b) ∷ []) []))
    ≡ cond t (a ∷ b ∷ []) []) [ true ↦ refl | false ↦ refl ]

kept_is : (extent nodes q : ℕ) (o : Option ℕ) (value : ℤ)
    → map (λ (pair : ℕ × ℤ). pair.1) (filter (λ (pair : ℕ × ℤ). pair.0 == q) (pairs_to_page extent nodes o value))
    ≡ row_to extent nodes q o value
kept_is extent nodes q None value = refl
kept_is extent nodes q (Some g) value = two_kept (page_of extent nodes g) q (pos g) (pos (remainder_of value nodes))

-- ---- which element stands where

not_first : (extent offset e : ℕ) → e ≤ offset → element_within extent offset (pos e) ≡ None
not_first extent offset e h =
    let no : nat_lt offset e ≡ false = grind (arith, nat_tests) in
    ap (λ b. if (b && nat_le (e - offset) extent) then Some (e - offset) else None) no

not_last : (extent offset e : ℕ) → extent + offset < e → element_within extent offset (pos e) ≡ None
not_last extent offset e h =
    let yes : nat_lt offset e ≡ true = grind (arith, nat_tests) in
    let no : nat_le (e - offset) extent ≡ false = grind (arith, nat_tests) in
    ap (λ b. if (b && nat_le (e - offset) extent) then Some (e - offset) else None) yes
    ∙ ap (λ b. if b then Some (e - offset) else None) no

stands : (extent offset g : ℕ) → 1 ≤ g → g ≤ extent → element_within extent offset (pos (g + offset)) ≡ Some g
stands extent offset g low high =
    let back : g + offset - offset ≡ g = omega arith in
    let yes : nat_lt offset (g + offset) ≡ true = grind (arith, nat_tests) in
    let also : nat_le g extent ≡ true = grind (arith, nat_tests) in
    ap (λ b. if (b && nat_le (g + offset - offset) extent) then Some (g + offset - offset) else None) yes
    ∙ ap (λ n. if nat_le n extent then Some n else None) back
    ∙ ap (λ b. if b then Some g else None) also

cond_and : {A : Type 0} (b c : Bool) (x : List A) → cond b (cond c x []) [] ≡ cond (b && c) x []
cond_and true c x = refl
cond_and false c x = refl

cond_none : {A : Type 0} (b : Bool) (xs : List A) → cond b xs xs ≡ xs
cond_none true xs = refl
cond_none false xs = refl

is_within_it : (g n : ℕ) → 1 ≤ g → g ≤ n → (int_le (pos 1) (pos g) && int_le (pos g) (pos n)) ≡ true
is_within_it g n low high =
    let one : nat_le 1 g ≡ true = grind (arith, nat_tests) in
    let two : nat_le g n ≡ true = grind (arith, nat_tests) in
    ap (λ b. b && nat_le g n) one ∙ two

number_of_map : (f : ℕ → ℤ) (es : List ℕ) (k g : ℕ) → slice_get es k ≡ Some g → number_at (map f es) k ≡ f g
number_of_map f es k g e = ap (λ o. unwrap_or o (pos 0)) (slice_get-map f es k ∙ ap (option_map f) e)

module _ (share : Share) (s : Scene) (owners : List (List ℕ)) (store : List (List ℤ)) (array offset : ℕ) (elements values : List ℤ)
    (has : HasShare share s owners store) (map_is : HasMap share s owners store array offset elements values) where
  abbrev there : List ℕ
  there = list_at owners (decomposition_of s.checked.arrays array)

  abbrev new : List ℕ
  new = owners_by_map s.nodes (list_at store array)

  abbrev es : List ℕ
  es = elements_on there share.me

  abbrev value : ℕ → ℤ
  value = value_on s.checked.arrays store array

  -- the numbers of the element that stands at e
  abbrev row : ℕ → ℕ → List ℤ
  row q e = row_to share.extent s.nodes q (element_within share.extent offset (pos e)) (value e)

  owner_stands : (g : ℕ) → owner_for s.checked.arrays owners array (pos g) ≡ owner_in there (g + offset)
  owner_stands g = ap (λ z. owner_in there (natural (pos g +ℤ z))) map_is.stands

  pub spread : StandsOnNodes s owners array share.extent
  spread g low high =
      let last = map_is.last in
      let here : g + offset - 1 < length there = omega arith in
      subst (λ o. o < s.nodes) (sym (owner_stands g ∙ unwrap_or-slice_get there (g + offset - 1) 0)) (map_is.owned (g + offset - 1) 0 here)

  value_stands : (g : ℕ) → 1 ≤ g → g ≤ share.extent → value (g + offset) ≡ number_at (list_at store array) (g - 1)
  value_stands g low high =
      let z : pos (g + offset) -ℤ (array_at s.checked.arrays array).offset ≡ pos g = ap (λ o. pos (g + offset) -ℤ o) map_is.stands
      ∙ omega (arith, ints) in
      ap (λ y. if is_within s.checked.arrays array y then element store array y else pos 0) z
      ∙ ap (λ n. if (int_le (pos 1) (pos g) && int_le (pos g) (pos n)) then element store array (pos g) else pos 0) map_is.extent
      ∙ ap (λ b. if b then element store array (pos g) else pos 0) (is_within_it g share.extent low high)

  row_stands : (q g : ℕ) → 1 ≤ g → g ≤ share.extent → row q (g + offset) ≡ cond (page_of share.extent s.nodes g == q)
      (pos g ∷ pos (owner_in new g) ∷ []) []
  row_stands q g low high =
      ap (λ o. row_to share.extent s.nodes q o (value (g + offset))) (stands share.extent offset g low high)
      ∙ ap (λ v. cond (page_of share.extent s.nodes g == q) (pos g ∷ pos (remainder_of v s.nodes) ∷ []) []) (value_stands g low high)
      ∙ ap (λ o. cond (page_of share.extent s.nodes g == q) (pos g ∷ pos o ∷ []) [])
      (sym (owner_mapped s.nodes g (list_at store array) low (subst (λ n. g ≤ n) (sym map_is.size) high)))

  abbrev mine : ℕ → ℕ → List ℤ
  mine q e = cond (owner_in there e == share.me) (row q e) []

  abbrev wanted : ℕ → ℕ → Bool
  wanted q g = (owner_for s.checked.arrays owners array (pos g) == share.me) && (page_of share.extent s.nodes g == q)

  abbrev pair : ℕ → List ℤ
  pair g = pos g ∷ pos (owner_in new g) ∷ []

  mid : (q g : ℕ) → 1 ≤ g → g ≤ share.extent → mine q (g + offset) ≡ cond (wanted q g) (pair g) []
  mid q g low high =
      ap (λ l. cond (owner_in there (g + offset) == share.me) l []) (row_stands q g low high)
      ∙ cond_and (owner_in there (g + offset) == share.me) (page_of share.extent s.nodes g == q) (pair g)
      ∙ ap (λ o. cond ((o == share.me) && (page_of share.extent s.nodes g == q)) (pair g) []) (sym (owner_stands g))

  empty : (q e : ℕ) → element_within share.extent offset (pos e) ≡ None → mine q e ≡ []
  empty q e none =
      ap (λ o. cond (owner_in there e == share.me) (row_to share.extent s.nodes q o (value e)) []) none
      ∙ cond_none (owner_in there e == share.me) []

  page_rows : (q : ℕ) → flat_map (row q) es ≡ flat_map pair (filter (wanted q) (up_to share.extent))
  page_rows q =
      let last = map_is.last in
      flat_map_filtered (row q) (λ e. owner_in there e == share.me) (up_to (length there))
      ∙ shifted (mine q) (λ g. cond (wanted q g) (pair g) []) offset share.extent (length there) (omega arith)
      (λ e _ h. empty q e (not_first share.extent offset e h))
      (mid q)
      (λ e h. empty q e (not_last share.extent offset e (omega arith)))
      ∙ sym (flat_map_filtered pair (wanted q) (up_to share.extent))

  at_place : (q k e : ℕ) → slice_get es k ≡ Some e
      → map (λ (pair : ℕ × ℤ). pair.1) (filter (λ (pair : ℕ × ℤ). pair.0 == q) (pairs_at share.extent s.nodes offset elements values k))
      ≡ row q e
  at_place q k e is =
      let first : get_or elements k (pos 0) ≡ pos e = ap (λ l. get_or l k (pos 0)) map_is.mine
      ∙ sym (unwrap_or-slice_get (map pos es) k (pos 0)) ∙ number_of_map pos es k e is in
      let second : number_at values k ≡ value e = ap (λ l. number_at l k) map_is.part ∙ number_of_map value es k e is in
      kept_is share.extent s.nodes q (element_within share.extent offset (get_or elements k (pos 0))) (number_at values k)
      ∙ ap (λ v. row_to share.extent s.nodes q (element_within share.extent offset v) (number_at values k)) first
      ∙ ap (row_to share.extent s.nodes q (element_within share.extent offset (pos e))) second

  size : length new ≡ share.extent
  size = length-mapped (λ (v : ℤ). remainder_of v s.nodes) (list_at store array) ∙ map_is.size

  to_page : (q : ℕ) → map (λ (pair : ℕ × ℤ). pair.1)
      (filter (λ (pair : ℕ × ℤ). pair.0 == q) (flat_map (pairs_at share.extent s.nodes offset elements values) (below (length elements))))
      ≡ map_rows s owners new array share.me q
  to_page q =
      let f = pairs_at share.extent s.nodes offset elements values in
      let kept = λ (k : ℕ). map (λ (pair : ℕ × ℤ). pair.1) (filter (λ (pair : ℕ × ℤ). pair.0 == q) (f k)) in
      ap (map (λ (pair : ℕ × ℤ). pair.1)) (filter_flat_map (λ (pair : ℕ × ℤ). pair.0 == q) f (below (length elements)))
      ∙ map_flat_map (λ (pair : ℕ × ℤ). pair.1) (λ k. filter (λ (pair : ℕ × ℤ). pair.0 == q) (f k)) (below (length elements))
      ∙ ap (λ n. flat_map kept (below n)) (ap (λ l. length l) map_is.mine ∙ length-mapped pos es)
      ∙ flat_map_at kept (row q) 0 es (λ k e is. ap kept (zero-add k) ∙ at_place q k e is)
      ∙ page_rows q
      ∙ ap (λ n. flat_map pair (filter (λ g. (owner_for s.checked.arrays owners array (pos g) == share.me) && (page_of n s.nodes g == q))
      (up_to n))) (sym size)

  pub pairs_sent : map_pairs share.extent share.nodes offset elements values ≡ lists_moved s owners store share.decomposition new
      (stage.MapPairs array) share.me
  pairs_sent =
      ap (λ n. map_pairs share.extent n offset elements values) has.count
      ∙ ap (λ (list : ℕ → List ℤ). map list (below s.nodes)) (λ i q. to_page q i)
