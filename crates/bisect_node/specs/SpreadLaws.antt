-- From what all tell of the spreads of their coordinates each node has the cuts of the level.
use Rattle.std.specs.Prelude.{◌≡◌, ℕ, zero, suc, ◌+◌, ◌-◌, ◌*◌, ◌^◌, ◌≤◌, ◌<◌, ◌&&◌, ℤ, pos, ◌-ℤ◌, Bool, true, false, cond, List, [], ◌∷◌}
use Rattle.std.specs.Prelude.{◌++◌, length, map, filter, drop, nat_le, nat_lt, Some, slice_get, unwrap_or}
use Rattle.std.specs.Int.{int_max, int_min}
use Rattle.std.specs.List.{AllByRecursion, flat_map}
use Rattle.std.proofs.Common.{ap, sym, ◌∙◌, subst, arith, refl}
use Rattle.std.proofs.lemmas.Bool.Decides.{nat_tests}
use Rattle.std.proofs.lemmas.List.{drop_at, drop-drop}
use Rattle.std.proofs.lemmas.List.Folds.{fold-map}
use Rattle.fd_words.specs.Lists.{list_at}
use Rattle.chaos_letter.specs.declared.letter.Letter.{Letter}
use Rattle.chaos_letter.specs.declared.wanted.Wanted.{Wanted}
use Rattle.bsp_desk.specs.Ways.{letter_as}
use Rattle.chaos_cut.specs.Bisection.{Axes, Region, axis_at, coordinate, cut_size, first_greatest, greatest_of, least_of, spread_of}
use Rattle.chaos_cut.specs.Bisection.{widest_axis}
use Rattle.chaos_cut.specs.Keys.{key_in, key_of}
use Rattle.chaos_cut.specs.Told.{AreOwned, others, greatest_is_told, least_is_told}
use Rattle.bisect_node.specs.ListLaws.{all-at, get-drop, get-made, get-nil, get-within, map-below, told_fold}
use Rattle.bisect_node.specs.Plans.{BisectPlan, coordinates_of, owned, owner_by_block, spread_numbers}
use Rattle.bisect_node.specs.RowLaws.{length-spread_numbers}
use Rattle.bisect_node.specs.States.{cut_of, piece_of}
use Rattle.bisect_node.specs.Steps.{cut_by, cuts_from, greater, greatest_in, key_at, keys_by, lesser, number_at, place_past, spread_told}
use Rattle.bisect_node.specs.Steps.{told_of_piece, told_of_pieces, widest}
use Rattle.bisect_node.specs.Indexed.{map_from-made}
use Rattle.bisect_node.specs.declared.pieces.Piece.{Piece}

-- ---- what a node tells of its pieces

told-piece : (axes : Axes) (elements : List ℕ) → told_of_piece (coordinates_of axes elements) ≡ spread_numbers axes elements
told-piece [] elements = refl
told-piece (axis ∷ axes) elements =
    ap (λ z. z ∷ greatest_in (map (coordinate axis) elements) ∷ told_of_piece (coordinates_of axes elements))
    (fold-map int_min (coordinate axis) _ elements)
    ∙ ap (λ z. least_of axis elements ∷ z ∷ told_of_piece (coordinates_of axes elements)) (fold-map int_max (coordinate axis) _ elements)
    ∙ ap (λ l. least_of axis elements ∷ greatest_of axis elements ∷ l) (told-piece axes elements)

pub told-pieces : (plan : BisectPlan) (p : ℕ) (regions : List Region)
    → told_of_pieces (map (piece_of plan p) regions)
    ≡ flat_map (λ region. spread_numbers plan.axes (owned plan p region.elements)) (filter (λ region. nat_lt 1 region.parts) regions)
told-pieces plan p [] = refl
told-pieces plan p (region ∷ regions) = by (nat_lt 1 region.parts) (told-pieces plan p regions)
  where
    first : List ℤ
    first = told_of_piece (coordinates_of plan.axes (owned plan p region.elements))

    rest : List ℤ
    rest = told_of_pieces (map (piece_of plan p) regions)

    cut : List Region
    cut = filter (λ region. nat_lt 1 region.parts) regions

    by : (b : Bool) → rest ≡ flat_map (λ region. spread_numbers plan.axes (owned plan p region.elements)) cut
        → cond b first [] ++ rest ≡ flat_map (λ region. spread_numbers plan.axes (owned plan p region.elements)) (cond b (region ∷ cut) cut)
    by true e =
        ap (λ l. l ++ rest) (told-piece plan.axes (owned plan p region.elements))
        ∙ ap (λ l. spread_numbers plan.axes (owned plan p region.elements) ++ l) e
    by false e = e

-- ---- the numbers of a region, by place

least-at : (axes : Axes) (elements : List ℕ) (rest : List ℤ) (k : ℕ) (axis : List ℤ) → slice_get axes k ≡ Some axis
    → number_at (spread_numbers axes elements ++ rest) (2 * k) ≡ least_of axis elements
least-at [] elements rest k axis e = absurd (cc)
least-at (first ∷ axes) elements rest zero axis e = ap (λ a. least_of a elements) (let same : first ≡ axis = cc in same)
least-at (first ∷ axes) elements rest (suc k) axis e =
    let next : 2 * suc k ≡ suc (suc (2 * k)) = omega arith in
    ap (number_at (spread_numbers (first ∷ axes) elements ++ rest)) next ∙ least-at axes elements rest k axis e

greatest-at : (axes : Axes) (elements : List ℕ) (rest : List ℤ) (k : ℕ) (axis : List ℤ) → slice_get axes k ≡ Some axis
    → number_at (spread_numbers axes elements ++ rest) (2 * k + 1) ≡ greatest_of axis elements
greatest-at [] elements rest k axis e = absurd (cc)
greatest-at (first ∷ axes) elements rest zero axis e = ap (λ a. greatest_of a elements) (let same : first ≡ axis = cc in same)
greatest-at (first ∷ axes) elements rest (suc k) axis e =
    let next : 2 * suc k + 1 ≡ suc (suc (2 * k + 1)) = omega arith in
    ap (number_at (spread_numbers (first ∷ axes) elements ++ rest)) next ∙ greatest-at axes elements rest k axis e

-- ---- the keys of a piece

coordinate-at : (axes : Axes) (w : ℕ) (elements : List ℕ) (k g : ℕ) → slice_get elements k ≡ Some g
    → number_at (list_at (coordinates_of axes elements) w) k ≡ coordinate (axis_at axes w) g
coordinate-at [] zero elements k g e = ap (λ o. unwrap_or o (pos 0)) (get-nil {A = ℤ} k (g - 1))
coordinate-at [] (suc w) elements k g e = ap (λ o. unwrap_or o (pos 0)) (get-nil {A = ℤ} k (g - 1))
coordinate-at (axis ∷ axes) zero elements k g e = ap (λ o. unwrap_or o (pos 0)) (get-made (coordinate axis) elements k g e)
coordinate-at (axis ∷ axes) (suc w) elements k g e = coordinate-at axes w elements k g e

-- elements are from 1 to 2^20
abbrev pub AreElements : List ℕ → Type 0
AreElements elements = AllByRecursion (λ g. (1 ≤ g) × (g ≤ 2 ^ 20)) elements

key-is : (x : ℤ) (g : ℕ) → 1 ≤ g → g ≤ 2 ^ 20 → key_at x (pos g) ≡ key_of x g
key-is x g some few =
    let passes : (nat_le 1 g && nat_le g 1048576) ≡ true = grind (arith, nat_tests, some, few) in
    ap (λ b. cond b (key_of x g) 0) passes

pub keys-are : (axes : Axes) (w : ℕ) (elements : List ℕ) → AreElements elements
    → keys_by (list_at (coordinates_of axes elements) w) (map pos elements) ≡ map (key_in (axis_at axes w)) elements
keys-are axes w elements all =
    map_from-made (λ k element. key_at (number_at (list_at (coordinates_of axes elements) w) k) element) pos (key_in (axis_at axes w)) 0
    elements
    (λ k g e.
    let is = all-at (λ n. (1 ≤ n) × (n ≤ 2 ^ 20)) k g elements all e in
    let here : 0 + k ≡ k = omega arith in
    ap (λ n. key_at (number_at (list_at (coordinates_of axes elements) w) n) (pos g)) here
    ∙ ap (λ x. key_at x (pos g)) (coordinate-at axes w elements k g e)
    ∙ key-is (coordinate (axis_at axes w) g) g is.0 is.1)

-- ---- the cuts

place-small : (base more : ℕ) → base + more < 2 ^ 64 → place_past base more ≡ base + more
place-small base more small = omega (arith, small)

module _ (plan : BisectPlan) (p : ℕ) (less : p < plan.nodes) (wanted : Wanted) (told : ℕ → List ℤ) where
  abbrev letters : List Letter
  letters = map (λ q. letter_as wanted (told q)) (others plan.nodes p)

  abbrev open_in : List Region → List Region
  open_in regions = filter (λ region. nat_lt 1 region.parts) regions

  abbrev spreads : ℕ → List Region → List ℤ
  spreads q regions = flat_map (λ region. spread_numbers plan.axes (owned plan q region.elements)) regions

  -- the numbers of all begin at a place with those of these regions
  abbrev TellFrom : ℕ → List Region → Type 0
  TellFrom base regions = (q : ℕ) → drop base (told q) ≡ spreads q regions

  abbrev IsSmall : ℕ → List Region → Type 0
  IsSmall base regions = base + 2 * length plan.axes * length regions < 2 ^ 64

  number-from : (base : ℕ) (region : Region) (regions : List Region) → TellFrom base (region ∷ regions) → (q i : ℕ)
      → number_at (told q) (base + i) ≡ number_at (spread_numbers plan.axes (owned plan q region.elements) ++ spreads q regions) i
  number-from base region regions tell q i =
      ap (λ o. unwrap_or o (pos 0)) (get-drop base (told q) i) ∙ ap (λ l. number_at l i) (tell q)

  spread-is : (base : ℕ) (region : Region) (regions : List Region) → AreOwned (owner_by_block plan) plan.nodes region.elements
      → TellFrom base (region ∷ regions) → IsSmall base (region ∷ regions) → (k : ℕ) (axis : List ℤ) → slice_get plan.axes k ≡ Some axis
      → spread_told (told p) letters base k ≡ spread_of axis region.elements
  spread-is base region regions are tell small k axis e =
      let n = plan.nodes in
      let within : k < length plan.axes = get-within plan.axes k axis e in
      let room : 2 * length plan.axes * length (region ∷ regions) ≡ 2 * length plan.axes + 2 * length plan.axes * length regions =
      omega arith in
      let first : place_past base (2 * k) ≡ base + 2 * k = place-small base (2 * k) (omega (arith, within, small, room)) in
      let second : place_past (base + 2 * k) 1 ≡ base + (2 * k + 1) = omega (arith, within, small, room) in
      let least : lesser (told p) letters (base + 2 * k) ≡ least_of axis region.elements =
      told_fold int_min wanted told (λ q. least_of axis (owned plan q region.elements)) (base + 2 * k) p (others n p)
      (λ q. number-from base region regions tell q (2 * k) ∙ least-at plan.axes (owned plan q region.elements) (spreads q regions) k axis e)
      ∙ least_is_told axis (owner_by_block plan) n p region.elements less are in
      let greatest : greater (told p) letters (base + (2 * k + 1)) ≡ greatest_of axis region.elements =
      told_fold int_max wanted told (λ q. greatest_of axis (owned plan q region.elements)) (base + (2 * k + 1)) p (others n p)
      (λ q. number-from base region regions tell q (2 * k + 1) ∙ greatest-at plan.axes (owned plan q region.elements) (spreads q regions)
      k axis e)
      ∙ greatest_is_told axis (owner_by_block plan) n p region.elements less are in
      ap (λ at. greater (told p) letters (place_past at 1) -ℤ lesser (told p) letters at) first
      ∙ ap (λ at. greater (told p) letters at -ℤ lesser (told p) letters (base + 2 * k)) second
      ∙ ap (λ z. z -ℤ lesser (told p) letters (base + 2 * k)) greatest
      ∙ ap (λ z. greatest_of axis region.elements -ℤ z) least

  cut-is : (base : ℕ) (region : Region) (regions : List Region) → AreOwned (owner_by_block plan) plan.nodes region.elements
      → AreElements (owned plan p region.elements) → TellFrom base (region ∷ regions) → IsSmall base (region ∷ regions)
      → cut_by (length plan.axes) (told p) letters base (piece_of plan p region) ≡ cut_of plan p region
  cut-is base region regions are all tell small =
      let elements = owned plan p region.elements in
      let axis : widest (length plan.axes) (told p) letters base ≡ widest_axis plan.axes region.elements =
      ap first_greatest (map-below (λ k. spread_told (told p) letters base k) (λ axis. spread_of axis region.elements) 0 plan.axes
      (λ k axis e.
      let here : 0 + k ≡ k = omega arith in
      ap (λ j. spread_told (told p) letters base j) here ∙ spread-is base region regions are tell small k axis e)) in
      ap (λ keys. record { goal = cut_size region; keys = keys })
      (ap (λ w. keys_by (list_at (coordinates_of plan.axes elements) w) (map pos elements)) axis
      ∙ keys-are plan.axes (widest_axis plan.axes region.elements) elements all)

  -- what is told of the regions behind the first
  tell-rest : (base : ℕ) (region : Region) (regions : List Region) → TellFrom base (region ∷ regions) → IsSmall base (region ∷ regions)
      → TellFrom (place_past base (2 * length plan.axes)) regions
  tell-rest base region regions tell small q =
      let room : 2 * length plan.axes * length (region ∷ regions) ≡ 2 * length plan.axes + 2 * length plan.axes * length regions =
      omega arith in
      let numbers = spread_numbers plan.axes (owned plan q region.elements) in
      ap (λ n. drop n (told q)) (place-small base (2 * length plan.axes) (omega (arith, small, room)))
      ∙ sym (drop-drop (2 * length plan.axes) base (told q))
      ∙ ap (drop (2 * length plan.axes)) (tell q)
      ∙ drop_at numbers (spreads q regions) (2 * length plan.axes) (length-spread_numbers plan.axes (owned plan q region.elements))

  small-rest : (base : ℕ) (region : Region) (regions : List Region) → IsSmall base (region ∷ regions)
      → IsSmall (place_past base (2 * length plan.axes)) regions
  small-rest base region regions small =
      let room : 2 * length plan.axes * length (region ∷ regions) ≡ 2 * length plan.axes + 2 * length plan.axes * length regions =
      omega arith in
      let here : place_past base (2 * length plan.axes) ≡ base + 2 * length plan.axes = place-small base (2 * length plan.axes)
      (omega (arith, small, room)) in
      omega (arith, here, small, room)

  pub cuts-are : (base : ℕ) (regions : List Region)
      → AllByRecursion (λ region. AreOwned (owner_by_block plan) plan.nodes region.elements × AreElements (owned plan p region.elements))
      regions
      → TellFrom base (open_in regions) → IsSmall base (open_in regions)
      → cuts_from (length plan.axes) (told p) letters base (map (piece_of plan p) regions) ≡ map (cut_of plan p) (open_in regions)
  cuts-are base [] all tell small = refl
  cuts-are base (region ∷ regions) all tell small = by (nat_lt 1 region.parts) (λ at t s. cuts-are at regions all.1 t s) tell small
    where
      pieces : List Piece
      pieces = map (piece_of plan p) regions

      by : (b : Bool) → ((at : ℕ) → TellFrom at (open_in regions) → IsSmall at (open_in regions)
          → cuts_from (length plan.axes) (told p) letters at pieces ≡ map (cut_of plan p) (open_in regions))
          → TellFrom base (cond b (region ∷ open_in regions) (open_in regions))
          → IsSmall base (cond b (region ∷ open_in regions) (open_in regions))
          → cond b
          (cut_by (length plan.axes) (told p) letters base (piece_of plan p region)
          ∷ cuts_from (length plan.axes) (told p) letters (place_past base (2 * length plan.axes)) pieces)
          (cuts_from (length plan.axes) (told p) letters base pieces)
          ≡ map (cut_of plan p) (cond b (region ∷ open_in regions) (open_in regions))
      by true rest tell small =
          ap (λ cut. cut ∷ cuts_from (length plan.axes) (told p) letters (place_past base (2 * length plan.axes)) pieces)
          (cut-is base region (open_in regions) all.0.0 all.0.1 tell small)
          ∙ ap (λ l. cut_of plan p region ∷ l)
          (rest (place_past base (2 * length plan.axes)) (tell-rest base region (open_in regions) tell small)
          (small-rest base region (open_in regions) small))
      by false rest tell small = rest base tell small
