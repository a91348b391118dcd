-- From the keys that are found each node has what it holds of the regions of the next level.
use Rattle.std.specs.Prelude.{◌≡◌, ℕ, ◌+◌, ◌-◌, ◌/◌, ◌^◌, ◌≤◌, ◌==◌, ℤ, pos, Bool, true, false, cond, not, List, [], ◌∷◌, ◌++◌, length, map}
use Rattle.std.specs.Prelude.{filter, drop, flat_map, nat_lt, nat_le, Some, slice_get, unwrap_or, min}
use Rattle.std.specs.List.{AllByRecursion}
use Rattle.std.proofs.Common.{ap, sym, ◌∙◌, arith, refl}
use Rattle.std.proofs.lemmas.Bool.Decides.{nat_tests}
use Rattle.chaos_cut.specs.Bisection.{Axes, Region, coordinate, cut_axis, cut_size, first_half, goes_first, halves, second_half}
use Rattle.chaos_cut.specs.Keys.{found_in, key_in}
use Rattle.chaos_cut.specs.KeyLaws.{IsElement}
use Rattle.chaos_cut.specs.Regions.{AreSigned, AreSome, halves_have_sizes, keys_cut}
use Rattle.bisect_node.specs.Indexed.{filter_from-made}
use Rattle.bisect_node.specs.ListLaws.{all-weaker, drop-first, filter-agree, filter-swap, get-first, get-made}
use Rattle.bisect_node.specs.Plans.{BisectPlan, coordinates_of, owned, owner_by_block}
use Rattle.bisect_node.specs.States.{cut_of, piece_of}
use Rattle.bisect_node.specs.Steps.{cut_or_none, cut_pieces, first_piece, found_or_none, goes, goes_by, kept, kept_lists, no_cut}
use Rattle.bisect_node.specs.Steps.{second_piece}
use Rattle.bisect_node.specs.declared.cuts.Cut.{Cut}
use Rattle.bisect_node.specs.declared.pieces.Piece.{Piece}

-- ---- numbers of elements that go to a half

is_above : (k v : ℕ) → nat_lt v k ≡ not (nat_le k v)
is_above k v = grind (arith, nat_tests)

-- whether an element with this key goes to a half
abbrev pub by_key : Bool → ℕ → ℕ → Bool
by_key true found key = nat_le key found
by_key false found key = not (nat_le key found)

goes-at : (first : Bool) (key : ℕ → ℕ) (found : ℕ) (elements : List ℕ) (k g : ℕ) → slice_get elements k ≡ Some g
    → goes first (map key elements) found k ≡ by_key first found (key g)
goes-at true key found elements k g e = ap (goes_by true found) (get-made key elements k g e)
goes-at false key found elements k g e = ap (goes_by false found) (get-made key elements k g e) ∙ is_above (key g) found

pub kept-made : (first : Bool) (key : ℕ → ℕ) (found : ℕ) (make : ℕ → ℤ) (elements : List ℕ)
    → kept first (map key elements) found (map make elements) ≡ map make (filter (λ g. by_key first found (key g)) elements)
kept-made first key found make elements =
    filter_from-made (λ k. goes first (map key elements) found k) make (λ g. by_key first found (key g)) 0 elements
    (λ k g e. let here : 0 + k ≡ k = omega arith in ap (goes first (map key elements) found) here ∙ goes-at first key found elements k g e)

kept-lists : (first : Bool) (key : ℕ → ℕ) (found : ℕ) (axes : Axes) (elements : List ℕ)
    → kept_lists first (map key elements) found (coordinates_of axes elements)
    ≡ coordinates_of axes (filter (λ g. by_key first found (key g)) elements)
kept-lists first key found [] elements = refl
kept-lists first key found (axis ∷ axes) elements =
    ap (λ l. l ∷ kept_lists first (map key elements) found (coordinates_of axes elements))
    (kept-made first key found (coordinate axis) elements)
    ∙ ap (λ l. map (coordinate axis) (filter (λ g. by_key first found (key g)) elements) ∷ l) (kept-lists first key found axes elements)

more_than_one : (p : ℕ) → nat_lt 1 p ≡ true → 2 ≤ p
more_than_one p e = grind (arith, nat_tests)

not_one : (p : ℕ) → nat_lt 1 p ≡ true → nat_le p 1 ≡ false
not_one p e = grind (arith, nat_tests)

just_one : (p : ℕ) → nat_lt 1 p ≡ false → nat_le p 1 ≡ true
just_one p e = grind (arith, nat_tests)

-- ---- one region

-- what is to be known of a region that is cut
pub record IsCuttable (plan : BisectPlan) (region : Region) : Type 0 where
  pub are : AreSome plan.count region.elements
  pub all : AllByRecursion IsElement region.elements
  pub enough : region.parts ≤ length region.elements
  pub first : region.first + region.parts ≤ 64

module _ (plan : BisectPlan) (signed : AreSigned plan.axes) (few : plan.count ≤ 2 ^ 20) (p : ℕ) where
  abbrev found_of : Region → ℕ
  found_of region = found_in plan.axes region 84

  -- a node's own elements that go to a half by their keys are its own of that half
  module _ (region : Region) (h : IsCuttable plan region) (two : 2 ≤ region.parts) where
    abbrev key : ℕ → ℕ
    key g = key_in (cut_axis plan.axes region) g

    own-first : filter (λ g. by_key true (found_of region) (key g)) (owned plan p region.elements) ≡ owned plan p
        (first_half plan.axes region).elements
    own-first =
        filter-swap (λ g. by_key true (found_of region) (key g)) (λ g. owner_by_block plan g == p) region.elements
        ∙ ap (filter (λ g. owner_by_block plan g == p))
        (filter-agree (λ g. by_key true (found_of region) (key g)) (goes_first plan.axes region) region.elements
        (all-weaker IsElement (λ g. by_key true (found_of region) (key g) ≡ goes_first plan.axes region g) region.elements
        (λ g is. sym (keys_cut plan.axes plan.count region g signed few h.are is two h.enough)) h.all))

    own-second : filter (λ g. by_key false (found_of region) (key g)) (owned plan p region.elements) ≡ owned plan p
        (second_half plan.axes region).elements
    own-second =
        filter-swap (λ g. by_key false (found_of region) (key g)) (λ g. owner_by_block plan g == p) region.elements
        ∙ ap (filter (λ g. owner_by_block plan g == p))
        (filter-agree (λ g. by_key false (found_of region) (key g)) (λ g. not (goes_first plan.axes region g)) region.elements
        (all-weaker IsElement (λ g. by_key false (found_of region) (key g) ≡ not (goes_first plan.axes region g)) region.elements
        (λ g is. ap not (sym (keys_cut plan.axes plan.count region g signed few h.are is two h.enough))) h.all))

    first-is : first_piece (cut_of plan p region) (found_of region) (piece_of plan p region) ≡ piece_of plan p (first_half plan.axes region)
    first-is =
        let own = owned plan p region.elements in
        let sizes = halves_have_sizes plan.axes plan.count region signed few h.are two h.enough in
        let make = λ (size : ℕ) (elements : List ℤ) (coordinates : List (List ℤ)). let piece : Piece = record {
          first = region.first;
          parts = region.parts / 2;
          size = size;
          elements = elements;
          coordinates = coordinates;
        } in piece in
        ap (λ n. make n (kept true (map key own) (found_of region) (map pos own)) (kept_lists true (map key own) (found_of region)
        (coordinates_of plan.axes own))) (sym sizes.0)
        ∙ ap (λ l. make (length (first_half plan.axes region).elements) l (kept_lists true (map key own) (found_of region)
        (coordinates_of plan.axes own)))
        (kept-made true key (found_of region) pos own ∙ ap (map pos) own-first)
        ∙ ap (λ l. make (length (first_half plan.axes region).elements) (map pos (owned plan p (first_half plan.axes region).elements)) l)
        (kept-lists true key (found_of region) plan.axes own ∙ ap (coordinates_of plan.axes) own-first)

    second-is : second_piece (cut_of plan p region) (found_of region) (piece_of plan p region) ≡ piece_of plan p
        (second_half plan.axes region)
    second-is =
        let own = owned plan p region.elements in
        let sizes = halves_have_sizes plan.axes plan.count region signed few h.are two h.enough in
        let small : min (region.first + region.parts / 2) (2 ^ 32 - 1) ≡ region.first + region.parts / 2 = omega (arith, h.first) in
        let make = λ (first size : ℕ) (elements : List ℤ) (coordinates : List (List ℤ)). let piece : Piece = record {
          first = first;
          parts = region.parts - region.parts / 2;
          size = size;
          elements = elements;
          coordinates = coordinates;
        } in piece in
        let rest = length region.elements - cut_size region in
        let one = region.first + region.parts / 2 in
        let half = second_half plan.axes region in
        ap (λ n. make n rest (kept false (map key own) (found_of region) (map pos own)) (kept_lists false (map key own) (found_of region)
        (coordinates_of plan.axes own))) small
        ∙ ap (λ n. make one n (kept false (map key own) (found_of region) (map pos own)) (kept_lists false (map key own) (found_of region)
        (coordinates_of plan.axes own))) (sym sizes.1)
        ∙ ap (λ l. make one (length half.elements) l (kept_lists false (map key own) (found_of region) (coordinates_of plan.axes own)))
        (kept-made false key (found_of region) pos own ∙ ap (map pos) own-second)
        ∙ ap (λ l. make one (length half.elements) (map pos (owned plan p half.elements)) l)
        (kept-lists false key (found_of region) plan.axes own ∙ ap (coordinates_of plan.axes) own-second)

  -- ---- all regions

  abbrev cut_ones : List Region → List Region
  cut_ones regions = filter (λ region. nat_lt 1 region.parts) regions

  closed_or_cut : (region : Region) (b : Bool) → nat_lt 1 region.parts ≡ b → halves plan.axes region
      ≡ cond b (first_half plan.axes region ∷ second_half plan.axes region ∷ []) (region ∷ [])
  closed_or_cut region true e =
      let no : nat_le region.parts 1 ≡ false = not_one region.parts e in
      ap (λ b. cond b (region ∷ []) (first_half plan.axes region ∷ second_half plan.axes region ∷ [])) no
  closed_or_cut region false e =
      let one : nat_le region.parts 1 ≡ true = just_one region.parts e in
      ap (λ b. cond b (region ∷ []) (first_half plan.axes region ∷ second_half plan.axes region ∷ [])) one

  module _ (cuts : List Cut) (found : List ℕ) where
    abbrev HaveFrom : ℕ → List Region → Type 0
    HaveFrom at regions = (drop at cuts ≡ map (cut_of plan p) regions) × (drop at found ≡ map found_of regions)

    pub pieces-are : (at : ℕ) (regions : List Region) → AllByRecursion (IsCuttable plan) regions → HaveFrom at (cut_ones regions)
        → cut_pieces cuts found at (map (piece_of plan p) regions) ≡ map (piece_of plan p) (flat_map (halves plan.axes) regions)
    pieces-are at [] all has = refl
    pieces-are at (region ∷ regions) all has = by (nat_lt 1 region.parts) refl (λ n h. pieces-are n regions all.1 h) has
      where
        pieces : List Piece
        pieces = map (piece_of plan p) regions

        next : List Region
        next = flat_map (halves plan.axes) regions

        by : (b : Bool) → nat_lt 1 region.parts ≡ b → ((n : ℕ) → HaveFrom n (cut_ones regions) → cut_pieces cuts found n pieces
            ≡ map (piece_of plan p) next)
            → HaveFrom at (cond b (region ∷ cut_ones regions) (cut_ones regions))
            → cond b
            (first_piece (cut_or_none cuts at) (found_or_none found at) (piece_of plan p region)
            ∷ second_piece (cut_or_none cuts at) (found_or_none found at) (piece_of plan p region)
            ∷ cut_pieces cuts found (at + 1) pieces)
            (piece_of plan p region ∷ cut_pieces cuts found at pieces)
            ≡ map (piece_of plan p) (halves plan.axes region ++ next)
        by true e rest has =
            let two : 2 ≤ region.parts = more_than_one region.parts e in
            let cut : cut_or_none cuts at ≡ cut_of plan p region = ap (λ o. unwrap_or o no_cut) (get-first at cuts (cut_of plan p region)
            (map (cut_of plan p) (cut_ones regions)) has.0) in
            let key : found_or_none found at ≡ found_of region =
            ap (λ o. unwrap_or o 0) (get-first at found (found_of region) (map found_of (cut_ones regions)) has.1) in
            ap (λ c. first_piece c (found_or_none found at) (piece_of plan p region) ∷ second_piece c (found_or_none found at)
            (piece_of plan p region) ∷ cut_pieces cuts found (at + 1) pieces) cut
            ∙ ap (λ f. first_piece (cut_of plan p region) f (piece_of plan p region) ∷ second_piece (cut_of plan p region) f
            (piece_of plan p region) ∷ cut_pieces cuts found (at + 1) pieces) key
            ∙ ap (λ x. x ∷ second_piece (cut_of plan p region) (found_of region) (piece_of plan p region) ∷ cut_pieces cuts found
            (at + 1) pieces) (first-is region all.0 two)
            ∙ ap (λ x. piece_of plan p (first_half plan.axes region) ∷ x ∷ cut_pieces cuts found (at + 1) pieces)
            (second-is region all.0 two)
            ∙ ap (λ l. piece_of plan p (first_half plan.axes region) ∷ piece_of plan p (second_half plan.axes region) ∷ l)
            (rest (at + 1) (
              drop-first at cuts (cut_of plan p region) (map (cut_of plan p) (cut_ones regions)) has.0,
              drop-first at found (found_of region) (map found_of (cut_ones regions)) has.1,
            ))
            ∙ sym (ap (λ l. map (piece_of plan p) (l ++ next)) (closed_or_cut region true e))
        by false e rest has = ap (λ l. piece_of plan p region ∷ l) (rest at has)
            ∙ sym (ap (λ l. map (piece_of plan p) (l ++ next)) (closed_or_cut region false e))
