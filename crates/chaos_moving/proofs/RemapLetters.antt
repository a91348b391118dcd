-- The letters of a remapping, and what is placed of them.
use Rattle.std.proofs.Common.{◌≡◌, refl, ℕ, suc, ◌+◌, ◌<◌, List, ◌∷◌, length, map, filter, true, ◌==◌, ◌&&◌, ap, sym, ◌∙◌, arith, zero-add}
use Rattle.std.specs.Prelude.{ℤ, pos}
use Rattle.std.specs.List.{flat_map, range_with_len}
use Rattle.std.specs.Option.{option_map}
use Rattle.std.proofs.lemmas.Bool.Decides.{nat_tests}
use Rattle.std.proofs.lemmas.List.Folds.{flat_map-map}
use Rattle.std.proofs.lemmas.Option.{slice_get-map}
use Rattle.std.specs.Prelude.{slice_get, Some, unwrap_or}
use Rattle.fd_words.specs.Lists.{list_at}
use Rattle.fd_words.specs.declared.place.Place.{Place}
use Rattle.chaos_dist.specs.Counting.{below, up_to}
use Rattle.chaos_dist.specs.Owners.{owner_in, elements_on}
use Rattle.fd_program.specs.Layouts.{Scene}
use Rattle.fd_program.specs.Places.{value_on, part_of, decomposition_of}
use Rattle.chaos_remap.specs.Composition.{numbers_on, parts_on, letter_to}
use Rattle.chaos_remap.specs.Remapping.{number_at, owner_or_first, new_owner, packed_row, packed_rows, planned}
use Rattle.chaos_remap.specs.Remapped.{remapped}
use Rattle.chaos_remap.specs.declared.place.Remapped.{Remapped}
use Rattle.list_laws.specs.Tests.{same_when}
use Rattle.chaos_remap.proofs.Composition.{whole_row, arrays_stay, goes_to, row_at}
use Rattle.chaos_remap.proofs.Families.{by_node, filter-both, flat_map-places, map-same}
use Rattle.plan_run.specs.Held.{place_in}
use Rattle.plan_run.specs.Phases.{arrays_in, remap_row, remap_rows}
use Rattle.plan_run.specs.declared.stage.Stage.TheVariants as stage
use Rattle.chaos_moving.specs.declared.share.Share.{Share}
use Rattle.chaos_moving.specs.IsMoving.{HasShare, HasPart, parts_by, lists_moved, taken_in}
use Rattle.chaos_moving.proofs.Lists.{map_twice, map_filtered, length-mapped}

-- ---- one letter

-- the old local addresses of the elements that go to q
abbrev going : List ℕ → List ℕ → ℕ → ℕ → List ℤ
going old new p q = map pos (filter (λ k. new_owner (map (place_in new) (elements_on old p)) k == q)
    (range_with_len 0 (length (map (place_in new) (elements_on old p)))))

letter_is : (arrays : List (ℕ → ℤ)) (old new : List ℕ) (p q : ℕ) → packed_rows (numbers_on old p) (parts_on arrays old p)
    (going old new p q)
    ≡ flat_map (whole_row arrays) (filter (λ g. (owner_in old g == p) && (owner_in new g == q)) (up_to (length old)))
letter_is arrays old new p q =
    let es = elements_on old p in
    let pack = packed_row (numbers_on old p) (parts_on arrays old p) in
    let to = λ (k : ℕ). new_owner (map (place_in new) es) k == q in
    let arrives = λ (g : ℕ). owner_in new g == q in
    flat_map-map pack pos (filter to (range_with_len 0 (length (map (place_in new) es))))
    ∙ ap (λ n. flat_map (λ k. pack (pos k)) (filter to (range_with_len 0 n))) (length-mapped (place_in new) es)
    ∙ flat_map-places (λ k. pack (pos k)) (whole_row arrays) to arrives 0 es
    (λ k g e. ap (λ m. pack (pos m)) (zero-add k) ∙ row_at arrays es k g e)
    (λ k g e. ap to (zero-add k) ∙ ap (λ o. o == q) (goes_to (place_in new) es k g e))
    ∙ ap (flat_map (whole_row arrays)) (filter-both (λ g. owner_in old g == p) arrives (up_to (length old)))

-- ---- the arrays of the decomposition

-- each as its value at an element
abbrev values_in : Scene → List (List ℤ) → ℕ → List (ℕ → ℤ)
values_in s store d = map (value_on s.checked.arrays store) (arrays_in s.checked d)

rows_are : (s : Scene) (store : List (List ℤ)) (d : ℕ) (es : List ℕ) → flat_map (whole_row (values_in s store d)) es
    ≡ flat_map (remap_row s.checked store d) es
rows_are s store d es =
    let same : (e : ℕ) → whole_row (values_in s store d) e ≡ remap_row s.checked store d e =
    λ e. ap (λ l. pos e ∷ l) (map_twice (λ (value : ℕ → ℤ). value e) (value_on s.checked.arrays store) (arrays_in s.checked d)) in
    ap (λ (row : ℕ → List ℤ). flat_map row es) (λ i e. same e i)

values_parts : (s : Scene) (store : List (List ℤ)) (d : ℕ) (owners : List ℕ) (p : ℕ) → parts_on (values_in s store d) owners p
    ≡ parts_by s store d owners p
values_parts s store d owners p = map_twice (λ (value : ℕ → ℤ). map value (elements_on owners p)) (value_on s.checked.arrays store)
    (arrays_in s.checked d)

-- their local parts, whatever the owners of other decompositions
pub parts_are : (s : Scene) (owners : List (List ℕ)) (store : List (List ℤ)) (d : ℕ) (new : List ℕ) (p : ℕ) → list_at owners d ≡ new
    → map (part_of s.checked.arrays owners store p) (arrays_in s.checked d) ≡ parts_by s store d new p
parts_are s owners store d new p is =
    map_filtered (part_of s.checked.arrays owners store p) (λ array. map (value_on s.checked.arrays store array) (elements_on new p))
    (λ array. decomposition_of s.checked.arrays array == d) (below (length s.checked.arrays))
    (λ array e. ap (λ (o : List ℕ). map (value_on s.checked.arrays store array) (elements_on o p))
    (ap (list_at owners) (same_when (decomposition_of s.checked.arrays array) d e) ∙ is))

-- ---- all nodes

module _ (share : Share) (s : Scene) (owners : List (List ℕ)) (store : List (List ℤ)) (new : List ℕ) (has : HasShare share s owners store)
  where
    abbrev d : ℕ
    d = share.decomposition

    abbrev old : List ℕ
    old = list_at owners d

    letters_are : (p q : ℕ) → packed_rows (numbers_on old p) (parts_on (values_in s store d) old p) (going old new p q)
        ≡ remap_rows s.checked store d old new p q
    letters_are p q = letter_is (values_in s store d) old new p q
        ∙ rows_are s store d (filter (λ g. (owner_in old g == p) && (owner_in new g == q)) (up_to (length old)))

    pieces_are : share.pieces ≡ parts_on (values_in s store d) old share.me
    pieces_are = has.parts ∙ parts_are s owners store d old share.me refl ∙ sym (values_parts s store d old share.me)

    pub remap_sent : (places : List Place) → places ≡ map (place_in new) (elements_on old share.me)
        → map (packed_rows share.elements share.pieces) (planned share.nodes places) ≡ lists_moved s owners store d new stage.Remap share.me
    remap_sent places are =
        ap (λ l. map (packed_rows l share.pieces) (planned share.nodes places)) has.mine
        ∙ ap (λ (l : List (List ℤ)). map (packed_rows (numbers_on old share.me) l) (planned share.nodes places)) pieces_are
        ∙ ap (λ n. map (packed_rows (numbers_on old share.me) (parts_on (values_in s store d) old share.me)) (planned n places)) has.count
        ∙ ap (λ (l : List Place). map (packed_rows (numbers_on old share.me) (parts_on (values_in s store d) old share.me))
        (planned s.nodes l)) are
        ∙ map_twice (packed_rows (numbers_on old share.me) (parts_on (values_in s store d) old share.me)) (going old new share.me)
        (below s.nodes)
        ∙ ap (λ (letter : ℕ → List ℤ). map letter (below s.nodes)) (λ i q. letters_are share.me q i)

    pub remap_placed : (taken : List (List ℤ)) → share.me < s.nodes → length old ≡ length new
        → taken ≡ taken_in s owners store d new stage.Remap share.me
        → HasPart (remapped (length share.pieces + 1) taken) s store d new share.me
    remap_placed taken there size is =
        let arrays = values_in s store d in
        let width : length share.pieces + 1 ≡ suc (length arrays) =
        ap (λ n. n + 1) (ap (λ l. length l) pieces_are ∙ length-mapped (λ (value : ℕ → ℤ). map value (elements_on old share.me)) arrays)
        ∙ omega arith in
        let sent : (q : ℕ) → remap_rows s.checked store d old new q share.me ≡ letter_to s.nodes arrays old new share.me q =
        λ q. sym (letters_are q share.me)
        ∙ ap (packed_rows (numbers_on old q) (parts_on arrays old q)) (sym (by_node (going old new q) share.me s.nodes there)) in
        let all : remapped (length share.pieces + 1) taken ≡ record {
          elements = numbers_on new share.me;
          pieces = parts_on arrays new share.me;
        } =
        ap (λ n. remapped n taken) width ∙ ap (λ (l : List (List ℤ)). remapped (suc (length arrays)) l) (is
        ∙ ap (λ (letter : ℕ → List ℤ). map letter (below s.nodes)) (λ i q. sent q i))
        ∙ arrays_stay s.nodes arrays old new share.me there size has.owned in
        record {
          mine = ap (λ (r : Remapped). r.elements) all;
          parts = ap (λ (r : Remapped). r.pieces) all ∙ values_parts s store d new share.me;
        }
