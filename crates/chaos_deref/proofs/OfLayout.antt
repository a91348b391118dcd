-- Asking the pages of a layout.
use Rattle.std.proofs.Common.{◌≡◌, refl, ℕ, ◌*◌, ◌-◌, ◌≤◌, ◌<◌, List, length, take, map, get_or, ap, sym, subst, ◌∙◌, arith}
use Rattle.std.specs.Prelude.{ℤ, pos, negsuc, All, unwrap_or, unsigned_abs, ◌==◌}
use Rattle.std.proofs.lemmas.Nat.{div_below}
use Rattle.std.proofs.lemmas.Int.{ints}
use Rattle.std.proofs.lemmas.Option.{unwrap_or-slice_get}
use Rattle.std.proofs.lemmas.List.{ext_get_or, get_or-map, length-map, length-take}
use Rattle.std.proofs.lemmas.List.Sums.{count_by-le-length}
use Rattle.chaos_dist.specs.Layout.{divided_up}
use Rattle.chaos_dist.specs.LayoutLaws.{divided_up-is, divided_up-enough}
use Rattle.chaos_dist.specs.Owners.{owner_in, local_in, page_of}
use Rattle.chaos_table.specs.declared.pages.Pages.{Pages}
use Rattle.chaos_table.specs.Pages.{page_given, place_in}
use Rattle.chaos_table.specs.Laws.{CountsBefore}
use Rattle.chaos_table.proofs.OfLayout.{counts-of_layout, page-of_layout}
use Rattle.chaos_deref.specs.Asking.{IsElement, page_for, nowhere, place_looked_up, joined}
use Rattle.chaos_deref.specs.Laws.{IsSent, all_answers, IsSpread, AskingGivesLayout}
use Rattle.chaos_deref.proofs.Composed.{asking-gives_places}

-- a page is one of the nodes
pub page_low : (extent nodes g : ℕ) → 1 ≤ nodes → 1 ≤ g → g ≤ extent → page_of extent nodes g < nodes
page_low extent nodes g some from_one within =
    let w = divided_up extent nodes in
    let elements : 1 ≤ extent = omega arith in
    let width : 1 ≤ w = omega (arith, divided_up-is extent nodes elements some) in
    let enough : extent ≤ nodes * w = divided_up-enough extent nodes some in
    let low : g - 1 < nodes * w = omega (arith, enough, from_one, within) in
    div_below (g - 1) w nodes width low

module _ (nodes : ℕ) (owners : List ℕ) (pairs : ℕ → List (List ℤ)) (counts : List (List ℤ)) (spread : IsSpread nodes owners pairs counts)
  where
    abbrev pages : ℕ → Pages
    pages page = page_given (length owners) nodes page (pairs page) counts

    counts_before : (page : ℕ) → page < nodes → CountsBefore nodes page owners counts
    counts_before page low = λ before less.
        let small : before < nodes = omega arith in
        spread.counted before small ∙ counts-of_layout nodes before owners (pairs before) (spread.covered before small)

    told : (g : ℕ) → 1 ≤ g → g ≤ length owners → place_looked_up (pages (page_of (length owners) nodes g)) (pos g) ≡ place_in owners g
    told g from_one within =
        let page = page_of (length owners) nodes g in
        let low = page_low (length owners) nodes g spread.some from_one within in
        ap (λ o. unwrap_or o nowhere) (page-of_layout nodes page owners (pairs page) counts (spread.covered page low)
        (counts_before page low) g from_one within refl)

    fits : (g : ℕ) → 1 ≤ g → g ≤ length owners → IsSent (place_in owners g)
    fits g from_one within =
        let first : 0 < nodes = omega (arith, spread.some) in
        let there : g - 1 < length owners = omega arith in
        let node : owner_in owners g < nodes = subst (λ o. o < nodes) (sym (unwrap_or-slice_get owners (g - 1) 0))
        ((spread.covered 0 first).below (g - 1) 0 there) in
        let local : local_in owners g ≤ length (take (g - 1) owners) = count_by-le-length (λ o. o == owner_in owners g)
        (take (g - 1) owners) in
        (omega (arith, node, spread.few), omega (arith, local, length-take (g - 1) owners, spread.short, there))

    abbrev IsTold : ℤ → Type 0
    IsTold v = IsSent (place_looked_up (pages (page_for (length owners) nodes v)) v) × (page_for (length owners) nodes v < nodes)
        × (place_looked_up (pages (page_for (length owners) nodes v)) v ≡ place_in owners (unsigned_abs v))

    each : (v : ℤ) → IsElement (length owners) v → IsTold v
    each (pos g) element =
        let from_one : 1 ≤ g = omega (arith, ints, element.0) in
        let within : g ≤ length owners = omega (arith, ints, element.1) in (
          subst IsSent (sym (told g from_one within))
              (fits g from_one within),
          page_low (length owners) nodes g spread.some from_one within,
          told g from_one within,
        )
    each (negsuc n) element = absurd (omega (arith, ints, element.0))

    of_layout : (wanted : List ℤ) → All (IsElement (length owners)) wanted
        → joined (length owners) nodes wanted (all_answers (length owners) nodes pages wanted) ≡ map (λ v. place_in owners (unsigned_abs v))
        wanted
    of_layout wanted elements =
        let on_page = λ (v : ℤ). place_looked_up (pages (page_for (length owners) nodes v)) v in
        let place = λ (v : ℤ). place_in owners (unsigned_abs v) in
        let one : (i : ℕ) (d : ℤ) → i < length wanted → IsTold (get_or wanted i d) = λ i d h. each (get_or wanted i d) (elements i d h) in
        asking-gives_places (length owners) nodes pages wanted (λ i d h. (one i d h).1) (λ i d h. (one i d h).0)
        ∙ ext_get_or nowhere (map on_page wanted) (map place wanted) (length-map wanted on_page ∙ sym (length-map wanted place))
        (λ i under.
        let here : i < length wanted = subst (λ k. i < k) (length-map wanted on_page) under in
        get_or-map on_page wanted i (pos 0) nowhere here ∙ (one i (pos 0) here).2 ∙ sym (get_or-map place wanted i (pos 0) nowhere here))

pub asking-gives_layout : AskingGivesLayout
asking-gives_layout nodes owners pairs counts wanted spread elements = of_layout nodes owners pairs counts spread wanted elements
