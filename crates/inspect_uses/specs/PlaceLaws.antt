-- Where a formula tells a place, it is that under the whole layout; and every element that a reference reaches has one of the nodes.
use Rattle.std.specs.Prelude.{◌≡◌, ℕ, ◌<◌, ◌≤◌, ◌-◌, ◌==◌, true, List, length, Some}
use Rattle.std.proofs.Common.{ap, sym, ◌∙◌, subst, arith}
use Rattle.std.proofs.lemmas.Option.{unwrap_or-slice_get, none-some, same_Some}
use Rattle.std.proofs.lemmas.List.Sums.{count_by-le-length}
use Rattle.fd_words.specs.Lists.{list_at}
use Rattle.fd_words.specs.declared.place.Place.{Place}
use Rattle.chaos_dist.specs.Owners.{owner_in, local_in, length_in}
use Rattle.chaos_dist.specs.OwnersLaws.{local_in-below}
use Rattle.chaos_dist.specs.declared.step_form.StepForm.{StepForm}
use Rattle.chaos_dist.specs.declared.step_form.StepForm.TheVariants.{Regular, Map}
use Rattle.fd_program.specs.Homes.{owner_met}
use Rattle.fd_program.specs.Places.{decomposition_of}
use Rattle.fd_program.specs.Uses.{is_met}
use Rattle.fd_program.specs.declared.loop_facts.LoopFacts.{LoopFacts}
use Rattle.fd_program.specs.declared.loop_use.Use.{Use}
use Rattle.fd_program.specs.Met.{decomposition_met, layout_for, local_met, stands_met}
use Rattle.inspect_uses.specs.Accepted.{IsAccepted, AreOwners, IsDealtBy}
use Rattle.inspect_uses.specs.Reached.{place_by_form, place_reached, place_met}
use Rattle.inspect_uses.specs.Standing.{standing, natural_bounds}

abbrev pub FormulaTells : Type 0
FormulaTells =
    (f : LoopFacts) (owners : List (List ℕ)) (u : Use) (place : Place) → IsAccepted f → AreOwners f owners → is_met f.arrays u ≡ true
    → place_reached f u ≡ Some place → place ≡ place_met f owners u

abbrev pub EachIsOwned : Type 0
EachIsOwned =
    (f : LoopFacts) (owners : List (List ℕ)) (u : Use) → IsAccepted f → AreOwners f owners → is_met f.arrays u ≡ true
    → owner_met f owners u < f.nodes

abbrev at : List ℕ → ℕ → Place
at owners g = record { owner = owner_in owners g; local = local_in owners g }

by_form : (form : StepForm) (extent nodes g : ℕ) (owners : List ℕ) (place : Place) → IsDealtBy form extent nodes owners
    → place_by_form form extent nodes g ≡ Some place → place ≡ at owners g
by_form (Regular shape) extent nodes g owners place dealt told = sym (same_Some _ _ told) ∙ ap (λ o. at o g) (sym dealt)
by_form (Map array) extent nodes g owners place dealt told = absurd (none-some place told)

pub formula_tells : FormulaTells
formula_tells f owners u place accepted owned met told =
    let s = standing f accepted u met in
    by_form (layout_for f u.array).form (layout_for f u.array).extent f.nodes (stands_met f u) (list_at owners (decomposition_met f u))
    place
    (owned (decomposition_of f.arrays u.array) s.decomposition).form told

pub each_is_owned : EachIsOwned
each_is_owned f owners u accepted owned met =
    let s = standing f accepted u met in
    let o = owned (decomposition_of f.arrays u.array) s.decomposition in
    let bounds = natural_bounds _ (layout_for f u.array).extent s.first s.last in
    let list : List ℕ = list_at owners (decomposition_met f u) in
    let less : stands_met f u - 1 < length list = omega (arith, o.elements, bounds.0, bounds.1) in
    subst (λ n. n < f.nodes) (sym (unwrap_or-slice_get list (stands_met f u - 1) 0)) (o.each (stands_met f u - 1) 0 less)

-- a place that a letter can hold
pub local_small : (f : LoopFacts) (owners : List (List ℕ)) (u : Use) → IsAccepted f → AreOwners f owners → is_met f.arrays u ≡ true
    → local_met f owners u < 9223372036854775808
local_small f owners u accepted owned met =
    let s = standing f accepted u met in
    let o = owned (decomposition_of f.arrays u.array) s.decomposition in
    let bounds = natural_bounds _ (layout_for f u.array).extent s.first s.last in
    let list : List ℕ = list_at owners (decomposition_met f u) in
    let last : stands_met f u ≤ length list = omega (arith, o.elements, bounds.1) in
    let local : local_met f owners u < length_in list (owner_met f owners u) = local_in-below list (stands_met f u) bounds.0 last in
    let few : length_in list (owner_met f owners u) ≤ length list = count_by-le-length (λ (n : ℕ). n == owner_met f owners u) list in
    omega (arith, local, few, o.elements, s.most)
