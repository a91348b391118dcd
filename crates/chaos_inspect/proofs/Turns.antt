-- References under a map take the places that were told, in order.
use Rattle.std.proofs.Common.{◌≡◌, ℕ, ◌+◌, Bool, true, false, cond, List, [], ◌∷◌, ◌++◌, map, filter, drop, Some, None, refl, ap, sym, ◌∙◌}
use Rattle.std.proofs.Common.{arith, append_assoc}
use Rattle.std.specs.Prelude.{◌&&◌, count_by, slice_get, unwrap_or}
use Rattle.std.proofs.lemmas.List.{drop-drop}
use Rattle.std.proofs.lemmas.List.Sums.{sum_by-cons}
use Rattle.fd_words.specs.declared.place.Place.{Place}
use Rattle.chaos_dist.specs.declared.step_form.StepForm.{StepForm}
use Rattle.chaos_dist.specs.declared.step_form.StepForm.TheVariants.{Regular, Map}
use Rattle.fd_program.specs.Uses.{is_met}
use Rattle.fd_program.specs.declared.loop_facts.LoopFacts.{LoopFacts}
use Rattle.fd_program.specs.declared.loop_use.Use.{Use}
use Rattle.plan_loop.specs.LoopLetters.{is_for}
use Rattle.fd_program.specs.Met.{is_map, layout_for, stands_met}
use Rattle.plan_loop.specs.declared.loop_phase.Asking.{Asking}
use Rattle.inspect_uses.specs.Accepted.{AreOwners, IsAccepted}
use Rattle.inspect_uses.specs.PlaceLaws.{formula_tells}
use Rattle.inspect_uses.specs.Reached.{place_by_form, place_met}
use Rattle.chaos_inspect.specs.Walking.{is_asked, is_reached, nowhere, spot_of, spots_told, told_behind}
use Rattle.chaos_inspect.specs.Met.{spot_met}
use Rattle.chaos_inspect.specs.declared.spot.Spot.{Spot}

-- ---- one after another

-- as many as are asked for are behind
pub behind_more : (f : LoopFacts) (asking : Asking) (told : List Place) (u : Use) (us : List Use)
    → drop (count_by (is_asked f asking) (u ∷ us)) told ≡ drop (count_by (is_asked f asking) us) (told_behind f asking told u)
behind_more f asking told u us =
    ap (λ n. drop n told) (sum_by-cons (λ v. cond (is_asked f asking v) 1 0) u us)
    ∙ by (is_asked f asking u) (count_by (is_asked f asking) us)
  where
    by : (b : Bool) (n : ℕ) → drop (cond b 1 0 + n) told ≡ drop n (cond b (drop 1 told) told)
    by true n = sym (drop-drop n 1 told)
    by false n = let same : 0 + n ≡ n = omega arith in ap (λ k. drop k told) same

pub told_append : (f : LoopFacts) (asking : Asking) (told : List Place) (us vs : List Use)
    → spots_told f asking told (us ++ vs) ≡ spots_told f asking told us ++ spots_told f asking
    (drop (count_by (is_asked f asking) us) told) vs
told_append f asking told [] vs = refl
told_append f asking told (u ∷ us) vs =
    let here = cond (is_reached f asking u) (spot_of f told u ∷ []) [] in
    let next = told_behind f asking told u in
    ap (λ l. here ++ l) (told_append f asking next us vs)
    ∙ sym (append_assoc here (spots_told f asking next us) (spots_told f asking (drop (count_by (is_asked f asking) us) next) vs))
    ∙ ap (λ l. (here ++ spots_told f asking next us) ++ spots_told f asking l vs) (sym (behind_more f asking told u us))

-- ---- the places that were told

-- behind those of some references are the others
pub places_behind : (f : LoopFacts) (owners : List (List ℕ)) (asking : Asking) (us : List Use) (more : List Place)
    → drop (count_by (is_asked f asking) us) (map (place_met f owners) (filter (is_asked f asking) us) ++ more) ≡ more
places_behind f owners asking [] more = refl
places_behind f owners asking (u ∷ us) more =
    behind_more f asking (map (place_met f owners) (filter (is_asked f asking) (u ∷ us)) ++ more) u us
    ∙ by (is_asked f asking u) (places_behind f owners asking us more)
  where
    by : (b : Bool) → drop (count_by (is_asked f asking) us) (map (place_met f owners) (filter (is_asked f asking) us) ++ more) ≡ more
        → drop (count_by (is_asked f asking) us)
        (cond b (drop 1 (map (place_met f owners) (cond b (u ∷ filter (is_asked f asking) us) (filter (is_asked f asking) us)) ++ more))
        (map (place_met f owners) (cond b (u ∷ filter (is_asked f asking) us) (filter (is_asked f asking) us)) ++ more))
        ≡ more
    by true e = e
    by false e = e

-- where a formula tells no place
by_map : (form : StepForm) (extent nodes g : ℕ) → is_map form ≡ true → place_by_form form extent nodes g ≡ None
by_map (Regular shape) extent nodes g e = cc
by_map (Map array) extent nodes g e = refl

by_formula : (form : StepForm) (extent nodes g : ℕ) → is_map form ≡ false → (place : Place)
    × (place_by_form form extent nodes g ≡ Some place)
by_formula (Regular shape) extent nodes g e = (unwrap_or (place_by_form (Regular shape) extent nodes g) nowhere, refl)
by_formula (Map array) extent nodes g e = cc

module _ (f : LoopFacts) (owners : List (List ℕ)) (asking : Asking) (accepted : IsAccepted f) (owned : AreOwners f owners) where
  abbrev spot_at : Use → Place → Spot
  spot_at u p = record { owner = p.owner; array = u.array; local = p.local }

  told_by_map : (u : Use) (more : List Place) → is_map (layout_for f u.array).form ≡ true → spot_of f (place_met f owners u ∷ more) u
      ≡ spot_met f owners u
  told_by_map u more mapped =
      ap (λ o. spot_at u (unwrap_or o (place_met f owners u))) (by_map (layout_for f u.array).form (layout_for f u.array).extent f.nodes
      (stands_met f u) mapped)

  told_by_formula : (u : Use) (told : List Place) → is_met f.arrays u ≡ true → is_map (layout_for f u.array).form ≡ false
      → spot_of f told u ≡ spot_met f owners u
  told_by_formula u told met plain =
      let found = by_formula (layout_for f u.array).form (layout_for f u.array).extent f.nodes (stands_met f u) plain in
      ap (λ p. spot_at u (unwrap_or p (unwrap_or (slice_get told 0) nowhere))) found.1
      ∙ ap (spot_at u) (formula_tells f owners u found.0 accepted owned met found.1)

  -- with the places of those that are asked for, each is where it stands
  pub in_turn : (us : List Use) (more : List Place)
      → spots_told f asking (map (place_met f owners) (filter (is_asked f asking) us) ++ more) us ≡ map (spot_met f owners)
      (filter (is_reached f asking) us)
  in_turn [] more = refl
  in_turn (u ∷ us) more = by (is_for f asking u.number u.role u.plain) (is_met f.arrays u) (is_map (layout_for f u.array).form) refl refl
      (in_turn us more)
    where
      later : List Use
      later = filter (is_asked f asking) us

      by : (a b c : Bool) → is_met f.arrays u ≡ b → is_map (layout_for f u.array).form ≡ c
          → spots_told f asking (map (place_met f owners) later ++ more) us ≡ map (spot_met f owners) (filter (is_reached f asking) us)
          → cond (a && b) (spot_of f (map (place_met f owners) (cond (a && b && c) (u ∷ later) later) ++ more) u ∷ []) []
          ++ spots_told f asking (cond (a && b && c) (drop 1 (map (place_met f owners) (cond (a && b && c) (u ∷ later) later) ++ more))
          (map (place_met f owners) (cond (a && b && c) (u ∷ later) later) ++ more)) us
          ≡ map (spot_met f owners) (cond (a && b) (u ∷ filter (is_reached f asking) us) (filter (is_reached f asking) us))
      by true true true met m e =
          ap (λ s. s ∷ spots_told f asking (map (place_met f owners) later ++ more) us)
          (told_by_map u (map (place_met f owners) later ++ more) m)
          ∙ ap (λ l. spot_met f owners u ∷ l) e
      by true true false met m e =
          ap (λ s. s ∷ spots_told f asking (map (place_met f owners) later ++ more) us)
          (told_by_formula u (map (place_met f owners) later ++ more) met m)
          ∙ ap (λ l. spot_met f owners u ∷ l) e
      by true false c met m e = e
      by false b c met m e = e

-- ---- only those that the asking is for count

pub told_filtered : (f : LoopFacts) (asking : Asking) (told : List Place) (us : List Use)
    → spots_told f asking told us ≡ spots_told f asking told (filter (is_reached f asking) us)
told_filtered f asking told [] = refl
told_filtered f asking told (u ∷ us) =
    by (is_for f asking u.number u.role u.plain) (is_met f.arrays u) (is_map (layout_for f u.array).form) refl refl refl
    (λ t. told_filtered f asking t us)
  where
    by : (a b c : Bool) → is_for f asking u.number u.role u.plain ≡ a → is_met f.arrays u ≡ b → is_map (layout_for f u.array).form ≡ c
        → ((t : List Place) → spots_told f asking t us ≡ spots_told f asking t (filter (is_reached f asking) us))
        → cond (a && b) (spot_of f told u ∷ []) [] ++ spots_told f asking (cond (a && b && c) (drop 1 told) told) us
        ≡ spots_told f asking told (cond (a && b) (u ∷ filter (is_reached f asking) us) (filter (is_reached f asking) us))
    by true true c for met m rest =
        let kept = filter (is_reached f asking) us in
        ap (λ l. spot_of f told u ∷ l) (rest (cond c (drop 1 told) told))
        ∙ sym (ap (λ k. cond (k && is_met f.arrays u) (spot_of f told u ∷ []) [] ++ spots_told f asking
        (cond (k && is_met f.arrays u && is_map (layout_for f u.array).form) (drop 1 told) told) kept) for
        ∙ ap (λ k. cond k (spot_of f told u ∷ []) [] ++ spots_told f asking (cond (k && is_map (layout_for f u.array).form)
        (drop 1 told) told) kept) met
        ∙ ap (λ k. spot_of f told u ∷ spots_told f asking (cond k (drop 1 told) told) kept) m)
    by true false c for met m rest = rest told
    by false b c for met m rest = rest told

-- the references that are asked for are among those that the asking is for
pub asked_filtered : (f : LoopFacts) (asking : Asking) (us : List Use) → filter (is_asked f asking) us
    ≡ filter (λ u. is_map (layout_for f u.array).form) (filter (is_reached f asking) us)
asked_filtered f asking [] = refl
asked_filtered f asking (u ∷ us) = by (is_for f asking u.number u.role u.plain) (is_met f.arrays u) (asked_filtered f asking us)
  where
    mapped : List Use
    mapped = filter (λ v. is_map (layout_for f v.array).form) (filter (is_reached f asking) us)

    by : (a b : Bool) → filter (is_asked f asking) us ≡ filter (λ v. is_map (layout_for f v.array).form) (filter (is_reached f asking) us)
        → cond (a && b && is_map (layout_for f u.array).form) (u ∷ filter (is_asked f asking) us) (filter (is_asked f asking) us)
        ≡ filter (λ v. is_map (layout_for f v.array).form) (cond (a && b) (u ∷ filter (is_reached f asking) us)
        (filter (is_reached f asking) us))
    by true true e = ap (λ l. cond (is_map (layout_for f u.array).form) (u ∷ l) l) e
    by true false e = e
    by false b e = e
