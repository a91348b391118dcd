-- What a look at a page tells.
use Rattle.std.proofs.Common.{◌≡◌, refl, ℕ, ◌+◌, ◌-◌, ◌≤◌, ◌<◌, Bool, true, false, ◌==◌, cond, List, length, take}
use Rattle.std.proofs.Common.{count_by, ap, ◌∙◌, arith}
use Rattle.std.proofs.Common.{inl, inr}
use Rattle.std.specs.Prelude.{ℤ, Option, Some, None, ◌⊎◌, slice_get, unwrap_or, nat_le}
use Rattle.std.proofs.lemmas.Bool.Decides.{nat_tests}
use Rattle.std.proofs.lemmas.Option.{slice_get_past}
use Rattle.std.proofs.lemmas.List.FromFn.{length-map-range_with_len}
use Rattle.fd_words.specs.declared.place.Place.{Place}
use Rattle.chaos_dist.specs.Owners.{owner_in}
use Rattle.chaos_dist.specs.OwnersLaws.{get_range}
use Rattle.chaos_table.specs.Laws.{LookTells, LookTellsNone}
use Rattle.chaos_table.specs.Pages.{first_on, size_on, all_pairs, owner_by, owners_on, earlier, place_on, places_of, look_in}

found_if : (b : Bool) (o : Option Place) (p : Place) → b ≡ true → o ≡ Some p → cond b o None ≡ Some p
found_if true o p on is = is
found_if false o p on is = cc

-- the h-th place of a page is told at the h-th element
pub told : (before : ℕ → ℕ) (owners : List ℕ) (first g : ℕ) → first ≤ g → g < first + length owners
    → look_in (record { first = first; places = places_of before owners }) g ≡ Some (place_on before owners (1 + (g - first)))
told before owners first g low high =
    let on : nat_le first g ≡ true = grind (arith, nat_tests) in
    let within : g - first < length owners = omega arith in
    found_if (nat_le first g) (slice_get (places_of before owners) (g - first)) (place_on before owners (1 + (g - first))) on
    (get_range (place_on before owners) 1 (g - first) (length owners) within)

pub told_none : (before : ℕ → ℕ) (owners : List ℕ) (first g : ℕ) → (g < first) ⊎ (first + length owners ≤ g)
    → look_in (record { first = first; places = places_of before owners }) g ≡ None
told_none before owners first g (inl under) =
    let off : nat_le first g ≡ false = grind (arith, nat_tests) in
    ap (λ b. cond b (slice_get (places_of before owners) (g - first)) None) off
told_none before owners first g (inr over) =
    let past : length (places_of before owners) ≤ g - first =
    omega (arith, length-map-range_with_len (place_on before owners) 1 (length owners)) in
    ap (λ o. cond (nat_le first g) o None) (slice_get_past (places_of before owners) (g - first) past) ∙ either (nat_le first g)
  where
    either : (b : Bool) → ◌≡◌ {A = Option Place} (cond b None None) None
    either true = refl
    either false = refl

long : (extent nodes page : ℕ) (pairs : List (List ℤ)) → length (owners_on extent nodes page pairs) ≡ size_on extent nodes page
long extent nodes page pairs = length-map-range_with_len (owner_by nodes (all_pairs pairs)) (first_on extent nodes page)
    (size_on extent nodes page)

placed_at : (before : ℕ → ℕ) (owners : List ℕ) (k o : ℕ) → slice_get owners k ≡ Some o
    → place_on before owners (1 + k) ≡ record { owner = o; local = before o + count_by (λ x. x == o) (take k owners) }
placed_at before owners k o is =
    let back : 1 + k - 1 ≡ k = omega arith in
    let own : owner_in owners (1 + k) ≡ o = ap (λ j. unwrap_or (slice_get owners j) 0) back ∙ ap (λ x. unwrap_or x 0) is in
    let at : ℕ → ℕ → Place = λ x j. record { owner = x; local = before x + count_by (λ y. y == x) (take j owners) } in
    ap (λ x. at x (1 + k - 1)) own ∙ ap (at o) back

pub tells : LookTells
tells extent nodes page pairs counts g low high =
    let first = first_on extent nodes page in
    let owners = owners_on extent nodes page pairs in
    let within : g - first < size_on extent nodes page = omega arith in
    let at : first + (g - first) ≡ g = omega arith in
    let own : slice_get owners (g - first) ≡ Some (owner_by nodes (all_pairs pairs) g) =
    get_range (owner_by nodes (all_pairs pairs)) first (g - first) (size_on extent nodes page) within
    ∙ ap (λ h. Some (owner_by nodes (all_pairs pairs) h)) at in
    told (earlier extent counts page) owners first g low (omega (arith, long extent nodes page pairs))
    ∙ ap Some (placed_at (earlier extent counts page) owners (g - first) (owner_by nodes (all_pairs pairs) g) own)

pub tells_none : LookTellsNone
tells_none extent nodes page pairs counts g (inl under) = told_none (earlier extent counts page) (owners_on extent nodes page pairs)
    (first_on extent nodes page) g (inl under)
tells_none extent nodes page pairs counts g (inr over) =
    told_none (earlier extent counts page) (owners_on extent nodes page pairs) (first_on extent nodes page) g
    (inr (omega (arith, long extent nodes page pairs)))
