-- Places by formula or in order, and the needs of references one after another.
use Rattle.chaos_sched.specs.declared.need.Need.{Need}
use Rattle.std.proofs.Common.{append-nil, append_assoc, length-take, length-append, ◌≡◌, ℕ, zero, suc, ◌+◌, ◌-◌, ◌<◌, ◌≤◌, ◌^◌, Bool, true}
use Rattle.std.proofs.Common.{false, cond, ◌==◌, List, [], ◌∷◌, ◌++◌, length, map, take, get_or, filter, Option, Some, None, refl, ap, sym}
use Rattle.std.proofs.Common.{subst, ◌∙◌, arith, inl, inr, true≢false}
use Rattle.std.specs.Prelude.{count_by, slice_get, if◌then◌else◌}
use Rattle.std.proofs.lemmas.List.Elements.{filter-append}
use Rattle.std.proofs.lemmas.List.{take_more, map-append}
use Rattle.std.proofs.lemmas.List.Sums.{sum_by-cons}
use Rattle.std.proofs.lemmas.Option.{none-some, same_Some}
use Rattle.fd_words.specs.Lists.{list_at}
use Rattle.fd_words.specs.declared.place.Place.{Place}
use Rattle.chaos_dist.specs.Owners.{owner_in}
use Rattle.chaos_dist.specs.declared.step_form.StepForm.{StepForm}
use Rattle.chaos_dist.specs.declared.step_form.StepForm.TheVariants.{Regular, Map}
use Rattle.fd_program.specs.Met.{decomposition_met, stands_met, layout_for, is_map}
use Rattle.inspect_enter.specs.Needs.{need_of, needs_of}
use Rattle.inspect_enter.specs.Placed.{MayBeStamped, IsTold, is_mapped, placed_at}
use Rattle.inspect_enter.specs.declared.placed.Placed.{Placed}
use Rattle.inspect_uses.specs.Accepted.{IsAccepted, AreOwners}
use Rattle.inspect_uses.specs.PlaceLaws.{formula_tells}
use Rattle.inspect_uses.specs.Reached.{place_by_form, place_reached, place_met}
use Rattle.inspect_uses.specs.Standing.{standing, natural_bounds}
use Rattle.chaos_sched.specs.declared.local_ref.LocalRef.{LocalRef}
use Rattle.fd_program.specs.ListLaws.{Among}
use Rattle.fd_program.specs.declared.loop_facts.LoopFacts.{LoopFacts}
use Rattle.fd_program.specs.declared.loop_use.Use.{Use}

-- ---- local addresses are small

count_most : (p : ℕ → Bool) (n : ℕ) (xs : List ℕ) → count_by p (take n xs) ≤ n
count_most p zero xs = omega arith
count_most p (suc n) [] = omega arith
count_most p (suc n) (x ∷ xs) = let one = sum_by-cons (λ y. cond (p y) 1 0) x (take n xs) in by (p x) (count_most p n xs) one
  where
    by : (b : Bool) → count_by p (take n xs) ≤ n → count_by p (x ∷ take n xs) ≡ cond b 1 0 + count_by p (take n xs)
        → count_by p (x ∷ take n xs) ≤ suc n
    by true most e = omega (arith, most, e)
    by false most e = omega (arith, most, e)

pub small_local : (f : LoopFacts) (owners : List (List ℕ)) (u : Use) → IsAccepted f → MayBeStamped f u
    → (place_met f owners u).local < 2 ^ 63
small_local f owners u accepted kept =
    let s = standing f accepted u kept.met in
    let bounds = natural_bounds _ (layout_for f u.array).extent s.first s.last in
    let high : stands_met f u ≤ (layout_for f u.array).extent = bounds.1 in
    let most = s.most in
    let list : List ℕ = list_at owners (decomposition_met f u) in
    let few = count_most (λ o. o == owner_in list (stands_met f u)) (stands_met f u - 1) list in
    omega (arith, few, high, most)

-- ---- places in order

get_map : {A B : Type 0} (g : A → B) (xs : List A) (k : ℕ) (x : A) → slice_get xs k ≡ Some x → slice_get (map g xs) k ≡ Some (g x)
get_map g [] k x e = absurd (none-some x e)
get_map g (y ∷ xs) zero x e = ap (λ z. Some (g z)) (same_Some y x e)
get_map g (y ∷ xs) (suc k) x e = get_map g xs k x e

-- an element that passes stands behind those before it that pass
at_passing : {A : Type 0} (p : A → Bool) (xs : List A) (k : ℕ) (d : A) → k < length xs → p (get_or xs k d) ≡ true
    → slice_get (filter p xs) (length (filter p (take k xs))) ≡ Some (get_or xs k d)
at_passing p [] k d less e = absurd (omega arith)
at_passing p (x ∷ xs) zero d less e = ap (λ b. slice_get (cond b (x ∷ filter p xs) (filter p xs)) 0) e
at_passing p (x ∷ xs) (suc k) d less e = by (p x) (at_passing p xs k d (omega arith) e)
  where
    by : (b : Bool) → slice_get (filter p xs) (length (filter p (take k xs))) ≡ Some (get_or xs k d)
        → slice_get (cond b (x ∷ filter p xs) (filter p xs)) (length (cond b (x ∷ filter p (take k xs)) (filter p (take k xs))))
        ≡ Some (get_or xs k d)
    by true rest = rest
    by false rest = rest

pub count_more : {A : Type 0} (p : A → Bool) (xs : List A) (k : ℕ) (d : A) (n : ℕ) → k < length xs → n ≡ length (filter p (take k xs))
    → n + (if p (get_or xs k d) then 1 else 0) ≡ length (filter p (take (k + 1) xs))
count_more p xs k d n less is =
    ap (λ m. m + (if p (get_or xs k d) then 1 else 0)) is ∙ by (p (get_or xs k d)) refl
    ∙ sym (ap length (ap (filter p) (take_more xs k d less) ∙ filter-append p (take k xs) (get_or xs k d ∷ [])))
  where
    by : (b : Bool) → p (get_or xs k d) ≡ b → length (filter p (take k xs)) + (if b then 1 else 0)
        ≡ length (filter p (take k xs) ++ filter p (get_or xs k d ∷ []))
    by true e =
        let long = length-append (filter p (take k xs)) (get_or xs k d ∷ []) in
        let one : length (get_or xs k d ∷ []) ≡ 1 = refl in
        let same : length (filter p (take k xs)) + 1 ≡ length (filter p (take k xs) ++ get_or xs k d ∷ []) = omega (arith, long, one) in
        same ∙ ap (λ b. length (filter p (take k xs) ++ cond b (get_or xs k d ∷ []) [])) (sym e)
    by false e =
        let none : length (filter p (take k xs)) + 0 ≡ length (filter p (take k xs)) = omega arith in
        none ∙ ap length (sym (append-nil (filter p (take k xs))))
        ∙ ap (λ b. length (filter p (take k xs) ++ cond b (get_or xs k d ∷ []) [])) (sym e)

pub one_at_most : (b : Bool) (n k : ℕ) → n ≤ k → n + (if b then 1 else 0) ≤ k + 1
one_at_most true n k h = omega (arith, h)
one_at_most false n k h = omega (arith, h)

place_told : (form : StepForm) (extent nodes g : ℕ) → is_map form ≡ false → (place : Place)
    × (place_by_form form extent nodes g ≡ Some place)
place_told (Regular shape) extent nodes g e = (_, refl)
place_told (Map array) extent nodes g e = absurd (true≢false e)

no_formula : (form : StepForm) (extent nodes g : ℕ) → is_map form ≡ true → place_by_form form extent nodes g ≡ None
no_formula (Regular shape) extent nodes g e = absurd (true≢false (sym e))
no_formula (Map array) extent nodes g e = refl

pub placed_is : (f : LoopFacts) (owners : List (List ℕ)) (uses : List Use) (k : ℕ) (d : Use) (places : List Place) (next : ℕ)
    (place : Place) → IsAccepted f → AreOwners f owners
    → MayBeStamped f (get_or uses k d) → k < length uses → places ≡ map (place_met f owners) (filter (is_mapped f) uses)
    → next ≡ length (filter (is_mapped f) (take k uses))
    → IsTold (place_reached f (get_or uses k d)) (slice_get places next) place → place ≡ place_met f owners (get_or uses k d)
placed_is f owners uses k d places next place accepted owned kept less are is told = by (is_mapped f (get_or uses k d)) refl
  where
    by : (b : Bool) → is_mapped f (get_or uses k d) ≡ b → place ≡ place_met f owners (get_or uses k d)
    by false e =
        let formula = place_told (layout_for f (get_or uses k d).array).form (layout_for f (get_or uses k d).array).extent f.nodes
        (stands_met f (get_or uses k d)) e in
        let same = formula_tells f owners (get_or uses k d) formula.0 accepted owned kept.met formula.1 in
        let here : formula.0.local < 2 ^ 63 → place ≡ formula.0 = subst (λ (o : Option Place). IsTold o (slice_get places next) place)
        formula.1 told in
        here (subst (λ (p : Place). p.local < 2 ^ 63) (sym same) (small_local f owners (get_or uses k d) accepted kept)) ∙ same
    by true e =
        let none = no_formula (layout_for f (get_or uses k d).array).form (layout_for f (get_or uses k d).array).extent f.nodes
        (stands_met f (get_or uses k d)) e in
        let there : slice_get places next ≡ Some (place_met f owners (get_or uses k d)) =
        ap (λ l. slice_get l next) are ∙ ap (slice_get (map (place_met f owners) (filter (is_mapped f) uses))) is
        ∙ get_map (place_met f owners) (filter (is_mapped f) uses) _ (get_or uses k d) (at_passing (is_mapped f) uses k d less e) in
        let one : IsTold None (slice_get places next) place = subst (λ (o : Option Place). IsTold o (slice_get places next) place) none
        told in
        let two : (place_met f owners (get_or uses k d)).local < 2 ^ 63 → place ≡ place_met f owners (get_or uses k d) =
        subst (λ (o : Option Place). IsTold None o place) there one in
        two (small_local f owners (get_or uses k d) accepted kept)

pub among_get : {A : Type 0} (xs : List A) (k : ℕ) (d : A) → k < length xs → Among (get_or xs k d) xs
among_get [] k d h = absurd (omega arith)
among_get (x ∷ xs) zero d h = inl refl
among_get (x ∷ xs) (suc k) d h = inr (among_get xs k d (omega arith))

pub placed_more : (f : LoopFacts) (owners : List (List ℕ)) (uses : List Use) (k : ℕ) (d : Use) (places : List Place) (next : ℕ)
    (placed more : List Placed) (place : Place) → IsAccepted f → AreOwners f owners
    → MayBeStamped f (get_or uses k d) → k < length uses → places ≡ map (place_met f owners) (filter (is_mapped f) uses)
    → next ≡ length (filter (is_mapped f) (take k uses))
    → (given : Option Place) → given ≡ slice_get places next → IsTold (place_reached f (get_or uses k d)) given place
    → placed ≡ map (placed_at f owners) (take k uses) → more ≡ placed ++ record { used = get_or uses k d; place = place } ∷ []
    → more ≡ map (placed_at f owners) (take (k + 1) uses)
placed_more f owners uses k d places next placed more place accepted owned kept less are is given lent told before pushed =
    let same = placed_is f owners uses k d places next place accepted owned kept less are is
    (subst (λ o. IsTold (place_reached f (get_or uses k d)) o place) lent told) in
    pushed
    ∙ ap (λ p. placed ++ (let x : Placed = record { used = get_or uses k d; place = p } in x) ∷ []) same
    ∙ ap (λ l. l ++ placed_at f owners (get_or uses k d) ∷ []) before
    ∙ sym (map-append (placed_at f owners) (take k uses) (get_or uses k d ∷ []))
    ∙ ap (map (placed_at f owners)) (sym (take_more uses k d less))

-- ---- needs

needs_push : (xs : List Placed) (ys : List LocalRef) (x : Placed) (y : LocalRef) → length xs ≡ length ys
    → needs_of (xs ++ x ∷ []) (ys ++ y ∷ []) ≡ needs_of xs ys ++ need_of x y
needs_push [] [] x y e = append-nil (need_of x y)
needs_push [] (z ∷ ys) x y e = absurd (omega (arith, e))
needs_push (z ∷ xs) [] x y e = absurd (omega (arith, e))
needs_push (z ∷ xs) (w ∷ ys) x y e =
    let same : length xs ≡ length ys = omega (arith, e) in
    ap (λ l. need_of z w ++ l) (needs_push xs ys x y same) ∙ sym (append_assoc (need_of z w) (needs_of xs ys) (need_of x y))

pub needs_more : (xs : List Placed) (ys : List LocalRef) (k : ℕ) (d : Placed) (e : LocalRef) (before after : List Need) → k < length xs
    → length xs ≡ length ys
    → before ≡ needs_of (take k xs) (take k ys) → after ≡ before ++ need_of (get_or xs k d) (get_or ys k e)
    → after ≡ needs_of (take (k + 1) xs) (take (k + 1) ys)
needs_more xs ys k d e before after less same is pushed =
    let also : k < length ys = omega (arith, same, less) in
    let one = length-take k xs in
    let two = length-take k ys in
    let long : length (take k xs) ≡ length (take k ys) = omega (arith, one, two, same) in
    pushed ∙ ap (λ l. l ++ need_of (get_or xs k d) (get_or ys k e)) is
    ∙ sym (needs_push (take k xs) (take k ys) (get_or xs k d) (get_or ys k e) long)
    ∙ ap (λ l. needs_of l (take k ys ++ get_or ys k e ∷ [])) (sym (take_more xs k d less))
    ∙ ap (needs_of (take (k + 1) xs)) (sym (take_more ys k e also))
