-- Iterations go to their homes, and come in order.
use Rattle.std.proofs.Common.{◌≡◌, ◌≢◌, ℕ, zero, suc, ◌+◌, ◌-◌, ◌<◌, ◌≤◌, ℤ, Bool, true, false, ◌==◌, cond, List, [], ◌∷◌, ◌++◌, length}
use Rattle.std.proofs.Common.{map, filter, drop, take, Option, Some, None, refl, ap, sym, ◌∙◌, arith, append_assoc, append-nil}
use Rattle.std.specs.Prelude.{count_by, slice_get, unwrap_or, ◌&&◌, IsSomeAnd, All}
use Rattle.std.specs.List.{flat_map, cons_option, AllByRecursion}
use Rattle.std.proofs.lemmas.Bool.Decides.{nat_tests}
use Rattle.std.proofs.lemmas.Option.{slice_get_within}
use Rattle.std.proofs.lemmas.List.{map-append, take_at}
use Rattle.std.proofs.lemmas.List.Elements.{filter-append}
use Rattle.std.proofs.lemmas.List.Folds.{flat_map-map}
use Rattle.std.proofs.lemmas.List.Sums.{sum_by-cons}
use Rattle.fd_words.specs.declared.place.Place.{Place}
use Rattle.fd_words.specs.declared.place.Role.TheVariants.{Target}
use Rattle.chaos_dist.specs.Counting.{below}
use Rattle.list_laws.specs.Rows.{map-range-same, deals}
use Rattle.fd_program.specs.Checks.{HasRole, IsSite, IsStatement}
use Rattle.fd_program.specs.Homes.{executed_by, first_target, home_by, home_of, inspected_by, looked_at, owner_met, provisional_home}
use Rattle.fd_program.specs.Homes.{uses_at}
use Rattle.fd_program.specs.ListLaws.{all_filter, all_weaker}
use Rattle.fd_program.specs.Loops.{iterations_of, offence_of, target_of}
use Rattle.fd_program.specs.Stores.{number_at}
use Rattle.fd_program.specs.Uses.{gives_index, index_value, index_values, is_met, no_use, read_of, subscript_of, use_at, use_of, uses_from}
use Rattle.fd_words.specs.Roles.{is_index}
use Rattle.fd_program.specs.VoteLaws.{executed_in_order, flat_map_parts}
use Rattle.fd_program.specs.declared.array.ArrayFacts.{ArrayFacts}
use Rattle.fd_program.specs.declared.body.CheckedBody.{CheckedBody}
use Rattle.fd_program.specs.declared.loop_facts.HomeRule.{HomeRule}
use Rattle.fd_program.specs.declared.loop_facts.HomeRule.TheVariants.{Owner, Most}
use Rattle.fd_program.specs.declared.loop_facts.LoopFacts.{LoopFacts}
use Rattle.fd_program.specs.declared.loop_use.Use.{Use}
use Rattle.fd_program.specs.declared.reference.Reference.{Reference}
use Rattle.plan_loop.specs.LoopLetters.{is_looked_at, iteration_row, numbers_in_loop, owed_in, sent_in}
use Rattle.plan_loop.specs.declared.loop_phase.Asking.TheVariants.{Homes}
use Rattle.plan_loop.specs.declared.loop_phase.LoopPhase.TheVariants.{Iterations}
use Rattle.inspect_uses.specs.Accepted.{AreOwners, IsAccepted}
use Rattle.inspect_uses.specs.Reached.{place_met}
use Rattle.inspect_uses.specs.ReachedLaws.{values_at, uses_are_reached, values_are_behind}
use Rattle.chaos_inspect.specs.Walking.{Homed, home_told, homed_through, is_asked, is_reached, uses_through}
use Rattle.inspect_places.specs.Laws.{uses_wanted}
use Rattle.chaos_inspect.specs.Met.{places_asked, spot_met, values_of}
use Rattle.chaos_inspect.specs.declared.spot.Spot.{Spot}
use Rattle.chaos_inspect.proofs.Fetching.{map_map_same}
use Rattle.chaos_inspect.proofs.Sound.{AllMet, all_met}
use Rattle.chaos_inspect.proofs.Turns.{in_turn, places_behind}
use Rattle.chaos_inspect.proofs.Walks.{through_all}

same_number : (m : ℕ) → (m == m) ≡ true
same_number m = grind (arith, nat_tests)

other_number : (k p : ℕ) → k ≢ p → (k == p) ≡ false
other_number k p h = grind (arith, nat_tests)

-- ---- rows

-- as many values as index references give
pub count_given : (f : LoopFacts) (store : List (List ℤ)) (us : List Use) → length (index_values f.arrays store us)
    ≡ count_by (gives_index f.arrays) us
count_given f store [] = refl
count_given f store (u ∷ us) =
    by (gives_index f.arrays u) (count_given f store us) ∙ sym (sum_by-cons (λ v. cond (gives_index f.arrays v) 1 0) u us)
  where
    by : (b : Bool) → length (index_values f.arrays store us) ≡ count_by (gives_index f.arrays) us
        → length (cons_option (cond b (Some (read_of store u)) None) (index_values f.arrays store us)) ≡ cond b 1 0
        + count_by (gives_index f.arrays) us
    by true e = omega (arith, e)
    by false e = omega (arith, e)

-- where each is met, all index references give one
given_row : (f : LoopFacts) (store : List (List ℤ)) (us : List Use) → AllMet f.arrays us
    → index_values f.arrays store us ≡ map (read_of store) (filter (λ u. is_index u.role) us)
given_row f store [] met = refl
given_row f store (u ∷ us) met = by (is_index u.role) (given_row f store us met.1)
  where
    by : (b : Bool) → index_values f.arrays store us ≡ map (read_of store) (filter (λ v. is_index v.role) us)
        → cons_option (cond (b && is_met f.arrays u) (Some (read_of store u)) None) (index_values f.arrays store us)
        ≡ map (read_of store) (cond b (u ∷ filter (λ v. is_index v.role) us) (filter (λ v. is_index v.role) us))
    by true e = ap (λ m. cons_option (cond m (Some (read_of store u)) None) (index_values f.arrays store us)) met.0
        ∙ ap (λ l. read_of store u ∷ l) e
    by false e = e

-- ---- homes

-- the reference with a number is the only one
none_numbered : (f : LoopFacts) (store : List (List ℤ)) (i : ℤ) (n place : ℕ) (before : Option ℤ) (references : List Reference) → n ≤ place
    → filter (λ u. (u.number == n) && is_met f.arrays u) (uses_from f.arrays f.turn.adds store i place before references) ≡ []
none_numbered f store i n place before [] less = refl
none_numbered f store i n place before (r ∷ rs) less =
    let u = use_of r i (place + 1) (subscript_of r.subscript i (number_at f.turn.adds place) before) in
    let later = filter (λ v. (v.number == n) && is_met f.arrays v) (uses_from f.arrays f.turn.adds store i (place + 1)
    (index_value f.arrays store u) rs) in
    ap (λ b. cond (b && is_met f.arrays u) (u ∷ later) later) (other_number (place + 1) n (omega (arith, less)))
    ∙ none_numbered f store i n (place + 1) (index_value f.arrays store u) rs (omega (arith, less))

one_numbered : (f : LoopFacts) (store : List (List ℤ)) (i : ℤ) (n place : ℕ) (before : Option ℤ) (references : List Reference) (k : ℕ)
    → k < length references
    → n ≡ place + k + 1 → AllMet f.arrays (uses_from f.arrays f.turn.adds store i place before references)
    → filter (λ u. (u.number == n) && is_met f.arrays u) (uses_from f.arrays f.turn.adds store i place before references)
    ≡ unwrap_or (slice_get (uses_from f.arrays f.turn.adds store i place before references) k) no_use ∷ []
one_numbered f store i n place before [] k less at met = absurd (omega (arith, less))
one_numbered f store i n place before (r ∷ rs) zero less at met =
    let u = use_of r i (place + 1) (subscript_of r.subscript i (number_at f.turn.adds place) before) in
    let later = filter (λ v. (v.number == n) && is_met f.arrays v) (uses_from f.arrays f.turn.adds store i (place + 1)
    (index_value f.arrays store u) rs) in
    let here : place + 1 ≡ n = omega (arith, at) in
    ap (λ b. cond (b && is_met f.arrays u) (u ∷ later) later) (ap (λ m. m == n) here ∙ same_number n)
    ∙ ap (λ b. cond b (u ∷ later) later) met.0
    ∙ ap (λ l. u ∷ l) (none_numbered f store i n (place + 1) (index_value f.arrays store u) rs (omega (arith, here)))
one_numbered f store i n place before (r ∷ rs) (suc k) less at met =
    let u = use_of r i (place + 1) (subscript_of r.subscript i (number_at f.turn.adds place) before) in
    let later = filter (λ v. (v.number == n) && is_met f.arrays v) (uses_from f.arrays f.turn.adds store i (place + 1)
    (index_value f.arrays store u) rs) in
    let there : n ≡ place + 1 + k + 1 = omega (arith, at) in
    ap (λ b. cond (b && is_met f.arrays u) (u ∷ later) later) (other_number (place + 1) n (omega (arith, at)))
    ∙ one_numbered f store i n (place + 1) (index_value f.arrays store u) rs k (omega (arith, less)) there met.1

-- the first target is one of the references
record IsNumber (references : List Reference) (number : ℕ) : Type 0 where
  first : 1 ≤ number
  last : number - 1 < length references

target_there : (f : LoopFacts) → IsSite f.arrays f.site → IsNumber f.site.references (first_target f.site.body)
target_there f site = by f.site.body site.some site.body
  where
    there : (o : Option Reference) (k : ℕ) → slice_get f.site.references k ≡ o → IsSomeAnd o (λ r. r.role ≡ Target)
        → k < length f.site.references
    there None k e h = absurd h
    there (Some r) k e h = slice_get_within f.site.references k r e

    by : (body : List CheckedBody) → 1 ≤ length body → All (IsStatement f.site) body → IsNumber f.site.references (first_target body)
    by [] some all = absurd (omega (arith, some))
    by (s ∷ rest) some all =
        let target : HasRole f.site.references Target (target_of s) = (all 0 s (omega arith)).target in
        record { first = target.0; last = there (slice_get f.site.references (target_of s - 1)) (target_of s - 1) refl target.1 }

-- with each met, all
all_kept : (arrays : List ArrayFacts) (us : List Use) → AllMet arrays us → filter (λ u. true && is_met arrays u) us ≡ us
all_kept arrays [] met = refl
all_kept arrays (u ∷ us) met =
    ap (λ b. cond b (u ∷ filter (λ v. true && is_met arrays v) us) (filter (λ v. true && is_met arrays v) us)) met.0
    ∙ ap (λ l. u ∷ l) (all_kept arrays us met.1)

-- those that the asking is for are those that the rule looks at
looked_right : (f : LoopFacts) (store : List (List ℤ)) (i : ℤ) (rule : HomeRule) → IsSite f.arrays f.site
    → AllMet f.arrays (uses_at f store i)
    → filter (λ u. is_looked_at rule f.site.body u.number && is_met f.arrays u) (uses_at f store i) ≡ looked_at rule f.site.body
    (uses_at f store i)
looked_right f store i Owner site met =
    let target = target_there f site in
    let number = first_target f.site.body in
    let at : number ≡ 0 + (number - 1) + 1 = omega (arith, target.first) in
    let next : number ≡ suc (number - 1) = omega (arith, target.first) in
    one_numbered f store i number 0 None f.site.references (number - 1) target.last at met
    ∙ ap (λ n. use_at (uses_at f store i) n ∷ []) (sym next)
looked_right f store i Most site met = all_kept f.arrays (uses_at f store i) met

home_right : (f : LoopFacts) (owners : List (List ℕ)) (store : List (List ℤ)) (i : ℤ) (more : List Place) → IsAccepted f
    → AreOwners f owners → AllMet f.arrays (uses_at f store i)
    → home_told f (map (place_met f owners) (filter (is_asked f Homes) (uses_at f store i)) ++ more) (uses_at f store i)
    ≡ home_of f owners store i
home_right f owners store i more accepted owned met =
    let us = uses_at f store i in
    let owner : Spot → ℕ = λ s. s.owner in
    ap (λ spots. home_by f.rule f.nodes (map owner spots)) (in_turn f owners Homes accepted owned us more)
    ∙ ap (home_by f.rule f.nodes) (map_map_same owner (spot_met f owners) (owner_met f owners) (λ u. refl) (filter (is_reached f Homes) us))
    ∙ ap (λ vs. home_by f.rule f.nodes (map (owner_met f owners) vs)) (looked_right f store i f.rule accepted.site met)

-- ---- all iterations

abbrev homed_of : LoopFacts → List (List ℕ) → List (List ℤ) → ℤ → Homed
homed_of f owners store i = record { home = home_of f owners store i; row = iteration_row f store i }

-- the places that are asked for, of these references
abbrev asked_places : LoopFacts → List (List ℕ) → List Use → List Place
asked_places f owners us = map (place_met f owners) (filter (is_asked f Homes) us)

places_split : (f : LoopFacts) (owners : List (List ℕ)) (us vs : List Use) (more : List Place)
    → asked_places f owners (us ++ vs) ++ more ≡ asked_places f owners us ++ (asked_places f owners vs ++ more)
places_split f owners us vs more =
    ap (λ l. map (place_met f owners) l ++ more) (filter-append (is_asked f Homes) us vs)
    ∙ ap (λ l. l ++ more) (map-append (place_met f owners) (filter (is_asked f Homes) us) (filter (is_asked f Homes) vs))
    ∙ append_assoc (asked_places f owners us) (asked_places f owners vs) more

homed_along : (f : LoopFacts) (owners : List (List ℕ)) (store : List (List ℤ)) → IsAccepted f → AreOwners f owners
    → (is more : List ℤ) (after : List Place)
    → AllByRecursion (λ i. AllMet f.arrays (uses_at f store i)) is
    → homed_through f is (flat_map (values_at f store) is ++ more) (asked_places f owners (flat_map (uses_at f store) is) ++ after)
    ≡ map (homed_of f owners store) is
homed_along f owners store accepted owned [] more after met = refl
homed_along f owners store accepted owned (i ∷ is) more after met =
    let later = flat_map (values_at f store) is ++ more in
    let here = values_at f store i in
    let us = uses_at f store i in
    let behind = asked_places f owners (flat_map (uses_at f store) is) ++ after in
    let places = asked_places f owners us ++ behind in
    let count = count_by (gives_index f.arrays) us in
    let made : List Use → List Homed = λ vs.
    record { home = home_told f places vs; row = i ∷ take (count_by (gives_index f.arrays) vs) (here ++ later) }
    ∷ homed_through f is (drop (count_by (gives_index f.arrays) vs) (here ++ later)) (drop (count_by (is_asked f Homes) vs) places) in
    let one : ℕ → List ℤ → Homed = λ home row. record { home = home; row = row } in
    let front : take count (here ++ later) ≡ map (read_of store) (filter (λ u. is_index u.role) us) =
    take_at here later count (count_given f store us) ∙ given_row f store us met.0 in
    ap (λ vs. homed_through f (i ∷ is) vs (asked_places f owners (flat_map (uses_at f store) (i ∷ is)) ++ after))
    (append_assoc here (flat_map (values_at f store) is) more)
    ∙ ap (homed_through f (i ∷ is) (here ++ later)) (places_split f owners us (flat_map (uses_at f store) is) after)
    ∙ ap made (uses_are_reached f store i later)
    ∙ ap (λ vs. one (home_told f places us) (i ∷ take count (here ++ later)) ∷ homed_through f is vs
    (drop (count_by (is_asked f Homes) us) places)) (values_are_behind f store i later)
    ∙ ap (λ ps. one (home_told f places us) (i ∷ take count (here ++ later)) ∷ homed_through f is later ps)
    (places_behind f owners Homes us behind)
    ∙ ap (λ l. one (home_told f places us) (i ∷ take count (here ++ later)) ∷ l) (homed_along f owners store accepted owned is more after
    met.1)
    ∙ ap (λ home. one home (i ∷ take count (here ++ later)) ∷ map (homed_of f owners store) is)
    (home_right f owners store i behind accepted owned met.0)
    ∙ ap (λ row. one (home_of f owners store i) (i ∷ row) ∷ map (homed_of f owners store) is) front

-- each reference of the node's own iterations
met_all : (f : LoopFacts) (store : List (List ℤ)) (p : ℕ) → IsAccepted f → offence_of f.arrays f.site f.turn store ≡ None
    → AllByRecursion (λ i. AllMet f.arrays (uses_at f store i)) (inspected_by f p)
met_all f store p accepted sound =
    all_weaker (λ i. ((provisional_home f i == p) ≡ true) × AllMet f.arrays (uses_at f store i))
    (λ i. AllMet f.arrays (uses_at f store i)) (λ i h. h.1)
    (inspected_by f p)
    (all_filter (λ i. AllMet f.arrays (uses_at f store i)) (λ i. provisional_home f i == p) (iterations_of f.turn)
    (all_met f store accepted.site sound))

rows_to : (f : LoopFacts) (owners : List (List ℕ)) (store : List (List ℤ)) (q : ℕ) (is : List ℤ)
    → flat_map (λ (h : Homed). h.row) (filter (λ (h : Homed). h.home == q) (map (homed_of f owners store) is))
    ≡ flat_map (iteration_row f store) (filter (λ i. home_of f owners store i == q) is)
rows_to f owners store q [] = refl
rows_to f owners store q (i ∷ is) = by (home_of f owners store i == q) (rows_to f owners store q is)
  where
    by : (b : Bool)
        → flat_map (λ (h : Homed). h.row) (filter (λ (h : Homed). h.home == q) (map (homed_of f owners store) is))
        ≡ flat_map (iteration_row f store) (filter (λ j. home_of f owners store j == q) is)
        → flat_map (λ (h : Homed). h.row)
        (cond b (homed_of f owners store i ∷ filter (λ (h : Homed). h.home == q) (map (homed_of f owners store) is))
        (filter (λ (h : Homed). h.home == q) (map (homed_of f owners store) is)))
        ≡ flat_map (iteration_row f store) (cond b (i ∷ filter (λ j. home_of f owners store j == q) is)
        (filter (λ j. home_of f owners store j == q) is))
    by true e = ap (λ l. iteration_row f store i ++ l) e
    by false e = e

pub rows_right : (f : LoopFacts) (owners : List (List ℕ)) (store : List (List ℤ)) (p : ℕ) (values : List ℤ) (places : List Place)
    → IsAccepted f → AreOwners f owners
    → values ≡ values_of f store p → places ≡ places_asked f owners store Homes p → offence_of f.arrays f.site f.turn store ≡ None
    → deals (λ (h : Homed). h.home) (λ (h : Homed). h.row) f.nodes (homed_through f (inspected_by f p) values places)
    ≡ sent_in f owners store Iterations p
rows_right f owners store p values places accepted owned fetched told sound =
    ap (deals (λ (h : Homed). h.home) (λ (h : Homed). h.row) f.nodes)
    (ap (λ vs. homed_through f (inspected_by f p) vs places) (fetched ∙ sym (append-nil (values_of f store p)))
    ∙ ap (homed_through f (inspected_by f p) (values_of f store p ++ [])) (told ∙ sym (append-nil (places_asked f owners store Homes p)))
    ∙ homed_along f owners store accepted owned (inspected_by f p) [] [] (met_all f store p accepted sound))
    ∙ map-range-same _ _ 0 f.nodes (λ q. rows_to f owners store q (inspected_by f p))

-- the references that tell their homes, with the values of index references
pub homes_wanted : (f : LoopFacts) (owners : List (List ℕ)) (store : List (List ℤ)) (p : ℕ) (values : List ℤ) → values ≡ values_of f store p
    → filter (is_asked f Homes) (uses_through f (inspected_by f p) values) ≡ uses_wanted f owners store Homes p
homes_wanted f owners store p values e = ap (filter (is_asked f Homes)) (through_all f store (inspected_by f p) values e)

-- ---- the rows that come

pub joined_right : (f : LoopFacts) (owners : List (List ℕ)) (store : List (List ℤ)) (p : ℕ) → IsAccepted f
    → flat_map (λ l. l) (owed_in f owners store Iterations p) ≡ flat_map (iteration_row f store) (executed_by f owners store p)
joined_right f owners store p accepted =
    flat_map-map (λ l. l) (λ q. numbers_in_loop f owners store Iterations q p) (below f.nodes)
    ∙ sym (flat_map_parts (iteration_row f store) (λ q. filter (λ i. home_of f owners store i == p) (inspected_by f q)) (below f.nodes))
    ∙ ap (flat_map (iteration_row f store)) (executed_in_order f owners store p accepted.some_nodes)
