-- A section's homes are the loop's, and each of its references reaches an element.
use Rattle.std.specs.Prelude.{◌≡◌, refl, ℕ, zero, suc, ◌+◌, ◌-◌, ◌<◌, ◌≤◌, ◌^◌, ℤ, pos, ◌+ℤ◌, ◌-ℤ◌, ◌≤ℤ◌, ◌<ℤ◌, Bool, true, ◌==◌, cond}
use Rattle.std.specs.Prelude.{List, [], ◌∷◌, length, map, filter, slice_get, unwrap_or, All, IsSomeAnd}
use Rattle.std.specs.List.{AllByRecursion, AllZip}
use Rattle.std.proofs.Common.{ap, sym, ◌∙◌, subst, arith}
use Rattle.std.proofs.lemmas.Int.{by_lt_z, ints}
use Rattle.std.proofs.lemmas.List.Elements.{All-from_recursion}
use Rattle.chaos_dist.specs.Homes.{most_of}
use Rattle.chaos_dist.specs.Layout.{given_size}
use Rattle.fd_words.specs.declared.place.Role.TheVariants.{Target}
use Rattle.fd_program.specs.Checks.{HasRole, IsStatement}
use Rattle.fd_program.specs.Homes.{executed_by, first_target, home_by, home_of, looked_at, owner_met, uses_at}
use Rattle.fd_program.specs.ListLaws.{all_weaker}
use Rattle.fd_program.specs.Loops.{count_between, counted_from, iterations_of, range_of}
use Rattle.fd_program.specs.RangeLaws.{counted}
use Rattle.fd_program.specs.Uses.{is_met, no_use, use_at}
use Rattle.fd_program.specs.declared.body.CheckedBody.{CheckedBody}
use Rattle.fd_program.specs.declared.loop_facts.HomeRule.{HomeRule}
use Rattle.fd_program.specs.declared.loop_facts.HomeRule.TheVariants.{Owner, Most}
use Rattle.fd_program.specs.declared.loop_facts.LoopFacts.{LoopFacts}
use Rattle.fd_program.specs.declared.loop_use.Use.{Use}
use Rattle.fd_program.specs.declared.reference.Reference.{Reference}
use Rattle.fd_program.specs.declared.site.Site.{Site}
use Rattle.inspect_enter.proofs.AllMet.{all_met}
use Rattle.inspect_enter.specs.Preparing.{IsSettled}
use Rattle.inspect_uses.specs.Accepted.{AreOwners, IsAccepted}
use Rattle.chaos_section.specs.Sections.{IsReaching, IsSection, IsSectionReference, TellsHomes, home_by as home_told, home_on}
use Rattle.chaos_section.specs.Sections.{iterations_on, owner_at}
use Rattle.chaos_section.specs.declared.section.SectionReference.{SectionReference}
use Rattle.section_laws.specs.SectionLoops.{is_section, no_reference, section_homes, section_loop, section_references}
use Rattle.section_laws.proofs.Reached.{IsTold, IsUseOf, told, uses_of_section}

-- ---- lists

zip_at : {A B : Type 0} (R : A → B → Type 0) (xs : List A) (ys : List B) (k : ℕ) (d : A) (e : B) → AllZip R xs ys → k < length xs
    → R (unwrap_or (slice_get xs k) d) (unwrap_or (slice_get ys k) e)
zip_at R [] [] k d e h less = absurd (omega (arith, less))
zip_at R [] (y ∷ ys) k d e h less = absurd h
zip_at R (x ∷ xs) [] k d e h less = absurd h
zip_at R (x ∷ xs) (y ∷ ys) zero d e h less = h.0
zip_at R (x ∷ xs) (y ∷ ys) (suc k) d e h less = zip_at R xs ys k d e h.1 (lower k (length xs) less)
  where
    lower : (k n : ℕ) → suc k < suc n → k < n
    lower k n h = omega arith

all_place : {A : Type 0} (P : A → Type 0) (xs : List A) (k : ℕ) (d : A) → AllByRecursion P xs → k < length xs
    → P (unwrap_or (slice_get xs k) d)
all_place P [] k d h less = absurd (omega (arith, less))
all_place P (x ∷ xs) zero d h less = h.0
all_place P (x ∷ xs) (suc k) d h less = all_place P xs k d h.1 (lower k (length xs) less)
  where
    lower : (k n : ℕ) → suc k < suc n → k < n
    lower k n h = omega arith

some_place : {A : Type 0} (P : A → Type 0) (xs : List A) (k : ℕ) → IsSomeAnd (slice_get xs k) P → k < length xs
some_place P [] k h = absurd h
some_place P (x ∷ xs) zero h = above (length xs)
  where
    above : (n : ℕ) → zero < suc n
    above n = omega arith
some_place P (x ∷ xs) (suc k) h = higher k (length xs) (some_place P xs k h)
  where
    higher : (k n : ℕ) → k < n → suc k < suc n
    higher k n h = omega arith

filter_same : {A : Type 0} (p q : A → Bool) (xs : List A) → AllByRecursion (λ x. p x ≡ q x) xs → filter p xs ≡ filter q xs
filter_same p q [] h = refl
filter_same p q (x ∷ xs) h =
    ap (λ b. cond b (x ∷ filter p xs) (filter p xs)) h.0 ∙ ap (λ l. cond (q x) (x ∷ l) l) (filter_same p q xs h.1)

-- what holds of each number counted holds of each in the range
at_counted : (P : ℤ → Type 0) (z : ℤ) (n : ℕ) → AllByRecursion P (counted_from z n) → (i : ℤ) → z ≤ℤ i → i <ℤ (z +ℤ pos n) → P i
at_counted P z zero h i from to = absurd (omega (arith, ints, from, to))
at_counted P z (suc n) h i from to =
    by_lt_z z i
    (λ above. at_counted P (z +ℤ pos 1) n h.1 i (omega (arith, ints)) (omega (arith, ints)))
    (λ under. let same : z ≡ i = omega (arith, ints) in subst P same h.0)

pub at_range : (P : ℤ → Type 0) (low high : ℤ) → AllByRecursion P (range_of low high) → (i : ℤ) → low ≤ℤ i → i ≤ℤ high → P i
at_range P low high h i from to =
    let n : pos (count_between low high) ≡ high -ℤ low +ℤ pos 1 = counted (high -ℤ low +ℤ pos 1) (omega (arith, ints)) in
    at_counted P low (count_between low high) h i from (omega (arith, ints, n))

-- ---- all references at one iteration

pub told_all : (f : LoopFacts) (owners : List (List ℕ)) (i : ℤ) (ss : List SectionReference) (us : List Use) → IsAccepted f
    → AreOwners f owners
    → AllZip (IsUseOf f i) ss us → AllByRecursion (λ u. is_met f.arrays u ≡ true) us → AllZip (IsTold f owners i) ss us
told_all f owners i [] [] accepted owned h met = tt
told_all f owners i [] (u ∷ us) accepted owned h met = absurd h
told_all f owners i (s ∷ ss) [] accepted owned h met = absurd h
told_all f owners i (s ∷ ss) (u ∷ us) accepted owned h met =
    (told f owners i s u accepted owned h.0 met.0, told_all f owners i ss us accepted owned h.1 met.1)

owners_same : (f : LoopFacts) (owners : List (List ℕ)) (i : ℤ) (ss : List SectionReference) (us : List Use)
    → AllZip (IsTold f owners i) ss us
    → map (λ s. owner_at f.nodes s i) ss ≡ map (owner_met f owners) us
owners_same f owners i [] [] h = refl
owners_same f owners i [] (u ∷ us) h = absurd h
owners_same f owners i (s ∷ ss) [] h = absurd h
owners_same f owners i (s ∷ ss) (u ∷ us) h =
    ap (λ o. o ∷ map (λ s. owner_at f.nodes s i) ss) (sym h.0.owner)
    ∙ ap (λ l. owner_met f owners u ∷ l) (owners_same f owners i ss us h.1)

-- ---- the reference that tells homes

length-section_references : (f : LoopFacts) (place : ℕ) (rs : List Reference) → length (section_references f place rs) ≡ length rs
length-section_references f place [] = refl
length-section_references f place (r ∷ rs) = ap suc (length-section_references f (place + 1) rs)

first_there : (site : Site) (body : List CheckedBody) → 1 ≤ length body → All (IsStatement site) body
    → HasRole site.references Target (first_target body)
first_there site [] some h = absurd (omega (arith, some))
first_there site (s ∷ rest) some h = (h 0 s (omega (arith, some))).target

use_by_place : (us : List Use) (n : ℕ) → 1 ≤ n → use_at us n ≡ unwrap_or (slice_get us (n - 1)) no_use
use_by_place us zero h = absurd (omega (arith, h))
use_by_place us (suc k) h = let back : k ≡ suc k - 1 = omega arith in ap (λ j. unwrap_or (slice_get us j) no_use) back

record IsFirst (f : LoopFacts) (number : ℕ) : Type 0 where
  from_one : 1 ≤ number
  there : number - 1 < length (section_references f 0 f.site.references)

first_is : (f : LoopFacts) → IsAccepted f → IsFirst f (first_target f.site.body)
first_is f accepted =
    let role = first_there f.site f.site.body accepted.site.some accepted.site.body in
    let less = some_place _ f.site.references (first_target f.site.body - 1) role.1 in
    record {
      from_one = role.0;
      there = subst (λ n. first_target f.site.body - 1 < n)
          (sym (length-section_references f 0 f.site.references)) less;
    }

-- ---- homes

pub home_same : (f : LoopFacts) (owners : List (List ℕ)) (store : List (List ℤ)) (i : ℤ) → IsAccepted f → AreOwners f owners
    → is_section f ≡ true → AllByRecursion (λ u. is_met f.arrays u ≡ true) (uses_at f store i)
    → home_on (section_loop f) i ≡ home_of f owners store i
home_same f owners store i accepted owned section met =
    by f.rule (told_all f owners i (section_references f 0 f.site.references) (uses_at f store i) accepted owned
    (uses_of_section f store i section) met) (first_is f accepted)
  where
    by : (rule : HomeRule) → AllZip (IsTold f owners i) (section_references f 0 f.site.references) (uses_at f store i)
        → IsFirst f (first_target f.site.body)
        → home_told (section_homes rule (first_target f.site.body) (section_references f 0 f.site.references)) f.nodes
        (section_references f 0 f.site.references) i
        ≡ home_by rule f.nodes (map (owner_met f owners) (looked_at rule f.site.body (uses_at f store i)))
    by Owner all first =
        sym (zip_at (IsTold f owners i) (section_references f 0 f.site.references) (uses_at f store i) (first_target f.site.body - 1)
        no_reference no_use all first.there).owner
        ∙ ap (owner_met f owners) (sym (use_by_place (uses_at f store i) (first_target f.site.body) first.from_one))
    by Most all first =
        ap (most_of f.nodes) (owners_same f owners i (section_references f 0 f.site.references) (uses_at f store i) all)

pub section_is_loop : (f : LoopFacts) (owners : List (List ℕ)) (store : List (List ℤ)) (p : ℕ) → IsSettled f owners store → is_section f
    ≡ true
    → iterations_on (section_loop f) p ≡ executed_by f owners store p
section_is_loop f owners store p settled section =
    filter_same (λ i. home_on (section_loop f) i == p) (λ i. home_of f owners store i == p) (iterations_of f.turn)
    (all_weaker (λ i. AllByRecursion (λ u. is_met f.arrays u ≡ true) (uses_at f store i))
    (λ i. (home_on (section_loop f) i == p) ≡ (home_of f owners store i == p))
    (λ i met. ap (λ h. h == p) (home_same f owners store i settled.accepted settled.owned section met)) (iterations_of f.turn)
    (all_met f store settled.accepted settled.sound))

-- ---- the section

record IsReachedAt (i : ℤ) (s : SectionReference) : Type 0 where
  reaching : IsReaching s i
  extent : s.extent < 2 ^ 63
  size : 1 ≤ given_size s.shape

reached_at : (f : LoopFacts) (owners : List (List ℕ)) (i : ℤ) (ss : List SectionReference) (us : List Use)
    → AllZip (IsTold f owners i) ss us
    → AllByRecursion (IsReachedAt i) ss
reached_at f owners i [] us h = tt
reached_at f owners i (s ∷ ss) [] h = absurd h
reached_at f owners i (s ∷ ss) (u ∷ us) h =
    (record { reaching = h.0.reaching; extent = h.0.extent; size = h.0.dealt }, reached_at f owners i ss us h.1)

each_reference : (low high : ℤ) (ss : List SectionReference) → low ≤ℤ high
    → ((i : ℤ) → low ≤ℤ i → i ≤ℤ high → AllByRecursion (IsReachedAt i) ss) → AllByRecursion (IsSectionReference low high) ss
each_reference low high [] order h = tt
each_reference low high (s ∷ ss) order h = (
  record {
    reaching = λ i from to. (h i from to).0.reaching;
    extent = (h low (omega (arith, ints)) order).0.extent;
    size = (h low (omega (arith, ints)) order).0.size;
  },
  each_reference low high ss order (λ i from to. (h i from to).1),
)

all_reached : (f : LoopFacts) (owners : List (List ℕ)) (store : List (List ℤ)) → IsSettled f owners store → is_section f ≡ true
    → AllByRecursion (IsSectionReference f.turn.low f.turn.high) (section_references f 0 f.site.references)
all_reached f owners store settled section =
    each_reference f.turn.low f.turn.high (section_references f 0 f.site.references) settled.accepted.range
    (λ i from to.
    reached_at f owners i (section_references f 0 f.site.references) (uses_at f store i)
    (told_all f owners i (section_references f 0 f.site.references) (uses_at f store i) settled.accepted settled.owned
    (uses_of_section f store i section)
    (at_range (λ i. AllByRecursion (λ u. is_met f.arrays u ≡ true) (uses_at f store i)) f.turn.low f.turn.high
    (all_met f store settled.accepted settled.sound) i from to)))

homes_reached : (f : LoopFacts) (rule : HomeRule) → IsFirst f (first_target f.site.body)
    → AllByRecursion (IsSectionReference f.turn.low f.turn.high) (section_references f 0 f.site.references)
    → TellsHomes f.turn.low f.turn.high (section_references f 0 f.site.references)
    (section_homes rule (first_target f.site.body) (section_references f 0 f.site.references))
homes_reached f Owner first all =
    all_place (IsSectionReference f.turn.low f.turn.high) (section_references f 0 f.site.references) (first_target f.site.body - 1)
    no_reference all first.there
homes_reached f Most first all = let there = first.there in omega (arith, there)

pub section_is_reached : (f : LoopFacts) (owners : List (List ℕ)) (store : List (List ℤ)) → IsSettled f owners store → is_section f ≡ true
    → IsSection (section_loop f)
section_is_reached f owners store settled section =
    let all = all_reached f owners store settled section in
    record {
      some = settled.accepted.some_nodes;
      few = settled.accepted.few_nodes;
      homes = homes_reached f f.rule (first_is f settled.accepted) all;
      references = All-from_recursion (IsSectionReference f.turn.low f.turn.high) (section_references f 0 f.site.references) all;
    }
