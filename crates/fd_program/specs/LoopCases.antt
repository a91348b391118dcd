-- The meaning of a loop, element by element, has three cases.
use Rattle.std.specs.Prelude.{◌≡◌, refl, ℕ, zero, suc, ◌+◌, ◌-◌, ◌<◌, ◌≤◌, ℤ, pos, negsuc, ◌+ℤ◌, ◌<ℤ◌, ◌⊎◌, Bool, true, false, not, ◌&&◌}
use Rattle.std.specs.Prelude.{◌==◌, int_le, if◌then◌else◌, List, [], ◌∷◌, length, map, flat_map, fold, slice_get, unwrap_or, All, Option}
use Rattle.std.specs.Prelude.{Some, None, IsSome, is_some, IsSomeAnd}
use Rattle.std.specs.List.{AllByRecursion}
use Rattle.std.specs.Option.{option_map_or}
use Rattle.std.proofs.Common.{ap, sym, ◌∙◌, subst, arith, inl, inr}
use Rattle.std.proofs.lemmas.Bool.{eqb-true}
use Rattle.std.proofs.lemmas.Int.{ints}
use Rattle.std.proofs.lemmas.List.Elements.{All-from_recursion, recursion_from_All}
use Rattle.fd_words.specs.Combining.{combined}
use Rattle.fd_words.specs.Lists.{list_at}
use Rattle.fd_words.specs.declared.combine.Combine.{Combine}
use Rattle.fd_words.specs.declared.place.Offence.{Offence}
use Rattle.fd_program.specs.Checks.{IsSite, IsStatement, IsPlain, Agree, target_array}
use Rattle.fd_program.specs.ListLaws.{PairsByRecursion, pairs_from_AllPairs, all_weaker, all_map, Cross, pairs_weaker, pairs_map}
use Rattle.fd_program.specs.ListLaws.{pairs_flat_map, pairs_filter, square, pairs_of, none_mapped, all_parts, all_at}
use Rattle.fd_program.specs.LoopLaws.{reaches, writes_to, applied, element_after_writes}
use Rattle.fd_program.specs.Loops.{Write, changed, target_of, operator_of, write_of, writes_at, writes_of, after_loop, offence_at}
use Rattle.fd_program.specs.Loops.{offence_of, first_of, counted_from, iterations_of, count_between}
use Rattle.fd_program.specs.Stores.{number_at, is_within, array_at, place_of}
use Rattle.fd_program.specs.Texts.{array_of}
use Rattle.fd_program.specs.Uses.{subscript_of, use_of, uses_from, uses_of, use_at, no_use, index_value}
use Rattle.fd_program.specs.declared.array.ArrayFacts.{ArrayFacts}
use Rattle.fd_program.specs.declared.body.CheckedBody.{CheckedBody}
use Rattle.fd_program.specs.declared.loop_use.Use.{Use}
use Rattle.fd_program.specs.declared.reference.CheckedSubscript.{CheckedSubscript}
use Rattle.fd_program.specs.declared.reference.CheckedSubscript.TheVariants.{Plain, Through, Twice, Scalar}
use Rattle.fd_program.specs.declared.reference.Reference.{Reference}
use Rattle.fd_program.specs.declared.site.Site.{Site}
use Rattle.fd_program.specs.declared.trace.LoopTurn.{LoopTurn}

-- one write reaches the element: it is assigned
pub record IsAssigned (writes : List Write) (new : ℤ) : Type 0 where
  pub write : Write
  pub only : writes ≡ write ∷ []
  pub plain : write.operator ≡ None
  pub value : new ≡ write.value

-- all writes that reach it reduce by one operator: the old element is combined with their values, ascending by iteration and statement
pub record IsReduced (writes : List Write) (old new : ℤ) : Type 0 where
  pub operator : Combine
  pub each : All (λ w. w.operator ≡ Some operator) writes
  pub value : new ≡ fold (combined operator) old (map (λ w. w.value) writes)

-- none reaches it: it stays
pub record IsLeft (writes : List Write) (old new : ℤ) : Type 0 where
  pub none : writes ≡ []
  pub same : new ≡ old

abbrev pub IsOneOfThree : List Write → ℤ → ℤ → Type 0
IsOneOfThree writes old new = IsAssigned writes new ⊎ (IsReduced writes old new ⊎ IsLeft writes old new)

-- what a loop without an offence leaves at an element, by the writes that reach it
abbrev pub LoopHasThreeCases : Type 0
LoopHasThreeCases =
    (arrays : List ArrayFacts) (site : Site) (turn : LoopTurn) (store : List (List ℤ)) (array place : ℕ)
    → IsSite arrays site → offence_of arrays site turn store ≡ None → array < length store → place < length (list_at store array)
    → IsOneOfThree (writes_to array place (writes_of arrays site turn store)) (number_at (list_at store array) place)
    (number_at (list_at (after_loop arrays site turn store) array) place)

-- ---- writes that agree

abbrev pub Together : Write → Write → Type 0
Together v w = IsSome v.operator × (v.operator ≡ w.operator)

pub reduced_fold : (op : Combine) (ws : List Write) (old : ℤ) → AllByRecursion (λ (w : Write). w.operator ≡ Some op) ws
    → fold applied old ws ≡ fold (combined op) old (map (λ (w : Write). w.value) ws)
reduced_fold op [] old h = refl
reduced_fold op (w ∷ ws) old h =
    ap (λ o. fold applied (changed o old w.value) ws) h.0 ∙ reduced_fold op ws (combined op old w.value) h.1

pub three_of : (ws : List Write) (old new : ℤ) → PairsByRecursion Together ws → new ≡ fold applied old ws → IsOneOfThree ws old new
three_of [] old new h e = inr (inr (record { none = refl; same = e }))
three_of (w ∷ ws) old new h e = by w.operator refl
  where
    alone : (vs : List Write) → AllByRecursion (Together w) vs → w.operator ≡ None → vs ≡ []
    alone [] k none = refl
    alone (v ∷ vs) k none = let some : is_some w.operator ≡ true = k.0.0 in let nothing : is_some w.operator ≡ false = ap is_some none in cc

    by : (o : Option Combine) → w.operator ≡ o → IsOneOfThree (w ∷ ws) old new
    by None none =
        let lone : ws ≡ [] = alone ws h.0 none in
        inl (record {
          write = w;
          only = ap (λ vs. w ∷ vs) lone;
          plain = none;
          value = e ∙ ap (λ vs. fold applied old (w ∷ vs)) lone
              ∙ ap (λ o. changed o old w.value) none;
        })
    by (Some op) some =
        let all : AllByRecursion (λ (v : Write). v.operator ≡ Some op) (w ∷ ws) =
        (some, all_weaker (Together w) (λ (v : Write). v.operator ≡ Some op) (λ v k. sym k.1 ∙ some) ws h.0) in
        inr (inl (record {
          operator = op;
          each = All-from_recursion (λ (v : Write). v.operator ≡ Some op) (w ∷ ws) all;
          value = e ∙ reduced_fold op (w ∷ ws) old all;
        }))

-- ---- the array and the subscript of a use

array_at_use : (arrays : List ArrayFacts) (adds : List ℤ) (store : List (List ℤ)) (i : ℤ) (place : ℕ) (before : Option ℤ)
    (references : List Reference) (k : ℕ)
    → (unwrap_or (slice_get (uses_from arrays adds store i place before references) k) no_use).array ≡ option_map_or
    (λ (r : Reference). r.array) (slice_get references k) 0
array_at_use arrays adds store i place before [] k = refl
array_at_use arrays adds store i place before (r ∷ rs) zero = refl
array_at_use arrays adds store i place before (r ∷ rs) (suc k) = array_at_use arrays adds store i (place + 1) _ rs k

pub use_at-array : (arrays : List ArrayFacts) (site : Site) (turn : LoopTurn) (store : List (List ℤ)) (i : ℤ) (number : ℕ)
    → (use_at (uses_of arrays site turn store i) number).array ≡ array_of site.references number
use_at-array arrays site turn store i zero = refl
use_at-array arrays site turn store i (suc k) = array_at_use arrays turn.adds store i 0 None site.references k

-- a plain subscript is the index and its number
pub record IsPlainUse (i add : ℤ) (u : Use) : Type 0 where
  pub defined : u.defined ≡ true
  pub subscript : u.subscript ≡ (i +ℤ add)

plain_first : (s : CheckedSubscript) (i add : ℤ) (before : Option ℤ) → IsPlain s → subscript_of s i add before ≡ Some (i +ℤ add)
plain_first (Plain terms) i add before h = refl
plain_first (Through a b c d) i add before h = absurd h
plain_first (Twice a b c d e f g) i add before h = absurd h
plain_first (Scalar s) i add before h = absurd h

plain_use : (r : Reference) (i add : ℤ) (number : ℕ) (s : Option ℤ) → s ≡ Some (i +ℤ add) → IsPlainUse i add (use_of r i number s)
plain_use r i add number s e = record { defined = ap is_some e; subscript = ap (λ o. unwrap_or o (pos 0)) e }

plain_from : (arrays : List ArrayFacts) (adds : List ℤ) (store : List (List ℤ)) (i : ℤ) (place : ℕ) (before : Option ℤ)
    (references : List Reference) (k : ℕ) (r : Reference)
    → slice_get references k ≡ Some r → IsPlain r.subscript
    → IsPlainUse i (number_at adds (place + k)) (unwrap_or (slice_get (uses_from arrays adds store i place before references) k) no_use)
plain_from arrays adds store i place before [] k r e h = cc
plain_from arrays adds store i place before (x ∷ xs) zero r e h =
    let same : r ≡ x = cc in
    let at : place + zero ≡ place = omega arith in
    plain_use x i (number_at adds (place + zero)) (place + 1) _
    (plain_first x.subscript i (number_at adds place) before (subst (λ (y : Reference). IsPlain y.subscript) same h)
    ∙ ap (λ p. Some (i +ℤ number_at adds p)) (sym at))
plain_from arrays adds store i place before (x ∷ xs) (suc k) r e h =
    let at : place + 1 + k ≡ place + suc k = omega arith in
    let next = index_value arrays store (use_of x i (place + 1) (subscript_of x.subscript i (number_at adds place) before)) in
    subst (λ p. IsPlainUse i (number_at adds p) (unwrap_or (slice_get (uses_from arrays adds store i (place + 1) next xs) k) no_use)) at
    (plain_from arrays adds store i (place + 1) next xs k r e h)

-- ---- no offence

if_none : (a b : Bool) (o : Offence) → (if a && not b then Some o else None) ≡ None → a ≡ true → b ≡ true
if_none true true o e f = refl
if_none true false o e f = cc
if_none false b o e f = cc

sound_use : (arrays : List ArrayFacts) (u : Use) → offence_at arrays u ≡ None → u.defined ≡ true → is_within arrays u.array u.subscript
    ≡ true
sound_use arrays u none defined = if_none u.defined (is_within arrays u.array u.subscript) _ none defined

-- no reference is an offence at this iteration
abbrev pub IsSound : List ArrayFacts → Site → LoopTurn → List (List ℤ) → ℤ → Type 0
IsSound arrays site turn store i = AllByRecursion (λ u. offence_at arrays u ≡ None) (uses_of arrays site turn store i)

none_first : {A : Type 0} (xs : List A) → first_of xs ≡ None → xs ≡ []
none_first [] e = refl
none_first (x ∷ xs) e = cc

pub all_sound : (arrays : List ArrayFacts) (site : Site) (turn : LoopTurn) (store : List (List ℤ)) → offence_of arrays site turn store
    ≡ None
    → AllByRecursion (IsSound arrays site turn store) (iterations_of turn)
all_sound arrays site turn store none =
    all_parts (λ u. offence_at arrays u ≡ None) (uses_of arrays site turn store) (iterations_of turn)
    (none_mapped (offence_at arrays) (flat_map (uses_of arrays site turn store) (iterations_of turn)) (none_first _ none))

abbrev at_place : List Use → ℕ → Use
at_place uses k = unwrap_or (slice_get uses k) no_use

sound_at : (arrays : List ArrayFacts) (uses : List Use) (k : ℕ) → AllByRecursion (λ u. offence_at arrays u ≡ None) uses
    → (at_place uses k).defined ≡ true
    → is_within arrays (at_place uses k).array (at_place uses k).subscript ≡ true
sound_at arrays uses k sound defined = by (slice_get uses k) refl defined
  where
    by : (o : Option Use) → slice_get uses k ≡ o → (unwrap_or o no_use).defined ≡ true
        → is_within arrays (unwrap_or o no_use).array (unwrap_or o no_use).subscript ≡ true
    by None e f = cc
    by (Some u) e f = sound_use arrays u (all_at (λ v. offence_at arrays v ≡ None) uses k u sound e) f

-- ---- two iterations assign different elements

from_one : (z e : ℤ) → (int_le (pos 1) z && int_le z e) ≡ true → (n : ℕ) × (z ≡ pos (suc n))
from_one (pos zero) e h = cc
from_one (pos (suc n)) e h = (n, refl)
from_one (negsuc n) e h = cc

place_is : (z : ℤ) (n place : ℕ) → z ≡ pos (suc n) → place_of z ≡ place → n ≡ place
place_is z n place e f =
    let at : suc n - 1 ≡ place = sym (ap place_of e) ∙ f in omega arith

never_same : (i j add e d : ℤ) (place : ℕ) → (int_le (pos 1) (i +ℤ add) && int_le (i +ℤ add) e) ≡ true
    → (int_le (pos 1) (j +ℤ add) && int_le (j +ℤ add) d) ≡ true
    → place_of (i +ℤ add) ≡ place → place_of (j +ℤ add) ≡ place → i <ℤ j → ⊥
never_same i j add e d place h g at there less =
    let one = from_one (i +ℤ add) e h in
    let two = from_one (j +ℤ add) d g in
    let a : one.0 ≡ place = place_is (i +ℤ add) one.0 place one.1 at in
    let b : two.0 ≡ place = place_is (j +ℤ add) two.0 place two.1 there in
    let same : i +ℤ add ≡ (j +ℤ add) = one.1 ∙ ap (λ n. pos (suc n)) (a ∙ sym b) ∙ sym two.1 in
    omega (arith, ints)

pub both_parts : (a b : Bool) → (a && b) ≡ true → (a ≡ true) × (b ≡ true)
both_parts true true e = (refl, refl)
both_parts true false e = cc
both_parts false b e = cc

reached_array : (array place : ℕ) (w : Write) → reaches array place w ≡ true → w.array ≡ array
reached_array array place w e = eqb-true w.array array (both_parts (w.array == array) (place_of w.subscript == place) e).0

reached_place : (array place : ℕ) (w : Write) → reaches array place w ≡ true → place_of w.subscript ≡ place
reached_place array place w e = eqb-true (place_of w.subscript) place (both_parts (w.array == array) (place_of w.subscript == place) e).1

some_and : {A : Type 0} (o : Option A) (P : A → Type 0) → IsSomeAnd o P → (x : A) × (o ≡ Some x) × P x
some_and None P h = absurd h
some_and (Some x) P h = (x, refl, h)

-- writes that reach an element agree
abbrev pub Agreeing : ℕ → ℕ → Write → Write → Type 0
Agreeing array place v w = reaches array place v ≡ true → reaches array place w ≡ true → Together v w

module _ (arrays : List ArrayFacts) (site : Site) (turn : LoopTurn) (store : List (List ℤ)) (array place : ℕ) where
  abbrev write_at : ℤ → CheckedBody → Write
  write_at i s = write_of turn.terms store i (uses_of arrays site turn store i) s

  abbrev Meets : ℤ → ℤ → CheckedBody → CheckedBody → Type 0
  Meets i j s t = Agreeing array place (write_at i s) (write_at j t)

  -- different statements
  meets_other : (i j : ℤ) (s t : CheckedBody) → Agree site s t → Meets i j s t
  meets_other i j s t agree h g =
      let a : target_array site s ≡ array =
      sym (use_at-array arrays site turn store i (target_of s)) ∙ reached_array array place (write_at i s) h in
      let b : target_array site t ≡ array =
      sym (use_at-array arrays site turn store j (target_of t)) ∙ reached_array array place (write_at j t) g in
      agree (a ∙ sym b)

  turned : (i j : ℤ) (s t : CheckedBody) → Meets i j s t → Meets j i t s
  turned i j s t meets g h = let both = meets h g in (subst (λ o. is_some o ≡ true) both.1 both.0, sym both.1)

  -- one statement at two iterations
  meets_itself : (i j : ℤ) (s : CheckedBody) → i <ℤ j → IsSound arrays site turn store i → IsSound arrays site turn store j
      → IsStatement site s → Meets i j s s
  meets_itself i j s less here there known h g = by (operator_of s) refl
    where
      clash : (number : ℕ) → target_of s ≡ number → operator_of s ≡ None → ⊥
      clash zero e none = let some : 1 ≤ target_of s = known.target.0 in omega (arith, e, some)
      clash (suc k) e none =
          let back : target_of s - 1 ≡ k = omega (arith, e) in
          let found = some_and (slice_get site.references (target_of s - 1)) (λ r. IsPlain r.subscript) (known.plain none) in
          let at : slice_get site.references k ≡ Some found.0 = ap (slice_get site.references) (sym back) ∙ found.1 in
          let add = number_at turn.adds (0 + k) in
          let u = plain_from arrays turn.adds store i 0 None site.references k found.0 at found.2 in
          let v = plain_from arrays turn.adds store j 0 None site.references k found.0 at found.2 in
          let within_i = sound_at arrays (uses_of arrays site turn store i) k here u.defined in
          let within_j = sound_at arrays (uses_of arrays site turn store j) k there v.defined in
          let place_i : place_of (i +ℤ add) ≡ place =
          ap place_of (sym u.subscript) ∙ ap (λ n. place_of (use_at (uses_of arrays site turn store i) n).subscript) (sym e)
          ∙ reached_place array place (write_at i s) h in
          let place_j : place_of (j +ℤ add) ≡ place =
          ap place_of (sym v.subscript) ∙ ap (λ n. place_of (use_at (uses_of arrays site turn store j) n).subscript) (sym e)
          ∙ reached_place array place (write_at j s) g in
          let low = ap (λ z. int_le (pos 1) z
          && int_le z (pos (array_at arrays (at_place (uses_of arrays site turn store i) k).array).extent)) (sym u.subscript)
          ∙ within_i in
          let high = ap (λ z. int_le (pos 1) z
          && int_le z (pos (array_at arrays (at_place (uses_of arrays site turn store j) k).array).extent)) (sym v.subscript)
          ∙ within_j in
          never_same i j add _ _ place low high place_i place_j less

      by : (o : Option Combine) → operator_of s ≡ o → Together (write_at i s) (write_at j s)
      by None none = absurd (clash (target_of s) refl none)
      by (Some op) some = (ap is_some some, refl)

  meets_across : (i j : ℤ) → i <ℤ j → IsSound arrays site turn store i → IsSound arrays site turn store j → IsSite arrays site
      → Cross (Agreeing array place) (writes_at arrays site turn store i) (writes_at arrays site turn store j)
  meets_across i j less here there known =
      let agreed = pairs_from_AllPairs (Agree site) site.body known.agreed in
      let itself = all_weaker (IsStatement site) (λ s. Meets i j s s) (λ s k. meets_itself i j s less here there k) site.body
      (recursion_from_All (IsStatement site) site.body known.body) in
      let all = square (Meets i j) site.body itself
      (pairs_weaker (Agree site) (λ s t. Meets i j s t × Meets i j t s)
      (λ s t agree. (meets_other i j s t agree, turned j i s t (meets_other j i s t agree))) site.body agreed) in
      all_map (λ v. AllByRecursion (Agreeing array place v) (writes_at arrays site turn store j)) (write_at i) site.body
      (all_weaker (λ s. AllByRecursion (Meets i j s) site.body) (λ s. AllByRecursion (Agreeing array place (write_at i s))
      (writes_at arrays site turn store j))
      (λ s k. all_map (Agreeing array place (write_at i s)) (write_at j) site.body k) site.body all)

  meets_within : (i : ℤ) → IsSite arrays site → PairsByRecursion (Agreeing array place) (writes_at arrays site turn store i)
  meets_within i known =
      pairs_map (Agreeing array place) (write_at i) site.body
      (pairs_weaker (Agree site) (Meets i i) (λ s t agree. meets_other i i s t agree) site.body
      (pairs_from_AllPairs (Agree site) site.body known.agreed))

-- a range ascends
all_above : (low z : ℤ) (n : ℕ) → low <ℤ z → AllByRecursion (λ j. low <ℤ j) (counted_from z n)
all_above low z zero h = tt
all_above low z (suc n) h = let next : low <ℤ (z +ℤ pos 1) = omega (arith, ints) in (h, all_above low (z +ℤ pos 1) n next)

pub range_ascends : (z : ℤ) (n : ℕ) → PairsByRecursion (λ i j. i <ℤ j) (counted_from z n)
range_ascends z zero = tt
range_ascends z (suc n) = let next : z <ℤ (z +ℤ pos 1) = omega (arith, ints) in
    (all_above z (z +ℤ pos 1) n next, range_ascends (z +ℤ pos 1) n)

pub writes_agree : (arrays : List ArrayFacts) (site : Site) (turn : LoopTurn) (store : List (List ℤ)) (array place : ℕ) → IsSite arrays site
    → offence_of arrays site turn store ≡ None → PairsByRecursion (Agreeing array place) (writes_of arrays site turn store)
writes_agree arrays site turn store array place known none =
    let sound = all_sound arrays site turn store none in
    pairs_flat_map (Agreeing array place) (writes_at arrays site turn store) (iterations_of turn)
    (all_weaker (IsSound arrays site turn store) (λ i. PairsByRecursion (Agreeing array place) (writes_at arrays site turn store i))
    (λ i k. meets_within arrays site turn store array place i known) (iterations_of turn) sound)
    (pairs_of (IsSound arrays site turn store) (λ i j. i <ℤ j) (λ i j. Cross (Agreeing array place) (writes_at arrays site turn store i)
    (writes_at arrays site turn store j))
    (λ i j here there less. meets_across arrays site turn store array place i j less here there known) (iterations_of turn) sound
    (range_ascends turn.low (count_between turn.low turn.high)))

pub three_cases : LoopHasThreeCases
three_cases arrays site turn store array place known none ha hp =
    let agreed = pairs_filter (Agreeing array place) (reaches array place) (writes_of arrays site turn store)
    (writes_agree arrays site turn store array place known none) in
    three_of (writes_to array place (writes_of arrays site turn store)) _ _
    (pairs_weaker (λ v w. (reaches array place v ≡ true) × (reaches array place w ≡ true) × Agreeing array place v w) Together
    (λ v w k. k.2 k.0 k.1)
    (writes_to array place (writes_of arrays site turn store)) agreed)
    (element_after_writes (writes_of arrays site turn store) store array place ha hp)
