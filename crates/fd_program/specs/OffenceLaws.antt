-- The offence of a loop is the least one: of the least iteration, and there of the least reference.
use Rattle.std.specs.Prelude.{◌≡◌, refl, ℕ, zero, suc, ◌+◌, ◌<◌, ◌≤◌, ℤ, pos, negsuc, ◌+ℤ◌, ◌-ℤ◌, ◌<ℤ◌, ◌≤ℤ◌, ◌⊎◌, Bool, true, false, not}
use Rattle.std.specs.Prelude.{◌&&◌, if◌then◌else◌, List, [], ◌∷◌, length, flat_map, slice_get, unwrap_or, Option, Some, None}
use Rattle.std.specs.List.{AllByRecursion}
use Rattle.std.proofs.Common.{ap, sym, ◌∙◌, subst, arith, inl, inr}
use Rattle.std.proofs.lemmas.Int.{ints}
use Rattle.fd_words.specs.declared.place.Offence.{Offence}
use Rattle.chaos_dist.specs.Homes.{natural}
use Rattle.fd_program.specs.ListLaws.{PairsByRecursion, pairs_flat_map, pairs_of, Cross, Among, among_all, all_among, among_flat_map}
use Rattle.fd_program.specs.ListLaws.{from_flat_map, among_filter_map, from_filter_map, pairs_filter_map}
use Rattle.fd_program.specs.LoopCases.{range_ascends}
use Rattle.fd_program.specs.Loops.{counted_from, count_between, iterations_of, offence_at, offences_in, offence_of, first_of}
use Rattle.fd_program.specs.Stores.{is_within, number_at}
use Rattle.fd_program.specs.Uses.{index_value, subscript_of, use_of, uses_from, uses_of, use_at, no_use}
use Rattle.fd_program.specs.declared.array.ArrayFacts.{ArrayFacts}
use Rattle.fd_program.specs.declared.loop_use.Use.{Use}
use Rattle.fd_program.specs.declared.reference.Reference.{Reference}
use Rattle.fd_program.specs.declared.site.Site.{Site}
use Rattle.fd_program.specs.declared.trace.LoopTurn.{LoopTurn}

-- at this iteration of the range the reference with this number has this subscript, and its array no such element
pub record IsOffence (arrays : List ArrayFacts) (site : Site) (turn : LoopTurn) (store : List (List ℤ)) (o : Offence) : Type 0 where
  pub low : turn.low ≤ℤ o.iteration
  pub high : o.iteration ≤ℤ turn.high
  pub first : 1 ≤ o.reference
  pub last : o.reference ≤ length site.references
  pub defined : (use_at (uses_of arrays site turn store o.iteration) o.reference).defined ≡ true
  pub subscript : (use_at (uses_of arrays site turn store o.iteration) o.reference).subscript ≡ o.subscript
  pub outside : is_within arrays (use_at (uses_of arrays site turn store o.iteration) o.reference).array o.subscript ≡ false

-- by iteration, then by reference
abbrev pub IsBeforeOffence : Offence → Offence → Type 0
IsBeforeOffence o p = (o.iteration <ℤ p.iteration) ⊎ ((o.iteration ≡ p.iteration) × (o.reference < p.reference))

-- an offence that no other is before, or none where there is none
abbrev pub IsLeastOffence : List ArrayFacts → Site → LoopTurn → List (List ℤ) → Option Offence → Type 0
IsLeastOffence arrays site turn store None = (p : Offence) → IsOffence arrays site turn store p → ⊥
IsLeastOffence arrays site turn store (Some o) =
    IsOffence arrays site turn store o × ((p : Offence) → IsOffence arrays site turn store p → (p ≡ o) ⊎ IsBeforeOffence o p)

abbrev pub OffenceIsLeast : Type 0
OffenceIsLeast =
    (arrays : List ArrayFacts) (site : Site) (turn : LoopTurn) (store : List (List ℤ))
    → IsLeastOffence arrays site turn store (offence_of arrays site turn store)

-- ---- ranges

natural_is : (z : ℤ) → pos 0 ≤ℤ z → pos (natural z) ≡ z
natural_is (pos n) h = refl
natural_is (negsuc n) h = absurd (omega (arith, ints))

among_counted : (z : ℤ) (n k : ℕ) (i : ℤ) → k < n → i ≡ (z +ℤ pos k) → Among i (counted_from z n)
among_counted z zero k i less e = absurd (omega arith)
among_counted z (suc n) zero i less e = inl (omega (arith, ints, e))
among_counted z (suc n) (suc k) i less e =
    let next : i ≡ (z +ℤ pos 1 +ℤ pos k) = omega (arith, ints, e) in inr (among_counted (z +ℤ pos 1) n k i (omega arith) next)

from_counted : (z : ℤ) (n : ℕ) (i : ℤ) → Among i (counted_from z n) → (z ≤ℤ i) × (i <ℤ (z +ℤ pos n))
from_counted z zero i a = absurd a
from_counted z (suc n) i (inl e) = (omega (arith, ints, e), omega (arith, ints, e))
from_counted z (suc n) i (inr a) =
    let rest = from_counted (z +ℤ pos 1) n i a in
    let low : (z +ℤ pos 1) ≤ℤ i = rest.0 in
    let high : i <ℤ (z +ℤ pos 1 +ℤ pos n) = rest.1 in
    (omega (arith, ints), omega (arith, ints))

among_range : (low high i : ℤ) → low ≤ℤ i → i ≤ℤ high → Among i (counted_from low (count_between low high))
among_range low high i h g =
    let here : pos 0 ≤ℤ (i -ℤ low) = omega (arith, ints) in
    let there : pos 0 ≤ℤ (high -ℤ low +ℤ pos 1) = omega (arith, ints) in
    let k : pos (natural (i -ℤ low)) ≡ (i -ℤ low) = natural_is (i -ℤ low) here in
    let n : pos (count_between low high) ≡ (high -ℤ low +ℤ pos 1) = natural_is (high -ℤ low +ℤ pos 1) there in
    let less : natural (i -ℤ low) < count_between low high = omega (arith, ints, k, n) in
    let at : i ≡ (low +ℤ pos (natural (i -ℤ low))) = omega (arith, ints, k) in
    among_counted low (count_between low high) (natural (i -ℤ low)) i less at

from_range : (low high i : ℤ) → Among i (counted_from low (count_between low high)) → (low ≤ℤ i) × (i ≤ℤ high)
from_range low high i a = by (high -ℤ low +ℤ pos 1) refl a
  where
    by : (z : ℤ) → (high -ℤ low +ℤ pos 1) ≡ z → Among i (counted_from low (natural z)) → (low ≤ℤ i) × (i ≤ℤ high)
    by (pos n) e b =
        let within = from_counted low n i b in
        let below : i <ℤ (low +ℤ pos n) = within.1 in
        (within.0, omega (arith, ints, e, below))
    by (negsuc n) e b = absurd b

-- ---- the uses of an iteration

pub record IsUseAt (i : ℤ) (number : ℕ) (u : Use) : Type 0 where
  pub iteration : u.iteration ≡ i
  pub numbered : u.number ≡ number

module _ (arrays : List ArrayFacts) (adds : List ℤ) (store : List (List ℤ)) (i : ℤ) where
  use_there : (place : ℕ) (before : Option ℤ) (references : List Reference) (k : ℕ) → k < length references
      → (u : Use) × (slice_get (uses_from arrays adds store i place before references) k ≡ Some u) × IsUseAt i (place + k + 1) u
      × Among u (uses_from arrays adds store i place before references)
  use_there place before [] k less = absurd (omega arith)
  use_there place before (r ∷ rs) zero less =
      let at : place + 1 ≡ place + zero + 1 = omega arith in (
        use_of r i (place + 1) (subscript_of r.subscript i (number_at adds place) before),
        refl,
        record { iteration = refl; numbered = at },
        inl refl,
      )
  use_there place before (r ∷ rs) (suc k) less =
      let found = use_there (place + 1)
      (index_value arrays store (use_of r i (place + 1) (subscript_of r.subscript i (number_at adds place) before))) rs k
      (omega arith) in
      let at : place + 1 + k + 1 ≡ place + suc k + 1 = omega arith in
      (found.0, found.1, record { iteration = found.2.iteration; numbered = found.2.numbered ∙ at }, inr found.3)

  use_from : (place : ℕ) (before : Option ℤ) (references : List Reference) (u : Use)
      → Among u (uses_from arrays adds store i place before references)
      → (k : ℕ) × (k < length references) × (slice_get (uses_from arrays adds store i place before references) k ≡ Some u)
      × IsUseAt i (place + k + 1) u
  use_from place before [] u a = absurd a
  use_from place before (r ∷ rs) u (inl e) =
      let at : place + 1 ≡ place + zero + 1 = omega arith in (
        0,
        omega arith,
        ap (λ v. Some v) (sym e),
        record {
          iteration = ap (λ (v : Use). v.iteration) e;
          numbered = ap (λ (v : Use). v.number) e ∙ at;
        },
      )
  use_from place before (r ∷ rs) u (inr a) =
      let found = use_from (place + 1)
      (index_value arrays store (use_of r i (place + 1) (subscript_of r.subscript i (number_at adds place) before))) rs u a in
      let at : place + 1 + found.0 + 1 ≡ place + suc found.0 + 1 = omega arith in
      (suc found.0, omega (arith, found.1), found.2, record { iteration = found.3.iteration; numbered = found.3.numbered ∙ at })

abbrev BeforeUse : Use → Use → Type 0
BeforeUse u v = (u.iteration <ℤ v.iteration) ⊎ ((u.iteration ≡ v.iteration) × (u.number < v.number))

uses_ascend : (arrays : List ArrayFacts) (adds : List ℤ) (store : List (List ℤ)) (i : ℤ) (place : ℕ) (before : Option ℤ)
    (references : List Reference)
    → PairsByRecursion BeforeUse (uses_from arrays adds store i place before references)
uses_ascend arrays adds store i place before [] = tt
uses_ascend arrays adds store i place before (r ∷ rs) =
    let u = use_of r i (place + 1) (subscript_of r.subscript i (number_at adds place) before) in (
      among_all (BeforeUse u) (uses_from arrays adds store i (place + 1) (index_value arrays store u) rs) (λ v a.
          let found = use_from arrays adds store i (place + 1) (index_value arrays store u) rs v a in
          let more : place + 1 < v.number = omega (arith, found.3.numbered) in
          inr (sym found.3.iteration, more)),
      uses_ascend arrays adds store i (place + 1) (index_value arrays store u) rs,
    )

-- ---- the law

if_some : (a b : Bool) (o p : Offence) → (if a && not b then Some o else None) ≡ Some p → (a ≡ true) × (b ≡ false) × (o ≡ p)
if_some true true o p e = cc
if_some true false o p e = (refl, refl, cc)
if_some false b o p e = cc

some_if : (a b : Bool) (o p : Offence) → a ≡ true → b ≡ false → o ≡ p → (if a && not b then Some o else None) ≡ Some p
some_if a b o p e f g = ap (λ x. if x && not b then Some o else None) e ∙ ap (λ y. if true && not y then Some o else None) f
    ∙ ap (λ q. Some q) g

abbrev offence_with : ℤ → ℕ → ℤ → Offence
offence_with i number z = record { iteration = i; reference = number; subscript = z }

module _ (arrays : List ArrayFacts) (site : Site) (turn : LoopTurn) (store : List (List ℤ)) where
  abbrev uses_in : ℤ → List Use
  uses_in i = uses_of arrays site turn store i

  iteration_of : (i : ℤ) (u : Use) → Among u (uses_in i) → u.iteration ≡ i
  iteration_of i u a = (use_from arrays turn.adds store i 0 None site.references u a).3.iteration

  all_ascend : PairsByRecursion BeforeUse (flat_map uses_in (iterations_of turn))
  all_ascend =
      pairs_flat_map BeforeUse uses_in (iterations_of turn)
      (among_all (λ i. PairsByRecursion BeforeUse (uses_in i)) (iterations_of turn)
      (λ i a. uses_ascend arrays turn.adds store i 0 None site.references))
      (pairs_of (λ i. Unit {0}) (λ i j. i <ℤ j) (λ i j. Cross BeforeUse (uses_in i) (uses_in j)) (λ i j here there less.
      among_all (λ u. AllByRecursion (BeforeUse u) (uses_in j)) (uses_in i) (λ u a. among_all (BeforeUse u) (uses_in j) (λ v b.
      let first : u.iteration ≡ i = iteration_of i u a in
      let second : v.iteration ≡ j = iteration_of j v b in
      inl (omega (arith, ints, first, second, less)))))
      (iterations_of turn) (among_all (λ i. Unit {0}) (iterations_of turn) (λ i a. tt))
      (range_ascends turn.low (count_between turn.low turn.high)))

  ascend : PairsByRecursion IsBeforeOffence (offences_in arrays site turn store (iterations_of turn))
  ascend = pairs_filter_map BeforeUse IsBeforeOffence (offence_at arrays) (λ u v o p e f before.
      let one = if_some u.defined (is_within arrays u.array u.subscript) _ o e in
      let two = if_some v.defined (is_within arrays v.array v.subscript) _ p f in
      by u v o p (ap (λ (q : Offence). q.iteration) one.2) (ap (λ (q : Offence). q.reference) one.2)
      (ap (λ (q : Offence). q.iteration) two.2) (ap (λ (q : Offence). q.reference) two.2) before)
      (flat_map uses_in (iterations_of turn)) all_ascend
    where
      by : (u v : Use) (o p : Offence) → u.iteration ≡ o.iteration → u.number ≡ o.reference → v.iteration ≡ p.iteration
          → v.number ≡ p.reference → BeforeUse u v → IsBeforeOffence o p
      by u v o p a b c d (inl less) = inl (omega (arith, ints, a, c, less))
      by u v o p a b c d (inr (same, less)) = inr (sym a ∙ same ∙ c, omega (arith, b, d, less))

  among_offences : (p : Offence) → IsOffence arrays site turn store p → Among p (offences_in arrays site turn store (iterations_of turn))
  among_offences p h = by p.reference refl h.first h.last
    where
      by : (number : ℕ) → p.reference ≡ number → 1 ≤ p.reference → p.reference ≤ length site.references
          → Among p (offences_in arrays site turn store (iterations_of turn))
      by zero e some last = absurd (omega (arith, e, some))
      by (suc k) e some last =
          let found = use_there arrays turn.adds store p.iteration 0 None site.references k (omega (arith, e, last)) in
          let u : Use = found.0 in
          let at : use_at (uses_in p.iteration) p.reference ≡ u = ap (use_at (uses_in p.iteration)) e
          ∙ ap (λ o. unwrap_or o no_use) found.1 in
          let number : u.number ≡ p.reference = omega (arith, e, found.2.numbered) in
          let subscript : u.subscript ≡ p.subscript = ap (λ (v : Use). v.subscript) (sym at) ∙ h.subscript in
          let whole : offence_with u.iteration u.number u.subscript ≡ p =
          ap (λ i. offence_with i u.number u.subscript) found.2.iteration ∙ ap (λ n. offence_with p.iteration n u.subscript) number
          ∙ ap (offence_with p.iteration p.reference) subscript in
          let outside : is_within arrays u.array u.subscript ≡ false =
          ap (is_within arrays u.array) subscript ∙ ap (λ (v : Use). is_within arrays v.array p.subscript) (sym at) ∙ h.outside in
          among_filter_map (offence_at arrays) (flat_map uses_in (iterations_of turn)) u p
          (among_flat_map uses_in (iterations_of turn) p.iteration u (among_range turn.low turn.high p.iteration h.low h.high) found.3)
          (some_if u.defined (is_within arrays u.array u.subscript) _ p (ap (λ (v : Use). v.defined) (sym at) ∙ h.defined) outside whole)

  is_offence : (o : Offence) → Among o (offences_in arrays site turn store (iterations_of turn)) → IsOffence arrays site turn store o
  is_offence o a =
      let source = from_filter_map (offence_at arrays) (flat_map uses_in (iterations_of turn)) o a in
      let u : Use = source.0 in
      let facts = if_some u.defined (is_within arrays u.array u.subscript) _ o source.2 in
      let at = from_flat_map uses_in (iterations_of turn) u source.1 in
      let found = use_from arrays turn.adds store at.0 0 None site.references u at.2 in
      let iteration : at.0 ≡ o.iteration = sym found.3.iteration ∙ ap (λ (q : Offence). q.iteration) facts.2 in
      let number : o.reference ≡ suc found.0 = (let same : u.number ≡ o.reference = ap (λ (q : Offence). q.reference) facts.2 in
      omega (arith, same, found.3.numbered)) in
      let it : use_at (uses_in o.iteration) o.reference ≡ u =
      ap (λ i. use_at (uses_in i) o.reference) (sym iteration) ∙ ap (use_at (uses_in at.0)) number ∙ ap (λ x. unwrap_or x no_use) found.2 in
      let range = from_range turn.low turn.high at.0 at.1 in
      let subscript : u.subscript ≡ o.subscript = ap (λ (q : Offence). q.subscript) facts.2 in
      record {
        low = subst (λ i. turn.low ≤ℤ i) iteration range.0;
        high = subst (λ i. i ≤ℤ turn.high) iteration range.1;
        first = omega (arith, number);
        last = omega (arith, number, found.1);
        defined = ap (λ (v : Use). v.defined) it ∙ facts.0;
        subscript = ap (λ (v : Use). v.subscript) it ∙ subscript;
        outside = ap (λ (v : Use). is_within arrays v.array o.subscript) it ∙ ap (is_within arrays u.array) (sym subscript) ∙ facts.1;
      }

  least_of : (xs : List Offence) → ((o : Offence) → Among o xs → IsOffence arrays site turn store o)
      → ((p : Offence) → IsOffence arrays site turn store p → Among p xs)
      → PairsByRecursion IsBeforeOffence xs → IsLeastOffence arrays site turn store (first_of xs)
  least_of [] sound whole pairs = λ p h. whole p h
  least_of (o ∷ rest) sound whole pairs = (
    sound o (inl refl),
    λ p h. elim (whole p h) [
      | inl same ↦ inl same
      | inr a ↦ inr (all_among (IsBeforeOffence o) rest p pairs.0 a)
    ],
  )

pub offence_is_least : OffenceIsLeast
offence_is_least arrays site turn store =
    least_of arrays site turn store (offences_in arrays site turn store (iterations_of turn)) (is_offence arrays site turn store)
    (among_offences arrays site turn store)
    (ascend arrays site turn store)
