-- Each subscript is the exact number that its form says.
use Rattle.std.specs.Prelude.{◌≡◌, refl, ℕ, zero, suc, ◌+◌, ℤ, pos, ◌+ℤ◌, Bool, true, false, ◌&&◌, if◌then◌else◌, List, [], ◌∷◌}
use Rattle.std.specs.Prelude.{slice_get, unwrap_or, Option, Some, None, is_some}
use Rattle.std.specs.Option.{option_map}
use Rattle.std.proofs.Common.{ap, sym, ◌∙◌, subst, arith}
use Rattle.fd_words.specs.declared.place.Role.TheVariants.{Index}
use Rattle.fd_program.specs.Checks.{AreServed, IsServed}
use Rattle.fd_program.specs.Stores.{number_at}
use Rattle.fd_program.specs.Uses.{is_met, read_of, index_value, subscript_of, use_of, uses_from, uses_of, use_at, no_use}
use Rattle.fd_words.specs.Roles.{is_index}
use Rattle.fd_program.specs.declared.array.ArrayFacts.{ArrayFacts}
use Rattle.fd_program.specs.declared.loop_use.Use.{Use}
use Rattle.fd_program.specs.declared.reference.CheckedSubscript.{CheckedSubscript}
use Rattle.fd_program.specs.declared.reference.CheckedSubscript.TheVariants.{Plain, Through, Twice, Scalar}
use Rattle.fd_program.specs.declared.reference.Reference.{Reference}
use Rattle.fd_program.specs.declared.site.Site.{Site}
use Rattle.fd_program.specs.declared.trace.LoopTurn.{LoopTurn}

-- what the index reference before it reads in this array, if the array has it, and the number that is added
pub record IsBehind (arrays : List ArrayFacts) (store : List (List ℤ)) (array : ℕ) (add : ℤ) (previous u : Use) : Type 0 where
  pub named : previous.array ≡ array
  pub defined : u.defined ≡ is_met arrays previous
  pub subscript : u.subscript ≡ (if is_met arrays previous then read_of store previous +ℤ add else pos 0)

-- `add` is the reference's number and `previous` the reference directly before it: the subscript is the index plus `add`, or what
-- `previous` reads, if it reads an element, plus `add`, or `add`
abbrev pub IsExactUse : List ArrayFacts → List (List ℤ) → ℤ → ℤ → CheckedSubscript → Use → Use → Type 0
IsExactUse arrays store i add (Plain terms) previous u = (u.defined ≡ true) × (u.subscript ≡ (i +ℤ add))
IsExactUse arrays store i add (Through index_array at inner_terms terms) previous u = IsBehind arrays store index_array add previous u
IsExactUse arrays store i add (Twice outer at inner inner_at first_terms second_terms terms) previous u =
    IsBehind arrays store outer add previous u
IsExactUse arrays store i add (Scalar scalar) previous u = (u.defined ≡ true) × (u.subscript ≡ add)

abbrev pub SubscriptsAreExact : Type 0
SubscriptsAreExact =
    (arrays : List ArrayFacts) (site : Site) (turn : LoopTurn) (store : List (List ℤ)) (i : ℤ) (place : ℕ) (r : Reference)
    → AreServed None site.references → slice_get site.references place ≡ Some r
    → IsExactUse arrays store i (number_at turn.adds place) r.subscript (use_at (uses_of arrays site turn store i) place)
    (use_at (uses_of arrays site turn store i) (suc place))

module _ (arrays : List ArrayFacts) (adds : List ℤ) (store : List (List ℤ)) (i : ℤ) where
  -- `before` is what the reference directly before gives, and `previous` its use
  abbrev IsGiven : Option Reference → Use → Option ℤ → Type 0
  IsGiven None previous before = Unit {0}
  IsGiven (Some x) previous before =
      (previous.role ≡ x.role) × (previous.array ≡ x.array) × (before ≡ index_value arrays store previous)

  behind : (array : ℕ) (add : ℤ) (x : Reference) (previous : Use) (before : Option ℤ) (r : Reference) (place : ℕ)
      → IsGiven (Some x) previous before → x.role ≡ Index → x.array ≡ array
      → IsBehind arrays store array add previous (use_of r i place (option_map (λ z. z +ℤ add) before))
  behind array add x previous before r place given role same =
      let told : before ≡ (if is_met arrays previous then Some (read_of store previous) else None) =
      given.2 ∙ ap (λ t. if is_index t && is_met arrays previous then Some (read_of store previous) else None) (given.0 ∙ role) in
      record {
        named = given.1 ∙ same;
        defined = ap (λ o. is_some (option_map (λ z. z +ℤ add) o)) told ∙ (by (is_met arrays previous)).0;
        subscript = ap (λ o. unwrap_or (option_map (λ z. z +ℤ add) o) (pos 0)) told ∙ (by (is_met arrays previous)).1;
      }
    where
      by : (w : Bool) → (is_some (option_map (λ z. z +ℤ add) (if w then Some (read_of store previous) else None)) ≡ w)
          × (unwrap_or (option_map (λ z. z +ℤ add) (if w then Some (read_of store previous) else None)) (pos 0)
          ≡ (if w then read_of store previous +ℤ add else pos 0))
      by true = (refl, refl)
      by false = (refl, refl)

  first_exact : (last : Option Reference) (previous : Use) (before : Option ℤ) (r : Reference) (place : ℕ) (add : ℤ)
      (s : CheckedSubscript) → IsGiven last previous before → IsServed last s
      → IsExactUse arrays store i add s previous (use_of r i place (subscript_of s i add before))
  first_exact last previous before r place add (Plain terms) given served = (refl, refl)
  first_exact None previous before r place add (Through array at inner_add terms) given served = absurd served
  first_exact (Some x) previous before r place add (Through array at inner_add terms) given served =
      behind array add x previous before r place given served.role served.array
  first_exact None previous before r place add (Twice outer at inner inner_at first_add second_add terms) given served = absurd served
  first_exact (Some x) previous before r place add (Twice outer at inner inner_at first_add second_add terms) given served =
      behind outer add x previous before r place given served.role served.array
  first_exact last previous before r place add (Scalar scalar) given served = (refl, refl)

  -- the use at a place, and the one before it
  abbrev at : List Use → ℕ → Use
  at uses k = unwrap_or (slice_get uses k) no_use

  abbrev before_at : Use → List Use → ℕ → Use
  before_at previous uses zero = previous
  before_at previous uses (suc k) = at uses k

  one_further : (previous u : Use) (us : List Use) (k : ℕ) → before_at u us k ≡ before_at previous (u ∷ us) (suc k)
  one_further previous u us zero = refl
  one_further previous u us (suc k) = refl

  exact_from : (last : Option Reference) (previous : Use) (place : ℕ) (before : Option ℤ) (references : List Reference) (k : ℕ)
      (r : Reference) → IsGiven last previous before → AreServed last references → slice_get references k ≡ Some r
      → IsExactUse arrays store i (number_at adds (place + k)) r.subscript
      (before_at previous (uses_from arrays adds store i place before references) k)
      (at (uses_from arrays adds store i place before references) k)
  exact_from last previous place before [] k r given served e = cc
  exact_from last previous place before (x ∷ xs) zero r given served e =
      let same : x ≡ r = cc in
      let here : place ≡ place + zero = omega arith in
      let u = use_of x i (place + 1) (subscript_of x.subscript i (number_at adds place) before) in
      subst (λ (y : Reference). IsExactUse arrays store i (number_at adds (place + zero)) y.subscript previous u) same
      (subst (λ p. IsExactUse arrays store i (number_at adds p) x.subscript previous u) here
      (first_exact last previous before x (place + 1) (number_at adds place) x.subscript given served.0))
  exact_from last previous place before (x ∷ xs) (suc k) r given served e =
      let there : place + 1 + k ≡ place + suc k = omega arith in
      let u = use_of x i (place + 1) (subscript_of x.subscript i (number_at adds place) before) in
      let next = index_value arrays store u in
      let us = uses_from arrays adds store i (place + 1) next xs in
      subst (λ v. IsExactUse arrays store i (number_at adds (place + suc k)) r.subscript v (at us k)) (one_further previous u us k)
      (subst (λ p. IsExactUse arrays store i (number_at adds p) r.subscript (before_at u us k) (at us k)) there
      (exact_from (Some x) u (place + 1) next xs k r (refl, refl, refl) served.1 e))

pub subscripts_are_exact : SubscriptsAreExact
subscripts_are_exact arrays site turn store i zero r served e =
    exact_from arrays turn.adds store i None no_use 0 None site.references zero r tt served e
subscripts_are_exact arrays site turn store i (suc k) r served e =
    let at : 0 + suc k ≡ suc k = omega arith in
    let uses = uses_of arrays site turn store i in
    subst (λ p. IsExactUse arrays store i (number_at turn.adds p) r.subscript (use_at uses (suc k)) (use_at uses (suc (suc k)))) at
    (exact_from arrays turn.adds store i None no_use 0 None site.references (suc k) r tt served e)
