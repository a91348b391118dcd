-- Where a loop has no offence, each of its references reaches an element.
use Rattle.std.proofs.Common.{◌≡◌, ℕ, ◌+◌, ℤ, Bool, true, false, cond, List, [], ◌∷◌, Option, Some, None, refl, ap, ◌∙◌}
use Rattle.std.specs.Prelude.{not, ◌&&◌, is_some}
use Rattle.std.specs.Option.{option_map}
use Rattle.std.specs.List.{AllByRecursion}
use Rattle.fd_words.specs.declared.place.Offence.{Offence}
use Rattle.fd_words.specs.declared.place.Role.TheVariants.{Index}
use Rattle.fd_program.specs.Checks.{AreServed, IsServed, IsSite}
use Rattle.fd_program.specs.Homes.{uses_at}
use Rattle.fd_program.specs.ListLaws.{all_weaker}
use Rattle.fd_program.specs.LoopCases.{all_sound}
use Rattle.fd_program.specs.Loops.{iterations_of, offence_at, offence_of}
use Rattle.fd_program.specs.Stores.{number_at, is_within}
use Rattle.fd_program.specs.Uses.{index_value, is_met, read_of, subscript_of, use_of, uses_from}
use Rattle.fd_words.specs.Roles.{is_index}
use Rattle.fd_program.specs.declared.array.ArrayFacts.{ArrayFacts}
use Rattle.fd_program.specs.declared.loop_facts.LoopFacts.{LoopFacts}
use Rattle.fd_program.specs.declared.loop_use.Use.{Use}
use Rattle.fd_program.specs.declared.reference.CheckedSubscript.{CheckedSubscript}
use Rattle.fd_program.specs.declared.reference.CheckedSubscript.TheVariants.{Plain, Through, Twice, Scalar}
use Rattle.fd_program.specs.declared.reference.Reference.{Reference}

abbrev pub AllMet : List ArrayFacts → List Use → Type 0
AllMet arrays us = AllByRecursion (λ u. is_met arrays u ≡ true) us

some_none : {P : Type 0} (o : Offence) → Some o ≡ None → P
some_none o e = cc

inside : (defined within : Bool) (o : Offence) → cond (defined && not within) (Some o) None ≡ None → defined ≡ true
    → (defined && within) ≡ true
inside true true o e d = refl
inside true false o e d = some_none o e
inside false within o e d = cc

-- with this reference before, it gave an element
abbrev HasGiven : Option Reference → Option ℤ → Type 0
HasGiven None before = Unit {0}
HasGiven (Some r) before = r.role ≡ Index → is_some before ≡ true

given_some : (o : Option ℤ) (add : ℤ) (f : ℤ → ℤ) → is_some o ≡ true → is_some (option_map f o) ≡ true
given_some (Some z) add f e = refl
given_some None add f e = e

module _ (arrays : List ArrayFacts) (adds : List ℤ) (store : List (List ℤ)) (i : ℤ) where
  defined_by : (before_it : Option Reference) (before : Option ℤ) (s : CheckedSubscript) (add : ℤ) → HasGiven before_it before
      → IsServed before_it s
      → is_some (subscript_of s i add before) ≡ true
  defined_by before_it before (Plain terms) add given served = refl
  defined_by None before (Through array at inner terms) add given served = absurd served
  defined_by (Some r) before (Through array at inner terms) add given served = given_some before add _ (given served.role)
  defined_by None before (Twice outer at inner inner_at first second terms) add given served = absurd served
  defined_by (Some r) before (Twice outer at inner inner_at first second terms) add given served =
      given_some before add _ (given served.role)
  defined_by before_it before (Scalar scalar) add given served = refl

  met_from : (before_it : Option Reference) (place : ℕ) (before : Option ℤ) (references : List Reference) → HasGiven before_it before
      → AreServed before_it references
      → AllByRecursion (λ u. offence_at arrays u ≡ None) (uses_from arrays adds store i place before references)
      → AllMet arrays (uses_from arrays adds store i place before references)
  met_from before_it place before [] given served sound = tt
  met_from before_it place before (r ∷ rs) given served sound =
      let u = use_of r i (place + 1) (subscript_of r.subscript i (number_at adds place) before) in
      let defined : u.defined ≡ true = defined_by before_it before r.subscript (number_at adds place) given served.0 in
      let met : is_met arrays u ≡ true = inside u.defined (is_within arrays u.array u.subscript) _ sound.0 defined in
      let gives : HasGiven (Some r) (index_value arrays store u) = λ role.
      ap (λ t. is_some (cond (is_index t && is_met arrays u) (Some (read_of store u)) None)) role
      ∙ ap (λ b. is_some (cond b (Some (read_of store u)) None)) met in
      (met, met_from (Some r) (place + 1) (index_value arrays store u) rs gives served.1 sound.1)

-- at each iteration
pub all_met : (f : LoopFacts) (store : List (List ℤ)) → IsSite f.arrays f.site → offence_of f.arrays f.site f.turn store ≡ None
    → AllByRecursion (λ i. AllMet f.arrays (uses_at f store i)) (iterations_of f.turn)
all_met f store site none =
    all_weaker (λ i. AllByRecursion (λ u. offence_at f.arrays u ≡ None) (uses_at f store i)) (λ i. AllMet f.arrays (uses_at f store i))
    (λ i sound. met_from f.arrays f.turn.adds store i None 0 None f.site.references tt site.served sound)
    (iterations_of f.turn) (all_sound f.arrays f.site f.turn store none)
