-- In a loop without an offence each reference reaches an element.
use Rattle.std.proofs.Common.{◌≡◌, ℕ, ◌+◌, ℤ, Bool, true, false, not, ◌&&◌, List, [], ◌∷◌, Option, Some, None, refl, ap, sym, ◌∙◌}
use Rattle.std.specs.Prelude.{if◌then◌else◌, IsSomeAnd, is_some}
use Rattle.std.specs.Option.{option_map}
use Rattle.std.specs.List.{AllByRecursion}
use Rattle.std.proofs.lemmas.Option.{none-some}
use Rattle.fd_words.specs.declared.place.Offence.{Offence}
use Rattle.fd_words.specs.declared.place.Role.TheVariants.{Index}
use Rattle.inspect_enter.specs.Rows.{AreMet}
use Rattle.inspect_uses.specs.Accepted.{IsAccepted}
use Rattle.fd_program.specs.Checks.{IsIndexFor, IsServed, AreServed}
use Rattle.fd_program.specs.Homes.{executed_by}
use Rattle.fd_program.specs.ListLaws.{all_weaker, all_filter}
use Rattle.fd_program.specs.LoopCases.{all_sound}
use Rattle.fd_program.specs.Loops.{offence_at, offence_of, iterations_of}
use Rattle.fd_program.specs.Stores.{number_at, is_within}
use Rattle.fd_program.specs.Uses.{is_met, use_of, subscript_of, uses_from, index_value, read_of}
use Rattle.fd_words.specs.Roles.{is_index}
use Rattle.fd_program.specs.declared.array.ArrayFacts.{ArrayFacts}
use Rattle.fd_program.specs.declared.loop_facts.LoopFacts.{LoopFacts}
use Rattle.fd_program.specs.declared.loop_use.Use.{Use}
use Rattle.fd_program.specs.declared.reference.CheckedSubscript.{CheckedSubscript}
use Rattle.fd_program.specs.declared.reference.CheckedSubscript.TheVariants.{Plain, Through, Twice, Scalar}
use Rattle.fd_program.specs.declared.reference.Reference.{Reference}

-- the reference directly before gives an element if it is an index reference
GivesElement : Option Reference → Option ℤ → Type 0
GivesElement None before = Unit {0}
GivesElement (Some r) before = r.role ≡ Index → is_some before ≡ true

by_before : (last : Option Reference) (before : Option ℤ) (array : ℕ) (inner : CheckedSubscript) → GivesElement last before
    → IsSomeAnd last (IsIndexFor array inner) → is_some before ≡ true
unfolding GivesElement
by_before None before array inner gives served = absurd served
by_before (Some r) before array inner gives served = gives served.role

mapped_some : (o : Option ℤ) (g : ℤ → ℤ) → is_some o ≡ true → is_some (option_map g o) ≡ true
mapped_some None g e = e
mapped_some (Some z) g e = refl

has_subscript : (s : CheckedSubscript) (i add : ℤ) (last : Option Reference) (before : Option ℤ) → GivesElement last before
    → IsServed last s → is_some (subscript_of s i add before) ≡ true
has_subscript (Plain terms) i add last before gives served = refl
has_subscript (Through array at inner terms) i add last before gives served =
    mapped_some before _ (by_before last before array (Plain inner) gives served)
has_subscript (Twice outer at inner inner_at first second terms) i add last before gives served =
    mapped_some before _ (by_before last before outer (Through inner inner_at first second) gives served)
has_subscript (Scalar scalar) i add last before gives served = refl

met_use : (arrays : List ArrayFacts) (u : Use) → u.defined ≡ true → offence_at arrays u ≡ None → is_met arrays u ≡ true
met_use arrays u defined none = by u.defined (is_within arrays u.array u.subscript) _ defined none
  where
    by : (a b : Bool) (o : Offence) → a ≡ true → (if a && not b then Some o else None) ≡ None → (a && b) ≡ true
    by true true o e f = refl
    by true false o e f = absurd (none-some o (sym f))
    by false b o e f = e

gives_next : (arrays : List ArrayFacts) (store : List (List ℤ)) (r : Reference) (u : Use) → u.role ≡ r.role → is_met arrays u ≡ true
    → GivesElement (Some r) (index_value arrays store u)
unfolding GivesElement
gives_next arrays store r u role met index =
    ap (λ k. is_some (if is_index k && is_met arrays u then Some (read_of store u) else None)) (role ∙ index)
    ∙ ap (λ b. is_some (if b then Some (read_of store u) else None)) met

all_met_from : (arrays : List ArrayFacts) (adds : List ℤ) (store : List (List ℤ)) (i : ℤ) (place : ℕ) (last : Option Reference)
    (before : Option ℤ) (rs : List Reference)
    → GivesElement last before → AreServed last rs → AllByRecursion (λ u. offence_at arrays u ≡ None)
    (uses_from arrays adds store i place before rs)
    → AllByRecursion (λ u. is_met arrays u ≡ true) (uses_from arrays adds store i place before rs)
all_met_from arrays adds store i place last before [] gives served sound = tt
all_met_from arrays adds store i place last before (r ∷ rs) gives served sound =
    let u = use_of r i (place + 1) (subscript_of r.subscript i (number_at adds place) before) in
    let met = met_use arrays u (has_subscript r.subscript i (number_at adds place) last before gives served.0) sound.0 in (
      met,
      all_met_from arrays adds store i (place + 1) (Some r) (index_value arrays store u) rs (gives_next arrays store r u refl met)
          served.1 sound.1,
    )

pub all_met : (f : LoopFacts) (store : List (List ℤ)) → IsAccepted f → offence_of f.arrays f.site f.turn store ≡ None
    → AreMet f store (iterations_of f.turn)
unfolding GivesElement
all_met f store accepted none =
    all_weaker _ _ (λ i sound. all_met_from f.arrays f.turn.adds store i 0 None None f.site.references tt accepted.site.served sound)
    (iterations_of f.turn)
    (all_sound f.arrays f.site f.turn store none)

pub executed_met : (f : LoopFacts) (owners : List (List ℕ)) (store : List (List ℤ)) (p : ℕ) → IsAccepted f
    → offence_of f.arrays f.site f.turn store ≡ None
    → AreMet f store (executed_by f owners store p)
executed_met f owners store p accepted none =
    all_weaker _ _ (λ i both. both.1) (executed_by f owners store p) (all_filter _ _ (iterations_of f.turn) (all_met f store accepted none))
