-- A loop that asks for no places: none of its references is in a decomposition with a map.
use Rattle.std.proofs.Common.{◌≡◌, ℕ, ◌+◌, ℤ, Bool, true, false, cond, not, ◌&&◌, ◌||◌, List, [], ◌∷◌, ◌++◌, filter, None, refl, ap, sym}
use Rattle.std.proofs.Common.{subst, ◌∙◌, true≢false}
use Rattle.std.specs.List.{AllByRecursion, list_any, flat_map, enumerate_from}
use Rattle.fd_program.specs.Met.{kept_uses, layout_for, is_map}
use Rattle.fd_program.specs.Uses.{is_plain}
use Rattle.plan_loop.specs.LoopLetters.{is_for}
use Rattle.plan_loop.specs.declared.loop_phase.Asking.TheVariants.{References}
use Rattle.inspect_enter.proofs.Reading.{IsOf, told_of}
use Rattle.inspect_enter.specs.Placed.{is_mapped}
use Rattle.inspect_enter.specs.Laws.{FormulasTellAll}
use Rattle.inspect_uses.specs.ReachedLaws.{uses_are_reached, values_at}
use Rattle.fd_program.specs.Homes.{uses_at}
use Rattle.fd_program.specs.ListLaws.{all_among, all_weaker, all_filter, all_flat_map}
use Rattle.fd_words.specs.Roles.{is_index}
use Rattle.fd_program.specs.declared.loop_facts.LoopFacts.{LoopFacts}
use Rattle.fd_program.specs.declared.loop_use.Use.{Use}
use Rattle.fd_program.specs.declared.reference.Reference.{Reference}

abbrev IsFormula : LoopFacts → Reference → Type 0
IsFormula f r = (not (is_index r.role) && is_map (layout_for f r.array).form) ≡ false

all_formulas : (f : LoopFacts) (k : ℕ) (rs : List Reference)
    → list_any (λ (number, r). is_for f References number r.role (is_plain r.subscript) && is_map (layout_for f r.array).form)
    (enumerate_from k rs) ≡ false
    → AllByRecursion (IsFormula f) rs
all_formulas f k [] e = tt
all_formulas f k (r ∷ rs) e = (
  here (not (is_index r.role) && is_map (layout_for f r.array).form) _ e,
  all_formulas f (k + 1) rs (rest (not (is_index r.role) && is_map (layout_for f r.array).form) _ e),
)
  where
    here : (a b : Bool) → (a || b) ≡ false → a ≡ false
    here true b e = e
    here false b e = refl

    rest : (a b : Bool) → (a || b) ≡ false → b ≡ false
    rest true b e = absurd (true≢false e)
    rest false b e = e

none_filtered : {A : Type 0} (p : A → Bool) (xs : List A) → AllByRecursion (λ x. p x ≡ false) xs → filter p xs ≡ []
none_filtered p [] h = refl
none_filtered p (x ∷ xs) h = ap (λ b. cond b (x ∷ filter p xs) (filter p xs)) h.0 ∙ none_filtered p xs h.1

uses_of_references : (f : LoopFacts) (store : List (List ℤ)) (i : ℤ) → AllByRecursion (IsOf f.site.references) (uses_at f store i)
uses_of_references f store i =
    subst (AllByRecursion (IsOf f.site.references)) (uses_are_reached f store i [])
    (told_of f.arrays f.turn.adds i 0 None f.site.references (values_at f store i ++ []))

not_in_map : (f : LoopFacts) → AllByRecursion (IsFormula f) f.site.references → (u : Use) → not (is_index u.role) ≡ true
    → IsOf f.site.references u → is_mapped f u ≡ false
not_in_map f formulas u no_index o =
    ap (λ b. b && is_map (layout_for f u.array).form) (sym no_index) ∙ ap (λ k. not (is_index k) && is_map (layout_for f u.array).form)
    o.role
    ∙ ap (λ a. not (is_index o.reference.role) && is_map (layout_for f a).form) o.array
    ∙ all_among (IsFormula f) f.site.references o.reference formulas o.among

pub formulas_tell_all : FormulasTellAll
formulas_tell_all f store its none =
    let formulas = all_formulas f 1 f.site.references none in
    none_filtered (is_mapped f) (kept_uses f store its)
    (all_weaker _ _ (λ u both. not_in_map f formulas u both.0 both.1) (kept_uses f store its)
    (all_filter (IsOf f.site.references) (λ u. not (is_index u.role)) (flat_map (uses_at f store) its)
    (all_flat_map (IsOf f.site.references) (uses_at f store) its (each its))))
  where
    each : (is : List ℤ) → AllByRecursion (λ i. AllByRecursion (IsOf f.site.references) (uses_at f store i)) is
    each [] = tt
    each (i ∷ is) = (uses_of_references f store i, each is)
