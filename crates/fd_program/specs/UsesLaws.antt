-- The references of an iteration depend on the store only through the values that its index references give.
use Rattle.std.specs.Prelude.{◌≡◌, refl, ℕ, ◌+◌, ℤ, Bool, true, false, if◌then◌else◌, List, [], ◌∷◌, ◌++◌, Option, Some, None, slice_get}
use Rattle.std.specs.Prelude.{drop}
use Rattle.std.specs.List.{cons_option}
use Rattle.std.proofs.Common.{ap, ◌∙◌}
use Rattle.fd_program.specs.Stores.{number_at}
use Rattle.fd_program.specs.Uses.{gives_index, index_values, read_of, subscript_of, use_of, uses_from, uses_of, uses_told}
use Rattle.fd_program.specs.declared.array.ArrayFacts.{ArrayFacts}
use Rattle.fd_program.specs.declared.reference.Reference.{Reference}
use Rattle.fd_program.specs.declared.site.Site.{Site}
use Rattle.fd_program.specs.declared.trace.LoopTurn.{LoopTurn}

abbrev pub UsesAreTold : Type 0
UsesAreTold =
    (arrays : List ArrayFacts) (site : Site) (turn : LoopTurn) (store : List (List ℤ)) (i : ℤ)
    → uses_told arrays turn.adds i 0 None site.references (index_values arrays store (uses_of arrays site turn store i))
    ≡ uses_of arrays site turn store i

-- the values may be followed by more
pub uses_told-more : (arrays : List ArrayFacts) (adds : List ℤ) (store : List (List ℤ)) (i : ℤ) (place : ℕ) (before : Option ℤ)
    (references : List Reference) (more : List ℤ)
    → uses_told arrays adds i place before references (index_values arrays store (uses_from arrays adds store i place before references)
    ++ more)
    ≡ uses_from arrays adds store i place before references
uses_told-more arrays adds store i place before [] more = refl
uses_told-more arrays adds store i place before (r ∷ rs) more =
    let u = use_of r i (place + 1) (subscript_of r.subscript i (number_at adds place) before) in
    ap (λ us. u ∷ us) (by (gives_index arrays u) (read_of store u) (λ next. uses_told-more arrays adds store i (place + 1) next rs more))
  where
    by : (b : Bool) (v : ℤ)
        → ((next : Option ℤ) → uses_told arrays adds i (place + 1) next rs
        (index_values arrays store (uses_from arrays adds store i (place + 1) next rs) ++ more)
        ≡ uses_from arrays adds store i (place + 1) next rs)
        → uses_told arrays adds i (place + 1)
        (if b then slice_get (cons_option (if b then Some v else None)
        (index_values arrays store (uses_from arrays adds store i (place + 1) (if b then Some v else None) rs)) ++ more) 0 else None)
        rs
        (if b then drop 1 (cons_option (if b then Some v else None)
        (index_values arrays store (uses_from arrays adds store i (place + 1) (if b then Some v else None) rs)) ++ more)
        else cons_option (if b then Some v else None)
        (index_values arrays store (uses_from arrays adds store i (place + 1) (if b then Some v else None) rs)) ++ more)
        ≡ uses_from arrays adds store i (place + 1) (if b then Some v else None) rs
    by true v rest = rest (Some v)
    by false v rest = rest None

pub uses_are_told : UsesAreTold
uses_are_told arrays site turn store i =
    ap (uses_told arrays turn.adds i 0 None site.references) (nothing_more (index_values arrays store (uses_of arrays site turn store i)))
    ∙ uses_told-more arrays turn.adds store i 0 None site.references []
  where
    nothing_more : (xs : List ℤ) → xs ≡ xs ++ []
    nothing_more [] = refl
    nothing_more (x ∷ xs) = ap (λ l. x ∷ l) (nothing_more xs)
