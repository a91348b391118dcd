-- Whether places are asked for, and where none is.
use Rattle.std.proofs.Common.{◌≡◌, ℕ, ◌+◌, ℤ, Bool, true, false, cond, List, [], ◌∷◌, filter, Option, None, refl, ap, ◌∙◌}
use Rattle.std.specs.Prelude.{◌&&◌, ◌||◌}
use Rattle.std.specs.List.{flat_map, list_any, enumerate_from, AllByRecursion}
use Rattle.fd_program.specs.Homes.{uses_at}
use Rattle.fd_program.specs.ListLaws.{all_filter, all_flat_map, all_weaker, all_trivial}
use Rattle.fd_program.specs.Stores.{number_at}
use Rattle.fd_program.specs.Uses.{index_value, is_met, is_plain, subscript_of, use_of, uses_from}
use Rattle.fd_program.specs.declared.loop_facts.LoopFacts.{LoopFacts}
use Rattle.fd_program.specs.declared.loop_use.Use.{Use}
use Rattle.fd_program.specs.declared.reference.Reference.{Reference}
use Rattle.plan_loop.specs.LoopLetters.{asks_places, is_for}
use Rattle.fd_program.specs.Met.{is_map, layout_for}
use Rattle.plan_loop.specs.declared.loop_phase.Asking.{Asking}
use Rattle.chaos_inspect.specs.Walking.{is_asked, is_reached}

-- ---- along the references

-- with these numbers
abbrev pub asks_any : LoopFacts → Asking → ℕ → List Reference → Bool
asks_any f asking number references =
    list_any (λ (n, r). is_for f asking n r.role (is_plain r.subscript) && is_map (layout_for f r.array).form) (enumerate_from number references)

-- ---- where none is asked for

neither : (a b : Bool) → (a || b) ≡ false → (a ≡ false) × (b ≡ false)
neither true b e = cc
neither false b e = (refl, e)

-- no reference that the asking is for has a map
abbrev HasFormula : LoopFacts → Asking → Use → Type 0
HasFormula f asking u = (is_for f asking u.number u.role u.plain && is_map (layout_for f u.array).form) ≡ false

formula_from : (f : LoopFacts) (asking : Asking) (store : List (List ℤ)) (i : ℤ) (place : ℕ) (before : Option ℤ)
    (references : List Reference)
    → asks_any f asking (place + 1) references ≡ false
    → AllByRecursion (HasFormula f asking) (uses_from f.arrays f.turn.adds store i place before references)
formula_from f asking store i place before [] none = tt
formula_from f asking store i place before (r ∷ rs) none =
    let u = use_of r i (place + 1) (subscript_of r.subscript i (number_at f.turn.adds place) before) in
    let parts = neither (is_for f asking (place + 1) r.role (is_plain r.subscript) && is_map (layout_for f r.array).form) _ none in
    (parts.0, formula_from f asking store i (place + 1) (index_value f.arrays store u) rs parts.1)

every : {A : Type 0} (P : A → Type 0) → ((x : A) → P x) → (xs : List A) → AllByRecursion P xs
every P h [] = tt
every P h (x ∷ xs) = (h x, every P h xs)

none_kept : (f : LoopFacts) (asking : Asking) (us : List Use) → AllByRecursion (HasFormula f asking) us → filter (is_asked f asking) us ≡ []
none_kept f asking [] h = refl
none_kept f asking (u ∷ us) h =
    ap (λ b. cond b (u ∷ filter (is_asked f asking) us) (filter (is_asked f asking) us))
    (by (is_for f asking u.number u.role u.plain) (is_met f.arrays u) _ h.0)
    ∙ none_kept f asking us h.1
  where
    by : (a b c : Bool) → (a && c) ≡ false → (a && b && c) ≡ false
    by true true c e = e
    by true false c e = refl
    by false b c e = refl

pub none_asked : (f : LoopFacts) (asking : Asking) (store : List (List ℤ)) (is : List ℤ) → asks_places f asking ≡ false
    → filter (is_asked f asking) (flat_map (uses_at f store) is) ≡ []
none_asked f asking store is none =
    none_kept f asking (flat_map (uses_at f store) is)
    (all_flat_map (HasFormula f asking) (uses_at f store) is
    (every (λ i. AllByRecursion (HasFormula f asking) (uses_at f store i)) (λ i. formula_from f asking store i 0 None f.site.references
    none) is))

-- ---- those that are asked for are met

both : (a b : Bool) → (a && b) ≡ true → (a ≡ true) × (b ≡ true)
both true b e = (refl, e)
both false b e = cc

pub asked_met : (f : LoopFacts) (asking : Asking) (us : List Use) → AllByRecursion (λ u. is_met f.arrays u ≡ true)
    (filter (is_asked f asking) us)
asked_met f asking us =
    all_weaker (λ u. (is_asked f asking u ≡ true) × Unit {0}) (λ u. is_met f.arrays u ≡ true) (λ u h. met u h.0)
    (filter (is_asked f asking) us)
    (all_filter (λ u. Unit {0}) (is_asked f asking) us (all_trivial us))
  where
    met : (u : Use) → is_asked f asking u ≡ true → is_met f.arrays u ≡ true
    met u h = (both (is_for f asking u.number u.role u.plain) (is_met f.arrays u)
        (both (is_reached f asking u) (is_map (layout_for f u.array).form) h).0).1
