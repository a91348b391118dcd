-- What a node tells of iterations by itself is what the definitions say.
use Rattle.std.proofs.Common.{◌≡◌, ℤ, Bool, true, false, cond, List, [], ◌∷◌, ◌++◌, map, filter, drop, Some, None, refl, ap, sym, ◌∙◌}
use Rattle.std.proofs.Common.{append_assoc, append-nil}
use Rattle.std.specs.Prelude.{count_by}
use Rattle.std.specs.List.{flat_map, cons_option}
use Rattle.std.proofs.lemmas.List.Elements.{filter_map-append}
use Rattle.fd_program.specs.Homes.{uses_at}
use Rattle.fd_program.specs.Uses.{gives_index, index_values, index_value, read_of}
use Rattle.fd_program.specs.declared.loop_facts.LoopFacts.{LoopFacts}
use Rattle.fd_program.specs.declared.loop_use.Use.{Use}
use Rattle.inspect_uses.specs.ReachedLaws.{values_at, uses_are_reached, values_are_behind}
use Rattle.chaos_inspect.specs.Walking.{uses_through}

-- with the values of these iterations, what is evaluated are the loop's references
pub through : (f : LoopFacts) (store : List (List ℤ)) (is : List ℤ) (more : List ℤ)
    → uses_through f is (flat_map (values_at f store) is ++ more) ≡ flat_map (uses_at f store) is
through f store [] more = refl
through f store (i ∷ is) more =
    let later = flat_map (values_at f store) is ++ more in
    let rest : List Use → List Use = λ us. us ++ uses_through f is (drop (count_by (gives_index f.arrays) us)
    (values_at f store i ++ later)) in
    ap (uses_through f (i ∷ is)) (append_assoc (values_at f store i) (flat_map (values_at f store) is) more)
    ∙ ap rest (uses_are_reached f store i later)
    ∙ ap (λ vs. uses_at f store i ++ uses_through f is vs) (values_are_behind f store i later)
    ∙ ap (λ us. uses_at f store i ++ us) (through f store is more)

pub through_all : (f : LoopFacts) (store : List (List ℤ)) (is values : List ℤ) → values ≡ flat_map (values_at f store) is
    → uses_through f is values ≡ flat_map (uses_at f store) is
through_all f store is values e = ap (uses_through f is) (e ∙ sym (append-nil (flat_map (values_at f store) is))) ∙ through f store is []

-- the values that index references give, of several iterations at once
given_one : (f : LoopFacts) (store : List (List ℤ)) (us : List Use) → map (read_of store) (filter (gives_index f.arrays) us)
    ≡ index_values f.arrays store us
given_one f store [] = refl
given_one f store (u ∷ us) = by (gives_index f.arrays u) (read_of store u) (given_one f store us)
  where
    by : (b : Bool) (v : ℤ) → map (read_of store) (filter (gives_index f.arrays) us) ≡ index_values f.arrays store us
        → map (read_of store) (cond b (u ∷ filter (gives_index f.arrays) us) (filter (gives_index f.arrays) us))
        ≡ cons_option (cond b (Some (read_of store u)) None) (index_values f.arrays store us)
    by true v e = ap (λ l. read_of store u ∷ l) e
    by false v e = e

pub given_all : (f : LoopFacts) (store : List (List ℤ)) (is : List ℤ)
    → map (read_of store) (filter (gives_index f.arrays) (flat_map (uses_at f store) is)) ≡ flat_map (values_at f store) is
given_all f store is = given_one f store (flat_map (uses_at f store) is) ∙ split is
  where
    split : (is : List ℤ) → index_values f.arrays store (flat_map (uses_at f store) is) ≡ flat_map (values_at f store) is
    split [] = refl
    split (i ∷ is) =
        filter_map-append (index_value f.arrays store) (uses_at f store i) (flat_map (uses_at f store) is)
        ∙ ap (λ l. values_at f store i ++ l) (split is)
