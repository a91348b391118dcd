-- What a node evaluates are the references of the loop, and the values behind those of an iteration are those of the next.
use Rattle.std.specs.Prelude.{◌≡◌, refl, ℕ, suc, ◌+◌, ℤ, Bool, true, false, if◌then◌else◌, List, [], ◌∷◌, ◌++◌, drop, count_by, cond, Some}
use Rattle.std.specs.Prelude.{None}
use Rattle.std.specs.List.{cons_option}
use Rattle.std.proofs.Common.{ap, ◌∙◌, arith}
use Rattle.std.proofs.lemmas.List.Sums.{sum_by-cons}
use Rattle.fd_program.specs.Homes.{uses_at}
use Rattle.fd_program.specs.Uses.{gives_index, index_values, read_of}
use Rattle.fd_program.specs.UsesLaws.{uses_told-more}
use Rattle.fd_program.specs.declared.array.ArrayFacts.{ArrayFacts}
use Rattle.fd_program.specs.declared.loop_facts.LoopFacts.{LoopFacts}
use Rattle.fd_program.specs.declared.loop_use.Use.{Use}
use Rattle.inspect_uses.specs.Reached.{uses_with}

-- the values that the index references of iteration i give
abbrev pub values_at : LoopFacts → List (List ℤ) → ℤ → List ℤ
values_at f store i = index_values f.arrays store (uses_at f store i)

-- with those first among the values, what is evaluated are the loop's references
abbrev pub UsesAreReached : Type 0
UsesAreReached =
    (f : LoopFacts) (store : List (List ℤ)) (i : ℤ) (more : List ℤ) → uses_with f i (values_at f store i ++ more) ≡ uses_at f store i

-- and behind as many as index references give stand the others
abbrev pub ValuesAreBehind : Type 0
ValuesAreBehind =
    (f : LoopFacts) (store : List (List ℤ)) (i : ℤ) (more : List ℤ)
    → drop (count_by (gives_index f.arrays) (uses_at f store i)) (values_at f store i ++ more) ≡ more

pub uses_are_reached : UsesAreReached
uses_are_reached f store i more = uses_told-more f.arrays f.turn.adds store i 0 None f.site.references more

pub values_are_behind : ValuesAreBehind
values_are_behind f store i more = behind f.arrays store (uses_at f store i) more
  where
    behind : (arrays : List ArrayFacts) (store : List (List ℤ)) (uses : List Use) (more : List ℤ)
        → drop (count_by (gives_index arrays) uses) (index_values arrays store uses ++ more) ≡ more
    behind arrays store [] more = refl
    behind arrays store (u ∷ us) more =
        ap (λ n. drop n (index_values arrays store (u ∷ us) ++ more)) (sum_by-cons (λ v. cond (gives_index arrays v) 1 0) u us)
        ∙ by (gives_index arrays u) (read_of store u) (count_by (gives_index arrays) us) (index_values arrays store us)
        (behind arrays store us more)
      where
        by : (b : Bool) (v : ℤ) (n : ℕ) (values : List ℤ) → drop n (values ++ more) ≡ more
            → drop (cond b 1 0 + n) (cons_option (if b then Some v else None) values ++ more) ≡ more
        by true v n values rest = let next : 1 + n ≡ suc n = omega arith in ap (λ k. drop k (v ∷ (values ++ more))) next ∙ rest
        by false v n values rest = let same : 0 + n ≡ n = omega arith in ap (λ k. drop k (values ++ more)) same ∙ rest
