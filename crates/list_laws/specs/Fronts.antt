-- Lists that are read from their fronts.
use Rattle.std.specs.Prelude.{◌≡◌, ℕ, zero, suc, ◌+◌, ◌<◌, List, [], ◌∷◌, length, drop, slice_get, unwrap_or}
use Rattle.std.proofs.Common.{ap, ◌∙◌, arith}

-- what is left of a list begins with v; `none` stands for what is read from its end on
pub record Begins {A : Type 0} (none : A) (l : List A) (c : ℕ) (v : A) (more : List A) : Type 0 where
  pub within : c < length l
  pub first : unwrap_or (slice_get l c) none ≡ v
  pub rest : drop (c + 1) l ≡ more

pub begins : {A : Type 0} (none : A) (l : List A) (c : ℕ) (v : A) (more : List A) → drop c l ≡ v ∷ more → Begins none l c v more
begins none [] zero v more e = cc
begins none [] (suc c) v more e = cc
begins none (x ∷ l) zero v more e = record {
  within = omega arith;
  first = ap (λ xs. unwrap_or (slice_get xs 0) none) e;
  rest = ap (drop 1) e;
}
begins none (x ∷ l) (suc c) v more e =
    let later = begins none l c v more e in
    let next : suc c + 1 ≡ suc (c + 1) = omega arith in
    record { within = omega (arith, later.within); first = later.first; rest = ap (λ k. drop k (x ∷ l)) next ∙ later.rest }
