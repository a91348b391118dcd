use Rattle.std.proofs.Common.{◌≡◌, ℕ, ◌*◌, ◌%◌, ◌/◌, ap, ◌∙◌, arith}
use Rattle.std.proofs.lemmas.Bool.{eqb-true, eq-eqb}
use Rattle.std.proofs.Math.Nat.{mul-mod_left}
use Rattle.std.proofs.lemmas.Nat.{div-add-mod'}
use Rattle.chaos_letter.proofs.wanted.is_multiple.Goals as goal

-- a number is its quotient times the divisor where nothing remains
whole : (n m : ℕ) → n % m ≡ 0 → n ≡ n / m * m
whole n m none = omega (arith, div-add-mod' n m)

pub returns-else-group-eq0 : goal.returns-else-group-eq0
returns-else-group-eq0 c =
    let n = c.args.count in
    let m = c.args.group in (
      λ none. (n / m, whole n m (eqb-true (n % m) 0 none)),
      λ (times, is). eq-eqb (n % m) 0 (ap (λ (x : ℕ). x % m) is
          ∙ mul-mod_left times m),
    )
