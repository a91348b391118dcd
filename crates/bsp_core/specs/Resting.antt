-- Where no phase is left.
use Rattle.std.specs.Prelude.{refl, ℕ, []}
use Rattle.bsp_core.specs.Views.{Meets}

-- nodes that are done meet
pub rest_meets : (n : ℕ) → Meets n (λ p. record { me = p; count = n; left = 0; out = []; due = []; got = [] })
rest_meets n = record {
  me = λ p l. refl;
  count = λ p l. refl;
  left = λ p l. refl;
  got = λ p l. refl;
  out = λ p l. tt;
  due = λ p l. tt;
  serves = λ p q lp lq. tt;
  done = λ p l none. (refl, refl);
}
