-- What the law functions say.
use Rattle.std.specs.Prelude.{◌≡◌, ℕ, ◌+◌, ◌-◌, ◌<◌, ◌≤◌}
use Rattle.bsp_core.specs.Lockstep.{upto, IsEnd}
use Rattle.bsp_core.specs.Views.{Meets, ready}
use Rattle.bsp_desk.specs.Rounds.{Round, IsRound, face_in, face_over, letters_to}
use Rattle.bsp_desk.specs.Uniform.{rows_of, letters_of}

abbrev pub RoundsMeet : Type 0
RoundsMeet = (n left : ℕ) (r : Round) → IsRound n r → 0 < left → Meets n (face_in n left r)

abbrev pub OverMeets : Type 0
OverMeets = (n : ℕ) → Meets n (face_over n)

abbrev pub RoundsComeIn : Type 0
RoundsComeIn = (n left : ℕ) (r : Round) (p : ℕ) → p < n → (ready (face_in n left r) p).got ≡ letters_to n r p

abbrev pub UniformMeets : Type 0
UniformMeets =
    (n phases : ℕ) (rounds : ℕ → Round) → ((t : ℕ) → t < phases → IsRound n (rounds t)) → (t : ℕ) → Meets n (rows_of n phases rounds t)

abbrev pub UniformFall : Type 0
UniformFall =
    (n phases : ℕ) (rounds : ℕ → Round) (t : ℕ) → (rows_of n phases rounds (t + 1) 0).left ≤ (rows_of n phases rounds t 0).left - 1

abbrev pub UniformLetters : Type 0
UniformLetters =
    (n phases : ℕ) (rounds : ℕ → Round) (end p q : ℕ) → q < n → IsEnd (rows_of n phases rounds) end
    → upto (rows_of n phases rounds) p q end ≡ letters_of phases rounds p q
