-- When a letter is as a node wants it.
use Rattle.std.specs.Prelude.{◌≡◌, ℕ, ◌*◌, ◌≤◌, length}
use Rattle.chaos_letter.specs.declared.letter.Letter.{Letter}
use Rattle.chaos_letter.specs.declared.wanted.Wanted.{Wanted}

-- a multiple of the group; the one of 0 is 0
abbrev pub IsMultiple : ℕ → ℕ → Type 0
IsMultiple group count = (times : ℕ) × (count ≡ times * group)

-- so many numbers are a multiple of the group, from the least to the most
pub record IsWantedLength (wanted : Wanted) (count : ℕ) : Type 0 where
  pub groups : IsMultiple wanted.group count
  pub least : wanted.least ≤ count
  pub most : count ≤ wanted.most

-- the letter is as wanted
pub record Fits (wanted : Wanted) (letter : Letter) : Type 0 where
  pub kind : letter.kind ≡ wanted.kind
  pub execution : letter.execution ≡ wanted.execution
  pub site : letter.site ≡ wanted.site
  pub count : IsWantedLength wanted (length letter.numbers)
