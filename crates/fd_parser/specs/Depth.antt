-- How deep a token stands, by the tokens before it alone.
use Rattle.std.specs.Prelude.{◌≡◌, ℕ, ◌+◌, ◌-◌, Bool, true, false, nat_le, List, [], ◌∷◌, ◌++◌, length, Option, Some, None}
use Rattle.fd_grammar.specs.declared.sort.Sort.{Sort}
use Rattle.fd_grammar.specs.declared.sort.Sort.TheVariants as sort
use Rattle.fd_grammar.specs.Sorts.{sort_of}
use Rattle.fd_lexer.specs.declared.token.Token.{Token}
use Rattle.fd_parser.specs.declared.depth.Spot.{Spot}
use Rattle.fd_parser.specs.declared.depth.Spot.TheVariants.{LineStart, BehindEnd, InLine}
use Rattle.fd_parser.specs.declared.depth.Depth.{Depth}

abbrev pub no_depth : Depth
no_depth = record { spot = LineStart; dos = 0; opens = 0; signs = 0 }

-- a DO begins a loop at the start of its line alone
abbrev pub too_many_dos : Spot → ℕ → Bool
too_many_dos LineStart dos = nat_le 8 dos
too_many_dos _ dos = false

-- whether a token of this sort is the ninth DO inside DOs, the 33rd parenthesis that is open in its line, or its line's 1,025th sign
abbrev pub too_deep : Depth → Sort → Bool
too_deep d sort.DoWord = too_many_dos d.spot d.dos
too_deep d sort.Open = nat_le 32 d.opens
too_deep d sort.Plus = nat_le 1024 d.signs
too_deep d sort.Minus = nat_le 1024 d.signs
too_deep d sort.Star = nat_le 1024 d.signs
too_deep d _ = false

abbrev pub behind_do : Depth → Spot → Depth
behind_do d LineStart = record d { spot = InLine; dos = d.dos + 1 }
behind_do d BehindEnd = record d { spot = InLine; dos = d.dos - 1 }
behind_do d InLine = d

abbrev pub behind_end : Depth → Spot → Depth
behind_end d LineStart = record d { spot = BehindEnd }
behind_end d _ = record d { spot = InLine }

abbrev pub next_depth : Depth → Sort → Depth
next_depth d sort.LineEnd = record { spot = LineStart; dos = d.dos; opens = 0; signs = 0 }
next_depth d sort.Open = record d { spot = InLine; opens = d.opens + 1 }
next_depth d sort.Close = record d { spot = InLine; opens = d.opens - 1 }
next_depth d sort.Plus = record d { spot = InLine; signs = d.signs + 1 }
next_depth d sort.Minus = record d { spot = InLine; signs = d.signs + 1 }
next_depth d sort.Star = record d { spot = InLine; signs = d.signs + 1 }
next_depth d sort.DoWord = behind_do d d.spot
next_depth d sort.EndWord = behind_end d d.spot
next_depth d sort.EndDoWord = record d { spot = InLine; dos = d.dos - 1 }
next_depth d _ = record d { spot = InLine }

-- no token is too deep, from this depth on
unfoldable pub Shallow : Depth → List Token → Type 0
Shallow d [] = Unit {0}
Shallow d (t ∷ ts) = (too_deep d (sort_of t.kind) ≡ false) × Shallow (next_depth d (sort_of t.kind)) ts

unfoldable pub depth_after : Depth → List Token → Depth
depth_after d [] = d
depth_after d (t ∷ ts) = depth_after (next_depth d (sort_of t.kind)) ts

-- this token, behind those, is the first that is too deep
pub record IsDeep (before : List Token) (t : Token) : Type 0 where
  pub shallow : Shallow no_depth before
  pub deep : too_deep (depth_after no_depth before) (sort_of t.kind) ≡ true

pub record IsDeepAt (ts : List Token) (i : ℕ) : Type 0 where
  pub before : List Token
  pub token : Token
  pub after : List Token
  pub split : ts ≡ before ++ token ∷ after
  pub place : length before ≡ i
  pub is : IsDeep before token

abbrev pub IsFirstDeep : List Token → Option ℕ → Type 0
IsFirstDeep ts None = Shallow no_depth ts
IsFirstDeep ts (Some i) = IsDeepAt ts i
