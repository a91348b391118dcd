-- Values are signed 64-bit numbers that wrap.
use Rattle.std.specs.Prelude.{ℕ, ℤ, pos, negsuc, ◌-◌, ◌%◌}
use Rattle.std.specs.Int.{w64, int_wrap}

-- a number modulo 2^64, as a signed one
abbrev pub wrapped : ℤ → ℤ
wrapped z = int_wrap w64 z

-- the remainder that is 0 or more: that of -(a + 1) is the last node's where a is 0, and falls as a grows
abbrev pub remainder_of : ℤ → ℕ → ℕ
remainder_of (pos a) nodes = a % nodes
remainder_of (negsuc a) nodes = nodes - 1 - a % nodes
