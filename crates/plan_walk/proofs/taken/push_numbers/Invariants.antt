use Rattle.std.proofs.Common.{◌≡◌, ◌++◌, map, take}
use Rattle.plan_walk.specs.Letters.{numbers_of}
use Rattle.plan_walk.proofs.taken.push_numbers.Given as goal

abbrev pub invariant-loop-letter : goal.invariant-loop-letter
invariant-loop-letter l = l.lists ≡ l.initial.lists ++ map numbers_of (take l.letter-index l.letters)
