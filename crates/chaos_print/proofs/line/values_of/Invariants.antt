use Rattle.std.proofs.Common.{◌≡◌, drop, map}
use Rattle.chaos_letter.specs.declared.letter.Letter.{Letter}
use Rattle.chaos_print.specs.Printing.{filled_all}
use Rattle.chaos_print.proofs.line.values_of.Given as goal

abbrev pub invariant-letters : goal.invariant-letters
invariant-letters l =
    filled_all l.values (map (λ (x : Letter). x.numbers) (drop l.letter-index l.letters))
    ≡ filled_all l.initial.values (map (λ (x : Letter). x.numbers) l.letters)
