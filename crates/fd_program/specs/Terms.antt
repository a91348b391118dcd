-- The scalar names of a loop's expressions.
use Rattle.std.specs.Prelude.{List, All}
use Rattle.fd_program.specs.declared.scalar.CheckedScalar.{CheckedScalar, Number, Variable, Negate', Binary', more_of-CheckedScalar}
use Rattle.fd_program.specs.declared.scalar.CheckedScalar.{end_of-CheckedScalar}
use Rattle.fd_program.specs.declared.site.Site.{Site}

-- a constant, or the variable of a DO
abbrev pub IsTerm : CheckedScalar → Type 0
IsTerm (Number value at) = Unit {0}
IsTerm (Variable depth at) = Unit {0}
IsTerm (Negate' at s (more_of-CheckedScalar inner end_of-CheckedScalar)) = ⊥
IsTerm (Binary' op at s (more_of-CheckedScalar left end_of-CheckedScalar) t (more_of-CheckedScalar right end_of-CheckedScalar)) = ⊥

abbrev pub HasTerms : Site → Type 0
HasTerms site = All IsTerm site.terms

-- of each loop
abbrev pub HaveTerms : List Site → Type 0
HaveTerms sites = All HasTerms sites
