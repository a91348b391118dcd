-- The executed statements of a program, in order.
use Rattle.std.specs.Prelude.{ℕ, zero, suc, ◌-◌, ℤ, pos, if◌then◌else◌, List, [], ◌∷◌, ◌++◌, length, map, flat_map, slice_get, unwrap_or}
use Rattle.std.specs.Prelude.{int_lt, Bool}
use Rattle.fd_words.specs.declared.source.SourcePlace.{SourcePlace}
use Rattle.fd_program.specs.Loops.{range_of}
use Rattle.fd_program.specs.Scalars.{scalar_value, add_of}
use Rattle.fd_program.specs.declared.checked.Checked.{Checked}
use Rattle.fd_program.specs.declared.checked.CheckedStatement.{CheckedStatement}
use Rattle.fd_program.specs.declared.checked.CheckedStatement.TheVariants.{Distribute, Print, Do, Forall}
use Rattle.fd_program.specs.declared.reference.Reference.{Reference}
use Rattle.fd_program.specs.declared.scalar.CheckedScalar.{Number}
use Rattle.fd_program.specs.declared.site.Site.{Site}
use Rattle.fd_program.specs.declared.trace.LoopTurn.{LoopTurn}
use Rattle.fd_program.specs.declared.trace.Step.{Step}
use Rattle.fd_program.specs.declared.trace.Step.TheVariants as step

abbrev pub no_place : SourcePlace
no_place = record { line = 0; column = 0 }

abbrev pub no_site : Site
no_site = record { at = no_place; low = Number (pos 0) no_place; high = Number (pos 0) no_place; body = []; references = []; terms = [] }

-- the FORALL with this number
abbrev pub site_at : List Site → ℕ → Site
site_at sites site = unwrap_or (slice_get sites site) no_site

-- ---- one execution of a FORALL

abbrev pub is_empty_range : ℤ → ℤ → Bool
is_empty_range low high = int_lt high low

abbrev pub is_empty_turn : LoopTurn → Bool
is_empty_turn turn = is_empty_range turn.low turn.high

-- for each reference the number that its subscript adds, or that it is
abbrev pub adds_of : List ℤ → Site → List ℤ
adds_of variables site = map (λ (r : Reference). add_of variables r.subscript) site.references

abbrev pub terms_of : List ℤ → Site → List ℤ
terms_of variables site = map (scalar_value variables) site.terms

-- with a range that is empty nothing but the range counts
abbrev pub turn_between : List ℤ → Site → ℤ → ℤ → LoopTurn
turn_between variables site low high = record {
  low = low;
  high = high;
  adds = if is_empty_range low high then [] else adds_of variables site;
  terms = if is_empty_range low high then [] else terms_of variables site;
}

abbrev pub turn_of : List ℤ → Site → LoopTurn
turn_of variables site = turn_between variables site (scalar_value variables site.low) (scalar_value variables site.high)

-- ---- the trace

-- how many of the statements behind it are the body of a statement
abbrev pub inside_of : CheckedStatement → ℕ
inside_of (Distribute at decomposition form) = 0
inside_of (Print at array) = 0
inside_of (Do at low high inside) = inside
inside_of (Forall site) = 0

-- the steps of a DO: those of its body, for each value of its variable
abbrev pub steps_of_turns : (List ℤ → ℕ → List Step) → List ℤ → ℕ → ℤ → ℤ → List Step
steps_of_turns body variables inside low high = flat_map (λ k. body (variables ++ k ∷ []) inside) (range_of low high)

-- the steps of a statement; `body` gives those of the first statements behind it, for values of the variables and a number of statements
abbrev pub steps_of_statement : List Site → (List ℤ → ℕ → List Step) → List ℤ → CheckedStatement → List Step
steps_of_statement sites body variables (Distribute at decomposition form) = step.Distribute decomposition form ∷ []
steps_of_statement sites body variables (Print at array) = step.Print array ∷ []
steps_of_statement sites body variables (Do at low high inside) =
    steps_of_turns body variables inside (scalar_value variables low) (scalar_value variables high)
steps_of_statement sites body variables (Forall site) = step.Forall site (turn_of variables (site_at sites site)) ∷ []

-- the steps of `count` statements, after `skip` others, which are the body of the DO before them
abbrev pub steps_of : List Site → List ℤ → ℕ → ℕ → List CheckedStatement → List Step
steps_of sites variables skip count [] = []
steps_of sites variables (suc skip) count (s ∷ rest) = steps_of sites variables skip count rest
steps_of sites variables zero zero (s ∷ rest) = []
steps_of sites variables zero (suc count) (s ∷ rest) =
    steps_of_statement sites (λ inner inside. steps_of sites inner 0 inside rest) variables s
    ++ steps_of sites variables (inside_of s) (count - inside_of s) rest

abbrev pub trace_of : Checked → List Step
trace_of c = steps_of c.sites [] 0 (length c.statements) c.statements
