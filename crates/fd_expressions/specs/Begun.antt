-- States behind a choice that one token makes.
use Rattle.std.specs.Prelude.{ℕ, Bool, true, false, List}
use Rattle.fd_words.specs.declared.source.SourcePlace.{SourcePlace}
use Rattle.fd_syntax.specs.declared.scalar.Scalar.TheVariants as scalar
use Rattle.fd_syntax.specs.declared.expr.Subscript.{Subscript}
use Rattle.fd_syntax.specs.declared.expr.Subscript.TheVariants as subscript
use Rattle.fd_syntax.specs.declared.statement.Form.{Form}
use Rattle.fd_syntax.specs.declared.statement.Form.TheVariants as form
use Rattle.fd_grammar.specs.declared.mark.Mark.TheVariants as mark
use Rattle.fd_grammar.specs.Machine.{State, Calm, InIndexed, ThroughRest, TwiceRest, Then, Want, Offset, AfterSubscriptName}
use Rattle.fd_grammar.specs.Machine.{MoreScalarFactors, MoreScalarTerms, WholeScalar, PlacedScalar}
use Rattle.fd_expressions.specs.declared.subscript.Start.{Start}
use Rattle.fd_expressions.specs.declared.subscript.Start.TheVariants as start

-- behind the first token of a subscript
abbrev pub BegunSubscript : (index : List ℕ) → Start → (Subscript → Calm) → State
BegunSubscript index start.Index k = Then (Offset (λ add. k (subscript.Plain add)))
BegunSubscript index (start.Named name at) k = Then (AfterSubscriptName index name at k)
BegunSubscript index start.Other k = WholeScalar (λ x. k (subscript.Scalar x))

-- behind the first token of a subscript's parenthesis
abbrev pub BegunIndexed : (index name : List ℕ) → SourcePlace → Start → (Subscript → Calm) → State
BegunIndexed index name at start.Index k = ThroughRest name at k
BegunIndexed index name at (start.Named inner inner_at) k = TwiceRest index name inner at inner_at k
BegunIndexed index name at start.Other k = InIndexed index name at k

-- behind a name, with a parenthesis or not
abbrev pub OpenedSubscript : Bool → (index name : List ℕ) → SourcePlace → (Subscript → Calm) → State
OpenedSubscript true index name at k = InIndexed index name at k
OpenedSubscript false index name at k =
    Then (MoreScalarFactors (scalar.Named name at) (λ y. MoreScalarTerms y (λ x. k (subscript.Scalar x))))

-- behind CYCLIC, with a parenthesis or not
abbrev pub OpenedCyclic : Bool → (Form → Calm) → State
OpenedCyclic true k = PlacedScalar (λ at x. Want mark.Close (Then (k (form.BlockCyclic x at))))
OpenedCyclic false k = Then (k form.Cyclic)
