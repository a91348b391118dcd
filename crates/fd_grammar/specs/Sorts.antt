-- What a token is to the grammar.
use Rattle.std.specs.Prelude.{ℕ, Bool, true, false, List, [], ◌∷◌, Option, Some, None, codes, bytes_eq, unwrap_or, if◌then◌else◌}
use Rattle.fd_lexer.specs.declared.token.TokenKind.{TokenKind}
use Rattle.fd_lexer.specs.declared.token.TokenKind.TheVariants as kind
use Rattle.fd_words.specs.declared.arith.Arith.{Arith}
use Rattle.fd_words.specs.declared.arith.Arith.TheVariants.{Plus, Minus, Times}
use Rattle.fd_grammar.specs.declared.sort.Sort.{Sort}
use Rattle.fd_grammar.specs.declared.sort.Sort.TheVariants as sort

abbrev pub reserved : List (List ℕ × Sort)
reserved =
    (codes "PROGRAM", sort.ProgramWord) ∷ (codes "PARAMETER", sort.ParameterWord) ∷ (codes "INTEGER", sort.IntegerWord)
    ∷ (codes "DECOMPOSITION", sort.DecompositionWord) ∷ (codes "ALIGN", sort.AlignWord) ∷ (codes "WITH", sort.WithWord)
    ∷ (codes "DISTRIBUTE", sort.DistributeWord) ∷ (codes "BLOCK", sort.BlockWord) ∷ (codes "CYCLIC", sort.CyclicWord)
    ∷ (codes "READ", sort.ReadWord) ∷ (codes "OUTPUT", sort.OutputWord) ∷ (codes "PRINT", sort.PrintWord)
    ∷ (codes "DO", sort.DoWord) ∷ (codes "END", sort.EndWord) ∷ (codes "ENDDO", sort.EndDoWord)
    ∷ (codes "FORALL", sort.ForallWord) ∷ (codes "ENDFORALL", sort.EndForallWord) ∷ (codes "REDUCE", sort.ReduceWord)
    ∷ (codes "ADD", sort.AddWord) ∷ (codes "MIN", sort.MinWord) ∷ (codes "MAX", sort.MaxWord) ∷ []

-- the sort that a table gives a word
abbrev pub sort_in : List (List ℕ × Sort) → List ℕ → Option Sort
sort_in [] word = None
sort_in (r ∷ rs) word = if bytes_eq r.0 word then Some r.1 else sort_in rs word

-- a word that isn't reserved is a name
unfoldable pub sort_of_word : List ℕ → Sort
sort_of_word word = unwrap_or (sort_in reserved word) (sort.Named word)

unfoldable pub sort_of : TokenKind → Sort
sort_of (kind.Word word) = sort_of_word word
sort_of (kind.Number value) = sort.Numbered value
sort_of kind.OpenParen = sort.Open
sort_of kind.CloseParen = sort.Close
sort_of kind.Comma = sort.Comma
sort_of kind.Equals = sort.Equals
sort_of kind.Plus = sort.Plus
sort_of kind.Minus = sort.Minus
sort_of kind.Star = sort.Star
sort_of kind.LineEnd = sort.LineEnd

abbrev pub is_word : List ℕ → TokenKind → Bool
is_word name (kind.Word word) = bytes_eq word name
is_word name _ = false

abbrev pub name_of : Sort → Option (List ℕ)
name_of (sort.Named name) = Some name
name_of _ = None

abbrev pub sign_by : Sort → Option Arith
sign_by sort.Plus = Some Plus
sign_by sort.Minus = Some Minus
sign_by _ = None

abbrev pub times_of : Sort → Option Arith
times_of sort.Star = Some Times
times_of _ = None

abbrev pub opens : Sort → Bool
opens sort.Open = true
opens _ = false
