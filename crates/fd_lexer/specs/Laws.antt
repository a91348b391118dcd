-- What holds of the tokens of a text and of its first fault.
use Rattle.std.specs.Prelude.{◌≡◌, ℕ, ◌≤◌, ◌⊎◌, List, [], ◌∷◌}
use Rattle.fd_words.specs.declared.source.SourceFault.{SourceFault}
use Rattle.fd_lexer.specs.declared.token.Token.{Token}
use Rattle.fd_lexer.specs.declared.token.TokenList.{TokenList}
use Rattle.fd_lexer.specs.Tokens.{HasTokens, HasFault}

-- the spans are in order from a place on
abbrev pub IsInOrder : ℕ → List Token → Type 0
IsInOrder from [] = Unit {0}
IsInOrder from (t ∷ ts) = (from ≤ t.start) × (t.start ≤ t.end) × IsInOrder t.end ts

abbrev pub SpansAreInOrder : Type 0
SpansAreInOrder = (text : List ℕ) (list : TokenList) → HasTokens text list → IsInOrder 0 list.tokens

abbrev pub TokensAreDetermined : Type 0
TokensAreDetermined = (text : List ℕ) (list other : TokenList) → HasTokens text list → HasTokens text other → list ≡ other

abbrev pub FaultIsDetermined : Type 0
FaultIsDetermined = (text : List ℕ) (fault other : SourceFault) → HasFault text fault → HasFault text other → fault ≡ other

abbrev pub HasEither : Type 0
HasEither = (text : List ℕ) → ((list : TokenList) × HasTokens text list) ⊎ ((fault : SourceFault) × HasFault text fault)

abbrev pub HasNotBoth : Type 0
HasNotBoth = (text : List ℕ) (list : TokenList) (fault : SourceFault) → HasTokens text list → HasFault text fault → ⊥
