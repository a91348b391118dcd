-- What each state of the machine means by the grammar.
use Rattle.std.proofs.Common.{◌≡◌, ℕ, List, [], ◌∷◌, ◌++◌, Option, Some, None}
use Rattle.fd_words.specs.declared.source.SourcePlace.{SourcePlace}
use Rattle.fd_words.specs.declared.combine.Combine.{Combine}
use Rattle.fd_lexer.specs.declared.token.Token.{Token}
use Rattle.fd_syntax.specs.declared.expr.Subscript.{Subscript}
use Rattle.fd_syntax.specs.declared.expr.Expr.{Expr}
use Rattle.fd_syntax.specs.declared.declaration.Declaration.{Declaration}
use Rattle.fd_syntax.specs.declared.statement.BodyStatement.{BodyStatement}
use Rattle.fd_syntax.specs.declared.statement.Form.{Form}
use Rattle.fd_syntax.specs.declared.statement.Statement.{Statement}
use Rattle.fd_syntax.specs.declared.program.Program.{Program}
use Rattle.fd_grammar.specs.declared.sort.Sort.TheVariants as sort
use Rattle.fd_grammar.specs.Machine.{Closer, EndOfProgram, EndOfDo, EndOfForall, mark_of, State, Calm, ScalarFactor, WholeScalar}
use Rattle.fd_grammar.specs.Machine.{PlacedScalar, ExprFactor, WholeExpr, InSubscript, InIndexed, AnyName, SameName, Take, InForm, Operator}
use Rattle.fd_grammar.specs.Machine.{Head, Body, Close, FirstInner, MoreInner, Begin, Ended, Then, MoreScalarFactors, MoreScalarTerms}
use Rattle.fd_grammar.specs.Machine.{MoreExprFactors, MoreExprTerms, AfterName, AfterSubscriptName, MoreOffset, AfterCyclic, MoreItems}
use Rattle.fd_grammar.specs.Machine.{Want}
use Rattle.fd_grammar.specs.Grammar.{Is, IsAgain, AreLines, AreListed, IsScalar, IsScalarTerm, IsScalarFactor, IsOffset, IsSubscript}
use Rattle.fd_grammar.specs.Grammar.{IsExpr, IsExprTerm, IsExprFactor, IsForm, IsHead, IsOperator, AreInner, IsDoEnd, IsForallEnd, IsBody}
use Rattle.fd_grammar.specs.Complete.{IsItem}
use Rattle.fd_grammar.specs.TokenTests.{mark_sort, fixed_sort}
use Rattle.fd_grammar.specs.Fronts.{Front, First, FirstName, FrontPlaced, Extends}

-- tokens that go on behind a name
abbrev pub NameRest : (index name : List ℕ) → SourcePlace → List Token → Expr → Type 0
NameRest index name at ts y = (t : Token) → Is (sort.Named name) t → t.at ≡ at → IsExprFactor index (t ∷ ts) y

abbrev pub SubscriptRest : (index name : List ℕ) → SourcePlace → List Token → Subscript → Type 0
SubscriptRest index name at ts y = (t : Token) → Is (sort.Named name) t → t.at ≡ at → (IsAgain index t → ⊥) → IsSubscript index (t ∷ ts) y

-- and behind a name and a parenthesis
abbrev pub IndexedRest : (index name : List ℕ) → SourcePlace → List Token → Subscript → Type 0
IndexedRest index name at ts y =
    (t o : Token) → Is (sort.Named name) t → t.at ≡ at → (IsAgain index t → ⊥) → Is sort.Open o → IsSubscript index (t ∷ o ∷ ts) y

-- tokens that go on behind CYCLIC
abbrev pub CyclicRest : List Token → Form → Type 0
CyclicRest ts y = (t : Token) → Is sort.CyclicWord t → IsForm (t ∷ ts) y

-- line ends and then a phrase
pub data BehindLines {A : Type 0} (phrase : List Token → A → Type 0) : List Token → A → Type 0 where
  behind_lines : {ls ts : List Token} {x : A} → AreLines ls → phrase ts x → BehindLines phrase (ls ++ ts) x

-- line ends, a head and a body
pub data AreHeadAndBody : List Token → List Declaration → List Statement → Type 0 where
  filled : {ls hs bs : List Token} {ds : List Declaration} {ss xs : List Statement} → AreLines ls → IsHead hs ds ss → IsBody bs xs
      → AreHeadAndBody (ls ++ (hs ++ bs)) ds (ss ++ xs)

abbrev pub HeadAndBody : List Token → List Declaration × List Statement → Type 0
HeadAndBody ts x = AreHeadAndBody ts x.0 x.1

-- line ends and then lines of a FORALL's body, or none
pub data AreMoreInner (index : List ℕ) : List Token → List BodyStatement → Type 0 where
  no_more : {ls : List Token} → AreLines ls → AreMoreInner index ls []
  some_more : {ls ts : List Token} {ss : List BodyStatement} → AreLines ls → AreInner index ts ss → AreMoreInner index (ls ++ ts) ss

pub data Closes : Closer → List Token → Unit {0} → Type 0 where
  closes_program : (t : Token) → Is sort.EndWord t → Closes EndOfProgram (t ∷ []) tt
  closes_do : {ts : List Token} → IsDoEnd ts → Closes EndOfDo ts tt
  closes_forall : {ts : List Token} → IsForallEnd ts → Closes EndOfForall ts tt

pub data Begins : List Token → Unit {0} → Type 0 where
  begins : {ls : List Token} → AreLines ls → (t : Token) → Is sort.ProgramWord t → Begins (ls ++ t ∷ []) tt

abbrev pub FirstOperator : (Combine → List Token → Type 0) → List Token → Type 0
FirstOperator rest ts = (t : Token) × (op : Combine) × (back : List Token) × (ts ≡ t ∷ back) × IsOperator t op × rest op back

-- the tokens lead from the state to the program by the grammar
abbrev mutual
  pub Means : State → Program → List Token → Type 0
  Means (ScalarFactor k) p = Front IsScalarFactor (λ x. MeansCalm (k x) p)
  Means (WholeScalar k) p = Front IsScalar (λ x. MeansCalm (k x) p)
  Means (PlacedScalar k) p = FrontPlaced (λ at x. MeansCalm (k at x) p)
  Means (ExprFactor index k) p = Front (IsExprFactor index) (λ x. MeansCalm (k x) p)
  Means (WholeExpr index k) p = Front (IsExpr index) (λ x. MeansCalm (k x) p)
  Means (InSubscript index k) p = Front (IsSubscript index) (λ x. MeansCalm (k x) p)
  Means (InIndexed index name at k) p = Front (IndexedRest index name at) (λ x. MeansCalm (k x) p)
  Means (AnyName k) p = FirstName (λ n. Means (k n) p)
  Means (SameName name s) p = First (IsAgain name) (Means s p)
  Means (Take f s) p = First (Is (fixed_sort f)) (Means s p)
  Means (InForm k) p = Front IsForm (λ x. MeansCalm (k x) p)
  Means (Operator k) p = FirstOperator (λ op. Means (k op) p)
  Means (Head ds ss k) p = Front HeadAndBody (λ x. Front (Closes EndOfProgram) (λ _. Means (k (ds ++ x.0) (ss ++ x.1)) p))
  Means (Body c ss k) p = Front (BehindLines IsBody) (λ xs. Front (Closes c) (λ _. Means (k (ss ++ xs)) p))
  Means (Close c s) p = Front (Closes c) (λ _. Means s p)
  Means (FirstInner index k) p = Front (BehindLines (AreInner index)) (λ xs. Front (Closes EndOfForall) (λ _. Means (k xs) p))
  Means (MoreInner index ss k) p = Front (AreMoreInner index) (λ xs. Front (Closes EndOfForall) (λ _. Means (k (ss ++ xs)) p))
  Means (Begin s) p = Front Begins (λ _. Means s p)
  Means (Ended q) p = λ ts. AreLines ts × (q ≡ p)
  Means (Then c) p = MeansCalm c p

  pub MeansCalm : Calm → Program → List Token → Type 0
  MeansCalm (MoreScalarFactors x k) p = Front (Extends IsScalarTerm x) (λ y. MeansCalm (k y) p)
  MeansCalm (MoreScalarTerms x k) p = Front (Extends IsScalar x) (λ y. MeansCalm (k y) p)
  MeansCalm (MoreExprFactors index x k) p = Front (Extends (IsExprTerm index) x) (λ y. MeansCalm (k y) p)
  MeansCalm (MoreExprTerms index x k) p = Front (Extends (IsExpr index) x) (λ y. MeansCalm (k y) p)
  MeansCalm (AfterName index name at k) p = Front (NameRest index name at) (λ y. MeansCalm (k y) p)
  MeansCalm (AfterSubscriptName index name at k) p = Front (SubscriptRest index name at) (λ y. MeansCalm (k y) p)
  MeansCalm (MoreOffset ts k) p = Front (Extends IsOffset ts) (λ y. MeansCalm (k y) p)
  MeansCalm (AfterCyclic k) p = Front CyclicRest (λ y. MeansCalm (k y) p)
  MeansCalm (MoreItems i xs k) p = Front (Extends (AreListed (IsItem i)) xs) (λ ys. First (Is (mark_sort (mark_of i))) (Means (k ys) p))
  MeansCalm (Want m s) p = First (Is (mark_sort m)) (Means s p)

abbrev pub MeansNext : Option State → Program → List Token → Type 0
MeansNext (Some s) p ts = Means s p ts
MeansNext None p ts = ⊥
