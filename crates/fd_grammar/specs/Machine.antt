-- The parser as a machine that takes one token at a time.
use Rattle.std.specs.Prelude.{ℕ, pos, Bool, true, false, List, [], ◌∷◌, ◌++◌, length, Option, Some, None, Result, Ok, Err}
use Rattle.std.specs.Ordering.{int_eq}
use Rattle.fd_words.specs.declared.source.SourcePlace.{SourcePlace}
use Rattle.fd_words.specs.declared.combine.Combine.{Combine}
use Rattle.fd_words.specs.declared.combine.Combine.TheVariants.{Add, Min, Max}
use Rattle.fd_lexer.specs.declared.token.TokenKind.{TokenKind}
use Rattle.fd_lexer.specs.declared.token.Token.{Token}
use Rattle.fd_words.specs.declared.arith.Arith.{Arith}
use Rattle.fd_words.specs.declared.arith.Arith.TheVariants.{Minus}
use Rattle.fd_syntax.specs.declared.scalar.Scalar.{Scalar}
use Rattle.fd_syntax.specs.declared.scalar.Scalar.TheVariants as scalar
use Rattle.fd_syntax.specs.declared.scalar.Term.{Term}
use Rattle.fd_syntax.specs.declared.expr.Subscript.{Subscript}
use Rattle.fd_syntax.specs.declared.expr.Subscript.TheVariants as subscript
use Rattle.fd_syntax.specs.declared.expr.Element.{Element}
use Rattle.fd_syntax.specs.declared.expr.Expr.{Expr}
use Rattle.fd_syntax.specs.declared.expr.Expr.TheVariants as expr
use Rattle.fd_syntax.specs.declared.declaration.Parameter.{Parameter}
use Rattle.fd_syntax.specs.declared.declaration.SizedName.{SizedName}
use Rattle.fd_syntax.specs.declared.declaration.Listed.{Listed}
use Rattle.fd_syntax.specs.declared.declaration.Declaration.{Declaration}
use Rattle.fd_syntax.specs.declared.declaration.Declaration.TheVariants as declaration
use Rattle.fd_syntax.specs.declared.statement.BodyStatement.{BodyStatement}
use Rattle.fd_syntax.specs.declared.statement.BodyStatement.TheVariants as inner
use Rattle.fd_syntax.specs.declared.statement.Loop.{Loop}
use Rattle.fd_syntax.specs.declared.statement.Form.{Form}
use Rattle.fd_syntax.specs.declared.statement.Form.TheVariants as form
use Rattle.fd_syntax.specs.declared.statement.Statement.{Statement}
use Rattle.fd_syntax.specs.declared.statement.Statement.TheVariants as statement
use Rattle.fd_syntax.specs.declared.program.Program.{Program}
use Rattle.fd_grammar.specs.declared.sort.Sort.{Sort}
use Rattle.fd_grammar.specs.declared.sort.Sort.TheVariants as sort
use Rattle.fd_grammar.specs.declared.mark.Mark.{Mark}
use Rattle.fd_grammar.specs.declared.mark.Mark.TheVariants as mark
use Rattle.fd_grammar.specs.declared.mark.Fixed.{Fixed}
use Rattle.fd_grammar.specs.declared.mark.Fixed.TheVariants as fixed
use Rattle.fd_grammar.specs.declared.opening.Heading.{Heading}
use Rattle.fd_grammar.specs.declared.opening.Heading.TheVariants.{Blank, Parameters, Integers, Decompositions, Aligns, Reads, Outputs}
use Rattle.fd_grammar.specs.declared.opening.Heading.TheVariants.{Distributes}
use Rattle.fd_grammar.specs.declared.opening.Opening.{Opening}
use Rattle.fd_grammar.specs.declared.opening.Opening.TheVariants as opening
use Rattle.fd_grammar.specs.declared.opening.InnerOpening.{InnerOpening}
use Rattle.fd_grammar.specs.declared.opening.InnerOpening.TheVariants as within
pub use Rattle.fd_grammar.specs.declared.opening.Closer.{Closer}
pub use Rattle.fd_grammar.specs.declared.opening.Closer.TheVariants.{EndOfProgram, EndOfDo, EndOfForall}
use Rattle.fd_grammar.specs.Sorts.{sort_of, is_word, name_of, sign_by, times_of, opens}

-- what a list with commas is of
pub data Item : Type 0 where
  ParameterItem SizedItem ListedItem : Item
  AlignedItem : (dummy : List ℕ) → Item

abbrev pub Value : Item → Type 0
Value ParameterItem = Parameter
Value SizedItem = SizedName
Value ListedItem = Listed
Value (AlignedItem d) = Listed

-- what ends such a list
abbrev pub mark_of : Item → Mark
mark_of ParameterItem = mark.Close
mark_of SizedItem = mark.Line
mark_of ListedItem = mark.Line
mark_of (AlignedItem d) = mark.With

-- What is still to come. Each k says what follows once the phrase is known.
mutual
  pub data State : Type 0 where
    ScalarFactor : (Scalar → Calm) → State
    WholeScalar : (Scalar → Calm) → State
    PlacedScalar : (SourcePlace → Scalar → Calm) → State
    ExprFactor : (index : List ℕ) → (Expr → Calm) → State
    WholeExpr : (index : List ℕ) → (Expr → Calm) → State
    InSubscript : (index : List ℕ) → (Subscript → Calm) → State
    InIndexed : (index name : List ℕ) → SourcePlace → (Subscript → Calm) → State
    AnyName : (Listed → State) → State
    SameName : List ℕ → State → State
    Take : Fixed → State → State
    InForm : (Form → Calm) → State
    Operator : (Combine → State) → State
    Head : List Declaration → List Statement → (List Declaration → List Statement → State) → State
    Body : Closer → List Statement → (List Statement → State) → State
    Close : Closer → State → State
    FirstInner : (index : List ℕ) → (List BodyStatement → State) → State
    MoreInner : (index : List ℕ) → List BodyStatement → (List BodyStatement → State) → State
    Begin : State → State
    Ended : Program → State
    Then : Calm → State

  -- what follows an expression or a list: it may begin with a mark
  pub data Calm : Type 0 where
    MoreScalarFactors : Scalar → (Scalar → Calm) → Calm
    MoreScalarTerms : Scalar → (Scalar → Calm) → Calm
    MoreExprFactors : (index : List ℕ) → Expr → (Expr → Calm) → Calm
    MoreExprTerms : (index : List ℕ) → Expr → (Expr → Calm) → Calm
    AfterName : (index name : List ℕ) → SourcePlace → (Expr → Calm) → Calm
    AfterSubscriptName : (index name : List ℕ) → SourcePlace → (Subscript → Calm) → Calm
    MoreOffset : List Term → (List Term → Calm) → Calm
    AfterCyclic : (Form → Calm) → Calm
    MoreItems : (i : Item) → List (Value i) → (List (Value i) → State) → Calm
    Want : Mark → State → Calm

abbrev pub wanted : Mark → State → State
wanted m s = Then (Want m s)

-- whether a token is the one that is wanted
abbrev pub is_mark : Mark → Sort → Bool
is_mark mark.Close sort.Close = true
is_mark mark.Comma sort.Comma = true
is_mark mark.Equals sort.Equals = true
is_mark mark.Line sort.LineEnd = true
is_mark mark.With sort.WithWord = true
is_mark _ _ = false

abbrev pub is_fixed : Fixed → Sort → Bool
is_fixed fixed.Open sort.Open = true
is_fixed fixed.Star sort.Star = true
is_fixed fixed.Eight (sort.Numbered value) = int_eq value (pos 8)
is_fixed fixed.Do sort.DoWord = true
is_fixed fixed.Forall sort.ForallWord = true
is_fixed _ _ = false

abbrev pub step_want : Bool → State → Option State
step_want true s = Some s
step_want false s = None

-- scalars

abbrev pub ScalarTerm : (Scalar → Calm) → State
ScalarTerm k = ScalarFactor (λ x. MoreScalarFactors x k)

abbrev pub signed : Option SourcePlace → Scalar → Scalar
signed (Some at) x = scalar.Negate at x
signed None x = x

abbrev pub SignedScalar : (Scalar → Calm) → Option SourcePlace → State
SignedScalar k minus = ScalarTerm (λ x. MoreScalarTerms (signed minus x) k)

abbrev pub step_scalar_factor : (Scalar → Calm) → Sort → SourcePlace → Option State
step_scalar_factor k (sort.Numbered value) at = Some (Then (k (scalar.Number value at)))
step_scalar_factor k (sort.Named name) at = Some (Then (k (scalar.Named name at)))
step_scalar_factor k sort.Open at = Some (WholeScalar (λ x. Want mark.Close (Then (k x))))
step_scalar_factor k _ at = None

-- a sign before the first term, of which only a minus counts
abbrev pub step_lead : (Option SourcePlace → State) → SourcePlace → Option State → Option Arith → Option State
step_lead k at next (Some Minus) = Some (k (Some at))
step_lead k at next (Some _) = Some (k None)
step_lead k at next None = next

abbrev pub step_whole_scalar : (Scalar → Calm) → Sort → SourcePlace → Option State
step_whole_scalar k c at = step_lead (SignedScalar k) at (step_scalar_factor (λ x. MoreScalarFactors x (λ y. MoreScalarTerms y k)) c at)
    (sign_by c)

-- an operator goes on with the phrase; whatever else comes is for the next phrase
abbrev pub step_scalar_factors : Scalar → (Scalar → Calm) → SourcePlace → Option State → Option Arith → Option State
step_scalar_factors x k at next (Some op) = Some (ScalarFactor (λ y. MoreScalarFactors (scalar.Binary op at x y) k))
step_scalar_factors x k at next None = next

abbrev pub step_scalar_terms : Scalar → (Scalar → Calm) → SourcePlace → Option State → Option Arith → Option State
step_scalar_terms x k at next (Some op) = Some (ScalarTerm (λ y. MoreScalarTerms (scalar.Binary op at x y) k))
step_scalar_terms x k at next None = next

-- subscripts

abbrev pub is_minus : Arith → Bool
is_minus Minus = true
is_minus _ = false

abbrev pub term_of : Arith → SourcePlace → Scalar → Term
term_of op at x = record { minus = is_minus op; at = at; scalar = x }

abbrev pub Offset : (List Term → Calm) → Calm
Offset k = MoreOffset [] k

abbrev pub step_offset : List Term → (List Term → Calm) → SourcePlace → Option State → Option Arith → Option State
step_offset ts k at next (Some op) = Some (ScalarTerm (λ x. MoreOffset (ts ++ term_of op at x ∷ []) k))
step_offset ts k at next None = next

abbrev pub step_subscript : (index : List ℕ) → (Subscript → Calm) → SourcePlace → Option State → Bool → Option (List ℕ) → Option State
step_subscript index k at next true name = Some (Then (Offset (λ add. k (subscript.Plain add))))
step_subscript index k at next false (Some name) = Some (Then (AfterSubscriptName index name at k))
step_subscript index k at next false None = next

abbrev pub step_after_subscript_name : (index name : List ℕ) → SourcePlace → (Subscript → Calm) → Option State → Bool → Option State
step_after_subscript_name index name at k next true = Some (InIndexed index name at k)
step_after_subscript_name index name at k next false = next

-- behind an index array's name and parenthesis: the index, or another index array
abbrev pub ThroughRest : (name : List ℕ) → SourcePlace → (Subscript → Calm) → State
ThroughRest name at k = Then (Offset (λ inside. Want mark.Close (Then (Offset (λ add. k (subscript.Through name at inside add))))))

abbrev pub TwiceRest : (index name inner : List ℕ) → SourcePlace → SourcePlace → (Subscript → Calm) → State
TwiceRest index name inner at inner_at k =
    Take fixed.Open (SameName index (Then (Offset (λ first. Want mark.Close (Then (Offset (λ second.
    Want mark.Close (Then (Offset (λ add. k (subscript.Twice name at inner inner_at first second add)))))))))))

abbrev pub step_indexed : (index name : List ℕ) → SourcePlace → (Subscript → Calm) → SourcePlace → Bool → Option (List ℕ) → Option State
step_indexed index name at k place true again = Some (ThroughRest name at k)
step_indexed index name at k place false (Some inner) = Some (TwiceRest index name inner at place k)
step_indexed index name at k place false None = None

-- elements and expressions

abbrev pub element_of : (name : List ℕ) → SourcePlace → Subscript → Element
element_of name at s = record { name = name; at = at; subscript = s }

abbrev pub InElement : (index name : List ℕ) → SourcePlace → (Element → State) → State
InElement index name at k = InSubscript index (λ s. Want mark.Close (k (element_of name at s)))

abbrev pub ExprTerm : (index : List ℕ) → (Expr → Calm) → State
ExprTerm index k = ExprFactor index (λ x. MoreExprFactors index x k)

abbrev pub signed_expr : Option SourcePlace → Expr → Expr
signed_expr (Some at) x = expr.Negate x
signed_expr None x = x

abbrev pub SignedExpr : (index : List ℕ) → (Expr → Calm) → Option SourcePlace → State
SignedExpr index k minus = ExprTerm index (λ x. MoreExprTerms index (signed_expr minus x) k)

abbrev pub step_expr_factor : (index : List ℕ) → (Expr → Calm) → Sort → SourcePlace → Option State
step_expr_factor index k (sort.Numbered value) at = Some (Then (k (expr.Number value)))
step_expr_factor index k (sort.Named name) at = Some (Then (AfterName index name at k))
step_expr_factor index k sort.Open at = Some (WholeExpr index (λ x. Want mark.Close (Then (k x))))
step_expr_factor index k _ at = None

abbrev pub step_expr_factors : (index : List ℕ) → Expr → (Expr → Calm) → Option State → Option Arith → Option State
step_expr_factors index x k next (Some op) = Some (ExprFactor index (λ y. MoreExprFactors index (expr.Binary op x y) k))
step_expr_factors index x k next None = next

abbrev pub step_expr_terms : (index : List ℕ) → Expr → (Expr → Calm) → Option State → Option Arith → Option State
step_expr_terms index x k next (Some op) = Some (ExprTerm index (λ y. MoreExprTerms index (expr.Binary op x y) k))
step_expr_terms index x k next None = next

abbrev pub step_after_name : (index name : List ℕ) → SourcePlace → (Expr → Calm) → Option State → Bool → Option State
step_after_name index name at k next true = Some (InElement index name at (λ e. Then (k (expr.Read e))))
step_after_name index name at k next false = next

-- names and lists of names

abbrev pub step_name : (Listed → State) → SourcePlace → Option (List ℕ) → Option State
step_name k at (Some name) = Some (k (record { name = name; at = at }))
step_name k at None = None

abbrev pub parameter_of : Listed → Scalar → Parameter
parameter_of n x = record { name = n.name; at = n.at; value = x }

abbrev pub sized_of : Listed → SourcePlace → Scalar → SizedName
sized_of n at x = record { name = n.name; at = n.at; extent = x; extent_at = at }

abbrev pub InItem : (i : Item) → (Value i → Calm) → State
InItem ParameterItem k = AnyName (λ n. wanted mark.Equals (WholeScalar (λ x. k (parameter_of n x))))
InItem SizedItem k = AnyName (λ n. Take fixed.Open (PlacedScalar (λ at x. Want mark.Close (Then (k (sized_of n at x))))))
InItem ListedItem k = AnyName (λ n. Then (k n))
InItem (AlignedItem d) k = AnyName (λ n. Take fixed.Open (SameName d (wanted mark.Close (Then (k n)))))

abbrev pub InItems : (i : Item) → (List (Value i) → State) → State
InItems i k = InItem i (λ x. MoreItems i (x ∷ []) k)

abbrev pub step_items : (i : Item) → List (Value i) → (List (Value i) → State) → Option State → Bool → Option State
step_items i xs k next true = Some (InItem i (λ x. MoreItems i (xs ++ x ∷ []) k))
step_items i xs k next false = next

-- declarations

abbrev pub ParameterRest : (Declaration → State) → State
ParameterRest k = Take fixed.Open (InItems ParameterItem (λ xs. wanted mark.Line (k (declaration.Parameter xs))))

abbrev pub IntegerRest : (Declaration → State) → State
IntegerRest k = Take fixed.Star (Take fixed.Eight (InItems SizedItem (λ xs. k (declaration.Integer xs))))

abbrev pub DecompositionRest : (Declaration → State) → State
DecompositionRest k = InItems SizedItem (λ xs. k (declaration.Decomposition xs))

abbrev pub AlignTarget : (dummy : List ℕ) → List Listed → (Declaration → State) → State
AlignTarget dummy xs k = AnyName
    (λ n. Take fixed.Open (SameName dummy
    (Then (Offset (λ add. Want mark.Close (wanted mark.Line (k (declaration.Align xs dummy n.name n.at add))))))))

abbrev pub AlignRest : (Declaration → State) → State
AlignRest k = AnyName (λ n. Take fixed.Open
    (AnyName (λ d. wanted mark.Close (Then (MoreItems (AlignedItem d.name) (n ∷ []) (λ xs. AlignTarget d.name xs k))))))

abbrev pub ReadRest : (Declaration → State) → State
ReadRest k = InItems ListedItem (λ xs. k (declaration.Read xs))

abbrev pub OutputRest : (Declaration → State) → State
OutputRest k = InItems ListedItem (λ xs. k (declaration.Output xs))

-- statements

abbrev pub step_form : (Form → Calm) → Sort → SourcePlace → Option State
step_form k sort.BlockWord at = Some (Then (k form.Block))
step_form k sort.CyclicWord at = Some (Then (AfterCyclic k))
step_form k (sort.Named name) at = Some (Then (k (form.Map name at)))
step_form k _ at = None

abbrev pub step_after_cyclic : (Form → Calm) → Option State → Bool → Option State
step_after_cyclic k next true = Some (PlacedScalar (λ at x. Want mark.Close (Then (k (form.BlockCyclic x at)))))
step_after_cyclic k next false = next

abbrev pub DistributeRest : SourcePlace → (Statement → State) → State
DistributeRest at k = AnyName (λ n. Take fixed.Open
    (InForm (λ f. Want mark.Close (wanted mark.Line (k (statement.Distribute at n.name n.at f))))))

abbrev pub PrintRest : SourcePlace → (Statement → State) → State
PrintRest at k = AnyName (λ n. wanted mark.Line (k (statement.Print at n.name n.at)))

-- what a DO or a FORALL runs over
pub record Bounds : Type 0 where
  pub variable : Listed
  pub low : Scalar
  pub high : Scalar

abbrev pub RangeRest : (Listed → Scalar → Scalar → State) → State
RangeRest k = AnyName (λ n. wanted mark.Equals (WholeScalar (λ low. Want mark.Comma (WholeScalar (λ high. Want mark.Line (k n low high))))))

abbrev pub do_of : SourcePlace → Listed → Scalar → Scalar → List Statement → List Statement
do_of at n low high body = statement.Do at n.name n.at low high (length body) ∷ body

abbrev pub DoRest : SourcePlace → (List Statement → State) → State
DoRest at k = RangeRest (λ n low high. Body EndOfDo [] (λ body. wanted mark.Line (k (do_of at n low high body))))

abbrev pub loop_of : SourcePlace → Listed → Scalar → Scalar → List BodyStatement → Loop
loop_of at n low high body = record { at = at; index = n.name; index_at = n.at; low = low; high = high; body = body }

abbrev pub ForallRest : SourcePlace → (Statement → State) → State
ForallRest at k = RangeRest (λ n low high. FirstInner n.name (λ body. wanted mark.Line (k (statement.Forall (loop_of at n low high body)))))

abbrev pub step_operator : (Combine → State) → Sort → Option State
step_operator k sort.AddWord = Some (k Add)
step_operator k sort.MinWord = Some (k Min)
step_operator k sort.MaxWord = Some (k Max)
step_operator k _ = None

abbrev pub AssignRest : (index name : List ℕ) → SourcePlace → (BodyStatement → State) → State
AssignRest index name at k = Take fixed.Open
    (InElement index name at (λ e. wanted mark.Equals (WholeExpr index (λ x. Want mark.Line (k (inner.Assign e x))))))

abbrev pub ReduceTarget : (index : List ℕ) → Combine → (BodyStatement → State) → State
ReduceTarget index op k = AnyName
    (λ n. Take fixed.Open (InElement index n.name n.at
    (λ e. wanted mark.Comma (WholeExpr index (λ x. Want mark.Close (wanted mark.Line (k (inner.Reduce op e x))))))))

abbrev pub ReduceRest : (index : List ℕ) → (BodyStatement → State) → State
ReduceRest index k = Take fixed.Open (Operator (λ op. wanted mark.Comma (ReduceTarget index op k)))

-- what has to follow a word that ends statements, if anything
abbrev pub closing_of : Closer → Sort → Option (Option Fixed)
closing_of EndOfDo sort.EndDoWord = Some None
closing_of EndOfDo sort.EndWord = Some (Some fixed.Do)
closing_of EndOfForall sort.EndForallWord = Some None
closing_of EndOfForall sort.EndWord = Some (Some fixed.Forall)
closing_of EndOfProgram sort.EndWord = Some None
closing_of _ _ = None

abbrev pub step_closing : State → Option (Option Fixed) → Option State
step_closing s (Some None) = Some s
step_closing s (Some (Some f)) = Some (Take f s)
step_closing s None = None

abbrev pub step_close : Closer → State → Sort → Option State
step_close closer s c = step_closing s (closing_of closer c)

abbrev pub inner_opening_of : Sort → Option InnerOpening
inner_opening_of sort.LineEnd = Some within.Blank
inner_opening_of (sort.Named name) = Some (within.Assigns name)
inner_opening_of sort.ReduceWord = Some within.Reduces
inner_opening_of _ = None

-- `again` is the state behind a line end, `with` the one behind a statement
abbrev pub step_inner : (index : List ℕ) → (again : State) → (BodyStatement → State) → SourcePlace → Option State → Option InnerOpening
    → Option State
step_inner index again k at next (Some within.Blank) = Some again
step_inner index again k at next (Some (within.Assigns name)) = Some (AssignRest index name at k)
step_inner index again k at next (Some within.Reduces) = Some (ReduceRest index k)
step_inner index again k at next None = next

abbrev pub opening_by : Sort → Option Opening
opening_by sort.LineEnd = Some opening.Blank
opening_by sort.DistributeWord = Some opening.Distributes
opening_by sort.PrintWord = Some opening.Prints
opening_by sort.DoWord = Some opening.Repeats
opening_by sort.ForallWord = Some opening.Ranges
opening_by _ = None

abbrev pub step_body : Closer → List Statement → (List Statement → State) → SourcePlace → Option State → Option Opening → Option State
step_body c ss k at next (Some opening.Blank) = Some (Body c ss k)
step_body c ss k at next (Some opening.Distributes) = Some (DistributeRest at (λ s. Body c (ss ++ s ∷ []) k))
step_body c ss k at next (Some opening.Prints) = Some (PrintRest at (λ s. Body c (ss ++ s ∷ []) k))
step_body c ss k at next (Some opening.Repeats) = Some (DoRest at (λ more. Body c (ss ++ more) k))
step_body c ss k at next (Some opening.Ranges) = Some (ForallRest at (λ s. Body c (ss ++ s ∷ []) k))
step_body c ss k at next None = next

abbrev pub heading_of : Sort → Option Heading
heading_of sort.LineEnd = Some Blank
heading_of sort.ParameterWord = Some Parameters
heading_of sort.IntegerWord = Some Integers
heading_of sort.DecompositionWord = Some Decompositions
heading_of sort.AlignWord = Some Aligns
heading_of sort.ReadWord = Some Reads
heading_of sort.OutputWord = Some Outputs
heading_of sort.DistributeWord = Some Distributes
heading_of _ = None

abbrev pub step_head : List Declaration → List Statement → (List Declaration → List Statement → State) → SourcePlace → Option State
    → Option Heading → Option State
step_head ds ss k at next (Some Blank) = Some (Head ds ss k)
step_head ds ss k at next (Some Parameters) = Some (ParameterRest (λ d. Head (ds ++ d ∷ []) ss k))
step_head ds ss k at next (Some Integers) = Some (IntegerRest (λ d. Head (ds ++ d ∷ []) ss k))
step_head ds ss k at next (Some Decompositions) = Some (DecompositionRest (λ d. Head (ds ++ d ∷ []) ss k))
step_head ds ss k at next (Some Aligns) = Some (AlignRest (λ d. Head (ds ++ d ∷ []) ss k))
step_head ds ss k at next (Some Reads) = Some (ReadRest (λ d. Head (ds ++ d ∷ []) ss k))
step_head ds ss k at next (Some Outputs) = Some (OutputRest (λ d. Head (ds ++ d ∷ []) ss k))
step_head ds ss k at next (Some Distributes) = Some (DistributeRest at (λ s. Head ds (ss ++ s ∷ []) k))
step_head ds ss k at next None = next

abbrev pub step_begin : State → Sort → Option State
step_begin s sort.LineEnd = Some (Begin s)
step_begin s sort.ProgramWord = Some s
step_begin s _ = None

abbrev pub step_ended : Program → Sort → Option State
step_ended p sort.LineEnd = Some (Ended p)
step_ended p _ = None

-- one token: what it is, its sort and its place

abbrev pub step_calm : Calm → Sort → SourcePlace → Option State
step_calm (MoreScalarFactors x k) c at = step_scalar_factors x k at (step_calm (k x) c at) (times_of c)
step_calm (MoreScalarTerms x k) c at = step_scalar_terms x k at (step_calm (k x) c at) (sign_by c)
step_calm (MoreExprFactors index x k) c at = step_expr_factors index x k (step_calm (k x) c at) (times_of c)
step_calm (MoreExprTerms index x k) c at = step_expr_terms index x k (step_calm (k x) c at) (sign_by c)
step_calm (AfterName index name place k) c at = step_after_name index name place k (step_calm (k (expr.Named name place)) c at) (opens c)
step_calm (AfterSubscriptName index name place k) c at =
    step_after_subscript_name index name place k
    (step_scalar_factors (scalar.Named name place) (λ y. MoreScalarTerms y (λ x. k (subscript.Scalar x))) at
    (step_scalar_terms (scalar.Named name place) (λ x. k (subscript.Scalar x)) at
    (step_calm (k (subscript.Scalar (scalar.Named name place))) c at) (sign_by c))
    (times_of c))
    (opens c)
step_calm (MoreOffset ts k) c at = step_offset ts k at (step_calm (k ts) c at) (sign_by c)
step_calm (AfterCyclic k) c at = step_after_cyclic k (step_calm (k form.Cyclic) c at) (opens c)
step_calm (MoreItems i xs k) c at = step_items i xs k (step_want (is_mark (mark_of i) c) (k xs)) (is_mark mark.Comma c)
step_calm (Want m s) c at = step_want (is_mark m c) s

abbrev pub step : State → TokenKind → Sort → SourcePlace → Option State
step (ScalarFactor k) t c at = step_scalar_factor k c at
step (WholeScalar k) t c at = step_whole_scalar k c at
step (PlacedScalar k) t c at = step_whole_scalar (k at) c at
step (ExprFactor index k) t c at = step_expr_factor index k c at
step (WholeExpr index k) t c at = step_lead (SignedExpr index k) at
    (step_expr_factor index (λ x. MoreExprFactors index x (λ y. MoreExprTerms index y k)) c at) (sign_by c)
step (InSubscript index k) t c at = step_subscript index k at (step_whole_scalar (λ x. k (subscript.Scalar x)) c at) (is_word index t)
    (name_of c)
step (InIndexed index name place k) t c at = step_indexed index name place k at (is_word index t) (name_of c)
step (AnyName k) t c at = step_name k at (name_of c)
step (SameName name s) t c at = step_want (is_word name t) s
step (Take f s) t c at = step_want (is_fixed f c) s
step (InForm k) t c at = step_form k c at
step (Operator k) t c at = step_operator k c
step (Head ds ss k) t c at = step_head ds ss k at (step_body EndOfProgram ss (k ds) at (step_close EndOfProgram (k ds ss) c)
    (opening_by c)) (heading_of c)
step (Body closer ss k) t c at = step_body closer ss k at (step_close closer (k ss) c) (opening_by c)
step (Close closer s) t c at = step_close closer s c
step (FirstInner index k) t c at = step_inner index (FirstInner index k) (λ s. MoreInner index (s ∷ []) k) at None (inner_opening_of c)
step (MoreInner index xs k) t c at = step_inner index (MoreInner index xs k) (λ s. MoreInner index (xs ++ s ∷ []) k) at
    (step_close EndOfForall (k xs) c) (inner_opening_of c)
step (Begin s) t c at = step_begin s c
step (Ended p) t c at = step_ended p c
step (Then calm) t c at = step_calm calm c at

abbrev pub ending : State → Result Program (List Token)
ending (Ended p) = Ok p
ending _ = Err []

abbrev pub after : Token → List Token → (State → Result Program (List Token)) → Option State → Result Program (List Token)
after t ts go (Some s) = go s
after t ts go None = Err (t ∷ ts)

-- the answer to these tokens, or the tokens from the first fault on
abbrev pub run : List Token → State → Result Program (List Token)
run [] s = ending s
run (t ∷ ts) s = after t ts (run ts) (step s t.kind (sort_of t.kind) t.at)

abbrev pub start : State
start = Begin (AnyName (λ n. wanted mark.Line (Head [] [] (λ ds ss. Ended (record { name = n.name; declarations = ds; statements = ss })))))
