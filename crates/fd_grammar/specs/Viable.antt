-- From each state the machine can come to a program.
use Rattle.std.proofs.Common.{◌≡◌, ℕ, pos, true, false, unwrap_or, List, [], ◌∷◌, ◌++◌, Option, Some, None, Ok, Err, refl, ap, sym, ◌∙◌}
use Rattle.std.proofs.Common.{subst, codes}
use Rattle.fd_words.specs.declared.source.SourcePlace.{SourcePlace}
use Rattle.fd_words.specs.declared.combine.Combine.TheVariants.{Add}
use Rattle.fd_lexer.specs.declared.token.TokenKind.{TokenKind}
use Rattle.fd_lexer.specs.declared.token.TokenKind.TheVariants as kind
use Rattle.fd_lexer.specs.declared.token.Token.{Token}
use Rattle.fd_syntax.specs.declared.scalar.Scalar.{Scalar}
use Rattle.fd_syntax.specs.declared.scalar.Scalar.TheVariants as scalar
use Rattle.fd_syntax.specs.declared.scalar.Term.{Term}
use Rattle.fd_syntax.specs.declared.expr.Subscript.{Subscript}
use Rattle.fd_syntax.specs.declared.expr.Subscript.TheVariants as subscript
use Rattle.fd_syntax.specs.declared.expr.Expr.{Expr}
use Rattle.fd_syntax.specs.declared.expr.Expr.TheVariants as expr
use Rattle.fd_syntax.specs.declared.declaration.Listed.{Listed}
use Rattle.fd_syntax.specs.declared.statement.BodyStatement.{BodyStatement}
use Rattle.fd_syntax.specs.declared.statement.BodyStatement.TheVariants as inner
use Rattle.fd_syntax.specs.declared.statement.Form.{Form}
use Rattle.fd_syntax.specs.declared.statement.Form.TheVariants as form
use Rattle.fd_syntax.specs.declared.program.Program.{Program}
use Rattle.fd_grammar.specs.declared.sort.Sort.{Sort}
use Rattle.fd_grammar.specs.declared.sort.Sort.TheVariants as sort
use Rattle.fd_grammar.specs.declared.mark.Mark.{Mark}
use Rattle.fd_grammar.specs.declared.mark.Mark.TheVariants as mark
use Rattle.fd_grammar.specs.declared.mark.Fixed.{Fixed}
use Rattle.fd_grammar.specs.declared.mark.Fixed.TheVariants as fixed
use Rattle.fd_grammar.specs.Sorts.{reserved, name_of, sort_in, sort_of, sort_of_word, sign_by, times_of, opens}
use Rattle.fd_grammar.specs.Machine.{EndOfProgram, EndOfDo, EndOfForall, Item, ParameterItem, SizedItem, ListedItem, AlignedItem, Value}
use Rattle.fd_grammar.specs.Machine.{mark_of, State, Calm, ScalarFactor, WholeScalar, PlacedScalar, ExprFactor, WholeExpr, InSubscript}
use Rattle.fd_grammar.specs.Machine.{InIndexed}
use Rattle.fd_grammar.specs.Machine.{AnyName, SameName, Take, InForm, Operator, Head, Body, Close, FirstInner, MoreInner, Begin, Ended}
use Rattle.fd_grammar.specs.Machine.{Then, MoreScalarFactors, MoreScalarTerms, MoreExprFactors, MoreExprTerms, AfterName}
use Rattle.fd_grammar.specs.Machine.{AfterSubscriptName, Offset, MoreOffset, AfterCyclic, MoreItems, Want, step_offset, step_indexed}
use Rattle.fd_grammar.specs.Machine.{step_after_subscript_name}
use Rattle.fd_grammar.specs.Machine.{step_expr_terms, step_after_cyclic, step_want, is_mark, step, step_calm, after, run, ending}
use Rattle.fd_grammar.specs.Grammar.{Is, IsAgain, no_lines, scalar_term, scalar_factor, scalar_number, scalar_subscript, element, expr_term}
use Rattle.fd_grammar.specs.Grammar.{expr_factor, expr_number, assigned, AreInner, last_inner, end_forall_word}
use Rattle.fd_grammar.specs.CompleteExpr.{go, again, go_again, no_star, no_sign, no_star_expr, no_open}
use Rattle.fd_grammar.specs.Complete.{reads_first_inner, forall_closes}
use Rattle.fd_grammar.specs.TokenTests.{mark_sort}

abbrev origin : SourcePlace
origin = record { line = 1; column = 1 }

abbrev placeless : TokenKind → Token
placeless k = record { kind = k; at = origin; start = 0; end = 0 }

abbrev word_of : List ℕ → Token
word_of w = placeless (kind.Word w)

abbrev zero_token : Token
zero_token = placeless (kind.Number (pos 0))

is_zero : Is (sort.Numbered (pos 0)) zero_token
unfolding sort_of
is_zero = refl

abbrev letter : List ℕ
letter = codes "A"

is_letter : Is (sort.Named letter) (word_of letter)
unfolding sort_of sort_of_word
is_letter = refl

-- a reserved word is what the table says
is_reserved : (w : List ℕ) (c : Sort) → sort_in reserved w ≡ Some c → Is c (word_of w)
unfolding sort_of sort_of_word
is_reserved w c e = ap (λ o. unwrap_or o (sort.Named w)) e

abbrev kind_of : Mark → TokenKind
kind_of mark.Close = kind.CloseParen
kind_of mark.Comma = kind.Comma
kind_of mark.Equals = kind.Equals
kind_of mark.Line = kind.LineEnd
kind_of mark.With = kind.Word (codes "WITH")

abbrev marked : Mark → Token
marked m = placeless (kind_of m)

is_marked : (m : Mark) → Is (mark_sort m) (marked m)
unfolding sort_of sort_of_word
is_marked mark.Close = refl
is_marked mark.Comma = refl
is_marked mark.Equals = refl
is_marked mark.Line = refl
is_marked mark.With = refl

-- a mark goes on with no phrase, and is the mark that it is
mark_ends : (m : Mark) → (times_of (mark_sort m) ≡ None) × (sign_by (mark_sort m) ≡ None) × (opens (mark_sort m) ≡ false)
    × (is_mark m (mark_sort m) ≡ true)
mark_ends mark.Close = (refl, refl, refl, refl)
mark_ends mark.Comma = (refl, refl, refl, refl)
mark_ends mark.Equals = (refl, refl, refl, refl)
mark_ends mark.Line = (refl, refl, refl, refl)
mark_ends mark.With = (refl, refl, refl, refl)

no_times : (m : Mark) → times_of (sort_of (marked m).kind) ≡ None
no_times m = ap times_of (is_marked m) ∙ (mark_ends m).0

no_plus : (m : Mark) → sign_by (sort_of (marked m).kind) ≡ None
no_plus m = ap sign_by (is_marked m) ∙ (mark_ends m).1

is_shut : (m : Mark) → opens (sort_of (marked m).kind) ≡ false
is_shut m = ap opens (is_marked m) ∙ (mark_ends m).2

-- the token that is wanted
abbrev fixed_kind : Fixed → TokenKind
fixed_kind fixed.Open = kind.OpenParen
fixed_kind fixed.Star = kind.Star
fixed_kind fixed.Eight = kind.Number (pos 8)
fixed_kind fixed.Do = kind.Word (codes "DO")
fixed_kind fixed.Forall = kind.Word (codes "FORALL")

takes : (f : Fixed) (s : State) (more : List Token) → run (placeless (fixed_kind f) ∷ more) (Take f s) ≡ run more s
unfolding sort_of sort_of_word
takes fixed.Open s more = refl
takes fixed.Star s more = refl
takes fixed.Eight s more = refl
takes fixed.Do s more = refl
takes fixed.Forall s more = refl

wants : (m : Mark) (s : State) (more : List Token) → run (marked m ∷ more) (Then (Want m s)) ≡ run more s
wants m s more = go (marked m) more (Then (Want m s)) s (mark_sort m) (is_marked m) (ap (λ b. step_want b s) (mark_ends m).3)

items_end : (i : Item) (xs : List (Value i)) (k : List (Value i) → State) (more : List Token)
    → run (marked (mark_of i) ∷ more) (Then (MoreItems i xs k)) ≡ run more (k xs)
unfolding sort_of sort_of_word
items_end ParameterItem xs k more = refl
items_end SizedItem xs k more = refl
items_end ListedItem xs k more = refl
items_end (AlignedItem d) xs k more = refl

-- a mark is for what comes behind the phrase
factors_pass : (m : Mark) (x : Scalar) (k : Scalar → Calm) (more : List Token) → run (marked m ∷ more) (Then (MoreScalarFactors x k))
    ≡ run (marked m ∷ more) (Then (k x))
factors_pass m x k more = no_star (marked m) more x k (no_times m)

terms_pass : (m : Mark) (x : Scalar) (k : Scalar → Calm) (more : List Token) → run (marked m ∷ more) (Then (MoreScalarTerms x k))
    ≡ run (marked m ∷ more) (Then (k x))
terms_pass m x k more = no_sign (marked m) more x k (no_plus m)

expr_factors_pass : (m : Mark) (index : List ℕ) (x : Expr) (k : Expr → Calm) (more : List Token)
    → run (marked m ∷ more) (Then (MoreExprFactors index x k)) ≡ run (marked m ∷ more) (Then (k x))
expr_factors_pass m index x k more = no_star_expr (marked m) more index x k (no_times m)

expr_terms_pass : (m : Mark) (index : List ℕ) (x : Expr) (k : Expr → Calm) (more : List Token)
    → run (marked m ∷ more) (Then (MoreExprTerms index x k)) ≡ run (marked m ∷ more) (Then (k x))
expr_terms_pass m index x k more =
    ap (λ o. after (marked m) more (run more) (step_expr_terms index x k (step_calm (k x) (sort_of (marked m).kind) origin) o)) (no_plus m)

name_passes : (m : Mark) (index name : List ℕ) (at : SourcePlace) (k : Expr → Calm) (more : List Token)
    → run (marked m ∷ more) (Then (AfterName index name at k)) ≡ run (marked m ∷ more) (Then (k (expr.Named name at)))
name_passes m index name at k more = no_open (marked m) more index name at k (is_shut m)

subscript_passes : (m : Mark) (index name : List ℕ) (at : SourcePlace) (k : Subscript → Calm) (more : List Token)
    → run (marked m ∷ more) (Then (AfterSubscriptName index name at k)) ≡ run (marked m ∷ more)
    (Then (k (subscript.Scalar (scalar.Named name at))))
subscript_passes m index name at k more =
    let k' : Scalar → Calm = λ x. k (subscript.Scalar x) in
    let x : Scalar = scalar.Named name at in
    ap (λ o. after (marked m) more (run more) (step_after_subscript_name index name at k
    (step_calm (MoreScalarFactors x (λ y. MoreScalarTerms y k')) (sort_of (marked m).kind) origin) o)) (is_shut m)
    ∙ factors_pass m x (λ y. MoreScalarTerms y k') more ∙ terms_pass m x k' more

offset_passes : (m : Mark) (ts : List Term) (k : List Term → Calm) (more : List Token) → run (marked m ∷ more) (Then (MoreOffset ts k))
    ≡ run (marked m ∷ more) (Then (k ts))
offset_passes m ts k more = ap
    (λ o. after (marked m) more (run more) (step_offset ts k origin (step_calm (k ts) (sort_of (marked m).kind) origin) o)) (no_plus m)

cyclic_passes : (m : Mark) (k : Form → Calm) (more : List Token) → run (marked m ∷ more) (Then (AfterCyclic k)) ≡ run (marked m ∷ more)
    (Then (k form.Cyclic))
cyclic_passes m k more = ap (λ o. after (marked m) more (run more)
    (step_after_cyclic k (step_calm (k form.Cyclic) (sort_of (marked m).kind) origin) o)) (is_shut m)

-- a line of a FORALL's body
abbrev inner_tokens : List Token
inner_tokens = word_of letter ∷ placeless kind.OpenParen ∷ zero_token ∷ placeless kind.CloseParen ∷ placeless kind.Equals ∷ zero_token
    ∷ placeless kind.LineEnd ∷ []

abbrev inner_statement : BodyStatement
inner_statement = inner.Assign (record { name = letter; at = origin; subscript = subscript.Scalar (scalar.Number (pos 0) origin) })
    (expr.Number (pos 0))

is_open : Is sort.Open (placeless kind.OpenParen)
unfolding sort_of
is_open = refl

not_again : (index : List ℕ) → IsAgain index zero_token → ⊥
not_again index h = cc

an_inner : (index : List ℕ) → AreInner index inner_tokens (inner_statement ∷ [])
an_inner index =
    last_inner (assigned (placeless kind.Equals)
    (element (word_of letter) (placeless kind.OpenParen) (placeless kind.CloseParen) is_letter is_open
    (scalar_subscript zero_token (not_again index) (scalar_term (scalar_factor (scalar_number (pos 0) zero_token is_zero))))
    (is_marked mark.Close))
    (is_marked mark.Equals) (expr_term (expr_factor (expr_number (pos 0) zero_token is_zero))))
    (placeless kind.LineEnd) (is_marked mark.Line) no_lines

-- these tokens lead from the state to the program
abbrev pub CanEnd : State → Type 0
CanEnd s = (more : List Token) × (p : Program) × (run more s ≡ Ok p)

-- some of them begin with a mark
abbrev EndsCalm : Calm → Type 0
EndsCalm c = (m : Mark) × (more : List Token) × (p : Program) × (run (marked m ∷ more) (Then c) ≡ Ok p)

abbrev zero_at : Scalar
zero_at = scalar.Number (pos 0) origin

-- a token of a known sort, and then what the next state needs
by_token : (t : Token) (c : Sort) (s s' : State) → Is c t → step s t.kind c t.at ≡ Some s' → CanEnd s' → CanEnd s
by_token t c s s' e h r = (t ∷ r.0, r.1, go t r.0 s s' c e h ∙ r.2)

by_word : (w : List ℕ) (c : Sort) (s s' : State) → sort_in reserved w ≡ Some c → step s (kind.Word w) c origin ≡ Some s' → CanEnd s'
    → CanEnd s
by_word w c s s' e h r = by_token (word_of w) c s s' (is_reserved w c e) h r

by_zero : (s s' : State) → step s (kind.Number (pos 0)) (sort.Numbered (pos 0)) origin ≡ Some s' → CanEnd s' → CanEnd s
by_zero s s' h r = by_token zero_token (sort.Numbered (pos 0)) s s' is_zero h r

ends_then : (c : Calm) → EndsCalm c → CanEnd (Then c)
ends_then c r = (marked r.0 ∷ r.1, r.2, r.3)

-- nothing goes on with a scalar or an expression
ends_scalar : (k : Scalar → Calm) → EndsCalm (k zero_at) → CanEnd (Then (MoreScalarFactors zero_at (λ y. MoreScalarTerms y k)))
ends_scalar k r =
    (marked r.0 ∷ r.1, r.2, factors_pass r.0 zero_at (λ y. MoreScalarTerms y k) r.1 ∙ terms_pass r.0 zero_at k r.1 ∙ r.3)

ends_expr : (index : List ℕ) (k : Expr → Calm) → EndsCalm (k (expr.Number (pos 0)))
    → CanEnd (Then (MoreExprFactors index (expr.Number (pos 0)) (λ y. MoreExprTerms index y k)))
ends_expr index k r = (
  marked r.0 ∷ r.1,
  r.2,
  expr_factors_pass r.0 index (expr.Number (pos 0)) (λ y. MoreExprTerms index y k) r.1
      ∙ expr_terms_pass r.0 index (expr.Number (pos 0)) k r.1 ∙ r.3,
)

mutual
  pub ends : (s : State) → CanEnd s
  ends (ScalarFactor k) = by_zero (ScalarFactor k) (Then (k zero_at)) refl (ends_then (k zero_at) (ends_calm (k zero_at)))
  ends (WholeScalar k) = by_zero (WholeScalar k) (Then (MoreScalarFactors zero_at (λ y. MoreScalarTerms y k))) refl
      (ends_scalar k (ends_calm (k zero_at)))
  ends (PlacedScalar k) = by_zero (PlacedScalar k) (Then (MoreScalarFactors zero_at (λ y. MoreScalarTerms y (k origin)))) refl
      (ends_scalar (k origin) (ends_calm (k origin zero_at)))
  ends (ExprFactor index k) =
      let c = k (expr.Number (pos 0)) in by_zero (ExprFactor index k) (Then c) refl (ends_then c (ends_calm (k (expr.Number (pos 0)))))
  ends (WholeExpr index k) =
      by_zero (WholeExpr index k) (Then (MoreExprFactors index (expr.Number (pos 0)) (λ y. MoreExprTerms index y k))) refl
      (ends_expr index k (ends_calm (k (expr.Number (pos 0)))))
  ends (InSubscript index k) =
      let k' : Scalar → Calm = λ x. k (subscript.Scalar x) in
      by_zero (InSubscript index k) (Then (MoreScalarFactors zero_at (λ y. MoreScalarTerms y k'))) refl
      (ends_scalar k' (ends_calm (k (subscript.Scalar zero_at))))
  ends (InIndexed index name at k) =
      let r = ends_calm (k (subscript.Through name at [] [])) in
      let rest : List Token = marked mark.Close ∷ marked r.0 ∷ r.1 in
      let behind : List Term → State = λ ins. Then (Offset (λ add. k (subscript.Through name at ins add))) in (
        word_of index ∷ rest,
        r.2,
        ap (λ b. after (word_of index) rest (run rest)
            (step_indexed index name at k origin b (name_of (sort_of (kind.Word index))))) (again index (word_of index) refl)
            ∙ offset_passes mark.Close [] (λ ins. Want mark.Close (behind ins)) (marked r.0 ∷ r.1)
            ∙ wants mark.Close (behind []) (marked r.0 ∷ r.1)
            ∙ offset_passes r.0 [] (λ add. k (subscript.Through name at [] add)) r.1 ∙ r.3,
      )
  ends (AnyName k) =
      let v : Listed = record { name = letter; at = origin } in
      by_token (word_of letter) (sort.Named letter) (AnyName k) (k v) is_letter refl (ends (k v))
  ends (SameName name s) = let r = ends s in (word_of name ∷ r.0, r.1, go_again (word_of name) r.0 name s refl ∙ r.2)
  ends (Take f s) = let r = ends s in (placeless (fixed_kind f) ∷ r.0, r.1, takes f s r.0 ∙ r.2)
  ends (InForm k) = by_word (codes "BLOCK") sort.BlockWord (InForm k) (Then (k form.Block)) refl refl
      (ends_then (k form.Block) (ends_calm (k form.Block)))
  ends (Operator k) = by_word (codes "ADD") sort.AddWord (Operator k) (k Add) refl refl (ends (k Add))
  ends (Head ds ss k) = by_word (codes "END") sort.EndWord (Head ds ss k) (k ds ss) refl refl (ends (k ds ss))
  ends (Body EndOfProgram ss k) = by_word (codes "END") sort.EndWord (Body EndOfProgram ss k) (k ss) refl refl (ends (k ss))
  ends (Body EndOfDo ss k) = by_word (codes "ENDDO") sort.EndDoWord (Body EndOfDo ss k) (k ss) refl refl (ends (k ss))
  ends (Body EndOfForall ss k) = by_word (codes "ENDFORALL") sort.EndForallWord (Body EndOfForall ss k) (k ss) refl refl (ends (k ss))
  ends (Close EndOfProgram s) = by_word (codes "END") sort.EndWord (Close EndOfProgram s) s refl refl (ends s)
  ends (Close EndOfDo s) = by_word (codes "ENDDO") sort.EndDoWord (Close EndOfDo s) s refl refl (ends s)
  ends (Close EndOfForall s) = by_word (codes "ENDFORALL") sort.EndForallWord (Close EndOfForall s) s refl refl (ends s)
  ends (FirstInner index k) =
      let r = ends (k (inner_statement ∷ [])) in (
        inner_tokens ++ word_of (codes "ENDFORALL") ∷ r.0,
        r.1,
        reads_first_inner (an_inner index) k (word_of (codes "ENDFORALL") ∷ r.0)
            ∙ forall_closes index (end_forall_word (word_of (codes "ENDFORALL")) (is_reserved (codes "ENDFORALL") sort.EndForallWord refl))
            (inner_statement ∷ []) k r.0 ∙ r.2,
      )
  ends (MoreInner index xs k) = by_word (codes "ENDFORALL") sort.EndForallWord (MoreInner index xs k) (k xs) refl refl (ends (k xs))
  ends (Begin s) = by_word (codes "PROGRAM") sort.ProgramWord (Begin s) s refl refl (ends s)
  ends (Ended p) = ([], p, refl)
  ends (Then c) = ends_then c (ends_calm c)

  ends_calm : (c : Calm) → EndsCalm c
  ends_calm (MoreScalarFactors x k) = let r = ends_calm (k x) in (r.0, r.1, r.2, factors_pass r.0 x k r.1 ∙ r.3)
  ends_calm (MoreScalarTerms x k) = let r = ends_calm (k x) in (r.0, r.1, r.2, terms_pass r.0 x k r.1 ∙ r.3)
  ends_calm (MoreExprFactors index x k) = let r = ends_calm (k x) in (r.0, r.1, r.2, expr_factors_pass r.0 index x k r.1 ∙ r.3)
  ends_calm (MoreExprTerms index x k) = let r = ends_calm (k x) in (r.0, r.1, r.2, expr_terms_pass r.0 index x k r.1 ∙ r.3)
  ends_calm (AfterName index name at k) = let r = ends_calm (k (expr.Named name at)) in
      (r.0, r.1, r.2, name_passes r.0 index name at k r.1 ∙ r.3)
  ends_calm (AfterSubscriptName index name at k) = let r = ends_calm (k (subscript.Scalar (scalar.Named name at))) in
      (r.0, r.1, r.2, subscript_passes r.0 index name at k r.1 ∙ r.3)
  ends_calm (MoreOffset ts k) = let r = ends_calm (k ts) in (r.0, r.1, r.2, offset_passes r.0 ts k r.1 ∙ r.3)
  ends_calm (AfterCyclic k) = let r = ends_calm (k form.Cyclic) in (r.0, r.1, r.2, cyclic_passes r.0 k r.1 ∙ r.3)
  ends_calm (MoreItems i xs k) = let r = ends (k xs) in (mark_of i, r.0, r.1, items_end i xs k r.0 ∙ r.2)
  ends_calm (Want m s) = let r = ends s in (m, r.0, r.1, wants m s r.0 ∙ r.2)

-- A fault cuts the tokens: what is before it leads to a state, from which nothing goes on with it.
abbrev pub Stuck : State → List Token → Type 0
Stuck s [] = ending s ≡ Err []
Stuck s (t ∷ ts) = step s t.kind (sort_of t.kind) t.at ≡ None

pub record Cut (ts : List Token) (s : State) (rest : List Token) : Type 0 where
  pub before : List Token
  pub state : State
  pub split : ts ≡ before ++ rest
  pub leads : (more : List Token) → run (before ++ more) s ≡ run more state
  pub stuck : Stuck state rest

none_left : (s : State) (rest : List Token) → ending s ≡ Err rest → rest ≡ []
none_left (Ended p) rest h = cc
none_left _ rest h = cc

cut_end : (s : State) (rest : List Token) → ending s ≡ Err rest → Cut [] s rest
cut_end s rest h =
    let e = none_left s rest h in
    subst (λ r. Cut [] s r) (sym e) (record { before = []; state = s; split = refl; leads = λ more. refl; stuck = h ∙ ap Err e })

cut_step : (t : Token) (ts rest : List Token) (s : State) (o : Option State) → step s t.kind (sort_of t.kind) t.at ≡ o
    → ((s' : State) → run ts s' ≡ Err rest → Cut ts s' rest) → after t ts (run ts) o ≡ Err rest → Cut (t ∷ ts) s rest
cut_step t ts rest s (Some s') h cut e =
    let c = cut s' e in
    record {
      before = t ∷ c.before;
      state = c.state;
      split = ap (λ l. t ∷ l) c.split;
      leads = λ more. ap (after t (c.before ++ more) (run (c.before ++ more))) h ∙ c.leads more;
      stuck = c.stuck;
    }
cut_step t ts rest s None h cut e =
    let same : t ∷ ts ≡ rest = cc in
    subst (λ r. Cut (t ∷ ts) s r) same (record { before = []; state = s; split = refl; leads = λ more. refl; stuck = h })

pub cut_of : (ts : List Token) (s : State) (rest : List Token) → run ts s ≡ Err rest → Cut ts s rest
cut_of [] s rest e = cut_end s rest e
cut_of (t ∷ ts) s rest e = cut_step t ts rest s (step s t.kind (sort_of t.kind) t.at) refl (λ s' h. cut_of ts s' rest h) e
