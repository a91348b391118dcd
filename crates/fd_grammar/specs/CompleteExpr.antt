-- Scalars, subscripts and expressions: what the grammar spells, the machine reads.
use Rattle.std.proofs.Common.{◌≡◌, ℕ, Bool, true, false, List, [], ◌∷◌, ◌++◌, Option, Some, None, refl, ap, sym, ◌∙◌, append_assoc}
use Rattle.std.proofs.lemmas.Slice.Eq.{bytes_eq-Decides}
use Rattle.std.proofs.lemmas.Bool.{false_from_ne_true}
use Rattle.fd_words.specs.declared.source.SourcePlace.{SourcePlace}
use Rattle.fd_lexer.specs.declared.token.TokenKind.{TokenKind}
use Rattle.fd_lexer.specs.declared.token.TokenKind.TheVariants as kind
use Rattle.fd_lexer.specs.declared.token.Token.{Token}
use Rattle.fd_words.specs.declared.arith.Arith.TheVariants.{Plus, Minus, Times}
use Rattle.fd_syntax.specs.declared.scalar.Scalar.{Scalar}
use Rattle.fd_syntax.specs.declared.scalar.Scalar.TheVariants as scalar
use Rattle.fd_syntax.specs.declared.scalar.Term.{Term}
use Rattle.fd_syntax.specs.declared.expr.Subscript.{Subscript}
use Rattle.fd_syntax.specs.declared.expr.Subscript.TheVariants as subscript
use Rattle.fd_syntax.specs.declared.expr.Element.{Element}
use Rattle.fd_syntax.specs.declared.expr.Expr.{Expr}
use Rattle.fd_syntax.specs.declared.expr.Expr.TheVariants as expr
use Rattle.fd_grammar.specs.declared.sort.Sort.{Sort}
use Rattle.fd_grammar.specs.declared.sort.Sort.TheVariants as sort
use Rattle.fd_grammar.specs.declared.mark.Mark.{Mark}
use Rattle.fd_grammar.specs.declared.mark.Mark.TheVariants as mark
use Rattle.fd_grammar.specs.declared.mark.Fixed.TheVariants as fixed
use Rattle.fd_grammar.specs.Sorts.{sort_of, is_word, name_of, sign_by, times_of, opens}
use Rattle.fd_grammar.specs.Machine.{State, Calm, ScalarFactor, WholeScalar, ExprFactor, WholeExpr, InSubscript, InIndexed, SameName}
use Rattle.fd_grammar.specs.Machine.{MoreScalarFactors, MoreScalarTerms, MoreExprFactors, MoreExprTerms, AfterName, AfterSubscriptName}
use Rattle.fd_grammar.specs.Machine.{Take, Then, step_indexed}
use Rattle.fd_grammar.specs.Machine.{MoreOffset, Want, step_want, ScalarTerm, SignedScalar, step_scalar_factor, step_lead}
use Rattle.fd_grammar.specs.Machine.{step_whole_scalar, step_scalar_factors, step_scalar_terms, term_of, Offset, step_subscript}
use Rattle.fd_grammar.specs.Machine.{step_after_subscript_name, element_of, InElement, ExprTerm, SignedExpr, step_expr_factor}
use Rattle.fd_grammar.specs.Machine.{step_expr_factors, step_after_name, step, step_calm, after, run}
use Rattle.fd_grammar.specs.Grammar.{Is, IsAgain, IsScalar, scalar_term, scalar_signed_plus, scalar_signed_minus, scalar_plus, scalar_minus}
use Rattle.fd_grammar.specs.Grammar.{IsScalarTerm, scalar_factor, scalar_times, IsScalarFactor, scalar_number, scalar_name, scalar_inside}
use Rattle.fd_grammar.specs.Grammar.{IsOffset, no_offset, offset_plus, offset_minus, IsSubscript, plain, through, twice, scalar_subscript}
use Rattle.fd_grammar.specs.Grammar.{element}
use Rattle.fd_grammar.specs.Grammar.{IsExpr, expr_term, expr_signed_plus, expr_signed_minus, expr_plus, expr_minus, IsExprTerm, expr_factor}
use Rattle.fd_grammar.specs.Grammar.{expr_times, IsExprFactor, expr_number, expr_name, expr_element, expr_inside}

-- one step, at a token of a known sort
pub go : (t : Token) (ts : List Token) (s s' : State) (c : Sort) → Is c t → step s t.kind c t.at ≡ Some s' → run (t ∷ ts) s ≡ run ts s'
go t ts s s' c e h = ap (λ d. after t ts (run ts) (step s t.kind d t.at)) e ∙ ap (after t ts (run ts)) h

-- one step, at a word that was there before
pub again : (name : List ℕ) (t : Token) → IsAgain name t → is_word name t.kind ≡ true
again name t e = ap (is_word name) e ∙ (bytes_eq-Decides name name).1 refl

pub go_again : (t : Token) (ts : List Token) (name : List ℕ) (s : State) → IsAgain name t → run (t ∷ ts) (SameName name s) ≡ run ts s
go_again t ts name s e = ap (λ b. after t ts (run ts) (step_want b s)) (again name t e)

pub word_again : (name : List ℕ) (k : TokenKind) → is_word name k ≡ true → k ≡ kind.Word name
word_again name (kind.Word word) h = ap kind.Word ((bytes_eq-Decides word name).0 h)
word_again name _ h = cc

other_word : (name : List ℕ) (t : Token) → (IsAgain name t → ⊥) → is_word name t.kind ≡ false
other_word name t h = false_from_ne_true (is_word name t.kind) (λ e. h (word_again name t.kind e))

-- what doesn't go on with a phrase is for the next one
pub no_star : (t : Token) (ts : List Token) (x : Scalar) (k : Scalar → Calm) → times_of (sort_of t.kind) ≡ None
    → run (t ∷ ts) (Then (MoreScalarFactors x k)) ≡ run (t ∷ ts) (Then (k x))
no_star t ts x k h = ap (λ o. after t ts (run ts) (step_scalar_factors x k t.at (step_calm (k x) (sort_of t.kind) t.at) o)) h

pub no_sign : (t : Token) (ts : List Token) (x : Scalar) (k : Scalar → Calm) → sign_by (sort_of t.kind) ≡ None
    → run (t ∷ ts) (Then (MoreScalarTerms x k)) ≡ run (t ∷ ts) (Then (k x))
no_sign t ts x k h = ap (λ o. after t ts (run ts) (step_scalar_terms x k t.at (step_calm (k x) (sort_of t.kind) t.at) o)) h

pub no_star_expr : (t : Token) (ts : List Token) (index : List ℕ) (x : Expr) (k : Expr → Calm) → times_of (sort_of t.kind) ≡ None
    → run (t ∷ ts) (Then (MoreExprFactors index x k)) ≡ run (t ∷ ts) (Then (k x))
no_star_expr t ts index x k h = ap (λ o. after t ts (run ts) (step_expr_factors index x k (step_calm (k x) (sort_of t.kind) t.at) o)) h

pub no_open : (t : Token) (ts : List Token) (index name : List ℕ) (at : SourcePlace) (k : Expr → Calm) → opens (sort_of t.kind) ≡ false
    → run (t ∷ ts) (Then (AfterName index name at k)) ≡ run (t ∷ ts) (Then (k (expr.Named name at)))
no_open t ts index name at k h =
    ap (λ o. after t ts (run ts) (step_after_name index name at k (step_calm (k (expr.Named name at)) (sort_of t.kind) t.at) o)) h

-- a phrase, a token and the rest
pub shift : (us vs rest : List Token) (s : Token) → (us ++ s ∷ vs) ++ rest ≡ us ++ (s ∷ (vs ++ rest))
shift us vs rest s = append_assoc us (s ∷ vs) rest

-- what a term begins with
abbrev Unsigned : List Token → Type 0
Unsigned ts = (t : Token) × (us : List Token) × (ts ≡ t ∷ us) × (sign_by (sort_of t.kind) ≡ None)

scalar_factor_unsigned : {ts : List Token} {x : Scalar} → IsScalarFactor ts x → Unsigned ts
scalar_factor_unsigned (scalar_number value t e) = (t, _, refl, ap sign_by e)
scalar_factor_unsigned (scalar_name name t e) = (t, _, refl, ap sign_by e)
scalar_factor_unsigned (scalar_inside o eo i c ec) = (o, _, refl, ap sign_by eo)

scalar_term_unsigned : {ts : List Token} {x : Scalar} → IsScalarTerm ts x → Unsigned ts
scalar_term_unsigned (scalar_factor i) = scalar_factor_unsigned i
scalar_term_unsigned (scalar_times {vs = vs} a s e b) = let r = scalar_term_unsigned a in (r.0, _, ap (λ l. l ++ s ∷ vs) r.2, r.3)

unsigned_scalar : (ts rest : List Token) (k : Scalar → Calm) → Unsigned ts → run (ts ++ rest) (WholeScalar k) ≡ run (ts ++ rest)
    (SignedScalar k None)
unsigned_scalar ts rest k (t, us, e, h) =
    ap (λ l. run (l ++ rest) (WholeScalar k)) e
    ∙ ap (λ s. after t (us ++ rest) (run (us ++ rest))
    (step_lead (SignedScalar k) t.at (step_scalar_factor (λ x. MoreScalarFactors x (λ y. MoreScalarTerms y k)) (sort_of t.kind) t.at)
    s)) h
    ∙ ap (λ l. run (l ++ rest) (SignedScalar k None)) (sym e)

mutual
  pub reads_scalar : {ts : List Token} {x : Scalar} → IsScalar ts x → (k : Scalar → Calm) (r : Token) (rest : List Token)
      → times_of (sort_of r.kind) ≡ None → run (ts ++ r ∷ rest) (WholeScalar k) ≡ run (r ∷ rest) (Then (MoreScalarTerms x k))
  reads_scalar (scalar_term {ts = ts} {x = x} i) k r rest h =
      unsigned_scalar ts (r ∷ rest) k (scalar_term_unsigned i) ∙ reads_scalar_term i (λ y. MoreScalarTerms y k) (r ∷ rest)
      ∙ no_star r rest x (λ y. MoreScalarTerms y k) h
  reads_scalar (scalar_signed_plus {ts = ts} {x = x} s e i) k r rest h =
      go s (ts ++ r ∷ rest) (WholeScalar k) (SignedScalar k None) sort.Plus e refl ∙ reads_scalar_term i (λ y. MoreScalarTerms y k)
      (r ∷ rest) ∙ no_star r rest x (λ y. MoreScalarTerms y k) h
  reads_scalar (scalar_signed_minus {ts = ts} {x = x} s e i) k r rest h =
      let k' : Scalar → Calm = λ y. MoreScalarTerms (scalar.Negate s.at y) k in
      go s (ts ++ r ∷ rest) (WholeScalar k) (SignedScalar k (Some s.at)) sort.Minus e refl ∙ reads_scalar_term i k' (r ∷ rest)
      ∙ no_star r rest x k' h
  reads_scalar (scalar_plus {us = us} {vs = vs} {x = x} {y = y} a s e b) k r rest h =
      let k' : Scalar → Calm = λ z. MoreScalarTerms (scalar.Binary Plus s.at x z) k in
      ap (λ l. run l (WholeScalar k)) (shift us vs (r ∷ rest) s) ∙ reads_scalar a k s (vs ++ r ∷ rest) (ap times_of e)
      ∙ go s (vs ++ r ∷ rest) (Then (MoreScalarTerms x k)) (ScalarTerm k') sort.Plus e refl
      ∙ reads_scalar_term b k' (r ∷ rest) ∙ no_star r rest y k' h
  reads_scalar (scalar_minus {us = us} {vs = vs} {x = x} {y = y} a s e b) k r rest h =
      let k' : Scalar → Calm = λ z. MoreScalarTerms (scalar.Binary Minus s.at x z) k in
      ap (λ l. run l (WholeScalar k)) (shift us vs (r ∷ rest) s) ∙ reads_scalar a k s (vs ++ r ∷ rest) (ap times_of e)
      ∙ go s (vs ++ r ∷ rest) (Then (MoreScalarTerms x k)) (ScalarTerm k') sort.Minus e refl
      ∙ reads_scalar_term b k' (r ∷ rest) ∙ no_star r rest y k' h

  pub reads_scalar_term : {ts : List Token} {x : Scalar} → IsScalarTerm ts x → (k : Scalar → Calm) (rest : List Token)
      → run (ts ++ rest) (ScalarTerm k) ≡ run rest (Then (MoreScalarFactors x k))
  reads_scalar_term (scalar_factor i) k rest = reads_scalar_factor i (λ x. MoreScalarFactors x k) rest
  reads_scalar_term (scalar_times {us = us} {vs = vs} {x = x} a s e b) k rest =
      let k' : Scalar → Calm = λ z. MoreScalarFactors (scalar.Binary Times s.at x z) k in
      ap (λ l. run l (ScalarTerm k)) (shift us vs rest s) ∙ reads_scalar_term a k (s ∷ (vs ++ rest))
      ∙ go s (vs ++ rest) (Then (MoreScalarFactors x k)) (ScalarFactor k') sort.Star e refl
      ∙ reads_scalar_factor b k' rest

  pub reads_scalar_factor : {ts : List Token} {x : Scalar} → IsScalarFactor ts x → (k : Scalar → Calm) (rest : List Token)
      → run (ts ++ rest) (ScalarFactor k) ≡ run rest (Then (k x))
  reads_scalar_factor (scalar_number value t e) k rest = go t rest (ScalarFactor k) (Then (k (scalar.Number value t.at)))
      (sort.Numbered value) e refl
  reads_scalar_factor (scalar_name name t e) k rest = go t rest (ScalarFactor k) (Then (k (scalar.Named name t.at))) (sort.Named name) e
      refl
  reads_scalar_factor (scalar_inside {ts = ts} {x = x} o eo i c ec) k rest =
      let k' : Scalar → Calm = λ z. Want mark.Close (Then (k z)) in
      go o ((ts ++ c ∷ []) ++ rest) (ScalarFactor k) (WholeScalar k') sort.Open eo refl
      ∙ ap (λ l. run l (WholeScalar k')) (shift ts [] rest c) ∙ reads_scalar i k' c rest (ap times_of ec)
      ∙ go c rest (Then (MoreScalarTerms x k')) (Then (k x)) sort.Close ec refl

-- a scalar and the token that is wanted behind it
pub scalar_to : {ts : List Token} {x : Scalar} → IsScalar ts x → (m : Mark) (s : Scalar → State) (t : Token) (rest : List Token)
    (c : Sort) → Is c t → times_of c ≡ None → step (Then (MoreScalarTerms x (λ y. Want m (s y)))) t.kind c t.at ≡ Some (s x)
    → run (ts ++ t ∷ rest) (WholeScalar (λ y. Want m (s y))) ≡ run rest (s x)
scalar_to {x = x} i m s t rest c e h w =
    reads_scalar i (λ y. Want m (s y)) t rest (ap times_of e ∙ h) ∙ go t rest (Then (MoreScalarTerms x (λ y. Want m (s y)))) (s x) c e w

-- an offset, up to a token that isn't a star
pub reads_offset : {ts : List Token} {add : List Term} → IsOffset ts add → (k : List Term → Calm) (r : Token) (rest : List Token)
    → times_of (sort_of r.kind) ≡ None → run (ts ++ r ∷ rest) (Then (Offset k)) ≡ run (r ∷ rest) (Then (MoreOffset add k))
reads_offset no_offset k r rest h = refl
reads_offset (offset_plus {us = us} {vs = vs} {add = add} {x = x} a s e b) k r rest h =
    let k' : Scalar → Calm = λ z. MoreOffset (add ++ term_of Plus s.at z ∷ []) k in
    ap (λ l. run l (Then (Offset k))) (shift us vs (r ∷ rest) s) ∙ reads_offset a k s (vs ++ r ∷ rest) (ap times_of e)
    ∙ go s (vs ++ r ∷ rest) (Then (MoreOffset add k)) (ScalarTerm k') sort.Plus e refl
    ∙ reads_scalar_term b k' (r ∷ rest) ∙ no_star r rest x k' h
reads_offset (offset_minus {us = us} {vs = vs} {add = add} {x = x} a s e b) k r rest h =
    let k' : Scalar → Calm = λ z. MoreOffset (add ++ term_of Minus s.at z ∷ []) k in
    ap (λ l. run l (Then (Offset k))) (shift us vs (r ∷ rest) s) ∙ reads_offset a k s (vs ++ r ∷ rest) (ap times_of e)
    ∙ go s (vs ++ r ∷ rest) (Then (MoreOffset add k)) (ScalarTerm k') sort.Minus e refl
    ∙ reads_scalar_term b k' (r ∷ rest) ∙ no_star r rest x k' h

-- an offset and the parenthesis that closes behind it
pub offset_to : {ts : List Token} {add : List Term} → IsOffset ts add → (s : List Term → State) (c : Token) (rest : List Token)
    → Is sort.Close c → run (ts ++ c ∷ rest) (Then (Offset (λ a. Want mark.Close (s a)))) ≡ run rest (s add)
offset_to {add = add} i s c rest e =
    reads_offset i (λ a. Want mark.Close (s a)) c rest (ap times_of e) ∙ go c rest (Then (MoreOffset add (λ a. Want mark.Close (s a))))
    (s add) sort.Close e refl

-- whether a list begins with a name and a parenthesis that opens
abbrev both : Option (List ℕ) → Bool → Bool
both (Some name) b = b
both None b = false

abbrev calls : List Token → Bool
calls [] = false
calls (t ∷ []) = false
calls (t ∷ u ∷ us) = both (name_of (sort_of t.kind)) (opens (sort_of u.kind))

calls_none : (t : Token) (ts : List Token) → name_of (sort_of t.kind) ≡ None → calls (t ∷ ts) ≡ false
calls_none t [] h = refl
calls_none t (u ∷ us) h = ap (λ o. both o (opens (sort_of u.kind))) h

-- a scalar doesn't begin so
abbrev CallsNone : List Token → Type 0
CallsNone ts = (r : Token) (rest : List Token) → opens (sort_of r.kind) ≡ false → calls (ts ++ r ∷ rest) ≡ false

factor_calls_none : {ts : List Token} {x : Scalar} → IsScalarFactor ts x → CallsNone ts
factor_calls_none (scalar_number value t e) r rest h = calls_none t (r ∷ rest) (ap name_of e)
factor_calls_none (scalar_name name t e) r rest h = ap (λ o. both o (opens (sort_of r.kind))) (ap name_of e) ∙ h
factor_calls_none (scalar_inside {ts = ts} o eo i c ec) r rest h = calls_none o ((ts ++ c ∷ []) ++ r ∷ rest) (ap name_of eo)

term_calls_none : {ts : List Token} {x : Scalar} → IsScalarTerm ts x → CallsNone ts
term_calls_none (scalar_factor i) r rest h = factor_calls_none i r rest h
term_calls_none (scalar_times {us = us} {vs = vs} a s e b) r rest h = ap calls (shift us vs (r ∷ rest) s)
    ∙ term_calls_none a s (vs ++ r ∷ rest) (ap opens e)

scalar_calls_none : {ts : List Token} {x : Scalar} → IsScalar ts x → CallsNone ts
scalar_calls_none (scalar_term i) r rest h = term_calls_none i r rest h
scalar_calls_none (scalar_signed_plus {ts = ts} s e i) r rest h = calls_none s (ts ++ r ∷ rest) (ap name_of e)
scalar_calls_none (scalar_signed_minus {ts = ts} s e i) r rest h = calls_none s (ts ++ r ∷ rest) (ap name_of e)
scalar_calls_none (scalar_plus {us = us} {vs = vs} a s e b) r rest h = ap calls (shift us vs (r ∷ rest) s)
    ∙ scalar_calls_none a s (vs ++ r ∷ rest) (ap opens e)
scalar_calls_none (scalar_minus {us = us} {vs = vs} a s e b) r rest h = ap calls (shift us vs (r ∷ rest) s)
    ∙ scalar_calls_none a s (vs ++ r ∷ rest) (ap opens e)

-- a subscript that begins with another name, and with no parenthesis behind it, is a scalar
named_scalar : (f : Token) (ts : List Token) (index name : List ℕ) (k : Subscript → Calm) → Is (sort.Named name) f
    → calls (f ∷ ts) ≡ false → run ts (Then (AfterSubscriptName index name f.at k))
    ≡ run ts (Then (MoreScalarFactors (scalar.Named name f.at) (λ y. MoreScalarTerms y (λ x. k (subscript.Scalar x)))))
named_scalar f [] index name k e h = refl
named_scalar f (u ∷ us) index name k e h =
    let shut : opens (sort_of u.kind) ≡ false = sym (ap (λ c. both (name_of c) (opens (sort_of u.kind))) e) ∙ h in
    ap (λ o. after u us (run us) (step_after_subscript_name index name f.at k
    (step_calm (MoreScalarFactors (scalar.Named name f.at) (λ y. MoreScalarTerms y (λ x. k (subscript.Scalar x)))) (sort_of u.kind)
    u.at) o)) shut

begins_scalar : (f : Token) (ts : List Token) (index : List ℕ) (k : Subscript → Calm) (c : Sort) → Is c f → is_word index f.kind ≡ false
    → calls (f ∷ ts) ≡ false
    → after f ts (run ts) (step_subscript index k f.at (step_whole_scalar (λ x. k (subscript.Scalar x)) c f.at) false (name_of c))
    ≡ after f ts (run ts) (step_whole_scalar (λ x. k (subscript.Scalar x)) c f.at)
begins_scalar f ts index k (sort.Named name) e w h = named_scalar f ts index name k e h
begins_scalar f ts index k _ e w h = refl

scalar_begins : (f : Token) (ts : List Token) (index : List ℕ) (k : Subscript → Calm) → is_word index f.kind ≡ false
    → calls (f ∷ ts) ≡ false → run (f ∷ ts) (InSubscript index k) ≡ run (f ∷ ts) (WholeScalar (λ x. k (subscript.Scalar x)))
scalar_begins f ts index k w h =
    ap (λ b. after f ts (run ts) (step_subscript index k f.at (step_whole_scalar (λ x. k (subscript.Scalar x)) (sort_of f.kind) f.at) b
    (name_of (sort_of f.kind)))) w
    ∙ begins_scalar f ts index k (sort_of f.kind) refl w h

-- a subscript and the parenthesis that closes behind it
pub reads_subscript : {index : List ℕ} {ts : List Token} {x : Subscript} → IsSubscript index ts x
    → (k : Subscript → State) (c : Token) (rest : List Token) → Is sort.Close c
    → run (ts ++ c ∷ rest) (InSubscript index (λ s. Want mark.Close (k s))) ≡ run rest (k x)
reads_subscript {index} (plain {ts = ts} {add = add} i ei a) k c rest ec =
    let k' : Subscript → Calm = λ s. Want mark.Close (k s) in
    ap (λ b. after i (ts ++ c ∷ rest) (run (ts ++ c ∷ rest))
    (step_subscript index k' i.at (step_whole_scalar (λ x. k' (subscript.Scalar x)) (sort_of i.kind) i.at) b
    (name_of (sort_of i.kind)))) (again index i ei)
    ∙ offset_to a (λ add. k (subscript.Plain add)) c rest ec
reads_subscript {index} (through {us = us} {vs = vs} {name = name} {inside = inside} {add = add} n o i d en nn eo ei a ed b) k c rest ec =
    let k' : Subscript → Calm = λ s. Want mark.Close (k s) in
    let second : List Token = vs ++ c ∷ rest in
    let first : List Token = us ++ d ∷ second in
    let behind : List Term → State = λ ins. Then (Offset (λ add. Want mark.Close (k (subscript.Through name n.at ins add)))) in
    ap (λ l. run (n ∷ o ∷ i ∷ l) (InSubscript index k')) (shift us vs (c ∷ rest) d)
    ∙ ap (λ w. after n (o ∷ i ∷ first) (run (o ∷ i ∷ first))
    (step_subscript index k' n.at (step_whole_scalar (λ x. k' (subscript.Scalar x)) (sort_of n.kind) n.at) w
    (name_of (sort_of n.kind)))) (other_word index n nn)
    ∙ ap (λ s. after n (o ∷ i ∷ first) (run (o ∷ i ∷ first))
    (step_subscript index k' n.at (step_whole_scalar (λ x. k' (subscript.Scalar x)) (sort_of n.kind) n.at) false (name_of s))) en
    ∙ go o (i ∷ first) (Then (AfterSubscriptName index name n.at k')) (InIndexed index name n.at k') sort.Open eo refl
    ∙ ap (λ b. after i first (run first) (step_indexed index name n.at k' i.at b (name_of (sort_of i.kind)))) (again index i ei)
    ∙ offset_to a behind d second ed
    ∙ offset_to b (λ add. k (subscript.Through name n.at inside add)) c rest ec
reads_subscript {index} (twice {us = us} {vs = vs} {ws = ws} {name = name} {inner = inner} {first = one} {second = two} {add = add}
    n o m p i c' d en nn eo em nm ep ei a ec' b ed w) k c rest ec =
    let k' : Subscript → Calm = λ s. Want mark.Close (k s) in
    let third : List Token = ws ++ c ∷ rest in
    let second : List Token = vs ++ d ∷ third in
    let first : List Token = us ++ c' ∷ second in
    let behind : List Token = p ∷ i ∷ first in
    let last : List Term → List Term → State = λ x y.
    Then (Offset (λ z. Want mark.Close (k (subscript.Twice name n.at inner m.at x y z)))) in
    let middle : List Term → State = λ x. Then (Offset (λ y. Want mark.Close (last x y))) in
    let opened : State = Then (Offset (λ x. Want mark.Close (middle x))) in
    ap (λ l. run (n ∷ o ∷ m ∷ p ∷ i ∷ l) (InSubscript index k'))
    (shift us (vs ++ d ∷ ws) (c ∷ rest) c' ∙ ap (λ l. us ++ c' ∷ l) (shift vs ws (c ∷ rest) d))
    ∙ ap (λ w. after n (o ∷ m ∷ behind) (run (o ∷ m ∷ behind))
    (step_subscript index k' n.at (step_whole_scalar (λ x. k' (subscript.Scalar x)) (sort_of n.kind) n.at) w
    (name_of (sort_of n.kind)))) (other_word index n nn)
    ∙ ap (λ s. after n (o ∷ m ∷ behind) (run (o ∷ m ∷ behind))
    (step_subscript index k' n.at (step_whole_scalar (λ x. k' (subscript.Scalar x)) (sort_of n.kind) n.at) false (name_of s))) en
    ∙ go o (m ∷ behind) (Then (AfterSubscriptName index name n.at k')) (InIndexed index name n.at k') sort.Open eo refl
    ∙ ap (λ b. after m behind (run behind) (step_indexed index name n.at k' m.at b (name_of (sort_of m.kind)))) (other_word index m nm)
    ∙ ap (λ s. after m behind (run behind) (step_indexed index name n.at k' m.at false (name_of s))) em
    ∙ go p (i ∷ first) (Take fixed.Open (SameName index opened)) (SameName index opened) sort.Open ep refl
    ∙ go_again i first index opened ei
    ∙ offset_to a middle c' second ec'
    ∙ offset_to b (last one) d third ed
    ∙ offset_to w (λ z. k (subscript.Twice name n.at inner m.at one two z)) c rest ec
reads_subscript {index} (scalar_subscript {ts = ts} {x = x} f nf i) k c rest ec =
    scalar_begins f (ts ++ c ∷ rest) index (λ s. Want mark.Close (k s)) (other_word index f nf) (scalar_calls_none i c rest (ap opens ec))
    ∙ scalar_to i mark.Close (λ y. k (subscript.Scalar y)) c rest sort.Close ec refl refl

expr_factor_unsigned : {index : List ℕ} {ts : List Token} {x : Expr} → IsExprFactor index ts x → Unsigned ts
expr_factor_unsigned (expr_number value t e) = (t, _, refl, ap sign_by e)
expr_factor_unsigned (expr_name name t e) = (t, _, refl, ap sign_by e)
expr_factor_unsigned (expr_element (element n o c en eo i ec)) = (n, _, refl, ap sign_by en)
expr_factor_unsigned (expr_inside o eo i c ec) = (o, _, refl, ap sign_by eo)

expr_term_unsigned : {index : List ℕ} {ts : List Token} {x : Expr} → IsExprTerm index ts x → Unsigned ts
expr_term_unsigned (expr_factor i) = expr_factor_unsigned i
expr_term_unsigned (expr_times {vs = vs} a s e b) = let r = expr_term_unsigned a in (r.0, _, ap (λ l. l ++ s ∷ vs) r.2, r.3)

unsigned_expr : (index : List ℕ) (ts rest : List Token) (k : Expr → Calm) → Unsigned ts → run (ts ++ rest) (WholeExpr index k)
    ≡ run (ts ++ rest) (SignedExpr index k None)
unsigned_expr index ts rest k (t, us, e, h) =
    ap (λ l. run (l ++ rest) (WholeExpr index k)) e
    ∙ ap (λ s. after t (us ++ rest) (run (us ++ rest))
    (step_lead (SignedExpr index k) t.at (step_expr_factor index (λ x. MoreExprFactors index x (λ y. MoreExprTerms index y k))
    (sort_of t.kind) t.at) s)) h
    ∙ ap (λ l. run (l ++ rest) (SignedExpr index k None)) (sym e)

mutual
  pub reads_expr : {index : List ℕ} {ts : List Token} {x : Expr} → IsExpr index ts x → (k : Expr → Calm) (r : Token) (rest : List Token)
      → opens (sort_of r.kind) ≡ false → times_of (sort_of r.kind) ≡ None → run (ts ++ r ∷ rest) (WholeExpr index k) ≡ run (r ∷ rest)
      (Then (MoreExprTerms index x k))
  reads_expr {index} (expr_term {ts = ts} {x = x} i) k r rest h g =
      unsigned_expr index ts (r ∷ rest) k (expr_term_unsigned i) ∙ reads_expr_term i (λ y. MoreExprTerms index y k) r rest h
      ∙ no_star_expr r rest index x (λ y. MoreExprTerms index y k) g
  reads_expr {index} (expr_signed_plus {ts = ts} {x = x} s e i) k r rest h g =
      go s (ts ++ r ∷ rest) (WholeExpr index k) (SignedExpr index k None) sort.Plus e refl
      ∙ reads_expr_term i (λ y. MoreExprTerms index y k) r rest h ∙ no_star_expr r rest index x (λ y. MoreExprTerms index y k) g
  reads_expr {index} (expr_signed_minus {ts = ts} {x = x} s e i) k r rest h g =
      let k' : Expr → Calm = λ y. MoreExprTerms index (expr.Negate y) k in
      go s (ts ++ r ∷ rest) (WholeExpr index k) (SignedExpr index k (Some s.at)) sort.Minus e refl ∙ reads_expr_term i k' r rest h
      ∙ no_star_expr r rest index x k' g
  reads_expr {index} (expr_plus {us = us} {vs = vs} {x = x} {y = y} a s e b) k r rest h g =
      let k' : Expr → Calm = λ z. MoreExprTerms index (expr.Binary Plus x z) k in
      ap (λ l. run l (WholeExpr index k)) (shift us vs (r ∷ rest) s) ∙ reads_expr a k s (vs ++ r ∷ rest) (ap opens e) (ap times_of e)
      ∙ go s (vs ++ r ∷ rest) (Then (MoreExprTerms index x k)) (ExprTerm index k') sort.Plus e refl
      ∙ reads_expr_term b k' r rest h ∙ no_star_expr r rest index y k' g
  reads_expr {index} (expr_minus {us = us} {vs = vs} {x = x} {y = y} a s e b) k r rest h g =
      let k' : Expr → Calm = λ z. MoreExprTerms index (expr.Binary Minus x z) k in
      ap (λ l. run l (WholeExpr index k)) (shift us vs (r ∷ rest) s) ∙ reads_expr a k s (vs ++ r ∷ rest) (ap opens e) (ap times_of e)
      ∙ go s (vs ++ r ∷ rest) (Then (MoreExprTerms index x k)) (ExprTerm index k') sort.Minus e refl
      ∙ reads_expr_term b k' r rest h ∙ no_star_expr r rest index y k' g

  pub reads_expr_term : {index : List ℕ} {ts : List Token} {x : Expr} → IsExprTerm index ts x
      → (k : Expr → Calm) (r : Token) (rest : List Token) → opens (sort_of r.kind) ≡ false → run (ts ++ r ∷ rest) (ExprTerm index k)
      ≡ run (r ∷ rest) (Then (MoreExprFactors index x k))
  reads_expr_term {index} (expr_factor i) k r rest h = reads_expr_factor i (λ x. MoreExprFactors index x k) r rest h
  reads_expr_term {index} (expr_times {us = us} {vs = vs} {x = x} a s e b) k r rest h =
      let k' : Expr → Calm = λ z. MoreExprFactors index (expr.Binary Times x z) k in
      ap (λ l. run l (ExprTerm index k)) (shift us vs (r ∷ rest) s) ∙ reads_expr_term a k s (vs ++ r ∷ rest) (ap opens e)
      ∙ go s (vs ++ r ∷ rest) (Then (MoreExprFactors index x k)) (ExprFactor index k') sort.Star e refl
      ∙ reads_expr_factor b k' r rest h

  pub reads_expr_factor : {index : List ℕ} {ts : List Token} {x : Expr} → IsExprFactor index ts x
      → (k : Expr → Calm) (r : Token) (rest : List Token) → opens (sort_of r.kind) ≡ false → run (ts ++ r ∷ rest) (ExprFactor index k)
      ≡ run (r ∷ rest) (Then (k x))
  reads_expr_factor {index} (expr_number value t e) k r rest h = go t (r ∷ rest) (ExprFactor index k) (Then (k (expr.Number value)))
      (sort.Numbered value) e refl
  reads_expr_factor {index} (expr_name name t e) k r rest h = go t (r ∷ rest) (ExprFactor index k) (Then (AfterName index name t.at k))
      (sort.Named name) e refl ∙ no_open r rest index name t.at k h
  reads_expr_factor {index} (expr_element (element {ts = ts} {name = name} {s = s} n o c en eo i ec)) k r rest h =
      let k' : Element → State = λ e. Then (k (expr.Read e)) in
      go n (o ∷ ((ts ++ c ∷ []) ++ r ∷ rest)) (ExprFactor index k) (Then (AfterName index name n.at k)) (sort.Named name) en refl
      ∙ go o ((ts ++ c ∷ []) ++ r ∷ rest) (Then (AfterName index name n.at k)) (InElement index name n.at k') sort.Open eo refl
      ∙ ap (λ l. run l (InElement index name n.at k')) (shift ts [] (r ∷ rest) c)
      ∙ reads_subscript i (λ s. k' (element_of name n.at s)) c (r ∷ rest) ec
  reads_expr_factor {index} (expr_inside {ts = ts} {x = x} o eo i c ec) k r rest h =
      let k' : Expr → Calm = λ z. Want mark.Close (Then (k z)) in
      go o ((ts ++ c ∷ []) ++ r ∷ rest) (ExprFactor index k) (WholeExpr index k') sort.Open eo refl
      ∙ ap (λ l. run l (WholeExpr index k')) (shift ts [] (r ∷ rest) c) ∙ reads_expr i k' c (r ∷ rest) (ap opens ec) (ap times_of ec)
      ∙ go c (r ∷ rest) (Then (MoreExprTerms index x k')) (Then (k x)) sort.Close ec refl

-- an expression and the token that is wanted behind it
pub expr_to : {index : List ℕ} {ts : List Token} {x : Expr} → IsExpr index ts x → (m : Mark) (s : Expr → State) (t : Token)
    (rest : List Token) (c : Sort) → Is c t → opens c ≡ false → times_of c ≡ None
    → step (Then (MoreExprTerms index x (λ y. Want m (s y)))) t.kind c t.at ≡ Some (s x)
    → run (ts ++ t ∷ rest) (WholeExpr index (λ y. Want m (s y))) ≡ run rest (s x)
expr_to {index} {x = x} i m s t rest c e h g w =
    reads_expr i (λ y. Want m (s y)) t rest (ap opens e ∙ h) (ap times_of e ∙ g)
    ∙ go t rest (Then (MoreExprTerms index x (λ y. Want m (s y)))) (s x) c e w
