-- What the machine reads inside a line, the grammar spells: scalars, subscripts, expressions.
use Rattle.std.proofs.Common.{◌≡◌, ℕ, Bool, true, false, List, [], ◌∷◌, ◌++◌, Option, Some, None, refl, ap, sym, ◌∙◌, subst, append_assoc}
use Rattle.fd_words.specs.declared.source.SourcePlace.{SourcePlace}
use Rattle.fd_lexer.specs.declared.token.Token.{Token}
use Rattle.fd_words.specs.declared.arith.Arith.{Arith}
use Rattle.fd_words.specs.declared.arith.Arith.TheVariants.{Plus, Minus, Times}
use Rattle.fd_syntax.specs.declared.scalar.Scalar.{Scalar}
use Rattle.fd_syntax.specs.declared.scalar.Scalar.TheVariants as scalar
use Rattle.fd_syntax.specs.declared.scalar.Term.{Term}
use Rattle.fd_syntax.specs.declared.expr.Subscript.{Subscript}
use Rattle.fd_syntax.specs.declared.expr.Subscript.TheVariants as subscript
use Rattle.fd_syntax.specs.declared.expr.Element.{Element}
use Rattle.fd_syntax.specs.declared.expr.Expr.{Expr}
use Rattle.fd_syntax.specs.declared.expr.Expr.TheVariants as expr
use Rattle.fd_syntax.specs.declared.program.Program.{Program}
use Rattle.fd_grammar.specs.declared.sort.Sort.{Sort}
use Rattle.fd_grammar.specs.declared.sort.Sort.TheVariants as sort
use Rattle.fd_grammar.specs.Sorts.{sort_of, is_word, name_of, sign_by, times_of, opens}
use Rattle.fd_grammar.specs.Machine.{State, Calm, ScalarFactor, WholeScalar, ExprFactor, WholeExpr, InSubscript, InIndexed}
use Rattle.fd_grammar.specs.Machine.{step_indexed, MoreScalarFactors}
use Rattle.fd_grammar.specs.Machine.{MoreScalarTerms, MoreExprFactors, MoreExprTerms, AfterName, AfterSubscriptName, MoreOffset, ScalarTerm}
use Rattle.fd_grammar.specs.Machine.{SignedScalar, step_scalar_factor, step_lead, step_whole_scalar, step_scalar_factors, step_scalar_terms}
use Rattle.fd_grammar.specs.Machine.{term_of, step_offset, step_subscript, step_after_subscript_name, element_of, InElement, ExprTerm}
use Rattle.fd_grammar.specs.Machine.{SignedExpr, step_expr_factor, step_expr_factors, step_expr_terms, step_after_name}
use Rattle.fd_grammar.specs.Grammar.{Is, IsAgain, IsScalar, scalar_term, scalar_signed_plus, scalar_signed_minus, scalar_plus, scalar_minus}
use Rattle.fd_grammar.specs.Grammar.{IsScalarTerm, scalar_factor, scalar_times, IsScalarFactor, scalar_number, scalar_name, scalar_inside}
use Rattle.fd_grammar.specs.Grammar.{IsOffset, no_offset, offset_plus, offset_minus, IsSubscript, plain, through, twice, scalar_subscript}
use Rattle.fd_grammar.specs.Grammar.{IsElement, element, IsExpr, expr_term, expr_signed_plus, expr_signed_minus, expr_plus, expr_minus}
use Rattle.fd_grammar.specs.Grammar.{IsExprTerm, expr_factor, expr_times, IsExprFactor, expr_number, expr_name, expr_element, expr_inside}
use Rattle.fd_grammar.specs.CompleteExpr.{again, word_again}
use Rattle.fd_grammar.specs.TokenTests.{opens_is, name_is, sign_is, no_times_sign, times_is}
use Rattle.fd_grammar.specs.Fronts.{Front, FrontPlaced, stays, no_token, one_token, behind_tokens, closed_by, two_phrases, begun_with}
use Rattle.fd_grammar.specs.Fronts.{goes_on_with}
use Rattle.fd_grammar.specs.Meaning.{IndexedRest, Means, MeansCalm, MeansNext}

-- ---- scalars

pub s_scalar_factor : (k : Scalar → Calm) (p : Program) (t : Token) (ts : List Token) (c : Sort) → Is c t
    → MeansNext (step_scalar_factor k c t.at) p ts → Means (ScalarFactor k) p (t ∷ ts)
s_scalar_factor k p t ts (sort.Numbered n) e m = one_token (scalar.Number n t.at) t ts (scalar_number n t e) m
s_scalar_factor k p t ts (sort.Named n) e m = one_token (scalar.Named n t.at) t ts (scalar_name n t e) m
s_scalar_factor k p t ts sort.Open e m = closed_by (λ x. x) (t ∷ []) m λ us x c i g. scalar_inside t e i c g
s_scalar_factor k p t ts _ e m = absurd m

pub add_factor : (us vs : List Token) (x y : Scalar) (s : Token) (op : Arith) → times_of (sort_of s.kind) ≡ Some op → IsScalarTerm us x
    → IsScalarFactor vs y → IsScalarTerm (us ++ s ∷ vs) (scalar.Binary op s.at x y)
add_factor us vs x y s op h a b =
    let e = times_is (sort_of s.kind) op h in
    subst (λ o. IsScalarTerm (us ++ s ∷ vs) (scalar.Binary o s.at x y)) e.1 (scalar_times a s e.0 b)

pub add_term : (us vs : List Token) (x y : Scalar) (s : Token) (op : Arith) → sign_by (sort_of s.kind) ≡ Some op → IsScalar us x
    → IsScalarTerm vs y → IsScalar (us ++ s ∷ vs) (scalar.Binary op s.at x y)
add_term us vs x y s Plus h a b = scalar_plus a s (sign_is (sort_of s.kind) Plus h) b
add_term us vs x y s Minus h a b = scalar_minus a s (sign_is (sort_of s.kind) Minus h) b
add_term us vs x y s Times h a b = absurd (no_times_sign (sort_of s.kind) h)

pub s_scalar_factors : (x : Scalar) (k : Scalar → Calm) (p : Program) (t : Token) (ts : List Token) (next : Option State)
    (o : Option Arith) → times_of (sort_of t.kind) ≡ o → (MeansNext next p ts → MeansCalm (k x) p (t ∷ ts))
    → MeansNext (step_scalar_factors x k t.at next o) p ts → MeansCalm (MoreScalarFactors x k) p (t ∷ ts)
s_scalar_factors x k p t ts next (Some op) e go m =
    goes_on_with IsScalarTerm (scalar.Binary op t.at x) x t m λ us vs y. add_factor us vs x y t op e
s_scalar_factors x k p t ts next None e go m = no_token x (t ∷ ts) (stays IsScalarTerm x) (go m)

-- a term that has begun is the product so far and what goes on with it
pub term_from : (k : Scalar → Calm) (p : Program) (ts : List Token) → Means (ScalarTerm k) p ts
    → Front IsScalarTerm (λ x. MeansCalm (k x) p) ts
term_from k p ts m = begun_with IsScalarTerm (λ x. x) [] m λ us x i. scalar_factor i

pub s_scalar_terms : (x : Scalar) (k : Scalar → Calm) (p : Program) (t : Token) (ts : List Token) (next : Option State) (o : Option Arith)
    → sign_by (sort_of t.kind) ≡ o → (MeansNext next p ts → MeansCalm (k x) p (t ∷ ts))
    → MeansNext (step_scalar_terms x k t.at next o) p ts → MeansCalm (MoreScalarTerms x k) p (t ∷ ts)
s_scalar_terms x k p t ts next (Some op) e go m =
    goes_on_with IsScalar (scalar.Binary op t.at x) x t (term_from (λ y. MoreScalarTerms (scalar.Binary op t.at x y) k) p ts m)
    λ us vs y. add_term us vs x y t op e
s_scalar_terms x k p t ts next None e go m = no_token x (t ∷ ts) (stays IsScalar x) (go m)

-- a scalar that begins with a term, behind these tokens
scalar_begun : (f : Scalar → Scalar) (ps : List Token) (k : Scalar → Calm) (p : Program) (ts : List Token)
    → Means (ScalarTerm (λ y. MoreScalarTerms (f y) k)) p ts → ((us : List Token) (x : Scalar) → IsScalarTerm us x
    → IsScalar (ps ++ us) (f x))
    → Means (WholeScalar k) p (ps ++ ts)
scalar_begun f ps k p ts m make = begun_with IsScalar f ps (term_from (λ y. MoreScalarTerms (f y) k) p ts m) make

pub scalar_unsigned : (k : Scalar → Calm) (p : Program) (ts : List Token) → Means (SignedScalar k None) p ts → Means (WholeScalar k) p ts
scalar_unsigned k p ts m = scalar_begun (λ y. y) [] k p ts m λ us x i. scalar_term i

pub s_scalar_lead : (k : Scalar → Calm) (p : Program) (t : Token) (ts : List Token) (next : Option State) (o : Option Arith)
    → sign_by (sort_of t.kind) ≡ o → (MeansNext next p ts → Means (WholeScalar k) p (t ∷ ts))
    → MeansNext (step_lead (SignedScalar k) t.at next o) p ts → Means (WholeScalar k) p (t ∷ ts)
s_scalar_lead k p t ts next (Some Plus) h go m =
    scalar_begun (λ y. y) (t ∷ []) k p ts m λ us x i. scalar_signed_plus t (sign_is (sort_of t.kind) Plus h) i
s_scalar_lead k p t ts next (Some Minus) h go m =
    scalar_begun (scalar.Negate t.at) (t ∷ []) k p ts m λ us x i. scalar_signed_minus t (sign_is (sort_of t.kind) Minus h) i
s_scalar_lead k p t ts next (Some Times) h go m = absurd (no_times_sign (sort_of t.kind) h)
s_scalar_lead k p t ts next None h go m = go m

pub s_whole_scalar : (k : Scalar → Calm) (p : Program) (t : Token) (ts : List Token)
    → MeansNext (step_whole_scalar k (sort_of t.kind) t.at) p ts → Means (WholeScalar k) p (t ∷ ts)
s_whole_scalar k p t ts m =
    let k' : Scalar → Calm = λ x. MoreScalarFactors x (λ y. MoreScalarTerms y k) in
    s_scalar_lead k p t ts (step_scalar_factor k' (sort_of t.kind) t.at) (sign_by (sort_of t.kind)) refl
    (λ n. scalar_unsigned k p (t ∷ ts) (s_scalar_factor k' p t ts (sort_of t.kind) refl n)) m

-- a scalar has a first token
abbrev pub Some_tokens : List Token → Type 0
Some_tokens ts = (t : Token) × (us : List Token) × (ts ≡ t ∷ us)

pub factor_some : {ts : List Token} {x : Scalar} → IsScalarFactor ts x → Some_tokens ts
factor_some (scalar_number n t e) = (t, _, refl)
factor_some (scalar_name n t e) = (t, _, refl)
factor_some (scalar_inside o eo i c ec) = (o, _, refl)

pub term_some : {ts : List Token} {x : Scalar} → IsScalarTerm ts x → Some_tokens ts
term_some (scalar_factor i) = factor_some i
term_some (scalar_times {vs = vs} a s e b) = let r = term_some a in (r.0, _, ap (λ l. l ++ s ∷ vs) r.2)

pub scalar_some : {ts : List Token} {x : Scalar} → IsScalar ts x → Some_tokens ts
scalar_some (scalar_term i) = term_some i
scalar_some (scalar_signed_plus s e i) = (s, _, refl)
scalar_some (scalar_signed_minus s e i) = (s, _, refl)
scalar_some (scalar_plus {vs = vs} a s e b) = let r = scalar_some a in (r.0, _, ap (λ l. l ++ s ∷ vs) r.2)
scalar_some (scalar_minus {vs = vs} a s e b) = let r = scalar_some a in (r.0, _, ap (λ l. l ++ s ∷ vs) r.2)

pub no_scalar : {x : Scalar} → IsScalar [] x → ⊥
no_scalar i = let r = scalar_some i in let e = r.2 in cc

pub placed_from : (t : Token) (ts front back : List Token) (x : Scalar) (rest : SourcePlace → Scalar → List Token → Type 0)
    → t ∷ ts ≡ front ++ back → IsScalar front x → rest t.at x back → FrontPlaced rest (t ∷ ts)
placed_from t ts [] back x rest e i g = absurd (no_scalar i)
placed_from t ts (f ∷ us) back x rest e i g =
    let same : t ≡ f = cc in
    record { token = f; front = us; back = back; value = x; split = e; is = i; goes_on = subst (λ u. rest u.at x back) same g }

-- ---- subscripts

pub add_offset : (us vs : List Token) (add : List Term) (x : Scalar) (s : Token) (op : Arith) → sign_by (sort_of s.kind) ≡ Some op
    → IsOffset us add → IsScalarTerm vs x → IsOffset (us ++ s ∷ vs) (add ++ term_of op s.at x ∷ [])
add_offset us vs add x s Plus h a b = offset_plus a s (sign_is (sort_of s.kind) Plus h) b
add_offset us vs add x s Minus h a b = offset_minus a s (sign_is (sort_of s.kind) Minus h) b
add_offset us vs add x s Times h a b = absurd (no_times_sign (sort_of s.kind) h)

pub s_offset : (add : List Term) (k : List Term → Calm) (p : Program) (t : Token) (ts : List Token) (next : Option State)
    (o : Option Arith) → sign_by (sort_of t.kind) ≡ o → (MeansNext next p ts → MeansCalm (k add) p (t ∷ ts))
    → MeansNext (step_offset add k t.at next o) p ts → MeansCalm (MoreOffset add k) p (t ∷ ts)
s_offset add k p t ts next (Some op) e go m =
    goes_on_with IsOffset (λ y. add ++ term_of op t.at y ∷ []) add t
    (term_from (λ y. MoreOffset (add ++ term_of op t.at y ∷ []) k) p ts m) λ us vs y. add_offset us vs add y t op e
s_offset add k p t ts next None e go m = no_token add (t ∷ ts) (stays IsOffset add) (go m)

pub not_again : (index : List ℕ) (t : Token) → is_word index t.kind ≡ false → IsAgain index t → ⊥
not_again index t h e = let g = again index t e in cc

pub scalar_subscript_from : (index : List ℕ) (t : Token) (ts front back : List Token) (x : Scalar) → (IsAgain index t → ⊥)
    → t ∷ ts ≡ front ++ back → IsScalar front x → IsSubscript index front (subscript.Scalar x)
scalar_subscript_from index t ts [] back x n e i = absurd (no_scalar i)
scalar_subscript_from index t ts (f ∷ us) back x n e i =
    let same : t ≡ f = cc in
    scalar_subscript f (subst (λ u. IsAgain index u → ⊥) same n) i

pub s_subscript : (index : List ℕ) (k : Subscript → Calm) (p : Program) (t : Token) (ts : List Token) (b : Bool) (o : Option (List ℕ))
    → is_word index t.kind ≡ b → name_of (sort_of t.kind) ≡ o
    → MeansNext (step_subscript index k t.at (step_whole_scalar (λ x. k (subscript.Scalar x)) (sort_of t.kind) t.at) b o) p ts
    → Means (InSubscript index k) p (t ∷ ts)
s_subscript index k p t ts true o h g m =
    behind_tokens subscript.Plain (t ∷ []) m λ us add i. plain t (word_again index t.kind h) (i [] no_offset)
s_subscript index k p t ts false (Some name) h g m =
    behind_tokens (λ x. x) (t ∷ []) m λ us x i. i t (name_is (sort_of t.kind) name g) refl (not_again index t h)
s_subscript index k p t ts false None h g n =
    let m = s_whole_scalar (λ x. k (subscript.Scalar x)) p t ts n in
    record {
      front = m.front;
      back = m.back;
      value = subscript.Scalar m.value;
      split = m.split;
      is = scalar_subscript_from index t ts m.front m.back m.value (not_again index t h) m.split m.is;
      goes_on = m.goes_on;
    }

-- a scalar that began with a name
pub scalar_goes_on : (index name : List ℕ) (at : SourcePlace) (k : Subscript → Calm) (p : Program) (ts : List Token)
    → MeansCalm (MoreScalarFactors (scalar.Named name at) (λ y. MoreScalarTerms y (λ x. k (subscript.Scalar x)))) p ts
    → MeansCalm (AfterSubscriptName index name at k) p ts
scalar_goes_on index name at k p ts m = two_phrases subscript.Scalar [] m
    λ us vs y x i j u f g n.
    let first : IsScalarTerm (u ∷ []) (scalar.Named name at) = subst (λ a. IsScalarTerm (u ∷ []) (scalar.Named name a)) g
    (scalar_factor (scalar_name name u f)) in
    scalar_subscript u n (j (u ∷ us) (scalar_term (i (u ∷ []) first)))

-- behind an index array's name and parenthesis
pub s_indexed : (index name : List ℕ) (at : SourcePlace) (k : Subscript → Calm) (p : Program) (t : Token) (ts : List Token) (b : Bool)
    (o : Option (List ℕ)) → is_word index t.kind ≡ b → name_of (sort_of t.kind) ≡ o
    → MeansNext (step_indexed index name at k t.at b o) p ts → Means (InIndexed index name at k) p (t ∷ ts)
s_indexed index name at k p t ts true o h g a =
    let c = a.goes_on in
    let b = c.goes_on in
    let tail : List Token = a.front ++ c.token ∷ b.front in
    let is : IndexedRest index name at (t ∷ tail) (subscript.Through name at a.value b.value) =
    λ u v f g n e.
    subst (λ q. IsSubscript index (u ∷ v ∷ t ∷ tail) (subscript.Through name q a.value b.value)) g
    (through u v t c.token f n e (word_again index t.kind h) (a.is [] no_offset) c.is (b.is [] no_offset))
    in
    let split : t ∷ ts ≡ (t ∷ tail) ++ b.back =
    ap (λ l. t ∷ l) (a.split ∙ ap (λ l. a.front ++ l) (c.split ∙ ap (λ l. c.token ∷ l) b.split)
    ∙ sym (append_assoc a.front (c.token ∷ b.front) b.back))
    in
    record {
      front = t ∷ tail;
      back = b.back;
      value = subscript.Through name at a.value b.value;
      split = split;
      is = is;
      goes_on = b.goes_on;
    }
s_indexed index name at k p t ts false (Some inner) h g' r =
    let i = r.goes_on in
    let a = i.goes_on in
    let c = a.goes_on in
    let b = c.goes_on in
    let d = b.goes_on in
    let w = d.goes_on in
    let behind : List Token = b.front ++ d.token ∷ w.front in
    let tail : List Token = t ∷ r.token ∷ i.token ∷ (a.front ++ c.token ∷ behind) in
    let is : IndexedRest index name at tail (subscript.Twice name at inner t.at a.value b.value w.value) =
    λ u v f g n e.
    subst (λ q. IsSubscript index (u ∷ v ∷ tail) (subscript.Twice name q inner t.at a.value b.value w.value)) g
    (twice u v t r.token i.token c.token d.token f n e (name_is (sort_of t.kind) inner g') (not_again index t h) r.is i.is
    (a.is [] no_offset) c.is (b.is [] no_offset) d.is (w.is [] no_offset))
    in
    let behind_c : c.back ≡ behind ++ w.back =
    b.split ∙ ap (λ l. b.front ++ l) (d.split ∙ ap (λ l. d.token ∷ l) w.split) ∙ sym (append_assoc b.front (d.token ∷ w.front) w.back) in
    let split : t ∷ ts ≡ tail ++ w.back =
    ap (λ l. t ∷ l) (r.split ∙ ap (λ l. r.token ∷ l) (i.split ∙ ap (λ l. i.token ∷ l)
    (a.split ∙ ap (λ l. a.front ++ l) (c.split ∙ ap (λ l. c.token ∷ l) behind_c) ∙ sym (append_assoc a.front (c.token ∷ behind) w.back))))
    in
    record {
      front = tail;
      back = w.back;
      value = subscript.Twice name at inner t.at a.value b.value w.value;
      split = split;
      is = is;
      goes_on = w.goes_on;
    }
s_indexed index name at k p t ts false None h g m = absurd m

pub s_after_subscript_name : (index name : List ℕ) (at : SourcePlace) (k : Subscript → Calm) (p : Program) (t : Token) (ts : List Token)
    (next : Option State) (b : Bool) → opens (sort_of t.kind) ≡ b
    → (MeansNext next p ts → MeansCalm (MoreScalarFactors (scalar.Named name at) (λ y. MoreScalarTerms y (λ x. k (subscript.Scalar x)))) p
    (t ∷ ts))
    → MeansNext (step_after_subscript_name index name at k next b) p ts → MeansCalm (AfterSubscriptName index name at k) p (t ∷ ts)
s_after_subscript_name index name at k p t ts next true h go m =
    behind_tokens (λ x. x) (t ∷ []) m λ us x i u f g n. i u t f g n (opens_is (sort_of t.kind) h)
s_after_subscript_name index name at k p t ts next false h go m = scalar_goes_on index name at k p (t ∷ ts) (go m)

-- an element behind its name and parenthesis
pub s_element : (index : List ℕ) (n o : Token) (name : List ℕ) (k : Element → State) (p : Program) (ts : List Token)
    → Is (sort.Named name) n → Is sort.Open o → Means (InElement index name n.at k) p ts → Front (IsElement index) (λ e. Means (k e) p)
    (n ∷ o ∷ ts)
s_element index n o name k p ts en eo m =
    closed_by (element_of name n.at) (n ∷ o ∷ []) m λ us s c i e. element n o c en eo i e

-- ---- expressions

pub s_expr_factor : (index : List ℕ) (k : Expr → Calm) (p : Program) (t : Token) (ts : List Token) (c : Sort) → Is c t
    → MeansNext (step_expr_factor index k c t.at) p ts → Means (ExprFactor index k) p (t ∷ ts)
s_expr_factor index k p t ts (sort.Numbered n) e m = one_token (expr.Number n) t ts (expr_number n t e) m
s_expr_factor index k p t ts (sort.Named n) e m = behind_tokens (λ x. x) (t ∷ []) m λ us x i. i t e refl
s_expr_factor index k p t ts sort.Open e m = closed_by (λ x. x) (t ∷ []) m λ us x c i g. expr_inside t e i c g
s_expr_factor index k p t ts _ e m = absurd m

pub s_after_name : (index name : List ℕ) (at : SourcePlace) (k : Expr → Calm) (p : Program) (t : Token) (ts : List Token)
    (next : Option State) (b : Bool) → opens (sort_of t.kind) ≡ b → (MeansNext next p ts → MeansCalm (k (expr.Named name at)) p (t ∷ ts))
    → MeansNext (step_after_name index name at k next b) p ts → MeansCalm (AfterName index name at k) p (t ∷ ts)
s_after_name index name at k p t ts next true h go m = closed_by (λ s. expr.Read (element_of name at s)) (t ∷ []) m
    λ us s c i e u f g. subst (λ q. IsExprFactor index (u ∷ t ∷ (us ++ c ∷ [])) (expr.Read (element_of name q s))) g
    (expr_element (element u t c f (opens_is (sort_of t.kind) h) i e))
s_after_name index name at k p t ts next false h go m = no_token (expr.Named name at) (t ∷ ts)
    (λ u f g. subst (λ q. IsExprFactor index (u ∷ []) (expr.Named name q)) g (expr_name name u f)) (go m)

pub add_expr_factor : (index : List ℕ) (us vs : List Token) (x y : Expr) (s : Token) (op : Arith) → times_of (sort_of s.kind) ≡ Some op
    → IsExprTerm index us x → IsExprFactor index vs y → IsExprTerm index (us ++ s ∷ vs) (expr.Binary op x y)
add_expr_factor index us vs x y s op h a b =
    let e = times_is (sort_of s.kind) op h in
    subst (λ o. IsExprTerm index (us ++ s ∷ vs) (expr.Binary o x y)) e.1 (expr_times a s e.0 b)

pub add_expr_term : (index : List ℕ) (us vs : List Token) (x y : Expr) (s : Token) (op : Arith) → sign_by (sort_of s.kind) ≡ Some op
    → IsExpr index us x → IsExprTerm index vs y → IsExpr index (us ++ s ∷ vs) (expr.Binary op x y)
add_expr_term index us vs x y s Plus h a b = expr_plus a s (sign_is (sort_of s.kind) Plus h) b
add_expr_term index us vs x y s Minus h a b = expr_minus a s (sign_is (sort_of s.kind) Minus h) b
add_expr_term index us vs x y s Times h a b = absurd (no_times_sign (sort_of s.kind) h)

pub s_expr_factors : (index : List ℕ) (x : Expr) (k : Expr → Calm) (p : Program) (t : Token) (ts : List Token) (next : Option State)
    (o : Option Arith) → times_of (sort_of t.kind) ≡ o → (MeansNext next p ts → MeansCalm (k x) p (t ∷ ts))
    → MeansNext (step_expr_factors index x k next o) p ts → MeansCalm (MoreExprFactors index x k) p (t ∷ ts)
s_expr_factors index x k p t ts next (Some op) e go m =
    goes_on_with (IsExprTerm index) (expr.Binary op x) x t m λ us vs y. add_expr_factor index us vs x y t op e
s_expr_factors index x k p t ts next None e go m = no_token x (t ∷ ts) (stays (IsExprTerm index) x) (go m)

pub expr_term_from : (index : List ℕ) (k : Expr → Calm) (p : Program) (ts : List Token) → Means (ExprTerm index k) p ts
    → Front (IsExprTerm index) (λ x. MeansCalm (k x) p) ts
expr_term_from index k p ts m = begun_with (IsExprTerm index) (λ x. x) [] m λ us x i. expr_factor i

pub s_expr_terms : (index : List ℕ) (x : Expr) (k : Expr → Calm) (p : Program) (t : Token) (ts : List Token) (next : Option State)
    (o : Option Arith) → sign_by (sort_of t.kind) ≡ o → (MeansNext next p ts → MeansCalm (k x) p (t ∷ ts))
    → MeansNext (step_expr_terms index x k next o) p ts → MeansCalm (MoreExprTerms index x k) p (t ∷ ts)
s_expr_terms index x k p t ts next (Some op) e go m =
    goes_on_with (IsExpr index) (expr.Binary op x) x t (expr_term_from index (λ y. MoreExprTerms index (expr.Binary op x y) k) p ts m)
    λ us vs y. add_expr_term index us vs x y t op e
s_expr_terms index x k p t ts next None e go m = no_token x (t ∷ ts) (stays (IsExpr index) x) (go m)

-- an expression that begins with a term, behind these tokens
expr_begun : (index : List ℕ) (f : Expr → Expr) (ps : List Token) (k : Expr → Calm) (p : Program) (ts : List Token)
    → Means (ExprTerm index (λ y. MoreExprTerms index (f y) k)) p ts → ((us : List Token) (x : Expr) → IsExprTerm index us x
    → IsExpr index (ps ++ us) (f x))
    → Means (WholeExpr index k) p (ps ++ ts)
expr_begun index f ps k p ts m make = begun_with (IsExpr index) f ps (expr_term_from index (λ y. MoreExprTerms index (f y) k) p ts m) make

pub expr_unsigned : (index : List ℕ) (k : Expr → Calm) (p : Program) (ts : List Token) → Means (SignedExpr index k None) p ts
    → Means (WholeExpr index k) p ts
expr_unsigned index k p ts m = expr_begun index (λ y. y) [] k p ts m λ us x i. expr_term i

pub s_expr_lead : (index : List ℕ) (k : Expr → Calm) (p : Program) (t : Token) (ts : List Token) (next : Option State) (o : Option Arith)
    → sign_by (sort_of t.kind) ≡ o → (MeansNext next p ts → Means (WholeExpr index k) p (t ∷ ts))
    → MeansNext (step_lead (SignedExpr index k) t.at next o) p ts → Means (WholeExpr index k) p (t ∷ ts)
s_expr_lead index k p t ts next (Some Plus) h go m =
    expr_begun index (λ y. y) (t ∷ []) k p ts m λ us x i. expr_signed_plus t (sign_is (sort_of t.kind) Plus h) i
s_expr_lead index k p t ts next (Some Minus) h go m =
    expr_begun index expr.Negate (t ∷ []) k p ts m λ us x i. expr_signed_minus t (sign_is (sort_of t.kind) Minus h) i
s_expr_lead index k p t ts next (Some Times) h go m = absurd (no_times_sign (sort_of t.kind) h)
s_expr_lead index k p t ts next None h go m = go m
