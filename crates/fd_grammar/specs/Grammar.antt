-- The grammar, rule for rule: which tokens spell each phrase.
use Rattle.std.specs.Prelude.{◌≡◌, ℕ, ℤ, pos, true, false, List, [], ◌∷◌, ◌++◌, length}
use Rattle.fd_words.specs.declared.combine.Combine.{Combine}
use Rattle.fd_words.specs.declared.combine.Combine.TheVariants.{Add, Min, Max}
use Rattle.fd_lexer.specs.declared.token.TokenKind.TheVariants as kind
use Rattle.fd_lexer.specs.declared.token.Token.{Token}
use Rattle.fd_words.specs.declared.arith.Arith.TheVariants.{Plus, Minus, Times}
use Rattle.fd_syntax.specs.declared.scalar.Scalar.{Scalar}
use Rattle.fd_syntax.specs.declared.scalar.Scalar.TheVariants as scalar
use Rattle.fd_syntax.specs.declared.scalar.Term.{Term}
use Rattle.fd_syntax.specs.declared.expr.Subscript.{Subscript}
use Rattle.fd_syntax.specs.declared.expr.Subscript.TheVariants as subscript
use Rattle.fd_syntax.specs.declared.expr.Element.{Element}
use Rattle.fd_syntax.specs.declared.expr.Expr.{Expr}
use Rattle.fd_syntax.specs.declared.expr.Expr.TheVariants as expr
use Rattle.fd_syntax.specs.declared.declaration.Parameter.{Parameter}
use Rattle.fd_syntax.specs.declared.declaration.SizedName.{SizedName}
use Rattle.fd_syntax.specs.declared.declaration.Listed.{Listed}
use Rattle.fd_syntax.specs.declared.declaration.Declaration.{Declaration}
use Rattle.fd_syntax.specs.declared.declaration.Declaration.TheVariants as declaration
use Rattle.fd_syntax.specs.declared.statement.BodyStatement.{BodyStatement}
use Rattle.fd_syntax.specs.declared.statement.BodyStatement.TheVariants as inner
use Rattle.fd_syntax.specs.declared.statement.Form.{Form}
use Rattle.fd_syntax.specs.declared.statement.Form.TheVariants as form
use Rattle.fd_syntax.specs.declared.statement.Statement.{Statement}
use Rattle.fd_syntax.specs.declared.statement.Statement.TheVariants as statement
use Rattle.fd_syntax.specs.declared.program.Program.{Program}
use Rattle.fd_grammar.specs.declared.sort.Sort.{Sort}
use Rattle.fd_grammar.specs.declared.sort.Sort.TheVariants.{ProgramWord, ParameterWord, IntegerWord, DecompositionWord, AlignWord, WithWord}
use Rattle.fd_grammar.specs.declared.sort.Sort.TheVariants.{DistributeWord, BlockWord, CyclicWord, ReadWord, OutputWord, PrintWord, DoWord}
use Rattle.fd_grammar.specs.declared.sort.Sort.TheVariants.{EndWord, EndDoWord, ForallWord, EndForallWord, ReduceWord, AddWord, MinWord}
use Rattle.fd_grammar.specs.declared.sort.Sort.TheVariants.{MaxWord, Named, Numbered, Open, Close, Comma, Equals, Star, LineEnd}
use Rattle.fd_grammar.specs.declared.sort.Sort.TheVariants as sort
use Rattle.fd_grammar.specs.Sorts.{sort_of}

-- a token of this sort
abbrev pub Is : Sort → Token → Type 0
Is s t = sort_of t.kind ≡ s

-- this word, again
abbrev pub IsAgain : List ℕ → Token → Type 0
IsAgain word t = t.kind ≡ kind.Word word

-- a word that isn't reserved
abbrev pub IsName : List ℕ → Type 0
IsName word = sort_of (kind.Word word) ≡ Named word

-- { line end }
pub data AreLines : List Token → Type 0 where
  no_lines : AreLines []
  more_lines : {ts : List Token} (t : Token) → Is LineEnd t → AreLines ts → AreLines (t ∷ ts)

-- x { "," x }
pub data AreListed {X : Type 0} (IsOne : List Token → X → Type 0) : List Token → List X → Type 0 where
  one_item : {ts : List Token} {x : X} → IsOne ts x → AreListed IsOne ts (x ∷ [])
  more_items : {us vs : List Token} {xs : List X} {x : X} → AreListed IsOne us xs → (c : Token) → Is Comma c → IsOne vs x
      → AreListed IsOne (us ++ c ∷ vs) (xs ++ x ∷ [])

mutual
  -- scalar = [ "+" | "-" ] sterm { ( "+" | "-" ) sterm }
  pub data IsScalar : List Token → Scalar → Type 0 where
    scalar_term : {ts : List Token} {x : Scalar} → IsScalarTerm ts x → IsScalar ts x
    scalar_signed_plus : {ts : List Token} {x : Scalar} (s : Token) → Is sort.Plus s → IsScalarTerm ts x → IsScalar (s ∷ ts) x
    scalar_signed_minus : {ts : List Token} {x : Scalar} (s : Token) → Is sort.Minus s → IsScalarTerm ts x
        → IsScalar (s ∷ ts) (scalar.Negate s.at x)
    scalar_plus : {us vs : List Token} {x y : Scalar} → IsScalar us x → (s : Token) → Is sort.Plus s → IsScalarTerm vs y
        → IsScalar (us ++ s ∷ vs) (scalar.Binary Plus s.at x y)
    scalar_minus : {us vs : List Token} {x y : Scalar} → IsScalar us x → (s : Token) → Is sort.Minus s → IsScalarTerm vs y
        → IsScalar (us ++ s ∷ vs) (scalar.Binary Minus s.at x y)

  -- sterm = sfactor { "*" sfactor }
  pub data IsScalarTerm : List Token → Scalar → Type 0 where
    scalar_factor : {ts : List Token} {x : Scalar} → IsScalarFactor ts x → IsScalarTerm ts x
    scalar_times : {us vs : List Token} {x y : Scalar} → IsScalarTerm us x → (s : Token) → Is Star s → IsScalarFactor vs y
        → IsScalarTerm (us ++ s ∷ vs) (scalar.Binary Times s.at x y)

  -- sfactor = number | name | "(" scalar ")"
  pub data IsScalarFactor : List Token → Scalar → Type 0 where
    scalar_number : (value : ℤ) (t : Token) → Is (Numbered value) t → IsScalarFactor (t ∷ []) (scalar.Number value t.at)
    scalar_name : (name : List ℕ) (t : Token) → Is (Named name) t → IsScalarFactor (t ∷ []) (scalar.Named name t.at)
    scalar_inside : {ts : List Token} {x : Scalar} (o : Token) → Is Open o → IsScalar ts x → (c : Token) → Is Close c
        → IsScalarFactor (o ∷ (ts ++ c ∷ [])) x

-- offset = { ( "+" | "-" ) sterm }
pub data IsOffset : List Token → List Term → Type 0 where
  no_offset : IsOffset [] []
  offset_plus : {us vs : List Token} {add : List Term} {x : Scalar} → IsOffset us add → (s : Token) → Is sort.Plus s → IsScalarTerm vs x
      → IsOffset (us ++ s ∷ vs) (add ++ record { minus = false; at = s.at; scalar = x } ∷ [])
  offset_minus : {us vs : List Token} {add : List Term} {x : Scalar} → IsOffset us add → (s : Token) → Is sort.Minus s → IsScalarTerm vs x
      → IsOffset (us ++ s ∷ vs) (add ++ record { minus = true; at = s.at; scalar = x } ∷ [])

-- subscript = index offset | name "(" index offset ")" offset | name "(" name "(" index offset ")" offset ")" offset | scalar
-- The first form is the one that begins with the index; the next two begin with another name and a parenthesis.
pub data IsSubscript (index : List ℕ) : List Token → Subscript → Type 0 where
  plain : {ts : List Token} {add : List Term} (i : Token) → IsAgain index i → IsOffset ts add
      → IsSubscript index (i ∷ ts) (subscript.Plain add)
  through : {us vs : List Token} {name : List ℕ} {inside add : List Term} (n o i c : Token) → Is (Named name) n → (IsAgain index n → ⊥)
      → Is Open o → IsAgain index i → IsOffset us inside → Is Close c → IsOffset vs add
      → IsSubscript index (n ∷ o ∷ i ∷ (us ++ c ∷ vs)) (subscript.Through name n.at inside add)
  twice : {us vs ws : List Token} {name inner : List ℕ} {first second add : List Term} (n o m p i c d : Token) → Is (Named name) n
      → (IsAgain index n → ⊥) → Is Open o → Is (Named inner) m → (IsAgain index m → ⊥) → Is Open p → IsAgain index i
      → IsOffset us first → Is Close c → IsOffset vs second → Is Close d → IsOffset ws add
      → IsSubscript index (n ∷ o ∷ m ∷ p ∷ i ∷ (us ++ c ∷ (vs ++ d ∷ ws))) (subscript.Twice name n.at inner m.at first second add)
  scalar_subscript : {ts : List Token} {x : Scalar} (f : Token) → (IsAgain index f → ⊥) → IsScalar (f ∷ ts) x
      → IsSubscript index (f ∷ ts) (subscript.Scalar x)

-- element = name "(" subscript ")"
pub data IsElement (index : List ℕ) : List Token → Element → Type 0 where
  element : {ts : List Token} {name : List ℕ} {s : Subscript} (n o c : Token) → Is (Named name) n → Is Open o → IsSubscript index ts s
      → Is Close c
      → IsElement index (n ∷ o ∷ (ts ++ c ∷ [])) (record { name = name; at = n.at; subscript = s })

mutual
  -- expr = [ "+" | "-" ] term { ( "+" | "-" ) term }
  pub data IsExpr (index : List ℕ) : List Token → Expr → Type 0 where
    expr_term : {ts : List Token} {x : Expr} → IsExprTerm index ts x → IsExpr index ts x
    expr_signed_plus : {ts : List Token} {x : Expr} (s : Token) → Is sort.Plus s → IsExprTerm index ts x → IsExpr index (s ∷ ts) x
    expr_signed_minus : {ts : List Token} {x : Expr} (s : Token) → Is sort.Minus s → IsExprTerm index ts x
        → IsExpr index (s ∷ ts) (expr.Negate x)
    expr_plus : {us vs : List Token} {x y : Expr} → IsExpr index us x → (s : Token) → Is sort.Plus s → IsExprTerm index vs y
        → IsExpr index (us ++ s ∷ vs) (expr.Binary Plus x y)
    expr_minus : {us vs : List Token} {x y : Expr} → IsExpr index us x → (s : Token) → Is sort.Minus s → IsExprTerm index vs y
        → IsExpr index (us ++ s ∷ vs) (expr.Binary Minus x y)

  -- term = factor { "*" factor }
  pub data IsExprTerm (index : List ℕ) : List Token → Expr → Type 0 where
    expr_factor : {ts : List Token} {x : Expr} → IsExprFactor index ts x → IsExprTerm index ts x
    expr_times : {us vs : List Token} {x y : Expr} → IsExprTerm index us x → (s : Token) → Is Star s → IsExprFactor index vs y
        → IsExprTerm index (us ++ s ∷ vs) (expr.Binary Times x y)

  -- factor = number | name | element | "(" expr ")"
  pub data IsExprFactor (index : List ℕ) : List Token → Expr → Type 0 where
    expr_number : (value : ℤ) (t : Token) → Is (Numbered value) t → IsExprFactor index (t ∷ []) (expr.Number value)
    expr_name : (name : List ℕ) (t : Token) → Is (Named name) t → IsExprFactor index (t ∷ []) (expr.Named name t.at)
    expr_element : {ts : List Token} {e : Element} → IsElement index ts e → IsExprFactor index ts (expr.Read e)
    expr_inside : {ts : List Token} {x : Expr} (o : Token) → Is Open o → IsExpr index ts x → (c : Token) → Is Close c
        → IsExprFactor index (o ∷ (ts ++ c ∷ [])) x

-- name "=" scalar
pub data IsParameter : List Token → Parameter → Type 0 where
  parameter : {ts : List Token} {name : List ℕ} {x : Scalar} (n e : Token) → Is (Named name) n → Is Equals e → IsScalar ts x
      → IsParameter (n ∷ e ∷ ts) (record { name = name; at = n.at; value = x })

-- sized = name "(" scalar ")"
pub data IsSized : List Token → SizedName → Type 0 where
  sized : {ts : List Token} {name : List ℕ} {x : Scalar} (n o f c : Token) → Is (Named name) n → Is Open o → IsScalar (f ∷ ts) x
      → Is Close c
      → IsSized (n ∷ o ∷ f ∷ (ts ++ c ∷ [])) (record { name = name; at = n.at; extent = x; extent_at = f.at })

-- name
pub data IsListed : List Token → Listed → Type 0 where
  listed : {name : List ℕ} (n : Token) → Is (Named name) n → IsListed (n ∷ []) (record { name = name; at = n.at })

-- aligned = name "(" dummy ")", where the dummy is one name throughout an ALIGN
pub data IsAligned (dummy : List ℕ) : List Token → Listed → Type 0 where
  aligned : {name : List ℕ} (n o d c : Token) → Is (Named name) n → Is Open o → IsAgain dummy d → Is Close c
      → IsAligned dummy (n ∷ o ∷ d ∷ c ∷ []) (record { name = name; at = n.at })

-- declaration = PARAMETER "(" name "=" scalar { "," name "=" scalar } ")" | INTEGER "*" 8 sized { "," sized }
--   | DECOMPOSITION sized { "," sized } | ALIGN aligned { "," aligned } WITH name "(" dummy offset ")"
--   | READ name { "," name } | OUTPUT name { "," name }
pub data IsDeclaration : List Token → Declaration → Type 0 where
  parameters : {ts : List Token} {xs : List Parameter} (w o c : Token) → Is ParameterWord w → Is Open o → AreListed IsParameter ts xs
      → Is Close c
      → IsDeclaration (w ∷ o ∷ (ts ++ c ∷ [])) (declaration.Parameter xs)
  integers : {ts : List Token} {xs : List SizedName} (w s e : Token) → Is IntegerWord w → Is Star s → Is (Numbered (pos 8)) e
      → AreListed IsSized ts xs
      → IsDeclaration (w ∷ s ∷ e ∷ ts) (declaration.Integer xs)
  decompositions : {ts : List Token} {xs : List SizedName} (w : Token) → Is DecompositionWord w → AreListed IsSized ts xs
      → IsDeclaration (w ∷ ts) (declaration.Decomposition xs)
  aligns : {us vs : List Token} {dummy target : List ℕ} {xs : List Listed} {add : List Term} (a w t o d c : Token)
      → Is AlignWord a → IsName dummy → AreListed (IsAligned dummy) us xs → Is WithWord w → Is (Named target) t → Is Open o
      → IsAgain dummy d → IsOffset vs add → Is Close c
      → IsDeclaration (a ∷ (us ++ w ∷ t ∷ o ∷ d ∷ (vs ++ c ∷ []))) (declaration.Align xs dummy target t.at add)
  reads : {ts : List Token} {xs : List Listed} (w : Token) → Is ReadWord w → AreListed IsListed ts xs
      → IsDeclaration (w ∷ ts) (declaration.Read xs)
  outputs : {ts : List Token} {xs : List Listed} (w : Token) → Is OutputWord w → AreListed IsListed ts xs
      → IsDeclaration (w ∷ ts) (declaration.Output xs)

-- form = BLOCK | CYCLIC [ "(" scalar ")" ] | name
pub data IsForm : List Token → Form → Type 0 where
  block : (w : Token) → Is BlockWord w → IsForm (w ∷ []) form.Block
  cyclic : (w : Token) → Is CyclicWord w → IsForm (w ∷ []) form.Cyclic
  block_cyclic : {ts : List Token} {x : Scalar} (w o f c : Token) → Is CyclicWord w → Is Open o → IsScalar (f ∷ ts) x → Is Close c
      → IsForm (w ∷ o ∷ f ∷ (ts ++ c ∷ [])) (form.BlockCyclic x f.at)
  mapped : {name : List ℕ} (n : Token) → Is (Named name) n → IsForm (n ∷ []) (form.Map name n.at)

-- distribute = DISTRIBUTE name "(" form ")"
pub data IsDistribute : List Token → Statement → Type 0 where
  distribute : {ts : List Token} {name : List ℕ} {f : Form} (w n o c : Token) → Is DistributeWord w → Is (Named name) n → Is Open o
      → IsForm ts f → Is Close c
      → IsDistribute (w ∷ n ∷ o ∷ (ts ++ c ∷ [])) (statement.Distribute w.at name n.at f)

-- head = { ( declaration | distribute ) NL }: the declarations, and the DISTRIBUTEs
pub data IsHead : List Token → List Declaration → List Statement → Type 0 where
  no_head : IsHead [] [] []
  declared : {us ls vs : List Token} {d : Declaration} {ds : List Declaration} {ss : List Statement} → IsDeclaration us d → (l : Token)
      → Is LineEnd l → AreLines ls → IsHead vs ds ss
      → IsHead (us ++ l ∷ (ls ++ vs)) (d ∷ ds) ss
  distributed : {us ls vs : List Token} {s : Statement} {ds : List Declaration} {ss : List Statement} → IsDistribute us s → (l : Token)
      → Is LineEnd l → AreLines ls → IsHead vs ds ss
      → IsHead (us ++ l ∷ (ls ++ vs)) ds (s ∷ ss)

-- ADD | MIN | MAX
pub data IsOperator : Token → Combine → Type 0 where
  adds : (t : Token) → Is AddWord t → IsOperator t Add
  takes_min : (t : Token) → Is MinWord t → IsOperator t Min
  takes_max : (t : Token) → Is MaxWord t → IsOperator t Max

-- inner = element "=" expr | REDUCE "(" ( ADD | MIN | MAX ) "," element "," expr ")"
pub data IsInner (index : List ℕ) : List Token → BodyStatement → Type 0 where
  assigned : {us vs : List Token} {target : Element} {x : Expr} (e : Token) → IsElement index us target → Is Equals e → IsExpr index vs x
      → IsInner index (us ++ e ∷ vs) (inner.Assign target x)
  reduced : {us vs : List Token} {op : Combine} {target : Element} {x : Expr} (r o w c d p : Token) → Is ReduceWord r → Is Open o
      → IsOperator w op → Is Comma c
      → IsElement index us target → Is Comma d → IsExpr index vs x → Is Close p
      → IsInner index (r ∷ o ∷ w ∷ c ∷ (us ++ d ∷ (vs ++ p ∷ []))) (inner.Reduce op target x)

-- inner NL { inner NL }
pub data AreInner (index : List ℕ) : List Token → List BodyStatement → Type 0 where
  last_inner : {us ls : List Token} {s : BodyStatement} → IsInner index us s → (l : Token) → Is LineEnd l → AreLines ls
      → AreInner index (us ++ l ∷ ls) (s ∷ [])
  more_inner : {us ls vs : List Token} {s : BodyStatement} {ss : List BodyStatement} → IsInner index us s → (l : Token) → Is LineEnd l
      → AreLines ls → AreInner index vs ss
      → AreInner index (us ++ l ∷ (ls ++ vs)) (s ∷ ss)

-- ENDDO | END DO
pub data IsDoEnd : List Token → Type 0 where
  end_do_word : (t : Token) → Is EndDoWord t → IsDoEnd (t ∷ [])
  end_do : (e d : Token) → Is EndWord e → Is DoWord d → IsDoEnd (e ∷ d ∷ [])

-- ENDFORALL | END FORALL
pub data IsForallEnd : List Token → Type 0 where
  end_forall_word : (t : Token) → Is EndForallWord t → IsForallEnd (t ∷ [])
  end_forall : (e f : Token) → Is EndWord e → Is ForallWord f → IsForallEnd (e ∷ f ∷ [])

-- name "=" scalar "," scalar NL
pub data IsRange : List Token → Listed → Scalar → Scalar → Type 0 where
  range : {us vs ls : List Token} {name : List ℕ} {low high : Scalar} (n e c l : Token) → Is (Named name) n → Is Equals e
      → IsScalar us low → Is Comma c → IsScalar vs high → Is LineEnd l → AreLines ls
      → IsRange (n ∷ e ∷ (us ++ c ∷ (vs ++ l ∷ ls))) (record { name = name; at = n.at }) low high

-- forall = FORALL name "=" scalar "," scalar NL { inner NL } inner NL ( END FORALL | ENDFORALL )
pub data IsForall : List Token → Statement → Type 0 where
  forall_loop : {rs bs es : List Token} {n : Listed} {low high : Scalar} {body : List BodyStatement} (f : Token) → Is ForallWord f
      → IsRange rs n low high → AreInner n.name bs body → IsForallEnd es
      → IsForall (f ∷ (rs ++ (bs ++ es))) (statement.Forall (record {
        at = f.at;
        index = n.name;
        index_at = n.at;
        low = low;
        high = high;
        body = body;
      }))

mutual
  -- body = { statement NL }
  pub data IsBody : List Token → List Statement → Type 0 where
    no_body : IsBody [] []
    more_body : {us ls vs : List Token} {xs ys : List Statement} → IsStatement us xs → (l : Token) → Is LineEnd l → AreLines ls
        → IsBody vs ys → IsBody (us ++ l ∷ (ls ++ vs)) (xs ++ ys)

  -- statement = distribute | PRINT name | do | forall
  -- do = DO name "=" scalar "," scalar NL body ( END DO | ENDDO ): its statement and then those of its body
  pub data IsStatement : List Token → List Statement → Type 0 where
    distribution : {ts : List Token} {s : Statement} → IsDistribute ts s → IsStatement ts (s ∷ [])
    printed : {name : List ℕ} (p n : Token) → Is PrintWord p → Is (Named name) n
        → IsStatement (p ∷ n ∷ []) (statement.Print p.at name n.at ∷ [])
    do_loop : {rs bs es : List Token} {n : Listed} {low high : Scalar} {body : List Statement} (d : Token) → Is DoWord d
        → IsRange rs n low high → IsBody bs body → IsDoEnd es
        → IsStatement (d ∷ (rs ++ (bs ++ es))) (statement.Do d.at n.name n.at low high (length body) ∷ body)
    ranged : {ts : List Token} {s : Statement} → IsForall ts s → IsStatement ts (s ∷ [])

-- program = PROGRAM name NL head body END { line end }, behind any line ends: the program has these tokens
pub data IsWrittenAs : Program → List Token → Type 0 where
  program : {before ls hs bs after : List Token} {name : List ℕ} {ds : List Declaration} {ss xs : List Statement} → AreLines before
      → (p n l e : Token)
      → Is ProgramWord p → Is (Named name) n → Is LineEnd l → AreLines ls → IsHead hs ds ss → IsBody bs xs → Is EndWord e → AreLines after
      → IsWrittenAs (record { name = name; declarations = ds; statements = ss ++ xs })
      (before ++ p ∷ n ∷ l ∷ (ls ++ (hs ++ (bs ++ e ∷ after))))

-- these tokens can begin a program
abbrev pub CanBegin : List Token → Type 0
CanBegin ts = (more : List Token) × (p : Program) × IsWrittenAs p (ts ++ more)
