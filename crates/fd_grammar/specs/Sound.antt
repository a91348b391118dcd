-- What the machine reads, the grammar spells.
use Rattle.std.proofs.Common.{◌≡◌, List, [], ◌∷◌, ◌++◌, Option, Some, None, Ok, refl, ap, sym, ◌∙◌, subst, append_assoc}
use Rattle.fd_lexer.specs.declared.token.Token.{Token}
use Rattle.fd_syntax.specs.declared.scalar.Scalar.{Scalar}
use Rattle.fd_syntax.specs.declared.scalar.Scalar.TheVariants as scalar
use Rattle.fd_syntax.specs.declared.expr.Subscript.TheVariants as subscript
use Rattle.fd_syntax.specs.declared.expr.Expr.{Expr}
use Rattle.fd_syntax.specs.declared.expr.Expr.TheVariants as expr
use Rattle.fd_syntax.specs.declared.declaration.Declaration.{Declaration}
use Rattle.fd_syntax.specs.declared.statement.Form.TheVariants as form
use Rattle.fd_syntax.specs.declared.statement.Statement.{Statement}
use Rattle.fd_syntax.specs.declared.program.Program.{Program}
use Rattle.fd_grammar.specs.declared.sort.Sort.{Sort}
use Rattle.fd_grammar.specs.declared.sort.Sort.TheVariants as sort
use Rattle.fd_grammar.specs.declared.mark.Mark.TheVariants as mark
use Rattle.fd_grammar.specs.Sorts.{sort_of, is_word, name_of, sign_by, times_of, opens}
use Rattle.fd_grammar.specs.Machine.{EndOfProgram, EndOfForall, mark_of, State, Calm, ScalarFactor, WholeScalar, PlacedScalar, ExprFactor}
use Rattle.fd_grammar.specs.Machine.{WholeExpr, InSubscript, InIndexed, AnyName, SameName, Take, InForm, Operator, Head, Body, Close}
use Rattle.fd_grammar.specs.Machine.{FirstInner}
use Rattle.fd_grammar.specs.Machine.{MoreInner, Begin, Ended, Then, MoreScalarFactors, MoreScalarTerms, MoreExprFactors, MoreExprTerms}
use Rattle.fd_grammar.specs.Machine.{AfterName, AfterSubscriptName, MoreOffset, AfterCyclic, MoreItems, Want, step_want}
use Rattle.fd_grammar.specs.Machine.{step_scalar_factors, step_scalar_terms, step_expr_factor, step_close, step_body, opening_by}
use Rattle.fd_grammar.specs.Machine.{step_begin, step_ended, is_mark, is_fixed, step, step_calm, after, run, ending, start}
use Rattle.fd_grammar.specs.Grammar.{Is, AreLines, no_lines, more_lines, IsHead, IsBody, IsWrittenAs, program}
use Rattle.fd_grammar.specs.Meaning.{AreHeadAndBody, filled, Begins, begins, Means, MeansCalm, MeansNext}
use Rattle.fd_grammar.specs.SoundParts.{s_scalar_factor, s_scalar_factors, s_scalar_terms, s_whole_scalar, placed_from, s_offset}
use Rattle.fd_grammar.specs.SoundParts.{s_subscript, s_indexed, s_after_subscript_name, s_expr_factor, s_after_name, s_expr_factors}
use Rattle.fd_grammar.specs.SoundParts.{s_expr_terms, expr_unsigned, s_expr_lead}
use Rattle.fd_grammar.specs.Fronts.{one_token}
use Rattle.fd_grammar.specs.SoundItems.{s_name, s_same, s_take, s_want, s_operator, s_close, s_form, s_after_cyclic, s_items}
use Rattle.fd_grammar.specs.SoundLines.{program_end_of, begins_of, s_first_inner, s_more_inner, s_body, s_head}

s_begin : (s : State) (p : Program) (t : Token) (ts : List Token) (d : Sort) → Is d t → MeansNext (step_begin s d) p ts
    → Means (Begin s) p (t ∷ ts)
s_begin s p t ts sort.ProgramWord e m = one_token tt t ts (begins no_lines t e) m
s_begin s p t ts sort.LineEnd e m =
    let b = begins_of m.is in
    let is : Begins (t ∷ m.front) tt = subst (λ l. Begins (t ∷ l) tt) (sym b.2) (begins (more_lines t e b.3) b.1 b.4) in
    record { front = t ∷ m.front; back = m.back; value = tt; split = ap (λ l. t ∷ l) m.split; is = is; goes_on = m.goes_on }
s_begin s p t ts _ e m = absurd m

s_ended : (q p : Program) (t : Token) (ts : List Token) (d : Sort) → Is d t → MeansNext (step_ended q d) p ts → Means (Ended q) p (t ∷ ts)
s_ended q p t ts sort.LineEnd e m = (more_lines t e m.0, m.1)
s_ended q p t ts _ e m = absurd m

-- ---- one token

mutual
  s_step : (s : State) (p : Program) (t : Token) (ts : List Token) → MeansNext (step s t.kind (sort_of t.kind) t.at) p ts
      → Means s p (t ∷ ts)
  s_step (ScalarFactor k) p t ts m = s_scalar_factor k p t ts (sort_of t.kind) refl m
  s_step (WholeScalar k) p t ts m = s_whole_scalar k p t ts m
  s_step (PlacedScalar k) p t ts m = let w = s_whole_scalar (k t.at) p t ts m in placed_from t ts w.front w.back w.value
      (λ at x. MeansCalm (k at x) p) w.split w.is w.goes_on
  s_step (ExprFactor index k) p t ts m = s_expr_factor index k p t ts (sort_of t.kind) refl m
  s_step (WholeExpr index k) p t ts m =
      let k' : Expr → Calm = λ x. MoreExprFactors index x (λ y. MoreExprTerms index y k) in
      s_expr_lead index k p t ts (step_expr_factor index k' (sort_of t.kind) t.at) (sign_by (sort_of t.kind)) refl
      (λ n. expr_unsigned index k p (t ∷ ts) (s_expr_factor index k' p t ts (sort_of t.kind) refl n)) m
  s_step (InSubscript index k) p t ts m = s_subscript index k p t ts (is_word index t.kind) (name_of (sort_of t.kind)) refl refl m
  s_step (InIndexed index name at k) p t ts m =
      s_indexed index name at k p t ts (is_word index t.kind) (name_of (sort_of t.kind)) refl refl m
  s_step (AnyName k) p t ts m = s_name k p t ts (name_of (sort_of t.kind)) refl m
  s_step (SameName name s) p t ts m = s_same name s p t ts (is_word name t.kind) refl m
  s_step (Take f s) p t ts m = s_take f s p t ts (is_fixed f (sort_of t.kind)) refl m
  s_step (InForm k) p t ts m = s_form k p t ts (sort_of t.kind) refl m
  s_step (Operator k) p t ts m = s_operator k p t ts (sort_of t.kind) refl m
  s_step (Head ds ss k) p t ts m =
      let next : Option State = step_close EndOfProgram (k ds ss) (sort_of t.kind) in
      s_head ds ss k p t ts (step_body EndOfProgram ss (k ds) t.at next (opening_by (sort_of t.kind))) (sort_of t.kind) refl
      (λ n. s_body EndOfProgram ss (k ds) p t ts next (sort_of t.kind) refl (λ q. s_close EndOfProgram (k ds ss) p t ts
      (sort_of t.kind) refl q) n) m
  s_step (Body c ss k) p t ts m = s_body c ss k p t ts (step_close c (k ss) (sort_of t.kind)) (sort_of t.kind) refl
      (λ n. s_close c (k ss) p t ts (sort_of t.kind) refl n) m
  s_step (Close c s) p t ts m = s_close c s p t ts (sort_of t.kind) refl m
  s_step (FirstInner index k) p t ts m = s_first_inner index k p t ts (sort_of t.kind) refl m
  s_step (MoreInner index ss k) p t ts m = s_more_inner index ss k p t ts (step_close EndOfForall (k ss) (sort_of t.kind))
      (sort_of t.kind) refl (λ n. s_close EndOfForall (k ss) p t ts (sort_of t.kind) refl n) m
  s_step (Begin s) p t ts m = s_begin s p t ts (sort_of t.kind) refl m
  s_step (Ended q) p t ts m = s_ended q p t ts (sort_of t.kind) refl m
  s_step (Then c) p t ts m = s_calm c p t ts m

  s_calm : (c : Calm) (p : Program) (t : Token) (ts : List Token) → MeansNext (step_calm c (sort_of t.kind) t.at) p ts
      → MeansCalm c p (t ∷ ts)
  s_calm (MoreScalarFactors x k) p t ts m = s_scalar_factors x k p t ts (step_calm (k x) (sort_of t.kind) t.at)
      (times_of (sort_of t.kind)) refl (λ n. s_calm (k x) p t ts n) m
  s_calm (MoreScalarTerms x k) p t ts m = s_scalar_terms x k p t ts (step_calm (k x) (sort_of t.kind) t.at) (sign_by (sort_of t.kind))
      refl (λ n. s_calm (k x) p t ts n) m
  s_calm (MoreExprFactors index x k) p t ts m = s_expr_factors index x k p t ts (step_calm (k x) (sort_of t.kind) t.at)
      (times_of (sort_of t.kind)) refl (λ n. s_calm (k x) p t ts n) m
  s_calm (MoreExprTerms index x k) p t ts m = s_expr_terms index x k p t ts (step_calm (k x) (sort_of t.kind) t.at)
      (sign_by (sort_of t.kind)) refl (λ n. s_calm (k x) p t ts n) m
  s_calm (AfterName index name at k) p t ts m = s_after_name index name at k p t ts
      (step_calm (k (expr.Named name at)) (sort_of t.kind) t.at) (opens (sort_of t.kind)) refl
      (λ n. s_calm (k (expr.Named name at)) p t ts n) m
  s_calm (AfterSubscriptName index name at k) p t ts m =
      let x : Scalar = scalar.Named name at in
      let k' : Scalar → Calm = λ y. k (subscript.Scalar y) in
      let next : Option State = step_calm (k (subscript.Scalar x)) (sort_of t.kind) t.at in
      let terms : Option State = step_scalar_terms x k' t.at next (sign_by (sort_of t.kind)) in
      s_after_subscript_name index name at k p t ts (step_scalar_factors x (λ y. MoreScalarTerms y k') t.at terms
      (times_of (sort_of t.kind))) (opens (sort_of t.kind)) refl
      (λ n. s_scalar_factors x (λ y. MoreScalarTerms y k') p t ts terms (times_of (sort_of t.kind)) refl
      (λ q. s_scalar_terms x k' p t ts next (sign_by (sort_of t.kind)) refl (λ r. s_calm (k (subscript.Scalar x)) p t ts r) q) n) m
  s_calm (MoreOffset add k) p t ts m = s_offset add k p t ts (step_calm (k add) (sort_of t.kind) t.at) (sign_by (sort_of t.kind)) refl
      (λ n. s_calm (k add) p t ts n) m
  s_calm (AfterCyclic k) p t ts m = s_after_cyclic k p t ts (step_calm (k form.Cyclic) (sort_of t.kind) t.at) (opens (sort_of t.kind))
      refl (λ n. s_calm (k form.Cyclic) p t ts n) m
  s_calm (MoreItems i xs k) p t ts m = s_items i xs k p t ts (step_want (is_mark (mark_of i) (sort_of t.kind)) (k xs))
      (is_mark mark.Comma (sort_of t.kind)) refl (λ n. s_want (mark_of i) (k xs) p t ts (is_mark (mark_of i) (sort_of t.kind)) refl n) m
  s_calm (Want w s) p t ts m = s_want w s p t ts (is_mark w (sort_of t.kind)) refl m

s_end : (s : State) (p : Program) → ending s ≡ Ok p → Means s p []
s_end (Ended q) p e = (no_lines, cc)
s_end _ p e = cc

s_next : (t : Token) (ts : List Token) (p : Program) (o : Option State) → ((s : State) → run ts s ≡ Ok p → Means s p ts)
    → after t ts (run ts) o ≡ Ok p → MeansNext o p ts
s_next t ts p (Some s) go e = go s e
s_next t ts p None go e = cc

s_run : (ts : List Token) (s : State) (p : Program) → run ts s ≡ Ok p → Means s p ts
s_run [] s p e = s_end s p e
s_run (t ∷ ts) s p e = s_step s p t ts (s_next t ts p (step s t.kind (sort_of t.kind) t.at) (λ s' h. s_run ts s' p h) e)

head_and_body_of : {ts : List Token} {ds : List Declaration} {us : List Statement} → AreHeadAndBody ts ds us
    → (ls hs bs : List Token) × (ss xs : List Statement) × (ts ≡ ls ++ (hs ++ bs)) × (us ≡ ss ++ xs) × AreLines ls × IsHead hs ds ss
    × IsBody bs xs
head_and_body_of (filled {ls = ls} {hs = hs} {bs = bs} {ss = ss} {xs = xs} are h b) = (ls, hs, bs, ss, xs, refl, refl, are, h, b)

-- what the machine answers has these tokens
pub spelled : (ts : List Token) (p : Program) → run ts start ≡ Ok p → IsWrittenAs p ts
spelled ts p e =
    let m = s_run ts start p e in
    let b = begins_of m.is in
    let n = m.goes_on in
    let l = n.goes_on in
    let h = l.goes_on in
    let f = head_and_body_of h.is in
    let end = h.goes_on in
    let w = program_end_of end.is in
    let trail = end.goes_on in
    let tokens : List Token = b.0 ++ b.1 ∷ n.token ∷ l.token ∷ (f.0 ++ (f.1 ++ (f.2 ++ w.0 ∷ end.back))) in
    let split : ts ≡ tokens =
    m.split ∙ ap (λ r. r ++ m.back) b.2 ∙ ap (λ r. (b.0 ++ b.1 ∷ []) ++ r) (n.split
    ∙ ap (λ r. n.token ∷ r) (l.split ∙ ap (λ r. l.token ∷ r) (h.split ∙ ap (λ r. r ++ h.back) f.5
    ∙ ap (λ r. (f.0 ++ (f.1 ++ f.2)) ++ r) (end.split ∙ ap (λ r. r ++ end.back) w.1)))) ∙ simp append_assoc in
    let whole : IsWrittenAs (record { name = n.name; declarations = h.value.0; statements = f.3 ++ f.4 }) tokens =
    program b.3 b.1 n.token l.token w.0 b.4 n.is l.is f.7 f.8 f.9 w.2 trail.0 in
    let joined : IsWrittenAs (record { name = n.name; declarations = h.value.0; statements = h.value.1 }) tokens =
    subst (λ ss. let q : Program = record { name = n.name; declarations = h.value.0; statements = ss } in IsWrittenAs q tokens)
    (sym f.6) whole in
    let named : IsWrittenAs p tokens = subst (λ q. IsWrittenAs q tokens) trail.1 joined in
    subst (λ r. IsWrittenAs p r) (sym split) named
