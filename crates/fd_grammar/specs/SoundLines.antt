-- What the machine reads of statements, bodies and heads, the grammar spells.
use Rattle.std.proofs.Common.{◌≡◌, ℕ, List, [], ◌∷◌, ◌++◌, Option, None, refl, ap, sym, ◌∙◌, subst, append_assoc, append-nil}
use Rattle.fd_lexer.specs.declared.token.Token.{Token}
use Rattle.fd_syntax.specs.declared.scalar.Scalar.{Scalar}
use Rattle.fd_syntax.specs.declared.declaration.Listed.{Listed}
use Rattle.fd_syntax.specs.declared.declaration.Declaration.{Declaration}
use Rattle.fd_syntax.specs.declared.statement.BodyStatement.{BodyStatement}
use Rattle.fd_syntax.specs.declared.statement.BodyStatement.TheVariants as inner
use Rattle.fd_syntax.specs.declared.statement.Statement.{Statement}
use Rattle.fd_syntax.specs.declared.statement.Statement.TheVariants as statement
use Rattle.fd_syntax.specs.declared.program.Program.{Program}
use Rattle.fd_grammar.specs.declared.sort.Sort.{Sort}
use Rattle.fd_grammar.specs.declared.sort.Sort.TheVariants as sort
use Rattle.fd_grammar.specs.declared.mark.Mark.TheVariants as mark
use Rattle.fd_grammar.specs.Machine.{Closer, EndOfProgram, EndOfDo, EndOfForall, State, WholeExpr, Head, Body, Close, FirstInner, MoreInner}
use Rattle.fd_grammar.specs.Machine.{Want, wanted, step_inner, inner_opening_of, step_body, opening_by, step_head, heading_of}
use Rattle.fd_grammar.specs.Machine.{DistributeRest, PrintRest, RangeRest, DoRest, ForallRest, AssignRest, ReduceRest, do_of, loop_of}
use Rattle.fd_grammar.specs.Grammar.{Is, AreLines, no_lines, more_lines, IsDeclaration, IsDistribute, no_head, declared, distributed}
use Rattle.fd_grammar.specs.Grammar.{IsInner, assigned, reduced, AreInner, last_inner, more_inner, IsDoEnd, IsForallEnd, IsRange, range}
use Rattle.fd_grammar.specs.Grammar.{forall_loop, IsBody, no_body, more_body, IsStatement, distribution, printed, do_loop, ranged}
use Rattle.fd_grammar.specs.Meaning.{BehindLines, behind_lines, AreHeadAndBody, filled, AreMoreInner, no_more, some_more, Closes}
use Rattle.fd_grammar.specs.Meaning.{closes_program, closes_do, closes_forall, Begins, begins, Means, MeansNext}
use Rattle.fd_grammar.specs.SoundParts.{s_element}
use Rattle.fd_grammar.specs.Fronts.{Front, Line, no_token, behind_tokens, around}
use Rattle.fd_grammar.specs.SoundItems.{s_parameters, s_integers, s_decompositions, s_reads, s_outputs, s_aligns, s_distribute}

-- ---- statements

-- the parts of a phrase behind line ends
parts_of : {A : Type 0} {phrase : List Token → A → Type 0} {ts : List Token} {x : A} → BehindLines phrase ts x → (ls bs : List Token)
    × (ts ≡ ls ++ bs) × AreLines ls × phrase bs x
parts_of (behind_lines {ls = ls} {ts = bs} a b) = (ls, bs, refl, a, b)

do_end_of : {ts : List Token} {u : Unit {0}} → Closes EndOfDo ts u → IsDoEnd ts
do_end_of (closes_do h) = h

forall_end_of : {ts : List Token} {u : Unit {0}} → Closes EndOfForall ts u → IsForallEnd ts
forall_end_of (closes_forall h) = h

pub program_end_of : {ts : List Token} {u : Unit {0}} → Closes EndOfProgram ts u → (t : Token) × (ts ≡ t ∷ []) × Is sort.EndWord t
program_end_of (closes_program t e) = (t, refl, e)

pub begins_of : {ts : List Token} {u : Unit {0}} → Begins ts u → (ls : List Token) × (t : Token) × (ts ≡ ls ++ t ∷ []) × AreLines ls
    × Is sort.ProgramWord t
begins_of (begins {ls = ls} a t e) = (ls, t, refl, a, e)

-- bounds up to their line end
record Ranged (rest : Listed → Scalar → Scalar → List Token → Type 0) (ts : List Token) : Type 0 where
  front : List Token
  back : List Token
  variable : Listed
  low : Scalar
  high : Scalar
  split : ts ≡ front ++ back
  is : (ls : List Token) → AreLines ls → IsRange (front ++ ls) variable low high
  goes_on : rest variable low high back

s_range : (k : Listed → Scalar → Scalar → State) (p : Program) (ts : List Token) → Means (RangeRest k) p ts
    → Ranged (λ n low high. Means (k n low high) p) ts
s_range k p ts n =
    let e = n.goes_on in
    let low = e.goes_on in
    let c = low.goes_on in
    let high = c.goes_on in
    let l = high.goes_on in
    let v : Listed = record { name = n.name; at = n.token.at } in
    let front : List Token = n.token ∷ e.token ∷ (low.front ++ c.token ∷ (high.front ++ l.token ∷ [])) in
    let split : ts ≡ front ++ l.back =
    n.split ∙ ap (λ q. n.token ∷ q) (e.split
    ∙ ap (λ q. e.token ∷ q) (low.split
    ∙ ap (λ q. low.front ++ q) (c.split ∙ ap (λ q. c.token ∷ q) (high.split ∙ ap (λ q. high.front ++ q) l.split))
    ∙ simp append_assoc)) in
    let is : (ls : List Token) → AreLines ls → IsRange (front ++ ls) v low.value high.value = λ ls are.
    let same : n.token ∷ e.token ∷ (low.front ++ c.token ∷ (high.front ++ l.token ∷ ls)) ≡ front ++ ls = simp append_assoc in
    subst (λ q. IsRange q v low.value high.value) same (range n.token e.token c.token l.token n.is e.is low.is c.is high.is l.is are)
    in
    record { front = front; back = l.back; variable = v; low = low.value; high = high.value; split = split; is = is; goes_on = l.goes_on }

-- a word, bounds, a body behind line ends, and what ends it
looped : {B C : Type 0} {phrase : Listed → List Token → B → Type 0} {end : List Token → Unit {0} → Type 0} {all : List Token → C → Type 0}
    {rest : C → List Token → Type 0} {ts : List Token} (f : Listed → Scalar → Scalar → B → C) (t : Token)
    → Ranged (λ v low high. Front (BehindLines (phrase v)) (λ x. Front end (λ _. rest (f v low high x)))) ts
    → ((rs bs es : List Token) (v : Listed) (low high : Scalar) (x : B) (u : Unit {0}) → IsRange rs v low high → phrase v bs x → end es u
    → all (t ∷ (rs ++ (bs ++ es))) (f v low high x))
    → Front all rest (t ∷ ts)
looped f t r make =
    let body = r.goes_on in
    let end = body.goes_on in
    let b = parts_of body.is in
    record {
      front = t ∷ ((r.front ++ b.0) ++ (b.1 ++ end.front));
      back = end.back;
      value = f r.variable r.low r.high body.value;
      split = ap (λ l. t ∷ l) (r.split ∙ ap (λ l. r.front ++ l) (body.split ∙ ap (λ l. l ++ body.back) b.2
          ∙ ap (λ l. (b.0 ++ b.1) ++ l) end.split) ∙ simp append_assoc);
      is = make (r.front ++ b.0) b.1 end.front r.variable r.low r.high body.value end.value (r.is b.0 b.3) b.4 end.is;
      goes_on = end.goes_on;
    }

-- each of these is a statement and its line end, for a state that goes on behind the statement
s_print : (t : Token) (ts : List Token) (k : List Statement → State) (p : Program) → Is sort.PrintWord t
    → Means (PrintRest t.at (λ s. k (s ∷ []))) p ts → Line IsStatement (λ xs. Means (k xs) p) (t ∷ ts)
s_print t ts k p e n =
    record {
      front = t ∷ n.token ∷ [];
      back = n.back;
      value = statement.Print t.at n.name n.token.at ∷ [];
      split = ap (λ l. t ∷ l) n.split;
      is = printed t n.token e n.is;
      goes_on = n.goes_on;
    }

s_distribution : (t : Token) (ts : List Token) (k : List Statement → State) (p : Program) → Is sort.DistributeWord t
    → Means (DistributeRest t.at (λ s. k (s ∷ []))) p ts → Line IsStatement (λ xs. Means (k xs) p) (t ∷ ts)
s_distribution t ts k p e m = behind_tokens (λ s. s ∷ []) [] (s_distribute t ts (λ s. k (s ∷ [])) p e m) λ us s i. distribution i

s_forall : (t : Token) (ts : List Token) (k : List Statement → State) (p : Program) → Is sort.ForallWord t
    → Means (ForallRest t.at (λ s. k (s ∷ []))) p ts → Line IsStatement (λ xs. Means (k xs) p) (t ∷ ts)
s_forall t ts k p e m =
    looped (λ v low high x. statement.Forall (loop_of t.at v low high x) ∷ []) t
    (s_range (λ v low high. FirstInner v.name (λ x. wanted mark.Line (k (statement.Forall (loop_of t.at v low high x) ∷ [])))) p ts m)
    λ rs bs es v low high x u r i g. ranged (forall_loop t e r i (forall_end_of g))

s_do : (t : Token) (ts : List Token) (k : List Statement → State) (p : Program) → Is sort.DoWord t → Means (DoRest t.at k) p ts
    → Line IsStatement (λ xs. Means (k xs) p) (t ∷ ts)
s_do t ts k p e m =
    looped (do_of t.at) t (s_range (λ v low high. Body EndOfDo [] (λ x. wanted mark.Line (k (do_of t.at v low high x)))) p ts m)
    λ rs bs es v low high x u r i g. do_loop t e r i (do_end_of g)

s_assign : (index name : List ℕ) (t : Token) (ts : List Token) (k : BodyStatement → State) (p : Program) → Is (sort.Named name) t
    → Means (AssignRest index name t.at k) p ts → Line (IsInner index) (λ s. Means (k s) p) (t ∷ ts)
s_assign index name t ts k p e m =
    let el = s_element index t m.token name (λ z. wanted mark.Equals (WholeExpr index (λ x. Want mark.Line (k (inner.Assign z x))))) p
    m.back e m.is m.goes_on in
    subst (λ l. Line (IsInner index) (λ s. Means (k s) p) (t ∷ l)) (sym m.split)
    (around inner.Assign (λ z x us h. h) el λ us vs z x q i g j. assigned q i g j)

s_reduce : (index : List ℕ) (t : Token) (ts : List Token) (k : BodyStatement → State) (p : Program) → Is sort.ReduceWord t
    → Means (ReduceRest index k) p ts → Line (IsInner index) (λ s. Means (k s) p) (t ∷ ts)
s_reduce index t ts k p e o =
    let w = o.goes_on in
    let c = w.5 in
    let n = c.goes_on in
    let on = n.goes_on in
    let el = s_element index n.token on.token n.name
    (λ z. wanted mark.Comma (WholeExpr index (λ x. Want mark.Close (wanted mark.Line (k (inner.Reduce w.1 z x)))))) p on.back n.is
    on.is on.goes_on in
    let d = el.goes_on in
    let x = d.goes_on in
    let z = x.goes_on in
    let front : List Token = t ∷ o.token ∷ w.0 ∷ c.token ∷ (el.front ++ d.token ∷ (x.front ++ z.token ∷ [])) in
    let tail : el.back ≡ d.token ∷ (x.front ++ z.token ∷ z.back) =
    d.split ∙ ap (λ q. d.token ∷ q) (x.split ∙ ap (λ q. x.front ++ q) z.split) in
    let named : c.back ≡ el.front ++ el.back = n.split ∙ ap (λ q. n.token ∷ q) on.split ∙ el.split in
    let split : t ∷ ts ≡ front ++ z.back =
    ap (λ q. t ∷ q) (o.split ∙ ap (λ q. o.token ∷ q) (w.3
    ∙ ap (λ q. w.0 ∷ q) (c.split ∙ ap (λ q. c.token ∷ q) (named ∙ ap (λ q. el.front ++ q) tail))) ∙ simp append_assoc) in
    record {
      front = front;
      back = z.back;
      value = inner.Reduce w.1 el.value x.value;
      split = split;
      is = reduced t o.token w.0 c.token d.token z.token e o.is w.4 c.is el.is d.is x.is z.is;
      goes_on = z.goes_on;
    }

-- ---- lines of a FORALL's body

one_more_line : {A : Type 0} {phrase : List Token → A → Type 0} {vs : List Token} {x : A} → (t : Token) → Is sort.LineEnd t
    → BehindLines phrase vs x → BehindLines phrase (t ∷ vs) x
one_more_line t e (behind_lines are b) = behind_lines (more_lines t e are) b

also_inner : {index : List ℕ} {us vs : List Token} {s : BodyStatement} {ss : List BodyStatement} → IsInner index us s → (l : Token)
    → Is sort.LineEnd l → AreMoreInner index vs ss → AreInner index (us ++ l ∷ vs) (s ∷ ss)
also_inner i l e (no_more are) = last_inner i l e are
also_inner i l e (some_more are b) = more_inner i l e are b

also_more_line : {index : List ℕ} {vs : List Token} {ss : List BodyStatement} → (t : Token) → Is sort.LineEnd t → AreMoreInner index vs ss
    → AreMoreInner index (t ∷ vs) ss
also_more_line t e (no_more are) = no_more (more_lines t e are)
also_more_line t e (some_more are b) = some_more (more_lines t e are) b

behind_first : (index : List ℕ) (k : List BodyStatement → State) (p : Program) (ts : List Token)
    → Line (IsInner index) (λ s. Means (MoreInner index (s ∷ []) k) p) ts → Means (FirstInner index k) p ts
behind_first index k p ts m = around (λ s xs. s ∷ xs) (λ s xs us h. h) m
    λ us vs s xs l i e j. behind_lines no_lines (also_inner i l e j)

pub s_first_inner : (index : List ℕ) (k : List BodyStatement → State) (p : Program) (t : Token) (ts : List Token) (c : Sort) → Is c t
    → MeansNext (step_inner index (FirstInner index k) (λ s. MoreInner index (s ∷ []) k) t.at None (inner_opening_of c)) p ts
    → Means (FirstInner index k) p (t ∷ ts)
s_first_inner index k p t ts sort.LineEnd e m = behind_tokens (λ xs. xs) (t ∷ []) m λ us xs i. one_more_line t e i
s_first_inner index k p t ts (sort.Named name) e m =
    behind_first index k p (t ∷ ts) (s_assign index name t ts (λ s. MoreInner index (s ∷ []) k) p e m)
s_first_inner index k p t ts sort.ReduceWord e m =
    behind_first index k p (t ∷ ts) (s_reduce index t ts (λ s. MoreInner index (s ∷ []) k) p e m)
s_first_inner index k p t ts _ e m = absurd m

behind_more : (index : List ℕ) (ss : List BodyStatement) (k : List BodyStatement → State) (p : Program) (ts : List Token)
    → Line (IsInner index) (λ s. Means (MoreInner index (ss ++ s ∷ []) k) p) ts → Means (MoreInner index ss k) p ts
behind_more index ss k p ts m = around (λ s xs. s ∷ xs)
    (λ s xs us. subst (λ q. Front (Closes EndOfForall) (λ _. Means (k q) p) us) (append_assoc ss (s ∷ []) xs)) m
    λ us vs s xs l i e j. some_more no_lines (also_inner i l e j)

pub s_more_inner : (index : List ℕ) (ss : List BodyStatement) (k : List BodyStatement → State) (p : Program) (t : Token) (ts : List Token)
    (next : Option State) (c : Sort) → Is c t → (MeansNext next p ts → Means (Close EndOfForall (k ss)) p (t ∷ ts))
    → MeansNext (step_inner index (MoreInner index ss k) (λ s. MoreInner index (ss ++ s ∷ []) k) t.at next (inner_opening_of c)) p ts
    → Means (MoreInner index ss k) p (t ∷ ts)
s_more_inner index ss k p t ts next sort.LineEnd e go m = behind_tokens (λ xs. xs) (t ∷ []) m λ us xs i. also_more_line t e i
s_more_inner index ss k p t ts next (sort.Named name) e go m =
    behind_more index ss k p (t ∷ ts) (s_assign index name t ts (λ s. MoreInner index (ss ++ s ∷ []) k) p e m)
s_more_inner index ss k p t ts next sort.ReduceWord e go m =
    behind_more index ss k p (t ∷ ts) (s_reduce index t ts (λ s. MoreInner index (ss ++ s ∷ []) k) p e m)
s_more_inner index ss k p t ts next _ e go m = no_token [] (t ∷ ts) (no_more no_lines)
    (subst (λ q. Front (Closes EndOfForall) (λ _. Means (k q) p) (t ∷ ts)) (sym (append-nil ss)) (go m))

-- ---- bodies and heads

also_statement : {us vs : List Token} {xs ys : List Statement} → IsStatement us xs → (l : Token) → Is sort.LineEnd l
    → BehindLines IsBody vs ys → BehindLines IsBody (us ++ l ∷ vs) (xs ++ ys)
also_statement i l e (behind_lines ls b) = behind_lines no_lines (more_body i l e ls b)

behind_statement : (c : Closer) (ss : List Statement) (k : List Statement → State) (p : Program) (ts : List Token)
    → Line IsStatement (λ xs. Means (Body c (ss ++ xs) k) p) ts → Means (Body c ss k) p ts
behind_statement c ss k p ts m = around (λ xs ys. xs ++ ys)
    (λ xs ys us. subst (λ q. Front (Closes c) (λ _. Means (k q) p) us) (append_assoc ss xs ys)) m
    λ us vs xs ys l i e j. also_statement i l e j

pub s_body : (c : Closer) (ss : List Statement) (k : List Statement → State) (p : Program) (t : Token) (ts : List Token)
    (next : Option State) (d : Sort) → Is d t → (MeansNext next p ts → Means (Close c (k ss)) p (t ∷ ts))
    → MeansNext (step_body c ss k t.at next (opening_by d)) p ts → Means (Body c ss k) p (t ∷ ts)
s_body c ss k p t ts next sort.LineEnd e go m = behind_tokens (λ xs. xs) (t ∷ []) m λ us xs i. one_more_line t e i
s_body c ss k p t ts next sort.DistributeWord e go m =
    behind_statement c ss k p (t ∷ ts) (s_distribution t ts (λ xs. Body c (ss ++ xs) k) p e m)
s_body c ss k p t ts next sort.PrintWord e go m = behind_statement c ss k p (t ∷ ts) (s_print t ts (λ xs. Body c (ss ++ xs) k) p e m)
s_body c ss k p t ts next sort.DoWord e go m = behind_statement c ss k p (t ∷ ts) (s_do t ts (λ xs. Body c (ss ++ xs) k) p e m)
s_body c ss k p t ts next sort.ForallWord e go m = behind_statement c ss k p (t ∷ ts) (s_forall t ts (λ xs. Body c (ss ++ xs) k) p e m)
s_body c ss k p t ts next _ e go m = no_token [] (t ∷ ts) (behind_lines no_lines no_body)
    (subst (λ q. Front (Closes c) (λ _. Means (k q) p) (t ∷ ts)) (sym (append-nil ss)) (go m))

also_declared : {us vs : List Token} {d : Declaration} {ds : List Declaration} {ss : List Statement} → IsDeclaration us d → (l : Token)
    → Is sort.LineEnd l → AreHeadAndBody vs ds ss → AreHeadAndBody (us ++ l ∷ vs) (d ∷ ds) ss
also_declared {us} {d = d} i l e (filled {ls = ls} {hs = hs} {bs = bs} {ds = ds} {ss = ss} {xs = xs} are h b) =
    let same : (us ++ l ∷ (ls ++ hs)) ++ bs ≡ us ++ l ∷ (ls ++ (hs ++ bs)) = simp append_assoc in
    subst (λ q. AreHeadAndBody q (d ∷ ds) (ss ++ xs)) same (filled no_lines (declared i l e are h) b)

also_distributed : {us vs : List Token} {s : Statement} {ds : List Declaration} {ss : List Statement} → IsDistribute us s → (l : Token)
    → Is sort.LineEnd l → AreHeadAndBody vs ds ss → AreHeadAndBody (us ++ l ∷ vs) ds (s ∷ ss)
also_distributed {us} {s = s} i l e (filled {ls = ls} {hs = hs} {bs = bs} {ds = ds} {ss = ss} {xs = xs} are h b) =
    let same : (us ++ l ∷ (ls ++ hs)) ++ bs ≡ us ++ l ∷ (ls ++ (hs ++ bs)) = simp append_assoc in
    subst (λ q. AreHeadAndBody q ds (s ∷ (ss ++ xs))) same (filled no_lines (distributed i l e are h) b)

also_head_line : {vs : List Token} {ds : List Declaration} {ss : List Statement} → (t : Token) → Is sort.LineEnd t
    → AreHeadAndBody vs ds ss → AreHeadAndBody (t ∷ vs) ds ss
also_head_line t e (filled are h b) = filled (more_lines t e are) h b

only_body : {ts : List Token} {xs : List Statement} → BehindLines IsBody ts xs → AreHeadAndBody ts [] xs
only_body (behind_lines are b) = filled are no_head b

and_declared : {ts : List Token} (ds : List Declaration) (ss : List Statement) (k : List Declaration → List Statement → State)
    (p : Program) → Line IsDeclaration (λ d. Means (Head (ds ++ d ∷ []) ss k) p) ts → Means (Head ds ss k) p ts
and_declared ds ss k p m = around (λ (d : Declaration) (x : List Declaration × List Statement). (d ∷ x.0, x.1)) (λ d x us.
    subst (λ q. Front (Closes EndOfProgram) (λ _. Means (k q (ss ++ x.1)) p) us) (append_assoc ds (d ∷ []) x.0)) m
    λ us vs d x l i e j. also_declared i l e j

behind_distribute : (ds : List Declaration) (ss : List Statement) (k : List Declaration → List Statement → State) (p : Program)
    (ts : List Token) → Line IsDistribute (λ s. Means (Head ds (ss ++ s ∷ []) k) p) ts → Means (Head ds ss k) p ts
behind_distribute ds ss k p ts m = around (λ (s : Statement) (x : List Declaration × List Statement). (x.0, s ∷ x.1)) (λ s x us.
    subst (λ q. Front (Closes EndOfProgram) (λ _. Means (k (ds ++ x.0) q) p) us) (append_assoc ss (s ∷ []) x.1)) m
    λ us vs s x l i e j. also_distributed i l e j

behind_head : (ds : List Declaration) (ss : List Statement) (k : List Declaration → List Statement → State) (p : Program)
    (ts : List Token) → Means (Body EndOfProgram ss (k ds)) p ts → Means (Head ds ss k) p ts
behind_head ds ss k p ts m =
    record {
      front = m.front;
      back = m.back;
      value = ([], m.value);
      split = m.split;
      is = only_body m.is;
      goes_on = subst (λ q. Front (Closes EndOfProgram) (λ _. Means (k q (ss ++ m.value)) p) m.back) (sym (append-nil ds)) m.goes_on;
    }

pub s_head : (ds : List Declaration) (ss : List Statement) (k : List Declaration → List Statement → State) (p : Program) (t : Token)
    (ts : List Token) (next : Option State) (c : Sort) → Is c t → (MeansNext next p ts → Means (Body EndOfProgram ss (k ds)) p (t ∷ ts))
    → MeansNext (step_head ds ss k t.at next (heading_of c)) p ts → Means (Head ds ss k) p (t ∷ ts)
s_head ds ss k p t ts next sort.LineEnd e go m = behind_tokens (λ x. x) (t ∷ []) m λ us x i. also_head_line t e i
s_head ds ss k p t ts next sort.DistributeWord e go m =
    behind_distribute ds ss k p (t ∷ ts) (s_distribute t ts (λ s. Head ds (ss ++ s ∷ []) k) p e m)
s_head ds ss k p t ts _ sort.ParameterWord e _ m = and_declared ds ss k p (s_parameters t ts (λ d. Head (ds ++ d ∷ []) ss k) p e m)
s_head ds ss k p t ts _ sort.IntegerWord e _ m = and_declared ds ss k p (s_integers t ts (λ d. Head (ds ++ d ∷ []) ss k) p e m)
s_head ds ss k p t ts _ sort.DecompositionWord e _ m = and_declared ds ss k p (s_decompositions t ts (λ d. Head (ds ++ d ∷ []) ss k) p e m)
s_head ds ss k p t ts _ sort.AlignWord e _ m = and_declared ds ss k p (s_aligns t ts (λ d. Head (ds ++ d ∷ []) ss k) p e m)
s_head ds ss k p t ts _ sort.ReadWord e _ m = and_declared ds ss k p (s_reads t ts (λ d. Head (ds ++ d ∷ []) ss k) p e m)
s_head ds ss k p t ts _ sort.OutputWord e _ m = and_declared ds ss k p (s_outputs t ts (λ d. Head (ds ++ d ∷ []) ss k) p e m)
s_head ds ss k p t ts next _ e go m = behind_head ds ss k p (t ∷ ts) (go m)
