-- What the machine reads of single tokens, lists and declarations, the grammar spells.
use Rattle.std.proofs.Common.{◌≡◌, ℕ, Bool, true, false, List, [], ◌∷◌, ◌++◌, Option, Some, None, refl, ap, sym, ◌∙◌, subst, append_assoc}
use Rattle.std.proofs.Common.{bytes_eq, unwrap_or}
use Rattle.std.specs.Prelude.{if◌then◌else◌}
use Rattle.fd_words.specs.declared.combine.Combine.{Combine}
use Rattle.fd_words.specs.declared.combine.Combine.TheVariants.{Add, Min, Max}
use Rattle.fd_lexer.specs.declared.token.TokenKind.{TokenKind}
use Rattle.fd_lexer.specs.declared.token.TokenKind.TheVariants as kind
use Rattle.fd_lexer.specs.declared.token.Token.{Token}
use Rattle.fd_syntax.specs.declared.declaration.Listed.{Listed}
use Rattle.fd_syntax.specs.declared.declaration.Declaration.{Declaration}
use Rattle.fd_syntax.specs.declared.declaration.Declaration.TheVariants as declaration
use Rattle.fd_syntax.specs.declared.statement.Form.{Form}
use Rattle.fd_syntax.specs.declared.statement.Form.TheVariants as form
use Rattle.fd_syntax.specs.declared.statement.Statement.{Statement}
use Rattle.fd_syntax.specs.declared.statement.Statement.TheVariants as statement
use Rattle.fd_syntax.specs.declared.program.Program.{Program}
use Rattle.fd_grammar.specs.declared.sort.Sort.{Sort}
use Rattle.fd_grammar.specs.declared.sort.Sort.TheVariants as sort
use Rattle.fd_grammar.specs.declared.mark.Mark.{Mark}
use Rattle.fd_grammar.specs.declared.mark.Mark.TheVariants as mark
use Rattle.fd_grammar.specs.declared.mark.Fixed.{Fixed}
use Rattle.fd_grammar.specs.Sorts.{sort_of, sort_of_word, sort_in, reserved, is_word, name_of, opens}
use Rattle.fd_grammar.specs.Machine.{Closer, EndOfProgram, EndOfDo, EndOfForall, Item, ParameterItem, SizedItem, ListedItem, AlignedItem}
use Rattle.fd_grammar.specs.Machine.{Value, mark_of, State, Calm, AnyName, SameName, Take, InForm, Operator, Close, AfterCyclic, MoreItems}
use Rattle.fd_grammar.specs.Machine.{Want, wanted, step_want, step_name, step_items, step_form, step_after_cyclic, step_operator}
use Rattle.fd_grammar.specs.Machine.{step_close, is_mark, is_fixed, ParameterRest, IntegerRest, DecompositionRest, ReadRest, OutputRest}
use Rattle.fd_grammar.specs.Machine.{parameter_of, sized_of, InItem, InItems, AlignRest, DistributeRest}
use Rattle.fd_grammar.specs.Grammar.{Is, IsName, AreListed, one_item, more_items, no_offset, parameter, sized, listed, IsAligned, aligned}
use Rattle.fd_grammar.specs.Grammar.{IsDeclaration, parameters, integers, decompositions, aligns, reads, outputs, block, cyclic}
use Rattle.fd_grammar.specs.Grammar.{block_cyclic, mapped, IsDistribute, distribute, adds, takes_min, takes_max, end_do_word, end_do}
use Rattle.fd_grammar.specs.Grammar.{end_forall_word, end_forall}
use Rattle.fd_grammar.specs.CompleteExpr.{word_again}
use Rattle.fd_grammar.specs.Complete.{IsItem}
use Rattle.fd_grammar.specs.Meaning.{closes_program, closes_do, closes_forall, Means, MeansCalm, MeansNext}
use Rattle.fd_grammar.specs.TokenTests.{mark_sort, mark_is, fixed_is, opens_is, name_is}
use Rattle.fd_grammar.specs.Fronts.{Front, First, Line, stays, joined, no_token, one_token, two_tokens, behind_tokens, closed_by}
use Rattle.fd_grammar.specs.Fronts.{begun_with, goes_on_with}

-- ---- single tokens

pub s_name : (k : Listed → State) (p : Program) (t : Token) (ts : List Token) (o : Option (List ℕ)) → name_of (sort_of t.kind) ≡ o
    → MeansNext (step_name k t.at o) p ts → Means (AnyName k) p (t ∷ ts)
s_name k p t ts (Some name) e m =
    record { token = t; name = name; back = ts; split = refl; is = name_is (sort_of t.kind) name e; goes_on = m }
s_name k p t ts None e m = absurd m

pub s_same : (name : List ℕ) (s : State) (p : Program) (t : Token) (ts : List Token) (b : Bool) → is_word name t.kind ≡ b
    → MeansNext (step_want b s) p ts → Means (SameName name s) p (t ∷ ts)
s_same name s p t ts true e m = record { token = t; back = ts; split = refl; is = word_again name t.kind e; goes_on = m }
s_same name s p t ts false e m = absurd m

pub s_take : (f : Fixed) (s : State) (p : Program) (t : Token) (ts : List Token) (b : Bool) → is_fixed f (sort_of t.kind) ≡ b
    → MeansNext (step_want b s) p ts → Means (Take f s) p (t ∷ ts)
s_take f s p t ts true e m = record { token = t; back = ts; split = refl; is = fixed_is f (sort_of t.kind) e; goes_on = m }
s_take f s p t ts false e m = absurd m

pub s_want : (w : Mark) (s : State) (p : Program) (t : Token) (ts : List Token) (b : Bool) → is_mark w (sort_of t.kind) ≡ b
    → MeansNext (step_want b s) p ts → MeansCalm (Want w s) p (t ∷ ts)
s_want w s p t ts true e m = record { token = t; back = ts; split = refl; is = mark_is w (sort_of t.kind) e; goes_on = m }
s_want w s p t ts false e m = absurd m

pub s_operator : (k : Combine → State) (p : Program) (t : Token) (ts : List Token) (c : Sort) → Is c t → MeansNext (step_operator k c) p ts
    → Means (Operator k) p (t ∷ ts)
s_operator k p t ts sort.AddWord e m = (t, Add, ts, refl, adds t e, m)
s_operator k p t ts sort.MinWord e m = (t, Min, ts, refl, takes_min t e, m)
s_operator k p t ts sort.MaxWord e m = (t, Max, ts, refl, takes_max t e, m)
s_operator k p t ts _ e m = absurd m

pub s_close : (c : Closer) (s : State) (p : Program) (t : Token) (ts : List Token) (d : Sort) → Is d t → MeansNext (step_close c s d) p ts
    → Means (Close c s) p (t ∷ ts)
s_close EndOfProgram s p t ts sort.EndWord e m = one_token tt t ts (closes_program t e) m
s_close EndOfDo s p t ts sort.EndDoWord e m = one_token tt t ts (closes_do (end_do_word t e)) m
s_close EndOfDo s p t ts sort.EndWord e m = two_tokens tt t m λ w i. closes_do (end_do t w e i)
s_close EndOfForall s p t ts sort.EndForallWord e m = one_token tt t ts (closes_forall (end_forall_word t e)) m
s_close EndOfForall s p t ts sort.EndWord e m = two_tokens tt t m λ w i. closes_forall (end_forall t w e i)
s_close _ s p t ts _ e m = absurd m

pub s_form : (k : Form → Calm) (p : Program) (t : Token) (ts : List Token) (c : Sort) → Is c t → MeansNext (step_form k c t.at) p ts
    → Means (InForm k) p (t ∷ ts)
s_form k p t ts sort.BlockWord e m = one_token form.Block t ts (block t e) m
s_form k p t ts sort.CyclicWord e m = behind_tokens (λ f. f) (t ∷ []) m λ us f i. i t e
s_form k p t ts (sort.Named name) e m = one_token (form.Map name t.at) t ts (mapped t e) m
s_form k p t ts _ e m = absurd m

pub s_after_cyclic : (k : Form → Calm) (p : Program) (t : Token) (ts : List Token) (next : Option State) (b : Bool)
    → opens (sort_of t.kind) ≡ b → (MeansNext next p ts → MeansCalm (k form.Cyclic) p (t ∷ ts))
    → MeansNext (step_after_cyclic k next b) p ts → MeansCalm (AfterCyclic k) p (t ∷ ts)
s_after_cyclic k p t ts next true h go m =
    let w = m.goes_on in
    record {
      front = t ∷ m.token ∷ (m.front ++ w.token ∷ []);
      back = w.back;
      value = form.BlockCyclic m.value m.token.at;
      split = ap (λ l. t ∷ l) (m.split ∙ joined (m.token ∷ []) _ m.front m.back (w.token ∷ []) w.back refl w.split);
      is = λ u f. block_cyclic u t m.token w.token f (opens_is (sort_of t.kind) h) m.is w.is;
      goes_on = w.goes_on;
    }
s_after_cyclic k p t ts next false h go m = no_token form.Cyclic (t ∷ ts) (λ u f. cyclic u f) (go m)

-- ---- lists and declarations

pub s_in_item : (i : Item) (k : Value i → Calm) (p : Program) (ts : List Token) → Means (InItem i k) p ts
    → Front (IsItem i) (λ x. MeansCalm (k x) p) ts
s_in_item ParameterItem k p ts n =
    let e = n.goes_on in
    let x = e.goes_on in
    record {
      front = n.token ∷ e.token ∷ x.front;
      back = x.back;
      value = parameter_of (record { name = n.name; at = n.token.at }) x.value;
      split = n.split ∙ ap (λ l. n.token ∷ l) (e.split ∙ ap (λ l. e.token ∷ l) x.split);
      is = parameter n.token e.token n.is e.is x.is;
      goes_on = x.goes_on;
    }
s_in_item SizedItem k p ts n =
    let o = n.goes_on in
    let f = o.goes_on in
    let c = f.goes_on in
    record {
      front = n.token ∷ o.token ∷ f.token ∷ (f.front ++ c.token ∷ []);
      back = c.back;
      value = sized_of (record { name = n.name; at = n.token.at }) f.token.at f.value;
      split = n.split ∙ ap (λ l. n.token ∷ l) (o.split
          ∙ ap (λ l. o.token ∷ l) (f.split ∙ joined (f.token ∷ []) _ f.front f.back (c.token ∷ []) c.back refl c.split));
      is = sized n.token o.token f.token c.token n.is o.is f.is c.is;
      goes_on = c.goes_on;
    }
s_in_item ListedItem k p ts n = record {
  front = n.token ∷ [];
  back = n.back;
  value = record { name = n.name; at = n.token.at };
  split = n.split;
  is = listed n.token n.is;
  goes_on = n.goes_on;
}
s_in_item (AlignedItem dummy) k p ts n =
    let o = n.goes_on in
    let d = o.goes_on in
    let c = d.goes_on in
    record {
      front = n.token ∷ o.token ∷ d.token ∷ c.token ∷ [];
      back = c.back;
      value = record { name = n.name; at = n.token.at };
      split = n.split ∙ ap (λ l. n.token ∷ l) (o.split ∙ ap (λ l. o.token ∷ l) (d.split ∙ ap (λ l. d.token ∷ l) c.split));
      is = aligned n.token o.token d.token c.token n.is o.is d.is c.is;
      goes_on = c.goes_on;
    }

pub s_items : (i : Item) (xs : List (Value i)) (k : List (Value i) → State) (p : Program) (t : Token) (ts : List Token)
    (next : Option State) (b : Bool) → is_mark mark.Comma (sort_of t.kind) ≡ b
    → (MeansNext next p ts → First (Is (mark_sort (mark_of i))) (Means (k xs) p) (t ∷ ts)) → MeansNext (step_items i xs k next b) p ts
    → MeansCalm (MoreItems i xs k) p (t ∷ ts)
s_items i xs k p t ts next true h go m =
    goes_on_with (AreListed (IsItem i)) (λ y. xs ++ y ∷ []) xs t (s_in_item i (λ y. MoreItems i (xs ++ y ∷ []) k) p ts m)
    λ before us y a b. more_items a t (mark_is mark.Comma (sort_of t.kind) h) b
s_items i xs k p t ts next false h go m = no_token xs (t ∷ ts) (stays (AreListed (IsItem i)) xs) (go m)

pub s_in_items : (i : Item) (k : List (Value i) → State) (p : Program) (ts : List Token) → Means (InItems i k) p ts
    → Front (AreListed (IsItem i)) (λ ys. First (Is (mark_sort (mark_of i))) (Means (k ys) p)) ts
s_in_items i k p ts m = begun_with (AreListed (IsItem i)) (λ y. y ∷ []) [] (s_in_item i (λ y. MoreItems i (y ∷ []) k) p ts m)
    λ us x a. one_item a

-- no reserved word is a name
abbrev pub Nameless : List (List ℕ × Sort) → Type 0
Nameless [] = Unit {0}
Nameless (r ∷ rs) = (name_of r.1 ≡ None) × Nameless rs

pub nameless_reserved : Nameless reserved
nameless_reserved = (
  refl,
  (
    refl,
    (
      refl,
      (
        refl,
        (
          refl,
          (
            refl,
            (
              refl,
              (refl, (refl, (refl, (refl, (refl, (refl, (refl, (refl, (refl, (refl, (refl, (refl, (refl, (refl, tt)))))))))))))),
            ),
          ),
        ),
      ),
    ),
  ),
)

-- what the table of reserved words gives is no name
no_name_step : (r : Sort) (o : Option Sort) (b : Bool) (word name : List ℕ) (s : Sort) → name_of r ≡ None → (o ≡ Some s → word ≡ name)
    → name_of s ≡ Some name → (if b then Some r else o) ≡ Some s → word ≡ name
no_name_step r o true word name s n go g e = let f : r ≡ s = cc in let q : name_of s ≡ None = sym (ap name_of f) ∙ n in cc
no_name_step r o false word name s n go g e = go e

no_name_in : (rs : List (List ℕ × Sort)) → Nameless rs → (word name : List ℕ) (s : Sort) → name_of s ≡ Some name
    → sort_in rs word ≡ Some s → word ≡ name
no_name_in [] h word name s g e = cc
no_name_in (r ∷ rs) h word name s g e = no_name_step r.1 (sort_in rs word) (bytes_eq r.0 word) word name s h.0
    (λ q. no_name_in rs h.1 word name s g q) g e

named_of : (word name : List ℕ) (o : Option Sort) → sort_in reserved word ≡ o → name_of (unwrap_or o (sort.Named word)) ≡ Some name
    → word ≡ name
named_of word name None e g = cc
named_of word name (Some s) e g = no_name_in reserved nameless_reserved word name s g e

named_word : (word name : List ℕ) → sort_of_word word ≡ sort.Named name → word ≡ name
unfolding sort_of_word
named_word word name e = named_of word name (sort_in reserved word) refl (ap name_of e)

-- a token that is a name is that word, and the word is a name
pub named_again : (k : TokenKind) (name : List ℕ) → sort_of k ≡ sort.Named name → k ≡ kind.Word name
unfolding sort_of
named_again (kind.Word word) name e = ap kind.Word (named_word word name e)
named_again _ name e = cc

pub is_name_word : (t : Token) (name : List ℕ) → Is (sort.Named name) t → IsName name
is_name_word t name e = subst (λ k. sort_of k ≡ sort.Named name) (named_again t.kind name e) e

-- the line behind a word of the head
pub s_parameters : (t : Token) (ts : List Token) (k : Declaration → State) (p : Program) → Is sort.ParameterWord t
    → Means (ParameterRest k) p ts → Line IsDeclaration (λ d. Means (k d) p) (t ∷ ts)
s_parameters t ts k p e o =
    let m = s_in_items ParameterItem (λ xs. wanted mark.Line (k (declaration.Parameter xs))) p o.back o.goes_on in
    subst (λ l. Line IsDeclaration (λ d. Means (k d) p) (t ∷ l)) (sym o.split) (closed_by declaration.Parameter (t ∷ o.token ∷ []) m
    λ us xs c a g. parameters t o.token c e o.is a g)

pub s_integers : (t : Token) (ts : List Token) (k : Declaration → State) (p : Program) → Is sort.IntegerWord t → Means (IntegerRest k) p ts
    → Line IsDeclaration (λ d. Means (k d) p) (t ∷ ts)
s_integers t ts k p e s =
    let n = s.goes_on in
    let m = s_in_items SizedItem (λ xs. k (declaration.Integer xs)) p n.back n.goes_on in
    subst (λ l. Line IsDeclaration (λ d. Means (k d) p) (t ∷ l)) (sym (s.split ∙ ap (λ l. s.token ∷ l) n.split))
    (behind_tokens declaration.Integer (t ∷ s.token ∷ n.token ∷ []) m λ us xs a. integers t s.token n.token e s.is n.is a)

pub s_decompositions : (t : Token) (ts : List Token) (k : Declaration → State) (p : Program) → Is sort.DecompositionWord t
    → Means (DecompositionRest k) p ts → Line IsDeclaration (λ d. Means (k d) p) (t ∷ ts)
s_decompositions t ts k p e m = behind_tokens declaration.Decomposition (t ∷ [])
    (s_in_items SizedItem (λ xs. k (declaration.Decomposition xs)) p ts m) λ us xs a. decompositions t e a

pub s_reads : (t : Token) (ts : List Token) (k : Declaration → State) (p : Program) → Is sort.ReadWord t → Means (ReadRest k) p ts
    → Line IsDeclaration (λ d. Means (k d) p) (t ∷ ts)
s_reads t ts k p e m = behind_tokens declaration.Read (t ∷ []) (s_in_items ListedItem (λ xs. k (declaration.Read xs)) p ts m)
    λ us xs a. reads t e a

pub s_outputs : (t : Token) (ts : List Token) (k : Declaration → State) (p : Program) → Is sort.OutputWord t → Means (OutputRest k) p ts
    → Line IsDeclaration (λ d. Means (k d) p) (t ∷ ts)
s_outputs t ts k p e m = behind_tokens declaration.Output (t ∷ []) (s_in_items ListedItem (λ xs. k (declaration.Output xs)) p ts m)
    λ us xs a. outputs t e a

pub s_aligns : (a : Token) (ts : List Token) (k : Declaration → State) (p : Program) → Is sort.AlignWord a → Means (AlignRest k) p ts
    → Line IsDeclaration (λ d. Means (k d) p) (a ∷ ts)
s_aligns a ts k p e n =
    let o = n.goes_on in
    let d = o.goes_on in
    let c = d.goes_on in
    let m = c.goes_on in
    let w = m.goes_on in
    let t = w.goes_on in
    let q = t.goes_on in
    let i = q.goes_on in
    let off = i.goes_on in
    let z = off.goes_on in
    let first : IsAligned d.name (n.token ∷ o.token ∷ d.token ∷ c.token ∷ []) (record { name = n.name; at = n.token.at }) =
    aligned n.token o.token d.token c.token n.is o.is (named_again d.token.kind d.name d.is) c.is in
    let us : List Token = (n.token ∷ o.token ∷ d.token ∷ c.token ∷ []) ++ m.front in
    let all : AreListed (IsAligned d.name) us m.value = m.is (n.token ∷ o.token ∷ d.token ∷ c.token ∷ []) (one_item first) in
    let tail : m.back ≡ w.token ∷ t.token ∷ q.token ∷ i.token ∷ (off.front ++ z.token ∷ z.back) =
    w.split ∙ ap (λ r. w.token ∷ r) (t.split
    ∙ ap (λ r. t.token ∷ r) (q.split
    ∙ ap (λ r. q.token ∷ r) (i.split
    ∙ ap (λ r. i.token ∷ r) (off.split ∙ ap (λ r. off.front ++ r) z.split)))) in
    let start_of : ts ≡ n.token ∷ o.token ∷ d.token ∷ c.token ∷ (m.front ++ m.back) =
    n.split ∙ ap (λ r. n.token ∷ r) (o.split
    ∙ ap (λ r. o.token ∷ r) (d.split ∙ ap (λ r. d.token ∷ r) (c.split ∙ ap (λ r. c.token ∷ r) m.split))) in
    let whole : a ∷ ts ≡ (a ∷ (us ++ w.token ∷ t.token ∷ q.token ∷ i.token ∷ (off.front ++ z.token ∷ []))) ++ z.back =
    ap (λ r. a ∷ r) (start_of ∙ ap (λ r. n.token ∷ o.token ∷ d.token ∷ c.token ∷ (m.front ++ r)) tail ∙ simp append_assoc) in
    record {
      front = a ∷ (us ++ w.token ∷ t.token ∷ q.token ∷ i.token ∷ (off.front ++ z.token ∷ []));
      back = z.back;
      value = declaration.Align m.value d.name t.name t.token.at off.value;
      split = whole;
      is = aligns a w.token t.token q.token i.token z.token e (is_name_word d.token d.name d.is) all w.is t.is q.is i.is
          (off.is [] no_offset) z.is;
      goes_on = z.goes_on;
    }

pub s_distribute : (t : Token) (ts : List Token) (k : Statement → State) (p : Program) → Is sort.DistributeWord t
    → Means (DistributeRest t.at k) p ts → Line IsDistribute (λ s. Means (k s) p) (t ∷ ts)
s_distribute t ts k p e n =
    let o = n.goes_on in
    subst (λ l. Line IsDistribute (λ s. Means (k s) p) (t ∷ l)) (sym (n.split ∙ ap (λ l. n.token ∷ l) o.split))
    (closed_by (statement.Distribute t.at n.name n.token.at) (t ∷ n.token ∷ o.token ∷ []) o.goes_on
    λ us f c i g. distribute t n.token o.token c e n.is o.is i g)
