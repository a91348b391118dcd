-- Lists, declarations and statements: what the grammar spells, the machine reads.
use Rattle.std.proofs.Common.{◌≡◌, ℕ, pos, List, [], ◌∷◌, ◌++◌, Some, None, Ok, refl, ap, sym, ◌∙◌, append_assoc, append-nil}
use Rattle.fd_words.specs.declared.combine.Combine.{Combine}
use Rattle.fd_words.specs.declared.combine.Combine.TheVariants.{Add, Min, Max}
use Rattle.fd_lexer.specs.declared.token.Token.{Token}
use Rattle.fd_syntax.specs.declared.scalar.Scalar.{Scalar}
use Rattle.fd_syntax.specs.declared.scalar.Term.{Term}
use Rattle.fd_syntax.specs.declared.expr.Element.{Element}
use Rattle.fd_syntax.specs.declared.expr.Expr.{Expr}
use Rattle.fd_syntax.specs.declared.declaration.Parameter.{Parameter}
use Rattle.fd_syntax.specs.declared.declaration.SizedName.{SizedName}
use Rattle.fd_syntax.specs.declared.declaration.Listed.{Listed}
use Rattle.fd_syntax.specs.declared.declaration.Declaration.{Declaration}
use Rattle.fd_syntax.specs.declared.declaration.Declaration.TheVariants as declaration
use Rattle.fd_syntax.specs.declared.statement.BodyStatement.{BodyStatement}
use Rattle.fd_syntax.specs.declared.statement.BodyStatement.TheVariants as inner
use Rattle.fd_syntax.specs.declared.statement.Form.{Form}
use Rattle.fd_syntax.specs.declared.statement.Form.TheVariants as form
use Rattle.fd_syntax.specs.declared.statement.Statement.{Statement}
use Rattle.fd_syntax.specs.declared.statement.Statement.TheVariants as statement
use Rattle.fd_syntax.specs.declared.program.Program.{Program}
use Rattle.fd_grammar.specs.declared.sort.Sort.{Sort}
use Rattle.fd_grammar.specs.declared.sort.Sort.TheVariants as sort
use Rattle.fd_grammar.specs.declared.mark.Mark.TheVariants as mark
use Rattle.fd_grammar.specs.declared.mark.Fixed.TheVariants as fixed
use Rattle.fd_grammar.specs.Sorts.{sort_of, sign_by, times_of}
use Rattle.fd_grammar.specs.Machine.{Closer, EndOfProgram, EndOfDo, Item, ParameterItem, SizedItem, ListedItem, AlignedItem, Value, State}
use Rattle.fd_grammar.specs.Machine.{Calm, WholeScalar, PlacedScalar, WholeExpr, AnyName, SameName, Take, InForm, Operator, Head, Body}
use Rattle.fd_grammar.specs.Machine.{FirstInner, MoreInner, Begin, Ended, Then, AfterCyclic, MoreItems, Want, wanted, Offset, element_of}
use Rattle.fd_grammar.specs.Machine.{InElement, parameter_of, sized_of, InItem, InItems, AlignTarget, AlignRest, DistributeRest, PrintRest}
use Rattle.fd_grammar.specs.Machine.{RangeRest, DoRest, ForallRest, AssignRest, ReduceRest, ReduceTarget, do_of, loop_of, step, after, run}
use Rattle.fd_grammar.specs.Machine.{start}
use Rattle.fd_grammar.specs.Grammar.{Is, IsName, AreLines, no_lines, more_lines, AreListed, one_item, more_items, element, IsParameter}
use Rattle.fd_grammar.specs.Grammar.{parameter, IsSized, sized, IsListed, listed, IsAligned, aligned, IsDeclaration, parameters, integers}
use Rattle.fd_grammar.specs.Grammar.{decompositions, aligns, reads, outputs, IsForm, block, cyclic, block_cyclic, mapped, IsDistribute}
use Rattle.fd_grammar.specs.Grammar.{distribute, IsHead, no_head, declared, distributed, IsOperator, adds, takes_min, takes_max, IsInner}
use Rattle.fd_grammar.specs.Grammar.{assigned, reduced, AreInner, last_inner, more_inner, IsDoEnd, end_do_word, end_do, IsForallEnd}
use Rattle.fd_grammar.specs.Grammar.{end_forall_word, end_forall, IsRange, range, IsForall, forall_loop, IsBody, no_body, more_body}
use Rattle.fd_grammar.specs.Grammar.{IsStatement, distribution, printed, do_loop, ranged, IsWrittenAs, program}
use Rattle.fd_grammar.specs.CompleteExpr.{go, go_again, no_sign, shift, reads_scalar, scalar_to, offset_to, reads_subscript, expr_to}

-- the tokens of one thing in a list
abbrev pub IsItem : (i : Item) → List Token → Value i → Type 0
IsItem ParameterItem = IsParameter
IsItem SizedItem = IsSized
IsItem ListedItem = IsListed
IsItem (AlignedItem dummy) = IsAligned dummy

reads_item : (i : Item) (ts : List Token) (x : Value i) → IsItem i ts x → (k : Value i → Calm) (r : Token) (rest : List Token)
    → times_of (sort_of r.kind) ≡ None → sign_by (sort_of r.kind) ≡ None → run (ts ++ r ∷ rest) (InItem i k) ≡ run (r ∷ rest) (Then (k x))
reads_item ParameterItem _ _ (parameter {ts = ts} {name = name} {x = x} n e en ee i) k r rest h g =
    let k' : Scalar → Calm = λ y. k (parameter_of (record { name = name; at = n.at }) y) in
    go n (e ∷ (ts ++ r ∷ rest)) (InItem ParameterItem k) (wanted mark.Equals (WholeScalar k')) (sort.Named name) en refl
    ∙ go e (ts ++ r ∷ rest) (wanted mark.Equals (WholeScalar k')) (WholeScalar k') sort.Equals ee refl
    ∙ reads_scalar i k' r rest h ∙ no_sign r rest x k' g
reads_item SizedItem _ _ (sized {ts = ts} {name = name} {x = x} n o f c en eo i ec) k r rest h g =
    let s : Scalar → State = λ y. Then (k (sized_of (record { name = name; at = n.at }) f.at y)) in
    let placed : State = PlacedScalar (λ at y. Want mark.Close (Then (k (sized_of (record { name = name; at = n.at }) at y)))) in
    go n (o ∷ f ∷ ((ts ++ c ∷ []) ++ r ∷ rest)) (InItem SizedItem k) (Take fixed.Open placed) (sort.Named name) en refl
    ∙ go o (f ∷ ((ts ++ c ∷ []) ++ r ∷ rest)) (Take fixed.Open placed) placed sort.Open eo refl
    ∙ ap (λ l. run (f ∷ l) (WholeScalar (λ y. Want mark.Close (s y)))) (shift ts [] (r ∷ rest) c)
    ∙ scalar_to i mark.Close s c (r ∷ rest) sort.Close ec refl refl
reads_item ListedItem _ _ (listed {name = name} n en) k r rest h g =
    go n (r ∷ rest) (InItem ListedItem k) (Then (k (record { name = name; at = n.at }))) (sort.Named name) en refl
reads_item (AlignedItem dummy) _ _ (aligned {name = name} n o d c en eo ed ec) k r rest h g =
    let done : State = Then (k (record { name = name; at = n.at })) in
    go n (o ∷ d ∷ c ∷ r ∷ rest) (InItem (AlignedItem dummy) k) (Take fixed.Open (SameName dummy (wanted mark.Close done)))
    (sort.Named name) en refl
    ∙ go o (d ∷ c ∷ r ∷ rest) (Take fixed.Open (SameName dummy (wanted mark.Close done))) (SameName dummy (wanted mark.Close done))
    sort.Open eo refl
    ∙ go_again d (c ∷ r ∷ rest) dummy (wanted mark.Close done) ed
    ∙ go c (r ∷ rest) (wanted mark.Close done) done sort.Close ec refl

reads_items : (i : Item) {ts : List Token} {xs : List (Value i)} → AreListed (IsItem i) ts xs → (k : List (Value i) → State) (r : Token)
    (rest : List Token) → times_of (sort_of r.kind) ≡ None → sign_by (sort_of r.kind) ≡ None → run (ts ++ r ∷ rest) (InItems i k)
    ≡ run (r ∷ rest) (Then (MoreItems i xs k))
reads_items i (one_item {ts = ts} {x = x} a) k r rest h g = reads_item i ts x a (λ y. MoreItems i (y ∷ []) k) r rest h g
reads_items i (more_items {us = us} {vs = vs} {xs = xs} {x = x} a c ec b) k r rest h g =
    let k' : Value i → Calm = λ y. MoreItems i (xs ++ y ∷ []) k in
    ap (λ l. run l (InItems i k)) (shift us vs (r ∷ rest) c) ∙ reads_items i a k c (vs ++ r ∷ rest) (ap times_of ec) (ap sign_by ec)
    ∙ go c (vs ++ r ∷ rest) (Then (MoreItems i xs k)) (InItem i k') sort.Comma ec refl
    ∙ reads_item i vs x b k' r rest h g

-- the arrays of an ALIGN: the first of them tells the dummy
reads_aligned : {dummy : List ℕ} {ts : List Token} {xs : List Listed} → IsName dummy → AreListed (IsAligned dummy) ts xs
    → (k : Declaration → State) (r : Token) (rest : List Token) → times_of (sort_of r.kind) ≡ None → sign_by (sort_of r.kind) ≡ None
    → run (ts ++ r ∷ rest) (AlignRest k) ≡ run (r ∷ rest) (Then (MoreItems (AlignedItem dummy) xs (λ ys. AlignTarget dummy ys k)))
reads_aligned {dummy} nd (one_item (aligned {name = name} n o d c en eo ed ec)) k r rest h g =
    let more : Listed → State = λ e. wanted mark.Close
    (Then (MoreItems (AlignedItem e.name) (record { name = name; at = n.at } ∷ []) (λ ys. AlignTarget e.name ys k))) in
    go n (o ∷ d ∷ c ∷ r ∷ rest) (AlignRest k) (Take fixed.Open (AnyName more)) (sort.Named name) en refl
    ∙ go o (d ∷ c ∷ r ∷ rest) (Take fixed.Open (AnyName more)) (AnyName more) sort.Open eo refl
    ∙ go d (c ∷ r ∷ rest) (AnyName more) (more (record { name = dummy; at = d.at })) (sort.Named dummy) (ap sort_of ed ∙ nd) refl
    ∙ go c (r ∷ rest) (more (record { name = dummy; at = d.at }))
    (Then (MoreItems (AlignedItem dummy) (record { name = name; at = n.at } ∷ []) (λ ys. AlignTarget dummy ys k))) sort.Close ec refl
reads_aligned {dummy} nd (more_items {us = us} {vs = vs} {xs = xs} {x = x} a c ec b) k r rest h g =
    let done : List Listed → State = λ ys. AlignTarget dummy ys k in
    let k' : Listed → Calm = λ y. MoreItems (AlignedItem dummy) (xs ++ y ∷ []) done in
    ap (λ l. run l (AlignRest k)) (shift us vs (r ∷ rest) c) ∙ reads_aligned nd a k c (vs ++ r ∷ rest) (ap times_of ec) (ap sign_by ec)
    ∙ go c (vs ++ r ∷ rest) (Then (MoreItems (AlignedItem dummy) xs done)) (InItem (AlignedItem dummy) k') sort.Comma ec refl
    ∙ reads_item (AlignedItem dummy) vs x b k' r rest h g

-- a list and the line end behind it
items_to : (i : Item) {ts : List Token} {xs : List (Value i)} → AreListed (IsItem i) ts xs → (k : List (Value i) → State) (l : Token)
    (rest : List Token) (c : Sort) → Is c l → times_of c ≡ None → sign_by c ≡ None → step (Then (MoreItems i xs k)) l.kind c l.at
    ≡ Some (k xs) → run (ts ++ l ∷ rest) (InItems i k) ≡ run rest (k xs)
items_to i {xs = xs} a k l rest c e h g w = reads_items i a k l rest (ap times_of e ∙ h) (ap sign_by e ∙ g)
    ∙ go l rest (Then (MoreItems i xs k)) (k xs) c e w

reads_declaration : {ts : List Token} {d : Declaration} → IsDeclaration ts d → (ds : List Declaration) (ss : List Statement)
    (k : List Declaration → List Statement → State) (l : Token) (rest : List Token) → Is sort.LineEnd l
    → run (ts ++ l ∷ rest) (Head ds ss k) ≡ run rest (Head (ds ++ d ∷ []) ss k)
reads_declaration (parameters {ts = ts} {xs = xs} w o c ew eo a ec) ds ss k l rest el =
    let next : Declaration → State = λ d. Head (ds ++ d ∷ []) ss k in
    let done : List Parameter → State = λ ys. wanted mark.Line (next (declaration.Parameter ys)) in
    go w (o ∷ ((ts ++ c ∷ []) ++ l ∷ rest)) (Head ds ss k) (Take fixed.Open (InItems ParameterItem done)) sort.ParameterWord ew refl
    ∙ go o ((ts ++ c ∷ []) ++ l ∷ rest) (Take fixed.Open (InItems ParameterItem done)) (InItems ParameterItem done) sort.Open eo refl
    ∙ ap (λ q. run q (InItems ParameterItem done)) (shift ts [] (l ∷ rest) c)
    ∙ items_to ParameterItem a done c (l ∷ rest) sort.Close ec refl refl refl
    ∙ go l rest (done xs) (next (declaration.Parameter xs)) sort.LineEnd el refl
reads_declaration (integers {ts = ts} {xs = xs} w s e ew es ee a) ds ss k l rest el =
    let done : List SizedName → State = λ ys. Head (ds ++ declaration.Integer ys ∷ []) ss k in
    go w (s ∷ e ∷ (ts ++ l ∷ rest)) (Head ds ss k) (Take fixed.Star (Take fixed.Eight (InItems SizedItem done))) sort.IntegerWord ew refl
    ∙ go s (e ∷ (ts ++ l ∷ rest)) (Take fixed.Star (Take fixed.Eight (InItems SizedItem done)))
    (Take fixed.Eight (InItems SizedItem done)) sort.Star es refl
    ∙ go e (ts ++ l ∷ rest) (Take fixed.Eight (InItems SizedItem done)) (InItems SizedItem done) (sort.Numbered (pos 8)) ee refl
    ∙ items_to SizedItem a done l rest sort.LineEnd el refl refl refl
reads_declaration (decompositions {ts = ts} {xs = xs} w ew a) ds ss k l rest el =
    let done : List SizedName → State = λ ys. Head (ds ++ declaration.Decomposition ys ∷ []) ss k in
    go w (ts ++ l ∷ rest) (Head ds ss k) (InItems SizedItem done) sort.DecompositionWord ew refl
    ∙ items_to SizedItem a done l rest sort.LineEnd el refl refl refl
reads_declaration (aligns {us = us} {vs = vs} {dummy = dummy} {target = target} {xs = xs} {add = add} a w t o d c ea nd b ew et eo ed off
    ec) ds ss k l rest el =
    let next : Declaration → State = λ e. Head (ds ++ e ∷ []) ss k in
    let done : List Term → State = λ ts. wanted mark.Line (next (declaration.Align xs dummy target t.at ts)) in
    let offset : State = Then (Offset (λ ts. Want mark.Close (done ts))) in
    let first : List Token = vs ++ c ∷ l ∷ rest in
    let whole : (us ++ w ∷ t ∷ o ∷ d ∷ (vs ++ c ∷ [])) ++ l ∷ rest ≡ us ++ w ∷ t ∷ o ∷ d ∷ first = simp append_assoc in
    ap (λ q. run (a ∷ q) (Head ds ss k)) whole
    ∙ go a (us ++ w ∷ t ∷ o ∷ d ∷ first) (Head ds ss k) (AlignRest next) sort.AlignWord ea refl
    ∙ reads_aligned nd b next w (t ∷ o ∷ d ∷ first) (ap times_of ew) (ap sign_by ew)
    ∙ go w (t ∷ o ∷ d ∷ first) (Then (MoreItems (AlignedItem dummy) xs (λ ys. AlignTarget dummy ys next))) (AlignTarget dummy xs next)
    sort.WithWord ew refl
    ∙ go t (o ∷ d ∷ first) (AlignTarget dummy xs next) (Take fixed.Open (SameName dummy offset)) (sort.Named target) et refl
    ∙ go o (d ∷ first) (Take fixed.Open (SameName dummy offset)) (SameName dummy offset) sort.Open eo refl
    ∙ go_again d first dummy offset ed
    ∙ offset_to off done c (l ∷ rest) ec
    ∙ go l rest (done add) (next (declaration.Align xs dummy target t.at add)) sort.LineEnd el refl
reads_declaration (reads {ts = ts} {xs = xs} w ew a) ds ss k l rest el =
    let done : List Listed → State = λ ys. Head (ds ++ declaration.Read ys ∷ []) ss k in
    go w (ts ++ l ∷ rest) (Head ds ss k) (InItems ListedItem done) sort.ReadWord ew refl
    ∙ items_to ListedItem a done l rest sort.LineEnd el refl refl refl
reads_declaration (outputs {ts = ts} {xs = xs} w ew a) ds ss k l rest el =
    let done : List Listed → State = λ ys. Head (ds ++ declaration.Output ys ∷ []) ss k in
    go w (ts ++ l ∷ rest) (Head ds ss k) (InItems ListedItem done) sort.OutputWord ew refl
    ∙ items_to ListedItem a done l rest sort.LineEnd el refl refl refl

-- a form and the parenthesis that closes behind it
reads_form : {ts : List Token} {f : Form} → IsForm ts f → (k : Form → State) (c : Token) (rest : List Token) → Is sort.Close c
    → run (ts ++ c ∷ rest) (InForm (λ g. Want mark.Close (k g))) ≡ run rest (k f)
reads_form (block w ew) k c rest ec =
    let s : State = InForm (λ g. Want mark.Close (k g)) in
    go w (c ∷ rest) s (wanted mark.Close (k form.Block)) sort.BlockWord ew refl ∙ go c rest (wanted mark.Close (k form.Block))
    (k form.Block) sort.Close ec refl
reads_form (cyclic w ew) k c rest ec =
    let k' : Form → Calm = λ g. Want mark.Close (k g) in
    go w (c ∷ rest) (InForm k') (Then (AfterCyclic k')) sort.CyclicWord ew refl
    ∙ go c rest (Then (AfterCyclic k')) (k form.Cyclic) sort.Close ec refl
reads_form (block_cyclic {ts = ts} {x = x} w o f e ew eo i ee) k c rest ec =
    let k' : Form → Calm = λ g. Want mark.Close (k g) in
    let placed : State = PlacedScalar (λ at y. Want mark.Close (Then (k' (form.BlockCyclic y at)))) in
    let s : Scalar → State = λ y. wanted mark.Close (k (form.BlockCyclic y f.at)) in
    go w (o ∷ f ∷ ((ts ++ e ∷ []) ++ c ∷ rest)) (InForm k') (Then (AfterCyclic k')) sort.CyclicWord ew refl
    ∙ go o (f ∷ ((ts ++ e ∷ []) ++ c ∷ rest)) (Then (AfterCyclic k')) placed sort.Open eo refl
    ∙ ap (λ l. run (f ∷ l) (WholeScalar (λ y. Want mark.Close (s y)))) (shift ts [] (c ∷ rest) e)
    ∙ scalar_to i mark.Close s e (c ∷ rest) sort.Close ee refl refl
    ∙ go c rest (s x) (k (form.BlockCyclic x f.at)) sort.Close ec refl
reads_form (mapped {name = name} n en) k c rest ec =
    let s : State = InForm (λ g. Want mark.Close (k g)) in
    go n (c ∷ rest) s (wanted mark.Close (k (form.Map name n.at))) (sort.Named name) en refl
    ∙ go c rest (wanted mark.Close (k (form.Map name n.at))) (k (form.Map name n.at)) sort.Close ec refl

reads_distribute : {ts : List Token} {s : Statement} → IsDistribute ts s → (from : State) (k : Statement → State)
    → ((w : Token) → step from w.kind sort.DistributeWord w.at ≡ Some (DistributeRest w.at k)) → (l : Token) (rest : List Token)
    → Is sort.LineEnd l → run (ts ++ l ∷ rest) from ≡ run rest (k s)
reads_distribute (distribute {ts = ts} {name = name} {f = f} w n o c ew en eo i ec) from k h l rest el =
    let done : Form → State = λ g. wanted mark.Line (k (statement.Distribute w.at name n.at g)) in
    let form_state : State = InForm (λ g. Want mark.Close (done g)) in
    go w (n ∷ o ∷ ((ts ++ c ∷ []) ++ l ∷ rest)) from (DistributeRest w.at k) sort.DistributeWord ew (h w)
    ∙ go n (o ∷ ((ts ++ c ∷ []) ++ l ∷ rest)) (DistributeRest w.at k) (Take fixed.Open form_state) (sort.Named name) en refl
    ∙ go o ((ts ++ c ∷ []) ++ l ∷ rest) (Take fixed.Open form_state) form_state sort.Open eo refl
    ∙ ap (λ q. run q form_state) (shift ts [] (l ∷ rest) c)
    ∙ reads_form i done c (l ∷ rest) ec
    ∙ go l rest (done f) (k (statement.Distribute w.at name n.at f)) sort.LineEnd el refl

head_lines : {ls : List Token} → AreLines ls → (ds : List Declaration) (ss : List Statement) (k : List Declaration → List Statement
    → State) (rest : List Token) → run (ls ++ rest) (Head ds ss k) ≡ run rest (Head ds ss k)
head_lines no_lines ds ss k rest = refl
head_lines (more_lines {ts = ts} t e ls) ds ss k rest = go t (ts ++ rest) (Head ds ss k) (Head ds ss k) sort.LineEnd e refl
    ∙ head_lines ls ds ss k rest

body_lines : {ls : List Token} → AreLines ls → (c : Closer) (ss : List Statement) (k : List Statement → State) (rest : List Token)
    → run (ls ++ rest) (Body c ss k) ≡ run rest (Body c ss k)
body_lines no_lines c ss k rest = refl
body_lines (more_lines {ts = ts} t e ls) c ss k rest = go t (ts ++ rest) (Body c ss k) (Body c ss k) sort.LineEnd e refl
    ∙ body_lines ls c ss k rest

first_inner_lines : {ls : List Token} → AreLines ls → (index : List ℕ) (k : List BodyStatement → State) (rest : List Token)
    → run (ls ++ rest) (FirstInner index k) ≡ run rest (FirstInner index k)
first_inner_lines no_lines index k rest = refl
first_inner_lines (more_lines {ts = ts} t e ls) index k rest = go t (ts ++ rest) (FirstInner index k) (FirstInner index k) sort.LineEnd e
    refl ∙ first_inner_lines ls index k rest

inner_lines : {ls : List Token} → AreLines ls → (index : List ℕ) (xs : List BodyStatement) (k : List BodyStatement → State)
    (rest : List Token) → run (ls ++ rest) (MoreInner index xs k) ≡ run rest (MoreInner index xs k)
inner_lines no_lines index xs k rest = refl
inner_lines (more_lines {ts = ts} t e ls) index xs k rest = go t (ts ++ rest) (MoreInner index xs k) (MoreInner index xs k) sort.LineEnd e
    refl ∙ inner_lines ls index xs k rest

begin_lines : {ls : List Token} → AreLines ls → (s : State) (rest : List Token) → run (ls ++ rest) (Begin s) ≡ run rest (Begin s)
begin_lines no_lines s rest = refl
begin_lines (more_lines {ts = ts} t e ls) s rest = go t (ts ++ rest) (Begin s) (Begin s) sort.LineEnd e refl ∙ begin_lines ls s rest

ended_lines : {ls : List Token} → AreLines ls → (p : Program) → run ls (Ended p) ≡ Ok p
ended_lines no_lines p = refl
ended_lines (more_lines {ts = ts} t e ls) p = go t ts (Ended p) (Ended p) sort.LineEnd e refl ∙ ended_lines ls p

reads_head : {ts : List Token} {ds : List Declaration} {ss : List Statement} → IsHead ts ds ss
    → (es : List Declaration) (us : List Statement) (k : List Declaration → List Statement → State) (rest : List Token)
    → run (ts ++ rest) (Head es us k) ≡ run rest (Head (es ++ ds) (us ++ ss) k)
reads_head no_head es us k rest = ap (λ l. run rest (Head l us k)) (sym (append-nil es)) ∙ ap (λ l. run rest (Head (es ++ []) l k))
    (sym (append-nil us))
reads_head (declared {us = ts} {ls = ls} {vs = vs} {d = d} {ds = ds} {ss = ss} i l e are b) es us k rest =
    ap (λ r. run r (Head es us k)) (shift ts (ls ++ vs) rest l ∙ ap (λ r. ts ++ (l ∷ r)) (append_assoc ls vs rest))
    ∙ reads_declaration i es us k l (ls ++ (vs ++ rest)) e
    ∙ head_lines are (es ++ d ∷ []) us k (vs ++ rest)
    ∙ reads_head b (es ++ d ∷ []) us k rest
    ∙ ap (λ m. run rest (Head m (us ++ ss) k)) (append_assoc es (d ∷ []) ds)
reads_head (distributed {us = ts} {ls = ls} {vs = vs} {s = s} {ds = ds} {ss = ss} i l e are b) es us k rest =
    ap (λ r. run r (Head es us k)) (shift ts (ls ++ vs) rest l ∙ ap (λ r. ts ++ (l ∷ r)) (append_assoc ls vs rest))
    ∙ reads_distribute i (Head es us k) (λ x. Head es (us ++ x ∷ []) k) (λ w. refl) l (ls ++ (vs ++ rest)) e
    ∙ head_lines are es (us ++ s ∷ []) k (vs ++ rest)
    ∙ reads_head b es (us ++ s ∷ []) k rest
    ∙ ap (λ m. run rest (Head (es ++ ds) m k)) (append_assoc us (s ∷ []) ss)

-- bounds and the line ends behind them
reads_range : {ts : List Token} {n : Listed} {low high : Scalar} → IsRange ts n low high
    → (k : Listed → Scalar → Scalar → State) (rest : List Token) → ((ls : List Token) → AreLines ls → run (ls ++ rest) (k n low high)
    ≡ run rest (k n low high)) → run (ts ++ rest) (RangeRest k) ≡ run rest (k n low high)
reads_range (range {us = us} {vs = vs} {ls = ls} {name = name} {low = low} {high = high} n e c l en ee i ec j el are) k rest h =
    let v : Listed = record { name = name; at = n.at } in
    let upper : Scalar → State = λ lo. WholeScalar (λ hi. Want mark.Line (k v lo hi)) in
    let lower : State = WholeScalar (λ lo. Want mark.Comma (upper lo)) in
    let second : List Token = vs ++ l ∷ (ls ++ rest) in
    let whole : (us ++ c ∷ (vs ++ l ∷ ls)) ++ rest ≡ us ++ c ∷ second = simp append_assoc in
    ap (λ q. run (n ∷ e ∷ q) (RangeRest k)) whole
    ∙ go n (e ∷ (us ++ c ∷ second)) (RangeRest k) (wanted mark.Equals lower) (sort.Named name) en refl
    ∙ go e (us ++ c ∷ second) (wanted mark.Equals lower) lower sort.Equals ee refl
    ∙ scalar_to i mark.Comma upper c second sort.Comma ec refl refl
    ∙ scalar_to j mark.Line (λ hi. k v low hi) l (ls ++ rest) sort.LineEnd el refl refl
    ∙ h ls are

reads_operator : {t : Token} {op : Combine} → IsOperator t op → (k : Combine → State) (rest : List Token) → run (t ∷ rest) (Operator k)
    ≡ run rest (k op)
reads_operator (adds t e) k rest = go t rest (Operator k) (k Add) sort.AddWord e refl
reads_operator (takes_min t e) k rest = go t rest (Operator k) (k Min) sort.MinWord e refl
reads_operator (takes_max t e) k rest = go t rest (Operator k) (k Max) sort.MaxWord e refl

reads_inner : {index : List ℕ} {ts : List Token} {s : BodyStatement} → IsInner index ts s → (from : State) (k : BodyStatement → State)
    → ((t : Token) (name : List ℕ) → step from t.kind (sort.Named name) t.at ≡ Some (AssignRest index name t.at k))
    → ((t : Token) → step from t.kind sort.ReduceWord t.at ≡ Some (ReduceRest index k))
    → (l : Token) (rest : List Token) → Is sort.LineEnd l → run (ts ++ l ∷ rest) from ≡ run rest (k s)
reads_inner {index} (assigned {vs = vs} {x = x} q (element {ts = us} {name = name} {s = s} n o c en eo i ec) eq j) from k h g l rest el =
    let done : Element → Expr → State = λ e y. k (inner.Assign e y) in
    let value : Element → State = λ e. wanted mark.Equals (WholeExpr index (λ y. Want mark.Line (done e y))) in
    let second : List Token = vs ++ l ∷ rest in
    let whole : ((us ++ c ∷ []) ++ q ∷ vs) ++ l ∷ rest ≡ us ++ c ∷ q ∷ second = simp append_assoc in
    let target : Element = element_of name n.at s in
    ap (λ r. run (n ∷ o ∷ r) from) whole
    ∙ go n (o ∷ (us ++ c ∷ q ∷ second)) from (AssignRest index name n.at k) (sort.Named name) en (h n name)
    ∙ go o (us ++ c ∷ q ∷ second) (AssignRest index name n.at k) (InElement index name n.at value) sort.Open eo refl
    ∙ reads_subscript i (λ z. value (element_of name n.at z)) c (q ∷ second) ec
    ∙ go q second (value target) (WholeExpr index (λ y. Want mark.Line (done target y))) sort.Equals eq refl
    ∙ expr_to j mark.Line (done target) l rest sort.LineEnd el refl refl refl
reads_inner {index} (reduced {vs = vs} {op = op} {x = x} r o w c d p er eo ew ec (element {ts = us} {name = name} {s = s} n on cn en eon i
    ecn) ed j ep) from k h g l rest el =
    let done : Element → Expr → State = λ e y. wanted mark.Line (k (inner.Reduce op e y)) in
    let value : Element → State = λ e. wanted mark.Comma (WholeExpr index (λ y. Want mark.Close (done e y))) in
    let operated : Combine → State = λ z. wanted mark.Comma (ReduceTarget index z k) in
    let second : List Token = vs ++ p ∷ l ∷ rest in
    let whole : ((us ++ cn ∷ []) ++ d ∷ (vs ++ p ∷ [])) ++ l ∷ rest ≡ us ++ cn ∷ d ∷ second = simp append_assoc in
    let target : Element = element_of name n.at s in
    ap (λ q. run (r ∷ o ∷ w ∷ c ∷ n ∷ on ∷ q) from) whole
    ∙ go r (o ∷ w ∷ c ∷ n ∷ on ∷ (us ++ cn ∷ d ∷ second)) from (ReduceRest index k) sort.ReduceWord er (g r)
    ∙ go o (w ∷ c ∷ n ∷ on ∷ (us ++ cn ∷ d ∷ second)) (ReduceRest index k) (Operator operated) sort.Open eo refl
    ∙ reads_operator ew operated (c ∷ n ∷ on ∷ (us ++ cn ∷ d ∷ second))
    ∙ go c (n ∷ on ∷ (us ++ cn ∷ d ∷ second)) (operated op) (ReduceTarget index op k) sort.Comma ec refl
    ∙ go n (on ∷ (us ++ cn ∷ d ∷ second)) (ReduceTarget index op k) (Take fixed.Open (InElement index name n.at value)) (sort.Named name)
    en refl
    ∙ go on (us ++ cn ∷ d ∷ second) (Take fixed.Open (InElement index name n.at value)) (InElement index name n.at value) sort.Open eon refl
    ∙ reads_subscript i (λ z. value (element_of name n.at z)) cn (d ∷ second) ecn
    ∙ go d second (value target) (WholeExpr index (λ y. Want mark.Close (done target y))) sort.Comma ed refl
    ∙ expr_to j mark.Close (done target) p (l ∷ rest) sort.Close ep refl refl refl
    ∙ go l rest (done target x) (k (inner.Reduce op target x)) sort.LineEnd el refl

reads_more_inner : {index : List ℕ} {ts : List Token} {ss : List BodyStatement} → AreInner index ts ss
    → (xs : List BodyStatement) (k : List BodyStatement → State) (rest : List Token) → run (ts ++ rest) (MoreInner index xs k)
    ≡ run rest (MoreInner index (xs ++ ss) k)
reads_more_inner {index} (last_inner {us = us} {ls = ls} {s = s} i l e are) xs k rest =
    ap (λ r. run r (MoreInner index xs k)) (shift us ls rest l)
    ∙ reads_inner i (MoreInner index xs k) (λ x. MoreInner index (xs ++ x ∷ []) k) (λ t name. refl) (λ t. refl) l (ls ++ rest) e
    ∙ inner_lines are index (xs ++ s ∷ []) k rest
reads_more_inner {index} (more_inner {us = us} {ls = ls} {vs = vs} {s = s} {ss = ss} i l e are b) xs k rest =
    ap (λ r. run r (MoreInner index xs k)) (shift us (ls ++ vs) rest l ∙ ap (λ r. us ++ (l ∷ r)) (append_assoc ls vs rest))
    ∙ reads_inner i (MoreInner index xs k) (λ x. MoreInner index (xs ++ x ∷ []) k) (λ t name. refl) (λ t. refl) l (ls ++ (vs ++ rest)) e
    ∙ inner_lines are index (xs ++ s ∷ []) k (vs ++ rest)
    ∙ reads_more_inner b (xs ++ s ∷ []) k rest
    ∙ ap (λ m. run rest (MoreInner index m k)) (append_assoc xs (s ∷ []) ss)

pub reads_first_inner : {index : List ℕ} {ts : List Token} {ss : List BodyStatement} → AreInner index ts ss
    → (k : List BodyStatement → State) (rest : List Token) → run (ts ++ rest) (FirstInner index k) ≡ run rest (MoreInner index ss k)
reads_first_inner {index} (last_inner {us = us} {ls = ls} {s = s} i l e are) k rest =
    ap (λ r. run r (FirstInner index k)) (shift us ls rest l)
    ∙ reads_inner i (FirstInner index k) (λ x. MoreInner index (x ∷ []) k) (λ t name. refl) (λ t. refl) l (ls ++ rest) e
    ∙ inner_lines are index (s ∷ []) k rest
reads_first_inner {index} (more_inner {us = us} {ls = ls} {vs = vs} {s = s} {ss = ss} i l e are b) k rest =
    ap (λ r. run r (FirstInner index k)) (shift us (ls ++ vs) rest l ∙ ap (λ r. us ++ (l ∷ r)) (append_assoc ls vs rest))
    ∙ reads_inner i (FirstInner index k) (λ x. MoreInner index (x ∷ []) k) (λ t name. refl) (λ t. refl) l (ls ++ (vs ++ rest)) e
    ∙ inner_lines are index (s ∷ []) k (vs ++ rest)
    ∙ reads_more_inner b (s ∷ []) k rest

-- the closers
pub forall_closes : (index : List ℕ) {es : List Token} → IsForallEnd es → (xs : List BodyStatement) (k : List BodyStatement → State)
    (rest : List Token) → run (es ++ rest) (MoreInner index xs k) ≡ run rest (k xs)
forall_closes index (end_forall_word t e) xs k rest = go t rest (MoreInner index xs k) (k xs) sort.EndForallWord e refl
forall_closes index (end_forall t f e g) xs k rest = go t (f ∷ rest) (MoreInner index xs k) (Take fixed.Forall (k xs)) sort.EndWord e refl
    ∙ go f rest (Take fixed.Forall (k xs)) (k xs) sort.ForallWord g refl

do_closes : {es : List Token} → IsDoEnd es → (xs : List Statement) (k : List Statement → State) (rest : List Token)
    → run (es ++ rest) (Body EndOfDo xs k) ≡ run rest (k xs)
do_closes (end_do_word t e) xs k rest = go t rest (Body EndOfDo xs k) (k xs) sort.EndDoWord e refl
do_closes (end_do t d e g) xs k rest = go t (d ∷ rest) (Body EndOfDo xs k) (Take fixed.Do (k xs)) sort.EndWord e refl
    ∙ go d rest (Take fixed.Do (k xs)) (k xs) sort.DoWord g refl

-- a statement from any state that a statement of the body leads on from as a body does
reads_forall : {ts : List Token} {s : Statement} → IsForall ts s → (from : State) (k : Statement → State)
    → ((t : Token) → step from t.kind sort.ForallWord t.at ≡ Some (ForallRest t.at k)) → (r : Token) (rest : List Token)
    → Is sort.LineEnd r → run (ts ++ r ∷ rest) from ≡ run rest (k s)
reads_forall (forall_loop {rs = rs} {bs = bs} {es = es} {n = n} {low = low} {high = high} {body = body} f ef i b en) from k h r rest er =
    let done : Listed → Scalar → Scalar → List BodyStatement
    → State = λ v lo hi xs. wanted mark.Line (k (statement.Forall (loop_of f.at v lo hi xs))) in
    let ranged_state : Listed → Scalar → Scalar → State = λ v lo hi. FirstInner v.name (done v lo hi) in
    let third : List Token = es ++ r ∷ rest in
    let whole : (rs ++ (bs ++ es)) ++ r ∷ rest ≡ rs ++ (bs ++ third) = simp append_assoc in
    ap (λ q. run (f ∷ q) from) whole
    ∙ go f (rs ++ (bs ++ third)) from (ForallRest f.at k) sort.ForallWord ef (h f)
    ∙ reads_range i ranged_state (bs ++ third) (λ ls are. first_inner_lines are n.name (done n low high) (bs ++ third))
    ∙ reads_first_inner b (done n low high) third
    ∙ forall_closes n.name en body (done n low high) (r ∷ rest)
    ∙ go r rest (done n low high body) (k (statement.Forall (loop_of f.at n low high body))) sort.LineEnd er refl

-- what a state does at the words that begin a statement, as a body does it
record Starts (from : State) (k : List Statement → State) : Type 0 where
  distributes : (t : Token) → step from t.kind sort.DistributeWord t.at ≡ Some (DistributeRest t.at (λ s. k (s ∷ [])))
  prints : (t : Token) → step from t.kind sort.PrintWord t.at ≡ Some (PrintRest t.at (λ s. k (s ∷ [])))
  repeats : (t : Token) → step from t.kind sort.DoWord t.at ≡ Some (DoRest t.at k)
  ranges : (t : Token) → step from t.kind sort.ForallWord t.at ≡ Some (ForallRest t.at (λ s. k (s ∷ [])))

body_starts : (c : Closer) (ss : List Statement) (k : List Statement → State) → Starts (Body c ss k) (λ xs. Body c (ss ++ xs) k)
body_starts c ss k = record { distributes = λ t. refl; prints = λ t. refl; repeats = λ t. refl; ranges = λ t. refl }

mutual
  reads_body : {ts : List Token} {xs : List Statement} → IsBody ts xs → (c : Closer) (ss : List Statement) (k : List Statement → State)
      (rest : List Token) → run (ts ++ rest) (Body c ss k) ≡ run rest (Body c (ss ++ xs) k)
  reads_body no_body c ss k rest = ap (λ l. run rest (Body c l k)) (sym (append-nil ss))
  reads_body (more_body {us = us} {ls = ls} {vs = vs} {xs = xs} {ys = ys} i l e are b) c ss k rest =
      ap (λ r. run r (Body c ss k)) (shift us (ls ++ vs) rest l ∙ ap (λ r. us ++ (l ∷ r)) (append_assoc ls vs rest))
      ∙ reads_statement i (Body c ss k) (λ zs. Body c (ss ++ zs) k) (body_starts c ss k) l (ls ++ (vs ++ rest)) e
      ∙ body_lines are c (ss ++ xs) k (vs ++ rest)
      ∙ reads_body b c (ss ++ xs) k rest
      ∙ ap (λ m. run rest (Body c m k)) (append_assoc ss xs ys)

  reads_statement : {ts : List Token} {xs : List Statement} → IsStatement ts xs → (from : State) (k : List Statement → State)
      → Starts from k → (l : Token) (rest : List Token) → Is sort.LineEnd l → run (ts ++ l ∷ rest) from ≡ run rest (k xs)
  reads_statement (distribution i) from k h l rest el = reads_distribute i from (λ s. k (s ∷ [])) h.distributes l rest el
  reads_statement (printed {name = name} p n ep en) from k h l rest el =
      let done : State = k (statement.Print p.at name n.at ∷ []) in
      go p (n ∷ l ∷ rest) from (PrintRest p.at (λ s. k (s ∷ []))) sort.PrintWord ep (h.prints p)
      ∙ go n (l ∷ rest) (PrintRest p.at (λ s. k (s ∷ []))) (wanted mark.Line done) (sort.Named name) en refl
      ∙ go l rest (wanted mark.Line done) done sort.LineEnd el refl
  reads_statement (ranged i) from k h l rest el = reads_forall i from (λ s. k (s ∷ [])) h.ranges l rest el
  reads_statement (do_loop {rs = rs} {bs = bs} {es = es} {n = n} {low = low} {high = high} {body = body} d ed i b en) from k h r rest er =
      let done : Listed → Scalar → Scalar → List Statement → State = λ v lo hi xs. wanted mark.Line (k (do_of d.at v lo hi xs)) in
      let ranged_state : Listed → Scalar → Scalar → State = λ v lo hi. Body EndOfDo [] (done v lo hi) in
      let third : List Token = es ++ r ∷ rest in
      let whole : (rs ++ (bs ++ es)) ++ r ∷ rest ≡ rs ++ (bs ++ third) = simp append_assoc in
      ap (λ q. run (d ∷ q) from) whole
      ∙ go d (rs ++ (bs ++ third)) from (DoRest d.at k) sort.DoWord ed (h.repeats d)
      ∙ reads_range i ranged_state (bs ++ third) (λ ls are. body_lines are EndOfDo [] (done n low high) (bs ++ third))
      ∙ reads_body b EndOfDo [] (done n low high) third
      ∙ do_closes en body (done n low high) (r ∷ rest)
      ∙ go r rest (done n low high body) (k (do_of d.at n low high body)) sort.LineEnd er refl

-- a body behind a head, of which the machine may take DISTRIBUTEs for the head's
body_behind : {ts : List Token} {xs : List Statement} → IsBody ts xs → (ds : List Declaration) (ss : List Statement) (k : List Declaration
    → List Statement → State) (e : Token) (rest : List Token) → Is sort.EndWord e → run (ts ++ e ∷ rest) (Head ds ss k)
    ≡ run rest (k ds (ss ++ xs))
body_behind no_body ds ss k e rest ee = go e rest (Head ds ss k) (k ds ss) sort.EndWord ee refl
    ∙ ap (λ l. run rest (k ds l)) (sym (append-nil ss))
body_behind (more_body {us = us} {ls = ls} {vs = vs} {ys = ys} (distribution {s = s} i) l el are b) ds ss k e rest ee =
    ap (λ r. run r (Head ds ss k)) (shift us (ls ++ vs) (e ∷ rest) l ∙ ap (λ r. us ++ (l ∷ r)) (append_assoc ls vs (e ∷ rest)))
    ∙ reads_distribute i (Head ds ss k) (λ x. Head ds (ss ++ x ∷ []) k) (λ w. refl) l (ls ++ (vs ++ e ∷ rest)) el
    ∙ head_lines are ds (ss ++ s ∷ []) k (vs ++ e ∷ rest)
    ∙ body_behind b ds (ss ++ s ∷ []) k e rest ee
    ∙ ap (λ m. run rest (k ds m)) (append_assoc ss (s ∷ []) ys)
body_behind (more_body {us = us} {ls = ls} {vs = vs} {ys = ys} (printed {name = name} p n ep en) l el are b) ds ss k e rest ee =
    let x : Statement = statement.Print p.at name n.at in
    let from : State = PrintRest p.at (λ s. Body EndOfProgram (ss ++ s ∷ []) (k ds)) in
    let done : State = Body EndOfProgram (ss ++ x ∷ []) (k ds) in
    let third : List Token = ls ++ (vs ++ e ∷ rest) in
    ap (λ r. run (p ∷ n ∷ l ∷ r) (Head ds ss k)) (append_assoc ls vs (e ∷ rest))
    ∙ go p (n ∷ l ∷ third) (Head ds ss k) from sort.PrintWord ep refl
    ∙ go n (l ∷ third) from (wanted mark.Line done) (sort.Named name) en refl
    ∙ go l third (wanted mark.Line done) done sort.LineEnd el refl
    ∙ body_lines are EndOfProgram (ss ++ x ∷ []) (k ds) (vs ++ e ∷ rest)
    ∙ reads_body b EndOfProgram (ss ++ x ∷ []) (k ds) (e ∷ rest)
    ∙ go e rest (Body EndOfProgram ((ss ++ x ∷ []) ++ ys) (k ds)) (k ds ((ss ++ x ∷ []) ++ ys)) sort.EndWord ee refl
    ∙ ap (λ m. run rest (k ds m)) (append_assoc ss (x ∷ []) ys)
body_behind (more_body {us = us} {ls = ls} {vs = vs} {xs = xs} {ys = ys} (ranged {s = s} i) l el are b) ds ss k e rest ee =
    ap (λ r. run r (Head ds ss k)) (shift us (ls ++ vs) (e ∷ rest) l ∙ ap (λ r. us ++ (l ∷ r)) (append_assoc ls vs (e ∷ rest)))
    ∙ reads_forall i (Head ds ss k) (λ z. Body EndOfProgram (ss ++ z ∷ []) (k ds)) (λ t. refl) l (ls ++ (vs ++ e ∷ rest)) el
    ∙ body_lines are EndOfProgram (ss ++ s ∷ []) (k ds) (vs ++ e ∷ rest)
    ∙ reads_body b EndOfProgram (ss ++ s ∷ []) (k ds) (e ∷ rest)
    ∙ go e rest (Body EndOfProgram ((ss ++ s ∷ []) ++ ys) (k ds)) (k ds ((ss ++ s ∷ []) ++ ys)) sort.EndWord ee refl
    ∙ ap (λ m. run rest (k ds m)) (append_assoc ss (s ∷ []) ys)
body_behind (more_body {us = us} {ls = ls} {vs = vs} {xs = xs} {ys = ys} (do_loop {rs = rs} {bs = bs} {es = es} {n = n} {low = low}
    {high = high} {body = body} d ed i a en) l el are b) ds ss k e rest ee =
    let h : (t : Token) → step (Head ds ss k) t.kind sort.DoWord t.at ≡ step (Body EndOfProgram ss (k ds)) t.kind sort.DoWord t.at =
    λ t. refl in
    let x : List Statement = do_of d.at n low high body in
    ap (λ r. run r (Head ds ss k)) (shift us (ls ++ vs) (e ∷ rest) l ∙ ap (λ r. us ++ (l ∷ r)) (append_assoc ls vs (e ∷ rest)))
    ∙ ap (λ c. after d ((rs ++ (bs ++ es)) ++ l ∷ (ls ++ (vs ++ e ∷ rest))) (run ((rs ++ (bs ++ es)) ++ l ∷ (ls ++ (vs ++ e ∷ rest))))
    (step (Head ds ss k) d.kind c d.at)) ed
    ∙ sym (ap (λ c. after d ((rs ++ (bs ++ es)) ++ l ∷ (ls ++ (vs ++ e ∷ rest)))
    (run ((rs ++ (bs ++ es)) ++ l ∷ (ls ++ (vs ++ e ∷ rest)))) (step (Body EndOfProgram ss (k ds)) d.kind c d.at)) ed)
    ∙ reads_statement (do_loop d ed i a en) (Body EndOfProgram ss (k ds)) (λ zs. Body EndOfProgram (ss ++ zs) (k ds))
    (body_starts EndOfProgram ss (k ds)) l (ls ++ (vs ++ e ∷ rest)) el
    ∙ body_lines are EndOfProgram (ss ++ x) (k ds) (vs ++ e ∷ rest)
    ∙ reads_body b EndOfProgram (ss ++ x) (k ds) (e ∷ rest)
    ∙ go e rest (Body EndOfProgram ((ss ++ x) ++ ys) (k ds)) (k ds ((ss ++ x) ++ ys)) sort.EndWord ee refl
    ∙ ap (λ m. run rest (k ds m)) (append_assoc ss x ys)

-- the machine comes to the program that has the tokens
pub reads_program : {p : Program} {ts : List Token} → IsWrittenAs p ts → run ts start ≡ Ok p
reads_program (program {before = before} {ls = ls} {hs = hs} {bs = bs} {after = behind} {name = name} {ds = ds} {ss = ss} {xs = xs} lead p
    n l e ep en el are h b ee trail) =
    let last : Listed → List Declaration → List Statement
    → State = λ v es us. Ended (record { name = v.name; declarations = es; statements = us }) in
    let named_next : State = AnyName (λ v. wanted mark.Line (Head [] [] (last v))) in
    let v : Listed = record { name = name; at = n.at } in
    let whole : Program = record { name = name; declarations = ds; statements = ss ++ xs } in
    begin_lines lead named_next (p ∷ n ∷ l ∷ (ls ++ (hs ++ (bs ++ e ∷ behind))))
    ∙ go p (n ∷ l ∷ (ls ++ (hs ++ (bs ++ e ∷ behind)))) start named_next sort.ProgramWord ep refl
    ∙ go n (l ∷ (ls ++ (hs ++ (bs ++ e ∷ behind)))) named_next (wanted mark.Line (Head [] [] (last v))) (sort.Named name) en refl
    ∙ go l (ls ++ (hs ++ (bs ++ e ∷ behind))) (wanted mark.Line (Head [] [] (last v))) (Head [] [] (last v)) sort.LineEnd el refl
    ∙ head_lines are [] [] (last v) (hs ++ (bs ++ e ∷ behind))
    ∙ reads_head h [] [] (last v) (bs ++ e ∷ behind)
    ∙ body_behind b ds ss (last v) e behind ee
    ∙ ended_lines trail whole
