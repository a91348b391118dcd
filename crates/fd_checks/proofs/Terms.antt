-- The scalar names of a loop's expressions are resolved to constants and variables.
use Rattle.std.proofs.Common.{◌≡◌, refl, ℕ, ℤ, Bool, true, false, if◌then◌else◌, List, [], ◌∷◌, Option, Some, None, sym, ◌∙◌, subst}
use Rattle.std.specs.Prelude.{All, fold, is_some}
use Rattle.std.proofs.lemmas.List.Elements.{All-nil, All-push}
use Rattle.fd_words.specs.declared.combine.Combine.{Combine}
use Rattle.fd_words.specs.declared.place.Role.{Role}
use Rattle.fd_words.specs.declared.place.Role.TheVariants as role
use Rattle.fd_words.specs.declared.source.SourcePlace.{SourcePlace}
use Rattle.fd_syntax.specs.declared.expr.Element.{Element}
use Rattle.fd_syntax.specs.declared.expr.Expr.{Expr, Number, Named, Read, Negate', Binary', more_of-Expr, end_of-Expr}
use Rattle.fd_syntax.specs.declared.expr.Subscript.{Subscript}
use Rattle.fd_syntax.specs.declared.expr.Subscript.TheVariants.{Plain, Through, Twice, Scalar}
use Rattle.fd_syntax.specs.declared.program.Program.{Program}
use Rattle.fd_syntax.specs.declared.statement.BodyStatement.{BodyStatement}
use Rattle.fd_syntax.specs.declared.statement.BodyStatement.TheVariants as statement
use Rattle.fd_syntax.specs.declared.statement.Loop.{Loop}
use Rattle.fd_syntax.specs.declared.statement.Statement.{Statement}
use Rattle.fd_syntax.specs.declared.statement.Statement.TheVariants.{Distribute, Print, Do, Forall}
use Rattle.fd_program.specs.declared.reference.Reference.{Reference}
use Rattle.fd_program.specs.declared.scalar.CheckedScalar.{CheckedScalar}
use Rattle.fd_program.specs.declared.site.Site.{Site}
use Rattle.fd_program.specs.Terms.{IsTerm, HasTerms, HaveTerms}
use Rattle.fd_scope.specs.declared.head.Head.{Head}
use Rattle.fd_scope.specs.Heads.{head_of}
use Rattle.fd_scope.specs.Names.{name_eq}
use Rattle.fd_loops.specs.declared.draft.Draft.{Draft}
use Rattle.fd_resolve.specs.declared.marks.Mark.{Mark}
use Rattle.fd_resolve.specs.declared.around.Around.{Around}
use Rattle.fd_checks.specs.declared.walk.Walk.{Walk}
use Rattle.fd_loops.specs.Bodies.{after_expr, behind_target, after_written, after_body}
use Rattle.fd_loops.specs.Drafts.{start_draft, is_crowded, with_reference, is_worn, stamp_in, after_stamp, after_target}
use Rattle.fd_loops.specs.Elements.{after_index, after_own_stamp, after_own, after_element}
use Rattle.fd_resolve.specs.Resolve.{name_resolved, named, array_called}
use Rattle.fd_checks.specs.Walks.{around, site_of, draft_of, after_statement, past_open, step, start, resolved_program}

-- ---- what leaves the names as they are

one_of : (b : Bool) (x y : Draft) (terms : List CheckedScalar) → x.terms ≡ terms → y.terms ≡ terms → (if b then x else y).terms ≡ terms
one_of true x y terms e f = e
one_of false x y terms e f = f

with_reference-terms : (d : Draft) (r : Reference) → (with_reference d r).terms ≡ d.terms
with_reference-terms d r = one_of (is_crowded d) d _ d.terms refl refl

after_index-terms : (h : Head) (a : Around) (d : Draft) (s : Subscript) → (after_index h a d s).terms ≡ d.terms
after_index-terms h a d (Plain add) = refl
after_index-terms h a d (Through index_array at inner_add add) = with_reference-terms d _
after_index-terms h a d (Twice outer at inner inner_at first second add) = with_reference-terms (with_reference d _) _
    ∙ with_reference-terms d _
after_index-terms h a d (Scalar s) = refl

after_stamp-terms : (d : Draft) (decomposition : ℕ) (offset : ℤ) (marks : List Mark) → (after_stamp d decomposition offset marks).terms
    ≡ d.terms
after_stamp-terms d decomposition offset marks =
    one_of (is_some (stamp_in d.stamped decomposition offset marks)) d _ d.terms refl
    (one_of (is_worn d.used decomposition) d _ d.terms refl refl)

pub after_own_stamp-terms : (h : Head) (a : Around) (d : Draft) (s : Subscript) (array : Option ℕ) → (after_own_stamp h a d s array).terms
    ≡ d.terms
after_own_stamp-terms h a d s None = refl
after_own_stamp-terms h a d s (Some array) = after_stamp-terms d _ _ _

after_own-terms : (h : Head) (a : Around) (r : Role) (d : Draft) (e : Element) → (after_own h a r d e).terms ≡ d.terms
after_own-terms h a r d e =
    one_of (is_crowded d) d _ d.terms refl
    (with_reference-terms (after_own_stamp h a d e.subscript (array_called h a e.name)) _
    ∙ after_own_stamp-terms h a d e.subscript (array_called h a e.name))

after_element-terms : (h : Head) (a : Around) (r : Role) (d : Draft) (e : Element) → (after_element h a r d e).terms ≡ d.terms
after_element-terms h a r d e = after_own-terms h a r (after_index h a d e.subscript) e ∙ after_index-terms h a d e.subscript

pub after_target-terms : (d : Draft) (name : List ℕ) (operator : Option Combine) → (after_target d name operator).terms ≡ d.terms
after_target-terms d name operator = one_of (is_crowded d) d _ d.terms refl refl

-- ---- what adds to them

resolved_term : (depth : Option ℕ) (value : Option ℤ) (at : SourcePlace) → IsTerm (name_resolved depth value at)
resolved_term (Some depth) value at = tt
resolved_term None value at = tt

either_terms : (b : Bool) (x y : Draft) → All IsTerm x.terms → All IsTerm y.terms → All IsTerm (if b then x else y).terms
either_terms true x y p q = p
either_terms false x y p q = q

along_same : (xs ys : List CheckedScalar) → ys ≡ xs → All IsTerm xs → All IsTerm ys
along_same xs ys e p = subst (λ (zs : List CheckedScalar). All IsTerm zs) (sym e) p

module _ (h : Head) (a : Around) (index : List ℕ) where
  after_expr-terms : (e : Expr) (d : Draft) → All IsTerm d.terms → All IsTerm (after_expr h a index d e).terms
  after_expr-terms (Number value) d p = p
  after_expr-terms (Named name at) d p =
      either_terms (name_eq name index) d _ p (All-push IsTerm d.terms (named h a name at) p (resolved_term _ _ at))
  after_expr-terms (Read element) d p = along_same d.terms _ (after_element-terms h a role.Read d element) p
  after_expr-terms (Negate' s (more_of-Expr inner end_of-Expr)) d p = after_expr-terms inner d p
  after_expr-terms (Binary' op s (more_of-Expr left end_of-Expr) t (more_of-Expr right end_of-Expr)) d p =
      after_expr-terms right (after_expr h a index d left) (after_expr-terms left d p)

  after_written-terms : (operator : Option Combine) (target : Element) (value : Expr) (d : Draft) → All IsTerm d.terms
      → All IsTerm (after_written h a index operator target value d).terms
  after_written-terms operator target value d p =
      after_expr-terms value (behind_target h a operator d target)
      (along_same d.terms _ (after_element-terms h a role.Target (after_target d target.name operator) target
      ∙ after_target-terms d target.name operator) p)

  after_body-terms : (s : BodyStatement) (d : Draft) → All IsTerm d.terms → All IsTerm (after_body h a index d s).terms
  after_body-terms (statement.Assign target value) d p = after_written-terms None target value d p
  after_body-terms (statement.Reduce operator target value) d p = after_written-terms (Some operator) target value d p

  body_terms : (list : List BodyStatement) (d : Draft) → All IsTerm d.terms → All IsTerm (fold (after_body h a index) d list).terms
  body_terms [] d p = p
  body_terms (s ∷ rest) d p = body_terms rest (after_body h a index d s) (after_body-terms s d p)

-- ---- the statements

pub site_terms : (h : Head) (a : Around) (used : List ℕ) (loop : Loop) → HasTerms (site_of h a loop (draft_of h a used loop))
site_terms h a used loop = body_terms h a loop.index loop.body (start_draft used) (All-nil IsTerm)

-- what holds of each loop as it is resolved holds of all
module _ (P : Site → Type 0) (h : Head)
    (of_loop : (a : Around) (used : List ℕ) (loop : Loop) → P (site_of h a loop (draft_of h a used loop))) where
  statement_all : (w : Walk) (s : Statement) → All P w.sites → All P (after_statement h w s).sites
  statement_all w (Distribute at name name_at form) p = p
  statement_all w (Print at name name_at) p = p
  statement_all w (Do at variable variable_at low high inside) p = p
  statement_all w (Forall loop) p = All-push P w.sites _ p (of_loop (around w loop.at) w.used loop)

  pub walk_all : (list : List Statement) (w : Walk) → All P w.sites → All P (fold (step h) w list).sites
  walk_all [] w p = p
  walk_all (s ∷ rest) w p = walk_all rest (step h w s) (statement_all (past_open w) s p)

pub have_terms : (p : Program) → HaveTerms (resolved_program p).sites
have_terms p = walk_all HasTerms (head_of p) (site_terms (head_of p)) p.statements (start (head_of p)) (All-nil HasTerms)
