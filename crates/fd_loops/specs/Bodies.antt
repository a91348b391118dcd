-- Expressions and statements in the body of a FORALL. The draft goes from each part to the next in the order of the text.
use denote.Hole.Carrier.{hidden}
use Rattle.fd_syntax.specs.declared.expr.Expr.TheBlock.{shape-the_row-Expr-0, hidden-the_row-Expr-0}
use Rattle.fd_program.specs.declared.body.CheckedExpr.TheBlock.{shape-the_row-CheckedExpr-0, hidden-the_row-CheckedExpr-0}
use Rattle.std.specs.Prelude.{◌≡◌, refl, ℕ, Bool, true, false, not, if◌then◌else◌, List, [], ◌∷◌, ◌++◌, length, Option, Some, None}
use Rattle.fd_words.specs.declared.combine.Combine.{Combine}
use Rattle.fd_words.specs.declared.place.Role.TheVariants as role
use Rattle.fd_words.specs.declared.source.SourcePlace.{SourcePlace}
use Rattle.fd_words.specs.declared.source.SourceCause.TheVariants as cause
use Rattle.fd_words.specs.declared.source.SourceFault.{SourceFault}
use Rattle.fd_words.specs.declared.arith.Arith.{Arith}
use Rattle.fd_syntax.specs.declared.expr.Element.{Element}
use Rattle.fd_syntax.specs.declared.expr.Expr.{Expr, Number, Named, Read, Negate', Binary', more_of-Expr, end_of-Expr}
use Rattle.fd_syntax.specs.declared.expr.Expr as expr
use Rattle.fd_syntax.specs.declared.expr.Subscript.{Subscript}
use Rattle.fd_syntax.specs.declared.expr.Subscript.TheVariants.{Plain, Through, Twice, Scalar}
use Rattle.fd_syntax.specs.declared.statement.BodyStatement.{BodyStatement}
use Rattle.fd_syntax.specs.declared.statement.BodyStatement.TheVariants as statement
use Rattle.fd_program.specs.declared.body.CheckedBody.{CheckedBody}
use Rattle.fd_program.specs.declared.body.CheckedBody.TheVariants as body
use Rattle.fd_program.specs.declared.body.CheckedExpr as checked
use Rattle.fd_scope.specs.declared.head.Head.{Head}
use Rattle.fd_scope.specs.Faults.{fault_if}
use Rattle.fd_scope.specs.Names.{name_eq}
use Rattle.fd_loops.specs.declared.draft.Draft.{Draft}
use Rattle.fd_resolve.specs.declared.around.Around.{Around}
use Rattle.fd_loops.specs.Drafts.{after_target, clash_faults}
use Rattle.fd_loops.specs.Elements.{after_element, element_number, element_faults}
use Rattle.fd_resolve.specs.Resolve.{named, scalar_unknown}

-- ---- expressions; in them the index of the FORALL is known too

abbrev pub after_name : Head → Around → List ℕ → Draft → List ℕ → SourcePlace → Draft
after_name h a index d name at = if name_eq name index then d else record d { terms = d.terms ++ named h a name at ∷ [] }

abbrev pub name_value : List ℕ → Draft → List ℕ → checked.CheckedExpr
name_value index d name = if name_eq name index then checked.Index else checked.Term (length d.terms)

abbrev pub value_unknown : Head → Around → List ℕ → List ℕ → SourcePlace → List SourceFault
value_unknown h a index name at = if name_eq name index then [] else scalar_unknown h a name at

abbrev pub after_expr : Head → Around → List ℕ → Draft → Expr → Draft
after_expr h a index d (Number value) = d
after_expr h a index d (Named name at) = after_name h a index d name at
after_expr h a index d (Read element) = after_element h a role.Read d element
after_expr h a index d (Negate' s (more_of-Expr inner end_of-Expr)) = after_expr h a index d inner
after_expr h a index d (Binary' op s (more_of-Expr left end_of-Expr) t (more_of-Expr right end_of-Expr)) =
    after_expr h a index (after_expr h a index d left) right

abbrev pub resolved_expr : Head → Around → List ℕ → Draft → Expr → checked.CheckedExpr
resolved_expr h a index d (Number value) = checked.Number value
resolved_expr h a index d (Named name at) = name_value index d name
resolved_expr h a index d (Read element) = checked.Read (element_number h a d element)
resolved_expr h a index d (Negate' s (more_of-Expr inner end_of-Expr)) =
    checked.Negate' tt (checked.more_of-CheckedExpr (resolved_expr h a index d inner) checked.end_of-CheckedExpr)
resolved_expr h a index d (Binary' op s (more_of-Expr left end_of-Expr) t (more_of-Expr right end_of-Expr)) =
    checked.Binary' op tt (checked.more_of-CheckedExpr (resolved_expr h a index d left) checked.end_of-CheckedExpr)
    tt (checked.more_of-CheckedExpr (resolved_expr h a index (after_expr h a index d left) right) checked.end_of-CheckedExpr)

abbrev pub expr_faults : Head → Around → List ℕ → Draft → Expr → List SourceFault
expr_faults h a index d (Number value) = []
expr_faults h a index d (Named name at) = value_unknown h a index name at
expr_faults h a index d (Read element) = element_faults h a d element
expr_faults h a index d (Negate' s (more_of-Expr inner end_of-Expr)) = expr_faults h a index d inner
expr_faults h a index d (Binary' op s (more_of-Expr left end_of-Expr) t (more_of-Expr right end_of-Expr)) =
    expr_faults h a index d left ++ expr_faults h a index (after_expr h a index d left) right

-- ---- statements: assigned, or reduced with an operator

abbrev pub is_plain : Subscript → Bool
is_plain (Plain add) = true
is_plain (Through index_array at inner_add add) = false
is_plain (Twice outer at inner inner_at first second add) = false
is_plain (Scalar s) = false

-- AssignThroughIndex: an assigned target without a plain subscript
abbrev pub plain_faults : Option Combine → Element → List SourceFault
plain_faults None target = fault_if (not (is_plain target.subscript)) target.at cause.AssignThroughIndex
plain_faults (Some operator) target = []

abbrev pub checked_body : Option Combine → ℕ → checked.CheckedExpr → CheckedBody
checked_body None target value = body.Assign target value
checked_body (Some operator) target value = body.Reduce operator target value

-- the draft behind a statement's target
abbrev pub behind_target : Head → Around → Option Combine → Draft → Element → Draft
behind_target h a operator d target = after_element h a role.Target (after_target d target.name operator) target

abbrev pub with_body : Draft → CheckedBody → Draft
with_body d s = record d { body = d.body ++ s ∷ [] }

abbrev pub after_written : Head → Around → List ℕ → Option Combine → Element → Expr → Draft → Draft
after_written h a index operator target value d =
    with_body (after_expr h a index (behind_target h a operator d target) value)
    (checked_body operator (element_number h a (after_target d target.name operator) target)
    (resolved_expr h a index (behind_target h a operator d target) value))

abbrev pub written_faults : Head → Around → List ℕ → Option Combine → Element → Expr → Draft → List SourceFault
written_faults h a index operator target value d =
    plain_faults operator target
    ++ (clash_faults d.targets target.name operator target.at
    ++ (element_faults h a (after_target d target.name operator) target
    ++ expr_faults h a index (behind_target h a operator d target) value))

abbrev pub after_body : Head → Around → List ℕ → Draft → BodyStatement → Draft
after_body h a index d (statement.Assign target value) = after_written h a index None target value d
after_body h a index d (statement.Reduce operator target value) = after_written h a index (Some operator) target value d

abbrev pub body_faults : Head → Around → List ℕ → Draft → BodyStatement → List SourceFault
body_faults h a index d (statement.Assign target value) = written_faults h a index None target value d
body_faults h a index d (statement.Reduce operator target value) = written_faults h a index (Some operator) target value d

-- ---- the same, at the variants as code writes them

pub after_expr-Negate : (h : Head) (a : Around) (index : List ℕ) (d : Draft) (inner : Expr) → after_expr h a index d (expr.Negate inner)
    ≡ after_expr h a index d inner
unfolding shape-the_row-Expr-0 hidden-the_row-Expr-0 hidden
after_expr-Negate h a index d inner = refl

pub after_expr-Binary : (h : Head) (a : Around) (index : List ℕ) (d : Draft) (op : Arith) (left right : Expr)
    → after_expr h a index d (expr.Binary op left right) ≡ after_expr h a index (after_expr h a index d left) right
unfolding shape-the_row-Expr-0 hidden-the_row-Expr-0 hidden
after_expr-Binary h a index d op left right = refl

pub resolved_expr-Negate : (h : Head) (a : Around) (index : List ℕ) (d : Draft) (inner : Expr)
    → resolved_expr h a index d (expr.Negate inner) ≡ checked.Negate (resolved_expr h a index d inner)
unfolding shape-the_row-Expr-0 hidden-the_row-Expr-0 shape-the_row-CheckedExpr-0 hidden-the_row-CheckedExpr-0 hidden
resolved_expr-Negate h a index d inner = refl

pub resolved_expr-Binary : (h : Head) (a : Around) (index : List ℕ) (d : Draft) (op : Arith) (left right : Expr)
    → resolved_expr h a index d (expr.Binary op left right)
    ≡ checked.Binary op (resolved_expr h a index d left) (resolved_expr h a index (after_expr h a index d left) right)
unfolding shape-the_row-Expr-0 hidden-the_row-Expr-0 shape-the_row-CheckedExpr-0 hidden-the_row-CheckedExpr-0 hidden
resolved_expr-Binary h a index d op left right = refl

pub expr_faults-Negate : (h : Head) (a : Around) (index : List ℕ) (d : Draft) (inner : Expr) → expr_faults h a index d (expr.Negate inner)
    ≡ expr_faults h a index d inner
unfolding shape-the_row-Expr-0 hidden-the_row-Expr-0 hidden
expr_faults-Negate h a index d inner = refl

pub expr_faults-Binary : (h : Head) (a : Around) (index : List ℕ) (d : Draft) (op : Arith) (left right : Expr)
    → expr_faults h a index d (expr.Binary op left right) ≡ expr_faults h a index d left ++ expr_faults h a index
    (after_expr h a index d left) right
unfolding shape-the_row-Expr-0 hidden-the_row-Expr-0 hidden
expr_faults-Binary h a index d op left right = refl
