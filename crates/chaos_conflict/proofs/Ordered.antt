-- What a sort leaves is the rows in order.
use Rattle.std.proofs.Common.{Less, ◌≡◌, Bool, true, false, ◌||◌, List, [], ◌∷◌, refl, ap, sym, ◌∙◌, inl, inr, true≢false}
use Rattle.std.specs.List.{AllByRecursion, list_any}
use Rattle.std.specs.List.Sorted.{IsStrictlySortedBy}
use Rattle.std.specs.Ordering.{eq_by_cmp, is_eq}
use Rattle.std.specs.Cmp.{Equal-is, tied_itself, both_ways}
use Rattle.list_laws.specs.Order.{ascending}
use Rattle.list_laws.proofs.Once.{ascending-unique}
use Rattle.chaos_conflict.specs.declared.row.Row.{Row}
use Rattle.chaos_conflict.specs.Rows.{is_before, in_order}
use Rattle.chaos_conflict.specs.Clashes.{Among}
use Rattle.chaos_conflict.specs.Orders as orders
use Rattle.chaos_conflict.specs.RowLaws.{row_cmp, row_cmp_total, row_cmp-IsAntisymmetric, before_is, IsAscending, rows_are_in_order}

each : (x : Row) (ys : List Row) → AllByRecursion (λ y. is_before x y ≡ true) ys → AllByRecursion (λ y. row_cmp x y ≡ Less) ys
each x [] h = tt
each x (y ∷ ys) h = (orders.less_is row_cmp row_cmp_total is_before before_is x y h.0, each x ys h.1)

sorted : (rows : List Row) → IsAscending rows → IsStrictlySortedBy row_cmp rows
unfolding IsStrictlySortedBy
sorted [] h = tt
sorted (x ∷ rows) h = (each x rows h.0, sorted rows h.1)

any_among : (q : Row) (rows : List Row) → list_any (eq_by_cmp row_cmp q) rows ≡ true → Among q rows
any_among q [] e = absurd (true≢false (sym e))
any_among q (x ∷ rows) e = by (eq_by_cmp row_cmp q x) refl e (any_among q rows)
  where
    by : (b : Bool) → eq_by_cmp row_cmp q x ≡ b → (b || list_any (eq_by_cmp row_cmp q) rows) ≡ true
        → (list_any (eq_by_cmp row_cmp q) rows ≡ true → Among q rows) → Among q (x ∷ rows)
    by true same e more = inl (row_cmp-IsAntisymmetric q x ((Equal-is (row_cmp q x)).0 same))
    by false other e more = inr (more e)

among_any : (q : Row) (rows : List Row) → Among q rows → list_any (eq_by_cmp row_cmp q) rows ≡ true
among_any q [] a = absurd a
among_any q (x ∷ rows) (inl e) =
    ap (λ b. b || list_any (eq_by_cmp row_cmp q) rows) (ap (λ y. is_eq (row_cmp q y)) (sym e) ∙ ap is_eq (tied_itself row_cmp_total q))
among_any q (x ∷ rows) (inr a) = either (eq_by_cmp row_cmp q x) (list_any (eq_by_cmp row_cmp q) rows) (among_any q rows a)
  where
    either : (b m : Bool) → m ≡ true → (b || m) ≡ true
    either true m e = refl
    either false m e = e

pub ascending_is : (rows : List Row) → ascending row_cmp rows ≡ in_order rows
ascending_is rows =
    let order = rows_are_in_order rows in
    sym (ascending-unique row_cmp row_cmp_total row_cmp-IsAntisymmetric rows (in_order rows) (sorted (in_order rows) order.ascends)
    (λ q. both_ways (list_any (eq_by_cmp row_cmp q) (in_order rows)) (list_any (eq_by_cmp row_cmp q) rows)
    (λ e. among_any q rows (order.same.0 q (any_among q (in_order rows) e)))
    (λ e. among_any q (in_order rows) (order.same.1 q (any_among q rows e)))))
