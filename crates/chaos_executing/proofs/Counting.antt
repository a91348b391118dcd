-- How many numbers letters have, and how many elements are gathered and scattered.
use Rattle.std.proofs.Common.{◌≡◌, ℕ, ◌+◌, ◌*◌, ℤ, List, [], ◌∷◌, length, map, refl, ap, sym, ◌∙◌, arith}
use Rattle.std.specs.Prelude.{sum_by}
use Rattle.std.specs.List.{AllZip, flat_map}
use Rattle.std.proofs.lemmas.List.Sums.{sum_by-cons}
use Rattle.chaos_dist.specs.Counting.{below}
use Rattle.fd_program.specs.Cells.{Cell}
use Rattle.fd_program.specs.Homes.{needed_of, given_of}
use Rattle.chaos_sched.specs.declared.item.Item.{Item}
use Rattle.plan_tables.specs.Fits.{IsOwn, IsOther}
use Rattle.plan_loop.specs.LoopLetters.{row_for, value_before, value_given}
use Rattle.chaos_execute.proofs.Ready.{row_count}
use Rattle.chaos_executing.specs.Counts.{GatherHasCounts, ScatterHasCounts, CountsAreReported}

rows_counted : (R : Cell → Item → Type 0) (value : ℕ → Cell → ℤ) (cells : ℕ → List Cell) (qs : List ℕ) (lists : List (List Item))
    → AllZip (λ q items. AllZip R (cells q) items) qs lists
    → map (λ items. 3 * length items) lists ≡ map (λ q. length (flat_map (row_for (value q)) (cells q))) qs
rows_counted R value cells [] [] h = refl
rows_counted R value cells [] (l ∷ lists) h = absurd h
rows_counted R value cells (q ∷ qs) [] h = absurd h
rows_counted R value cells (q ∷ qs) (items ∷ lists) h =
    ap (λ n. n ∷ map (λ (items : List Item). 3 * length items) lists) (sym (row_count R (value q) (cells q) items h.0))
    ∙ ap (λ l. length (flat_map (row_for (value q)) (cells q)) ∷ l) (rows_counted R value cells qs lists h.1)

same_length : {A B : Type 0} (R : A → B → Type 0) (xs : List A) (ys : List B) → AllZip R xs ys → length ys ≡ length xs
same_length R [] [] h = refl
same_length R [] (y ∷ ys) h = absurd h
same_length R (x ∷ xs) [] h = absurd h
same_length R (x ∷ xs) (y ∷ ys) h = let rest = same_length R xs ys h.1 in omega (arith, rest)

same_total : (R : Cell → Item → Type 0) (cells : ℕ → List Cell) (qs : List ℕ) (lists : List (List Item))
    → AllZip (λ q items. AllZip R (cells q) items) qs lists
    → sum_by (λ items. length items) lists ≡ sum_by (λ q. length (cells q)) qs
same_total R cells [] [] h = refl
same_total R cells [] (l ∷ lists) h = absurd h
same_total R cells (q ∷ qs) [] h = absurd h
same_total R cells (q ∷ qs) (items ∷ lists) h =
    let first = same_length R (cells q) items h.0 in
    let rest = same_total R cells qs lists h.1 in
    sum_by-cons (λ (items : List Item). length items) items lists
    ∙ ap (λ n. n + sum_by (λ (items : List Item). length items) lists) first
    ∙ ap (λ n. length (cells q) + n) rest
    ∙ sym (sum_by-cons (λ q. length (cells q)) q qs)

pub gather_has_counts : GatherHasCounts
gather_has_counts f owners store slots p kept fits =
    rows_counted (IsOther f owners slots) (λ q. value_before store) (λ q. needed_of f owners store p q) (below f.nodes)
    kept.schedule.gather_fetch fits.gather_fetch

pub scatter_has_counts : ScatterHasCounts
scatter_has_counts f owners store slots p kept fits =
    rows_counted (IsOwn f owners) (λ q. value_given f owners store q) (λ q. given_of f owners store q p) (below f.nodes)
    kept.schedule.scatter_take fits.scatter_take

pub counts_are_reported : CountsAreReported
counts_are_reported f owners store slots p kept fits = (
  same_total (IsOther f owners slots) (λ q. needed_of f owners store p q) (below f.nodes) kept.schedule.gather_fetch fits.gather_fetch,
  same_total (IsOther f owners slots) (λ q. given_of f owners store p q) (below f.nodes) kept.schedule.scatter_send fits.scatter_send,
)
