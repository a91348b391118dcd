-- A write that is taken back.
use Rattle.std.proofs.Common.{◌≡◌, ℕ, suc, zero, ℤ, List, [], ◌∷◌, ◌++◌, refl, ap, ◌∙◌}
use Rattle.std.specs.Prelude.{slice_set}
use Rattle.chaos_move.specs.Moves.{number_at, put_at, value_at}
use Rattle.chaos_move.specs.declared.undo.Kept.{Kept}
use Rattle.chaos_move.specs.Undoing.{put_back, taken_back}

number_back : (xs : List ℤ) (at : ℕ) (value : ℤ) → slice_set (slice_set xs at value) at (number_at xs at) ≡ xs
number_back [] at value = refl
number_back (x ∷ xs) zero value = refl
number_back (x ∷ xs) (suc at) value = ap (λ (z : List ℤ). x ∷ z) (number_back xs at value)

pub put_is_back : (lists : List (List ℤ)) (list at : ℕ) (value : ℤ) → put_at (put_at lists list at value) list at (value_at lists list at)
    ≡ lists
put_is_back [] list at value = refl
put_is_back (x ∷ xs) zero at value = ap (λ (z : List ℤ). z ∷ xs) (number_back x at value)
put_is_back (x ∷ xs) (suc list) at value = ap (λ (z : List (List ℤ)). x ∷ z) (put_is_back xs list at value)

pub back_last : (kept : List Kept) (k : Kept) (lists : List (List ℤ)) → taken_back (kept ++ k ∷ []) lists
    ≡ taken_back kept (put_back k lists)
back_last [] k lists = refl
back_last (x ∷ kept) k lists = ap (put_back x) (back_last kept k lists)

-- one write more
pub write_back : (kept : List Kept) (k : Kept) (before after : List (List ℤ)) (list at : ℕ) (value : ℤ) → k.list ≡ list → k.at ≡ at
    → k.old ≡ value_at before list at → after ≡ put_at before list at value → taken_back (kept ++ k ∷ []) after ≡ taken_back kept before
write_back kept k before after list at value el ea old step =
    back_last kept k after
    ∙ ap (λ (z : List (List ℤ)). taken_back kept (put_at z k.list k.at k.old)) step
    ∙ ap (λ (z : ℕ). taken_back kept (put_at (put_at before list at value) z k.at k.old)) el
    ∙ ap (λ (z : ℕ). taken_back kept (put_at (put_at before list at value) list z k.old)) ea
    ∙ ap (λ (z : ℤ). taken_back kept (put_at (put_at before list at value) list at z)) old
    ∙ ap (taken_back kept) (put_is_back before list at value)
