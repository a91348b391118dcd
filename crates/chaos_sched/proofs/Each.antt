-- A list made one by one, and the rows of an ask.
use Rattle.std.proofs.Common.{◌≡◌, ℕ, ◌+◌, ℤ, List, [], ◌∷◌, ◌++◌, map, ap, sym, ◌∙◌, arith}
use Rattle.std.specs.List.{flat_map, range_with_len}
use Rattle.std.proofs.lemmas.List.FromFn.{map-range_with_len_more}
use Rattle.chaos_sched.specs.declared.item.Item.{Item}
use Rattle.chaos_sched.specs.Scheduled.{ask_row}

pub one_more : {B : Type 0} (f : ℕ → B) (n : ℕ) (before after : List B) (x : B) → before ≡ map f (range_with_len 0 n)
    → after ≡ before ++ x ∷ [] → x ≡ f n → after ≡ map f (range_with_len 0 (n + 1))
one_more f n before after x so_far push is =
    push ∙ ap (λ l. l ++ x ∷ []) so_far ∙ ap (λ y. map f (range_with_len 0 n) ++ y ∷ []) is
    ∙ sym (map-range_with_len_more f 0 n n (omega arith))

pub both_parts : (start middle end : List ℤ) (xs ys reads targets : List Item) → start ≡ [] → middle ≡ start ++ flat_map (ask_row 0) xs
    → end ≡ middle ++ flat_map (ask_row 1) ys
    → xs ≡ reads → ys ≡ targets → end ≡ flat_map (ask_row 0) reads ++ flat_map (ask_row 1) targets
both_parts start middle end xs ys reads targets none first second here there =
    second
    ∙ ap (λ l. l ++ flat_map (ask_row 1) ys) (first ∙ ap (λ l. l ++ flat_map (ask_row 0) xs) none)
    ∙ ap (λ l. flat_map (ask_row 0) l ++ flat_map (ask_row 1) ys) here
    ∙ ap (λ l. flat_map (ask_row 0) reads ++ flat_map (ask_row 1) l) there
