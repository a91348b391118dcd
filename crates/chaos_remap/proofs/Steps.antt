-- Lists made one by one.
use Rattle.std.proofs.Common.{◌≡◌, ℕ, suc, ◌+◌, ◌-◌, ◌≤◌, ℤ, pos, List, [], ◌∷◌, ◌++◌, map, ap, sym, ◌∙◌, arith, append_assoc, append-nil}
use Rattle.std.specs.List.{flat_map, range_with_len}
use Rattle.std.proofs.lemmas.Grind.{flat_map-append}
use Rattle.std.proofs.lemmas.List.FromFn.{map-range_with_len_more}
use Rattle.fd_words.specs.declared.place.Place.{Place}
use Rattle.fd_words.specs.Lists.{pushed_at}
use Rattle.chaos_dist.specs.Counting.{below-last}
use Rattle.list_laws.specs.Dealt.{dealt, dealt-more}
use Rattle.chaos_remap.specs.Remapping.{new_owner}

pub range_last : (n : ℕ) → range_with_len 0 (n + 1) ≡ range_with_len 0 n ++ n ∷ []
range_last n = let e : n + 1 ≡ suc n = omega arith in ap (range_with_len 0) e ∙ below-last n

pub plan_more : (places : List Place) (nodes at owner : ℕ) (before after : List (List ℤ)) → before ≡ dealt (new_owner places) pos nodes
    (range_with_len 0 at)
    → after ≡ pushed_at before owner (pos at) → owner ≡ new_owner places at → after ≡ dealt (new_owner places) pos nodes
    (range_with_len 0 (at + 1))
plan_more places nodes at owner before after so_far push is =
    push
    ∙ ap (λ l. pushed_at l owner (pos at)) so_far
    ∙ ap (λ o. pushed_at (dealt (new_owner places) pos nodes (range_with_len 0 at)) o (pos at)) is
    ∙ dealt-more (new_owner places) pos nodes (range_with_len 0 at) at
    ∙ ap (dealt (new_owner places) pos nodes) (sym (range_last at))

pub row_more : {B : Type 0} (f : ℕ → B) (n : ℕ) (start before after : List B) (x : B) → before ≡ start ++ map f (range_with_len 0 n)
    → after ≡ before ++ x ∷ [] → x ≡ f n
    → after ≡ start ++ map f (range_with_len 0 (n + 1))
row_more f n start before after x so_far push is =
    push
    ∙ ap (λ l. l ++ x ∷ []) so_far
    ∙ append_assoc start (map f (range_with_len 0 n)) (x ∷ [])
    ∙ ap (λ y. start ++ (map f (range_with_len 0 n) ++ y ∷ [])) is
    ∙ ap (λ l. start ++ l) (sym (map-range_with_len_more f 0 n n (omega arith)))

pub letter_more : {B : Type 0} (f : ℕ → List B) (n : ℕ) (before after piece : List B) → before ≡ flat_map f (range_with_len 0 n)
    → after ≡ before ++ piece → piece ≡ f n
    → after ≡ flat_map f (range_with_len 0 (n + 1))
letter_more f n before after piece so_far push is =
    push
    ∙ ap (λ l. l ++ piece) so_far
    ∙ ap (λ y. flat_map f (range_with_len 0 n) ++ y) (is ∙ sym (append-nil (f n)))
    ∙ sym (flat_map-append f (range_with_len 0 n) (n ∷ []))
    ∙ ap (flat_map f) (sym (range_last n))

pub column_more : {B : Type 0} (f : ℕ → B) (k : ℕ) (before after : List B) (x : B) → 1 ≤ k → before ≡ map f (range_with_len 1 (k - 1))
    → after ≡ before ++ x ∷ [] → x ≡ f k
    → after ≡ map f (range_with_len 1 (k + 1 - 1))
column_more f k before after x some so_far push is =
    let e : k - 1 + 1 ≡ k + 1 - 1 = omega arith in
    push
    ∙ ap (λ l. l ++ x ∷ []) so_far
    ∙ ap (λ y. map f (range_with_len 1 (k - 1)) ++ y ∷ []) is
    ∙ sym (map-range_with_len_more f 1 (k - 1) k (omega arith))
    ∙ ap (λ n. map f (range_with_len 1 n)) e
