-- Lists handed on from the last to the first.
use Rattle.std.specs.Prelude.{◌≡◌, ◌≢◌, refl, ℕ, suc, ◌+◌, ◌≤◌, ◌<◌, ℤ, Bool, true, false, cond, List, [], ◌∷◌, ◌++◌, length, map, filter}
use Rattle.std.specs.List.{range_with_len}
use Rattle.std.proofs.Common.{ap, sym, ◌∙◌, arith, append-nil, append_assoc}
use Rattle.std.proofs.lemmas.Bool.Decides.{nat_tests}
use Rattle.std.proofs.lemmas.List.{length-append}
use Rattle.fd_words.specs.Lists.{list_at}
use Rattle.chaos_letter.specs.declared.letter.Letter.{Letter}
use Rattle.bsp_desk.specs.Picks.{picked}
use Rattle.bsp_desk.specs.Ways.{sends}
use Rattle.bsp_desk.specs.declared.way.Way.TheVariants.{ToAll}
use Rattle.append_node.specs.Telling.{rows_told}

-- the lists behind those of `rest` were handed on, and that of `me` is kept
pub record HandedFrom (lists : List (List ℤ)) (me round : ℕ) (rest : List (List ℤ)) (own : List ℤ) (next : List (ℕ × Letter)) : Type 0 where
  pub done : List (List ℤ)
  pub is : rest ++ done ≡ lists
  pub kept : length rest ≤ me → own ≡ list_at lists me
  pub handed : next ≡ picked (λ q. rows_told round (list_at lists q)) (λ q. sends ToAll me q) (length rest) (length done)

list_between : {X : Type 0} (xs ys : List (List X)) (x : List X) → list_at (xs ++ x ∷ ys) (length xs) ≡ x
list_between [] ys x = refl
list_between (y ∷ xs) ys x = list_between xs ys x

pub none_handed : (lists : List (List ℤ)) (me round : ℕ) (rest : List (List ℤ)) (own : List ℤ) (next : List (ℕ × Letter)) → rest ≡ lists
    → me < length lists → next ≡ []
    → HandedFrom lists me round rest own next
none_handed lists me round rest own next e low none = record {
  done = [];
  is = append-nil rest ∙ e;
  kept = λ l. absurd (omega (arith, l, low, ap length e));
  handed = none;
}

module _ (lists : List (List ℤ)) (me round : ℕ) (rest new : List (List ℤ)) (list : List ℤ) (own : List ℤ) (next : List (ℕ × Letter))
    (more : rest ≡ new ++ list ∷ []) (h : HandedFrom lists me round rest own next) where
  all : new ++ list ∷ h.done ≡ lists
  all = sym (append_assoc new (list ∷ []) h.done) ∙ ap (λ l. l ++ h.done) (sym more) ∙ h.is

  here : list_at lists (length new) ≡ list
  here = ap (λ l. list_at l (length new)) (sym all) ∙ list_between new h.done list

  long : length rest ≡ length new + 1
  long = ap length more ∙ length-append new (list ∷ [])

  one : length (list ∷ h.done) ≡ suc (length h.done)
  one = refl

  abbrev f : ℕ → Letter
  f q = rows_told round (list_at lists q)

  abbrev goes : ℕ → Bool
  goes q = sends ToAll me q

  picked_first : (b : Bool) → goes (length new) ≡ b
      → picked f goes (length new) (suc (length h.done))
      ≡ map (λ q. (q, f q)) (cond b (length new ∷ filter goes (range_with_len (length new + 1) (length h.done)))
      (filter goes (range_with_len (length new + 1) (length h.done))))
  picked_first b e =
      ap (λ b. map (λ q. (q, f q)) (cond b (length new ∷ filter goes (range_with_len (length new + 1) (length h.done)))
      (filter goes (range_with_len (length new + 1) (length h.done))))) e

  behind : next ≡ picked f goes (length new + 1) (length h.done)
  behind = h.handed ∙ ap (λ n. picked f goes n (length h.done)) long

  pub one_handed : (letter : Letter) (after : List (ℕ × Letter)) → goes (length new) ≡ true → letter ≡ rows_told round list
      → after ≡ (length new, letter) ∷ next → HandedFrom lists me round new own after
  one_handed letter after e is put = record {
    done = list ∷ h.done;
    is = all;
    kept = λ low. h.kept (still low);
    handed = put
        ∙ ap (λ (x : Letter). (length new, x) ∷ next) (is ∙ ap (rows_told round) (sym here))
        ∙ ap (λ (l : List (ℕ × Letter)). (length new, f (length new)) ∷ l) behind
        ∙ sym (picked_first true e);
  }
    where
      apart : (me n : ℕ) → sends ToAll me n ≡ true → me ≢ n
      apart me n e f = grind (arith, nat_tests)

      still : length new ≤ me → length rest ≤ me
      still low = omega (arith, low, long, apart me (length new) e)

  pub one_kept : (after : List ℤ) → goes (length new) ≡ false → after ≡ list → HandedFrom lists me round new after next
  one_kept after e is = record {
    done = list ∷ h.done;
    is = all;
    kept = λ low. is ∙ sym here ∙ ap (list_at lists) (sym (same me (length new) e));
    handed = behind ∙ sym (picked_first false e);
  }
    where
      same : (me n : ℕ) → sends ToAll me n ≡ false → me ≡ n
      same me n e = grind (arith, nat_tests)

nothing_in : {X : Type 0} (xs : List X) → length xs ≡ 0 → xs ≡ []
nothing_in [] e = refl
nothing_in (x ∷ xs) e = absurd (some (length xs) e)
  where
    some : (n : ℕ) → suc n ≡ 0 → ⊥
    some n e = omega (arith, e)

pub all_handed : (lists : List (List ℤ)) (me round : ℕ) (rest : List (List ℤ)) (own : List ℤ) (next : List (ℕ × Letter)) → length rest ≡ 0
    → HandedFrom lists me round rest own next
    → (own ≡ list_at lists me) × (next ≡ picked (λ q. rows_told round (list_at lists q)) (λ q. sends ToAll me q) 0 (length lists))
all_handed lists me round rest own next none h =
    let same : h.done ≡ lists = ap (λ l. l ++ h.done) (sym (nothing_in rest none)) ∙ h.is in (
      h.kept (omega (arith, none)),
      h.handed
          ∙ ap (λ n. picked (λ q. rows_told round (list_at lists q)) (λ q. sends ToAll me q) n (length h.done)) none
          ∙ ap (λ l. picked (λ q. rows_told round (list_at lists q)) (λ q. sends ToAll me q) 0 (length l)) same,
    )
