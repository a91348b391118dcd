-- What moves between two nodes whose items agree, place by place.
use Rattle.std.proofs.Common.{◌≡◌, ℕ, zero, suc, ◌<◌, ℤ, pos, true, false, cond, ◌&&◌, ◌==◌, List, [], ◌∷◌, ◌++◌, length, map, Option}
use Rattle.std.proofs.Common.{Some, None, unwrap_or, refl, ap, sym, subst, ◌∙◌, arith, length-set}
use Rattle.std.specs.Prelude.{slice_get, slice_set, fold}
use Rattle.std.specs.Ordering.{int_eq}
use Rattle.std.proofs.lemmas.Bool.Decides.{nat_tests}
use Rattle.list_laws.specs.Tests.{same_number, same_when, left_true, right_true}
use Rattle.fd_words.specs.Lists.{list_at}
use Rattle.fd_words.specs.declared.combine.Combine.{Combine}
use Rattle.chaos_sched.specs.declared.item.Item.{Item}
use Rattle.chaos_sched.specs.Agreement.{on_owner}
use Rattle.chaos_move.specs.Moves.{value_at, triple, packed, row_in, put_at, kept, unpacked, packed_combined, operator_at, changed}
use Rattle.chaos_move.specs.Moves.{combined_into, applied}
use Rattle.chaos_move.specs.Arriving.{ghost_after, element_after, GathersArrive, ScattersArrive}

differs : (k : ℕ) → (zero == suc k) ≡ false
differs k = grind (arith, nat_tests)

differs_too : (k : ℕ) → (suc k == zero) ≡ false
differs_too k = grind (arith, nat_tests)

same_next : (i j : ℕ) → (suc i == suc j) ≡ (i == j)
same_next i j = grind (arith, nat_tests)

-- ---- one place after a write

at_set : {A : Type 0} (d : A) (xs : List A) (i j : ℕ) (x : A) → j < length xs → unwrap_or (slice_get (slice_set xs i x) j) d
    ≡ cond (i == j) x (unwrap_or (slice_get xs j) d)
at_set d [] i j x h = absurd (omega arith)
at_set d (y ∷ xs) zero zero x h = sym (ap (λ b. cond b x y) (same_number zero))
at_set d (y ∷ xs) zero (suc j) x h = sym (ap (λ b. cond b x (unwrap_or (slice_get xs j) d)) (differs j))
at_set d (y ∷ xs) (suc i) zero x h = sym (ap (λ b. cond b x y) (differs_too i))
at_set d (y ∷ xs) (suc i) (suc j) x h = at_set d xs i j x (omega arith)
    ∙ sym (ap (λ b. cond b x (unwrap_or (slice_get xs j) d)) (same_next i j))

inside_list : (lists : List (List ℤ)) (array at : ℕ) → at < length (list_at lists array) → array < length lists
inside_list [] array at h = absurd (omega arith)
inside_list (l ∷ lists) zero at h = omega arith
inside_list (l ∷ lists) (suc array) at h = let inner : array < length lists = inside_list lists array at h in omega (arith, inner)

set_length : (lists : List (List ℤ)) (i j : ℕ) (l : List ℤ) → length l ≡ length (list_at lists i)
    → length (list_at (slice_set lists i l) j) ≡ length (list_at lists j)
set_length [] i j l e = refl
set_length (y ∷ lists) zero zero l e = e
set_length (y ∷ lists) zero (suc j) l e = refl
set_length (y ∷ lists) (suc i) zero l e = refl
set_length (y ∷ lists) (suc i) (suc j) l e = set_length lists i j l e

put_length : (lists : List (List ℤ)) (i at j : ℕ) (v : ℤ) → length (list_at (put_at lists i at v) j) ≡ length (list_at lists j)
put_length lists i at j v = set_length lists i j (slice_set (list_at lists i) at v) (length-set (list_at lists i) at v)

value_put : (lists : List (List ℤ)) (i at j place : ℕ) (v : ℤ) → place < length (list_at lists j) → value_at (put_at lists i at v) j place
    ≡ cond ((i == j) && (at == place)) v (value_at lists j place)
value_put lists i at j place v h =
    let new = slice_set (list_at lists i) at v in
    ap (λ l. unwrap_or (slice_get l place) (pos 0)) (at_set [] lists i j new (inside_list lists j place h))
    ∙ elim (i == j) as (λ b. (i == j) ≡ b → unwrap_or (slice_get (cond b new (list_at lists j)) place) (pos 0)
    ≡ cond (b && (at == place)) v (value_at lists j place)) [
      | true ↦ λ e.
          let here : list_at lists i ≡ list_at lists j = ap (list_at lists) (same_when i j e) in
          at_set (pos 0) (list_at lists i) at place v (subst (λ l. place < length l) (sym here) h)
          ∙ ap (λ l. cond (at == place) v (unwrap_or (slice_get l place) (pos 0))) here
      | false ↦ λ e. refl
    ] refl

-- ---- a row names its item

int_same : (k : ℕ) → int_eq (pos k) (pos k) ≡ true
int_same k = grind (arith, nat_tests)

row_is : (i : Item) (v : ℤ) (rest : List ℤ) → row_in i (triple i v ++ rest) ≡ Some v
row_is i v rest =
    ap (λ b. cond (b && int_eq (pos i.element) (pos i.element)) (Some v) None) (int_same i.array)
    ∙ ap (λ b. cond b (Some v) None) (int_same i.element)

-- ---- all items, one after another

pub gathers_arrive : GathersArrive
gathers_arrive pieces ghosts [] array slot h = refl
gathers_arrive pieces ghosts (i ∷ items) array slot h =
    let v = value_at pieces i.array i.local in
    let rows = packed pieces (map on_owner items) in
    let next = put_at ghosts i.array i.slot v in
    ap (λ o. value_at (unpacked rows items (kept i o ghosts)) array slot) (row_is i v rows)
    ∙ gathers_arrive pieces next items array slot (subst (λ n. slot < n) (sym (put_length ghosts i.array i.slot array v)) h)
    ∙ ap (λ z. fold (ghost_after pieces array slot) z items) (value_put ghosts i.array i.slot array slot v h)

-- the value at the item's own place is the one at this place, where they are the same
pub own_old : (operators : List (Option Combine)) (pieces : List (List ℤ)) (i : Item) (v : ℤ) (array local : ℕ)
    → cond ((i.array == array) && (i.local == local)) (changed (operator_at operators i.array) (value_at pieces i.array i.local) v)
    (value_at pieces array local)
    ≡ cond ((i.array == array) && (i.local == local)) (changed (operator_at operators i.array) (value_at pieces array local) v)
    (value_at pieces array local)
own_old operators pieces i v array local =
    let change = λ (z : ℤ). changed (operator_at operators i.array) z v in
    elim ((i.array == array) && (i.local == local)) as (λ b. ((i.array == array) && (i.local == local)) ≡ b
    → cond b (change (value_at pieces i.array i.local)) (value_at pieces array local) ≡ cond b (change (value_at pieces array local))
    (value_at pieces array local)) [
      | true ↦ λ e.
          ap change (ap (λ a. value_at pieces a i.local) (same_when i.array array (left_true (i.array == array) (i.local == local) e))
          ∙ ap (value_at pieces array) (same_when i.local local (right_true (i.array == array) (i.local == local) e)))
      | false ↦ λ e. refl
    ] refl

pub scatters_arrive : ScattersArrive
scatters_arrive operators pending pieces [] array local h = refl
scatters_arrive operators pending pieces (i ∷ items) array local h =
    let v = value_at pending i.array i.slot in
    let new = changed (operator_at operators i.array) (value_at pieces i.array i.local) v in
    let rows = packed_combined pending items in
    ap (λ o. value_at (applied operators rows (map on_owner items) (combined_into operators (on_owner i) o pieces)) array local)
    (row_is i v rows)
    ∙ scatters_arrive operators pending (put_at pieces i.array i.local new) items array local
    (subst (λ n. local < n) (sym (put_length pieces i.array i.local array new)) h)
    ∙ ap (λ z. fold (element_after operators pending array local) z items)
    (value_put pieces i.array i.local array local new h ∙ own_old operators pieces i v array local)
