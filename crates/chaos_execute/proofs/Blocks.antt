-- Columns: lists of a value at each iteration of a block.
use Rattle.std.proofs.Common.{◌≡◌, ℕ, suc, ◌+◌, ◌<◌, ℤ, pos, List, [], ◌∷◌, ◌++◌, length, map, take, drop, get_or, set, refl, ap, sym}
use Rattle.std.proofs.Common.{◌∙◌, arith, append_assoc}
use Rattle.std.specs.Prelude.{slice_get, Option, Some, None}
use Rattle.std.specs.Option.{option_map}
use Rattle.std.proofs.lemmas.List.{drop_more, take_more_set, drop-set-lt}
use Rattle.fd_words.specs.Value.{wrapped}
use Rattle.fd_words.specs.declared.arith.Arith.{Arith}
use Rattle.fd_words.specs.Operators.{exactly}
use Rattle.chaos_sched.specs.declared.local_ref.LocalRef.{LocalRef}
use Rattle.chaos_sched.specs.declared.local_ref.LocalRef.TheVariants.{Here, Ghost}
use Rattle.fd_words.specs.Lists.{list_at}
use Rattle.chaos_execute.specs.declared.seat.Seat.{Seat}
use Rattle.chaos_execute.specs.Columns.{over, paired, read_column, value_in, seated_column}
use Rattle.chaos_execute.specs.Seats.{seat_at, located_by, value_from}
use Rattle.chaos_execute.proofs.References.{found_at}

pub over_constant : (v : ℤ) (width : ℕ) (iterations : List ℤ) (row : List LocalRef) → over (λ i r. v) width iterations row
    ≡ map (λ i. v) iterations
over_constant v width [] row = refl
over_constant v width (i ∷ iterations) row = ap (λ l. v ∷ l) (over_constant v width iterations (drop width row))

pub over_index : (width : ℕ) (iterations : List ℤ) (row : List LocalRef) → over (λ i r. i) width iterations row ≡ iterations
over_index width [] row = refl
over_index width (i ∷ iterations) row = ap (λ l. i ∷ l) (over_index width iterations (drop width row))

pub over_map : (f : ℤ → List LocalRef → ℤ) (g : ℤ → ℤ) (width : ℕ) (iterations : List ℤ) (row : List LocalRef)
    → map g (over f width iterations row) ≡ over (λ i r. g (f i r)) width iterations row
over_map f g width [] row = refl
over_map f g width (i ∷ iterations) row = ap (λ l. g (f i row) ∷ l) (over_map f g width iterations (drop width row))

pub over_paired : (op : Arith) (f g : ℤ → List LocalRef → ℤ) (width : ℕ) (iterations : List ℤ) (row : List LocalRef)
    → paired op (over f width iterations row) (over g width iterations row) ≡ over (λ i r. wrapped (exactly op (f i r) (g i r))) width
    iterations row
over_paired op f g width [] row = refl
over_paired op f g width (i ∷ iterations) row = ap (λ l. wrapped (exactly op (f i row) (g i row)) ∷ l)
    (over_paired op f g width iterations (drop width row))

pub over_same : {A : Type 0} (f g : ℤ → List LocalRef → A) (width : ℕ) → ((i : ℤ) (r : List LocalRef) → f i r ≡ g i r)
    → (iterations : List ℤ) (row : List LocalRef)
    → over f width iterations row ≡ over g width iterations row
over_same f g width h [] row = refl
over_same f g width h (i ∷ iterations) row =
    ap (λ x. x ∷ over f width iterations (drop width row)) (h i row)
    ∙ ap (λ l. g i row ∷ l) (over_same f g width h iterations (drop width row))

pub length_over : {A : Type 0} (f : ℤ → List LocalRef → A) (width : ℕ) (iterations : List ℤ) (row : List LocalRef)
    → length (over f width iterations row) ≡ length iterations
length_over f width [] row = refl
length_over f width (i ∷ iterations) row = ap suc (length_over f width iterations (drop width row))

-- one more iteration of a block
pub over_more : {A : Type 0} (f : ℤ → List LocalRef → A) (width : ℕ) (iterations : List ℤ) (at : ℕ) (d : ℤ) (row left : List LocalRef)
    (before after all : List A) → at < length iterations
    → before ++ over f width (drop at iterations) row ≡ all → after ≡ before ++ f (get_or iterations at d) row ∷ [] → left ≡ drop width row
    → after ++ over f width (drop (at + 1) iterations) left ≡ all
over_more f width iterations at d row left before after all h invariant pushed moved =
    ap (λ l. l ++ over f width (drop (at + 1) iterations) left) pushed
    ∙ append_assoc before (f (get_or iterations at d) row ∷ []) (over f width (drop (at + 1) iterations) left)
    ∙ ap (λ r. before ++ (f (get_or iterations at d) row ∷ over f width (drop (at + 1) iterations) r)) moved
    ∙ ap (λ is. before ++ over f width is row) (sym (drop_more iterations at d h))
    ∙ invariant

-- one more of as many times one value as a list has places
pub constant_more : (v : ℤ) (xs : List ℤ) (at : ℕ) (d : ℤ) (before after all : List ℤ) → at < length xs
    → before ++ map (λ (i : ℤ). v) (drop at xs) ≡ all → after ≡ before ++ v ∷ [] → after ++ map (λ (i : ℤ). v) (drop (at + 1) xs) ≡ all
constant_more v xs at d before after all h invariant pushed =
    ap (λ l. l ++ map (λ (i : ℤ). v) (drop (at + 1) xs)) pushed
    ∙ append_assoc before (v ∷ []) (map (λ (i : ℤ). v) (drop (at + 1) xs))
    ∙ ap (λ l. before ++ map (λ (i : ℤ). v) l) (sym (drop_more xs at d h))
    ∙ invariant

-- one place more of two columns that are combined in place
pub paired_more : (op : Arith) (left right now all : List ℤ) (at : ℕ) (d v : ℤ) → at < length left → at < length right
    → take at left ++ paired op (drop at left) (drop at right) ≡ all
    → v ≡ wrapped (exactly op (get_or left at d) (get_or right at d)) → now ≡ set left at v
    → take (at + 1) now ++ paired op (drop (at + 1) now) (drop (at + 1) right) ≡ all
paired_more op left right now all at d v small fits invariant value step =
    let x = wrapped (exactly op (get_or left at d) (get_or right at d)) in
    ap (λ n. take (at + 1) n ++ paired op (drop (at + 1) n) (drop (at + 1) right)) step
    ∙ ap (λ l. l ++ paired op (drop (at + 1) (set left at v)) (drop (at + 1) right)) (take_more_set left at v small)
    ∙ ap (λ l. (take at left ++ v ∷ []) ++ paired op l (drop (at + 1) right)) (drop-set-lt (at + 1) left at v (omega arith))
    ∙ append_assoc (take at left) (v ∷ []) (paired op (drop (at + 1) left) (drop (at + 1) right))
    ∙ ap (λ y. take at left ++ (y ∷ paired op (drop (at + 1) left) (drop (at + 1) right))) value
    ∙ ap (λ l. take at left ++ paired op l (get_or right at d ∷ drop (at + 1) right)) (sym (drop_more left at d small))
    ∙ ap (λ l. take at left ++ paired op (drop at left) l) (sym (drop_more right at d fits))
    ∙ invariant

-- what a reference reads over a block, by its seat
pub seated_is : (pieces ghosts : List (List ℤ)) (seats : List Seat) (seat : Seat) (number width : ℕ) → seat_at seats number ≡ Some seat
    → (iterations : List ℤ) (row : List LocalRef)
    → seated_column (list_at pieces seat.array) (list_at ghosts seat.array) seat.at width iterations row
    ≡ read_column pieces ghosts seats width iterations row number
seated_is pieces ghosts seats seat number width e iterations row = over_same _ _ width (λ i r. one r (slice_get r seat.at)
    ∙ ap (λ s. value_from pieces ghosts (located_by r s)) (sym e)) iterations row
  where
    one : (r : List LocalRef) (o : Option LocalRef) → value_in (list_at pieces seat.array) (list_at ghosts seat.array) o
        ≡ value_from pieces ghosts (option_map (found_at seat.array) o)
    one r None = refl
    one r (Some (Here local)) = refl
    one r (Some (Ghost slot)) = refl

-- without a seat 0 is read
pub unseated_is : (pieces ghosts : List (List ℤ)) (seats : List Seat) (number width : ℕ) → seat_at seats number ≡ None
    → (iterations : List ℤ) (row : List LocalRef) → map (λ i. pos 0) iterations ≡ read_column pieces ghosts seats width iterations row
    number
unseated_is pieces ghosts seats number width e iterations row =
    sym (over_constant (pos 0) width iterations row)
    ∙ over_same _ _ width (λ i r. ap (λ s. value_from pieces ghosts (located_by r s)) (sym e)) iterations row
