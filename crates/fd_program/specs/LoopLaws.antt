-- What a FORALL leaves at one element.
use Rattle.std.specs.Prelude.{◌≡◌, ◌≢◌, ◌<◌, ℕ, ℤ, pos, Bool, true, false, ◌&&◌, ◌==◌, if◌then◌else◌, List, [], ◌∷◌, length, fold, filter}
use Rattle.std.specs.Prelude.{unwrap_or, slice_get, slice_set, refl}
use Rattle.std.proofs.Common.{ap, sym, cond, ◌∙◌, get_or-set_other, get_or-set_same, inl, inr, subst}
use Rattle.std.proofs.Math.ListN.{set}
use Rattle.std.proofs.lemmas.Bool.Decides.{eqb_tells}
use Rattle.std.proofs.lemmas.List.{length-set}
use Rattle.std.proofs.lemmas.Option.{unwrap_or-slice_get}
use Rattle.fd_words.specs.Lists.{list_at}
use Rattle.fd_program.specs.Loops.{Write, written, changed}
use Rattle.fd_program.specs.Stores.{number_at, place_of, element}

-- a write is to the element at this place of this array's list
abbrev pub reaches : ℕ → ℕ → Write → Bool
reaches array place w = (w.array == array) && (place_of w.subscript == place)

-- the writes to that element
abbrev pub writes_to : ℕ → ℕ → List Write → List Write
writes_to array place ws = filter (reaches array place) ws

-- a value after a write
abbrev pub applied : ℤ → Write → ℤ
applied old w = changed w.operator old w.value

-- an element after these writes: the old one, changed by those that reach it, in order
abbrev pub element_after : ℕ → ℕ → List Write → ℤ → ℤ
element_after array place ws old = fold applied old (writes_to array place ws)

-- writes leave at an element the old one, changed by those that reach it
abbrev pub WritesChangeElements : Type 0
WritesChangeElements =
    (writes : List Write) (store : List (List ℤ)) (array place : ℕ) → array < length store → place < length (list_at store array)
    → number_at (list_at (fold written store writes) array) place ≡ element_after array place writes (number_at (list_at store array) place)

pub at_set_same : {X : Type 0} (xs : List X) (i j : ℕ) (y d : X) → i ≡ j → j < length xs → unwrap_or (slice_get (set xs i y) j) d ≡ y
at_set_same xs i j y d e h =
    ap (λ k. unwrap_or (slice_get (set xs k y) j) d) e ∙ unwrap_or-slice_get (set xs j y) j d ∙ get_or-set_same xs j y d h

pub at_set_other : {X : Type 0} (xs : List X) (i j : ℕ) (y d : X) → i ≢ j → unwrap_or (slice_get (set xs i y) j) d
    ≡ unwrap_or (slice_get xs j) d
at_set_other xs i j y d e =
    unwrap_or-slice_get (set xs i y) j d ∙ get_or-set_other xs i j y d (λ f. e (sym f)) ∙ sym (unwrap_or-slice_get xs j d)

both_true : (a b : Bool) (x y : ℤ) → a ≡ true → b ≡ true → x ≡ (if a && b then x else y)
both_true a b x y e f = sym (ap (λ t. if t && b then x else y) e ∙ ap (λ t. if true && t then x else y) f)

second_false : (a b : Bool) (x y : ℤ) → b ≡ false → y ≡ (if a && b then x else y)
second_false true b x y f = sym (ap (λ t. if t then x else y) f)
second_false false b x y f = refl

first_false : (a b : Bool) (x y : ℤ) → a ≡ false → y ≡ (if a && b then x else y)
first_false a b x y f = sym (ap (λ t. if t && b then x else y) f)

pub element_written : (store : List (List ℤ)) (w : Write) (array place : ℕ) → array < length store → place < length (list_at store array)
    → number_at (list_at (written store w) array) place
    ≡ (if reaches array place w then changed w.operator (number_at (list_at store array) place) w.value else number_at
    (list_at store array) place)
element_written store w array place ha hp =
    let old = number_at (list_at store array) place in
    let new = changed w.operator old w.value in
    let put = changed w.operator (element store w.array w.subscript) w.value in
    let inner = slice_set (list_at store w.array) (place_of w.subscript) put in
    let a = w.array == array in
    let b = place_of w.subscript == place in
    elim (eqb_tells w.array array) [
      | inl same ↦
          let row : list_at (written store w) array ≡ inner = at_set_same store w.array array inner [] same.1 ha in
          let here : list_at store w.array ≡ list_at store array = ap (list_at store) same.1 in
          elim (eqb_tells (place_of w.subscript) place) [
            | inl at ↦
                let room : place < length (list_at store w.array) = subst (λ zs. place < length zs) (sym here) hp in
                let was : element store w.array w.subscript ≡ old = ap (λ zs. number_at zs (place_of w.subscript)) here
                ∙ ap (number_at (list_at store array)) at.1 in
                ap (λ zs. number_at zs place) row
                ∙ at_set_same (list_at store w.array) (place_of w.subscript) place put (pos 0) at.1 room
                ∙ ap (λ z. changed w.operator z w.value) was
                ∙ both_true a b new old same.0 at.0
            | inr off ↦
                ap (λ zs. number_at zs place) row
                ∙ at_set_other (list_at store w.array) (place_of w.subscript) place put (pos 0) off.1
                ∙ ap (λ zs. number_at zs place) here
                ∙ second_false a b new old off.0
          ]
      | inr other ↦
          let row : list_at (written store w) array ≡ list_at store array = at_set_other store w.array array inner [] other.1 in
          ap (λ zs. number_at zs place) row ∙ first_false a b new old other.0
    ]

-- a write keeps the length of each list
pub length-written : (store : List (List ℤ)) (w : Write) (array : ℕ) → array < length store → length (list_at (written store w) array)
    ≡ length (list_at store array)
length-written store w array ha =
    let inner = slice_set (list_at store w.array) (place_of w.subscript) (changed w.operator (element store w.array w.subscript) w.value) in
    elim (eqb_tells w.array array) [
      | inl same ↦
          ap length (at_set_same store w.array array inner [] same.1 ha)
          ∙ length-set (list_at store w.array) (place_of w.subscript) (changed w.operator (element store w.array w.subscript) w.value)
          ∙ ap (λ k. length (list_at store k)) same.1
      | inr other ↦ ap length (at_set_other store w.array array inner [] other.1)
    ]

fold_chosen : (b : Bool) (w : Write) (ws : List Write) (old : ℤ) → fold applied old (cond b (w ∷ ws) ws) ≡ fold applied
    (if b then applied old w else old) ws
fold_chosen true w ws old = refl
fold_chosen false w ws old = refl

pub element_after_writes : WritesChangeElements
element_after_writes [] store array place ha hp = refl
element_after_writes (w ∷ ws) store array place ha hp =
    let many : array < length (written store w) = subst (λ n. array < n) (sym (length-set store w.array _)) ha in
    let room : place < length (list_at (written store w) array) = subst (λ n. place < n) (sym (length-written store w array ha)) hp in
    element_after_writes ws (written store w) array place many room
    ∙ ap (element_after array place ws) (element_written store w array place ha hp)
    ∙ sym (fold_chosen (reaches array place w) w (writes_to array place ws) (number_at (list_at store array) place))
