-- The line of an array from the rows of all nodes.
use Rattle.std.specs.Prelude.{◌≡◌, refl, ℕ, zero, suc, ◌-◌, ◌≤◌, ℤ, pos, Bool, true, false, ◌==◌, if◌then◌else◌, List, [], ◌∷◌, length}
use Rattle.std.specs.Prelude.{map, filter, replicate}
use Rattle.std.proofs.Common.{ap, sym, ◌∙◌, arith, get_or}
use Rattle.std.proofs.lemmas.Bool.Decides.{nat_tests}
use Rattle.std.proofs.lemmas.List.{length-replicate}
use Rattle.fd_words.specs.Lists.{list_at}
use Rattle.chaos_dist.specs.Counting.{below}
use Rattle.chaos_letter.specs.declared.letter.Letter.{Letter}
use Rattle.fd_program.specs.HomeLaws.{owner_within, owners_at-below}
use Rattle.fd_program.specs.Layouts.{Scene, owners_at, store_at}
use Rattle.fd_program.specs.Places.{decomposition_of, stands_at}
use Rattle.fd_program.specs.Stores.{FitsStore, array_at}
use Rattle.fd_program.specs.Texts.{line_for, line_of}
use Rattle.fd_program.specs.declared.array.ArrayFacts.{ArrayFacts}
use Rattle.fd_program.specs.declared.trace.Step.{Step}
use Rattle.fd_program.specs.declared.trace.Step.TheVariants.{Print}
use Rattle.plan_run.specs.Phases.{Phase, is_sent, letter_of, numbers_at, print_rows}
use Rattle.chaos_print.specs.InRun.{IsPrintStage, LinesArePrinted, letters_to}
use Rattle.chaos_print.specs.Printing.{filled_all, print_text}
use Rattle.chaos_print.proofs.Filling.{collected, takers}

map_map : {A B C : Type 0} (f : B → C) (g : A → B) (xs : List A) → map f (map g xs) ≡ map (λ x. f (g x)) xs
map_map f g [] = refl
map_map {A} {B} {C} f g (x ∷ xs) = ap (λ (l : List C). f (g x) ∷ l) (map_map f g xs)

-- ---- a store and its owners

len_at : (store : List (List ℤ)) (a : ℕ) → length (list_at store a) ≡ get_or (map length store) a 0
len_at [] a = refl
len_at (x ∷ xs) zero = refl
len_at (x ∷ xs) (suc a) = len_at xs a

extent_at : (arrays : List ArrayFacts) (a : ℕ) → (array_at arrays a).extent ≡ get_or (map (λ (x : ArrayFacts). x.extent) arrays) a 0
extent_at [] a = refl
extent_at (x ∷ xs) zero = refl
extent_at (x ∷ xs) (suc a) = extent_at xs a

fits_at : (arrays : List ArrayFacts) (store : List (List ℤ)) (a : ℕ) → FitsStore arrays store
    → length (list_at store a) ≡ (array_at arrays a).extent
fits_at arrays store a h = len_at store a ∙ ap (λ l. get_or l a 0) h ∙ sym (extent_at arrays a)

-- ---- the line

-- what node 0 writes
line_is : (s : Scene) (f : Phase) (a : ℕ) (own : List ℤ) (got : List Letter) → 1 ≤ s.nodes
    → FitsStore s.checked.arrays (store_at s f.past) → IsPrintStage f.stage
    → f.step ≡ Print a → own ≡ numbers_at s f.past f.step f.stage 0 0 → got ≡ letters_to s f 0
    → print_text s.checked.arrays 0 a own got ≡ line_for s.checked (store_at s f.past) a
line_is s f a own got some fits st step own_is got_is =
    let c = s.checked in
    let extent = (array_at c.arrays a).extent in
    let zeros = replicate extent (pos 0) in
    let owners = owners_at s f.past in
    let store = store_at s f.past in
    let rows = λ (q : ℕ). print_rows c owners store a q in
    let sent = filter (λ q. is_sent f.stage q 0) (below s.nodes) in
    let numbers : map (λ (x : Letter). x.numbers) got ≡ map rows sent =
    ap (map (λ (x : Letter). x.numbers)) got_is ∙ map_map (λ (x : Letter). x.numbers) (λ q. letter_of s f q 0) sent
    ∙ ap (λ (t : Step). map (λ q. numbers_at s f.past t f.stage q 0) sent) step in
    let mine : own ≡ rows 0 = own_is ∙ ap (λ (t : Step). numbers_at s f.past t f.stage 0 0) step in
    let all : own ∷ map (λ (x : Letter). x.numbers) got ≡ map rows (below s.nodes) =
    ap (λ (r : List ℤ). r ∷ map (λ (x : Letter). x.numbers) got) mine ∙ ap (λ (l : List (List ℤ)). rows 0 ∷ l) numbers
    ∙ ap (map rows) (takers f.stage s.nodes st some) in
    ap (λ l. line_of (array_at c.arrays a).name (filled_all zeros l)) all
    ∙ ap (line_of (array_at c.arrays a).name)
    (collected c owners store a s.nodes zeros (fits_at c.arrays store a fits) (length-replicate extent (pos 0))
    (λ g. owner_within s.nodes owners (decomposition_of c.arrays a) (stands_at c.arrays a (pos g)) some (owners_at-below s f.past some)))

first_node : (p : ℕ) → (p == 0) ≡ true → p ≡ 0
first_node p e = grind (arith, nat_tests)

other_text : (arrays : List ArrayFacts) (p a : ℕ) (own : List ℤ) (got : List Letter) → (p == 0) ≡ false → print_text arrays p a own got ≡ []
other_text arrays p a own got e =
    ap (λ (b : Bool). if b then line_of (array_at arrays a).name (filled_all (replicate (array_at arrays a).extent (pos 0))
    (own ∷ map (λ (x : Letter). x.numbers) got)) else []) e

pub lines_are_printed : LinesArePrinted
lines_are_printed s f p a own got some fits st step own_is got_is = by (p == 0) refl
  where
    by : (b : Bool) → (p == 0) ≡ b → print_text s.checked.arrays p a own got ≡ (if b then line_for s.checked (store_at s f.past) a else [])
    by true e =
        let zero_is = first_node p e in
        ap (λ z. print_text s.checked.arrays z a own got) zero_is
        ∙ line_is s f a own got some fits st step (own_is ∙ ap (λ z. numbers_at s f.past f.step f.stage z z) zero_is) (got_is
        ∙ ap (letters_to s f) zero_is)
    by false e = other_text s.checked.arrays p a own got e
