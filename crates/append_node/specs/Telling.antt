-- Letters of flat lists, and lists by nodes.
use Rattle.std.specs.Prelude.{◌≡◌, ◌≢◌, ℕ, zero, suc, ◌+◌, ◌≤◌, ◌<◌, ℤ, pos, Bool, true, false, cond, if◌then◌else◌, int_lt, unsigned_abs}
use Rattle.std.specs.Prelude.{List, [], ◌∷◌, filter, map}
use Rattle.std.specs.List.{range_with_len}
use Rattle.std.proofs.Common.{ap, ◌∙◌, arith, refl}
use Rattle.std.proofs.lemmas.Bool.Decides.{nat_tests}
use Rattle.chaos_letter.specs.declared.kind.Kind.TheVariants.{Append, Print, Sizes}
use Rattle.chaos_letter.specs.declared.letter.Letter.{Letter}
use Rattle.bsp_desk.specs.Picks.{picked}
use Rattle.bsp_desk.specs.Ways.{sends}
use Rattle.bsp_desk.specs.declared.way.Way.TheVariants.{ToFirst}
use Rattle.chaos_bins.specs.Rows.{number_at}

-- so many pairs follow
abbrev pub size_told : ℕ → ℕ → Letter
size_told round count = record { kind = Sizes; execution = round; site = 0; numbers = pos count ∷ [] }

abbrev pub rows_told : ℕ → List ℤ → Letter
rows_told round numbers = record { kind = Append; execution = round; site = 0; numbers = numbers }

abbrev pub print_told : ℕ → List ℤ → Letter
print_told steps numbers = record { kind = Print; execution = steps + 1; site = 0; numbers = numbers }

-- how many pairs these numbers say that follow: none where there is no number, or one below 0
abbrev pub size_in : List ℤ → ℕ
size_in numbers = if int_lt (number_at numbers 0) (pos 0) then 0 else unsigned_abs (number_at numbers 0)

-- lists by nodes agree where what they say of each of these nodes does
pub picked_alike : {A : Type 0} (f g : ℕ → A) (P : ℕ → Bool) (low k : ℕ)
    → ((q : ℕ) → low ≤ q → q < low + k → P q ≡ true → f q ≡ g q) → picked f P low k ≡ picked g P low k
picked_alike f g P low zero h = refl
picked_alike {A} f g P low (suc k) h =
    by (P low) (h low (omega arith) (omega arith)) (picked_alike f g P (low + 1) k (λ q l m. h q (omega (arith, l)) (omega (arith, m))))
  where
    rest : List ℕ
    rest = filter P (range_with_len (low + 1) k)

    by : (b : Bool) → (b ≡ true → f low ≡ g low) → map {B = ℕ × A} (λ q. (q, f q)) rest ≡ map {B = ℕ × A} (λ q. (q, g q)) rest
        → map {B = ℕ × A} (λ q. (q, f q)) (cond b (low ∷ rest) rest) ≡ map {B = ℕ × A} (λ q. (q, g q)) (cond b (low ∷ rest) rest)
    by true e same = ap (λ (x : A). (low, x) ∷ map {B = ℕ × A} (λ q. (q, f q)) rest) (e refl)
        ∙ ap (λ (l : List (ℕ × A)). (low, g low) ∷ l) same
    by false e same = same

-- ---- to node 0

none_picked : {A : Type 0} (f : ℕ → A) (P : ℕ → Bool) (low k : ℕ) → ((q : ℕ) → low ≤ q → P q ≡ false) → picked f P low k ≡ []
none_picked f P low zero h = refl
none_picked {A} f P low (suc k) h =
    let rest = filter P (range_with_len (low + 1) k) in
    ap (λ b. map {B = ℕ × A} (λ q. (q, f q)) (cond b (low ∷ rest) rest)) (h low (omega arith))
    ∙ none_picked f P (low + 1) k (λ q l. h q (omega (arith, l)))

not_from_first : (me q : ℕ) → me ≡ 0 → sends ToFirst me q ≡ false
not_from_first me q e = grind (arith, nat_tests)

not_to_other : (me q : ℕ) → 1 ≤ q → sends ToFirst me q ≡ false
not_to_other me q l = grind (arith, nat_tests)

to_first : (me : ℕ) → me ≢ 0 → sends ToFirst me 0 ≡ true
to_first me apart = grind (arith, nat_tests)

-- node 0 tells itself nothing
pub none_first : {A : Type 0} (f : ℕ → A) (me n : ℕ) → me ≡ 0 → picked f (λ q. sends ToFirst me q) 0 n ≡ []
none_first f me n e = none_picked f (λ q. sends ToFirst me q) 0 n (λ q l. not_from_first me q e)

-- and each other node tells it alone
pub only_first : {A : Type 0} (f : ℕ → A) (me n : ℕ) → me < n → me ≢ 0 → picked f (λ q. sends ToFirst me q) 0 n ≡ (0, f 0) ∷ []
only_first f me zero low apart = absurd (omega (arith, low))
only_first {A} f me (suc n) low apart =
    let rest = filter (λ q. sends ToFirst me q) (range_with_len 1 n) in
    ap (λ b. map {B = ℕ × A} (λ q. (q, f q)) (cond b (0 ∷ rest) rest)) (to_first me apart)
    ∙ ap (λ (l : List (ℕ × A)). (0, f 0) ∷ l) (none_picked f (λ q. sends ToFirst me q) 1 n (λ q l. not_to_other me q l))
