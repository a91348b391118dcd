-- The block of a range that a node inspects.
use Rattle.std.specs.Prelude.{◌≡◌, refl, ℕ, zero, suc, ◌+◌, ◌-◌, ◌*◌, ◌/◌, ◌<◌, ◌≤◌, ◌⊎◌, ℤ, pos, ◌+ℤ◌, ◌-ℤ◌, ◌≤ℤ◌, ◌<ℤ◌, Bool, true, false, ◌==◌, cond}
use Rattle.std.specs.Prelude.{List, [], ◌∷◌, ◌++◌, filter, unsigned_abs}
use Rattle.std.proofs.Common.{ap, sym, ◌∙◌, subst, arith, inl, inr, append-nil}
use Rattle.std.proofs.lemmas.Bool.{cases_lt}
use Rattle.std.proofs.lemmas.Bool.Decides.{nat_tests}
use Rattle.std.proofs.lemmas.Int.{by_lt_z, ints}
use Rattle.std.proofs.lemmas.List.Elements.{filter-append}
use Rattle.std.proofs.lemmas.Nat.{div_below, le-div}
use Rattle.chaos_dist.specs.Homes.{natural, provisional_of}
use Rattle.chaos_dist.specs.Layout.{divided_up}
use Rattle.chaos_dist.specs.LayoutLaws.{divided_up-is}
use Rattle.fd_program.specs.Loops.{counted_from, count_between, range_of}
use Rattle.fd_program.specs.RangeLaws.{counted, counts_none}

-- numbers counted in two goes
split_count : (z : ℤ) (a b : ℕ) → counted_from z (a + b) ≡ counted_from z a ++ counted_from (z +ℤ pos a) b
split_count z zero b =
    let none : zero + b ≡ b = omega arith in
    let here : z ≡ z +ℤ pos zero = omega (arith, ints) in
    ap (counted_from z) none ∙ ap (λ y. counted_from y b) here
split_count z (suc a) b =
    let next : suc a + b ≡ suc (a + b) = omega arith in
    let there : z +ℤ pos 1 +ℤ pos a ≡ z +ℤ pos (suc a) = omega (arith, ints) in
    ap (counted_from z) next
    ∙ ap (λ l. z ∷ l) (split_count (z +ℤ pos 1) a b)
    ∙ ap (λ y. z ∷ (counted_from (z +ℤ pos 1) a ++ counted_from y b)) there

-- those that pass, where none or all do
none_counted : (test : ℤ → Bool) (z : ℤ) (n : ℕ) → ((j : ℕ) → j < n → test (z +ℤ pos j) ≡ false) → filter test (counted_from z n) ≡ []
none_counted test z zero h = refl
none_counted test z (suc n) h =
    let here : z ≡ z +ℤ pos 0 = omega (arith, ints) in
    ap (λ b. cond b (z ∷ filter test (counted_from (z +ℤ pos 1) n)) (filter test (counted_from (z +ℤ pos 1) n)))
    (ap test here ∙ h 0 (omega arith))
    ∙ none_counted test (z +ℤ pos 1) n (λ j low.
    let there : z +ℤ pos 1 +ℤ pos j ≡ z +ℤ pos (suc j) = omega (arith, ints) in
    ap test there ∙ h (suc j) (omega arith))

all_counted : (test : ℤ → Bool) (z : ℤ) (n : ℕ) → ((j : ℕ) → j < n → test (z +ℤ pos j) ≡ true)
    → filter test (counted_from z n) ≡ counted_from z n
all_counted test z zero h = refl
all_counted test z (suc n) h =
    let here : z ≡ z +ℤ pos 0 = omega (arith, ints) in
    ap (λ b. cond b (z ∷ filter test (counted_from (z +ℤ pos 1) n)) (filter test (counted_from (z +ℤ pos 1) n)))
    (ap test here ∙ h 0 (omega arith))
    ∙ ap (λ l. z ∷ l) (all_counted test (z +ℤ pos 1) n (λ j low.
    let there : z +ℤ pos 1 +ℤ pos j ≡ z +ℤ pos (suc j) = omega (arith, ints) in
    ap test there ∙ h (suc j) (omega arith)))

-- the number at a distance is in this block, or in another
block_at : (low : ℤ) (w p k : ℕ) (i : ℤ) → i ≡ (low +ℤ pos k) → natural (i -ℤ low) / w == p ≡ (k / w == p)
block_at low w p k i e =
    let d : i -ℤ low ≡ pos k = omega (arith, ints) in
    ap (λ z. natural z / w == p) d

before_block : (k w p : ℕ) → 0 < w → k < p * w → (k / w == p) ≡ false
before_block k w p some h =
    let less : k / w < p = div_below k w p some h in
    grind (arith, nat_tests)

in_block : (k w p : ℕ) → 0 < w → p * w ≤ k → k < p * w + w → (k / w == p) ≡ true
in_block k w p some from to =
    let least : p ≤ k / w = le-div p k w some from in
    let less : k / w < p + 1 = div_below k w (p + 1) some (omega arith) in
    grind (arith, nat_tests)

behind_block : (k w p : ℕ) → 0 < w → p * w + w ≤ k → (k / w == p) ≡ false
behind_block k w p some h =
    let least : p + 1 ≤ k / w = le-div (p + 1) k w some (omega arith) in
    grind (arith, nat_tests)

-- the numbers of a block, a before it, b in it and c behind it
three_parts : (low : ℤ) (w p a b c : ℕ) → 0 < w → a ≤ p * w → ((b ≡ 0) ⊎ (a ≡ p * w)) → a + b ≤ p * w + w
    → ((c ≡ 0) ⊎ (p * w + w ≤ a + b))
    → filter (λ i. natural (i -ℤ low) / w == p) (counted_from low (a + (b + c))) ≡ counted_from (low +ℤ pos a) b
three_parts low w p a b c some before starts inside ends =
    let test : ℤ → Bool = λ i. natural (i -ℤ low) / w == p in
    let at : (k : ℕ) (i : ℤ) → i ≡ (low +ℤ pos k) → test i ≡ (k / w == p) = λ k i e. block_at low w p k i e in
    ap (filter test) (split_count low a (b + c))
    ∙ filter-append test (counted_from low a) (counted_from (low +ℤ pos a) (b + c))
    ∙ ap (λ l. l ++ filter test (counted_from (low +ℤ pos a) (b + c)))
    (none_counted test low a (λ j less. at j (low +ℤ pos j) refl ∙ before_block j w p some (omega arith)))
    ∙ ap (filter test) (split_count (low +ℤ pos a) b c)
    ∙ filter-append test (counted_from (low +ℤ pos a) b) (counted_from (low +ℤ pos a +ℤ pos b) c)
    ∙ ap (λ l. l ++ filter test (counted_from (low +ℤ pos a +ℤ pos b) c))
    (all_counted test (low +ℤ pos a) b (λ j less.
    let e : low +ℤ pos a +ℤ pos j ≡ (low +ℤ pos (a + j)) = omega (arith, ints) in
    at (a + j) (low +ℤ pos a +ℤ pos j) e ∙ in_block (a + j) w p some
    (elim starts [ inl none ↦ absurd (omega arith) | inr here ↦ omega arith ])
    (omega arith)))
    ∙ ap (λ l. counted_from (low +ℤ pos a) b ++ l)
    (none_counted test (low +ℤ pos a +ℤ pos b) c (λ j less.
    let e : low +ℤ pos a +ℤ pos b +ℤ pos j ≡ (low +ℤ pos (a + b + j)) = omega (arith, ints) in
    at (a + b + j) (low +ℤ pos a +ℤ pos b +ℤ pos j) e ∙ behind_block (a + b + j) w p some
    (elim ends [ inl none ↦ absurd (omega arith) | inr there ↦ omega arith ])))
    ∙ append-nil (counted_from (low +ℤ pos a) b)

-- where the range has n numbers, and this block begins within it
block_within : (low : ℤ) (w p n : ℕ) → 0 < w → p * w ≤ n → n ≤ p * w + w
    → filter (λ i. natural (i -ℤ low) / w == p) (counted_from low n) ≡ counted_from (low +ℤ pos (p * w)) (n - p * w)
block_within low w p n some from to =
    let test : ℤ → Bool = λ i. natural (i -ℤ low) / w == p in
    let parts : n ≡ p * w + (n - p * w + 0) = omega arith in
    ap (λ k. filter test (counted_from low k)) parts
    ∙ three_parts low w p (p * w) (n - p * w) 0 some (omega arith) (inr refl) (omega arith) (inl refl)

block_whole : (low : ℤ) (w p n : ℕ) → 0 < w → p * w + w ≤ n
    → filter (λ i. natural (i -ℤ low) / w == p) (counted_from low n) ≡ counted_from (low +ℤ pos (p * w)) w
block_whole low w p n some to =
    let test : ℤ → Bool = λ i. natural (i -ℤ low) / w == p in
    let parts : n ≡ p * w + (w + (n - p * w - w)) = omega arith in
    ap (λ k. filter test (counted_from low k)) parts
    ∙ three_parts low w p (p * w) w (n - p * w - w) some (omega arith) (inr refl) (omega arith) (inr (omega arith))

block_past : (low : ℤ) (w p n : ℕ) → 0 < w → n ≤ p * w → filter (λ i. natural (i -ℤ low) / w == p) (counted_from low n) ≡ []
block_past low w p n some from =
    let test : ℤ → Bool = λ i. natural (i -ℤ low) / w == p in
    let parts : n ≡ n + (0 + 0) = omega arith in
    ap (λ k. filter test (counted_from low k)) parts
    ∙ three_parts low w p n 0 0 some from (inl refl) (omega arith) (inl refl)

counts : (from to : ℤ) (n : ℕ) → (to -ℤ from +ℤ pos 1) ≡ pos n → count_between from to ≡ n
counts from to n e = ap natural e

in_range : (low high from to : ℤ) (nodes p last w : ℕ) → low ≤ℤ high → 1 ≤ nodes → last ≡ unsigned_abs (high -ℤ low)
    → w ≡ last / nodes + 1 → from ≡ (low +ℤ pos (p * w)) → to ≤ℤ high → to ≤ℤ (from +ℤ pos w -ℤ pos 1)
    → ((to ≡ high) ⊎ (to ≡ (from +ℤ pos w -ℤ pos 1)))
    → filter (λ i. provisional_of low high nodes i == p) (range_of low high) ≡ range_of from to
in_range low high from to nodes p last w some_numbers some el ew ef under short least =
    let wide : pos 0 ≤ℤ (high -ℤ low) = omega (arith, ints) in
    let size : pos last ≡ high -ℤ low = ap pos el ∙ size_of (high -ℤ low) wide in
    let all : (high -ℤ low +ℤ pos 1) ≡ pos (last + 1) = omega (arith, ints, size) in
    let count : count_between low high ≡ last + 1 = counts low high (last + 1) all in
    let back : last + 1 - 1 ≡ last = omega arith in
    let width : divided_up (natural (high -ℤ low +ℤ pos 1)) nodes ≡ w =
    ap (λ k. divided_up k nodes) count ∙ divided_up-is (last + 1) nodes (omega arith) some ∙ ap (λ k. k / nodes + 1) back ∙ sym ew in
    ap (λ k. filter (λ i. natural (i -ℤ low) / k == p) (range_of low high)) width
    ∙ ap (λ k. filter (λ i. natural (i -ℤ low) / w == p) (counted_from low k)) count
    ∙ by (cases_lt (last + 1) (p * w)) size
  where
    size_of : (z : ℤ) → pos 0 ≤ℤ z → pos (unsigned_abs z) ≡ z
    size_of z h = grind (arith, ints)

    by : ((last + 1 < p * w) ⊎ (p * w ≤ last + 1)) → pos last ≡ high -ℤ low
        → filter (λ i. natural (i -ℤ low) / w == p) (counted_from low (last + 1)) ≡ range_of from to
    by (inl past) size =
        let over : to <ℤ from = omega (arith, ints, ef, under, size) in
        block_past low w p (last + 1) (omega (arith, ew)) (omega arith) ∙ sym (ap (counted_from from) (counts_none from to over))
    by (inr inside) size = elim (cases_lt (last + 1) (p * w + w)) [
      | inl part ↦
          let n : (to -ℤ from +ℤ pos 1) ≡ pos (last + 1 - p * w) = elim least [
            | inl whole ↦ omega (arith, ints, ef, size, inside)
            | inr cut ↦ absurd (omega (arith, ints, ef, size, under, part))
          ] in
          block_within low w p (last + 1) (omega (arith, ew)) inside (omega arith)
          ∙ ap (λ z. counted_from z (last + 1 - p * w)) (sym ef)
          ∙ ap (counted_from from) (sym (counts from to (last + 1 - p * w) n))
      | inr whole ↦
          let n : (to -ℤ from +ℤ pos 1) ≡ pos w = elim least [
            | inl end ↦ omega (arith, ints, ef, size, short, end, whole)
            | inr cut ↦ omega (arith, ints, cut)
          ] in
          block_whole low w p (last + 1) (omega (arith, ew)) whole
          ∙ ap (λ z. counted_from z w) (sym ef)
          ∙ ap (counted_from from) (sym (counts from to w n))
    ]

-- The iterations that a node inspects are a block of the range: so many numbers before it as the nodes before it have.
pub block_of_range : (low high from to : ℤ) (nodes p last w : ℕ) → 1 ≤ nodes → last ≡ unsigned_abs (high -ℤ low)
    → w ≡ last / nodes + 1 → from ≡ (low +ℤ pos (p * w)) → to ≤ℤ high → to ≤ℤ (from +ℤ pos w -ℤ pos 1)
    → ((to ≡ high) ⊎ (to ≡ (from +ℤ pos w -ℤ pos 1)))
    → filter (λ i. provisional_of low high nodes i == p) (range_of low high) ≡ range_of from to
block_of_range low high from to nodes p last w some el ew ef under short least =
    by_lt_z high low
    (λ none.
    let over : to <ℤ from = omega (arith, ints) in
    ap (λ n. filter (λ i. provisional_of low high nodes i == p) (counted_from low n)) (counts_none low high none)
    ∙ sym (ap (counted_from from) (counts_none from to over)))
    (λ some_numbers. in_range low high from to nodes p last w some_numbers some el ew ef under short least)
