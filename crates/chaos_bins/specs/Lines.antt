-- The lines from any ascending list of all particles, and what stands in such a list for a bin.
use Rattle.std.specs.Prelude.{◌≡◌, ℕ, suc, ◌+◌, ◌≤◌, ◌&&◌, ℤ, pos, negsuc, Bool, true, false, cond, List, [], ◌∷◌, ◌++◌, map, filter}
use Rattle.std.specs.Prelude.{flat_map, count_by, drop, int_le, take}
use Rattle.std.specs.List.{AllByRecursion}
use Rattle.std.specs.Ordering.{int_eq}
use Rattle.std.proofs.Common.{ap, sym, ◌∙◌, subst, arith, refl}
use Rattle.std.proofs.lemmas.Bool.Decides.{Decides-int_eq, nat_tests}
use Rattle.chaos_dist.specs.Counting.{up_to}
use Rattle.chaos_bins.specs.Ascending.{IsAscending, int_above, int_onward, int_same, pair_first, pair_second, sorted_is_only}
use Rattle.chaos_bins.specs.Bags.{SameBag}
use Rattle.list_laws.specs.Counts.{count_by-filter, count_by-map, count_by-all_fail, first_counted}
use Rattle.chaos_bins.specs.Bins.{Particles, bin_at, bin_line, lines_of, pair_le, sorted, value, values_in}

-- the pairs of a bin, and their values
abbrev pub of_bin : List (ℤ × ℤ) → ℕ → List (ℤ × ℤ)
of_bin pairs b = filter (λ (x : ℤ × ℤ). int_eq x.0 (pos b)) pairs

abbrev pub values_at : List (ℤ × ℤ) → ℕ → List ℤ
values_at pairs b = map (λ (x : ℤ × ℤ). x.1) (of_bin pairs b)

-- the lines that show these pairs
abbrev pub lines_from : ℕ → List (ℤ × ℤ) → List ℕ
lines_from bins pairs = flat_map (λ b. bin_line b (values_at pairs b)) (up_to bins)

-- ---- in a bin the values ascend

above_values : (x : ℤ × ℤ) (b : ℕ) (ys : List (ℤ × ℤ)) → x.0 ≡ pos b → AllByRecursion (λ y. pair_le x y ≡ true) ys
    → AllByRecursion (λ v. int_le x.1 v ≡ true) (values_at ys b)
above_values x b [] e all = tt
above_values x b (y ∷ ys) e all = by (int_eq y.0 (pos b)) refl (above_values x b ys e all.1)
  where
    by : (t : Bool) → int_eq y.0 (pos b) ≡ t → AllByRecursion (λ v. int_le x.1 v ≡ true) (values_at ys b)
        → AllByRecursion (λ v. int_le x.1 v ≡ true) (map (λ (z : ℤ × ℤ). z.1) (cond t (y ∷ of_bin ys b) (of_bin ys b)))
    by true f rest = (pair_second x y all.0 (e ∙ sym ((Decides-int_eq y.0 (pos b)).0 f)), rest)
    by false f rest = rest

values_ascend : (b : ℕ) (xs : List (ℤ × ℤ)) → IsAscending pair_le xs → IsAscending int_le (values_at xs b)
values_ascend b [] up = tt
values_ascend b (x ∷ xs) up = by (int_eq x.0 (pos b)) refl (values_ascend b xs up.1)
  where
    by : (t : Bool) → int_eq x.0 (pos b) ≡ t → IsAscending int_le (values_at xs b)
        → IsAscending int_le (map (λ (z : ℤ × ℤ). z.1) (cond t (x ∷ of_bin xs b) (of_bin xs b)))
    by true f rest = (above_values x b xs ((Decides-int_eq x.0 (pos b)).0 f) up.0, rest)
    by false f rest = rest

-- ---- and are those of the definition

values_same : (b : ℕ) (xs ys : List (ℤ × ℤ)) → SameBag xs ys → SameBag (values_at xs b) (values_at ys b)
values_same b xs ys same test =
    counted xs ∙ same (λ (x : ℤ × ℤ). int_eq x.0 (pos b) && test x.1) ∙ sym (counted ys)
  where
    counted : (zs : List (ℤ × ℤ)) → count_by test (values_at zs b) ≡ count_by (λ (x : ℤ × ℤ). int_eq x.0 (pos b) && test x.1) zs
    counted zs =
        count_by-map (λ (x : ℤ × ℤ). x.1) test (of_bin zs b)
        ∙ count_by-filter (λ (x : ℤ × ℤ). int_eq x.0 (pos b)) (λ (x : ℤ × ℤ). test x.1) zs

mapped_kept : {X Y Z : Type 0} (h : Y → Z) (p : Y → Bool) (g : X → Y) (xs : List X)
    → map h (filter p (map g xs)) ≡ map (λ x. h (g x)) (filter (λ x. p (g x)) xs)
mapped_kept h p g [] = refl
mapped_kept {X} {Y} {Z} h p g (x ∷ xs) = by (p (g x)) (mapped_kept h p g xs)
  where
    by : (t : Bool) → map h (filter p (map g xs)) ≡ map (λ x. h (g x)) (filter (λ x. p (g x)) xs)
        → map h (cond t (g x ∷ filter p (map g xs)) (filter p (map g xs)))
        ≡ map (λ x. h (g x)) (cond t (x ∷ filter (λ x. p (g x)) xs) (filter (λ x. p (g x)) xs))
    by true e = ap (λ l. h (g x) ∷ l) e
    by false e = e

flat_map-alike : {X Y : Type 0} (f g : X → List Y) (xs : List X) → ((x : X) → f x ≡ g x) → flat_map f xs ≡ flat_map g xs
flat_map-alike f g [] h = refl
flat_map-alike f g (x ∷ xs) h = ap (λ l. l ++ flat_map f xs) (h x) ∙ ap (λ l. g x ++ l) (flat_map-alike f g xs h)

-- bin and value of each particle at the end
abbrev pub all_at : ℕ → ℕ → Particles → List (ℤ × ℤ)
all_at bins steps particles = map (λ i. (bin_at bins particles steps i, value particles i)) (up_to particles.count)

abbrev pub LinesAreShown : Type 0
LinesAreShown =
    (bins steps : ℕ) (particles : Particles) (xs : List (ℤ × ℤ)) → IsAscending pair_le xs → SameBag (all_at bins steps particles) xs
    → lines_from bins xs ≡ lines_of bins steps particles

pub lines_are_shown : LinesAreShown
lines_are_shown bins steps particles xs up same =
    flat_map-alike (λ b. bin_line b (values_at xs b)) (λ b. bin_line b (sorted (values_in bins steps particles b))) (up_to bins)
    (λ b. ap (bin_line b) (sorted_is_only (values_in bins steps particles b) (values_at xs b) (values_ascend b xs up) (bag b)))
  where
    bag : (b : ℕ) → SameBag (values_in bins steps particles b) (values_at xs b)
    bag b =
        subst (λ l. SameBag l (values_at xs b))
        (mapped_kept (λ (x : ℤ × ℤ). x.1) (λ (x : ℤ × ℤ). int_eq x.0 (pos b))
        (λ i. (bin_at bins particles steps i, value particles i)) (up_to particles.count))
        (values_same b (all_at bins steps particles) xs same)

-- ---- one bin after another

unlike : {P : Type 0} → true ≡ false → P
unlike {P} e = absurd (no e)
  where
    no : true ≡ false → ⊥
    no f = cc

next_above : (b : ℕ) → int_le (pos b) (pos (suc b)) ≡ true
next_above b = grind (arith, nat_tests)

next_not_below : (b : ℕ) → int_le (pos (suc b)) (pos b) ≡ false
next_not_below b = grind (arith, nat_tests)

between : (a b : ℕ) → int_le (pos a) (pos b) ≡ false → int_le (pos a) (pos (suc b)) ≡ true → a ≡ suc b
between a b e f = grind (arith, nat_tests)

-- how many pairs are of a bin up to b
abbrev pub through : ℕ → List (ℤ × ℤ) → ℕ
through b pairs = count_by (λ (x : ℤ × ℤ). int_le x.0 (pos b)) pairs

-- a bin behind b is one behind b too where it stands behind such a one
none_through : (b : ℕ) (x : ℤ × ℤ) (ys : List (ℤ × ℤ)) → int_le x.0 (pos b) ≡ false → AllByRecursion (λ y. pair_le x y ≡ true) ys
    → AllByRecursion (λ (y : ℤ × ℤ). int_le y.0 (pos b) ≡ false) ys
none_through b x [] e all = tt
none_through b x (y ∷ ys) e all = (int_above x.0 y.0 (pos b) e (pair_first x y all.0), none_through b x ys e all.1)

int_apart : (v w : ℤ) → int_le v w ≡ false → int_eq v w ≡ false
int_apart v w e = by (int_eq v w) refl
  where
    by : (t : Bool) → int_eq v w ≡ t → int_eq v w ≡ false
    by true f = unlike (sym (ap (λ z. int_le z w) ((Decides-int_eq v w).0 f) ∙ int_same w w refl) ∙ e)
    by false f = f

no_other : (b : ℕ) (ys : List (ℤ × ℤ)) → AllByRecursion (λ (y : ℤ × ℤ). int_le y.0 (pos b) ≡ false) ys → of_bin ys b ≡ []
no_other b [] all = refl
no_other b (y ∷ ys) all = ap (λ t. cond t (y ∷ of_bin ys b) (of_bin ys b)) (int_apart y.0 (pos b) all.0) ∙ no_other b ys all.1

-- a number up to b isn't the next, and one up to the next and not up to b is the next
lower_is : (v : ℤ) (b : ℕ) → int_le v (pos b) ≡ true → (int_le v (pos (suc b)) ≡ true) × (int_eq v (pos (suc b)) ≡ false)
lower_is v b e = (int_onward v (pos b) (pos (suc b)) e (next_above b), by (int_eq v (pos (suc b))) refl)
  where
    by : (t : Bool) → int_eq v (pos (suc b)) ≡ t → int_eq v (pos (suc b)) ≡ false
    by true f =
        let same : v ≡ pos (suc b) = (Decides-int_eq v (pos (suc b))).0 f in
        unlike (sym (ap (λ z. int_le z (pos b)) (sym same) ∙ e) ∙ next_not_below b)
    by false f = f

next_is : (v : ℤ) (b : ℕ) → int_le v (pos b) ≡ false → int_le v (pos (suc b)) ≡ true → int_eq v (pos (suc b)) ≡ true
next_is (pos a) b e f = (Decides-int_eq (pos a) (pos (suc b))).1 (ap pos (between a b e f))
next_is (negsuc a) b e f = unlike e

-- no fewer are of a bin up to the next
pub through-grows : (b : ℕ) (xs : List (ℤ × ℤ)) → through b xs ≤ through (suc b) xs
through-grows b [] = omega arith
through-grows b (x ∷ xs) = by (int_le x.0 (pos b)) refl (int_le x.0 (pos (suc b))) refl (through-grows b xs)
  where
    counted : (c : ℕ) (t : Bool) → int_le x.0 (pos c) ≡ t → through c (x ∷ xs) ≡ cond t 1 0 + through c xs
    counted c t e = first_counted (λ (y : ℤ × ℤ). int_le y.0 (pos c)) x xs ∙ ap (λ t. cond t 1 0 + through c xs) e

    by : (s : Bool) → int_le x.0 (pos b) ≡ s → (t : Bool) → int_le x.0 (pos (suc b)) ≡ t → through b xs ≤ through (suc b) xs
        → through b (x ∷ xs) ≤ through (suc b) (x ∷ xs)
    by true e t f rest = omega (arith, rest, counted b true e, counted (suc b) true (lower_is x.0 b e).0)
    by false e true f rest = omega (arith, rest, counted b false e, counted (suc b) true f)
    by false e false f rest = omega (arith, rest, counted b false e, counted (suc b) false f)

-- of an ascending list the pairs of the next bin stand behind those up to b
pub next_bin : (b : ℕ) (xs : List (ℤ × ℤ)) → IsAscending pair_le xs
    → drop (through b xs) (take (through (suc b) xs) xs) ≡ of_bin xs (suc b)
next_bin b [] up = refl
next_bin b (x ∷ xs) up = by (int_le x.0 (pos b)) refl (int_le x.0 (pos (suc b))) refl (next_bin b xs up.1)
  where
    one : (c : ℕ) → int_le x.0 (pos c) ≡ true → through c (x ∷ xs) ≡ suc (through c xs)
    one c e =
        first_counted (λ (y : ℤ × ℤ). int_le y.0 (pos c)) x xs ∙ ap (λ t. cond t 1 0 + through c xs) e
        ∙ (let more : 1 + through c xs ≡ suc (through c xs) = omega arith in more)

    none : (c : ℕ) → int_le x.0 (pos c) ≡ false → through c (x ∷ xs) ≡ 0
    none c e = count_by-all_fail (λ (y : ℤ × ℤ). int_le y.0 (pos c)) (x ∷ xs) (e, none_through c x xs e up.0)

    kept : (t : Bool) → int_eq x.0 (pos (suc b)) ≡ t → of_bin (x ∷ xs) (suc b) ≡ cond t (x ∷ of_bin xs (suc b)) (of_bin xs (suc b))
    kept t e = ap (λ t. cond t (x ∷ of_bin xs (suc b)) (of_bin xs (suc b))) e

    by : (s : Bool) → int_le x.0 (pos b) ≡ s → (t : Bool) → int_le x.0 (pos (suc b)) ≡ t
        → drop (through b xs) (take (through (suc b) xs) xs) ≡ of_bin xs (suc b)
        → drop (through b (x ∷ xs)) (take (through (suc b) (x ∷ xs)) (x ∷ xs)) ≡ of_bin (x ∷ xs) (suc b)
    by true e t f rest =
        let above = lower_is x.0 b e in
        ap (λ n. drop n (take (through (suc b) (x ∷ xs)) (x ∷ xs))) (one b e)
        ∙ ap (λ n. drop (suc (through b xs)) (take n (x ∷ xs))) (one (suc b) above.0)
        ∙ rest ∙ sym (kept false above.1)
    by false e true f rest =
        let before : through b xs ≡ 0 = count_by-all_fail (λ (y : ℤ × ℤ). int_le y.0 (pos b)) xs (none_through b x xs e up.0) in
        ap (λ n. drop n (take (through (suc b) (x ∷ xs)) (x ∷ xs))) (none b e)
        ∙ ap (λ n. drop 0 (take n (x ∷ xs))) (one (suc b) f)
        ∙ ap (λ l. x ∷ l) (sym (ap (λ n. drop n (take (through (suc b) xs) xs)) before) ∙ rest)
        ∙ sym (kept true (next_is x.0 b e f))
    by false e false f rest =
        ap (λ n. drop (through b (x ∷ xs)) (take n (x ∷ xs))) (none (suc b) f)
        ∙ ap (λ n. drop n (take 0 (x ∷ xs))) (none b e)
        ∙ sym (no_other (suc b) (x ∷ xs) (f, none_through (suc b) x xs f up.0))
