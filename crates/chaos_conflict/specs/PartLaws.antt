-- Of a list of conflicts that ascends, parted to nodes, the least of what each node has first is the first of all.
use Rattle.std.specs.Prelude.{◌≡◌, refl, ℕ, zero, suc, ◌+◌, ◌<◌, ◌≤◌, ◌==◌, Bool, true, false, if◌then◌else◌, cond, List, [], ◌∷◌, map}
use Rattle.std.specs.Prelude.{filter}
use Rattle.std.specs.Prelude.{Option, Some, None}
use Rattle.std.specs.List.{AllByRecursion, range_with_len}
use Rattle.std.proofs.Common.{ap, ◌∙◌, arith}
use Rattle.std.proofs.lemmas.Bool.Decides.{nat_tests}
use Rattle.chaos_conflict.specs.declared.conflict.Conflict.{Conflict}
use Rattle.chaos_conflict.specs.Clashes.{is_less, lesser, least_clash_of}
use Rattle.chaos_conflict.specs.ClashLaws.{not_less_itself, not_less_back}

-- the first of a list
abbrev pub first_clash : List Conflict → Option Conflict
first_clash [] = None
first_clash (c ∷ cs) = Some c

-- each is less than those behind it
abbrev pub ClashesAscend : List Conflict → Type 0
ClashesAscend [] = Unit {0}
ClashesAscend (c ∷ cs) = AllByRecursion (λ d. is_less c d ≡ true) cs × ClashesAscend cs

-- node q has those whose key is q
abbrev pub FirstIsLeast : Type 0
FirstIsLeast = (key : Conflict → ℕ) (n : ℕ) (cs : List Conflict) → ClashesAscend cs → AllByRecursion (λ c. key c < n) cs
    → least_clash_of (map (λ q. first_clash (filter (λ c. key c == q) cs)) (range_with_len 0 n)) ≡ first_clash cs

pub first_is_least : FirstIsLeast
first_is_least key n [] order below = none 0 n
  where
    none : (a n : ℕ) → least_clash_of (map (λ q. first_clash (filter (λ c. key c == q) [])) (range_with_len a n)) ≡ None
    none a zero = refl
    none a (suc n) = none (a + 1) n
first_is_least key n (c ∷ cs) order below = at 0 n (omega arith) (omega (arith, below.0))
  where
    part : ℕ → Option Conflict
    part q = first_clash (filter (λ d. key d == q) (c ∷ cs))

    -- one that isn't less than the first of all
    IsLater : Option Conflict → Type 0
    IsLater None = Unit {0}
    IsLater (Some d) = is_less d c ≡ false

    head_later : (q : ℕ) (ds : List Conflict) → AllByRecursion (λ d. is_less c d ≡ true) ds
        → IsLater (first_clash (filter (λ d. key d == q) ds))
    head_later q [] h = tt
    head_later q (d ∷ ds) h = by (key d == q) (head_later q ds h.1)
      where
        by : (b : Bool) → IsLater (first_clash (filter (λ e. key e == q) ds))
            → IsLater (first_clash (cond b (d ∷ filter (λ e. key e == q) ds) (filter (λ e. key e == q) ds)))
        by true rest = not_less_back c d h.0
        by false rest = rest

    part_later : (q : ℕ) → IsLater (part q)
    part_later q = by (key c == q) (head_later q cs order.0)
      where
        by : (b : Bool) → IsLater (first_clash (filter (λ e. key e == q) cs))
            → IsLater (first_clash (cond b (c ∷ filter (λ e. key e == q) cs) (filter (λ e. key e == q) cs)))
        by true rest = not_less_itself c
        by false rest = rest

    lesser_later : (v w : Option Conflict) → IsLater v → IsLater w → IsLater (lesser v w)
    lesser_later None w h k = k
    lesser_later (Some a) None h k = h
    lesser_later (Some a) (Some b) h k = by (is_less b a)
      where
        by : (t : Bool) → IsLater (if t then Some b else Some a)
        by true = k
        by false = h

    all_later : (a n : ℕ) → IsLater (least_clash_of (map part (range_with_len a n)))
    all_later a zero = tt
    all_later a (suc n) =
        lesser_later (part a) (least_clash_of (map part (range_with_len (a + 1) n))) (part_later a) (all_later (a + 1) n)

    first_wins : (w : Option Conflict) → IsLater w → lesser (Some c) w ≡ Some c
    first_wins None h = refl
    first_wins (Some d) h = ap (λ b. if b then Some d else Some c) h

    -- one of another key loses
    other_loses : (q : ℕ) (ds : List Conflict) → AllByRecursion (λ d. is_less c d ≡ true) ds
        → lesser (first_clash (filter (λ d. key d == q) ds)) (Some c) ≡ Some c
    other_loses q [] h = refl
    other_loses q (d ∷ ds) h = by (key d == q) (other_loses q ds h.1)
      where
        by : (b : Bool) → lesser (first_clash (filter (λ e. key e == q) ds)) (Some c) ≡ Some c
            → lesser (first_clash (cond b (d ∷ filter (λ e. key e == q) ds) (filter (λ e. key e == q) ds))) (Some c) ≡ Some c
        by true rest = ap (λ b. if b then Some c else Some d) h.0
        by false rest = rest

    at : (a n : ℕ) → a ≤ key c → key c < a + n → least_clash_of (map part (range_with_len a n)) ≡ Some c
    at a zero low high = absurd (omega (arith, low, high))
    at a (suc n) low high = by (key c == a) refl (λ more. at (a + 1) n more (omega (arith, high)))
      where
        by : (b : Bool) → (key c == a) ≡ b → (a + 1 ≤ key c → least_clash_of (map part (range_with_len (a + 1) n)) ≡ Some c)
            → lesser (first_clash (cond b (c ∷ filter (λ d. key d == a) cs) (filter (λ d. key d == a) cs)))
            (least_clash_of (map part (range_with_len (a + 1) n))) ≡ Some c
        by true e rest = first_wins (least_clash_of (map part (range_with_len (a + 1) n))) (all_later (a + 1) n)
        by false e rest =
            let more : a + 1 ≤ key c = grind (arith, nat_tests, e, low) in
            ap (lesser (first_clash (filter (λ d. key d == a) cs))) (rest more) ∙ other_loses a cs order.0
