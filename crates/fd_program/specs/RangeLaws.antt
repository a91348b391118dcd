-- Loops over a range, one number after another.
use Rattle.std.proofs.Common.{◌≡◌, Bool, true, false, cond, filter, ℕ, zero, suc, ◌<◌, ℤ, pos, negsuc, ◌+ℤ◌, ◌-ℤ◌, ◌≤ℤ◌, ◌<ℤ◌, List, []}
use Rattle.std.proofs.Common.{◌∷◌, ◌++◌, refl, ap, sym, ◌∙◌, arith, append_assoc, append-nil}
use Rattle.std.proofs.lemmas.Int.{ints}
use Rattle.chaos_dist.specs.Homes.{natural}
use Rattle.fd_program.specs.Loops.{count_between, counted_from, range_of}

pub natural_of : (z : ℤ) (n : ℕ) → z ≡ pos n → natural z ≡ n
natural_of z n e = ap natural e

pub natural_least : (z : ℤ) → z ≤ℤ pos 0 → natural z ≡ 0
natural_least (pos zero) h = refl
natural_least (pos (suc n)) h = absurd (omega (arith, ints))
natural_least (negsuc n) h = refl

pub counted : (z : ℤ) → pos 0 ≤ℤ z → pos (natural z) ≡ z
counted (pos n) h = refl
counted (negsuc n) h = absurd (omega (arith, ints))

pub counts_next : (i high : ℤ) → i ≤ℤ high → count_between i high ≡ suc (count_between (i +ℤ pos 1) high)
counts_next i high h =
    let rest : pos (natural (high -ℤ (i +ℤ pos 1) +ℤ pos 1)) ≡ high -ℤ (i +ℤ pos 1) +ℤ pos 1 = counted _ (omega (arith, ints)) in
    let e : high -ℤ i +ℤ pos 1 ≡ pos (suc (natural (high -ℤ (i +ℤ pos 1) +ℤ pos 1))) = omega (arith, ints, rest) in
    natural_of _ _ e

pub counts_none : (i high : ℤ) → high <ℤ i → count_between i high ≡ 0
counts_none i high h = let least : (high -ℤ i +ℤ pos 1) ≤ℤ pos 0 = omega (arith, ints) in natural_least (high -ℤ i +ℤ pos 1) least

pub range_next : (i j high : ℤ) → i ≤ℤ high → j ≡ i +ℤ pos 1 → range_of i high ≡ i ∷ range_of j high
range_next i j high h e = ap (counted_from i) (counts_next i high h) ∙ ap (λ k. i ∷ range_of k high) (sym e)

pub range_none : (i high : ℤ) → high <ℤ i → range_of i high ≡ []
range_none i high h = ap (counted_from i) (counts_none i high h)

pub fewer_left : (i j high : ℤ) → i ≤ℤ high → j ≡ i +ℤ pos 1 → natural (high -ℤ j +ℤ pos 1) < natural (high -ℤ i +ℤ pos 1)
fewer_left i j high h e = rw (e, counts_next i high h) (omega arith)

-- ---- a list of those that pass, one further, and at the end

pub kept_further : (p : ℤ → Bool) (list more : List ℤ) (i j high : ℤ) (all : List ℤ) → i ≤ℤ high → j ≡ i +ℤ pos 1
    → more ≡ list ++ cond (p i) (i ∷ []) [] → list ++ filter p (range_of i high) ≡ all → more ++ filter p (range_of j high) ≡ all
kept_further p list more i j high all h e kept before =
    ap (λ l. l ++ filter p (range_of j high)) kept
    ∙ append_assoc list (cond (p i) (i ∷ []) []) (filter p (range_of j high))
    ∙ ap (λ r. list ++ r) (by (p i) ∙ ap (filter p) (sym (range_next i j high h e)))
    ∙ before
  where
    by : (b : Bool) → cond b (i ∷ []) [] ++ filter p (range_of j high) ≡ cond b (i ∷ filter p (range_of j high))
        (filter p (range_of j high))
    by true = refl
    by false = refl

pub kept_done : (p : ℤ → Bool) (list : List ℤ) (i high : ℤ) (all : List ℤ) → high <ℤ i → list ++ filter p (range_of i high) ≡ all
    → list ≡ all
kept_done p list i high all h before = sym (append-nil list) ∙ ap (λ r. list ++ filter p r) (sym (range_none i high h)) ∙ before

-- ---- a list of all

pub range_further : (list more : List ℤ) (i j high : ℤ) (all : List ℤ) → i ≤ℤ high → j ≡ i +ℤ pos 1 → more ≡ list ++ i ∷ []
    → list ++ range_of i high ≡ all → more ++ range_of j high ≡ all
range_further list more i j high all h e pushed before =
    ap (λ l. l ++ range_of j high) pushed
    ∙ append_assoc list (i ∷ []) (range_of j high)
    ∙ ap (λ r. list ++ r) (sym (range_next i j high h e))
    ∙ before
