-- Runs of b elements are dealt to n nodes in turn, one run after another: a round is n runs.
use Rattle.std.specs.Prelude.{◌≡◌, refl, ℕ, zero, suc, ◌+◌, ◌-◌, ◌*◌, ◌/◌, ◌%◌, ◌≤◌, ◌<◌, ◌≢◌, ◌==◌, nat_lt, if◌then◌else◌, cond}
use Rattle.std.proofs.Common.{ap, sym, ◌∙◌, arith}
use Rattle.std.proofs.lemmas.Nat.{div-mul-add, mod-mul-add, div-add-mod', mod_below}
use Rattle.std.proofs.lemmas.Bool.Decides.{nat_tests}
use Rattle.chaos_dist.specs.Counting.{count_up_to}

-- what a round that ends with o elements of the run of node m has given node p
abbrev pub last_round : ℕ → ℕ → ℕ → ℕ → ℕ
last_round b m o p = if nat_lt p m then b else (if p == m then o else 0)

-- the node of the k-th element, from 0, in rounds of n runs of b
abbrev pub dealt_to : ℕ → ℕ → ℕ → ℕ
dealt_to b n k = k / b % n

-- how many of the elements up to x node p is dealt
abbrev pub dealt_count : ℕ → ℕ → ℕ → ℕ → ℕ
dealt_count b n p x = count_up_to (λ h. dealt_to b n (h - 1) == p) x

-- the element with o before it in its run, of node m, and r rounds before that
pub dealt_at : (b n r m o : ℕ) → m < n → o < b → dealt_to b n ((r * n + m) * b + o) ≡ m
dealt_at b n r m o hm ho = ap (λ q. q % n) (div-mul-add (r * n + m) b o ho) ∙ mod-mul-add r n m hm

last_round_more : (b m o p : ℕ) → last_round b m o p + cond (m == p) 1 0 ≡ last_round b m (suc o) p
last_round_more b m o p = grind (arith, nat_tests)

last_round_next : (b m p : ℕ) → 1 ≤ b → last_round b m (b - 1) p + cond (m == p) 1 0 ≡ last_round b (suc m) 0 p
last_round_next b m p h = grind (arith, nat_tests)

last_round_round : (b n p : ℕ) → 1 ≤ b → 1 ≤ n → p < n → last_round b (n - 1) (b - 1) p + cond (n - 1 == p) 1 0 ≡ b + last_round b 0 0 p
last_round_round b n p h k l = grind (arith, nat_tests)

last_round_none : (b p : ℕ) → last_round b 0 0 p ≡ 0
last_round_none b p = grind (arith, nat_tests)

nothing_dealt : (b n p r m o : ℕ) → 1 ≤ b → 1 ≤ n → 0 ≡ (r * n + m) * b + o → 0 ≡ r * b + last_round b m o p
nothing_dealt zero n p r m o hb hn e = absurd (omega arith)
nothing_dealt (suc b) zero p r m o hb hn e = absurd (omega arith)
nothing_dealt (suc b) (suc n) p (suc r) m o hb hn e = absurd (omega arith)
nothing_dealt (suc b) (suc n) p zero (suc m) o hb hn e = absurd (omega arith)
nothing_dealt (suc b) (suc n) p zero zero (suc o) hb hn e = absurd (omega arith)
nothing_dealt (suc b) (suc n) p zero zero zero hb hn e = omega (arith, last_round_none (suc b) p)

one_more : (b n p x r m o c : ℕ) → x ≡ (r * n + m) * b + o → m < n → o < b → dealt_count b n p x ≡ c
    → dealt_count b n p (suc x) ≡ c + cond (m == p) 1 0
one_more b n p x r m o c e hm ho before =
    let at : suc x - 1 ≡ (r * n + m) * b + o = omega arith in
    ap (λ v. v + cond (dealt_to b n (suc x - 1) == p) 1 0) before
    ∙ ap (λ k. c + cond (k == p) 1 0) (ap (dealt_to b n) at ∙ dealt_at b n r m o hm ho)

run_before : (b n r m x : ℕ) → 1 ≤ b → suc x ≡ (r * n + suc m) * b + zero → x ≡ (r * n + m) * b + (b - 1)
run_before zero n r m x hb e = absurd (omega arith)
run_before (suc b) n r m x hb e =
    let g : suc b - 1 ≡ b = omega arith in
    rw g (omega arith)

round_before : (b n r x : ℕ) → 1 ≤ b → 1 ≤ n → suc x ≡ (suc r * n + zero) * b + zero → x ≡ (r * n + (n - 1)) * b + (b - 1)
round_before zero n r x hb hn e = absurd (omega arith)
round_before (suc b) zero r x hb hn e = absurd (omega arith)
round_before (suc b) (suc n) r x hb hn e =
    let f : suc n - 1 ≡ n = omega arith in
    let g : suc b - 1 ≡ b = omega arith in
    rw (f, g) (omega arith)

-- the elements before it that a node is dealt
pub dealt_count-at : (b n p : ℕ) → 1 ≤ b → 1 ≤ n → p < n → (x r m o : ℕ) → x ≡ (r * n + m) * b + o → m < n → o < b
    → dealt_count b n p x ≡ r * b + last_round b m o p
dealt_count-at b n p hb hn hp zero r m o e hm ho = nothing_dealt b n p r m o hb hn e
dealt_count-at b n p hb hn hp (suc x) r m (suc o) e hm ho =
    one_more b n p x r m o (r * b + last_round b m o p) (omega arith) hm (omega arith)
    (dealt_count-at b n p hb hn hp x r m o (omega arith) hm (omega arith))
    ∙ omega (arith, last_round_more b m o p)
dealt_count-at b n p hb hn hp (suc x) r (suc m) zero e hm ho =
    let at : x ≡ (r * n + m) * b + (b - 1) = run_before b n r m x hb e in
    one_more b n p x r m (b - 1) (r * b + last_round b m (b - 1) p) at (omega arith) (omega arith)
    (dealt_count-at b n p hb hn hp x r m (b - 1) at (omega arith) (omega arith))
    ∙ omega (arith, last_round_next b m p hb)
dealt_count-at b n p hb hn hp (suc x) (suc r) zero zero e hm ho =
    let at : x ≡ (r * n + (n - 1)) * b + (b - 1) = round_before b n r x hb hn e in
    one_more b n p x r (n - 1) (b - 1) (r * b + last_round b (n - 1) (b - 1) p) at (omega arith) (omega arith)
    (dealt_count-at b n p hb hn hp x r (n - 1) (b - 1) at (omega arith) (omega arith))
    ∙ omega (arith, last_round_round b n p hb hn hp)
dealt_count-at b n p hb hn hp (suc x) zero zero zero e hm ho = absurd (omega arith)

-- by formula
pub dealt_count-is : (b n p x : ℕ) → 1 ≤ b → 1 ≤ n → p < n
    → dealt_count b n p x ≡ x / b / n * b + last_round b (x / b % n) (x % b) p
dealt_count-is b n p x hb hn hp =
    let at : x ≡ (x / b / n * n + x / b % n) * b + x % b =
    sym (ap (λ q. q * b + x % b) (div-add-mod' (x / b) n) ∙ div-add-mod' x b) in
    dealt_count-at b n p hb hn hp x (x / b / n) (x / b % n) (x % b) at (mod_below (x / b) n hn) (mod_below x b hb)

pub last_round_own : (b m o : ℕ) → last_round b m o m ≡ o
last_round_own b m o = grind (arith, nat_tests)

-- what the nodes before, at and after the last run have of the round
pub last_round_low : (b m o p : ℕ) → p < m → last_round b m o p ≡ b
last_round_low b m o p h = grind (arith, nat_tests)

pub last_round_at : (b m o p : ℕ) → p ≡ m → last_round b m o p ≡ o
last_round_at b m o p h = grind (arith, nat_tests)

pub last_round_high : (b m o p : ℕ) → m ≤ p → p ≢ m → last_round b m o p ≡ 0
last_round_high b m o p h k = grind (arith, nat_tests)

-- the element, from 0, with l before it on its node
abbrev pub element_at : ℕ → ℕ → ℕ → ℕ → ℕ
element_at b n node l = (l / b * n + node) * b + l % b

pub dealt_to-element_at : (b n node l : ℕ) → 1 ≤ b → node < n → dealt_to b n (element_at b n node l) ≡ node
dealt_to-element_at b n node l hb hp = dealt_at b n (l / b) node (l % b) hp (mod_below l b hb)

pub dealt_count-element_at : (b n node l : ℕ) → 1 ≤ b → 1 ≤ n → node < n → dealt_count b n node (element_at b n node l) ≡ l
dealt_count-element_at b n node l hb hn hp =
    dealt_count-at b n node hb hn hp (element_at b n node l) (l / b) node (l % b) refl hp (mod_below l b hb)
    ∙ ap (λ o. l / b * b + o) (last_round_own b node (l % b)) ∙ div-add-mod' l b

-- the parts of an element's number are no larger than it
pub le-element_at : (b n node l : ℕ) → 1 ≤ b → (l / b * n ≤ element_at b n node l) × (l / b * n + node ≤ element_at b n node l)
    × ((l / b * n + node) * b ≤ element_at b n node l)
le-element_at b n node l hb =
    let grows : l / b * n + node ≤ (l / b * n + node) * b = le_times (l / b * n + node) b hb in
    (omega (arith, grows), omega (arith, grows), omega arith)
  where
    le_times : (a b : ℕ) → 1 ≤ b → a ≤ a * b
    le_times a zero h = absurd (omega arith)
    le_times a (suc b) h = omega arith
