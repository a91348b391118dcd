-- Turns in order.
use Rattle.std.proofs.Common.{◌≡◌, ℕ, suc, zero, ◌+◌, ◌-◌, ◌*◌, ◌%◌, ◌<◌, ◌≤◌, List, [], ◌∷◌, ◌++◌, inl, inr, length, map, take}
use Rattle.std.proofs.Common.{slice_index, refl, sym, ◌∙◌, ap, subst, arith, length-append, add-one}
use Rattle.std.proofs.lemmas.Bool.{cases_eq}
use Rattle.std.proofs.Math.Arith.{digits_mod}
use Rattle.bsp_core.specs.Views.{View}
use Rattle.bsp_core.specs.Turns.{WorldState, Moves, Turn, Plays, IsStill, IsFirst, Draws, next_seed, drawn, nodes_below, rounds, total}
use Rattle.bsp_core.proofs.Places.{le_or_more}

module _ {N S : Type 0} (view : N → View S) where
  pub plays_append : (xs ys : List ℕ) (a b c : WorldState N) → Plays view xs a b → Plays view ys b c → Plays view (xs ++ ys) a c
  plays_append [] ys a b c h k = subst (λ (z : WorldState N). Plays view ys z c) h k
  plays_append (p ∷ xs) ys a b c h k = (h.0, h.1, plays_append xs ys h.0 b c h.2 k)

  pub plays_last : (xs : List ℕ) (p : ℕ) (a b c : WorldState N) → Plays view xs a b → Turn view p b c → Plays view (xs ++ p ∷ []) a c
  plays_last xs p a b c h k = plays_append xs (p ∷ []) a b c h (c, k, refl)

  -- a turn that is told by a number
  pub turn_by : (k p : ℕ) (a b : WorldState N) → (0 < k → Moves view p a b) → (k ≡ 0 → b ≡ a) → (k ≡ 0 → IsStill view p a) → Turn view p a b
  turn_by zero p a b m s t = inr (s refl, t refl)
  turn_by (suc k) p a b m s t = inl (m (omega arith))

  pub move_grows : (p : ℕ) (a b : WorldState N) → Moves view p a b → length b.moved ≡ length a.moved + 1
  move_grows p a b h = ap length h.moved ∙ length-append a.moved (p ∷ [])

  pub plays_grow : (xs : List ℕ) (a b : WorldState N) → Plays view xs a b → length a.moved ≤ length b.moved
  plays_grow [] a b h = let e : length b.moved ≡ length a.moved = ap (λ (z : WorldState N). length z.moved) h in omega (arith, e)
  plays_grow (p ∷ xs) a b h = elim h.1 [
    | inl m ↦ omega (arith, move_grows p a h.0 m, plays_grow xs h.0 b h.2)
    | inr s ↦ (let e : length h.0.moved ≡ length a.moved = ap (λ (z : WorldState N). length z.moved) s.0 in
        omega (arith, e, plays_grow xs h.0 b h.2))
  ]

  pub take_next : (xs : List ℕ) (i : ℕ) → i < length xs → take (i + 1) xs ≡ take i xs ++ slice_index xs i ∷ []
  take_next [] i l = absurd (omega arith)
  take_next (x ∷ xs) zero l = refl
  take_next (x ∷ xs) (suc i) l =
      ap (λ (j : ℕ). take j (x ∷ xs)) (let e : suc i + 1 ≡ suc (i + 1) = omega arith in e)
      ∙ ap (λ (z : List ℕ). x ∷ z) (take_next xs i (omega arith))

  pub sweep_next : (k : ℕ) (a b c : WorldState N) → Plays view (nodes_below k) a b → Turn view k b c → Plays view (nodes_below (k + 1)) a c
  sweep_next k a b c h t = subst (λ (j : ℕ). Plays view (nodes_below j) a c) (sym (add-one k)) (plays_last (nodes_below k) k a b c h t)

  -- draws
  pub draws_last : (s : ℕ) (ps : List ℕ) (a b c : WorldState N) (s' p : ℕ) → Draws view s ps a s' b
      → IsFirst view (drawn (length b.nodes) (next_seed s')) p b → Moves view p b c →
      Draws view s (ps ++ p ∷ []) a (next_seed s') c
  draws_last s [] a b c s' p h f m = (
    c,
    subst (λ (z : WorldState N). IsFirst view (drawn (length z.nodes) (next_seed s)) p z) h.1
        (subst (λ (z : ℕ). IsFirst view (drawn (length b.nodes) (next_seed z)) p b) h.0 f),
    subst (λ (z : WorldState N). Moves view p z c) h.1 m,
    (ap next_seed h.0, refl),
  )
  draws_last s (q ∷ ps) a b c s' p h f m = (h.0, h.1, h.2, draws_last (next_seed s) ps h.0 b c s' p h.3 f m)

  pub draws_grow : (s : ℕ) (ps : List ℕ) (a b : WorldState N) (s' : ℕ) → Draws view s ps a s' b → length a.moved ≤ length b.moved
  draws_grow s [] a b s' h = let e : length b.moved ≡ length a.moved = ap (λ (z : WorldState N). length z.moved) h.1 in omega (arith, e)
  draws_grow s (p ∷ ps) a b s' h = omega (arith, move_grows p a h.0 h.2, draws_grow (next_seed s) ps h.0 b s' h.3)

  -- counting round, each node is met
  pub round_meets : (n from p : ℕ) → from < n → p < n → (j : ℕ) × (j < n) × ((from + j) % n ≡ p)
  round_meets n from p lf lp = elim (le_or_more from p) [
    | inl le ↦ (p - from, omega arith, ap (λ (z : ℕ). z % n) (let e : from + (p - from) ≡ 0 * n + p = omega arith in e) ∙ digits_mod 0 lp)
    | inr lt ↦ (
      p + n - from,
      omega arith,
      ap (λ (z : ℕ). z % n) (let e : from + (p + n - from) ≡ 1 * n + p = omega arith in e)
          ∙ digits_mod 1 lp,
    )
  ]

  pub round_still : (n from : ℕ) (w : WorldState N) → from < n → ((j : ℕ) → j < n → IsStill view ((from + j) % n) w) → (p : ℕ) → p < n
      → IsStill view p w
  round_still n from w lf h p lp =
      let m : (j : ℕ) × (j < n) × ((from + j) % n ≡ p) = round_meets n from p lf lp in
      subst (λ (z : ℕ). IsStill view z w) m.2 (h m.0 m.1)

  -- a round more
  pub round_next : (k n m : ℕ) (a b c : WorldState N) → Plays view (rounds k n) a b → m ≡ n → Plays view (nodes_below m) b c
      → Plays view (rounds (suc k) n) a c
  round_next k n m a b c h e t = plays_append (rounds k n) (nodes_below n) a b c h (subst (λ (z : ℕ). Plays view (nodes_below z) b c) e t)

  -- a turn more in a round
  pub sweep_keeps : (m k node : ℕ) (a b c : WorldState N) → (0 < m → total (map view b.nodes) < total (map view a.nodes))
      → (m ≡ 0 → b ≡ a) → (m ≡ 0 → (p : ℕ) → p < node → IsStill view p b) →
      Plays view (nodes_below node) a b → (0 < k → total (map view c.nodes) < total (map view b.nodes)) → (0 < k → Moves view node b c)
      → (k ≡ 0 → c ≡ b) → (k ≡ 0 → IsStill view node b) →
      (0 < m + k → total (map view c.nodes) < total (map view a.nodes)) × (m + k ≡ 0 → c ≡ a)
      × (m + k ≡ 0 → (p : ℕ) → p < node + 1 → IsStill view p c) × Plays view (nodes_below (node + 1)) a c
  sweep_keeps m k node a b c fall same still plays falls moves stays stills =
      let weigh : WorldState N → ℕ = λ z. total (map view z.nodes) in (
        λ l. elim (cases_eq k 0) [
          | inl e ↦ subst (λ (z : WorldState N). weigh z < weigh a) (sym (stays e)) (fall (omega (arith, e)))
          | inr e ↦ elim (cases_eq m 0) [
            | inl i ↦ subst (λ (z : WorldState N). weigh c < weigh z) (same i) (falls (omega (arith, e)))
            | inr i ↦ (let x : weigh c < weigh b = falls (omega (arith, e)) in let y : weigh b < weigh a = fall (omega (arith, i)) in
                omega (arith, x, y))
          ]
        ],
        λ e. stays (omega arith) ∙ same (omega arith),
        λ e p l. subst (λ (z : WorldState N). IsStill view p z) (sym (stays (omega arith))) (elim (cases_eq p node) [
          | inl i ↦ subst (λ (q : ℕ). IsStill view q b) (sym i) (stills (omega arith))
          | inr i ↦ still (omega arith) p (omega (arith, i))
        ]),
        sweep_next node a b c plays (turn_by k node b c moves stays stills),
      )

  -- a draw more
  pub draws_more : (s : ℕ) (ps : List ℕ) (a b c : WorldState N) (s' s'' n from p : ℕ) → Draws view s ps a s' b → n ≡ length b.nodes
      → s'' ≡ next_seed s' → from ≡ drawn n s'' →
      IsFirst view from p b → Moves view p b c → Draws view s (ps ++ p ∷ []) a s'' c
  draws_more s ps a b c s' s'' n from p h en es ef f m =
      subst (λ (z : ℕ). Draws view s (ps ++ p ∷ []) a z c) (sym es)
      (draws_last s ps a b c s' p h (subst (λ (z : ℕ). IsFirst view z p b) (ef ∙ ap (λ (z : ℕ). drawn n z) es
      ∙ ap (λ (z : ℕ). drawn z (next_seed s')) en) f) m)
