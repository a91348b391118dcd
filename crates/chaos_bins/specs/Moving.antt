-- What each node has of the particles, in its order, and what goes from node to node in a round.
use Rattle.std.specs.Prelude.{◌≡◌, ℕ, zero, suc, ◌+◌, ◌≤◌, ◌<◌, ◌==◌, ◌&&◌, ℤ, pos, Bool, true, false, cond, List, [], ◌∷◌, map, filter}
use Rattle.std.specs.Prelude.{flat_map}
use Rattle.std.specs.List.{range_with_len, AllByRecursion}
use Rattle.std.proofs.Common.{ap, sym, ◌∙◌, subst, arith, refl}
use Rattle.chaos_dist.specs.Counting.{below, up_to}
use Rattle.chaos_dist.specs.Layout.{owner_of}
use Rattle.chaos_dist.specs.LayoutLaws.{owner_of-below}
use Rattle.chaos_dist.specs.declared.shape.Shape.TheVariants.{Block}
use Rattle.chaos_bins.specs.Bags.{SameBag, AreDealt}
use Rattle.chaos_bins.specs.Bins.{Particles, first_bin, value, bin_after, bin_at, bin_owner, final_bin, goes, holder, moving, step_from}
use Rattle.chaos_bins.specs.Rounds.{all_held, flat_map-same, held, held_stand, item_before, lists_before, moving_in, node_before}
use Rattle.chaos_bins.specs.Rounds.{rows_come_in, rows_in, rows_move}
use Rattle.chaos_bins.specs.StepLaws.{steps_lead, steps_stay_within}

-- what a round does to a particle: round 0 leaves it in its bin
abbrev pub moved : ℕ → ℕ → ℤ × ℤ → ℤ × ℤ
moved bins zero x = x
moved bins (suc t) x = (step_from bins x.1 x.0, x.1)

-- bin and value of particle i, and the owner of a particle's bin
abbrev pub particle : Particles → ℕ → ℤ × ℤ
particle particles i = (first_bin particles i, value particles i)

abbrev pub owner : ℕ → ℕ → ℤ × ℤ → ℕ
owner bins nodes x = bin_owner bins nodes x.0

-- for each node the particles that it has before round t
abbrev pub standing : ℕ → ℕ → Particles → ℕ → List (List (ℤ × ℤ))
standing bins nodes particles t =
    lists_before nodes (up_to particles.count) (particle particles) (owner_of Block particles.count nodes) (moved bins) (owner bins nodes) t

-- those that go from p to q in round t, in the order in which p has them
abbrev pub rows : ℕ → ℕ → Particles → ℕ → ℕ → ℕ → List (ℤ × ℤ)
rows bins nodes particles t p q =
    rows_in nodes (up_to particles.count) (particle particles) (owner_of Block particles.count nodes) (moved bins) (owner bins nodes) t p q

-- what p has behind a round, in its order: what came from each node in turn, its own in its own place
abbrev pub come_to : ℕ → ℕ → Particles → ℕ → ℕ → List (ℤ × ℤ)
come_to bins nodes particles t p = flat_map (λ q. rows bins nodes particles t q p) (below nodes)

-- the particles that p holds behind it
abbrev pub held_after : ℕ → ℕ → Particles → ℕ → ℕ → List (ℤ × ℤ)
held_after bins nodes particles t p =
    map (λ i. (bin_at bins particles t i, value particles i))
    (filter (λ i. holder bins nodes particles (suc t) i == p) (up_to particles.count))

-- each first bin is one of the bins
abbrev pub AreInBins : ℕ → Particles → Type 0
AreInBins bins particles = (i : ℕ) → 1 ≤ i → i ≤ particles.count → (a : ℕ) × (a < bins) × (first_bin particles i ≡ pos (a + 1))

-- ---- all particles

pub numbers : (P : ℕ → Type 0) (a n : ℕ) → ((i : ℕ) → a ≤ i → i < a + n → P i) → AllByRecursion P (range_with_len a n)
numbers P a zero h = tt
numbers P a (suc n) h = (h a (omega arith) (omega arith), numbers P (a + 1) n (λ i l m. h i (omega (arith, l)) (omega (arith, m))))

kept_agree : {X : Type 0} (f g : ℕ → X) (p q : ℕ → Bool) (is : List ℕ) → AllByRecursion (λ i. (f i ≡ g i) × (p i ≡ q i)) is
    → map f (filter p is) ≡ map g (filter q is)
kept_agree f g p q [] all = refl
kept_agree {X} f g p q (i ∷ is) all =
    ap (λ b. map f (cond b (i ∷ filter p is) (filter p is))) all.0.1 ∙ by (q i) (kept_agree f g p q is all.1)
  where
    by : (b : Bool) → map f (filter p is) ≡ map g (filter q is)
        → map f (cond b (i ∷ filter p is) (filter p is)) ≡ map g (cond b (i ∷ filter q is) (filter q is))
    by true e = ap (λ x. x ∷ map f (filter p is)) all.0.0 ∙ ap (λ l. g i ∷ l) e
    by false e = e

mapped_alike : {X : Type 0} (f g : ℕ → X) (is : List ℕ) → AllByRecursion (λ i. f i ≡ g i) is → map f is ≡ map g is
mapped_alike f g [] all = refl
mapped_alike f g (i ∷ is) all = ap (λ x. x ∷ map f is) all.0 ∙ ap (λ l. g i ∷ l) (mapped_alike f g is all.1)

module _ (bins nodes : ℕ) (particles : Particles) (some_nodes : 1 ≤ nodes) (within : AreInBins bins particles) where
  abbrev items : List ℕ
  items = up_to particles.count

  abbrev begin : ℕ → ℕ
  begin = owner_of Block particles.count nodes

  abbrev before : ℕ → ℕ → ℤ × ℤ
  before = item_before nodes items (particle particles) begin (moved bins) (owner bins nodes)

  abbrev node : ℕ → ℕ → ℕ
  node = node_before nodes items (particle particles) begin (moved bins) (owner bins nodes)

  stepped : (t i : ℕ) → before (suc t) i ≡ (bin_after bins (value particles i) (first_bin particles i) t, value particles i)
  stepped zero i = refl
  stepped (suc t) i = ap (moved bins (suc t)) (stepped t i)

  led : (t i : ℕ) → 1 ≤ i → i ≤ particles.count → bin_after bins (value particles i) (first_bin particles i) t ≡ bin_at bins particles t i
  led t i l m =
      let a = within i l m in
      ap (λ b. bin_after bins (value particles i) b t) a.2
      ∙ steps_lead bins (value particles i) a.0 t a.1
      ∙ ap (final_bin bins t (value particles i)) (sym a.2)

  comes_to : (t i : ℕ) → 1 ≤ i → i ≤ particles.count → before (suc t) i ≡ (bin_at bins particles t i, value particles i)
  comes_to t i l m = stepped t i ∙ ap (λ (b : ℤ). (b, value particles i)) (led t i l m)

  is_holder : (t i : ℕ) → 1 ≤ i → i ≤ particles.count → node t i ≡ holder bins nodes particles t i
  is_holder zero i l m = refl
  is_holder (suc t) i l m = ap (owner bins nodes) (comes_to t i l m)

  holder_below : (t i : ℕ) → 1 ≤ i → i ≤ particles.count → holder bins nodes particles t i < nodes
  holder_below zero i l m = owner_of-below Block particles.count nodes i some_nodes m l
  holder_below (suc t) i l m =
      let a = within i l m in
      let b = steps_stay_within bins t (value particles i) (first_bin particles i) (omega (arith, a.1)) in
      subst (λ z. bin_owner bins nodes z < nodes) (sym b.2)
      (owner_of-below Block bins nodes (b.0 + 1) some_nodes (omega (arith, b.1)) (omega arith))

  dealt : (t : ℕ) → AreDealt (node t) nodes items
  dealt t =
      numbers (λ i. node t i < nodes) 1 particles.count
      (λ i l m. let n : i ≤ particles.count = omega (arith, m) in subst (λ k. k < nodes) (sym (is_holder t i l n)) (holder_below t i l n))

  same_moving : (t p q : ℕ)
      → moving bins nodes particles t p q ≡ moving_in nodes items (particle particles) begin (moved bins) (owner bins nodes) t p q
  same_moving t p q =
      kept_agree (λ i. (bin_at bins particles t i, value particles i)) (before (suc t))
      (goes bins nodes particles t p q)
      (λ i. (node t i == p) && (owner bins nodes (before (suc t) i) == q)) items
      (numbers (λ i. ((bin_at bins particles t i, value particles i) ≡ before (suc t) i)
      × (goes bins nodes particles t p q i ≡ ((node t i == p) && (owner bins nodes (before (suc t) i) == q)))) 1 particles.count
      (λ i l m.
      let n : i ≤ particles.count = omega (arith, m) in
      let comes = sym (comes_to t i l n) in (
        comes,
        ap (λ k. (k == p) && (bin_owner bins nodes (bin_at bins particles t i) == q)) (sym (is_holder t i l n))
            ∙ ap (λ x. (node t i == p) && (owner bins nodes x == q)) comes,
      )))

  pub particles_move : (t p q : ℕ) → p < nodes → SameBag (moving bins nodes particles t p q) (rows bins nodes particles t p q)
  particles_move t p q low =
      subst (λ l. SameBag l (rows bins nodes particles t p q)) (sym (same_moving t p q))
      (rows_move nodes items (particle particles) begin (moved bins) (owner bins nodes) dealt t p q low)

  same_held : (t p : ℕ)
      → held_after bins nodes particles t p ≡ held nodes items (particle particles) begin (moved bins) (owner bins nodes) (suc t) p
  same_held t p =
      kept_agree (λ i. (bin_at bins particles t i, value particles i)) (before (suc t))
      (λ i. holder bins nodes particles (suc t) i == p) (λ i. node (suc t) i == p) items
      (numbers (λ i. ((bin_at bins particles t i, value particles i) ≡ before (suc t) i)
      × ((holder bins nodes particles (suc t) i == p) ≡ (node (suc t) i == p))) 1 particles.count
      (λ i l m.
      let n : i ≤ particles.count = omega (arith, m) in
      (sym (comes_to t i l n), ap (λ k. k == p) (sym (is_holder (suc t) i l n)))))

  pub particles_held : (t p : ℕ) → p < nodes → SameBag (held_after bins nodes particles t p) (come_to bins nodes particles t p)
  particles_held t p low =
      subst (λ l. SameBag l (come_to bins nodes particles t p)) (sym (same_held t p))
      (subst (λ l. SameBag (held nodes items (particle particles) begin (moved bins) (owner bins nodes) (suc t) p) l)
      (rows_come_in nodes items (particle particles) begin (moved bins) (owner bins nodes) t p low)
      (held_stand nodes items (particle particles) begin (moved bins) (owner bins nodes) dealt (suc t) p low))

  pub all_particles_held : (t : ℕ)
      → SameBag (map (λ i. (bin_at bins particles t i, value particles i)) items) (flat_map (held_after bins nodes particles t)
      (below nodes))
  all_particles_held t =
      subst (λ l. SameBag l (flat_map (held_after bins nodes particles t) (below nodes)))
      (sym (mapped_alike (λ i. (bin_at bins particles t i, value particles i)) (before (suc t)) items
      (numbers (λ i. (bin_at bins particles t i, value particles i) ≡ before (suc t) i) 1 particles.count
      (λ i l m. sym (comes_to t i l (omega (arith, m)))))))
      (subst (λ l. SameBag (map (before (suc t)) items) l)
      (sym (flat_map-same (held_after bins nodes particles t)
      (held nodes items (particle particles) begin (moved bins) (owner bins nodes) (suc t)) 0 nodes (λ p l m. same_held t p)))
      (all_held nodes items (particle particles) begin (moved bins) (owner bins nodes) (suc t) (dealt (suc t))))

-- the next rows are made of what came
pub rows_go_on : (bins nodes : ℕ) (particles : Particles) (t p q : ℕ) → p < nodes
    → rows bins nodes particles (suc t) p q
    ≡ filter (λ x. owner bins nodes x == q) (map (moved bins (suc t)) (come_to bins nodes particles t p))
rows_go_on bins nodes particles t p q low =
    ap (λ l. filter (λ x. owner bins nodes x == q) (map (moved bins (suc t)) l))
    (rows_come_in nodes (up_to particles.count) (particle particles) (owner_of Block particles.count nodes) (moved bins)
    (owner bins nodes) t p low)

-- ---- what the law functions say

-- what goes from p to q in a round is, as a bag, the particles that p has before it and whose bin of that round q owns
abbrev pub RowsAreMoving : Type 0
RowsAreMoving =
    (bins nodes : ℕ) (particles : Particles) (t p q : ℕ) → 1 ≤ nodes → AreInBins bins particles → p < nodes
    → SameBag (moving bins nodes particles t p q) (rows bins nodes particles t p q)

pub rows_are_moving : RowsAreMoving
rows_are_moving bins nodes particles t p q some within = particles_move bins nodes particles some within t p q

-- what p has behind a round is, as a bag, the particles whose bin of that round it owns
abbrev pub ComeIsHeld : Type 0
ComeIsHeld =
    (bins nodes : ℕ) (particles : Particles) (t p : ℕ) → 1 ≤ nodes → AreInBins bins particles → p < nodes
    → SameBag (held_after bins nodes particles t p) (come_to bins nodes particles t p)

pub come_is_held : ComeIsHeld
come_is_held bins nodes particles t p some within = particles_held bins nodes particles some within t p
