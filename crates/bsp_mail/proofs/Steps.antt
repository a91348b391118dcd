-- Each step of a line keeps its rule.
use Rattle.std.proofs.Common.{◌≡◌, ◌≢◌, ℕ, zero, suc, Bool, true, false, true≢false, List, [], ◌∷◌, ◌++◌, length, set, sym, refl, ap, ◌∙◌}
use Rattle.std.proofs.Common.{subst, ⊎_elim, append_assoc, append-nil}
use mathlib.Core.Option.{some, some-ne-none}
use lib.ListN.{get_elem?}
use Rattle.crossbeam_queue.specs.Fifo.{Pushes, Pops, Forks, Merges, Learns}
use Rattle.crossbeam_queue.proofs.Lists.{at_set, at_snoc}
use Rattle.chaos_letter.specs.declared.letter.Letter.{Letter}
use Rattle.bsp_mail.specs.declared.hand.Hand.{Hand}
use Rattle.bsp_mail.specs.Rule.{hand, nobody, after_put, after_take, after_poll, after_drop, both_hands, IsPrefix, FitsRule, InOrder}

at_end : (l : List Hand) (a b : Hand) (j : ℕ) → get_elem? l j ≢ some b → get_elem? (l ++ a ∷ []) j ≡ some b → j ≡ length l
at_end [] a b zero n e = refl
at_end [] a b (suc j) n e = absurd (some-ne-none b (sym e))
at_end (x ∷ xs) a b zero n e = absurd (n e)
at_end (x ∷ xs) a b (suc j) n e = ap suc (at_end xs a b j n e)

abbrev All : (ℕ → Hand → Type 0) → List Hand → Type 0
All F views = (pass : ℕ) (v : Hand) → get_elem? views pass ≡ some v → F pass v

all_set : (F : ℕ → Hand → Type 0) (views : List Hand) (pass : ℕ) (w : Hand) → F pass w
    → ((j : ℕ) (u : Hand) → j ≢ pass → get_elem? views j ≡ some u → F j u) → All F (set views pass w)
all_set F views pass w mine others j u e = ⊎_elim (λ (x : (j ≡ pass) × (w ≡ u)). subst (λ (y : ℕ × Hand). F y.0 y.1)
    (λ i. (sym x.0 i, x.1 i)) mine)
    (λ (x : (j ≢ pass) × (get_elem? views j ≡ some u)). others j u x.0 x.1) (at_set views pass j w u e)

never : (b : Bool) → b ≡ false → b ≡ true → ⊥
never b f t = true≢false (sym t ∙ f)

-- the lists of a queue
taken_on : (t d items : List Letter) (x : Letter) → d ≡ [] → (t ++ d) ++ x ∷ items ≡ ((t ++ x ∷ []) ++ d) ++ items
taken_on t d items x none = rw none (simp (append-nil, append_assoc))

dropped_on : (t d items : List Letter) (x : Letter) → (t ++ d) ++ x ∷ items ≡ (t ++ (d ++ x ∷ [])) ++ items
dropped_on t d items x = simp append_assoc

pub begins : InOrder [] (hand true true [] [] [] 0 ∷ [])
begins = (
  0,
  0,
  [],
  [],
  [],
  refl,
  all_set (FitsRule 0 0 [] [] []) (hand true true [] [] [] 0 ∷ [])
      0 (hand true true [] [] [] 0) ((λ _. (refl, refl)), λ _. (refl, refl, refl))
      (λ j u other e. absurd (other (at_end [] _ u j (λ x. some-ne-none u (sym x)) e))),
)

pub puts : (n pass : ℕ) (v : Hand) (x : Letter) → v.sends ≡ true → Pushes InOrder n pass v x (λ w. w ≡ after_put v x)
puts n pass v x may items views _ h at = let mine = h.6 pass v at in let sent = h.2 ++ x ∷ [] in (
  after_put v x,
  (
    h.0,
    h.1,
    sent,
    h.3,
    h.4,
    ap (λ l. l ++ x ∷ []) h.5 ∙ append_assoc (h.3 ++ h.4) items (x ∷ []),
    all_set (FitsRule h.0 h.1 sent h.3 h.4)
        views pass (after_put v x) ((λ _. ((mine.0 may).0, ap (λ l. l ++ x ∷ []) (mine.0 may).1)), mine.1)
        (λ j u other e. ((λ p. absurd (other (((h.6 j u e).0 p).0 ∙ sym (mine.0 may).0))), (h.6 j u e).1)),
  ),
  refl,
)

pub takes : (pass : ℕ) (v : Hand) → v.takes ≡ true → v.dropped ≡ [] → Pops InOrder pass v (λ x w. w ≡ after_take v x)
takes pass v may none x items views h at = let mine = h.6 pass v at in let taken = h.3 ++ x ∷ [] in (
  after_take v x,
  (
    h.0,
    h.1,
    h.2,
    taken,
    h.4,
    h.5 ∙ taken_on h.3 h.4 items x (sym (mine.1 may).2 ∙ none),
    all_set (FitsRule h.0 h.1 h.2 taken h.4) views pass (after_take v x) (
      mine.0,
      λ _. (
        (mine.1 may).0,
        ap (λ l. l ++ x ∷ []) (mine.1 may).1,
        (mine.1 may).2,
      ),
    )
        (λ j u other e. ((h.6 j u e).0, λ p. absurd (other (((h.6 j u e).1 p).0 ∙ sym (mine.1 may).0)))),
  ),
  refl,
)

-- what both hands know
prefix_of : (s t d items : List Letter) → s ≡ (t ++ d) ++ items → IsPrefix t s
prefix_of s t d items e = (d ++ items, e ∙ append_assoc t d items)

pub learns : (pass : ℕ) (v : Hand) → v.sends ≡ true → v.takes ≡ true → Learns InOrder pass v (λ items. IsPrefix v.taken v.sent)
learns pass v a b items views h at = let mine = h.6 pass v at in
    prefix_of v.sent v.taken v.dropped items ((mine.0 a).1 ∙ h.5 ∙ ap (λ (y : List Letter × List Letter). (y.0 ++ y.1) ++ items)
    (λ i. (sym (mine.1 b).1 i, sym (mine.1 b).2 i)))

pub drops : (pass : ℕ) (v : Hand) → v.sends ≡ true → v.takes ≡ true → Pops InOrder pass v (λ x w. (w ≡ after_drop v x)
    × IsPrefix v.taken v.sent)
drops pass v a b x items views h at = let mine = h.6 pass v at in let dropped = h.4 ++ x ∷ [] in (
  after_drop v x,
  (
    h.0,
    h.1,
    h.2,
    h.3,
    dropped,
    h.5 ∙ dropped_on h.3 h.4 items x,
    all_set (FitsRule h.0 h.1 h.2 h.3 dropped) views pass (after_drop v x)
        (mine.0, λ _. ((mine.1 b).0, (mine.1 b).1, ap (λ l. l ++ x ∷ []) (mine.1 b).2))
        (λ j u other e. ((h.6 j u e).0, λ p. absurd (other (((h.6 j u e).1 p).0 ∙ sym (mine.1 b).0)))),
  ),
  (refl, learns pass v a b (x ∷ items) views h at),
)

-- a pass gives its right to take to a new one
pub gives : (pass : ℕ) (v l r : Hand) → v.takes ≡ true → l.takes ≡ false → (l.sends ≡ true → (v.sends ≡ true) × (l.sent ≡ v.sent))
    → r.sends ≡ false → r.taken ≡ v.taken → r.dropped ≡ v.dropped → Forks InOrder pass v l r
gives pass v l r b ends same alone t d items views h at = let mine = h.6 pass v at in let vs : List Hand = set views pass l in
    let Old : ℕ → Hand → Type 0 = λ j u. (u.sends ≡ true → (j ≡ h.0) × (u.sent ≡ h.2)) × (u.takes ≢ true) in
    let old : All Old vs = all_set Old views pass l ((λ p. let s = same p in ((mine.0 s.0).0, s.1 ∙ (mine.0 s.0).1)), λ p. never _ ends p)
    (λ j u other e. ((h.6 j u e).0, λ p. other (((h.6 j u e).1 p).0 ∙ sym (mine.1 b).0))) in (
      h.0,
      length vs,
      h.2,
      h.3,
      h.4,
      h.5,
      λ j u e. ⊎_elim (λ x. ((old j u x).0, λ p. absurd ((old j u x).1 p)))
          (λ (is : r ≡ u). (
            (λ p. absurd (never _ (sym (ap (λ (y : Hand). y.sends) is) ∙ alone) p)),
            λ p. (
              at_end vs r u j (λ x. (old j u x).1 p) e,
              ap (λ (y : Hand). y.taken) (sym is) ∙ t ∙ (mine.1 b).1,
              ap (λ (y : Hand). y.dropped) (sym is) ∙ d ∙ (mine.1 b).2,
            ),
          ))
          (at_snoc vs r u j e),
    )

-- an empty poll is counted
pub polls : (pass : ℕ) (v : Hand) → Forks InOrder pass v (after_poll v) nobody
polls pass v items views h at = let mine = h.6 pass v at in let vs : List Hand = set views pass (after_poll v) in
    let old : All (FitsRule h.0 h.1 h.2 h.3 h.4) vs = all_set (FitsRule h.0 h.1 h.2 h.3 h.4) views pass (after_poll v) mine
    (λ j u other e. h.6 j u e) in (
      h.0,
      h.1,
      h.2,
      h.3,
      h.4,
      h.5,
      λ j u e. ⊎_elim (λ x. old j u x)
          (λ (is : nobody ≡ u). (
            (λ p. absurd (never _ (sym (ap (λ (y : Hand). y.sends) is)) p)),
            λ p. absurd (never _ (sym (ap (λ (y : Hand). y.takes) is)) p),
          ))
          (at_snoc vs nobody u j e),
    )

pub unites : (pass : ℕ) (v : Hand) (other : ℕ) (u : Hand) → v.sends ≡ true → u.takes ≡ true
    → Merges InOrder pass v other u (both_hands v u) nobody
unites pass v other u a b items views h at two at' = let both : Hand = both_hands v u in let mine = h.6 pass v at in let vs : List Hand =
    set views pass both in
    let was : get_elem? views other ≡ some u = ⊎_elim (λ x. absurd (two x.0)) (λ x. x.1) (at_set views pass other both u at') in
    let theirs = (h.6 other u was).1 b in
    let Now : ℕ → Hand → Type 0 = λ j y. j ≢ other → FitsRule h.0 pass h.2 h.3 h.4 j y in
    let now : All Now vs = all_set Now views pass both (λ _. ((λ _. mine.0 a), λ _. (refl, theirs.1, theirs.2)))
    (λ j y _ e apart. ((h.6 j y e).0, λ p. absurd (apart (((h.6 j y e).1 p).0 ∙ sym theirs.0)))) in (
      h.0,
      pass,
      h.2,
      h.3,
      h.4,
      h.5,
      all_set (FitsRule h.0 pass h.2 h.3 h.4) vs other nobody (
        (λ p. absurd (true≢false (sym p))),
        λ p. absurd (true≢false (sym p)),
      ) (λ j y apart e. now j y e apart),
    )
