-- What the least of some votes is.
use Rattle.std.specs.Prelude.{◌↔◌, All, Contains, MatchOption, IfSome, IsNone}
use Rattle.std.proofs.Common.{◌≡◌, refl, ℕ, suc, ◌+◌, ◌<◌, ◌≤◌, Bool, true, false, cond, List, [], ◌∷◌, length, get_or, drop, Option, Some}
use Rattle.std.proofs.Common.{None, ap, sym, ◌∙◌, subst, arith}
use Rattle.std.proofs.lemmas.List.{at_drop_more, at_drop_all}
use Rattle.std.proofs.lemmas.List.Elements.{All-cons}
use Rattle.chaos_conflict.specs.declared.conflict.Conflict.{Conflict}
use Rattle.chaos_conflict.specs.Clashes.{is_less, lesser, least_clash_of}
use Rattle.chaos_conflict.specs.ClashLaws.{less_trans, not_less_trans, not_less_itself, not_less_back}

-- ---- the lesser of three votes

pub lesser_none : (v : Option Conflict) → lesser v None ≡ v
lesser_none None = refl
lesser_none (Some a) = refl

pub chosen : (a b : Conflict) (t : Bool) → is_less b a ≡ t → lesser (Some a) (Some b) ≡ cond t (Some b) (Some a)
chosen a b t e = ap (λ r. cond r (Some b) (Some a)) e

of_three : (a b c : Conflict) (t s : Bool) → is_less b a ≡ t → is_less c b ≡ s
    → lesser (lesser (Some a) (Some b)) (Some c) ≡ lesser (Some a) (lesser (Some b) (Some c))
of_three a b c true true e f =
    ap (λ v. lesser v (Some c)) (chosen a b true e) ∙ chosen b c true f
    ∙ sym (ap (lesser (Some a)) (chosen b c true f) ∙ chosen a c true (less_trans c b a f e))
of_three a b c true false e f =
    ap (λ v. lesser v (Some c)) (chosen a b true e) ∙ chosen b c false f
    ∙ sym (ap (lesser (Some a)) (chosen b c false f) ∙ chosen a b true e)
of_three a b c false true e f =
    ap (λ v. lesser v (Some c)) (chosen a b false e) ∙ sym (ap (lesser (Some a)) (chosen b c true f))
of_three a b c false false e f =
    ap (λ v. lesser v (Some c)) (chosen a b false e) ∙ chosen a c false (not_less_trans c b a f e)
    ∙ sym (ap (lesser (Some a)) (chosen b c false f) ∙ chosen a b false e)

pub lesser_assoc : (u v w : Option Conflict) → lesser (lesser u v) w ≡ lesser u (lesser v w)
lesser_assoc None v w = refl
lesser_assoc (Some a) None w = refl
lesser_assoc (Some a) (Some b) None = lesser_none (lesser (Some a) (Some b))
lesser_assoc (Some a) (Some b) (Some c) = of_three a b c (is_less b a) (is_less c b) refl refl

-- ---- the steps of the loop

pub next_vote : (votes : List (Option Conflict)) (i : ℕ) (d least new : Option Conflict) → i < length votes
    → new ≡ lesser least (get_or votes i d)
    → lesser least (least_clash_of (drop i votes)) ≡ least_clash_of votes
    → lesser new (least_clash_of (drop (i + 1) votes)) ≡ least_clash_of votes
next_vote votes i d least new inside e h =
    ap (λ v. lesser v (least_clash_of (drop (i + 1) votes))) e
    ∙ lesser_assoc least (get_or votes i d) (least_clash_of (drop (i + 1) votes))
    ∙ ap (lesser least) (sym (at_drop_more least_clash_of votes i d inside))
    ∙ h

pub all_votes : (votes : List (Option Conflict)) (i : ℕ) (least : Option Conflict) → length votes ≤ i
    → lesser least (least_clash_of (drop i votes)) ≡ least_clash_of votes → least ≡ least_clash_of votes
all_votes votes i least end h =
    sym (lesser_none least) ∙ ap (lesser least) (sym (at_drop_all least_clash_of votes i end)) ∙ h

-- ---- what the least of the votes is

-- no vote is less than this one
abbrev pub IsNotPast : Conflict → Option Conflict → Type 0
IsNotPast o v = IfSome v (λ p. is_less p o ≡ false)

-- none where all are none; else one of them, and no vote is less
abbrev pub IsLeast : List (Option Conflict) → Option Conflict → Type 0
IsLeast votes w = MatchOption w (All IsNone votes) (λ o. Contains votes (Some o) × All (IsNotPast o) votes)

here : (a : Conflict) (vs : List (Option Conflict)) → Contains (Some a ∷ vs) (Some a)
here a vs = (0, omega arith, refl)

later : (v : Option Conflict) (a : Conflict) (vs : List (Option Conflict)) → Contains vs (Some a) → Contains (v ∷ vs) (Some a)
later v a vs h = (suc h.0, omega (arith, h.1), h.2)

not_past_none : (o : Conflict) (v : Option Conflict) → IsNone v → IsNotPast o v
not_past_none o None h = tt
not_past_none o (Some p) h = cc

not_past_less : (a b : Conflict) → is_less b a ≡ false → (v : Option Conflict) → IsNotPast b v → IsNotPast a v
not_past_less a b e None h = tt
not_past_less a b e (Some p) h = not_less_trans p b a h e

is_least_next : (v w : Option Conflict) (vs : List (Option Conflict)) → IsLeast vs w → IsLeast (v ∷ vs) (lesser v w)
is_least_next None None vs h = All-cons IsNone None vs refl h
is_least_next None (Some b) vs h = (later None b vs h.0, All-cons (IsNotPast b) None vs tt h.1)
is_least_next (Some a) None vs h =
    (here a vs, All-cons (IsNotPast a) (Some a) vs (not_less_itself a) (λ k d low. not_past_none a (get_or vs k d) (h k d low)))
is_least_next (Some a) (Some b) vs h = by (is_less b a) refl
  where
    by : (t : Bool) → is_less b a ≡ t → IsLeast (Some a ∷ vs) (lesser (Some a) (Some b))
    by true e =
        subst (IsLeast (Some a ∷ vs)) (sym (chosen a b true e))
        (later (Some a) b vs h.0, All-cons (IsNotPast b) (Some a) vs (not_less_back b a e) h.1)
    by false e =
        subst (IsLeast (Some a ∷ vs)) (sym (chosen a b false e))
        (here a vs, All-cons (IsNotPast a) (Some a) vs (not_less_itself a) (λ k d low. not_past_less a b e (get_or vs k d) (h.1 k d low)))

pub is_least : (votes : List (Option Conflict)) → IsLeast votes (least_clash_of votes)
is_least [] = λ k d low. absurd (omega (arith, low))
is_least (v ∷ vs) = is_least_next v (least_clash_of vs) vs (is_least vs)

-- ---- said of it alone

pub one_of : (votes : List (Option Conflict)) (w : Option Conflict) → IsLeast votes w → IfSome w (λ o. Contains votes (Some o))
one_of votes None h = tt
one_of votes (Some o) h = h.0

pub none_less : (votes : List (Option Conflict)) (w : Option Conflict) → IsLeast votes w → IfSome w (λ o. All (IsNotPast o) votes)
none_less votes None h = tt
none_less votes (Some o) h = h.1

pub none_where : (votes : List (Option Conflict)) (w : Option Conflict) → IsLeast votes w → IsNone w ↔ All IsNone votes
none_where votes None h = (λ e. h, λ all. refl)
none_where votes (Some o) h =
    (λ e. cc, λ all. let none : IsNone (Some o) = subst IsNone h.0.2 (all h.0.0 (Some o) h.0.1) in cc)
