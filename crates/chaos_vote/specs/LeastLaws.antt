-- What the least of some votes is.
use Rattle.std.specs.Prelude.{◌↔◌, All, Contains, MatchOption, IfSome, IsNone}
use Rattle.std.proofs.Common.{◌≡◌, refl, ℕ, suc, ◌+◌, ◌<◌, ◌≤◌, Bool, true, false, cond, List, [], ◌∷◌, length, get_or, drop, Option, Some}
use Rattle.std.proofs.Common.{None, ap, sym, ◌∙◌, subst, arith}
use Rattle.std.proofs.lemmas.Int.{ints}
use Rattle.std.proofs.lemmas.Bool.Decides.{nat_tests}
use Rattle.std.proofs.lemmas.List.{at_drop_more, at_drop_all}
use Rattle.std.proofs.lemmas.List.Elements.{All-cons}
use Rattle.fd_words.specs.declared.place.Offence.{Offence}
use Rattle.chaos_vote.specs.Votes.{is_less, lesser, least_of, first_vote, AreInOrder}

-- ---- offences are in order

less_trans : (a b c : Offence) → is_less a b ≡ true → is_less b c ≡ true → is_less a c ≡ true
less_trans a b c e f = grind (arith, ints, nat_tests)

not_less_trans : (a b c : Offence) → is_less a b ≡ false → is_less b c ≡ false → is_less a c ≡ false
not_less_trans a b c e f = grind (arith, ints, nat_tests)

not_less_itself : (a : Offence) → is_less a a ≡ false
not_less_itself a = grind (arith, ints, nat_tests)

not_less_back : (a b : Offence) → is_less a b ≡ true → is_less b a ≡ false
not_less_back a b e = grind (arith, ints, nat_tests)

-- ---- the lesser of three votes

lesser_none : (v : Option Offence) → lesser v None ≡ v
lesser_none None = refl
lesser_none (Some a) = refl

chosen : (a b : Offence) (t : Bool) → is_less b a ≡ t → lesser (Some a) (Some b) ≡ cond t (Some b) (Some a)
chosen a b t e = ap (λ r. cond r (Some b) (Some a)) e

of_three : (a b c : Offence) (t s : Bool) → is_less b a ≡ t → is_less c b ≡ s
    → lesser (lesser (Some a) (Some b)) (Some c) ≡ lesser (Some a) (lesser (Some b) (Some c))
of_three a b c true true e f =
    ap (λ v. lesser v (Some c)) (chosen a b true e) ∙ chosen b c true f
    ∙ sym (ap (lesser (Some a)) (chosen b c true f) ∙ chosen a c true (less_trans c b a f e))
of_three a b c true false e f =
    ap (λ v. lesser v (Some c)) (chosen a b true e) ∙ chosen b c false f
    ∙ sym (ap (lesser (Some a)) (chosen b c false f) ∙ chosen a b true e)
of_three a b c false true e f =
    ap (λ v. lesser v (Some c)) (chosen a b false e) ∙ sym (ap (lesser (Some a)) (chosen b c true f))
of_three a b c false false e f =
    ap (λ v. lesser v (Some c)) (chosen a b false e) ∙ chosen a c false (not_less_trans c b a f e)
    ∙ sym (ap (lesser (Some a)) (chosen b c false f) ∙ chosen a b false e)

lesser_assoc : (u v w : Option Offence) → lesser (lesser u v) w ≡ lesser u (lesser v w)
lesser_assoc None v w = refl
lesser_assoc (Some a) None w = refl
lesser_assoc (Some a) (Some b) None = lesser_none (lesser (Some a) (Some b))
lesser_assoc (Some a) (Some b) (Some c) = of_three a b c (is_less b a) (is_less c b) refl refl

-- ---- the steps of the loop

pub next_vote : (votes : List (Option Offence)) (i : ℕ) (d least new : Option Offence) → i < length votes
    → new ≡ lesser least (get_or votes i d)
    → lesser least (least_of (drop i votes)) ≡ least_of votes → lesser new (least_of (drop (i + 1) votes)) ≡ least_of votes
next_vote votes i d least new inside e h =
    ap (λ v. lesser v (least_of (drop (i + 1) votes))) e
    ∙ lesser_assoc least (get_or votes i d) (least_of (drop (i + 1) votes))
    ∙ ap (lesser least) (sym (at_drop_more least_of votes i d inside))
    ∙ h

pub all_votes : (votes : List (Option Offence)) (i : ℕ) (least : Option Offence) → length votes ≤ i
    → lesser least (least_of (drop i votes)) ≡ least_of votes → least ≡ least_of votes
all_votes votes i least end h =
    sym (lesser_none least) ∙ ap (lesser least) (sym (at_drop_all least_of votes i end)) ∙ h

-- ---- what the least of the votes is

-- no vote is less than this one
abbrev pub IsNotPast : Offence → Option Offence → Type 0
IsNotPast o v = IfSome v (λ p. is_less p o ≡ false)

-- none where all are none; else one of them, and no vote is less
abbrev pub IsLeast : List (Option Offence) → Option Offence → Type 0
IsLeast votes w = MatchOption w (All IsNone votes) (λ o. Contains votes (Some o) × All (IsNotPast o) votes)

here : (a : Offence) (vs : List (Option Offence)) → Contains (Some a ∷ vs) (Some a)
here a vs = (0, omega arith, refl)

later : (v : Option Offence) (a : Offence) (vs : List (Option Offence)) → Contains vs (Some a) → Contains (v ∷ vs) (Some a)
later v a vs h = (suc h.0, omega (arith, h.1), h.2)

not_past_none : (o : Offence) (v : Option Offence) → IsNone v → IsNotPast o v
not_past_none o None h = tt
not_past_none o (Some p) h = cc

not_past_less : (a b : Offence) → is_less b a ≡ false → (v : Option Offence) → IsNotPast b v → IsNotPast a v
not_past_less a b e None h = tt
not_past_less a b e (Some p) h = not_less_trans p b a h e

is_least_next : (v w : Option Offence) (vs : List (Option Offence)) → IsLeast vs w → IsLeast (v ∷ vs) (lesser v w)
is_least_next None None vs h = All-cons IsNone None vs refl h
is_least_next None (Some b) vs h = (later None b vs h.0, All-cons (IsNotPast b) None vs tt h.1)
is_least_next (Some a) None vs h =
    (here a vs, All-cons (IsNotPast a) (Some a) vs (not_less_itself a) (λ k d low. not_past_none a (get_or vs k d) (h k d low)))
is_least_next (Some a) (Some b) vs h = by (is_less b a) refl
  where
    by : (t : Bool) → is_less b a ≡ t → IsLeast (Some a ∷ vs) (lesser (Some a) (Some b))
    by true e =
        subst (IsLeast (Some a ∷ vs)) (sym (chosen a b true e))
        (later (Some a) b vs h.0, All-cons (IsNotPast b) (Some a) vs (not_less_back b a e) h.1)
    by false e =
        subst (IsLeast (Some a ∷ vs)) (sym (chosen a b false e))
        (here a vs, All-cons (IsNotPast a) (Some a) vs (not_less_itself a) (λ k d low. not_past_less a b e (get_or vs k d) (h.1 k d low)))

pub is_least : (votes : List (Option Offence)) → IsLeast votes (least_of votes)
is_least [] = λ k d low. absurd (omega (arith, low))
is_least (v ∷ vs) = is_least_next v (least_of vs) vs (is_least vs)

-- ---- said of it alone

pub one_of : (votes : List (Option Offence)) (w : Option Offence) → IsLeast votes w → IfSome w (λ o. Contains votes (Some o))
one_of votes None h = tt
one_of votes (Some o) h = h.0

pub none_less : (votes : List (Option Offence)) (w : Option Offence) → IsLeast votes w → IfSome w (λ o. All (IsNotPast o) votes)
none_less votes None h = tt
none_less votes (Some o) h = h.1

pub none_where : (votes : List (Option Offence)) (w : Option Offence) → IsLeast votes w → IsNone w ↔ All IsNone votes
none_where votes None h = (λ e. h, λ all. refl)
none_where votes (Some o) h =
    (λ e. cc, λ all. let none : IsNone (Some o) = subst IsNone h.0.2 (all h.0.0 (Some o) h.0.1) in cc)

-- where no later vote is less, it is the first
before_rest : (a : Offence) (vs : List (Option Offence)) (w : Option Offence) → All (λ v. IfSome v (λ b. is_less b a ≡ false)) vs
    → IfSome w (λ o. Contains vs (Some o)) → lesser (Some a) w ≡ Some a
before_rest a vs None none_less h = refl
before_rest a vs (Some b) none_less h =
    let not : is_less b a ≡ false = subst (λ v. IfSome v (λ b. is_less b a ≡ false)) h.2 (none_less h.0 (Some b) h.1) in
    chosen a b false not

pub least_of-in_order : (votes : List (Option Offence)) → AreInOrder votes → least_of votes ≡ first_vote votes
least_of-in_order [] h = refl
least_of-in_order (None ∷ vs) h = least_of-in_order vs h.1
least_of-in_order (Some a ∷ vs) h = before_rest a vs (least_of vs) h.0 (one_of vs (least_of vs) (is_least vs))
