-- The value and the faults of a scalar from those of its parts, as code finds them.
use Rattle.std.proofs.Common.{◌≡◌, ℕ, ℤ, neg_ℤ, List, ◌++◌, Option, ap, sym, ◌∙◌, append_assoc}
use Rattle.std.specs.Prelude.{Result, Ok, Err, IfOk, OnOk}
use Rattle.std.specs.Option.{option_map}
use Rattle.fd_words.specs.declared.wanting.Memory.{Memory}
use Rattle.fd_words.specs.declared.source.SourcePlace.{SourcePlace}
use Rattle.fd_words.specs.declared.arith.Arith.{Arith}
use Rattle.fd_words.specs.declared.source.SourceFault.{SourceFault}
use Rattle.fd_scope.specs.declared.names.Known.{Known}
use Rattle.fd_syntax.specs.declared.scalar.Scalar.{Scalar}
use Rattle.fd_syntax.specs.declared.scalar.Scalar as scalar
use Rattle.fd_scope.specs.Scalars.{scalar_within, scalar_faults, within, both, large_faults, scalar_within-Negate, scalar_within-Binary}
use Rattle.fd_scope.specs.Scalars.{scalar_faults-Negate, scalar_faults-Binary}

pub negated_value : (names : List (List ℕ × Known)) (here : SourcePlace) (at : SourcePlace) (s inner got : Scalar) (v r : Option ℤ)
    → s ≡ scalar.Negate at inner → got ≡ inner
    → v ≡ scalar_within names here got → r ≡ within (option_map neg_ℤ v) → r ≡ scalar_within names here s
negated_value names here at s inner got v r is g e h =
    h ∙ ap (λ w. within (option_map neg_ℤ w)) (e ∙ ap (scalar_within names here) g) ∙ sym (scalar_within-Negate names here at inner)
    ∙ ap (scalar_within names here) (sym is)

pub negated_faults : (names : List (List ℕ × Known)) (here : SourcePlace) (loops : List (List ℕ)) (at : SourcePlace)
    (s inner got : Scalar) (old new : List SourceFault)
    → s ≡ scalar.Negate at inner → got ≡ inner → new ≡ old ++ scalar_faults names here loops got
    → new ≡ old ++ scalar_faults names here loops s
negated_faults names here loops at s inner got old new is g e =
    e ∙ ap (λ x. old ++ scalar_faults names here loops x) g ∙ ap (λ fs. old ++ fs) (sym (scalar_faults-Negate names here loops at inner))
    ∙ ap (λ x. old ++ scalar_faults names here loops x) (sym is)

pub binary_value : (names : List (List ℕ × Known)) (here : SourcePlace) (op : Arith) (at : SourcePlace) (s l r gl gr : Scalar)
    (v w : Option ℤ) (b : Option ℤ)
    → s ≡ scalar.Binary op at l r → gl ≡ l → gr ≡ r → v ≡ scalar_within names here gl → w ≡ scalar_within names here gr → b ≡ both op v w
    → within b ≡ scalar_within names here s
binary_value names here op at s l r gl gr v w b is el er ev ew eb =
    ap within eb ∙ ap (λ a. within (both op a w)) (ev ∙ ap (scalar_within names here) el)
    ∙ ap (λ a. within (both op (scalar_within names here l) a)) (ew ∙ ap (scalar_within names here) er)
    ∙ sym (scalar_within-Binary names here op at l r) ∙ ap (scalar_within names here) (sym is)

pub binary_faults : (names : List (List ℕ × Known)) (here : SourcePlace) (loops : List (List ℕ)) (op : Arith) (at : SourcePlace)
    (s l r gl gr : Scalar) (v w b : Option ℤ) (old one two : List SourceFault)
    → s ≡ scalar.Binary op at l r → gl ≡ l → gr ≡ r → v ≡ scalar_within names here gl → w ≡ scalar_within names here gr → b ≡ both op v w
    → one ≡ old ++ scalar_faults names here loops gl → two ≡ one ++ scalar_faults names here loops gr
    → two ++ large_faults at b ≡ old ++ scalar_faults names here loops s
binary_faults names here loops op at s l r gl gr v w b old one two is el er ev ew eb e1 e2 =
    let b' : b ≡ both op (scalar_within names here l) (scalar_within names here r) = eb
    ∙ ap (λ a. both op a w) (ev ∙ ap (scalar_within names here) el)
    ∙ ap (both op (scalar_within names here l)) (ew ∙ ap (scalar_within names here) er) in
    ap (λ fs. fs ++ large_faults at b) (e2 ∙ ap (λ x. one ++ scalar_faults names here loops x) er
    ∙ ap (λ o. o ++ scalar_faults names here loops r) (e1 ∙ ap (λ x. old ++ scalar_faults names here loops x) el))
    ∙ ap (λ x. ((old ++ scalar_faults names here loops l) ++ scalar_faults names here loops r) ++ large_faults at x) b'
    ∙ three old (scalar_faults names here loops l) (scalar_faults names here loops r)
    (large_faults at (both op (scalar_within names here l) (scalar_within names here r)))
    ∙ ap (λ fs. old ++ fs) (sym (scalar_faults-Binary names here loops op at l r)) ∙ ap (λ x. old ++ scalar_faults names here loops x)
    (sym is)
  where
    three : (a b c d : List SourceFault) → ((a ++ b) ++ c) ++ d ≡ a ++ (b ++ (c ++ d))
    three a b c d = append_assoc (a ++ b) c d ∙ append_assoc a b (c ++ d)

pub ok_value : {A : Type 0} (r : Result A Memory) (v w : A) → v ≡ w → IfOk r (λ x. x ≡ v) → IfOk r (λ x. x ≡ w)
ok_value {A} (Ok x) v w e h = h ∙ e
ok_value {A} (Err x) v w e h = h

pub ok_noted : {A B : Type 0} (r : Result A Memory) (f g h : B) → g ≡ h → OnOk r (f ≡ g) → OnOk r (f ≡ h)
ok_noted {A} {B} (Ok x) f g h e p = p ∙ e
ok_noted {A} {B} (Err x) f g h e p = p
