-- The least of a list by one walk.
use Rattle.std.proofs.Common.{inl, inr, ◌≡◌, refl, ℕ, Bool, true, false, List, [], ◌∷◌, Option, Some, None, arith, if◌then◌else◌}
use Rattle.std.specs.List.{fold}
use Rattle.std.proofs.lemmas.Bool.Decides.{nat_tests}
use Rattle.fd_words.specs.declared.source.SourceFault.{SourceFault}
use Rattle.fd_scope.specs.Faults.{is_before_by, is_fault_before, row_of, lesser, IsFirst, IsOneOf}

irreflexive : (a b c : ℕ) → is_before_by a b c a b c ≡ false
irreflexive a b c = grind (arith, nat_tests)

not_before : (a b c d e f x y z : ℕ) → is_before_by d e f a b c ≡ false → is_before_by x y z d e f ≡ false
    → is_before_by x y z a b c ≡ false
not_before a b c d e f x y z h k = grind (arith, nat_tests)

asymmetric : (a b c d e f : ℕ) → is_before_by a b c d e f ≡ true → is_before_by d e f a b c ≡ false
asymmetric a b c d e f h = grind (arith, nat_tests)

not_before_fault : (a d x : SourceFault) → is_fault_before d a ≡ false → is_fault_before x d ≡ false → is_fault_before x a ≡ false
not_before_fault a d x h k =
    not_before a.at.line a.at.column (row_of a.cause) d.at.line d.at.column (row_of d.cause) x.at.line x.at.column (row_of x.cause) h k

by : (f g : SourceFault) (gs : List SourceFault) (b : Bool) → is_fault_before g f ≡ b
    → ((h : SourceFault) → IsFirst (fold lesser (Some h) gs) (h ∷ gs))
    → IsFirst (fold lesser (if b then Some g else Some f) gs) (f ∷ g ∷ gs)
by f g gs true e ih = taken (fold lesser (Some g) gs) (ih g)
  where
    taken : (r : Option SourceFault) → IsFirst r (g ∷ gs) → IsFirst r (f ∷ g ∷ gs)
    taken None h = cc
    taken (Some r) h = record {
      among = inr h.among;
      least = (
        not_before_fault r g f h.least.0 (asymmetric g.at.line g.at.column (row_of g.cause) f.at.line f.at.column (row_of f.cause)
            e),
        h.least,
      );
    }
by f g gs false e ih = kept (fold lesser (Some f) gs) (ih f)
  where
    further : (r : SourceFault) → IsOneOf r (f ∷ gs) → IsOneOf r (f ∷ g ∷ gs)
    further r (inl same) = inl same
    further r (inr in_rest) = inr (inr in_rest)

    kept : (r : Option SourceFault) → IsFirst r (f ∷ gs) → IsFirst r (f ∷ g ∷ gs)
    kept None h = cc
    kept (Some r) h = record { among = further r h.among; least = (h.least.0, (not_before_fault r f g h.least.0 e, h.least.1)) }

pub least_from : (gs : List SourceFault) (f : SourceFault) → IsFirst (fold lesser (Some f) gs) (f ∷ gs)
least_from [] f = record { among = inl refl; least = (irreflexive f.at.line f.at.column (row_of f.cause), tt) }
least_from (g ∷ gs) f = by f g gs (is_fault_before g f) refl (least_from gs)

pub is_first : (fs : List SourceFault) → IsFirst (fold lesser None fs) fs
is_first [] = refl
is_first (f ∷ fs) = least_from fs f
