-- The outcome of a scalar and of an offset from those of its parts.
use Rattle.std.proofs.Common.{◌⊎◌, inl, inr, ◌≡◌, refl, ℕ, ℤ, pos, neg_ℤ, Bool, true, false, if◌then◌else◌, arith, List, [], ◌∷◌, ◌++◌, ap}
use Rattle.std.proofs.Common.{sym, ◌∙◌, subst, Ok, Err, Some, None, unwrap_or, slice_get, get_or, length, ◌<◌, ◌≤◌}
use Rattle.std.specs.List.{fold}
use Rattle.std.specs.Prelude.{Result, All, IfOk}
use Rattle.std.specs.Int.{w64}
use Rattle.std.proofs.lemmas.Int.{ints, int_wrap_fits}
use Rattle.std.proofs.lemmas.Option.{slice_get_cases}
use Rattle.fd_words.specs.Value.{wrapped}
use Rattle.fd_words.specs.declared.source.SourcePlace.{SourcePlace}
use Rattle.fd_words.specs.declared.source.SourceFault.{SourceFault}
use Rattle.fd_words.specs.declared.source.SourceStop.{SourceStop}
use Rattle.fd_words.specs.declared.source.SourceStop.TheVariants.{Fault}
use Rattle.fd_words.specs.declared.arith.Arith.{Arith}
use Rattle.fd_program.specs.Scalars.{scalar_value, offset_value}
use Rattle.fd_words.specs.Operators.{exactly, sign_of}
use Rattle.fd_program.specs.Stores.{number_at}
use Rattle.fd_program.specs.Terms.{IsTerm}
use Rattle.fd_program.specs.declared.scalar.CheckedScalar.{CheckedScalar, Number, Variable, Negate', Binary', more_of-CheckedScalar}
use Rattle.fd_program.specs.declared.scalar.CheckedScalar.{end_of-CheckedScalar}
use Rattle.fd_program.specs.declared.scalar.CheckedScalar as scalar
use Rattle.fd_program.specs.declared.scalar.CheckedScalar.TheBlock.{shape-the_row-CheckedScalar-0, hidden-the_row-CheckedScalar-0}
use Rattle.fd_program.specs.declared.scalar.CheckedTerm.{CheckedTerm}
use denote.Hole.Carrier.{hidden}
use Rattle.fd_trace.specs.Sizes.{is_large, IsSmall, large, scalar_faults, offset_faults}
use Rattle.fd_trace.specs.Outcomes.{outcome, opposed, joined_scalars, term_joined}

-- ---- values without a fault are small

small_of : (z : ℤ) → is_large z ≡ false → IsSmall z
small_of z h = record { low = grind (arith, ints); high = grind (arith, ints) }

not_large : (b : Bool) (f : SourceFault) → (if b then f ∷ [] else []) ≡ [] → b ≡ false
not_large true f e = cc
not_large false f e = refl

nothing_large : (at : SourcePlace) (z : ℤ) → large at z ≡ [] → IsSmall z
nothing_large at z e = small_of z (not_large (is_large z) _ e)

last_nothing : (a b : List SourceFault) → a ++ b ≡ [] → b ≡ []
last_nothing [] b e = e
last_nothing (x ∷ xs) b e = cc

zero_small : IsSmall (pos 0)
zero_small = record { low = omega (arith, ints); high = omega (arith, ints) }

small_at : (variables : List ℤ) (depth : ℕ) → All IsSmall variables
    → ((x : ℤ) × (depth < length variables) × (slice_get variables depth ≡ Some x) × (get_or variables depth x ≡ x))
    ⊎ ((length variables ≤ depth) × (slice_get variables depth ≡ None))
    → IsSmall (number_at variables depth)
small_at variables depth h (inl w) = subst IsSmall (sym (ap (λ o. unwrap_or o (pos 0)) w.2)) (subst IsSmall w.3 (h depth w.0 w.1))
small_at variables depth h (inr w) = subst IsSmall (sym (ap (λ o. unwrap_or o (pos 0)) w.1)) zero_small

small_or_zero : (variables : List ℤ) (depth : ℕ) → All IsSmall variables → IsSmall (number_at variables depth)
small_or_zero variables depth h = small_at variables depth h (slice_get_cases variables depth).1

opposite_small : (z : ℤ) → IsSmall z → IsSmall (neg_ℤ z)
opposite_small z h = record { low = omega (arith, ints); high = omega (arith, ints) }

pub small_value : (variables : List ℤ) → All IsSmall variables → (s : CheckedScalar) → scalar_faults variables s ≡ []
    → IsSmall (scalar_value variables s)
small_value variables h (Number value at) e = nothing_large at value e
small_value variables h (Variable depth at) e = small_or_zero variables depth h
small_value variables h (Negate' at s (more_of-CheckedScalar inner end_of-CheckedScalar)) e =
    opposite_small (scalar_value variables inner) (small_value variables h inner e)
small_value variables h (Binary' op at s (more_of-CheckedScalar left end_of-CheckedScalar) t
    (more_of-CheckedScalar right end_of-CheckedScalar)) e =
    nothing_large at _ (last_nothing (scalar_faults variables right) _ (last_nothing (scalar_faults variables left) _ e))

-- ---- outcomes

opposite_fits : (z : ℤ) → IsSmall z → wrapped (neg_ℤ z) ≡ neg_ℤ z
opposite_fits z h = int_wrap_fits w64 (neg_ℤ z) (omega (arith, ints))

opposed_outcome : (z : ℤ) (fs : List SourceFault) → (fs ≡ [] → IsSmall z) → outcome (neg_ℤ z) fs ≡ opposed (outcome z fs)
opposed_outcome z [] h = ap Ok (sym (opposite_fits z (h refl)))
opposed_outcome z (f ∷ fs) h = refl

pub negate_outcome : (variables : List ℤ) (at : SourcePlace) (inner : CheckedScalar) → All IsSmall variables
    → outcome (scalar_value variables (scalar.Negate at inner)) (scalar_faults variables (scalar.Negate at inner))
    ≡ opposed (outcome (scalar_value variables inner) (scalar_faults variables inner))
unfolding shape-the_row-CheckedScalar-0 hidden-the_row-CheckedScalar-0 hidden
negate_outcome variables at inner h = opposed_outcome (scalar_value variables inner) (scalar_faults variables inner)
    (small_value variables h inner)

pub joined_outcome : (op : Arith) (at : SourcePlace) (a b : ℤ) (fs gs : List SourceFault)
    → outcome (exactly op a b) (fs ++ (gs ++ large at (exactly op a b))) ≡ joined_scalars op at (outcome a fs) (outcome b gs)
joined_outcome op at a b [] [] = refl
joined_outcome op at a b [] (g ∷ gs) = refl
joined_outcome op at a b (f ∷ fs) gs = refl

pub binary_outcome : (variables : List ℤ) (op : Arith) (at : SourcePlace) (left right : CheckedScalar)
    → outcome (scalar_value variables (scalar.Binary op at left right)) (scalar_faults variables (scalar.Binary op at left right))
    ≡ joined_scalars op at (outcome (scalar_value variables left) (scalar_faults variables left))
    (outcome (scalar_value variables right) (scalar_faults variables right))
unfolding shape-the_row-CheckedScalar-0 hidden-the_row-CheckedScalar-0 hidden
binary_outcome variables op at left right =
    joined_outcome op at (scalar_value variables left) (scalar_value variables right) (scalar_faults variables left)
    (scalar_faults variables right)

stays : (variables : List ℤ) (f : SourceStop) (ts : List CheckedTerm) → fold (term_joined variables) (Err f) ts ≡ Err f
stays variables f [] = refl
stays variables f (t ∷ ts) = stays variables f ts

offset_further : (variables : List ℤ) (op : Arith) (at : SourcePlace) (z v : ℤ) (ts : List CheckedTerm) (fs gs : List SourceFault)
    → large at (exactly op z v) ≡ gs
    → fold (term_joined variables) (Ok (exactly op z v)) ts ≡ outcome (offset_value variables (exactly op z v) ts)
    (offset_faults variables (exactly op z v) ts)
    → fold (term_joined variables) (joined_scalars op at (Ok z) (outcome v fs)) ts
    ≡ outcome (offset_value variables (exactly op z v) ts) (fs ++ (gs ++ offset_faults variables (exactly op z v) ts))
offset_further variables op at z v ts [] [] e rest =
    ap (λ (hs : List SourceFault). fold (term_joined variables) (outcome (exactly op z v) hs) ts) e ∙ rest
offset_further variables op at z v ts [] (g ∷ gs) e rest =
    ap (λ (hs : List SourceFault). fold (term_joined variables) (outcome (exactly op z v) hs) ts) e ∙ stays variables (Fault g) ts
offset_further variables op at z v ts (f ∷ fs) gs e rest = stays variables (Fault f) ts

pub offset_outcome : (variables : List ℤ) (z : ℤ) (ts : List CheckedTerm)
    → fold (term_joined variables) (Ok z) ts ≡ outcome (offset_value variables z ts) (offset_faults variables z ts)
offset_outcome variables z [] = refl
offset_outcome variables z (t ∷ ts) =
    offset_further variables (sign_of t.minus) t.at z (scalar_value variables t.scalar) ts (scalar_faults variables t.scalar) _ refl
    (offset_outcome variables (exactly (sign_of t.minus) z (scalar_value variables t.scalar)) ts)

pub of_same : (variables : List ℤ) (s : CheckedScalar) (r : Result ℤ SourceStop) → (t : CheckedScalar) → s ≡ t
    → r ≡ outcome (scalar_value variables t) (scalar_faults variables t)
    → r ≡ outcome (scalar_value variables s) (scalar_faults variables s)
of_same variables s r t e h = h ∙ ap (λ u. outcome (scalar_value variables u) (scalar_faults variables u)) (sym e)

small_result : (z : ℤ) (fs : List SourceFault) (r : Result ℤ SourceStop) → (fs ≡ [] → IsSmall z) → r ≡ outcome z fs → IfOk r IsSmall
small_result z [] r h e = subst (λ (q : Result ℤ SourceStop). IfOk q IsSmall) (sym e) (h refl)
small_result z (f ∷ fs) r h e = subst (λ (q : Result ℤ SourceStop). IfOk q IsSmall) (sym e) tt

pub small_outcome : (variables : List ℤ) (s : CheckedScalar) (r : Result ℤ SourceStop) → All IsSmall variables
    → r ≡ outcome (scalar_value variables s) (scalar_faults variables s) → IfOk r IsSmall
small_outcome variables s r h e = small_result (scalar_value variables s) (scalar_faults variables s) r (small_value variables h s) e

-- ---- scalar names

pub no_negate : (at : SourcePlace) (inner : CheckedScalar) → IsTerm (scalar.Negate at inner) → ⊥
unfolding shape-the_row-CheckedScalar-0 hidden-the_row-CheckedScalar-0 hidden
no_negate at inner h = h

pub no_binary : (op : Arith) (at : SourcePlace) (left right : CheckedScalar) → IsTerm (scalar.Binary op at left right) → ⊥
unfolding shape-the_row-CheckedScalar-0 hidden-the_row-CheckedScalar-0 hidden
no_binary op at left right h = h
