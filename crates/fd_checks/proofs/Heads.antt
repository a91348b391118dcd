-- What the head of an accepted program declares: names with their meanings, extents, and where arrays stand.
use Rattle.std.proofs.Common.{◌≡◌, refl, ℕ, ◌≤◌, ◌+◌, ◌-◌, ℤ, pos, negsuc, neg_ℤ, ◌≤ℤ◌, Bool, true, false, cond, if◌then◌else◌, arith, List}
use Rattle.std.proofs.Common.{[], ◌∷◌, ◌++◌, Option, Some, None, ap, sym, ◌∙◌, subst}
use Rattle.std.specs.Prelude.{not, int_lt, IsSomeAnd}
use Rattle.std.specs.Option.{option_map}
use Rattle.std.specs.Cmp.Lexicographic.{same_text}
use Rattle.std.proofs.lemmas.Bool.Decides.{nat_tests}
use Rattle.std.proofs.lemmas.Int.{ints}
use Rattle.chaos_dist.specs.Homes.{natural}
use Rattle.fd_words.specs.declared.source.SourceCause.TheVariants as cause
use Rattle.fd_words.specs.declared.source.SourcePlace.{SourcePlace}
use Rattle.fd_words.specs.declared.arith.Arith.{Arith}
use Rattle.fd_syntax.specs.declared.scalar.Scalar.{Scalar, Number, Named, Negate', Binary', more_of-Scalar, end_of-Scalar}
use Rattle.fd_syntax.specs.declared.scalar.Term.{Term}
use Rattle.fd_program.specs.Checks.{IsExtent}
use Rattle.fd_words.specs.Operators.{exactly, sign_of}
use Rattle.fd_scope.specs.declared.names.Known.{Known}
use Rattle.fd_scope.specs.Names.{found, known, as_constant, name_eq}
use Rattle.fd_scope.specs.Scalars.{most, is_large, sized, within, both, constant_value, scalar_within, large_faults, name_faults}
use Rattle.fd_scope.specs.Scalars.{scalar_faults}
use Rattle.fd_scope.specs.Scalars.{offset_within, offset_faults, term_faults}
use Rattle.fd_scope.specs.Scope.{is_extent, extent_within, bad_extent}
use Rattle.fd_checks.proofs.Accepted.{left_empty, right_empty, test_false, not_false}

-- ---- one name more

abbrev or_else : {A : Type 0} → Option A → Option A → Option A
or_else None o = o
or_else (Some x) o = Some x

found_more : (names : List (List ℕ × Known)) (n : List ℕ) (k : Known) (q : List ℕ) → found (names ++ (n, k) ∷ []) q
    ≡ or_else (found names q) (cond (name_eq q n) (Some k) None)
found_more [] n k q = refl
found_more (e ∷ es) n k q = by_test (found_more es n k q) (name_eq q e.0)
  where
    by_test : found (es ++ (n, k) ∷ []) q ≡ or_else (found es q) (cond (name_eq q n) (Some k) None) → (b : Bool)
        → cond b (Some e.1) (found (es ++ (n, k) ∷ []) q) ≡ or_else (cond b (Some e.1) (found es q)) (cond (name_eq q n) (Some k) None)
    by_test rest true = refl
    by_test rest false = rest

-- what holds of each name and what it is
abbrev pub Each : (List ℕ → Known → Type 0) → List (List ℕ × Known) → Type 0
Each R names = (q : List ℕ) (k : Known) → found names q ≡ Some k → R q k

pub each_push : (R : List ℕ → Known → Type 0) (names : List (List ℕ × Known)) (n : List ℕ) (k : Known) → Each R names → R n k
    → Each R (names ++ (n, k) ∷ [])
each_push R names n k old new q x e = by_found (found names q) refl (sym (found_more names n k q) ∙ e)
  where
    by_name : (b : Bool) → name_eq q n ≡ b → cond b (Some k) None ≡ Some x → R q x
    by_name true same f =
        let is : k ≡ x = cc in
        let name : q ≡ n = same_text q n (sym same) in
        subst (λ w. R w x) (sym name) (subst (R n) is new)
    by_name false same f = cc

    by_found : (o : Option Known) → found names q ≡ o → or_else o (cond (name_eq q n) (Some k) None) ≡ Some x → R q x
    by_found (Some y) is f = old q x (is ∙ f)
    by_found None is f = by_name (name_eq q n) refl f

pub each_weaker : (R S : List ℕ → Known → Type 0) → ((q : List ℕ) (k : Known) → R q k → S q k) → (names : List (List ℕ × Known))
    → Each R names → Each S names
each_weaker R S f names each q k e = f q k (each q k e)

-- ---- scalars that have a value

pub record IsSmall (z : ℤ) : Type 0 where
  pub low : neg_ℤ most ≤ℤ z
  pub high : z ≤ℤ most

small_of : (z : ℤ) → is_large z ≡ false → IsSmall z
small_of z h = record { low = grind (arith, ints); high = grind (arith, ints) }

not_large : (z : ℤ) → IsSmall z → is_large z ≡ false
not_large z h = by_tests (int_lt most z) (int_lt z (neg_ℤ most)) refl refl
  where
    by_tests : (b c : Bool) → int_lt most z ≡ b → int_lt z (neg_ℤ most) ≡ c → is_large z ≡ false
    by_tests b c e f = let low : neg_ℤ most ≤ℤ z = h.low in let high : z ≤ℤ most = h.high in grind (arith, ints)

opposite_small : (z : ℤ) → IsSmall z → IsSmall (neg_ℤ z)
opposite_small z h = let low : neg_ℤ most ≤ℤ z = h.low in let high : z ≤ℤ most = h.high in
    record { low = omega (arith, ints); high = omega (arith, ints) }

sized_small : (z : ℤ) → IsSmall z → sized z ≡ Some z
sized_small z h = ap (λ b. if b then None else Some z) (not_large z h)

-- a value that is there, and small
abbrev pub IsValued : Option ℤ → Type 0
IsValued o = IsSomeAnd o IsSmall

-- a constant has a value
abbrev pub IsConstant : Option (Option ℤ) → Type 0
IsConstant None = Unit {0}
IsConstant (Some value) = IsValued value

sized_valued : (z : ℤ) → IsSmall z → IsValued (sized z)
sized_valued z h = subst IsValued (sym (sized_small z h)) h

large_known : (at : SourcePlace) (z : ℤ) → large_faults at (Some z) ≡ [] → IsSmall z
large_known at z e = small_of z (test_false (is_large z) at cause.ScalarTooLarge e)

negated_valued : (o : Option ℤ) → IsValued o → IsValued (within (option_map neg_ℤ o))
negated_valued None v = v
negated_valued (Some z) v = sized_valued (neg_ℤ z) (opposite_small z v)

both_valued : (op : Arith) (at : SourcePlace) (o p : Option ℤ) → IsValued o → IsValued p → large_faults at (both op o p) ≡ []
    → IsValued (within (both op o p))
both_valued op at None p v w e = absurd v
both_valued op at (Some a) None v w e = absurd w
both_valued op at (Some a) (Some b) v w e = sized_valued (exactly op a b) (large_known at (exactly op a b) e)

named_valued : (loops : List (List ℕ)) (c : Option (Option ℤ)) (name : List ℕ) (at : SourcePlace) → IsConstant c
    → name_faults loops c name at ≡ [] → IsValued (constant_value c)
named_valued loops None name at v e = cc
named_valued loops (Some value) name at v e = v

module _ (names : List (List ℕ × Known)) (here : SourcePlace) (loops : List (List ℕ)) (constants : (q : List ℕ)
    → IsConstant (as_constant (known names here q))) where
  pub scalar_valued : (s : Scalar) → scalar_faults names here loops s ≡ [] → IsValued (scalar_within names here s)
  scalar_valued (Number value at) e = sized_valued value (large_known at value e)
  scalar_valued (Named name at) e = named_valued loops (as_constant (known names here name)) name at (constants name) e
  scalar_valued (Negate' at s (more_of-Scalar inner end_of-Scalar))
      e = negated_valued (scalar_within names here inner) (scalar_valued inner e)
  scalar_valued (Binary' op at s (more_of-Scalar left end_of-Scalar) t (more_of-Scalar right end_of-Scalar)) e =
      let rest = right_empty (scalar_faults names here loops left) (scalar_faults names here loops right ++ large_faults at
      (both op (scalar_within names here left) (scalar_within names here right))) e in
      both_valued op at (scalar_within names here left) (scalar_within names here right)
      (scalar_valued left (left_empty (scalar_faults names here loops left) (scalar_faults names here loops right ++ large_faults at
      (both op (scalar_within names here left) (scalar_within names here right))) e))
      (scalar_valued right (left_empty (scalar_faults names here loops right)
      (large_faults at (both op (scalar_within names here left) (scalar_within names here right))) rest))
      (right_empty (scalar_faults names here loops right)
      (large_faults at (both op (scalar_within names here left) (scalar_within names here right))) rest)

  pub offset_valued : (total : Option ℤ) (terms : List Term) → IsValued total → offset_faults names here loops total terms ≡ []
      → IsValued (offset_within names here total terms)
  offset_valued total [] v e = v
  offset_valued total (t ∷ ts) v e =
      let sum = both (sign_of t.minus) total (scalar_within names here t.scalar) in
      let first = left_empty (term_faults names here loops total t) (offset_faults names here loops (within sum) ts) e in
      offset_valued (within sum) ts
      (both_valued (sign_of t.minus) t.at total (scalar_within names here t.scalar) v
      (scalar_valued t.scalar (left_empty (scalar_faults names here loops t.scalar) (large_faults t.at sum) first))
      (right_empty (scalar_faults names here loops t.scalar) (large_faults t.at sum) first))
      (right_empty (term_faults names here loops total t) (offset_faults names here loops (within sum) ts) e)

extent_is : (z : ℤ) → is_extent z ≡ true → IsExtent (natural z)
extent_is (pos n) e = record { some = grind (arith, ints, nat_tests); most = grind (arith, ints, nat_tests) }
extent_is (negsuc n) e = cc

pub extent_valued : (at : SourcePlace) (o : Option ℤ) → IsValued o → bad_extent at o ≡ [] → IsSomeAnd (extent_within o) IsExtent
extent_valued at None v e = absurd v
extent_valued at (Some z) v e = by_test (is_extent z) refl (not_false (is_extent z) (test_false (not (is_extent z)) at cause.BadExtent e))
  where
    by_test : (b : Bool) → is_extent z ≡ b → b ≡ true → IsSomeAnd (if b then Some (natural z) else None) IsExtent
    by_test true is f = extent_is z is
    by_test false is f = cc
