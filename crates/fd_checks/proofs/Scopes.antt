-- What is declared, declaration by declaration, where nothing in the head is at fault.
use Rattle.std.proofs.Common.{◌≡◌, ◌≢◌, refl, ℕ, zero, suc, ◌≤◌, ◌<◌, ◌+◌, ◌-◌, ℤ, pos, ◌+ℤ◌, ◌≤ℤ◌, Bool, true, false, if◌then◌else◌, arith}
use Rattle.std.proofs.Common.{List, [], ◌∷◌, ◌++◌, length, length-append, get_or, Option, Some, None, ap, sym, ◌∙◌, subst}
use Rattle.std.specs.Prelude.{All, AllPairs, fold, not, ◌||◌, is_some, nat_le, int_lt, slice_get, slice_set, IsSomeAnd}
use Rattle.std.specs.List.{list_any}
use Rattle.std.specs.Ordering.{int_eq}
use Rattle.std.proofs.lemmas.Bool.Decides.{nat_tests, Decides-int_eq}
use Rattle.std.proofs.lemmas.Int.{ints}
use Rattle.std.proofs.lemmas.List.Elements.{All-nil, All-push, All-weaker, All-set}
use Rattle.std.proofs.lemmas.List.Quantifiers.{all_pairs_push}
use Rattle.std.proofs.lemmas.Option.{slice_get_within, get_or_from_slice_get}
use Rattle.chaos_dist.specs.Homes.{natural}
use Rattle.fd_words.specs.declared.source.SourceCause.TheVariants as cause
use Rattle.fd_words.specs.declared.source.SourcePlace.{SourcePlace}
use Rattle.fd_syntax.specs.declared.scalar.Term.{Term}
use Rattle.fd_syntax.specs.declared.declaration.Parameter.{Parameter}
use Rattle.fd_syntax.specs.declared.declaration.SizedName.{SizedName}
use Rattle.fd_syntax.specs.declared.declaration.Listed.{Listed}
use Rattle.fd_syntax.specs.declared.declaration.Declaration.{Declaration}
use Rattle.fd_syntax.specs.declared.declaration.Declaration.TheVariants as declaration
use Rattle.fd_program.specs.Checks.{IsExtent}
use Rattle.fd_program.specs.declared.array.OutputName.{OutputName}
use Rattle.fd_scope.specs.declared.names.Known.{Known}
use Rattle.fd_scope.specs.declared.names.Meaning.{Meaning}
use Rattle.fd_scope.specs.declared.names.Meaning.TheVariants.{Constant, Array, Decomposition}
use Rattle.fd_scope.specs.declared.scope.Alignment.{Alignment}
use Rattle.fd_scope.specs.declared.scope.ArrayEntry.{ArrayEntry}
use Rattle.fd_scope.specs.declared.scope.LayoutEntry.{LayoutEntry}
use Rattle.fd_scope.specs.declared.scope.Scope.{Scope}
use Rattle.fd_scope.specs.Faults.{fault_if, along}
use Rattle.fd_scope.specs.Names.{found, is_earlier, declared_before, known, as_constant, as_array, as_decomposition}
use Rattle.fd_scope.specs.Scalars.{scalar_within, scalar_faults, offset_within, offset_faults}
use Rattle.fd_scope.specs.Scope.{nothing, is_declared, twice_faults, bad_extent, extent_of, extent_faults, is_full, parameter_entered}
use Rattle.fd_scope.specs.Scope.{array_entered, layout_entered, after_parameter, parameter_faults, sized_faults, after_array, array_faults}
use Rattle.fd_scope.specs.Scope.{after_layout, layout_faults, array_numbered, entry_extent, entry_extent_of, is_outside, aligned_faults}
use Rattle.fd_scope.specs.Scope.{listed_faults, entry_aligned, arrays_aligned, after_aligned, alignment_of, target_faults, is_array_read}
use Rattle.fd_scope.specs.Scope.{is_output, again_faults, number_of, read_faults, output_faults, reads_with, outputs_with, after_read}
use Rattle.fd_scope.specs.Scope.{after_output, after_declaration, declaration_faults, declared, declared_faults}
use Rattle.fd_checks.proofs.Accepted.{left_empty, right_empty, test_false, not_false, left_false, right_false, true_not_false, is_some-some}
use Rattle.fd_checks.proofs.Accepted.{some_and, some_and-is, slice_get-front, slice_get-last, kept_along, anything}
use Rattle.fd_checks.proofs.Heads.{Each, each_push, each_weaker, IsSmall, IsValued, IsConstant, scalar_valued, offset_valued, extent_valued}

-- ---- what a name means, in a scope

abbrev pub IsMeaning : List ArrayEntry → List LayoutEntry → List ℕ → Meaning → Type 0
IsMeaning arrays layouts name (Constant value) = IsValued value
IsMeaning arrays layouts name (Array number) = IsSomeAnd (slice_get arrays number) (λ e. e.name ≡ name)
IsMeaning arrays layouts name (Decomposition number) = number < length layouts

-- where an aligned array stands
pub record IsStanding (layouts : List LayoutEntry) (extent : Option ℕ) (to : Alignment) : Type 0 where
  pub decomposition : ℕ
  pub offset : ℤ
  pub size : ℕ
  pub whole : ℕ
  pub decomposition_is : to.decomposition ≡ Some decomposition
  pub offset_is : to.offset ≡ Some offset
  pub size_is : extent ≡ Some size
  pub whole_is : entry_extent_of layouts (Some decomposition) ≡ Some whole
  pub first : pos 0 ≤ℤ offset
  pub last : (pos size +ℤ offset) ≤ℤ pos whole

abbrev pub Stands : List LayoutEntry → Option ℕ → Option Alignment → Type 0
Stands layouts extent None = Unit {0}
Stands layouts extent (Some to) = IsStanding layouts extent to

pub record IsEntry (layouts : List LayoutEntry) (e : ArrayEntry) : Type 0 where
  pub extent : IsSomeAnd e.extent IsExtent
  pub stands : Stands layouts e.extent e.aligned

abbrev pub IsSized : LayoutEntry → Type 0
IsSized e = IsSomeAnd e.extent IsExtent

-- the number of an array that is read
abbrev pub IsNumber : ℕ → ℤ → Type 0
IsNumber count z = (pos 0 ≤ℤ z) × (natural z < count)

pub record IsSoundScope (s : Scope) : Type 0 where
  pub few_arrays : length s.arrays ≤ 64
  pub few_layouts : length s.layouts ≤ 64
  pub names : Each (λ q (k : Known). IsMeaning s.arrays s.layouts q k.meaning) s.names
  pub layouts : All IsSized s.layouts
  pub arrays : All (IsEntry s.layouts) s.arrays
  pub reads : All (IsNumber (length s.arrays)) s.reads
  pub reads_apart : AllPairs (λ (a b : ℤ). a ≢ b) s.reads
  pub outputs : All (λ (o : OutputName). o.array < length s.arrays) s.outputs

-- ---- what is known of a name

pub constant_in : (arrays : List ArrayEntry) (layouts : List LayoutEntry) (names : List (List ℕ × Known)) (here : SourcePlace)
    → Each (λ q (k : Known). IsMeaning arrays layouts q k.meaning) names → (q : List ℕ) → IsConstant (as_constant (known names here q))
constant_in arrays layouts names here each q = by_found (found names q) refl
  where
    by_meaning : (m : Meaning) (at : SourcePlace) → IsMeaning arrays layouts q m
        → IsConstant (as_constant (Some (record { at = at; meaning = m })))
    by_meaning (Constant value) at is = is
    by_meaning (Array number) at is = tt
    by_meaning (Decomposition number) at is = tt

    by_test : (b : Bool) (k : Known) → IsMeaning arrays layouts q k.meaning → IsConstant (as_constant (if b then Some k else None))
    by_test true k is = by_meaning k.meaning k.at is
    by_test false k is = tt

    by_found : (o : Option Known) → found names q ≡ o → IsConstant (as_constant (declared_before here o))
    by_found None e = tt
    by_found (Some k) e = by_test (is_earlier k.at here) k (each q k e)

pub array_in : (s : Scope) → IsSoundScope s → (q : List ℕ) (n : ℕ) → as_array (found s.names q) ≡ Some n
    → IsSomeAnd (slice_get s.arrays n) (λ (e : ArrayEntry). e.name ≡ q)
array_in s g q n e = by_found (found s.names q) refl e
  where
    by_meaning : (m : Meaning) (at : SourcePlace) → IsMeaning s.arrays s.layouts q m → as_array (Some (record { at = at; meaning = m }))
        ≡ Some n → IsSomeAnd (slice_get s.arrays n) (λ (e : ArrayEntry). e.name ≡ q)
    by_meaning (Constant value) at is f = cc
    by_meaning (Array number) at is f = let same : number ≡ n = cc in
        subst (λ k. IsSomeAnd (slice_get s.arrays k) (λ (e : ArrayEntry). e.name ≡ q)) same is
    by_meaning (Decomposition number) at is f = cc

    by_found : (o : Option Known) → found s.names q ≡ o → as_array o ≡ Some n
        → IsSomeAnd (slice_get s.arrays n) (λ (e : ArrayEntry). e.name ≡ q)
    by_found None is f = cc
    by_found (Some k) is f = by_meaning k.meaning k.at (g.names q k is) f

pub layout_in : (s : Scope) → IsSoundScope s → (q : List ℕ) (n : ℕ) → as_decomposition (found s.names q) ≡ Some n → n < length s.layouts
layout_in s g q n e = by_found (found s.names q) refl e
  where
    by_meaning : (m : Meaning) (at : SourcePlace) → IsMeaning s.arrays s.layouts q m
        → as_decomposition (Some (record { at = at; meaning = m })) ≡ Some n → n < length s.layouts
    by_meaning (Constant value) at is f = cc
    by_meaning (Array number) at is f = cc
    by_meaning (Decomposition number) at is f = let same : number ≡ n = cc in subst (λ k. k < length s.layouts) same is

    by_found : (o : Option Known) → found s.names q ≡ o → as_decomposition o ≡ Some n → n < length s.layouts
    by_found None is f = cc
    by_found (Some k) is f = by_meaning k.meaning k.at (g.names q k is) f

within_arrays : (arrays : List ArrayEntry) (n : ℕ) (P : ArrayEntry → Type 0) → IsSomeAnd (slice_get arrays n) P → n < length arrays
within_arrays arrays n P is = by_get (slice_get arrays n) refl is
  where
    by_get : (o : Option ArrayEntry) → slice_get arrays n ≡ o → IsSomeAnd o P → n < length arrays
    by_get None e f = absurd f
    by_get (Some x) e f = slice_get_within arrays n x e

-- ---- one thing more

meaning_more_arrays : (arrays more : List ArrayEntry) (layouts : List LayoutEntry) (q : List ℕ) (m : Meaning)
    → IsMeaning arrays layouts q m → IsMeaning (arrays ++ more) layouts q m
meaning_more_arrays arrays more layouts q (Constant value) is = is
meaning_more_arrays arrays more layouts q (Array number) is = some_and (slice_get arrays number) (slice_get (arrays ++ more) number)
    (λ (e : ArrayEntry). e.name ≡ q) (slice_get-front arrays more number) is
meaning_more_arrays arrays more layouts q (Decomposition number) is = is

meaning_more_layouts : (arrays : List ArrayEntry) (layouts more : List LayoutEntry) (q : List ℕ) (m : Meaning)
    → IsMeaning arrays layouts q m → IsMeaning arrays (layouts ++ more) q m
meaning_more_layouts arrays layouts more q (Constant value) is = is
meaning_more_layouts arrays layouts more q (Array number) is = is
meaning_more_layouts arrays layouts more q (Decomposition number) is = omega (arith, length-append layouts more)

entry_kept : (layouts more : List LayoutEntry) (d w : ℕ) → entry_extent_of layouts (Some d) ≡ Some w
    → entry_extent_of (layouts ++ more) (Some d) ≡ Some w
entry_kept layouts more d w e = by_get (slice_get layouts d) refl e
  where
    by_get : (o : Option LayoutEntry) → slice_get layouts d ≡ o → entry_extent o ≡ Some w → entry_extent_of (layouts ++ more) (Some d)
        ≡ Some w
    by_get None is f = cc
    by_get (Some x) is f = ap entry_extent (slice_get-front layouts more d x is) ∙ f

stands_more : (layouts more : List LayoutEntry) (extent : Option ℕ) (o : Option Alignment) → Stands layouts extent o
    → Stands (layouts ++ more) extent o
stands_more layouts more extent None is = tt
stands_more layouts more extent (Some to) is = record {
  decomposition = is.decomposition;
  offset = is.offset;
  size = is.size;
  whole = is.whole;
  decomposition_is = is.decomposition_is;
  offset_is = is.offset_is;
  size_is = is.size_is;
  whole_is = entry_kept layouts more is.decomposition is.whole is.whole_is;
  first = is.first;
  last = is.last;
}

number_more : (count more : ℕ) (z : ℤ) → count ≤ more → IsNumber count z → IsNumber more z
number_more count more z h is = let n : natural z < count = is.1 in (is.0, omega arith)

not_full : (n : ℕ) → nat_le 64 n ≡ false → (n + 1) ≤ 64
not_full n e = grind (arith, nat_tests)

one_more : {A : Type 0} (xs : List A) (x : A) → nat_le 64 (length xs) ≡ false → length (xs ++ x ∷ []) ≤ 64
one_more xs x e = let n : (length xs + 1) ≤ 64 = not_full (length xs) e in omega (arith, length-append xs (x ∷ []))

-- the list is no shorter behind one more
no_shorter : {A : Type 0} (xs : List A) (x : A) → length xs ≤ length (xs ++ x ∷ [])
no_shorter xs x = omega (arith, length-append xs (x ∷ []))

-- a scope that stays, or becomes another where a test fails
kept_unless : (b : Bool) (s t : Scope) → IsSoundScope s → (b ≡ false → IsSoundScope t) → IsSoundScope (if b then s else t)
kept_unless true s t g more = g
kept_unless false s t g more = more refl

-- ---- PARAMETER

parameter_kept : (loops : List (List ℕ)) (s : Scope) (p : Parameter) → IsSoundScope s → Unit {0} → parameter_faults loops s p ≡ []
    → IsSoundScope (after_parameter s p)
parameter_kept loops s p g q none =
    let value : IsValued (scalar_within s.names p.at p.value) =
    scalar_valued s.names p.at loops (constant_in s.arrays s.layouts s.names p.at g.names) p.value
    (right_empty (twice_faults s p.name p.at) (scalar_faults s.names p.at loops p.value) none) in
    kept_unless (is_declared s p.name) s (parameter_entered s p) g
    (λ e. record {
      few_arrays = g.few_arrays;
      few_layouts = g.few_layouts;
      names = each_push (λ q (k : Known). IsMeaning s.arrays s.layouts q k.meaning) s.names p.name _ g.names value;
      layouts = g.layouts;
      arrays = g.arrays;
      reads = g.reads;
      reads_apart = g.reads_apart;
      outputs = g.outputs;
    })

-- ---- INTEGER, DECOMPOSITION

extent_there : (full : Bool) (loops : List (List ℕ)) (s : Scope) (z : SizedName) → IsSoundScope s → sized_faults full loops s z ≡ []
    → IsSomeAnd (extent_of s z) IsExtent
extent_there full loops s z g none =
    let rest = right_empty (twice_faults s z.name z.at) (extent_faults s loops z) (right_empty (fault_if full z.at cause.TooManyNames)
    (twice_faults s z.name z.at ++ extent_faults s loops z) none) in
    extent_valued z.extent_at (scalar_within s.names z.at z.extent)
    (scalar_valued s.names z.at loops (constant_in s.arrays s.layouts s.names z.at g.names) z.extent
    (left_empty (scalar_faults s.names z.at loops z.extent) (bad_extent z.extent_at (scalar_within s.names z.at z.extent)) rest))
    (right_empty (scalar_faults s.names z.at loops z.extent) (bad_extent z.extent_at (scalar_within s.names z.at z.extent)) rest)

array_kept : (loops : List (List ℕ)) (s : Scope) (z : SizedName) → IsSoundScope s → Unit {0} → array_faults loops s z ≡ []
    → IsSoundScope (after_array s z)
array_kept loops s z g q none =
    kept_unless (is_full s.arrays || is_declared s z.name) s (array_entered s z) g (λ e.
    let new : ArrayEntry = record { name = z.name; extent = extent_of s z; aligned = None } in
    let longer : length s.arrays ≤ length (s.arrays ++ new ∷ []) = no_shorter s.arrays new in
    record {
      few_arrays = one_more s.arrays new (left_false (is_full s.arrays) (is_declared s z.name) e);
      few_layouts = g.few_layouts;
      names = each_push (λ q (k : Known). IsMeaning (s.arrays ++ new ∷ []) s.layouts q k.meaning) s.names z.name _
          (each_weaker (λ q (k : Known). IsMeaning s.arrays s.layouts q k.meaning)
          (λ q (k : Known). IsMeaning (s.arrays ++ new ∷ []) s.layouts q k.meaning)
          (λ q k is. meaning_more_arrays s.arrays (new ∷ []) s.layouts q k.meaning is) s.names g.names)
          (some_and-is (slice_get (s.arrays ++ new ∷ []) (length s.arrays)) new (λ (x : ArrayEntry). x.name ≡ z.name)
          (slice_get-last s.arrays new) refl);
      layouts = g.layouts;
      arrays = All-push (IsEntry s.layouts) s.arrays new g.arrays (record {
        extent = extent_there (is_full s.arrays) loops s z g none;
        stands = tt;
      });
      reads = All-weaker (IsNumber (length s.arrays)) (IsNumber (length (s.arrays ++ new ∷ [])))
          (λ n is. number_more (length s.arrays) (length (s.arrays ++ new ∷ [])) n longer is) s.reads g.reads;
      reads_apart = g.reads_apart;
      outputs = All-weaker (λ (o : OutputName). o.array < length s.arrays) (λ (o : OutputName). o.array
          < length (s.arrays ++ new ∷ [])) (λ o is. omega arith) s.outputs g.outputs;
    })

layout_kept : (loops : List (List ℕ)) (s : Scope) (z : SizedName) → IsSoundScope s → Unit {0} → layout_faults loops s z ≡ []
    → IsSoundScope (after_layout s z)
layout_kept loops s z g q none =
    kept_unless (is_full s.layouts || is_declared s z.name) s (layout_entered s z) g (λ e.
    let new : LayoutEntry = record { name = z.name; extent = extent_of s z } in
    record {
      few_arrays = g.few_arrays;
      few_layouts = one_more s.layouts new (left_false (is_full s.layouts) (is_declared s z.name) e);
      names = each_push (λ q (k : Known). IsMeaning s.arrays (s.layouts ++ new ∷ []) q k.meaning) s.names z.name _
          (each_weaker (λ q (k : Known). IsMeaning s.arrays s.layouts q k.meaning)
          (λ q (k : Known). IsMeaning s.arrays (s.layouts ++ new ∷ []) q k.meaning)
          (λ q k is. meaning_more_layouts s.arrays s.layouts (new ∷ []) q k.meaning is) s.names g.names)
          (omega (arith, length-append s.layouts (new ∷ [])));
      layouts = All-push IsSized s.layouts new g.layouts (extent_there (is_full s.layouts) loops s z g none);
      arrays = All-weaker (IsEntry s.layouts) (IsEntry (s.layouts ++ new ∷ []))
          (λ e' is. record { extent = is.extent; stands = stands_more s.layouts (new ∷ []) e'.extent e'.aligned is.stands }) s.arrays
          g.arrays;
      reads = g.reads;
      reads_apart = g.reads_apart;
      outputs = g.outputs;
    })

-- ---- ALIGN

set_length : {A : Type 0} (xs : List A) (i : ℕ) (x : A) → length (slice_set xs i x) ≡ length xs
set_length [] i x = refl
set_length (y ∷ ys) zero x = refl
set_length (y ∷ ys) (suc i) x = ap suc (set_length ys i x)

named_set : (arrays : List ArrayEntry) (n : ℕ) (e new : ArrayEntry) → slice_get arrays n ≡ Some e → new.name ≡ e.name → (k : ℕ) (q : List ℕ)
    → IsSomeAnd (slice_get arrays k) (λ (x : ArrayEntry). x.name ≡ q) → IsSomeAnd (slice_get (slice_set arrays n new) k)
    (λ (x : ArrayEntry). x.name ≡ q)
named_set [] n e new there same k q is = is
named_set (x ∷ xs) zero e new there same zero q is = let f : x ≡ e = cc in same ∙ sym (ap (λ (y : ArrayEntry). y.name) f) ∙ is
named_set (x ∷ xs) zero e new there same (suc k) q is = is
named_set (x ∷ xs) (suc n) e new there same zero q is = is
named_set (x ∷ xs) (suc n) e new there same (suc k) q is = named_set xs n e new there same k q is

meaning_set : (arrays : List ArrayEntry) (n : ℕ) (e new : ArrayEntry) → slice_get arrays n ≡ Some e → new.name ≡ e.name
    → (layouts : List LayoutEntry) (q : List ℕ) (m : Meaning)
    → IsMeaning arrays layouts q m → IsMeaning (slice_set arrays n new) layouts q m
meaning_set arrays n e new there same layouts q (Constant value) is = is
meaning_set arrays n e new there same layouts q (Array number) is = named_set arrays n e new there same number q is
meaning_set arrays n e new there same layouts q (Decomposition number) is = is

-- an alignment to a named decomposition, with an offset
pub record IsTo (layouts : List LayoutEntry) (to : Alignment) : Type 0 where
  pub decomposition : ℕ
  pub offset : ℤ
  pub decomposition_is : to.decomposition ≡ Some decomposition
  pub offset_is : to.offset ≡ Some offset
  pub within : decomposition < length layouts

inside : (o : ℤ) (n w : ℕ) → (int_lt o (pos 0) || int_lt (pos w) (pos n +ℤ o)) ≡ false → (pos 0 ≤ℤ o) × ((pos n +ℤ o) ≤ℤ pos w)
inside o n w e =
    let first : int_lt o (pos 0) ≡ false = left_false (int_lt o (pos 0)) (int_lt (pos w) (pos n +ℤ o)) e in
    let last : int_lt (pos w) (pos n +ℤ o) ≡ false = right_false (int_lt o (pos 0)) (int_lt (pos w) (pos n +ℤ o)) e in
    (grind (arith, ints), grind (arith, ints))

some_extent : (o : Option ℕ) → IsSomeAnd o IsExtent → (n : ℕ) × (o ≡ Some n)
some_extent None is = absurd is
some_extent (Some n) is = (n, refl)

pub whole_there : (layouts : List LayoutEntry) (d : ℕ) → d < length layouts → All IsSized layouts → (w : ℕ)
    × (entry_extent_of layouts (Some d) ≡ Some w)
whole_there [] d within all = absurd (omega arith)
whole_there (x ∷ xs) zero within all = some_extent x.extent (all 0 x (omega arith))
whole_there (x ∷ xs) (suc d) within all = whole_there xs d (omega arith) (λ k y h. all (suc k) y (omega arith))

standing : (layouts : List LayoutEntry) (to : Alignment) (extent : Option ℕ) → IsTo layouts to → All IsSized layouts
    → IsSomeAnd extent IsExtent
    → is_outside to.offset extent (entry_extent_of layouts to.decomposition) ≡ false → IsStanding layouts extent to
standing layouts to extent is all sized out = from (some_extent extent sized) (whole_there layouts is.decomposition is.within all)
  where
    from : (n : ℕ) × (extent ≡ Some n) → (w : ℕ) × (entry_extent_of layouts (Some is.decomposition) ≡ Some w) → IsStanding layouts extent to
    from (n, size) (w, whole) =
        let all_of : is_outside (Some is.offset) (Some n) (Some w) ≡ false =
        sym (ap (λ o. is_outside o (Some n) (Some w)) is.offset_is) ∙ sym (ap (λ o. is_outside to.offset o (Some w)) size)
        ∙ sym (ap (is_outside to.offset extent) (ap (entry_extent_of layouts) is.decomposition_is ∙ whole)) ∙ out in
        let in' = inside is.offset n w all_of in
        record {
          decomposition = is.decomposition;
          offset = is.offset;
          size = n;
          whole = w;
          decomposition_is = is.decomposition_is;
          offset_is = is.offset_is;
          size_is = size;
          whole_is = whole;
          first = in'.0;
          last = in'.1;
        }

pub record IsAimed (to : Alignment) (s : Scope) : Type 0 where
  pub sound : IsSoundScope s
  pub aim : IsTo s.layouts to

aligned_kept : (to : Alignment) (s : Scope) (l : Listed) → IsAimed to s → Unit {0} → listed_faults to s l ≡ []
    → IsAimed to (after_aligned to s l)
aligned_kept to s l g q none = by_number (as_array (found s.names l.name)) none
  where
    by_aligned : (n : ℕ) (e : ArrayEntry) → slice_get s.arrays n ≡ Some e → IsEntry s.layouts e → (b : Bool)
        → (if b then fault_if true l.at (cause.Twice l.name)
        else fault_if (is_outside to.offset e.extent (entry_extent_of s.layouts to.decomposition)) l.at cause.AlignOutside) ≡ []
        → IsAimed to (record s { arrays = if b then s.arrays else slice_set s.arrays n (record e { aligned = Some to }) })
    by_aligned n e there entry true f = cc
    by_aligned n e there entry false f =
        let new : ArrayEntry = record e { aligned = Some to } in
        let same : length (slice_set s.arrays n new) ≡ length s.arrays = set_length s.arrays n new in
        record {
          sound = record {
            few_arrays = subst (λ k. k ≤ 64) (sym same) g.sound.few_arrays;
            few_layouts = g.sound.few_layouts;
            names = each_weaker (λ q' (k : Known). IsMeaning s.arrays s.layouts q' k.meaning)
                (λ q' (k : Known). IsMeaning (slice_set s.arrays n new) s.layouts q' k.meaning)
                (λ q' k is. meaning_set s.arrays n e new there refl s.layouts q' k.meaning is) s.names g.sound.names;
            layouts = g.sound.layouts;
            arrays = All-set (IsEntry s.layouts) s.arrays n new
                (record {
                  extent = entry.extent;
                  stands = standing s.layouts to e.extent g.aim g.sound.layouts entry.extent
                      (test_false (is_outside to.offset e.extent (entry_extent_of s.layouts to.decomposition)) l.at cause.AlignOutside f);
                })
                g.sound.arrays;
            reads = subst (λ k. All (IsNumber k) s.reads) (sym same) g.sound.reads;
            reads_apart = g.sound.reads_apart;
            outputs = subst (λ k. All (λ (o : OutputName). o.array < k) s.outputs) (sym same) g.sound.outputs;
          };
          aim = g.aim;
        }

    by_entry : (n : ℕ) (o : Option ArrayEntry) → slice_get s.arrays n ≡ o → aligned_faults to (entry_extent_of s.layouts to.decomposition) o
        l.name l.at ≡ []
        → IsAimed to (record s { arrays = entry_aligned to s.arrays n o })
    by_entry n None there f = cc
    by_entry n (Some e) there f =
        by_aligned n e there
        (subst (IsEntry s.layouts) (get_or_from_slice_get s.arrays n e e there) (g.sound.arrays n e (slice_get_within s.arrays n e there)))
        (is_some e.aligned) f

    by_number : (o : Option ℕ) → aligned_faults to (entry_extent_of s.layouts to.decomposition) (array_numbered s.arrays o) l.name l.at ≡ []
        → IsAimed to (record s { arrays = arrays_aligned to s.arrays o })
    by_number None f = cc
    by_number (Some n) f = by_entry n (slice_get s.arrays n) refl f

some_value : (o : Option ℤ) → IsValued o → (z : ℤ) × (o ≡ Some z)
some_value None is = absurd is
some_value (Some z) is = (z, refl)

aim_there : (loops : List (List ℕ)) (s : Scope) (target : List ℕ) (at : SourcePlace) (add : List Term) → IsSoundScope s
    → target_faults s target at ≡ []
    → offset_faults s.names at loops (Some (pos 0)) add ≡ [] → IsTo s.layouts (alignment_of s target at add)
aim_there loops s target at add g none fine =
    from (is_some-some (as_decomposition (found s.names target))
    (not_false _ (test_false (not (is_some (as_decomposition (found s.names target)))) at (cause.Unknown target) none)))
    (some_value (offset_within s.names at (Some (pos 0)) add)
    (offset_valued s.names at loops (constant_in s.arrays s.layouts s.names at g.names) (Some (pos 0)) add zero_small fine))
  where
    zero_small : IsSmall (pos 0)
    zero_small = record { low = omega (arith, ints); high = omega (arith, ints) }

    from : (d : ℕ) × (as_decomposition (found s.names target) ≡ Some d) → (z : ℤ) × (offset_within s.names at (Some (pos 0)) add ≡ Some z)
        → IsTo s.layouts (alignment_of s target at add)
    from (d, is) (z, value) = record {
      decomposition = d;
      offset = z;
      decomposition_is = is;
      offset_is = value;
      within = layout_in s g target d is;
    }

align_kept : (loops : List (List ℕ)) (s : Scope) (arrays : List Listed) (target : List ℕ) (at : SourcePlace) (add : List Term)
    → IsSoundScope s
    → target_faults s target at ++ (offset_faults s.names at loops (Some (pos 0)) add
    ++ along (after_aligned (alignment_of s target at add)) (listed_faults (alignment_of s target at add)) s arrays) ≡ []
    → IsSoundScope (fold (after_aligned (alignment_of s target at add)) s arrays)
align_kept loops s arrays target at add g none =
    let to = alignment_of s target at add in
    let walk = along (after_aligned to) (listed_faults to) s arrays in
    let offset = offset_faults s.names at loops (Some (pos 0)) add in
    let rest = right_empty (target_faults s target at) (offset ++ walk) none in
    let all = kept_along (IsAimed to) (λ (l : Listed). Unit {0}) (after_aligned to) (listed_faults to) (aligned_kept to) arrays s
    (record {
      sound = g;
      aim = aim_there loops s target at add g (left_empty (target_faults s target at) (offset ++ walk) none)
          (left_empty offset walk rest);
    })
    (anything arrays) (right_empty offset walk rest) in
    all.sound

-- ---- READ, OUTPUT

any_false : {A : Type 0} (p : A → Bool) (xs : List A) → list_any p xs ≡ false → (k : ℕ) (d : A) → k < length xs → p (get_or xs k d) ≡ false
any_false p [] e k d within = absurd (omega arith)
any_false p (x ∷ xs) e zero d within = left_false (p x) (list_any p xs) e
any_false p (x ∷ xs) e (suc k) d within = any_false p xs (right_false (p x) (list_any p xs) e) k d (omega arith)

int_same : (x y : ℤ) → x ≡ y → int_eq x y ≡ true
int_same x y e = (Decides-int_eq x y).1 e

-- the array of a listed name
listed_there : (s : Scope) → IsSoundScope s → (q : List ℕ) (n : ℕ) → as_array (found s.names q) ≡ Some n → n < length s.arrays
listed_there s g q n e = within_arrays s.arrays n (λ (x : ArrayEntry). x.name ≡ q) (array_in s g q n e)

-- what is declared stays, and what is listed as read or as output may be more
with_lists : (s : Scope) (reads : List ℤ) (outputs : List OutputName) → IsSoundScope s → All (IsNumber (length s.arrays)) reads
    → AllPairs (λ (a b : ℤ). a ≢ b) reads → All (λ (o : OutputName). o.array < length s.arrays) outputs
    → IsSoundScope (record s { reads = reads; outputs = outputs })
with_lists s reads outputs g are_read apart are_written = record {
  few_arrays = g.few_arrays;
  few_layouts = g.few_layouts;
  names = g.names;
  layouts = g.layouts;
  arrays = g.arrays;
  reads = are_read;
  reads_apart = apart;
  outputs = are_written;
}

read_kept : (s : Scope) (l : Listed) → IsSoundScope s → Unit {0} → read_faults s l ≡ [] → IsSoundScope (after_read s l)
read_kept s l g q none = by_number (number_of s l) refl none
  where
    by_test : (n : ℕ) → n < length s.arrays → (b : Bool) → is_array_read s.reads (Some n) ≡ b
        → IsSoundScope (record s { reads = if b then s.reads else s.reads ++ pos n ∷ [] })
    by_test n within true e = g
    by_test n within false e = with_lists s (s.reads ++ pos n ∷ []) s.outputs g
        (All-push (IsNumber (length s.arrays)) s.reads (pos n) g.reads (omega (arith, ints), within))
        (all_pairs_push (λ (a b : ℤ). a ≢ b) s.reads (pos n) g.reads_apart
        (λ k d inside same. true_not_false _ (int_same (get_or s.reads k d) (pos n) same)
        (any_false (λ v. int_eq v (pos n)) s.reads e k d inside)))
        g.outputs

    by_number : (o : Option ℕ) → number_of s l ≡ o → again_faults (is_array_read s.reads o) o l ≡ []
        → IsSoundScope (record s { reads = reads_with s.reads o })
    by_number None e f = cc
    by_number (Some n) e f = by_test n (listed_there s g l.name n e) (is_array_read s.reads (Some n)) refl

output_kept : (s : Scope) (l : Listed) → IsSoundScope s → Unit {0} → output_faults s l ≡ [] → IsSoundScope (after_output s l)
output_kept s l g q none = by_number (number_of s l) refl none
  where
    by_test : (n : ℕ) → n < length s.arrays → (b : Bool)
        → IsSoundScope (record s { outputs = if b then s.outputs else s.outputs ++ record { array = n; at = l.at } ∷ [] })
    by_test n within true = g
    by_test n within false = with_lists s s.reads (s.outputs ++ record { array = n; at = l.at } ∷ []) g g.reads g.reads_apart
        (All-push (λ (o : OutputName). o.array < length s.arrays) s.outputs _ g.outputs within)

    by_number : (o : Option ℕ) → number_of s l ≡ o → again_faults (is_output s.outputs o) o l ≡ []
        → IsSoundScope (record s { outputs = outputs_with s.outputs o l.at })
    by_number None e f = cc
    by_number (Some n) e f = by_test n (listed_there s g l.name n e) (is_output s.outputs (Some n))

-- ---- all declarations

declaration_kept : (loops : List (List ℕ)) (s : Scope) (x : Declaration) → IsSoundScope s → Unit {0} → declaration_faults loops s x ≡ []
    → IsSoundScope (after_declaration s x)
declaration_kept loops s (declaration.Parameter list) g q none = kept_along IsSoundScope (λ (p : Parameter). Unit {0}) after_parameter
    (parameter_faults loops) (parameter_kept loops) list s g (anything list) none
declaration_kept loops s (declaration.Integer list) g q none = kept_along IsSoundScope (λ (z : SizedName). Unit {0}) after_array
    (array_faults loops) (array_kept loops) list s g (anything list) none
declaration_kept loops s (declaration.Decomposition list) g q none = kept_along IsSoundScope (λ (z : SizedName). Unit {0}) after_layout
    (layout_faults loops) (layout_kept loops) list s g (anything list) none
declaration_kept loops s (declaration.Align arrays dummy target target_at add) g q none = align_kept loops s arrays target target_at add g
    none
declaration_kept loops s (declaration.Read list) g q none = kept_along IsSoundScope (λ (l : Listed). Unit {0}) after_read read_faults
    read_kept list s g (anything list) none
declaration_kept loops s (declaration.Output list) g q none = kept_along IsSoundScope (λ (l : Listed). Unit {0}) after_output
    output_faults output_kept list s g (anything list) none

nothing_sound : IsSoundScope nothing
nothing_sound = record {
  few_arrays = omega arith;
  few_layouts = omega arith;
  names = λ q k e. cc;
  layouts = All-nil IsSized;
  arrays = All-nil (IsEntry []);
  reads = All-nil (IsNumber 0);
  reads_apart = λ i j d before within. absurd (omega arith);
  outputs = All-nil (λ (o : OutputName). o.array < 0);
}

pub declared_sound : (loops : List (List ℕ)) (list : List Declaration) → declared_faults loops list ≡ [] → IsSoundScope (declared list)
declared_sound loops list none = kept_along IsSoundScope (λ (x : Declaration). Unit {0}) after_declaration (declaration_faults loops)
    (declaration_kept loops) list nothing nothing_sound (anything list) none
