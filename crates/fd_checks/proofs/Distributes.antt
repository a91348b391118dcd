-- DISTRIBUTE in an accepted program.
use Rattle.std.proofs.Common.{◌≡◌, refl, ℕ, ◌<◌, Bool, true, false, if◌then◌else◌, arith, List, [], length, Option, Some, None, ap, sym}
use Rattle.std.proofs.Common.{◌∙◌, subst}
use Rattle.std.specs.Prelude.{not, ◌&&◌, ◌==◌, is_some, slice_get, unwrap_or, IsSomeAnd}
use Rattle.std.proofs.lemmas.Bool.Decides.{nat_tests}
use Rattle.std.proofs.lemmas.Option.{slice_get_within}
use Rattle.fd_words.specs.declared.source.SourceCause.TheVariants as cause
use Rattle.fd_words.specs.declared.source.SourcePlace.{SourcePlace}
use Rattle.fd_syntax.specs.declared.statement.Form.{Form}
use Rattle.fd_syntax.specs.declared.statement.Form.TheVariants as form
use Rattle.fd_program.specs.Checks.{IsExtent, IsFormOf, layout_extent}
use Rattle.fd_program.specs.Places.{decomposition_of}
use Rattle.fd_program.specs.Stores.{array_at, no_array}
use Rattle.fd_program.specs.declared.array.ArrayFacts.{ArrayFacts}
use Rattle.fd_scope.specs.declared.head.Head.{Head}
use Rattle.fd_scope.specs.declared.names.Known.{Known}
use Rattle.fd_scope.specs.declared.names.Meaning.{Meaning}
use Rattle.fd_scope.specs.declared.names.Meaning.TheVariants.{Constant, Array, Decomposition}
use Rattle.fd_scope.specs.declared.scope.ArrayEntry.{ArrayEntry}
use Rattle.fd_scope.specs.Faults.{fault_if}
use Rattle.fd_scope.specs.Names.{found, is_earlier, declared_before, known, as_array}
use Rattle.fd_scope.specs.Scalars.{scalar_within, scalar_faults}
use Rattle.fd_scope.specs.Scope.{bad_extent}
use Rattle.fd_scope.specs.Scope as scopes
use Rattle.fd_resolve.specs.declared.around.Around.{Around}
use Rattle.fd_resolve.specs.Resolve.{array_called, array_or_first, array_unknown}
use Rattle.fd_checks.specs.Walks.{own_decomposition, meant_decomposition, array_extent, meant_extent, is_other_extent, map_faults, size_of}
use Rattle.fd_checks.specs.Walks.{form_faults, form_resolved, distribute_faults}
use Rattle.fd_checks.proofs.Accepted.{left_empty, right_empty, test_false, not_false, is_some-some}
use Rattle.fd_checks.proofs.Heads.{scalar_valued, extent_valued}
use Rattle.fd_checks.proofs.Scopes.{IsMeaning, constant_in, whole_there}
use Rattle.fd_checks.proofs.Tables.{IsSoundHead, array_known, zip_there, extent_at}

-- a decomposition that a name means: its number, and its extent
pub record IsMeant (h : Head) (k : Option Known) (d : ℕ) : Type 0 where
  pub within : d < length h.tables.layouts
  pub extent : ℕ
  pub extent_is : meant_extent h k ≡ Some extent
  pub whole : layout_extent h.tables.layouts d ≡ extent

module _ (h : Head) (g : IsSoundHead h) where
  own_meant : (n d : ℕ) (o : Option ArrayEntry) → slice_get h.scope.arrays n ≡ o → own_decomposition h n o ≡ Some d → (at : SourcePlace)
      → IsMeant h (Some (record { at = at; meaning = Array n })) d
  own_meant n d None there e at = cc
  own_meant n d (Some x) there e at = by_test (is_some x.aligned) refl e
    where
      unaligned : (is_some x.aligned) ≡ false → x.aligned ≡ None
      unaligned f = go x.aligned f
        where
          go : {A : Type 0} (o : Option A) → is_some o ≡ false → o ≡ None
          go None f' = refl
          go (Some y) f' = cc

      by_test : (b : Bool) → is_some x.aligned ≡ b → (if b then None else Some (decomposition_of h.tables.arrays n)) ≡ Some d
          → IsMeant h (Some (record { at = at; meaning = Array n })) d
      by_test true f e' = cc
      by_test false f e' =
          let t = zip_there h.tables.layouts h.tables.arrays h.scope.arrays g.tables.arrays n (λ (y : ArrayEntry). y ≡ x)
          (subst (λ (o : Option ArrayEntry). IsSomeAnd o (λ (y : ArrayEntry). y ≡ x)) (sym there) refl) in
          let facts = t.0 in
          let number : decomposition_of h.tables.arrays n ≡ d = some_same e' in
          let is : facts.decomposition ≡ d = sym (ap (λ (o : Option ArrayFacts). (unwrap_or o no_array).decomposition) t.2) ∙ number in
          record {
            within = subst (λ k. k < length h.tables.layouts) is t.4.aligned.decomposition;
            extent = facts.extent;
            extent_is = ap array_extent t.3 ∙ t.4.extent;
            whole = ap (layout_extent h.tables.layouts) (sym is) ∙ t.4.own (ap (λ (y : ArrayEntry). y.aligned) t.5 ∙ unaligned f);
          }
        where
          some_same : Some (decomposition_of h.tables.arrays n) ≡ Some d → decomposition_of h.tables.arrays n ≡ d
          some_same s = cc

  layout_meant : (n d : ℕ) → n < length h.scope.layouts → Some n ≡ Some d → (at : SourcePlace)
      → IsMeant h (Some (record { at = at; meaning = Decomposition n })) d
  layout_meant n d within e at = from (whole_there h.scope.layouts n within g.scope.layouts)
    where
      same : n ≡ d
      same = cc

      from : (w : ℕ) × (scopes.entry_extent_of h.scope.layouts (Some n) ≡ Some w)
          → IsMeant h (Some (record { at = at; meaning = Decomposition n })) d
      from (w, whole) =
          let has = g.tables.front n w whole in
          record {
            within = subst (λ k. k < length h.tables.layouts) same (slice_get_within h.tables.layouts n has.layout has.there);
            extent = w;
            extent_is = whole;
            whole = subst (λ k. layout_extent h.tables.layouts k ≡ w) same (extent_at h.tables.layouts n w has);
          }

  meant : (q : List ℕ) (here : SourcePlace) (d : ℕ) → meant_decomposition h (known h.scope.names here q) ≡ Some d
      → IsMeant h (known h.scope.names here q) d
  meant q here d e = by_found (found h.scope.names q) refl e
    where
      by_meaning : (m : Meaning) (at : SourcePlace) → IsMeaning h.scope.arrays h.scope.layouts q m
          → meant_decomposition h (Some (record { at = at; meaning = m })) ≡ Some d → IsMeant h (Some (record { at = at; meaning = m })) d
      by_meaning (Constant value) at is f = cc
      by_meaning (Array n) at is f = own_meant n d (slice_get h.scope.arrays n) refl f at
      by_meaning (Decomposition n) at is f = layout_meant n d is f at

      by_test : (b : Bool) (k : Known) → IsMeaning h.scope.arrays h.scope.layouts q k.meaning
          → meant_decomposition h (if b then Some k else None) ≡ Some d → IsMeant h (if b then Some k else None) d
      by_test true k is f = by_meaning k.meaning k.at is f
      by_test false k is f = cc

      by_found : (o : Option Known) → found h.scope.names q ≡ o → meant_decomposition h (declared_before here o) ≡ Some d
          → IsMeant h (declared_before here o) d
      by_found None is f = cc
      by_found (Some k) is f = by_test (is_earlier k.at here) k (g.scope.names q k is) f

  -- the extent of an array that a name means
  array_meant : (q : List ℕ) (here : SourcePlace) (n : ℕ) → as_array (known h.scope.names here q) ≡ Some n
      → meant_extent h (known h.scope.names here q) ≡ Some (array_at h.tables.arrays n).extent
  array_meant q here n e = by_found (found h.scope.names q) refl e
    where
      by_array : (k : ℕ) → IsSomeAnd (slice_get h.scope.arrays k) (λ (x : ArrayEntry). x.name ≡ q)
          → array_extent (slice_get h.scope.arrays k) ≡ Some (array_at h.tables.arrays k).extent
      by_array k is =
          let t = zip_there h.tables.layouts h.tables.arrays h.scope.arrays g.tables.arrays k (λ (x : ArrayEntry). x.name ≡ q) is in
          ap array_extent t.3 ∙ t.4.extent ∙ ap Some (sym (ap (λ (o : Option ArrayFacts). (unwrap_or o no_array).extent) t.2))

      by_meaning : (m : Meaning) (at : SourcePlace) → IsMeaning h.scope.arrays h.scope.layouts q m
          → as_array (Some (record { at = at; meaning = m })) ≡ Some n
          → meant_extent h (Some (record { at = at; meaning = m })) ≡ Some (array_at h.tables.arrays n).extent
      by_meaning (Constant value) at is f = cc
      by_meaning (Array k) at is f = let same : k ≡ n = cc in
          subst (λ j. array_extent (slice_get h.scope.arrays k) ≡ Some (array_at h.tables.arrays j).extent) same (by_array k is)
      by_meaning (Decomposition k) at is f = cc

      by_test : (b : Bool) (k : Known) → IsMeaning h.scope.arrays h.scope.layouts q k.meaning → as_array (if b then Some k else None)
          ≡ Some n
          → meant_extent h (if b then Some k else None) ≡ Some (array_at h.tables.arrays n).extent
      by_test true k is f = by_meaning k.meaning k.at is f
      by_test false k is f = cc

      by_found : (o : Option Known) → found h.scope.names q ≡ o → as_array (declared_before here o) ≡ Some n
          → meant_extent h (declared_before here o) ≡ Some (array_at h.tables.arrays n).extent
      by_found None is f = cc
      by_found (Some k) is f = by_test (is_earlier k.at here) k (g.scope.names q k is) f

  one_extent : (a b : ℕ) → not (a == b) ≡ false → a ≡ b
  one_extent a b e = grind (arith, nat_tests)

  map_sound : (a : Around) (name map_name : List ℕ) (at : SourcePlace) (d : ℕ) → IsMeant h (known h.scope.names a.here name) d
      → map_faults h a name map_name at ≡ []
      → (array_or_first h a map_name < length h.tables.arrays)
      × ((array_at h.tables.arrays (array_or_first h a map_name)).extent ≡ layout_extent h.tables.layouts d)
  map_sound a name map_name at d is none = from (is_some-some (array_called h a map_name) some)
    where
      some : is_some (array_called h a map_name) ≡ true
      some = not_false (is_some (array_called h a map_name))
          (test_false (not (is_some (array_called h a map_name))) at (cause.Unknown map_name)
          (left_empty (array_unknown h a map_name at) _ none))

      second : (b c : Bool) → b ≡ true → (b && c) ≡ false → c ≡ false
      second true c f f' = f'
      second false c f f' = cc

      from : (k : ℕ) × (array_called h a map_name ≡ Some k)
          → (array_or_first h a map_name < length h.tables.arrays)
          × ((array_at h.tables.arrays (array_or_first h a map_name)).extent ≡ layout_extent h.tables.layouts d)
      from (k, same) =
          let first : k ≡ array_or_first h a map_name = sym (ap (λ (o : Option ℕ). unwrap_or o 0) same) in
          let other = second (is_some (array_called h a map_name)) (is_other_extent (meant_extent h (known h.scope.names a.here map_name))
          (meant_extent h (known h.scope.names a.here name))) some
          (test_false (is_some (array_called h a map_name) && is_other_extent (meant_extent h (known h.scope.names a.here map_name))
          (meant_extent h (known h.scope.names a.here name))) at cause.MapLength
          (right_empty (array_unknown h a map_name at) _ none)) in
          let equal : (array_at h.tables.arrays k).extent ≡ is.extent = one_extent (array_at h.tables.arrays k).extent is.extent
          (sym (ap (λ o. is_other_extent o (Some is.extent)) (array_meant map_name a.here k same))
          ∙ sym (ap (is_other_extent (meant_extent h (known h.scope.names a.here map_name))) is.extent_is) ∙ other) in (
            subst (λ n. n < length h.tables.arrays) first (array_known h g a map_name k same),
            subst (λ n. (array_at h.tables.arrays n).extent ≡ layout_extent h.tables.layouts d) first (equal ∙ sym is.whole),
          )

  one_is : IsExtent 1
  one_is = record { some = omega arith; most = omega arith }

  size_there : (o : Option ℕ) → IsSomeAnd o IsExtent → IsExtent (unwrap_or o 1)
  size_there None is = absurd is
  size_there (Some n) is = is

  form_sound : (a : Around) (name : List ℕ) (f : Form) (d : ℕ) → IsMeant h (known h.scope.names a.here name) d → form_faults h a name f ≡ []
      → IsFormOf h.tables.arrays h.tables.layouts d (form_resolved h a f)
  form_sound a name form.Block d is none = one_is
  form_sound a name form.Cyclic d is none = one_is
  form_sound a name (form.BlockCyclic size at) d is none =
      size_there (size_of h a size)
      (extent_valued at (scalar_within h.scope.names a.here size)
      (scalar_valued h.scope.names a.here h.loops (constant_in h.scope.arrays h.scope.layouts h.scope.names a.here g.scope.names) size
      (left_empty (scalar_faults h.scope.names a.here h.loops size) (bad_extent at (scalar_within h.scope.names a.here size)) none))
      (right_empty (scalar_faults h.scope.names a.here h.loops size) (bad_extent at (scalar_within h.scope.names a.here size)) none))
  form_sound a name (form.Map map_name map_at) d is none = map_sound a name map_name map_at d is none

  pub distribute_sound : (a : Around) (name : List ℕ) (name_at : SourcePlace) (f : Form) → distribute_faults h a name name_at f ≡ []
      → (unwrap_or (meant_decomposition h (known h.scope.names a.here name)) 0 < length h.tables.layouts)
      × IsFormOf h.tables.arrays h.tables.layouts (unwrap_or (meant_decomposition h (known h.scope.names a.here name)) 0)
      (form_resolved h a f)
  distribute_sound a name name_at f none =
      from (is_some-some (meant_decomposition h (known h.scope.names a.here name))
      (not_false _ (test_false (not (is_some (meant_decomposition h (known h.scope.names a.here name)))) name_at (cause.Unknown name)
      (left_empty _ (form_faults h a name f) none))))
    where
      from : (d : ℕ) × (meant_decomposition h (known h.scope.names a.here name) ≡ Some d)
          → (unwrap_or (meant_decomposition h (known h.scope.names a.here name)) 0 < length h.tables.layouts)
          × IsFormOf h.tables.arrays h.tables.layouts (unwrap_or (meant_decomposition h (known h.scope.names a.here name)) 0)
          (form_resolved h a f)
      from (d, e) =
          let is = meant name a.here d e in
          let first : d ≡ unwrap_or (meant_decomposition h (known h.scope.names a.here name)) 0 =
          sym (ap (λ (o : Option ℕ). unwrap_or o 0) e) in
          let fine = form_sound a name f d is
          (right_empty (fault_if (not (is_some (meant_decomposition h (known h.scope.names a.here name)))) name_at
          (cause.Unknown name)) (form_faults h a name f) none) in (
            subst (λ n. n < length h.tables.layouts) first is.within,
            subst (λ n. IsFormOf h.tables.arrays h.tables.layouts n (form_resolved h a f)) first fine,
          )
