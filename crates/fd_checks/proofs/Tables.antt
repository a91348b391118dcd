-- The tables of arrays and decompositions of an accepted program.
use Rattle.std.proofs.Common.{◌≡◌, refl, ℕ, zero, suc, ◌≤◌, ◌<◌, ◌+◌, ◌-◌, ℤ, pos, ◌+ℤ◌, ◌≤ℤ◌, Bool, true, false, if◌then◌else◌, arith}
use Rattle.std.proofs.Common.{List, [], ◌∷◌, ◌++◌, length, length-append, get_or, map, Option, Some, None, ap, sym, ◌∙◌, subst}
use Rattle.std.proofs.Common.{append_assoc}
use Rattle.std.specs.Prelude.{All, fold, slice_get, unwrap_or, IsSomeAnd}
use Rattle.std.specs.List.{AllZip}
use Rattle.std.specs.Option.{option_map, option_map_or}
use Rattle.std.proofs.lemmas.Int.{ints}
use Rattle.std.proofs.lemmas.List.{append-nil, length-map}
use Rattle.std.proofs.lemmas.List.Elements.{All-push, All-weaker, All-map, All-head, All-tail}
use Rattle.std.proofs.lemmas.Option.{slice_get-map, slice_get_within, slice_get-get_or}
use Rattle.fd_words.specs.declared.source.SourcePlace.{SourcePlace}
use Rattle.fd_syntax.specs.declared.program.Program.{Program}
use Rattle.fd_program.specs.Checks.{IsExtent, IsAligned, layout_extent}
use Rattle.fd_program.specs.Places.{decomposition_of}
use Rattle.fd_program.specs.Stores.{no_array}
use Rattle.fd_program.specs.declared.array.ArrayFacts.{ArrayFacts}
use Rattle.fd_program.specs.declared.array.LayoutName.{LayoutName}
use Rattle.fd_scope.specs.declared.head.Head.{Head}
use Rattle.fd_scope.specs.declared.names.Known.{Known}
use Rattle.fd_scope.specs.declared.scope.Alignment.{Alignment}
use Rattle.fd_scope.specs.declared.scope.ArrayEntry.{ArrayEntry}
use Rattle.fd_scope.specs.declared.scope.LayoutEntry.{LayoutEntry}
use Rattle.fd_scope.specs.declared.scope.Scope.{Scope}
use Rattle.fd_scope.specs.declared.scope.Tables.{Tables}
use Rattle.fd_scope.specs.Heads.{layout_of, own_layout, array_facts, entered, after_entry, tables_of, head_of, head_faults}
use Rattle.fd_scope.specs.Names.{found, is_earlier, declared_before, known, as_array}
use Rattle.fd_scope.specs.Scope as scopes
use Rattle.fd_resolve.specs.declared.around.Around.{Around}
use Rattle.fd_resolve.specs.Resolve.{array_called}
use Rattle.fd_checks.proofs.Accepted.{slice_get-front, slice_get-last}
use Rattle.fd_program.specs.AmongLaws.{zip_weaker}
use Rattle.fd_checks.proofs.Bodies.{zip_push}
use Rattle.fd_checks.proofs.Scopes.{IsEntry, IsSized, IsStanding, Stands, IsSoundScope, array_in, declared_sound}

-- the facts of an array are those of its declaration; where it isn't aligned, its decomposition has its extent
pub record IsFactsOf (layouts : List LayoutName) (a : ArrayFacts) (e : ArrayEntry) : Type 0 where
  pub name : a.name ≡ e.name
  pub extent : e.extent ≡ Some a.extent
  pub aligned : IsAligned layouts a
  pub own : e.aligned ≡ None → layout_extent layouts a.decomposition ≡ a.extent

-- the decomposition with this number has this extent
pub record HasLayout (layouts : List LayoutName) (d w : ℕ) : Type 0 where
  pub layout : LayoutName
  pub there : slice_get layouts d ≡ Some layout
  pub extent : layout.extent ≡ w

pub record AreTables (scope : Scope) (t : Tables) (done : List ArrayEntry) : Type 0 where
  pub arrays : AllZip (IsFactsOf t.layouts) t.arrays done
  pub layouts : All (λ (l : LayoutName). IsExtent l.extent) t.layouts
  pub count : length t.layouts ≤ length scope.layouts + length done
  pub front : (d w : ℕ) → scopes.entry_extent_of scope.layouts (Some d) ≡ Some w → HasLayout t.layouts d w

pub extent_at : (layouts : List LayoutName) (d w : ℕ) → HasLayout layouts d w → layout_extent layouts d ≡ w
extent_at layouts d w has = ap (λ (o : Option LayoutName). option_map_or (λ (l : LayoutName). l.extent) o 0) has.there ∙ has.extent

layout_later : (layouts more : List LayoutName) (d : ℕ) → d < length layouts → layout_extent (layouts ++ more) d ≡ layout_extent layouts d
layout_later [] more d within = absurd (omega arith)
layout_later (l ∷ ls) more zero within = refl
layout_later (l ∷ ls) more (suc d) within = layout_later ls more d (omega arith)

aligned_later : (layouts more : List LayoutName) (a : ArrayFacts) → IsAligned layouts a → IsAligned (layouts ++ more) a
aligned_later layouts more a is = let d : a.decomposition < length layouts = is.decomposition in record {
  extent = is.extent;
  decomposition = omega (arith, length-append layouts more);
  first = is.first;
  last = subst (λ w. (pos a.extent +ℤ a.offset) ≤ℤ pos w) (sym (layout_later layouts more a.decomposition d)) is.last;
}

facts_later : (layouts more : List LayoutName) (a : ArrayFacts) (e : ArrayEntry) → IsFactsOf layouts a e → IsFactsOf (layouts ++ more) a e
facts_later layouts more a e is = record {
  name = is.name;
  extent = is.extent;
  aligned = aligned_later layouts more a is.aligned;
  own = λ none. layout_later layouts more a.decomposition is.aligned.decomposition ∙ is.own none;
}

extent_of_some : (o : Option ℕ) → IsSomeAnd o IsExtent → (o ≡ Some (unwrap_or o 0)) × IsExtent (unwrap_or o 0)
extent_of_some None is = absurd is
extent_of_some (Some n) is = (refl, is)

module _ (scope : Scope) where
  entered_own : (t : Tables) (done : List ArrayEntry) (e : ArrayEntry) → AreTables scope t done → IsEntry scope.layouts e
      → e.aligned ≡ None → AreTables scope (entered t e None) (done ++ e ∷ [])
  entered_own t done e g is none =
      let own = own_layout e in
      let some = extent_of_some e.extent is.extent in
      let layouts = t.layouts ++ own ∷ [] in
      let whole : layout_extent (t.layouts ++ own ∷ []) (length t.layouts) ≡ own.extent =
      ap (λ (o : Option LayoutName). option_map_or (λ (l : LayoutName). l.extent) o 0) (slice_get-last t.layouts own) in
      let count : length t.layouts ≤ length scope.layouts + length done = g.count in
      record {
        arrays = zip_push (IsFactsOf layouts) t.arrays done (array_facts e (length t.layouts) (pos 0)) e
            (zip_weaker (IsFactsOf t.layouts) (IsFactsOf layouts) (facts_later t.layouts (own ∷ [])) t.arrays done g.arrays)
            (record {
              name = refl;
              extent = some.0;
              aligned = record {
                extent = some.1;
                decomposition = omega (arith, length-append t.layouts (own ∷ []));
                first = omega (arith, ints);
                last = subst (λ w. (pos (unwrap_or e.extent 0) +ℤ pos 0) ≤ℤ pos w) (sym whole) (omega (arith, ints));
              };
              own = λ same. whole;
            });
        layouts = All-push (λ (l : LayoutName). IsExtent l.extent) t.layouts own g.layouts some.1;
        count = omega (arith, length-append t.layouts (own ∷ []), length-append done (e ∷ []));
        front = λ d w f. let has = g.front d w f in
            record { layout = has.layout; there = slice_get-front t.layouts (own ∷ []) d has.layout has.there; extent = has.extent };
      }

  entered_aligned : (t : Tables) (done : List ArrayEntry) (e : ArrayEntry) (to : Alignment) → AreTables scope t done
      → IsEntry scope.layouts e → e.aligned ≡ Some to → IsStanding scope.layouts e.extent to
      → AreTables scope (entered t e (Some to)) (done ++ e ∷ [])
  entered_aligned t done e to g is is_to stands =
      let some = extent_of_some e.extent is.extent in
      let has = g.front stands.decomposition stands.whole stands.whole_is in
      let d : unwrap_or to.decomposition 0 ≡ stands.decomposition = ap (λ (o : Option ℕ). unwrap_or o 0) stands.decomposition_is in
      let o : unwrap_or to.offset (pos 0) ≡ stands.offset = ap (λ (o : Option ℤ). unwrap_or o (pos 0)) stands.offset_is in
      let n : unwrap_or e.extent 0 ≡ stands.size = ap (λ (o : Option ℕ). unwrap_or o 0) stands.size_is in
      let w : layout_extent t.layouts (unwrap_or to.decomposition 0) ≡ stands.whole = ap (layout_extent t.layouts) d
      ∙ extent_at t.layouts stands.decomposition stands.whole has in
      let count : length t.layouts ≤ length scope.layouts + length done = g.count in
      record {
        arrays = zip_push (IsFactsOf t.layouts) t.arrays done (array_facts e (unwrap_or to.decomposition 0) (unwrap_or to.offset (pos 0))) e
            g.arrays
            (record {
              name = refl;
              extent = some.0;
              aligned = record {
                extent = some.1;
                decomposition = subst (λ k. k < length t.layouts) (sym d) (slice_get_within t.layouts stands.decomposition has.layout
                    has.there);
                first = subst (λ z. pos 0 ≤ℤ z) (sym o) stands.first;
                last = subst (λ k. (pos k +ℤ unwrap_or to.offset (pos 0)) ≤ℤ pos (layout_extent t.layouts (unwrap_or to.decomposition 0)))
                    (sym n)
                    (subst (λ z. (pos stands.size +ℤ z) ≤ℤ pos (layout_extent t.layouts (unwrap_or to.decomposition 0))) (sym o)
                    (subst (λ k. (pos stands.size +ℤ stands.offset) ≤ℤ pos k) (sym w) stands.last));
              };
              own = λ none. apart (sym none ∙ is_to);
            });
        layouts = g.layouts;
        count = omega (arith, length-append done (e ∷ []));
        front = g.front;
      }
    where
      apart : None ≡ Some to → layout_extent t.layouts (unwrap_or to.decomposition 0) ≡ unwrap_or e.extent 0
      apart f = cc

  entry_entered : (t : Tables) (done : List ArrayEntry) (e : ArrayEntry) → AreTables scope t done → IsEntry scope.layouts e
      → AreTables scope (after_entry t e) (done ++ e ∷ [])
  entry_entered t done e g is = by_aligned e.aligned refl is.stands
    where
      by_aligned : (o : Option Alignment) → e.aligned ≡ o → Stands scope.layouts e.extent o
          → AreTables scope (entered t e o) (done ++ e ∷ [])
      by_aligned None same stands = entered_own t done e g is same
      by_aligned (Some to) same stands = entered_aligned t done e to g is same stands

  all_entered : (rest : List ArrayEntry) (t : Tables) (done : List ArrayEntry) → AreTables scope t done → All (IsEntry scope.layouts) rest
      → AreTables scope (fold after_entry t rest) (done ++ rest)
  all_entered [] t done g is = subst (AreTables scope t) (sym (append-nil done)) g
  all_entered (e ∷ rest) t done g is =
      subst (AreTables scope (fold after_entry (after_entry t e) rest)) (append_assoc done (e ∷ []) rest)
      (all_entered rest (after_entry t e) (done ++ e ∷ []) (entry_entered t done e g (All-head (IsEntry scope.layouts) e rest is))
      (All-tail (IsEntry scope.layouts) e rest is))

  entry_of : (o : Option LayoutEntry) (w : ℕ) → scopes.entry_extent o ≡ Some w → (e : LayoutEntry) × (o ≡ Some e) × (e.extent ≡ Some w)
  entry_of None w f = cc
  entry_of (Some e) w f = (e, refl, f)

  start_tables : IsSoundScope scope → AreTables scope (record { arrays = []; layouts = map layout_of scope.layouts }) []
  start_tables g = record {
    arrays = tt;
    layouts = All-map (λ (l : LayoutName). IsExtent l.extent) layout_of scope.layouts
        (All-weaker IsSized (λ (e : LayoutEntry). IsExtent (layout_of e).extent) (λ e is. (extent_of_some e.extent is).1) scope.layouts
        g.layouts);
    count = omega (arith, length-map scope.layouts layout_of);
    front = λ d w f. from d w (entry_of (slice_get scope.layouts d) w f);
  }
    where
      from : (d w : ℕ) → (e : LayoutEntry) × (slice_get scope.layouts d ≡ Some e) × (e.extent ≡ Some w)
          → HasLayout (map layout_of scope.layouts) d w
      from d w (e, there, is) = record {
        layout = layout_of e;
        there = slice_get-map layout_of scope.layouts d ∙ ap (option_map layout_of) there;
        extent = ap (λ (o : Option ℕ). unwrap_or o 0) is;
      }

  pub tables_sound : IsSoundScope scope → AreTables scope (tables_of scope) scope.arrays
  tables_sound g = all_entered scope.arrays (record { arrays = []; layouts = map layout_of scope.layouts }) [] (start_tables g) g.arrays

-- ---- the head of an accepted program

pub record IsSoundHead (h : Head) : Type 0 where
  pub scope : IsSoundScope h.scope
  pub tables : AreTables h.scope h.tables h.scope.arrays

pub head_sound : (p : Program) → head_faults p ≡ [] → IsSoundHead (head_of p)
head_sound p none =
    let g = declared_sound (head_of p).loops p.declarations none in
    record { scope = g; tables = tables_sound (head_of p).scope g }

declared_name : (names : List (List ℕ × Known)) (here : SourcePlace) (q : List ℕ) (n : ℕ) → as_array (known names here q) ≡ Some n
    → as_array (found names q) ≡ Some n
declared_name names here q n e = by_found (found names q) e
  where
    by_test : (b : Bool) (k : Known) → as_array (if b then Some k else None) ≡ Some n → as_array (Some k) ≡ Some n
    by_test true k f = f
    by_test false k f = cc

    by_found : (o : Option Known) → as_array (declared_before here o) ≡ Some n → as_array o ≡ Some n
    by_found None f = f
    by_found (Some k) f = by_test (is_earlier k.at here) k f

-- along two lists of one length
pub zip_there : (layouts : List LayoutName) (facts : List ArrayFacts) (entries : List ArrayEntry)
    → AllZip (IsFactsOf layouts) facts entries → (n : ℕ) (P : ArrayEntry → Type 0)
    → IsSomeAnd (slice_get entries n) P → (a : ArrayFacts) × (e : ArrayEntry) × (slice_get facts n ≡ Some a)
    × (slice_get entries n ≡ Some e) × IsFactsOf layouts a e × P e
zip_there layouts [] [] z n P is = absurd is
zip_there layouts [] (e ∷ es) z n P is = absurd z
zip_there layouts (a ∷ as') [] z n P is = absurd is
zip_there layouts (a ∷ as') (e ∷ es) z zero P is = (a, e, refl, refl, z.0, is)
zip_there layouts (a ∷ as') (e ∷ es) z (suc n) P is = zip_there layouts as' es z.1 n P is

module _ (h : Head) (g : IsSoundHead h) (a : Around) where
  facts_there : (q : List ℕ) (n : ℕ) → array_called h a q ≡ Some n → (f : ArrayFacts) × (e : ArrayEntry)
      × (slice_get h.tables.arrays n ≡ Some f) × (slice_get h.scope.arrays n ≡ Some e) × IsFactsOf h.tables.layouts f e × (e.name ≡ q)
  facts_there q n e = zip_there h.tables.layouts h.tables.arrays h.scope.arrays g.tables.arrays n (λ (x : ArrayEntry). x.name ≡ q)
      (array_in h.scope g.scope q n (declared_name h.scope.names a.here q n e))

  pub array_known : (q : List ℕ) (n : ℕ) → array_called h a q ≡ Some n → n < length h.tables.arrays
  array_known q n e = let t = facts_there q n e in slice_get_within h.tables.arrays n t.0 t.2

  -- an array has one name
  pub one_name : (q r : List ℕ) (n : ℕ) → array_called h a q ≡ Some n → array_called h a r ≡ Some n → q ≡ r
  one_name q r n e f =
      let t = facts_there q n e in
      let u = facts_there r n f in
      let same : t.1 ≡ u.1 = some_same t.1 u.1 (sym t.3 ∙ u.3) in
      sym t.5 ∙ ap (λ (x : ArrayEntry). x.name) same ∙ u.5
    where
      some_same : (x y : ArrayEntry) → Some x ≡ Some y → x ≡ y
      some_same x y s = cc

zip_all : (layouts : List LayoutName) (facts : List ArrayFacts) (entries : List ArrayEntry) → AllZip (IsFactsOf layouts) facts entries
    → (n : ℕ) (f : ArrayFacts) → slice_get facts n ≡ Some f → IsAligned layouts f
zip_all layouts [] entries z n f e = cc
zip_all layouts (a ∷ as') [] z n f e = absurd z
zip_all layouts (a ∷ as') (x ∷ xs) z zero f e = subst (IsAligned layouts) (same e) z.0.aligned
  where
    same : Some a ≡ Some f → a ≡ f
    same s = cc
zip_all layouts (a ∷ as') (x ∷ xs) z (suc n) f e = zip_all layouts as' xs z.1 n f e

pub placed : (h : Head) → IsSoundHead h → (n : ℕ) → n < length h.tables.arrays → decomposition_of h.tables.arrays n
    < length h.tables.layouts
placed h g n within =
    let there = slice_get-get_or h.tables.arrays n no_array within in
    subst (λ (x : ArrayFacts). x.decomposition < length h.tables.layouts) (sym (ap (λ (o : Option ArrayFacts). unwrap_or o no_array) there))
    (zip_all h.tables.layouts h.tables.arrays h.scope.arrays g.tables.arrays n (get_or h.tables.arrays n no_array) there).decomposition

pub all_aligned : (h : Head) → IsSoundHead h → All (IsAligned h.tables.layouts) h.tables.arrays
all_aligned h g = λ k d within. zip_all h.tables.layouts h.tables.arrays h.scope.arrays g.tables.arrays k (get_or h.tables.arrays k d)
    (slice_get-get_or h.tables.arrays k d within)
