-- The references of a section at an iteration, as facts and owners have them.
use Rattle.std.specs.Prelude.{◌≡◌, refl, ℕ, ◌+◌, ◌<◌, ◌≤◌, ◌^◌, ℤ, pos, ◌+ℤ◌, ◌≤ℤ◌, Bool, true, false, not, ◌&&◌}
use Rattle.std.specs.Prelude.{if◌then◌else◌, cond, List, [], ◌∷◌, ◌++◌, map, filter, flat_map, unwrap_or, Option, Some, None}
use Rattle.std.specs.List.{AllZip, list_all}
use Rattle.std.proofs.Common.{ap, sym, ◌∙◌, subst, arith}
use Rattle.std.proofs.lemmas.Int.{ints}
use Rattle.chaos_dist.specs.Homes.{natural}
use Rattle.chaos_dist.specs.Layout.{given_size}
use Rattle.chaos_dist.specs.Owners.{owner_in, local_in, regular_owners}
use Rattle.chaos_dist.specs.OwnersLaws.{owner_in-regular, local_in-regular}
use Rattle.chaos_dist.specs.declared.step_form.StepForm.{StepForm}
use Rattle.chaos_dist.specs.declared.step_form.StepForm.TheVariants.{Regular, Map}
use Rattle.fd_words.specs.Lists.{list_at}
use Rattle.fd_words.specs.Roles.{is_index, is_target}
use Rattle.fd_words.specs.declared.place.Role.{Role}
use Rattle.fd_words.specs.declared.place.Role.TheVariants.{Index, Read, Target}
use Rattle.fd_program.specs.Homes.{owner_met, uses_at}
use Rattle.fd_program.specs.Met.{is_map, layout_for, local_met}
use Rattle.fd_program.specs.Places.{decomposition_of}
use Rattle.fd_program.specs.Stores.{array_at, number_at}
use Rattle.fd_program.specs.Uses.{is_met, is_plain, read_of, subscript_of, use_of, uses_from, index_value}
use Rattle.fd_program.specs.declared.loop_facts.LoopFacts.{LoopFacts}
use Rattle.fd_program.specs.declared.loop_use.Use.{Use}
use Rattle.fd_program.specs.declared.reference.CheckedSubscript.{CheckedSubscript}
use Rattle.fd_program.specs.declared.reference.CheckedSubscript.TheVariants.{Plain, Through, Twice, Scalar}
use Rattle.fd_program.specs.declared.reference.Reference.{Reference}
use Rattle.inspect_uses.specs.Accepted.{AreOwners, IsAccepted, IsDealt, IsDealtBy}
use Rattle.inspect_uses.specs.Standing.{natural_bounds, standing, within}
use Rattle.plan_loop.specs.LoopLetters.{iteration_row}
use Rattle.chaos_section.specs.Sections.{IsReaching, local_at, owner_at, role_of, shift_of, stands}
use Rattle.chaos_section.specs.declared.section.SectionReference.{SectionReference}
use Rattle.section_laws.specs.SectionLoops.{is_section, is_sectional, section_references, shape_in}

-- ---- what a test of a reference tells

both : (a b : Bool) → (a && b) ≡ true → (a ≡ true) × (b ≡ true)
both true b e = (refl, e)
both false b e = absurd (let h : false ≡ true = e in cc)

-- what a section's reference is
record IsPlainReference (f : LoopFacts) (r : Reference) : Type 0 where
  no_index : not (is_index r.role) ≡ true
  plain : is_plain r.subscript ≡ true
  regular : not (is_map (layout_for f r.array).form) ≡ true

plain_reference : (f : LoopFacts) (r : Reference) → is_sectional f r ≡ true → IsPlainReference f r
plain_reference f r e =
    let parts = both (not (is_index r.role) && is_plain r.subscript) _ e in
    let first = both (not (is_index r.role)) (is_plain r.subscript) parts.0 in
    record { no_index = first.0; plain = first.1; regular = parts.1 }

regular_form : (form : StepForm) → not (is_map form) ≡ true → form ≡ Regular (shape_in form)
regular_form (Regular shape) e = refl
regular_form (Map array) e = absurd (let h : false ≡ true = e in cc)

role_told : (role : Role) → not (is_index role) ≡ true → (if is_target role then Target else Read) ≡ role
role_told Index e = absurd (let h : false ≡ true = e in cc)
role_told Read e = refl
role_told Target e = refl

plain_told : (s : CheckedSubscript) (i add : ℤ) (before : Option ℤ) → is_plain s ≡ true → subscript_of s i add before ≡ Some (i +ℤ add)
plain_told (Plain terms) i add before e = refl
plain_told (Through index_array at inner_add terms) i add before e = absurd (let h : false ≡ true = e in cc)
plain_told (Twice outer at inner inner_at first_add second_add terms) i add before e = absurd (let h : false ≡ true = e in cc)
plain_told (Scalar scalar) i add before e = absurd (let h : false ≡ true = e in cc)

-- ---- a reference and what it is at iteration i

pub record IsUseOf (f : LoopFacts) (i : ℤ) (s : SectionReference) (u : Use) : Type 0 where
  pub role : role_of s ≡ u.role
  pub no_index : not (is_index u.role) ≡ true
  pub array : u.array ≡ s.array
  pub subscript : u.subscript ≡ i +ℤ s.add
  pub offset : s.offset ≡ (array_at f.arrays u.array).offset
  pub extent : s.extent ≡ (layout_for f u.array).extent
  pub form : (layout_for f u.array).form ≡ Regular s.shape

uses_zip : (f : LoopFacts) (store : List (List ℤ)) (i : ℤ) (place : ℕ) (before : Option ℤ) (rs : List Reference)
    → list_all (is_sectional f) rs ≡ true
    → AllZip (IsUseOf f i) (section_references f place rs) (uses_from f.arrays f.turn.adds store i place before rs)
uses_zip f store i place before [] e = tt
uses_zip f store i place before (r ∷ rs) e =
    let parts = both (is_sectional f r) (list_all (is_sectional f) rs) e in
    let is = plain_reference f r parts.0 in
    let told = plain_told r.subscript i (number_at f.turn.adds place) before is.plain in
    let u = use_of r i (place + 1) (subscript_of r.subscript i (number_at f.turn.adds place) before) in (
      record {
        role = role_told r.role is.no_index;
        no_index = is.no_index;
        array = refl;
        subscript = ap (λ o. unwrap_or o (pos 0)) told;
        offset = refl;
        extent = refl;
        form = regular_form (layout_for f r.array).form is.regular;
      },
      uses_zip f store i (place + 1) (index_value f.arrays store u) rs parts.1,
    )

pub uses_of_section : (f : LoopFacts) (store : List (List ℤ)) (i : ℤ) → is_section f ≡ true
    → AllZip (IsUseOf f i) (section_references f 0 f.site.references) (uses_at f store i)
uses_of_section f store i e = uses_zip f store i 0 None f.site.references e

-- ---- rows

no_rows : (f : LoopFacts) (i : ℤ) (ss : List SectionReference) (us : List Use) → AllZip (IsUseOf f i) ss us
    → filter (λ u. is_index u.role) us ≡ []
no_rows f i [] [] h = refl
no_rows f i [] (u ∷ us) h = absurd h
no_rows f i (s ∷ ss) [] h = absurd h
no_rows f i (s ∷ ss) (u ∷ us) h = by (is_index u.role) h.0.no_index (no_rows f i ss us h.1)
  where
    by : (b : Bool) → not b ≡ true → filter (λ v. is_index v.role) us ≡ []
        → cond b (u ∷ filter (λ v. is_index v.role) us) (filter (λ v. is_index v.role) us) ≡ []
    by true e rest = absurd (let k : false ≡ true = e in cc)
    by false e rest = rest

pub section_rows : (f : LoopFacts) (store : List (List ℤ)) (iterations : List ℤ) → is_section f ≡ true
    → flat_map (iteration_row f store) iterations ≡ iterations
section_rows f store [] e = refl
section_rows f store (i ∷ is) e =
    ap (λ us. (i ∷ map (read_of store) us) ++ flat_map (iteration_row f store) is)
    (no_rows f i (section_references f 0 f.site.references) (uses_at f store i) (uses_of_section f store i e))
    ∙ ap (λ l. i ∷ l) (section_rows f store is e)

-- ---- owners

-- where a reference is met, it reaches an element of its decomposition, whose place the formula tells
pub record IsTold (f : LoopFacts) (owners : List (List ℕ)) (i : ℤ) (s : SectionReference) (u : Use) : Type 0 where
  pub is_use : IsUseOf f i s u
  pub first : pos 1 ≤ℤ u.subscript
  pub reaching : IsReaching s i
  pub owner : owner_met f owners u ≡ owner_at f.nodes s i
  pub local : local_met f owners u ≡ local_at f.nodes s i
  pub extent : s.extent < 2 ^ 63
  pub dealt : 1 ≤ given_size s.shape

pub told : (f : LoopFacts) (owners : List (List ℕ)) (i : ℤ) (s : SectionReference) (u : Use) → IsAccepted f → AreOwners f owners
    → IsUseOf f i s u → is_met f.arrays u ≡ true → IsTold f owners i s u
told f owners i s u accepted owned is met =
    let at = standing f accepted u met in
    let inside = within f u met in
    let own = owned (decomposition_of f.arrays u.array) at.decomposition in
    let list : List ℕ = list_at owners (decomposition_of f.arrays u.array) in
    let offset = (array_at f.arrays u.array).offset in
    let z : u.subscript +ℤ offset ≡ i +ℤ shift_of s = omega (arith, ints, is.subscript, is.offset) in
    let first : pos 1 ≤ℤ (i +ℤ shift_of s) = omega (arith, ints, z, at.first) in
    let last : (i +ℤ shift_of s) ≤ℤ pos s.extent = omega (arith, ints, z, at.last, is.extent) in
    let bounds = natural_bounds (i +ℤ shift_of s) s.extent first last in
    let dealt : list ≡ regular_owners s.shape s.extent f.nodes =
    subst (λ form. IsDealtBy form s.extent f.nodes list) is.form
    (subst (λ e. IsDealtBy (layout_for f u.array).form e f.nodes list) (sym is.extent) own.form) in
    let size : 1 ≤ given_size s.shape = subst IsDealt is.form at.layout.form in
    record {
      is_use = is;
      first = inside.first;
      reaching = record {
        first = first;
        last = last;
        named = omega (arith, ints, is.subscript, inside.first);
        small = omega (arith, ints, is.subscript, at.subscript_last);
      };
      owner = ap (λ y. owner_in list (natural y)) z ∙ ap (λ o. owner_in o (stands s i)) dealt
          ∙ owner_in-regular s.shape s.extent f.nodes (stands s i) bounds.0 bounds.1;
      local = ap (λ y. local_in list (natural y)) z ∙ ap (λ o. local_in o (stands s i)) dealt
          ∙ local_in-regular s.shape s.extent f.nodes (stands s i) bounds.0 bounds.1;
      extent = omega (arith, at.most, is.extent);
      dealt = size;
    }
