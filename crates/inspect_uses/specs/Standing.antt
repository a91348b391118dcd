-- Where the element stands that a reference reaches whose array has it.
use Rattle.std.proofs.Common.{◌≡◌, ℕ, ◌≤◌, ◌<◌, ℤ, pos, negsuc, ◌+ℤ◌, ◌≤ℤ◌, Bool, true, false, length, Option, refl, ap, sym, subst, arith}
use Rattle.std.proofs.Common.{inl, inr}
use Rattle.std.specs.Prelude.{◌&&◌, int_le, slice_get, unwrap_or}
use Rattle.std.proofs.lemmas.Bool.{cases_lt}
use Rattle.std.proofs.lemmas.Bool.Decides.{nat_tests}
use Rattle.std.proofs.lemmas.Int.{ints}
use Rattle.std.proofs.lemmas.Option.{unwrap_or-slice_get, slice_get_past}
use Rattle.chaos_dist.specs.Homes.{natural}
use Rattle.fd_program.specs.Places.{decomposition_of}
use Rattle.fd_program.specs.Stores.{array_at, no_array}
use Rattle.fd_program.specs.Uses.{is_met}
use Rattle.fd_program.specs.declared.array.ArrayFacts.{ArrayFacts}
use Rattle.fd_program.specs.declared.loop_facts.LoopFacts.{LoopFacts}
use Rattle.fd_program.specs.declared.loop_use.Use.{Use}
use Rattle.fd_program.specs.Met.{layout_for, no_layout}
use Rattle.inspect_uses.specs.Accepted.{IsAccepted, IsLaidOut, IsLayout}

both : (a b : Bool) → (a && b) ≡ true → (a ≡ true) × (b ≡ true)
both true b e = (refl, e)
both false b e = cc

from_le : (a b : ℤ) → int_le a b ≡ true → a ≤ℤ b
from_le a b e = grind (arith, ints, nat_tests)

-- an element of its array
pub record IsWithin (extent : ℕ) (z : ℤ) : Type 0 where
  pub first : pos 1 ≤ℤ z
  pub last : z ≤ℤ pos extent

pub within : (f : LoopFacts) (u : Use) → is_met f.arrays u ≡ true → IsWithin (array_at f.arrays u.array).extent u.subscript
within f u e =
    let inside = both (int_le (pos 1) u.subscript) (int_le u.subscript (pos (array_at f.arrays u.array).extent)) (both u.defined _ e).1 in
    record { first = from_le _ _ inside.0; last = from_le _ _ inside.1 }

there : (f : LoopFacts) (u : Use) → IsWithin (array_at f.arrays u.array).extent u.subscript → u.array < length f.arrays
there f u h = elim (cases_lt u.array (length f.arrays)) [
  | inl less ↦ less
  | inr past ↦
      let none : (array_at f.arrays u.array).extent ≡ 0 =
      ap (λ (o : Option ArrayFacts). (unwrap_or o no_array).extent) (slice_get_past f.arrays u.array past) in
      let first : pos 1 ≤ℤ u.subscript = h.first in
      let last : u.subscript ≤ℤ pos 0 = subst (λ n. u.subscript ≤ℤ pos n) none h.last in
      absurd (omega (arith, ints, first, last))
]

laid : (f : LoopFacts) → IsAccepted f → (array : ℕ) → array < length f.arrays → IsLaidOut f.layouts (array_at f.arrays array)
laid f h array less = subst (IsLaidOut f.layouts) (sym (unwrap_or-slice_get f.arrays array no_array)) (h.arrays array no_array less)

layout_there : (f : LoopFacts) → IsAccepted f → (d : ℕ) → d < length f.layouts → IsLayout (unwrap_or (slice_get f.layouts d) no_layout)
layout_there f h d less = subst IsLayout (sym (unwrap_or-slice_get f.layouts d no_layout)) (h.layouts d no_layout less)

-- what is known of a met reference: its array and layout are there, and its element stands within the layout
pub record IsStanding (f : LoopFacts) (u : Use) : Type 0 where
  pub array : u.array < length f.arrays
  pub decomposition : decomposition_of f.arrays u.array < length f.layouts
  pub layout : IsLayout (layout_for f u.array)
  pub subscript_first : pos 0 ≤ℤ u.subscript
  pub subscript_last : u.subscript ≤ℤ pos 1048576
  pub first : pos 1 ≤ℤ (u.subscript +ℤ (array_at f.arrays u.array).offset)
  pub last : (u.subscript +ℤ (array_at f.arrays u.array).offset) ≤ℤ pos (layout_for f u.array).extent
  pub most : (layout_for f u.array).extent ≤ 1048576

pub standing : (f : LoopFacts) → IsAccepted f → (u : Use) → is_met f.arrays u ≡ true → IsStanding f u
standing f h u e =
    let inside = within f u e in
    let array : u.array < length f.arrays = there f u inside in
    let a = laid f h u.array array in
    let layout = layout_there f h (decomposition_of f.arrays u.array) a.decomposition in
    let first : pos 1 ≤ℤ u.subscript = inside.first in
    let last : u.subscript ≤ℤ pos (array_at f.arrays u.array).extent = inside.last in
    let offset : pos 0 ≤ℤ (array_at f.arrays u.array).offset = a.first in
    let fits : (pos (array_at f.arrays u.array).extent +ℤ (array_at f.arrays u.array).offset) ≤ℤ pos (layout_for f u.array).extent =
    a.last in
    let most : (array_at f.arrays u.array).extent ≤ 1048576 = a.extent.most in
    record {
      array = array;
      decomposition = a.decomposition;
      layout = layout;
      subscript_first = omega (arith, ints, first);
      subscript_last = omega (arith, ints, last, most);
      first = omega (arith, ints, first, offset);
      last = omega (arith, ints, last, fits);
      most = layout.extent.most;
    }

-- a number that isn't negative
pub natural_bounds : (z : ℤ) (n : ℕ) → pos 1 ≤ℤ z → z ≤ℤ pos n → (1 ≤ natural z) × (natural z ≤ n)
natural_bounds (pos m) n low high = (omega (arith, ints, low), omega (arith, ints, high))
natural_bounds (negsuc m) n low high = absurd (omega (arith, ints, low))
