-- The iterations at which a reference reaches an element of a node are the node's elements, each less the reference's shift.
use Rattle.std.specs.Prelude.{◌≡◌, refl, ℕ, zero, suc, ◌+◌, ℤ, pos, ◌+ℤ◌, ◌-ℤ◌, Bool, true, false, cond, ◌∷◌, map, filter}
use Rattle.std.specs.Prelude.{◌-◌, ◌≤ℤ◌, ◌==◌, Result, IfOk}
use Rattle.std.specs.List.{range_with_len}
use Rattle.std.proofs.Common.{ap, sym, ◌∙◌, arith, Ok, Err}
use Rattle.std.proofs.lemmas.Int.{ints}
use Rattle.chaos_dist.specs.Homes.{natural}
use Rattle.chaos_dist.specs.Layout.{owner_of}
use Rattle.chaos_dist.specs.declared.shape.Shape.{Shape}
use Rattle.fd_program.specs.Loops.{counted_from, count_between}
use Rattle.fd_program.specs.RangeLaws.{counted}
use Rattle.chaos_section.specs.Sections.{own_on, shift_of, stands}
use Rattle.chaos_section.specs.declared.section.SectionLoop.{SectionLoop}
use Rattle.chaos_section.specs.declared.section.SectionReference.{SectionReference}
use Rattle.chaos_section.proofs.Numbers.{natural_between}

pub filter-shifted : (p : ℕ → Bool) (shift z : ℤ) (g n : ℕ) → z +ℤ shift ≡ pos g
    → filter (λ i. p (natural (i +ℤ shift))) (counted_from z n) ≡ map (λ h. pos h -ℤ shift) (filter p (range_with_len g n))
filter-shifted p shift z g zero e = refl
filter-shifted p shift z g (suc n) e =
    let next : z +ℤ pos 1 +ℤ shift ≡ pos (g + 1) = omega (arith, ints, e) in
    let here : z ≡ pos g -ℤ shift = omega (arith, ints, e) in
    ap (λ y. cond (p (natural y)) (z ∷ filter (λ i. p (natural (i +ℤ shift))) (counted_from (z +ℤ pos 1) n))
    (filter (λ i. p (natural (i +ℤ shift))) (counted_from (z +ℤ pos 1) n))) e
    ∙ by (p g) here (filter-shifted p shift (z +ℤ pos 1) (g + 1) n next)
  where
    by : (b : Bool) → z ≡ pos g -ℤ shift
        → filter (λ i. p (natural (i +ℤ shift))) (counted_from (z +ℤ pos 1) n)
        ≡ map (λ h. pos h -ℤ shift) (filter p (range_with_len (g + 1) n))
        → cond b (z ∷ filter (λ i. p (natural (i +ℤ shift))) (counted_from (z +ℤ pos 1) n))
        (filter (λ i. p (natural (i +ℤ shift))) (counted_from (z +ℤ pos 1) n))
        ≡ map (λ h. pos h -ℤ shift) (cond b (g ∷ filter p (range_with_len (g + 1) n)) (filter p (range_with_len (g + 1) n)))
    by true here rest =
        ap (λ y. y ∷ filter (λ i. p (natural (i +ℤ shift))) (counted_from (z +ℤ pos 1) n)) here ∙ ap (λ l. (pos g -ℤ shift) ∷ l) rest
    by false here rest = rest

pub if_ok : {X E : Type 0} (P Q : X → Type 0) (r : Result X E) → ((x : X) → P x → Q x) → IfOk r P → IfOk r Q
if_ok P Q (Ok x) f h = f x h
if_ok P Q (Err e) f h = h

-- as the code has them: the elements of a node from the one at the first iteration to the one at the last
pub own-is : (l : SectionLoop) (me : ℕ) (r : SectionReference) (s : Shape) (e n first last : ℕ) (shift : ℤ) → s ≡ r.shape → e ≡ r.extent
    → n ≡ l.nodes → first ≡ stands r l.low → last ≡ stands r l.high → shift ≡ shift_of r → l.low ≤ℤ l.high
    → pos 1 ≤ℤ (l.low +ℤ shift_of r)
    → map (λ g. pos g -ℤ shift) (filter (λ g. owner_of s e n g == me) (range_with_len first (last + 1 - first))) ≡ own_on l me r
own-is l me r s e n first last shift es ee en ef el eh order least =
    let begin : l.low +ℤ shift_of r ≡ pos (stands r l.low) = sym (counted (l.low +ℤ shift_of r) (omega (arith, ints))) in
    ap (λ z. map (λ g. pos g -ℤ z) (filter (λ g. owner_of s e n g == me) (range_with_len first (last + 1 - first)))) eh
    ∙ ap (λ x. map (λ g. pos g -ℤ shift_of r) (filter (λ g. owner_of x e n g == me) (range_with_len first (last + 1 - first)))) es
    ∙ ap (λ x. map (λ g. pos g -ℤ shift_of r) (filter (λ g. owner_of r.shape x n g == me) (range_with_len first (last + 1 - first)))) ee
    ∙ ap (λ x. map (λ g. pos g -ℤ shift_of r) (filter (λ g. owner_of r.shape r.extent x g == me) (range_with_len first (last + 1 - first))))
    en
    ∙ ap (λ x. map (λ g. pos g -ℤ shift_of r) (filter (λ g. owner_of r.shape r.extent l.nodes g == me) (range_with_len x (last + 1 - x))))
    ef
    ∙ ap (λ x. map (λ g. pos g -ℤ shift_of r) (filter (λ g. owner_of r.shape r.extent l.nodes g == me) (range_with_len (stands r l.low)
    (x + 1 - stands r l.low)))) el
    ∙ ap (λ k. map (λ g. pos g -ℤ shift_of r) (filter (λ g. owner_of r.shape r.extent l.nodes g == me) (range_with_len (stands r l.low) k)))
    (natural_between l.low l.high (shift_of r) least order)
    ∙ sym (filter-shifted (λ g. owner_of r.shape r.extent l.nodes g == me) (shift_of r) l.low (stands r l.low) (count_between l.low l.high)
    begin)
