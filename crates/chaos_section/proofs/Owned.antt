-- Where homes go by most, a node executes only iterations at which it owns something.
use Rattle.std.specs.Prelude.{◌≡◌, ℕ, ◌<◌, ◌≤◌, ℤ, ◌+ℤ◌, ◌≤ℤ◌, ◌==◌, true, filter, length}
use Rattle.std.specs.List.{list_any}
use Rattle.std.proofs.Common.{ap, sym, ◌∙◌, subst}
use Rattle.std.proofs.lemmas.List.Elements.{recursion_from_All}
use Rattle.chaos_dist.specs.LayoutLaws.{owner_of-below}
use Rattle.fd_program.specs.ListLaws.{all_weaker}
use Rattle.chaos_section.specs.Sections.{IsSection, IsSectionReference, TellsHomes, home_by, home_on, owner_at, range_on, iterations_on}
use Rattle.chaos_section.specs.Sections.{shift_of}
use Rattle.chaos_section.specs.declared.section.SectionHomes.TheVariants.{Most}
use Rattle.chaos_section.specs.declared.section.SectionLoop.{SectionLoop}
use Rattle.chaos_section.specs.declared.section.SectionReference.{SectionReference}
use Rattle.chaos_section.proofs.Members.{filter-twice, range-all}
use Rattle.chaos_section.proofs.Mosts.{some_owned}
use Rattle.chaos_section.proofs.Numbers.{natural_bounds}

-- each owner is one of the nodes
pub owner_at-below : (nodes : ℕ) (low high : ℤ) (r : SectionReference) (i : ℤ) → 1 ≤ nodes → IsSectionReference low high r → low ≤ℤ i
    → i ≤ℤ high
    → owner_at nodes r i < nodes
owner_at-below nodes low high r i some h from to =
    let reaching = h.reaching i from to in
    let bounds = natural_bounds (i +ℤ shift_of r) r.extent reaching.first reaching.last in
    owner_of-below r.shape r.extent nodes _ some bounds.1 bounds.0

pub owned_by_most : (l : SectionLoop) (me : ℕ) → IsSection l → l.homes ≡ Most
    → filter (λ i. home_on l i == me) (filter (λ i. list_any (λ r. owner_at l.nodes r i == me) l.references) (range_on l))
    ≡ iterations_on l me
owned_by_most l me h is =
    let some : 1 ≤ length l.references = subst (TellsHomes l.low l.high l.references) is h.homes in
    filter-twice (λ i. home_on l i == me) (λ i. list_any (λ r. owner_at l.nodes r i == me) l.references) (range_on l)
    (range-all (λ i. (home_on l i == me) ≡ true → list_any (λ r. owner_at l.nodes r i == me) l.references ≡ true) l.low l.high
    (λ i from to e.
    some_owned (λ (r : SectionReference). owner_at l.nodes r i) l.nodes me l.references some
    (all_weaker (IsSectionReference l.low l.high) (λ r. owner_at l.nodes r i < l.nodes)
    (λ r k. owner_at-below l.nodes l.low l.high r i h.some k from to) l.references
    (recursion_from_All (IsSectionReference l.low l.high) l.references h.references))
    (sym (ap (λ x. home_by x l.nodes l.references i == me) is) ∙ e)))
