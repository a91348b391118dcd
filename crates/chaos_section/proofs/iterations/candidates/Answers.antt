use Rattle.std.proofs.Common.{◌==◌, ap, ◌∙◌}
use Rattle.std.specs.List.{flat_map}
use Rattle.std.specs.Ordering.{int_cmp}
use Rattle.list_laws.specs.Order.{ascending}
use Rattle.chaos_section.specs.Sections.{own_on, owner_at}
use Rattle.chaos_section.specs.declared.section.SectionReference.{SectionReference}
use Rattle.chaos_section.proofs.Members.{ascending-tests}
use Rattle.chaos_section.proofs.iterations.candidates.Goals as goal

pub returns : goal.returns
returns c =
    let l = c.args.facts.now in
    c.from_vec.ensures ∙ c.ascend.ensures
    ∙ ap (ascending int_cmp) (c.into_vec-list.ensures ∙ c.in_ok-all.ensures ∙ ap (flat_map (own_on l c.args.me)) c.as_slice.ensures)
    ∙ ascending-tests (λ (r : SectionReference) i. owner_at l.nodes r i == c.args.me) l.low l.high l.references
