use Rattle.std.proofs.Common.{◌≤ℤ◌, All, sym, ◌∙◌, subst}
use Rattle.chaos_section.proofs.Members.{kept-from, kept-to}
use Rattle.chaos_section.proofs.asks.needs.Goals as goal

pub add_needs-requires-clause-from : goal.add_needs-requires-clause-from
add_needs-requires-clause-from c =
    let l = c.args.facts.now in
    subst (All (λ i. l.low ≤ℤ i)) (sym (c.as_slice.ensures ∙ c.in_ok-own.ensures)) (kept-from _ l.low l.high)

pub add_needs-requires-clause-to : goal.add_needs-requires-clause-to
add_needs-requires-clause-to c =
    let l = c.args.facts.now in
    subst (All (λ i. i ≤ℤ l.high)) (sym (c.as_slice.ensures ∙ c.in_ok-own.ensures)) (kept-to _ l.low l.high)
