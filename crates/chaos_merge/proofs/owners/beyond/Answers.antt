use Rattle.std.proofs.Common.{◌≡◌, ℕ, List, ap, ◌∙◌, subst, IfOk}
use Rattle.chaos_hash.specs.declared.held.Held.{Held}
use Rattle.chaos_merge.specs.Merged.{by_owner, unstamped}
use Rattle.chaos_merge.proofs.owners.beyond.Goals as goal

pub returns : goal.returns
returns c =
    subst (λ (es : List (ℕ × Held)). IfOk c.for_owners.result (λ lists. lists ≡ by_owner c.args.nodes es))
    (c.as_slice-2.ensures ∙ c.in_ok-more.ensures ∙ ap (unstamped c.args.held) (c.as_slice.ensures ∙ c.in_ok-found.ensures))
    c.for_owners.ensures
