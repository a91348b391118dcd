use Rattle.std.proofs.Common.{◌≡◌, ◌≤◌, ◌<◌, List, ℕ, length, map, ap, sym, subst, ◌∙◌, arith}
use Rattle.std.specs.Prelude.{All, replicate}
use Rattle.std.specs.List.{range_with_len}
use Rattle.std.proofs.lemmas.List.FromFn.{length-map-range_with_len}
use Rattle.chaos_table.specs.Pages.{all_pairs, owner_by, owners_on, first_on, size_on}
use Rattle.chaos_table.specs.Noting.{noted_all}
use Rattle.chaos_table.proofs.Noted.{noted-zeros, owners-below}
use Rattle.chaos_table.proofs.owners.owners_given.Goals as goal

pub returns-clause-owners : goal.returns-clause-owners
returns-clause-owners c =
    c.note_lists.ensures
    ∙ ap (λ owners. noted_all c.first.result c.args.nodes (all_pairs c.as_slice.result.now) owners) (c.in_ok-owners.ensures
    ∙ ap (λ n. replicate n 0) c.size.ensures.size)
    ∙ ap (λ first. noted_all first c.args.nodes (all_pairs c.as_slice.result.now)
    (replicate (size_on c.args.extent c.args.nodes c.args.page) 0)) c.first.ensures
    ∙ ap (λ lists. noted_all (first_on c.args.extent c.args.nodes c.args.page) c.args.nodes (all_pairs lists)
    (replicate (size_on c.args.extent c.args.nodes c.args.page) 0)) c.as_slice.ensures
    ∙ noted-zeros (first_on c.args.extent c.args.nodes c.args.page) (size_on c.args.extent c.args.nodes c.args.page) c.args.nodes
    (all_pairs c.args.pairs.now)

pub returns-clause-nodes : goal.returns-clause-nodes
returns-clause-nodes c =
    subst (λ (owners : List ℕ). All (λ o. o < c.args.nodes) owners) (sym (returns-clause-owners c))
    (owners-below c.args.nodes (first_on c.args.extent c.args.nodes c.args.page) (size_on c.args.extent c.args.nodes c.args.page)
    (all_pairs c.args.pairs.now) c.requires.some)

pub returns-clause-short : goal.returns-clause-short
returns-clause-short c =
    let long : length (owners_on c.args.extent c.args.nodes c.args.page c.args.pairs.now) ≡ size_on c.args.extent c.args.nodes c.args.page =
    length-map-range_with_len (owner_by c.args.nodes (all_pairs c.args.pairs.now)) (first_on c.args.extent c.args.nodes c.args.page)
    (size_on c.args.extent c.args.nodes c.args.page) in
    let same = ap length (returns-clause-owners c) in
    let size = c.size.ensures.size in
    let most = c.size.ensures.most in
    omega (arith, long, same, size, most)
