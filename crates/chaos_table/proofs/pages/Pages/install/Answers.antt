use Rattle.std.proofs.Common.{◌≡◌, ℕ, ◌<◌, List, length, get_or, ap, sym, subst, ◌∙◌, rules, arith}
use Rattle.std.specs.Prelude.{All}
use Rattle.fd_words.specs.declared.place.Place.{Place}
use Rattle.chaos_table.specs.declared.pages.Pages.{Pages}
use Rattle.chaos_table.specs.Pages.{page_given, places_of, earlier, owners_on, first_on}
use Rattle.chaos_table.proofs.Placed.{places_of-same}
use Rattle.chaos_table.proofs.pages.Pages.install.Goals as goal

pub returns : goal.returns
returns c =
    let before = c.all_earlier-before.result in
    let size : length before ≡ 16 = search rules in
    let owners = owners_on c.args.extent c.args.nodes c.args.page c.args.pairs.now in
    let is : c.as_slice.result.now ≡ owners = c.as_slice.ensures.value ∙ c.in_ok-owners.ensures.owners in
    let all : All (λ o. o < c.args.nodes) owners = subst (λ (os : List ℕ). All (λ o. o < c.args.nodes) os) c.in_ok-owners.ensures.owners
    c.in_ok-owners.ensures.nodes in
    let made : ℕ → List Place → Pages = λ first places. record { first = first; places = places } in
    ap (λ f. made f c.in_ok-places.places) c.first-first.ensures
    ∙ ap (made (first_on c.args.extent c.args.nodes c.args.page))
    (c.in_ok-places.ensures ∙ ap (places_of (λ node. get_or before node 0)) is
    ∙ places_of-same (λ node. get_or before node 0) (earlier c.args.extent c.args.counts.now c.args.page) owners c.args.nodes (omega arith)
    (λ o low. c.all_earlier-before.ensures.earlier o (omega arith)) all)
