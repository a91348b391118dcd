use Rattle.std.proofs.Common.{◌≡◌, ◌<◌, ℤ, pos, [], ◌∷◌, ap, ◌∙◌, arith, to_z, of_z}
use Rattle.std.specs.Int.{w64}
use Rattle.std.proofs.lemmas.Int.{ints, to_z_pos}
use Rattle.chaos_dist.specs.Owners.{page_of}
use Rattle.plan_loop.specs.LoopLetters.{page_met}
use Rattle.fd_program.specs.Met.{layout_for, stands_met}
use Rattle.inspect_uses.specs.Standing.{standing}
use Rattle.fd_program.specs.declared.loop_facts.Layout.{Layout}
use Rattle.inspect_places.proofs.asked.wanted_row.Goals as goal

pub page_of-page-requires-clause-large : goal.page_of-page-requires-clause-large
page_of-page-requires-clause-large c =
    let s = standing c.args.facts.now c.requires.accepted c.args.used c.requires.met in
    let same : c.layout_of-extent.result.extent ≡ (layout_for c.args.facts.now c.args.used.array).extent =
    ap (λ (l : Layout). l.extent) c.layout_of-extent.ensures in
    omega (arith, same, s.most)

pub overflow_cast-result : goal.overflow_cast-result
overflow_cast-result c =
    let s = standing c.args.facts.now c.requires.accepted c.args.used c.requires.met in
    omega (arith, ints, c.stands_at-element.ensures.within, s.most)

pub returns : goal.returns
returns c =
    let f = c.args.facts.now in
    let u = c.args.used in
    let s = standing f c.requires.accepted u c.requires.met in
    let same : c.layout_of-extent.result.extent ≡ (layout_for f u.array).extent = ap (λ (l : Layout). l.extent) c.layout_of-extent.ensures
    in
    let small : c.stands_at-element.result < 9223372036854775808 = omega (arith, c.stands_at-element.ensures.within, s.most) in
    let page : c.page_of-page.result ≡ page_met f u =
    c.page_of-page.ensures.page ∙ ap (λ n. page_of n f.nodes c.stands_at-element.result) same
    ∙ ap (page_of (layout_for f u.array).extent f.nodes) c.stands_at-element.ensures.element in
    let kept : to_z w64 (of_z w64 c.from.result) ≡ c.from.result = omega (arith, ints, c.from.type_inv) in
    ap (λ (v : ℤ). v ∷ to_z w64 (of_z w64 c.from.result) ∷ []) (to_z_pos w64 c.stands_at-element.result small
    ∙ ap pos c.stands_at-element.ensures.element)
    ∙ ap (λ (v : ℤ). pos (stands_met f u) ∷ v ∷ []) (kept ∙ c.from.ensures ∙ ap pos page)
