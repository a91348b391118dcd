use Rattle.std.specs.List.{range_with_len}
use Rattle.std.proofs.Common.{◌≡◌, ◌<◌, ◌-◌, ◌+◌, ◌==◌, map, filter, ℕ, ℤ, pos, ◌-ℤ◌, to_z, of_z, refl, ap, ◌∙◌, arith}
use Rattle.std.specs.Int.{w128}
use Rattle.std.proofs.lemmas.Int.{ints}
use Rattle.chaos_dist.specs.Layout.{element_of, owner_of}
use Rattle.chaos_dist.specs.LayoutLaws.{count_on-grows, width_of-some}
use Rattle.chaos_section.proofs.Spans.{made_between, map-range-more, own_between}
use Rattle.chaos_section.proofs.own.shifted_between.Goals as goal

pub shifted-requires-clause-place : goal.shifted-requires-clause-place
shifted-requires-clause-place c =
    let s = c.args.layout in
    omega (
      arith,
      c.loop-local-test.true,
      c.count_to-end.ensures,
      count_on-grows s.shape s.extent s.nodes c.args.me c.args.last s.extent
          c.requires.within,
    )

pub overflow_cast-shifted : goal.overflow_cast-shifted
overflow_cast-shifted c =
    let s = c.args.layout in
    let width = width_of-some s.shape s.extent s.nodes s.some_elements s.some_nodes s.some_size in
    let between = own_between s.shape s.extent s.nodes c.args.me c.args.first c.args.last c.loop-local.local s.some_nodes width
    c.requires.node
    c.requires.within (omega (arith, c.loop-local.auto.local, c.count_to-from.ensures))
    (omega (arith, c.loop-local-test.true, c.count_to-end.ensures)) in
    omega (arith, ints, between.0, between.1, c.shifted.ensures, c.requires.low, c.requires.high)

pub loop-local-preserved : goal.loop-local-preserved
loop-local-preserved c =
    let s = c.args.layout in
    let width = width_of-some s.shape s.extent s.nodes s.some_elements s.some_nodes s.some_size in
    let between = own_between s.shape s.extent s.nodes c.args.me c.args.first c.args.last c.loop-local.local s.some_nodes width
    c.requires.node
    c.requires.within (omega (arith, c.loop-local.auto.local, c.count_to-from.ensures))
    (omega (arith, c.loop-local-test.true, c.count_to-end.ensures)) in
    let f : ℕ → ℤ = λ k. pos (element_of s.shape s.extent s.nodes c.args.me k) -ℤ to_z w128 (of_z w128 c.args.shift) in
    map-range-more f c.count_to-from.result c.loop-local.local (c.loop-local.local + 1) c.loop-local.list c.push.new.self _
    c.loop-local.auto.local refl c.loop-local.invariant c.in_ok-push.ensures.ok
    (omega (arith, ints, between.0, between.1, c.shifted.ensures, c.requires.low, c.requires.high))

pub returns : goal.returns
returns c =
    let s = c.args.layout in
    let shift : to_z w128 (of_z w128 c.args.shift) ≡ c.args.shift = omega (arith, ints) in
    let fewer = count_on-grows s.shape s.extent s.nodes c.args.me (c.args.first - 1) c.args.last (omega arith) in
    let order : c.count_to-from.result < c.count_to-end.result + 1 = omega (arith, fewer, c.count_to-from.ensures, c.count_to-end.ensures)
    in
    let last : c.loop-local.local ≡ c.count_to-end.result = omega (arith, order, c.loop-local-test.false, c.loop-local.auto) in
    c.loop-local.invariant
    ∙ made_between (λ g. pos g -ℤ to_z w128 (of_z w128 c.args.shift)) s.shape s.extent s.nodes c.args.me c.args.first c.args.last
    c.count_to-from.result c.count_to-end.result c.loop-local.local c.requires.from_one c.requires.order c.requires.within
    c.count_to-from.ensures c.count_to-end.ensures last
    ∙ ap (λ z. map (λ g. pos g -ℤ z) (filter (λ g. owner_of s.shape s.extent s.nodes g == c.args.me)
    (range_with_len c.args.first (c.args.last + 1 - c.args.first)))) shift
