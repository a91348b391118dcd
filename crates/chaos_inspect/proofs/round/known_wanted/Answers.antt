use Rattle.std.proofs.Common.{◌≡◌, get_or, pos, to_z, of_z, rules, arith, ap, ◌∙◌, ◌++◌, drop, filter}
use Rattle.std.specs.Int.{w64}
use Rattle.std.specs.Prelude.{count_by}
use Rattle.std.proofs.lemmas.Int.{ints}
use Rattle.inspect_uses.specs.Reached.{gives_first}
use Rattle.chaos_inspect.specs.Walking.{is_asked}
use Rattle.chaos_inspect.proofs.Steps.{kept_step}
use Rattle.chaos_inspect.proofs.round.known_wanted.Goals as goal

pub loop-i-preserved : goal.loop-i-preserved
loop-i-preserved c =
    let f = c.args.facts.now in
    let x = get_or c.args.iterations.now c.loop-i.i-index (pos 0) in
    let same : x ≡ to_z w64 (of_z w64 x) = first_of (omega (arith, ints), search rules, grind (arith, ints)) in
    kept_step f (is_asked f c.args.asking) c.args.iterations.now c.loop-i.rest.now c.behind-rest.result.now c.loop-i.i-index _ c.in_ok-used.used
    c.loop-i.list c.keep_all.new.wanted _ c.loop-i-test.true same c.in_ok-used.ensures
    (c.in_ok-keep_all.ensures ∙ ap (λ us. c.loop-i.list ++ filter (is_asked f c.args.asking) us) c.as_slice.ensures)
    (c.behind-rest.ensures ∙ ap (λ n. drop n c.loop-i.rest.now) (c.given_first.ensures
    ∙ ap (λ arrays. count_by (gives_first arrays) c.as_slice-in-loop-i.result.now) c.as_slice-arrays.ensures
    ∙ ap (count_by (gives_first f.arrays)) c.as_slice-in-loop-i.ensures))
    c.loop-i.invariant
