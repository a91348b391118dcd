use Rattle.std.proofs.Common.{◌≡◌, get_or, pos, to_z, of_z, rules, arith, ap, ◌∙◌, ◌++◌, drop, filter}
use Rattle.std.specs.Int.{w64}
use Rattle.std.specs.Prelude.{count_by}
use Rattle.std.proofs.lemmas.Int.{ints}
use Rattle.fd_program.specs.Uses.{gives_index}
use Rattle.chaos_inspect.specs.Walking.{is_asked}
use Rattle.chaos_inspect.proofs.Steps.{wanted_step}
use Rattle.chaos_inspect.proofs.round.wanted.Goals as goal

pub loop-i-preserved : goal.loop-i-preserved
loop-i-preserved c =
    let f = c.args.facts.now in
    let x = get_or c.args.iterations.now c.loop-i.i-index (pos 0) in
    let same : x ≡ to_z w64 (of_z w64 x) = first_of (omega (arith, ints), search rules, grind (arith, ints)) in
    wanted_step f c.args.asking c.args.iterations.now c.loop-i.rest.now c.behind-rest.result.now c.loop-i.i-index _ c.in_ok-used.used
    c.loop-i.list c.keep_all.new.wanted _ c.loop-i-test.true same c.in_ok-used.ensures
    (c.in_ok-keep_all.ensures ∙ ap (λ us. c.loop-i.list ++ filter (is_asked f c.args.asking) us) c.as_slice.ensures)
    (c.behind-rest.ensures ∙ ap (λ n. drop n c.loop-i.rest.now) (c.given.ensures
    ∙ ap (λ arrays. count_by (gives_index arrays) c.as_slice-in-loop-i.result.now) c.as_slice-arrays.ensures
    ∙ ap (count_by (gives_index f.arrays)) c.as_slice-in-loop-i.ensures))
    c.loop-i.invariant
