use Rattle.std.proofs.Common.{◌≡◌, get_or, pos, to_z, of_z, rules, arith, ap, ◌∙◌, sym, drop}
use Rattle.std.specs.Int.{w64}
use Rattle.std.specs.Prelude.{count_by, filter_map}
use Rattle.std.proofs.lemmas.Int.{ints}
use Rattle.fd_program.specs.Loops.{first_of as first_one, offence_at}
use Rattle.fd_program.specs.Uses.{gives_index}
use Rattle.chaos_inspect.proofs.Steps.{votes_step, votes_found}
use Rattle.chaos_inspect.proofs.votes.own_vote.Goals as goal

pub loop-i-preserved : goal.loop-i-preserved
loop-i-preserved c =
    let x = get_or c.args.iterations.now c.loop-i.i-index (pos 0) in
    let same : x ≡ to_z w64 (of_z w64 x) = first_of (omega (arith, ints), search rules, grind (arith, ints)) in
    votes_step c.args.facts.now c.args.iterations.now c.loop-i.rest.now c.behind-rest.result.now c.loop-i.i-index _ c.in_ok-used.used _
    c.loop-i-test.true same c.in_ok-used.ensures
    (sym (c.in-None.ensures ∙ ap (λ arrays. first_one (filter_map (offence_at arrays) c.as_slice.result.now)) c.as_slice-arrays.ensures
    ∙ ap (λ us. first_one (filter_map (offence_at c.args.facts.now.arrays) us)) c.as_slice.ensures))
    (c.behind-rest.ensures ∙ ap (λ n. drop n c.loop-i.rest.now) (c.given.ensures
    ∙ ap (λ arrays. count_by (gives_index arrays) c.as_slice-in-loop-i.result.now) c.as_slice-arrays.ensures
    ∙ ap (count_by (gives_index c.args.facts.now.arrays)) c.as_slice-in-loop-i.ensures))
    c.loop-i.invariant

pub returns-in-Some : goal.returns-in-Some
returns-in-Some c =
    let x = get_or c.args.iterations.now c.loop-i.i-index (pos 0) in
    let same : x ≡ to_z w64 (of_z w64 x) = first_of (omega (arith, ints), search rules, grind (arith, ints)) in
    votes_found c.args.facts.now c.args.iterations.now c.loop-i.rest.now c.loop-i.i-index _ c.in_ok-used.used c.in-Some.offence _
    c.loop-i-test.true same c.in_ok-used.ensures
    (sym (c.in-Some.ensures ∙ ap (λ arrays. first_one (filter_map (offence_at arrays) c.as_slice.result.now)) c.as_slice-arrays.ensures
    ∙ ap (λ us. first_one (filter_map (offence_at c.args.facts.now.arrays) us)) c.as_slice.ensures))
    c.loop-i.invariant
