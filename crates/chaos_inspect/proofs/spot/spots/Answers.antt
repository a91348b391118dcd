use Rattle.std.proofs.Common.{◌≡◌, get_or, pos, rules, arith, to_z, of_z, ap, ◌∙◌, ◌++◌, drop}
use Rattle.std.specs.Int.{w64}
use Rattle.std.specs.Prelude.{count_by}
use Rattle.std.proofs.lemmas.Int.{ints}
use Rattle.inspect_uses.specs.Reached.{gives_first}
use Rattle.plan_loop.specs.declared.loop_phase.Asking.TheVariants.{Indexes}
use Rattle.chaos_inspect.specs.Walking.{is_asked, spots_told}
use Rattle.chaos_inspect.proofs.Steps.{spots_step}
use Rattle.chaos_inspect.proofs.spot.spots.Goals as goal

pub loop-i-preserved : goal.loop-i-preserved
loop-i-preserved c =
    let f = c.args.facts.now in
    let asking = Indexes c.args.level in
    let x = get_or c.args.iterations.now c.loop-i.i-index (pos 0) in
    let same : x ≡ to_z w64 (of_z w64 x) = first_of (omega (arith, ints), search rules, grind (arith, ints)) in
    spots_step f asking c.args.iterations.now c.loop-i.rest.now c.behind-rest.result.now c.loop-i.places.now
    c.behind_all-places.result.now c.loop-i.i-index _ c.in_ok-used.used c.loop-i.spots
    c.note.new.spots _ c.loop-i-test.true same c.in_ok-used.ensures
    (c.in_ok-note.ensures ∙ ap (λ us. c.loop-i.spots ++ spots_told f asking c.loop-i.places.now us) c.as_slice.ensures)
    (c.behind_all-places.ensures ∙ ap (λ us. drop (count_by (is_asked f asking) us) c.loop-i.places.now) c.as_slice-in-loop-i.ensures)
    (c.behind-rest.ensures ∙ ap (λ n. drop n c.loop-i.rest.now) (c.given_first.ensures
    ∙ ap (λ arrays. count_by (gives_first arrays) c.as_slice-in-loop-i-2.result.now) c.as_slice-arrays.ensures
    ∙ ap (count_by (gives_first f.arrays)) c.as_slice-in-loop-i-2.ensures))
    c.loop-i.invariant
