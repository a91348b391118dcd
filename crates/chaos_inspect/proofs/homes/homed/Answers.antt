use Rattle.std.proofs.Common.{◌≡◌, ◌∷◌, rules, arith, to_z, of_z, ap, sym, ◌∙◌, pos, get_or, drop}
use Rattle.std.specs.Int.{w64}
use Rattle.std.specs.Prelude.{count_by}
use Rattle.fd_program.specs.Uses.{gives_index}
use Rattle.std.proofs.lemmas.Int.{ints}
use Rattle.std.proofs.lemmas.List.{at_drop_all}
use Rattle.plan_loop.specs.declared.loop_phase.Asking.TheVariants.{Homes}
use Rattle.list_laws.specs.Rows.{appended_at, dealt_onto, dealt_all}
use Rattle.chaos_inspect.specs.Walking.{Homed, home_told, homed_through, is_asked}
use Rattle.chaos_inspect.proofs.Steps.{homed_step}
use Rattle.chaos_inspect.proofs.homes.homed.Goals as goal

pub loop-i-preserved : goal.loop-i-preserved
loop-i-preserved c =
    let f = c.args.facts.now in
    let x = get_or c.args.iterations.now c.loop-i.i-index (pos 0) in
    let same : x ≡ to_z w64 (of_z w64 x) = first_of (omega (arith, ints), search rules, grind (arith, ints)) in
    homed_step f c.args.iterations.now c.loop-i.rest.now c.behind-rest.result.now c.loop-i.places.now c.behind_all-places.result.now
    c.loop-i.i-index _ c.in_ok-used.used c.given-count.result c.in_ok-home.home
    c.loop-i.lists c.append_iteration.new.lists _ c.loop-i-test.true same c.in_ok-used.ensures
    (c.given-count.ensures ∙ ap (λ arrays. count_by (gives_index arrays) c.as_slice.result.now) c.as_slice-arrays.ensures
    ∙ ap (count_by (gives_index f.arrays)) c.as_slice.ensures)
    (c.in_ok-home.ensures ∙ ap (home_told f c.loop-i.places.now) c.as_slice-in-loop-i.ensures)
    (c.in_ok-append_iteration.ensures ∙ ap (λ vs. appended_at c.loop-i.lists c.in_ok-home.home (to_z w64 (of_z w64 x) ∷ vs))
    c.front.ensures) c.behind-rest.ensures
    (c.behind_all-places.ensures ∙ ap (λ us. drop (count_by (is_asked f Homes) us) c.loop-i.places.now) c.as_slice-in-loop-i-2.ensures)
    c.loop-i.invariant

pub returns : goal.returns
returns c =
    sym (at_drop_all (λ is. dealt_onto (λ (h : Homed). h.home) (λ (h : Homed). h.row) c.loop-i.lists
    (homed_through c.args.facts.now is c.loop-i.rest.now c.loop-i.places.now)) c.args.iterations.now c.loop-i.i-index
    c.loop-i-test.false)
    ∙ c.loop-i.invariant
    ∙ dealt_all (λ (h : Homed). h.home) (λ (h : Homed). h.row) c.args.facts.now.nodes
    (homed_through c.args.facts.now c.args.iterations.now c.args.values.now c.args.told.now)
