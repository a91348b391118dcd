use Rattle.std.proofs.Common.{◌<◌, ℕ, subst}
use Rattle.std.proofs.lemmas.List.{length-map}
use Rattle.bsp_core.specs.Lists.{items_of}
use Rattle.bsp_core.proofs.Turning.{other_in, place_sent, place_taken, send_turn, take_fits, take_turn, work_turn, work_falls, on_true}
use Rattle.bsp_core.proofs.Turning.{send_falls, take_falls, sends_as, takes_as, works_as}
use Rattle.bsp_core.proofs.turns.turn_of.Goals as goal

pub place_of-place-requires-clause-q : goal.place_of-place-requires-clause-q
place_of-place-requires-clause-q g c =
    let s = c.in-Send.ensures in
    other_in g.N.Phased.view _ _ _ (g.met.N.Phased.rows_meet c.requires.plan.0 c.requires.plan.1) c.args.nodes.now
    (items_of c.args.sent.now) c.args.taken.now _ c.requires.plan.2 c.args.at c.in-Send.to s.0 s.1 s.3

pub place_of-place-requires-in-Take-clause-p : goal.place_of-place-requires-in-Take-clause-p
place_of-place-requires-in-Take-clause-p g c =
    let s = c.in-Take.ensures in
    other_in g.N.Phased.view _ _ _ (g.met.N.Phased.rows_meet c.requires.plan.0 c.requires.plan.1) c.args.nodes.now
    (items_of c.args.sent.now) c.args.taken.now _ c.requires.plan.2 c.args.at c.in-Take.from s.0 s.1 s.3

pub send_at-requires-clause-place : goal.send_at-requires-clause-place
send_at-requires-clause-place g c =
    subst (λ (z : ℕ). c.place_of-place.result < z) (length-map c.args.sent.now (λ v. v.items))
    (place_sent g.N.Phased.view _ _ _ (g.met.N.Phased.rows_meet c.requires.plan.0 c.requires.plan.1) c.args.nodes.now
    (items_of c.args.sent.now) c.args.taken.now _ c.requires.plan.2 c.args.at c.in-Send.to c.place_of-place.result c.requires.at
    (other_in g.N.Phased.view _ _ _ (g.met.N.Phased.rows_meet c.requires.plan.0 c.requires.plan.1) c.args.nodes.now
    (items_of c.args.sent.now) c.args.taken.now _ c.requires.plan.2 c.args.at c.in-Send.to c.in-Send.ensures.0
    c.in-Send.ensures.1 c.in-Send.ensures.3) c.place_of-place.ensures)

pub take_at-requires-clause-place : goal.take_at-requires-clause-place
take_at-requires-clause-place g c =
    let s = c.in-Take.ensures in
    let from = other_in g.N.Phased.view _ _ _ (g.met.N.Phased.rows_meet c.requires.plan.0 c.requires.plan.1) c.args.nodes.now
    (items_of c.args.sent.now) c.args.taken.now _ c.requires.plan.2 c.args.at c.in-Take.from s.0 s.1 s.3 in
    subst (λ (z : ℕ). c.place_of-place-in-Take.result < z) (length-map c.args.sent.now (λ v. v.items))
    (place_sent g.N.Phased.view _ _ _ (g.met.N.Phased.rows_meet c.requires.plan.0 c.requires.plan.1) c.args.nodes.now
    (items_of c.args.sent.now) c.args.taken.now _ c.requires.plan.2 c.in-Take.from c.args.at c.place_of-place-in-Take.result from
    c.requires.at c.place_of-place-in-Take.ensures)

pub take_at-requires-clause-place_taken : goal.take_at-requires-clause-place_taken
take_at-requires-clause-place_taken g c =
    let s = c.in-Take.ensures in
    place_taken g.N.Phased.view _ _ _ (g.met.N.Phased.rows_meet c.requires.plan.0 c.requires.plan.1) c.args.nodes.now
    (items_of c.args.sent.now) c.args.taken.now _ c.requires.plan.2 c.in-Take.from c.args.at c.place_of-place-in-Take.result
    (other_in g.N.Phased.view _ _ _ (g.met.N.Phased.rows_meet c.requires.plan.0 c.requires.plan.1) c.args.nodes.now
    (items_of c.args.sent.now) c.args.taken.now _ c.requires.plan.2 c.args.at c.in-Take.from s.0 s.1 s.3) c.requires.at
    c.place_of-place-in-Take.ensures

pub take_at-requires-clause-fits : goal.take_at-requires-clause-fits
take_at-requires-clause-fits g c v from wanted rest x ev due got =
    let s = c.in-Take.ensures in
    take_fits g.N.Phased.view _ _ _ (g.met.N.Phased.rows_meet c.requires.plan.0 c.requires.plan.1) c.args.nodes.now
    (items_of c.args.sent.now) c.args.taken.now _ c.requires.plan.2 c.args.at c.place_of-place-in-Take.result c.in-Take.from s.0 v from
    wanted rest x s.1 s.2 s.3 c.place_of-place-in-Take.ensures ev due got

pub returns-in-Ok-clause-at : goal.returns-in-Ok-clause-at
returns-in-Ok-clause-at g c plan is h =
    let s = c.in-Send.ensures in
    let k = c.in-Ok.ensures.ok in
    send_turn g.N.Phased.view (g.N.Phased.rows plan) (g.N.Phased.holds plan) (g.N.Phased.count plan) (g.met.N.Phased.rows_meet plan is)
    c.args.nodes.now (items_of c.args.sent.now) c.args.taken.now c.args.moved.now.items h
    c.args.at c.place_of-place.result c.in-Send.to s.0 k.0 k.1 k.2 c.send_at.new.nodes (items_of c.send_at.new.sent)
    c.send_at.new.moved.items
    s.1 s.2 s.3 c.place_of-place.ensures k.3 k.4 k.5 k.6 k.7

pub returns-in-Ok-true-clause-at : goal.returns-in-Ok-true-clause-at
returns-in-Ok-true-clause-at g c plan is h =
    let s = c.in-Take.ensures in
    let k = on_true c.in-Ok-true.field-0 c.in-Ok-true.field-0-test c.in-Ok-true.ensures.ok in
    take_turn g.N.Phased.view (g.N.Phased.rows plan) (g.N.Phased.holds plan) (g.N.Phased.count plan) (g.met.N.Phased.rows_meet plan is)
    c.args.nodes.now (items_of c.args.sent.now) c.args.taken.now c.args.moved.now.items h
    c.args.at c.place_of-place-in-Take.result c.in-Take.from s.0 k.0 k.1 k.2 c.take_at.new.nodes c.take_at.new.taken
    c.take_at.new.moved.items
    s.1 s.2 s.3 c.place_of-place-in-Take.ensures k.3 k.4 k.5 k.6 k.7 k.8

pub returns-in-Ok-work_at-clause-at : goal.returns-in-Ok-work_at-clause-at
returns-in-Ok-work_at-clause-at g c plan is h =
    let s = c.in-Work.ensures in
    let k = c.in-Ok-work_at.ensures.ok in
    work_turn g.N.Phased.view (g.N.Phased.rows plan) (g.N.Phased.holds plan) (g.N.Phased.count plan) (g.met.N.Phased.rows_meet plan is)
    c.args.nodes.now (items_of c.args.sent.now) c.args.taken.now c.args.moved.now.items h
    c.args.at s.0 k.0 k.1 c.work_at.new.nodes c.work_at.new.moved.items s.1 s.2 k.2 (λ t p lt e o. k.3 plan t p is lt e o) k.5 k.6

pub returns-in-Ok-clause-turned : goal.returns-in-Ok-clause-turned
returns-in-Ok-clause-turned g c =
    let s = c.in-Send.ensures in
    let k = c.in-Ok.ensures.ok in (
      sends_as g.N.Phased.view c.args.nodes.now c.send_at.new.nodes (items_of c.args.sent.now) (items_of c.send_at.new.sent)
          c.args.taken.now c.args.moved.now.items c.send_at.new.moved.items
          c.args.at c.place_of-place.result c.in-Send.to s.0 k.0 k.1 k.2 s.1 s.2 c.place_of-place.ensures k.3 k.4 k.5 k.6 k.7,
      send_falls g.N.Phased.view c.args.nodes.now c.send_at.new.nodes c.args.at k.0 k.1 k.2 k.3 k.4 k.5,
    )

pub returns-in-Ok-true-clause-turned : goal.returns-in-Ok-true-clause-turned
returns-in-Ok-true-clause-turned g c =
    let s = c.in-Take.ensures in
    let k = on_true c.in-Ok-true.field-0 c.in-Ok-true.field-0-test c.in-Ok-true.ensures.ok in (
      takes_as g.N.Phased.view c.args.nodes.now c.take_at.new.nodes (items_of c.args.sent.now) c.args.taken.now c.take_at.new.taken
          c.args.moved.now.items c.take_at.new.moved.items
          c.args.at c.place_of-place-in-Take.result c.in-Take.from s.0 k.0 k.1 k.2 s.1 s.2 c.place_of-place-in-Take.ensures k.3 k.4 k.5
          k.6 k.7 k.8,
      take_falls g.N.Phased.view c.args.nodes.now c.take_at.new.nodes c.args.at k.0 k.1 k.2 k.3 k.5 k.6,
    )

pub returns-in-Ok-work_at-clause-turned : goal.returns-in-Ok-work_at-clause-turned
returns-in-Ok-work_at-clause-turned g c =
    let s = c.in-Work.ensures in
    let k = c.in-Ok-work_at.ensures.ok in (
      works_as g.N.Phased.view c.args.nodes.now c.work_at.new.nodes (items_of c.args.sent.now) c.args.taken.now c.args.moved.now.items
          c.work_at.new.moved.items
          c.args.at s.0 k.0 k.1 s.1 s.2 k.2 k.5 k.6,
      work_falls g.N.Phased.view _ _ _ (g.met.N.Phased.rows_meet c.requires.plan.0 c.requires.plan.1) c.args.nodes.now
          (items_of c.args.sent.now) c.args.taken.now _ c.requires.plan.2 c.args.at s.0 k.0 k.1 c.work_at.new.nodes
          c.requires.few s.1 s.2 k.2 (λ t p lt e o. k.3 c.requires.plan.0 t p c.requires.plan.1 lt e o) k.4 k.5,
    )
