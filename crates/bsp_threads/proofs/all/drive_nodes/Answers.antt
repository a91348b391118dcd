use Rattle.std.proofs.Common.{rules, ◌≡◌, List, sym, subst}
use Rattle.bsp_core.specs.Views.{WorksFor}
use Rattle.bsp_threads.specs.Alls.{AreNumbered}
use Rattle.bsp_threads.proofs.Finishing.{run_of, run_follows, run_empty}
use Rattle.bsp_threads.proofs.all.drive_nodes.Goals as goal

pub drive_seats-standing-requires-clause-numbered : goal.drive_seats-standing-requires-clause-numbered
drive_seats-standing-requires-clause-numbered g c κs within =
    let t = c.requires.together in
    let same : c.into_vec-all.result.items ≡ c.args.nodes.now = search rules in
    subst (λ (l : List g.row.N.Denot). AreNumbered g.N.Phased.view l) (sym same) (c.start_law.ensures t.0 t.1 c.args.nodes.now t.2)

pub returns : goal.returns
returns g c =
    let view = g.N.Phased.view in
    let works = WorksFor g.N.Phased.IsPlan g.N.Phased.count g.N.Phased.rows g.N.Phased.holds in
    let old = c.args.nodes.now in
    let new = c.from_vec.result in
    let mails = c.settle.new.self.seats.items in
    let together = c.drive_seats-standing.result in
    let same : c.into_vec-all.result.items ≡ old = search rules in
    let run = run_of view works _ old _ new mails together same c.from_vec.ensures
    (c.drive_seats-standing.ensures.run mails c.settle.ensures.same c.settle.ensures.prefixes) in
    let t = c.requires.together in
    let lawful = c.run_law.ensures t.0 t.1 old new mails together t.2 run in
    record {
      queues = search rules;
      follow = run_follows view works old new mails together run;
      empty = run_empty view works old new mails together run;
      prefixes = c.settle.ensures.prefixes;
      straight = lawful.straight;
      going = c.drive_seats-standing.ensures.going;
      within = λ plan is begins. (c.run_law.ensures plan is old new mails together begins run).of_plan;
      done = lawful.done;
      ended = λ e plan is begins. (c.run_law.ensures plan is old new mails together begins run).at_end e;
    }
