use Rattle.std.proofs.Common.{rules, ◌≡◌, List, length, subst}
use Rattle.std.specs.List.{All, AllZip}
use Rattle.bsp_core.specs.Views.{WorksFor}
use Rattle.bsp_threads.specs.declared.seat.DriveSeat.{DriveSeat}
use Rattle.bsp_threads.specs.Seats.{IsReady}
use Rattle.bsp_threads.specs.Rounds.{HasGone}
use Rattle.bsp_threads.specs.Alls.{AreSeated, AreBack, SameFrom}
use Rattle.bsp_threads.proofs.Ending.{all_ready, whole_again, have_run, take_whole}
use Rattle.bsp_threads.proofs.all.drive_seats.Goals as goal

pub rounds-standing-requires-clause-ready : goal.rounds-standing-requires-clause-ready
rounds-standing-requires-clause-ready g c κs within =
    let seated : AreSeated c.args.nodes.items c.args.mail.now.seats.items c.seat_all.new.seats.items = search rules in
    let all : All (IsReady g.N.Phased.view c.args.mail.now.queues) c.seat_all.new.seats.items =
    all_ready g.N.Phased.view (WorksFor g.N.Phased.IsPlan g.N.Phased.count g.N.Phased.rows g.N.Phased.holds) c.args.mail.now.queues
    c.args.nodes.items c.args.mail.now.seats.items c.seat_all.new.seats.items c.requires.fresh.whole c.requires.numbered seated in
    rw c.as_mut_slice.ensures.value all

pub returns : goal.returns
returns g c =
    let view = g.N.Phased.view in
    let works = WorksFor g.N.Phased.IsPlan g.N.Phased.count g.N.Phased.rows g.N.Phased.holds in
    let queues = c.args.mail.now.queues in
    let ns = c.args.nodes.items in
    let ns' = c.put_all_back.new.nodes.items in
    let ms = c.args.mail.now.seats.items in
    let ms' = c.seat_all.new.mails.items in
    let ms2 = c.put_all_back.new.mails.items in
    let xs = c.seat_all.new.seats.items in
    let ys = c.rounds-standing.new.seats in
    let seated : AreSeated ns ms xs = search rules in
    let zip : AllZip (HasGone view works queues) xs ys = rw c.as_mut_slice.ensures.value at c.rounds-standing.ensures.gone in
    let long : length ys ≡ c.seat_all.new.seats.len = search rules in
    let back : AreBack ys ns' ms2 =
    subst (λ (k : List (DriveSeat g.row.N.Denot)). AreBack k ns' ms2) (take_whole ys _ c.seat_all.new.seats.len long)
    c.put_all_back.ensures.back in
    let rest : SameFrom (length ns) ms ms' = search rules in
    let rest' : SameFrom (length ys) ms' ms2 = search rules in
    let fresh = c.requires.fresh in
    record {
      queues = search rules;
      whole = whole_again view works queues ns ns' ms ms' ms2 ms xs ys fresh c.requires.numbered seated rest zip back rest';
      run = λ settled same prefixes. have_run view works queues ns ns' ms ms' ms2 settled xs ys fresh c.requires.numbered seated rest zip
          back rest' same c.rounds-standing.result prefixes c.rounds-standing.ensures.finished c.rounds-standing.ensures.strayed;
      going = c.rounds-standing.ensures.going;
    }
