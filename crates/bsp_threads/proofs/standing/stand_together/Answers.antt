use Rattle.std.proofs.Common.{refl, rules, ◌≡◌, ◌≢◌, arith, Some, ⊎_elim}
use Rattle.std.specs.List.{slice_get}
use Rattle.std.proofs.lemmas.Option.{slice_get_read}
use Rattle.bsp_threads.specs.declared.seat.Standing.TheVariants.{Going, Strayed}
use Rattle.bsp_threads.specs.Rounds.{HasFinished, HasMemory, HasNotStrayed, SomeGoing}
use Rattle.bsp_threads.proofs.Rounding.{seen_more}
use Rattle.bsp_threads.proofs.standing.stand_together.Goals as goal

pub returns-then-eq-clause-strayed : goal.returns-then-eq-clause-strayed
returns-then-eq-clause-strayed g c =
    let is : c.seat-item.result.standing ≡ Strayed = search rules in
    let here : slice_get c.args.seats.now c.loop-seat.seat-index ≡ Some c.seat-item.result =
    slice_get_read c.args.seats.now _ c.loop-seat.seat-index c.seat-item.result refl c.loop-seat-test.true c.seat-item.is in
    λ e. (c.loop-seat.seat-index, c.seat-item.result, here, is)

pub loop-seat-preserved : goal.loop-seat-preserved
loop-seat-preserved g c =
    let i = c.loop-seat.invariant in
    let x = c.seat-item.result in
    let straight : x.standing ≢ Strayed = search rules in
    let here : slice_get c.args.seats.now c.loop-seat.seat-index ≡ Some x =
    slice_get_read c.args.seats.now _ c.loop-seat.seat-index x refl c.loop-seat-test.true c.seat-item.is in
    record {
      straight = c.joined-all.ensures.straight;
      finished = λ e. let f = c.joined-all.ensures.finished e in seen_more HasFinished c.args.seats.now c.loop-seat.seat-index x
          c.loop-seat-test.true c.seat-item.is f.1 (i.finished f.0);
      others = seen_more HasNotStrayed c.args.seats.now c.loop-seat.seat-index x c.loop-seat-test.true c.seat-item.is straight i.others;
      memory = λ e. let m = c.joined-all.ensures.memory e in seen_more HasMemory c.args.seats.now c.loop-seat.seat-index x
          c.loop-seat-test.true c.seat-item.is m.1 (i.memory m.0);
      going = λ e. ⊎_elim (λ (a : c.loop-seat.all ≡ Going). i.going a)
          (λ (b : x.standing ≡ Going). let r : SomeGoing c.args.seats.now = (c.loop-seat.seat-index, x, here, b) in r)
          (c.joined-all.ensures.going e);
    }

pub returns-clause-finished : goal.returns-clause-finished
returns-clause-finished g c = λ e k d low. c.loop-seat.invariant.finished e k d (let h = c.loop-seat-test.false in omega arith)

pub returns-clause-others : goal.returns-clause-others
returns-clause-others g c = λ e k d low. c.loop-seat.invariant.others k d (let h = c.loop-seat-test.false in omega arith)

pub returns-clause-memory : goal.returns-clause-memory
returns-clause-memory g c = λ straight e k d low. c.loop-seat.invariant.memory e k d (let h = c.loop-seat-test.false in omega arith)
