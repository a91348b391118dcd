use Rattle.std.proofs.Common.{rules, arith, ◌≡◌, ◌∙◌, ap, sym, subst, length, length-drop, ◌++◌, ◌∷◌, [], ◌+ℤ◌, ◌≤ℤ◌, ◌<ℤ◌, append-nil, pos}
use Rattle.std.proofs.Common.{ℤ, List, to_z, of_z, Err, ℕ}
use Rattle.std.specs.Int.{w64, w128}
use Rattle.std.specs.Prelude.{FitsSigned}
use Rattle.std.specs.List.{flat_map}
use Rattle.std.proofs.lemmas.Int.{ints, to_z-of_z}
use Rattle.fd_program.specs.Loops.{range_of}
use Rattle.fd_program.specs.Scalars.{scalar_value}
use Rattle.fd_program.specs.Trace.{steps_of}
use Rattle.fd_trace.specs.Events.{Begins, bad, along, Goes}
use Rattle.fd_trace.specs.Sizes.{scalar_faults}
use Rattle.fd_trace.specs.Way.{turn_way, turns_way, way_of, way_of_statement}
use Rattle.fd_program.specs.RangeLaws.{range_none, fewer_left}
use Rattle.fd_trace.proofs.Ways.{goes_on, goes_stop, goes_along, way_further, way_stopped, steps_further, walk_stopped, walk_way}
use Rattle.fd_trace.proofs.Ways.{walk_steps}
use Rattle.fd_program.specs.declared.checked.CheckedStatement.{CheckedStatement}
use Rattle.fd_program.specs.declared.checked.CheckedStatement.TheVariants.{Do}
use Rattle.fd_trace.proofs.way.+walk.Goals as goal

pub turn-returns-in-Err-clause-way : goal.turn-returns-in-Err-clause-way
turn-returns-in-Err-clause-way t c = goes_stop (Unit {0}) (Unit {0}) c.args.left.now c.begin.new.self c.begin.new.self c.in-Err.stop
    (Begins c.args.at ∷ []) _ c.in-Err.ensures

pub run_do-returns-in-Err-clause-way : goal.run_do-returns-in-Err-clause-way
run_do-returns-in-Err-clause-way t c =
    goes_stop ℤ (Unit {0}) c.args.left.now c.args.left.now c.args.left.now c.in-Err.stop
    (bad (scalar_faults c.args.variables.now c.args.low.now)) _ c.in-Err.ensures.way

pub run_do-returns-in-Err-passed_value-clause-way : goal.run_do-returns-in-Err-passed_value-clause-way
run_do-returns-in-Err-passed_value-clause-way t c =
    let left = c.args.left.now in
    let vs = c.args.variables.now in
    let low = bad (scalar_faults vs c.args.low.now) in
    let high = bad (scalar_faults vs c.args.high.now) in
    let turns = turns_way (λ inner count. way_of c.args.checked.now inner 0 count c.args.rest.now) vs c.args.at c.args.inside
    (scalar_value vs c.args.low.now) (scalar_value vs c.args.high.now) in
    goes_on {X = Unit {0}} left left left (Err c.in-Err-passed_value.stop) low (high ++ turns) c.in-Ok.ensures.way
    (goes_stop ℤ (Unit {0}) left left left c.in-Err-passed_value.stop high turns c.in-Err-passed_value.ensures.way)

pub run_do-returns-clause-way : goal.run_do-returns-clause-way
run_do-returns-clause-way t c =
    let left = c.args.left.now in
    let new = c.all_turns.new.left in
    let vs = c.args.variables.now in
    let low = bad (scalar_faults vs c.args.low.now) in
    let high = bad (scalar_faults vs c.args.high.now) in
    let turns = λ (a b : ℤ). turns_way (λ inner count. way_of c.args.checked.now inner 0 count c.args.rest.now) vs c.args.at c.args.inside
    a b in
    let least = scalar_value vs c.args.low.now in
    let most = scalar_value vs c.args.high.now in
    let fits_low : FitsSigned w64 c.in-Ok.low = search rules in
    let fits_high : FitsSigned w64 c.in-Ok-passed_value.high = search rules in
    let is_low = to_z-of_z w64 c.in-Ok.low fits_low ∙ c.in-Ok.ensures.value in
    let is_high = to_z-of_z w64 c.in-Ok-passed_value.high fits_high ∙ c.in-Ok-passed_value.ensures.value in
    goes_on {X = Unit {0}} left left new c.all_turns.result low (high ++ turns least most) c.in-Ok.ensures.way
    (goes_on {X = Unit {0}} left left new c.all_turns.result high (turns least most) c.in-Ok-passed_value.ensures.way
    (goes_along {X = Unit {0}} left new c.all_turns.result
    (turns (to_z w64 (of_z w64 c.in-Ok.low)) (to_z w64 (of_z w64 c.in-Ok-passed_value.high))) (turns least most)
    (ap (λ z. turns z (to_z w64 (of_z w64 c.in-Ok-passed_value.high))) is_low ∙ ap (turns least) is_high)
    c.all_turns.ensures.way))

pub statement-returns-in-Do-clause-way : goal.statement-returns-in-Do-clause-way
statement-returns-in-Do-clause-way t c =
    let way = λ (s : CheckedStatement). way_of_statement c.args.checked.now (λ inner count. way_of c.args.checked.now inner 0 count
    c.args.rest.now) c.args.variables.now s in
    goes_along {X = Unit {0}} c.args.left.now c.run_do.new.left c.run_do.result
    (way (Do c.in-Do.at c.in-Do.low c.in-Do.high c.in-Do.inside)) (way c.args.first.now)
    (ap way (sym c.in-Do.is))
    (subst (λ (n : ℕ). Goes {X = Unit {0}} c.args.left.now c.run_do.new.left c.run_do.result
    (way (Do c.in-Do.at c.in-Do.low c.in-Do.high n))) c.from.ensures c.run_do.ensures.way)

pub all_turns-returns-in-Err-clause-way : goal.all_turns-returns-in-Err-clause-way
all_turns-returns-in-Err-clause-way t c =
    let inner = λ (vs : List ℤ) (n : ℕ). way_of c.args.checked.now vs 0 n c.args.rest.now in
    let i = to_z w128 c.loop-number.number-bits in
    let i' = to_z w64 (of_z w64 (to_z w128 c.loop-number.number-bits)) in
    let high = to_z w64 (of_z w64 c.args.high) in
    let low : to_z w64 (of_z w64 c.args.low) ≡ c.args.low = omega (arith, ints) in
    let top : to_z w64 (of_z w64 c.args.high) ≡ c.args.high = omega (arith, ints) in
    let below : to_z w128 c.loop-number.number-bits ≤ℤ to_z w64 (of_z w64 c.args.high) = omega (arith, ints) in
    let same : to_z w64 (of_z w64 (to_z w128 c.loop-number.number-bits)) ≡ to_z w128 c.loop-number.number-bits = omega (arith, ints) in
    goes_along {X = Unit {0}} c.args.left.now c.turn.new.left (Err c.in-Err.stop)
    (turns_way inner c.args.variables.now c.args.at c.args.inside (to_z w64 (of_z w64 c.args.low)) (to_z w64 (of_z w64 c.args.high)))
    (turns_way inner c.args.variables.now c.args.at c.args.inside c.args.low c.args.high)
    (ap (λ z. turns_way inner c.args.variables.now c.args.at c.args.inside z (to_z w64 (of_z w64 c.args.high))) low
    ∙ ap (turns_way inner c.args.variables.now c.args.at c.args.inside c.args.low) top)
    (way_stopped (turn_way inner c.args.variables.now c.args.at c.args.inside) i i' high c.loop-number.left c.args.left.now
    c.turn.new.left c.turn.new.left c.in-Err.stop
    (turns_way inner c.args.variables.now c.args.at c.args.inside (to_z w64 (of_z w64 c.args.low)) (to_z w64 (of_z w64 c.args.high)))
    below same c.in-Err.ensures.way c.loop-number.invariant.way)

pub all_turns-loop-number-smaller : goal.all_turns-loop-number-smaller
all_turns-loop-number-smaller t c =
    let i = to_z w128 c.loop-number.number-bits in
    let j = to_z w128 (of_z w128 (to_z w128 c.loop-number.number-bits +ℤ pos 1)) in
    let high = to_z w64 (of_z w64 c.args.high) in
    let below : to_z w128 c.loop-number.number-bits ≤ℤ to_z w64 (of_z w64 c.args.high) = omega (arith, ints) in
    let next : to_z w128 (of_z w128 (to_z w128 c.loop-number.number-bits +ℤ pos 1)) ≡ (to_z w128 c.loop-number.number-bits +ℤ pos 1) =
    omega (arith, ints) in
    fewer_left i j high below next

pub all_turns-loop-number-preserved : goal.all_turns-loop-number-preserved
all_turns-loop-number-preserved t c =
    let inner = λ (vs : List ℤ) (n : ℕ). way_of c.args.checked.now vs 0 n c.args.rest.now in
    let steps = λ (z : ℤ). steps_of c.args.checked.now.sites (c.args.variables.now ++ z ∷ []) 0 c.args.inside c.args.rest.now in
    let i = to_z w128 c.loop-number.number-bits in
    let i' = to_z w64 (of_z w64 (to_z w128 c.loop-number.number-bits)) in
    let j = to_z w128 (of_z w128 (to_z w128 c.loop-number.number-bits +ℤ pos 1)) in
    let high = to_z w64 (of_z w64 c.args.high) in
    let below : to_z w128 c.loop-number.number-bits ≤ℤ to_z w64 (of_z w64 c.args.high) = omega (arith, ints) in
    let same : to_z w64 (of_z w64 (to_z w128 c.loop-number.number-bits)) ≡ to_z w128 c.loop-number.number-bits = omega (arith, ints) in
    let next : to_z w128 (of_z w128 (to_z w128 c.loop-number.number-bits +ℤ pos 1)) ≡ (to_z w128 c.loop-number.number-bits +ℤ pos 1) =
    omega (arith, ints) in
    record {
      low = omega (arith, ints);
      way = way_further (turn_way inner c.args.variables.now c.args.at c.args.inside) i i' j high c.loop-number.left c.turn.new.left _
          below same next c.in-Ok.ensures.way c.loop-number.invariant.way;
      steps = steps_further steps i i' j high c.loop-number.steps c.turn.new.steps _ below same next c.in-Ok.ensures.steps
          c.loop-number.invariant.steps;
    }

pub all_turns-returns-clause-way : goal.all_turns-returns-clause-way
all_turns-returns-clause-way t c =
    let inner = λ (vs : List ℤ) (n : ℕ). way_of c.args.checked.now vs 0 n c.args.rest.now in
    let f = turn_way inner c.args.variables.now c.args.at c.args.inside in
    let i = to_z w128 c.loop-number.number-bits in
    let high = to_z w64 (of_z w64 c.args.high) in
    let low : to_z w64 (of_z w64 c.args.low) ≡ c.args.low = omega (arith, ints) in
    let top : to_z w64 (of_z w64 c.args.high) ≡ c.args.high = omega (arith, ints) in
    let above : to_z w64 (of_z w64 c.args.high) <ℤ to_z w128 c.loop-number.number-bits = omega (arith, ints) in
    ap (λ z. along c.args.left.now (flat_map f (range_of z c.args.high))) (sym low)
    ∙ ap (λ z. along c.args.left.now (flat_map f (range_of (to_z w64 (of_z w64 c.args.low)) z))) (sym top)
    ∙ sym c.loop-number.invariant.way
    ∙ ap (λ zs. along c.loop-number.left (flat_map f zs)) (range_none i high above)

pub all_turns-returns-clause-steps : goal.all_turns-returns-clause-steps
all_turns-returns-clause-steps t c =
    let f = λ (z : ℤ). steps_of c.args.checked.now.sites (c.args.variables.now ++ z ∷ []) 0 c.args.inside c.args.rest.now in
    let i = to_z w128 c.loop-number.number-bits in
    let high = to_z w64 (of_z w64 c.args.high) in
    let low : to_z w64 (of_z w64 c.args.low) ≡ c.args.low = omega (arith, ints) in
    let top : to_z w64 (of_z w64 c.args.high) ≡ c.args.high = omega (arith, ints) in
    let above : to_z w64 (of_z w64 c.args.high) <ℤ to_z w128 c.loop-number.number-bits = omega (arith, ints) in
    sym (append-nil c.loop-number.steps)
    ∙ ap (λ zs. c.loop-number.steps ++ flat_map f zs) (sym (range_none i high above))
    ∙ c.loop-number.invariant.steps
    ∙ ap (λ z. c.args.steps.now ++ flat_map f (range_of z (to_z w64 (of_z w64 c.args.high)))) low
    ∙ ap (λ z. c.args.steps.now ++ flat_map f (range_of c.args.low z)) top

pub walk-returns-in-Err-clause-way : goal.walk-returns-in-Err-clause-way
walk-returns-in-Err-clause-way t c =
    walk_stopped c.args.checked.now c.args.variables.now c.loop-behind.more c.loop-behind.behind.now c.skip-rest.result.now
    c.first-item.result c.loop-behind.left c.args.left.now c.statement.new.left c.statement.new.left c.in-Err.stop
    (way_of c.args.checked.now c.args.variables.now 0 c.args.count c.args.statements.now)
    (omega arith) c.first-item.is c.skip-rest.ensures c.if-more-eq0.false c.in-Err.ensures.way c.loop-behind.invariant.way

pub walk-loop-behind-preserved : goal.walk-loop-behind-preserved
walk-loop-behind-preserved t c =
    let inside = c.inside_number-inside.result in
    record {
      shorter = omega (
        arith,
        simp length-drop at (ap length c.skip-behind.ensures),
        simp length-drop at (ap length c.skip-rest.ensures),
        c.loop-behind.invariant.shorter,
      );
      way = walk_way c.args.checked.now c.args.variables.now c.loop-behind.more inside c.saturating_sub-more.result
          c.loop-behind.behind.now c.skip-rest.result.now c.skip-behind.result.now c.first-item.result c.loop-behind.left
          c.statement.new.left
          (along c.args.left.now (way_of c.args.checked.now c.args.variables.now 0 c.args.count c.args.statements.now))
          (omega arith) c.first-item.is c.skip-rest.ensures c.if-more-eq0.false c.inside_number-inside.ensures
          c.saturating_sub-more.ensures c.skip-behind.ensures c.in-Ok.ensures.way c.loop-behind.invariant.way;
      steps = walk_steps c.args.checked.now c.args.variables.now c.loop-behind.more inside c.saturating_sub-more.result
          c.loop-behind.behind.now c.skip-rest.result.now c.skip-behind.result.now c.first-item.result c.loop-behind.steps
          c.statement.new.steps
          (c.args.steps.now ++ steps_of c.args.checked.now.sites c.args.variables.now 0 c.args.count c.args.statements.now)
          (omega arith) c.first-item.is c.skip-rest.ensures c.if-more-eq0.false c.inside_number-inside.ensures
          c.saturating_sub-more.ensures c.skip-behind.ensures c.in-Ok.ensures.steps c.loop-behind.invariant.steps;
    }
