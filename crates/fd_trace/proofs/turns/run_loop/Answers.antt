use Rattle.std.proofs.Common.{rules, ◌≡◌, ◌∙◌, ap, sym, ◌++◌, ◌∷◌, [], List, ℤ, to_z, of_z, Ok, Err}
use Rattle.std.specs.Int.{w64}
use Rattle.std.specs.Prelude.{FitsSigned, Result}
use Rattle.std.proofs.lemmas.Int.{to_z-of_z}
use Rattle.fd_words.specs.declared.source.SourceStop.{SourceStop}
use Rattle.fd_program.specs.Scalars.{scalar_value}
use Rattle.fd_program.specs.declared.site.Site.{Site}
use Rattle.fd_trace.specs.declared.budget.Left.{Left}
use Rattle.fd_trace.specs.Events.{Begins, Goes, bad, along}
use Rattle.fd_trace.specs.Sizes.{scalar_faults}
use Rattle.fd_trace.specs.Way.{loop_way, work_way}
use Rattle.fd_trace.proofs.Ways.{goes_on, goes_stop, done}
use Rattle.fd_trace.proofs.turns.run_loop.Goals as goal

-- the execution begins, and its low bound is passed
behind_low : (vs : List ℤ) (site : Site) (left mid new : Left) (r : Result (Unit {0}) SourceStop)
    → along left (Begins site.at ∷ []) ≡ Ok mid → along mid (bad (scalar_faults vs site.low)) ≡ Ok mid
    → Goes mid new r (bad (scalar_faults vs site.high) ++ work_way vs site (scalar_value vs site.low) (scalar_value vs site.high))
    → Goes left new r (loop_way vs site)
behind_low vs site left mid new r begun low rest =
    let more = bad (scalar_faults vs site.high) ++ work_way vs site (scalar_value vs site.low) (scalar_value vs site.high) in
    goes_on {X = Unit {0}} left mid new r (Begins site.at ∷ []) (bad (scalar_faults vs site.low) ++ more) begun
    (goes_on {X = Unit {0}} mid mid new r (bad (scalar_faults vs site.low)) more low rest)

pub returns-in-Err-clause-way : goal.returns-in-Err-clause-way
returns-in-Err-clause-way c = goes_stop (Unit {0}) (Unit {0}) c.args.left.now c.begin.new.self c.begin.new.self c.in-Err.stop
    (Begins c.args.site.now.at ∷ []) _ c.in-Err.ensures

pub returns-in-Err-passed_value-clause-way : goal.returns-in-Err-passed_value-clause-way
returns-in-Err-passed_value-clause-way c =
    let mid = c.begin.new.self in
    let vs = c.args.variables.now in
    let site = c.args.site.now in
    let low = bad (scalar_faults vs site.low) in
    let rest = bad (scalar_faults vs site.high) ++ work_way vs site (scalar_value vs site.low) (scalar_value vs site.high) in
    goes_on {X = Unit {0}} c.args.left.now mid mid (Err c.in-Err-passed_value.stop) (Begins site.at ∷ []) (low ++ rest) c.in-Ok.ensures
    (goes_stop ℤ (Unit {0}) mid mid mid c.in-Err-passed_value.stop low rest c.in-Err-passed_value.ensures.way)

pub returns-in-Err-passed_value-2-clause-way : goal.returns-in-Err-passed_value-2-clause-way
returns-in-Err-passed_value-2-clause-way c =
    let mid = c.begin.new.self in
    behind_low c.args.variables.now c.args.site.now c.args.left.now mid mid (Err c.in-Err-passed_value-2.stop) c.in-Ok.ensures
    c.in-Ok-passed_value.ensures.way
    (goes_stop ℤ (Unit {0}) mid mid mid c.in-Err-passed_value-2.stop (bad (scalar_faults c.args.variables.now c.args.site.now.high)) _
    c.in-Err-passed_value-2.ensures.way)

pub returns-clause-way : goal.returns-clause-way
returns-clause-way c =
    let mid = c.begin.new.self in
    let vs = c.args.variables.now in
    let site = c.args.site.now in
    let high = bad (scalar_faults vs site.high) in
    let work = work_way vs site (scalar_value vs site.low) (scalar_value vs site.high) in
    let fits_low : FitsSigned w64 c.in-Ok-passed_value.low = search rules in
    let fits_high : FitsSigned w64 c.in-Ok-passed_value-2.high = search rules in
    let is_low = to_z-of_z w64 c.in-Ok-passed_value.low fits_low ∙ c.in-Ok-passed_value.ensures.value in
    let is_high = to_z-of_z w64 c.in-Ok-passed_value-2.high fits_high ∙ c.in-Ok-passed_value-2.ensures.value in
    let same : work_way vs site (to_z w64 (of_z w64 c.in-Ok-passed_value.low)) (to_z w64 (of_z w64 c.in-Ok-passed_value-2.high)) ≡ work =
    ap (λ z. work_way vs site z (to_z w64 (of_z w64 c.in-Ok-passed_value-2.high))) is_low
    ∙ ap (work_way vs site (scalar_value vs site.low)) is_high in
    behind_low vs site c.args.left.now mid mid c.append.result c.in-Ok.ensures c.in-Ok-passed_value.ensures.way
    (goes_on {X = Unit {0}} mid mid mid c.append.result high work c.in-Ok-passed_value-2.ensures.way
    (done {X = Unit {0}} mid mid c.append.result work (ap (along mid) (sym same) ∙ c.in-Ok-turn_from.ensures.way) c.append.ensures.err))
