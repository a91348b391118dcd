use Rattle.std.proofs.Common.{◌<◌, length, arith, rules, subst, ◌∙◌, get_or, Ok, Err}
use Rattle.std.specs.Prelude.{ℤ, pos, FitsSigned}
use Rattle.std.specs.Int.{w64}
use Rattle.std.proofs.lemmas.Int.{to_z-of_z}
use Rattle.fd_edge.specs.Readings.{reading}
use Rattle.fd_load.specs.Loads.{IsFilled}
use Rattle.fd_load.proofs.Loading.{stopped, loaded_next}
use Rattle.fd_load.proofs.store.load.Goals as goal

pub returns-in-Err-clause-loaded : goal.returns-in-Err-clause-loaded
returns-in-Err-clause-loaded g c =
    let reads = c.as_slice-reads.result.now in
    let i = c.loop-number.number-index in
    let less : i < length reads = omega (arith, c.loop-number-test.true) in
    let fits : FitsSigned w64 (get_or reads i (pos 0)) = search rules in
    stopped (g.F.Files.contents c.args.files.now) (g.F.Files.contents c.loop-number.files) (g.F.Files.faults c.args.files.now)
    (g.F.Files.faults c.loop-number.files) (g.F.Files.faults c.fill.new.files)
    c.args.checked.now reads i (pos 0) c.loop-number.store c.fill.new.store c.in-Err.stop c.as_slice-reads.ensures less
    c.loop-number.invariant.loaded c.loop-number.invariant.contents
    c.loop-number.invariant.faults
    (subst (λ (z : ℤ). IsFilled (reading (g.F.Files.contents c.loop-number.files) (g.F.Files.faults c.loop-number.files)
    (g.F.Files.faults c.fill.new.files)) c.args.checked.now z c.loop-number.store c.fill.new.store (Err c.in-Err.stop))
    (to_z-of_z w64 (get_or reads i (pos 0)) fits) c.in-Err.ensures.filled)

pub loop-number-preserved : goal.loop-number-preserved
loop-number-preserved g c =
    let reads = c.as_slice-reads.result.now in
    let i = c.loop-number.number-index in
    let less : i < length reads = omega (arith, c.loop-number-test.true) in
    let fits : FitsSigned w64 (get_or reads i (pos 0)) = search rules in
    record {
      loaded =
          loaded_next (g.F.Files.contents c.args.files.now) (g.F.Files.contents c.loop-number.files)
          (g.F.Files.faults c.loop-number.files) (g.F.Files.faults c.fill.new.files)
          c.args.checked.now reads i (pos 0) c.loop-number.store c.fill.new.store c.in-Ok-fill.field-0 less c.loop-number.invariant.loaded
          c.loop-number.invariant.contents
          (subst (λ (z : ℤ). IsFilled (reading (g.F.Files.contents c.loop-number.files) (g.F.Files.faults c.loop-number.files)
          (g.F.Files.faults c.fill.new.files)) c.args.checked.now z c.loop-number.store c.fill.new.store (Ok c.in-Ok-fill.field-0))
          (to_z-of_z w64 (get_or reads i (pos 0)) fits) c.in-Ok-fill.ensures.filled);
      contents = c.fill.ensures.contents ∙ c.loop-number.invariant.contents;
      faults = λ other. omega (arith, c.loop-number.invariant.faults other, c.fill.ensures.faults other);
      reads = omega (arith, c.loop-number.invariant.reads, c.fill.ensures.reads);
    }
