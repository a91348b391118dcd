use Rattle.std.proofs.Common.{rules, ◌≡◌, refl, ◌++◌, arith}
use Rattle.fd_program.specs.Stores.{number_at}
use Rattle.chaos_records.specs.Keeping.{is_marked, given_if}
use Rattle.chaos_records.proofs.Marks.{picked_kept}
use Rattle.chaos_records.proofs.records.Records.changes_marked.Goals as goal

pub loop-array-preserved : goal.loop-array-preserved
loop-array-preserved c =
    let added : c.add_if.new.numbers ≡ c.loop-array.changes ++ given_if (is_marked c.args.marks.now c.loop-array.array)
    (number_at c.args.self.now.changes c.loop-array.array) = search rules in
    picked_kept (is_marked c.args.marks.now) (number_at c.args.self.now.changes) c.loop-array.changes _ c.args.count c.loop-array.array _
    _ _ (omega arith)
    refl refl added c.loop-array.invariant
