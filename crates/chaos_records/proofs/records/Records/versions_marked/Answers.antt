use Rattle.std.proofs.Common.{rules, ◌≡◌, refl, ◌++◌, arith}
use Rattle.chaos_records.specs.Keeping.{is_marked, given_if, setting_in}
use Rattle.chaos_records.proofs.Marks.{picked_kept}
use Rattle.chaos_records.proofs.records.Records.versions_marked.Goals as goal

pub loop-d-preserved : goal.loop-d-preserved
loop-d-preserved c =
    let added : c.add_if.new.numbers ≡ c.loop-d.versions ++ given_if (is_marked c.args.marks.now c.loop-d.d)
    (setting_in c.args.self.now c.loop-d.d).version = search rules in
    picked_kept (is_marked c.args.marks.now) (λ d. (setting_in c.args.self.now d).version) c.loop-d.versions _ c.args.count c.loop-d.d _ _
    _ (omega arith)
    refl refl added c.loop-d.invariant
