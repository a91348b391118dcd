use Rattle.bsp_example.proofs.Ordered.{in_rounds}
use Rattle.bsp_example.proofs.runs.finished.Goals as goal

pub returns-in-Ok-clause-order : goal.returns-in-Ok-clause-order
returns-in-Ok-clause-order c =
    let plan = c.args.flags.now in
    let begun = c.in_ok-world.ensures in
    in_rounds plan (c.requires.some, c.requires.few) c.in-Ok.field-0 c.in_ok-world.world c.round_robin.new.self c.in-Ok.ensures.script
    begun.at begun.nodes begun.moved c.in-Ok.ensures.count
    (c.in-Ok.ensures.over plan (c.requires.some, c.requires.few) begun.at)
