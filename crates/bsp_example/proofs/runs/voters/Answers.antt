use Rattle.bsp_example.proofs.runs.voters.Goals as goal

pub new-requires : goal.new-requires
new-requires c = record { together = (c.args.flags.now, (c.requires.some, c.requires.few), c.in_ok-nodes.ensures.begins) }

pub returns-clause-at : goal.returns-clause-at
returns-clause-at c = c.in_ok-world.ensures.at c.args.flags.now (c.requires.some, c.requires.few) c.in_ok-nodes.ensures.begins
