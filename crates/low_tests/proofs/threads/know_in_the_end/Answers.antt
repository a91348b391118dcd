use Rattle.low_tests.proofs.threads.know_in_the_end.Goals as goal

pub drive_all-requires-clause-together : goal.drive_all-requires-clause-together
drive_all-requires-clause-together g c κs within = (c.args.flags.now, (c.requires.some, c.requires.few), c.in_ok-nodes.ensures.begins)
