use Rattle.fd_outside.proofs.Named.{fell_none, caused}
use Rattle.fd_outside.proofs.memory.MemoryFilesFiles.read_at.Goals as goal

pub returns-then-refused-clause-cause : goal.returns-then-refused-clause-cause
returns-then-refused-clause-cause c = caused c.args.self.now.files.items c.args.self.now.absent c.args.name.now _ _
    c.count_fault.ensures.counts

pub returns-then-refused-clause-later : goal.returns-then-refused-clause-later
returns-then-refused-clause-later c = fell_none c.args.self.now.files.items c.args.self.now.absent c.args.name.now _
    c.count_fault.ensures.counts

pub returns-in-None-clause-cause : goal.returns-in-None-clause-cause
returns-in-None-clause-cause c = caused c.args.self.now.files.items c.args.self.now.absent c.args.name.now _ _
    c.count_fault-in-None.ensures.counts

pub returns-in-None-clause-later : goal.returns-in-None-clause-later
returns-in-None-clause-later c = fell_none c.args.self.now.files.items c.args.self.now.absent c.args.name.now _
    c.count_fault-in-None.ensures.counts
