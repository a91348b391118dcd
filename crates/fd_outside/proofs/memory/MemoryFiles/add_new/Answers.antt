use Rattle.std.proofs.Common.{rules, refl}
use Rattle.fd_outside.proofs.Named.{pushed_contents, pushed_faults}
use Rattle.fd_outside.proofs.memory.MemoryFiles.add_new.Goals as goal

pub returns-clause-held : goal.returns-clause-held
returns-clause-held c = pushed_contents c.args.self.now.files.items _ _ c.args.name.now c.in_ok-push.ensures.items (search rules) c.requires

pub returns-clause-faults : goal.returns-clause-faults
returns-clause-faults c = pushed_faults c.args.self.now.files.items _ _ c.args.self.now.absent c.in_ok-push.ensures.items refl
