use Rattle.std.proofs.Common.{◌≡◌, rules, is_none, false}
use Rattle.fd_outside.specs.Named.{bytes_in}
use Rattle.fd_outside.proofs.Named.{refilled_contents, refilled_faults}
use Rattle.fd_outside.proofs.memory.MemoryFiles.add.Goals as goal

pub returns-clause-held : goal.returns-clause-held
returns-clause-held c =
    let there : is_none (bytes_in c.args.self.now.files.items c.args.name.now) ≡ false = search rules in
    refilled_contents c.args.self.now.files.items c.replace_in.new.files.items c.args.bytes c.args.name.now c.replace_in.ensures there

pub returns-clause-faults : goal.returns-clause-faults
returns-clause-faults c = refilled_faults c.args.self.now.files.items c.replace_in.new.files.items c.args.bytes c.args.self.now.absent
    c.args.name.now c.replace_in.ensures
