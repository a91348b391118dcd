use Rattle.std.proofs.Common.{◌≡◌, rules, is_none, false}
use Rattle.fd_outside.specs.Named.{bytes_in}
use Rattle.fd_outside.proofs.Named.{marked_contents, marked_faults}
use Rattle.fd_outside.proofs.memory.MemoryFiles.count_fault.Goals as goal

pub returns-else-is_none-clause-same : goal.returns-else-is_none-clause-same
returns-else-is_none-clause-same c = marked_contents c.args.self.now.files.items c.count_in.new.files.items c.args.name.now
    c.count_in.ensures

pub returns-else-is_none-clause-counts : goal.returns-else-is_none-clause-counts
returns-else-is_none-clause-counts c =
    let there : is_none (bytes_in c.args.self.now.files.items c.args.name.now) ≡ false = search rules in
    marked_faults c.args.self.now.files.items c.count_in.new.files.items c.args.self.now.absent c.args.name.now c.count_in.ensures there
