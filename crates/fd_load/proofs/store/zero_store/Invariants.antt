use Rattle.std.proofs.Common.{◌≡◌, take}
use Rattle.fd_program.specs.Stores.{zeros_of}
use Rattle.fd_load.proofs.store.zero_store.Given as goal

abbrev pub invariant-loop-facts : goal.invariant-loop-facts
invariant-loop-facts l = l.store ≡ zeros_of (take l.facts-index l.arrays)
