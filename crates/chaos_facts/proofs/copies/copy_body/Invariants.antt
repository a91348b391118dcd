use Rattle.std.proofs.Common.{◌≡◌, take}
use Rattle.chaos_facts.proofs.copies.copy_body.Given as goal

abbrev pub invariant-loop-statement : goal.invariant-loop-statement
invariant-loop-statement l = l.copies ≡ take l.statement-index l.body
