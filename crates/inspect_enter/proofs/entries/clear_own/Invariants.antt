use Rattle.std.proofs.Common.{◌≡◌, ℕ, take, length}
use Rattle.plan_tables.specs.Tables.{entry_at, cleared_all}
use Rattle.inspect_enter.proofs.entries.clear_own.Given as goal

abbrev pub invariant-loop-reference : goal.invariant-loop-reference
invariant-loop-reference l = record {
  entries : (d e : ℕ) → entry_at l.tables d e ≡ cleared_all l.facts d (take l.reference-index l.references) (entry_at l.fn.tables d e);
  count : length l.tables ≡ length l.fn.tables;
}
