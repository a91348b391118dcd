use Rattle.std.proofs.Common.{◌≡◌, length, map}
use Rattle.fd_grammar.specs.Sorts.{sort_in}
use Rattle.fd_grammar.proofs.sort.lookup.Given as goal

abbrev pub invariant-loop-table : goal.invariant-loop-table
invariant-loop-table l = sort_in (map (λ r. (r.0.now, r.1)) l.table) l.word ≡ sort_in (map (λ r. (r.0.now, r.1)) l.initial.table) l.word

abbrev pub decreases-loop-table : goal.decreases-loop-table
decreases-loop-table l = length l.table
