use Rattle.std.proofs.Common.{map, string_bytes}
use Rattle.fd_command.specs.Asked.{asked}
use Rattle.fd_command.specs.Shown.{shown}
use Rattle.fd_top.proofs.Answered.{kept, dropped, none_taken}
use Rattle.fd_top.proofs.run.requested_to_run.Goals as goal

pub returns-in-Err-clause-refused : goal.returns-in-Err-clause-refused
returns-in-Err-clause-refused c = λ same. none_taken (asked (map string_bytes c.args.words.now)) (c.in-Err.ensures.refused same)

pub returns-then-is_without_turns-clause-taken : goal.returns-then-is_without_turns-clause-taken
returns-then-is_without_turns-clause-taken c =
    kept (asked (map string_bytes c.args.words.now)) (shown c.in-Ok.request) c.is_without_turns.result c.in-Ok.ensures.taken
    c.is_without_turns.ensures c.if-is_without_turns.true

pub returns-else-is_without_turns-clause-refused : goal.returns-else-is_without_turns-clause-refused
returns-else-is_without_turns-clause-refused c = λ same.
    dropped (asked (map string_bytes c.args.words.now)) (shown c.in-Ok.request) c.is_without_turns.result c.in-Ok.ensures.taken
    c.is_without_turns.ensures c.if-is_without_turns.false
