use Rattle.std.proofs.Common.{◌≡◌, drop, map, string_bytes}
use Rattle.std.specs.List.{list_all}
use Rattle.fd_command.specs.ClapCommand.{is_clear}
use Rattle.fd_command.proofs.request.are_clear.Given as goal

abbrev pub invariant-loop-word : goal.invariant-loop-word
invariant-loop-word l = list_all is_clear (map string_bytes (drop l.word-index l.words)) ≡ list_all is_clear (map string_bytes l.words)
