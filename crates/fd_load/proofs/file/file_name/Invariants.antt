use Rattle.std.proofs.Common.{◌≡◌, map, take}
use Rattle.std.specs.Str.{encode_utf8_all}
use Rattle.std.specs.Char.{to_ascii_lowercase}
use Rattle.fd_load.proofs.file.file_name.Given as goal

abbrev pub invariant-loop-byte : goal.invariant-loop-byte
invariant-loop-byte l = l.text.bytes.items ≡ encode_utf8_all (map to_ascii_lowercase (take l.byte-index l.bytes))
