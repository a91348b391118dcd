use Rattle.std.proofs.Common.{◌≡◌, ◌<◌, ℕ, List, length, ◌++◌, ◌∙◌, sym, ap, map, take, get_or, arith}
use Rattle.std.specs.Str.{encode_utf8_all}
use Rattle.std.specs.Char.{to_ascii_lowercase, encode_utf8}
use Rattle.fd_load.proofs.Names.{name_more}
use Rattle.fd_load.proofs.file.file_name.Goals as goal

pub loop-byte-preserved : goal.loop-byte-preserved
loop-byte-preserved c =
    let bytes = c.as_slice-bytes.result.now in
    let i = c.loop-byte.byte-index in
    let less : i < length bytes = omega (arith, c.loop-byte-test.true) in
    let pushed : c.push.new.self.bytes.items ≡ c.loop-byte.text.bytes.items ++ encode_utf8 c.from.result = c.in_ok-push.ensures.bytes in
    let low : c.from.result ≡ to_ascii_lowercase (get_or bytes i 0) = c.from.ensures ∙ c.to_ascii_lowercase.ensures.value in
    pushed ∙ ap (λ (t : List ℕ). t ++ encode_utf8 c.from.result) c.loop-byte.invariant
    ∙ ap (λ n. encode_utf8_all (map to_ascii_lowercase (take i bytes)) ++ encode_utf8 n) low
    ∙ sym (name_more bytes i 0 less)
