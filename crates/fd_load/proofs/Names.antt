-- The name of a file, byte by byte.
use Rattle.std.proofs.Common.{◌≡◌, ℕ, ◌+◌, ◌<◌, List, [], ◌∷◌, ◌++◌, length, map, append-nil, take, get_or, ap, ◌∙◌}
use Rattle.std.specs.Str.{encode_utf8_all}
use Rattle.std.specs.Char.{to_ascii_lowercase, encode_utf8}
use Rattle.std.proofs.lemmas.List.{take_more, map-append}
use Rattle.std.proofs.lemmas.Str.{encodes-append}

pub name_more : (bytes : List ℕ) (i : ℕ) (d : ℕ) → i < length bytes
    → encode_utf8_all (map to_ascii_lowercase (take (i + 1) bytes)) ≡ encode_utf8_all (map to_ascii_lowercase (take i bytes))
    ++ encode_utf8 (to_ascii_lowercase (get_or bytes i d))
name_more bytes i d less =
    ap (λ bs. encode_utf8_all (map to_ascii_lowercase bs)) (take_more bytes i d less)
    ∙ ap encode_utf8_all (map-append to_ascii_lowercase (take i bytes) (get_or bytes i d ∷ []))
    ∙ encodes-append (map to_ascii_lowercase (take i bytes)) (to_ascii_lowercase (get_or bytes i d) ∷ [])
    ∙ ap (λ bs. encode_utf8_all (map to_ascii_lowercase (take i bytes)) ++ bs)
    (append-nil (encode_utf8 (to_ascii_lowercase (get_or bytes i d))))
