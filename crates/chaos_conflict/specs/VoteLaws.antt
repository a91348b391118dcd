-- A vote is read back from its numbers.
use Rattle.std.specs.Prelude.{◌≡◌, ◌^◌, ◌<◌, Some}
use Rattle.std.specs.Int.{w64, cast_signed, cast_unsigned}
use Rattle.std.proofs.Common.{ap, ◌∙◌, mod-eq_of_lt}
use Rattle.std.proofs.lemmas.Int.{of_z-to_z}
use Rattle.chaos_conflict.specs.declared.conflict.Conflict.{Conflict}
use Rattle.chaos_conflict.specs.Votes.{clash_numbers_of, read_clash}

pub read_clash-numbers : (c : Conflict) → c.reference < 2 ^ 32 → c.element < 2 ^ 64 → read_clash (clash_numbers_of (Some c)) ≡ Some c
read_clash-numbers c small fits =
    ap (λ n. Some (let back : Conflict = record {
      first = c.first;
      second = c.second;
      reference = n;
      element = cast_unsigned w64 (cast_signed w64 c.element);
    } in back)) (mod-eq_of_lt small)
    ∙ ap (λ n. Some (let back : Conflict = record { first = c.first; second = c.second; reference = c.reference; element = n } in back))
    (of_z-to_z w64 c.element fits)
