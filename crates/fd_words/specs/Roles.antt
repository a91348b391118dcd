-- The roles of references.
use Rattle.std.specs.Prelude.{Bool, true, false}
use Rattle.fd_words.specs.declared.place.Role.{Role}
use Rattle.fd_words.specs.declared.place.Role.TheVariants.{Index, Read, Target}

abbrev pub is_index : Role → Bool
is_index Index = true
is_index Read = false
is_index Target = false

abbrev pub is_read : Role → Bool
is_read Index = false
is_read Read = true
is_read Target = false

abbrev pub is_target : Role → Bool
is_target Index = false
is_target Read = false
is_target Target = true
