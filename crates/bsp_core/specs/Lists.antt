-- Lists of letters as the code keeps them, and answers of a take.
use Rattle.std.specs.Prelude.{List, Result, Ok, Err, map, Vec, Bool, true, false}
use Rattle.fd_words.specs.declared.wanting.Memory.{Memory}

-- the lists in a list of Vecs
abbrev pub items_of : {X Z : Type 0} → List (Vec X Z) → List (List X)
items_of vs = map (λ v. v.items) vs

abbrev pub OnOkTrue : Result Bool Memory → Type 0 → Type 0
OnOkTrue (Ok true) P = P
OnOkTrue (Ok false) P = Unit {0}
OnOkTrue (Err _) P = Unit {0}

abbrev pub OnOkFalse : Result Bool Memory → Type 0 → Type 0
OnOkFalse (Ok false) P = P
OnOkFalse (Ok true) P = Unit {0}
OnOkFalse (Err _) P = Unit {0}
