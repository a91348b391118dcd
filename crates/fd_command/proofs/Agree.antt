-- What words ask for, by the uses that are read with a refusal at once.
use Rattle.std.proofs.Common.{◌≡◌, ◌∙◌, ◌⊎◌, ◌++◌, ◌==◌, inl, inr, Bool, true, false, List, [], ◌∷◌, Option, Some, None, option_and_then}
use Rattle.std.proofs.Common.{if◌then◌else◌, refl, ap, sym, append_assoc, append-nil}
use Rattle.std.specs.List.{list_all}
use Rattle.std.proofs.lemmas.Bool.{and_parts}
use Rattle.fd_command.specs.Options.{Text, value_options, flags, source_name}
use Rattle.fd_command.specs.Uses.{Said, option, other, Use, before, has, is_one_of, said, use_said, uses_of}
use Rattle.fd_command.specs.Asked.{Asked, asked, asked_once}
use Rattle.fd_command.specs.ClapCommand.{is_clear}
use Rattle.fd_command.proofs.Simulation.{Kind, kind_of, next_use, read, read_said, read_value}
use Rattle.fd_command.proofs.Uses.{is_dashed, twice_asks_none, dash_asks_none}

-- what uses and then those of the words behind ask for
abbrev pub asked_after : List Use → Option (List Use) → Option Asked
asked_after us rest = option_and_then (λ more. asked_once (us ++ more)) rest

one_further : (us : List Use) (u : Use) (rest : Option (List Use)) → asked_after us (before u rest) ≡ asked_after (us ++ u ∷ []) rest
one_further us u None = refl
one_further us u (Some more) = ap asked_once (sym (append_assoc us (u ∷ []) more))

none_further : (us : List Use) (u : Use) (rest : Option (List Use)) → ((more : List Use) → asked_once (us ++ u ∷ more) ≡ None)
    → asked_after us (before u rest) ≡ None
none_further us u None none = refl
none_further us u (Some more) none = none more

option_dashed : (word name : Text) (v : Option Text) → said word ≡ option name v → is_dashed word ≡ true
option_dashed [] name v e = cc
option_dashed (a ∷ []) name v e = cc
option_dashed (a ∷ b ∷ rest) name v e = by (a == 45) refl
  where
    by : (t : Bool) → (a == 45) ≡ t → t ≡ true
    by true f = refl
    by false f = let bad : other (a ∷ b ∷ rest) ≡ option name v = rw f at e in cc

abbrev rest_of : List Text → List Use → Option Text → Option (List Use)
rest_of words us waiting = read value_options flags us waiting words

abbrev Agree : List Text → Type 0
Agree words = ((us : List Use) → option_and_then asked_once (rest_of words us None) ≡ asked_after us (uses_of None words))
    × ((us : List Use) (name : Text) → is_one_of value_options name ≡ true → option_and_then asked_once (rest_of words us (Some name))
    ≡ asked_after us (uses_of (Some name) words))

next_agrees : (words : List Text) → Agree words → (us : List Use) (u : Use)
    → option_and_then asked_once (next_use (λ x. rest_of words x None) us u) ≡ asked_after us (before u (uses_of None words))
next_agrees words rest us u = by (has u.0 us) refl
  where
    by : (b : Bool) → has u.0 us ≡ b
        → option_and_then asked_once (if b then None else rest_of words (us ++ u ∷ []) None) ≡ asked_after us
        (before u (uses_of None words))
    by true e = sym (none_further us u (uses_of None words) (λ more. twice_asks_none us more u e))
    by false e = rest.0 (us ++ u ∷ []) ∙ sym (one_further us u (uses_of None words))

said_agrees : (words : List Text) → Agree words → (us : List Use) (s : Said)
    → option_and_then asked_once (read_said value_options flags (rest_of words) us s) ≡ asked_after us
    (use_said (λ waiting. uses_of waiting words) s)
said_agrees words rest us (other w) = next_agrees words rest us (source_name, Some w)
said_agrees words rest us (option name (Some v)) = by (is_one_of value_options name)
  where
    by : (b : Bool) → option_and_then asked_once (if b then next_use (λ x. rest_of words x None) us (name, Some v) else None)
        ≡ asked_after us (if b then before (name, Some v) (uses_of None words) else None)
    by true = next_agrees words rest us (name, Some v)
    by false = refl
said_agrees words rest us (option name None) = by (is_one_of value_options name) refl (is_one_of flags name)
  where
    by : (b : Bool) → is_one_of value_options name ≡ b → (f : Bool)
        → option_and_then asked_once (if b then rest_of words us (Some name) else (if f then next_use (λ x. rest_of words x None) us
        (name, None) else None))
        ≡ asked_after us (if b then uses_of (Some name) words else (if f then before (name, None) (uses_of None words) else None))
    by true e f = rest.1 us name e
    by false e true = next_agrees words rest us (name, None)
    by false e false = refl

value_agrees : (word : Text) (words : List Text) → Kind word → Agree words → (us : List Use) (name : Text) → is_one_of value_options name
    ≡ true
    → option_and_then asked_once (read_value (rest_of words) us name (said word)) ≡ asked_after us
    (before (name, Some word) (uses_of None words))
value_agrees word words (inl k) rest us name known = rw k.1 (next_agrees words rest us (name, Some word))
value_agrees word words (inr k) rest us name known = rw k.3 (sym (none_further us (name, Some word) (uses_of None words)
    (λ more. dash_asks_none us more name word (inl known) (option_dashed word k.0 k.1 k.3))))

agrees : (words : List Text) → list_all is_clear words ≡ true → Agree words
unfolding read uses_of
agrees [] clear = (λ us. ap asked_once (sym (append-nil us)), λ us name known. refl)
agrees (word ∷ words) clear =
    let parts = and_parts (is_clear word) (list_all is_clear words) clear in
    let rest = agrees words parts.1 in
    (λ us. said_agrees words rest us (said word), λ us name known. value_agrees word words (kind_of word parts.0) rest us name known)

-- clear words ask for what the uses ask for
pub asked_read : (words : List Text) → list_all is_clear words ≡ true
    → option_and_then asked_once (read value_options flags [] None words) ≡ asked words
asked_read words clear = (agrees words clear).0 []

-- ---- words that clap isn't handed

unclear_kind : (word : Text) → is_clear word ≡ false → (is_dashed word ≡ true) × ((said word ≡ other word) ⊎ (said word ≡ option [] None))
unclear_kind [] e = cc
unclear_kind (a ∷ []) e = by (a == 45) refl
  where
    by : (t : Bool) → (a == 45) ≡ t → (t ≡ true) × ((said (a ∷ []) ≡ other (a ∷ [])) ⊎ (said (a ∷ []) ≡ option [] None))
    by true f = (refl, inl refl)
    by false f = let bad : true ≡ false = rw f at e in cc
unclear_kind (a ∷ b ∷ []) e = by (a == 45) refl (b == 45) refl
  where
    by : (t : Bool) → (a == 45) ≡ t → (u : Bool) → (b == 45) ≡ u
        → (t ≡ true) × ((said (a ∷ b ∷ []) ≡ other (a ∷ b ∷ [])) ⊎ (said (a ∷ b ∷ []) ≡ option [] None))
    by true f true g = (refl, inr (rw (f, g) refl))
    by true f false g = (refl, inl (rw (f, g) refl))
    by false f u g = let bad : true ≡ false = rw f at e in cc
unclear_kind (a ∷ b ∷ x ∷ rest) e = by (a == 45) refl (b == 45) refl
  where
    by : (t : Bool) → (a == 45) ≡ t → (u : Bool) → (b == 45) ≡ u
        → (t ≡ true) × ((said (a ∷ b ∷ x ∷ rest) ≡ other (a ∷ b ∷ x ∷ rest)) ⊎ (said (a ∷ b ∷ x ∷ rest) ≡ option [] None))
    by true f true g = let bad : true ≡ false = rw (f, g) at e in cc
    by true f false g = (refl, inl (rw (f, g) refl))
    by false f u g = let bad : true ≡ false = rw f at e in cc

abbrev AsksNone : List Text → Type 0
AsksNone words = ((us : List Use) → asked_after us (uses_of None words) ≡ None)
    × ((us : List Use) (name : Text) → is_one_of value_options name ≡ true → asked_after us (uses_of (Some name) words) ≡ None)

said_asks_none : (words : List Text) → AsksNone words → (us : List Use) (s : Said)
    → asked_after us (use_said (λ waiting. uses_of waiting words) s) ≡ None
said_asks_none words rest us (other w) = one_further us (source_name, Some w) (uses_of None words)
    ∙ rest.0 (us ++ (source_name, Some w) ∷ [])
said_asks_none words rest us (option name (Some v)) = by (is_one_of value_options name)
  where
    by : (b : Bool) → asked_after us (if b then before (name, Some v) (uses_of None words) else None) ≡ None
    by true = one_further us (name, Some v) (uses_of None words) ∙ rest.0 (us ++ (name, Some v) ∷ [])
    by false = refl
said_asks_none words rest us (option name None) = by (is_one_of value_options name) refl (is_one_of flags name)
  where
    by : (b : Bool) → is_one_of value_options name ≡ b → (f : Bool)
        → asked_after us (if b then uses_of (Some name) words else (if f then before (name, None) (uses_of None words) else None)) ≡ None
    by true e f = rest.1 us name e
    by false e true = one_further us (name, None) (uses_of None words) ∙ rest.0 (us ++ (name, None) ∷ [])
    by false e false = refl

unclear_head : (word : Text) (words : List Text) → is_clear word ≡ false → AsksNone (word ∷ words)
unfolding uses_of
unclear_head word words e =
    let k = unclear_kind word e in (
      λ us. by us k.1 k.0,
      λ us name known. none_further us (name, Some word) (uses_of None words)
          (λ more. dash_asks_none us more name word (inl known) k.0),
    )
  where
    by : (us : List Use) → (said word ≡ other word) ⊎ (said word ≡ option [] None) → is_dashed word ≡ true
        → asked_after us (use_said (λ waiting. uses_of waiting words) (said word)) ≡ None
    by us (inl f) dash = rw f (none_further us (source_name, Some word) (uses_of None words)
        (λ more. dash_asks_none us more source_name word (inr refl) dash))
    by us (inr f) dash = rw f refl

unclear_none : (words : List Text) → list_all is_clear words ≡ false → AsksNone words
unfolding uses_of
unclear_none [] e = cc
unclear_none (word ∷ words) e = by (is_clear word) refl (unclear_none words)
  where
    by : (b : Bool) → is_clear word ≡ b → (list_all is_clear words ≡ false → AsksNone words) → AsksNone (word ∷ words)
    by false f rest = unclear_head word words f
    by true f rest =
        let more : list_all is_clear words ≡ false = rw f at e in
        let none = rest more in (
          λ us. said_asks_none words none us (said word),
          λ us name known. one_further us (name, Some word) (uses_of None words)
              ∙ none.0 (us ++ (name, Some word) ∷ []),
        )

-- words of which one isn't clear aren't taken
pub unclear_asks_none : (words : List Text) → list_all is_clear words ≡ false → asked words ≡ None
unclear_asks_none words e = (unclear_none words e).0 []
