-- Clap's walk over the words, and the words read from left to right, come to the same uses.
use Rattle.std.proofs.Common.{◌≡◌, ◌∙◌, ◌⊎◌, ◌++◌, ◌==◌, inl, inr, ℕ, Bool, true, false, List, [], ◌∷◌, Option, Some, None, option_map}
use Rattle.std.proofs.Common.{if◌then◌else◌, fold, refl, ap, sym}
use Rattle.std.specs.List.{list_all, list_any, before_first, after_first}
use Rattle.std.specs.Str.{bytes_eq}
use Rattle.std.proofs.lemmas.Bool.{and_parts}
use Rattle.clap.specs.Walk.{Held, Row, Rule, idle, with_default}
use Rattle.clap.specs.Faults.{settle_fault}
use Rattle.fd_command.specs.Options.{Text, source_name}
use Rattle.fd_command.specs.Uses.{Said, option, other, Use, has, is_one_of, said}
use Rattle.fd_command.specs.ClapCommand.{is_clear}
use Rattle.fd_command.proofs.Rules.{rules_by, same_text}
use Rattle.fd_command.proofs.UseRows.{rows_by, repeated}
use Rattle.fd_command.proofs.Verdict.{given_held, waits_held, idle_walk, waits_walk, fails, IsIdle, verdict, goes, stops, ends}
use Rattle.fd_command.proofs.Verdict.{ends_unsettled, idle_given, idle_settled, given_again, waits_fault}
use Rattle.fd_command.proofs.Steps.{IsOther, IsOption, source_turn, source_walk, source_again, value_turn, value_walk, option_turn}
use Rattle.fd_command.proofs.Steps.{option_walk, flag_turn, flag_walk, flag_with_value, unknown, option_unsettled, source_unsettled}
use Rattle.fd_command.proofs.Steps.{option_waited, taken_turn, taken_walk}

-- ---- the uses, refused at the first name that is used again, or at an option in place of a value

abbrev pub next_use : (List Use → Option (List Use)) → List Use → Use → Option (List Use)
next_use rest us u = if has u.0 us then None else rest (us ++ u ∷ [])

abbrev pub read_said : List Text → List Text → (List Use → Option Text → Option (List Use)) → List Use → Said → Option (List Use)
read_said vs fs rest us (option name None) =
    if is_one_of vs name then rest us (Some name)
    else (if is_one_of fs name then next_use (λ x. rest x None) us (name, None) else None)
read_said vs fs rest us (option name (Some v)) = if is_one_of vs name then next_use (λ x. rest x None) us (name, Some v) else None
read_said vs fs rest us (other w) = next_use (λ x. rest x None) us (source_name, Some w)

abbrev pub read_value : (List Use → Option Text → Option (List Use)) → List Use → Text → Said → Option (List Use)
read_value rest us name (option n v) = None
read_value rest us name (other w) = next_use (λ x. rest x None) us (name, Some w)

unfoldable pub read : List Text → List Text → List Use → Option Text → List Text → Option (List Use)
read vs fs us None [] = Some us
read vs fs us (Some name) [] = None
read vs fs us None (word ∷ words) = read_said vs fs (λ x waiting. read vs fs x waiting words) us (said word)
read vs fs us (Some name) (word ∷ words) = read_value (λ x waiting. read vs fs x waiting words) us name (said word)

-- ---- what a word is

abbrev is_equals : ℕ → Bool
is_equals c = c == 61

-- a word that clap is handed is an option or another word, for both readings
abbrev pub Kind : Text → Type 0
Kind word = (IsOther word × (said word ≡ other word)) ⊎ ((name : Text) × (v : Option Text) × IsOption word name v
    × (said word ≡ option name v))

pub kind_of : (word : Text) → is_clear word ≡ true → Kind word
kind_of [] clear = inl (record { dashes = refl; long = refl; short = refl }, refl)
kind_of (a ∷ []) clear = by (a == 45) refl
  where
    by : (t : Bool) → (a == 45) ≡ t → Kind (a ∷ [])
    by true e = let bad : false ≡ true = rw e at clear in cc
    by false e = inl (record { dashes = rw e refl; long = rw e refl; short = rw e refl }, refl)
kind_of (a ∷ b ∷ []) clear = by (a == 45) refl
  where
    by : (t : Bool) → (a == 45) ≡ t → Kind (a ∷ b ∷ [])
    by true e = let bad : false ≡ true = rw e at clear in cc
    by false e = inl (record { dashes = rw e refl; long = rw e refl; short = rw e refl }, rw e refl)
kind_of (a ∷ b ∷ x ∷ rest) clear = by (a == 45) refl (b == 45) refl
  where
    by : (t : Bool) → (a == 45) ≡ t → (u : Bool) → (b == 45) ≡ u → Kind (a ∷ b ∷ x ∷ rest)
    by true e true f = inr (
      before_first is_equals (x ∷ rest),
      (if list_any is_equals (x ∷ rest) then Some (after_first is_equals (x ∷ rest)) else None),
      record { dashes = rw (e, f) refl; long = rw (e, f) refl },
      rw (e, f) refl,
    )
    by true e false f = let bad : false ≡ true = rw (e, f) at clear in cc
    by false e u f = inl (record { dashes = rw e refl; long = rw e refl; short = rw e refl }, rw e refl)

not_source : (vs : List Text) (name : Text) → is_one_of vs source_name ≡ false → is_one_of vs name ≡ true
    → bytes_eq name source_name ≡ false
not_source vs name none known = by (bytes_eq name source_name) refl
  where
    by : (b : Bool) → bytes_eq name source_name ≡ b → b ≡ false
    by true e = let same : name ≡ source_name = same_text name source_name e in
        let bad : true ≡ false = sym known ∙ ap (is_one_of vs) same ∙ none in cc
    by false e = refl

-- the rows that clap makes of uses
abbrev pub result : List Text → List Text → Option (List Use) → Option (List Row)
result vs fs = option_map (λ us. fold with_default (rows_by us) (rules_by vs fs))

module _ (vs fs : List Text) (no_value : is_one_of vs source_name ≡ false) (no_flag : is_one_of fs source_name ≡ false) where
  abbrev c : List Rule
  c = rules_by vs fs

  refused_later : (us : List Use) (h : Held) → fails (settle_fault c false h) ≡ true → (words : List Text) → list_all is_clear words ≡ true
      → verdict c (idle_walk us h) words ≡ None
  refused_later us h bad [] clear = ends_unsettled c us h idle _ bad
  refused_later us h bad (word ∷ words) clear = by (kind_of word ((and_parts (is_clear word) (list_all is_clear words) clear).0))
    where
      by : Kind word → verdict c (idle_walk us h) (word ∷ words) ≡ None
      by (inl k) = stops c (idle_walk us h) word words (source_unsettled vs fs us h bad word k.0)
      by (inr k) = stops c (idle_walk us h) word words (option_unsettled vs fs us h bad word k.0 k.1 k.2)

  -- from each place on, the words come to the same
  abbrev SameFrom : List Text → Type 0
  SameFrom words = ((us : List Use) (h : Held) → IsIdle c us h → verdict c (idle_walk us h) words ≡ result vs fs (read vs fs us None words))
      × ((us : List Use) (name : Text) → is_one_of vs name ≡ true → verdict c (waits_walk us name) words ≡ result vs fs
      (read vs fs us (Some name) words))

  idle_step : (word : Text) (words : List Text) → Kind word → SameFrom words → (us : List Use) (h : Held) → IsIdle c us h
      → verdict c (idle_walk us h) (word ∷ words) ≡ result vs fs (read vs fs us None (word ∷ words))
  unfolding read
  idle_step word words (inl k) rest us h at = rw k.1 (by (has source_name us) refl)
    where
      by : (b : Bool) → has source_name us ≡ b → verdict c (idle_walk us h) (word ∷ words)
          ≡ result vs fs (if b then None else read vs fs (us ++ (source_name, Some word) ∷ []) None words)
      by true e = stops c (idle_walk us h) word words (source_again vs fs us h at word k.0 e)
      by false e = goes c (idle_walk us h) _ word words (source_turn vs fs us h at word k.0 e) (source_walk vs fs us h at word k.0 e)
          ∙ rest.0 _ _ (idle_given vs fs no_value no_flag us source_name word (inr refl) e)
  idle_step word words (inr k) rest us h at = rw k.3 (by (is_one_of vs k.0) refl (is_one_of fs k.0) refl (has k.0 us) refl k.1 k.2)
    where
      by : (b : Bool) → is_one_of vs k.0 ≡ b → (f : Bool) → is_one_of fs k.0 ≡ f → (a : Bool) → has k.0 us ≡ a → (v : Option Text)
          → IsOption word k.0 v
          → verdict c (idle_walk us h) (word ∷ words) ≡ result vs fs (read_said vs fs (λ x waiting. read vs fs x waiting words) us
          (option k.0 v))
      by true known f g a used None is = rw known (goes c (idle_walk us h) _ word words (option_turn vs fs us h at word k.0 is known)
          (option_walk vs fs us h at word k.0 is known)
          ∙ rest.1 us k.0 known)
      by true known f g true used (Some v) is =
          rw (known, used) (stops c (idle_walk us h) word words (ap fails (value_turn vs fs us h at word k.0 v is known
          ∙ ap repeated used)))
      by true known f g false used (Some v) is =
          rw (known, used) (goes c (idle_walk us h) _ word words (value_turn vs fs us h at word k.0 v is known ∙ ap repeated used)
          (value_walk vs fs us h at word k.0 v is known (not_source vs k.0 no_value known) used) ∙ rest.0 _ _ (idle_settled c _))
      by false none true g true used None is =
          rw (none, g, used) (stops c (idle_walk us h) word words (ap fails (flag_turn vs fs us h at word k.0 is none g
          ∙ ap repeated used)))
      by false none true g false used None is =
          rw (none, g, used) (goes c (idle_walk us h) _ word words (flag_turn vs fs us h at word k.0 is none g ∙ ap repeated used)
          (flag_walk vs fs us h at word k.0 is none g (not_source fs k.0 no_flag g) used) ∙ rest.0 _ _ (idle_settled c _))
      by false none true g a used (Some v) is =
          rw none (stops c (idle_walk us h) word words (flag_with_value vs fs us h word k.0 v is none g))
      by false none false g a used None is = rw (none, g) (stops c (idle_walk us h) word words (unknown vs fs us h word k.0 None is none g))
      by false none false g a used (Some v) is =
          rw none (stops c (idle_walk us h) word words (unknown vs fs us h word k.0 (Some v) is none g))

  waits_step : (word : Text) (words : List Text) → list_all is_clear words ≡ true → Kind word → SameFrom words
      → (us : List Use) (name : Text) → is_one_of vs name ≡ true
      → verdict c (waits_walk us name) (word ∷ words) ≡ result vs fs (read vs fs us (Some name) (word ∷ words))
  unfolding read
  waits_step word words clear (inl k) rest us name known = rw k.1 (by (has name us) refl)
    where
      step : verdict c (waits_walk us name) (word ∷ words)
          ≡ verdict c (idle_walk (us ++ (name, Some word) ∷ []) (given_held us name word)) words
      step = goes c (waits_walk us name) _ word words (taken_turn vs fs us name known word k.0) (taken_walk vs fs us name known word k.0
          (not_source vs name no_value known))

      by : (b : Bool) → has name us ≡ b → verdict c (waits_walk us name) (word ∷ words)
          ≡ result vs fs (if b then None else read vs fs (us ++ (name, Some word) ∷ []) None words)
      by true e = step ∙ refused_later (us ++ (name, Some word) ∷ []) (given_held us name word)
          (given_again vs fs no_value no_flag us name word (inl known) e) words clear
      by false e = step ∙ rest.0 (us ++ (name, Some word) ∷ []) (given_held us name word) (idle_given vs fs no_value no_flag us name word
          (inl known) e)
  waits_step word words clear (inr k) rest us name known =
      rw k.3 (stops c (waits_walk us name) word words (option_waited vs fs us name known word k.0 k.1 k.2))

  pub simulates : (words : List Text) → list_all is_clear words ≡ true → SameFrom words
  unfolding read
  simulates [] clear = (
    λ us h at. ends vs fs us h at,
    λ us name known. ends_unsettled c us (waits_held us name) _ _
        (waits_fault vs fs us name known),
  )
  simulates (word ∷ words) clear =
      let parts = and_parts (is_clear word) (list_all is_clear words) clear in
      let rest = simulates words parts.1 in (
        λ us h at. idle_step word words (kind_of word parts.0) rest us h at,
        λ us name known. waits_step word words parts.1 (kind_of word parts.0) rest us name known,
      )
