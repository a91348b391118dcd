-- One word of clap's walk.
use Rattle.std.proofs.Common.{◌≡◌, ◌∙◌, ◌&&◌, ◌||◌, ◌++◌, ℕ, Bool, true, false, List, [], ◌∷◌, Option, Some, None, if◌then◌else◌, refl, ap}
use Rattle.std.proofs.Common.{sym}
use Rattle.std.specs.Str.{bytes_eq}
use Rattle.clap.specs.Lexer.{long_of, short_of}
use Rattle.clap.specs.Walk.{Held, Row, Walk, idle, option, value as no_flag_word, walked, is_pending, used, arg_by_long}
use Rattle.clap.specs.Faults.{long_fault, step_fault, settle_fault, turn_fault, use_fault}
use Rattle.clap.specs.Kinds.{Kinds, or_else}
use Rattle.fd_command.specs.Options.{Text, source_name}
use Rattle.fd_command.specs.Uses.{Use, has, is_one_of}
use Rattle.fd_command.proofs.Rules.{value_made, flag_made, source_made, rules_by, shape_by, long_found, first_found, second_found}
use Rattle.fd_command.proofs.Rules.{value_found, self_text}
use Rattle.fd_command.proofs.UseRows.{repeated, used_value, used_flag, value_fault, flag_fault}
use Rattle.fd_command.proofs.Verdict.{place_of, settled_held, given_held, waits_held, idle_walk, waits_walk, fails, waits_fault, IsIdle}

-- the word is no option, and no short flags
pub record IsOther (word : Text) : Type 0 where
  pub dashes : bytes_eq word (45 ∷ 45 ∷ []) ≡ false
  pub long : long_of word ≡ None
  pub short : short_of word ≡ None

pub record IsOption (word name : Text) (value : Option Text) : Type 0 where
  pub dashes : bytes_eq word (45 ∷ 45 ∷ []) ≡ false
  pub long : long_of word ≡ Some (name, value)

pub has_append : (name : Text) (us : List Use) (u : Use) → has name (us ++ u ∷ []) ≡ has name us || bytes_eq u.0 name
has_append name [] u = by (bytes_eq u.0 name)
  where
    by : (b : Bool) → b || false ≡ b
    by true = refl
    by false = refl
has_append name (v ∷ us) u = by (bytes_eq v.0 name) (has_append name us u)
  where
    by : (b : Bool) → has name (us ++ u ∷ []) ≡ has name us || bytes_eq u.0 name
        → b || has name (us ++ u ∷ []) ≡ (b || has name us) || bytes_eq u.0 name
    by true e = refl
    by false e = e

still : (b : Bool) → b && false ≡ false
still true = refl
still false = refl

place_after : (us : List Use) (u : Use) (b : Bool) → bytes_eq u.0 source_name ≡ b → place_of (has source_name (us ++ u ∷ []))
    ≡ place_of (has source_name us || b)
place_after us u b e = ap place_of (has_append source_name us u ∙ ap (λ (x : Bool). has source_name us || x) e)

or_no : (b : Bool) → b || false ≡ b
or_no true = refl
or_no false = refl

-- the place in the walk is the same after a use of an option
pub same_place : (us : List Use) (u : Use) → bytes_eq u.0 source_name ≡ false → place_of (has source_name us)
    ≡ place_of (has source_name (us ++ u ∷ []))
same_place us u e = sym (place_after us u false e ∙ ap place_of (or_no (has source_name us)))

-- ---- nothing waits, and all uses so far are no conflict

module _ (vs fs : List Text) (us : List Use) (h : Held) (at : IsIdle (rules_by vs fs) us h) (word : Text) where
  pub source_turn : IsOther word → has source_name us ≡ false → turn_fault (shape_by (rules_by vs fs)) [] (idle_walk us h) word ≡ []
  source_turn is new = rw (is.dashes, is.long, is.short, new, first_found vs fs, at.clean, still (is_pending source_made h.pending)) refl

  pub source_walk : IsOther word → has source_name us ≡ false
      → walked (rules_by vs fs) [] (idle_walk us h) word ≡ idle_walk (us ++ (source_name, Some word) ∷ []) (given_held us source_name word)
  unfolding walked
  source_walk is new =
      rw (is.dashes, is.long, is.short, new, first_found vs fs, still (is_pending source_made h.pending))
      (ap (λ (x : Held). by (record { rows = x.rows; pending = Some (source_name, word ∷ []); skip = x.skip }) 2) at.rests
      ∙ ap (λ (n : ℕ). by (given_held us source_name word) n)
      (sym (ap place_of (has_append source_name us (source_name, Some word) ∙ ap (λ (b : Bool). b || true) new))))
    where
      by : Held → ℕ → Walk
      by x n = record { held = x; waiting = idle; position = n; is_trailing = false; stopped = None }

  pub source_again : IsOther word → has source_name us ≡ true → fails (turn_fault (shape_by (rules_by vs fs)) [] (idle_walk us h) word)
      ≡ true
  source_again is old = rw (is.dashes, is.long, is.short, old, second_found vs fs) refl

  pub value_turn : (name value : Text) → IsOption word name (Some value) → is_one_of vs name ≡ true
      → turn_fault (shape_by (rules_by vs fs)) [] (idle_walk us h) word ≡ repeated (has name us)
  value_turn name value is known =
      rw (is.dashes, is.long, long_found vs fs name, known, at.clean)
      (ap (λ (x : Held). or_else (use_fault false (value_made name) (value ∷ []) x.rows) []) at.rests
      ∙ ap (λ (ks : Kinds). or_else ks []) (value_fault name value us) ∙ end (has name us))
    where
      end : (b : Bool) → or_else (repeated b) [] ≡ repeated b
      end true = refl
      end false = refl

  pub value_walk : (name value : Text) → IsOption word name (Some value) → is_one_of vs name ≡ true → bytes_eq name source_name ≡ false
      → has name us ≡ false
      → walked (rules_by vs fs) [] (idle_walk us h) word ≡ idle_walk (us ++ (name, Some value) ∷ [])
      (settled_held (us ++ (name, Some value) ∷ []))
  unfolding walked
  value_walk name value is known own new =
      rw (is.dashes, is.long, long_found vs fs name, known)
      (ap (λ (x : Held). by (record { rows = used (value_made name) (value ∷ []) x.rows; pending = None; skip = x.skip })
      (place_of (has source_name us))) at.rests
      ∙ ap (λ (rs : List Row). by (record { rows = rs; pending = None; skip = 0 }) (place_of (has source_name us)))
      (used_value name value us new)
      ∙ ap (λ (n : ℕ). by (settled_held (us ++ (name, Some value) ∷ [])) n) (same_place us (name, Some value) own))
    where
      by : Held → ℕ → Walk
      by x n = record { held = x; waiting = idle; position = n; is_trailing = false; stopped = None }

  pub option_turn : (name : Text) → IsOption word name None → is_one_of vs name ≡ true → turn_fault (shape_by (rules_by vs fs)) []
      (idle_walk us h) word ≡ []
  option_turn name is known = rw (is.dashes, is.long, long_found vs fs name, known, at.clean) refl

  pub option_walk : (name : Text) → IsOption word name None → is_one_of vs name ≡ true
      → walked (rules_by vs fs) [] (idle_walk us h) word ≡ waits_walk us name
  unfolding walked
  option_walk name is known =
      rw (is.dashes, is.long, long_found vs fs name, known)
      (ap (λ (x : Held). by (record { rows = x.rows; pending = Some (name, []); skip = x.skip })) at.rests)
    where
      by : Held → Walk
      by x = record { held = x; waiting = option name; position = place_of (has source_name us); is_trailing = false; stopped = None }

  pub flag_turn : (name : Text) → IsOption word name None → is_one_of vs name ≡ false → is_one_of fs name ≡ true
      → turn_fault (shape_by (rules_by vs fs)) [] (idle_walk us h) word ≡ repeated (has name us)
  flag_turn name is other known =
      rw (is.dashes, is.long, long_found vs fs name, other, known, at.clean)
      (ap (λ (x : Held). or_else (use_fault false (flag_made name) [] x.rows) []) at.rests
      ∙ ap (λ (ks : Kinds). or_else ks []) (flag_fault name us) ∙ end (has name us))
    where
      end : (b : Bool) → or_else (repeated b) [] ≡ repeated b
      end true = refl
      end false = refl

  pub flag_walk : (name : Text) → IsOption word name None → is_one_of vs name ≡ false → is_one_of fs name ≡ true
      → bytes_eq name source_name ≡ false → has name us ≡ false
      → walked (rules_by vs fs) [] (idle_walk us h) word ≡ idle_walk (us ++ (name, None) ∷ []) (settled_held (us ++ (name, None) ∷ []))
  unfolding walked
  flag_walk name is other known own new =
      rw (is.dashes, is.long, long_found vs fs name, other, known)
      (ap (λ (x : Held). by (record { rows = used (flag_made name) [] x.rows; pending = None; skip = x.skip })
      (place_of (has source_name us))) at.rests
      ∙ ap (λ (rs : List Row). by (record { rows = rs; pending = None; skip = 0 }) (place_of (has source_name us))) (used_flag name us new)
      ∙ ap (λ (n : ℕ). by (settled_held (us ++ (name, None) ∷ [])) n) (same_place us (name, None) own))
    where
      by : Held → ℕ → Walk
      by x n = record { held = x; waiting = idle; position = n; is_trailing = false; stopped = None }

-- ---- words that clap refuses

module _ (vs fs : List Text) (us : List Use) (h : Held) (word : Text) where
  pub flag_with_value : (name value : Text) → IsOption word name (Some value) → is_one_of vs name ≡ false → is_one_of fs name ≡ true
      → fails (turn_fault (shape_by (rules_by vs fs)) [] (idle_walk us h) word) ≡ true
  flag_with_value name value is other known = rw (is.dashes, is.long, long_found vs fs name, other, known) refl

  pub unknown : (name : Text) (value : Option Text) → IsOption word name value → is_one_of vs name ≡ false → is_one_of fs name ≡ false
      → fails (turn_fault (shape_by (rules_by vs fs)) [] (idle_walk us h) word) ≡ true
  unknown name value is other no_flag = rw (is.dashes, is.long, long_found vs fs name, other, no_flag) refl

-- ---- a use that can't be settled, or an option that waits

pub or_fails : (a b : Kinds) → fails a ≡ true → fails (or_else a b) ≡ true
or_fails [] b bad = cc
or_fails (k ∷ ks) b bad = refl

-- what clap finds at an option, where it can't settle what stands before
module _ (vs fs : List Text) (h : Held) (bad : fails (settle_fault (rules_by vs fs) false h) ≡ true) (name : Text) where
  option_fails : (value : Option Text) → fails (long_fault (rules_by vs fs) false (arg_by_long (rules_by vs fs) name) value h) ≡ true
  option_fails value = rw (long_found vs fs name) (by (is_one_of vs name) (is_one_of fs name) value)
    where
      with_flag : (f : Bool) (v : Option Text) → fails (long_fault (rules_by vs fs) false (if f then Some (flag_made name) else None) v h)
          ≡ true
      with_flag true None = or_fails _ _ bad
      with_flag true (Some v) = refl
      with_flag false v = refl

      by : (b f : Bool) (v : Option Text)
          → fails (long_fault (rules_by vs fs) false (if b then Some (value_made name) else (if f then Some (flag_made name) else None)) v
          h) ≡ true
      by true f None = bad
      by true f (Some v) = or_fails _ _ bad
      by false f v = with_flag f v

module _ (vs fs : List Text) (us : List Use) (h : Held) (bad : fails (settle_fault (rules_by vs fs) false h) ≡ true) (word : Text) where
  pub option_unsettled : (name : Text) (value : Option Text) → IsOption word name value
      → fails (turn_fault (shape_by (rules_by vs fs)) [] (idle_walk us h) word) ≡ true
  option_unsettled name value is = rw (is.dashes, is.long) (or_fails _ _ (option_fails vs fs h bad name value))

  pub source_unsettled : IsOther word → fails (turn_fault (shape_by (rules_by vs fs)) [] (idle_walk us h) word) ≡ true
  source_unsettled is = rw (is.dashes, is.long, is.short) (by (has source_name us))
    where
      by : (b : Bool) → fails (step_fault (shape_by (rules_by vs fs)) (place_of b) h no_flag_word) ≡ true
      by true = rw (second_found vs fs) refl
      by false = rw (first_found vs fs, still (is_pending source_made h.pending)) bad

module _ (vs fs : List Text) (us : List Use) (name : Text) (known : is_one_of vs name ≡ true) (word : Text) where
  pub option_waited : (other : Text) (value : Option Text) → IsOption word other value
      → fails (turn_fault (shape_by (rules_by vs fs)) [] (waits_walk us name) word) ≡ true
  option_waited other value is =
      rw (is.dashes, is.long) (or_fails _ _ (option_fails vs fs (waits_held us name) (waits_fault vs fs us name known) other value))

  pub taken_turn : IsOther word → turn_fault (shape_by (rules_by vs fs)) [] (waits_walk us name) word ≡ []
  taken_turn is = rw (is.dashes, is.long, is.short) refl

  pub taken_walk : IsOther word → bytes_eq name source_name ≡ false
      → walked (rules_by vs fs) [] (waits_walk us name) word ≡ idle_walk (us ++ (name, Some word) ∷ []) (given_held us name word)
  unfolding walked
  taken_walk is own =
      rw (is.dashes, is.long, is.short, value_found vs fs name known, self_text name)
      (ap (λ (n : ℕ). by (given_held us name word) n) (same_place us (name, Some word) own))
    where
      by : Held → ℕ → Walk
      by x n = record { held = x; waiting = idle; position = n; is_trailing = false; stopped = None }
