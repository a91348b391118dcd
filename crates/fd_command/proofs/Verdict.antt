-- What clap makes of the words from a place of its walk on.
use Rattle.std.proofs.Common.{◌≡◌, ◌∙◌, ◌⊎◌, ◌&&◌, ◌||◌, ◌++◌, inl, inr, ℕ, Bool, true, false, not, List, [], ◌∷◌, Option, Some, None}
use Rattle.std.proofs.Common.{if◌then◌else◌, is_some, fold, refl, ap}
use Rattle.std.specs.List.{list_any}
use Rattle.clap.specs.Takes.{is_given}
use Rattle.clap.specs.Walk.{Held, Row, Rule, Walk, Waiting, idle, option, finished, settled, settled_rows, walked, with_default, has_row}
use Rattle.clap.specs.Faults.{check_fault, defaults_fault, entered_fault, settle_fault, turn_fault, walk_fault}
use Rattle.clap.specs.Simple.{entered}
use Rattle.clap.specs.Kinds.{Kinds, or_else}
use Rattle.fd_command.specs.Options.{Text, source_name}
use Rattle.fd_command.specs.Uses.{Use, has, is_one_of}
use Rattle.fd_command.proofs.Rules.{value_made, flag_made, rules_by, flag_rules, shape_by, app_by, value_found, source_found}
use Rattle.fd_command.proofs.UseRows.{rows_by, repeated, used_value, used_source, value_fault, source_fault}

abbrev pub place_of : Bool → ℕ
place_of true = 2
place_of false = 1

-- all uses are settled
abbrev pub settled_held : List Use → Held
settled_held us = record { rows = rows_by us; pending = None; skip = 0 }

-- one more use has its value, and isn't settled yet
abbrev pub given_held : List Use → Text → Text → Held
given_held us name value = record { rows = rows_by us; pending = Some (name, value ∷ []); skip = 0 }

-- an option waits for its value
abbrev pub waits_held : List Use → Text → Held
waits_held us name = record { rows = rows_by us; pending = Some (name, []); skip = 0 }

abbrev pub idle_walk : List Use → Held → Walk
idle_walk us h = record {
  held = h;
  waiting = idle;
  position = place_of (has source_name us);
  is_trailing = false;
  stopped = None;
}

abbrev pub waits_walk : List Use → Text → Walk
waits_walk us name = record {
  held = waits_held us name;
  waiting = option name;
  position = place_of (has source_name us);
  is_trailing = false;
  stopped = None;
}

abbrev pub fails : Kinds → Bool
fails [] = false
fails (k ∷ ks) = true

abbrev pub ending_fault : List Rule → Walk → Kinds
ending_fault c w = or_else (entered_fault (app_by c) w.stopped)
    (or_else (settle_fault c false w.held)
    (or_else (defaults_fault (settled c w.held).rows c)
    (check_fault (shape_by c) (finished c w.held) (is_some (entered (app_by c) w.stopped)))))

abbrev pub verdict_by : Kinds → List Row → Option (List Row)
verdict_by [] rows = Some rows
verdict_by (k ∷ ks) rows = None

abbrev pub verdict_at : List Rule → Kinds → Walk → Option (List Row)
verdict_at c before w = verdict_by (or_else before (ending_fault c w)) (finished c w.held)

-- the rows at the end of the words, where clap finds no fault
unfoldable pub verdict : List Rule → Walk → List Text → Option (List Row)
verdict c w words = verdict_at c (walk_fault (shape_by c) [] w words) (fold (walked c []) w words)

pub goes : (c : List Rule) (w next : Walk) (word : Text) (words : List Text) → turn_fault (shape_by c) [] w word ≡ []
    → walked c [] w word ≡ next → verdict c w (word ∷ words) ≡ verdict c next words
unfolding verdict walk_fault
goes c w next word words clean step =
    by (turn_fault (shape_by c) [] w word) clean (walked c [] w word)
    ∙ ap (λ (x : Walk). verdict_at c (walk_fault (shape_by c) [] x words) (fold (walked c []) x words)) step
  where
    by : (ks : Kinds) → ks ≡ [] → (x : Walk) → verdict_at c (or_else ks (walk_fault (shape_by c) [] x words)) (fold (walked c []) x words)
        ≡ verdict_at c (walk_fault (shape_by c) [] x words) (fold (walked c []) x words)
    by [] e x = refl
    by (k ∷ ks) e x = cc

pub stops : (c : List Rule) (w : Walk) (word : Text) (words : List Text) → fails (turn_fault (shape_by c) [] w word) ≡ true
    → verdict c w (word ∷ words) ≡ None
unfolding verdict walk_fault
stops c w word words bad = by (turn_fault (shape_by c) [] w word) bad
  where
    by : (ks : Kinds) → fails ks ≡ true
        → verdict_at c (or_else ks (walk_fault (shape_by c) [] (walked c [] w word) words))
        (fold (walked c []) (walked c [] w word) words) ≡ None
    by [] e = cc
    by (k ∷ ks) e = refl

no_default_in_flags : (fs : List Text) (rows : List Row) → defaults_fault rows (flag_rules fs) ≡ []
unfolding defaults_fault
no_default_in_flags [] rows = by (has_row source_name rows)
  where
    by : (b : Bool) → or_else (if b || true then [] else []) [] ≡ []
    by true = refl
    by false = refl
no_default_in_flags (f ∷ fs) rows = by (has_row f rows) ∙ no_default_in_flags fs (with_default rows (flag_made f))
  where
    by : (b : Bool) → or_else (if b || false then [] else []) (defaults_fault (with_default rows (flag_made f)) (flag_rules fs))
        ≡ defaults_fault (with_default rows (flag_made f)) (flag_rules fs)
    by true = refl
    by false = refl

pub no_default_fault : (vs fs : List Text) (rows : List Row) → defaults_fault rows (rules_by vs fs) ≡ []
unfolding defaults_fault
no_default_fault [] fs rows = no_default_in_flags fs rows
no_default_fault (v ∷ vs) fs rows = by (has_row v rows) ∙ no_default_fault vs fs (with_default rows (value_made v))
  where
    by : (b : Bool) → or_else (if b || true then [] else []) (defaults_fault (with_default rows (value_made v)) (rules_by vs fs))
        ≡ defaults_fault (with_default rows (value_made v)) (rules_by vs fs)
    by true = refl
    by false = refl

no_check_in_flags : (fs : List Text) (rows : List Row) → list_any (λ a. a.required && not (is_given a.id rows)) (flag_rules fs) ≡ false
no_check_in_flags [] rows = refl
no_check_in_flags (f ∷ fs) rows = no_check_in_flags fs rows

none_required : (vs fs : List Text) (rows : List Row) → list_any (λ a. a.required && not (is_given a.id rows)) (rules_by vs fs) ≡ false
none_required [] fs rows = no_check_in_flags fs rows
none_required (v ∷ vs) fs rows = none_required vs fs rows

pub no_check_fault : (vs fs : List Text) (rows : List Row) → check_fault (shape_by (rules_by vs fs)) rows false ≡ []
no_check_fault vs fs rows = rw (none_required vs fs rows) refl

-- the uses so far, with the last one settled or not, are no conflict
pub record IsIdle (c : List Rule) (us : List Use) (h : Held) : Type 0 where
  pub clean : settle_fault c false h ≡ []
  pub rests : settled c h ≡ settled_held us

pub idle_settled : (c : List Rule) (us : List Use) → IsIdle c us (settled_held us)
idle_settled c us = record { clean = refl; rests = refl }

pub ends : (vs fs : List Text) (us : List Use) (h : Held) → IsIdle (rules_by vs fs) us h
    → verdict (rules_by vs fs) (idle_walk us h) [] ≡ Some (fold with_default (rows_by us) (rules_by vs fs))
unfolding verdict walk_fault
ends vs fs us h at =
    by (settle_fault (rules_by vs fs) false h) at.clean
    (defaults_fault (settled (rules_by vs fs) h).rows (rules_by vs fs)) (no_default_fault vs fs (settled (rules_by vs fs) h).rows)
    (check_fault (shape_by (rules_by vs fs)) (finished (rules_by vs fs) h) false) (no_check_fault vs fs (finished (rules_by vs fs) h))
    ∙ ap (λ (x : Held). Some (fold with_default x.rows (rules_by vs fs))) at.rests
  where
    by : (a : Kinds) → a ≡ [] → (b : Kinds) → b ≡ [] → (d : Kinds) → d ≡ []
        → verdict_by (or_else a (or_else b d)) (finished (rules_by vs fs) h) ≡ Some (finished (rules_by vs fs) h)
    by a e b f d g = rw (e, f, g) refl

pub ends_unsettled : (c : List Rule) (us : List Use) (h : Held) (w : Waiting) (n : ℕ) → fails (settle_fault c false h) ≡ true
    → verdict c (record { held = h; waiting = w; position = n; is_trailing = false; stopped = None }) [] ≡ None
unfolding verdict walk_fault
ends_unsettled c us h w n bad = by (settle_fault c false h) bad
  where
    by : (a : Kinds) → fails a ≡ true
        → verdict_by (or_else a (or_else (defaults_fault (settled c h).rows c) (check_fault (shape_by c) (finished c h) false)))
        (finished c h) ≡ None
    by [] e = cc
    by (k ∷ ks) e = refl

-- ---- a use with its value that isn't settled

-- a name of a value option, or that of the source
abbrev pub IsKnown : List Text → Text → Type 0
IsKnown vs name = (is_one_of vs name ≡ true) ⊎ (name ≡ source_name)

module _ (vs fs : List Text) (no_value : is_one_of vs source_name ≡ false) (no_flag : is_one_of fs source_name ≡ false) where
  pub given_fault : (us : List Use) (name value : Text) → IsKnown vs name
      → settle_fault (rules_by vs fs) false (given_held us name value) ≡ repeated (has name us)
  given_fault us name value (inl e) = rw (value_found vs fs name e) (value_fault name value us)
  given_fault us name value (inr e) = rw e (rw (source_found vs fs no_value no_flag) (source_fault value us))

  pub given_settled : (us : List Use) (name value : Text) → IsKnown vs name → has name us ≡ false
      → settled (rules_by vs fs) (given_held us name value) ≡ settled_held (us ++ (name, Some value) ∷ [])
  given_settled us name value known new = ap (λ (rs : List Row). record { rows = rs; pending = None; skip = 0 }) (by known)
    where
      by : IsKnown vs name → settled_rows (rules_by vs fs) (Some (name, value ∷ [])) (rows_by us) ≡ rows_by (us ++ (name, Some value) ∷ [])
      by (inl e) = rw (value_found vs fs name e) (used_value name value us new)
      by (inr e) = rw e (rw (source_found vs fs no_value no_flag) (used_source value us (rw e at new)))

  pub idle_given : (us : List Use) (name value : Text) → IsKnown vs name → has name us ≡ false
      → IsIdle (rules_by vs fs) (us ++ (name, Some value) ∷ []) (given_held us name value)
  idle_given us name value known new = record {
    clean = given_fault us name value known ∙ ap repeated new;
    rests = given_settled us name value known new;
  }

  pub given_again : (us : List Use) (name value : Text) → IsKnown vs name → has name us ≡ true
      → fails (settle_fault (rules_by vs fs) false (given_held us name value)) ≡ true
  given_again us name value known again = ap fails (given_fault us name value known ∙ ap repeated again)

pub waits_fault : (vs fs : List Text) (us : List Use) (name : Text) → is_one_of vs name ≡ true
    → fails (settle_fault (rules_by vs fs) false (waits_held us name)) ≡ true
waits_fault vs fs us name known = rw (value_found vs fs name known) refl
