-- Over the steps of a run the numbers that are kept are those that the steps tell.
use Rattle.std.specs.Prelude.{◌≡◌, refl, ℕ, suc, ◌+◌, ◌<◌, ◌≤◌, ℤ, pos, ◌+ℤ◌, Bool, true, false, not, ◌&&◌, ◌||◌, ◌==◌, if◌then◌else◌, List}
use Rattle.std.specs.Prelude.{[], ◌∷◌, length, map, fold, slice_get, slice_set, unwrap_or, Option, Some, None}
use Rattle.std.specs.List.{list_any}
use Rattle.std.specs.Option.{option_map, option_map_or}
use Rattle.std.specs.Ordering.{int_eq}
use Rattle.std.proofs.Common.{ap, sym, ◌∙◌, subst, arith}
use Rattle.std.proofs.lemmas.Bool.Decides.{nat_tests}
use Rattle.chaos_dist.specs.Counting.{below}
use Rattle.chaos_dist.specs.declared.shape.Shape.{Shape}
use Rattle.chaos_dist.specs.declared.shape.Shape.TheVariants.{Block, Cyclic, BlockCyclic}
use Rattle.chaos_dist.specs.declared.step_form.StepForm.{StepForm}
use Rattle.chaos_dist.specs.declared.step_form.StepForm.TheVariants.{Regular, Map}
use Rattle.fd_program.specs.Checks.{IsFormOf}
use Rattle.fd_program.specs.Past.{form_set, is_same_shape, is_same_record, is_set_again, is_repeat, is_changing, is_moving, change_at}
use Rattle.fd_program.specs.Past.{version_at, record_at, latest_of, decompositions_of, index_arrays_of}
use Rattle.fd_program.specs.LoopCases.{both_parts}
use Rattle.fd_program.specs.Places.{decomposition_of}
use Rattle.fd_program.specs.Stores.{number_at}
use Rattle.fd_program.specs.Trace.{site_at, is_empty_turn}
use Rattle.fd_words.specs.Roles.{is_index}
use Rattle.fd_program.specs.declared.checked.Checked.{Checked}
use Rattle.fd_program.specs.declared.loop_record.LoopRecord.{LoopRecord}
use Rattle.fd_program.specs.declared.reference.Reference.{Reference}
use Rattle.fd_program.specs.declared.trace.LoopTurn.{LoopTurn}
use Rattle.fd_program.specs.declared.trace.Step.{Step}
use Rattle.fd_program.specs.declared.trace.Step.TheVariants.{Distribute, Print, Forall}
use Rattle.chaos_records.specs.Keeping.{Keeps, first_setting, setting_in, change_by, is_form_again, is_repeated, written_at, set_to}
use Rattle.chaos_records.specs.Keeping.{differs}
use Rattle.chaos_records.specs.Keeping.{change_set, setting_of, setting_at}
use Rattle.chaos_records.specs.KeepingLaws.{NewKeeps, PrintKeeps, WritesKeep, MoveKeeps, RecordsAreExact, InspectionsAreKnown}
use Rattle.chaos_records.specs.KeepingLaws.{VersionsAreFew}
use Rattle.chaos_records.specs.declared.records.Records.{Records}
use Rattle.chaos_records.specs.declared.setting.Setting.{Setting}
use Rattle.chaos_records.specs.Numbering.{same_map, same_map_filter, get_below, set_below, replicate_map}

-- ---- before the first step, and steps that change nothing

pub new_keeps : NewKeeps
new_keeps c = record { changes = replicate_map (pos 0) 0 (length c.arrays); settings = replicate_map first_setting 0 (length c.layouts) }

no_more : (n : ℕ) (b : Bool) → b ≡ false → n + (if b then 1 else 0) ≡ n
no_more n b e = ap (λ t. n + (if t then 1 else 0)) e ∙ omega arith

stays : (c : Checked) (past : List Step) (step : Step) (d : ℕ) → is_moving c past step d ≡ false
    → form_set (step ∷ past) d ≡ form_set past d
    → setting_at c past d ≡ setting_at c (step ∷ past) d
stays c past step d still form =
    ap (λ set. setting_of c set (version_at c past d)) (sym form)
    ∙ ap (setting_of c (form_set (step ∷ past) d)) (sym (no_more (version_at c past d) (is_moving c past step d) still))

pub print_keeps : PrintKeeps
print_keeps c past array r k = record {
  changes = k.changes;
  settings = k.settings ∙ same_map (setting_at c past) (setting_at c (Print array ∷ past)) 0 (length c.layouts)
      (λ d low high. stays c past (Print array) d refl refl);
}

-- ---- a FORALL

over : (one other : Bool) (v old : ℤ) → (if one then v else (if other then v else old)) ≡ (if other || one then v else old)
over true true v old = refl
over true false v old = refl
over false true v old = refl
over false false v old = refl

all_written : (execution n : ℕ) (arrays : List ℕ) (f : ℕ → ℤ) (r : Records) → r.changes ≡ map f (below n)
    → (fold (written_at execution) r arrays).changes
    ≡ map (λ a. if list_any (λ w. w == a) arrays then pos (execution + 1) else f a) (below n)
all_written execution n [] f r e = e
all_written execution n (w ∷ ws) f r e =
    let v = pos (execution + 1) in
    all_written execution n ws (λ a. if w == a then v else f a) (written_at execution r w) (ap (λ l. slice_set l w v) e ∙ set_below f v n w)
    ∙ same_map (λ a. if list_any (λ w. w == a) ws then v else (if w == a then v else f a)) (λ a. if (w == a) || list_any (λ w. w == a) ws
    then v else f a) 0 n
    (λ a low high. over (list_any (λ w. w == a) ws) (w == a) v (f a))

settings_stay : (execution : ℕ) (arrays : List ℕ) (r : Records) → (fold (written_at execution) r arrays).settings ≡ r.settings
settings_stay execution [] r = refl
settings_stay execution (w ∷ ws) r = settings_stay execution ws (written_at execution r w)

pos_if : (b : Bool) (x y : ℕ) → (if b then pos x else pos y) ≡ pos (if b then x else y)
pos_if true x y = refl
pos_if false x y = refl

pub writes_keep : WritesKeep
writes_keep c past site turn arrays r k noted = record {
  changes = all_written (length past) (length c.arrays) arrays (λ a. pos (change_at c past a)) r k.changes
      ∙ same_map (λ a. if list_any (λ w. w == a) arrays then pos (length past + 1) else pos (change_at c past a))
      (λ a. pos (change_at c (Forall site turn ∷ past) a)) 0 (length c.arrays)
      (λ a low high.
      ap (λ b. if b then pos (length past + 1) else pos (change_at c past a)) (noted a (omega (arith, high)))
      ∙ pos_if (is_changing c site turn a) (length past + 1) (change_at c past a));
  settings = settings_stay (length past) arrays r ∙ k.settings
      ∙ same_map (setting_at c past) (setting_at c (Forall site turn ∷ past)) 0 (length c.layouts)
      (λ d low high. stays c past (Forall site turn) d refl refl);
}

-- ---- a DISTRIBUTE

same_order : (x y : ℕ) → int_eq (pos x) (pos y) ≡ (y == x)
same_order x y = grind (arith, nat_tests)

form_again : (c : Checked) (past : List Step) (old : StepForm) (before : List Step) (form : StepForm)
    → is_form_again old (pos (change_set c (old, before))) form (pos (change_set c (form, past))) ≡ is_set_again c past (old, before) form
form_again c past (Regular old) before (Regular new) = refl
form_again c past (Regular old) before (Map new) = refl
form_again c past (Map old) before (Regular new) = refl
form_again c past (Map old) before (Map new) = by (old == new) refl
  where
    by : (b : Bool) → (old == new) ≡ b
        → (b && int_eq (pos (change_at c before old)) (pos (change_at c past new)))
        ≡ (b && (change_at c past new == change_at c before new))
    by true e =
        let same : old ≡ new = grind (arith, nat_tests, e) in
        same_order (change_at c before old) (change_at c past new) ∙ ap (λ a. change_at c past new == change_at c before a) same
    by false e = refl

same_shape : (a b : Shape) → is_same_shape a b ≡ true → a ≡ b
same_shape Block Block e = refl
same_shape Cyclic Cyclic e = refl
same_shape (BlockCyclic a) (BlockCyclic b) e = (let same : a ≡ b = grind (arith, nat_tests, e) in ap BlockCyclic same)
same_shape Block Cyclic e = cc
same_shape Block (BlockCyclic b) e = cc
same_shape Cyclic Block e = cc
same_shape Cyclic (BlockCyclic b) e = cc
same_shape (BlockCyclic a) Block e = cc
same_shape (BlockCyclic a) Cyclic e = cc

-- a repeat leaves what is kept
set_same : (c : Checked) (past : List Step) (old : StepForm) (before : List Step) (form : StepForm) (version : ℕ)
    → is_set_again c past (old, before) form ≡ true
    → setting_of c (old, before) version ≡ setting_of c (form, past) version
set_same c past (Regular old) before (Regular new) version e = ap (λ s. setting_of c (Regular s, past) version) (same_shape old new e)
set_same c past (Regular old) before (Map new) version e = cc
set_same c past (Map old) before (Regular new) version e = cc
set_same c past (Map old) before (Map new) version e =
    let both = both_parts (old == new) (change_at c past new == change_at c before new) e in
    let same : old ≡ new = (let f = both.0 in grind (arith, nat_tests, f)) in
    let change : change_at c before new ≡ change_at c past new = (let f = both.1 in grind (arith, nat_tests, f)) in
    ap (λ a. setting_of c (Map a, before) version) same
    ∙ (let make : ℕ → Setting = λ n. record { form = Map new; change = pos n; version = pos version } in ap make change)

module _ (c : Checked) (past : List Step) (d : ℕ) (form : StepForm) (r : Records) (k : Keeps c past r)
    (within : d < length c.layouts) (fits : IsFormOf c.arrays c.layouts d form) where
  setting_is : setting_in r d ≡ setting_at c past d
  setting_is = ap (λ l. unwrap_or (slice_get l d) first_setting) k.settings
      ∙ ap (λ o. unwrap_or o first_setting) (get_below (setting_at c past) (length c.layouts) d within)

  change_is : change_by r form ≡ pos (change_set c (form, past))
  change_is = by form fits
    where
      by : (form : StepForm) → IsFormOf c.arrays c.layouts d form → change_by r form ≡ pos (change_set c (form, past))
      by (Regular shape) fits = refl
      by (Map array) fits =
          ap (λ l. number_at l array) k.changes
          ∙ ap (λ o. unwrap_or o (pos 0)) (get_below (λ a. pos (change_at c past a)) (length c.arrays) array fits.0)

  repeat_is : is_repeated r d form ≡ is_repeat c past d form
  repeat_is =
      ap (λ (s : Setting). is_form_again s.form s.change form (change_by r form)) setting_is
      ∙ ap (is_form_again (form_set past d).0 (pos (change_set c (form_set past d))) form) change_is
      ∙ form_again c past (form_set past d).0 (form_set past d).1 form

  after : List Step
  after = Distribute d form ∷ past

  -- the other decompositions stay
  other_stays : (e : ℕ) (b : Bool) → (d == e) ≡ b → b ≡ false → setting_at c past e ≡ setting_at c (Distribute d form ∷ past) e
  other_stays e b is none =
      stays c past (Distribute d form) e (ap (λ t. t && not (is_repeat c past e form)) (is ∙ none))
      (ap (λ t. if t then (form, past) else form_set past e) (is ∙ none))

  repeat_keeps : is_repeat c past d form ≡ true → map (setting_at c past) (below (length c.layouts))
      ≡ map (setting_at c (Distribute d form ∷ past)) (below (length c.layouts))
  repeat_keeps again = same_map (setting_at c past) (setting_at c (Distribute d form ∷ past)) 0 (length c.layouts)
      (λ e low high. by e (d == e) refl)
    where
      at_it : (e : ℕ) → d ≡ e → is_repeat c past e form ≡ true
      at_it e same = subst (λ n. is_repeat c past n form ≡ true) same again

      by : (e : ℕ) (b : Bool) → (d == e) ≡ b → setting_at c past e ≡ setting_at c (Distribute d form ∷ past) e
      by e false is = other_stays e false is refl
      by e true is =
          let same : d ≡ e = grind (arith, nat_tests, is) in
          let once = at_it e same in
          set_same c past (form_set past e).0 (form_set past e).1 form (version_at c past e) once
          ∙ ap (λ t. setting_of c (if t then (form, past) else form_set past e) (version_at c past e)) (sym is)
          ∙ ap (setting_of c (form_set (Distribute d form ∷ past) e))
          (sym (no_more (version_at c past e) ((d == e) && not (is_repeat c past e form))
          (ap (λ t. t && not (is_repeat c past e form)) is ∙ ap not once)))

  set_is : set_to r d form ≡ setting_of c (form, past) (version_at c past d + 1)
  set_is =
      let make : ℤ → ℤ → Setting = λ change version. record { form = form; change = change; version = version } in
      ap (λ change. make change ((setting_in r d).version +ℤ pos 1)) change_is
      ∙ ap (λ (s : Setting). make (pos (change_set c (form, past))) (s.version +ℤ pos 1)) setting_is

  move_sets : is_repeat c past d form ≡ false
      → slice_set r.settings d (set_to r d form) ≡ map (setting_at c (Distribute d form ∷ past)) (below (length c.layouts))
  move_sets anew =
      ap (λ l. slice_set l d (set_to r d form)) k.settings
      ∙ set_below (setting_at c past) (set_to r d form) (length c.layouts) d
      ∙ same_map (λ e. if d == e then set_to r d form else setting_at c past e) (setting_at c (Distribute d form ∷ past)) 0
      (length c.layouts) (λ e low high. by e (d == e) refl)
    where
      by : (e : ℕ) (b : Bool) → (d == e) ≡ b → (if b then set_to r d form else setting_at c past e) ≡ setting_at c
          (Distribute d form ∷ past) e
      by e false is = other_stays e false is refl
      by e true is =
          let same : d ≡ e = grind (arith, nat_tests, is) in
          let once : is_repeat c past e form ≡ false = subst (λ n. is_repeat c past n form ≡ false) same anew in
          let moves : ((d == e) && not (is_repeat c past e form)) ≡ true = ap (λ t. t && not (is_repeat c past e form)) is ∙ ap not once in
          set_is
          ∙ ap (λ n. setting_of c (form, past) (version_at c past n + 1)) same
          ∙ ap (λ t. setting_of c (form, past) (version_at c past e + (if t then 1 else 0))) (sym moves)
          ∙ ap (λ t. setting_of c (if t then (form, past) else form_set past e) (version_at c (Distribute d form ∷ past) e)) (sym is)

  kept_after : (b : Bool) → is_repeat c past d form ≡ b
      → Keeps c (Distribute d form ∷ past)
      (if b then r else (record { changes = r.changes; settings = slice_set r.settings d (set_to r d form) }))
  kept_after true again = record { changes = k.changes; settings = k.settings ∙ repeat_keeps again }
  kept_after false anew = record { changes = k.changes; settings = move_sets anew }

pub move_keeps : MoveKeeps
move_keeps c past d form r k within fits =
    let is = repeat_is c past d form r k within fits in
    (is, kept_after c past d form r k within fits (is_repeated r d form) (sym is))

-- ---- records

pub records_are_exact : RecordsAreExact
records_are_exact c past site turn r k =
    let it = site_at c.sites site in
    let make : List ℤ → List ℤ → LoopRecord = λ versions changes. record {
      low = turn.low;
      high = turn.high;
      adds = turn.adds;
      versions = versions;
      changes = changes;
    } in
    let versions = same_map_filter (λ d. list_any (λ (x : Reference). decomposition_of c.arrays x.array == d) it.references)
    (λ d. (setting_in r d).version) (λ d. pos (version_at c past d)) 0 (length c.layouts)
    (λ d low high. ap (λ l. (unwrap_or (slice_get l d) first_setting).version) k.settings
    ∙ ap (λ o. (unwrap_or o first_setting).version) (get_below (setting_at c past) (length c.layouts) d (omega (arith, high)))) in
    let changes = same_map_filter (λ array. list_any (λ (x : Reference). is_index x.role && (x.array == array)) it.references)
    (number_at r.changes) (λ array. pos (change_at c past array)) 0 (length c.arrays)
    (λ array low high. ap (λ l. number_at l array) k.changes
    ∙ ap (λ o. unwrap_or o (pos 0)) (get_below (λ a. pos (change_at c past a)) (length c.arrays) array (omega (arith, high)))) in
    ap (λ v. make v (map (number_at r.changes) (index_arrays_of c it))) versions
    ∙ ap (make (map (λ d. pos (version_at c past d)) (decompositions_of c it))) changes

pub inspections_are_known : InspectionsAreKnown
inspections_are_known c past site turn = by (latest_of past site)
  where
    by : (o : Option (LoopTurn × List Step))
        → (not (is_empty_turn turn) && option_map_or
        (λ (latest, before). not (is_same_record (record_at c before site latest) (record_at c past site turn))) o true)
        ≡ (not (is_empty_turn turn) && differs (record_at c past site turn)
        (option_map (λ (latest, before). record_at c before site latest) o))
    by None = refl
    by (Some (latest, before)) = refl

pub versions_are_few : VersionsAreFew
versions_are_few c [] d = omega arith
versions_are_few c (step ∷ past) d = by (is_moving c past step d) (versions_are_few c past d)
  where
    by : (b : Bool) → version_at c past d ≤ length past → version_at c past d + (if b then 1 else 0) ≤ suc (length past)
    by true h = omega (arith, h)
    by false h = omega (arith, h)
