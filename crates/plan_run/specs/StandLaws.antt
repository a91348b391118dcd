-- What a node holds of the parts, elements, numbers, pages, counts and tables over the end of a step.
use Rattle.std.specs.Prelude.{◌≡◌, ◌≢◌, refl, ℕ, zero, suc, ◌+◌, ◌<◌, pos, Bool, true, false, not, ◌&&◌, ◌==◌, if◌then◌else◌, List, [], ◌∷◌}
use Rattle.std.specs.Prelude.{length, map, slice_get, slice_set, unwrap_or, Option, Some, None}
use Rattle.std.specs.List.{AllZip, range_with_len}
use Rattle.std.proofs.Common.{ap, sym, ◌∙◌, subst, arith, inl, inr}
use Rattle.std.proofs.lemmas.Bool.{eqb-true, cases_eq}
use Rattle.fd_words.specs.Lists.{list_at}
use Rattle.chaos_dist.specs.Counting.{below}
use Rattle.chaos_dist.specs.declared.shape.Shape.{Shape}
use Rattle.chaos_dist.specs.declared.shape.Shape.TheVariants.{Block, Cyclic, BlockCyclic}
use Rattle.chaos_dist.specs.declared.step_form.StepForm.{StepForm}
use Rattle.chaos_dist.specs.declared.step_form.StepForm.TheVariants.{Regular, Map}
use Rattle.chaos_hash.specs.Stamps.{Stamps}
use Rattle.chaos_hash.specs.declared.held.Held.{Held as Entry}
use Rattle.chaos_records.specs.Keeping.{Keeps, change_set, setting_at}
use Rattle.chaos_records.specs.Numbering.{same_map, set_below, get_below}
use Rattle.chaos_records.specs.declared.setting.Setting.{Setting}
use Rattle.chaos_table.specs.declared.pages.Pages.{Pages}
use Rattle.fd_program.specs.RecordLaws.{same_shape_is}
use Rattle.fd_program.specs.Checks.{IsChecked}
use Rattle.fd_program.specs.Layouts.{Scene, store_at, owners_at, loop_at}
use Rattle.fd_program.specs.LoopCases.{both_parts}
use Rattle.fd_program.specs.Loops.{after_loop}
use Rattle.fd_program.specs.Past.{form_set, form_at, has_target, change_at, version_at, is_same_shape, is_set_again, is_repeat, inspects_at}
use Rattle.fd_program.specs.Places.{parts_of}
use Rattle.fd_program.specs.Reports.{count_at, count_of_step, count_of_loop, no_count, plus_count}
use Rattle.fd_program.specs.RunLaws.{IsHistory}
use Rattle.fd_program.specs.Trace.{site_at, is_empty_turn}
use Rattle.fd_program.specs.declared.checked.Checked.{Checked}
use Rattle.fd_program.specs.declared.count.SiteCount.{SiteCount}
use Rattle.fd_program.specs.declared.trace.LoopTurn.{LoopTurn}
use Rattle.fd_program.specs.declared.trace.Step.{Step}
use Rattle.fd_program.specs.declared.trace.Step.TheVariants.{Distribute, Print, Forall}
use Rattle.plan_run.specs.Held.{Held, place_in, HasPage, HasPlaces, entry_at, elements_held, Stands}
use Rattle.plan_run.specs.OwnerLaws.{is_quiet, quiet_moves_none, quiet_keeps_owners, quiet_keeps_store, move_changes_one, equals_itself}
use Rattle.plan_run.specs.OwnerLaws.{is_unequal}
use Rattle.plan_run.specs.StepLaws.{same_count}
use Rattle.fd_program.specs.AmongLaws.{zip_weaker}

-- ---- statements

-- over a step that changes nothing a node holds what it held
abbrev pub QuietStands : Type 0
QuietStands =
    (s : Scene) (past : List Step) (step : Step) (p : ℕ) (v : Held) → IsChecked s.checked → IsHistory s (step ∷ past)
    → is_quiet s.checked past step ≡ true
    → Stands s past p v → Stands s (step ∷ past) p v

abbrev pub counted_at : List SiteCount → ℕ → SiteCount
counted_at counts k = unwrap_or (slice_get counts k) no_count

-- what an execution of a FORALL, after these steps, counts on p
abbrev pub counted_by : Scene → List Step → ℕ → LoopTurn → ℕ → SiteCount
counted_by s past site turn p = count_of_loop (loop_at s past site turn) (owners_at s past) (store_at s past)
    (inspects_at s.checked past site turn) p

-- The end of an execution: the parts of the store after the loop, its changes noted, and the execution counted. All else is as it was.
pub record EndsLoop (s : Scene) (past : List Step) (site : ℕ) (turn : LoopTurn) (p : ℕ) (v w : Held) : Type 0 where
  pub parts : w.parts ≡ parts_of s.checked.arrays (owners_at s past) (after_loop s.checked.arrays (site_at s.checked.sites site) turn
      (store_at s past)) p
  pub elements : w.elements ≡ v.elements
  pub records : Keeps s.checked (Forall site turn ∷ past) w.records
  pub pages : w.pages ≡ v.pages
  pub counts : w.counts ≡ slice_set v.counts site (plus_count (counted_at v.counts site) (counted_by s past site turn p))
  pub tables : w.tables ≡ v.tables

abbrev pub LoopStands : Type 0
LoopStands =
    (s : Scene) (past : List Step) (site : ℕ) (turn : LoopTurn) (p : ℕ) (v w : Held) → IsHistory s (Forall site turn ∷ past)
    → site < length s.checked.sites → is_empty_turn turn ≡ false → Stands s past p v → EndsLoop s past site turn p v w
    → Stands s (Forall site turn ∷ past) p w

-- the table of a decomposition has lost its entries, and the others have theirs
pub record IsDropped (d : ℕ) (before after : List Stamps) : Type 0 where
  pub own : (e : ℕ) → entry_at after d e ≡ None
  pub others : (other e : ℕ) → d ≢ other → entry_at after other e ≡ entry_at before other e

-- The end of a DISTRIBUTE that isn't a repeat: the parts, the decomposition's elements and its page by the new owners, the move noted,
-- and no ghost kept in its table.
pub record EndsMove (s : Scene) (past : List Step) (d : ℕ) (form : StepForm) (p : ℕ) (page : Option Pages) (v w : Held) : Type 0 where
  pub parts : w.parts ≡ parts_of s.checked.arrays (owners_at s (Distribute d form ∷ past)) (store_at s past) p
  pub elements : w.elements ≡ elements_held (owners_at s (Distribute d form ∷ past)) p
  pub records : Keeps s.checked (Distribute d form ∷ past) w.records
  pub pages : w.pages ≡ slice_set v.pages d page
  pub covers : HasPage s.nodes p form (list_at (owners_at s (Distribute d form ∷ past)) d) page
  pub counts : w.counts ≡ v.counts
  pub tables : IsDropped d v.tables w.tables

abbrev pub MoveStands : Type 0
MoveStands =
    (s : Scene) (past : List Step) (d : ℕ) (form : StepForm) (p : ℕ) (page : Option Pages) (v w : Held)
    → IsHistory s (Distribute d form ∷ past)
    → Stands s past p v → EndsMove s past d form p page v w → Stands s (Distribute d form ∷ past) p w

-- ---- forms over a repeat

-- the form is the same, and so is the change number of its map
set_again_is : (c : Checked) (past : List Step) (old : StepForm) (before : List Step) (new : StepForm)
    → is_set_again c past (old, before) new ≡ true
    → (new ≡ old) × (change_set c (new, past) ≡ change_set c (old, before))
set_again_is c past (Regular old) before (Regular new) e = (sym (ap (λ shape. Regular shape) (same_shape_is old new e)), refl)
set_again_is c past (Regular old) before (Map new) e = cc
set_again_is c past (Map old) before (Regular new) e = cc
set_again_is c past (Map old) before (Map new) e =
    let both = both_parts (old == new) (change_at c past new == change_at c before new) e in
    let same : old ≡ new = eqb-true old new both.0 in
    let number : change_at c past new ≡ change_at c before new = eqb-true (change_at c past new) (change_at c before new) both.1 in
    (sym (ap (λ array. Map array) same), number ∙ ap (change_at c before) (sym same))

abbrev setting_with : StepForm → ℕ → ℕ → Setting
setting_with form change version = record { form = form; change = pos change; version = pos version }

same_setting : (form other : StepForm) (change number version : ℕ) → form ≡ other → change ≡ number → setting_with form change version
    ≡ setting_with other number version
same_setting form other change number version e f =
    ap (λ x. setting_with x change version) e ∙ ap (λ n. setting_with other n version) f

-- the form and its change number stay over a step that changes nothing
quiet_form : (c : Checked) (past : List Step) (step : Step) (d : ℕ) → is_quiet c past step ≡ true
    → (form_at (step ∷ past) d ≡ form_at past d) × (change_set c (form_set (step ∷ past) d) ≡ change_set c (form_set past d))
quiet_form c past (Distribute at form) d e = by (at == d) refl
  where
    by : (b : Bool) → (at == d) ≡ b
        → ((if b then (form, past) else form_set past d).0 ≡ form_at past d)
        × (change_set c (if b then (form, past) else form_set past d) ≡ change_set c (form_set past d))
    by true here =
        let same : at ≡ d = eqb-true at d here in
        set_again_is c past (form_set past d).0 (form_set past d).1 form (subst (λ n. is_repeat c past n form ≡ true) same e)
    by false here = (refl, refl)
quiet_form c past (Print array) d e = (refl, refl)
quiet_form c past (Forall site turn) d e = (refl, refl)

quiet_changes : (c : Checked) (past : List Step) (step : Step) (array : ℕ) → is_quiet c past step ≡ true → change_at c (step ∷ past) array
    ≡ change_at c past array
quiet_changes c past (Distribute d form) array e = refl
quiet_changes c past (Print printed) array e = refl
quiet_changes c past (Forall site turn) array e = by (is_empty_turn turn) e
  where
    by : (b : Bool) → b ≡ true → (if not b && has_target (site_at c.sites site) array then length past + 1 else change_at c past array)
        ≡ change_at c past array
    by true e = refl
    by false e = cc

quiet_counts : (s : Scene) (past : List Step) (step : Step) (p k : ℕ) → is_quiet s.checked past step ≡ true
    → count_of_step s past p k step ≡ no_count
quiet_counts s past (Distribute d form) p k e = refl
quiet_counts s past (Print array) p k e = refl
quiet_counts s past (Forall site turn) p k e = by (site == k) (is_empty_turn turn) e
  where
    by : (a b : Bool) → b ≡ true → (if a && not b then counted_by s past site turn p else no_count) ≡ no_count
    by true true e = refl
    by true false e = cc
    by false b e = refl

quiet_keeps : (c : Checked) (past : List Step) (step : Step) (v : Held) → is_quiet c past step ≡ true → Keeps c past v.records
    → Keeps c (step ∷ past) v.records
quiet_keeps c past step v e h = record {
  changes = h.changes
      ∙ same_map (λ array. pos (change_at c past array)) (λ array. pos (change_at c (step ∷ past) array)) 0 (length c.arrays)
      (λ array low high. ap (λ n. pos n) (sym (quiet_changes c past step array e)));
  settings = h.settings
      ∙ same_map (setting_at c past) (setting_at c (step ∷ past)) 0 (length c.layouts)
      (λ d low high. sym (same_setting (form_at (step ∷ past) d) (form_at past d) (change_set c (form_set (step ∷ past) d))
      (change_set c (form_set past d)) (version_at c (step ∷ past) d) (quiet_form c past step d e).0 (quiet_form c past step d e).1
      ∙ ap (λ n. setting_with (form_at past d) (change_set c (form_set past d)) n) (quiet_moves_none c past step d e)));
}

-- ---- lists by number

-- one is replaced, and the others have what they had
pub zip_set : {B : Type 0} (P Q : ℕ → B → Type 0) (a n k : ℕ) (new : B) (ys : List B) → Q (a + k) new
    → ((d : ℕ) (y : B) → a + k ≢ d → P d y → Q d y) → AllZip P (range_with_len a n) ys → AllZip Q (range_with_len a n) (slice_set ys k new)
zip_set {B} P Q a zero k new [] own others h = set_none k
  where
    set_none : (k : ℕ) → AllZip Q [] (slice_set [] k new)
    set_none zero = tt
    set_none (suc k) = tt
zip_set P Q a zero k new (y ∷ ys) own others h = absurd h
zip_set P Q a (suc n) k new [] own others h = absurd h
zip_set {B} P Q a (suc n) zero new (y ∷ ys) own others h =
    let at : a + zero ≡ a = omega arith in
    (subst (λ d. Q d new) at own, after (a + 1) n ys (omega arith) h.1)
  where
    after : (b n : ℕ) (ys : List B) → a < b → AllZip P (range_with_len b n) ys → AllZip Q (range_with_len b n) ys
    after b zero [] less h = tt
    after b zero (y ∷ ys) less h = absurd h
    after b (suc n) [] less h = absurd h
    after b (suc n) (y ∷ ys) less h = (others b y (λ e. absurd (omega (arith, e, less))) h.0, after (b + 1) n ys (omega (arith, less)) h.1)
zip_set P Q a (suc n) (suc k) new (y ∷ ys) own others h =
    let at : a + suc k ≡ a + 1 + k = omega arith in (
      others a y (λ e. absurd (omega (arith, e))) h.0,
      zip_set P Q (a + 1) n k new ys (subst (λ d. Q d new) at own) (λ d y e. others d y (λ f. e (sym at ∙ f))) h.1,
    )

-- ---- the laws

pub quiet_stands : QuietStands
quiet_stands s past step p v known history quiet h =
    let owners : owners_at s (step ∷ past) ≡ owners_at s past = quiet_keeps_owners s past step known history quiet in
    let store : store_at s (step ∷ past) ≡ store_at s past = quiet_keeps_store s past step history quiet in
    record {
      parts = h.parts
          ∙ ap (λ o. parts_of s.checked.arrays o (store_at s past) p) (sym owners)
          ∙ ap (λ x. parts_of s.checked.arrays (owners_at s (step ∷ past)) x p) (sym store);
      elements = h.elements ∙ ap (λ o. elements_held o p) (sym owners);
      records = quiet_keeps s.checked past step v quiet h.records;
      pages = zip_weaker (λ d page. HasPage s.nodes p (form_at past d) (list_at (owners_at s past) d) page)
          (λ d page. HasPage s.nodes p (form_at (step ∷ past) d) (list_at (owners_at s (step ∷ past)) d) page)
          (λ d page x. subst (λ form. HasPage s.nodes p form (list_at (owners_at s (step ∷ past)) d) page)
          (sym (quiet_form s.checked past step d quiet).0)
          (subst (λ o. HasPage s.nodes p (form_at past d) (list_at o d) page) (sym owners) x)) (below (length s.checked.layouts)) v.pages
          h.pages;
      counts = h.counts
          ∙ same_map (count_at s past p) (count_at s (step ∷ past) p) 0 (length s.checked.sites)
          (λ k low high. same_count (count_at s past p k)
          ∙ ap (plus_count (count_at s past p k)) (sym (quiet_counts s past step p k quiet)));
      places = subst (λ o. HasPlaces o v.tables) (sym owners) h.places;
    }

-- the counts with one execution more
more_counted : (s : Scene) (past : List Step) (site : ℕ) (turn : LoopTurn) (p : ℕ) (counts : List SiteCount)
    → site < length s.checked.sites → is_empty_turn turn ≡ false
    → counts ≡ map (count_at s past p) (below (length s.checked.sites))
    → slice_set counts site (plus_count (counted_at counts site) (counted_by s past site turn p))
    ≡ map (count_at s (Forall site turn ∷ past) p) (below (length s.checked.sites))
more_counted s past site turn p counts less some e =
    let n = length s.checked.sites in
    let before : counted_at counts site ≡ count_at s past p site
    = ap (λ l. counted_at l site) e ∙ ap (λ (o : Option SiteCount). unwrap_or o no_count) (get_below (count_at s past p) n site less) in
    let new = plus_count (count_at s past p site) (counted_by s past site turn p) in
    ap (λ l. slice_set l site (plus_count (counted_at counts site) (counted_by s past site turn p))) e
    ∙ ap (λ x. slice_set (map (count_at s past p) (below n)) site (plus_count x (counted_by s past site turn p))) before
    ∙ set_below (count_at s past p) new n site
    ∙ same_map (λ k. if site == k then new else count_at s past p k) (count_at s (Forall site turn ∷ past) p) 0 n (λ k low high. one k)
  where
    at : (k : ℕ) (a b : Bool) → (site == k) ≡ a → b ≡ false
        → (if a then plus_count (count_at s past p site) (counted_by s past site turn p) else count_at s past p k)
        ≡ plus_count (count_at s past p k) (if a && not b then counted_by s past site turn p else no_count)
    at k true true here e = cc
    at k true false here e = ap (λ j. plus_count (count_at s past p j) (counted_by s past site turn p)) (eqb-true site k here)
    at k false b here e = same_count (count_at s past p k)

    one : (k : ℕ) → (if site == k then plus_count (count_at s past p site) (counted_by s past site turn p) else count_at s past p k)
        ≡ count_at s (Forall site turn ∷ past) p k
    one k = at k (site == k) (is_empty_turn turn) refl some

pub loop_stands : LoopStands
loop_stands s past site turn p v w history there some h end = record {
  parts = end.parts
      ∙ ap (λ b. parts_of s.checked.arrays (owners_at s past) (if b then store_at s past else after_loop s.checked.arrays
      (site_at s.checked.sites site) turn (store_at s past)) p) (sym some)
      ∙ ap (λ store. parts_of s.checked.arrays (owners_at s past) store p) (sym history.0);
  elements = end.elements ∙ h.elements;
  records = end.records;
  pages = subst (AllZip (λ d page. HasPage s.nodes p (form_at past d) (list_at (owners_at s past) d) page)
      (below (length s.checked.layouts))) (sym end.pages) h.pages;
  counts = end.counts ∙ more_counted s past site turn p v.counts there some h.counts;
  places = subst (HasPlaces (owners_at s past)) (sym end.tables) h.places;
}

pub move_stands : MoveStands
move_stands s past d form p page v w history h end =
    let after = Distribute d form ∷ past in
    let own : form_at after d ≡ form = ap (λ b. (if b then (form, past) else form_set past d).0) (equals_itself d) in
    let n : 0 + d ≡ d = omega arith in
    record {
      parts = end.parts ∙ ap (λ store. parts_of s.checked.arrays (owners_at s after) store p) (sym history.0);
      elements = end.elements;
      records = end.records;
      pages = subst (AllZip (λ e page. HasPage s.nodes p (form_at after e) (list_at (owners_at s after) e) page)
          (below (length s.checked.layouts))) (sym end.pages)
          (zip_set (λ e page. HasPage s.nodes p (form_at past e) (list_at (owners_at s past) e) page)
          (λ e page. HasPage s.nodes p (form_at after e) (list_at (owners_at s after) e) page)
          0 (length s.checked.layouts) d page v.pages
          (subst (λ e. HasPage s.nodes p (form_at after e) (list_at (owners_at s after) e) page) (sym n)
          (subst (λ f. HasPage s.nodes p f (list_at (owners_at s after) d) page) (sym own) end.covers))
          (λ e page other x.
          let differ : d ≢ e = λ same. other (n ∙ same) in
          let still : form_at after e ≡ form_at past e = ap (λ b. (if b then (form, past) else form_set past e).0)
          (is_unequal d e differ) in
          subst (λ f. HasPage s.nodes p f (list_at (owners_at s after) e) page) (sym still)
          (subst (λ o. HasPage s.nodes p (form_at past e) o page) (sym ((move_changes_one s past d form).others e differ)) x)) h.pages);
      counts = end.counts ∙ h.counts
          ∙ same_map (count_at s past p) (count_at s after p) 0 (length s.checked.sites) (λ k low high. same_count (count_at s past p k));
      places = λ e g entry there. elim (cases_eq d e) [
        | inl same ↦ absurd (not_both (entry_at w.tables e g) entry (subst (λ k. entry_at w.tables k g ≡ None) same (end.tables.own g))
            there)
        | inr differ ↦
            h.places e g entry (sym (end.tables.others e g differ) ∙ there)
            ∙ ap (λ o. place_in o g) (sym ((move_changes_one s past d form).others e differ))
      ];
    }
  where
    not_both : (o : Option Entry) (entry : Entry) → o ≡ None → o ≡ Some entry → ⊥
    not_both None entry e f = cc
    not_both (Some x) entry e f = cc
