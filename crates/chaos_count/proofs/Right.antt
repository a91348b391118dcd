-- The phases that are told step by step are those of the run.
use Rattle.std.specs.Prelude.{◌≡◌, refl, ℕ, zero, suc, ◌+◌, ◌<◌, ◌^◌, pos, Bool, true, false, not, ◌&&◌, ◌||◌, ◌==◌, nat_lt, int_lt}
use Rattle.std.specs.Prelude.{if◌then◌else◌, List, [], ◌∷◌, length, map, fold, slice_get, slice_set, unwrap_or, Option, Some, None}
use Rattle.std.specs.List.{AllByRecursion, list_any, range_with_len}
use Rattle.std.specs.Option.{option_map}
use Rattle.std.proofs.Common.{ap, sym, ◌∙◌, subst, arith}
use Rattle.std.proofs.lemmas.Bool.Decides.{nat_tests}
use Rattle.std.proofs.lemmas.List.{length-map}
use Rattle.chaos_dist.specs.Counting.{below}
use Rattle.chaos_dist.specs.declared.step_form.StepForm.{StepForm}
use Rattle.chaos_dist.specs.declared.step_form.StepForm.TheVariants.{Regular, Map}
use Rattle.fd_program.specs.Checks.{IsChecked}
use Rattle.fd_program.specs.Layouts.{facts_at}
use Rattle.fd_program.specs.Past.{has_target, is_repeat, inspects_at, latest_of, record_at, version_at}
use Rattle.fd_program.specs.Trace.{trace_of, site_at, is_empty_turn}
use Rattle.fd_words.specs.Roles.{is_target}
use Rattle.fd_program.specs.declared.checked.Checked.{Checked}
use Rattle.fd_program.specs.declared.loop_facts.HomeRule.{HomeRule}
use Rattle.fd_program.specs.declared.loop_record.LoopRecord.{LoopRecord}
use Rattle.fd_program.specs.declared.reference.Reference.{Reference}
use Rattle.fd_program.specs.declared.trace.LoopTurn.{LoopTurn}
use Rattle.fd_program.specs.declared.trace.Step.{Step}
use Rattle.fd_program.specs.declared.trace.Step.TheVariants.{Distribute, Print, Forall}
use Rattle.chaos_records.specs.Keeping.{Keeps, first_setting, setting_in, setting_at, moved, written_at, record_in, differs}
use Rattle.chaos_records.specs.KeepingLaws.{NewKeeps, PrintKeeps, WritesKeep, MoveKeeps, RecordsAreExact, InspectionsAreKnown}
use Rattle.chaos_records.specs.KeepingLaws.{VersionsAreFew}
use Rattle.chaos_records.specs.Numbering.{same_map, get_below, set_below, replicate_map}
use Rattle.chaos_records.specs.declared.records.Records.{Records}
use Rattle.chaos_records.specs.declared.setting.Setting.{Setting}
use Rattle.plan_run.specs.LeftLaws.{length-before}
use Rattle.plan_run.specs.Phases.{loop_stages, moving_stages, stages_of, phases_from}
use Rattle.plan_run.specs.RowLaws.{length-outputs}
use Rattle.chaos_count.specs.Counting.{latest_at, loop_count, inspection_count, moving_count, stage_count, nothing_known, moved_in}
use Rattle.chaos_count.specs.Counting.{known_after, known_after_loop, count_from}
use Rattle.chaos_count.specs.Noting.{targets_are_noted}
use Rattle.chaos_count.specs.declared.known.Known.{Known}
use Rattle.chaos_count.proofs.Stages.{inspection_is}
use Rattle.fd_program.specs.StepLaws.{IsStepIn, steps_are_in}

-- the record of the latest execution of a FORALL with a range that isn't empty
abbrev latest_record : Checked → List Step → ℕ → Option LoopRecord
latest_record c past site = option_map (λ (latest, before). record_at c before site latest) (latest_of past site)

-- what is known is what the steps tell
record Knows (c : Checked) (past : List Step) (k : Known) : Type 0 where
  records : Keeps c past k.records
  latest : k.latest ≡ map (latest_record c past) (below (length c.sites))

-- ---- numbers and tests

is_below : (n m : ℕ) → n < m → nat_lt n m ≡ true
is_below n m less = grind (arith, nat_tests)

and_false : (b : Bool) → (b && false) ≡ false
and_false true = refl
and_false false = refl

length_below : (a n : ℕ) → length (range_with_len a n) ≡ n
length_below a zero = refl
length_below a (suc n) = ap suc (length_below (a + 1) n)

moving_is : (form : StepForm) (b : Bool) → (if b then 0 else moving_count form) ≡ length (if b then [] else moving_stages form)
moving_is (Regular shape) true = refl
moving_is (Regular shape) false = refl
moving_is (Map array) true = refl
moving_is (Map array) false = refl

-- ---- one step after another, by the laws of what is kept

module _ (new : NewKeeps) (print : PrintKeeps) (writes : WritesKeep) (moves : MoveKeeps) (few : VersionsAreFew) (exact : RecordsAreExact)
    (inspections : InspectionsAreKnown) (c : Checked) (nodes : ℕ) (rule : HomeRule) where
  knows_nothing : Knows c [] (nothing_known c)
  knows_nothing = record { records = new c; latest = replicate_map None 0 (length c.sites) }

  -- a DISTRIBUTE
  moved_same : (past : List Step) (r : Records) (d : ℕ) (form : StepForm) → Keeps c past r → d < length c.layouts → length past < 2 ^ 31
      → moved_in r d form ≡ moved r d form
  moved_same past r d form k within short =
      let there : nat_lt d (length r.settings) ≡ true =
      ap (nat_lt d) (ap length k.settings ∙ length-map (below (length c.layouts)) (setting_at c past) ∙ length_below 0 (length c.layouts))
      ∙ is_below d (length c.layouts) within in
      let setting : setting_in r d ≡ setting_at c past d =
      ap (λ l. unwrap_or (slice_get l d) first_setting) k.settings
      ∙ ap (λ o. unwrap_or o first_setting) (get_below (setting_at c past) (length c.layouts) d within) in
      let small : int_lt (setting_in r d).version (pos 4294967296) ≡ true =
      ap (λ (s : Setting). int_lt s.version (pos 4294967296)) setting ∙ is_below (version_at c past d) 4294967296
      (omega (arith, few c past d, short)) in
      ap (λ b. if b && int_lt (setting_in r d).version (pos 4294967296) then moved r d form else r) there
      ∙ ap (λ b. if b then moved r d form else r) small

  -- a FORALL
  latest_is : (past : List Step) (k : Known) (site : ℕ) → Knows c past k → site < length c.sites
      → latest_at k.latest site ≡ latest_record c past site
  latest_is past k site known within =
      ap (λ l. unwrap_or (slice_get l site) None) known.latest
      ∙ ap (λ o. unwrap_or o None) (get_below (latest_record c past) (length c.sites) site within)

  loop_is : (past : List Step) (k : Known) (site : ℕ) (turn : LoopTurn) → Knows c past k → site < length c.sites
      → is_empty_turn turn ≡ false
      → loop_count k c rule site (record_in k.records c site turn) ≡ length (loop_stages (facts_at c nodes rule past site turn)
      (inspects_at c past site turn))
  loop_is past k site turn known within some =
      let inspected = inspection_count k.records c.arrays rule (site_at c.sites site) in
      let inspects : inspects_at c past site turn ≡ differs (record_at c past site turn) (latest_record c past site) =
      inspections c past site turn ∙ ap (λ b. not b && differs (record_at c past site turn) (latest_record c past site)) some in
      ap (λ now. if differs now (latest_at k.latest site) then inspected + 2 else 2) (exact c past site turn k.records known.records)
      ∙ ap (λ latest. if differs (record_at c past site turn) latest then inspected + 2 else 2) (latest_is past k site known within)
      ∙ ap (λ b. if b then inspected + 2 else 2) (sym inspects)
      ∙ by (inspects_at c past site turn)
    where
      by : (b : Bool) → (if b then inspection_count k.records c.arrays rule (site_at c.sites site) + 2 else 2)
          ≡ length (loop_stages (facts_at c nodes rule past site turn) b)
      by true = sym (inspection_is c nodes rule past site turn k.records known.records)
      by false = refl

  known_loop : (past : List Step) (k : Known) (site : ℕ) (turn : LoopTurn) → Knows c past k → is_empty_turn turn ≡ false
      → Knows c (Forall site turn ∷ past) (known_after_loop (length past) k c site turn)
  known_loop past k site turn known some = record {
    records = targets_are_noted writes c past site turn k.records known.records some;
    latest = ap (λ l. slice_set l site (Some (record_in k.records c site turn))) known.latest
        ∙ set_below (latest_record c past) (Some (record_in k.records c site turn)) (length c.sites) site
        ∙ same_map (λ d. if site == d then Some (record_in k.records c site turn) else latest_record c past d)
        (latest_record c (Forall site turn ∷ past)) 0 (length c.sites)
        (λ d low high. by d (site == d) refl);
  }
    where
      by : (d : ℕ) (b : Bool) → (site == d) ≡ b
          → (if b then Some (record_in k.records c site turn) else latest_record c past d) ≡ latest_record c (Forall site turn ∷ past) d
      by d true is =
          let same : site ≡ d = grind (arith, nat_tests, is) in
          let both : ((site == d) && not (is_empty_turn turn)) ≡ true = ap (λ t. t && not (is_empty_turn turn)) is ∙ ap not some in
          ap (λ now. Some now) (exact c past site turn k.records known.records)
          ∙ ap (λ n. Some (record_at c past n turn)) same
          ∙ ap (λ t. option_map (λ (latest, before). record_at c before d latest) (if t then Some (turn, past) else latest_of past d))
          (sym both)
      by d false is =
          ap (λ t. option_map (λ (latest, before). record_at c before d latest) (if t && not (is_empty_turn turn) then Some (turn, past)
          else latest_of past d)) (sym is)

  known_empty : (past : List Step) (k : Known) (site : ℕ) (turn : LoopTurn) → Knows c past k → is_empty_turn turn ≡ true
      → Knows c (Forall site turn ∷ past) k
  known_empty past k site turn known none = record {
    records = writes c past site turn [] k.records known.records
        (λ array within. sym (ap (λ b. not b && has_target (site_at c.sites site) array) none));
    latest = known.latest ∙ same_map (latest_record c past) (latest_record c (Forall site turn ∷ past)) 0 (length c.sites)
        (λ d low high.
        ap (λ t. option_map (λ (latest, before). record_at c before d latest) (if t then Some (turn, past) else latest_of past d))
        (sym (ap (λ e. (site == d) && not e) none ∙ and_false (site == d))));
  }

  -- any step
  stages_are : (past : List Step) (k : Known) (step : Step) → Knows c past k → IsStepIn c step
      → stage_count k c rule step ≡ length (stages_of c nodes rule past step)
  stages_are past k (Distribute d form) known is =
      ap (λ b. if b then 0 else moving_count form) (moves c past d form k.records known.records is.0 is.1).0
      ∙ moving_is form (is_repeat c past d form)
  stages_are past k (Print array) known is = refl
  stages_are past k (Forall site turn) known is = by (is_empty_turn turn) refl
    where
      by : (e : Bool) → is_empty_turn turn ≡ e
          → (if not e && nat_lt site (length c.sites) then loop_count k c rule site (record_in k.records c site turn) else 0)
          ≡ length (if e then [] else loop_stages (facts_at c nodes rule past site turn) (inspects_at c past site turn))
      by true none = refl
      by false some =
          ap (λ b. if b then loop_count k c rule site (record_in k.records c site turn) else 0) (is_below site (length c.sites) is)
          ∙ loop_is past k site turn known is some

  knows_next : (past : List Step) (k : Known) (step : Step) → Knows c past k → IsStepIn c step → length past < 2 ^ 31
      → Knows c (step ∷ past) (known_after (length past) k c step)
  knows_next past k (Distribute d form) known is short = record {
    records = subst (Keeps c (Distribute d form ∷ past)) (sym (moved_same past k.records d form known.records is.0 short))
        (moves c past d form k.records known.records is.0 is.1).1;
    latest = known.latest;
  }
  knows_next past k (Print array) known is short = record { records = print c past array k.records known.records; latest = known.latest }
  knows_next past k (Forall site turn) known is short = by (is_empty_turn turn) refl
    where
      by : (e : Bool) → is_empty_turn turn ≡ e
          → Knows c (Forall site turn ∷ past) (if not e && nat_lt site (length c.sites) then known_after_loop (length past) k c site turn
          else k)
      by true none = known_empty past k site turn known none
      by false some =
          subst (λ b. Knows c (Forall site turn ∷ past) (if b then known_after_loop (length past) k c site turn else k))
          (sym (is_below site (length c.sites) is))
          (known_loop past k site turn known some)

  counts_from : (past : List Step) (k : Known) (steps : List Step) → Knows c past k → AllByRecursion (IsStepIn c) steps
      → length past + length steps < 2 ^ 31
      → count_from (length past) k c rule steps + length c.outputs ≡ length (phases_from c nodes rule past steps)
  counts_from past k [] known are short = omega (arith, length-outputs (length past) past 0 c.outputs)
  counts_from past k (step ∷ steps) known are short =
      let next = known_after (length past) k c step in
      let rest = counts_from (step ∷ past) next steps (knows_next past k step known are.0 (omega (arith, short))) are.1
      (omega (arith, short)) in
      let at : count_from (length past + 1) next c rule steps ≡ count_from (suc (length past)) next c rule steps =
      (let e : length past + 1 ≡ suc (length past) = omega arith in ap (λ n. count_from n next c rule steps) e) in
      omega (
        arith,
        rest,
        at,
        stages_are past k step known are.0,
        length-before (phases_from c nodes rule (step ∷ past) steps) past step (length past) (stages_of c nodes rule past step),
      )

  pub counts_right : (steps : List Step) → IsChecked c → steps ≡ trace_of c → length steps + length c.outputs < 2 ^ 31
      → count_from 0 (nothing_known c) c rule steps + length c.outputs ≡ length (phases_from c nodes rule [] steps)
  counts_right steps checked same short =
      counts_from [] (nothing_known c) steps knows_nothing (subst (AllByRecursion (IsStepIn c)) (sym same) (steps_are_in c checked))
      (omega (arith, short))
