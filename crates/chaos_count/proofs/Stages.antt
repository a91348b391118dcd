-- The phases of an inspection are as many as the forms that are kept tell.
use Rattle.std.specs.Prelude.{◌≡◌, refl, ℕ, zero, suc, ◌+◌, Bool, true, false, ◌&&◌, ◌||◌, if◌then◌else◌, List, [], ◌∷◌, ◌++◌, length, map}
use Rattle.std.specs.Prelude.{slice_get, unwrap_or}
use Rattle.std.specs.List.{list_any, enumerate_from, range_with_len}
use Rattle.std.proofs.Common.{ap, sym, ◌∙◌, arith, length-append}
use Rattle.std.proofs.lemmas.List.{length-map}
use Rattle.fd_words.specs.declared.place.Role.{Role}
use Rattle.fd_program.specs.Homes.{first_target}
use Rattle.fd_program.specs.Layouts.{facts_at, layout_at, layouts_at}
use Rattle.fd_program.specs.Places.{decomposition_of}
use Rattle.fd_program.specs.Trace.{site_at}
use Rattle.fd_program.specs.Uses.{is_plain}
use Rattle.fd_program.specs.declared.array.LayoutName.{LayoutName}
use Rattle.fd_program.specs.declared.checked.Checked.{Checked}
use Rattle.fd_program.specs.declared.loop_facts.HomeRule.{HomeRule}
use Rattle.fd_program.specs.declared.loop_facts.HomeRule.TheVariants.{Owner, Most}
use Rattle.fd_program.specs.declared.reference.Reference.{Reference}
use Rattle.fd_program.specs.declared.trace.LoopTurn.{LoopTurn}
use Rattle.fd_program.specs.declared.trace.Step.{Step}
use Rattle.plan_loop.specs.LoopLetters.{asks_places, asking_phases, has_level, fetching_phases, round_phases, phases_to_vote}
use Rattle.plan_loop.specs.LoopLetters.{phases_from_vote, executor_phases}
use Rattle.plan_loop.specs.LoopLetters.{is_for}
use Rattle.fd_program.specs.Met.{is_map, layout_for, no_layout}
use Rattle.plan_loop.specs.declared.loop_phase.Asking.{Asking}
use Rattle.plan_loop.specs.declared.loop_phase.Asking.TheVariants.{Indexes, Homes, References}
use Rattle.plan_loop.specs.declared.loop_phase.Level.{Level}
use Rattle.plan_loop.specs.declared.loop_phase.Level.TheVariants.{First, Second}
use Rattle.plan_loop.specs.declared.loop_phase.LoopPhase.{LoopPhase}
use Rattle.plan_loop.specs.declared.loop_phase.LoopPhase.TheVariants as phase
use Rattle.chaos_records.specs.Keeping.{Keeps, first_setting, setting_in, setting_at}
use Rattle.chaos_records.specs.declared.records.Records.{Records}
use Rattle.plan_run.specs.Phases.{loop_stages}
use Rattle.plan_run.specs.declared.stage.Stage.TheVariants as stage
use Rattle.chaos_count.specs.Counting.{is_for_in, asks_from, asks_in, two_if, round_count, inspection_count}

-- ---- the form of a decomposition, BLOCK where there is none

same_forms : (c : Checked) (past : List Step) (a : ℕ) (ls : List LayoutName) (k : ℕ)
    → (unwrap_or (slice_get (map (setting_at c past) (range_with_len a (length ls))) k) first_setting).form
    ≡ (unwrap_or (slice_get (map (layout_at past) (enumerate_from a ls)) k) no_layout).form
same_forms c past a [] k = refl
same_forms c past a (l ∷ ls) zero = refl
same_forms c past a (l ∷ ls) (suc k) = same_forms c past (a + 1) ls k

form_is : (c : Checked) (past : List Step) (r : Records) → Keeps c past r → (d : ℕ)
    → (setting_in r d).form ≡ (unwrap_or (slice_get (layouts_at c past) d) no_layout).form
form_is c past r k d = ap (λ l. (unwrap_or (slice_get l d) first_setting).form) k.settings ∙ same_forms c past 0 c.layouts d

-- ---- asking for places

module _ (c : Checked) (nodes : ℕ) (rule : HomeRule) (past : List Step) (site : ℕ) (turn : LoopTurn) (r : Records) (k : Keeps c past r)
  where
    is_for_same : (asking : Asking) (place : ℕ) (role : Role)
        (plain : Bool)
        → is_for (facts_at c nodes rule past site turn) asking (place + 1) role plain ≡ is_for_in rule
        (first_target (site_at c.sites site).body) asking place role plain
    is_for_same (Indexes level) place role plain = refl
    is_for_same References place role plain = refl
    is_for_same Homes place role plain = by rule
      where
        by : (rule : HomeRule) → is_for (facts_at c nodes rule past site turn) Homes (place + 1) role plain ≡ is_for_in rule
            (first_target (site_at c.sites site).body) Homes place role plain
        by Owner = refl
        by Most = refl

    asks_same_from : (asking : Asking) (place : ℕ) (xs : List Reference)
        → list_any (λ (number, x). is_for (facts_at c nodes rule past site turn) asking number x.role (is_plain x.subscript)
        && is_map (layout_for (facts_at c nodes rule past site turn) x.array).form) (enumerate_from (place + 1) xs)
        ≡ asks_from r c.arrays rule (first_target (site_at c.sites site).body) asking place xs
    asks_same_from asking place [] = refl
    asks_same_from asking place (x ∷ xs) =
        let f = facts_at c nodes rule past site turn in
        let rest = asks_same_from asking (place + 1) xs in
        let later = asks_from r c.arrays rule (first_target (site_at c.sites site).body) asking (place + 1) xs in
        let plain = is_plain x.subscript in
        ap (λ b. (is_for f asking (place + 1) x.role plain && is_map (layout_for f x.array).form) || b) rest
        ∙ ap (λ b. (b && is_map (layout_for f x.array).form) || later) (is_for_same asking place x.role plain)
        ∙ ap (λ form. (is_for_in rule (first_target (site_at c.sites site).body) asking place x.role plain && is_map form) || later)
        (sym (form_is c past r k (decomposition_of c.arrays x.array)))

    asks_same : (asking : Asking) → asks_places (facts_at c nodes rule past site turn) asking ≡ asks_in r c.arrays rule
        (site_at c.sites site) asking
    asks_same asking = asks_same_from asking 0 (site_at c.sites site).references

    length-two : (b : Bool) (x y : LoopPhase) → length (if b then x ∷ y ∷ [] else []) ≡ two_if b
    length-two true x y = refl
    length-two false x y = refl

    pub inspection_is : length (loop_stages (facts_at c nodes rule past site turn) true) ≡ inspection_count r c.arrays rule
        (site_at c.sites site) + 2
    inspection_is =
        let f = facts_at c nodes rule past site turn in
        let it = site_at c.sites site in
        let before : List LoopPhase = round_phases f First ++ round_phases f Second in
        let homes : List LoopPhase = asking_phases f Homes ++ (phase.Iterations ∷ []) in
        let both : List LoopPhase = homes ++ asking_phases f References in
        let all : List LoopPhase = phases_to_vote f ++ phases_from_vote f in
        let one : (asking : Asking) → length (asking_phases f asking) ≡ two_if (asks_in r c.arrays rule it asking) =
        (λ asking. length-two (asks_places f asking) (phase.DerefAsk asking) (phase.DerefAnswer asking) ∙ ap two_if (asks_same asking)) in
        let round : (level : Level) → length (round_phases f level) ≡ round_count r c.arrays rule it level = (λ level. omega (
          arith,
          length-append (asking_phases f (Indexes level)) (fetching_phases f level),
          one (Indexes level),
          length-two (has_level f level) (phase.IndexAsk level) (phase.IndexValues level),
        )) in
        let to_vote : length (phases_to_vote f) ≡ length before + 1 = length-append before (phase.Vote ∷ []) in
        let from_vote : length (phases_from_vote f) ≡ length both + 1 = length-append both (phase.ScheduleAsk ∷ []) in
        omega (
          arith,
          length-map (all ++ executor_phases) stage.InLoop,
          length-append all executor_phases,
          length-append (phases_to_vote f) (phases_from_vote f),
          to_vote,
          from_vote,
          length-append (round_phases f First) (round_phases f Second),
          length-append homes (asking_phases f References),
          length-append (asking_phases f Homes) (phase.Iterations ∷ []),
          round First,
          round Second,
          one Homes,
          one References,
        )
