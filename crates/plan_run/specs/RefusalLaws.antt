-- A step that is refused inspects.
use Rattle.std.specs.Prelude.{◌≡◌, refl, ℕ, ◌<◌, Bool, true, false, not, ◌&&◌, ◌==◌, if◌then◌else◌, List, [], ◌∷◌, length, Option, Some}
use Rattle.std.specs.Prelude.{None}
use Rattle.std.specs.Option.{option_map, option_map_or}
use Rattle.std.proofs.Common.{sym, ◌∙◌, subst}
use Rattle.std.proofs.lemmas.Bool.{eqb-true}
use Rattle.fd_words.specs.declared.place.Offence.{Offence}
use Rattle.fd_program.specs.Checks.{IsChecked}
use Rattle.fd_program.specs.Layouts.{Scene, store_at}
use Rattle.fd_program.specs.Loops.{offence_of}
use Rattle.fd_program.specs.Past.{record_at, is_same_record, latest_of, inspects_at}
use Rattle.fd_program.specs.RecordLaws.{record_determines, latest_before}
use Rattle.fd_program.specs.RunLaws.{IsHistory}
use Rattle.fd_program.specs.Runs.{refusal_of}
use Rattle.fd_program.specs.Trace.{site_at, is_empty_turn}
use Rattle.fd_program.specs.declared.refused.Refused.{Refused}
use Rattle.fd_program.specs.declared.trace.LoopTurn.{LoopTurn}
use Rattle.fd_program.specs.declared.trace.Step.{Step}
use Rattle.fd_program.specs.declared.trace.Step.TheVariants.{Distribute, Print, Forall}

-- none of the steps was refused
abbrev pub AreCompleted : Scene → List Step → Type 0
AreCompleted s [] = Unit {0}
AreCompleted s (step ∷ past) = (refusal_of s.checked step (store_at s past) ≡ None) × AreCompleted s past

-- after completed steps a FORALL that is refused inspects
abbrev pub RefusedInspects : Type 0
RefusedInspects =
    (s : Scene) (past : List Step) (site : ℕ) (turn : LoopTurn) (r : Refused)
    → IsChecked s.checked → site < length s.checked.sites → IsHistory s past → AreCompleted s past
    → refusal_of s.checked (Forall site turn) (store_at s past) ≡ Some r → inspects_at s.checked past site turn ≡ true

-- ---- the latest execution had no offence

abbrev offence_at_step : Scene → ℕ → LoopTurn → List Step → Option Offence
offence_at_step s site turn past = offence_of s.checked.arrays (site_at s.checked.sites site) turn (store_at s past)

unmapped : {A B : Type 0} (f : A → B) (o : Option A) → option_map f o ≡ None → o ≡ None
unmapped f None e = refl
unmapped f (Some x) e = cc

latest_passes : (s : Scene) (past : List Step) (k : ℕ) (turn : LoopTurn) (before : List Step) → AreCompleted s past
    → latest_of past k ≡ Some (turn, before) → offence_at_step s k turn before ≡ None
latest_passes s [] k turn before h e = cc
latest_passes s (Distribute d form ∷ past) k turn before h e = latest_passes s past k turn before h.1 e
latest_passes s (Print array ∷ past) k turn before h e = latest_passes s past k turn before h.1 e
latest_passes s (Forall site latest ∷ past) k turn before h e =
    by (site == k) (is_empty_turn latest) refl e h.0 (latest_passes s past k turn before h.1)
  where
    by : (a b : Bool) → (site == k) ≡ a → (if a && not b then Some (latest, past) else latest_of past k) ≡ Some (turn, before)
        → option_map (λ (o : Offence). let r : Refused = record { site = site; offence = o } in r)
        (if b then None else offence_at_step s site latest past) ≡ None
        → (latest_of past k ≡ Some (turn, before) → offence_at_step s k turn before ≡ None) → offence_at_step s k turn before ≡ None
    by true false here e none rest =
        let same : (latest, past) ≡ (turn, before) = cc in
        let at : site ≡ k = eqb-true site k here in
        subst (λ (l : LoopTurn × List Step). offence_at_step s k l.0 l.1 ≡ None) same
        (subst (λ n. offence_at_step s n latest past ≡ None) at
        (unmapped (λ (o : Offence). let r : Refused = record { site = site; offence = o } in r) (offence_at_step s site latest past) none))
    by true true here e none rest = rest e
    by false b here e none rest = rest e

-- ---- the law

pub refused_inspects : RefusedInspects
refused_inspects s past site turn r known there history completed refused = by (is_empty_turn turn) refused
  where
    mapped : (o : Option Offence) → o ≡ None
        → option_map (λ (o : Offence). let r : Refused = record { site = site; offence = o } in r) o ≡ Some r → ⊥
    mapped None e f = cc
    mapped (Some x) e f = cc

    at_latest : (o : Option (LoopTurn × List Step)) → latest_of past site ≡ o
        → option_map (λ (o : Offence). let r : Refused = record { site = site; offence = o } in r) (offence_at_step s site turn past)
        ≡ Some r
        → option_map_or (λ (latest, before). not (is_same_record (record_at s.checked before site latest)
        (record_at s.checked past site turn))) o true ≡ true
    at_latest None e f = refl
    at_latest (Some l) e f = differ (is_same_record (record_at s.checked l.1 site l.0) (record_at s.checked past site turn)) refl
      where
        differ : (b : Bool) → is_same_record (record_at s.checked l.1 site l.0) (record_at s.checked past site turn) ≡ b → not b ≡ true
        differ false same = refl
        differ true same =
            let both = record_determines s site l.0 turn l.1 past known there (latest_before past site l.0 l.1 e) history same in
            absurd (mapped (offence_at_step s site turn past) (sym both.offence ∙ latest_passes s past site l.0 l.1 completed e) f)

    by : (b : Bool) → option_map (λ (o : Offence). let r : Refused = record { site = site; offence = o } in r)
        (if b then None else offence_at_step s site turn past) ≡ Some r
        → (not b && option_map_or (λ (latest, before). not (is_same_record (record_at s.checked before site latest)
        (record_at s.checked past site turn))) (latest_of past site) true) ≡ true
    by true f = cc
    by false f = at_latest (latest_of past site) refl f
