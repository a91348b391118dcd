-- What clap's answer says of what the words ask for.
use Rattle.std.proofs.Common.{◌≡◌, ◌≢◌, ◌∙◌, Bool, true, List, [], ◌∷◌, Option, Some, None, option_and_then, IfSome, fold, codes, refl, ap}
use Rattle.std.proofs.Common.{sym, subst}
use Rattle.std.specs.List.{list_all}
use Rattle.clap.specs.Walk.{Row, one_of, with_default}
use Rattle.clap.specs.Kinds.{Kinds}
use Rattle.clap.specs.Words.{fault_of, matches_of}
use Rattle.fd_command.specs.Options.{Text, value_options, flags, source_name}
use Rattle.fd_command.specs.Uses.{Use, has}
use Rattle.fd_command.specs.Asked.{asked, asked_once, both}
use Rattle.fd_command.specs.ClapCommand.{the_app, is_clear, flag_text}
use Rattle.fd_command.specs.ClapRows.{manner_with, origin_by}
use Rattle.fd_command.proofs.Rules.{rules_by}
use Rattle.fd_command.proofs.UseRows.{rows_by}
use Rattle.fd_command.proofs.Verdict.{verdict, verdict_by, idle_walk, settled_held, idle_settled}
use Rattle.fd_command.proofs.Simulation.{read, result, simulates}
use Rattle.fd_command.proofs.Agree.{asked_read}
use Rattle.fd_command.proofs.Getters.{AreGood, reads_good, value_read, flag_read}

clap_verdict : (words : List Text) → verdict (rules_by value_options flags) (idle_walk [] (settled_held [])) words
    ≡ verdict_by (fault_of the_app words) (matches_of the_app words)
unfolding verdict
clap_verdict words = refl

clap_reads : (words : List Text) → list_all is_clear words ≡ true
    → verdict_by (fault_of the_app words) (matches_of the_app words) ≡ result value_options flags (read value_options flags [] None words)
clap_reads words clear = sym (clap_verdict words) ∙ (simulates value_options flags refl refl words clear).0 [] (settled_held [])
    (idle_settled (rules_by value_options flags) [])

-- what the rows of clap's matches ask for
abbrev pub AsksBy : List Text → List Row → Type 0
AsksBy words rows = (report : Bool) × (one_of (codes "report") rows ≡ Some (flag_text report))
    × (plain : Bool) × (one_of (codes "plain") rows ≡ Some (flag_text plain))
    × (asked words ≡ both (origin_by rows) (manner_with rows report plain))

asks_by_uses : (words : List Text) (us : List Use) → AreGood us → asked words ≡ asked_once us
    → AsksBy words (fold with_default (rows_by us) (rules_by value_options flags))
asks_by_uses words us good e = (
  has (codes "report") us,
  flag_read value_options (codes "report") us good.fit refl refl,
  has (codes "plain") us,
  flag_read value_options (codes "plain") us good.fit refl refl,
  e ∙ rw (
    good.once,
    value_read value_options source_name us good.fit refl refl,
    value_read value_options (codes "mesh") us good.fit refl refl,
    value_read value_options (codes "size") us good.fit refl refl,
    value_read value_options (codes "nodes") us good.fit refl refl,
    value_read value_options (codes "turns") us good.fit refl refl,
    value_read value_options (codes "iterations") us good.fit refl refl,
  ) refl,
)

-- where clap takes the words, they ask for what its matches say
pub accepted : (words : List Text) → list_all is_clear words ≡ true → fault_of the_app words ≡ [] → AsksBy words (matches_of the_app words)
accepted words clear none =
    by (read value_options flags [] None words) ((reads_good words).0 [] (record { once = refl; fit = refl }))
    (sym (ap (λ (ks : Kinds). verdict_by ks (matches_of the_app words)) none) ∙ clap_reads words clear) (sym (asked_read words clear))
  where
    by : (o : Option (List Use)) → IfSome o AreGood → Some (matches_of the_app words) ≡ result value_options flags o
        → asked words ≡ option_and_then asked_once o
        → AsksBy words (matches_of the_app words)
    by None good e f = cc
    by (Some us) good e f =
        let same : fold with_default (rows_by us) (rules_by value_options flags) ≡ matches_of the_app words = cc in
        subst (AsksBy words) same (asks_by_uses words us good f)

-- where clap refuses them, they aren't taken
pub refused : (words : List Text) → list_all is_clear words ≡ true → fault_of the_app words ≢ [] → asked words ≡ None
refused words clear some = by (fault_of the_app words) some (clap_reads words clear)
  where
    of_read : (o : Option (List Use)) → None ≡ result value_options flags o → option_and_then asked_once o ≡ None
    of_read None e = refl
    of_read (Some us) e = cc

    by : (ks : Kinds) → ks ≢ [] → verdict_by ks (matches_of the_app words) ≡ result value_options flags
        (read value_options flags [] None words) → asked words ≡ None
    by [] some e = absurd (some refl)
    by (k ∷ ks) some e = sym (asked_read words clear) ∙ of_read (read value_options flags [] None words) e
