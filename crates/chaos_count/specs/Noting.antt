-- Where an execution of a FORALL is noted by its references, the records are those after it.
use Rattle.std.specs.Prelude.{◌≡◌, refl, ℕ, Bool, true, false, not, ◌&&◌, ◌||◌, ◌==◌, if◌then◌else◌, List, [], ◌∷◌, length, fold}
use Rattle.std.specs.List.{list_any}
use Rattle.std.proofs.Common.{ap, sym, ◌∙◌, subst}
use Rattle.fd_program.specs.Past.{has_target}
use Rattle.fd_program.specs.Trace.{site_at, is_empty_turn}
use Rattle.fd_words.specs.Roles.{is_target}
use Rattle.fd_program.specs.declared.checked.Checked.{Checked}
use Rattle.fd_program.specs.declared.reference.Reference.{Reference}
use Rattle.fd_program.specs.declared.trace.LoopTurn.{LoopTurn}
use Rattle.fd_program.specs.declared.trace.Step.{Step}
use Rattle.fd_program.specs.declared.trace.Step.TheVariants.{Forall}
use Rattle.chaos_records.specs.Keeping.{Keeps, written_at}
use Rattle.chaos_records.specs.KeepingLaws.{WritesKeep}
use Rattle.chaos_records.specs.declared.records.Records.{Records}
use Rattle.chaos_count.specs.Counting.{noted_reference}

abbrev pub TargetsAreNoted : Type 0
TargetsAreNoted =
    (c : Checked) (past : List Step) (site : ℕ) (turn : LoopTurn) (r : Records) → Keeps c past r → is_empty_turn turn ≡ false
    → Keeps c (Forall site turn ∷ past) (fold (noted_reference (length past)) r (site_at c.sites site).references)

-- ---- the targets of a FORALL

abbrev targets_in : List Reference → List ℕ
targets_in [] = []
targets_in (x ∷ xs) = if is_target x.role then x.array ∷ targets_in xs else targets_in xs

fold_targets : (execution : ℕ) (r : Records) (xs : List Reference) → fold (noted_reference execution) r xs ≡ fold (written_at execution) r
    (targets_in xs)
fold_targets execution r [] = refl
fold_targets execution r (x ∷ xs) = by (is_target x.role) (λ r. fold_targets execution r xs)
  where
    by : (b : Bool) → ((r : Records) → fold (noted_reference execution) r xs ≡ fold (written_at execution) r (targets_in xs))
        → fold (noted_reference execution) (if b then written_at execution r x.array else r) xs ≡ fold (written_at execution) r
        (if b then x.array ∷ targets_in xs else targets_in xs)
    by true rest = rest (written_at execution r x.array)
    by false rest = rest r

targets_same : (array : ℕ) (xs : List Reference)
    → list_any (λ a. a == array) (targets_in xs) ≡ list_any (λ (x : Reference). is_target x.role && (x.array == array)) xs
targets_same array [] = refl
targets_same array (x ∷ xs) = by (is_target x.role) (targets_same array xs)
  where
    by : (b : Bool) → list_any (λ a. a == array) (targets_in xs) ≡ list_any (λ (x : Reference). is_target x.role && (x.array == array)) xs
        → list_any (λ a. a == array) (if b then x.array ∷ targets_in xs else targets_in xs)
        ≡ ((b && (x.array == array)) || list_any (λ (x : Reference). is_target x.role && (x.array == array)) xs)
    by true rest = ap (λ t. (x.array == array) || t) rest
    by false rest = rest

pub targets_are_noted : WritesKeep → TargetsAreNoted
targets_are_noted writes c past site turn r known some =
    subst (Keeps c (Forall site turn ∷ past)) (sym (fold_targets (length past) r (site_at c.sites site).references))
    (writes c past site turn (targets_in (site_at c.sites site).references) r known
    (λ array within. targets_same array (site_at c.sites site).references
    ∙ sym (ap (λ b. not b && has_target (site_at c.sites site) array) some)))
