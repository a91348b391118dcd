-- One step of a walk over a list that carries a state and notes faults.
use Rattle.std.proofs.Common.{◌≡◌, ℕ, ◌+◌, ◌<◌, List, ◌∷◌, ◌++◌, length, drop, get_or, ap, sym, ◌∙◌, append_assoc}
use Rattle.std.specs.List.{fold}
use Rattle.std.proofs.lemmas.List.{drop_more}
use Rattle.fd_words.specs.declared.source.SourceFault.{SourceFault}
use Rattle.fd_scope.specs.Faults.{along}

split : {A : Type 0} (xs : List A) (i : ℕ) (x : A) → i < length xs → x ≡ get_or xs i x → drop i xs ≡ x ∷ drop (i + 1) xs
split xs i x within is = drop_more xs i x within ∙ ap (λ y. y ∷ drop (i + 1) xs) (sym is)

pub fold_step : {S A : Type 0} (after : S → A → S) (s next all : S) (xs : List A) (i : ℕ) (x : A) → i < length xs → x ≡ get_or xs i x
    → next ≡ after s x → fold after s (drop i xs) ≡ all → fold after next (drop (i + 1) xs) ≡ all
fold_step after s next all xs i x within is step before =
    ap (λ z. fold after z (drop (i + 1) xs)) step ∙ sym (ap (fold after s) (split xs i x within is)) ∙ before

pub along_step : {S A : Type 0} (after : S → A → S) (faults : S → A → List SourceFault) (s next : S) (old new all : List SourceFault)
    (xs : List A) (i : ℕ) (x : A)
    → i < length xs → x ≡ get_or xs i x → next ≡ after s x → new ≡ old ++ faults s x
    → old ++ along after faults s (drop i xs) ≡ all → new ++ along after faults next (drop (i + 1) xs) ≡ all
along_step after faults s next old new all xs i x within is step noted before =
    ap (λ z. new ++ along after faults z (drop (i + 1) xs)) step
    ∙ ap (λ fs. fs ++ along after faults (after s x) (drop (i + 1) xs)) noted
    ∙ append_assoc old (faults s x) (along after faults (after s x) (drop (i + 1) xs))
    ∙ sym (ap (λ ys. old ++ along after faults s ys) (split xs i x within is))
    ∙ before
