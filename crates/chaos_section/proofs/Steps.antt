-- Loops over lists of numbers, one further.
use Rattle.std.proofs.Common.{◌≡◌, ℕ, ◌+◌, ◌<◌, ℤ, pos, Bool, List, [], ◌∷◌, ◌++◌, length, take, filter, get_or, ap, sym, ◌∙◌}
use Rattle.std.proofs.Common.{append_assoc, append-nil}
use Rattle.std.specs.List.{flat_map}
use Rattle.std.proofs.lemmas.List.{take_more}
use Rattle.std.proofs.lemmas.List.Concat.{flat_map-append}
use Rattle.std.proofs.lemmas.List.Elements.{filter-append}

pub flat_map-more : {B : Type 0} (f : ℤ → List B) (xs : List ℤ) (k : ℕ) (start before after : List B) → k < length xs
    → before ≡ start ++ flat_map f (take k xs) → after ≡ before ++ f (get_or xs k (pos 0)) → after ≡ start ++ flat_map f (take (k + 1) xs)
flat_map-more f xs k start before after less held pushed =
    pushed
    ∙ ap (λ l. l ++ f (get_or xs k (pos 0))) held
    ∙ append_assoc start (flat_map f (take k xs)) (f (get_or xs k (pos 0)))
    ∙ ap (λ l. start ++ l) (ap (λ l. flat_map f (take k xs) ++ l) (sym (append-nil (f (get_or xs k (pos 0)))))
    ∙ sym (ap (flat_map f) (take_more xs k (pos 0) less) ∙ flat_map-append f (take k xs) (get_or xs k (pos 0) ∷ [])))

pub filter-more : (p : ℤ → Bool) (xs : List ℤ) (k : ℕ) (before after : List ℤ) → k < length xs → before ≡ filter p (take k xs)
    → after ≡ before ++ filter p (get_or xs k (pos 0) ∷ []) → after ≡ filter p (take (k + 1) xs)
filter-more p xs k before after less held pushed =
    pushed
    ∙ ap (λ l. l ++ filter p (get_or xs k (pos 0) ∷ [])) held
    ∙ sym (ap (filter p) (take_more xs k (pos 0) less) ∙ filter-append p (take k xs) (get_or xs k (pos 0) ∷ []))
