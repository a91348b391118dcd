-- Words of the program that appends.
use Rattle.std.proofs.Common.{◌≡◌, ◌≢◌, ℕ, [], ◌∷◌, List, length, map, None, refl}
use Rattle.chaos_append.specs.Asked.{asked_to_append}

-- other than six words ask for nothing
pub not_six : {X : Type 0} (text : X → List ℕ) (words : List X) → length words ≢ 6 → None ≡ asked_to_append (map text words)
not_six text [] other = refl
not_six text (a ∷ []) other = refl
not_six text (a ∷ b ∷ []) other = refl
not_six text (a ∷ b ∷ c ∷ []) other = refl
not_six text (a ∷ b ∷ c ∷ d ∷ []) other = refl
not_six text (a ∷ b ∷ c ∷ d ∷ e ∷ []) other = refl
not_six text (a ∷ b ∷ c ∷ d ∷ e ∷ f ∷ []) other = absurd (other refl)
not_six text (a ∷ b ∷ c ∷ d ∷ e ∷ f ∷ g ∷ words) other = refl
