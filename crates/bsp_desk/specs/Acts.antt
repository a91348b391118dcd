-- What the actions do to a face alone.
use Rattle.std.specs.Prelude.{◌≡◌, ℕ, List, ◌∷◌, Result, Ok, Err}
use Rattle.chaos_letter.specs.Fits.{Fits}
use Rattle.chaos_letter.specs.declared.letter.Letter.{Letter}
use Rattle.chaos_letter.specs.declared.wanted.Wanted.{Wanted}
use Rattle.bsp_core.specs.Views.{Face, sent_from, taken_into}
use Rattle.bsp_core.specs.declared.phased.TakeFault.{TakeFault}
use Rattle.bsp_core.specs.declared.phased.TakeFault.TheVariants.{Stray}

-- the next letter, and the face without it
abbrev pub Gives : Face → Letter → Face → Type 0
Gives v x w = (to : ℕ) × (rest : List (ℕ × Letter)) × (v.out ≡ (to, x) ∷ rest) × (w ≡ sent_from v rest)

-- the letter is the next that is taken
abbrev pub Receives : Face → Letter → Face → Type 0
Receives v x w =
    (from : ℕ) × (wanted : Wanted) × (rest : List (ℕ × Wanted)) × (v.due ≡ (from, wanted) ∷ rest) × Fits wanted x
    × (w ≡ taken_into v rest x)

-- a refusal comes where the letter isn't wanted, hands it back and changes nothing
abbrev pub HandsBack : Face → Letter → Result Unit TakeFault → Face → Type 0
HandsBack v x (Ok _) w = Unit {0}
HandsBack v x (Err (Stray wanted got)) w =
    (¬ Fits wanted x) × (got ≡ x) × (w ≡ v) × ((from : ℕ) × (rest : List (ℕ × Wanted)) × (v.due ≡ (from, wanted) ∷ rest))
