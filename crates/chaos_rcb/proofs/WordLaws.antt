-- Words of the program that bisects.
use Rattle.std.proofs.Common.{◌≡◌, ◌<◌, ◌≤◌, ℕ, Bool, true, false, ◌&&◌, [], ◌∷◌, List, length, map, None, refl, subst, arith}
use Rattle.std.specs.Prelude.{nat_le}
use Rattle.std.specs.List.{list_all}
use Rattle.std.proofs.lemmas.Bool.{leb-true}
use Rattle.std.proofs.lemmas.List.{length-map}
use Rattle.fd_spell.specs.Spelled.{is_name}
use Rattle.chaos_rcb.specs.Asked.{are_files, asked_to_bisect}

-- fewer than three words ask for nothing
pub too_few : {X : Type 0} (text : X → List ℕ) (words : List X) → length words < 3 → None ≡ asked_to_bisect (map text words)
too_few text [] few = refl
too_few text (a ∷ []) few = refl
too_few text (a ∷ b ∷ []) few = refl
too_few text (a ∷ b ∷ c ∷ words) few = absurd (omega (arith, few))

-- names of files are one to three
pub file_count : {X : Type 0} (text : X → List ℕ) (words : List X) → true ≡ are_files (map text words)
    → (1 ≤ length words) × (length words ≤ 3)
file_count text words is =
    subst (λ n. (1 ≤ n) × (n ≤ 3)) (length-map words text)
    (by (nat_le 1 n) refl (nat_le n 3) refl (list_all is_name (map text words)) is)
  where
    n : ℕ
    n = length (map text words)

    by : (a : Bool) → nat_le 1 n ≡ a → (b : Bool) → nat_le n 3 ≡ b → (c : Bool) → true ≡ (a && (b && c)) → (1 ≤ n) × (n ≤ 3)
    by true least true most c e = (leb-true 1 n least, leb-true n 3 most)
    by true least false most c e = cc
    by false least b most c e = cc
