-- What a spelled number says.
use Rattle.std.specs.Prelude.{ℕ, ◌≡◌, ◌≤◌, ◌&&◌, Bool, true, false, List, Some, None, if◌then◌else◌, nat_le}
use Rattle.std.proofs.Common.{refl, subst}
use Rattle.std.proofs.lemmas.Bool.{leb-true}
use Rattle.fd_spell.specs.Spelled.{is_canonical, number_of, number_in}

-- a number is in its range
pub in_range : (low high : ℕ) (text : List ℕ) (n : ℕ) → Some n ≡ number_in low high text → (low ≤ n) × (n ≤ high)
in_range low high text n is = by (is_canonical text) (nat_le low (number_of text)) refl (nat_le (number_of text) high) refl is
  where
    by : (c a : Bool) → nat_le low (number_of text) ≡ a → (b : Bool) → nat_le (number_of text) high ≡ b
        → Some n ≡ (if c && (a && b) then Some (number_of text) else None) → (low ≤ n) × (n ≤ high)
    by true true least true most e =
        let same : number_of text ≡ n = cc in
        subst (λ k. (low ≤ k) × (k ≤ high)) same (leb-true low (number_of text) least, leb-true (number_of text) high most)
    by true true least false most e = cc
    by true false least b most e = cc
    by false a least b most e = cc
