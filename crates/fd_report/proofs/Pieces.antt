-- Pieces appended one after another.
use Rattle.std.proofs.Common.{◌≡◌, refl, ℕ, List, ◌++◌, ◌∙◌, append_assoc}
use Rattle.list_laws.specs.Pieces.{two}

-- the next two
pub next_two : (t a b c t1 t2 : List ℕ) → t1 ≡ t ++ a → t2 ≡ (t1 ++ b) ++ c → t2 ≡ t ++ ((a ++ b) ++ c)
next_two t a b c t1 t2 e f = two t (a ++ b) c (t1 ++ b) t2 (two t a b t1 (t1 ++ b) e refl) f

-- the first two
pub first : (t a b t1 : List ℕ) → t1 ≡ (t ++ a) ++ b → t1 ≡ t ++ (a ++ b)
first t a b t1 e = e ∙ append_assoc t a b
