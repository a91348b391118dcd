-- Pieces appended one after another.
use Rattle.std.specs.Prelude.{◌≡◌, ℕ, List, ◌++◌, Result, OnOk}
use Rattle.std.proofs.Common.{ap, ◌∙◌, append_assoc, Ok, Err}

pub on_ok : {X E P Q : Type 0} (r : Result X E) → (P → Q) → OnOk r P → OnOk r Q
on_ok (Ok x) f h = f h
on_ok (Err e) f h = tt

pub two : (t a b t1 t2 : List ℕ) → t1 ≡ t ++ a → t2 ≡ t1 ++ b → t2 ≡ t ++ (a ++ b)
two t a b t1 t2 e f = f ∙ ap (λ x. x ++ b) e ∙ append_assoc t a b

pub three : (t a b c t1 t2 t3 : List ℕ) → t1 ≡ t ++ a → t2 ≡ t1 ++ b → t3 ≡ t2 ++ c → t3 ≡ t ++ (a ++ (b ++ c))
three t a b c t1 t2 t3 e f g = two t1 b c t2 t3 f g ∙ ap (λ x. x ++ (b ++ c)) e ∙ append_assoc t a (b ++ c)

pub four : (t a b c d t1 t2 t3 t4 : List ℕ) → t1 ≡ t ++ a → t2 ≡ t1 ++ b → t3 ≡ t2 ++ c → t4 ≡ t3 ++ d
    → t4 ≡ t ++ (a ++ (b ++ (c ++ d)))
four t a b c d t1 t2 t3 t4 e f g h =
    three t1 b c d t2 t3 t4 f g h ∙ ap (λ x. x ++ (b ++ (c ++ d))) e ∙ append_assoc t a (b ++ (c ++ d))

pub five : (t a b c d e t1 t2 t3 t4 t5 : List ℕ) → t1 ≡ t ++ a → t2 ≡ t1 ++ b → t3 ≡ t2 ++ c → t4 ≡ t3 ++ d → t5 ≡ t4 ++ e
    → t5 ≡ t ++ (a ++ (b ++ (c ++ (d ++ e))))
five t a b c d e t1 t2 t3 t4 t5 p q r s w =
    two t a (b ++ (c ++ (d ++ e))) t1 t5 p (two t1 b (c ++ (d ++ e)) t2 t5 q (three t2 c d e t3 t4 t5 r s w))
