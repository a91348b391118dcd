-- Files from what was appended.
use Rattle.std.proofs.Common.{◌≡◌, ℕ, List, [], ◌∷◌, ◌++◌, ap, ◌∙◌, refl}
use Rattle.fd_mesh.specs.declared.files.FileData.{FileData}
use Rattle.fd_mesh.specs.Mesh.{lines_of, file_of}

abbrev pub made : List ℕ → List ℕ → FileData
made name content = record { name = name; content = content }

pub same_file : (name n1 text numbers : List ℕ) → n1 ≡ name → text ≡ lines_of numbers → made n1 text ≡ file_of name numbers
same_file name n1 text numbers e h = ap (λ (n : List ℕ). made n text) e ∙ ap (λ (t : List ℕ). made name t) h

pub four_files : (f0 f1 f2 f3 f4 : List FileData) (a b c d v w x y : FileData) → f0 ≡ [] → f1 ≡ f0 ++ a ∷ [] → f2 ≡ f1 ++ b ∷ []
    → f3 ≡ f2 ++ c ∷ [] → f4 ≡ f3 ++ d ∷ [] → a ≡ v → b ≡ w → c ≡ x → d ≡ y → f4 ≡ v ∷ w ∷ x ∷ y ∷ []
four_files f0 f1 f2 f3 f4 a b c d v w x y e0 e1 e2 e3 e4 ha hb hc hd = rw (e4, e3, e2, e1, e0, ha, hb, hc, hd)
