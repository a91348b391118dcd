-- The source of a mesh in the parts in which it is written.
use Rattle.std.proofs.Common.{◌≡◌, ℕ, List, [], ◌∷◌, ◌++◌, ap, ◌∙◌, append_assoc, codes}
use Rattle.std.proofs.lemmas.Grind.{flat_map-append}
use Rattle.std.proofs.lemmas.List.Concat.{flat_map-cons}
use Rattle.fd_mesh.specs.Source.{joined, sizes, declarations, sweeps, reductions, mesh_lines, source_of}

pub ended : (a b c d x y : List ℕ) → (a ++ (b ++ (c ++ (d ++ x)))) ++ y ≡ a ++ (b ++ (c ++ (d ++ (x ++ y))))
ended a b c d x y =
    append_assoc a (b ++ (c ++ (d ++ x))) y
    ∙ ap (λ (l : List ℕ). a ++ l) (append_assoc b (c ++ (d ++ x)) y
    ∙ ap (λ (l : List ℕ). b ++ l) (append_assoc c (d ++ x) y
    ∙ ap (λ (l : List ℕ). c ++ l) (append_assoc d x y)))

pub joined-append : (xs ys : List (List ℕ)) → joined (xs ++ ys) ≡ joined xs ++ joined ys
unfolding joined
joined-append xs ys = flat_map-append (λ (line : List ℕ). line ++ 10 ∷ []) xs ys

pub joined-cons : (line : List ℕ) (lines : List (List ℕ)) → joined (line ∷ lines) ≡ (line ++ 10 ∷ []) ++ joined lines
unfolding joined
joined-cons line lines = flat_map-cons (λ (l : List ℕ). l ++ 10 ∷ []) line lines

-- the source in the parts in which it is written
pub source_in_parts : (size : ℕ) → source_of size ≡ codes "PROGRAM MESH\n"
    ++ ((sizes size ++ 10 ∷ []) ++ (joined declarations ++ (joined sweeps ++ joined reductions)))
unfolding source_of mesh_lines
source_in_parts size =
    joined-cons (codes "PROGRAM MESH") (sizes size ∷ (declarations ++ (sweeps ++ reductions)))
    ∙ ap (λ (l : List ℕ). codes "PROGRAM MESH\n" ++ l) (joined-cons (sizes size) (declarations ++ (sweeps ++ reductions))
    ∙ ap (λ (l : List ℕ). (sizes size ++ 10 ∷ []) ++ l) (joined-append declarations (sweeps ++ reductions)
    ∙ ap (λ (l : List ℕ). joined declarations ++ l) (joined-append sweeps reductions)))
