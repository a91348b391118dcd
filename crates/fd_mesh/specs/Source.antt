-- The source of a mesh, line by line.
use Rattle.std.specs.Prelude.{ℕ, ◌*◌, List, [], ◌∷◌, ◌++◌, codes, decimal}
use Rattle.std.specs.List.{flat_map}

-- lines one after another, each with its line end
unfoldable pub joined : List (List ℕ) → List ℕ
joined lines = flat_map (λ line. line ++ 10 ∷ []) lines

-- as many elements as `size`, and twice as many edges
unfoldable pub sizes : ℕ → List ℕ
sizes size = codes "PARAMETER (NP = " ++ (decimal size ++ (codes ", NE = " ++ (decimal (2 * size) ++ codes ")")))

unfoldable pub declarations : List (List ℕ)
declarations =
    codes "INTEGER*8 X(NP), F(NP), M(NP), E1(NE), E2(NE), S(1), LO(1), HI(1)"
    ∷ codes "DECOMPOSITION P(NP), E(NE)"
    ∷ codes "ALIGN X(I), F(I) WITH P(I)"
    ∷ codes "ALIGN E1(I), E2(I) WITH E(I)"
    ∷ codes "READ X, M, E1, E2"
    ∷ codes "OUTPUT S, LO, HI"
    ∷ codes "DISTRIBUTE P(M)"
    ∷ []

-- a sweep, and the end of the DO that repeats it
unfoldable pub sweep : List (List ℕ)
sweep =
    codes "FORALL I = 1, NE"
    ∷ codes "REDUCE(ADD, F(E1(I)), X(E2(I)) - X(E1(I)))"
    ∷ codes "REDUCE(ADD, F(E2(I)), X(E1(I)) - X(E2(I)))"
    ∷ codes "END FORALL"
    ∷ codes "FORALL I = 1, NP"
    ∷ codes "X(I) = X(I) + F(I)"
    ∷ codes "F(I) = 0"
    ∷ codes "END FORALL"
    ∷ codes "END DO"
    ∷ []

unfoldable pub sweeps : List (List ℕ)
sweeps = codes "DO K = 1, 4" ∷ sweep

-- the sum, the least and the greatest
unfoldable pub reductions : List (List ℕ)
reductions =
    codes "FORALL I = 1, NP"
    ∷ codes "REDUCE(ADD, S(1), X(I))"
    ∷ codes "REDUCE(MIN, LO(1), X(I))"
    ∷ codes "REDUCE(MAX, HI(1), X(I))"
    ∷ codes "END FORALL"
    ∷ codes "END"
    ∷ []

unfoldable pub mesh_lines : ℕ → List (List ℕ)
mesh_lines size = codes "PROGRAM MESH" ∷ sizes size ∷ (declarations ++ (sweeps ++ reductions))

unfoldable pub source_of : ℕ → List ℕ
source_of size = joined (mesh_lines size)
