-- The mesh's source from that of a sweep, and a small mesh worked out.
use Rattle.std.specs.Prelude.{◌≡◌, ℕ, List, [], ◌∷◌, ◌++◌, codes, slice_set, refl}
use Rattle.std.proofs.Common.{take, drop}
use Rattle.fd_mesh.specs.Source.{sizes, declarations, sweep, sweeps, reductions, mesh_lines}
use Rattle.fd_mesh.specs.Mesh.{map_of, ends_of}

-- ten sweeps over the edges of a cube
unfoldable pub sweep_lines : List (List ℕ)
sweep_lines =
    codes "PROGRAM SWEEP"
    ∷ codes "PARAMETER (NP = 8, NE = 12)"
    ∷ codes "INTEGER*8 X(NP), F(NP), M(NP), E1(NE), E2(NE)"
    ∷ codes "DECOMPOSITION P(NP), E(NE)"
    ∷ codes "ALIGN X(I), F(I) WITH P(I)"
    ∷ codes "ALIGN E1(I), E2(I) WITH E(I)"
    ∷ codes "READ X, M, E1, E2"
    ∷ codes "OUTPUT X"
    ∷ codes "DISTRIBUTE P(M)"
    ∷ codes "DO K = 1, 10"
    ∷ (sweep ++ codes "END" ∷ [])

-- five lines before the last
unfoldable pub gathered : List (List ℕ)
gathered =
    codes "FORALL I = 1, NP"
    ∷ codes "REDUCE(ADD, S(1), X(I))"
    ∷ codes "REDUCE(MIN, LO(1), X(I))"
    ∷ codes "REDUCE(MAX, HI(1), X(I))"
    ∷ codes "END FORALL"
    ∷ []

-- the sweep with another name, sizes, arrays, output and number of sweeps
unfoldable pub renewed : ℕ → List (List ℕ)
renewed size =
    let named = slice_set sweep_lines 0 (codes "PROGRAM MESH") in
    let sized = slice_set named 1 (sizes size) in
    let declared = slice_set sized 2 (codes "INTEGER*8 X(NP), F(NP), M(NP), E1(NE), E2(NE), S(1), LO(1), HI(1)") in
    let shown = slice_set declared 7 (codes "OUTPUT S, LO, HI") in
    slice_set shown 9 (codes "DO K = 1, 4")

unfoldable pub sweep_for : ℕ → List (List ℕ)
sweep_for size = take 19 (renewed size) ++ (gathered ++ drop 19 (renewed size))

pub a_changed_sweep : (size : ℕ) → mesh_lines size ≡ sweep_for size
unfolding mesh_lines declarations sweep sweeps reductions sweep_lines gathered renewed sweep_for
a_changed_sweep size = refl

pub map_of_eight : map_of 0 8 ≡ 7 ∷ 14 ∷ 21 ∷ 28 ∷ 35 ∷ 42 ∷ 49 ∷ 56 ∷ []
map_of_eight = refl

pub ends_of_eight : ends_of 0 8 ≡ 2 ∷ 3 ∷ 4 ∷ 5 ∷ 6 ∷ 7 ∷ 8 ∷ 1 ∷ 2 ∷ 5 ∷ 2 ∷ 1 ∷ 2 ∷ 5 ∷ 2 ∷ 1 ∷ []
ends_of_eight = refl
