-- What the nodes find and send in the order of the nodes.
use Rattle.std.specs.Prelude.{◌≡◌, refl, ℕ, ◌≤◌, ℤ, ◌==◌, List, [], ◌∷◌, ◌++◌, map, filter, flat_map, filter_map, Option, Some, None}
use Rattle.std.proofs.Common.{ap, sym, ◌∙◌, append_assoc}
use Rattle.std.proofs.lemmas.List.Elements.{filter_map-append}
use Rattle.chaos_dist.specs.Counting.{below}
use Rattle.fd_program.specs.ContributionLaws.{filter_parts}
use Rattle.fd_program.specs.HomeLaws.{inspected_in_order}
use Rattle.fd_program.specs.Homes.{home_of, inspected_by, executed_by, vote_of}
use Rattle.fd_program.specs.Loops.{first_of, offence_at, offences_in, offence_of}
use Rattle.fd_program.specs.Uses.{uses_of}
use Rattle.fd_program.specs.declared.loop_facts.LoopFacts.{LoopFacts}

-- the first that is there
abbrev pub first_some : {A : Type 0} → List (Option A) → Option A
first_some [] = None
first_some (None ∷ os) = first_some os
first_some (Some x ∷ os) = Some x

-- the first vote in the order of the nodes is the offence of the loop
abbrev pub VotesTell : Type 0
VotesTell =
    (f : LoopFacts) (store : List (List ℤ)) → 1 ≤ f.nodes → first_some (map (vote_of f store) (below f.nodes))
    ≡ offence_of f.arrays f.site f.turn store

-- the iterations of a home, from each node those that it inspects, are the home's in order
abbrev pub ExecutedInOrder : Type 0
ExecutedInOrder =
    (f : LoopFacts) (owners : List (List ℕ)) (store : List (List ℤ)) (node : ℕ) → 1 ≤ f.nodes
    → flat_map (λ q. filter (λ i. home_of f owners store i == node) (inspected_by f q)) (below f.nodes) ≡ executed_by f owners store node

first_joined : {A : Type 0} (xs ys : List A) (os : List (Option A)) → first_of ys ≡ first_some os
    → first_of (xs ++ ys) ≡ first_some (first_of xs ∷ os)
first_joined [] ys os e = e
first_joined (x ∷ xs) ys os e = refl

first_of_parts : {X A : Type 0} (f : X → List A) (xs : List X) → first_of (flat_map f xs) ≡ first_some (map (λ x. first_of (f x)) xs)
first_of_parts f [] = refl
first_of_parts f (x ∷ xs) = first_joined (f x) (flat_map f xs) _ (first_of_parts f xs)

flat_map_append : {X A : Type 0} (f : X → List A) (xs ys : List X) → flat_map f (xs ++ ys) ≡ flat_map f xs ++ flat_map f ys
flat_map_append f [] ys = refl
flat_map_append f (x ∷ xs) ys = ap (λ l. f x ++ l) (flat_map_append f xs ys) ∙ sym (append_assoc (f x) (flat_map f xs) (flat_map f ys))

-- a list over parts, part by part
pub flat_map_parts : {P X A : Type 0} (f : X → List A) (g : P → List X) (ps : List P) → flat_map f (flat_map g ps)
    ≡ flat_map (λ p. flat_map f (g p)) ps
flat_map_parts f g [] = refl
flat_map_parts f g (p ∷ ps) = flat_map_append f (g p) (flat_map g ps) ∙ ap (λ l. flat_map f (g p) ++ l) (flat_map_parts f g ps)

filter_map_parts : {P X A : Type 0} (h : X → Option A) (g : P → List X) (ps : List P) → filter_map h (flat_map g ps)
    ≡ flat_map (λ p. filter_map h (g p)) ps
filter_map_parts h g [] = refl
filter_map_parts h g (p ∷ ps) = filter_map-append h (g p) (flat_map g ps) ∙ ap (λ l. filter_map h (g p) ++ l) (filter_map_parts h g ps)

pub votes_tell : VotesTell
votes_tell f store some =
    let uses = uses_of f.arrays f.site f.turn store in
    sym (first_of_parts (λ node. offences_in f.arrays f.site f.turn store (inspected_by f node)) (below f.nodes))
    ∙ ap first_of (sym (filter_map_parts (offence_at f.arrays) (λ node. flat_map uses (inspected_by f node)) (below f.nodes)))
    ∙ ap (λ us. first_of (filter_map (offence_at f.arrays) us)) (sym (flat_map_parts uses (inspected_by f) (below f.nodes)))
    ∙ ap (λ is. first_of (filter_map (offence_at f.arrays) (flat_map uses is))) (inspected_in_order f some)

pub executed_in_order : ExecutedInOrder
executed_in_order f owners store node some =
    sym (filter_parts (λ i. home_of f owners store i == node) (inspected_by f) (below f.nodes))
    ∙ ap (filter (λ i. home_of f owners store i == node)) (inspected_in_order f some)
