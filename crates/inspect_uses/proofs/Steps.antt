-- One reference further, over plain lists.
use Rattle.std.proofs.Common.{◌≡◌, ℕ, ◌+◌, ◌<◌, ℤ, Bool, true, false, cond, List, [], ◌∷◌, ◌++◌, length, get_or, drop, Option, ap, sym, ◌∙◌}
use Rattle.std.proofs.Common.{append_assoc, add-zero, None}
use Rattle.std.proofs.lemmas.List.{at_drop_more, drop-drop}
use Rattle.fd_program.specs.Stores.{number_at}
use Rattle.fd_program.specs.Uses.{gives_index, subscript_of, use_of, uses_told, uses_known, value_told, values_behind}
use Rattle.fd_program.specs.declared.array.ArrayFacts.{ArrayFacts}
use Rattle.fd_program.specs.declared.loop_use.Use.{Use}
use Rattle.fd_program.specs.declared.reference.Reference.{Reference}

behind_is : (b : Bool) (values : List ℤ) (next : ℕ) → drop (next + cond b 1 0) values ≡ cond b (drop 1 (drop next values))
    (drop next values)
behind_is true values next = sym (drop-drop 1 next values)
behind_is false values next = ap (λ k. drop k values) (add-zero next)

pub further : (arrays : List ArrayFacts) (adds : List ℤ) (i : ℤ) (place : ℕ) (before : Option ℤ) (references : List Reference)
    (values : List ℤ) (k next : ℕ) (r : Reference) (u : Use)
    (list more all : List Use) (told : Option ℤ) (behind : ℕ)
    → k < length references → r ≡ get_or references k r
    → u ≡ use_of r i (place + 1) (subscript_of r.subscript i (number_at adds place) before)
    → more ≡ list ++ u ∷ [] → told ≡ value_told arrays u (drop next values) → behind ≡ next + cond (gives_index arrays u) 1 0
    → list ++ uses_told arrays adds i place before (drop k references) (drop next values) ≡ all
    → more ++ uses_told arrays adds i (place + 1) told (drop (k + 1) references) (drop behind values) ≡ all
further arrays adds i place before references values k next r u list more all told behind less at reached pushed given next_is rest =
    let v = use_of r i (place + 1) (subscript_of r.subscript i (number_at adds place) before) in
    let tail : Use → List Use = λ w. uses_told arrays adds i (place + 1) (value_told arrays w (drop next values))
    (drop (k + 1) references) (values_behind arrays w (drop next values)) in
    let one : uses_told arrays adds i place before (drop k references) (drop next values) ≡ v ∷ tail v =
    at_drop_more (λ rs. uses_told arrays adds i place before rs (drop next values)) references k r less
    ∙ ap (λ q. uses_told arrays adds i place before (q ∷ drop (k + 1) references) (drop next values)) (sym at) in
    let last : uses_told arrays adds i (place + 1) told (drop (k + 1) references) (drop behind values) ≡ tail u =
    ap (λ t. uses_told arrays adds i (place + 1) t (drop (k + 1) references) (drop behind values)) given
    ∙ ap (uses_told arrays adds i (place + 1) (value_told arrays u (drop next values)) (drop (k + 1) references))
    (ap (λ n. drop n values) next_is ∙ behind_is (gives_index arrays u) values next) in
    ap (λ l. l ++ uses_told arrays adds i (place + 1) told (drop (k + 1) references) (drop behind values)) pushed
    ∙ ap (λ l. list ++ u ∷ [] ++ l) last
    ∙ append_assoc list (u ∷ []) (tail u)
    ∙ ap (λ w. list ++ (w ∷ tail w)) reached
    ∙ ap (λ l. list ++ l) (sym one)
    ∙ rest

-- the same, where the values of the first level alone are told
known_behind : (p b : Bool) (values : List ℤ) (next : ℕ) → drop (next + cond p (cond b 1 0) 0) values
    ≡ cond p (cond b (drop 1 (drop next values)) (drop next values)) (drop next values)
known_behind true b values next = behind_is b values next
known_behind false b values next = ap (λ k. drop k values) (add-zero next)

pub known_further : (arrays : List ArrayFacts) (adds : List ℤ) (i : ℤ) (place : ℕ) (before : Option ℤ) (references : List Reference)
    (values : List ℤ) (k next : ℕ) (r : Reference) (u : Use)
    (list more all : List Use) (told : Option ℤ) (behind : ℕ)
    → k < length references → r ≡ get_or references k r
    → u ≡ use_of r i (place + 1) (subscript_of r.subscript i (number_at adds place) before)
    → more ≡ list ++ u ∷ [] → told ≡ cond u.plain (value_told arrays u (drop next values)) None
    → behind ≡ next + cond u.plain (cond (gives_index arrays u) 1 0) 0
    → list ++ uses_known arrays adds i place before (drop k references) (drop next values) ≡ all
    → more ++ uses_known arrays adds i (place + 1) told (drop (k + 1) references) (drop behind values) ≡ all
known_further arrays adds i place before references values k next r u list more all told behind less at reached pushed given next_is rest =
    let v = use_of r i (place + 1) (subscript_of r.subscript i (number_at adds place) before) in
    let tail : Use → List Use = λ w. uses_known arrays adds i (place + 1) (cond w.plain (value_told arrays w (drop next values)) None)
    (drop (k + 1) references) (cond w.plain (values_behind arrays w (drop next values)) (drop next values)) in
    let one : uses_known arrays adds i place before (drop k references) (drop next values) ≡ v ∷ tail v =
    at_drop_more (λ rs. uses_known arrays adds i place before rs (drop next values)) references k r less
    ∙ ap (λ q. uses_known arrays adds i place before (q ∷ drop (k + 1) references) (drop next values)) (sym at) in
    let last : uses_known arrays adds i (place + 1) told (drop (k + 1) references) (drop behind values) ≡ tail u =
    ap (λ t. uses_known arrays adds i (place + 1) t (drop (k + 1) references) (drop behind values)) given
    ∙ ap (uses_known arrays adds i (place + 1) (cond u.plain (value_told arrays u (drop next values)) None) (drop (k + 1) references))
    (ap (λ n. drop n values) next_is ∙ known_behind u.plain (gives_index arrays u) values next) in
    ap (λ l. l ++ uses_known arrays adds i (place + 1) told (drop (k + 1) references) (drop behind values)) pushed
    ∙ ap (λ l. list ++ u ∷ [] ++ l) last
    ∙ append_assoc list (u ∷ []) (tail u)
    ∙ ap (λ w. list ++ (w ∷ tail w)) reached
    ∙ ap (λ l. list ++ l) (sym one)
    ∙ rest
