-- Lines appended one after another.
use Rattle.std.proofs.Common.{◌≡◌, ℕ, ◌+◌, ◌<◌, List, [], ◌∷◌, ◌++◌, map, length, take, get_or, decimal, ap, sym, ◌∙◌, arith}
use Rattle.std.specs.List.{flat_map, range_with_len}
use Rattle.std.proofs.lemmas.Grind.{flat_map-append}
use Rattle.std.proofs.lemmas.List.{flat_map_more, append-nil, map-id, take_more}
use Rattle.std.proofs.lemmas.List.FromFn.{map-range_with_len_more}
use Rattle.fd_mesh.specs.Mesh.{lines_of, one_to}
use Rattle.fd_mesh.specs.declared.rule.Rule.{Rule}

pub lines_of-append : (xs ys : List ℕ) → lines_of (xs ++ ys) ≡ lines_of xs ++ lines_of ys
unfolding lines_of
lines_of-append xs ys = flat_map-append (λ (n : ℕ). decimal n ++ 10 ∷ []) xs ys

pub lines_of-push : (t : List ℕ) (xs : List ℕ) (n : ℕ) → (t ++ lines_of xs) ++ (decimal n ++ 10 ∷ []) ≡ t ++ lines_of (xs ++ n ∷ [])
unfolding lines_of
lines_of-push t xs n = flat_map_more (λ (n : ℕ). decimal n ++ 10 ∷ []) t xs n

pub lines_none : (t : List ℕ) → t ≡ t ++ lines_of []
unfolding lines_of
lines_none t = sym (append-nil t)

-- the line of one more element
pub lines_more : (f : ℕ → ℕ) (t t1 t2 : List ℕ) (k n : ℕ) → t1 ≡ t ++ lines_of (map f (one_to k)) → n ≡ f (k + 1)
    → t2 ≡ t1 ++ (decimal n ++ 10 ∷ []) → t2 ≡ t ++ lines_of (map f (one_to (k + 1)))
lines_more f t t1 t2 k n e h w =
    let j : 1 + k ≡ k + 1 = omega arith in
    w ∙ ap (λ (l : List ℕ). l ++ (decimal n ++ 10 ∷ [])) e
    ∙ ap (λ m. (t ++ lines_of (map f (one_to k))) ++ (decimal m ++ 10 ∷ [])) h
    ∙ lines_of-push t (map f (one_to k)) (f (k + 1))
    ∙ ap (λ (l : List ℕ). t ++ lines_of l) (sym (map-range_with_len_more f 1 k (k + 1) j))

-- the lines of one rule more
pub rules_more : (f : Rule → List ℕ) (rules : List Rule) (i : ℕ) (d rule : Rule) (t1 t2 : List ℕ) → i < length rules
    → rule ≡ get_or rules i d
    → t1 ≡ lines_of (flat_map f (take i rules)) → t2 ≡ t1 ++ lines_of (f rule) → t2 ≡ lines_of (flat_map f (take (i + 1) rules))
rules_more f rules i d rule t1 t2 less is e w =
    w ∙ ap (λ (l : List ℕ). l ++ lines_of (f rule)) e
    ∙ sym (lines_of-append (flat_map f (take i rules)) (f rule))
    ∙ ap (λ (l : List ℕ). lines_of (flat_map f (take i rules) ++ l)) (ap f is ∙ sym (append-nil (f (get_or rules i d))))
    ∙ ap lines_of (sym (flat_map-append f (take i rules) (get_or rules i d ∷ [])))
    ∙ ap (λ (l : List Rule). lines_of (flat_map f l)) (sym (take_more rules i d less))

pub places_all : (n : ℕ) → map (λ (j : ℕ). j) (one_to n) ≡ one_to n
places_all n = map-id (one_to n)
