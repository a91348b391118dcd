-- One pair more.
use Rattle.std.proofs.Common.{◌≡◌, refl, ℕ, ◌+◌, List, [], ◌∷◌, ◌++◌, get_or, ap, sym, ◌∙◌, append-nil, append_assoc}
use Rattle.std.specs.Prelude.{ℤ, pos, flat_map, Option}
use Rattle.chaos_dist.specs.Counting.{below}
use Rattle.list_laws.specs.Dealt.{dealt, dealt-more}
use Rattle.fd_program.specs.Stores.{number_at}
use Rattle.chaos_remap.proofs.Steps.{letter_more}
use Rattle.chaos_moving.specs.Pairs.{element_within, pairs_to_page, with_pairs, pairs_at}

abbrev page_in : ℕ × ℤ → ℕ
page_in pair = pair.0

abbrev number_in : ℕ × ℤ → ℤ
number_in pair = pair.1

with_dealt : (nodes : ℕ) (items xs : List (ℕ × ℤ)) → with_pairs (dealt page_in number_in nodes items) xs ≡ dealt page_in number_in nodes
    (items ++ xs)
with_dealt nodes items [] = ap (dealt page_in number_in nodes) (sym (append-nil items))
with_dealt nodes items (x ∷ xs) =
    ap (λ l. with_pairs l xs) (dealt-more page_in number_in nodes items x) ∙ with_dealt nodes (items ++ x ∷ []) xs
    ∙ ap (dealt page_in number_in nodes) (append_assoc items (x ∷ []) xs)

pub pair_step : (extent nodes offset : ℕ) (elements values : List ℤ) (i : ℕ) (element : Option ℕ) (value : ℤ) (lists new : List (List ℤ))
    → lists ≡ dealt (λ (pair : ℕ × ℤ). pair.0) (λ (pair : ℕ × ℤ). pair.1) nodes (flat_map (pairs_at extent nodes offset elements values)
    (below i))
    → new ≡ with_pairs lists (pairs_to_page extent nodes element value) → element ≡ element_within extent offset (get_or elements i (pos 0))
    → value ≡ number_at values i
    → new ≡ dealt (λ (pair : ℕ × ℤ). pair.0) (λ (pair : ℕ × ℤ). pair.1) nodes (flat_map (pairs_at extent nodes offset elements values)
    (below (i + 1)))
pair_step extent nodes offset elements values i element value lists new so_far push named valued =
    let f = pairs_at extent nodes offset elements values in
    push
    ∙ ap (λ o. with_pairs lists (pairs_to_page extent nodes o value)) named
    ∙ ap (λ v. with_pairs lists (pairs_to_page extent nodes (element_within extent offset (get_or elements i (pos 0))) v)) valued
    ∙ ap (λ l. with_pairs l (f i)) so_far
    ∙ with_dealt nodes (flat_map f (below i)) (f i)
    ∙ ap (dealt page_in number_in nodes) (letter_more f i (flat_map f (below i)) (flat_map f (below i) ++ f i) (f i) refl refl refl)
