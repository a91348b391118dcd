use Rattle.std.proofs.Common.{ℕ, ℤ, List, [], ◌∷◌, ◌++◌, ◌∙◌, ap, sym, codes, decimal, map}
use Rattle.std.specs.List.{flat_map}
use Rattle.std.specs.Fmt.{signed_decimal}
use Rattle.std.proofs.lemmas.List.Folds.{flat_map-map}
use Rattle.append_node.specs.Keys.{pair_of}
use Rattle.append_node.proofs.Walks.{line_grouped}
use Rattle.append_node.proofs.lines.append_line.Goals as goal

pub returns : goal.returns
returns c =
    let text = c.args.text.now in
    let bin = decimal c.args.bin in
    let values = flat_map (λ (v : ℤ). 32 ∷ signed_decimal v) (map (λ k. (pair_of k).1) c.args.keys.now) in
    c.in_ok-push-2.ensures.ok
    ∙ ap (λ (l : List ℕ). l ++ 10 ∷ [])
    (c.in_ok-append_values.ensures
    ∙ ap (λ (l : List ℕ). l ++ flat_map (λ k. 32 ∷ signed_decimal (pair_of k).1) c.args.keys.now)
    (c.in_ok-push.ensures.ok ∙ ap (λ (l : List ℕ). l ++ 58 ∷ []) c.in_ok-append_bin.ensures)
    ∙ ap (λ (l : List ℕ). (((text ++ codes "bin ") ++ bin) ++ 58 ∷ []) ++ l)
    (sym (flat_map-map (λ (v : ℤ). 32 ∷ signed_decimal v) (λ k. (pair_of k).1) c.args.keys.now)))
    ∙ line_grouped text (codes "bin ") bin values
