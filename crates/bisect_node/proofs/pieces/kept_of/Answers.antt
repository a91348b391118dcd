use Rattle.std.proofs.Common.{◌≡◌, ◌++◌, ◌∷◌, [], ap, sym, ◌∙◌, ℕ, ℤ, List, Bool, cond, pos, get_or, take, rules}
use Rattle.std.proofs.lemmas.List.{append-nil}
use Rattle.bisect_node.specs.Indexed.{filter_from, filter_from-at}
use Rattle.bisect_node.specs.Steps.{goes}
use Rattle.bisect_node.proofs.pieces.kept_of.Goals as goal
use Rattle.bisect_node.proofs.pieces.kept_of.Goals.{then-goes_to+in_ok-push, else-goes_to}

pub loop-k-preserved : goal.loop-k-preserved
loop-k-preserved c =
    let k = c.loop-k.k in
    let numbers = c.args.numbers.now in
    let p = λ (k : ℕ). goes c.args.first c.args.keys.now c.args.found k in
    let before = filter_from p 0 (take k numbers) in
    let x = get_or numbers k (pos 0) in
    let next = filter_from-at p numbers k (pos 0) c.loop-k-test.true in
    elim c.if-goes_to.branch [
      | then-goes_to+in_ok-push w ↦
          let more : c.if-goes_to.list ≡ c.loop-k.list ++ x ∷ [] = search rules in
          more ∙ ap (λ (l : List ℤ). l ++ x ∷ []) c.loop-k.invariant
          ∙ ap (λ (b : Bool). before ++ cond b (x ∷ []) []) w.if-goes_to.ensures ∙ sym next
      | else-goes_to w ↦
          let same : c.if-goes_to.list ≡ c.loop-k.list = search rules in
          same ∙ c.loop-k.invariant ∙ sym (append-nil before) ∙ ap (λ (b : Bool). before ++ cond b (x ∷ []) []) w.if-goes_to.ensures
          ∙ sym next
    ]
