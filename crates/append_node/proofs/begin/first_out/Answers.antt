use Rattle.std.proofs.Common.{ℕ, List, [], ◌∷◌, ◌++◌, sym, ◌∙◌, ap}
use Rattle.chaos_letter.specs.declared.letter.Letter.{Letter}
use Rattle.append_node.specs.Telling.{none_first, only_first}
use Rattle.append_node.proofs.begin.first_out.Goals as goal
use Rattle.append_node.proofs.begin.first_out.Goals.{then-seat-ne0+in_ok-push_back, else-seat-ne0}

pub returns-clause-is : goal.returns-clause-is
returns-clause-is c =
    let me = c.args.seat.me in
    elim c.if-seat-ne0.branch [
      | then-seat-ne0+in_ok-push_back w ↦
          ap (λ z. z.items) w.out-is
          ∙ w.in_ok-push_back.ensures.items
          ∙ ap (λ (l : List (ℕ × Letter)). l ++ (0, c.args.letter) ∷ []) c.new-out.ensures.items
          ∙ sym (only_first (λ q. c.args.letter) me c.args.seat.count c.requires.me w.if-seat-ne0.true)
      | else-seat-ne0 w ↦
          ap (λ z. z.items) w.out-is ∙ c.new-out.ensures.items
          ∙ sym (none_first (λ q. c.args.letter) me c.args.seat.count w.if-seat-ne0.false)
    ]
