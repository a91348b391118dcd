use Rattle.std.proofs.Common.{ℕ, List, subst, sym}
use Rattle.bsp_core.specs.Views.{Ascends, nodes_in}
use Rattle.chaos_letter.specs.declared.letter.Letter.{Letter}
use Rattle.chaos_letter.specs.declared.wanted.Wanted.{Wanted}
use Rattle.bsp_example.specs.Laws.{out_ascends, due_ascends}
use Rattle.bsp_example.proofs.voter.voter_of.Goals as goal

pub new-requires-clause-out : goal.new-requires-clause-out
new-requires-clause-out c =
    subst (λ (z : List (ℕ × Letter)). Ascends c.args.me c.args.count 0 (nodes_in z)) (sym c.in_ok-phase.ensures.out)
    (out_ascends c.args.left c.is_all-all.result c.args.flag c.args.me c.args.count c.requires.me)

pub new-requires-clause-due : goal.new-requires-clause-due
new-requires-clause-due c =
    subst (λ (z : List (ℕ × Wanted)). Ascends c.args.me c.args.count 0 (nodes_in z)) (sym c.in_ok-phase.ensures.due)
    (due_ascends c.args.left c.is_all-all.result c.args.me c.args.count)
