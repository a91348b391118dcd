use Rattle.std.proofs.Common.{◌≡◌, ◌+◌, ◌++◌, ◌∷◌, [], length, arith, subst, ◌∙◌, ap, inl, inr, slice_get, Some, List}
use Rattle.std.proofs.lemmas.List.{length_push}
use Rattle.bsp_core.specs.Views.{View}
use Rattle.bsp_example.specs.Rows.{VoterState}
use Rattle.bsp_example.specs.Laws.{voters_begin, count_again}
use Rattle.bsp_desk.specs.Nodes.{pushed}
use Rattle.bsp_example.proofs.runs.voter_list.Goals as goal

pub loop-p-preserved : goal.loop-p-preserved
loop-p-preserved c =
    let e : c.push.new.self ≡ c.loop-p.nodes ++ c.in_ok-node.node ∷ [] = c.in_ok-push.ensures.ok in
    let l : length c.push.new.self ≡ length c.loop-p.nodes + 1 = ap length e ∙ length_push c.loop-p.nodes c.in_ok-node.node in (
      omega (arith, l, c.loop-p.invariant.0),
      λ k v h. elim (pushed c.loop-p.nodes c.in_ok-node.node v k (subst (λ (z : List (View VoterState)). slice_get z k ≡ Some v) e h)) [
        | inl a ↦ c.loop-p.invariant.1 k v a
        | inr b ↦
            let i : k ≡ c.loop-p.p = b.0 ∙ c.loop-p.invariant.0 in
            count_again c.args.flags.now c.loop-p.p k v c.in_ok-node.node i b.1 c.in_ok-node.ensures.face c.in_ok-node.ensures.flag
            c.in_ok-node.ensures.pool
      ],
    )

pub returns-clause-begins : goal.returns-clause-begins
returns-clause-begins c = voters_begin c.args.flags.now c.loop-p.nodes (omega (arith, c.loop-p.invariant.0)) c.loop-p.invariant.1
