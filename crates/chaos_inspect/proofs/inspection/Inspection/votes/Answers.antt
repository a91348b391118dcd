use Rattle.std.proofs.Common.{ap, ◌∙◌, replicate}
use Rattle.std.specs.Prelude.{filter_map}
use Rattle.std.proofs.lemmas.Result.{IfOk-weaker}
use Rattle.fd_program.specs.Loops.{first_of, offence_at}
use Rattle.chaos_inspect.specs.Walking.{uses_through}
use Rattle.chaos_inspect.proofs.Voting.{own_right, votes_sent}
use Rattle.chaos_inspect.proofs.inspection.Inspection.votes.Goals as goal

pub returns : goal.returns
returns c =
    let x = c.args.self.now in
    IfOk-weaker c.to_all.result _ _ (λ lists e owners store tables h fetched.
    e ∙ ap (replicate x.facts.nodes) c.in_ok-numbers.ensures
    ∙ votes_sent x.facts owners store x.me c.in_ok-vote.vote
    (c.in_ok-vote.ensures ∙ ap (λ is. first_of (filter_map (offence_at x.facts.arrays) (uses_through x.facts is c.as_slice-2.result.now)))
    (c.as_slice.ensures ∙ h.mine)
    ∙ own_right x.facts store x.me c.as_slice-2.result.now (c.as_slice-2.ensures ∙ fetched))) c.to_all.ensures
