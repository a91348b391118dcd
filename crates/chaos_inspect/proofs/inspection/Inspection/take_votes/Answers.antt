use Rattle.std.proofs.Common.{ap, ◌∙◌, map, sym}
use Rattle.std.proofs.lemmas.Result.{on_ok_weaker}
use Rattle.chaos_vote.specs.Votes.{least_of, read_vote}
use Rattle.chaos_inspect.proofs.Voting.{least_right}
use Rattle.chaos_inspect.proofs.inspection.Inspection.take_votes.Goals as goal

pub returns-in-Some-clause-inspecting : goal.returns-in-Some-clause-inspecting
returns-in-Some-clause-inspecting c = λ owners store tables h values taken.
    let x = c.args.self.now in
    let vote = c.in_ok-vote.ensures ∙ ap (λ ls. least_of (map read_vote ls)) (c.as_slice.ensures ∙ taken)
    ∙ least_right x.facts owners store x.me c.requires in record {
      loop = h.loop;
      owned = h.owned;
      node = h.node;
      mine = h.mine;
      hand = sym vote ∙ c.in-Some.is;
    }

pub returns-in-None-clause-inspecting : goal.returns-in-None-clause-inspecting
returns-in-None-clause-inspecting c = on_ok_weaker c.go_home.result (λ e owners store tables h values taken.
    let x = c.args.self.now in
    let vote = c.in_ok-vote.ensures ∙ ap (λ ls. least_of (map read_vote ls)) (c.as_slice.ensures ∙ taken)
    ∙ least_right x.facts owners store x.me c.requires in
    e owners store tables h values (sym vote ∙ c.in-None.is)) c.go_home.ensures.inspecting
