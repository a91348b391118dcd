use Rattle.chaos_vote.specs.VoteLaws.{read_vote-numbers}
use Rattle.chaos_vote.proofs.letter.vote_laws.Goals as goal

pub returns-clause-some : goal.returns-clause-some
returns-clause-some c o small = read_vote-numbers o small
