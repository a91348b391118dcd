use Rattle.fd_command.specs.Asked.{asked}
use Rattle.fd_top.specs.Outcomes.{PlaysRun, usage_line}
use Rattle.fd_top.specs.Answers.{PlayStays, texts}
use Rattle.fd_top.proofs.Answered.{complete, plays_status, ran_right, sound, tells}
use Rattle.fd_top.proofs.top.play_program.Goals as goal

pub play-requires : goal.play-requires
play-requires g c =
    let asking = c.requested-request.ensures in
    sound c.requested-request.result asking.some_nodes asking.few_nodes asking.range

pub returns-clause-answer : goal.returns-clause-answer
returns-clause-answer g c =
    let asking = c.requested-request.ensures in
    let request = asked (texts c.args.words.now) in
    c.play.ensures.answer request (tells request c.requested-request.result asking.taken asking.refused)

pub returns-clause-complete : goal.returns-clause-complete
returns-clause-complete g c = complete usage_line PlaysRun plays_status PlayStays _ _ _ _ _ (returns-clause-answer g c)

pub returns-clause-ran : goal.returns-clause-ran
returns-clause-ran g c = ran_right usage_line PlaysRun plays_status PlayStays _ _ _ _ _ (returns-clause-answer g c)
