use Rattle.std.proofs.Common.{refl}
use Rattle.fd_edge.specs.Endings.{Stays}
use Rattle.fd_top.specs.Outcomes.{PlaysRun, usage_line}
use Rattle.fd_top.specs.Answers.{PlayStays}
use Rattle.fd_top.proofs.Answered.{run_answers, stop_answers}
use Rattle.fd_top.proofs.top.play.Goals as goal

pub returns-in-Ok-clause-answer : goal.returns-in-Ok-clause-answer
returns-in-Ok-clause-answer g c = λ asked says.
    run_answers usage_line PlaysRun PlayStays asked _ c.in-Ok.call Stays _ _ _ (c.in-Ok.ensures.call asked says) (λ x y same. same)
    c.play_call.ensures.ends

pub returns-in-Err-clause-answer : goal.returns-in-Err-clause-answer
unfolding usage_line
returns-in-Err-clause-answer g c = λ asked says.
    stop_answers usage_line PlaysRun PlayStays asked _ c.in-Err.stop _ _ _ _ _ _ (c.in-Err.ensures.stop asked says) refl
    c.end_stop.ensures.ends
