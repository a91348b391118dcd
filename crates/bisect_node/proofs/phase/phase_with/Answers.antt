use Rattle.std.proofs.Common.{◌≡◌, ℕ, ℤ, List, ap, ◌∙◌, length}
use Rattle.chaos_letter.specs.declared.letter.Letter.{Letter}
use Rattle.chaos_letter.specs.declared.wanted.Wanted.{Wanted}
use Rattle.bsp_desk.specs.Picks.{picked}
use Rattle.bsp_desk.specs.Ways.{letter_as, sends}
use Rattle.bsp_desk.specs.declared.way.Way.{Way}
use Rattle.chaos_cut.specs.Bisection.{levels_of}
use Rattle.bisect_node.specs.Stages.{stage_of, wanted_in, way_of}
use Rattle.bisect_node.specs.declared.stage.Stage.{Stage}
use Rattle.bisect_node.proofs.phase.phase_with.Goals as goal

pub returns-clause-begun : goal.returns-clause-begun
returns-clause-begun c =
    let job = c.args.job in
    let me = c.args.me in
    let told = c.args.told.now in
    let stage : Stage = stage_of (levels_of job.parts) c.args.phase in
    let is = c.in_ok-begun.ensures in
    let wanted : c.wanted_by-wanted.result ≡ wanted_in job.axes (length told) c.args.phase stage =
    c.wanted_by-wanted.ensures
    ∙ ap (λ (n : ℕ). wanted_in job.axes n c.args.phase c.stage_at-stage.result) c.len.ensures
    ∙ ap (λ (s : Stage). wanted_in job.axes (length told) c.args.phase s) c.stage_at-stage.ensures in
    let way : c.way_in.result ≡ way_of stage = c.way_in.ensures ∙ ap way_of c.stage_at-stage.ensures in
    let letter : c.new-letter.result ≡ letter_as (wanted_in job.axes (length told) c.args.phase stage) told =
    c.new-letter.ensures
    ∙ ap (λ (l : List ℤ). letter_as c.wanted_by-wanted.result l) c.in_ok-numbers.ensures
    ∙ ap (λ (w : Wanted). letter_as w told) wanted in
    record {
      left = is.left;
      out =
          is.out
          ∙ ap (λ (x : Letter). picked (λ q. x) (λ q. sends c.way_in.result me q) 0 job.nodes) letter
          ∙ ap (λ (w : Way). picked (λ q. letter_as (wanted_in job.axes (length told) c.args.phase stage) told) (λ q. sends w me q) 0
          job.nodes) way;
      due =
          is.due
          ∙ ap (λ (x : Wanted). picked (λ q. x) (λ q. sends c.way_in.result q me) 0 job.nodes) wanted
          ∙ ap (λ (w : Way). picked (λ q. wanted_in job.axes (length told) c.args.phase stage) (λ q. sends w q me) 0 job.nodes) way;
      got = is.got;
      room = is.room;
    }
