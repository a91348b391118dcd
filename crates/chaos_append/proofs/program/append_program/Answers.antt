use Rattle.std.proofs.Common.{◌≡◌, ◌∙◌, ap, map, string_bytes, subst, sym}
use Rattle.std.specs.Prelude.{Option, Some, option_map}
use Rattle.fd_edge.specs.Comes.{untaken_answers}
use Rattle.fd_edge.specs.Endings.{leaves}
use Rattle.fd_edge.specs.Readings.{files_read}
use Rattle.chaos_append.specs.Asked.{AskedToAppend, asked_to_append, shown_asked}
use Rattle.chaos_append.specs.Outcomes.{Accepted, IsAnswered, IsCut, IsRun, usage_line}
use Rattle.chaos_append.specs.Reading.{ReadingStops}
use Rattle.chaos_append.proofs.Answered.{completes, ran_right}
use Rattle.chaos_append.proofs.program.append_program.Goals as goal

pub returns-in-Some-clause-answer : goal.returns-in-Some-clause-answer
returns-in-Some-clause-answer g c =
    let request = asked_to_append (map string_bytes c.args.words.now) in
    let r = files_read g.F.Files.contents g.F.Files.faults c.args.files.now c.run_asked.new.files in
    let is : Some (shown_asked c.in-Some.asked) ≡ request = sym (ap (option_map shown_asked) c.in-Some.is) ∙ c.asked_by.ensures.asked in
    subst (λ (o : Option AskedToAppend). IsAnswered o r c.run_asked.result
    (leaves g.S.Sink.faults g.S.Sink.written c.args.out.now c.args.mail.now)
    (leaves g.S.Sink.faults g.S.Sink.written c.run_asked.new.out c.run_asked.new.mail)) is c.run_asked.ensures.answer

pub returns-in-Some-clause-complete : goal.returns-in-Some-clause-complete
returns-in-Some-clause-complete g c = completes _ _ _ _ _ (returns-in-Some-clause-answer g c)

pub returns-in-Some-clause-ran : goal.returns-in-Some-clause-ran
returns-in-Some-clause-ran g c = ran_right _ _ _ _ _ (returns-in-Some-clause-answer g c)

pub returns-in-None-clause-answer : goal.returns-in-None-clause-answer
unfolding usage_line
returns-in-None-clause-answer g c =
    let request = asked_to_append (map string_bytes c.args.words.now) in
    let r = files_read g.F.Files.contents g.F.Files.faults c.args.files.now c.args.files.now in
    let out = c.args.out.now in
    let after = c.end.new.out in
    untaken_answers usage_line (λ w. ReadingStops w r) (Accepted request r) (IsRun request r) request (IsCut request r) c.end.result
    (g.S.Sink.faults out) (g.S.Sink.faults after) (g.S.Sink.written out) (g.S.Sink.written after) c.args.mail.now
    (sym c.asked_by.ensures.asked ∙ ap (option_map shown_asked) c.in-None.is) c.end.ensures.ends

pub returns-in-None-clause-complete : goal.returns-in-None-clause-complete
returns-in-None-clause-complete g c = completes _ _ _ _ _ (returns-in-None-clause-answer g c)
