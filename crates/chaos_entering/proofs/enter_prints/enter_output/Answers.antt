use Rattle.std.proofs.Common.{ap, refl, sym, ◌∙◌}
use Rattle.std.specs.Option.{option_copied}
use Rattle.chaos_entering.proofs.EnterPrints.{end_enters, no_more, output_enters, rows_stand}
use Rattle.chaos_entering.specs.declared.activity.Activity.TheVariants.{Output}
use Rattle.chaos_entering.proofs.enter_prints.enter_output.Goals as goal

pub returns-in_ok-rows-in-Some-clause-made : goal.returns-in_ok-rows-in-Some-clause-made
returns-in_ok-rows-in-Some-clause-made c =
    rows_stand _ c.args.me c.args.session.now.nodes (Output c.args.number) c.in_ok-rows-in-Some.rows.own c.args.left c.printed.result
    (c.printed.ensures c.args.me c.args.session.now.nodes c.in_ok-rows-in-Some.rows.own refl c.in_ok-rows-in-Some.ensures.posted)
    c.requires.left refl tt

pub returns-in_ok-rows-in-Some-clause-falls : goal.returns-in_ok-rows-in-Some-clause-falls
returns-in_ok-rows-in-Some-clause-falls c =
    no_more c.printed.result.left c.args.left
    (c.printed.ensures c.args.me c.args.session.now.nodes c.in_ok-rows-in-Some.rows.own refl c.in_ok-rows-in-Some.ensures.posted).left_is

pub returns-in_ok-rows-in-Some-clause-right : goal.returns-in_ok-rows-in-Some-clause-right
returns-in_ok-rows-in-Some-clause-right c = λ plan st known same behind elements parts.
    output_enters c.args.session.now plan c.output_execution-execution.result c.args.number c.args.me c.args.left c.in-Some.output.now st
    c.args.elements.now c.args.parts.now c.printed.result
    (sym c.get.ensures.value ∙ ap option_copied c.in-Some.is) c.output_execution-execution.ensures
    (c.printed.ensures c.args.me c.args.session.now.nodes _ c.in_ok-rows-in-Some.ensures.own c.in_ok-rows-in-Some.ensures.posted) known
    same behind elements parts

pub returns-in-None-clause-right : goal.returns-in-None-clause-right
returns-in-None-clause-right c = λ plan st known same behind elements parts.
    end_enters c.args.session.now plan c.args.number c.args.me c.args.left st c.enter_end.result (sym c.get.ensures.value
    ∙ ap option_copied c.in-None.is)
    (record {
      left = c.enter_end.ensures.left;
      begins = c.enter_end.ensures.begins;
      out = c.enter_end.ensures.out;
      due = c.enter_end.ensures.due;
      got = c.enter_end.ensures.got;
      activity = c.enter_end.ensures.activity;
    }) same behind
