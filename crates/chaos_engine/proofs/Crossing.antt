-- A node may go to another thread. An expression holds expressions, so this is not found by itself of a program, nor of what holds one.
use denote.Param.Send.{IsSend, IsSync, sendable}
use denote.Ref.{NamedLft}
use Rattle.std.proofs.Crossing.{crosses}
use Rattle.sqlite_items.proofs.boxed.Boxed.TheSendSync.{the_send as Boxed-send, the_sync as Boxed-sync}
use Rattle.sqlite_items.proofs.items.Items.TheSendSync.{the_send as Items-send, the_sync as Items-sync}
use Rattle.fd_words.proofs.arith.Arith.TheSendSync.{the_field_send as Arith-field_send, the_field_sync as Arith-field_sync}
use Rattle.fd_words.proofs.source.SourcePlace.TheSendSync.{the_field_send as SourcePlace-field_send}
use Rattle.fd_words.proofs.source.SourcePlace.TheSendSync.{the_field_sync as SourcePlace-field_sync}
use Rattle.fd_words.proofs.combine.Combine.TheSendSync.{the_field_send as Combine-field_send, the_field_sync as Combine-field_sync}
use Rattle.fd_words.proofs.place.Role.TheSendSync.{the_field_send as Role-field_send, the_field_sync as Role-field_sync}
use Rattle.fd_program.proofs.array.ArrayFacts.TheSendSync.{the_send as ArrayFacts-send, the_sync as ArrayFacts-sync}
use Rattle.fd_program.proofs.trace.LoopTurn.TheSendSync.{the_field_send as LoopTurn-field_send}
use Rattle.fd_program.proofs.loop_facts.Layout.TheSendSync.{the_send as Layout-send}
use Rattle.fd_program.proofs.loop_facts.HomeRule.TheSendSync.{the_field_send as HomeRule-field_send, the_field_sync as HomeRule-field_sync}
use Rattle.fd_program.proofs.array.LayoutName.TheSendSync.{the_sync as LayoutName-sync}
use Rattle.fd_program.proofs.array.OutputName.TheSendSync.{the_sync as OutputName-sync}
use Rattle.fd_program.proofs.trace.Step.TheSendSync.{the_sync as Step-sync}
use Rattle.chaos_dist.proofs.step_form.StepForm.TheSendSync.{the_field_sync as StepForm-field_sync}
use Rattle.inspect_places.proofs.asked.Asked.TheSendSync.{the_field_send as Asked-field_send}
use Rattle.chaos_inspect.proofs.spot.Spot.TheSendSync.{the_send as Spot-send}
use Rattle.chaos_inspect.proofs.stage.Stage.TheSendSync.{the_field_send as Stage-field_send}
use Rattle.chaos_move.proofs.undo.Undo.TheSendSync.{the_send as Undo-send}
use Rattle.chaos_moving.proofs.moving.Moving.TheSendSync.{the_field_send as Moving-field_send}
use Rattle.chaos_executing.proofs.executing.Executing.TheSendSync.{the_field_send as Executing-field_send}
use Rattle.chaos_holdings.proofs.holdings.Holdings.TheSendSync.{the_field_send as Holdings-field_send}
use Rattle.chaos_holdings.proofs.session.NodeEnd.TheSendSync.{the_field_send as NodeEnd-field_send}
use Rattle.chaos_letter.proofs.letter.Letter.TheSendSync.{the_send as Letter-send}
use Rattle.chaos_letter.proofs.wanted.Wanted.TheSendSync.{the_send as Wanted-send}
use Rattle.fd_words.proofs.numbers.Numbers.TheSendSync.{the_send as Numbers-send, the_sync as Numbers-sync}
use Rattle.fd_words.proofs.bytes.Bytes.TheSendSync.{the_send as Bytes-send}
use Rattle.fd_program.proofs.body.CheckedExpr.TheLaws.TheKnot.{crosses as CheckedExpr-crosses}
use Rattle.fd_program.proofs.scalar.CheckedScalar.TheLaws.TheKnot.{crosses as CheckedScalar-crosses}
use Rattle.fd_program.specs.contracts.body.CheckedExpr as CheckedExpr
use Rattle.fd_program.specs.contracts.scalar.CheckedScalar as CheckedScalar
use Rattle.fd_program.specs.contracts.body.CheckedBody as CheckedBody
use Rattle.fd_program.specs.contracts.scalar.CheckedTerm as CheckedTerm
use Rattle.fd_program.specs.contracts.reference.CheckedSubscript as CheckedSubscript
use Rattle.fd_program.specs.contracts.reference.Reference as Reference
use Rattle.fd_program.specs.contracts.site.Site as Site
use Rattle.fd_program.specs.contracts.loop_facts.LoopFacts as LoopFacts
use Rattle.fd_program.specs.contracts.checked.CheckedStatement as CheckedStatement
use Rattle.fd_program.specs.contracts.checked.Checked as Checked
use Rattle.chaos_holdings.specs.contracts.session.Session as Session
use Rattle.chaos_inspect.specs.contracts.inspection.Inspection as Inspection
use Rattle.chaos_entering.specs.contracts.activity.Activity as Activity
use Rattle.chaos_entering.specs.contracts.activity.At as At
use Rattle.chaos_node.specs.contracts.node.Node as Node
use Rattle.chaos_node.specs.contracts.node.Node.TheInside as Inside

ruleset words_send = (sendable, Boxed-send, Items-send, Arith-field_send, SourcePlace-field_send, Combine-field_send, Role-field_send)

ruleset words_sync = (sendable, Boxed-sync, Items-sync, Arith-field_sync, SourcePlace-field_sync, Combine-field_sync, Role-field_sync)

CheckedExpr-field_send : IsSend CheckedExpr.the_field.row
CheckedExpr-field_send = search (words_send, CheckedExpr-crosses) depth 20

CheckedExpr-field_sync : IsSync CheckedExpr.the_field.row
CheckedExpr-field_sync = search (words_sync, CheckedExpr-crosses) depth 20

CheckedScalar-field_send : IsSend CheckedScalar.the_field.row
CheckedScalar-field_send = search (words_send, CheckedScalar-crosses) depth 20

CheckedScalar-send : IsSend CheckedScalar.the_row
CheckedScalar-send = search (words_send, CheckedScalar-crosses) depth 20

CheckedScalar-field_sync : IsSync CheckedScalar.the_field.row
CheckedScalar-field_sync = search (words_sync, CheckedScalar-crosses) depth 20

CheckedScalar-sync : IsSync CheckedScalar.the_row
CheckedScalar-sync = search (words_sync, CheckedScalar-crosses) depth 20

CheckedBody-send : IsSend CheckedBody.the_row
CheckedBody-send = search (words_send, CheckedExpr-field_send) depth 20

CheckedBody-sync : IsSync CheckedBody.the_row
CheckedBody-sync = search (words_sync, CheckedExpr-field_sync) depth 20

CheckedTerm-send : IsSend CheckedTerm.the_row
CheckedTerm-send = search (words_send, CheckedScalar-field_send) depth 20

CheckedTerm-sync : IsSync CheckedTerm.the_row
CheckedTerm-sync = search (words_sync, CheckedScalar-field_sync) depth 20

CheckedSubscript-field_send : IsSend CheckedSubscript.the_field.row
CheckedSubscript-field_send = search (words_send, CheckedScalar-field_send, CheckedTerm-send) depth 20

CheckedSubscript-field_sync : IsSync CheckedSubscript.the_field.row
CheckedSubscript-field_sync = search (words_sync, CheckedScalar-field_sync, CheckedTerm-sync) depth 20

Reference-send : IsSend Reference.the_row
Reference-send = search (words_send, CheckedSubscript-field_send) depth 20

Reference-sync : IsSync Reference.the_row
Reference-sync = search (words_sync, CheckedSubscript-field_sync) depth 20

Site-field_send : IsSend Site.the_field.row
Site-field_send = search (words_send, CheckedScalar-send, CheckedScalar-field_send, CheckedBody-send, Reference-send) depth 20

Site-sync : IsSync Site.the_row
Site-sync = search (words_sync, CheckedScalar-sync, CheckedScalar-field_sync, CheckedBody-sync, Reference-sync) depth 20

LoopFacts-field_send : IsSend LoopFacts.the_field.row
LoopFacts-field_send = search (words_send, ArrayFacts-send, Site-field_send, LoopTurn-field_send, Layout-send, HomeRule-field_send) depth 20

CheckedStatement-sync : IsSync CheckedStatement.the_row
CheckedStatement-sync = search (words_sync, StepForm-field_sync, CheckedScalar-field_sync) depth 20

Checked-field_sync : IsSync Checked.the_field.row
Checked-field_sync = search (words_sync, ArrayFacts-sync, LayoutName-sync, Numbers-sync, OutputName-sync, Site-sync, CheckedStatement-sync)
    depth 20

Session-sync : IsSync Session.the_row
Session-sync = search (words_sync, Checked-field_sync, Step-sync, HomeRule-field_sync) depth 20

Inspection-field_send : IsSend Inspection.the_field.row
Inspection-field_send = search (words_send, LoopFacts-field_send, Numbers-send, Asked-field_send, Spot-send, Stage-field_send) depth 20

Activity-field_send : IsSend Activity.the_field.row
Activity-field_send = search (sendable, Moving-field_send, Inspection-field_send, Executing-field_send) depth 20

At-field_send : IsSend At.the_field.row
At-field_send = search (words_send, Activity-field_send, Numbers-send) depth 20

Inside-send : (l : NamedLft) → IsSend (Inside.the_row l)
Inside-send l = search (
  sendable,
  crosses,
  Session-sync,
  At-field_send,
  Holdings-field_send,
  Bytes-send,
  Numbers-send,
  NodeEnd-field_send,
  Letter-send,
  Wanted-send,
  Undo-send,
) depth 20

pub Node-send : (l : NamedLft) → IsSend (Node.the_row l)
Node-send l = search (sendable, Inside-send) depth 20
