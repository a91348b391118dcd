use Rattle.std.proofs.Common.{◌≡◌, ◌++◌, drop}
use Rattle.std.specs.List.{fold}
use Rattle.fd_scope.specs.Faults.{along}
use Rattle.fd_loops.specs.Bodies.{after_body, body_faults}
use Rattle.fd_loops.specs.Drafts.{start_draft}
use Rattle.fd_loops.proofs.body.loop_body.Given as goal

abbrev pub invariant-loop-statement : goal.invariant-loop-statement
invariant-loop-statement l = record {
  draft : fold (after_body l.head l.around l.index) l.draft (drop l.statement-index l.statements)
      ≡ fold (after_body l.head l.around l.index) (start_draft l.fn.used) l.statements;
  noted : l.faults ++ along (after_body l.head l.around l.index) (body_faults l.head l.around l.index) l.draft
      (drop l.statement-index l.statements)
      ≡ l.fn.faults ++ along (after_body l.head l.around l.index) (body_faults l.head l.around l.index) (start_draft l.fn.used)
      l.statements;
}
