-- A program of the grammar has no empty FORALL.
use Rattle.std.proofs.Common.{◌≤◌, arith, List, [], ◌∷◌, ◌++◌, length, ℕ}
use Rattle.std.specs.Prelude.{All}
use Rattle.std.proofs.lemmas.List.Elements.{All-nil, All-cons, All-append}
use Rattle.fd_lexer.specs.declared.token.Token.{Token}
use Rattle.fd_syntax.specs.declared.declaration.Declaration.{Declaration}
use Rattle.fd_syntax.specs.declared.program.Program.{Program}
use Rattle.fd_syntax.specs.declared.statement.BodyStatement.{BodyStatement}
use Rattle.fd_syntax.specs.declared.statement.Statement.{Statement}
use Rattle.fd_grammar.specs.Grammar.{AreInner, last_inner, more_inner, IsForall, forall_loop, IsDistribute, distribute, IsHead, no_head}
use Rattle.fd_grammar.specs.Grammar.{declared, distributed, IsBody, no_body, more_body, IsStatement, distribution, printed, do_loop, ranged}
use Rattle.fd_grammar.specs.Grammar.{IsWrittenAs, program}
use Rattle.fd_checks.specs.Filled.{IsFilled, AreFilled}

inner_some : {index : List ℕ} {ts : List Token} {ss : List BodyStatement} → AreInner index ts ss → 1 ≤ length ss
inner_some (last_inner i l e ls) = omega arith
inner_some (more_inner i l e ls b) = omega arith

forall_filled : {ts : List Token} {s : Statement} → IsForall ts s → IsFilled s
forall_filled (forall_loop f e r b c) = inner_some b

distribute_filled : {ts : List Token} {s : Statement} → IsDistribute ts s → IsFilled s
distribute_filled (distribute w n o c ew en eo f ec) = tt

mutual
  body_filled : {ts : List Token} {xs : List Statement} → IsBody ts xs → All IsFilled xs
  body_filled no_body = All-nil IsFilled
  body_filled (more_body {xs = xs} {ys = ys} s l e ls b) = All-append IsFilled xs ys (statement_filled s) (body_filled b)

  statement_filled : {ts : List Token} {xs : List Statement} → IsStatement ts xs → All IsFilled xs
  statement_filled (distribution {s = s} d) = All-cons IsFilled s [] (distribute_filled d) (All-nil IsFilled)
  statement_filled (printed p n ep en) = All-cons IsFilled _ [] tt (All-nil IsFilled)
  statement_filled (do_loop {body = body} d e r b c) = All-cons IsFilled _ body tt (body_filled b)
  statement_filled (ranged {s = s} f) = All-cons IsFilled s [] (forall_filled f) (All-nil IsFilled)

head_filled : {ts : List Token} {ds : List Declaration} {ss : List Statement} → IsHead ts ds ss → All IsFilled ss
head_filled no_head = All-nil IsFilled
head_filled (declared d l e ls h) = head_filled h
head_filled (distributed {s = s} {ss = ss} d l e ls h) = All-cons IsFilled s ss (distribute_filled d) (head_filled h)

pub program_filled : {p : Program} {ts : List Token} → IsWrittenAs p ts → AreFilled p
program_filled (program {ss = ss} {xs = xs} before p n l e ep en el ls h b ew after) = All-append IsFilled ss xs (head_filled h)
    (body_filled b)
