use Rattle.std.proofs.Common.{arith}
use Rattle.fd_lexer.proofs.Fits.{gap_fits, token_fits, place_fits}
use Rattle.fd_lexer.proofs.Steps.{front, reads_gap, reads_token, reads_fault, reads_over}
use Rattle.fd_lexer.proofs.lexer.tokens.Goals as goal

pub returns-in-Nothing : goal.returns-in-Nothing
returns-in-Nothing c =
    let l = c.loop-found in
    reads_over _ l.cursor.at l.cursor.place l.cursor.begun l.found l.invariant (front c.args.text.now l.cursor.at _ c.in-Nothing.ensures)
    _ c.finished.ensures

pub skip-requires-clause-bytes : goal.skip-requires-clause-bytes
skip-requires-clause-bytes c =
    let l = c.loop-found in
    let fits = gap_fits c.args.text.now l.cursor.at c.in-Gap.len l.invariant.within (front c.args.text.now l.cursor.at _ c.in-Gap.ensures)
    in
    omega (arith, fits.within, c.requires)

pub skip-requires-clause-column : goal.skip-requires-clause-column
skip-requires-clause-column c =
    let l = c.loop-found in
    let fits = gap_fits c.args.text.now l.cursor.at c.in-Gap.len l.invariant.within (front c.args.text.now l.cursor.at _ c.in-Gap.ensures)
    in
    let small = place_fits c.args.text.now l.cursor.at l.cursor.place l.invariant.within l.invariant.here in
    omega (arith, fits.within, small.1, c.requires)

pub loop-found-preserved-in-Gap : goal.loop-found-preserved-in-Gap
loop-found-preserved-in-Gap c =
    let l = c.loop-found in
    let s = c.skip.ensures in
    reads_gap c.args.text.now l.cursor.at l.cursor.place l.cursor.begun l.found l.invariant c.in-Gap.len
    (front c.args.text.now l.cursor.at _ c.in-Gap.ensures)
    _ _ _ s.at s.place s.begun

pub take-token-requires-clause-bytes : goal.take-token-requires-clause-bytes
take-token-requires-clause-bytes c =
    let l = c.loop-found in
    let fits = token_fits c.args.text.now l.cursor.at c.in-Lexeme.len c.in-Lexeme.kind l.invariant.within
    (front c.args.text.now l.cursor.at _ c.in-Lexeme.ensures) in
    omega (arith, fits.within, c.requires)

pub take-token-requires-clause-line : goal.take-token-requires-clause-line
take-token-requires-clause-line c =
    let l = c.loop-found in
    let small = place_fits c.args.text.now l.cursor.at l.cursor.place l.invariant.within l.invariant.here in
    omega (arith, l.invariant.within, small.0, c.requires)

pub take-token-requires-clause-column : goal.take-token-requires-clause-column
take-token-requires-clause-column c =
    let l = c.loop-found in
    let fits = token_fits c.args.text.now l.cursor.at c.in-Lexeme.len c.in-Lexeme.kind l.invariant.within
    (front c.args.text.now l.cursor.at _ c.in-Lexeme.ensures) in
    let small = place_fits c.args.text.now l.cursor.at l.cursor.place l.invariant.within l.invariant.here in
    omega (arith, fits.within, small.1, c.requires)

pub loop-found-smaller : goal.loop-found-smaller
loop-found-smaller c =
    let l = c.loop-found in
    let fits = token_fits c.args.text.now l.cursor.at c.in-Lexeme.len c.in-Lexeme.kind l.invariant.within
    (front c.args.text.now l.cursor.at _ c.in-Lexeme.ensures) in
    omega (arith, fits.within, fits.some, c.take-token.ensures.at)

pub loop-found-preserved : goal.loop-found-preserved
loop-found-preserved c =
    let l = c.loop-found in
    let s = c.take-token.ensures in
    reads_token c.args.text.now l.cursor.at l.cursor.place l.cursor.begun l.found l.invariant c.in-Lexeme.kind c.in-Lexeme.len
    c.take-token.result
    (front c.args.text.now l.cursor.at _ c.in-Lexeme.ensures) s.token _ _ _ _ s.at s.place s.begun c.in_ok-push-in-Lexeme.ensures.ok

pub returns-in-Fault : goal.returns-in-Fault
returns-in-Fault c =
    let l = c.loop-found in
    reads_fault c.args.text.now l.cursor.at l.cursor.place l.cursor.begun l.found l.invariant c.in-Fault.cause
    (front c.args.text.now l.cursor.at _ c.in-Fault.ensures)
