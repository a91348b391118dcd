use Rattle.std.proofs.Common.{◌<◌, length, get_or, sym, ◌∙◌, arith}
use Rattle.fd_lexer.proofs.Numbers.{number_of-over, digit_value-is, value_more}
use Rattle.fd_lexer.proofs.piece.number_of.Goals as goal

pub returns-in_err-checked_mul : goal.returns-in_err-checked_mul
returns-in_err-checked_mul c =
    let within : c.loop-byte.byte-index < length c.args.digits.now = omega arith in
    c.from_residual.ensures ∙ sym (number_of-over c.args.digits.now c.loop-byte.byte-index within
    (omega (arith, c.in_err-checked_mul.ensures, c.loop-byte.invariant)))

pub returns-in_err-value : goal.returns-in_err-value
returns-in_err-value c =
    let i = c.loop-byte.byte-index in
    let within : i < length c.args.digits.now = omega arith in
    c.from_residual-in_err-value.ensures ∙ sym (number_of-over c.args.digits.now i within
    (omega (
      arith,
      c.in_err-value.ensures,
      c.in_ok-checked_mul.ensures,
      c.from-digit.ensures,
      c.loop-byte.invariant,
      digit_value-is (get_or c.args.digits.now i 0) (c.requires i within),
    )))

pub loop-byte-preserved : goal.loop-byte-preserved
loop-byte-preserved c =
    let ds = c.args.digits.now in
    let i = c.loop-byte.byte-index in
    let within : i < length ds = omega arith in
    let digit = digit_value-is (get_or ds i 0) (c.requires i within) in
    let more = value_more ds i within in
    omega (arith, c.in_ok-value.ensures, c.in_ok-checked_mul.ensures, c.from-digit.ensures, c.loop-byte.invariant, digit, more)
