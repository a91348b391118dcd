use Rattle.std.proofs.Common.{◌≡◌, sym, true, rules, arith}
use Rattle.fd_spell.specs.Spelled.{is_canonical, number_of}
use Rattle.fd_spell.proofs.Numbers.{above, below, parsed_is, parsed_within, too_great}
use Rattle.fd_spell.proofs.digits.number.Goals as goal

pub returns-in_default : goal.returns-in_default
returns-in_default c =
    let can : is_canonical c.args.text.now ≡ true = search rules in
    sym (too_great c.args.low c.args.high c.args.text.now can (omega arith) c.in_default.ensures.value.0)

pub returns-then-number-low : goal.returns-then-number-low
returns-then-number-low c =
    let can : is_canonical c.args.text.now ≡ true = search rules in
    let e : c.in-Ok.number ≡ number_of c.args.text.now = parsed_is c.args.text.now c.in-Ok.number can c.in-Ok.ensures.value.0 in
    sym (below c.args.low c.args.high c.args.text.now can (omega (arith, e)))

pub returns-then-number-high : goal.returns-then-number-high
returns-then-number-high c =
    let can : is_canonical c.args.text.now ≡ true = search rules in
    let e : c.in-Ok.number ≡ number_of c.args.text.now = parsed_is c.args.text.now c.in-Ok.number can c.in-Ok.ensures.value.0 in
    sym (above c.args.low c.args.high c.args.text.now can (omega (arith, e)))

pub returns : goal.returns
returns c =
    let can : is_canonical c.args.text.now ≡ true = search rules in
    parsed_within c.args.low c.args.high c.args.text.now c.in-Ok.number can c.in-Ok.ensures.value.0 (omega arith) (omega arith)
