use Rattle.std.proofs.Common.{◌<◌, ◌≤◌, length, arith, ◌∙◌}
use Rattle.chaos_holdings.proofs.KeptLists.{named_is, none_named}
use Rattle.chaos_holdings.proofs.kept_list.is_named.Goals as goal

pub returns-then-named-len : goal.returns-then-named-len
returns-then-named-len c =
    let less : c.args.named < length c.args.checked.now.layouts = omega (arith, c.if-named-len.true, c.len.ensures) in
    c.names_at.ensures ∙ named_is c.args.checked.now c.args.site c.args.named less

pub returns-else-named-len : goal.returns-else-named-len
returns-else-named-len c =
    let most : length c.args.checked.now.layouts ≤ c.args.named = omega (arith, c.if-named-len.false, c.len.ensures) in
    none_named c.args.checked.now c.args.site c.args.named most
