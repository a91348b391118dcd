use Rattle.std.proofs.Common.{rules, ◌≡◌, length, ap, ◌∙◌}
use Rattle.std.specs.Prelude.{◌/◌}
use Rattle.chaos_execute.proofs.Numbering.{numbers_whole}
use Rattle.chaos_execute.proofs.numbered_rows.whole_rows.Goals as goal

pub returns : goal.returns
returns c =
    let len : c.len-count.result ≡ length c.args.rows.items = search rules in
    numbers_whole c.args.rows.items c.from_vec.result (c.len-count.result / 2) (ap (λ n. n / 2) len)
    (c.from_vec.ensures ∙ c.truncate.ensures.items)
