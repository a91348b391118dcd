use Rattle.std.proofs.Common.{◌≡◌, ◌++◌, pos, get_or, rules}
use Rattle.bisect_node.specs.Printing.{number_line}
use Rattle.bisect_node.proofs.Lines.{line_more, line_same}
use Rattle.bisect_node.proofs.printing.append_lines.Goals as goal
use Rattle.bisect_node.proofs.printing.append_lines.Goals.{then-k-eq1+in_ok-append_line, else-k-eq1}

pub loop-k-preserved : goal.loop-k-preserved
loop-k-preserved c =
    let rows = c.args.rows.now in
    let text = c.loop-k.text in
    let new = c.if-k-eq1.text in
    elim c.if-k-eq1.branch [
      | then-k-eq1+in_ok-append_line w ↦
          let more : new ≡ text ++ number_line (get_or rows c.loop-k.k (pos 0)) = search rules in
          line_more c.args.text.now text new rows c.loop-k.k c.loop-k-test.true c.loop-k.invariant w.if-k-eq1.true more
      | else-k-eq1 w ↦
          let same : new ≡ text = search rules in
          line_same c.args.text.now text new rows c.loop-k.k c.loop-k-test.true c.loop-k.invariant w.if-k-eq1.false same
    ]
