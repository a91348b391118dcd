use Rattle.std.proofs.Common.{◌≡◌, ◌<◌, ◌-◌, ◌++◌, length, ap, subst, sym, ◌∙◌, arith}
use Rattle.std.specs.Prelude.{◌+◌, count_by}
use Rattle.std.specs.List.{AllByRecursion}
use Rattle.fd_program.specs.ListLaws.{all_append}
use Rattle.fd_words.specs.Roles.{is_index}
use Rattle.inspect_enter.specs.Placed.{MayBeStamped}
use Rattle.inspect_enter.specs.Rows.{first_iteration, first_uses}
use Rattle.inspect_enter.proofs.Reading as reading
use Rattle.inspect_enter.proofs.rows.read_rows.Goals as goal

pub loop-at-preserved : goal.loop-at-preserved
loop-at-preserved c =
    let wide : c.width-width.result ≡ 1 + count_by (λ r. is_index r.role) c.args.facts.now.site.references =
    c.width-width.ensures ∙ ap (λ rs. 1 + count_by (λ r. is_index r.role) rs) c.as_slice.ensures in
    let long = c.loop-at-test.true in
    let low = c.loop-at.invariant.within in
    record {
      within = omega (arith, long, low);
      kept = subst (AllByRecursion (MayBeStamped c.args.facts.now)) (sym c.in_ok-add_row.ensures.uses)
          (all_append (MayBeStamped c.args.facts.now) c.loop-at.own.uses _ c.loop-at.invariant.kept
          (reading.first_kept c.args.facts.now c.requires _));
      read = λ store its met e. reading.read_more c.args.facts.now store c.args.rows.now its c.loop-at.own.iterations
          c.add_row.new.own.iterations c.loop-at.own.uses c.add_row.new.own.uses
          c.loop-at.at c.width-width.result met (c.loop-at.invariant.read store its met e) wide long
          (c.in_ok-add_row.ensures.iterations ∙ ap (λ l. c.loop-at.own.iterations ++ first_iteration l)
          (reading.rest_is c.args.rows.now c.loop-at.at))
          (c.in_ok-add_row.ensures.uses ∙ ap (λ l. c.loop-at.own.uses ++ first_uses c.args.facts.now l)
          (reading.rest_is c.args.rows.now c.loop-at.at));
    }

pub returns : goal.returns
returns c =
    let wide : c.width-width.result ≡ 1 + count_by (λ r. is_index r.role) c.args.facts.now.site.references =
    c.width-width.ensures ∙ ap (λ rs. 1 + count_by (λ r. is_index r.role) rs) c.as_slice.ensures in
    let no = c.loop-at-test.false in
    let short : length c.args.rows.now - c.loop-at.at < c.width-width.result = omega (arith, no) in
    record {
      kept = c.loop-at.invariant.kept;
      iterations = λ store its met e. (reading.read_all c.args.facts.now store c.args.rows.now its c.loop-at.own.iterations
          c.loop-at.own.uses c.loop-at.at c.width-width.result (c.loop-at.invariant.read store its met e) wide short).0;
      uses = λ store its met e. (reading.read_all c.args.facts.now store c.args.rows.now its c.loop-at.own.iterations c.loop-at.own.uses
          c.loop-at.at c.width-width.result (c.loop-at.invariant.read store its met e) wide short).1;
    }
