use Rattle.std.proofs.Common.{◌∙◌}
use Rattle.inspect_enter.proofs.OneEntered as one
use Rattle.inspect_enter.proofs.entries.enter_all.Goals as goal

pub enter_one-requires-clause-tables : goal.enter_one-requires-clause-tables
enter_one-requires-clause-tables c = c.loop-item.invariant.count ∙ c.requires.tables

pub returns-in_err-local-clause-come : goal.returns-in_err-local-clause-come
returns-in_err-local-clause-come c =
    one.come_so_far c.args.facts.now c.args.me c.args.tables.now c.loop-item.tables c.enter_one.new.tables c.args.placed.now
    c.loop-item.item-index _ c.loop-item-test.true c.loop-item.invariant.come c.in_err-local.ensures.come

pub returns-in_err-keep-clause-grown : goal.returns-in_err-keep-clause-grown
returns-in_err-keep-clause-grown c =
    one.grown_further c.args.facts.now c.args.me c.args.tables.now c.loop-item.tables c.enter_one.new.tables c.loop-item.invariant.grown
    c.in_ok-local.ensures.grown

pub returns-in_err-keep-clause-come : goal.returns-in_err-keep-clause-come
returns-in_err-keep-clause-come c =
    one.come_so_far c.args.facts.now c.args.me c.args.tables.now c.loop-item.tables c.enter_one.new.tables c.args.placed.now
    c.loop-item.item-index _ c.loop-item-test.true c.loop-item.invariant.come c.in_ok-local.ensures.come

pub loop-item-preserved : goal.loop-item-preserved
loop-item-preserved c = record {
  found = one.found_more c.args.facts.now c.args.me c.loop-item.tables c.enter_one.new.tables c.args.placed.now c.loop-item.item-index _
      c.loop-item.references c.keep.new.references c.in_ok-local.local
      c.loop-item-test.true c.in_ok-local.ensures.grown c.loop-item.invariant.found c.in_ok-local.ensures.found c.in_ok-keep.ensures;
  grown = one.grown_further c.args.facts.now c.args.me c.args.tables.now c.loop-item.tables c.enter_one.new.tables
      c.loop-item.invariant.grown c.in_ok-local.ensures.grown;
  come = one.come_more c.args.facts.now c.args.me c.args.tables.now c.loop-item.tables c.enter_one.new.tables c.args.placed.now
      c.loop-item.item-index _ c.loop-item-test.true
      c.loop-item.invariant.come c.in_ok-local.ensures.come;
  count = c.in_ok-local.ensures.count ∙ c.loop-item.invariant.count;
}

pub returns-clause-come : goal.returns-clause-come
returns-clause-come c =
    one.come_upto c.args.facts.now c.args.me c.args.tables.now c.loop-item.tables c.args.placed.now c.loop-item.item-index
    c.loop-item.invariant.come

pub returns-in_err-local-clause-grown : goal.returns-in_err-local-clause-grown
returns-in_err-local-clause-grown c =
    one.grown_further c.args.facts.now c.args.me c.args.tables.now c.loop-item.tables c.enter_one.new.tables c.loop-item.invariant.grown
    c.in_err-local.ensures.grown
