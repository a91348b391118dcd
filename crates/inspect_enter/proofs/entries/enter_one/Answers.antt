use Rattle.std.proofs.Common.{rules, ◌∙◌, ap}
use Rattle.chaos_hash.specs.Stamps.{IsFree}
use Rattle.fd_program.specs.Places.{decomposition_of}
use Rattle.inspect_enter.proofs.OneEntered as one
use Rattle.plan_tables.specs.Tables.{table_at}
use Rattle.inspect_enter.proofs.entries.enter_one.Goals as goal

pub returns-in_ok-slot : goal.returns-in_ok-slot
returns-in_ok-slot c =
    let before = c.args.tables.now in
    let number = c.decomposition-number.result in
    let element = c.stands_at-element.result in
    let its_number = c.decomposition-number.ensures ∙ ap (λ arrays. decomposition_of arrays c.args.placed.used.array) c.as_slice.ensures in
    record {
      found = (
        c.if-placed-me.false,
        one.found_after c.args.facts.now c.requires.accepted before c.enter.new.self c.args.placed c.in_ok-slot.slot number element
            c.requires.tables c.requires.kept its_number c.stands_at-element.ensures.element c.in_ok-slot.ensures.entered
            (IsFree (table_at before number).held) c.in_ok-slot.ensures.slot,
      );
      grown = one.grown_after c.args.facts.now c.requires.accepted before c.enter.new.self c.args.placed c.in_ok-slot.slot number element
          c.requires.tables c.requires.kept its_number c.stands_at-element.ensures.element c.in_ok-slot.ensures.entered;
      come = one.come_after c.args.facts.now c.requires.accepted before c.enter.new.self c.args.placed c.in_ok-slot.slot number element
          c.requires.tables c.requires.kept its_number c.stands_at-element.ensures.element c.in_ok-slot.ensures.entered c.args.me
          c.if-placed-me.false;
      count = search rules;
    }
