use Rattle.std.proofs.Common.{sym, ◌∙◌, refl}
use Rattle.chaos_hash.proofs.Entered as by
use Rattle.chaos_hash.proofs.stamp_table.StampTable.entry.Goals as goal

pub returns-in-None : goal.returns-in-None
returns-in-None c = by.free-unheld c.self.inside.table.entries c.self.inside.pool c.args.self.now c.self.view_is c.args.slot
    c.self.invariant (sym c.holder.ensures ∙ c.in-None.is)

pub returns-in-None-get : goal.returns-in-None-get
returns-in-None-get c =
    by.free-dead c.self.inside.table.entries c.self.inside.pool c.args.self.now c.self.view_is c.args.slot c.in-Some.element
    c.self.invariant (sym c.holder.ensures ∙ c.in-Some.is) (sym c.in-None-get.ensures.value)

pub returns-then-held-slot : goal.returns-then-held-slot
returns-then-held-slot c = (
  c.in-Some-get.held.now,
  by.got c.self.inside.table.entries c.self.inside.pool c.args.self.now c.self.view_is c.in-Some.element
      ∙ sym c.in-Some-get.ensures.value,
  c.if-held-slot.true,
  refl,
)

pub returns-else-held-slot : goal.returns-else-held-slot
returns-else-held-slot c =
    by.free-other c.self.inside.table.entries c.self.inside.pool c.args.self.now c.self.view_is c.args.slot c.in-Some.element
    c.in-Some-get.held.now c.self.invariant (sym c.holder.ensures ∙ c.in-Some.is) (sym c.in-Some-get.ensures.value) c.if-held-slot.false
