use Rattle.std.proofs.Common.{◌≡◌, Some, ap, sym, ◌∙◌, subst, refl, ◌≤◌, ◌+◌}
use Rattle.std.specs.FinMap as fin
use Rattle.chaos_hash.specs.Stamps.{Stamps, IsFree}
use Rattle.chaos_localise.specs.Local.{bare, KeepsSlots}
use Rattle.chaos_localise.proofs.Steps as step
use Rattle.chaos_localise.proofs.references.one.Goals as goal

pub returns-in_err-slot-clause-keeps : goal.returns-in_err-slot-clause-keeps
returns-in_err-slot-clause-keeps c = λ q h found. (h, ap (λ (s : Stamps). fin.get s.held q) c.in_err-slot.ensures.err ∙ found, refl)

pub returns-in_ok-slot-clause-seen : goal.returns-in_ok-slot-clause-seen
returns-in_ok-slot-clause-seen c = λ q.
    ap (λ m. bare (fin.get m q)) c.in_ok-slot.ensures.entered
    ∙ step.bare-insert c.args.table.now.held c.args.item.element c.args.item.place c.args.item.stamp c.in_ok-slot.slot
    c.args.item.place.owner c.args.me q c.if-item-me.false

pub returns-in_ok-slot-clause-local : goal.returns-in_ok-slot-clause-local
returns-in_ok-slot-clause-local c = (
  c.if-item-me.false,
  subst (λ m. (h : _) × (fin.get m c.args.item.element ≡ Some h) × (h.slot ≡ c.in_ok-slot.slot)) (sym c.in_ok-slot.ensures.entered)
      (step.local-insert c.args.table.now.held c.args.item.element c.args.item.place c.args.item.stamp c.in_ok-slot.slot
      (IsFree c.args.table.now.held) c.in_ok-slot.ensures.slot),
)

pub returns-in_ok-slot-clause-keeps : goal.returns-in_ok-slot-clause-keeps
returns-in_ok-slot-clause-keeps c =
    subst (KeepsSlots c.args.table.now.held) (sym c.in_ok-slot.ensures.entered)
    (step.keeps-insert c.args.table.now.held c.args.item.element c.args.item.place c.args.item.stamp c.in_ok-slot.slot)

pub returns-in_ok-slot-clause-few : goal.returns-in_ok-slot-clause-few
returns-in_ok-slot-clause-few c =
    subst (λ m. fin.len m ≤ fin.len c.args.table.now.held + 1) (sym c.in_ok-slot.ensures.entered)
    (step.few-insert c.args.table.now.held c.args.item.element c.args.item.place c.args.item.stamp c.in_ok-slot.slot)
