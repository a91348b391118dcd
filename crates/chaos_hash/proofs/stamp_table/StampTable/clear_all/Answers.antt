use Rattle.std.proofs.Common.{ap, sym, ◌∙◌, subst, arith}
use Rattle.std.specs.Ordering.{nat_cmp}
use Rattle.std.specs.FinMap as fin
use Rattle.chaos_hash.specs.Stamps.{Stamps, IsKept, cleared, cleared_list}
use Rattle.chaos_hash.proofs.Kept.{kept-count, kept-cleared}
use Rattle.chaos_hash.proofs.Views.{seen-cleared}
use Rattle.chaos_hash.proofs.stamp_table.StampTable.clear_all.Goals as goal

pub give_dying-requires : goal.give_dying-requires
give_dying-requires c = let count = kept-count c.self.inside.table.entries c.self.inside.pool c.self.invariant in omega (arith, count)

pub invariant_of-self : goal.invariant_of-self
invariant_of-self c =
    subst (λ es. IsKept es c.give_dying.new.pool) (sym c.keep.ensures.entries)
    (subst (IsKept (cleared_list c.args.stamps c.self.inside.table.entries)) (sym c.give_dying.ensures)
    (kept-cleared c.args.stamps c.self.inside.table.entries c.self.inside.pool c.self.invariant))

pub returns-clause-held : goal.returns-clause-held
returns-clause-held c = λ q.
    ap (λ es. fin.get (fin.from_entries {R = nat_cmp} es) q) c.keep.ensures.entries
    ∙ seen-cleared c.args.stamps c.self.inside.table.entries c.keep.ensures.unique q
    ∙ ap (λ (s : Stamps). cleared c.args.stamps (fin.get s.held q)) c.self.view_is
