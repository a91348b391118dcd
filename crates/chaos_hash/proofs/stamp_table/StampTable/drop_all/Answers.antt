use Rattle.std.proofs.Common.{◌≡◌, Some, None, Option, if◌then◌else◌, ap, sym, ◌∙◌, refl}
use Rattle.std.specs.Ordering.{nat_cmp}
use Rattle.std.specs.Cmp.{nat_cmp_total}
use Rattle.std.specs.FinMap as fin
use Rattle.std.specs.Int.Bits.{and_zero_r}
use Rattle.chaos_hash.specs.declared.held.Held.{Held}
use Rattle.chaos_hash.specs.Stamps.{cleared, less}
use Rattle.std.specs.Prelude.{not, nat_eq}
use Rattle.chaos_hash.proofs.stamp_table.StampTable.drop_all.Goals as goal

all_gone : (o : Option Held) → cleared 340282366920938463463374607431768211455 o ≡ None
all_gone None = refl
all_gone (Some h) = ap (λ m. if not (nat_eq m 0) then Some (less 340282366920938463463374607431768211455 h) else None) (and_zero_r h.mask)

pub returns-clause-held : goal.returns-clause-held
returns-clause-held c = fin.same_map nat_cmp_total fin.nat_cmp-IsAntisymmetric _ _ (λ q. c.clear_all.ensures.held q
    ∙ all_gone (fin.get c.args.self.now.held q) ∙ sym (fin.get-empty nat_cmp q))
