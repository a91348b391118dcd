use Rattle.std.proofs.Common.{◌≡◌, ◌-◌, pos, ◌-ℤ◌, map}
use Rattle.std.specs.List.{range_with_len}
use Rattle.chaos_dist.specs.Layout.{element_of}
use Rattle.chaos_section.proofs.own.shifted_between.Given as goal

abbrev pub invariant-loop-local : goal.invariant-loop-local
invariant-loop-local l =
    l.list ≡ map (λ k. pos (element_of l.layout.shape l.layout.extent l.layout.nodes l.me k) -ℤ l.shift)
    (range_with_len l.from (l.local - l.from))
