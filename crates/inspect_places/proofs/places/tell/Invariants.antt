use Rattle.std.proofs.Common.{◌≡◌, ◌*◌, ◌++◌, drop, map}
use Rattle.std.specs.List.{flat_map}
use Rattle.chaos_table.specs.Pages.{pairs_in}
use Rattle.inspect_places.specs.Dealing.{drawn_after, draws}
use Rattle.inspect_places.specs.Telling.{page_in, pair_row, told_of}
use Rattle.inspect_places.proofs.places.tell.Given as goal

abbrev pub invariant-loop-i : goal.invariant-loop-i
invariant-loop-i l = record {
  told : l.numbers ++ flat_map pair_row (draws l.answers l.drawn (map page_in (pairs_in (drop (2 * l.i) l.wanted))))
      ≡ told_of l.answers l.fn.drawn l.wanted;
  drawn : drawn_after l.answers l.drawn (map page_in (pairs_in (drop (2 * l.i) l.wanted))) ≡ drawn_after l.answers l.fn.drawn
      (map page_in (pairs_in l.wanted));
}
