use Rattle.std.proofs.Common.{◌≡◌, take}
use Rattle.chaos_holdings.proofs.pages.copy_pages.Given as goal

abbrev pub invariant-loop-page : goal.invariant-loop-page
invariant-loop-page l = l.copy.items ≡ take l.page-index l.pages
