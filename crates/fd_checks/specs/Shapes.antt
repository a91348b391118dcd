-- What every resolved loop has: at most 64 references, and directly before a reference through an index array its index reference.
use Rattle.std.specs.Prelude.{◌≤◌, List, length, None, All}
use Rattle.fd_program.specs.Checks.{AreServed}
use Rattle.fd_program.specs.Terms.{HasTerms}
use Rattle.fd_program.specs.declared.site.Site.{Site}

pub record IsShaped (site : Site) : Type 0 where
  pub few : length site.references ≤ 64
  pub served : AreServed None site.references
  pub terms : HasTerms site

abbrev pub AreShaped : List Site → Type 0
AreShaped sites = All IsShaped sites
