-- What the end of a phase changes of what a node has.
use Rattle.std.specs.Prelude.{ℕ, List, slice_set, Option, Some, None}
use Rattle.plan_tables.specs.Tables.{dropped_in}
use Rattle.plan_run.specs.declared.kept.Kept.{Kept}
use Rattle.fd_program.specs.declared.checked.Checked.{Checked}
use Rattle.chaos_holdings.specs.Keeping.{with_given_up}
use Rattle.chaos_holdings.specs.declared.holdings.Holdings.{Holdings}
use Rattle.chaos_holdings.specs.declared.session.NodeEnd.{NodeEnd}
use Rattle.chaos_holdings.specs.declared.effect.Effect.{Effect}
use Rattle.chaos_holdings.specs.declared.effect.Effect.TheVariants.{Nothing, Moves, Inspects, Executes, Refuses}

-- something new to keep of a FORALL, or what was kept
abbrev pub kept_with : ℕ → Option Kept → List (Option Kept) → List (Option Kept)
kept_with site None kept = kept
kept_with site (Some x) kept = slice_set kept site (Some x)

abbrev pub holdings_after : Checked → ℕ → Effect → Holdings → Holdings
holdings_after c site Nothing h = h
holdings_after c site (Moves d moved parts records) h = record {
  elements = slice_set h.elements d moved.elements;
  parts = parts;
  records = records;
  pages = slice_set h.pages d moved.page;
  kept = with_given_up c d h.kept;
  tables = dropped_in h.tables d;
}
holdings_after c site (Inspects tables kept) h = record h { kept = kept_with site kept h.kept; tables = tables }
holdings_after c site (Executes parts records count) h = record h { parts = parts; records = records }
holdings_after c site (Refuses refused) h = h

abbrev pub end_after : ℕ → Effect → NodeEnd → NodeEnd
end_after site (Executes parts records count) e = record { refused = e.refused; counts = slice_set e.counts site count }
end_after site (Refuses refused) e = record { refused = Some refused; counts = e.counts }
end_after site _ e = e
