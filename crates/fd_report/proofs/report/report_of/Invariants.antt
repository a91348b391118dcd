use Rattle.std.proofs.Common.{◌≡◌, ◌++◌, drop}
use Rattle.fd_program.specs.Reports.{report_of}
use Rattle.fd_report.proofs.report.report_of.Given as goal

abbrev pub invariant-loop-place : goal.invariant-loop-place
invariant-loop-place l =
    l.text ++ report_of (drop l.place l.sites) (drop l.place l.counts) ≡ report_of l.sites l.counts
