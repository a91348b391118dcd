-- An accepted program is checked.
use Rattle.std.proofs.Common.{◌≡◌, ◌≤◌, ◌<◌, ◌+◌, ℤ, arith, [], length, sym, subst}
use Rattle.std.specs.Prelude.{All, IfOk, Result, Ok, Err}
use Rattle.std.proofs.lemmas.List.Elements.{All-weaker}
use Rattle.chaos_dist.specs.Homes.{natural}
use Rattle.fd_words.specs.declared.source.SourceStop.{SourceStop}
use Rattle.fd_syntax.specs.declared.program.Program.{Program}
use Rattle.fd_program.specs.Checks.{IsChecked, IsRead, IsStatementOf}
use Rattle.fd_program.specs.declared.array.OutputName.{OutputName}
use Rattle.fd_program.specs.declared.checked.Checked.{Checked}
use Rattle.fd_program.specs.declared.checked.CheckedStatement.{CheckedStatement}
use Rattle.fd_program.specs.declared.checked.CheckedStatement.TheVariants as checked
use Rattle.fd_scope.specs.declared.head.Head.{Head}
use Rattle.fd_scope.specs.Faults.{along}
use Rattle.fd_scope.specs.Heads.{head_of, head_faults}
use Rattle.fd_checks.specs.declared.walk.Walk.{Walk}
use Rattle.fd_checks.specs.Filled.{AreFilled}
use Rattle.fd_checks.specs.Walks.{step, step_faults, start, walked, resolved_in, resolved_program, all_faults, IsAnswer}
use Rattle.fd_checks.proofs.Accepted.{left_empty, right_empty, zip_length}
use Rattle.fd_checks.proofs.Scopes.{IsNumber}
use Rattle.fd_checks.proofs.Tables.{IsFactsOf, IsSoundHead, head_sound, all_aligned}
use Rattle.fd_checks.proofs.Walked.{IsStatementIn, IsSoundWalk, walk_sound}

in_program : (h : Head) (w : Walk) (s : CheckedStatement) → IsStatementIn h (length w.sites) s → IsStatementOf (resolved_in h w) s
in_program h w (checked.Distribute at decomposition form) is = is
in_program h w (checked.Print at array) is = is
in_program h w (checked.Do at low high inside) is = tt
in_program h w (checked.Forall site) is = is

program_checked : (h : Head) (w : Walk) → IsSoundHead h → IsSoundWalk h w → IsChecked (resolved_in h w)
program_checked h w g v =
    let count : length h.tables.arrays ≡ length h.scope.arrays = zip_length (IsFactsOf h.tables.layouts) h.tables.arrays h.scope.arrays
    g.tables.arrays in
    let few : length h.scope.arrays ≤ 64 = g.scope.few_arrays in
    let few_layouts : length h.scope.layouts ≤ 64 = g.scope.few_layouts in
    let all_layouts : length h.tables.layouts ≤ length h.scope.layouts + length h.scope.arrays = g.tables.count in
    record {
      few_arrays = omega arith;
      few_layouts = omega arith;
      few_sites = v.few;
      layouts = g.tables.layouts;
      arrays = all_aligned h g;
      reads = All-weaker (IsNumber (length h.scope.arrays)) (IsRead h.tables.arrays)
          (λ (z : ℤ) is. record { least = is.0; within = subst (λ n. natural z < n) (sym count) is.1 }) h.scope.reads g.scope.reads;
      reads_apart = g.scope.reads_apart;
      outputs = subst (λ n. All (λ (o : OutputName). o.array < n) h.scope.outputs) (sym count) g.scope.outputs;
      sites = v.sites;
      stamps = v.stamps;
      statements = All-weaker (IsStatementIn h (length w.sites)) (IsStatementOf (resolved_in h w)) (in_program h w) w.statements
          v.statements;
    }

accepted_checked : (p : Program) → AreFilled p → all_faults p ≡ [] → IsChecked (resolved_program p)
accepted_checked p filled none =
    let h = head_of p in
    let walk = along (step (head_of p)) (step_faults (head_of p)) (start (head_of p)) p.statements in
    let g = head_sound p (left_empty (head_faults p) walk none) in
    program_checked h (walked h p) g (walk_sound h g p.statements filled (right_empty (head_faults p) walk none))

pub answered_checked : (p : Program) (r : Result Checked SourceStop) → IsAnswer p r → AreFilled p → IfOk r IsChecked
answered_checked p (Ok c) h filled = subst IsChecked (sym h.0) (accepted_checked p filled h.1)
answered_checked p (Err stop) h filled = tt
