-- The statements of an accepted program, one by one.
use Rattle.std.proofs.Common.{◌≡◌, ◌≢◌, refl, ℕ, zero, suc, ◌≤◌, ◌<◌, ◌+◌, ◌-◌, false, arith, List, [], ◌∷◌, ◌++◌, length, length-append}
use Rattle.std.proofs.Common.{get_or, replicate, Option, Some, ap, sym, ◌∙◌, subst}
use Rattle.std.specs.Prelude.{All, AllPairs, fold, not, is_some, nat_le, unwrap_or}
use Rattle.std.proofs.lemmas.Bool.Decides.{nat_tests}
use Rattle.std.proofs.lemmas.List.Elements.{All-nil, All-push, All-weaker}
use Rattle.std.proofs.lemmas.List.Quantifiers.{all_pairs_push}
use Rattle.fd_words.specs.declared.place.Role.TheVariants as role
use Rattle.fd_words.specs.declared.source.SourceCause.TheVariants as cause
use Rattle.fd_words.specs.declared.source.SourcePlace.{SourcePlace}
use Rattle.fd_syntax.specs.declared.statement.Loop.{Loop}
use Rattle.fd_syntax.specs.declared.statement.Statement.{Statement}
use Rattle.fd_syntax.specs.declared.statement.Statement.TheVariants.{Distribute, Print, Do, Forall}
use Rattle.fd_program.specs.Checks.{IsFormOf, IsSite, AreApart, HaveOwnStamps}
use Rattle.fd_program.specs.Places.{decomposition_of}
use Rattle.fd_program.specs.declared.array.ArrayFacts.{ArrayFacts}
use Rattle.fd_program.specs.declared.checked.CheckedStatement.{CheckedStatement}
use Rattle.fd_program.specs.declared.checked.CheckedStatement.TheVariants as checked
use Rattle.fd_program.specs.declared.reference.Reference.{Reference}
use Rattle.fd_program.specs.declared.site.Site.{Site}
use Rattle.fd_scope.specs.declared.head.Head.{Head}
use Rattle.fd_scope.specs.Faults.{fault_if, along}
use Rattle.fd_resolve.specs.declared.around.Around.{Around}
use Rattle.fd_checks.specs.declared.walk.Open.{Open}
use Rattle.fd_checks.specs.declared.walk.Walk.{Walk}
use Rattle.fd_loops.specs.Bodies.{after_body, body_faults}
use Rattle.fd_loops.specs.Drafts.{start_draft, used_at}
use Rattle.fd_resolve.specs.Resolve.{array_called, array_or_first, array_unknown, scalar_unknowns}
use Rattle.fd_checks.specs.Filled.{IsFilled}
use Rattle.fd_checks.specs.Walks.{around, taken_faults, with_statement, site_of, draft_of, walked_loop, loop_head_faults, loop_faults}
use Rattle.fd_checks.specs.Walks.{after_statement, statement_faults, past_open, step, step_faults, start, distribute_resolved}
use Rattle.fd_checks.proofs.Accepted.{left_empty, right_empty, test_false, not_false, is_some-some, kept_along}
use Rattle.fd_checks.proofs.Distributes.{distribute_sound}
use Rattle.fd_checks.proofs.References.{IsReferred}
use Rattle.fd_checks.proofs.Sites.{draft_sound, site_sound}
use Rattle.fd_checks.proofs.Tables.{IsSoundHead, array_known}

-- a statement of a program with so many loops
abbrev pub IsStatementIn : Head → ℕ → CheckedStatement → Type 0
IsStatementIn h count (checked.Distribute at decomposition form) =
    (decomposition < length h.tables.layouts) × IsFormOf h.tables.arrays h.tables.layouts decomposition form
IsStatementIn h count (checked.Print at array) = array < length h.tables.arrays
IsStatementIn h count (checked.Do at low high inside) = Unit {0}
IsStatementIn h count (checked.Forall site) = site < count

-- so many stamps are used in and before a loop
abbrev pub IsBelow : List ArrayFacts → List ℕ → Site → Type 0
IsBelow arrays used site = All (λ (r : Reference). r.role ≢ role.Index → r.stamp < used_at used (decomposition_of arrays r.array))
    site.references

pub record IsSoundWalk (h : Head) (w : Walk) : Type 0 where
  pub used : length w.used ≡ length h.tables.layouts
  pub few : length w.sites ≤ 128
  pub sites : All (IsSite h.tables.arrays) w.sites
  pub below : All (IsBelow h.tables.arrays w.used) w.sites
  pub stamps : AllPairs (HaveOwnStamps h.tables.arrays) w.sites
  pub statements : All (IsStatementIn h (length w.sites)) w.statements

-- ---- a statement that is no loop

re_sound : (h : Head) (w : Walk) (outer : List Open) (list : List CheckedStatement) → IsSoundWalk h w
    → All (IsStatementIn h (length w.sites)) list → IsSoundWalk h (record w { outer = outer; statements = list })
re_sound h w outer list g all =
    record { used = g.used; few = g.few; sites = g.sites; below = g.below; stamps = g.stamps; statements = all }

with_sound : (h : Head) (w : Walk) (s : CheckedStatement) → IsSoundWalk h w → IsStatementIn h (length w.sites) s
    → IsSoundWalk h (with_statement w s)
with_sound h w s g is =
    re_sound h w w.outer (w.statements ++ s ∷ []) g (All-push (IsStatementIn h (length w.sites)) w.statements s g.statements is)

first_array : (h : Head) → IsSoundHead h → (a : Around) (name : List ℕ) (at : SourcePlace) → array_unknown h a name at ≡ []
    → array_or_first h a name < length h.tables.arrays
first_array h g a name at none =
    from (is_some-some (array_called h a name)
    (not_false (is_some (array_called h a name)) (test_false (not (is_some (array_called h a name))) at
    (cause.Unknown name) none)))
  where
    from : (k : ℕ) × (array_called h a name ≡ Some k) → array_or_first h a name < length h.tables.arrays
    from (k, is) = subst (λ (o : Option ℕ). unwrap_or o 0 < length h.tables.arrays) (sym is) (array_known h g a name k is)

-- ---- a loop

below_128 : (n : ℕ) → nat_le 128 n ≡ false → (n + 1) ≤ 128
below_128 n e = grind (arith, nat_tests)

statement_later : (h : Head) (m n : ℕ) → m ≤ n → (s : CheckedStatement) → IsStatementIn h m s → IsStatementIn h n s
statement_later h m n more (checked.Distribute at decomposition form) is = is
statement_later h m n more (checked.Print at array) is = is
statement_later h m n more (checked.Do at low high inside) is = tt
statement_later h m n more (checked.Forall site) is = omega arith

apart_by : (arrays : List ArrayFacts) (used : List ℕ) (r s : Reference)
    → (r.role ≢ role.Index → r.stamp < used_at used (decomposition_of arrays r.array))
    → (s.role ≢ role.Index → used_at used (decomposition_of arrays s.array) ≤ s.stamp) → AreApart arrays r s
apart_by arrays used r s low high = λ ir is same stamp.
    let l : r.stamp < used_at used (decomposition_of arrays r.array) = low ir in
    let m : used_at used (decomposition_of arrays s.array) ≤ s.stamp = high is in
    let e : used_at used (decomposition_of arrays r.array) ≡ used_at used (decomposition_of arrays s.array) = ap (used_at used) same in
    absurd (omega arith)

loop_sound : (h : Head) → IsSoundHead h → (w : Walk) (loop : Loop) → IsSoundWalk h w → 1 ≤ length loop.body
    → loop_faults h (around w loop.at) w loop ≡ [] → IsSoundWalk h (walked_loop h (around w loop.at) w loop)
loop_sound h head w loop g some none =
    let a = around w loop.at in
    let d = draft_of h a w.used loop in
    let site = site_of h a loop d in
    let fine = right_empty (loop_head_faults h a w loop) (along (after_body h a loop.index) (body_faults h a loop.index)
    (start_draft w.used) loop.body) none in
    let few = test_false (nat_le 128 (length w.sites)) loop.at cause.TooManyLoops
    (left_empty (fault_if (nat_le 128 (length w.sites)) loop.at cause.TooManyLoops) (taken_faults h a loop.index loop.index_at
    ++ (scalar_unknowns h a loop.low ++ scalar_unknowns h a loop.high))
    (left_empty (loop_head_faults h a w loop) (along (after_body h a loop.index) (body_faults h a loop.index) (start_draft w.used)
    loop.body) none)) in
    let room : (length w.sites + 1) ≤ 128 = below_128 (length w.sites) few in
    let sound = draft_sound h head a loop w.used g.used fine in
    let shorter : length w.sites ≤ length (w.sites ++ site ∷ []) = omega (arith, length-append w.sites (site ∷ [])) in
    record {
      used = sound.referred.used ∙ g.used;
      few = omega (arith, length-append w.sites (site ∷ []));
      sites = All-push (IsSite h.tables.arrays) w.sites site g.sites (site_sound h head a loop w.used g.used fine some);
      below = All-push (IsBelow h.tables.arrays d.used) w.sites site
          (All-weaker (IsBelow h.tables.arrays w.used) (IsBelow h.tables.arrays d.used)
          (λ s is. All-weaker (λ (r : Reference). r.role ≢ role.Index
          → r.stamp < used_at w.used (decomposition_of h.tables.arrays r.array)) (λ (r : Reference). r.role ≢ role.Index
          → r.stamp < used_at d.used (decomposition_of h.tables.arrays r.array))
          (λ r low other. let l : r.stamp < used_at w.used (decomposition_of h.tables.arrays r.array) = low other in
          let m : used_at w.used (decomposition_of h.tables.arrays r.array) ≤ used_at d.used (decomposition_of h.tables.arrays r.array) =
          sound.referred.more (decomposition_of h.tables.arrays r.array) in omega arith) s.references is) w.sites g.below)
          (All-weaker (IsReferred h.tables.arrays w.used d.used) (λ (r : Reference). r.role ≢ role.Index
          → r.stamp < used_at d.used (decomposition_of h.tables.arrays r.array)) (λ r is other. (is.new other).high) d.references
          sound.referred.references);
      stamps = all_pairs_push (HaveOwnStamps h.tables.arrays) w.sites site g.stamps
          (λ k s within.
          All-weaker (λ (r : Reference). r.role ≢ role.Index → r.stamp < used_at w.used (decomposition_of h.tables.arrays r.array))
          (λ r. All (AreApart h.tables.arrays r) d.references)
          (λ r low. All-weaker (IsReferred h.tables.arrays w.used d.used) (AreApart h.tables.arrays r)
          (λ s' is. apart_by h.tables.arrays w.used r s' low (λ other. (is.new other).low)) d.references sound.referred.references)
          (get_or w.sites k s).references (g.below k s within));
      statements = All-push (IsStatementIn h (length (w.sites ++ site ∷ []))) w.statements (checked.Forall (length w.sites))
          (All-weaker (IsStatementIn h (length w.sites)) (IsStatementIn h (length (w.sites ++ site ∷ [])))
          (statement_later h (length w.sites) (length (w.sites ++ site ∷ [])) shorter) w.statements g.statements)
          (omega (arith, length-append w.sites (site ∷ [])));
    }

-- ---- all statements

statement_sound : (h : Head) → IsSoundHead h → (w : Walk) (s : Statement) → IsSoundWalk h w → IsFilled s → statement_faults h w s ≡ []
    → IsSoundWalk h (after_statement h w s)
statement_sound h head w (Distribute at name name_at form) g filled none =
    with_sound h w (distribute_resolved h (around w at) at name form) g (distribute_sound h head (around w at) name name_at form none)
statement_sound h head w (Print at name name_at) g filled none =
    with_sound h w (checked.Print at (array_or_first h (around w at) name)) g (first_array h head (around w at) name name_at none)
statement_sound h head w (Do at variable variable_at low high inside) g filled none =
    re_sound h w _ (w.statements ++ _ ∷ []) g (All-push (IsStatementIn h (length w.sites)) w.statements _ g.statements tt)
statement_sound h head w (Forall loop) g filled none = loop_sound h head w loop g filled none

step_sound : (h : Head) → IsSoundHead h → (w : Walk) (s : Statement) → IsSoundWalk h w → IsFilled s → step_faults h w s ≡ []
    → IsSoundWalk h (step h w s)
step_sound h head w s g filled none =
    statement_sound h head (past_open w) s (re_sound h w (past_open w).outer w.statements g g.statements) filled none

start_sound : (h : Head) → IsSoundWalk h (start h)
start_sound h = record {
  used = zeros (length h.tables.layouts);
  few = omega arith;
  sites = All-nil (IsSite h.tables.arrays);
  below = All-nil (IsBelow h.tables.arrays (start h).used);
  stamps = λ i j d before within. absurd (omega arith);
  statements = All-nil (IsStatementIn h 0);
}
  where
    zeros : (n : ℕ) → length {A = ℕ} (replicate n 0) ≡ n
    zeros zero = refl
    zeros (suc n) = ap suc (zeros n)

pub walk_sound : (h : Head) → IsSoundHead h → (list : List Statement) → All IsFilled list → along (step h) (step_faults h) (start h) list
    ≡ [] → IsSoundWalk h (fold (step h) (start h) list)
walk_sound h head list filled none = kept_along (IsSoundWalk h) IsFilled (step h) (step_faults h) (step_sound h head) list (start h)
    (start_sound h) filled none
