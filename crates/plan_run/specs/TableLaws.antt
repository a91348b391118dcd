-- What is kept of each FORALL where tables change: another's inspection is entered, or a DISTRIBUTE drops one.
use Rattle.std.specs.Prelude.{◌≡◌, ◌↔◌, refl, ℕ, ◌+◌, ◌<◌, ◌≤◌, ℤ, pos, Bool, true, false, not, ◌&&◌, ◌||◌, ◌==◌, if◌then◌else◌, cond, List}
use Rattle.std.specs.Prelude.{[], ◌∷◌, length, map, filter, Option, Some, None, IsSomeAnd, MatchBool}
use Rattle.std.specs.List.{AllZip, list_any}
use Rattle.std.specs.Option.{option_map}
use Rattle.std.proofs.Common.{ap, sym, ◌∙◌, subst, arith, inl, inr}
use Rattle.std.proofs.lemmas.Bool.{eqb-true, cases_eq}
use Rattle.chaos_dist.specs.Counting.{below}
use Rattle.chaos_dist.specs.declared.step_form.StepForm.{StepForm}
use Rattle.chaos_hash.specs.Stamps.{Stamps}
use Rattle.chaos_hash.specs.declared.held.Held.{Held as Entry}
use Rattle.fd_program.specs.Cells.{Cell}
use Rattle.fd_program.specs.Homes.{needed_of, given_of}
use Rattle.fd_program.specs.Layouts.{Scene, store_at, owners_at, loop_at}
use Rattle.fd_program.specs.ListLaws.{Among}
use Rattle.fd_program.specs.Past.{version_at, is_repeat, decompositions_of, latest_of}
use Rattle.fd_program.specs.Places.{decomposition_of, stands_at}
use Rattle.fd_program.specs.RecordLaws.{latest_before}
use Rattle.fd_program.specs.RunLaws.{IsBefore}
use Rattle.fd_program.specs.Trace.{site_at}
use Rattle.fd_words.specs.Roles.{is_index}
use Rattle.fd_program.specs.declared.checked.Checked.{Checked}
use Rattle.fd_program.specs.declared.loop_facts.LoopFacts.{LoopFacts}
use Rattle.fd_program.specs.declared.loop_use.Use.{Use}
use Rattle.fd_program.specs.declared.reference.Reference.{Reference}
use Rattle.fd_program.specs.declared.trace.LoopTurn.{LoopTurn}
use Rattle.fd_program.specs.declared.trace.Step.{Step}
use Rattle.fd_program.specs.declared.trace.Step.TheVariants.{Distribute}
use Rattle.plan_tables.specs.Fits.{StandsFor, IsOther, AreItems}
use Rattle.fd_program.specs.Met.{kept_uses}
use Rattle.chaos_sched.specs.declared.item.Item.{Item}
use Rattle.chaos_sched.specs.declared.local_ref.LocalRef.{LocalRef}
use Rattle.chaos_sched.specs.declared.local_ref.LocalRef.TheVariants.{Here, Ghost}
use Rattle.chaos_sched.specs.declared.prepared.Prepared.{Prepared}
use Rattle.plan_tables.specs.Tables.{slots_entered, slot_by, stamps_of, entry_at, HasStamp}
use Rattle.plan_run.specs.Held.{Kept, KeepsLoop, IsInspected, was_moved}
use Rattle.plan_run.specs.KeptLaws.{KeptBy, any_first, any_later, none_in, some_weaker, differ}
use Rattle.plan_run.specs.OwnerLaws.{equals_itself}
use Rattle.plan_run.specs.StandLaws.{IsDropped}
use Rattle.fd_program.specs.AmongLaws.{zip_weaker}

-- ---- statements

-- an inspection of a loop that is right with the tables before is right with those after
abbrev pub StaysInspected : LoopFacts → List Stamps → List Stamps → Type 0
StaysInspected f before after =
    (owners : List (List ℕ)) (store : List (List ℤ)) (p : ℕ) (x : Prepared) → IsInspected f owners store p before x
    → IsInspected f owners store p after x

-- The stamps of a loop stay: an element that has a slot keeps it, and each stamp stands just where it stood.
pub record KeepsStamps (f : LoopFacts) (before after : List Stamps) : Type 0 where
  pub slots : (d e slot : ℕ) → slots_entered f before d e ≡ Some slot → slots_entered f after d e ≡ Some slot
  pub stamps : (d e stamp : ℕ) → Among stamp (stamps_of f d) → HasStamp (entry_at after d e) stamp ↔ HasStamp (entry_at before d e) stamp

-- then an inspection of it stays right
abbrev pub StampsKeepInspections : Type 0
StampsKeepInspections = (f : LoopFacts) (before after : List Stamps) → KeepsStamps f before after → StaysInspected f before after

-- and so does what is kept of the loop
abbrev pub TablesKeepLoops : Type 0
TablesKeepLoops =
    (s : Scene) (past : List Step) (k p : ℕ) (before after : List Stamps) (kept : Option Kept)
    → ((steps : List Step) (turn : LoopTurn) → StaysInspected (loop_at s steps k turn) before after)
    → KeepsLoop s past k p before kept → KeepsLoop s past k p after kept

-- a FORALL has references in a decomposition
abbrev pub is_named_in : Checked → ℕ → ℕ → Bool
is_named_in c k d = list_any (λ e. d == e) (decompositions_of c (site_at c.sites k))

-- a record without its inspection
abbrev pub without_inspection : Kept → Kept
without_inspection x = record { latest = x.latest; prepared = None }

-- what is left of it where the decomposition is moved
abbrev pub left_of_move : Checked → ℕ → ℕ → Option Kept → Option Kept
left_of_move c k d kept = if is_named_in c k d then option_map without_inspection kept else kept

-- over a DISTRIBUTE that isn't a repeat
abbrev pub MoveKeepsLoops : Type 0
MoveKeepsLoops =
    (s : Scene) (past : List Step) (d : ℕ) (form : StepForm) (k p : ℕ) (before after : List Stamps) (kept : Option Kept)
    → d < length s.checked.layouts → is_repeat s.checked past d form ≡ false → IsDropped d before after
    → KeepsLoop s past k p before kept → KeepsLoop s (Distribute d form ∷ past) k p after (left_of_move s.checked k d kept)

-- ---- slots

module _ (f : LoopFacts) (owners : List (List ℕ)) (store : List (List ℤ)) (p : ℕ) (before after : List Stamps)
    (still : KeepsStamps f before after) where
  stands : (u : Use) (l : LocalRef) → StandsFor f owners (slots_entered f before) p u l → StandsFor f owners (slots_entered f after) p u l
  stands u (Here local) h = h
  stands u (Ghost slot) h = (h.0, still.slots (decomposition_of f.arrays u.array) (stands_at f.arrays u.array u.subscript) slot h.1)

  others : (cells : ℕ → List Cell) (lists : List (List Item)) → AreItems f.nodes (IsOther f owners (slots_entered f before)) cells lists
      → AreItems f.nodes (IsOther f owners (slots_entered f after)) cells lists
  others cells lists h =
      zip_weaker (λ q items. AllZip (IsOther f owners (slots_entered f before)) (cells q) items)
      (λ q items. AllZip (IsOther f owners (slots_entered f after)) (cells q) items)
      (λ q items k. zip_weaker (IsOther f owners (slots_entered f before)) (IsOther f owners (slots_entered f after))
      (λ x i it. (it.0, still.slots (decomposition_of f.arrays x.array) (stands_at f.arrays x.array (pos x.element)) i.slot it.1))
      (cells q) items k) (below f.nodes) lists h

  pub still_inspected : (x : Prepared) → IsInspected f owners store p before x → IsInspected f owners store p after x
  still_inspected x h = record {
    fits = record {
      iterations = h.fits.iterations;
      references = zip_weaker (StandsFor f owners (slots_entered f before) p) (StandsFor f owners (slots_entered f after) p) stands
          (kept_uses f store x.iterations) x.references h.fits.references;
      gather_send = h.fits.gather_send;
      gather_fetch = others (λ q. needed_of f owners store p q) x.schedule.gather_fetch h.fits.gather_fetch;
      scatter_send = others (λ q. given_of f owners store p q) x.schedule.scatter_send h.fits.scatter_send;
      scatter_take = h.fits.scatter_take;
    };
    entered = λ d e stamp known.
        let now = still.stamps d e stamp known in
        let told = h.entered d e stamp known in
        (λ a. told.0 (now.0 a), λ b. now.1 (told.1 b));
  }

pub stamps_keep_inspections : StampsKeepInspections
stamps_keep_inspections f before after still owners store p x h = still_inspected f owners store p before after still x h

-- over any change of the tables that keeps the loop's inspections
kept_over : (s : Scene) (past : List Step) (k p : ℕ) (before after : List Stamps) (kept : Option Kept)
    → ((steps : List Step) (turn : LoopTurn) → StaysInspected (loop_at s steps k turn) before after) → (l : Option (LoopTurn × List Step))
    → KeptBy s past k p before kept l → KeptBy s past k p after kept l
kept_over s past k p before after kept still None h = h
kept_over s past k p before after None still (Some l) h = absurd h
kept_over s past k p before after (Some x) still (Some l) h = (h.0, by (was_moved s.checked past l.1 k) h.1)
  where
    f : LoopFacts
    f = loop_at s l.1 k l.0

    by : (b : Bool) → MatchBool b (x.prepared ≡ None) (IsSomeAnd x.prepared (IsInspected f (owners_at s l.1) (store_at s l.1) p before))
        → MatchBool b (x.prepared ≡ None) (IsSomeAnd x.prepared (IsInspected f (owners_at s l.1) (store_at s l.1) p after))
    by true h = h
    by false h =
        some_weaker (IsInspected f (owners_at s l.1) (store_at s l.1) p before) (IsInspected f (owners_at s l.1) (store_at s l.1) p after)
        (still l.1 l.0 (owners_at s l.1) (store_at s l.1) p) x.prepared h

pub tables_keep_loops : TablesKeepLoops
tables_keep_loops s past k p before after kept still h = kept_over s past k p before after kept still (latest_of past k) h

-- ---- a move

no_stamps : (f : LoopFacts) (d : ℕ) (references : List Reference) → list_any (λ (r : Reference). decomposition_of f.arrays r.array == d)
    references ≡ false
    → map (λ (r : Reference). r.stamp) (filter (λ (r : Reference). not (is_index r.role) && (decomposition_of f.arrays r.array == d))
    references) ≡ []
no_stamps f d [] e = refl
no_stamps f d (r ∷ rs) e =
    let both = any_first (decomposition_of f.arrays r.array == d) (list_any (λ (r : Reference). decomposition_of f.arrays r.array == d)
    rs) e in
    let here : (not (is_index r.role) && (decomposition_of f.arrays r.array == d)) ≡ false = none (not (is_index r.role))
    (decomposition_of f.arrays r.array == d) both.0 in
    ap (λ b. map (λ (r : Reference). r.stamp)
    (cond b (r ∷ filter (λ (r : Reference). not (is_index r.role) && (decomposition_of f.arrays r.array == d)) rs)
    (filter (λ (r : Reference). not (is_index r.role) && (decomposition_of f.arrays r.array == d)) rs))) here
    ∙ no_stamps f d rs both.1
  where
    none : (a b : Bool) → b ≡ false → (a && b) ≡ false
    none true b e = e
    none false b e = refl

pub no_slot : (o : Option Entry) (slot : ℕ) → slot_by [] o ≡ Some slot → ⊥
no_slot None slot e = cc
no_slot (Some entry) slot e = cc

-- a loop without references there keeps its stamps
drop_keeps : (f : LoopFacts) (d : ℕ) (before after : List Stamps) → stamps_of f d ≡ [] → IsDropped d before after
    → KeepsStamps f before after
drop_keeps f d before after none dropped = record {
  slots = λ e g slot h. elim (cases_eq d e) [
    | inl same ↦ absurd (no_slot (entry_at before e g) slot (ap (λ l. slot_by l (entry_at before e g))
        (sym (subst (λ n. stamps_of f n ≡ []) same none)) ∙ h))
    | inr other ↦ ap (slot_by (stamps_of f e)) (dropped.others e g other) ∙ h
  ];
  stamps = λ e g stamp known. elim (cases_eq d e) [
    | inl same ↦ absurd (subst (Among stamp) (subst (λ n. stamps_of f n ≡ []) same none) known)
    | inr other ↦ subst (λ o. HasStamp o stamp ↔ HasStamp (entry_at before e g) stamp) (sym (dropped.others e g other)) (λ a. a, λ a. a)
  ];
}

version_grows : (c : Checked) (before past : List Step) (d : ℕ) → IsBefore before past → version_at c before d ≤ version_at c past d
version_grows c before [] d h = let e : version_at c before d ≡ 0 = ap (λ p. version_at c p d) h in omega (arith, e)
version_grows c before (step ∷ past) d (inl e) = let same : version_at c before d ≡ version_at c (step ∷ past) d =
    ap (λ p. version_at c p d) e in omega (arith, same)
version_grows c before (step ∷ past) d (inr h) = omega (arith, version_grows c before past d h)

moved_version : (c : Checked) (past : List Step) (d : ℕ) (form : StepForm) → is_repeat c past d form ≡ false
    → version_at c (Distribute d form ∷ past) d ≡ version_at c past d + 1
moved_version c past d form e =
    ap (λ b. version_at c past d + (if b && not (is_repeat c past d form) then 1 else 0)) (equals_itself d)
    ∙ ap (λ b. version_at c past d + (if not b then 1 else 0)) e

other_version : (c : Checked) (past : List Step) (d e : ℕ) (form : StepForm) → (d == e) ≡ false
    → version_at c (Distribute d form ∷ past) e ≡ version_at c past e
other_version c past d e form other =
    ap (λ b. version_at c past e + (if b && not (is_repeat c past e form) then 1 else 0)) other ∙ omega arith

-- a moved decomposition is found among those of the loop
found_moved : (c : Checked) (past before : List Step) (d : ℕ) (form : StepForm) (ds : List ℕ) → is_repeat c past d form ≡ false
    → IsBefore before past
    → list_any (λ e. d == e) ds ≡ true → list_any (λ e. not (version_at c (Distribute d form ∷ past) e == version_at c before e)) ds ≡ true
found_moved c past before d form [] moves h e = cc
found_moved c past before d form (x ∷ ds) moves h e = by (d == x) refl e (found_moved c past before d form ds moves h)
  where
    here : d ≡ x → not (version_at c (Distribute d form ∷ past) x == version_at c before x) ≡ true
    here same = subst (λ n. not (version_at c (Distribute d form ∷ past) n == version_at c before n) ≡ true) same
        (ap not (differ (version_at c (Distribute d form ∷ past) d) (version_at c before d)
        (λ f. absurd (omega (arith, f, moved_version c past d form moves, version_grows c before past d h)))))

    by : (b : Bool) → (d == x) ≡ b → (b || list_any (λ e. d == e) ds) ≡ true
        → (list_any (λ e. d == e) ds ≡ true → list_any (λ e. not (version_at c (Distribute d form ∷ past) e == version_at c before e)) ds
        ≡ true)
        → (not (version_at c (Distribute d form ∷ past) x == version_at c before x)
        || list_any (λ e. not (version_at c (Distribute d form ∷ past) e == version_at c before e)) ds) ≡ true
    by true same e rest = ap (λ b. b || list_any (λ e. not (version_at c (Distribute d form ∷ past) e == version_at c before e)) ds)
        (here (eqb-true d x same))
    by false same e rest = any_later (not (version_at c (Distribute d form ∷ past) x == version_at c before x))
        (list_any (λ e. not (version_at c (Distribute d form ∷ past) e == version_at c before e)) ds) (rest e)

-- and where it isn't one of them, no other is
same_moved : (c : Checked) (past before : List Step) (d : ℕ) (form : StepForm) (ds : List ℕ) → list_any (λ e. d == e) ds ≡ false
    → list_any (λ e. not (version_at c (Distribute d form ∷ past) e == version_at c before e)) ds
    ≡ list_any (λ e. not (version_at c past e == version_at c before e)) ds
same_moved c past before d form [] e = refl
same_moved c past before d form (x ∷ ds) e =
    let both = any_first (d == x) (list_any (λ e. d == e) ds) e in
    ap (λ n. not (n == version_at c before x) || list_any (λ e. not (version_at c (Distribute d form ∷ past) e == version_at c before e))
    ds) (other_version c past d x form both.0)
    ∙ ap (λ b. not (version_at c past x == version_at c before x) || b) (same_moved c past before d form ds both.1)

pub move_keeps_loops : MoveKeepsLoops
move_keeps_loops s past d form k p before after kept there moves dropped h = by (is_named_in s.checked k d) refl
  where
    given_up : (l : Option (LoopTurn × List Step)) (kept : Option Kept) → latest_of past k ≡ l → is_named_in s.checked k d ≡ true
        → KeptBy s past k p before kept l
        → KeptBy s (Distribute d form ∷ past) k p after (option_map without_inspection kept) l
    given_up None None e named h = refl
    given_up None (Some x) e named h = cc
    given_up (Some l) None e named h = absurd h
    given_up (Some l) (Some x) e named h = (
      h.0,
      subst (λ b. MatchBool b ((without_inspection x).prepared ≡ None) (IsSomeAnd (without_inspection x).prepared
          (IsInspected (loop_at s l.1 k l.0) (owners_at s l.1) (store_at s l.1) p after)))
          (sym (found_moved s.checked past l.1 d form (decompositions_of s.checked (site_at s.checked.sites k)) moves
          (latest_before past k l.0 l.1 e) named)) refl,
    )

    unnamed : is_named_in s.checked k d ≡ false → list_any (λ (r : Reference). decomposition_of s.checked.arrays r.array == d)
        (site_at s.checked.sites k).references ≡ false
    unnamed e = each (list_any (λ (r : Reference). decomposition_of s.checked.arrays r.array == d) (site_at s.checked.sites k).references)
        refl
      where
        each : (b : Bool) → list_any (λ (r : Reference). decomposition_of s.checked.arrays r.array == d)
            (site_at s.checked.sites k).references ≡ b
            → list_any (λ (r : Reference). decomposition_of s.checked.arrays r.array == d) (site_at s.checked.sites k).references ≡ false
        each false f = f
        each true f =
            let no : (d == d) ≡ false = none_in (λ e. d == e)
            (λ e. list_any (λ (r : Reference). decomposition_of s.checked.arrays r.array == e) (site_at s.checked.sites k).references)
            0 (length s.checked.layouts) d e (omega arith) (omega (arith, there)) f in
            let yes_it : (d == d) ≡ true = equals_itself d in
            cc

    stays : (l : Option (LoopTurn × List Step)) (kept : Option Kept) → is_named_in s.checked k d ≡ false → KeptBy s past k p after kept l
        → KeptBy s (Distribute d form ∷ past) k p after kept l
    stays None kept e h = h
    stays (Some l) None e h = absurd h
    stays (Some l) (Some x) e h = (
      h.0,
      subst (λ b. MatchBool b (x.prepared ≡ None)
          (IsSomeAnd x.prepared (IsInspected (loop_at s l.1 k l.0) (owners_at s l.1) (store_at s l.1) p after)))
          (sym (same_moved s.checked past l.1 d form (decompositions_of s.checked (site_at s.checked.sites k)) e)) h.1,
    )

    by : (b : Bool) → is_named_in s.checked k d ≡ b → KeepsLoop s (Distribute d form ∷ past) k p after
        (if b then option_map without_inspection kept else kept)
    by true e = given_up (latest_of past k) kept refl e h
    by false e =
        stays (latest_of past k) kept e
        (kept_over s past k p before after kept (λ steps turn.
        stamps_keep_inspections (loop_at s steps k turn) before after
        (drop_keeps (loop_at s steps k turn) d before after (no_stamps (loop_at s steps k turn) d (site_at s.checked.sites k).references
        (unnamed e)) dropped)) (latest_of past k) h)
