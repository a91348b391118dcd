-- What a node holds at the start of a run, and over a PRINT.
use Rattle.std.specs.Prelude.{◌≡◌, refl, ℕ, zero, suc, ◌+◌, pos, Bool, not, ◌||◌, ◌==◌, List, [], ◌∷◌, length, map, slice_get, unwrap_or}
use Rattle.std.specs.Prelude.{Option, Some, None, IsSomeAnd, MatchOption, MatchBool}
use Rattle.std.specs.FinMap as fin
use Rattle.std.specs.List.{AllZip, list_any}
use Rattle.std.specs.Ordering.{nat_cmp}
use Rattle.std.proofs.Common.{ap, sym, ◌∙◌, subst, arith, append-nil}
use Rattle.fd_words.specs.Lists.{list_at}
use Rattle.chaos_dist.specs.Counting.{below}
use Rattle.chaos_hash.specs.Stamps.{Stamps}
use Rattle.chaos_hash.specs.declared.held.Held.{Held as Entry}
use Rattle.chaos_records.specs.Keeping.{no_records, first_setting, setting_of, setting_at}
use Rattle.chaos_records.specs.Numbering.{same_map, replicate_map}
use Rattle.fd_program.specs.Layouts.{Scene, store_at, owners_at, loop_at}
use Rattle.fd_program.specs.Past.{form_set, form_at, version_at, decompositions_of, record_at, latest_of, inspecting_of}
use Rattle.fd_program.specs.Places.{parts_of}
use Rattle.fd_program.specs.Reports.{count_at, no_count, plus_count}
use Rattle.fd_program.specs.RunLaws.{IsReached, reached_next}
use Rattle.fd_program.specs.Trace.{site_at}
use Rattle.fd_program.specs.declared.checked.Checked.{Checked}
use Rattle.fd_program.specs.declared.count.SiteCount.{SiteCount}
use Rattle.fd_program.specs.declared.trace.LoopTurn.{LoopTurn}
use Rattle.fd_program.specs.declared.trace.Step.{Step}
use Rattle.fd_program.specs.declared.trace.Step.TheVariants.{Print}
use Rattle.chaos_sched.specs.declared.prepared.Prepared.{Prepared}
use Rattle.plan_run.specs.Held.{Held, no_table, entry_at, Kept, Stands, HasPage, KeepsLoop, KeepsInspection, IsInspected, was_moved}
use Rattle.plan_run.specs.Held.{elements_held, no_hand}

-- ---- the start

-- the local parts, and nothing else
abbrev pub at_start : Scene → ℕ → Held
at_start s p = record {
  parts = parts_of s.checked.arrays (owners_at s []) (store_at s []) p;
  elements = elements_held (owners_at s []) p;
  records = no_records (length s.checked.arrays) (length s.checked.layouts);
  pages = map (λ d. None) (below (length s.checked.layouts));
  kept = map (λ k. None) (below (length s.checked.sites));
  counts = map (λ k. no_count) (below (length s.checked.sites));
  tables = [];
  inspected = [];
  text = [];
  refused = None;
  own = [];
  hand = no_hand;
}

abbrev pub StartStands : Type 0
StartStands = (s : Scene) (p : ℕ) → Stands s [] p (at_start s p)

each_none : {A B : Type 0} (P : A → Option B → Type 0) → ((x : A) → P x None) → (xs : List A) → AllZip P xs (map (λ x. None) xs)
each_none P h [] = tt
each_none P h (x ∷ xs) = (h x, each_none P h xs)

abbrev no_tables : List Stamps
no_tables = []

no_table_at : (d : ℕ) → slice_get no_tables d ≡ None
no_table_at zero = refl
no_table_at (suc d) = refl

none_is : (entry : Entry) (o : Option Entry) → o ≡ None → o ≡ Some entry → ⊥
none_is entry None e h = cc
none_is entry (Some other) e h = cc

no_entry : (d e : ℕ) → entry_at no_tables d e ≡ None
no_entry d e = ap (λ (o : Option Stamps). fin.get (unwrap_or o no_table).held e) (no_table_at d) ∙ fin.get-empty nat_cmp e

pub start_stands : StartStands
start_stands s p = record {
  parts = refl;
  elements = refl;
  records = record {
    changes = replicate_map (pos 0) 0 (length s.checked.arrays);
    settings = replicate_map first_setting 0
        (length s.checked.layouts);
  };
  pages = each_none (λ d page. HasPage s.nodes p (form_at [] d) (list_at (owners_at s []) d) page) (λ d. refl)
      (below (length s.checked.layouts));
  counts = refl;
  places = λ d e entry h. absurd (none_is entry (entry_at no_tables d e) (no_entry d e) h);
}

-- ---- a PRINT

no_more : (n : ℕ) → n ≡ n + 0
no_more n = omega arith

pub same_count : (n : SiteCount) → n ≡ plus_count n no_count
same_count n = by n.executed n.inspected n.gathered n.scattered
  where
    by : (a b c d : ℕ) → (let x : SiteCount = record { executed = a; inspected = b; gathered = c; scattered = d } in x)
        ≡ plus_count (record { executed = a; inspected = b; gathered = c; scattered = d }) no_count
    by a b c d =
        ap (λ z. let x : SiteCount = record { executed = z; inspected = b; gathered = c; scattered = d } in x) (no_more a)
        ∙ ap (λ z. let x : SiteCount = record { executed = a + 0; inspected = z; gathered = c; scattered = d } in x) (no_more b)
        ∙ ap (λ z. let x : SiteCount = record { executed = a + 0; inspected = b + 0; gathered = z; scattered = d } in x) (no_more c)
        ∙ ap (λ z. let x : SiteCount = record { executed = a + 0; inspected = b + 0; gathered = c + 0; scattered = z } in x) (no_more d)

-- it leaves the store as it is
abbrev pub PrintLeavesStore : Type 0
PrintLeavesStore = (s : Scene) (past : List Step) (array : ℕ) (rest : List Step) → IsReached s past (Print array ∷ rest)
    → (store_at s (Print array ∷ past) ≡ store_at s past) × IsReached s (Print array ∷ past) rest

pub print_leaves_store : PrintLeavesStore
print_leaves_store s past array rest here = reached_next s past (Print array) rest here refl

-- and whatever the steps tell
abbrev pub PrintStands : Type 0
PrintStands = (s : Scene) (past : List Step) (array p : ℕ) (v : Held) → store_at s (Print array ∷ past) ≡ store_at s past
    → Stands s past p v → Stands s (Print array ∷ past) p v

pub print_stands : PrintStands
print_stands s past array p v same h = record {
  parts = h.parts ∙ ap (λ store. parts_of s.checked.arrays (owners_at s past) store p) (sym same);
  elements = h.elements;
  records = record {
    changes = h.records.changes;
    settings = h.records.settings
        ∙ same_map (setting_at s.checked past) (setting_at s.checked (Print array ∷ past)) 0 (length s.checked.layouts)
        (λ d low high. ap (setting_of s.checked (form_set past d)) (no_more (version_at s.checked past d)));
  };
  pages = h.pages;
  counts = h.counts
      ∙ same_map (count_at s past p) (count_at s (Print array ∷ past) p) 0 (length s.checked.sites)
      (λ k low high. same_count (count_at s past p k));
  places = h.places;
}

any_same : {A : Type 0} (f g : A → Bool) → ((x : A) → f x ≡ g x) → (xs : List A) → list_any f xs ≡ list_any g xs
any_same f g same [] = refl
any_same f g same (x ∷ xs) = ap (λ b. b || list_any f xs) (same x) ∙ ap (λ b. g x || b) (any_same f g same xs)

moved_same : (c : Checked) (past before : List Step) (k array : ℕ) → was_moved c past before k ≡ was_moved c (Print array ∷ past) before k
moved_same c past before k array =
    any_same (λ d. not (version_at c past d == version_at c before d))
    (λ d. not (version_at c (Print array ∷ past) d == version_at c before d))
    (λ d. ap (λ n. not (n == version_at c before d)) (no_more (version_at c past d))) (decompositions_of c (site_at c.sites k))

-- and what is kept of the FORALLs
abbrev pub PrintKeepsLoops : Type 0
PrintKeepsLoops = (s : Scene) (past : List Step) (array k p : ℕ) (tables : List Stamps) (kept : Option Kept)
    → KeepsLoop s past k p tables kept → KeepsLoop s (Print array ∷ past) k p tables kept

pub print_keeps_loops : PrintKeepsLoops
print_keeps_loops s past array k p tables kept h = by (latest_of past k) kept h
  where
    inspection : (turn : LoopTurn) (before : List Step) (prepared : Option Prepared)
        → KeepsInspection s past before k turn p tables prepared
        → KeepsInspection s (Print array ∷ past) before k turn p tables prepared
    inspection turn before prepared h =
        subst (λ b. MatchBool b (prepared ≡ None)
        (IsSomeAnd prepared (IsInspected (loop_at s before k turn) (owners_at s before) (store_at s before) p tables)))
        (moved_same s.checked past before k array) h

    by : (latest : Option (LoopTurn × List Step)) (kept : Option Kept)
        → MatchOption latest (kept ≡ None) (λ l. IsSomeAnd kept (λ x. (x.latest ≡ record_at s.checked l.1 k l.0)
        × KeepsInspection s past l.1 k l.0 p tables x.prepared))
        → MatchOption latest (kept ≡ None) (λ l. IsSomeAnd kept (λ x. (x.latest ≡ record_at s.checked l.1 k l.0)
        × KeepsInspection s (Print array ∷ past) l.1 k l.0 p tables x.prepared))
    by None kept h = h
    by (Some l) None h = absurd h
    by (Some l) (Some x) h = (h.0, inspection l.0 l.1 x.prepared h.1)

-- and the executions that inspected
pub print_inspects : (c : Checked) (past : List Step) (array : ℕ) → inspecting_of c (Print array ∷ past) ≡ inspecting_of c past
print_inspects c past array = append-nil (inspecting_of c past)
