-- What is kept of the loops, and whether an execution inspects.
use Rattle.std.proofs.Common.{◌≡◌, refl, ℕ, zero, suc, ◌+◌, ◌<◌, Bool, true, false, List, [], ◌∷◌, length, Option, Some, None, ap, sym}
use Rattle.std.proofs.Common.{subst, ◌∙◌, arith}
use Rattle.std.specs.Prelude.{IsSomeAnd, MatchOption, if◌then◌else◌, not, ◌&&◌, slice_get}
use Rattle.std.specs.List.{AllZip, range_with_len}
use Rattle.std.specs.Option.{option_map, option_and_then}
use Rattle.chaos_dist.specs.Counting.{below}
use Rattle.chaos_facts.proofs.Exact.{facts_are_exact}
use Rattle.chaos_facts.proofs.Owned.{run_has_owners}
use Rattle.chaos_facts.specs.Facts.{facts_in}
use Rattle.inspect_uses.specs.Accepted.{AreOwners}
use Rattle.chaos_records.proofs.Kept.{inspections_are_known, records_are_exact}
use Rattle.chaos_records.specs.Keeping.{Keeps, differs, record_in}
use Rattle.plan_run.specs.Held.{Held, KeepsLatest, KeepsLoop}
use Rattle.fd_program.specs.AmongLaws.{zip_weaker}
use Rattle.plan_run.specs.declared.kept.Kept.{Kept}
use Rattle.fd_program.specs.Layouts.{Scene, loop_at, owners_at}
use Rattle.fd_program.specs.Past.{inspects_at, latest_of, record_at}
use Rattle.fd_program.specs.Trace.{is_empty_turn}
use Rattle.fd_program.specs.declared.checked.Checked.{Checked}
use Rattle.fd_program.specs.declared.loop_facts.LoopFacts.{LoopFacts}
use Rattle.fd_program.specs.declared.trace.LoopTurn.{LoopTurn}
use Rattle.fd_program.specs.declared.trace.Step.{Step}
use Rattle.fd_program.specs.declared.trace.Step.TheVariants.{Forall}
use Rattle.chaos_begin.specs.Begins.{BeginsInspection, BeginsLoop, HasLatest, IsBetween, IsLoopAt, LatestAreKept, latest_in, latest_kept}
use Rattle.chaos_begin.specs.BeginsLaws.{KeptAreLatest, StagesAreBegun}
use Rattle.chaos_begin.specs.declared.begun.Begun.TheVariants as begun
use Rattle.plan_run.specs.Phases.{loop_stages, moving_stages, stages_of}
use Rattle.chaos_begin.specs.declared.between.Between.{Between}

pub kept_are_latest : KeptAreLatest
kept_are_latest s past p tables kept h =
    zip_weaker (λ k x. KeepsLoop s past k p tables x) (HasLatest s.checked past) (λ k x held. by k (latest_of past k) x held)
    (below (length s.checked.sites)) kept h
  where
    by : (k : ℕ) (o : Option (LoopTurn × List Step)) (x : Option Kept)
        → MatchOption o (x ≡ None) (λ latest. IsSomeAnd x (KeepsLatest s past k p tables latest))
        → latest_kept x ≡ option_map (λ (latest, before). record_at s.checked before k latest) o
    by k None x h = ap latest_kept h
    by k (Some (turn, before)) None h = absurd h
    by k (Some (turn, before)) (Some x) h = ap Some h.0

-- the one of a FORALL
kept_at : {B : Type 0} (P : ℕ → B → Type 0) (a n k : ℕ) (ys : List B) → k < n → AllZip P (range_with_len a n) ys → (y : B)
    × (slice_get ys k ≡ Some y) × P (a + k) y
kept_at P a zero k ys less h = absurd (omega (arith, less))
kept_at P a (suc n) k [] less h = absurd h
kept_at P a (suc n) zero (y ∷ ys) less h =
    let nought : a ≡ a + zero = omega arith in (y, refl, subst (λ d. P d y) nought h.0)
kept_at P a (suc n) (suc k) (y ∷ ys) less h =
    let later : a + 1 + k ≡ a + suc k = omega arith in
    let found = kept_at P (a + 1) n k ys (omega (arith, less)) h.1 in (found.0, found.1, subst (λ d. P d found.0) later found.2)

latest_found : (c : Checked) (past : List Step) (kept : List (Option Kept)) (k : ℕ) → LatestAreKept c past kept → k < length c.sites
    → latest_in kept k ≡ option_map (λ (latest, before). record_at c before k latest) (latest_of past k)
latest_found c past kept k h less =
    let found = kept_at (HasLatest c past) 0 (length c.sites) k kept less h in
    let nought : 0 + k ≡ k = omega arith in
    ap (λ o. option_and_then latest_kept o) found.1 ∙ subst (λ d. HasLatest c past d found.0) nought found.2

-- whether an execution inspects is known by what is kept
pub inspects_known : (s : Scene) (past : List Step) (v : Held) (b : Between) (site : ℕ) (turn : LoopTurn) → IsBetween s past v b
    → site < length s.checked.sites → is_empty_turn turn ≡ false
    → differs (record_in b.records.now b.checked.now site turn) (latest_in b.kept.now site) ≡ inspects_at s.checked past site turn
inspects_known s past v b site turn h less some =
    let c = s.checked in
    let keeps : Keeps c past b.records.now = subst (Keeps c past) h.records h.stands.records in
    ap (λ c. differs (record_in b.records.now c site turn) (latest_in b.kept.now site)) (sym h.checked)
    ∙ ap (λ r. differs r (latest_in b.kept.now site)) (records_are_exact c past site turn b.records.now keeps)
    ∙ ap (differs (record_at c past site turn)) (latest_found c past b.kept.now site h.kept less)
    ∙ ap (λ e. not e && differs (record_at c past site turn) (option_map (λ (latest, before). record_at c before site latest)
    (latest_of past site))) (sym some)
    ∙ sym (inspections_are_known c past site turn)

-- ---- what a FORALL begins with

facts_known : (s : Scene) (past : List Step) (v : Held) (b : Between) (site : ℕ) (turn : LoopTurn) → IsBetween s past v b
    → facts_in b.checked.now b.nodes b.rule b.records.now site turn ≡ loop_at s past site turn
facts_known s past v b site turn h =
    let r = b.records.now in
    let keeps : Keeps s.checked past r = subst (Keeps s.checked past) h.records h.stands.records in
    ap (λ c. facts_in c b.nodes b.rule r site turn) (sym h.checked)
    ∙ ap (λ n. facts_in s.checked n b.rule r site turn) (sym h.nodes)
    ∙ ap (λ rule. facts_in s.checked s.nodes rule r site turn) (sym h.rule)
    ∙ facts_are_exact s.checked s.nodes s.rule past r site turn h.run.steps keeps

pub inspection_begins : (s : Scene) (past : List Step) (v : Held) (b : Between) (site : ℕ) (turn : LoopTurn) (does : Bool) (f : LoopFacts)
    → IsBetween s past v b
    → f ≡ facts_in b.checked.now b.nodes b.rule b.records.now site turn → does ≡ true → IsLoopAt s past site turn does
    → BeginsInspection s past (Forall site turn) f
inspection_begins s past v b site turn does f h e is at =
    let same = e ∙ facts_known s past v b site turn h in
    record {
      loop = record { site = site; turn = turn; is = refl; at = subst (IsLoopAt s past site turn) is at };
      facts = same;
      owners = subst (λ f. AreOwners f (owners_at s past)) (sym same) (run_has_owners s past site turn h.run);
    }

pub execution_begins : (s : Scene) (past : List Step) (site : ℕ) (turn : LoopTurn) (does : Bool) → does ≡ false
    → IsLoopAt s past site turn does → BeginsLoop s past (Forall site turn) false
execution_begins s past site turn does is at = record { site = site; turn = turn; is = refl; at = subst (IsLoopAt s past site turn) is at }

pub loop_is_at : (s : Scene) (past : List Step) (v : Held) (b : Between) (site : ℕ) (turn : LoopTurn) (does : Bool) → IsBetween s past v b
    → site < length s.checked.sites → is_empty_turn turn ≡ false
    → does ≡ differs (record_in b.records.now b.checked.now site turn) (latest_in b.kept.now site) → IsLoopAt s past site turn does
loop_is_at s past v b site turn does h less some is = record {
  there = less;
  some = some;
  inspects = sym (is ∙ inspects_known s past v b site turn h less some);
}

-- ---- stages

pub stages_are_begun : StagesAreBegun
stages_are_begun s past step p (begun.Print array) h = ap (stages_of s.checked s.nodes s.rule past) h
stages_are_begun s past step p (begun.Move m) h =
    ap (stages_of s.checked s.nodes s.rule past) h.is
    ∙ ap (λ is. if is then [] else moving_stages h.form) h.moves
    ∙ sym h.begins.stages
stages_are_begun s past step p (begun.Inspect f) h =
    let at = loop_at s past h.loop.site h.loop.turn in
    ap (stages_of s.checked s.nodes s.rule past) h.loop.is
    ∙ ap (λ is. if is then [] else loop_stages at (inspects_at s.checked past h.loop.site h.loop.turn)) h.loop.at.some
    ∙ ap (loop_stages at) h.loop.at.inspects
    ∙ ap (λ f. loop_stages f true) (sym h.facts)
stages_are_begun s past step p begun.Execute h =
    let at = loop_at s past h.site h.turn in
    ap (stages_of s.checked s.nodes s.rule past) h.is
    ∙ ap (λ is. if is then [] else loop_stages at (inspects_at s.checked past h.site h.turn)) h.at.some
    ∙ ap (loop_stages at) h.at.inspects
