-- While one FORALL is inspected, inspections of the others stay right.
use Rattle.std.specs.Prelude.{◌≡◌, ◌≢◌, refl, ℕ, zero, suc, ◌<◌, List, [], ◌∷◌, length, slice_get, unwrap_or, All, Option, Some, None}
use Rattle.std.proofs.Common.{sym, subst, arith, inl, inr}
use Rattle.std.proofs.lemmas.Bool.{cases_lt}
use Rattle.std.proofs.lemmas.List.Elements.{recursion_from_All, All-from_recursion}
use Rattle.chaos_hash.specs.Stamps.{Stamps}
use Rattle.plan_tables.specs.Laws.{IsPreparedBeside, GoesOnFitting, StaysEntered}
use Rattle.plan_tables.specs.Tables.{entry_at, KeepsOtherStamps}
use Rattle.fd_program.specs.Checks.{IsChecked, IsSite, AreApart, HaveOwnStamps}
use Rattle.fd_program.specs.Layouts.{Scene, layouts_at, loop_at}
use Rattle.fd_program.specs.ListLaws.{PairsByRecursion, pairs_from_AllPairs, all_at}
use Rattle.fd_program.specs.Trace.{site_at, no_site}
use Rattle.fd_program.specs.declared.array.ArrayFacts.{ArrayFacts}
use Rattle.fd_program.specs.declared.loop_facts.LoopFacts.{LoopFacts}
use Rattle.fd_program.specs.declared.reference.Reference.{Reference}
use Rattle.fd_program.specs.declared.site.Site.{Site}
use Rattle.fd_program.specs.declared.trace.LoopTurn.{LoopTurn}
use Rattle.fd_program.specs.declared.trace.Step.{Step}
use Rattle.plan_run.specs.InspectionLaws.{OthersStayInspected}
use Rattle.fd_program.specs.RecordLaws.{each_place}
use Rattle.plan_run.specs.OwnerLaws.{there_is}
use Rattle.plan_run.specs.TableLaws.{StaysInspected, stamps_keep_inspections, no_slot}

-- where the tables changed for one FORALL of a checked program alone
abbrev pub OthersStayPrepared : Type 0
OthersStayPrepared =
    (s : Scene) (past : List Step) (site : ℕ) (turn : LoopTurn) (before after : List Stamps) → IsChecked s.checked
    → site < length s.checked.sites
    → KeepsOtherStamps (loop_at s past site turn) before after → OthersStayInspected s site before after

-- ---- stamps of two FORALLs

pair_at : {A : Type 0} (R : A → A → Type 0) (xs : List A) (i j : ℕ) (x y : A) → PairsByRecursion R xs → i < j → slice_get xs i ≡ Some x
    → slice_get xs j ≡ Some y → R x y
pair_at R [] i j x y h less e f = cc
pair_at R (z ∷ zs) zero zero x y h less e f = absurd (omega (arith, less))
pair_at R (z ∷ zs) zero (suc j) x y h less e f = let same : z ≡ x = cc in subst (λ w. R w y) same (all_at (R z) zs j y h.0 f)
pair_at R (z ∷ zs) (suc i) zero x y h less e f = absurd (omega (arith, less))
pair_at R (z ∷ zs) (suc i) (suc j) x y h less e f = pair_at R zs i j x y h.1 (omega (arith, less)) e f

turned : (arrays : List ArrayFacts) (x y : Site) → HaveOwnStamps arrays y x → HaveOwnStamps arrays x y
turned arrays x y h =
    All-from_recursion (λ r. All (AreApart arrays r) y.references) x.references
    (each_place (λ (r : Reference). All (AreApart arrays r) y.references) x.references (λ k r e.
    All-from_recursion (AreApart arrays r) y.references
    (each_place (AreApart arrays r) y.references (λ j q f.
    let of_q = all_at (λ (q : Reference). All (AreApart arrays q) x.references) y.references j q
    (recursion_from_All (λ (q : Reference). All (AreApart arrays q) x.references) y.references h) f in
    let it = all_at (AreApart arrays q) x.references k r (recursion_from_All (AreApart arrays q) x.references of_q) e in
    λ a b d same. it b a (sym d) (sym same)))))

own_stamps : (s : Scene) (k site : ℕ) (x y : Site) → IsChecked s.checked → site ≢ k → slice_get s.checked.sites k ≡ Some x
    → slice_get s.checked.sites site ≡ Some y
    → HaveOwnStamps s.checked.arrays x y
own_stamps s k site x y known other e f =
    let pairs = pairs_from_AllPairs (HaveOwnStamps s.checked.arrays) s.checked.sites known.stamps in
    elim (cases_lt k site) [
      | inl less ↦ pair_at (HaveOwnStamps s.checked.arrays) s.checked.sites k site x y pairs less e f
      | inr more ↦ elim (cases_lt site k) [
        | inl less ↦ turned s.checked.arrays x y (pair_at (HaveOwnStamps s.checked.arrays) s.checked.sites site k y x pairs less f e)
        | inr same ↦ absurd (other (omega (arith, more, same)))
      ]
    ]

-- ---- the law

-- the facts of an execution with this FORALL
abbrev with_site : Scene → List Step → LoopTurn → Site → LoopFacts
with_site s steps turn site =
    record { arrays = s.checked.arrays; site = site; turn = turn; layouts = layouts_at s.checked steps; nodes = s.nodes; rule = s.rule }

pub others_stay_prepared : GoesOnFitting → StaysEntered → OthersStayPrepared
others_stay_prepared fitting entering s past site turn before after known there stamps k other steps now =
    by (slice_get s.checked.sites k) refl
  where
    by : (o : Option Site) → slice_get s.checked.sites k ≡ o → StaysInspected (with_site s steps now (site_at s.checked.sites k)) before
        after
    by None e =
        subst (λ (o : Option Site). StaysInspected (with_site s steps now (unwrap_or o no_site)) before after) (sym e)
        (stamps_keep_inspections (with_site s steps now no_site) before after
        (record { slots = λ d e slot h. absurd (no_slot (entry_at before d e) slot h); stamps = λ d e stamp a. absurd a }))
    by (Some x) e =
        let found = there_is s.checked.sites site there in
        let beside : IsPreparedBeside (with_site s steps now x) (loop_at s past site turn) before after = record {
          site = all_at (IsSite s.checked.arrays) s.checked.sites k x (recursion_from_All (IsSite s.checked.arrays) s.checked.sites
              known.sites) e;
          arrays = refl;
          stamps = subst (λ (o : Option Site). HaveOwnStamps s.checked.arrays x (unwrap_or o no_site)) (sym found.1)
              (own_stamps s k site x found.0 known other e found.1);
          keeps = stamps;
        } in
        subst (λ (o : Option Site). StaysInspected (with_site s steps now (unwrap_or o no_site)) before after) (sym e)
        (λ owners store p kept h. record {
          fits = fitting (with_site s steps now x) (loop_at s past site turn) owners store p before after kept beside h.fits;
          entered = entering (with_site s steps now x) (loop_at s past site turn) owners store p before after beside h.entered;
        })
