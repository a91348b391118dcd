-- In a run each element that an array has stands in its decomposition, where one of the nodes owns it; and each element is small.
use Rattle.std.proofs.Common.{◌≡◌, ℕ, pos, Bool, true, false, ◌==◌, List, [], ◌∷◌, map, Option, None, refl, sym, subst}
use Rattle.std.specs.Prelude.{if◌then◌else◌}
use Rattle.std.specs.List.{AllZip}
use Rattle.std.proofs.lemmas.Option.{none-some}
use Rattle.chaos_dist.specs.Counting.{below}
use Rattle.fd_program.specs.Cells.{Cell}
use Rattle.fd_program.specs.Checks.{IsSite}
use Rattle.fd_program.specs.Homes.{needed_of, given_of, between_nodes}
use Rattle.fd_program.specs.Layouts.{Scene, loop_at, owners_at, store_at}
use Rattle.fd_program.specs.declared.trace.LoopTurn.{LoopTurn}
use Rattle.fd_program.specs.declared.trace.Step.{Step}
use Rattle.chaos_hash.specs.Stamps.{Stamps}
use Rattle.chaos_sched.specs.declared.item.Item.{Item}
use Rattle.chaos_sched.specs.declared.prepared.Prepared.{Prepared}
use Rattle.plan_tables.specs.Fits.{Fits, IsOwn, IsOther}
use Rattle.chaos_execute.specs.Executed.{AreOwned, IsReady}
use Rattle.chaos_execute.proofs.Ready.{run_makes_ready}
use Rattle.chaos_executing.specs.InRun.{CanExecute}

-- an execution without iterations, for which nothing is kept
abbrev no_turn : LoopTurn
no_turn = record { low = pos 1; high = pos 0; adds = []; terms = [] }

abbrev no_items : ℕ → List (List Item)
no_items nodes = map (λ (q : ℕ). []) (below nodes)

abbrev nothing_kept : ℕ → Prepared
nothing_kept nodes = record {
  iterations = [];
  references = [];
  schedule = record {
    gather_send = no_items nodes;
    gather_fetch = no_items nodes;
    scatter_send = no_items nodes;
    scatter_take = no_items nodes;
  };
}

abbrev no_slots : ℕ → ℕ → Option ℕ
no_slots d e = None

none_between : (p q : ℕ) → between_nodes p q [] ≡ []
none_between p q = by (p == q)
  where
    by : (b : Bool) → ◌≡◌ {A = List Cell} (if b then [] else []) []
    by true = refl
    by false = refl

no_item : (R : Cell → Item → Type 0) (cells : ℕ → List Cell) (qs : List ℕ) → ((q : ℕ) → cells q ≡ [])
    → AllZip (λ q items. AllZip R (cells q) items) qs (map (λ (q : ℕ). []) qs)
no_item R cells [] e = tt
no_item R cells (q ∷ qs) e = (subst (λ (xs : List Cell). AllZip R xs []) (sym (e q)) tt, no_item R cells qs e)

module _ (s : Scene) (past : List Step) (site p : ℕ) where
  nothing_fits : Fits (loop_at s past site no_turn) (owners_at s past) (store_at s past) no_slots p (nothing_kept s.nodes)
  nothing_fits =
      let f = loop_at s past site no_turn in
      record {
        iterations = refl;
        references = tt;
        gather_send = no_item (IsOwn f (owners_at s past)) (λ q. needed_of f (owners_at s past) (store_at s past) q p) (below s.nodes)
            (λ q. none_between q p);
        gather_fetch = no_item (IsOther f (owners_at s past) no_slots) (λ q. needed_of f (owners_at s past) (store_at s past) p q)
            (below s.nodes) (λ q. none_between p q);
        scatter_send = no_item (IsOther f (owners_at s past) no_slots) (λ q. given_of f (owners_at s past) (store_at s past) p q)
            (below s.nodes) (λ q. none_between p q);
        scatter_take = no_item (IsOwn f (owners_at s past)) (λ q. given_of f (owners_at s past) (store_at s past) q p) (below s.nodes)
            (λ q. none_between q p);
      }

  module _ (turn : LoopTurn) (tables : List Stamps) (kept : Prepared) (can : CanExecute s past site turn p tables kept) where
    ready_without : IsReady (loop_at s past site no_turn) (owners_at s past) (store_at s past) no_slots p (nothing_kept s.nodes) []
    ready_without =
        run_makes_ready s past site no_turn no_slots p (nothing_kept s.nodes) [] can.some_nodes can.checked can.start can.history
        can.steps can.known refl
        (λ d e g slot h k. absurd (none-some slot h)) nothing_fits (λ array e slot h k. absurd (none-some slot k))

    pub all_owned : AreOwned (loop_at s past site turn) (owners_at s past)
    all_owned = ready_without.owned

    pub is_site : IsSite s.checked.arrays (loop_at s past site turn).site
    is_site = ready_without.site
