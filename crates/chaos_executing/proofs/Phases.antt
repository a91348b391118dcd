-- What the two phases of an execution do in a run.
use Rattle.std.proofs.Common.{◌≡◌, ℕ, ℤ, List, map, ap, sym, subst, ◌∙◌}
use Rattle.fd_program.specs.Layouts.{Scene, loop_at, owners_at, store_at}
use Rattle.fd_program.specs.Loops.{after_loop}
use Rattle.fd_program.specs.Places.{parts_of}
use Rattle.fd_program.specs.Trace.{site_at}
use Rattle.fd_program.specs.declared.loop_facts.LoopFacts.{LoopFacts}
use Rattle.fd_program.specs.declared.trace.LoopTurn.{LoopTurn}
use Rattle.fd_program.specs.declared.trace.Step.{Step}
use Rattle.chaos_hash.specs.Stamps.{Stamps}
use Rattle.chaos_move.specs.Moves.{packed, packed_combined}
use Rattle.chaos_sched.specs.declared.prepared.Prepared.{Prepared}
use Rattle.plan_loop.specs.declared.loop_phase.LoopPhase.TheVariants.{Gather, Scatter}
use Rattle.plan_tables.specs.Tables.{slots_entered}
use Rattle.plan_run.specs.Held.{HasGhosts, no_hand}
use Rattle.chaos_execute.specs.Executed.{IsReady, ghosts_gathered}
use Rattle.chaos_execute.specs.Letters.{HasRows, gathered, after_apply}
use Rattle.chaos_execute.specs.Pending.{pending_of}
use Rattle.chaos_execute.specs.Ready.{AreSmall, CanBeCalled}
use Rattle.chaos_execute.specs.declared.pending.PendingValues.{PendingValues}
use Rattle.chaos_execute.proofs.Given.{scatter_letters}
use Rattle.chaos_execute.proofs.Parts.{parts_after}
use Rattle.chaos_execute.proofs.Ready.{calls_are_met, run_makes_ready}
use Rattle.chaos_executing.specs.Ghosts.{AreStamped, no_ghosts}
use Rattle.chaos_executing.specs.InRun.{CanExecute, IsExecuting, sent_at_loop, owed_at_loop}
use Rattle.chaos_executing.specs.declared.executing.Executing.{Executing}
use Rattle.chaos_executing.proofs.Values.{ghosts_are_values}
use Rattle.chaos_executing.proofs.Known.{extents, small_reads, reads_are_sent}
use Rattle.chaos_executing.proofs.Tables.{slots_apart, ghosts_have_room}

module _ (s : Scene) (past : List Step) (site : ℕ) (turn : LoopTurn) (p : ℕ) (tables : List Stamps) (kept : Prepared) where
  ready : CanExecute s past site turn p tables kept → AreStamped tables
      → IsReady (loop_at s past site turn) (owners_at s past) (store_at s past) (slots_entered (loop_at s past site turn) tables) p kept
      (no_ghosts (loop_at s past site turn) tables)
  ready can stamped =
      let f = loop_at s past site turn in
      run_makes_ready s past site turn (slots_entered f tables) p kept (no_ghosts f tables) can.some_nodes can.checked can.start can.history
      can.steps can.known can.sound
      (slots_apart f tables stamped) can.inspected.fits (ghosts_have_room f tables stamped)

  met : CanExecute s past site turn p tables kept → AreStamped tables → CanBeCalled (loop_at s past site turn) (owners_at s past)
      (store_at s past) p kept
  met can stamped =
      let f = loop_at s past site turn in
      calls_are_met f (owners_at s past) (store_at s past) (slots_entered f tables) p kept (no_ghosts f tables) (ready can stamped)
      (extents s past site turn p tables kept can)

  -- ---- Gather

  pub gather_sends : (pieces lists : List (List ℤ))
      → (AreSmall kept.schedule.gather_send → lists ≡ map (packed pieces) kept.schedule.gather_send)
      → CanExecute s past site turn p tables kept → pieces ≡ parts_of s.checked.arrays (owners_at s past) (store_at s past) p
      → lists ≡ sent_at_loop s past site turn Gather p
  gather_sends pieces lists made can parts =
      made (small_reads s past site turn p tables kept can)
      ∙ ap (λ x. map (packed x) kept.schedule.gather_send) parts
      ∙ reads_are_sent s past site turn p tables kept can

  pub gather_ends : (f : LoopFacts) (pieces taken before ghosts : List (List ℤ)) (pending : PendingValues) → AreStamped tables
      → before ≡ no_ghosts f tables
      → (HasRows taken kept.schedule.gather_fetch → ghosts ≡ gathered taken kept.schedule.gather_fetch before)
      → pending ≡ pending_of f kept pieces ghosts
      → CanExecute s past site turn p tables kept → f ≡ loop_at s past site turn → pieces ≡ parts_of s.checked.arrays (owners_at s past)
      (store_at s past) p
      → taken ≡ owed_at_loop s past site turn Gather p → IsExecuting s past site turn p tables kept
      (record { ghosts = ghosts; pending = pending })
  gather_ends f pieces taken before ghosts pending stamped empty take run can facts parts owed =
      let g = loop_at s past site turn in
      let owners = owners_at s past in
      let store = store_at s past in
      let rows : HasRows taken kept.schedule.gather_fetch = subst (λ t. HasRows t kept.schedule.gather_fetch) (sym owed)
      (met can stamped).gather_in in
      let made : ghosts ≡ ghosts_gathered g owners store p kept (no_ghosts g tables) =
      take rows
      ∙ ap (λ t. gathered t kept.schedule.gather_fetch before) owed
      ∙ ap (gathered (owed_at_loop s past site turn Gather p) kept.schedule.gather_fetch) (empty ∙ ap (λ x. no_ghosts x tables) facts) in
      record {
        can = can;
        stamped = stamped;
        gathered = made;
        pending = run ∙ ap (λ x. pending_of x kept pieces ghosts) facts ∙ ap (λ x. pending_of g kept x ghosts) parts;
        values = subst (λ x. HasGhosts g owners store p tables (record no_hand { ghosts = x })) (sym made)
            (ghosts_are_values g owners store (slots_entered g tables) p kept (no_ghosts g tables) (ready can stamped));
      }

  -- ---- Scatter

  module _ (x : Executing) (h : IsExecuting s past site turn p tables kept x) where
    pending_is : x.pending ≡ pending_of (loop_at s past site turn) kept (parts_of s.checked.arrays (owners_at s past) (store_at s past) p)
        (ghosts_gathered (loop_at s past site turn) (owners_at s past) (store_at s past) p kept
        (no_ghosts (loop_at s past site turn) tables))
    pending_is = h.pending ∙ ap (pending_of (loop_at s past site turn) kept (parts_of s.checked.arrays (owners_at s past)
        (store_at s past) p)) h.gathered

    pub scatter_sends : (lists : List (List ℤ))
        → (AreSmall kept.schedule.scatter_send → lists ≡ map (packed_combined x.pending.ghosts) kept.schedule.scatter_send)
        → lists ≡ sent_at_loop s past site turn Scatter p
    scatter_sends lists made =
        let f = loop_at s past site turn in
        made (met h.can h.stamped).scatter_out
        ∙ ap (λ (v : PendingValues). map (packed_combined v.ghosts) kept.schedule.scatter_send) pending_is
        ∙ scatter_letters f (owners_at s past)
        (store_at s past) (slots_entered f tables) p kept (no_ghosts f tables) (ready h.can h.stamped)

    pub scatter_ends : (taken pieces after : List (List ℤ)) → (HasRows taken kept.schedule.scatter_take
        → after ≡ after_apply kept x.pending taken pieces)
        → pieces ≡ parts_of s.checked.arrays (owners_at s past) (store_at s past) p → taken ≡ owed_at_loop s past site turn Scatter p
        → after ≡ parts_of s.checked.arrays (owners_at s past) (after_loop s.checked.arrays (site_at s.checked.sites site) turn
        (store_at s past)) p
    scatter_ends taken pieces after made parts owed =
        let f = loop_at s past site turn in
        let store = store_at s past in
        let due = owed_at_loop s past site turn Scatter p in
        made (subst (λ t. HasRows t kept.schedule.scatter_take) (sym owed) (met h.can h.stamped).apply)
        ∙ ap (λ t. after_apply kept x.pending t pieces) owed
        ∙ ap (after_apply kept x.pending due) parts
        ∙ ap (λ v. after_apply kept v due (parts_of f.arrays (owners_at s past) store p)) pending_is
        ∙ parts_after f (owners_at s past) store (slots_entered f tables) p kept (no_ghosts f tables) (ready h.can h.stamped)
