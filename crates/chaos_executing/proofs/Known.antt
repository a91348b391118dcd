-- What a node's parts give a Gather letter, and that each of its elements can stand in it.
use Rattle.std.proofs.Common.{◌≡◌, ℕ, ◌^◌, ◌<◌, pos, List, map, ap, sym, subst, ◌∙◌}
use Rattle.std.specs.Prelude.{All}
use Rattle.std.specs.List.{AllZip}
use Rattle.std.proofs.lemmas.List.Elements.{All-from_recursion}
use Rattle.chaos_dist.specs.Counting.{below}
use Rattle.fd_program.specs.Cells.{Cell}
use Rattle.fd_program.specs.Checks.{IsExtent}
use Rattle.fd_program.specs.Homes.{cells_of, needed_of}
use Rattle.fd_program.specs.Layouts.{Scene, loop_at, owners_at, store_at}
use Rattle.fd_program.specs.ListLaws.{Among}
use Rattle.fd_program.specs.Places.{parts_of}
use Rattle.fd_program.specs.Stores.{array_at}
use Rattle.fd_words.specs.Roles.{is_read}
use Rattle.fd_program.specs.declared.array.ArrayFacts.{ArrayFacts}
use Rattle.fd_program.specs.declared.trace.LoopTurn.{LoopTurn}
use Rattle.fd_program.specs.declared.trace.Step.{Step}
use Rattle.chaos_hash.specs.Stamps.{Stamps}
use Rattle.chaos_move.specs.Moves.{value_at, packed}
use Rattle.chaos_sched.specs.declared.prepared.Prepared.{Prepared}
use Rattle.plan_tables.specs.Fits.{IsOwn}
use Rattle.plan_loop.specs.LoopLetters.{value_before, sent_in}
use Rattle.plan_loop.specs.declared.loop_phase.LoopPhase.TheVariants.{Gather}
use Rattle.chaos_execute.specs.Ready.{AreSmall}
use Rattle.chaos_execute.proofs.Gathered.{IsCellOf, from_between, met_among, met_cell, letters_are}
use Rattle.chaos_execute.proofs.Lists.{zip_weaker}
use Rattle.chaos_execute.proofs.Ready.{Small, array_known, each_item, small_element}
use Rattle.chaos_execute.proofs.Standing.{part_value}
use Rattle.chaos_executing.specs.InRun.{CanExecute}
use Rattle.chaos_executing.proofs.Owned.{all_owned, is_site}

module _ (s : Scene) (past : List Step) (site : ℕ) (turn : LoopTurn) (p : ℕ) (tables : List Stamps) (kept : Prepared)
    (can : CanExecute s past site turn p tables kept) where
  pub extents : All (λ (a : ArrayFacts). IsExtent a.extent) s.checked.arrays
  extents k d less = (can.checked.arrays k d less).extent

  read_cell : (q : ℕ) (x : Cell) → Among x (needed_of (loop_at s past site turn) (owners_at s past) (store_at s past) q p)
      → IsCellOf (loop_at s past site turn) (owners_at s past) p x
  read_cell q x a =
      let f = loop_at s past site turn in
      let owners = owners_at s past in
      let store = store_at s past in
      met_cell f owners store (is_site s past site p turn tables kept can) can.sound is_read q p x
      (met_among f owners store is_read q p x (from_between f owners store q p x (cells_of f owners store is_read q p) a).1)

  small_cell : (q : ℕ) (x : Cell) → Among x (needed_of (loop_at s past site turn) (owners_at s past) (store_at s past) q p)
      → x.element < 2 ^ 63
  small_cell q x a =
      let c = read_cell q x a in
      small_element x.element (array_at s.checked.arrays x.array).extent c.within
      (array_known (λ (a : ArrayFacts). IsExtent a.extent) s.checked.arrays x.array extents c.array).most

  pub small_reads : AreSmall kept.schedule.gather_send
  small_reads =
      let f = loop_at s past site turn in
      let owners = owners_at s past in
      let cells : ℕ → List Cell = λ q. needed_of f owners (store_at s past) q p in
      let lists = kept.schedule.gather_send in
      All-from_recursion (All Small) lists
      (each_item (All Small) (below s.nodes) lists
      (zip_weaker (λ q items. AllZip (IsOwn f owners) (cells q) items) (λ q items. All Small items) (below s.nodes) lists
      (λ q items a h.
      All-from_recursion Small items
      (each_item Small (cells q) items
      (zip_weaker (IsOwn f owners) (λ x i. Small i) (cells q) items (λ x i b r. subst (λ e. e < 2 ^ 63) (sym r.0.element)
      (small_cell q x b)) h)))
      can.inspected.fits.gather_send))

  pub reads_are_sent : map (packed (parts_of s.checked.arrays (owners_at s past) (store_at s past) p)) kept.schedule.gather_send
      ≡ sent_in (loop_at s past site turn) (owners_at s past) (store_at s past) Gather p
  reads_are_sent =
      let f = loop_at s past site turn in
      let owners = owners_at s past in
      let store = store_at s past in
      let pieces = parts_of f.arrays owners store p in
      letters_are (λ q. value_before store) (IsOwn f owners) (λ i. value_at pieces i.array i.local) (λ q. needed_of f owners store q p)
      (below f.nodes) kept.schedule.gather_send
      (λ x i r. (r.0.array, r.0.element))
      (λ q x i a r.
      let known = read_cell q x a in
      ap (λ k. value_at pieces k i.local) r.0.array
      ∙ ap (value_at pieces x.array) r.0.local
      ∙ part_value f owners (all_owned s past site p turn tables kept can) store p x.array (pos x.element) known.array known.within
      known.owner)
      can.inspected.fits.gather_send
