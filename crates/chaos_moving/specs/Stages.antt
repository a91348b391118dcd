-- What a node sends in each stage of a move, and what it has after it.
use Rattle.std.specs.Prelude.{ℕ, ◌+◌, ℤ, List, [], ◌∷◌, length, map, slice_get, unsigned_abs, Option, Some, None}
use Rattle.fd_words.specs.declared.place.Place.{Place}
use Rattle.chaos_deref.specs.Asking.{asks_for, joined}
use Rattle.chaos_table.specs.Pages.{counts_of, owners_on, page_given}
use Rattle.chaos_dist.specs.Counting.{below}
use Rattle.chaos_dist.specs.Layout.{owner_of, local_of}
use Rattle.chaos_dist.specs.declared.shape.Shape.{Shape}
use Rattle.chaos_remap.specs.Remapping.{planned, packed_rows}
use Rattle.chaos_remap.specs.Remapped.{remapped}
use Rattle.plan_run.specs.declared.stage.Stage.{Stage}
use Rattle.plan_run.specs.declared.stage.Stage.TheVariants as stage
use Rattle.chaos_table.specs.declared.pages.Pages.{Pages}
use Rattle.chaos_moving.specs.Asks.{asks_named, asked_in, answers_by}
use Rattle.chaos_moving.specs.declared.share.Share.{Share}
use Rattle.chaos_moving.specs.declared.moving.MovingStage.{MovingStage}
use Rattle.chaos_moving.specs.declared.moving.MovingStage.TheVariants.{Pairing, Counting, Asking, Answering, Remapping, Moved}

-- the place of the element that a number names, under a regular shape
abbrev pub regular_place : Shape → ℕ → ℕ → ℤ → Place
regular_place shape extent nodes v = record {
  owner = owner_of shape extent nodes (unsigned_abs v);
  local = local_of shape extent nodes
      (unsigned_abs v);
}

-- the stages that are left
abbrev pub left_in : MovingStage → List Stage
left_in (Pairing array pairs) = stage.MapPairs array ∷ stage.PageCounts ∷ stage.MovingAsk ∷ stage.MovingAnswer ∷ stage.Remap ∷ []
left_in (Counting pairs) = stage.PageCounts ∷ stage.MovingAsk ∷ stage.MovingAnswer ∷ stage.Remap ∷ []
left_in Asking = stage.MovingAsk ∷ stage.MovingAnswer ∷ stage.Remap ∷ []
left_in (Answering asked) = stage.MovingAnswer ∷ stage.Remap ∷ []
left_in (Remapping places) = stage.Remap ∷ []
left_in (Moved part) = []

-- the next one
abbrev pub stage_in : MovingStage → Option Stage
stage_in m = slice_get (left_in m) 0

-- one list for each node
abbrev pub sent_by : Share → Option Pages → MovingStage → List (List ℤ)
sent_by share page (Pairing array pairs) = pairs
sent_by share page (Counting pairs) = map (λ q. counts_of share.nodes (owners_on share.extent share.nodes share.me pairs))
    (below share.nodes)
sent_by share page Asking = map (asks_named share.decomposition) (asks_for share.extent share.nodes share.elements)
sent_by share page (Answering asked) = answers_by page asked
sent_by share page (Remapping places) = map (packed_rows share.elements share.pieces) (planned share.nodes places)
sent_by share page (Moved part) = []

-- ---- once one list of each node is taken

abbrev pub stage_after : Share → MovingStage → List (List ℤ) → MovingStage
stage_after share (Pairing array pairs) taken = Counting taken
stage_after share (Counting pairs) taken = Asking
stage_after share Asking taken = Answering (map asked_in taken)
stage_after share (Answering asked) taken = Remapping (joined share.extent share.nodes share.elements taken)
stage_after share (Remapping places) taken = Moved (remapped (length share.pieces + 1) taken)
stage_after share (Moved part) taken = Moved part

-- the page that is made then
abbrev pub page_made : Share → MovingStage → List (List ℤ) → Option Pages
page_made share (Counting pairs) taken = Some (page_given share.extent share.nodes share.me pairs taken)
page_made share _ taken = None

-- a page that was made, or else the one before
abbrev pub later_page : Option Pages → Option Pages → Option Pages
later_page (Some page) before = Some page
later_page None before = before
