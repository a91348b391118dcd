-- What a node has in a move from the old owners of a decomposition's elements to the new. `owners` has the old ones for each decomposition.
use Rattle.std.specs.Prelude.{◌≡◌, ℕ, ◌<◌, ◌≤◌, ℤ, ◌+◌, pos, List, length, map, All, Option, IsSomeAnd}
use Rattle.fd_words.specs.Lists.{list_at}
use Rattle.chaos_dist.specs.Counting.{below}
use Rattle.chaos_dist.specs.Owners.{elements_on}
use Rattle.fd_program.specs.Layouts.{Scene}
use Rattle.fd_program.specs.Places.{decomposition_of, owner_for, value_on, part_of}
use Rattle.fd_program.specs.Stores.{array_at}
use Rattle.chaos_remap.specs.declared.place.Remapped.{Remapped}
use Rattle.chaos_table.specs.declared.pages.Pages.{Pages}
use Rattle.plan_run.specs.Held.{place_in, IsPageOf, HasPage}
use Rattle.plan_run.specs.Phases.{arrays_in, move_numbers, moving_of}
use Rattle.plan_run.specs.declared.stage.Stage.{Stage}
use Rattle.plan_run.specs.declared.stage.Stage.TheVariants as stage
use Rattle.chaos_table.specs.Laws.{IsCovered}
use Rattle.chaos_dist.specs.declared.step_form.StepForm.{StepForm}
use Rattle.chaos_dist.specs.declared.step_form.StepForm.TheVariants.{Regular, Map}
use Rattle.chaos_moving.specs.declared.share.Share.{Share}
use Rattle.chaos_moving.specs.declared.moving.Moved.{Moved}
use Rattle.chaos_moving.specs.declared.moving.Moving.{Moving}
use Rattle.chaos_moving.specs.declared.moving.MovingStage.{MovingStage}
use Rattle.chaos_moving.specs.declared.moving.MovingStage.TheVariants as at

-- ---- before

-- what a node has of a decomposition: its elements, and the local parts of the decomposition's arrays
pub record HasShare (share : Share) (s : Scene) (owners : List (List ℕ)) (store : List (List ℤ)) : Type 0 where
  pub count : share.nodes ≡ s.nodes
  pub size : length (list_at owners share.decomposition) ≡ share.extent
  pub owned : All (λ o. o < s.nodes) (list_at owners share.decomposition)
  pub mine : share.elements ≡ map pos (elements_on (list_at owners share.decomposition) share.me)
  pub parts : share.pieces ≡ map (part_of s.checked.arrays owners store share.me) (arrays_in s.checked share.decomposition)

-- The map array on a node: the elements of its decomposition, its local part, and its offset. It has the extent of the decomposition that
-- is moved, its elements stand within its own, and each node of that is one of the nodes.
pub record HasMap (share : Share) (s : Scene) (owners : List (List ℕ)) (store : List (List ℤ)) (array offset : ℕ)
    (elements values : List ℤ) : Type 0 where
  pub extent : (array_at s.checked.arrays array).extent ≡ share.extent
  pub stands : (array_at s.checked.arrays array).offset ≡ pos offset
  pub last : share.extent + offset ≤ length (list_at owners (decomposition_of s.checked.arrays array))
  pub owned : All (λ o. o < s.nodes) (list_at owners (decomposition_of s.checked.arrays array))
  pub size : length (list_at store array) ≡ share.extent
  pub mine : elements ≡ map pos (elements_on (list_at owners (decomposition_of s.checked.arrays array)) share.me)
  pub part : values ≡ part_of s.checked.arrays owners store share.me array

-- ---- letters

-- what p sends in a stage, by receiver, and what it takes, by sender, its own list included
abbrev pub lists_moved : Scene → List (List ℕ) → List (List ℤ) → ℕ → List ℕ → Stage → ℕ → List (List ℤ)
lists_moved s owners store d new stage p = map (λ q. move_numbers s owners store d (list_at owners d) new stage p q) (below s.nodes)

abbrev pub taken_in : Scene → List (List ℕ) → List (List ℤ) → ℕ → List ℕ → Stage → ℕ → List (List ℤ)
taken_in s owners store d new stage p = map (λ q. move_numbers s owners store d (list_at owners d) new stage q p) (below s.nodes)

-- ---- in between

-- the local parts of a decomposition's arrays, by the owners of its elements
abbrev pub parts_by : Scene → List (List ℤ) → ℕ → List ℕ → ℕ → List (List ℤ)
parts_by s store d new p = map (λ array. map (value_on s.checked.arrays store array) (elements_on new p)) (arrays_in s.checked d)

pub record HasPart (part : Remapped) (s : Scene) (store : List (List ℤ)) (d : ℕ) (new : List ℕ) (p : ℕ) : Type 0 where
  pub mine : part.elements ≡ map pos (elements_on new p)
  pub parts : part.pieces ≡ parts_by s store d new p

-- the map array is spread over the nodes
abbrev pub StandsOnNodes : Scene → List (List ℕ) → ℕ → ℕ → Type 0
StandsOnNodes s owners array extent = (g : ℕ) → 1 ≤ g → g ≤ extent → owner_for s.checked.arrays owners array (pos g) < s.nodes

-- what the earlier stages gave
abbrev pub IsInHand : Scene → List (List ℕ) → List (List ℤ) → List ℕ → Share → MovingStage → Type 0
IsInHand s owners store new share (at.Pairing array pairs) =
    (pairs ≡ lists_moved s owners store share.decomposition new (stage.MapPairs array) share.me) × StandsOnNodes s owners array (length new)
IsInHand s owners store new share (at.Counting pairs) = IsCovered s.nodes share.me new pairs
IsInHand s owners store new share at.Asking = Unit {0}
IsInHand s owners store new share (at.Answering asked) =
    asked ≡ map (λ q. map pos (moving_of s.nodes (list_at owners share.decomposition) q share.me)) (below s.nodes)
IsInHand s owners store new share (at.Remapping places) =
    places ≡ map (place_in new) (elements_on (list_at owners share.decomposition) share.me)
IsInHand s owners store new share (at.Moved part) = HasPart part s store share.decomposition new share.me

abbrev pub IsMap : StepForm → Type 0
IsMap (Regular shape) = ⊥
IsMap (Map array) = Unit {0}

-- the new page, once it is made
abbrev pub PageInHand : ℕ → ℕ → StepForm → List ℕ → Option Pages → MovingStage → Type 0
PageInHand nodes p form new page (at.Pairing array pairs) = IsMap form
PageInHand nodes p form new page (at.Counting pairs) = IsMap form
PageInHand nodes p form new page at.Asking = IsMap form × IsSomeAnd page (IsPageOf nodes p new)
PageInHand nodes p form new page (at.Answering asked) = IsMap form × IsSomeAnd page (IsPageOf nodes p new)
PageInHand nodes p form new page (at.Remapping places) = HasPage nodes p form new page
PageInHand nodes p form new page (at.Moved part) = HasPage nodes p form new page

pub record IsMoving (x : Moving) (s : Scene) (owners : List (List ℕ)) (store : List (List ℤ)) (new : List ℕ) : Type 0 where
  pub share : HasShare x.share s owners store
  pub size : length new ≡ x.share.extent
  pub owned : All (λ o. o < s.nodes) new
  pub page : PageInHand s.nodes x.share.me x.form new x.page x.stage
  pub hand : IsInHand s owners store new x.share x.stage

-- ---- after

-- the elements and the local parts under the new owners, and the page where the form is a map
pub record HasMovedTo (x : Moved) (s : Scene) (store : List (List ℤ)) (d : ℕ) (form : StepForm) (new : List ℕ) (p : ℕ) : Type 0 where
  pub mine : x.elements ≡ map pos (elements_on new p)
  pub parts : (after : List (List ℕ)) → list_at after d ≡ new → x.pieces ≡ map (part_of s.checked.arrays after store p)
      (arrays_in s.checked d)
  pub page : HasPage s.nodes p form new x.page
