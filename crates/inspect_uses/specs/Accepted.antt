-- What is known of an execution of a FORALL of a checked program, and of the owners of elements.
use Rattle.std.specs.Prelude.{ℕ, pos, ◌≡◌, ◌≤◌, ◌<◌, ◌+ℤ◌, ◌≤ℤ◌, List, length, slice_get, unwrap_or, All}
use Rattle.fd_words.specs.Lists.{list_at}
use Rattle.chaos_dist.specs.Layout.{given_size}
use Rattle.chaos_dist.specs.Owners.{regular_owners}
use Rattle.chaos_dist.specs.declared.step_form.StepForm.{StepForm}
use Rattle.chaos_dist.specs.declared.step_form.StepForm.TheVariants.{Regular, Map}
use Rattle.fd_program.specs.Checks.{IsExtent, IsSite}
use Rattle.fd_program.specs.declared.array.ArrayFacts.{ArrayFacts}
use Rattle.fd_program.specs.declared.loop_facts.Layout.{Layout}
use Rattle.fd_program.specs.declared.loop_facts.LoopFacts.{LoopFacts}
use Rattle.fd_program.specs.Met.{no_layout}

-- the array's elements stand within its decomposition
pub record IsLaidOut (layouts : List Layout) (a : ArrayFacts) : Type 0 where
  pub extent : IsExtent a.extent
  pub decomposition : a.decomposition < length layouts
  pub first : pos 0 ≤ℤ a.offset
  pub last : (pos a.extent +ℤ a.offset) ≤ℤ pos (unwrap_or (slice_get layouts a.decomposition) no_layout).extent

-- a CYCLIC(b) deals at least one element at a time
abbrev pub IsDealt : StepForm → Type 0
IsDealt (Regular shape) = 1 ≤ given_size shape
IsDealt (Map array) = Unit {0}

pub record IsLayout (l : Layout) : Type 0 where
  pub extent : IsExtent l.extent
  pub form : IsDealt l.form

-- the arrays stand in their decompositions, the FORALL is one of a checked program, its range isn't empty, and there are 1 to 16 nodes
pub record IsAccepted (f : LoopFacts) : Type 0 where
  pub arrays : All (IsLaidOut f.layouts) f.arrays
  pub layouts : All IsLayout f.layouts
  pub few_layouts : length f.layouts ≤ 128
  pub site : IsSite f.arrays f.site
  pub range : f.turn.low ≤ℤ f.turn.high
  pub some_nodes : 1 ≤ f.nodes
  pub few_nodes : f.nodes ≤ 16

-- ---- owners

abbrev pub IsDealtBy : StepForm → ℕ → ℕ → List ℕ → Type 0
IsDealtBy (Regular shape) extent nodes owners = owners ≡ regular_owners shape extent nodes
IsDealtBy (Map array) extent nodes owners = Unit {0}

-- each element has one of the nodes, by the form if it is regular
pub record IsOwned (nodes : ℕ) (l : Layout) (owners : List ℕ) : Type 0 where
  pub elements : length owners ≡ l.extent
  pub each : All (λ o. o < nodes) owners
  pub form : IsDealtBy l.form l.extent nodes owners

-- the owners of each decomposition's elements
abbrev pub AreOwners : LoopFacts → List (List ℕ) → Type 0
AreOwners f owners = (d : ℕ) → d < length f.layouts → IsOwned f.nodes (unwrap_or (slice_get f.layouts d) no_layout) (list_at owners d)
