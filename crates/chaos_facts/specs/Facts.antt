-- The facts of a FORALL's execution by the records that a node keeps.
use Rattle.std.specs.Prelude.{ℕ, ◌==◌, if◌then◌else◌, List, map}
use Rattle.std.specs.List.{enumerate_from}
use Rattle.chaos_dist.specs.declared.shape.Shape.{Shape}
use Rattle.chaos_dist.specs.declared.shape.Shape.TheVariants.{Block, Cyclic, BlockCyclic}
use Rattle.chaos_dist.specs.declared.step_form.StepForm.{StepForm}
use Rattle.chaos_dist.specs.declared.step_form.StepForm.TheVariants.{Regular, Map}
use Rattle.chaos_records.specs.Keeping.{setting_in}
use Rattle.chaos_records.specs.declared.records.Records.{Records}
use Rattle.fd_program.specs.SameLoops.{facts_of}
use Rattle.fd_program.specs.Trace.{site_at}
use Rattle.fd_program.specs.declared.array.LayoutName.{LayoutName}
use Rattle.fd_program.specs.declared.checked.Checked.{Checked}
use Rattle.fd_program.specs.declared.loop_facts.HomeRule.{HomeRule}
use Rattle.fd_program.specs.declared.loop_facts.Layout.{Layout}
use Rattle.fd_program.specs.declared.loop_facts.LoopFacts.{LoopFacts}
use Rattle.fd_program.specs.declared.trace.LoopTurn.{LoopTurn}

-- a CYCLIC(0), which no program has, is taken for BLOCK
abbrev pub sound_shape : Shape → Shape
sound_shape Block = Block
sound_shape Cyclic = Cyclic
sound_shape (BlockCyclic size) = if size == 0 then Block else BlockCyclic size

abbrev pub sound_form : StepForm → StepForm
sound_form (Regular shape) = Regular (sound_shape shape)
sound_form (Map array) = Map array

-- a decomposition with the form that the records have
abbrev pub layout_in : Records → ℕ × LayoutName → Layout
layout_in r (d, l) = record { extent = l.extent; form = sound_form (setting_in r d).form }

abbrev pub layouts_in : Checked → Records → List Layout
layouts_in c r = map (layout_in r) (enumerate_from 0 c.layouts)

-- the facts of a FORALL's execution where these are the records
abbrev pub facts_in : Checked → ℕ → HomeRule → Records → ℕ → LoopTurn → LoopFacts
facts_in c nodes rule r site turn = facts_of c.arrays (site_at c.sites site) nodes rule turn (layouts_in c r)
