-- The loops that are sections, and what chaos_section needs of one.
use Rattle.std.specs.Prelude.{ℕ, ◌+◌, ◌-◌, pos, Bool, false, not, ◌&&◌, List, [], ◌∷◌, slice_get, unwrap_or}
use Rattle.std.specs.List.{list_all}
use Rattle.chaos_dist.specs.declared.shape.Shape.{Shape}
use Rattle.chaos_dist.specs.declared.shape.Shape.TheVariants.{Block}
use Rattle.chaos_dist.specs.declared.step_form.StepForm.{StepForm}
use Rattle.chaos_dist.specs.declared.step_form.StepForm.TheVariants.{Regular, Map}
use Rattle.fd_words.specs.Roles.{is_index, is_target}
use Rattle.fd_program.specs.Homes.{first_target}
use Rattle.fd_program.specs.Met.{is_map, layout_for}
use Rattle.fd_program.specs.Stores.{array_at, number_at}
use Rattle.fd_program.specs.Uses.{is_plain}
use Rattle.fd_program.specs.declared.loop_facts.HomeRule.{HomeRule}
use Rattle.fd_program.specs.declared.loop_facts.HomeRule.TheVariants.{Owner, Most}
use Rattle.fd_program.specs.declared.loop_facts.LoopFacts.{LoopFacts}
use Rattle.fd_program.specs.declared.reference.Reference.{Reference}
use Rattle.chaos_section.specs.declared.section.SectionHomes.{SectionHomes}
use Rattle.chaos_section.specs.declared.section.SectionHomes.TheVariants as homes
use Rattle.chaos_section.specs.declared.section.SectionLoop.{SectionLoop}
use Rattle.chaos_section.specs.declared.section.SectionReference.{SectionReference}

-- ---- which loops are sections

-- no index reference, a plain subscript, a regular layout
abbrev pub is_sectional : LoopFacts → Reference → Bool
is_sectional f r = (not (is_index r.role) && is_plain r.subscript) && not (is_map (layout_for f r.array).form)

abbrev pub is_section : LoopFacts → Bool
is_section f = list_all (is_sectional f) f.site.references

-- ---- the section of a loop

abbrev pub shape_in : StepForm → Shape
shape_in (Regular shape) = shape
shape_in (Map array) = Block

-- the reference at this place
abbrev pub section_reference : LoopFacts → ℕ → Reference → SectionReference
section_reference f place r = record {
  target = is_target r.role;
  array = r.array;
  offset = (array_at f.arrays r.array).offset;
  add = number_at f.turn.adds place;
  extent = (layout_for f r.array).extent;
  shape = shape_in (layout_for f r.array).form;
}

-- these references, of which the first stands at this place
abbrev pub section_references : LoopFacts → ℕ → List Reference → List SectionReference
section_references f place [] = []
section_references f place (r ∷ rs) = section_reference f place r ∷ section_references f (place + 1) rs

abbrev pub no_reference : SectionReference
no_reference = record { target = false; array = 0; offset = pos 0; add = pos 0; extent = 0; shape = Block }

-- the reference with this number tells homes by the owner rule
abbrev pub section_homes : HomeRule → ℕ → List SectionReference → SectionHomes
section_homes Owner number references = homes.OwnerOf (unwrap_or (slice_get references (number - 1)) no_reference)
section_homes Most number references = homes.Most

abbrev pub section_loop : LoopFacts → SectionLoop
section_loop f = record {
  low = f.turn.low;
  high = f.turn.high;
  nodes = f.nodes;
  homes = section_homes f.rule (first_target f.site.body) (section_references f 0 f.site.references);
  references = section_references f 0 f.site.references;
}
