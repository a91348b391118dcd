-- What holds of a loop that is a section.
use Rattle.std.specs.Prelude.{◌≡◌, ℕ, ℤ, true, List}
use Rattle.std.specs.List.{flat_map}
use Rattle.chaos_sched.specs.Scheduled.{asks_for}
use Rattle.chaos_section.specs.Sections.{IsSection, iterations_on, needs_of}
use Rattle.fd_program.specs.Homes.{executed_by}
use Rattle.fd_program.specs.declared.loop_facts.LoopFacts.{LoopFacts}
use Rattle.inspect_enter.specs.Preparing.{IsSettled}
use Rattle.plan_loop.specs.LoopLetters.{iteration_row, owed_in}
use Rattle.plan_loop.specs.declared.loop_phase.LoopPhase.TheVariants.{ScheduleAsk}
use Rattle.section_laws.specs.SectionLoops.{is_section, section_loop}

-- its rows are its iterations
abbrev pub SectionRows : Type 0
SectionRows = (f : LoopFacts) (store : List (List ℤ)) (iterations : List ℤ) → is_section f ≡ true
    → flat_map (iteration_row f store) iterations ≡ iterations

-- without an offence it is a section
abbrev pub SectionIsReached : Type 0
SectionIsReached = (f : LoopFacts) (owners : List (List ℕ)) (store : List (List ℤ)) → IsSettled f owners store → is_section f ≡ true
    → IsSection (section_loop f)

-- the iterations that a node executes
abbrev pub SectionIsLoop : Type 0
SectionIsLoop = (f : LoopFacts) (owners : List (List ℕ)) (store : List (List ℤ)) (p : ℕ) → IsSettled f owners store → is_section f ≡ true
    → iterations_on (section_loop f) p ≡ executed_by f owners store p

-- what the others ask of it
abbrev pub SectionAsks : Type 0
SectionAsks = (f : LoopFacts) (owners : List (List ℕ)) (store : List (List ℤ)) (p : ℕ) → IsSettled f owners store → is_section f ≡ true
    → asks_for f.nodes (needs_of (section_loop f) p) ≡ owed_in f owners store ScheduleAsk p
