-- Where no places are asked for.
use Rattle.std.specs.Prelude.{◌≡◌, ℤ, false, List, [], filter}
use Rattle.plan_loop.specs.LoopLetters.{asks_places}
use Rattle.plan_loop.specs.declared.loop_phase.Asking.TheVariants.{References}
use Rattle.inspect_enter.specs.Placed.{is_mapped}
use Rattle.fd_program.specs.Met.{kept_uses}
use Rattle.fd_program.specs.declared.loop_facts.LoopFacts.{LoopFacts}

-- where no place is to be asked for, formulas tell all
abbrev pub FormulasTellAll : Type 0
FormulasTellAll = (f : LoopFacts) (store : List (List ℤ)) (iterations : List ℤ) → asks_places f References ≡ false
    → filter (is_mapped f) (kept_uses f store iterations) ≡ []
