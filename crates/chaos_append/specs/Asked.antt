-- What the words of the program that appends ask for.
use Rattle.std.specs.Prelude.{ℕ, ◌&&◌, List, [], ◌∷◌, Option, Some, None, if◌then◌else◌}
use Rattle.fd_spell.specs.Spelled.{is_name, number_in}
use Rattle.chaos_append.specs.declared.asked.Asked.{Asked}

-- so many steps of so many particles in so many bins, on so many nodes, with the files of first bins and of values
pub record AskedToAppend : Type 0 where
  pub bins : ℕ
  pub steps : ℕ
  pub count : ℕ
  pub nodes : ℕ
  pub bin_file : List ℕ
  pub value_file : List ℕ

abbrev pub asked_by : Option ℕ → Option ℕ → Option ℕ → Option ℕ → List ℕ → List ℕ → Option AskedToAppend
asked_by (Some bins) (Some steps) (Some count) (Some nodes) bin_file value_file =
    if is_name bin_file && is_name value_file
    then Some (record { bins = bins; steps = steps; count = count; nodes = nodes; bin_file = bin_file; value_file = value_file }) else None
asked_by (Some bins) (Some steps) (Some count) None bin_file value_file = None
asked_by (Some bins) (Some steps) None nodes bin_file value_file = None
asked_by (Some bins) None count nodes bin_file value_file = None
asked_by None steps count nodes bin_file value_file = None

-- BINS STEPS COUNT NODES BINFILE VALUEFILE
abbrev pub asked_to_append : List (List ℕ) → Option AskedToAppend
asked_to_append (bins ∷ steps ∷ count ∷ nodes ∷ bin_file ∷ value_file ∷ []) =
    asked_by (number_in 1 65536 bins) (number_in 0 1000 steps) (number_in 1 1048576 count) (number_in 1 16 nodes) bin_file value_file
asked_to_append other = None

abbrev pub shown_asked : Asked → AskedToAppend
shown_asked asked = record {
  bins = asked.bins;
  steps = asked.steps;
  count = asked.count;
  nodes = asked.nodes;
  bin_file = asked.bin_file.now;
  value_file = asked.value_file.now;
}
