-- What a run writes.
use Rattle.std.specs.Prelude.{ℕ, zero, suc, ℤ, List, [], ◌∷◌, ◌++◌, flat_map, slice_get, Option, Some, None, codes, decimal}
use Rattle.std.specs.Option.{option_map_or}
use Rattle.std.specs.Fmt.{signed_decimal}
use Rattle.fd_words.specs.Lists.{list_at}
use Rattle.fd_words.specs.declared.place.Offence.{Offence}
use Rattle.fd_program.specs.Runs.{Run, run_of}
use Rattle.fd_program.specs.Stores.{array_at}
use Rattle.fd_program.specs.Trace.{site_at}
use Rattle.fd_program.specs.declared.array.OutputName.{OutputName}
use Rattle.fd_program.specs.declared.checked.Checked.{Checked}
use Rattle.fd_program.specs.declared.reference.Reference.{Reference}
use Rattle.fd_program.specs.declared.refused.Refused.{Refused}
use Rattle.fd_program.specs.declared.trace.Step.{Step}
use Rattle.fd_program.specs.declared.trace.Step.TheVariants.{Distribute, Print, Forall}

-- the line of an array: its name, ` =`, and each element after a blank
abbrev pub line_of : List ℕ → List ℤ → List ℕ
line_of name values = name ++ codes " =" ++ flat_map (λ v. 32 ∷ signed_decimal v) values ++ 10 ∷ []

abbrev pub line_for : Checked → List (List ℤ) → ℕ → List ℕ
line_for c store array = line_of (array_at c.arrays array).name (list_at store array)

-- what a step writes: a PRINT the line of its array
abbrev pub printed : Checked → Step × List (List ℤ) → List ℕ
printed c (Distribute decomposition form, store) = []
printed c (Print array, store) = line_for c store array
printed c (Forall site turn, store) = []

-- ---- the refusal line

-- its three parts: which loop and iteration, which subscript of which array, and the array's range
unfoldable pub refused_loop : ℕ → ℤ → List ℕ
refused_loop line i = codes "refused: line " ++ decimal line ++ codes ", iteration " ++ signed_decimal i

unfoldable pub refused_subscript : ℤ → List ℕ → List ℕ
refused_subscript z name = codes ": subscript " ++ signed_decimal z ++ codes " of " ++ name

unfoldable pub refused_range : ℕ → List ℕ
refused_range extent = codes " is outside 1 to " ++ decimal extent ++ 10 ∷ []

abbrev pub refusal_line_of : ℕ → Offence → List ℕ → ℕ → List ℕ
refusal_line_of line o name extent = refused_loop line o.iteration ++ refused_subscript o.subscript name ++ refused_range extent

-- the array of the reference with this number
abbrev pub array_of : List Reference → ℕ → ℕ
array_of references zero = 0
array_of references (suc place) = option_map_or (λ (r : Reference). r.array) (slice_get references place) 0

-- the line of the FORALL, and the offence
abbrev pub refusal_line : Checked → Refused → List ℕ
refusal_line c r =
    let site = site_at c.sites r.site in
    let facts = array_at c.arrays (array_of site.references r.offence.reference) in
    refusal_line_of site.at.line r.offence facts.name facts.extent

abbrev pub refusal_text : Checked → Option Refused → List ℕ
refusal_text c None = []
refusal_text c (Some r) = refusal_line c r

-- ---- the text

abbrev pub output_line : Checked → List (List ℤ) → OutputName → List ℕ
output_line c store o = line_for c store o.array

-- the lines of the executed PRINTs, the refusal line if there is one, and the lines of the OUTPUT arrays over the last store
abbrev pub text_of_run : Checked → Run → List ℕ
text_of_run c run = flat_map (printed c) run.executed ++ refusal_text c run.refused ++ flat_map (output_line c run.last) c.outputs

-- the text of the program over these values
abbrev pub text_of : Checked → List (List ℤ) → List ℕ
text_of c store = text_of_run c (run_of c store)
