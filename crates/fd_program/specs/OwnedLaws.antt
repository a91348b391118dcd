-- In a run of a checked program each decomposition has as many owners as elements.
use Rattle.std.specs.Prelude.{◌≡◌, refl, ℕ, zero, suc, ◌+◌, ◌<◌, ◌==◌, Bool, true, false, if◌then◌else◌, List, [], ◌∷◌, length, map, Some}
use Rattle.std.specs.Prelude.{slice_get, unwrap_or}
use Rattle.std.specs.List.{AllByRecursion, enumerate_from}
use Rattle.std.specs.Option.{option_map_or}
use Rattle.std.proofs.Common.{ap, sym, ◌∙◌, subst, arith}
use Rattle.std.proofs.lemmas.Bool.{eqb-true}
use Rattle.std.proofs.lemmas.List.{length-map}
use Rattle.fd_words.specs.Lists.{list_at}
use Rattle.fd_words.specs.Value.{remainder_of}
use Rattle.chaos_dist.specs.OwnersLaws.{length-regular_owners}
use Rattle.chaos_dist.specs.declared.step_form.StepForm.{StepForm}
use Rattle.chaos_dist.specs.declared.step_form.StepForm.TheVariants.{Regular, Map}
use Rattle.fd_program.specs.Checks.{IsFormOf, layout_extent}
use Rattle.fd_program.specs.Layouts.{Scene, owners_at, owners_by, store_at}
use Rattle.fd_program.specs.ListLaws.{some_at}
use Rattle.fd_program.specs.Past.{form_set}
use Rattle.fd_program.specs.RunLaws.{IsHistory}
use Rattle.fd_program.specs.StepLaws.{IsStepOf}
use Rattle.fd_program.specs.StoreLaws.{run_keeps_lengths, length-list_at}
use Rattle.fd_program.specs.Stores.{FitsStore, array_at}
use Rattle.fd_program.specs.declared.array.LayoutName.{LayoutName}
use Rattle.fd_program.specs.declared.trace.Step.{Step}
use Rattle.fd_program.specs.declared.trace.Step.TheVariants.{Distribute, Print, Forall}

pub at_enumerated : {B : Type 0} (f : ℕ × LayoutName → B) (z : B) (a : ℕ) (ls : List LayoutName) (k : ℕ) (l : LayoutName)
    → slice_get ls k ≡ Some l
    → unwrap_or (slice_get (map f (enumerate_from a ls)) k) z ≡ f (a + k, l)
at_enumerated f z a [] k l e = cc
at_enumerated f z a (x ∷ ls) zero l e =
    let same : x ≡ l = cc in
    let nought : a ≡ a + 0 = omega arith in
    ap (λ y. f (a, y)) same ∙ ap (λ d. f (d, l)) nought
at_enumerated f z a (x ∷ ls) (suc k) l e =
    let later : a + 1 + k ≡ a + suc k = omega arith in
    at_enumerated f z (a + 1) ls k l e ∙ ap (λ d. f (d, l)) later

-- a form by a map is by an array of the decomposition's extent, and the steps before it are a run's
abbrev IsFormThere : Scene → ℕ → StepForm × List Step → Type 0
IsFormThere s d (Regular shape, before) = Unit {0}
IsFormThere s d (Map array, before) =
    (array < length s.checked.arrays) × ((array_at s.checked.arrays array).extent ≡ layout_extent s.checked.layouts d) × IsHistory s before

form_there : (s : Scene) (past : List Step) (d : ℕ) → IsHistory s past → AllByRecursion (IsStepOf s.checked) past
    → IsFormThere s d (form_set past d)
form_there s [] d history steps = tt
form_there s (Print array ∷ past) d history steps = form_there s past d history.1 steps.1
form_there s (Forall site turn ∷ past) d history steps = form_there s past d history.1 steps.1
form_there s (Distribute decomposition form ∷ past) d history steps = by (decomposition == d) refl (form_there s past d history.1 steps.1)
  where
    here : (form : StepForm) → IsFormOf s.checked.arrays s.checked.layouts d form → IsFormThere s d (form, past)
    here (Regular shape) h = tt
    here (Map array) h = (h.0, h.1, history.1)

    by : (b : Bool) → (decomposition == d) ≡ b → IsFormThere s d (form_set past d)
        → IsFormThere s d (if b then (form, past) else form_set past d)
    by true e rest = here form (subst (λ k. IsFormOf s.checked.arrays s.checked.layouts k form) (eqb-true decomposition d e) steps.0)
    by false e rest = rest

-- the owners by a form are as many as elements
length_by : (s : Scene) → FitsStore s.checked.arrays (store_at s []) → (d extent : ℕ) (set : StepForm × List Step)
    → layout_extent s.checked.layouts d ≡ extent → IsFormThere s d set → length (owners_by s extent set) ≡ extent
length_by s fits d extent (Regular shape, before) e h = length-regular_owners shape extent s.nodes
length_by s fits d extent (Map array, before) e h =
    length-map (list_at (store_at s before) array) (λ v. remainder_of v s.nodes)
    ∙ (length-list_at s.checked.arrays (store_at s before) array (run_keeps_lengths s before h.2 fits) h.0).1
    ∙ h.1
    ∙ e

pub owners_found : (s : Scene) (past : List Step) (d : ℕ) (l : LayoutName) → slice_get s.checked.layouts d ≡ Some l
    → list_at (owners_at s past) d ≡ owners_by s l.extent (form_set past d)
owners_found s past d l e =
    let nought : 0 + d ≡ d = omega arith in
    at_enumerated (λ (pair : ℕ × LayoutName). owners_by s pair.1.extent (form_set past pair.0)) [] 0 s.checked.layouts d l e
    ∙ ap (λ k. owners_by s l.extent (form_set past k)) nought

pub extent_found : (ls : List LayoutName) (d : ℕ) (l : LayoutName) → slice_get ls d ≡ Some l → layout_extent ls d ≡ l.extent
extent_found ls d l e = ap (λ o. option_map_or (λ (l : LayoutName). l.extent) o 0) e

pub length_owners : (s : Scene) (past : List Step) (d : ℕ) → FitsStore s.checked.arrays (store_at s []) → IsHistory s past
    → AllByRecursion (IsStepOf s.checked) past → d < length s.checked.layouts → length (list_at (owners_at s past) d)
    ≡ layout_extent s.checked.layouts d
length_owners s past d fits history steps less =
    let found = some_at s.checked.layouts d less in
    let extent = extent_found s.checked.layouts d found.0 found.1 in
    ap length (owners_found s past d found.0 found.1)
    ∙ length_by s fits d found.0.extent (form_set past d) extent (form_there s past d history steps)
    ∙ sym extent
