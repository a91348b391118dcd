-- The owners in a run of a checked program.
use Rattle.std.proofs.Common.{◌≡◌, refl, ℕ, zero, suc, ◌+◌, ◌<◌, ◌==◌, Bool, true, false, List, [], ◌∷◌, length, map, Some, unwrap_or, ap}
use Rattle.std.proofs.Common.{sym, subst, ◌∙◌, arith}
use Rattle.std.specs.Prelude.{slice_get, if◌then◌else◌}
use Rattle.std.specs.List.{AllByRecursion, enumerate_from}
use Rattle.std.specs.Option.{option_map_or}
use Rattle.std.proofs.lemmas.Bool.{eqb-true}
use Rattle.std.proofs.lemmas.List.{length-map}
use Rattle.std.proofs.lemmas.List.Elements.{All-from_recursion}
use Rattle.fd_words.specs.Lists.{list_at}
use Rattle.fd_words.specs.Value.{remainder_of}
use Rattle.chaos_dist.specs.OwnersLaws.{length-regular_owners}
use Rattle.chaos_dist.specs.declared.step_form.StepForm.{StepForm}
use Rattle.chaos_dist.specs.declared.step_form.StepForm.TheVariants.{Regular, Map}
use Rattle.fd_program.specs.Checks.{IsFormOf, layout_extent}
use Rattle.fd_program.specs.HomeLaws.{owners_at-below}
use Rattle.fd_program.specs.Layouts.{Scene, layout_at, owners_at, owners_by, store_at}
use Rattle.fd_program.specs.Past.{form_set}
use Rattle.fd_program.specs.RunLaws.{IsHistory}
use Rattle.fd_program.specs.StoreLaws.{run_keeps_lengths, length-list_at}
use Rattle.fd_program.specs.Stores.{FitsStore, array_at}
use Rattle.fd_program.specs.declared.array.LayoutName.{LayoutName}
use Rattle.fd_program.specs.declared.trace.Step.{Step}
use Rattle.fd_program.specs.declared.trace.Step.TheVariants.{Distribute, Print, Forall}
use Rattle.fd_program.specs.Met.{no_layout}
use Rattle.inspect_uses.specs.Accepted.{IsDealtBy, IsOwned}
use Rattle.fd_program.specs.ListLaws.{or_none, some_at}
use Rattle.fd_program.specs.OwnedLaws.{at_enumerated, extent_found, length_owners, owners_found}
use Rattle.fd_program.specs.StepLaws.{steps_of_in}
use Rattle.chaos_facts.specs.FactsLaws.{RunHasOwners, RunKeepsExtents}

dealt_by : (s : Scene) (extent : ℕ) (set : StepForm × List Step) → IsDealtBy set.0 extent s.nodes (owners_by s extent set)
dealt_by s extent (Regular shape, before) = refl
dealt_by s extent (Map array, before) = tt

pub run_keeps_extents : RunKeepsExtents
run_keeps_extents s past d run less = length_owners s past d run.fits run.history (steps_of_in s.checked past run.steps) less

layouts_count : (past : List Step) (a : ℕ) (ls : List LayoutName) → length (map (layout_at past) (enumerate_from a ls)) ≡ length ls
layouts_count past a [] = refl
layouts_count past a (l ∷ ls) = ap suc (layouts_count past (a + 1) ls)

pub run_has_owners : RunHasOwners
run_has_owners s past site turn run d less =
    let found = some_at s.checked.layouts d (omega (arith, less, layouts_count past 0 s.checked.layouts)) in
    let nought : 0 + d ≡ d = omega arith in
    let layout = at_enumerated (layout_at past) no_layout 0 s.checked.layouts d found.0 found.1
    ∙ ap (λ k. layout_at past (k, found.0)) nought in
    subst (λ l. IsOwned s.nodes l (list_at (owners_at s past) d)) (sym layout)
    (record {
      elements = run_keeps_extents s past d run (omega (arith, less, layouts_count past 0 s.checked.layouts))
          ∙ extent_found s.checked.layouts d found.0 found.1;
      each = All-from_recursion (λ o. o < s.nodes) (list_at (owners_at s past) d)
          (or_none (λ list. AllByRecursion (λ o. o < s.nodes) list) (owners_at s past) d [] tt (owners_at-below s past run.some_nodes));
      form = subst (IsDealtBy (form_set past d).0 found.0.extent s.nodes) (sym (owners_found s past d found.0 found.1))
          (dealt_by s found.0.extent (form_set past d));
    })
