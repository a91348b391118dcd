-- Facts by the records are those of the run, and those of a checked program.
use Rattle.std.proofs.Common.{◌≡◌, refl, ℕ, zero, suc, ◌+◌, ◌-◌, ◌<◌, ◌≤◌, ◌==◌, ℤ, Bool, true, false, List, [], ◌∷◌, ◌++◌, length, map}
use Rattle.std.proofs.Common.{Option, Some, None, unwrap_or, ap, sym, subst, ◌∙◌, arith}
use Rattle.std.specs.Prelude.{slice_get, if◌then◌else◌, ◌≤ℤ◌, ◌+ℤ◌, pos}
use Rattle.std.specs.List.{AllByRecursion, enumerate_from}
use Rattle.std.proofs.lemmas.Bool.Decides.{nat_tests}
use Rattle.std.proofs.lemmas.List.Elements.{All-from_recursion, recursion_from_All}
use Rattle.chaos_dist.specs.Layout.{given_size}
use Rattle.chaos_dist.specs.declared.shape.Shape.{Shape}
use Rattle.chaos_dist.specs.declared.shape.Shape.TheVariants.{Block, Cyclic, BlockCyclic}
use Rattle.chaos_dist.specs.declared.step_form.StepForm.{StepForm}
use Rattle.chaos_dist.specs.declared.step_form.StepForm.TheVariants.{Regular, Map}
use Rattle.fd_program.specs.Checks.{IsAligned, IsExtent, IsFormOf, IsSite, IsStatementOf, layout_extent}
use Rattle.fd_program.specs.Layouts.{layout_at}
use Rattle.fd_program.specs.ListLaws.{all_append, all_at, all_flat_map, all_weaker, among_all}
use Rattle.fd_program.specs.Loops.{range_of}
use Rattle.fd_program.specs.Past.{form_at, form_set}
use Rattle.fd_program.specs.Scalars.{scalar_value}
use Rattle.fd_program.specs.Trace.{no_site, steps_of, steps_of_statement, inside_of}
use Rattle.fd_program.specs.declared.array.ArrayFacts.{ArrayFacts}
use Rattle.fd_program.specs.declared.array.LayoutName.{LayoutName}
use Rattle.fd_program.specs.declared.checked.Checked.{Checked}
use Rattle.fd_program.specs.declared.checked.CheckedStatement.{CheckedStatement}
use Rattle.fd_program.specs.declared.checked.CheckedStatement.TheVariants as statement
use Rattle.fd_program.specs.declared.loop_facts.Layout.{Layout}
use Rattle.fd_program.specs.declared.loop_facts.LoopFacts.{LoopFacts}
use Rattle.fd_program.specs.declared.site.Site.{Site}
use Rattle.fd_program.specs.declared.trace.Step.{Step}
use Rattle.fd_program.specs.declared.trace.Step.TheVariants.{Distribute, Print, Forall}
use Rattle.fd_program.specs.Met.{no_layout}
use Rattle.inspect_uses.specs.Accepted.{IsDealt, IsLaidOut, IsLayout}
use Rattle.chaos_records.specs.Keeping.{Keeps, first_setting, setting_at, setting_in}
use Rattle.chaos_records.specs.Numbering.{get_below}
use Rattle.chaos_records.specs.declared.records.Records.{Records}
use Rattle.chaos_facts.specs.Facts.{facts_in, layout_in, layouts_in, sound_form, sound_shape}
use Rattle.chaos_facts.specs.FactsLaws.{FactsAreAccepted, FactsAreExact}
use Rattle.fd_program.specs.StepLaws.{IsStepIn}

-- ---- forms

not_zero : (b : ℕ) → (suc b == 0) ≡ false
not_zero b = grind (arith, nat_tests)

sound_if : (b : ℕ) → 1 ≤ b → sound_shape (BlockCyclic b) ≡ BlockCyclic b
sound_if zero h = absurd (omega (arith, h))
sound_if (suc b) h = ap (λ is. if is then Block else BlockCyclic (suc b)) (not_zero b)

shape_stays : (shape : Shape) → 1 ≤ given_size shape → sound_shape shape ≡ shape
shape_stays Block h = refl
shape_stays Cyclic h = refl
shape_stays (BlockCyclic b) h = sound_if b h

form_stays : (c : Checked) (d : ℕ) (form : StepForm) → IsFormOf c.arrays c.layouts d form → sound_form form ≡ form
form_stays c d (Regular shape) h = ap Regular (shape_stays shape h.some)
form_stays c d (Map array) h = refl

forms_stay : (c : Checked) (past : List Step) (d : ℕ) → AllByRecursion (IsStepIn c) past → sound_form (form_at past d) ≡ form_at past d
forms_stay c [] d steps = refl
forms_stay c (Print array ∷ past) d steps = forms_stay c past d steps.1
forms_stay c (Forall site turn ∷ past) d steps = forms_stay c past d steps.1
forms_stay c (Distribute decomposition form ∷ past) d steps = by (decomposition == d) (forms_stay c past d steps.1)
  where
    by : (b : Bool) → sound_form (form_at past d) ≡ form_at past d
        → sound_form (if b then (form, past) else form_set past d).0 ≡ (if b then (form, past) else form_set past d).0
    by true rest = form_stays c decomposition form steps.0.1
    by false rest = rest

-- ---- layouts

same_layouts : (f g : ℕ × LayoutName → Layout) (a : ℕ) (ls : List LayoutName) → ((d : ℕ) (l : LayoutName) → d < a + length ls
    → f (d, l) ≡ g (d, l))
    → map f (enumerate_from a ls) ≡ map g (enumerate_from a ls)
same_layouts f g a [] same = refl
same_layouts f g a (l ∷ ls) same =
    let rest = same_layouts f g (a + 1) ls (λ d x less. same d x (omega (arith, less))) in
    ap (λ y. y ∷ map f (enumerate_from (a + 1) ls)) (same a l (omega arith)) ∙ ap (λ more. g (a, l) ∷ more) rest

setting_known : (c : Checked) (past : List Step) (r : Records) (d : ℕ) → Keeps c past r → d < length c.layouts
    → setting_in r d ≡ setting_at c past d
setting_known c past r d keeps less =
    ap (λ settings. unwrap_or (slice_get settings d) first_setting) keeps.settings
    ∙ ap (λ o. unwrap_or o first_setting) (get_below (setting_at c past) (length c.layouts) d less)

pub facts_are_exact : FactsAreExact
facts_are_exact c nodes rule past r site turn steps keeps =
    ap (λ layouts. let f : LoopFacts = record {
      arrays = c.arrays;
      site = (facts_in c nodes rule r site turn).site;
      turn = turn;
      layouts = layouts;
      nodes = nodes;
      rule = rule;
    } in f)
    (same_layouts (layout_in r) (layout_at past) 0 c.layouts
    (λ d l less. ap (λ form. let x : Layout = record { extent = l.extent; form = form } in x)
    (ap (λ setting. sound_form setting.form) (setting_known c past r d keeps (omega (arith, less))) ∙ forms_stay c past d steps)))

-- ---- what is known of them

sound_deals : (shape : Shape) → 1 ≤ given_size (sound_shape shape)
sound_deals Block = omega arith
sound_deals Cyclic = omega arith
sound_deals (BlockCyclic zero) = omega arith
sound_deals (BlockCyclic (suc b)) =
    let one : 1 ≤ suc b = omega arith in subst (λ shape. 1 ≤ given_size shape) (sym (sound_if (suc b) one)) one

form_deals : (form : StepForm) → IsDealt (sound_form form)
form_deals (Regular shape) = sound_deals shape
form_deals (Map array) = tt

all_layouts : (r : Records) (a : ℕ) (ls : List LayoutName) → AllByRecursion (λ (l : LayoutName). IsExtent l.extent) ls
    → AllByRecursion IsLayout (map (layout_in r) (enumerate_from a ls))
all_layouts r a [] h = tt
all_layouts r a (l ∷ ls) h = (record { extent = h.0; form = form_deals (setting_in r a).form }, all_layouts r (a + 1) ls h.1)

pub layout_count : (r : Records) (a : ℕ) (ls : List LayoutName) → length (map (layout_in r) (enumerate_from a ls)) ≡ length ls
layout_count r a [] = refl
layout_count r a (l ∷ ls) = ap suc (layout_count r (a + 1) ls)

layout_size : (r : Records) (a : ℕ) (ls : List LayoutName) (d : ℕ)
    → (unwrap_or (slice_get (map (layout_in r) (enumerate_from a ls)) d) no_layout).extent ≡ layout_extent ls d
layout_size r a [] d = refl
layout_size r a (l ∷ ls) zero = refl
layout_size r a (l ∷ ls) (suc d) = layout_size r (a + 1) ls d

pub facts_are_accepted : FactsAreAccepted
facts_are_accepted c nodes rule r site turn known some few there range = record {
  arrays = All-from_recursion (IsLaidOut (layouts_in c r)) c.arrays
      (all_weaker (IsAligned c.layouts) (IsLaidOut (layouts_in c r)) laid c.arrays
      (recursion_from_All (IsAligned c.layouts) c.arrays known.arrays));
  layouts = All-from_recursion IsLayout (layouts_in c r)
      (all_layouts r 0 c.layouts (recursion_from_All (λ (l : LayoutName). IsExtent l.extent) c.layouts known.layouts));
  few_layouts = omega (arith, layout_count r 0 c.layouts, known.few_layouts);
  site = site_known (slice_get c.sites site) refl;
  range = range;
  some_nodes = some;
  few_nodes = few;
}
  where
    laid : (a : ArrayFacts) → IsAligned c.layouts a → IsLaidOut (layouts_in c r) a
    laid a h = record {
      extent = h.extent;
      decomposition = omega (arith, h.decomposition, layout_count r 0 c.layouts);
      first = h.first;
      last = subst (λ n. (pos a.extent +ℤ a.offset) ≤ℤ pos n) (sym (layout_size r 0 c.layouts a.decomposition)) h.last;
    }

    within : {A : Type 0} (xs : List A) (k : ℕ) → k < length xs → slice_get xs k ≡ None → ⊥
    within [] k h e = absurd (omega (arith, h))
    within (x ∷ xs) zero h e = cc
    within (x ∷ xs) (suc k) h e = within xs k (omega (arith, h)) e

    site_known : (o : Option Site) → slice_get c.sites site ≡ o → IsSite c.arrays (unwrap_or o no_site)
    site_known None e = absurd (within c.sites site there e)
    site_known (Some x) e = all_at (IsSite c.arrays) c.sites site x (recursion_from_All (IsSite c.arrays) c.sites known.sites) e
