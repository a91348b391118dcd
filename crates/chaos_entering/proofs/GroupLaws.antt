-- Arrays by number, and arrays in their order.
use Rattle.std.specs.Prelude.{◌≡◌, refl, ℕ, suc, ◌+◌, ◌==◌, Bool, true, false, if◌then◌else◌, List, [], ◌∷◌, length, filter, count_by}
use Rattle.std.specs.Prelude.{slice_get, unwrap_or, Option, Some, None}
use Rattle.std.specs.List.{range_with_len}
use Rattle.std.proofs.Common.{ap, sym, ◌∙◌, arith}
use Rattle.std.proofs.lemmas.List.Sums.{length-filter}
use Rattle.fd_program.specs.declared.array.ArrayFacts.{ArrayFacts}
use Rattle.fd_program.specs.declared.checked.Checked.{Checked}
use Rattle.fd_program.specs.Stores.{array_at, no_array}
use Rattle.fd_program.specs.Trace.{no_site}
use Rattle.fd_words.specs.Roles.{is_index}
use Rattle.fd_program.specs.declared.reference.Reference.{Reference}
use Rattle.fd_program.specs.declared.site.Site.{Site}
use Rattle.plan_run.specs.Phases.{arrays_in}
use Rattle.chaos_entering.specs.Entering.{indexes_in}

first : {X Y : Type 0} (b : Bool) (x : X) (xs : List X) (y : Y) (ys : List Y) → length xs ≡ length ys → length (if b then x ∷ xs else xs)
    ≡ length (if b then y ∷ ys else ys)
first true x xs y ys e = ap suc e
first false x xs y ys e = e

by_number : {A : Type 0} (P : A → Bool) (get : ℕ → A) (xs : List A) (low : ℕ) (none : A)
    → ((k : ℕ) → unwrap_or (slice_get xs k) none ≡ get (low + k))
    → length (filter (λ k. P (get k)) (range_with_len low (length xs))) ≡ length (filter P xs)
by_number P get [] low none same = refl
by_number P get (x ∷ xs) low none same =
    let numbers = filter (λ k. P (get k)) (range_with_len (low + 1) (length xs)) in
    ap (λ b. length (if b then low ∷ numbers else numbers)) (ap P (sym (same 0 ∙ ap get (let z : low + 0 ≡ low = omega arith in z))))
    ∙ first (P x) low numbers x (filter P xs) (by_number P get xs (low + 1) none (λ k. same (suc k)
    ∙ ap get (let z : low + suc k ≡ low + 1 + k = omega arith in z)))

pub arrays_counted : (c : Checked) (d : ℕ) → length (arrays_in c d) ≡ count_by (λ (a : ArrayFacts). a.decomposition == d) c.arrays
arrays_counted c d =
    by_number (λ (a : ArrayFacts). a.decomposition == d) (array_at c.arrays) c.arrays 0 no_array
    (λ k. ap (array_at c.arrays) (let z : k ≡ 0 + k = omega arith in z))
    ∙ length-filter (λ (a : ArrayFacts). a.decomposition == d) c.arrays

-- the index references of a FORALL that is there, and of one that isn't
pub indexes_there : (c : Checked) (k : ℕ) (x : Site) → slice_get c.sites k ≡ Some x
    → indexes_in c k ≡ count_by (λ (r : Reference). is_index r.role) x.references
indexes_there c k x e =
    ap (λ (o : Option Site). length (filter (λ (r : Reference). is_index r.role) (unwrap_or o no_site).references)) e
    ∙ length-filter (λ (r : Reference). is_index r.role) x.references

pub indexes_none : (c : Checked) (k : ℕ) → slice_get c.sites k ≡ None → indexes_in c k ≡ 0
indexes_none c k e = ap (λ (o : Option Site). length (filter (λ (r : Reference). is_index r.role) (unwrap_or o no_site).references)) e
