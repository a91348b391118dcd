-- A move in a run.
use Rattle.std.proofs.Common.{◌≡◌, refl, ℕ, zero, suc, ◌+◌, ◌<◌, ◌≤◌, ◌==◌, true, List, [], ◌∷◌, Some, None, unwrap_or, ap, sym, subst, ◌∙◌}
use Rattle.std.proofs.Common.{arith, add-zero}
use Rattle.std.specs.Prelude.{ℤ, pos}
use Rattle.std.specs.List.{range_with_len}
use Rattle.std.proofs.Common.{Bool, cond, false, filter, length, map}
use Rattle.list_laws.specs.Tests.{same_number}
use Rattle.chaos_dist.specs.Owners.{elements_on}
use Rattle.fd_program.specs.Places.{decomposition_of, part_of}
use Rattle.chaos_remap.proofs.Families.{by_node}
use Rattle.std.specs.Prelude.{All, Option, slice_get, if◌then◌else◌}
use Rattle.std.specs.List.{enumerate_from}
use Rattle.std.specs.Option.{option_map}
use Rattle.std.proofs.lemmas.Option.{slice_get-map}
use Rattle.fd_words.specs.Lists.{list_at}
use Rattle.chaos_dist.specs.declared.step_form.StepForm.{StepForm}
use Rattle.chaos_dist.specs.declared.step_form.StepForm.TheVariants.{Regular, Map}
use Rattle.fd_program.specs.Layouts.{Scene, owners_at, owners_by, store_at}
use Rattle.fd_program.specs.Past.{form_set}
use Rattle.fd_program.specs.declared.array.LayoutName.{LayoutName}
use Rattle.fd_program.specs.declared.trace.Step.{Step}
use Rattle.fd_program.specs.declared.trace.Step.TheVariants.{Distribute}
use Rattle.chaos_moving.specs.InRun.{LettersAreOfRun, OwnersAreByForm, OwnersAreNodes, SharesAreHeld}
use Rattle.chaos_moving.proofs.PairLaws.{mapped_owned}
use Rattle.chaos_moving.proofs.StageLaws.{regular_owned}

pub letters_are_of_run : LettersAreOfRun
letters_are_of_run s past d form stage p = (refl, refl)

no_item : {A : Type 0} {P : Type 0} (x : A) → None ≡ Some x → P
no_item x e = cc

inside : {A : Type 0} (x y : A) → Some x ≡ Some y → x ≡ y
inside x y e = cc

enumerate_get : {A : Type 0} (n : ℕ) (xs : List A) (k : ℕ) (x : A) → slice_get xs k ≡ Some x → slice_get (enumerate_from n xs) k
    ≡ Some (n + k, x)
enumerate_get n [] k x e = no_item x e
enumerate_get {A} n (y ∷ xs) zero x e =
    ap (λ (z : A). Some (n, z)) (inside y x e) ∙ ap (λ m. Some (m, x)) (sym (add-zero n))
enumerate_get n (y ∷ xs) (suc k) x e =
    let more : n + 1 + k ≡ n + suc k = omega arith in
    enumerate_get (n + 1) xs k x e ∙ ap (λ m. Some (m, x)) more

pub owners_are_by_form : OwnersAreByForm
owners_are_by_form s past d form l e =
    let step = Distribute d form ∷ past in
    let by : ℕ × LayoutName → List ℕ = λ pair. owners_by s pair.1.extent (form_set step pair.0) in
    let at : 0 + d ≡ d = omega arith in
    ap (λ o. unwrap_or o []) (slice_get-map by (enumerate_from 0 s.checked.layouts) d
    ∙ ap (option_map by) (enumerate_get 0 s.checked.layouts d l e))
    ∙ ap (λ n. owners_by s l.extent (form_set step n)) at
    ∙ ap (λ b. owners_by s l.extent (if b then (form, past) else form_set past d)) (same_number d)

owned_by : (s : Scene) (extent : ℕ) (set : StepForm × List Step) → 1 ≤ s.nodes → All (λ o. o < s.nodes) (owners_by s extent set)
owned_by s extent (Regular shape, before) some = regular_owned shape extent s.nodes some
owned_by s extent (Map array, before) some = mapped_owned s.nodes (list_at (store_at s before) array) some

nothing_owned : (nodes : ℕ) → All (λ (o : ℕ). o < nodes) []
nothing_owned nodes k d h = absurd (omega (arith, h))

pub owners_are_nodes : OwnersAreNodes
owners_are_nodes s past d some =
    let by : ℕ × LayoutName → List ℕ = λ pair. owners_by s pair.1.extent (form_set past pair.0) in
    subst (λ (o : Option (List ℕ)). All (λ n. n < s.nodes) (unwrap_or o []))
    (sym (slice_get-map by (enumerate_from 0 s.checked.layouts) d)) (found (slice_get (enumerate_from 0 s.checked.layouts) d))
  where
    found : (o : Option (ℕ × LayoutName))
        → All (λ n. n < s.nodes) (unwrap_or (option_map (λ (pair : ℕ × LayoutName). owners_by s pair.1.extent (form_set past pair.0)) o) [])
    found None = nothing_owned s.nodes
    found (Some pair) = owned_by s pair.1.extent (form_set past pair.0) some

-- ---- what is held

kept_same : {B : Type 0} (f g : ℕ → B) (t : ℕ → Bool) (a n : ℕ) → ((k : ℕ) → k < a + n → f k ≡ g k)
    → map f (filter t (range_with_len a n)) ≡ map g (filter t (range_with_len a n))
kept_same f g t a zero same = refl
kept_same f g t a (suc n) same =
    let rest = filter t (range_with_len (a + 1) n) in
    let later : map f rest ≡ map g rest = kept_same f g t (a + 1) n (λ k h. same k (omega arith)) in
    elim (t a) as (λ b. map f (cond b (a ∷ rest) rest) ≡ map g (cond b (a ∷ rest) rest)) [
      | true ↦ ap (λ y. y ∷ map f rest) (same a (omega arith)) ∙ ap (λ l. g a ∷ l) later
      | false ↦ later
    ]

mine_of : (p : ℕ) (o : Option (List ℕ)) → unwrap_or (option_map (λ (owners : List ℕ). map pos (elements_on owners p)) o) []
    ≡ map pos (elements_on (unwrap_or o []) p)
mine_of p None = refl
mine_of p (Some owners) = refl

pub shares_are_held : SharesAreHeld
shares_are_held s past p v h =
    let owners = owners_at s past in
    let arrays = s.checked.arrays in
    let one : (array : ℕ) → array < length arrays → list_at v.parts array ≡ part_of arrays owners (store_at s past) p array =
    λ array less. ap (λ (l : List (List ℤ)). list_at l array) h.parts ∙ by_node (part_of arrays owners (store_at s past) p) array
    (length arrays) less in
    record {
      mine = λ d. ap (λ (l : List (List ℤ)). list_at l d) h.elements
          ∙ ap (λ o. unwrap_or o []) (slice_get-map (λ (o : List ℕ). map pos (elements_on o p)) owners d) ∙ mine_of p (slice_get owners d);
      part = one;
      pieces = λ d. kept_same (λ array. list_at v.parts array) (part_of arrays owners (store_at s past) p)
          (λ array. decomposition_of arrays array == d) 0 (length arrays) (λ k less. one k (omega (arith, less)));
    }
