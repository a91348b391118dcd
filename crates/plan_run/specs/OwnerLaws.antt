-- The owners over a step: only a DISTRIBUTE that isn't a repeat changes them, and only those of its own decomposition.
use Rattle.std.specs.Prelude.{◌≡◌, ◌≢◌, refl, ℕ, zero, suc, ◌+◌, ◌<◌, Bool, true, false, not, ◌&&◌, ◌==◌, if◌then◌else◌, List, [], ◌∷◌}
use Rattle.std.specs.Prelude.{length, map, slice_get, Some}
use Rattle.std.specs.List.{enumerate_from}
use Rattle.std.specs.Option.{option_map_or}
use Rattle.std.proofs.Common.{ap, sym, ◌∙◌, subst, arith, inl, inr}
use Rattle.std.proofs.lemmas.Bool.{eqb-true}
use Rattle.std.proofs.lemmas.Bool.Decides.{nat_tests}
use Rattle.fd_words.specs.Lists.{list_at}
use Rattle.chaos_dist.specs.declared.step_form.StepForm.{StepForm}
use Rattle.fd_program.specs.Checks.{IsChecked, layout_extent}
use Rattle.fd_program.specs.Layouts.{Scene, store_at, owners_at, owners_by}
use Rattle.fd_program.specs.Loops.{after_loop}
use Rattle.fd_program.specs.Past.{form_set, version_at, is_repeat}
use Rattle.fd_program.specs.RecordLaws.{same_version}
use Rattle.fd_program.specs.RunLaws.{IsHistory, IsBefore}
use Rattle.fd_program.specs.Trace.{site_at, is_empty_turn}
use Rattle.fd_program.specs.declared.array.LayoutName.{LayoutName}
use Rattle.fd_program.specs.declared.checked.Checked.{Checked}
use Rattle.fd_program.specs.declared.trace.LoopTurn.{LoopTurn}
use Rattle.fd_program.specs.declared.trace.Step.{Step}
use Rattle.fd_program.specs.declared.trace.Step.TheVariants.{Distribute, Print, Forall}

-- a step that changes nothing: a repeat, a PRINT, a FORALL with an empty range
abbrev pub is_quiet : Checked → List Step → Step → Bool
is_quiet c past (Distribute d form) = is_repeat c past d form
is_quiet c past (Print array) = true
is_quiet c past (Forall site turn) = is_empty_turn turn

-- it moves no decomposition
abbrev pub QuietMovesNone : Type 0
QuietMovesNone = (c : Checked) (past : List Step) (step : Step) (d : ℕ) → is_quiet c past step ≡ true → version_at c (step ∷ past) d
    ≡ version_at c past d

-- it leaves the store
abbrev pub QuietKeepsStore : Type 0
QuietKeepsStore = (s : Scene) (past : List Step) (step : Step) → IsHistory s (step ∷ past) → is_quiet s.checked past step ≡ true
    → store_at s (step ∷ past) ≡ store_at s past

-- and all owners
abbrev pub QuietKeepsOwners : Type 0
QuietKeepsOwners = (s : Scene) (past : List Step) (step : Step) → IsChecked s.checked → IsHistory s (step ∷ past)
    → is_quiet s.checked past step ≡ true
    → owners_at s (step ∷ past) ≡ owners_at s past

-- so does any FORALL
abbrev pub ForallKeepsOwners : Type 0
ForallKeepsOwners = (s : Scene) (past : List Step) (site : ℕ) (turn : LoopTurn) → owners_at s (Forall site turn ∷ past) ≡ owners_at s past

-- after a DISTRIBUTE the owners of its decomposition are those by the new form, and all others are as they were
pub record HasMoved (s : Scene) (past : List Step) (d : ℕ) (form : StepForm) : Type 0 where
  pub own : d < length s.checked.layouts → list_at (owners_at s (Distribute d form ∷ past)) d
      ≡ owners_by s (layout_extent s.checked.layouts d) (form, past)
  pub others : (e : ℕ) → d ≢ e → list_at (owners_at s (Distribute d form ∷ past)) e ≡ list_at (owners_at s past) e

abbrev pub MoveChangesOne : Type 0
MoveChangesOne = (s : Scene) (past : List Step) (d : ℕ) (form : StepForm) → HasMoved s past d form

-- ---- a quiet step

pub before_itself : (past : List Step) → IsBefore past past
before_itself [] = refl
before_itself (step ∷ past) = inl refl

no_move : (n : ℕ) (r : Bool) → r ≡ true → n + (if not r then 1 else 0) ≡ n
no_move n true e = omega arith
no_move n false e = cc

no_more : (n : ℕ) → n + 0 ≡ n
no_more n = omega arith

pub quiet_moves_none : QuietMovesNone
quiet_moves_none c past (Distribute at form) d e = by (at == d) refl
  where
    by : (b : Bool) → (at == d) ≡ b → version_at c past d + (if b && not (is_repeat c past d form) then 1 else 0) ≡ version_at c past d
    by true here = no_move (version_at c past d) (is_repeat c past d form) (subst (λ n. is_repeat c past n form ≡ true)
        (eqb-true at d here) e)
    by false here = no_more (version_at c past d)
quiet_moves_none c past (Print array) d e = no_more (version_at c past d)
quiet_moves_none c past (Forall site turn) d e = no_more (version_at c past d)

pub quiet_keeps_store : QuietKeepsStore
quiet_keeps_store s past (Distribute d form) h e = h.0
quiet_keeps_store s past (Print array) h e = h.0
quiet_keeps_store s past (Forall site turn) h e =
    h.0 ∙ ap (λ b. if b then store_at s past else after_loop s.checked.arrays (site_at s.checked.sites site) turn (store_at s past)) e

same_listed : (s : Scene) (one other : List Step) (layouts : List LayoutName) (a : ℕ)
    → ((d extent : ℕ) → owners_by s extent (form_set one d) ≡ owners_by s extent (form_set other d))
    → map (λ (d, l). owners_by s l.extent (form_set one d)) (enumerate_from a layouts)
    ≡ map (λ (d, l). owners_by s l.extent (form_set other d)) (enumerate_from a layouts)
same_listed s one other [] a same = refl
same_listed s one other (l ∷ layouts) a same =
    ap (λ o. o ∷ map (λ (d, l). owners_by s l.extent (form_set one d)) (enumerate_from (a + 1) layouts)) (same a l.extent)
    ∙ ap (λ os. owners_by s l.extent (form_set other a) ∷ os) (same_listed s one other layouts (a + 1) same)

pub quiet_keeps_owners : QuietKeepsOwners
quiet_keeps_owners s past step known history quiet =
    sym (same_listed s past (step ∷ past) s.checked.layouts 0 (λ d extent.
    same_version s extent past (step ∷ past) d known (inr (before_itself past)) history
    (sym (quiet_moves_none s.checked past step d quiet))))

pub forall_keeps_owners : ForallKeepsOwners
forall_keeps_owners s past site turn = refl

-- ---- a DISTRIBUTE

listed_owners : (s : Scene) (past : List Step) (layouts : List LayoutName) (a k : ℕ)
    → list_at (map (λ (d, l). owners_by s l.extent (form_set past d)) (enumerate_from a layouts)) k
    ≡ option_map_or (λ (l : LayoutName). owners_by s l.extent (form_set past (a + k))) (slice_get layouts k) []
listed_owners s past [] a zero = refl
listed_owners s past [] a (suc k) = refl
listed_owners s past (l ∷ layouts) a zero = let at : a ≡ a + zero = omega arith in ap (λ d. owners_by s l.extent (form_set past d)) at
listed_owners s past (l ∷ layouts) a (suc k) =
    let at : a + 1 + k ≡ a + suc k = omega arith in
    listed_owners s past layouts (a + 1) k ∙ ap (λ d. option_map_or (λ (l : LayoutName). owners_by s l.extent (form_set past d))
    (slice_get layouts k) []) at

-- the owners of a decomposition's elements
pub owners_of-one : (s : Scene) (past : List Step) (d : ℕ)
    → list_at (owners_at s past) d ≡ option_map_or (λ (l : LayoutName). owners_by s l.extent (form_set past d))
    (slice_get s.checked.layouts d) []
owners_of-one s past d =
    let at : 0 + d ≡ d = omega arith in
    listed_owners s past s.checked.layouts 0 d ∙ ap (λ e. option_map_or (λ (l : LayoutName). owners_by s l.extent (form_set past e))
    (slice_get s.checked.layouts d) []) at

pub equals_itself : (n : ℕ) → (n == n) ≡ true
equals_itself n = grind (arith, nat_tests)

pub is_unequal : (n m : ℕ) → n ≢ m → (n == m) ≡ false
is_unequal n m h = grind (arith, nat_tests)

pub there_is : {A : Type 0} (xs : List A) (k : ℕ) → k < length xs → (x : A) × (slice_get xs k ≡ Some x)
there_is [] k h = absurd (omega (arith, h))
there_is (x ∷ xs) zero h = (x, refl)
there_is (x ∷ xs) (suc k) h = there_is xs k (omega (arith, h))

pub move_changes_one : MoveChangesOne
move_changes_one s past d form = record {
  own = λ less.
      let found = there_is s.checked.layouts d less in
      let set : form_set (Distribute d form ∷ past) d ≡ (form, past) = ap (λ b. if b then (form, past) else form_set past d)
      (equals_itself d) in
      owners_of-one s (Distribute d form ∷ past) d
      ∙ ap (λ f. option_map_or (λ (l : LayoutName). owners_by s l.extent f) (slice_get s.checked.layouts d) []) set
      ∙ ap (λ o. option_map_or (λ (l : LayoutName). owners_by s l.extent (form, past)) o []) found.1
      ∙ sym (ap (λ o. owners_by s (option_map_or (λ (l : LayoutName). l.extent) o 0) (form, past)) found.1);
  others = λ e other.
      let set : form_set (Distribute d form ∷ past) e ≡ form_set past e = ap (λ b. if b then (form, past) else form_set past e)
      (is_unequal d e other) in
      owners_of-one s (Distribute d form ∷ past) e
      ∙ ap (λ f. option_map_or (λ (l : LayoutName). owners_by s l.extent f) (slice_get s.checked.layouts e) []) set
      ∙ sym (owners_of-one s past e);
}
