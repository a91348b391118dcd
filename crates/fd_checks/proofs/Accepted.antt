-- Where nothing is at fault along a walk, each of its steps may use that.
use Rattle.std.proofs.Common.{◌≡◌, refl, ℕ, ◌+◌, ◌<◌, suc, zero, Bool, true, false, arith, List, [], ◌∷◌, ◌++◌, Option, Some, None, length}
use Rattle.std.proofs.Common.{get_or, ap, sym, subst}
use Rattle.std.specs.Prelude.{fold, not, ◌||◌, is_some, slice_get, IsSomeAnd, All}
use Rattle.std.specs.List.{AllZip}
use Rattle.std.proofs.lemmas.List.Elements.{All-head, All-tail}
use Rattle.fd_words.specs.declared.source.SourceCause.{SourceCause}
use Rattle.fd_words.specs.declared.source.SourceFault.{SourceFault}
use Rattle.fd_words.specs.declared.source.SourcePlace.{SourcePlace}
use Rattle.fd_scope.specs.Faults.{fault_if, along}

pub left_empty : {A : Type 0} (xs ys : List A) → xs ++ ys ≡ [] → xs ≡ []
left_empty [] ys e = refl
left_empty (x ∷ xs) ys e = cc

pub right_empty : {A : Type 0} (xs ys : List A) → xs ++ ys ≡ [] → ys ≡ []
right_empty [] ys e = e
right_empty (x ∷ xs) ys e = cc

pub test_false : (b : Bool) (at : SourcePlace) (cause : SourceCause) → fault_if b at cause ≡ [] → b ≡ false
test_false true at cause e = cc
test_false false at cause e = refl

pub not_false : (b : Bool) → not b ≡ false → b ≡ true
not_false true e = refl
not_false false e = cc

pub left_false : (a b : Bool) → (a || b) ≡ false → a ≡ false
left_false true b e = cc
left_false false b e = refl

pub right_false : (a b : Bool) → (a || b) ≡ false → b ≡ false
right_false true b e = cc
right_false false b e = e

pub true_not_false : (b : Bool) → b ≡ true → b ≡ false → ⊥
true_not_false true e f = cc
true_not_false false e f = cc

pub kept_along : {S A : Type 0} (P : S → Type 0) (Q : A → Type 0) (after : S → A → S) (faults : S → A → List SourceFault)
    → ((s : S) (x : A) → P s → Q x → faults s x ≡ [] → P (after s x))
    → (xs : List A) (s : S) → P s → All Q xs → along after faults s xs ≡ [] → P (fold after s xs)
kept_along P Q after faults step [] s p q e = p
kept_along P Q after faults step (x ∷ xs) s p q e =
    kept_along P Q after faults step xs (after s x)
    (step s x p (All-head Q x xs q) (left_empty (faults s x) (along after faults (after s x) xs) e))
    (All-tail Q x xs q) (right_empty (faults s x) (along after faults (after s x) xs) e)

-- every item
abbrev pub Anything : {A : Type 0} → A → Type 0
Anything {A} x = Unit {0}

pub anything : {A : Type 0} (xs : List A) → All {X = A} (λ x. Unit {0}) xs
anything xs = λ k d h. tt

-- ---- elements of lists

pub slice_get-front : {A : Type 0} (xs ys : List A) (k : ℕ) (x : A) → slice_get xs k ≡ Some x → slice_get (xs ++ ys) k ≡ Some x
slice_get-front [] ys k x e = cc
slice_get-front (y ∷ xs) ys zero x e = e
slice_get-front (y ∷ xs) ys (suc k) x e = slice_get-front xs ys k x e

pub slice_get-last : {A : Type 0} (xs : List A) (x : A) → slice_get (xs ++ x ∷ []) (length xs) ≡ Some x
slice_get-last [] x = refl
slice_get-last (y ∷ xs) x = slice_get-last xs x

-- an element behind one more is an earlier one, or that one
pub slice_get-push : {A : Type 0} (P : ℕ → A → Type 0) (xs : List A) (x : A) → ((k : ℕ) (y : A) → slice_get xs k ≡ Some y → P k y)
    → P (length xs) x
    → (k : ℕ) (y : A) → slice_get (xs ++ x ∷ []) k ≡ Some y → P k y
slice_get-push P [] x old new zero y e = let f : x ≡ y = cc in subst (P 0) f new
slice_get-push P [] x old new (suc k) y e = cc
slice_get-push P (z ∷ xs) x old new zero y e = old 0 y e
slice_get-push P (z ∷ xs) x old new (suc k) y e = slice_get-push (λ n. P (suc n)) xs x (λ n w f. old (suc n) w f) new k y e

-- ---- two lists along each other

pub zip_length : {A B : Type 0} (R : A → B → Type 0) (xs : List A) (ys : List B) → AllZip R xs ys → length xs ≡ length ys
zip_length R [] [] z = refl
zip_length R [] (y ∷ ys) z = absurd z
zip_length R (x ∷ xs) [] z = absurd z
zip_length R (x ∷ xs) (y ∷ ys) z = ap suc (zip_length R xs ys z.1)

pub zip_at : {A B : Type 0} (R : A → B → Type 0) (xs : List A) (ys : List B) (i : ℕ) (d : A) (e : B) → AllZip R xs ys → i < length xs
    → R (get_or xs i d) (get_or ys i e)
zip_at R [] [] i d e z within = absurd (omega arith)
zip_at R [] (y ∷ ys) i d e z within = absurd z
zip_at R (x ∷ xs) [] i d e z within = absurd z
zip_at R (x ∷ xs) (y ∷ ys) zero d e z within = z.0
zip_at R (x ∷ xs) (y ∷ ys) (suc i) d e z within = zip_at R xs ys i d e z.1 (omega arith)

-- ---- options

pub some_and : {A : Type 0} (o p : Option A) (P : A → Type 0) → ((x : A) → o ≡ Some x → p ≡ Some x) → IsSomeAnd o P → IsSomeAnd p P
some_and {A} None p P keeps h = absurd h
some_and {A} (Some x) p P keeps h = subst (λ (o : Option A). IsSomeAnd o P) (sym (keeps x refl)) h

pub some_and-is : {A : Type 0} (o : Option A) (x : A) (P : A → Type 0) → o ≡ Some x → P x → IsSomeAnd o P
some_and-is {A} o x P e p = subst (λ (w : Option A). IsSomeAnd w P) (sym e) p

pub is_some-some : {A : Type 0} (o : Option A) → is_some o ≡ true → (x : A) × (o ≡ Some x)
is_some-some None e = cc
is_some-some (Some x) e = (x, refl)
