-- Lists that are filtered, mapped or walked in pairs.
use Rattle.std.proofs.Common.{◌≡◌, ℕ, suc, Bool, true, false, cond, ◌&&◌, ◌==◌, List, [], ◌∷◌, length, map, filter, refl, ap, sym, subst}
use Rattle.std.proofs.Common.{◌∙◌, arith, inl, inr, true≢false}
use Rattle.std.specs.List.{AllZip}
use Rattle.std.proofs.lemmas.Bool.Decides.{nat_tests}
use Rattle.fd_program.specs.ListLaws.{Among}

pub both_true : (a b : Bool) → (a && b) ≡ true → (a ≡ true) × (b ≡ true)
both_true true b e = (refl, e)
both_true false b e = absurd (true≢false (sym e))

pub number_is : (n m : ℕ) → (n == m) ≡ true → n ≡ m
number_is n m e = grind (arith, nat_tests)

pub zip_among : {A B : Type 0} (P : A → B → Type 0) (xs : List A) (ys : List B) (x : A) → AllZip P xs ys → Among x xs → (y : B) × P x y
zip_among P [] [] x h a = absurd a
zip_among P [] (y ∷ ys) x h a = absurd h
zip_among P (z ∷ xs) [] x h a = absurd h
zip_among P (z ∷ xs) (y ∷ ys) x h (inl e) = (y, subst (λ w. P w y) (sym e) h.0)
zip_among P (z ∷ xs) (y ∷ ys) x h (inr a) = zip_among P xs ys x h.1 a

pub zip_length : {A B : Type 0} (P : A → B → Type 0) (xs : List A) (ys : List B) → AllZip P xs ys → length xs ≡ length ys
zip_length P [] [] h = refl
zip_length P [] (y ∷ ys) h = absurd h
zip_length P (z ∷ xs) [] h = absurd h
zip_length P (z ∷ xs) (y ∷ ys) h = ap suc (zip_length P xs ys h.1)

pub from_filter : {A : Type 0} (p : A → Bool) (xs : List A) (x : A) → Among x (filter p xs) → Among x xs × (p x ≡ true)
from_filter p [] x a = absurd a
from_filter {A} p (y ∷ xs) x a = by (p y) refl a (from_filter p xs x)
  where
    by : (b : Bool) → p y ≡ b → Among x (cond b (y ∷ filter p xs) (filter p xs)) → (Among x (filter p xs) → Among x xs × (p x ≡ true))
        → Among x (y ∷ xs) × (p x ≡ true)
    by true e (inl same) rest = (inl same, ap p same ∙ e)
    by true e (inr b) rest = let r = rest b in (inr r.0, r.1)
    by false e b rest = let r = rest b in (inr r.0, r.1)

pub among_map : {A B : Type 0} (g : A → B) (xs : List A) (x : A) → Among x xs → Among (g x) (map g xs)
among_map g [] x a = absurd a
among_map g (y ∷ xs) x (inl e) = inl (ap g e)
among_map g (y ∷ xs) x (inr a) = inr (among_map g xs x a)

pub from_map : {A B : Type 0} (g : A → B) (xs : List A) (y : B) → Among y (map g xs) → (x : A) × Among x xs × (y ≡ g x)
from_map g [] y a = absurd a
from_map g (x ∷ xs) y (inl e) = (x, inl refl, e)
from_map g (x ∷ xs) y (inr a) = let rest = from_map g xs y a in (rest.0, inr rest.1, rest.2)

pub among_filter : {A : Type 0} (p : A → Bool) (xs : List A) (x : A) → Among x xs → p x ≡ true → Among x (filter p xs)
among_filter p [] x a e = absurd a
among_filter p (y ∷ xs) x (inl same) e = subst (λ b. Among x (cond b (y ∷ filter p xs) (filter p xs))) (sym (ap p (sym same) ∙ e))
    (inl same)
among_filter p (y ∷ xs) x (inr a) e = by (p y) (among_filter p xs x a e)
  where
    by : (b : Bool) → Among x (filter p xs) → Among x (cond b (y ∷ filter p xs) (filter p xs))
    by true k = inr k
    by false k = k

pub zip_weaker : {A B : Type 0} (P Q : A → B → Type 0) → ((a : A) (b : B) → P a b → Q a b) → (xs : List A) (ys : List B) → AllZip P xs ys
    → AllZip Q xs ys
zip_weaker P Q g [] [] h = tt
zip_weaker P Q g [] (y ∷ ys) h = h
zip_weaker P Q g (x ∷ xs) [] h = h
zip_weaker P Q g (x ∷ xs) (y ∷ ys) h = (g x y h.0, zip_weaker P Q g xs ys h.1)
