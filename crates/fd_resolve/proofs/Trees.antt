-- What code appends at a tree, from what it appends at the parts.
use Rattle.std.proofs.Common.{◌≡◌, List, [], ◌∷◌, ◌++◌, ap, sym, ◌∙◌, append_assoc}
use Rattle.std.specs.Prelude.{Result, Ok, Err, OnOk}

pub appended_one : {A X : Type 0} (f : A → List X) (s t got : A) (old new : List X) → got ≡ t → f s ≡ f t → new ≡ old ++ f got
    → new ≡ old ++ f s
appended_one f s t got old new g e h = h ∙ ap (λ x. old ++ f x) g ∙ ap (λ xs. old ++ xs) (sym e)

pub appended_two : {A X : Type 0} (f : A → List X) (s left right got_left got_right : A) (old one two : List X) → got_left ≡ left
    → got_right ≡ right → f s ≡ f left ++ f right
    → one ≡ old ++ f got_left → two ≡ one ++ f got_right → two ≡ old ++ f s
appended_two f s left right got_left got_right old one two el er e h k =
    k ∙ ap (λ x. one ++ f x) er ∙ ap (λ o. o ++ f right) (h ∙ ap (λ x. old ++ f x) el) ∙ append_assoc old (f left) (f right)
    ∙ ap (λ xs. old ++ xs) (sym e)

pub headed_one : {A X : Type 0} (f : A → List X) (m : X) (s t got : A) (old head new : List X) → got ≡ t → f s ≡ m ∷ f t
    → head ≡ old ++ m ∷ [] → new ≡ head ++ f got
    → new ≡ old ++ f s
headed_one f m s t got old head new g e h k =
    k ∙ ap (λ x. head ++ f x) g ∙ ap (λ o. o ++ f t) h ∙ append_assoc old (m ∷ []) (f t) ∙ ap (λ xs. old ++ xs) (sym e)

pub headed_two : {A X : Type 0} (f : A → List X) (m : X) (s left right got_left got_right : A) (old head one two : List X)
    → got_left ≡ left → got_right ≡ right
    → f s ≡ m ∷ (f left ++ f right) → head ≡ old ++ m ∷ [] → one ≡ head ++ f got_left → two ≡ one ++ f got_right → two ≡ old ++ f s
headed_two f m s left right got_left got_right old head one two el er e h k j =
    j ∙ ap (λ x. one ++ f x) er ∙ ap (λ o. o ++ f right) (k ∙ ap (λ x. head ++ f x) el ∙ ap (λ o. o ++ f left) h)
    ∙ append_assoc (old ++ m ∷ []) (f left) (f right) ∙ append_assoc old (m ∷ []) (f left ++ f right) ∙ ap (λ xs. old ++ xs) (sym e)

pub always : {A E : Type 0} (r : Result A E) (P : Type 0) → P → OnOk r P
always (Ok x) P p = p
always (Err x) P p = tt
