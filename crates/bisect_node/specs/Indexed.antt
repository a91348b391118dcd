-- Lists gone through with the places of their items.
use Rattle.std.specs.Prelude.{◌≡◌, ℕ, suc, ◌+◌, ◌<◌, Bool, true, false, cond, if◌then◌else◌, List, [], ◌∷◌, ◌++◌, length, map, filter, take}
use Rattle.std.specs.Prelude.{Some, slice_get}
use Rattle.std.proofs.Common.{ap, sym, ◌∙◌, arith, refl, get_or, subst}
use Rattle.std.proofs.lemmas.List.{take_more, length-take-le}

-- what each item with its place gives, from a place on
abbrev pub map_from : {X Y : Type 0} → (ℕ → X → Y) → ℕ → List X → List Y
map_from f at [] = []
map_from f at (x ∷ xs) = f at x ∷ map_from f (at + 1) xs

-- those items whose places pass
abbrev pub filter_from : {X : Type 0} → (ℕ → Bool) → ℕ → List X → List X
filter_from p at [] = []
filter_from p at (x ∷ xs) = if p at then x ∷ filter_from p (at + 1) xs else filter_from p (at + 1) xs

-- ---- one item more

map_from-push : {X Y : Type 0} (f : ℕ → X → Y) (at n : ℕ) (xs : List X) (x : X) → at + length xs ≡ n
    → map_from f at (xs ++ x ∷ []) ≡ map_from f at xs ++ f n x ∷ []
map_from-push f at n [] x e = ap (λ k. f k x ∷ []) (let same : at ≡ n = omega (arith, e) in same)
map_from-push f at n (y ∷ ys) x e = ap (λ l. f at y ∷ l) (map_from-push f (at + 1) n ys x (omega (arith, e)))

pub map_from-at : {X Y : Type 0} (f : ℕ → X → Y) (xs : List X) (i : ℕ) (d : X) (ys zs : List Y) → i < length xs
    → ys ≡ map_from f 0 (take i xs) → zs ≡ ys ++ f i (get_or xs i d) ∷ [] → zs ≡ map_from f 0 (take (i + 1) xs)
map_from-at {X} {Y} f xs i d ys zs less before more =
    let long : 0 + length (take i xs) ≡ i = omega (arith, length-take-le i xs (omega (arith, less))) in
    more
    ∙ ap (λ l. l ++ f i (get_or xs i d) ∷ []) before
    ∙ sym (map_from-push f 0 i (take i xs) (get_or xs i d) long)
    ∙ sym (ap (map_from f 0) (take_more xs i d less))

filter_from-push : {X : Type 0} (p : ℕ → Bool) (at n : ℕ) (xs : List X) (x : X) → at + length xs ≡ n
    → filter_from p at (xs ++ x ∷ []) ≡ filter_from p at xs ++ cond (p n) (x ∷ []) []
filter_from-push p at n [] x e = ap (λ k. cond (p k) (x ∷ []) []) (let same : at ≡ n = omega (arith, e) in same)
filter_from-push {X} p at n (y ∷ ys) x e = by (p at) (filter_from-push p (at + 1) n ys x (omega (arith, e)))
  where
    last : List X
    last = cond (p n) (x ∷ []) []

    by : (b : Bool) → filter_from p (at + 1) (ys ++ x ∷ []) ≡ filter_from p (at + 1) ys ++ last
        → cond b (y ∷ filter_from p (at + 1) (ys ++ x ∷ [])) (filter_from p (at + 1) (ys ++ x ∷ []))
        ≡ cond b (y ∷ filter_from p (at + 1) ys) (filter_from p (at + 1) ys) ++ last
    by true ih = ap (λ l. y ∷ l) ih
    by false ih = ih

pub filter_from-at : {X : Type 0} (p : ℕ → Bool) (xs : List X) (i : ℕ) (d : X) → i < length xs
    → filter_from p 0 (take (i + 1) xs) ≡ filter_from p 0 (take i xs) ++ cond (p i) (get_or xs i d ∷ []) []
filter_from-at {X} p xs i d less =
    let long : 0 + length (take i xs) ≡ i = omega (arith, length-take-le i xs (omega (arith, less))) in
    ap (filter_from p 0) (take_more xs i d less) ∙ filter_from-push p 0 i (take i xs) (get_or xs i d) long

-- ---- over a list that is made of another

shifted : {A : Type 0} (P : ℕ → A → Type 0) (at : ℕ) (g : A) (gs : List A)
    → ((k : ℕ) (h : A) → slice_get (g ∷ gs) k ≡ Some h → P (at + k) h) → (k : ℕ) (h : A) → slice_get gs k ≡ Some h → P (at + 1 + k) h
shifted P at g gs each k h e = substituted (each (suc k) h e)
  where
    same : at + suc k ≡ at + 1 + k
    same = omega arith

    substituted : P (at + suc k) h → P (at + 1 + k) h
    substituted p = subst (λ n. P n h) same p

pub map_from-made : {A X Y : Type 0} (f : ℕ → X → Y) (make : A → X) (F : A → Y) (at : ℕ) (gs : List A)
    → ((k : ℕ) (g : A) → slice_get gs k ≡ Some g → f (at + k) (make g) ≡ F g) → map_from f at (map make gs) ≡ map F gs
map_from-made f make F at [] each = refl
map_from-made {A} {X} {Y} f make F at (g ∷ gs) each =
    let here : at + 0 ≡ at = omega arith in
    ap (λ (y : Y). y ∷ map_from f (at + 1) (map make gs)) (ap (λ k. f k (make g)) (sym here) ∙ each 0 g refl)
    ∙ ap (λ l. F g ∷ l) (map_from-made f make F (at + 1) gs (shifted (λ k h. f k (make h) ≡ F h) at g gs each))

pub filter_from-made : {A X : Type 0} (p : ℕ → Bool) (make : A → X) (q : A → Bool) (at : ℕ) (gs : List A)
    → ((k : ℕ) (g : A) → slice_get gs k ≡ Some g → p (at + k) ≡ q g) → filter_from p at (map make gs) ≡ map make (filter q gs)
filter_from-made p make q at [] each = refl
filter_from-made {A} {X} p make q at (g ∷ gs) each =
    let here : at + 0 ≡ at = omega arith in
    ap (λ b. cond b (make g ∷ filter_from p (at + 1) (map make gs)) (filter_from p (at + 1) (map make gs)))
    (ap p (sym here) ∙ each 0 g refl)
    ∙ by (q g) (filter_from-made p make q (at + 1) gs (shifted (λ k h. p k ≡ q h) at g gs each))
  where
    rest : List X
    rest = filter_from p (at + 1) (map make gs)

    by : (b : Bool) → rest ≡ map make (filter q gs) → cond b (make g ∷ rest) rest ≡ map make (cond b (g ∷ filter q gs) (filter q gs))
    by true e = ap (λ l. make g ∷ l) e
    by false e = e
