-- Writes to a list of Vecs.
use Rattle.std.proofs.Common.{◌≡◌, ℕ, suc, zero, ◌<◌, List, [], ◌∷◌, ◌++◌, length, get_or, set, map, refl, ap, arith, Vec, Result, Ok, Err}
use Rattle.std.proofs.Common.{OnErr, Some, slice_get, sym, ◌∙◌, subst}
use Rattle.std.proofs.lemmas.Option.{slice_get_read}
use Rattle.chaos_letter.specs.declared.letter.Letter.{Letter}
use Rattle.chaos_letter.specs.declared.wanted.Wanted.{Wanted}
use Rattle.chaos_letter.specs.Fits.{Fits}
use Rattle.bsp_core.specs.declared.phased.TakeFault.{TakeFault}
use Rattle.bsp_core.specs.declared.phased.TakeFault.TheVariants.{Stray}
use Rattle.bsp_core.specs.Views.{View, IsStray}
use Rattle.bsp_core.specs.Lists.{items_of}

pub items_same : {X Z : Type 0} (vs : List (Vec X Z)) (i : ℕ) (v d : Vec X Z) → v.items ≡ (get_or vs i d).items
    → items_of (set vs i v) ≡ items_of vs
items_same [] i v d e = refl
items_same (x ∷ xs) zero v d e = ap (λ z. z ∷ items_of xs) e
items_same (x ∷ xs) (suc i) v d e = ap (λ z. x.items ∷ z) (items_same xs i v d e)

pub items_push : {X Z : Type 0} (vs : List (Vec X Z)) (i : ℕ) (v d : Vec X Z) (x : X) → i < length vs → v.items ≡ (get_or vs i d).items
    ++ x ∷ [] →
    items_of (set vs i v) ≡ set (items_of vs) i (get_or (items_of vs) i [] ++ x ∷ [])
items_push [] i v d x l e = refl
items_push (y ∷ ys) zero v d x l e = ap (λ z. z ∷ items_of ys) e
items_push (y ∷ ys) (suc i) v d x l e = ap (λ z. y.items ∷ z) (items_push ys i v d x (omega arith) e)

pub views_same : {N S : Type 0} (view : N → S) (vs : List N) (i : ℕ) (v d : N) → view v ≡ view (get_or vs i d)
    → map view (set vs i v) ≡ map view vs
views_same view [] i v d e = refl
views_same view (x ∷ xs) zero v d e = ap (λ z. z ∷ map view xs) e
views_same view (x ∷ xs) (suc i) v d e = ap (λ z. view x ∷ z) (views_same view xs i v d e)

pub items_at : {X Z : Type 0} (vs : List (Vec X Z)) (i : ℕ) (d : Vec X Z) → i < length vs → (get_or vs i d).items ≡ get_or (items_of vs) i
    []
items_at [] i d l = absurd (omega arith)
items_at (x ∷ xs) zero d l = refl
items_at (x ∷ xs) (suc i) d l = items_at xs i d (omega arith)

pub on_err : {T E P : Type 0} (r : Result T E) → P → OnErr r P
on_err (Ok x) p = tt
on_err (Err x) p = p

pub stray_not : {S : Type 0} (v : View S) (x : Letter) (e : TakeFault) (w : View S) → IsStray v x (Err e) w →
    (wanted : Wanted) × (from : ℕ) × (rest : List (ℕ × Wanted)) × (v.face.due ≡ (from, wanted) ∷ rest) × (¬ Fits wanted x)
stray_not v x (Stray wanted got) w h = (wanted, h.3.0, h.3.1, h.3.2, h.0)

read_in : {X : Type 0} (l m : List X) (k : ℕ) (x y : X) → l ≡ m → k < length l → x ≡ get_or l k x → y ≡ x → slice_get m k ≡ Some y
read_in {X} l m k x y e lt r s =
    slice_get_read m (length m) k x refl (subst (λ (z : List X). k < length z) e lt) (r ∙ ap (λ (z : List X). get_or z k x) e)
    ∙ ap Some (sym s)

pub front_read : {X Z : Type 0} (vs : List (Vec X Z)) (i : ℕ) (d : Vec X Z) (l : List X) (k : ℕ) (x y : X) → i < length vs
    → d ≡ get_or vs i d → l ≡ d.items →
    k < length l → x ≡ get_or l k x → y ≡ x → slice_get (get_or (items_of vs) i []) k ≡ Some y
front_read {X} {Z} vs i d l k x y at is e lt r s = read_in l (get_or (items_of vs) i []) k x y (e ∙ ap (λ (v : Vec X Z). v.items) is
    ∙ items_at vs i d at) lt r s
