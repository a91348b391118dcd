-- What a node evaluates while it has the values of those index references alone that have a plain subscript.
use Rattle.std.specs.Prelude.{◌≡◌, refl, ℕ, suc, ◌+◌, ℤ, Bool, true, false, ◌&&◌, if◌then◌else◌, List, [], ◌∷◌, ◌++◌, drop, filter}
use Rattle.std.specs.Prelude.{filter_map, count_by, cond, slice_get, Option, Some, None}
use Rattle.std.specs.List.{cons_option, AllByRecursion}
use Rattle.std.proofs.Common.{ap, sym, subst, ◌∙◌, arith}
use Rattle.std.proofs.lemmas.List.Elements.{recursion_from_All}
use Rattle.std.proofs.lemmas.List.Sums.{sum_by-cons}
use Rattle.fd_words.specs.Roles.{is_index}
use Rattle.fd_words.specs.declared.place.Role.{Role}
use Rattle.fd_words.specs.declared.place.Role.TheVariants.{Index, Read, Target}
use Rattle.fd_program.specs.Checks.{AreServed, IsIndexing, IsReference, IsServed, IsSite}
use Rattle.fd_program.specs.Homes.{uses_at}
use Rattle.fd_program.specs.Stores.{number_at}
use Rattle.fd_program.specs.Uses.{gives_index, index_value, is_met, is_plain, read_of, subscript_of, use_of, uses_from, uses_known}
use Rattle.fd_program.specs.declared.array.ArrayFacts.{ArrayFacts}
use Rattle.fd_program.specs.declared.loop_facts.LoopFacts.{LoopFacts}
use Rattle.fd_program.specs.declared.loop_use.Use.{Use}
use Rattle.fd_program.specs.declared.reference.CheckedSubscript.{CheckedSubscript}
use Rattle.fd_program.specs.declared.reference.CheckedSubscript.TheVariants.{Plain, Through, Twice, Scalar}
use Rattle.fd_program.specs.declared.reference.Reference.{Reference}
use Rattle.inspect_uses.specs.Reached.{gives_first, known_with}

abbrev pub index_uses : List Use → List Use
index_uses us = filter (λ u. is_index u.role) us

abbrev pub first_value : List ArrayFacts → List (List ℤ) → Use → Option ℤ
first_value arrays store u = if gives_first arrays u then Some (read_of store u) else None

-- the values that those index references of iteration i give
abbrev pub firsts_at : LoopFacts → List (List ℤ) → ℤ → List ℤ
firsts_at f store i = filter_map (first_value f.arrays store) (uses_at f store i)

-- with those first among the values, the index references that are evaluated are the loop's
abbrev pub KnownAreReached : Type 0
KnownAreReached =
    (f : LoopFacts) (store : List (List ℤ)) (i : ℤ) (more : List ℤ) → IsSite f.arrays f.site
    → index_uses (known_with f i (firsts_at f store i ++ more)) ≡ index_uses (uses_at f store i)

-- and behind as many as they give stand the others
abbrev pub FirstsAreBehind : Type 0
FirstsAreBehind =
    (f : LoopFacts) (store : List (List ℤ)) (i : ℤ) (more : List ℤ) → IsSite f.arrays f.site
    → drop (count_by (gives_first f.arrays) (known_with f i (firsts_at f store i ++ more))) (firsts_at f store i ++ more) ≡ more

-- whatever values are told, those with a plain subscript are the loop's
abbrev pub FirstsAreReached : Type 0
FirstsAreReached =
    (f : LoopFacts) (store : List (List ℤ)) (i : ℤ) (values : List ℤ)
    → filter (gives_first f.arrays) (known_with f i values) ≡ filter (gives_first f.arrays) (uses_at f store i)

-- ---- those with a plain subscript

module _ (arrays : List ArrayFacts) (adds : List ℤ) (store : List (List ℤ)) (i : ℤ) where
  -- the use of a reference, with this before it
  abbrev used : Reference → ℕ → Option ℤ → Use
  used r place before = use_of r i (place + 1) (subscript_of r.subscript i (number_at adds place) before)

  same_subscript : (s : CheckedSubscript) (add : ℤ) (a b : Option ℤ) → is_plain s ≡ true → subscript_of s i add a ≡ subscript_of s i add b
  same_subscript (Plain terms) add a b h = refl
  same_subscript (Through index_array at inner terms) add a b h = cc
  same_subscript (Twice outer at inner inner_at first second terms) add a b h = cc
  same_subscript (Scalar scalar) add a b h = cc

  one_first : (r : Reference) (place : ℕ) (a b : Option ℤ) (us vs : List Use) → us ≡ vs
      → cond (gives_first arrays (used r place a)) (used r place a ∷ us) us ≡ cond (gives_first arrays (used r place b))
      (used r place b ∷ vs) vs
  one_first r place a b us vs e = by (is_plain r.subscript) refl
    where
      not_first : (w p : Bool) → p ≡ false → (w && p) ≡ false
      not_first true p h = h
      not_first false p h = refl

      by : (p : Bool) → is_plain r.subscript ≡ p
          → cond (gives_first arrays (used r place a)) (used r place a ∷ us) us ≡ cond (gives_first arrays (used r place b))
          (used r place b ∷ vs) vs
      by true plain =
          let same : used r place a ≡ used r place b =
          ap (λ s. use_of r i (place + 1) s) (same_subscript r.subscript (number_at adds place) a b plain) in
          ap (λ u. cond (gives_first arrays u) (u ∷ us) us) same
          ∙ ap (λ l. cond (gives_first arrays (used r place b)) (used r place b ∷ l) l) e
      by false plain =
          let none : (c : Option ℤ) → gives_first arrays (used r place c) ≡ false =
          λ c. not_first (gives_index arrays (used r place c)) (is_plain r.subscript) plain in
          ap (λ t. cond t (used r place a ∷ us) us) (none a) ∙ e ∙ sym (ap (λ t. cond t (used r place b ∷ vs) vs) (none b))

  firsts_same : (place : ℕ) (a b : Option ℤ) (rs : List Reference) (values : List ℤ)
      → filter (gives_first arrays) (uses_known arrays adds i place a rs values) ≡ filter (gives_first arrays)
      (uses_from arrays adds store i place b rs)
  firsts_same place a b [] values = refl
  firsts_same place a b (r ∷ rs) values =
      one_first r place a b _ _ (firsts_same (place + 1) _ (index_value arrays store (used r place b)) rs _)

pub firsts_are_reached : FirstsAreReached
firsts_are_reached f store i values = firsts_same f.arrays f.turn.adds store i 0 None None f.site.references values

-- ---- with their values, all index references

left_true : (a b : Bool) → (a && b) ≡ true → a ≡ true
left_true true b e = refl
left_true false b e = cc

module _ (arrays : List ArrayFacts) (adds : List ℤ) (store : List (List ℤ)) (i : ℤ) (more : List ℤ) where
  abbrev firsts : List Use → List ℤ
  firsts us = filter_map (first_value arrays store) us

  -- what the reference before gives is the same, unless it is an index reference through another
  abbrev Same : Option Reference → Option ℤ → Option ℤ → Type 0
  Same None a b = a ≡ b
  Same (Some r) a b = (is_index r.role ≡ true → is_plain r.subscript ≡ false → ⊥) → a ≡ b

  abbrev Right : ℕ → List Reference → Option ℤ → Option ℤ → Type 0
  Right place rs n m =
      index_uses (uses_known arrays adds i place n rs (firsts (uses_from arrays adds store i place m rs) ++ more))
      ≡ index_uses (uses_from arrays adds store i place m rs)

  module _ (place : ℕ) (r : Reference) (rs : List Reference)
      (go : (n m : Option ℤ) → Same (Some r) n m → Right (place + 1) rs n m) where
    -- p: its subscript is plain; g, h: the evaluated one gives a value, and the true one, which is e
    abbrev Goal : Bool → Bool → Bool → ℤ → Use → Use → Type 0
    Goal p g h e u v =
        let m = if h then Some e else None in
        let values = cons_option (if h && p then Some e else None) (firsts (uses_from arrays adds store i (place + 1) m rs)) ++ more in
        let known = index_uses (uses_known arrays adds i (place + 1) (if p then (if g then slice_get values 0 else None) else None) rs
        (if p then (if g then drop 1 values else values) else values)) in
        let real = index_uses (uses_from arrays adds store i (place + 1) m rs) in
        cond (is_index u.role) (u ∷ known) known ≡ cond (is_index v.role) (v ∷ real) real

    abbrev GoalOf : Use → Use → Type 0
    GoalOf u v = Goal (is_plain r.subscript) (gives_index arrays u) (gives_index arrays v) (read_of store v) u v

    rest : (n m : Option ℤ) → Same (Some r) n m → Right (place + 1) rs n m
    rest = go

    -- one use
    one : (p h : Bool) (e : ℤ) (u : Use) → (h ≡ true → p ≡ false → (m : Option ℤ) → Same (Some r) None m) → Goal p h h e u u
    one true true e u second = ap (λ l. cond (is_index u.role) (u ∷ l) l) (rest (Some e) (Some e) (λ n. refl))
    one true false e u second = ap (λ l. cond (is_index u.role) (u ∷ l) l) (rest None None (λ n. refl))
    one false true e u second = ap (λ l. cond (is_index u.role) (u ∷ l) l) (rest None (Some e) (second refl refl (Some e)))
    one false false e u second = ap (λ l. cond (is_index u.role) (u ∷ l) l) (rest None None (λ n. refl))

    -- neither is an index reference
    none : (p g h : Bool) (e : ℤ) (u v : Use) → is_index u.role ≡ false → is_index v.role ≡ false → p ≡ false → h ≡ false
        → Goal p g h e u v
    none true g h e u v no_u no_v not_plain no_gift = cc
    none false g true e u v no_u no_v not_plain no_gift = cc
    none false g false e u v no_u no_v not_plain no_gift =
        ap (λ b. cond b (u ∷ index_uses (uses_known arrays adds i (place + 1) None rs
        (firsts (uses_from arrays adds store i (place + 1) None rs) ++ more)))
        (index_uses (uses_known arrays adds i (place + 1) None rs
        (firsts (uses_from arrays adds store i (place + 1) None rs) ++ more)))) no_u
        ∙ rest None None (λ n. refl)
        ∙ sym (ap (λ b. cond b (v ∷ index_uses (uses_from arrays adds store i (place + 1) None rs))
        (index_uses (uses_from arrays adds store i (place + 1) None rs))) no_v)

    abbrev made : Option ℤ → Use
    made before = used arrays adds store i r place before

    same_one : (a b : Option ℤ) → made a ≡ made b
        → (gives_index arrays (made b) ≡ true → is_plain r.subscript ≡ false → (m : Option ℤ) → Same (Some r) None m)
        → GoalOf (made a) (made b)
    same_one a b e second =
        subst (λ u. GoalOf u (made b)) (sym e)
        (one (is_plain r.subscript) (gives_index arrays (made b)) (read_of store (made b)) (made b) second)

    -- a reference that isn't an index reference
    other : (a b : Option ℤ) → is_plain r.subscript ≡ false → (is_index r.role ≡ true → ⊥) → GoalOf (made a) (made b)
    other a b not_plain not_index = by (is_index r.role) refl
      where
        by : (k : Bool) → is_index r.role ≡ k → GoalOf (made a) (made b)
        by true e = absurd (not_index e)
        by false e =
            none (is_plain r.subscript) (gives_index arrays (made a)) (gives_index arrays (made b)) (read_of store (made b)) (made a)
            (made b) e e not_plain (ap (λ k. k && is_met arrays (made b)) e)

    role_index : (k : Role) → is_index k ≡ true → k ≡ Index
    role_index Index e = refl
    role_index Read e = cc
    role_index Target e = cc

    step : (a b : Option ℤ) (s : CheckedSubscript) → r.subscript ≡ s → (last : Option Reference) → Same last a b → IsServed last s
        → (r.role ≡ Index → IsIndexing s) → GoalOf (made a) (made b)
    step a b (Plain terms) e last same served index =
        same_one a b (ap (use_of r i (place + 1)) (same_subscript arrays adds store i r.subscript (number_at adds place) a b (ap is_plain e)))
        (λ gives not_plain. let plain : is_plain r.subscript ≡ true = ap is_plain e in absurd (no_plain plain not_plain))
      where
        no_plain : is_plain r.subscript ≡ true → is_plain r.subscript ≡ false → ⊥
        no_plain x y = cc
    step a b (Through array at inner terms) e None same served index = absurd served
    step a b (Through array at inner terms) e (Some q) same served index =
        let plain : is_plain q.subscript ≡ true = ap is_plain served.subscript in
        let equal : a ≡ b = same (λ role not_plain. no_plain plain not_plain) in
        same_one a b (ap made equal) (λ gives not_plain m no. absurd (no (left_true _ _ gives) not_plain))
      where
        no_plain : is_plain q.subscript ≡ true → is_plain q.subscript ≡ false → ⊥
        no_plain x y = cc
    step a b (Twice outer at inner inner_at first second terms) e last same served index =
        other a b (ap is_plain e) (λ k. index (role_index r.role k))
    step a b (Scalar scalar) e last same served index = other a b (ap is_plain e) (λ k. index (role_index r.role k))

  known_right : (place : ℕ) (last : Option Reference) (a b : Option ℤ) (rs : List Reference) → Same last a b → AreServed last rs
      → AllByRecursion (IsReference arrays) rs → Right place rs a b
  known_right place last a b [] same served known = refl
  known_right place last a b (r ∷ rs) same served known =
      step place r rs (λ n m s. known_right (place + 1) (Some r) n m rs s served.1 known.1) a b r.subscript refl last same served.0
      known.0.index

pub known_are_reached : KnownAreReached
known_are_reached f store i more site =
    known_right f.arrays f.turn.adds store i more 0 None None None f.site.references refl site.served
    (recursion_from_All (IsReference f.arrays) f.site.references site.references)

-- ---- how many they are

-- index references alone give values
count_indexes : (arrays : List ArrayFacts) (us : List Use) → count_by (gives_first arrays) (index_uses us) ≡ count_by (gives_first arrays) us
count_indexes arrays [] = refl
count_indexes arrays (u ∷ us) = by (is_index u.role) refl (count_indexes arrays us)
    ∙ sym (sum_by-cons (λ w. cond (gives_first arrays w) 1 0) u us)
  where
    by : (k : Bool) → is_index u.role ≡ k → count_by (gives_first arrays) (index_uses us) ≡ count_by (gives_first arrays) us
        → count_by (gives_first arrays) (cond k (u ∷ index_uses us) (index_uses us)) ≡ cond (gives_first arrays u) 1 0
        + count_by (gives_first arrays) us
    by true e rest = sum_by-cons (λ w. cond (gives_first arrays w) 1 0) u (index_uses us)
        ∙ ap (λ n. cond (gives_first arrays u) 1 0 + n) rest
    by false e rest =
        let none : gives_first arrays u ≡ false = ap (λ k. (k && is_met arrays u) && u.plain) e in
        let same : 0 + count_by (gives_first arrays) us ≡ count_by (gives_first arrays) us = omega arith in
        rest ∙ sym same ∙ ap (λ b. cond b 1 0 + count_by (gives_first arrays) us) (sym none)

behind_firsts : (arrays : List ArrayFacts) (store : List (List ℤ)) (us : List Use) (more : List ℤ)
    → drop (count_by (gives_first arrays) us) (filter_map (first_value arrays store) us ++ more) ≡ more
behind_firsts arrays store [] more = refl
behind_firsts arrays store (u ∷ us) more =
    ap (λ n. drop n (filter_map (first_value arrays store) (u ∷ us) ++ more)) (sum_by-cons (λ v. cond (gives_first arrays v) 1 0) u us)
    ∙ by (gives_first arrays u) (read_of store u) (count_by (gives_first arrays) us) (filter_map (first_value arrays store) us)
    (behind_firsts arrays store us more)
  where
    by : (b : Bool) (v : ℤ) (n : ℕ) (values : List ℤ) → drop n (values ++ more) ≡ more
        → drop (cond b 1 0 + n) (cons_option (if b then Some v else None) values ++ more) ≡ more
    by true v n values rest = let next : 1 + n ≡ suc n = omega arith in ap (λ k. drop k (v ∷ (values ++ more))) next ∙ rest
    by false v n values rest = let same : 0 + n ≡ n = omega arith in ap (λ k. drop k (values ++ more)) same ∙ rest

pub firsts_are_behind : FirstsAreBehind
firsts_are_behind f store i more site =
    let values = firsts_at f store i ++ more in
    ap (λ n. drop n values) (sym (count_indexes f.arrays (known_with f i values))
    ∙ ap (count_by (gives_first f.arrays)) (known_are_reached f store i more site)
    ∙ count_indexes f.arrays (uses_at f store i))
    ∙ behind_firsts f.arrays store (uses_at f store i) more
