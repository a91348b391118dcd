-- Index references of a level: what is evaluated of them from the values that are known then are the loop's.
use Rattle.std.proofs.Common.{◌≡◌, ℤ, Bool, true, false, cond, List, [], ◌∷◌, ◌++◌, map, filter, drop, Some, None, refl, ap, sym, ◌∙◌}
use Rattle.std.proofs.Common.{ℕ, ◌+◌, append_assoc, append-nil}
use Rattle.std.specs.Prelude.{◌&&◌, ◌||◌, not, count_by, filter_map}
use Rattle.std.specs.List.{flat_map, list_any, cons_option, AllByRecursion}
use Rattle.std.proofs.lemmas.List.Elements.{filter-append, filter_map-append, recursion_from_All}
use Rattle.fd_words.specs.Roles.{is_index}
use Rattle.fd_words.specs.declared.place.Role.{Role}
use Rattle.fd_words.specs.declared.place.Role.TheVariants.{Index, Read, Target}
use Rattle.fd_program.specs.Checks.{AreServed, IsIndexing, IsReference, IsServed, IsSite}
use Rattle.fd_program.specs.Homes.{inspected_by, uses_at}
use Rattle.fd_program.specs.ListLaws.{all_flat_map}
use Rattle.fd_program.specs.Stores.{number_at}
use Rattle.std.proofs.Common.{Option}
use Rattle.fd_program.specs.Uses.{gives_index, index_value, is_met, is_plain, read_of, subscript_of, use_of, uses_from}
use Rattle.fd_program.specs.declared.loop_facts.LoopFacts.{LoopFacts}
use Rattle.fd_program.specs.declared.loop_use.Use.{Use}
use Rattle.fd_program.specs.declared.reference.CheckedSubscript.{CheckedSubscript}
use Rattle.fd_program.specs.declared.reference.CheckedSubscript.TheVariants.{Plain, Through, Twice, Scalar}
use Rattle.fd_program.specs.declared.reference.Reference.{Reference}
use Rattle.plan_loop.specs.LoopLetters.{has_level, index_uses_of, indexes_of, is_at}
use Rattle.plan_loop.specs.declared.loop_phase.Asking.TheVariants.{Indexes}
use Rattle.plan_loop.specs.declared.loop_phase.Level.{Level}
use Rattle.plan_loop.specs.declared.loop_phase.Level.TheVariants.{First, Second}
use Rattle.inspect_uses.specs.KnownLaws.{first_value, firsts_are_behind, firsts_are_reached, firsts_at, index_uses, known_are_reached}
use Rattle.inspect_uses.specs.Reached.{gives_first, known_with}
use Rattle.chaos_inspect.specs.Inspecting.{AreKnown}
use Rattle.chaos_inspect.specs.Met.{firsts_of, values_of}
use Rattle.chaos_inspect.specs.Walking.{is_reached, known_through, woven}
use Rattle.chaos_inspect.proofs.Walks.{given_all}

-- ---- lists

filter_same : {A : Type 0} (p q : A → Bool) → ((x : A) → p x ≡ q x) → (xs : List A) → filter p xs ≡ filter q xs
filter_same p q same [] = refl
filter_same p q same (x ∷ xs) =
    ap (λ b. cond b (x ∷ filter p xs) (filter p xs)) (same x) ∙ ap (λ l. cond (q x) (x ∷ l) l) (filter_same p q same xs)

-- those that a weaker test keeps
filter_within : {A : Type 0} (q p : A → Bool) → ((x : A) → p x ≡ false → q x ≡ false) → (xs : List A) → filter q xs
    ≡ filter q (filter p xs)
filter_within q p weaker [] = refl
filter_within q p weaker (x ∷ xs) = by (p x) refl (filter_within q p weaker xs)
  where
    by : (b : Bool) → p x ≡ b → filter q xs ≡ filter q (filter p xs)
        → cond (q x) (x ∷ filter q xs) (filter q xs) ≡ filter q (cond b (x ∷ filter p xs) (filter p xs))
    by true e rest = ap (λ l. cond (q x) (x ∷ l) l) rest
    by false e rest = ap (λ b. cond b (x ∷ filter q xs) (filter q xs)) (weaker x e) ∙ rest

filter_between : {A : Type 0} (a b c : A → Bool) (xs : List A) → filter (λ x. (a x && b x) && c x) xs
    ≡ filter b (filter (λ x. a x && c x) xs)
filter_between a b c [] = refl
filter_between {A} a b c (x ∷ xs) = by (a x) (b x) (c x) refl (filter_between a b c xs)
  where
    kept : List A
    kept = filter (λ y. (a y && b y) && c y) xs

    both : List A
    both = filter (λ y. a y && c y) xs

    by : (i j k : Bool) → b x ≡ j → kept ≡ filter b both
        → cond ((i && j) && k) (x ∷ kept) kept ≡ filter b (cond (i && k) (x ∷ both) both)
    by true true true e rest = ap (λ l. x ∷ l) rest ∙ sym (ap (λ t. cond t (x ∷ filter b both) (filter b both)) e)
    by true true false e rest = rest
    by true false true e rest = rest ∙ sym (ap (λ t. cond t (x ∷ filter b both) (filter b both)) e)
    by true false false e rest = rest
    by false j k e rest = rest

-- ---- the references of several iterations

known_firsts : (f : LoopFacts) (store : List (List ℤ)) (is values : List ℤ)
    → filter (gives_first f.arrays) (known_through f is values) ≡ filter (gives_first f.arrays) (flat_map (uses_at f store) is)
known_firsts f store [] values = refl
known_firsts f store (i ∷ is) values =
    let rest = drop (count_by (gives_first f.arrays) (known_with f i values)) values in
    filter-append (gives_first f.arrays) (known_with f i values) (known_through f is rest)
    ∙ ap (λ l. l ++ filter (gives_first f.arrays) (known_through f is rest)) (firsts_are_reached f store i values)
    ∙ ap (λ l. filter (gives_first f.arrays) (uses_at f store i) ++ l) (known_firsts f store is rest)
    ∙ sym (filter-append (gives_first f.arrays) (uses_at f store i) (flat_map (uses_at f store) is))

known_indexes : (f : LoopFacts) (store : List (List ℤ)) (is more : List ℤ) → IsSite f.arrays f.site
    → index_uses (known_through f is (flat_map (firsts_at f store) is ++ more)) ≡ index_uses (flat_map (uses_at f store) is)
known_indexes f store [] more site = refl
known_indexes f store (i ∷ is) more site =
    let later = flat_map (firsts_at f store) is ++ more in
    let values = firsts_at f store i ++ later in
    let rest : List ℤ → List Use = λ vs. known_with f i values ++ known_through f is vs in
    ap (λ vs. index_uses (known_through f (i ∷ is) vs)) (append_assoc (firsts_at f store i) (flat_map (firsts_at f store) is) more)
    ∙ ap (λ vs. index_uses (rest vs)) (firsts_are_behind f store i later site)
    ∙ filter-append (λ (u : Use). is_index u.role) (known_with f i values) (known_through f is later)
    ∙ ap (λ l. l ++ index_uses (known_through f is later)) (known_are_reached f store i later site)
    ∙ ap (λ l. index_uses (uses_at f store i) ++ l) (known_indexes f store is more site)
    ∙ sym (filter-append (λ (u : Use). is_index u.role) (uses_at f store i) (flat_map (uses_at f store) is))

all_known : (f : LoopFacts) (store : List (List ℤ)) (p : ℕ) (values : List ℤ) → IsSite f.arrays f.site → values ≡ firsts_of f store p
    → index_uses (known_through f (inspected_by f p) values) ≡ index_uses (flat_map (uses_at f store) (inspected_by f p))
all_known f store p values site known =
    ap (λ vs. index_uses (known_through f (inspected_by f p) vs)) (known ∙ sym (append-nil (firsts_of f store p)))
    ∙ known_indexes f store (inspected_by f p) [] site

not_index : (k a b : Bool) → k ≡ false → ((k && a) && b) ≡ false
not_index k a b e = ap (λ t. (t && a) && b) e

not_given : (k b : Bool) → k ≡ false → (k && b) ≡ false
not_given k b e = ap (λ t. t && b) e

level_filter : (f : LoopFacts) (level : Level) (us : List Use) → filter (is_reached f (Indexes level)) us
    ≡ filter (is_reached f (Indexes level)) (index_uses us)
level_filter f level us =
    filter_within (is_reached f (Indexes level)) (λ u. is_index u.role)
    (λ u e. not_index (is_index u.role) (is_at level u.plain) (is_met f.arrays u) e) us

first_filter : (f : LoopFacts) (us : List Use) → filter (is_reached f (Indexes First)) us ≡ filter (gives_first f.arrays) us
first_filter f us = filter_same (is_reached f (Indexes First)) (gives_first f.arrays)
    (λ u. by (is_index u.role) u.plain (is_met f.arrays u)) us
  where
    by : (a b c : Bool) → ((a && b) && c) ≡ ((a && c) && b)
    by true true true = refl
    by true true false = refl
    by true false true = refl
    by true false false = refl
    by false b c = refl

-- those of a level
pub level_right : (f : LoopFacts) (store : List (List ℤ)) (p : ℕ) (level : Level) (values : List ℤ) → IsSite f.arrays f.site
    → AreKnown f store p level values
    → filter (is_reached f (Indexes level)) (known_through f (inspected_by f p) values)
    ≡ filter (is_reached f (Indexes level)) (flat_map (uses_at f store) (inspected_by f p))
level_right f store p First values site known =
    let all = flat_map (uses_at f store) (inspected_by f p) in
    first_filter f (known_through f (inspected_by f p) values)
    ∙ known_firsts f store (inspected_by f p) values
    ∙ sym (first_filter f all)
level_right f store p Second values site known =
    let all = flat_map (uses_at f store) (inspected_by f p) in
    level_filter f Second (known_through f (inspected_by f p) values)
    ∙ ap (filter (is_reached f (Indexes Second))) (all_known f store p values site known)
    ∙ sym (level_filter f Second all)

pub reached_indexes : (f : LoopFacts) (store : List (List ℤ)) (p : ℕ) (level : Level)
    → filter (is_reached f (Indexes level)) (flat_map (uses_at f store) (inspected_by f p)) ≡ indexes_of f store level p
reached_indexes f store p level =
    filter_between (λ u. is_index u.role) (λ u. is_at level u.plain) (λ u. is_met f.arrays u)
    (flat_map (uses_at f store) (inspected_by f p))

-- of both levels
pub indexes_right : (f : LoopFacts) (store : List (List ℤ)) (p : ℕ) (values : List ℤ) → IsSite f.arrays f.site
    → values ≡ firsts_of f store p
    → filter (gives_index f.arrays) (known_through f (inspected_by f p) values) ≡ index_uses_of f store p
indexes_right f store p values site known =
    let all = flat_map (uses_at f store) (inspected_by f p) in
    filter_within (gives_index f.arrays) (λ u. is_index u.role) (λ u e. not_given (is_index u.role) (is_met f.arrays u) e)
    (known_through f (inspected_by f p) values)
    ∙ ap (filter (gives_index f.arrays)) (all_known f store p values site known)
    ∙ sym (filter_within (gives_index f.arrays) (λ u. is_index u.role) (λ u e. not_given (is_index u.role) (is_met f.arrays u) e) all)

-- ---- values

first_one : (f : LoopFacts) (store : List (List ℤ)) (us : List Use)
    → map (read_of store) (filter (λ u. u.plain) (filter (gives_index f.arrays) us)) ≡ filter_map (first_value f.arrays store) us
first_one f store [] = refl
first_one f store (u ∷ us) = by (gives_index f.arrays u) u.plain refl (first_one f store us)
  where
    kept : List Use
    kept = filter (gives_index f.arrays) us

    plain : List Use
    plain = filter (λ v. v.plain) kept

    by : (g p : Bool) → u.plain ≡ p → map (read_of store) plain ≡ filter_map (first_value f.arrays store) us
        → map (read_of store) (filter (λ v. v.plain) (cond g (u ∷ kept) kept))
        ≡ cons_option (cond (g && p) (Some (read_of store u)) None) (filter_map (first_value f.arrays store) us)
    by true true e rest = ap (λ b. map (read_of store) (cond b (u ∷ plain) plain)) e ∙ ap (λ l. read_of store u ∷ l) rest
    by true false e rest = ap (λ b. map (read_of store) (cond b (u ∷ plain) plain)) e ∙ rest
    by false p e rest = rest

-- those of the first level
pub firsts_given : (f : LoopFacts) (store : List (List ℤ)) (p : ℕ) → map (read_of store) (indexes_of f store First p) ≡ firsts_of f store p
firsts_given f store p = first_one f store (flat_map (uses_at f store) (inspected_by f p)) ∙ split (inspected_by f p)
  where
    split : (is : List ℤ) → filter_map (first_value f.arrays store) (flat_map (uses_at f store) is) ≡ flat_map (firsts_at f store) is
    split [] = refl
    split (i ∷ is) =
        filter_map-append (first_value f.arrays store) (uses_at f store i) (flat_map (uses_at f store) is)
        ∙ ap (λ l. firsts_at f store i ++ l) (split is)

-- both levels' values, in the order of the references
woven_all : (store : List (List ℤ)) (us : List Use)
    → woven us (map (read_of store) (filter (λ u. u.plain) us)) (map (read_of store) (filter (λ u. not u.plain) us)) ≡ map (read_of store) us
woven_all store [] = refl
woven_all store (u ∷ us) = by u.plain (woven_all store us)
  where
    firsts : List Use
    firsts = filter (λ v. v.plain) us

    seconds : List Use
    seconds = filter (λ v. not v.plain) us

    by : (b : Bool) → woven us (map (read_of store) firsts) (map (read_of store) seconds) ≡ map (read_of store) us
        → cond b (number_at (map (read_of store) (cond b (u ∷ firsts) firsts)) 0
        ∷ woven us (drop 1 (map (read_of store) (cond b (u ∷ firsts) firsts))) (map (read_of store) (cond (not b) (u ∷ seconds) seconds)))
        (number_at (map (read_of store) (cond (not b) (u ∷ seconds) seconds)) 0
        ∷ woven us (map (read_of store) (cond b (u ∷ firsts) firsts)) (drop 1 (map (read_of store) (cond (not b) (u ∷ seconds) seconds))))
        ≡ read_of store u ∷ map (read_of store) us
    by true rest = ap (λ l. read_of store u ∷ l) rest
    by false rest = ap (λ l. read_of store u ∷ l) rest

pub woven_right : (f : LoopFacts) (store : List (List ℤ)) (p : ℕ) (us : List Use) (firsts seconds : List ℤ) → us ≡ index_uses_of f store p
    → firsts ≡ firsts_of f store p → seconds ≡ map (read_of store) (indexes_of f store Second p)
    → woven us firsts seconds ≡ values_of f store p
woven_right f store p us firsts seconds uses first second =
    ap (λ l. woven l firsts seconds) uses
    ∙ ap (λ l. woven (index_uses_of f store p) l seconds) (first ∙ sym (firsts_given f store p))
    ∙ ap (woven (index_uses_of f store p) (map (read_of store) (indexes_of f store First p))) second
    ∙ woven_all store (index_uses_of f store p)
    ∙ given_all f store (inspected_by f p)

-- ---- a level without references

neither : (a b : Bool) → (a || b) ≡ false → (a ≡ false) × (b ≡ false)
neither true b e = cc
neither false b e = (refl, e)

-- no use is of the level
abbrev IsOff : Level → Use → Type 0
IsOff level u = (is_index u.role && is_at level u.plain) ≡ false

off_from : (f : LoopFacts) (store : List (List ℤ)) (level : Level) (i : ℤ) (place : ℕ) (before : Option ℤ) (references : List Reference)
    → list_any (λ (r : Reference). is_index r.role && is_at level (is_plain r.subscript)) references ≡ false
    → AllByRecursion (IsOff level) (uses_from f.arrays f.turn.adds store i place before references)
off_from f store level i place before [] none = tt
off_from f store level i place before (r ∷ rs) none =
    let u = use_of r i (place + 1) (subscript_of r.subscript i (number_at f.turn.adds place) before) in
    let parts = neither (is_index r.role && is_at level (is_plain r.subscript)) _ none in
    (parts.0, off_from f store level i (place + 1) (index_value f.arrays store u) rs parts.1)

off_all : (f : LoopFacts) (store : List (List ℤ)) (level : Level) → has_level f level ≡ false → (is : List ℤ)
    → AllByRecursion (IsOff level) (flat_map (uses_at f store) is)
off_all f store level none is = all_flat_map (IsOff level) (uses_at f store) is (each is)
  where
    each : (is : List ℤ) → AllByRecursion (λ i. AllByRecursion (IsOff level) (uses_at f store i)) is
    each [] = tt
    each (i ∷ is) = (off_from f store level i 0 None f.site.references none, each is)

all_plain : (f : LoopFacts) (us : List Use) → AllByRecursion (IsOff Second) us
    → filter (λ u. u.plain) (filter (gives_index f.arrays) us) ≡ filter (gives_index f.arrays) us
all_plain f [] h = refl
all_plain f (u ∷ us) h = by (is_index u.role) (is_met f.arrays u) u.plain refl h.0 (all_plain f us h.1)
  where
    kept : List Use
    kept = filter (gives_index f.arrays) us

    by : (k m p : Bool) → u.plain ≡ p → (k && not p) ≡ false → filter (λ v. v.plain) kept ≡ kept
        → filter (λ v. v.plain) (cond (k && m) (u ∷ kept) kept) ≡ cond (k && m) (u ∷ kept) kept
    by true true true e off rest = ap (λ b. cond b (u ∷ filter (λ v. v.plain) kept) (filter (λ v. v.plain) kept)) e ∙ ap (λ l. u ∷ l) rest
    by true true false e off rest = cc
    by true false p e off rest = rest
    by false m p e off rest = rest

-- where no index array is read through another, the first level's values are all
pub one_level : (f : LoopFacts) (store : List (List ℤ)) (p : ℕ) → has_level f Second ≡ false → firsts_of f store p ≡ values_of f store p
one_level f store p none =
    sym (firsts_given f store p)
    ∙ ap (map (read_of store)) (all_plain f (flat_map (uses_at f store) (inspected_by f p)) (off_all f store Second none (inspected_by f p)))
    ∙ given_all f store (inspected_by f p)

-- an index reference that isn't plain stands behind one that is
pub no_indexes : (f : LoopFacts) → IsSite f.arrays f.site → has_level f First ≡ false
    → list_any (λ (r : Reference). is_index r.role) f.site.references ≡ false
no_indexes f site none =
    along None f.site.references (λ r e. absurd (no_reference r e)) site.served
    (recursion_from_All (IsReference f.arrays) f.site.references site.references) none
  where
    no_reference : (r : Reference) → None ≡ Some r → ⊥
    no_reference r e = cc

    true_false : true ≡ false → ⊥
    true_false e = cc

    role_index : (k : Role) → is_index k ≡ true → k ≡ Index
    role_index Index e = refl
    role_index Read e = cc
    role_index Target e = cc

    here : (last : Option Reference) (r : Reference) (s : CheckedSubscript) → r.subscript ≡ s
        → ((q : Reference) → last ≡ Some q → (is_index q.role && is_plain q.subscript) ≡ false)
        → IsServed last s → (r.role ≡ Index → IsIndexing s) → (is_index r.role && is_plain r.subscript) ≡ false
        → is_index r.role ≡ true → ⊥
    here last r (Plain terms) e before served index none is =
        true_false (sym (ap (λ b. b && is_plain r.subscript) is ∙ ap is_plain e) ∙ none)
    here None r (Through array at inner terms) e before served index none is = absurd served
    here (Some q) r (Through array at inner terms) e before served index none is =
        true_false (sym (ap (λ k. is_index k && is_plain q.subscript) served.role ∙ ap is_plain served.subscript) ∙ before q refl)
    here last r (Twice outer at inner inner_at first second terms) e before served index none is = index (role_index r.role is)
    here last r (Scalar scalar) e before served index none is = index (role_index r.role is)

    along : (last : Option Reference) (rs : List Reference)
        → ((q : Reference) → last ≡ Some q → (is_index q.role && is_plain q.subscript) ≡ false)
        → AreServed last rs → AllByRecursion (IsReference f.arrays) rs
        → list_any (λ (r : Reference). is_index r.role && is_plain r.subscript) rs ≡ false
        → list_any (λ (r : Reference). is_index r.role) rs ≡ false
    along last [] before served known none = refl
    along last (r ∷ rs) before served known none = by (is_index r.role) refl (along (Some r) rs next served.1 known.1 parts.1)
      where
        parts : ((is_index r.role && is_plain r.subscript) ≡ false)
            × (list_any (λ (s : Reference). is_index s.role && is_plain s.subscript) rs ≡ false)
        parts = neither (is_index r.role && is_plain r.subscript) _ none

        next : (q : Reference) → Some r ≡ Some q → (is_index q.role && is_plain q.subscript) ≡ false
        next q e = let same : r ≡ q = cc in ap (λ (x : Reference). is_index x.role && is_plain x.subscript) (sym same) ∙ parts.0

        by : (b : Bool) → is_index r.role ≡ b → list_any (λ (s : Reference). is_index s.role) rs ≡ false
            → (b || list_any (λ (s : Reference). is_index s.role) rs) ≡ false
        by true e rest = absurd (here last r r.subscript refl before served.0 known.0.index parts.0 e)
        by false e rest = rest

pub second_off : (f : LoopFacts) (level : Level) → list_any (λ (r : Reference). is_index r.role) f.site.references ≡ false
    → has_level f level ≡ false
second_off f level none = along f.site.references none
  where
    along : (rs : List Reference) → list_any (λ (r : Reference). is_index r.role) rs ≡ false
        → list_any (λ (r : Reference). is_index r.role && is_at level (is_plain r.subscript)) rs ≡ false
    along [] e = refl
    along (r ∷ rs) e =
        let parts = neither (is_index r.role) _ e in
        ap (λ b. (b && is_at level (is_plain r.subscript)) || list_any (λ (s : Reference). is_index s.role && is_at level
        (is_plain s.subscript)) rs) parts.0 ∙ along rs parts.1
