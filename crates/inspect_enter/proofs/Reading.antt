-- Rows as they are read, one after another.
use Rattle.std.proofs.lemmas.Bool.Decides.{nat_tests}
use Rattle.std.proofs.Common.{inl, inr, true≢false, length-append, ◌≡◌, ℕ, suc, ◌+◌, ◌-◌, ◌<◌, ◌≤◌, ℤ, Bool, true, false, cond, not, ◌&&◌}
use Rattle.std.proofs.Common.{List, [], ◌∷◌, ◌++◌, length, map, take, drop, Option, Some, None, refl, ap, sym, subst, ◌∙◌, arith, drop-drop}
use Rattle.std.proofs.Common.{length-drop, append_assoc, append-nil, filter}
use Rattle.std.specs.Prelude.{count_by, if◌then◌else◌, ◌==◌}
use Rattle.std.specs.List.{AllByRecursion, flat_map, cons_option}
use Rattle.std.proofs.lemmas.List.Concat.{flat_map-append}
use Rattle.std.proofs.lemmas.List.Elements.{filter-append, recursion_from_All}
use Rattle.std.proofs.lemmas.List.Sums.{sum_by-cons}
use Rattle.fd_program.specs.Met.{kept_uses, decomposition_met}
use Rattle.plan_loop.specs.LoopLetters.{iteration_row}
use Rattle.inspect_enter.specs.Placed.{is_kept, MayBeStamped}
use Rattle.inspect_enter.specs.Rows.{AreMet, first_iteration, first_uses}
use Rattle.plan_tables.specs.Tables.{stamps_of}
use Rattle.inspect_uses.specs.Accepted.{IsAccepted}
use Rattle.inspect_uses.specs.Reached.{uses_with}
use Rattle.inspect_uses.specs.ReachedLaws.{uses_are_reached}
use Rattle.fd_program.specs.Checks.{IsReference}
use Rattle.fd_program.specs.Homes.{uses_at}
use Rattle.fd_program.specs.ListLaws.{Among, all_among, all_weaker}
use Rattle.fd_program.specs.Places.{decomposition_of}
use Rattle.fd_program.specs.Stores.{number_at}
use Rattle.fd_program.specs.Uses.{is_met, use_of, subscript_of, uses_from, uses_told, index_value, index_values, read_of, value_told}
use Rattle.fd_program.specs.Uses.{values_behind}
use Rattle.fd_words.specs.Roles.{is_index}
use Rattle.fd_program.specs.declared.array.ArrayFacts.{ArrayFacts}
use Rattle.fd_program.specs.declared.loop_facts.LoopFacts.{LoopFacts}
use Rattle.fd_program.specs.declared.loop_use.Use.{Use}
use Rattle.fd_program.specs.declared.reference.Reference.{Reference}

-- ---- references of a loop

-- a use of one of these references
pub record IsOf (references : List Reference) (u : Use) : Type 0 where
  pub reference : Reference
  pub among : Among reference references
  pub role : u.role ≡ reference.role
  pub array : u.array ≡ reference.array
  pub stamp : u.stamp ≡ reference.stamp

pub told_of : (arrays : List ArrayFacts) (adds : List ℤ) (i : ℤ) (place : ℕ) (before : Option ℤ) (rs : List Reference) (values : List ℤ)
    → AllByRecursion (IsOf rs) (uses_told arrays adds i place before rs values)
told_of arrays adds i place before [] values = tt
told_of arrays adds i place before (r ∷ rs) values =
    let u = use_of r i (place + 1) (subscript_of r.subscript i (number_at adds place) before) in (
      record { reference = r; among = inl refl; role = refl; array = refl; stamp = refl },
      all_weaker (IsOf rs) (IsOf (r ∷ rs)) (λ v o. record {
        reference = o.reference;
        among = inr o.among;
        role = o.role;
        array = o.array;
        stamp = o.stamp;
      })
          (uses_told arrays adds i (place + 1) (value_told arrays u values) rs (values_behind arrays u values))
          (told_of arrays adds i (place + 1) (value_told arrays u values) rs (values_behind arrays u values)),
    )

both_true : (a b : Bool) → (not a && b) ≡ true → (a ≡ false) × (b ≡ true)
both_true true b e = absurd (true≢false (sym e))
both_true false b e = (refl, e)

abbrev is_of : LoopFacts → ℕ → Reference → Bool
is_of f array s = not (is_index s.role) && (decomposition_of f.arrays s.array == decomposition_of f.arrays array)

-- the stamp of such a reference is one of the loop's
own_stamp : (f : LoopFacts) (rs : List Reference) (r : Reference) → Among r rs → is_index r.role ≡ false
    → Among r.stamp (map (λ (s : Reference). s.stamp) (filter (is_of f r.array) rs))
own_stamp f [] r a e = absurd a
own_stamp f (s ∷ rs) r (inl same) e =
    subst (λ b. Among r.stamp (map (λ (s : Reference). s.stamp) (cond b (s ∷ filter (is_of f r.array) rs) (filter (is_of f r.array) rs))))
    (sym test)
    (inl (ap (λ (q : Reference). q.stamp) same))
  where
    itself : (n : ℕ) → (n == n) ≡ true
    itself n = grind (arith, nat_tests)

    test : is_of f r.array s ≡ true
    test = ap (is_of f r.array) (sym same) ∙ ap (λ b. not b && (decomposition_of f.arrays r.array == decomposition_of f.arrays r.array)) e
        ∙ itself (decomposition_of f.arrays r.array)
own_stamp f (s ∷ rs) r (inr a) e = by (is_of f r.array s) (own_stamp f rs r a e)
  where
    by : (b : Bool) → Among r.stamp (map (λ (s : Reference). s.stamp) (filter (is_of f r.array) rs))
        → Among r.stamp (map (λ (s : Reference). s.stamp) (cond b (s ∷ filter (is_of f r.array) rs) (filter (is_of f r.array) rs)))
    by true k = inr k
    by false k = k

kept_filter : {A : Type 0} (P Q : A → Type 0) (p : A → Bool) → ((x : A) → P x → p x ≡ true → Q x) → (xs : List A) → AllByRecursion P xs
    → AllByRecursion Q (filter p xs)
kept_filter P Q p g [] h = tt
kept_filter {A} P Q p g (x ∷ xs) h = by (p x) refl (kept_filter P Q p g xs h.1)
  where
    by : (b : Bool) → p x ≡ b → AllByRecursion Q (filter p xs) → AllByRecursion Q (cond b (x ∷ filter p xs) (filter p xs))
    by true e rest = (g x h.0 e, rest)
    by false e rest = rest

is_kept_use : (f : LoopFacts) → IsAccepted f → (u : Use) → IsOf f.site.references u → is_kept f u ≡ true → MayBeStamped f u
is_kept_use f accepted u o e =
    let two = both_true (is_index u.role) (is_met f.arrays u) e in
    let r = o.reference in
    let facts = all_among (IsReference f.arrays) f.site.references r (recursion_from_All (IsReference f.arrays) f.site.references
    accepted.site.references) o.among in
    record {
      met = two.1;
      small = subst (λ s. s < 128) (sym o.stamp) facts.stamp;
      own = subst (λ s. Among s (stamps_of f (decomposition_met f u))) (sym o.stamp)
          (subst (λ a. Among r.stamp (stamps_of f (decomposition_of f.arrays a))) (sym o.array) (own_stamp f f.site.references r o.among
          (ap is_index (sym o.role) ∙ two.0)));
    }

pub first_kept : (f : LoopFacts) → IsAccepted f → (rows : List ℤ) → AllByRecursion (MayBeStamped f) (first_uses f rows)
first_kept f accepted [] = tt
first_kept f accepted (i ∷ values) =
    kept_filter (IsOf f.site.references) (MayBeStamped f) (is_kept f) (is_kept_use f accepted) (uses_with f i values)
    (told_of f.arrays f.turn.adds i 0 None f.site.references values)

take_whole : {A : Type 0} (xs : List A) → take (length xs) xs ≡ xs
take_whole [] = refl
take_whole (x ∷ xs) = ap (λ l. x ∷ l) (take_whole xs)

-- the rest of a list as it is lent
pub rest_is : {A : Type 0} (xs : List A) (at : ℕ) → take (length xs - at) (drop at xs) ≡ drop at xs
rest_is xs at = ap (λ n. take n (drop at xs)) (sym (length-drop at xs)) ∙ take_whole (drop at xs)

-- ---- where each reference is met

module _ (f : LoopFacts) (store : List (List ℤ)) where
  values_met : (us : List Use) → AllByRecursion (λ u. is_met f.arrays u ≡ true) us
      → map (read_of store) (filter (λ u. is_index u.role) us) ≡ index_values f.arrays store us
  values_met [] h = refl
  values_met (u ∷ us) h = by (is_index u.role) (is_met f.arrays u) (read_of store u) h.0 (values_met us h.1)
    where
      by : (a b : Bool) (v : ℤ) → b ≡ true → map (read_of store) (filter (λ u. is_index u.role) us) ≡ index_values f.arrays store us
          → map (read_of store) (cond a (u ∷ filter (λ u. is_index u.role) us) (filter (λ u. is_index u.role) us))
          ≡ cons_option (if a && b then Some (read_of store u) else None) (index_values f.arrays store us)
      by true true v e rest = ap (λ l. read_of store u ∷ l) rest
      by true false v e rest = absurd (true≢false (sym e))
      by false b v e rest = rest

  kept_met : (us : List Use) → AllByRecursion (λ u. is_met f.arrays u ≡ true) us
      → filter (is_kept f) us ≡ filter (λ u. not (is_index u.role)) us
  kept_met [] h = refl
  kept_met (u ∷ us) h = by (is_index u.role) (is_met f.arrays u) h.0 (kept_met us h.1)
    where
      by : (a b : Bool) → b ≡ true → filter (is_kept f) us ≡ filter (λ u. not (is_index u.role)) us
          → cond (not a && b) (u ∷ filter (is_kept f) us) (filter (is_kept f) us) ≡ cond (not a)
          (u ∷ filter (λ u. not (is_index u.role)) us) (filter (λ u. not (is_index u.role)) us)
      by true b e rest = rest
      by false true e rest = ap (λ l. u ∷ l) rest
      by false false e rest = absurd (true≢false (sym e))

  values_count : (i : ℤ) (place : ℕ) (before : Option ℤ) (rs : List Reference)
      → length (map (read_of store) (filter (λ u. is_index u.role) (uses_from f.arrays f.turn.adds store i place before rs)))
      ≡ count_by (λ (r : Reference). is_index r.role) rs
  values_count i place before [] = refl
  values_count i place before (r ∷ rs) =
      let u = use_of r i (place + 1) (subscript_of r.subscript i (number_at f.turn.adds place) before) in
      by (is_index r.role) u (uses_from f.arrays f.turn.adds store i (place + 1) (index_value f.arrays store u) rs)
      (values_count i (place + 1) (index_value f.arrays store u) rs)
      ∙ sym (sum_by-cons (λ (s : Reference). cond (is_index s.role) 1 0) r rs)
    where
      by : (b : Bool) (u : Use) (us : List Use) → length (map (read_of store) (filter (λ u. is_index u.role) us))
          ≡ count_by (λ (r : Reference). is_index r.role) rs
          → length (map (read_of store) (cond b (u ∷ filter (λ u. is_index u.role) us) (filter (λ u. is_index u.role) us))) ≡ cond b 1 0
          + count_by (λ (r : Reference). is_index r.role) rs
      by true u us rest = let next : (n m : ℕ) → n ≡ m → suc n ≡ 1 + m = λ n m e. omega (arith, e) in next _ _ rest
      by false u us rest = let same : (n m : ℕ) → n ≡ m → n ≡ 0 + m = λ n m e. omega (arith, e) in same _ _ rest

  -- the rows are read up to a place
  pub record IsReadTo (rows its : List ℤ) (at : ℕ) (iterations : List ℤ) (kept : List Use) : Type 0 where
    pub done : List ℤ
    pub rest : List ℤ
    pub split : its ≡ done ++ rest
    pub left : drop at rows ≡ flat_map (iteration_row f store) rest
    pub read : iterations ≡ done
    pub used : kept ≡ kept_uses f store done

  pub read_none : (rows its iterations : List ℤ) (kept : List Use) → rows ≡ flat_map (iteration_row f store) its → iterations ≡ []
      → kept ≡ [] → IsReadTo rows its 0 iterations kept
  read_none rows its iterations kept e none nothing = record { done = []; rest = its; split = refl; left = e; read = none; used = nothing }

  kept_more : (done : List ℤ) (i : ℤ) → AllByRecursion (λ u. is_met f.arrays u ≡ true) (uses_at f store i)
      → kept_uses f store done ++ filter (is_kept f) (uses_at f store i) ≡ kept_uses f store (done ++ i ∷ [])
  kept_more done i met =
      ap (λ l. kept_uses f store done ++ l) (kept_met (uses_at f store i) met)
      ∙ sym (filter-append (λ u. not (is_index u.role)) (flat_map (uses_at f store) done) (uses_at f store i))
      ∙ ap (filter (λ u. not (is_index u.role)))
      (ap (λ l. flat_map (uses_at f store) done ++ l) (sym (append-nil (uses_at f store i)))
      ∙ sym (flat_map-append (uses_at f store) done (i ∷ [])))

  met_at : (done rest : List ℤ) (i : ℤ) → AreMet f store (done ++ i ∷ rest) → AllByRecursion (λ u. is_met f.arrays u ≡ true)
      (uses_at f store i)
  met_at [] rest i h = h.0
  met_at (j ∷ done) rest i h = met_at done rest i h.1

  drop_front : {A : Type 0} (xs ys : List A) (n : ℕ) → n ≡ length xs → drop n (xs ++ ys) ≡ ys
  drop_front [] ys n e = ap (λ k. drop k ys) e
  drop_front (x ∷ xs) ys n e = ap (λ k. drop k (x ∷ (xs ++ ys))) e ∙ drop_front xs ys (length xs) refl

  pub read_more : (rows its iterations more : List ℤ) (kept further : List Use) (at width : ℕ) → AreMet f store its
      → IsReadTo rows its at iterations kept
      → width ≡ 1 + count_by (λ (r : Reference). is_index r.role) f.site.references → width ≤ length rows - at
      → more ≡ iterations ++ first_iteration (drop at rows) → further ≡ kept ++ first_uses f (drop at rows)
      → IsReadTo rows its (at + width) more further
  read_more rows its iterations more kept further at width met r wide long pushed added = by r.rest refl
    where
      by : (rest : List ℤ) → r.rest ≡ rest → IsReadTo rows its (at + width) more further
      by [] e =
          let none : length (drop at rows) ≡ 0 = ap length (r.left ∙ ap (flat_map (iteration_row f store)) e) in
          absurd (omega (arith, none, length-drop at rows, wide, long))
      by (i ∷ rest) e =
          let left : drop at rows ≡ iteration_row f store i ++ flat_map (iteration_row f store) rest = r.left
          ∙ ap (flat_map (iteration_row f store)) e in
          let here : AllByRecursion (λ u. is_met f.arrays u ≡ true) (uses_at f store i) =
          met_at r.done rest i (subst (AreMet f store) (r.split ∙ ap (λ l. r.done ++ l) e) met) in
          let values : map (read_of store) (filter (λ u. is_index u.role) (uses_at f store i)) ≡ index_values f.arrays store
          (uses_at f store i) = values_met (uses_at f store i) here in
          let long_row : width ≡ length (iteration_row f store i) =
          wide ∙ ap (λ n. 1 + n) (sym (values_count i 0 None f.site.references))
          ∙ one_more (map (read_of store) (filter (λ u. is_index u.role) (uses_at f store i))) in
          record {
            done = r.done ++ i ∷ [];
            rest = rest;
            split = r.split ∙ ap (λ l. r.done ++ l) e ∙ sym (append_assoc r.done (i ∷ []) rest);
            left = swapped ∙ ap (drop width) left ∙ drop_front (iteration_row f store i) (flat_map (iteration_row f store) rest) width
                long_row;
            read = pushed ∙ ap (λ l. iterations ++ first_iteration l) left ∙ ap (λ l. l ++ i ∷ []) r.read;
            used = added ∙ ap (λ l. kept ++ first_uses f l) left
                ∙ ap (λ l. kept ++ filter (is_kept f) (uses_with f i (l ++ flat_map (iteration_row f store) rest))) values
                ∙ ap (λ l. kept ++ filter (is_kept f) l) (uses_are_reached f store i (flat_map (iteration_row f store) rest))
                ∙ ap (λ l. l ++ filter (is_kept f) (uses_at f store i)) r.used
                ∙ kept_more r.done i here;
          }
        where
          one_more : (xs : List ℤ) → 1 + length xs ≡ length (i ∷ xs)
          one_more xs = let e : 1 + length xs ≡ suc (length xs) = omega arith in e

          swapped : drop (at + width) rows ≡ drop width (drop at rows)
          swapped = sym (drop-drop width at rows)

  pub read_all : (rows its iterations : List ℤ) (kept : List Use) (at width : ℕ) → IsReadTo rows its at iterations kept
      → width ≡ 1 + count_by (λ (r : Reference). is_index r.role) f.site.references → length rows - at < width → (iterations ≡ its)
      × (kept ≡ kept_uses f store its)
  read_all rows its iterations kept at width r wide short = by r.rest refl
    where
      by : (rest : List ℤ) → r.rest ≡ rest → (iterations ≡ its) × (kept ≡ kept_uses f store its)
      by [] e =
          let all : r.done ≡ its = sym (append-nil r.done) ∙ ap (λ l. r.done ++ l) (sym e) ∙ sym r.split in
          (r.read ∙ all, r.used ∙ ap (kept_uses f store) all)
      by (i ∷ rest) e =
          let left : drop at rows ≡ iteration_row f store i ++ flat_map (iteration_row f store) rest = r.left
          ∙ ap (flat_map (iteration_row f store)) e in
          let long : length (iteration_row f store i ++ flat_map (iteration_row f store) rest) ≡ length rows - at = sym (ap length left)
          ∙ length-drop at rows in
          let parts = length-append (iteration_row f store i) (flat_map (iteration_row f store) rest) in
          let count = values_count i 0 None f.site.references in
          absurd (omega (arith, long, parts, count, wide, short))
