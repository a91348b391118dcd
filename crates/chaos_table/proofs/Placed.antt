-- Places given out in order.
use Rattle.std.proofs.Common.{◌≡◌, refl, ℕ, zero, suc, ◌+◌, ◌*◌, ◌-◌, ◌≤◌, ◌<◌, Bool, true, false, ◌==◌, cond, List, [], ◌∷◌, ◌++◌, length}
use Rattle.std.proofs.Common.{take, map, count_by, ap, sym, subst, ◌∙◌, arith, get_or}
use Rattle.std.specs.Prelude.{ℤ, pos, ◌≢◌, All, slice_get, slice_set, unwrap_or, sum_by}
use Rattle.std.specs.List.{range_with_len, AllByRecursion}
use Rattle.std.proofs.Common.{inl, inr}
use Rattle.std.proofs.lemmas.Bool.Decides.{eqb_tells}
use Rattle.std.proofs.lemmas.List.{get_or-set_same, get_or-set_other}
use Rattle.std.proofs.lemmas.List.Elements.{recursion_from_All}
use Rattle.std.proofs.lemmas.List.Sums.{sum_by_push, count_by_more_yes, count_by_more_no}
use Rattle.fd_words.specs.Lists.{list_at}
use Rattle.fd_words.specs.declared.place.Place.{Place}
use Rattle.chaos_dist.specs.Counting.{below, up_to, below-last, up_to-last}
use Rattle.chaos_dist.specs.Owners.{owner_in, local_in}
use Rattle.chaos_table.specs.Pages.{earlier, sound_count, place_on, places_of}

pub earlier-more : (extent : ℕ) (counts : List (List ℤ)) (page node : ℕ)
    → earlier extent counts (page + 1) node ≡ earlier extent counts page node + sound_count extent (slice_get (list_at counts page) node)
earlier-more extent counts page node =
    let e : page + 1 ≡ suc page = omega arith in
    let count = λ (before : ℕ). sound_count extent (slice_get (list_at counts before) node) in
    ap (λ k. earlier extent counts k node) e ∙ ap (sum_by count) (below-last page) ∙ sum_by_push count (below page) page

map-push : {A B : Type 0} (f : A → B) (xs : List A) (x : A) → map f (xs ++ x ∷ []) ≡ map f xs ++ f x ∷ []
map-push f [] x = refl
map-push f (y ∷ xs) x = ap (λ l. f y ∷ l) (map-push f xs x)

pub one_more_placed : (before : ℕ → ℕ) (owners : List ℕ) (i : ℕ) → map (place_on before owners) (up_to (i + 1))
    ≡ map (place_on before owners) (up_to i) ++ place_on before owners (i + 1) ∷ []
one_more_placed before owners i =
    let e : i + 1 ≡ suc i = omega arith in
    ap (λ k. map (place_on before owners) (up_to k)) e
    ∙ ap (map (place_on before owners)) (up_to-last i)
    ∙ map-push (place_on before owners) (up_to i) (suc i)
    ∙ ap (λ k. map (place_on before owners) (up_to i) ++ place_on before owners k ∷ []) (sym e)

one_less : (i n : ℕ) → suc i < suc n → i < n
one_less i n h = omega arith

-- the next place: the owner at i, behind those that it has before i
pub place_next : (before : ℕ → ℕ) (owners : List ℕ) (i d : ℕ) → i < length owners
    → place_on before owners (i + 1) ≡ record {
      owner = get_or owners i d;
      local = before (get_or owners i d)
          + count_by (λ o. o == get_or owners i d) (take i owners);
    }
place_next before owners i d h =
    let back : i + 1 - 1 ≡ i = omega arith in
    let own : owner_in owners (i + 1) ≡ get_or owners i d = ap (λ k. unwrap_or (slice_get owners k) 0) back ∙ found owners i d h in
    let at : ℕ → ℕ → Place = λ o k. record { owner = o; local = before o + count_by (λ x. x == o) (take k owners) } in
    ap (λ o. at o (i + 1 - 1)) own ∙ ap (at (get_or owners i d)) back
  where
    found : (xs : List ℕ) (i d : ℕ) → i < length xs → unwrap_or (slice_get xs i) 0 ≡ get_or xs i d
    found [] i d h = absurd (omega arith)
    found (x ∷ xs) zero d h = refl
    found (x ∷ xs) (suc i) d h = found xs i d (one_less i (length xs) h)

pub push_placed : (before : ℕ → ℕ) (owners next : List ℕ) (i : ℕ) (places new : List Place) → i < length owners
    → places ≡ map (place_on before owners) (up_to i)
    → get_or next (get_or owners i 0) 0 ≡ before (get_or owners i 0) + count_by (λ o. o == get_or owners i 0) (take i owners)
    → new ≡ places ++ record { owner = get_or owners i 0; local = get_or next (get_or owners i 0) 0 } ∷ []
    → new ≡ map (place_on before owners) (up_to (i + 1))
push_placed before owners next i places new h at local pushed =
    pushed
    ∙ ap (λ n. places ++ record { owner = get_or owners i 0; local = n } ∷ []) local
    ∙ ap (λ p. places ++ p ∷ []) (sym (place_next before owners i 0 h))
    ∙ ap (λ ps. ps ++ place_on before owners (i + 1) ∷ []) at
    ∙ sym (one_more_placed before owners i)

pub next_step : (owners next : List ℕ) (before : ℕ → ℕ) (i k o : ℕ) → i < length owners → get_or owners i 0 ≡ o → k < length next
    → get_or next k 0 ≡ before k + count_by (λ x. x == k) (take i owners)
    → get_or (slice_set next o (get_or next o 0 + 1)) k 0 ≡ before k + count_by (λ x. x == k) (take (i + 1) owners)
next_step owners next before i k o h is low now =
    elim (eqb_tells (get_or owners i 0) k) [
      | inl same ↦
          let here : o ≡ k = sym is ∙ same.1 in
          let set_here : get_or (slice_set next k (get_or next k 0 + 1)) k 0 ≡ get_or next k 0 + 1 =
          get_or-set_same next k (get_or next k 0 + 1) 0 low in
          let more : count_by (λ x. x == k) (take (i + 1) owners) ≡ count_by (λ x. x == k) (take i owners) + 1 =
          count_by_more_yes (λ x. x == k) owners i 0 h same.0 in
          ap (λ y. get_or (slice_set next y (get_or next y 0 + 1)) k 0) here ∙ set_here ∙ omega (arith, more, now)
      | inr other ↦
          let away : k ≢ o = λ e. other.1 (is ∙ sym e) in
          let same : count_by (λ x. x == k) (take (i + 1) owners) ≡ count_by (λ x. x == k) (take i owners) =
          count_by_more_no (λ x. x == k) owners i 0 h other.0 in
          get_or-set_other next o k (get_or next o 0 + 1) 0 away ∙ now ∙ ap (λ n. before k + n) (sym same)
    ]

-- a list of counts, one node on
pub counted_more : (f : ℕ → ℕ) (i v : ℕ) (counts new : List ℤ) → counts ≡ map (λ n. pos (f n)) (below i) → new ≡ counts ++ pos v ∷ []
    → v ≡ f i
    → new ≡ map (λ n. pos (f n)) (below (i + 1))
counted_more f i v counts new at pushed is =
    let e : i + 1 ≡ suc i = omega arith in
    pushed ∙ ap (λ l. l ++ pos v ∷ []) at ∙ ap (λ n. map (λ n. pos (f n)) (below i) ++ n ∷ []) (ap pos is)
    ∙ sym (ap (λ k. map (λ n. pos (f n)) (below k)) e ∙ ap (map (λ n. pos (f n))) (below-last i) ∙ map-push (λ n. pos (f n)) (below i) i)

-- ---- places by two ways of counting what comes before

owner_below : (owners : List ℕ) (k n : ℕ) → 0 < n → AllByRecursion (λ o. o < n) owners → unwrap_or (slice_get owners k) 0 < n
owner_below [] k n some all = some
owner_below (o ∷ owners) zero n some all = all.0
owner_below (o ∷ owners) (suc k) n some all = owner_below owners k n some all.1

family-same : {B : Type 0} (f g : ℕ → B) (a n : ℕ) → ((h : ℕ) → f h ≡ g h) → map f (range_with_len a n) ≡ map g (range_with_len a n)
family-same f g a zero same = refl
family-same f g a (suc n) same =
    ap (λ y. y ∷ map f (range_with_len (a + 1) n)) (same a) ∙ ap (λ l. g a ∷ l) (family-same f g (a + 1) n same)

pub places_of-same : (f g : ℕ → ℕ) (owners : List ℕ) (n : ℕ) → 0 < n → ((o : ℕ) → o < n → f o ≡ g o) → All (λ o. o < n) owners
    → places_of f owners ≡ places_of g owners
places_of-same f g owners n some same all =
    family-same (place_on f owners) (place_on g owners) 1 (length owners)
    (λ h. ap (λ b. record { owner = owner_in owners h; local = b + local_in owners h })
    (same (owner_in owners h) (owner_below owners (h - 1) n some (recursion_from_All (λ o. o < n) owners all))))
