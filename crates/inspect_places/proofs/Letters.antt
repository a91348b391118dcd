-- What the pages answer, and what a node asks for, in a loop.
use Rattle.std.proofs.Common.{◌≡◌, refl, ℕ, ◌<◌, ◌≤◌, ℤ, pos, Bool, true, false, ◌==◌, cond, List, [], ◌∷◌, ◌++◌, length, map, filter}
use Rattle.std.proofs.Common.{Option, Some, None, ap, sym, ◌∙◌, arith}
use Rattle.std.specs.Prelude.{unwrap_or, not, ◌&&◌}
use Rattle.std.specs.Int.{w64}
use Rattle.std.specs.List.{flat_map, AllByRecursion}
use Rattle.std.proofs.lemmas.Bool.Decides.{nat_tests}
use Rattle.std.proofs.lemmas.Int.{to_z_pos}
use Rattle.std.proofs.lemmas.List.Sums.{count_by-le-length}
use Rattle.fd_words.specs.Lists.{list_at}
use Rattle.chaos_deref.specs.Asking.{nowhere, numbers_of}
use Rattle.chaos_table.specs.Pages.{place_in}
use Rattle.chaos_dist.specs.Counting.{below}
use Rattle.chaos_dist.specs.Owners.{length_in, page_of}
use Rattle.chaos_dist.specs.OwnersLaws.{local_in-below}
use Rattle.chaos_dist.specs.declared.step_form.StepForm.{StepForm}
use Rattle.chaos_dist.specs.declared.step_form.StepForm.TheVariants.{Regular, Map}
use Rattle.chaos_table.specs.declared.pages.Pages.{Pages}
use Rattle.list_laws.specs.Tests.{same_when}
use Rattle.fd_program.specs.Homes.{executed_by, owner_met, uses_at}
use Rattle.fd_program.specs.ListLaws.{all_filter, all_flat_map, all_weaker, all_trivial}
use Rattle.fd_program.specs.Places.{decomposition_of}
use Rattle.fd_program.specs.Uses.{is_met}
use Rattle.fd_words.specs.Roles.{is_index}
use Rattle.fd_program.specs.declared.loop_facts.LoopFacts.{LoopFacts}
use Rattle.fd_program.specs.declared.loop_use.Use.{Use}
use Rattle.plan_loop.specs.LoopLetters.{asked_of, asking_iterations, is_for, is_wanted_in, owed_in, page_met, place_answer_of, place_ask_of}
use Rattle.plan_loop.specs.LoopLetters.{sent_in, wanted_of}
use Rattle.fd_program.specs.Met.{decomposition_met, is_map, layout_for, local_met, stands_met}
use Rattle.plan_loop.specs.declared.loop_phase.Asking.{Asking}
use Rattle.plan_loop.specs.declared.loop_phase.LoopPhase.TheVariants.{DerefAsk, DerefAnswer}
use Rattle.inspect_uses.specs.PlaceLaws.{local_small}
use Rattle.inspect_uses.specs.Accepted.{AreOwners, IsAccepted}
use Rattle.inspect_uses.specs.Standing.{standing, natural_bounds}
use Rattle.inspect_places.specs.Asks.{ArePages, IsPageFor, page_at}
use Rattle.inspect_places.specs.Laws.{AnswersAreOwed, AsksAreSent, KeptAreWanted, WantedAreAsked}
use Rattle.inspect_places.specs.Telling.{answer_row, place_on_page, told_by}
use Rattle.inspect_places.proofs.Deals.{pair_of}

both : (a b : Bool) → (a && b) ≡ true → (a ≡ true) × (b ≡ true)
both true b e = (refl, e)
both false b e = cc

-- ---- answers

-- a page is asked for such a reference
record IsAskedOf (f : LoopFacts) (me : ℕ) (u : Use) : Type 0 where
  met : is_met f.arrays u ≡ true
  mapped : is_map (layout_for f u.array).form ≡ true
  page : page_met f u ≡ me

abbrev IsMapped : LoopFacts → Use → Type 0
IsMapped f u = (is_met f.arrays u ≡ true) × (is_map (layout_for f u.array).form ≡ true)

mapped_in : (f : LoopFacts) (asking : Asking) (d : ℕ) (u : Use) → is_wanted_in f asking d u ≡ true → IsMapped f u
mapped_in f asking d u e =
    let last = both (is_for f asking u.number u.role u.plain && is_met f.arrays u && (decomposition_met f u == d))
    (is_map (layout_for f u.array).form) e in
    let third = both (is_for f asking u.number u.role u.plain && is_met f.arrays u) (decomposition_met f u == d) last.0 in
    ((both (is_for f asking u.number u.role u.plain) (is_met f.arrays u) third.0).1, last.1)

wanted_mapped : (f : LoopFacts) (asking : Asking) (all : List Use) (ds : List ℕ)
    → AllByRecursion (λ d. AllByRecursion (IsMapped f) (filter (is_wanted_in f asking d) all)) ds
wanted_mapped f asking all [] = tt
wanted_mapped f asking all (d ∷ ds) = (
  all_weaker (λ u. (is_wanted_in f asking d u ≡ true) × Unit {0}) (IsMapped f) (λ u h. mapped_in f asking d u h.0)
      (filter (is_wanted_in f asking d) all)
      (all_filter (λ u. Unit {0}) (is_wanted_in f asking d) all (all_trivial all)),
  wanted_mapped f asking all ds,
)

asked_mapped : (f : LoopFacts) (owners : List (List ℕ)) (store : List (List ℤ)) (asking : Asking) (p me : ℕ)
    → AllByRecursion (IsAskedOf f me) (asked_of f owners store asking p me)
asked_mapped f owners store asking p me =
    let all = flat_map (uses_at f store) (asking_iterations f owners store asking p) in
    all_weaker (λ u. ((page_met f u == me) ≡ true) × IsMapped f u) (IsAskedOf f me)
    (λ u h. record { met = h.1.0; mapped = h.1.1; page = same_when (page_met f u) me h.0 })
    (asked_of f owners store asking p me)
    (all_filter (IsMapped f) (λ u. page_met f u == me) (wanted_of f owners store asking p)
    (all_flat_map (IsMapped f) (λ d. filter (is_wanted_in f asking d) all) (below (length f.layouts))
    (wanted_mapped f asking all (below (length f.layouts)))))

page_told : (form : StepForm) (nodes me extent g : ℕ) (owners : List ℕ) (page : Option Pages) → is_map form ≡ true
    → IsPageFor form nodes me extent owners page → 1 ≤ g → g ≤ length owners
    → page_of extent nodes g ≡ me → place_on_page page (pos g) ≡ place_in owners g
page_told (Regular shape) nodes me extent g owners page e h low high here = cc
page_told (Map array) nodes me extent g owners None e h low high here = absurd h
page_told (Map array) nodes me extent g owners (Some page) e h low high here = ap (λ o. unwrap_or o nowhere) (h g low high here)

module _ (f : LoopFacts) (owners : List (List ℕ)) (pages : List (Option Pages)) (me : ℕ) (accepted : IsAccepted f)
    (owned : AreOwners f owners) (told : ArePages f me owners pages) where
  one_told : (u : Use) → IsAskedOf f me u → answer_row pages (pair_of (pos (decomposition_met f u)) (pos (stands_met f u)))
      ≡ place_answer_of f owners u
  one_told u is =
      let s = standing f accepted u is.met in
      let o = owned (decomposition_of f.arrays u.array) s.decomposition in
      let bounds = natural_bounds _ (layout_for f u.array).extent s.first s.last in
      let list : List ℕ = list_at owners (decomposition_met f u) in
      let last : stands_met f u ≤ length list = omega (arith, o.elements, bounds.1) in
      let small : local_met f owners u < 9223372036854775808 = local_small f owners u accepted owned is.met in
      ap numbers_of
      (page_told (layout_for f u.array).form f.nodes me (layout_for f u.array).extent (stands_met f u) list
      (page_at pages (decomposition_met f u)) is.mapped
      (told (decomposition_met f u) s.decomposition) bounds.0 last is.page)
      ∙ ap (λ v. pos (owner_met f owners u) ∷ v ∷ []) (to_z_pos w64 (local_met f owners u) small)

  list_told : (us : List Use) → AllByRecursion (IsAskedOf f me) us → told_by pages (flat_map (place_ask_of f) us)
      ≡ flat_map (place_answer_of f owners) us
  list_told [] h = refl
  list_told (u ∷ us) h =
      ap (λ l. l ++ told_by pages (flat_map (place_ask_of f) us)) (one_told u h.0) ∙ ap (λ l. place_answer_of f owners u ++ l)
      (list_told us h.1)

  map_twice : {A B C : Type 0} (g : B → C) (h : A → B) (xs : List A) → map g (map h xs) ≡ map (λ x. g (h x)) xs
  map_twice g h [] = refl
  map_twice g h (x ∷ xs) = ap (λ l. g (h x) ∷ l) (map_twice g h xs)

  pub answers_are : (store : List (List ℤ)) (asking : Asking) (asked : List (List ℤ)) → asked ≡ owed_in f owners store (DerefAsk asking) me
      → map (told_by pages) asked ≡ sent_in f owners store (DerefAnswer asking) me
  answers_are store asking asked is =
      ap (map (told_by pages)) is
      ∙ map_twice (told_by pages) (λ q. flat_map (place_ask_of f) (asked_of f owners store asking q me)) (below f.nodes)
      ∙ ap (λ (g : ℕ → List ℤ). map g (below f.nodes)) (λ i q. list_told (asked_of f owners store asking q me)
      (asked_mapped f owners store asking q me) i)

-- ---- what is asked for

filter_both : {A : Type 0} (p t : A → Bool) (xs : List A) → filter t (filter p xs) ≡ filter (λ x. p x && t x) xs
filter_both p t [] = refl
filter_both p t (x ∷ xs) =
    elim (p x) as (λ b. filter t (cond b (x ∷ filter p xs) (filter p xs)) ≡ cond (b && t x) (x ∷ filter (λ x. p x && t x) xs)
    (filter (λ x. p x && t x) xs)) [
      | true ↦ ap (λ l. cond (t x) (x ∷ l) l) (filter_both p t xs)
      | false ↦ filter_both p t xs
    ]

last_two : (a b c : Bool) → (a && b && c) ≡ (a && c && b)
last_two true true true = refl
last_two true true false = refl
last_two true false true = refl
last_two true false false = refl
last_two false b c = refl

pub wanted_asked : WantedAreAsked
wanted_asked f owners store asking p =
    let all = flat_map (uses_at f store) (asking_iterations f owners store asking p) in
    let first : Use → Bool = λ u. is_for f asking u.number u.role u.plain && is_met f.arrays u in
    let mapped : Use → Bool = λ u. is_map (layout_for f u.array).form in
    ap (λ (g : ℕ → List Use). flat_map g (below (length f.layouts)))
    (λ i d.
    (ap (λ (t : Use → Bool). filter t all) (λ j u. last_two (first u) (decomposition_met f u == d) (mapped u) j)
    ∙ sym (filter_both (λ u. first u && mapped u) (λ u. decomposition_met f u == d) all)) i)

pub asks_sent : AsksAreSent
asks_sent f owners store asking p =
    ap (λ (us : List Use). map (λ q. flat_map (place_ask_of f) (filter (λ u. page_met f u == q) us)) (below f.nodes))
    (sym (wanted_asked f owners store asking p))

pub answers_owed : AnswersAreOwed
answers_owed f owners store asking p =
    ap (λ (us : List Use). map (λ q. flat_map (place_answer_of f owners) (filter (λ u. page_met f u == q) us)) (below f.nodes))
    (sym (wanted_asked f owners store asking p))

-- a test that all others pass who pass the first is no test
all_pass : {A : Type 0} (a b c : A → Bool) (xs : List A) → AllByRecursion (λ x. b x ≡ true) (filter a xs)
    → filter (λ x. a x && b x && c x) xs ≡ filter c (filter a xs)
all_pass a b c [] h = refl
all_pass {A = A} a b c (x ∷ xs) h = by (a x) h (all_pass a b c xs)
  where
    by : (t : Bool) → AllByRecursion (λ y. b y ≡ true) (cond t (x ∷ filter a xs) (filter a xs))
        → (AllByRecursion (λ y. b y ≡ true) (filter a xs) → filter (λ y. a y && b y && c y) xs ≡ filter c (filter a xs))
        → cond (t && b x && c x) (x ∷ filter (λ y. a y && b y && c y) xs) (filter (λ y. a y && b y && c y) xs)
        ≡ filter c (cond t (x ∷ filter a xs) (filter a xs))
    by true g rest =
        ap (λ e. cond (e && c x) (x ∷ filter (λ y. a y && b y && c y) xs) (filter (λ y. a y && b y && c y) xs)) g.0
        ∙ ap (λ l. cond (c x) (x ∷ l) l) (rest g.1)
    by false g rest = rest g

pub kept_wanted : KeptAreWanted
kept_wanted f owners store p met =
    all_pass (λ u. not (is_index u.role)) (λ u. is_met f.arrays u) (λ u. is_map (layout_for f u.array).form)
    (flat_map (uses_at f store) (executed_by f owners store p)) met
