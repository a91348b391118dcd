-- The pairs that a node takes cover its page, and the page that it makes of them tells the new places.
use Rattle.std.proofs.Common.{◌≡◌, refl, ℕ, ◌<◌, ◌≤◌, ◌==◌, ◌&&◌, Bool, true, false, List, [], ◌∷◌, ◌++◌, cond, length, map, filter, ap}
use Rattle.std.proofs.Common.{sym, subst, ◌∙◌, arith}
use Rattle.std.specs.Prelude.{ℤ, pos}
use Rattle.std.specs.List.{flat_map}
use Rattle.std.proofs.lemmas.Bool.Decides.{nat_tests}
use Rattle.std.proofs.lemmas.List.Folds.{flat_map-map}
use Rattle.fd_words.specs.Lists.{list_at}
use Rattle.list_laws.specs.Tests.{same_number}
use Rattle.chaos_dist.specs.Counting.{below, up_to}
use Rattle.chaos_dist.specs.Owners.{owner_in, length_in, page_of, page_owners, counts_on_page}
use Rattle.fd_program.specs.Layouts.{Scene}
use Rattle.fd_program.specs.Places.{owner_for}
use Rattle.chaos_table.specs.Pages.{is_element, pairs_in, all_pairs, counts_of, owners_on, page_given}
use Rattle.chaos_table.specs.Laws.{CoversOnce, CountsBefore, IsCovered}
use Rattle.chaos_table.proofs.OfLayout.{counts-of_layout, page-of_layout}
use Rattle.chaos_remap.proofs.Families.{by_node, filter-both}
use Rattle.plan_run.specs.Held.{IsPageOf}
use Rattle.plan_run.specs.Phases.{map_rows}
use Rattle.plan_run.specs.declared.stage.Stage.TheVariants as stage
use Rattle.chaos_moving.specs.declared.share.Share.{Share}
use Rattle.chaos_moving.specs.IsMoving.{HasShare, StandsOnNodes, lists_moved, taken_in}
use Rattle.chaos_moving.proofs.Lists.{map_twice, filter_flat_map, filter_mapped, one_of}

-- ---- pairs

pairs_back : (a b : ℕ → ℤ) (gs : List ℕ) → pairs_in (flat_map (λ g. a g ∷ b g ∷ []) gs) ≡ map (λ g. (a g, b g)) gs
pairs_back a b [] = refl
pairs_back a b (g ∷ gs) = ap (λ (l : List (ℤ × ℤ)). (a g, b g) ∷ l) (pairs_back a b gs)

turned : (a b : ℕ) → (a == b) ≡ (b == a)
turned a b = grind (arith, nat_tests)

filter_pieces : (t : ℕ → Bool) (xs : List ℕ) → filter t xs ≡ flat_map (λ x. cond (t x) (x ∷ []) []) xs
filter_pieces t [] = refl
filter_pieces t (x ∷ xs) =
    elim (t x) as (λ b. cond b (x ∷ filter t xs) (filter t xs) ≡ cond b (x ∷ []) [] ++ flat_map (λ x. cond (t x) (x ∷ []) []) xs) [
      | true ↦ ap (λ l. x ∷ l) (filter_pieces t xs)
      | false ↦ filter_pieces t xs
    ]

cond_turned : {A : Type 0} (b c : Bool) (x : List A) → cond (b && c) x [] ≡ cond c (cond b x []) []
cond_turned true true x = refl
cond_turned true false x = refl
cond_turned false true x = refl
cond_turned false false x = refl

map_cond : {A B : Type 0} (f : A → B) (b : Bool) (x : A) → map f (cond b (x ∷ []) []) ≡ cond b (f x ∷ []) []
map_cond f true x = refl
map_cond f false x = refl

and_true : (a b : Bool) → b ≡ true → (a && b) ≡ a
and_true true b e = e
and_true false b e = refl

-- of the numbers that pass, the one that is g
one_kept : (t : ℕ → Bool) (g n : ℕ) → 1 ≤ g → g ≤ n → filter (λ x. t x && (x == g)) (up_to n) ≡ cond (t g) (g ∷ []) []
one_kept t g n low high =
    let same : (x : ℕ) → cond (t x && (x == g)) (x ∷ []) [] ≡ cond (g == x) (cond (t x) (x ∷ []) []) [] =
    λ x. cond_turned (t x) (x == g) (x ∷ []) ∙ ap (λ b. cond b (cond (t x) (x ∷ []) []) []) (turned x g) in
    filter_pieces (λ x. t x && (x == g)) (up_to n)
    ∙ ap (λ (f : ℕ → List ℕ). flat_map f (up_to n)) (λ i x. same x i)
    ∙ one_of (λ x. cond (t x) (x ∷ []) []) g 1 n low (omega arith)

module _ (s : Scene) (owners : List (List ℕ)) (new : List ℕ) (array p : ℕ) (spread : StandsOnNodes s owners array (length new)) where
  abbrev named : ℕ → ℤ × ℤ
  named g = (pos g, pos (owner_in new g))

  abbrev comes : ℕ → ℕ → Bool
  comes q g = (owner_for s.checked.arrays owners array (pos g) == q) && (page_of (length new) s.nodes g == p)

  abbrev rows : ℕ → List ℤ
  rows q = map_rows s owners new array q p

  all_are : all_pairs (map rows (below s.nodes)) ≡ flat_map (λ q. map named (filter (comes q) (up_to (length new)))) (below s.nodes)
  all_are =
      flat_map-map pairs_in rows (below s.nodes)
      ∙ ap (λ (f : ℕ → List (ℤ × ℤ)). flat_map f (below s.nodes)) (λ i q. pairs_back pos (λ g. pos (owner_in new g))
      (filter (comes q) (up_to (length new))) i)

  of_one : (g q : ℕ) → 1 ≤ g → g ≤ length new → page_of (length new) s.nodes g ≡ p
      → filter (λ (pair : ℤ × ℤ). is_element pair.0 g) (map named (filter (comes q) (up_to (length new))))
      ≡ cond (owner_for s.checked.arrays owners array (pos g) == q) (named g ∷ []) []
  of_one g q low high here =
      filter_mapped (λ (pair : ℤ × ℤ). is_element pair.0 g) named (filter (comes q) (up_to (length new)))
      ∙ ap (map named) (filter-both (comes q) (λ x. x == g) (up_to (length new)) ∙ one_kept (comes q) g (length new) low high)
      ∙ map_cond named (comes q g) g
      ∙ ap (λ b. cond b (named g ∷ []) []) (and_true (owner_for s.checked.arrays owners array (pos g) == q)
      (page_of (length new) s.nodes g == p) (ap (λ n. n == p) here ∙ same_number p))

  pub covers_once : CoversOnce s.nodes p new (map rows (below s.nodes))
  covers_once g low high here =
      ap (filter (λ (pair : ℤ × ℤ). is_element pair.0 g)) all_are
      ∙ filter_flat_map (λ (pair : ℤ × ℤ). is_element pair.0 g) (λ q. map named (filter (comes q) (up_to (length new)))) (below s.nodes)
      ∙ ap (λ (f : ℕ → List (ℤ × ℤ)). flat_map f (below s.nodes)) (λ i q. of_one g q low high here i)
      ∙ one_of (λ q. named g ∷ []) (owner_for s.checked.arrays owners array (pos g)) 0 s.nodes (omega arith)
      (omega (arith, spread g low high))

-- ---- counts, and the page

counts_are : (nodes page : ℕ) (new : List ℕ) → counts_of nodes (page_owners nodes page new) ≡ map pos (counts_on_page nodes page new)
counts_are nodes page new = sym (map_twice pos (λ node. length_in (page_owners nodes page new) node) (below nodes))

module _ (share : Share) (s : Scene) (owners : List (List ℕ)) (store : List (List ℤ)) (new : List ℕ) (pairs : List (List ℤ))
    (has : HasShare share s owners store) (size : length new ≡ share.extent) (covered : IsCovered s.nodes share.me new pairs) where
  pub counts_sent : map (λ q. counts_of share.nodes (owners_on share.extent share.nodes share.me pairs)) (below share.nodes)
      ≡ lists_moved s owners store share.decomposition new stage.PageCounts share.me
  counts_sent =
      ap (λ n. map (λ q. counts_of n (owners_on share.extent n share.me pairs)) (below n)) has.count
      ∙ ap (λ e. map (λ q. counts_of s.nodes (owners_on e s.nodes share.me pairs)) (below s.nodes)) (sym size)
      ∙ ap (λ (l : List ℤ). map (λ q. l) (below s.nodes)) (counts-of_layout s.nodes share.me new pairs covered
      ∙ counts_are s.nodes share.me new)

  counted : (taken : List (List ℤ)) → share.me < s.nodes → taken ≡ taken_in s owners store share.decomposition new stage.PageCounts
      share.me → CountsBefore s.nodes share.me new taken
  counted taken there is before less =
      ap (λ (l : List (List ℤ)). list_at l before) is
      ∙ by_node (λ q. map pos (counts_on_page s.nodes q new)) before s.nodes (omega arith)
      ∙ sym (counts_are s.nodes before new)

  pub page_is : (taken : List (List ℤ)) → share.me < s.nodes → taken ≡ taken_in s owners store share.decomposition new stage.PageCounts
      share.me
      → IsPageOf s.nodes share.me new (page_given share.extent share.nodes share.me pairs taken)
  page_is taken there is =
      let page : page_given (length new) s.nodes share.me pairs taken ≡ page_given share.extent share.nodes share.me pairs taken =
      ap (λ e. page_given e s.nodes share.me pairs taken) size ∙ ap (λ n. page_given share.extent n share.me pairs taken) (sym has.count) in
      subst (IsPageOf s.nodes share.me new) page
      (λ g low high here. page-of_layout s.nodes share.me new pairs taken covered (counted taken there is) g low high here)
