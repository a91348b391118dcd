-- The provisional homes deal out a range in order, and each iteration has one home among the nodes.
use Rattle.std.specs.Prelude.{◌≡◌, refl, ℕ, zero, suc, ◌+◌, ◌-◌, ◌*◌, ◌/◌, ◌<◌, ◌≤◌, ℤ, pos, negsuc, ◌+ℤ◌, ◌-ℤ◌, Bool, true, false, ◌==◌}
use Rattle.std.specs.Prelude.{cond, List, [], ◌∷◌, map, flat_map, find, count_by, slice_get, unwrap_or, Some}
use Rattle.std.specs.List.{AllByRecursion, range_with_len, enumerate_from}
use Rattle.std.proofs.Common.{ap, sym, ◌∙◌, subst, arith, inl, inr}
use Rattle.std.proofs.lemmas.Bool.{cases_lt}
use Rattle.std.proofs.lemmas.Bool.Decides.{nat_tests}
use Rattle.std.proofs.lemmas.Int.{ints}
use Rattle.std.proofs.lemmas.List.Sums.{sum_by-cons}
use Rattle.std.proofs.lemmas.Nat.{div_below, le-div, div-add-mod', mod_below}
use Rattle.fd_words.specs.Lists.{list_at}
use Rattle.fd_words.specs.Value.{remainder_of}
use Rattle.chaos_dist.specs.Buckets.{Ascends, buckets-all}
use Rattle.chaos_dist.specs.Counting.{below}
use Rattle.chaos_dist.specs.Homes.{natural, is_most}
use Rattle.chaos_dist.specs.Layout.{divided_up, owner_of}
use Rattle.chaos_dist.specs.LayoutLaws.{divided_up-enough, owner_of-below}
use Rattle.chaos_dist.specs.Owners.{owner_in}
use Rattle.chaos_dist.specs.declared.step_form.StepForm.{StepForm}
use Rattle.chaos_dist.specs.declared.step_form.StepForm.TheVariants.{Regular, Map}
use Rattle.fd_program.specs.CombinedLaws.{AreOnce, one_if}
use Rattle.fd_program.specs.Homes.{provisional_home, inspected_by, home_of, home_by, looked_at, owner_met, uses_at}
use Rattle.fd_program.specs.Layouts.{Scene, loop_at, owners_at, owners_by, owners_by_map, store_at}
use Rattle.fd_program.specs.ListLaws.{or_none}
use Rattle.fd_program.specs.Loops.{counted_from, count_between, iterations_of}
use Rattle.fd_program.specs.Past.{form_set}
use Rattle.fd_program.specs.declared.array.LayoutName.{LayoutName}
use Rattle.fd_program.specs.declared.loop_facts.HomeRule.{HomeRule}
use Rattle.fd_program.specs.declared.loop_facts.HomeRule.TheVariants.{Owner, Most}
use Rattle.fd_program.specs.declared.loop_facts.LoopFacts.{LoopFacts}
use Rattle.fd_program.specs.declared.trace.LoopTurn.{LoopTurn}
use Rattle.fd_program.specs.declared.trace.Step.{Step}

-- the iterations that the nodes inspect are the range in order
abbrev pub InspectedInOrder : Type 0
InspectedInOrder = (f : LoopFacts) → 1 ≤ f.nodes → flat_map (inspected_by f) (below f.nodes) ≡ iterations_of f.turn

-- each iteration has one home among the nodes
abbrev pub HomesAreOnce : Type 0
HomesAreOnce =
    (s : Scene) (past : List Step) (site : ℕ) (turn : LoopTurn) (store : List (List ℤ)) → 1 ≤ s.nodes
    → AreOnce (home_of (loop_at s past site turn) (owners_at s past) store) (below s.nodes) (iterations_of turn)

-- ---- provisional homes ascend

distance : (low z : ℤ) (k : ℕ) → z ≡ (low +ℤ pos k) → natural (z -ℤ low) ≡ k
distance low z k e = let d : z -ℤ low ≡ pos k = omega (arith, ints) in ap natural d

further : (low z : ℤ) (k : ℕ) → z ≡ (low +ℤ pos k) → z +ℤ pos 1 ≡ (low +ℤ pos (k + 1))
further low z k e = omega (arith, ints)

grows : (k w : ℕ) → 0 < w → k / w ≤ (k + 1) / w
grows k w some =
    let whole = div-add-mod' k w in
    let least : (k / w) * w ≤ k + 1 = omega (arith, whole) in
    le-div (k / w) (k + 1) w some least

ascends_from : (low : ℤ) (w nodes lo k n : ℕ) → 0 < w → k + n ≤ nodes * w → lo ≤ k / w → (z : ℤ) → z ≡ (low +ℤ pos k)
    → Ascends (λ (i : ℤ). natural (i -ℤ low) / w) lo nodes (counted_from z n)
ascends_from low w nodes lo k zero some fits from z e = tt
ascends_from low w nodes lo k (suc n) some fits from z e =
    let here : natural (z -ℤ low) ≡ k = distance low z k e in
    let few : k < nodes * w = omega (arith, fits) in
    let fits' : k + 1 + n ≤ nodes * w = omega (arith, fits) in (
      subst (λ j. lo ≤ j / w) (sym here) from,
      subst (λ j. j / w < nodes) (sym here) (div_below k w nodes some few),
      ascends_from low w nodes (natural (z -ℤ low) / w) (k + 1) n some fits' (subst (λ j. j / w ≤ (k + 1) / w) (sym here)
          (grows k w some)) (z +ℤ pos 1) (further low z k e),
    )

some_width : (e n : ℕ) → 1 ≤ n → 1 ≤ e → 0 < divided_up e n
some_width e n h g = le-div 1 (e + n - 1) n h (omega arith)

in_blocks : (low : ℤ) (nodes n : ℕ) → 1 ≤ nodes → Ascends (λ (i : ℤ). natural (i -ℤ low) / divided_up n nodes) 0 nodes (counted_from low n)
in_blocks low nodes zero h = tt
in_blocks low nodes (suc n) h =
    let w = divided_up (suc n) nodes in
    let some : 0 < w = some_width (suc n) nodes h (omega arith) in
    let enough : suc n ≤ nodes * w = divided_up-enough (suc n) nodes h in
    let fits : 0 + suc n ≤ nodes * w = omega (arith, enough) in
    let start : low ≡ (low +ℤ pos 0) = omega (arith, ints) in
    let least : 0 ≤ 0 / w = omega arith in
    ascends_from low w nodes 0 0 (suc n) some fits least low start

pub inspected_in_order : InspectedInOrder
inspected_in_order f h =
    let same : f.nodes ≡ 0 + f.nodes = omega arith in
    buckets-all (provisional_home f) 0 f.nodes (iterations_of f.turn)
    (subst (λ high. Ascends (provisional_home f) 0 high (iterations_of f.turn)) same
    (in_blocks f.turn.low f.nodes (count_between f.turn.low f.turn.high) h))

-- ---- homes are nodes

-- each owner is a node
abbrev pub AreNodes : ℕ → List (List ℕ) → Type 0
AreNodes nodes owners = AllByRecursion (λ list. AllByRecursion (λ o. o < nodes) list) owners

pub owner_within : (nodes : ℕ) (owners : List (List ℕ)) (d e : ℕ) → 1 ≤ nodes → AreNodes nodes owners → owner_in (list_at owners d) e
    < nodes
owner_within nodes owners d e some all =
    or_none (λ o. o < nodes) (list_at owners d) (e - 1) 0 (omega arith)
    (or_none (λ list. AllByRecursion (λ o. o < nodes) list) owners d [] tt all)

found_below : (p : ℕ → Bool) (a n : ℕ) → 1 ≤ a + n → unwrap_or (find p (range_with_len a n)) 0 < a + n
found_below p a zero h = omega arith
found_below p a (suc n) h = by (p a) (found_below p (a + 1) n (omega arith))
  where
    by : (b : Bool) → unwrap_or (find p (range_with_len (a + 1) n)) 0 < a + 1 + n
        → unwrap_or (cond b (Some a) (find p (range_with_len (a + 1) n))) 0 < a + suc n
    by true less = omega arith
    by false less = omega (arith, less)

pub home_of-below : (f : LoopFacts) (owners : List (List ℕ)) (store : List (List ℤ)) (i : ℤ) → 1 ≤ f.nodes → AreNodes f.nodes owners
    → home_of f owners store i < f.nodes
home_of-below f owners store i some all = by f.rule
  where
    by : (rule : HomeRule) → home_by rule f.nodes (map (owner_met f owners) (looked_at rule f.site.body (uses_at f store i))) < f.nodes
    by Owner = owner_within f.nodes owners _ _ some all
    by Most =
        let found = found_below (is_most f.nodes (map (owner_met f owners) (uses_at f store i))) 0 f.nodes (omega (arith, some)) in
        omega (arith, found)

none_below : (h a n : ℕ) → h < a → count_by (λ node. h == node) (range_with_len a n) ≡ 0
none_below h a zero less = refl
none_below h a (suc n) less =
    let other : (h == a) ≡ false = grind (arith, nat_tests) in
    let nought : one_if (h == a) ≡ 0 = ap one_if other in
    let rest = none_below h (a + 1) n (omega (arith, less)) in
    sum_by-cons (λ node. one_if (h == node)) a (range_with_len (a + 1) n) ∙ omega (arith, nought, rest)

once_in : (h a n : ℕ) → a ≤ h → h < a + n → count_by (λ node. h == node) (range_with_len a n) ≡ 1
once_in h a zero low high = absurd (omega arith)
once_in h a (suc n) low high = elim (cases_lt a h) [
  | inl less ↦
      let other : (h == a) ≡ false = grind (arith, nat_tests) in
      let nought : one_if (h == a) ≡ 0 = ap one_if other in
      let rest = once_in h (a + 1) n (omega (arith, less)) (omega (arith, high)) in
      sum_by-cons (λ node. one_if (h == node)) a (range_with_len (a + 1) n) ∙ omega (arith, nought, rest)
  | inr least ↦
      let same : (h == a) ≡ true = grind (arith, nat_tests) in
      let one : one_if (h == a) ≡ 1 = ap one_if same in
      let rest = none_below h (a + 1) n (omega (arith, least)) in
      sum_by-cons (λ node. one_if (h == node)) a (range_with_len (a + 1) n) ∙ omega (arith, one, rest)
]

pub are_once : (home : ℤ → ℕ) (nodes : ℕ) (iterations : List ℤ) → ((i : ℤ) → home i < nodes) → AreOnce home (below nodes) iterations
are_once home nodes [] within = tt
are_once home nodes (i ∷ is) within = (
  once_in (home i) 0 nodes (omega arith) (let h = within i in omega (arith, h)),
  are_once home nodes is within,
)

-- ---- the owners at a step are nodes

all_range : (P : ℕ → Type 0) (f : ℕ → ℕ) (a n : ℕ) → ((g : ℕ) → a ≤ g → g < a + n → P (f g)) → AllByRecursion P (map f (range_with_len a n))
all_range P f a zero h = tt
all_range P f a (suc n) h = (h a (omega arith) (omega arith), all_range P f (a + 1) n (λ g low high. h g (omega arith) (omega arith)))

remainder_below : (v : ℤ) (nodes : ℕ) → 1 ≤ nodes → remainder_of v nodes < nodes
remainder_below (pos a) nodes h = mod_below a nodes h
remainder_below (negsuc a) nodes h = let r = mod_below a nodes h in omega (arith, r, h)

mapped_below : (nodes : ℕ) (values : List ℤ) → 1 ≤ nodes → AllByRecursion (λ o. o < nodes) (owners_by_map nodes values)
mapped_below nodes [] h = tt
mapped_below nodes (v ∷ vs) h = (remainder_below v nodes h, mapped_below nodes vs h)

owners_by-below : (s : Scene) (extent : ℕ) (form : StepForm) (before : List Step) → 1 ≤ s.nodes
    → AllByRecursion (λ o. o < s.nodes) (owners_by s extent (form, before))
owners_by-below s extent (Regular shape) before h =
    all_range (λ o. o < s.nodes) (owner_of shape extent s.nodes) 1 extent (λ g low high. owner_of-below shape extent s.nodes g h
    (omega (arith, high)) low)
owners_by-below s extent (Map array) before h = mapped_below s.nodes (list_at (store_at s before) array) h

owners_from-below : (s : Scene) (past : List Step) (layouts : List LayoutName) (a : ℕ) → 1 ≤ s.nodes
    → AreNodes s.nodes (map (λ (d, l). owners_by s l.extent (form_set past d)) (enumerate_from a layouts))
owners_from-below s past [] a h = tt
owners_from-below s past (l ∷ layouts) a h =
    (owners_by-below s l.extent (form_set past a).0 (form_set past a).1 h, owners_from-below s past layouts (a + 1) h)

pub owners_at-below : (s : Scene) (past : List Step) → 1 ≤ s.nodes → AreNodes s.nodes (owners_at s past)
owners_at-below s past h = owners_from-below s past s.checked.layouts 0 h

pub homes_are_once : HomesAreOnce
homes_are_once s past site turn store h =
    are_once (home_of (loop_at s past site turn) (owners_at s past) store) s.nodes (iterations_of turn)
    (λ i. home_of-below (loop_at s past site turn) (owners_at s past) store i h (owners_at-below s past h))
