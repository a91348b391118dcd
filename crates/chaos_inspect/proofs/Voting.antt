-- The least of the nodes' votes is the offence of the loop.
use Rattle.std.proofs.Common.{◌≡◌, ℕ, zero, suc, ◌+◌, ◌/◌, ◌<◌, ◌≤◌, ◌⊎◌, ℤ, pos, negsuc, ◌+ℤ◌, ◌-ℤ◌, ◌<ℤ◌, ◌≤ℤ◌, Bool, true, false, ◌==◌}
use Rattle.std.proofs.Common.{cond, List, [], ◌∷◌, length, map, replicate, Option, Some, None, refl, ap, sym, ◌∙◌, subst, arith, inl, inr}
use Rattle.std.specs.Prelude.{filter_map, not, ◌&&◌, IfSome}
use Rattle.std.specs.List.{flat_map, range_with_len, cons_option, AllByRecursion}
use Rattle.std.proofs.lemmas.Bool.Decides.{nat_tests}
use Rattle.std.proofs.lemmas.Int.{by_lt_z, ints}
use Rattle.std.proofs.lemmas.Nat.{le-div, div-add-mod'}
use Rattle.std.proofs.lemmas.List.Elements.{All-from_recursion, filter_map-append}
use Rattle.std.proofs.lemmas.Option.{none-some, same_Some}
use Rattle.fd_words.specs.declared.place.Offence.{Offence}
use Rattle.chaos_dist.specs.Counting.{below}
use Rattle.chaos_dist.specs.Homes.{natural}
use Rattle.chaos_dist.specs.Layout.{divided_up}
use Rattle.chaos_dist.specs.LayoutLaws.{divided_up-is}
use Rattle.chaos_vote.specs.LeastLaws.{least_of-in_order}
use Rattle.chaos_vote.specs.VoteLaws.{read_vote-numbers}
use Rattle.chaos_vote.specs.Votes.{AreInOrder, first_vote, is_less, least_of, read_vote, vote_numbers}
use Rattle.fd_program.specs.Homes.{inspected_by, provisional_home, uses_at, vote_of}
use Rattle.fd_program.specs.ListLaws.{all_append, all_filter}
use Rattle.fd_program.specs.Loops.{count_between, counted_from, first_of, iterations_of, offence_at, offence_of, offences_in}
use Rattle.fd_program.specs.Stores.{is_within, number_at}
use Rattle.fd_program.specs.Uses.{index_value, subscript_of, use_of, uses_from}
use Rattle.fd_program.specs.VoteLaws.{first_some, votes_tell}
use Rattle.fd_program.specs.declared.loop_facts.LoopFacts.{LoopFacts}
use Rattle.fd_program.specs.declared.loop_use.Use.{Use}
use Rattle.fd_program.specs.declared.reference.Reference.{Reference}
use Rattle.plan_loop.specs.LoopLetters.{owed_in, sent_in}
use Rattle.plan_loop.specs.declared.loop_phase.LoopPhase.TheVariants.{Vote}
use Rattle.inspect_uses.specs.Accepted.{IsAccepted}
use Rattle.chaos_inspect.specs.Walking.{uses_through}
use Rattle.chaos_inspect.specs.Met.{values_of}
use Rattle.chaos_inspect.proofs.Fetching.{map_map_same}
use Rattle.chaos_inspect.proofs.Walks.{through_all}

-- ---- the own vote

pub own_right : (f : LoopFacts) (store : List (List ℤ)) (p : ℕ) (values : List ℤ) → values ≡ values_of f store p
    → first_of (filter_map (offence_at f.arrays) (uses_through f (inspected_by f p) values)) ≡ vote_of f store p
own_right f store p values e = ap (λ us. first_of (filter_map (offence_at f.arrays) us)) (through_all f store (inspected_by f p) values e)

same_to_all : (l : List ℤ) (a n : ℕ) → replicate n l ≡ map (λ q. l) (range_with_len a n)
same_to_all l a zero = refl
same_to_all l a (suc n) = ap (λ ls. l ∷ ls) (same_to_all l (a + 1) n)

pub votes_sent : (f : LoopFacts) (owners : List (List ℕ)) (store : List (List ℤ)) (p : ℕ) (vote : Option Offence) → vote ≡ vote_of f store p
    → replicate f.nodes (vote_numbers vote) ≡ sent_in f owners store Vote p
votes_sent f owners store p vote e = ap (λ v. replicate f.nodes (vote_numbers v)) e
    ∙ same_to_all (vote_numbers (vote_of f store p)) 0 f.nodes

-- ---- what a vote is

-- the iteration is one that q inspects, and the reference one of the loop's
record IsVote (f : LoopFacts) (q : ℕ) (o : Offence) : Type 0 where
  home : provisional_home f o.iteration ≡ q
  low : f.turn.low ≤ℤ o.iteration
  small : o.reference ≤ length f.site.references

record IsUse (i : ℤ) (most : ℕ) (u : Use) : Type 0 where
  iteration : u.iteration ≡ i
  small : u.number ≤ most

uses_are : (f : LoopFacts) (store : List (List ℤ)) (i : ℤ) (most place : ℕ) (before : Option ℤ) (references : List Reference)
    → place + length references ≤ most
    → AllByRecursion (IsUse i most) (uses_from f.arrays f.turn.adds store i place before references)
uses_are f store i most place before [] few = tt
uses_are f store i most place before (r ∷ rs) few =
    let u = use_of r i (place + 1) (subscript_of r.subscript i (number_at f.turn.adds place) before) in (
      record { iteration = refl; small = omega (arith, few) },
      uses_are f store i most (place + 1) (index_value f.arrays store u) rs
          (omega (arith, few)),
    )

offence_parts : (b : Bool) (o p : Offence) → cond b (Some o) None ≡ Some p → o ≡ p
offence_parts true o p e = cc
offence_parts false o p e = cc

all_offences : (f : LoopFacts) (q : ℕ) (i : ℤ) → provisional_home f i ≡ q → f.turn.low ≤ℤ i → (us : List Use)
    → AllByRecursion (IsUse i (length f.site.references)) us
    → AllByRecursion (IsVote f q) (filter_map (offence_at f.arrays) us)
all_offences f q i home low [] h = tt
all_offences f q i home low (u ∷ us) h = by (u.defined && not (is_within f.arrays u.array u.subscript)) (all_offences f q i home low us h.1)
  where
    by : (b : Bool) → AllByRecursion (IsVote f q) (filter_map (offence_at f.arrays) us)
        → AllByRecursion (IsVote f q) (cons_option
        (cond b (Some (record { iteration = u.iteration; reference = u.number; subscript = u.subscript })) None)
        (filter_map (offence_at f.arrays) us))
    by true rest = (
      record {
        home = ap (provisional_home f) h.0.iteration ∙ home;
        low = subst (λ j. f.turn.low ≤ℤ j) (sym h.0.iteration) low;
        small = h.0.small;
      },
      rest,
    )
    by false rest = rest

all_counted : (low z : ℤ) (n : ℕ) → low ≤ℤ z → AllByRecursion (λ i. low ≤ℤ i) (counted_from z n)
all_counted low z zero h = tt
all_counted low z (suc n) h = (h, all_counted low (z +ℤ pos 1) n (omega (arith, ints, h)))

abbrev IsInspected : LoopFacts → ℕ → ℤ → Type 0
IsInspected f q i = ((provisional_home f i == q) ≡ true) × (f.turn.low ≤ℤ i)

same_numbers : (k q : ℕ) → (k == q) ≡ true → k ≡ q
same_numbers k q e = grind (arith, nat_tests)

votes_in : (f : LoopFacts) (store : List (List ℤ)) (q : ℕ) (is : List ℤ) → AllByRecursion (IsInspected f q) is
    → AllByRecursion (IsVote f q) (filter_map (offence_at f.arrays) (flat_map (uses_at f store) is))
votes_in f store q [] h = tt
votes_in f store q (i ∷ is) h =
    subst (AllByRecursion (IsVote f q)) (sym (filter_map-append (offence_at f.arrays) (uses_at f store i) (flat_map (uses_at f store) is)))
    (all_append (IsVote f q) (filter_map (offence_at f.arrays) (uses_at f store i))
    (filter_map (offence_at f.arrays) (flat_map (uses_at f store) is))
    (all_offences f q i (same_numbers _ _ h.0.0) h.0.1 (uses_at f store i)
    (uses_are f store i (length f.site.references) 0 None f.site.references (omega arith)))
    (votes_in f store q is h.1))

first_is : {A : Type 0} (P : A → Type 0) (xs : List A) (x : A) → AllByRecursion P xs → first_of xs ≡ Some x → P x
first_is P [] x h e = absurd (none-some x e)
first_is P (y ∷ ys) x h e = subst P (same_Some y x e) h.0

vote_is : (f : LoopFacts) (store : List (List ℤ)) (q : ℕ) (o : Offence) → vote_of f store q ≡ Some o → IsVote f q o
vote_is f store q o e =
    first_is (IsVote f q) (offences_in f.arrays f.site f.turn store (inspected_by f q)) o
    (votes_in f store q (inspected_by f q)
    (all_filter (λ i. f.turn.low ≤ℤ i) (λ i. provisional_home f i == q) (iterations_of f.turn)
    (all_counted f.turn.low f.turn.low (count_between f.turn.low f.turn.high) (omega (arith, ints)))))
    e

-- a vote is read back from its letter
read_back : (f : LoopFacts) (store : List (List ℤ)) (q : ℕ) → length f.site.references ≤ 64 → read_vote (vote_numbers (vote_of f store q))
    ≡ vote_of f store q
read_back f store q few = by (vote_of f store q) refl
  where
    by : (v : Option Offence) → vote_of f store q ≡ v → read_vote (vote_numbers v) ≡ v
    by None e = refl
    by (Some o) e = let small = (vote_is f store q o e).small in read_vote-numbers o (omega (arith, small, few))

-- ---- their order

natural_le : (x y : ℤ) → x ≤ℤ y → natural x ≤ natural y
natural_le (pos m) (pos n) h = omega (arith, ints, h)
natural_le (pos m) (negsuc n) h = absurd (omega (arith, ints, h))
natural_le (negsuc m) y h = omega arith

div_le : (m n k : ℕ) → 0 < k → m ≤ n → m / k ≤ n / k
div_le m n k some h = le-div (m / k) n k some (omega (arith, div-add-mod' m k, h))

before : (f : LoopFacts) (a b : ℕ) (o p : Offence) → IsAccepted f → IsVote f a o → IsVote f b p → a < b → is_less p o ≡ false
before f a b o p accepted first second less = elim (by_lt o.iteration p.iteration) [
  | inl earlier ↦ grind (arith, ints, nat_tests)
  | inr later ↦
      let width = divided_up (natural (f.turn.high -ℤ f.turn.low +ℤ pos 1)) f.nodes in
      let range : f.turn.low ≤ℤ f.turn.high = accepted.range in
      let long : pos 1 ≤ℤ (f.turn.high -ℤ f.turn.low +ℤ pos 1) = omega (arith, ints, range) in
      let some : 0 < width = width_some (f.turn.high -ℤ f.turn.low +ℤ pos 1) f.nodes long accepted.some_nodes in
      let order : (p.iteration -ℤ f.turn.low) ≤ℤ (o.iteration -ℤ f.turn.low) = omega (arith, ints, later) in
      let homes : natural (p.iteration -ℤ f.turn.low) / width ≤ natural (o.iteration -ℤ f.turn.low) / width =
      div_le (natural (p.iteration -ℤ f.turn.low)) (natural (o.iteration -ℤ f.turn.low)) width some
      (natural_le (p.iteration -ℤ f.turn.low) (o.iteration -ℤ f.turn.low) order) in
      absurd (omega (arith, homes, first.home, second.home, less))
]
  where
    by_lt : (x y : ℤ) → (x <ℤ y) ⊎ (y ≤ℤ x)
    by_lt x y = by_lt_z x y inl inr

    width_some : (z : ℤ) (n : ℕ) → pos 1 ≤ℤ z → 1 ≤ n → 0 < divided_up (natural z) n
    width_some (pos m) n long nodes = let is = divided_up-is m n (omega (arith, ints, long)) nodes in omega (arith, is)
    width_some (negsuc m) n long nodes = absurd (omega (arith, ints, long))

abbrev IsNotBefore : Option Offence → Option Offence → Type 0
IsNotBefore v w = IfSome v (λ x. IfSome w (λ y. is_less y x ≡ false))

one_before : (f : LoopFacts) (store : List (List ℤ)) (a b : ℕ) → IsAccepted f → a < b → IsNotBefore (vote_of f store a) (vote_of f store b)
one_before f store a b accepted less = by (vote_of f store a) (vote_of f store b) refl refl
  where
    by : (v w : Option Offence) → vote_of f store a ≡ v → vote_of f store b ≡ w → IsNotBefore v w
    by None w e g = tt
    by (Some o) None e g = tt
    by (Some o) (Some p) e g = before f a b o p accepted (vote_is f store a o e) (vote_is f store b p g) less

all_before : (f : LoopFacts) (store : List (List ℤ)) (a b n : ℕ) → IsAccepted f → a < b
    → AllByRecursion (IsNotBefore (vote_of f store a)) (map (vote_of f store) (range_with_len b n))
all_before f store a b zero accepted less = tt
all_before f store a b (suc n) accepted less = (
  one_before f store a b accepted less,
  all_before f store a (b + 1) n accepted
      (omega (arith, less)),
)

in_order : (f : LoopFacts) (store : List (List ℤ)) (a n : ℕ) → IsAccepted f → AreInOrder (map (vote_of f store) (range_with_len a n))
in_order f store a zero accepted = tt
in_order f store a (suc n) accepted = (
  All-from_recursion (IsNotBefore (vote_of f store a)) (map (vote_of f store) (range_with_len (a + 1) n))
      (all_before f store a (a + 1) n accepted (omega arith)),
  in_order f store (a + 1) n accepted,
)

first_same : (votes : List (Option Offence)) → first_vote votes ≡ first_some votes
first_same [] = refl
first_same (None ∷ votes) = first_same votes
first_same (Some o ∷ votes) = refl

pub least_right : (f : LoopFacts) (owners : List (List ℕ)) (store : List (List ℤ)) (p : ℕ) → IsAccepted f
    → least_of (map read_vote (owed_in f owners store Vote p)) ≡ offence_of f.arrays f.site f.turn store
least_right f owners store p accepted =
    ap least_of (map_map_same read_vote (λ q. vote_numbers (vote_of f store q)) (vote_of f store)
    (λ q. read_back f store q accepted.site.few) (below f.nodes))
    ∙ least_of-in_order (map (vote_of f store) (below f.nodes)) (in_order f store 0 f.nodes accepted)
    ∙ first_same (map (vote_of f store) (below f.nodes))
    ∙ votes_tell f store accepted.some_nodes
