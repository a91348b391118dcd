-- Two executions of a FORALL with one range and the same numbers in their subscripts, over stores that agree on its index arrays and
-- layouts that agree on the decompositions of its references: all subscripts, homes, needed and given elements are the same.
use Rattle.std.specs.Prelude.{◌≡◌, refl, ℕ, zero, suc, ◌+◌, ◌-◌, ◌≤◌, ℤ, Bool, false, ◌&&◌, ◌==◌, if◌then◌else◌, List, [], ◌∷◌, map, filter}
use Rattle.std.specs.Prelude.{flat_map, filter_map, slice_get, Option, Some, None, IsSomeAnd, length}
use Rattle.std.specs.List.{AllByRecursion}
use Rattle.std.specs.Option.{option_map_or}
use Rattle.std.proofs.Common.{ap, sym, ◌∙◌, cond, subst, arith}
use Rattle.std.proofs.lemmas.List.Elements.{recursion_from_All}
use Rattle.std.proofs.Math.Path.{fun_ext}
use Rattle.fd_words.specs.Lists.{list_at}
use Rattle.fd_words.specs.declared.place.Role.{Role}
use Rattle.fd_words.specs.declared.place.Role.TheVariants.{Index, Read, Target}
use Rattle.fd_program.specs.Cells.{ascending}
use Rattle.fd_program.specs.Checks.{IsSite, IsStatement, HasRole}
use Rattle.fd_program.specs.LoopCases.{use_at-array}
use Rattle.fd_program.specs.Homes.{uses_at, owner_met, first_target, looked_at, home_by, home_of, executed_by, cell_of, cells_of}
use Rattle.fd_program.specs.Homes.{between_nodes, needed_of, given_of}
use Rattle.fd_program.specs.ListLaws.{all_flat_map, all_at}
use Rattle.fd_program.specs.Loops.{offence_of, offence_at, first_of, range_of, iterations_of}
use Rattle.fd_program.specs.Places.{decomposition_of, stands_at}
use Rattle.chaos_dist.specs.Owners.{owner_in}
use Rattle.fd_program.specs.Stores.{number_at, place_of}
use Rattle.fd_program.specs.Uses.{is_met, read_of, index_value, subscript_of, use_of, uses_from, uses_of, use_at}
use Rattle.fd_words.specs.Roles.{is_index, is_read, is_target}
use Rattle.fd_program.specs.declared.array.ArrayFacts.{ArrayFacts}
use Rattle.fd_program.specs.declared.body.CheckedBody.{CheckedBody}
use Rattle.fd_program.specs.declared.loop_facts.HomeRule.{HomeRule}
use Rattle.fd_program.specs.declared.loop_facts.HomeRule.TheVariants.{Owner, Most}
use Rattle.fd_program.specs.declared.loop_facts.Layout.{Layout}
use Rattle.fd_program.specs.declared.loop_facts.LoopFacts.{LoopFacts}
use Rattle.fd_program.specs.declared.loop_use.Use.{Use}
use Rattle.fd_program.specs.declared.reference.Reference.{Reference}
use Rattle.fd_program.specs.declared.site.Site.{Site}
use Rattle.fd_program.specs.declared.trace.LoopTurn.{LoopTurn}

-- ---- statement

-- two turns of one FORALL
pub record AreSameTurns (one other : LoopTurn) : Type 0 where
  pub low : one.low ≡ other.low
  pub high : one.high ≡ other.high
  pub adds : one.adds ≡ other.adds

-- the stores agree on each index array
abbrev pub HaveSameIndexes : List (List ℤ) → List (List ℤ) → List Reference → Type 0
HaveSameIndexes store later references = AllByRecursion (λ (r : Reference). r.role ≡ Index
    → list_at store r.array ≡ list_at later r.array) references

-- the layouts agree on the decomposition of each reference
abbrev pub HaveSameOwners : List ArrayFacts → List (List ℕ) → List (List ℕ) → List Reference → Type 0
HaveSameOwners arrays owners others references =
    AllByRecursion (λ (r : Reference). list_at owners (decomposition_of arrays r.array) ≡ list_at others
    (decomposition_of arrays r.array)) references

-- the two executions do the same but for values
pub record AreSameExecutions (f g : LoopFacts) (owners others : List (List ℕ)) (store later : List (List ℤ)) : Type 0 where
  pub uses : (i : ℤ) → uses_at f store i ≡ uses_at g later i
  pub offence : offence_of f.arrays f.site f.turn store ≡ offence_of g.arrays g.site g.turn later
  pub homes : (i : ℤ) → home_of f owners store i ≡ home_of g others later i
  pub executed : (node : ℕ) → executed_by f owners store node ≡ executed_by g others later node
  pub needed : (p q : ℕ) → needed_of f owners store p q ≡ needed_of g others later p q
  pub given : (p q : ℕ) → given_of f owners store p q ≡ given_of g others later p q

-- the facts of an execution of a FORALL
abbrev pub facts_of : List ArrayFacts → Site → ℕ → HomeRule → LoopTurn → List Layout → LoopFacts
facts_of arrays site n rule turn ls = record { arrays = arrays; site = site; turn = turn; layouts = ls; nodes = n; rule = rule }

abbrev pub SameLoopsDoTheSame : Type 0
SameLoopsDoTheSame =
    (arrays : List ArrayFacts) (site : Site) (nodes : ℕ) (rule : HomeRule) (one other : LoopTurn) (layouts others : List Layout)
    (owners owners' : List (List ℕ)) (store later : List (List ℤ))
    → IsSite arrays site → AreSameTurns one other → HaveSameIndexes store later site.references
    → HaveSameOwners arrays owners owners' site.references
    → AreSameExecutions (facts_of arrays site nodes rule one layouts) (facts_of arrays site nodes rule other others) owners owners' store
    later

-- ---- lists of elements that each have a property

map_same : {A B : Type 0} (P : A → Type 0) (f g : A → B) → ((x : A) → P x → f x ≡ g x) → (xs : List A) → AllByRecursion P xs
    → map f xs ≡ map g xs
map_same P f g same [] h = refl
map_same P f g same (x ∷ xs) h = ap (λ y. y ∷ map f xs) (same x h.0) ∙ ap (λ ys. g x ∷ ys) (map_same P f g same xs h.1)

pub filter_same : {A : Type 0} (P : A → Type 0) (p q : A → Bool) → ((x : A) → P x → p x ≡ q x) → (xs : List A) → AllByRecursion P xs
    → filter p xs ≡ filter q xs
filter_same P p q same [] h = refl
filter_same P p q same (x ∷ xs) h =
    ap (λ b. cond b (x ∷ filter p xs) (filter p xs)) (same x h.0) ∙ ap (λ ys. cond (q x) (x ∷ ys) ys) (filter_same P p q same xs h.1)

all_of : {A : Type 0} (P : A → Type 0) → ((x : A) → P x) → (xs : List A) → AllByRecursion P xs
all_of P h [] = tt
all_of P h (x ∷ xs) = (h x, all_of P h xs)

-- ---- uses

index_value_same : (arrays : List ArrayFacts) (store later : List (List ℤ)) (r : Reference) (i : ℤ) (number : ℕ) (s : Option ℤ)
    → (r.role ≡ Index → list_at store r.array ≡ list_at later r.array) → index_value arrays store (use_of r i number s)
    ≡ index_value arrays later (use_of r i number s)
index_value_same arrays store later r i number s same = by r.role refl
  where
    none : is_index r.role ≡ false → index_value arrays store (use_of r i number s) ≡ index_value arrays later (use_of r i number s)
    none e =
        ap (λ b. if b && is_met arrays (use_of r i number s) then Some (read_of store (use_of r i number s)) else None) e
        ∙ sym (ap (λ b. if b && is_met arrays (use_of r i number s) then Some (read_of later (use_of r i number s)) else None) e)

    by : (role : Role) → r.role ≡ role → index_value arrays store (use_of r i number s) ≡ index_value arrays later (use_of r i number s)
    by Index e = ap (λ list. if is_index r.role && is_met arrays (use_of r i number s)
        then Some (number_at list (place_of (use_of r i number s).subscript)) else None) (same e)
    by Read e = none (ap is_index e)
    by Target e = none (ap is_index e)

pub uses_from-same : (arrays : List ArrayFacts) (adds : List ℤ) (store later : List (List ℤ)) (i : ℤ) (place : ℕ) (before : Option ℤ)
    (references : List Reference)
    → HaveSameIndexes store later references → uses_from arrays adds store i place before references ≡ uses_from arrays adds later i place
    before references
uses_from-same arrays adds store later i place before [] h = refl
uses_from-same arrays adds store later i place before (r ∷ rs) h =
    let s = subscript_of r.subscript i (number_at adds place) before in
    let u = use_of r i (place + 1) s in
    ap (λ next. u ∷ uses_from arrays adds store i (place + 1) next rs) (index_value_same arrays store later r i (place + 1) s h.0)
    ∙ ap (λ us. u ∷ us) (uses_from-same arrays adds store later i (place + 1) (index_value arrays later u) rs h.1)

pub uses_of-same : (arrays : List ArrayFacts) (site : Site) (one other : LoopTurn) (store later : List (List ℤ)) → AreSameTurns one other
    → HaveSameIndexes store later site.references → uses_of arrays site one store ≡ uses_of arrays site other later
uses_of-same arrays site one other store later turns indexes =
    fun_ext (λ i. ap (λ adds. uses_from arrays adds store i 0 None site.references) turns.adds
    ∙ uses_from-same arrays other.adds store later i 0 None site.references indexes)

iterations_same : (one other : LoopTurn) → AreSameTurns one other → iterations_of one ≡ iterations_of other
iterations_same one other turns = ap (λ low. range_of low one.high) turns.low ∙ ap (λ high. range_of other.low high) turns.high

pub offence_of-same : (arrays : List ArrayFacts) (site : Site) (one other : LoopTurn) (store later : List (List ℤ)) → AreSameTurns one other
    → HaveSameIndexes store later site.references → offence_of arrays site one store ≡ offence_of arrays site other later
offence_of-same arrays site one other store later turns indexes =
    ap (λ (us : ℤ → List Use). first_of (filter_map (offence_at arrays) (flat_map us (iterations_of one))))
    (uses_of-same arrays site one other store later turns indexes)
    ∙ ap (λ is. first_of (filter_map (offence_at arrays) (flat_map (uses_of arrays site other later) is))) (iterations_same one other turns)

-- ---- owners

-- the layouts agree on the decomposition of a use
abbrev HasSameOwners : List ArrayFacts → List (List ℕ) → List (List ℕ) → Use → Type 0
HasSameOwners arrays owners others u = list_at owners (decomposition_of arrays u.array) ≡ list_at others (decomposition_of arrays u.array)

uses_from-owners : (arrays : List ArrayFacts) (owners others : List (List ℕ)) (adds : List ℤ) (store : List (List ℤ)) (i : ℤ) (place : ℕ)
    (before : Option ℤ)
    (references : List Reference) → HaveSameOwners arrays owners others references
    → AllByRecursion (HasSameOwners arrays owners others) (uses_from arrays adds store i place before references)
uses_from-owners arrays owners others adds store i place before [] h = tt
uses_from-owners arrays owners others adds store i place before (r ∷ rs) h =
    let u = use_of r i (place + 1) (subscript_of r.subscript i (number_at adds place) before) in
    (h.0, uses_from-owners arrays owners others adds store i (place + 1) (index_value arrays store u) rs h.1)

module _ (arrays : List ArrayFacts) (site : Site) (nodes : ℕ) (rule : HomeRule) (one other : LoopTurn) (layouts others : List Layout)
    (owners owners' : List (List ℕ)) (store later : List (List ℤ)) (known : IsSite arrays site) (turns : AreSameTurns one other)
    (indexes : HaveSameIndexes store later site.references) (own : HaveSameOwners arrays owners owners' site.references) where
  abbrev f : LoopFacts
  f = facts_of arrays site nodes rule one layouts

  abbrev g : LoopFacts
  g = facts_of arrays site nodes rule other others

  abbrev Owned : Use → Type 0
  Owned u = HasSameOwners arrays owners owners' u

  owner_same : (u : Use) → Owned u → owner_met f owners u ≡ owner_met g owners' u
  owner_same u same = ap (λ list. owner_in list (stands_at arrays u.array u.subscript)) same

  uses_owned : (i : ℤ) → AllByRecursion Owned (uses_at g later i)
  uses_owned i = uses_from-owners arrays owners owners' other.adds later i 0 None site.references own

  same_uses : uses_at f store ≡ uses_at g later
  same_uses = uses_of-same arrays site one other store later turns indexes

  some_target : (body : List CheckedBody) → 1 ≤ length body → AllByRecursion (IsStatement site) body
      → HasRole site.references Target (first_target body)
  some_target [] some h = absurd (omega arith)
  some_target (s ∷ rest) some h = h.0.target

  has_array : (number : ℕ) → HasRole site.references Target number → (i : ℤ) → Owned (use_at (uses_at g later i) number)
  has_array zero role i = absurd (let some : 1 ≤ 0 = role.0 in omega arith)
  has_array (suc k) role i =
      let back : suc k - 1 ≡ k = omega arith in
      let there : IsSomeAnd (slice_get site.references k) (λ r. r.role ≡ Target) =
      subst (λ n. IsSomeAnd (slice_get site.references n) (λ r. r.role ≡ Target)) back role.1 in
      by (slice_get site.references k) refl there
    where
      by : (o : Option Reference) → slice_get site.references k ≡ o → IsSomeAnd o (λ r. r.role ≡ Target)
          → Owned (use_at (uses_at g later i) (suc k))
      by None e h = absurd h
      by (Some r) e h =
          let same : (use_at (uses_at g later i) (suc k)).array ≡ r.array =
          use_at-array arrays site other later i (suc k) ∙ ap (λ q. option_map_or (λ (x : Reference). x.array) q 0) e in
          subst (λ a. list_at owners (decomposition_of arrays a) ≡ list_at owners' (decomposition_of arrays a)) (sym same)
          (all_at (λ (q : Reference). list_at owners (decomposition_of arrays q.array) ≡ list_at owners'
          (decomposition_of arrays q.array)) site.references k r own e)

  looked_owned : (rule' : HomeRule) (i : ℤ) → AllByRecursion Owned (looked_at rule' site.body (uses_at g later i))
  looked_owned Owner i = (
    has_array (first_target site.body) (some_target site.body known.some (recursion_from_All (IsStatement site) site.body known.body))
        i,
    tt,
  )
  looked_owned Most i = uses_owned i

  home_same : (i : ℤ) → home_of f owners store i ≡ home_of g owners' later i
  home_same i =
      ap (λ (us : ℤ → List Use). home_by rule nodes (map (owner_met f owners) (looked_at rule site.body (us i)))) same_uses
      ∙ ap (home_by rule nodes) (map_same Owned (owner_met f owners) (owner_met g owners') owner_same
      (looked_at rule site.body (uses_at g later i)) (looked_owned rule i))

  executed_same : (node : ℕ) → executed_by f owners store node ≡ executed_by g owners' later node
  executed_same node =
      ap (λ (h : ℤ → ℕ). filter (λ i. h i == node) (iterations_of one)) (fun_ext home_same)
      ∙ ap (filter (λ i. home_of g owners' later i == node)) (iterations_same one other turns)

  cells_same : (is_wanted : Role → Bool) (p q : ℕ) → cells_of f owners store is_wanted p q ≡ cells_of g owners' later is_wanted p q
  cells_same is_wanted p q =
      let chosen = λ (us : ℤ → List Use) (is : List ℤ). ascending
      (map cell_of (filter (λ u. is_wanted u.role && owner_met f owners u == q) (flat_map us is))) in
      let all = all_flat_map Owned (uses_at g later) (executed_by g owners' later p)
      (all_of (λ i. AllByRecursion Owned (uses_at g later i)) uses_owned (executed_by g owners' later p)) in
      ap (λ us. chosen us (executed_by f owners store p)) same_uses
      ∙ ap (chosen (uses_at g later)) (executed_same p)
      ∙ ap (λ us. ascending (map cell_of us))
      (filter_same Owned (λ u. is_wanted u.role && owner_met f owners u == q) (λ u. is_wanted u.role && owner_met g owners' u == q)
      (λ u same. ap (λ o. is_wanted u.role && o == q) (owner_same u same)) (flat_map (uses_at g later) (executed_by g owners' later p)) all)

  same_executions : AreSameExecutions f g owners owners' store later
  same_executions = record {
    uses = λ i. ap (λ (us : ℤ → List Use). us i) same_uses;
    offence = offence_of-same arrays site one other store later turns indexes;
    homes = home_same;
    executed = executed_same;
    needed = λ p q. ap (between_nodes p q) (cells_same is_read p q);
    given = λ p q. ap (between_nodes p q) (cells_same is_target p q);
  }

pub same_loops : SameLoopsDoTheSame
same_loops arrays site nodes rule one other layouts others owners owners' store later known turns indexes own =
    same_executions arrays site nodes rule one other layouts others owners owners' store later known turns indexes own
