-- A program whose trace has no fault keeps to the limits of a run.
use Rattle.std.specs.Prelude.{◌≡◌, refl, ℕ, zero, suc, ◌+◌, ◌-◌, ◌*◌, ◌≤◌, ◌<◌, ◌<ℤ◌, ◌≤ℤ◌, ◌+ℤ◌, ◌-ℤ◌, ℤ, pos, negsuc, Bool, true, false}
use Rattle.std.specs.Prelude.{nat_eq, nat_lt, int_lt, if◌then◌else◌, List, [], ◌∷◌, ◌++◌, length, map, fold, flat_map, slice_get, unwrap_or}
use Rattle.std.specs.Prelude.{Option, Some, None, IsSomeAnd, Result, Ok, Err}
use Rattle.std.specs.List.{AllByRecursion}
use Rattle.std.proofs.Common.{ap, sym, ◌∙◌, subst, arith}
use Rattle.std.proofs.lemmas.Int.{ints}
use Rattle.std.proofs.lemmas.Bool.Decides.{nat_tests}
use Rattle.std.proofs.lemmas.List.Elements.{recursion_from_All}
use Rattle.chaos_dist.specs.Homes.{natural}
use Rattle.fd_words.specs.declared.source.SourceFault.{SourceFault}
use Rattle.fd_words.specs.declared.source.SourcePlace.{SourcePlace}
use Rattle.fd_program.specs.Checks.{IsChecked, IsSite, IsStatement, IsStatementOf, IsAligned}
use Rattle.fd_program.specs.ListLaws.{all_append, all_at}
use Rattle.fd_program.specs.Loops.{counted_from, count_between, range_of, target_of}
use Rattle.fd_program.specs.Scalars.{scalar_value}
use Rattle.fd_program.specs.Stores.{array_at, no_array}
use Rattle.fd_program.specs.Trace.{site_at, no_site, inside_of, is_empty_range, turn_of, steps_of, steps_of_statement}
use Rattle.fd_program.specs.declared.array.ArrayFacts.{ArrayFacts}
use Rattle.fd_program.specs.declared.array.OutputName.{OutputName}
use Rattle.fd_program.specs.declared.body.CheckedBody.{CheckedBody}
use Rattle.fd_program.specs.declared.checked.Checked.{Checked}
use Rattle.fd_program.specs.declared.checked.CheckedStatement.{CheckedStatement}
use Rattle.fd_program.specs.declared.checked.CheckedStatement.TheVariants.{Distribute, Print, Do, Forall}
use Rattle.fd_program.specs.declared.reference.Reference.{Reference}
use Rattle.fd_program.specs.declared.site.Site.{Site}
use Rattle.fd_program.specs.declared.trace.Step.{Step}
use Rattle.fd_program.specs.declared.trace.Step.TheVariants as step
use Rattle.fd_trace.specs.declared.budget.Left.{Left}
use Rattle.fd_trace.specs.Events.{Event, Bad, Begins, Works, Prints, bad, further_event, along, whole, fault_in}
use Rattle.fd_trace.specs.Sizes.{scalar_faults, adds_faults}
use Rattle.fd_trace.specs.Way.{way, way_of, way_of_statement, turn_way, work_way, loop_way, output_event, first_fault}
use Rattle.plan_run.specs.Limits.{IsStepWithin, IsWithin}

abbrev pub UnrolledIsWithin : Type 0
UnrolledIsWithin = (c : Checked) → IsChecked c → first_fault c ≡ None → IsWithin c

-- ---- what a way without a fault spends

-- how many steps and turns begin
abbrev pub begun : List Event → ℕ
begun [] = 0
begun (Bad f ∷ es) = begun es
begun (Begins at ∷ es) = begun es + 1
begun (Works at n ∷ es) = begun es
begun (Prints at n ∷ es) = begun es

-- how many elements are printed
abbrev pub printed_in : List Event → ℕ
printed_in [] = 0
printed_in (Bad f ∷ es) = printed_in es
printed_in (Begins at ∷ es) = printed_in es
printed_in (Works at n ∷ es) = printed_in es
printed_in (Prints at n ∷ es) = printed_in es + n

-- a loop has no more work than it may
abbrev pub IsLight : Event → Type 0
IsLight (Bad f) = Unit {0}
IsLight (Begins at) = Unit {0}
IsLight (Works at n) = n ≤ 16777216
IsLight (Prints at n) = Unit {0}

pub record IsSpent (old new : Left) (es : List Event) : Type 0 where
  pub turns : begun es + new.turns ≤ old.turns
  pub elements : printed_in es + new.elements ≤ old.elements
  pub light : AllByRecursion IsLight es

stuck : (f : SourceFault) (es : List Event) → fold further_event (Err f) es ≡ Err f
stuck f [] = refl
stuck f (e ∷ es) = stuck f es

not_on : (f : SourceFault) (es : List Event) (new : Left) → fold further_event (Err f) es ≡ Ok new → ⊥
not_on f es new e = let wrong : Err f ≡ Ok new = sym (stuck f es) ∙ e in cc

some_turns : (n : ℕ) → nat_eq n 0 ≡ false → 1 ≤ n
some_turns n e = grind (arith, nat_tests)

not_less : (m n : ℕ) → nat_lt m n ≡ false → n ≤ m
not_less m n e = grind (arith, nat_tests)

spent : (es : List Event) (old new : Left) → along old es ≡ Ok new → IsSpent old new es
spent [] old new e =
    let same : old ≡ new = cc in
    subst (λ (l : Left). IsSpent old l []) same (record { turns = omega arith; elements = omega arith; light = tt })
spent (Bad f ∷ es) old new e = absurd (not_on f es new e)
spent (Begins at ∷ es) old new e =
    by (nat_eq old.turns 0) refl _ e (spent es (record { turns = old.turns - 1; elements = old.elements }) new)
  where
    mid : Left
    mid = record { turns = old.turns - 1; elements = old.elements }

    by : (b : Bool) → nat_eq old.turns 0 ≡ b → (f : SourceFault) → fold further_event (if b then Err f else Ok mid) es ≡ Ok new
        → (along mid es ≡ Ok new → IsSpent mid new es) → IsSpent old new (Begins at ∷ es)
    by true s f e later = absurd (not_on f es new e)
    by false s f e later =
        let rest = later e in
        record { turns = omega (arith, rest.turns, some_turns old.turns s); elements = rest.elements; light = (tt, rest.light) }
spent (Works at n ∷ es) old new e = by (nat_lt 16777216 n) refl _ e (spent es old new)
  where
    by : (b : Bool) → nat_lt 16777216 n ≡ b → (f : SourceFault) → fold further_event (if b then Err f else Ok old) es ≡ Ok new
        → (along old es ≡ Ok new → IsSpent old new es) → IsSpent old new (Works at n ∷ es)
    by true s f e later = absurd (not_on f es new e)
    by false s f e later = let rest = later e in record {
      turns = rest.turns;
      elements = rest.elements;
      light = (not_less 16777216 n s, rest.light);
    }
spent (Prints at n ∷ es) old new e =
    by (nat_lt old.elements n) refl _ e (spent es (record { turns = old.turns; elements = old.elements - n }) new)
  where
    mid : Left
    mid = record { turns = old.turns; elements = old.elements - n }

    by : (b : Bool) → nat_lt old.elements n ≡ b → (f : SourceFault) → fold further_event (if b then Err f else Ok mid) es ≡ Ok new
        → (along mid es ≡ Ok new → IsSpent mid new es) → IsSpent old new (Prints at n ∷ es)
    by true s f e later = absurd (not_on f es new e)
    by false s f e later =
        let rest = later e in
        record { turns = rest.turns; elements = omega (arith, rest.elements, not_less old.elements n s); light = (tt, rest.light) }

begun_append : (es fs : List Event) → begun (es ++ fs) ≡ begun es + begun fs
begun_append [] fs = omega arith
begun_append (Bad f ∷ es) fs = begun_append es fs
begun_append (Begins at ∷ es) fs = omega (arith, begun_append es fs)
begun_append (Works at n ∷ es) fs = begun_append es fs
begun_append (Prints at n ∷ es) fs = begun_append es fs

printed_append : (es fs : List Event) → printed_in (es ++ fs) ≡ printed_in es + printed_in fs
printed_append [] fs = omega arith
printed_append (Bad f ∷ es) fs = printed_append es fs
printed_append (Begins at ∷ es) fs = printed_append es fs
printed_append (Works at n ∷ es) fs = printed_append es fs
printed_append (Prints at n ∷ es) fs = omega (arith, printed_append es fs)

light_split : (es fs : List Event) → AllByRecursion IsLight (es ++ fs) → AllByRecursion IsLight es × AllByRecursion IsLight fs
light_split [] fs h = (tt, h)
light_split (e ∷ es) fs h = let rest = light_split es fs h.1 in ((h.0, rest.0), rest.1)

-- ---- the steps that a way goes through

pub record StaysWithin (c : Checked) (steps : List Step) (es : List Event) : Type 0 where
  pub few : length steps ≤ begun es
  pub work : AllByRecursion IsLight es → AllByRecursion (IsStepWithin c) steps

length_append : (xs ys : List Step) → length (xs ++ ys) ≡ length xs + length ys
length_append [] ys = omega arith
length_append (x ∷ xs) ys = omega (arith, length_append xs ys)

goes_append : (c : Checked) (xs ys : List Step) (es fs : List Event) → StaysWithin c xs es → StaysWithin c ys fs
    → StaysWithin c (xs ++ ys) (es ++ fs)
goes_append c xs ys es fs h g = record {
  few = omega (arith, length_append xs ys, begun_append es fs, h.few, g.few);
  work = λ light. let both = light_split es fs light in all_append (IsStepWithin c) xs ys (h.work both.0) (g.work both.1);
}

goes_none : (c : Checked) (es : List Event) → StaysWithin c [] es
goes_none c es = record { few = omega arith; work = λ light. tt }

goes_behind : (c : Checked) (xs : List Step) (es fs : List Event) → StaysWithin c xs fs → StaysWithin c xs (es ++ fs)
goes_behind c xs es fs h = goes_append c [] xs es fs (goes_none c es) h

goes_turn : (c : Checked) (at : SourcePlace) (xs : List Step) (es : List Event) → StaysWithin c xs es → StaysWithin c xs (Begins at ∷ es)
goes_turn c at xs es h = record { few = omega (arith, h.few); work = λ light. h.work light.1 }

-- ---- a FORALL

some_below : {A : Type 0} (xs : List A) (k : ℕ) → k < length xs → (x : A) × (slice_get xs k ≡ Some x)
some_below [] k h = absurd (omega (arith, h))
some_below (x ∷ xs) zero h = (x, refl)
some_below (x ∷ xs) (suc k) h = some_below xs k (omega (arith, h))

some_there : (rs : List Reference) (k : ℕ) (P : Reference → Type 0) → IsSomeAnd (slice_get rs k) P → 1 ≤ length rs
some_there [] zero P h = absurd h
some_there [] (suc k) P h = absurd h
some_there (r ∷ rs) k P h = omega arith

site_some : (arrays : List ArrayFacts) (site : Site) → IsSite arrays site → 1 ≤ length site.references
site_some arrays site h = by site.body h.some (recursion_from_All (IsStatement site) site.body h.body)
  where
    by : (body : List CheckedBody) → 1 ≤ length body → AllByRecursion (IsStatement site) body → 1 ≤ length site.references
    by [] some all = absurd (omega (arith, some))
    by (s ∷ ss) some all = some_there site.references (target_of s - 1) _ all.0.target.1

references_some : (c : Checked) (k : ℕ) → IsChecked c → k < length c.sites → 1 ≤ length (site_at c.sites k).references
references_some c k checked less =
    let found = some_below c.sites k less in
    let it : IsSite c.arrays found.0 = all_at (IsSite c.arrays) c.sites k found.0
    (recursion_from_All (IsSite c.arrays) c.sites checked.sites) found.1 in
    subst (λ (o : Option Site). 1 ≤ length (unwrap_or o no_site).references) (sym found.1) (site_some c.arrays found.0 it)

counted_length : (z : ℤ) (n : ℕ) → length (counted_from z n) ≡ n
counted_length z zero = refl
counted_length z (suc n) = ap suc (counted_length (z +ℤ pos 1) n)

least : (z : ℤ) → z ≤ℤ pos 0 → natural z ≡ 0
least (pos n) h = omega (arith, ints, h)
least (negsuc n) h = refl

less_is : (a b : ℤ) → int_lt a b ≡ true → a <ℤ b
less_is a b e = grind (arith, ints)

none_between : (low high : ℤ) → is_empty_range low high ≡ true → count_between low high ≡ 0
none_between low high e = let less : high <ℤ low = less_is high low e in least (high -ℤ low +ℤ pos 1) (omega (arith, ints, less))

loop_work : (variables : List ℤ) (site : Site) (low high : ℤ) → AllByRecursion IsLight (work_way variables site low high)
    → count_between low high * length site.references ≤ 16777216
loop_work variables site low high = by (is_empty_range low high) refl
  where
    by : (b : Bool) → is_empty_range low high ≡ b
        → AllByRecursion IsLight (if b then [] else bad (adds_faults variables site.references) ++ Works site.at
        (count_between low high * length site.references) ∷ [])
        → count_between low high * length site.references ≤ 16777216
    by true e light =
        let z : 0 * length site.references ≤ 16777216 = omega arith in
        subst (λ n. n * length site.references ≤ 16777216) (sym (none_between low high e)) z
    by false e light =
        (light_split (bad (adds_faults variables site.references)) (Works site.at (count_between low high * length site.references) ∷ [])
        light).1.0

loop_goes : (c : Checked) (site : ℕ) (variables : List ℤ) → IsChecked c → site < length c.sites
    → StaysWithin c (step.Forall site (turn_of variables (site_at c.sites site)) ∷ []) (loop_way variables (site_at c.sites site))
loop_goes c site variables checked less =
    let s : Site = site_at c.sites site in
    let low : ℤ = scalar_value variables s.low in
    let high : ℤ = scalar_value variables s.high in
    record {
      few = omega arith;
      work = λ light.
          let behind = light_split (bad (scalar_faults variables s.low)) (bad (scalar_faults variables s.high)
          ++ work_way variables s low high) light.1 in
          let last = light_split (bad (scalar_faults variables s.high)) (work_way variables s low high) behind.1 in
          let most : count_between low high * length s.references ≤ 16777216 = loop_work variables s low high last.1 in (
            record {
              some = references_some c site checked less;
              most = subst (λ n. n * length s.references ≤ 16777216) (sym (counted_length low (count_between low high))) most;
            },
            tt,
          );
    }

-- ---- statements

turns_go : (c : Checked) (body : List ℤ → ℕ → List Step) (ways : List ℤ → ℕ → List Event) (variables : List ℤ) (at : SourcePlace)
    (inside : ℕ)
    → ((inner : List ℤ) (count : ℕ) → StaysWithin c (body inner count) (ways inner count)) → (ks : List ℤ)
    → StaysWithin c (flat_map (λ k. body (variables ++ k ∷ []) inside) ks) (flat_map (turn_way ways variables at inside) ks)
turns_go c body ways variables at inside h [] = goes_none c []
turns_go c body ways variables at inside h (k ∷ ks) =
    goes_append c (body (variables ++ k ∷ []) inside) (flat_map (λ k. body (variables ++ k ∷ []) inside) ks)
    (turn_way ways variables at inside k) (flat_map (turn_way ways variables at inside) ks)
    (goes_turn c at (body (variables ++ k ∷ []) inside) (ways (variables ++ k ∷ []) inside) (h (variables ++ k ∷ []) inside))
    (turns_go c body ways variables at inside h ks)

statement_goes : (c : Checked) (body : List ℤ → ℕ → List Step) (ways : List ℤ → ℕ → List Event) (variables : List ℤ)
    (s : CheckedStatement) → IsChecked c → IsStatementOf c s
    → ((inner : List ℤ) (count : ℕ) → StaysWithin c (body inner count) (ways inner count))
    → StaysWithin c (steps_of_statement c.sites body variables s) (way_of_statement c ways variables s)
statement_goes c body ways variables (Distribute at decomposition form) checked known h =
    record { few = omega arith; work = λ light. (tt, tt) }
statement_goes c body ways variables (Print at array) checked known h = record { few = omega arith; work = λ light. (tt, tt) }
statement_goes c body ways variables (Do at low high inside) checked known h =
    goes_behind c _ (bad (scalar_faults variables low)) _ (goes_behind c _ (bad (scalar_faults variables high)) _
    (turns_go c body ways variables at inside h (range_of (scalar_value variables low) (scalar_value variables high))))
statement_goes c body ways variables (Forall site) checked known h = loop_goes c site variables checked known

goes_of : (c : Checked) (ss : List CheckedStatement) → IsChecked c → AllByRecursion (IsStatementOf c) ss
    → (variables : List ℤ) (skip count : ℕ)
    → StaysWithin c (steps_of c.sites variables skip count ss) (way_of c variables skip count ss)
goes_of c [] checked known variables skip count = goes_none c []
goes_of c (s ∷ rest) checked known variables (suc skip) count = goes_of c rest checked known.1 variables skip count
goes_of c (s ∷ rest) checked known variables zero zero = goes_none c []
goes_of c (s ∷ rest) checked known variables zero (suc count) =
    goes_append c _ _ _ _
    (statement_goes c (λ inner inside. steps_of c.sites inner 0 inside rest) (λ inner inside. way_of c inner 0 inside rest) variables s
    checked known.0
    (λ inner inside. goes_of c rest checked known.1 inner 0 inside))
    (goes_of c rest checked known.1 variables (inside_of s) (count - inside_of s))

-- ---- the arrays that are written after the run

extent_some : (c : Checked) (k : ℕ) → IsChecked c → k < length c.arrays → 1 ≤ (array_at c.arrays k).extent
extent_some c k checked less =
    let found = some_below c.arrays k less in
    let it : IsAligned c.layouts found.0 = all_at (IsAligned c.layouts) c.arrays k found.0
    (recursion_from_All (IsAligned c.layouts) c.arrays checked.arrays) found.1 in
    subst (λ (o : Option ArrayFacts). 1 ≤ (unwrap_or o no_array).extent) (sym found.1) it.extent.some

outputs_few : (c : Checked) (os : List OutputName) → IsChecked c → AllByRecursion (λ (o : OutputName). o.array < length c.arrays) os
    → length os ≤ printed_in (map (output_event c) os)
outputs_few c [] checked known = omega arith
outputs_few c (o ∷ os) checked known = omega (arith, outputs_few c os checked known.1, extent_some c o.array checked known.0)

pub unrolled_is_within : UnrolledIsWithin
unrolled_is_within c checked none = by (along whole (way c)) refl
  where
    outs : List Event
    outs = map (output_event c) c.outputs

    steps : List Event
    steps = way_of c [] 0 (length c.statements) c.statements

    by : (r : Result Left SourceFault) → along whole (way c) ≡ r → IsWithin c
    by (Err f) e = let wrong : Some f ≡ None = sym (ap fault_in e) ∙ none in cc
    by (Ok new) e =
        let paid = spent (way c) whole new e in
        let goes = goes_of c c.statements checked (recursion_from_All (IsStatementOf c) c.statements checked.statements) [] 0
        (length c.statements) in
        record {
          steps = omega (arith, goes.few, begun_append outs steps, paid.turns);
          work = goes.work (light_split outs steps paid.light).1;
          outputs = omega (
            arith,
            outputs_few c c.outputs checked (recursion_from_All (λ (o : OutputName). o.array < length c.arrays) c.outputs checked.outputs),
            printed_append outs steps,
            paid.elements,
          );
        }
