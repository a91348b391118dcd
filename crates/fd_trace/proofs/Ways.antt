-- Laws of the way.
use Rattle.std.proofs.Common.{◌≡◌, refl, ℕ, zero, suc, ◌-◌, get_or, append_assoc, ◌+ℤ◌, ◌-ℤ◌, ◌<ℤ◌, ◌+◌, ◌<◌, ℤ, pos, negsuc, ◌≤ℤ◌, arith}
use Rattle.std.proofs.Common.{List, [], ◌∷◌, ◌++◌, length, drop, map, ap, sym, ◌∙◌, subst, Ok, Err, Some}
use Rattle.std.specs.List.{fold, flat_map}
use Rattle.std.specs.Prelude.{Result, IfOk, IfErr}
use lib.IntN.{nat_abs}
use Rattle.std.proofs.lemmas.Int.{ints}
use Rattle.std.proofs.lemmas.List.{drop_more}
use Rattle.std.proofs.lemmas.List.Sums.{fold-append}
use Rattle.chaos_dist.specs.Homes.{natural}
use Rattle.fd_words.specs.declared.source.SourceFault.{SourceFault}
use Rattle.fd_words.specs.declared.source.SourceStop.{SourceStop}
use Rattle.fd_words.specs.declared.source.SourceStop.TheVariants.{Fault, Memory}
use Rattle.fd_program.specs.declared.array.OutputName.{OutputName}
use Rattle.fd_program.specs.declared.checked.Checked.{Checked}
use Rattle.fd_program.specs.declared.checked.CheckedStatement.{CheckedStatement}
use Rattle.fd_program.specs.declared.trace.Step.{Step}
use Rattle.fd_program.specs.Loops.{range_of, first_of}
use Rattle.fd_program.specs.RangeLaws.{range_next}
use Rattle.fd_program.specs.Trace.{inside_of, steps_of_statement, steps_of}
use Rattle.fd_trace.specs.declared.budget.Left.{Left}
use Rattle.fd_trace.specs.Events.{Event, Bad, further_event, along, Goes, bad, whole, fault_in}
use Rattle.fd_trace.specs.Outcomes.{outcome, IsOutcome}
use Rattle.fd_trace.specs.Way.{way_of, way_of_statement, output_event, IsUnrolled}

pub stuck : (f : SourceFault) (es : List Event) → fold further_event (Err f) es ≡ Err f
stuck f [] = refl
stuck f (e ∷ es) = stuck f es

pub along_ok : (old mid : Left) (a b : List Event) → along old a ≡ Ok mid → along old (a ++ b) ≡ along mid b
along_ok old mid a b h = fold-append further_event (Ok old) a b ∙ ap (λ r. fold further_event r b) h

pub along_err : (old : Left) (f : SourceFault) (a b : List Event) → along old a ≡ Err f → along old (a ++ b) ≡ Err f
along_err old f a b h = fold-append further_event (Ok old) a b ∙ ap (λ r. fold further_event r b) h ∙ stuck f b

pub goes_on : {X : Type 0} (old mid new : Left) (r : Result X SourceStop) (a b : List Event) → along old a ≡ Ok mid → Goes mid new r b
    → Goes old new r (a ++ b)
goes_on old mid new (Ok x) a b h g = along_ok old mid a b h ∙ g
goes_on old mid new (Err (Fault f)) a b h g = along_ok old mid a b h ∙ g
goes_on old mid new (Err Memory) a b h g = tt

pub goes_stop : (X Y : Type 0) (old new new' : Left) (stop : SourceStop) (a b : List Event) → Goes {X = X} old new (Err stop) a
    → Goes {X = Y} old new' (Err stop) (a ++ b)
goes_stop X Y old new new' (Fault f) a b g = along_err old f a b g
goes_stop X Y old new new' Memory a b g = tt

pub outcome_way : {X : Type 0} (left : Left) (value : X) (fs : List SourceFault) (r : Result X SourceStop) → r ≡ outcome value fs
    → Goes left left r (bad fs)
outcome_way {X} left value [] r e = subst (λ (q : Result X SourceStop). Goes left left q []) (sym e) refl
outcome_way {X} left value (f ∷ fs) r e = subst (λ (q : Result X SourceStop). Goes left left q (Bad f ∷ bad fs)) (sym e) (stuck f (bad fs))

pub outcome_value : {X : Type 0} (value : X) (fs : List SourceFault) (r : Result X SourceStop) → r ≡ outcome value fs
    → IfOk r (λ v. v ≡ value)
outcome_value {X} value [] r e = subst (λ (q : Result X SourceStop). IfOk q (λ v. v ≡ value)) (sym e) refl
outcome_value {X} value (f ∷ fs) r e = subst (λ (q : Result X SourceStop). IfOk q (λ v. v ≡ value)) (sym e) tt

first_stuck : (left : Left) (fs : List SourceFault) (f : SourceFault) → first_of fs ≡ Some f → along left (bad fs) ≡ Err f
first_stuck left [] f e = cc
first_stuck left (g ∷ fs) f e = stuck g (bad fs) ∙ cc

pub values_way : {X : Type 0} (left : Left) (value : X) (fs : List SourceFault) (r : Result X SourceStop) → IsOutcome value fs r
    → Goes left left r (bad fs)
values_way left value fs (Ok v) h = ap (λ gs. along left (bad gs)) h.1
values_way left value fs (Err (Fault f)) h = first_stuck left fs f h
values_way left value fs (Err Memory) h = tt

pub natural_abs : (z : ℤ) → pos 0 ≤ℤ z → nat_abs z ≡ natural z
natural_abs (pos n) h = refl
natural_abs (negsuc n) h = absurd (omega (arith, ints))

pub done : {X : Type 0} (old new : Left) (r : Result X SourceStop) (es : List Event) → along old es ≡ Ok new → IfErr r (λ e. e ≡ Memory)
    → Goes old new r es
done old new (Ok x) es h m = h
done {X} old new (Err stop) es h m = subst (λ (s : SourceStop). Goes {X = X} old new (Err s) es) (sym m) tt

-- a way whose steps give what their parts give
pub goes_along : {X : Type 0} (old new : Left) (r : Result X SourceStop) (a b : List Event) → a ≡ b → Goes old new r a → Goes old new r b
goes_along {X} old new r a b e g = subst (λ (es : List Event). Goes {X = X} old new r es) e g

pub goes_same : (X : Type 0) (a b new new' : Left) (stop : SourceStop) (es fs : List Event) → along a es ≡ along b fs
    → Goes {X = X} a new (Err stop) es → Goes {X = X} b new' (Err stop) fs
goes_same X a b new new' (Fault f) es fs e g = sym e ∙ g
goes_same X a b new new' Memory es fs e g = tt

-- ---- ranges

-- one turn of a loop over a range
pub way_further : (f : ℤ → List Event) (i i' j high : ℤ) (old new : Left) (all : Result Left SourceFault) → i ≤ℤ high → i' ≡ i
    → j ≡ i +ℤ pos 1
    → along old (f i') ≡ Ok new → along old (flat_map f (range_of i high)) ≡ all → along new (flat_map f (range_of j high)) ≡ all
way_further f i i' j high old new all h same next turned before =
    sym (along_ok old new (f i) (flat_map f (range_of j high)) (ap (λ z. along old (f z)) (sym same) ∙ turned))
    ∙ ap (λ zs. along old (flat_map f zs)) (sym (range_next i j high h next)) ∙ before

pub way_stopped : (f : ℤ → List Event) (i i' high : ℤ) (old start new new' : Left) (stop : SourceStop) (all : List Event) → i ≤ℤ high
    → i' ≡ i
    → Goes {X = Unit {0}} old new (Err stop) (f i') → along old (flat_map f (range_of i high)) ≡ along start all
    → Goes {X = Unit {0}} start new' (Err stop) all
way_stopped f i i' high old start new new' stop all h same g before =
    goes_same (Unit {0}) old start new new' stop (f i ++ flat_map f (range_of (i +ℤ pos 1) high)) all
    (ap (λ zs. along old (flat_map f zs)) (sym (range_next i (i +ℤ pos 1) high h refl)) ∙ before)
    (goes_stop (Unit {0}) (Unit {0}) old new new stop (f i) (flat_map f (range_of (i +ℤ pos 1) high))
    (subst (λ z. Goes {X = Unit {0}} old new (Err stop) (f z)) same g))

pub steps_further : {A : Type 0} (f : ℤ → List A) (i i' j high : ℤ) (old new all : List A) → i ≤ℤ high → i' ≡ i → j ≡ i +ℤ pos 1
    → new ≡ old ++ f i' → old ++ flat_map f (range_of i high) ≡ all → new ++ flat_map f (range_of j high) ≡ all
steps_further f i i' j high old new all h same next turned before =
    ap (λ xs. xs ++ flat_map f (range_of j high)) (turned ∙ ap (λ z. old ++ f z) same)
    ∙ append_assoc old (f i) (flat_map f (range_of j high))
    ∙ ap (λ zs. old ++ flat_map f zs) (sym (range_next i j high h next)) ∙ before

-- ---- statements

module _ (c : Checked) where
  pub way_skip : (variables : List ℤ) (skip count : ℕ) (list : List CheckedStatement) → way_of c variables skip count list
      ≡ way_of c variables 0 count (drop skip list)
  way_skip variables zero count list = refl
  way_skip variables (suc skip) count [] = refl
  way_skip variables (suc skip) count (s ∷ rest) = way_skip variables skip count rest

  pub steps_skip : (variables : List ℤ) (skip count : ℕ) (list : List CheckedStatement) → steps_of c.sites variables skip count list
      ≡ steps_of c.sites variables 0 count (drop skip list)
  steps_skip variables zero count list = refl
  steps_skip variables (suc skip) count [] = refl
  steps_skip variables (suc skip) count (s ∷ rest) = steps_skip variables skip count rest

  split : (list rest : List CheckedStatement) (first : CheckedStatement) → 0 < length list → first ≡ get_or list 0 first
      → rest ≡ drop 1 list → list ≡ first ∷ rest
  split list rest first h is r = drop_more list 0 first h ∙ ap (λ s. s ∷ drop 1 list) (sym is) ∙ ap (λ xs. first ∷ xs) (sym r)

  unfold_way : (variables : List ℤ) (n : ℕ) (list rest0 : List CheckedStatement) (first : CheckedStatement) → 0 < length list
      → first ≡ get_or list 0 first → rest0 ≡ drop 1 list
      → way_of c variables 0 (suc n) list
      ≡ way_of_statement c (λ inner count. way_of c inner 0 count rest0) variables first
      ++ way_of c variables 0 (n - inside_of first) (drop (inside_of first) rest0)
  unfold_way variables n list rest0 first h is r =
      ap (way_of c variables 0 (suc n)) (split list rest0 first h is r)
      ∙ ap (λ es. way_of_statement c (λ inner count. way_of c inner 0 count rest0) variables first ++ es)
      (way_skip variables (inside_of first) (n - inside_of first) rest0)

  unfold_steps : (variables : List ℤ) (n : ℕ) (list rest0 : List CheckedStatement) (first : CheckedStatement) → 0 < length list
      → first ≡ get_or list 0 first → rest0 ≡ drop 1 list
      → steps_of c.sites variables 0 (suc n) list
      ≡ steps_of_statement c.sites (λ inner count. steps_of c.sites inner 0 count rest0) variables first
      ++ steps_of c.sites variables 0 (n - inside_of first) (drop (inside_of first) rest0)
  unfold_steps variables n list rest0 first h is r =
      ap (steps_of c.sites variables 0 (suc n)) (split list rest0 first h is r)
      ∙ ap (λ es. steps_of_statement c.sites (λ inner count. steps_of c.sites inner 0 count rest0) variables first ++ es)
      (steps_skip variables (inside_of first) (n - inside_of first) rest0)

  pub walk_stopped : (variables : List ℤ) (more : ℕ) (list rest0 : List CheckedStatement) (first : CheckedStatement)
      (left start mid new : Left) (stop : SourceStop) (all : List Event)
      → 0 < length list → first ≡ get_or list 0 first → rest0 ≡ drop 1 list → (more ≡ 0 → ⊥)
      → Goes {X = Unit {0}} left mid (Err stop) (way_of_statement c (λ inner count. way_of c inner 0 count rest0) variables first)
      → along left (way_of c variables 0 more list) ≡ along start all → Goes {X = Unit {0}} start new (Err stop) all
  walk_stopped variables zero list rest0 first left start mid new stop all h is r some g before = absurd (some refl)
  walk_stopped variables (suc n) list rest0 first left start mid new stop all h is r some g before =
      let one = way_of_statement c (λ inner count. way_of c inner 0 count rest0) variables first in
      let rest = way_of c variables 0 (n - inside_of first) (drop (inside_of first) rest0) in
      goes_same (Unit {0}) left start mid new stop (one ++ rest) all
      (ap (along left) (sym (unfold_way variables n list rest0 first h is r)) ∙ before)
      (goes_stop (Unit {0}) (Unit {0}) left mid mid stop one rest g)

  pub walk_way : (variables : List ℤ) (more inside next : ℕ) (list rest0 behind : List CheckedStatement) (first : CheckedStatement)
      (left mid : Left) (all : Result Left SourceFault)
      → 0 < length list → first ≡ get_or list 0 first → rest0 ≡ drop 1 list → (more ≡ 0 → ⊥) → inside ≡ inside_of first
      → next ≡ more - 1 - inside → behind ≡ drop inside rest0
      → along left (way_of_statement c (λ inner count. way_of c inner 0 count rest0) variables first) ≡ Ok mid
      → along left (way_of c variables 0 more list) ≡ all → along mid (way_of c variables 0 next behind) ≡ all
  walk_way variables zero inside next list rest0 behind first left mid all h is r some e n b g before = absurd (some refl)
  walk_way variables (suc n) inside next list rest0 behind first left mid all h is r some e en b g before =
      let one = way_of_statement c (λ inner count. way_of c inner 0 count rest0) variables first in
      let rest = way_of c variables 0 (n - inside_of first) (drop (inside_of first) rest0) in
      let count : next ≡ n - inside_of first = en ∙ less n inside ∙ ap (λ k. n - k) e in
      ap (λ k. along mid (way_of c variables 0 k behind)) count
      ∙ ap (λ xs. along mid (way_of c variables 0 (n - inside_of first) xs)) (b ∙ ap (λ k. drop k rest0) e)
      ∙ sym (along_ok left mid one rest g)
      ∙ ap (along left) (sym (unfold_way variables n list rest0 first h is r))
      ∙ before
    where
      less : (n k : ℕ) → suc n - 1 - k ≡ n - k
      less n k = omega arith

  pub walk_steps : (variables : List ℤ) (more inside next : ℕ) (list rest0 behind : List CheckedStatement) (first : CheckedStatement)
      (old new all : List Step)
      → 0 < length list → first ≡ get_or list 0 first → rest0 ≡ drop 1 list → (more ≡ 0 → ⊥) → inside ≡ inside_of first
      → next ≡ more - 1 - inside → behind ≡ drop inside rest0
      → new ≡ old ++ steps_of_statement c.sites (λ inner count. steps_of c.sites inner 0 count rest0) variables first
      → old ++ steps_of c.sites variables 0 more list ≡ all → new ++ steps_of c.sites variables 0 next behind ≡ all
  walk_steps variables zero inside next list rest0 behind first old new all h is r some e n b g before = absurd (some refl)
  walk_steps variables (suc n) inside next list rest0 behind first old new all h is r some e en b g before =
      let one = steps_of_statement c.sites (λ inner count. steps_of c.sites inner 0 count rest0) variables first in
      let rest = steps_of c.sites variables 0 (n - inside_of first) (drop (inside_of first) rest0) in
      let count : next ≡ n - inside_of first = en ∙ less n inside ∙ ap (λ k. n - k) e in
      ap (λ k. new ++ steps_of c.sites variables 0 k behind) count
      ∙ ap (λ xs. new ++ steps_of c.sites variables 0 (n - inside_of first) xs) (b ∙ ap (λ k. drop k rest0) e)
      ∙ ap (λ xs. xs ++ rest) g ∙ append_assoc old one rest
      ∙ ap (λ xs. old ++ xs) (sym (unfold_steps variables n list rest0 first h is r))
      ∙ before
    where
      less : (n k : ℕ) → suc n - 1 - k ≡ n - k
      less n k = omega arith

-- ---- the arrays that are written after the run

pub outputs_stopped : (f : OutputName → Event) (outputs : List OutputName) (i : ℕ) (d : OutputName) (e : Event)
    (left start mid new : Left) (stop : SourceStop) → i < length outputs
    → e ≡ f (get_or outputs i d) → Goes {X = Unit {0}} left mid (Err stop) (e ∷ []) → along left (map f (drop i outputs))
    ≡ along start (map f outputs)
    → Goes {X = Unit {0}} start new (Err stop) (map f outputs)
outputs_stopped f outputs i d e left start mid new stop within is g before =
    goes_same (Unit {0}) left start mid new stop ((e ∷ []) ++ map f (drop (i + 1) outputs)) (map f outputs)
    (ap (λ x. along left (x ∷ map f (drop (i + 1) outputs))) is ∙ ap (λ os. along left (map f os)) (sym (drop_more outputs i d within))
    ∙ before)
    (goes_stop (Unit {0}) (Unit {0}) left mid mid stop (e ∷ []) (map f (drop (i + 1) outputs)) g)

pub unrolled_stop : (c : Checked) (outputs : List OutputName) (new : Left) (stop : SourceStop) → outputs ≡ c.outputs
    → Goes {X = Unit {0}} whole new (Err stop) (map (output_event c) outputs) → IsUnrolled c (Err stop)
unrolled_stop c outputs new (Fault f) is g =
    ap fault_in (ap (λ os. along whole (map (output_event c) os ++ way_of c [] 0 (length c.statements) c.statements)) (sym is)
    ∙ along_err whole f (map (output_event c) outputs) (way_of c [] 0 (length c.statements) c.statements) g)
unrolled_stop c outputs new Memory is g = tt
