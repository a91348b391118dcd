-- What a node takes in a phase, with its own list put in; the lengths that a receiver knows; and a node's row by what its letters name.
use Rattle.std.specs.Prelude.{◌≡◌, ◌≢◌, refl, ℕ, zero, suc, ◌+◌, ◌*◌, ◌<◌, ◌≤◌, ℤ, pos, Bool, true, false, not, ◌&&◌, ◌==◌, if◌then◌else◌}
use Rattle.std.specs.Prelude.{List, [], ◌∷◌, length, map, filter, flat_map, slice_get, unwrap_or}
use Rattle.std.specs.List.{range_with_len}
use Rattle.std.proofs.Common.{ap, sym, ◌∙◌, arith}
use Rattle.std.proofs.lemmas.List.{length-map}
use Rattle.std.proofs.lemmas.List.FromFn.{get_or-map-range_with_len, length-map-range_with_len}
use Rattle.std.proofs.lemmas.Option.{unwrap_or-slice_get}
use Rattle.std.proofs.lemmas.Bool.Decides.{nat_tests}
use Rattle.fd_words.specs.Lists.{list_at}
use Rattle.bsp_core.specs.Views.{Face, ready}
use Rattle.chaos_dist.specs.Counting.{below}
use Rattle.chaos_dist.specs.Owners.{owner_in, local_in, counts_on_page}
use Rattle.chaos_dist.specs.declared.step_form.StepForm.{StepForm}
use Rattle.chaos_letter.specs.declared.letter.Letter.{Letter}
use Rattle.chaos_letter.specs.declared.wanted.Wanted.{Wanted}
use Rattle.fd_program.specs.Homes.{needed_of, given_of}
use Rattle.fd_program.specs.Layouts.{Scene, store_at, owners_at, loop_at}
use Rattle.fd_program.specs.Uses.{read_of}
use Rattle.fd_program.specs.declared.trace.LoopTurn.{LoopTurn}
use Rattle.fd_program.specs.declared.trace.Step.{Step}
use Rattle.fd_program.specs.declared.trace.Step.TheVariants.{Distribute, Print, Forall}
use Rattle.plan_loop.specs.LoopLetters.{asked_of, fetched_of, index_ask_of, place_answer_of, place_ask_of, row_for, value_before}
use Rattle.plan_loop.specs.LoopLetters.{value_given}
use Rattle.plan_loop.specs.declared.loop_phase.Asking.{Asking}
use Rattle.plan_loop.specs.declared.loop_phase.Level.{Level}
use Rattle.plan_loop.specs.declared.loop_phase.LoopPhase.TheVariants as phase
use Rattle.plan_run.specs.Held.{owed_at}
use Rattle.plan_run.specs.MeasureLaws.{flat_rows}
use Rattle.plan_run.specs.Phases.{Phase, group_of, is_free, is_sent, kind_of, letter_of, most_in, moving_of, numbers_at, print_rows}
use Rattle.plan_run.specs.Phases.{sends_at, site_of, takes_at, wanted_at}
use Rattle.plan_run.specs.Picks.{each, picked, picked_one, pick_with, incoming_picked}
use Rattle.plan_run.specs.Rows.{face_left}
use Rattle.plan_run.specs.declared.stage.Stage.{Stage}
use Rattle.plan_run.specs.declared.stage.Stage.TheVariants as stage
use Rattle.plan_walk.specs.Letters.{letter_in, number_in, numbers_of, put_in, wanted_in}
use Rattle.plan_walk.specs.declared.stages.Naming.{Naming}

-- ---- statements

-- once all letters of a phase are taken, a node has those of all that send to it, by ascending sender
abbrev pub letters_for : Scene → Phase → ℕ → List Letter
letters_for s f p = map (λ q. letter_of s f q p) (filter (λ q. is_sent f.stage q p) (below s.nodes))

abbrev pub LettersComeIn : Type 0
LettersComeIn =
    (s : Scene) (f : Phase) (rest : List Phase) (p : ℕ) → p < s.nodes
    → ready (face_left s (f ∷ rest)) p ≡ record { me = p; count = s.nodes; left = f.left; out = []; due = []; got = letters_for s f p }

-- all send to all
abbrev pub is_for_all : Stage → Bool
is_for_all stage.Print = false
is_for_all (stage.Output j) = false
is_for_all _ = true

-- with its own list put in it has the lists of all nodes
abbrev pub OwnListIsPutIn : Type 0
OwnListIsPutIn =
    (s : Scene) (f : Phase) (p : ℕ) → p < s.nodes → is_for_all f.stage ≡ true
    → put_in p (numbers_at s f.past f.step f.stage p p) (map numbers_of (letters_for s f p)) ≡ owed_at s f.past f.step f.stage p

-- node 0 takes from all in each phase, also where an array is printed
abbrev pub FirstTakesAll : Type 0
FirstTakesAll =
    (s : Scene) (f : Phase) → 0 < s.nodes
    → put_in 0 (numbers_at s f.past f.step f.stage 0 0) (map numbers_of (letters_for s f 0)) ≡ owed_at s f.past f.step f.stage 0

-- places of a moved decomposition are answered as they were asked for, two numbers each
abbrev pub MoveAnswersAreKnown : Type 0
MoveAnswersAreKnown =
    (s : Scene) (past : List Step) (d : ℕ) (form : StepForm) (p q : ℕ)
    → length (numbers_at s past (Distribute d form) stage.MovingAnswer q p)
    ≡ length (numbers_at s past (Distribute d form) stage.MovingAsk p q)

-- a count for each node
abbrev pub PageCountsAreKnown : Type 0
PageCountsAreKnown =
    (s : Scene) (past : List Step) (d : ℕ) (form : StepForm) (p q : ℕ)
    → length (numbers_at s past (Distribute d form) stage.PageCounts q p) ≡ s.nodes

-- places of references are answered as they were asked for
abbrev pub PlaceAnswersAreKnown : Type 0
PlaceAnswersAreKnown =
    (s : Scene) (past : List Step) (site : ℕ) (turn : LoopTurn) (asking : Asking) (p q : ℕ)
    → length (numbers_at s past (Forall site turn) (stage.InLoop (phase.DerefAnswer asking)) q p)
    ≡ length (numbers_at s past (Forall site turn) (stage.InLoop (phase.DerefAsk asking)) p q)

-- a value for each two numbers that ask for it
abbrev pub IndexValuesAreKnown : Type 0
IndexValuesAreKnown =
    (s : Scene) (past : List Step) (site : ℕ) (turn : LoopTurn) (level : Level) (p q : ℕ)
    → 2 * length (numbers_at s past (Forall site turn) (stage.InLoop (phase.IndexValues level)) q p)
    ≡ length (numbers_at s past (Forall site turn) (stage.InLoop (phase.IndexAsk level)) p q)

-- three numbers for each element that is needed or given
abbrev pub GathersAreKnown : Type 0
GathersAreKnown =
    (s : Scene) (past : List Step) (site : ℕ) (turn : LoopTurn) (p q : ℕ)
    → length (numbers_at s past (Forall site turn) (stage.InLoop phase.Gather) q p)
    ≡ length (needed_of (loop_at s past site turn) (owners_at s past) (store_at s past) p q) * 3

abbrev pub ScattersAreKnown : Type 0
ScattersAreKnown =
    (s : Scene) (past : List Step) (site : ℕ) (turn : LoopTurn) (p q : ℕ)
    → length (numbers_at s past (Forall site turn) (stage.InLoop phase.Scatter) q p)
    ≡ length (given_of (loop_at s past site turn) (owners_at s past) (store_at s past) q p) * 3

-- what the letters of a phase name
abbrev pub naming_at : Scene → Phase → Naming
naming_at s f = record { stage = f.stage; execution = f.execution; site = site_of f.step; group = group_of s.checked f.step f.stage }

-- for each node that p sends to, the list at its place is the one that is due
abbrev pub AreSent : Scene → Phase → ℕ → List (List ℤ) → Type 0
AreSent s f p lists = (q : ℕ) → q < s.nodes → is_sent f.stage p q ≡ true → list_at lists q ≡ numbers_at s f.past f.step f.stage p q

-- for each node that sends to p, the number at its place is how many numbers its letter has, where that is known
abbrev pub AreCounted : Scene → Phase → ℕ → List ℕ → Type 0
AreCounted s f p counts =
    (q : ℕ) → q < s.nodes → is_sent f.stage q p ≡ true → is_free f.stage ≡ false
    → number_in counts q ≡ length (numbers_at s f.past f.step f.stage q p)

abbrev pub sends_in : Scene → Phase → ℕ → List (List ℤ) → List (ℕ × Letter)
sends_in s f p lists = picked (λ q. letter_in (naming_at s f) (list_at lists q)) (λ q. is_sent f.stage p q) 0 s.nodes

abbrev pub takes_in : Scene → Phase → ℕ → List ℕ → List (ℕ × Wanted)
takes_in s f p counts = picked (λ q. wanted_in (naming_at s f) (number_in counts q)) (λ q. is_sent f.stage q p) 0 s.nodes

abbrev pub LettersAreSent : Type 0
LettersAreSent = (s : Scene) (f : Phase) (p : ℕ) (lists : List (List ℤ)) → AreSent s f p lists → sends_in s f p lists ≡ sends_at s f p

abbrev pub LettersAreTaken : Type 0
LettersAreTaken = (s : Scene) (f : Phase) (p : ℕ) (counts : List ℕ) → AreCounted s f p counts → takes_in s f p counts ≡ takes_at s f p

-- so that is the node's row as the phase begins
abbrev pub RowsAreMade : Type 0
RowsAreMade =
    (s : Scene) (f : Phase) (rest : List Phase) (p : ℕ) (lists : List (List ℤ)) (counts : List ℕ) → AreSent s f p lists
    → AreCounted s f p counts
    → face_left s (f ∷ rest) p
    ≡ record { me = p; count = s.nodes; left = f.left; out = sends_in s f p lists; due = takes_in s f p counts; got = [] }

-- the lists for all nodes are such lists
abbrev pub AllListsAreSent : Type 0
AllListsAreSent =
    (s : Scene) (f : Phase) (p : ℕ) (lists : List (List ℤ)) → lists ≡ map (λ q. numbers_at s f.past f.step f.stage p q) (below s.nodes)
    → AreSent s f p lists

-- of a printed array the list for node 0 is enough
abbrev pub PrintIsSent : Type 0
PrintIsSent =
    (s : Scene) (f : Phase) (array p : ℕ) → f.step ≡ Print array → is_for_all f.stage ≡ false
    → AreSent s f p (print_rows s.checked (owners_at s f.past) (store_at s f.past) array p ∷ [])

-- the lengths of the letters from all nodes are such lengths, and where a length isn't known, whatever numbers are
abbrev pub AllLengthsAreCounted : Type 0
AllLengthsAreCounted =
    (s : Scene) (f : Phase) (p : ℕ) (counts : List ℕ) → counts ≡ map (λ q. length (numbers_at s f.past f.step f.stage q p)) (below s.nodes)
    → AreCounted s f p counts

abbrev pub FreeIsCounted : Type 0
FreeIsCounted = (s : Scene) (f : Phase) (p : ℕ) (counts : List ℕ) → is_free f.stage ≡ true → AreCounted s f p counts

-- ---- what comes in

abbrev face_taking : Scene → Phase → ℕ → List Letter → Face
face_taking s f p got = record { me = p; count = s.nodes; left = f.left; out = []; due = []; got = got }

pub letters_come_in : LettersComeIn
letters_come_in s f rest p less =
    ap (face_taking s f p)
    (incoming_picked (face_left s (f ∷ rest)) (wanted_at s f p) (λ q. letter_of s f q p) (λ q. is_sent f.stage q p) p 0 s.nodes
    (λ q l m sent. picked_one (letter_of s f q) (is_sent f.stage q) p 0 s.nodes (omega arith) (omega (arith, less))
    ∙ ap (λ (b : Bool). if b then letter_of s f q p ∷ [] else []) sent))

-- ---- the own list

for_all_sent : (st : Stage) (p q : ℕ) → is_for_all st ≡ true → is_sent st q p ≡ not (q == p)
for_all_sent stage.Print p q e = cc
for_all_sent (stage.Output j) p q e = cc
for_all_sent (stage.MapPairs array) p q e = refl
for_all_sent stage.PageCounts p q e = refl
for_all_sent stage.MovingAsk p q e = refl
for_all_sent stage.MovingAnswer p q e = refl
for_all_sent stage.Remap p q e = refl
for_all_sent (stage.InLoop l) p q e = refl

is_another : (q p : ℕ) → q ≢ p → not (q == p) ≡ true
is_another q p h = grind (arith, nat_tests)

is_itself : (q p : ℕ) → q ≡ p → not (q == p) ≡ false
is_itself q p h = grind (arith, nat_tests)

-- all of these pass
all_pass : (P : ℕ → Bool) (low k : ℕ) → ((q : ℕ) → low ≤ q → P q ≡ true) → filter P (range_with_len low k) ≡ range_with_len low k
all_pass P low zero h = refl
all_pass P low (suc k) h =
    ap (λ (b : Bool). if b then low ∷ filter P (range_with_len (low + 1) k) else filter P (range_with_len (low + 1) k))
    (h low (omega arith))
    ∙ ap (λ (l : List ℕ). low ∷ l) (all_pass P (low + 1) k (λ q l. h q (omega (arith, l))))

put_back : (x : ℕ → List ℤ) (P : ℕ → Bool) (p low k j : ℕ) → p ≡ low + j → j < k → P p ≡ false → ((q : ℕ) → q ≢ p → P q ≡ true)
    → put_in j (x p) (map x (filter P (range_with_len low k))) ≡ map x (range_with_len low k)
put_back x P p low zero j e less own other = absurd (omega arith)
put_back x P p low (suc k) zero e less own other =
    let same : p ≡ low = omega (arith, e) in
    let more = filter P (range_with_len (low + 1) k) in
    ap (λ (b : Bool). x p ∷ map x (if b then low ∷ more else more)) (ap P (sym same) ∙ own)
    ∙ ap (λ (l : List ℕ). x p ∷ map x l) (all_pass P (low + 1) k (λ q l. other q (λ z. absurd (omega (arith, l, z, same)))))
    ∙ ap (λ z. x z ∷ map x (range_with_len (low + 1) k)) same
put_back x P p low (suc k) (suc j) e less own other =
    let more = filter P (range_with_len (low + 1) k) in
    ap (λ (b : Bool). put_in (suc j) (x p) (map x (if b then low ∷ more else more))) (other low (λ z. absurd (omega (arith, z, e))))
    ∙ ap (λ (l : List (List ℤ)). x low ∷ l) (put_back x P p (low + 1) k j (omega (arith, e)) (omega (arith, less)) own other)

map_map : {A B C : Type 0} (f : B → C) (g : A → B) (xs : List A) → map f (map g xs) ≡ map (λ x. f (g x)) xs
map_map f g [] = refl
map_map {A} {B} {C} f g (x ∷ xs) = ap (λ (l : List C). f (g x) ∷ l) (map_map f g xs)

pub own_list_is_put_in : OwnListIsPutIn
own_list_is_put_in s f p less all =
    let x : ℕ → List ℤ = λ q. numbers_at s f.past f.step f.stage q p in
    ap (put_in p (x p)) (map_map numbers_of (λ q. letter_of s f q p) (filter (λ q. is_sent f.stage q p) (below s.nodes)))
    ∙ put_back x (λ q. is_sent f.stage q p) p 0 s.nodes p (omega arith) less
    (for_all_sent f.stage p p all ∙ is_itself p p refl) (λ q other. for_all_sent f.stage p q all ∙ is_another q p other)

if_first : (b : Bool) → (b && (0 == 0)) ≡ b
if_first true = refl
if_first false = refl

first_sent : (st : Stage) (q : ℕ) → is_sent st q 0 ≡ not (q == 0)
first_sent stage.Print q = if_first (not (q == 0))
first_sent (stage.Output j) q = if_first (not (q == 0))
first_sent (stage.MapPairs array) q = refl
first_sent stage.PageCounts q = refl
first_sent stage.MovingAsk q = refl
first_sent stage.MovingAnswer q = refl
first_sent stage.Remap q = refl
first_sent (stage.InLoop l) q = refl

pub first_takes_all : FirstTakesAll
first_takes_all s f some =
    let x : ℕ → List ℤ = λ q. numbers_at s f.past f.step f.stage q 0 in
    ap (put_in 0 (x 0)) (map_map numbers_of (λ q. letter_of s f q 0) (filter (λ q. is_sent f.stage q 0) (below s.nodes)))
    ∙ put_back x (λ q. is_sent f.stage q 0) 0 0 s.nodes 0 (omega arith) some
    (first_sent f.stage 0 ∙ is_itself 0 0 refl) (λ q other. first_sent f.stage q ∙ is_another q 0 other)

-- ---- lengths

same_rows : {A : Type 0} (k : ℕ) (g h : A → List ℤ) → ((x : A) → length (g x) ≡ k) → ((x : A) → length (h x) ≡ k) → (xs : List A)
    → length (flat_map g xs) ≡ length (flat_map h xs)
same_rows k g h e f xs = flat_rows k g e xs ∙ sym (flat_rows k h f xs)

pub move_answers_are_known : MoveAnswersAreKnown
move_answers_are_known s past d form p q =
    let old = list_at (owners_at s past) d in
    let new = list_at (owners_at s (Distribute d form ∷ past)) d in
    same_rows 2 (λ g. pos (owner_in new g) ∷ pos (local_in new g) ∷ []) (λ g. pos d ∷ pos g ∷ []) (λ g. refl) (λ g. refl)
    (moving_of s.nodes old p q)

pub page_counts_are_known : PageCountsAreKnown
page_counts_are_known s past d form p q =
    length-map (counts_on_page s.nodes q (list_at (owners_at s (Distribute d form ∷ past)) d)) pos
    ∙ length-map-range_with_len _ 0 s.nodes

pub place_answers_are_known : PlaceAnswersAreKnown
place_answers_are_known s past site turn asking p q =
    let f = loop_at s past site turn in
    same_rows 2 (place_answer_of f (owners_at s past)) (place_ask_of f) (λ u. refl) (λ u. refl)
    (asked_of f (owners_at s past) (store_at s past) asking p q)

pub index_values_are_known : IndexValuesAreKnown
index_values_are_known s past site turn level p q =
    let f = loop_at s past site turn in
    let uses = fetched_of f (owners_at s past) (store_at s past) level p q in
    omega (
      arith,
      length-map uses (read_of (store_at s past)),
      flat_rows 2 (index_ask_of f (owners_at s past)) (λ u. refl) uses,
    )

pub gathers_are_known : GathersAreKnown
gathers_are_known s past site turn p q =
    flat_rows 3 (row_for (value_before (store_at s past))) (λ x. refl) (needed_of (loop_at s past site turn) (owners_at s past)
    (store_at s past) p q)

pub scatters_are_known : ScattersAreKnown
scatters_are_known s past site turn p q =
    let f = loop_at s past site turn in
    flat_rows 3 (row_for (value_given f (owners_at s past) (store_at s past) q)) (λ x. refl)
    (given_of f (owners_at s past) (store_at s past) q p)

-- ---- rows

picked_same : {A : Type 0} (f g : ℕ → A) (P : ℕ → Bool) (low k : ℕ) → ((q : ℕ) → q < low + k → P q ≡ true → f q ≡ g q)
    → picked f P low k ≡ picked g P low k
picked_same f g P low zero h = refl
picked_same {A} f g P low (suc k) h =
    let more = picked_same f g P (low + 1) k (λ q l e. h q (omega (arith, l)) e) in
    pick_with (λ qs. each f qs ≡ each g qs) (P low) (low ∷ filter P (range_with_len (low + 1) k)) (filter P (range_with_len (low + 1) k))
    (λ e. ap (λ (x : A). (low, x) ∷ picked f P (low + 1) k) (h low (omega arith) e) ∙ ap (λ (l : List (ℕ × A)). (low, g low) ∷ l) more)
    (λ e. more)

pub letters_are_sent : LettersAreSent
letters_are_sent s f p lists h =
    picked_same (λ q. letter_in (naming_at s f) (list_at lists q)) (letter_of s f p) (λ q. is_sent f.stage p q) 0 s.nodes
    (λ q l sent. ap (letter_in (naming_at s f)) (h q (omega (arith, l)) sent))

free_wanted : (n : Naming) (k m : ℕ) → (is_free n.stage ≡ false → k ≡ m) → wanted_in n k ≡ wanted_in n m
free_wanted n k m h = by (is_free n.stage) h
  where
    wanted_if : Bool → ℕ → Wanted
    wanted_if b count = record {
      kind = kind_of n.stage;
      execution = n.execution;
      site = n.site;
      group = n.group;
      least = if b then 0 else count;
      most = if b then most_in n.stage else count;
    }

    by : (b : Bool) → (b ≡ false → k ≡ m) → wanted_if b k ≡ wanted_if b m
    by true h = refl
    by false h = ap (wanted_if false) (h refl)

pub letters_are_taken : LettersAreTaken
letters_are_taken s f p counts h =
    picked_same (λ q. wanted_in (naming_at s f) (number_in counts q)) (wanted_at s f p) (λ q. is_sent f.stage q p) 0 s.nodes
    (λ q l sent. free_wanted (naming_at s f) (number_in counts q) (length (numbers_at s f.past f.step f.stage q p))
    (λ known. h q (omega (arith, l)) sent known))

abbrev row_with : Scene → Phase → ℕ → List (ℕ × Letter) → List (ℕ × Wanted) → Face
row_with s f p out due = record { me = p; count = s.nodes; left = f.left; out = out; due = due; got = [] }

pub rows_are_made : RowsAreMade
rows_are_made s f rest p lists counts sent counted =
    ap (λ out. row_with s f p out (takes_at s f p)) (sym (letters_are_sent s f p lists sent))
    ∙ ap (row_with s f p (sends_in s f p lists)) (sym (letters_are_taken s f p counts counted))

-- what is told for each number below n
pub row_below : {A : Type 0} (x : ℕ → A) (none : A) (n q : ℕ) → q < n → unwrap_or (slice_get (map x (below n)) q) none ≡ x q
row_below x none n q less =
    unwrap_or-slice_get (map x (below n)) q none ∙ get_or-map-range_with_len x 0 n q q none less (omega arith)

pub all_lists_are_sent : AllListsAreSent
all_lists_are_sent s f p lists e q less sent =
    ap (λ l. list_at l q) e ∙ row_below (λ q. numbers_at s f.past f.step f.stage p q) [] s.nodes q less

pub all_lengths_are_counted : AllLengthsAreCounted
all_lengths_are_counted s f p counts e q less sent known =
    ap (λ l. number_in l q) e ∙ row_below (λ q. length (numbers_at s f.past f.step f.stage q p)) 0 s.nodes q less

pub free_is_counted : FreeIsCounted
free_is_counted s f p counts free q less sent known = absurd (both (is_free f.stage) free known)
  where
    both : (b : Bool) → b ≡ true → b ≡ false → ⊥
    both true s t = cc
    both false s t = cc

only_to_first : (st : Stage) (p q : ℕ) → is_for_all st ≡ false → is_sent st p q ≡ true → q ≡ 0
only_to_first stage.Print p q h e = grind (arith, nat_tests)
only_to_first (stage.Output j) p q h e = grind (arith, nat_tests)
only_to_first (stage.MapPairs array) p q h e = cc
only_to_first stage.PageCounts p q h e = cc
only_to_first stage.MovingAsk p q h e = cc
only_to_first stage.MovingAnswer p q h e = cc
only_to_first stage.Remap p q h e = cc
only_to_first (stage.InLoop l) p q h e = cc

pub print_is_sent : PrintIsSent
print_is_sent s f array p step stage q less sent =
    let rows = print_rows s.checked (owners_at s f.past) (store_at s f.past) array p in
    ap (list_at (rows ∷ [])) (only_to_first f.stage p q stage sent) ∙ sym (ap (λ step. numbers_at s f.past step f.stage p q) step)
