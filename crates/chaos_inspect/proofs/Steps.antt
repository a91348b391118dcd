-- Steps of the loops over iterations, over plain lists.
use Rattle.std.proofs.Common.{◌≡◌, ℕ, ◌+◌, ◌<◌, ◌≤◌, ℤ, pos, List, [], ◌∷◌, ◌++◌, length, filter, drop, take, get_or, refl, ap, sym, ◌∙◌}
use Rattle.std.proofs.Common.{Bool, Some, None, Option, arith, append_assoc, append-nil}
use Rattle.std.specs.Prelude.{count_by, filter_map}
use Rattle.std.specs.Option.{option_or}
use Rattle.std.proofs.lemmas.List.{at_drop_more}
use Rattle.std.proofs.lemmas.List.Elements.{filter-append, filter_map-append}
use Rattle.fd_words.specs.declared.place.Offence.{Offence}
use Rattle.fd_program.specs.Loops.{first_of, offence_at}
use Rattle.fd_program.specs.Uses.{gives_index}
use Rattle.fd_program.specs.declared.loop_facts.LoopFacts.{LoopFacts}
use Rattle.fd_program.specs.declared.loop_use.Use.{Use}
use Rattle.inspect_uses.specs.Reached.{gives_first, known_with, uses_with}
use Rattle.list_laws.specs.Rows.{appended_at, dealt_onto}
use Rattle.fd_words.specs.declared.place.Place.{Place}
use Rattle.plan_loop.specs.declared.loop_phase.Asking.{Asking}
use Rattle.plan_loop.specs.declared.loop_phase.Asking.TheVariants.{Homes}
use Rattle.chaos_inspect.specs.Walking.{Homed, home_told, homed_through, is_asked, known_through, piece_value, piece_values, spots_told}
use Rattle.chaos_inspect.specs.Walking.{uses_through}
use Rattle.chaos_inspect.proofs.Turns.{told_append}
use Rattle.chaos_inspect.specs.declared.spot.Spot.{Spot}

pub first_of-append : {A : Type 0} (xs ys : List A) → first_of (xs ++ ys) ≡ option_or (first_of xs) (first_of ys)
first_of-append [] ys = refl
first_of-append (x ∷ xs) ys = refl

-- one iteration of a walk
walked : (f : LoopFacts) (is rest more : List ℤ) (k : ℕ) (i : ℤ) (us : List Use) → k < length is → get_or is k (pos 0) ≡ i
    → us ≡ uses_with f i rest
    → more ≡ drop (count_by (gives_index f.arrays) us) rest → us ++ uses_through f (drop (k + 1) is) more ≡ uses_through f (drop k is) rest
walked f is rest more k i us less at used behind =
    let whole : List Use → List Use = λ vs. vs ++ uses_through f (drop (k + 1) is) (drop (count_by (gives_index f.arrays) vs) rest) in
    ap (λ vs. us ++ uses_through f (drop (k + 1) is) vs) behind
    ∙ ap whole (used ∙ ap (λ j. uses_with f j rest) (sym at))
    ∙ sym (at_drop_more (λ js. uses_through f js rest) is k (pos 0) less)

-- the rest of the offences
pub votes_step : (f : LoopFacts) (is rest more : List ℤ) (k : ℕ) (i : ℤ) (us : List Use) (all : Option Offence) → k < length is
    → get_or is k (pos 0) ≡ i
    → us ≡ uses_with f i rest → first_of (filter_map (offence_at f.arrays) us) ≡ None
    → more ≡ drop (count_by (gives_index f.arrays) us) rest
    → first_of (filter_map (offence_at f.arrays) (uses_through f (drop k is) rest)) ≡ all
    → first_of (filter_map (offence_at f.arrays) (uses_through f (drop (k + 1) is) more)) ≡ all
votes_step f is rest more k i us all less at used none behind before =
    let later = uses_through f (drop (k + 1) is) more in
    let split : first_of (filter_map (offence_at f.arrays) (us ++ later)) ≡ first_of (filter_map (offence_at f.arrays) later) =
    ap first_of (filter_map-append (offence_at f.arrays) us later) ∙ first_of-append (filter_map (offence_at f.arrays) us)
    (filter_map (offence_at f.arrays) later)
    ∙ ap (λ o. option_or o (first_of (filter_map (offence_at f.arrays) later))) none in
    sym split
    ∙ ap (λ us. first_of (filter_map (offence_at f.arrays) us)) (walked f is rest more k i us less at used behind)
    ∙ before

-- the first of the offences is here
pub votes_found : (f : LoopFacts) (is rest : List ℤ) (k : ℕ) (i : ℤ) (us : List Use) (o : Offence) (all : Option Offence) → k < length is
    → get_or is k (pos 0) ≡ i
    → us ≡ uses_with f i rest → first_of (filter_map (offence_at f.arrays) us) ≡ Some o
    → first_of (filter_map (offence_at f.arrays) (uses_through f (drop k is) rest)) ≡ all → Some o ≡ all
votes_found f is rest k i us o all less at used some before =
    let more = drop (count_by (gives_index f.arrays) us) rest in
    let later = uses_through f (drop (k + 1) is) more in
    sym (ap first_of (filter_map-append (offence_at f.arrays) us later) ∙ first_of-append (filter_map (offence_at f.arrays) us)
    (filter_map (offence_at f.arrays) later)
    ∙ ap (λ o. option_or o (first_of (filter_map (offence_at f.arrays) later))) some)
    ∙ ap (λ us. first_of (filter_map (offence_at f.arrays) us)) (walked f is rest more k i us less at used refl)
    ∙ before

-- the references of one iteration more whose places are asked for
pub wanted_step : (f : LoopFacts) (asking : Asking) (is rest more : List ℤ) (k : ℕ) (i : ℤ) (us list further all : List Use)
    → k < length is → get_or is k (pos 0) ≡ i
    → us ≡ uses_with f i rest → further ≡ list ++ filter (is_asked f asking) us → more ≡ drop (count_by (gives_index f.arrays) us) rest
    → list ++ filter (is_asked f asking) (uses_through f (drop k is) rest) ≡ all
    → further ++ filter (is_asked f asking) (uses_through f (drop (k + 1) is) more) ≡ all
wanted_step f asking is rest more k i us list further all less at used kept behind before =
    let later = uses_through f (drop (k + 1) is) more in
    ap (λ l. l ++ filter (is_asked f asking) later) kept
    ∙ append_assoc list (filter (is_asked f asking) us) (filter (is_asked f asking) later)
    ∙ ap (λ l. list ++ l) (sym (filter-append (is_asked f asking) us later)
    ∙ ap (filter (is_asked f asking)) (walked f is rest more k i us less at used behind))
    ∙ before

-- one iteration of a walk where the first level's values alone are known
known_walked : (f : LoopFacts) (is rest more : List ℤ) (k : ℕ) (i : ℤ) (us : List Use) → k < length is → get_or is k (pos 0) ≡ i
    → us ≡ known_with f i rest
    → more ≡ drop (count_by (gives_first f.arrays) us) rest
    → us ++ known_through f (drop (k + 1) is) more ≡ known_through f (drop k is) rest
known_walked f is rest more k i us less at used behind =
    let whole : List Use → List Use = λ vs. vs ++ known_through f (drop (k + 1) is) (drop (count_by (gives_first f.arrays) vs) rest) in
    ap (λ vs. us ++ known_through f (drop (k + 1) is) vs) behind
    ∙ ap whole (used ∙ ap (λ j. known_with f j rest) (sym at))
    ∙ sym (at_drop_more (λ js. known_through f js rest) is k (pos 0) less)

-- those of its references that are kept
pub kept_step : (f : LoopFacts) (keeps : Use → Bool) (is rest more : List ℤ) (k : ℕ) (i : ℤ) (us list further all : List Use)
    → k < length is → get_or is k (pos 0) ≡ i
    → us ≡ known_with f i rest → further ≡ list ++ filter keeps us → more ≡ drop (count_by (gives_first f.arrays) us) rest
    → list ++ filter keeps (known_through f (drop k is) rest) ≡ all
    → further ++ filter keeps (known_through f (drop (k + 1) is) more) ≡ all
kept_step f keeps is rest more k i us list further all less at used kept behind before =
    let later = known_through f (drop (k + 1) is) more in
    ap (λ l. l ++ filter keeps later) kept
    ∙ append_assoc list (filter keeps us) (filter keeps later)
    ∙ ap (λ l. list ++ l) (sym (filter-append keeps us later)
    ∙ ap (filter keeps) (known_walked f is rest more k i us less at used behind))
    ∙ before

-- the spots of one iteration more
pub spots_step : (f : LoopFacts) (asking : Asking) (is rest more : List ℤ) (told behind_told : List Place) (k : ℕ) (i : ℤ) (us : List Use)
    (spots further all : List Spot)
    → k < length is → get_or is k (pos 0) ≡ i
    → us ≡ known_with f i rest → further ≡ spots ++ spots_told f asking told us
    → behind_told ≡ drop (count_by (is_asked f asking) us) told → more ≡ drop (count_by (gives_first f.arrays) us) rest
    → spots ++ spots_told f asking told (known_through f (drop k is) rest) ≡ all
    → further ++ spots_told f asking behind_told (known_through f (drop (k + 1) is) more) ≡ all
spots_step f asking is rest more told behind_told k i us spots further all less at used noted places behind before =
    let later = known_through f (drop (k + 1) is) more in
    ap (λ l. l ++ spots_told f asking behind_told later) noted
    ∙ append_assoc spots (spots_told f asking told us) (spots_told f asking behind_told later)
    ∙ ap (λ l. spots ++ l) (ap (λ m. spots_told f asking told us ++ spots_told f asking m later) places
    ∙ sym (told_append f asking told us later)
    ∙ ap (spots_told f asking told) (known_walked f is rest more k i us less at used behind))
    ∙ before

-- the row of one iteration more
pub homed_step : (f : LoopFacts) (is rest more : List ℤ) (told later : List Place) (k : ℕ) (i : ℤ) (us : List Use) (count home : ℕ)
    (lists further all : List (List ℤ))
    → k < length is → get_or is k (pos 0) ≡ i → us ≡ uses_with f i rest → count ≡ count_by (gives_index f.arrays) us
    → home ≡ home_told f told us
    → further ≡ appended_at lists home (i ∷ take count rest) → more ≡ drop count rest → later ≡ drop (count_by (is_asked f Homes) us) told
    → dealt_onto (λ (h : Homed). h.home) (λ (h : Homed). h.row) lists (homed_through f (drop k is) rest told) ≡ all
    → dealt_onto (λ (h : Homed). h.home) (λ (h : Homed). h.row) further (homed_through f (drop (k + 1) is) more later) ≡ all
homed_step f is rest more told later k i us count home lists further all less at used counted homed appended behind past before =
    let onto : List (List ℤ) → List Homed → List (List ℤ) = dealt_onto (λ (h : Homed). h.home) (λ (h : Homed). h.row) in
    let made : ℤ → List Use → List (List ℤ) = λ j vs.
    onto (appended_at lists (home_told f told vs) (j ∷ take (count_by (gives_index f.arrays) vs) rest))
    (homed_through f (drop (k + 1) is) (drop (count_by (gives_index f.arrays) vs) rest) (drop (count_by (is_asked f Homes) vs) told)) in
    ap (λ l. onto l (homed_through f (drop (k + 1) is) more later)) (appended ∙ ap (λ n. appended_at lists n (i ∷ take count rest)) homed
    ∙ ap (λ n. appended_at lists (home_told f told us) (i ∷ take n rest)) counted)
    ∙ ap (λ vs. onto (appended_at lists (home_told f told us) (i ∷ take (count_by (gives_index f.arrays) us) rest))
    (homed_through f (drop (k + 1) is) vs later)) (behind ∙ ap (λ n. drop n rest) counted)
    ∙ ap (λ ps. onto (appended_at lists (home_told f told us) (i ∷ take (count_by (gives_index f.arrays) us) rest))
    (homed_through f (drop (k + 1) is) (drop (count_by (gives_index f.arrays) us) rest) ps)) past
    ∙ ap (made i) used
    ∙ ap (λ j. made j (uses_with f j rest)) (sym at)
    ∙ sym (at_drop_more (λ js. onto lists (homed_through f js rest told)) is k (pos 0) less)
    ∙ before

-- two numbers more are a pair
pub pair_step : (pieces : List (List ℤ)) (asked more values further all : List ℤ) → 2 ≤ length asked → more ≡ drop 2 asked
    → further ≡ values ++ piece_value pieces (get_or asked 0 (pos 0)) (get_or asked 1 (pos 0)) ∷ []
    → values ++ piece_values pieces asked ≡ all → further ++ piece_values pieces more ≡ all
pair_step pieces [] more values further all two behind pushed before = absurd (omega arith)
pair_step pieces (array ∷ []) more values further all two behind pushed before = absurd (omega arith)
pair_step pieces (array ∷ local ∷ rest) more values further all two behind pushed before =
    ap (λ l. l ++ piece_values pieces more) pushed ∙ append_assoc values (piece_value pieces array local ∷ []) (piece_values pieces more)
    ∙ ap (λ l. values ++ (piece_value pieces array local ∷ piece_values pieces l)) behind ∙ before

pub pair_done : (pieces : List (List ℤ)) (asked values all : List ℤ) → length asked < 2 → values ++ piece_values pieces asked ≡ all
    → values ≡ all
pair_done pieces [] values all few before = sym (append-nil values) ∙ before
pair_done pieces (array ∷ []) values all few before = sym (append-nil values) ∙ before
pair_done pieces (array ∷ local ∷ rest) values all few before = absurd (omega arith)
