-- A block joined array by array is the block joined iteration by iteration.
use Rattle.std.proofs.Common.{◌≡◌, ◌≢◌, ℕ, suc, ◌+◌, ◌<◌, ℤ, pos, Bool, true, false, cond, ◌==◌, List, [], ◌∷◌, ◌++◌, length, drop, get_or}
use Rattle.std.proofs.Common.{Option, Some, None, refl, ap, sym, subst, ◌∙◌, arith, inl, inr, length-set, append_assoc, ◌≤◌}
use Rattle.std.proofs.lemmas.List.{drop_more}
use Rattle.std.specs.Prelude.{nat_lt, slice_get, slice_set, fold, option_to_list}
use Rattle.std.specs.Option.{option_map}
use Rattle.std.proofs.lemmas.Bool.Decides.{eqb_tells, Decides-eqb}
use Rattle.fd_words.specs.Lists.{list_at}
use Rattle.fd_words.specs.declared.combine.Combine.{Combine}
use Rattle.fd_program.specs.LoopLaws.{at_set_same, at_set_other}
use Rattle.fd_program.specs.Loops.{target_of}
use Rattle.fd_program.specs.declared.body.CheckedBody.{CheckedBody}
use Rattle.chaos_move.specs.Moves.{operator_at, value_at}
use Rattle.chaos_sched.specs.declared.local_ref.LocalRef.{LocalRef}
use Rattle.chaos_sched.specs.declared.local_ref.LocalRef.TheVariants.{Here, Ghost}
use Rattle.chaos_execute.specs.declared.joining.Joining.{Joining}
use Rattle.chaos_execute.specs.declared.seat.Seat.{Seat}
use Rattle.chaos_execute.specs.declared.targets.Target.{Target}
use Rattle.chaos_execute.specs.Blocks.{joined_values, joined_block}
use Rattle.chaos_execute.specs.ByArray.{Both, rows_both, HasArrays, placed, target_in, targets_from, target_joined, array_block}
use Rattle.chaos_execute.specs.Pending.{joined_at, joined_row, joined_in, joined_to}
use Rattle.chaos_execute.specs.Seats.{located, located_by, seat_at}
use Rattle.chaos_execute.proofs.References.{found_at}

module _ (operators : List (Option Combine)) (pieces ghosts : List (List ℤ)) (array arrays : ℕ) where
  abbrev own : ℕ
  own = length (list_at pieces array)

  abbrev slots : ℕ
  slots = length (list_at ghosts array)

  -- the array's rows after one more value for a place of an array
  row_same : (rows : List (List (ℤ × ℤ))) (other at : ℕ) (value : ℤ) → other ≡ array → array < length rows
      → list_at (joined_row operators rows other at value) array ≡ joined_at (operator_at operators array) (list_at rows array) (pos at)
      value
  row_same rows other at value same h =
      at_set_same rows other array (joined_at (operator_at operators other) (list_at rows other) (pos at) value) [] same h
      ∙ ap (λ a. joined_at (operator_at operators a) (list_at rows a) (pos at) value) same

  row_other : (rows : List (List (ℤ × ℤ))) (other at : ℕ) (value : ℤ) → other ≢ array
      → list_at (joined_row operators rows other at value) array ≡ list_at rows array
  row_other rows other at value differs =
      at_set_other rows other array (joined_at (operator_at operators other) (list_at rows other) (pos at) value) [] differs

  in_same : (other : ℕ) (value : ℤ) (place : LocalRef) (j : Joining) → HasArrays arrays j → array < arrays → other ≡ array
      → rows_both (joined_in operators pieces ghosts other value place j) array
      ≡ placed (operator_at operators array) own slots value (Some place) (rows_both j array)
  in_same other value (Here local) j has h same =
      let room : array < length j.here = subst (λ n. array < n) (sym has.here) h in
      ap (λ (a : ℕ). rows_both (cond (nat_lt local (length (list_at pieces a))) (let k : Joining = record {
        here = joined_row operators j.here other local value;
        ghosts = j.ghosts;
      } in k) j) array) same
      ∙ by (nat_lt local own) (row_same j.here other local value same room)
    where
      by : (b : Bool) → list_at (joined_row operators j.here other local value) array
          ≡ joined_at (operator_at operators array) (list_at j.here array) (pos local) value
          → rows_both (cond b (let k : Joining = record { here = joined_row operators j.here other local value; ghosts = j.ghosts } in k) j)
          array
          ≡ cond b (joined_at (operator_at operators array) (list_at j.here array) (pos local) value, list_at j.ghosts array)
          (rows_both j array)
      by true e = ap (λ rows. (rows, list_at j.ghosts array)) e
      by false e = refl
  in_same other value (Ghost slot) j has h same =
      let room : array < length j.ghosts = subst (λ n. array < n) (sym has.ghosts) h in
      ap (λ (a : ℕ). rows_both (cond (nat_lt slot (length (list_at ghosts a))) (let k : Joining = record {
        here = j.here;
        ghosts = joined_row operators j.ghosts other slot value;
      } in k) j) array) same
      ∙ by (nat_lt slot slots) (row_same j.ghosts other slot value same room)
    where
      by : (b : Bool) → list_at (joined_row operators j.ghosts other slot value) array
          ≡ joined_at (operator_at operators array) (list_at j.ghosts array) (pos slot) value
          → rows_both (cond b (let k : Joining = record { here = j.here; ghosts = joined_row operators j.ghosts other slot value } in k) j)
          array
          ≡ cond b (list_at j.here array, joined_at (operator_at operators array) (list_at j.ghosts array) (pos slot) value)
          (rows_both j array)
      by true e = ap (λ rows. (list_at j.here array, rows)) e
      by false e = refl

  in_other : (other : ℕ) (value : ℤ) (place : LocalRef) (j : Joining) → other ≢ array
      → rows_both (joined_in operators pieces ghosts other value place j) array ≡ rows_both j array
  in_other other value (Here local) j differs = by (nat_lt local (length (list_at pieces other)))
    where
      by : (b : Bool) → rows_both (cond b (let k : Joining = record {
        here = joined_row operators j.here other local value;
        ghosts = j.ghosts;
      } in k) j) array
          ≡ rows_both j array
      by true = ap (λ rows. (rows, list_at j.ghosts array)) (row_other j.here other local value differs)
      by false = refl
  in_other other value (Ghost slot) j differs = by (nat_lt slot (length (list_at ghosts other)))
    where
      by : (b : Bool) → rows_both (cond b (let k : Joining = record {
        here = j.here;
        ghosts = joined_row operators j.ghosts other slot value;
      } in k) j) array
          ≡ rows_both j array
      by true = ap (λ rows. (list_at j.here array, rows)) (row_other j.ghosts other slot value differs)
      by false = refl

  -- one value more keeps the arrays
  in_arrays : (other : ℕ) (value : ℤ) (place : LocalRef) (j : Joining) → HasArrays arrays j
      → HasArrays arrays (joined_in operators pieces ghosts other value place j)
  in_arrays other value (Here local) j has = by (nat_lt local (length (list_at pieces other)))
    where
      by : (b : Bool) → HasArrays arrays (cond b (let k : Joining = record {
        here = joined_row operators j.here other local value;
        ghosts = j.ghosts;
      } in k) j)
      by true = record {
        here = length-set j.here other (joined_at (operator_at operators other) (list_at j.here other) (pos local) value) ∙ has.here;
        ghosts = has.ghosts;
      }
      by false = has
  in_arrays other value (Ghost slot) j has = by (nat_lt slot (length (list_at ghosts other)))
    where
      by : (b : Bool) → HasArrays arrays (cond b (let k : Joining = record {
        here = j.here;
        ghosts = joined_row operators j.ghosts other slot value;
      } in k) j)
      by true = record {
        here = has.here;
        ghosts = length-set j.ghosts other (joined_at (operator_at operators other) (list_at j.ghosts other) (pos slot) value) ∙ has.ghosts;
      }
      by false = has

  to_arrays : (row : List LocalRef) (o : Option Seat) (value : ℤ) (j : Joining) → HasArrays arrays j
      → HasArrays arrays (joined_to operators pieces ghosts (located_by row o) value j)
  to_arrays row None value j has = has
  to_arrays row (Some seat) value j has = by (slice_get row seat.at)
    where
      by : (o : Option LocalRef) → HasArrays arrays (joined_to operators pieces ghosts (option_map (found_at seat.array) o) value j)
      by None = has
      by (Some place) = in_arrays seat.array value place j has

  -- a statement's value, for the array
  one_target : (columns : List (List ℤ)) (at : ℕ) (row : List LocalRef) (column : ℕ) (o : Option Seat) (more : List Target) (j : Joining)
      → HasArrays arrays j → array < arrays
      → fold (target_joined (operator_at operators array) own slots columns at row)
      (rows_both (joined_to operators pieces ghosts (located_by row o) (value_at columns column at) j) array) more
      ≡ fold (target_joined (operator_at operators array) own slots columns at row) (rows_both j array)
      (option_to_list (target_in array column o) ++ more)
  one_target columns at row column None more j has h = refl
  one_target columns at row column (Some seat) more j has h =
      elim (eqb_tells seat.array array) [
        | inl same ↦
            ap (λ both. fold step both more) (here (slice_get row seat.at) same.1)
            ∙ sym (ap (λ b. fold step (rows_both j array) (option_to_list (cond b (Some target) None) ++ more)) same.0)
        | inr other ↦
            ap (λ both. fold step both more) (away (slice_get row seat.at) other.1)
            ∙ sym (ap (λ b. fold step (rows_both j array) (option_to_list (cond b (Some target) None) ++ more)) other.0)
      ]
    where
      step : Both → Target → Both
      step = target_joined (operator_at operators array) own slots columns at row

      target : Target
      target = record { at = seat.at; column = column }

      here : (o : Option LocalRef) → seat.array ≡ array
          → rows_both (joined_to operators pieces ghosts (option_map (found_at seat.array) o) (value_at columns column at) j) array
          ≡ placed (operator_at operators array) own slots (value_at columns column at) o (rows_both j array)
      here None same = refl
      here (Some place) same = in_same seat.array (value_at columns column at) place j has h same

      away : (o : Option LocalRef) → seat.array ≢ array
          → rows_both (joined_to operators pieces ghosts (option_map (found_at seat.array) o) (value_at columns column at) j) array
          ≡ rows_both j array
      away None differs = refl
      away (Some place) differs = in_other seat.array (value_at columns column at) place j differs

  values_arrays : (seats : List Seat) (columns : List (List ℤ)) (at : ℕ) (row : List LocalRef) (body : List CheckedBody) (column : ℕ)
      (j : Joining)
      → HasArrays arrays j → HasArrays arrays (joined_values operators pieces ghosts seats columns at row column j body)
  values_arrays seats columns at row [] column j has = has
  values_arrays seats columns at row (s ∷ body) column j has =
      values_arrays seats columns at row body (column + 1) (joined_to operators pieces ghosts (located seats row (target_of s))
      (value_at columns column at) j)
      (to_arrays row (seat_at seats (target_of s)) (value_at columns column at) j has)

  values_by_array : (seats : List Seat) (columns : List (List ℤ)) (at : ℕ) (row : List LocalRef) (body : List CheckedBody) (column : ℕ)
      (j : Joining)
      → HasArrays arrays j → array < arrays
      → rows_both (joined_values operators pieces ghosts seats columns at row column j body) array
      ≡ fold (target_joined (operator_at operators array) own slots columns at row) (rows_both j array)
      (targets_from seats array column body)
  values_by_array seats columns at row [] column j has h = refl
  values_by_array seats columns at row (s ∷ body) column j has h =
      values_by_array seats columns at row body (column + 1) (joined_to operators pieces ghosts (located seats row (target_of s))
      (value_at columns column at) j)
      (to_arrays row (seat_at seats (target_of s)) (value_at columns column at) j has) h
      ∙ one_target columns at row column (seat_at seats (target_of s)) (targets_from seats array (column + 1) body) j has h

  pub block_arrays : (seats : List Seat) (columns : List (List ℤ)) (width : ℕ) (body : List CheckedBody) (at : ℕ) (iterations : List ℤ)
      (row : List LocalRef) (j : Joining)
      → HasArrays arrays j → HasArrays arrays (joined_block operators pieces ghosts seats width body columns at iterations row j)
  block_arrays seats columns width body at [] row j has = has
  block_arrays seats columns width body at (i ∷ iterations) row j has =
      block_arrays seats columns width body (at + 1) iterations (drop width row)
      (joined_values operators pieces ghosts seats columns at row 0 j body)
      (values_arrays seats columns at row body 0 j has)

  pub block_by_array : (seats : List Seat) (columns : List (List ℤ)) (width : ℕ) (body : List CheckedBody) (at : ℕ) (iterations : List ℤ)
      (row : List LocalRef) (j : Joining)
      → HasArrays arrays j → array < arrays
      → rows_both (joined_block operators pieces ghosts seats width body columns at iterations row j) array
      ≡ array_block (operator_at operators array) own slots columns width (targets_from seats array 0 body) at iterations row
      (rows_both j array)
  block_by_array seats columns width body at [] row j has h = refl
  block_by_array seats columns width body at (i ∷ iterations) row j has h =
      block_by_array seats columns width body (at + 1) iterations (drop width row)
      (joined_values operators pieces ghosts seats columns at row 0 j body)
      (values_arrays seats columns at row body 0 j has) h
      ∙ ap (array_block (operator_at operators array) own slots columns width (targets_from seats array 0 body) (at + 1) iterations
      (drop width row))
      (values_by_array seats columns at row body 0 j has h)

-- ---- an array without targets

pub no_targets : (operator : Option Combine) (has more : ℕ) (columns : List (List ℤ)) (width at : ℕ) (iterations : List ℤ)
    (row : List LocalRef) (both : Both)
    → array_block operator has more columns width [] at iterations row both ≡ both
no_targets operator has more columns width at [] row both = refl
no_targets operator has more columns width at (i ∷ iterations) row both =
    no_targets operator has more columns width (at + 1) iterations (drop width row) both

pub none_there : (targets : List Target) → (length targets == 0) ≡ true → targets ≡ []
none_there [] e = refl
none_there (t ∷ targets) e =
    let none : length (t ∷ targets) ≡ 0 = (Decides-eqb (length (t ∷ targets)) 0).0 e in
    absurd (omega arith)

-- ---- loops

pub targets_more : (seats : List Seat) (array column k : ℕ) (body : List CheckedBody) (d s : CheckedBody) (before after all : List Target)
    → k < length body → s ≡ get_or body k d
    → after ≡ before ++ option_to_list (target_in array column (seat_at seats (target_of s)))
    → before ++ targets_from seats array column (drop k body) ≡ all
    → after ++ targets_from seats array (column + 1) (drop (k + 1) body) ≡ all
targets_more seats array column k body d s before after all h is added invariant =
    let one = option_to_list (target_in array column (seat_at seats (target_of s))) in
    let rest = targets_from seats array (column + 1) (drop (k + 1) body) in
    ap (λ l. l ++ rest) added ∙ append_assoc before one rest
    ∙ ap (λ t. before ++ (option_to_list (target_in array column (seat_at seats (target_of t))) ++ rest)) is
    ∙ ap (λ b. before ++ targets_from seats array column b) (sym (drop_more body k d h))
    ∙ invariant

pub block_more : (operator : Option Combine) (own slots : ℕ) (columns : List (List ℤ)) (width : ℕ) (targets : List Target) (k : ℕ)
    (iterations : List ℤ) (row left : List LocalRef) (before after all : Both)
    → k < length iterations → after ≡ fold (target_joined operator own slots columns k row) before targets → left ≡ drop width row
    → array_block operator own slots columns width targets k (drop k iterations) row before ≡ all
    → array_block operator own slots columns width targets (k + 1) (drop (k + 1) iterations) left after ≡ all
block_more operator own slots columns width targets k iterations row left before after all h joined moved invariant =
    ap (λ r. array_block operator own slots columns width targets (k + 1) (drop (k + 1) iterations) r after) moved
    ∙ ap (array_block operator own slots columns width targets (k + 1) (drop (k + 1) iterations) (drop width row)) joined
    ∙ ap (λ is. array_block operator own slots columns width targets k is row before) (sym (drop_more iterations k (pos 0) h))
    ∙ invariant

-- ---- all arrays

same_rows : (xs ys : List (List (ℤ × ℤ))) → length xs ≡ length ys → ((a : ℕ) → a < length xs → list_at xs a ≡ list_at ys a) → xs ≡ ys
same_rows [] [] e h = refl
same_rows [] (y ∷ ys) e h = absurd (omega arith)
same_rows (x ∷ xs) [] e h = absurd (omega arith)
same_rows (x ∷ xs) (y ∷ ys) e h =
    ap (λ r. r ∷ xs) (h 0 (omega arith)) ∙ ap (λ rs. y ∷ rs) (same_rows xs ys (omega arith) (λ a k. h (suc a) (omega arith)))

-- joinings with the same rows for each array are the same
pub same_joining : (arrays : ℕ) (j k : Joining) → HasArrays arrays j → HasArrays arrays k
    → ((a : ℕ) → a < arrays → rows_both j a ≡ rows_both k a) → j ≡ k
same_joining arrays j k one two h =
    let here : j.here ≡ k.here =
    same_rows j.here k.here (one.here ∙ sym two.here) (λ a l. ap (λ (b : Both). b.0) (h a (subst (λ n. a < n) one.here l))) in
    let ghosts : j.ghosts ≡ k.ghosts =
    same_rows j.ghosts k.ghosts (one.ghosts ∙ sym two.ghosts) (λ a l. ap (λ (b : Both). b.1) (h a (subst (λ n. a < n) one.ghosts l))) in
    ap (λ rows. let m : Joining = record { here = rows; ghosts = j.ghosts } in m) here
    ∙ ap (λ rows. let m : Joining = record { here = k.here; ghosts = rows } in m) ghosts

-- so many arrays have their rows after a block, the others those before
pub record AreJoined (arrays k : ℕ) (after : ℕ → Both) (before now : Joining) : Type 0 where
  pub has : HasArrays arrays now
  pub done : (a : ℕ) → a < k → rows_both now a ≡ after a
  pub left : (a : ℕ) → k ≤ a → rows_both now a ≡ rows_both before a

pub none_joined : (arrays : ℕ) (after : ℕ → Both) (j : Joining) → HasArrays arrays j → AreJoined arrays 0 after j j
none_joined arrays after j has = record { has = has; done = λ a h. absurd (omega arith); left = λ a h. refl }

pub one_joined : (arrays k : ℕ) (after : ℕ → Both) (before now then : Joining) → AreJoined arrays k after before now → k < arrays
    → then.here ≡ slice_set now.here k (after k).0 → then.ghosts ≡ slice_set now.ghosts k (after k).1
    → AreJoined arrays (k + 1) after before then
one_joined arrays k after before now then j h here ghosts =
    let at : (a : ℕ) → (k ≡ a) → rows_both then a ≡ after a =
    λ a same. ap (λ rows. (rows, list_at then.ghosts a)) (ap (λ rows. list_at rows a) here
    ∙ at_set_same now.here k a (after k).0 [] same (subst (λ n. a < n) (sym j.has.here) (subst (λ n. n < arrays) same h)))
    ∙ ap (λ rows. ((after k).0, rows)) (ap (λ rows. list_at rows a) ghosts
    ∙ at_set_same now.ghosts k a (after k).1 [] same (subst (λ n. a < n) (sym j.has.ghosts) (subst (λ n. n < arrays) same h)))
    ∙ ap after same in
    let off : (a : ℕ) → (k ≢ a) → rows_both then a ≡ rows_both now a =
    λ a differs. ap (λ rows. (rows, list_at then.ghosts a)) (ap (λ rows. list_at rows a) here
    ∙ at_set_other now.here k a (after k).0 [] differs)
    ∙ ap (λ rows. (list_at now.here a, rows)) (ap (λ rows. list_at rows a) ghosts
    ∙ at_set_other now.ghosts k a (after k).1 [] differs) in
    record {
      has = record {
        here = ap length here ∙ length-set now.here k (after k).0 ∙ j.has.here;
        ghosts = ap length ghosts ∙ length-set now.ghosts k (after k).1 ∙ j.has.ghosts;
      };
      done = λ a l. elim (eqb_tells k a) [
        | inl same ↦ at a same.1
        | inr other ↦ off a other.1 ∙ j.done a (let differs : k ≢ a = other.1 in omega arith)
      ];
      left = λ a l. off a (λ same. absurd (omega arith)) ∙ j.left a (omega arith);
    }

module _ (operators : List (Option Combine)) (pieces ghosts : List (List ℤ)) (seats : List Seat) (width : ℕ) (body : List CheckedBody)
    (columns : List (List ℤ)) (iterations : List ℤ) (row : List LocalRef) (before : Joining) (arrays : ℕ) where
  -- an array's rows after a block
  abbrev pub after_block : ℕ → Both
  after_block a = array_block (operator_at operators a) (length (list_at pieces a)) (length (list_at ghosts a)) columns width
      (targets_from seats a 0 body) 0 iterations row (rows_both before a)

  pub array_joined : (k : ℕ) (now then : Joining) (operator : Option Combine) (own slots : ℕ) (targets : List Target)
      → operator ≡ operator_at operators k → own ≡ length (list_at pieces k) → slots ≡ length (list_at ghosts k)
      → targets ≡ targets_from seats k 0 body → AreJoined arrays k after_block before now → k < arrays
      → then.here ≡ slice_set now.here k (array_block operator own slots columns width targets 0 iterations row (rows_both now k)).0
      → then.ghosts ≡ slice_set now.ghosts k (array_block operator own slots columns width targets 0 iterations row (rows_both now k)).1
      → AreJoined arrays (k + 1) after_block before then
  array_joined k now then operator own slots targets e f g t j h here there =
      let is : array_block operator own slots columns width targets 0 iterations row (rows_both now k) ≡ after_block k =
      ap (λ o. array_block o own slots columns width targets 0 iterations row (rows_both now k)) e
      ∙ ap (λ n. array_block (operator_at operators k) n slots columns width targets 0 iterations row (rows_both now k)) f
      ∙ ap (λ n. array_block (operator_at operators k) (length (list_at pieces k)) n columns width targets 0 iterations row
      (rows_both now k)) g
      ∙ ap (λ ts. array_block (operator_at operators k) (length (list_at pieces k)) (length (list_at ghosts k)) columns width ts 0
      iterations
      row (rows_both now k)) t
      ∙ ap (array_block (operator_at operators k) (length (list_at pieces k)) (length (list_at ghosts k)) columns width
      (targets_from seats k 0 body) 0 iterations row) (j.left k (omega arith)) in
      one_joined arrays k after_block before now then j h (here ∙ ap (λ (b : Both). slice_set now.here k b.0) is)
      (there ∙ ap (λ (b : Both). slice_set now.ghosts k b.1) is)

  pub all_joined : (now : Joining) → HasArrays arrays before → AreJoined arrays arrays after_block before now
      → now ≡ joined_block operators pieces ghosts seats width body columns 0 iterations row before
  all_joined now has j =
      same_joining arrays now (joined_block operators pieces ghosts seats width body columns 0 iterations row before) j.has
      (block_arrays operators pieces ghosts 0 arrays seats columns width body 0 iterations row before has)
      (λ a h. j.done a h ∙ sym (block_by_array operators pieces ghosts a arrays seats columns width body 0 iterations row before has h))

-- ---- a target more

pub target_more : (operator : Option Combine) (own slots : ℕ) (columns : List (List ℤ)) (at : ℕ) (row : List LocalRef)
    (targets : List Target) (k : ℕ) (d t : Target) (before after all : Both)
    → k < length targets → t ≡ get_or targets k d → after ≡ target_joined operator own slots columns at row before t
    → fold (target_joined operator own slots columns at row) before (drop k targets) ≡ all
    → fold (target_joined operator own slots columns at row) after (drop (k + 1) targets) ≡ all
target_more operator own slots columns at row targets k d t before after all h is joined invariant =
    ap (λ b. fold (target_joined operator own slots columns at row) b (drop (k + 1) targets))
    (joined ∙ ap (target_joined operator own slots columns at row before) is)
    ∙ ap (fold (target_joined operator own slots columns at row) before) (sym (drop_more targets k d h))
    ∙ invariant
