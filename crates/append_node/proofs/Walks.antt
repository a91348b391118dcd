-- Lists gone through from the front.
use Rattle.std.specs.Prelude.{◌≡◌, refl, ℕ, suc, ◌+◌, ◌-◌, ◌*◌, ◌/◌, ◌≤◌, ◌<◌, ℤ, List, [], ◌∷◌, ◌++◌, length, map, drop, flat_map, take}
use Rattle.std.proofs.Common.{ap, sym, ◌∙◌, append-nil, append_assoc, add-one}
use Rattle.std.proofs.lemmas.List.{map-append}
use Rattle.std.proofs.lemmas.List.Concat.{flat_map-append}
use Rattle.chaos_letter.specs.declared.letter.Letter.{Letter}
use Rattle.chaos_dist.specs.Counting.{below, below-last, up_to, up_to-last}
use Rattle.chaos_bins.specs.Ascending.{IsAscending}
use Rattle.chaos_bins.specs.Bins.{bin_line, pair_le}
use Rattle.chaos_bins.specs.Lines.{lines_from, next_bin, through, values_at}
use Rattle.append_node.specs.Keys.{pair_of}
use Rattle.std.proofs.lemmas.Slice.{between_is}
use Rattle.std.proofs.Common.{rules}
use Rattle.chaos_bins.specs.Coming.{all_pairs, part_of}
use Rattle.chaos_bins.specs.Plan.{pairs_in}
use Rattle.chaos_bins.specs.Dealing.{dealt_rows, dealt-append, stepped}
use Rattle.chaos_bins.specs.Rows.{next_pair, no_pair_more, number_at}

-- ---- parts of nodes

-- the pairs of one node more
part_more : (q me : ℕ) (own : List ℤ) (got : List Letter)
    → all_pairs (q + 1) me own got ≡ all_pairs q me own got ++ pairs_in (part_of me own got q)
part_more q me own got =
    let f = λ (r : ℕ). pairs_in (part_of me own got r) in
    ap (λ n. flat_map f (below n)) (add-one q)
    ∙ ap (flat_map f) (below-last q)
    ∙ flat_map-append f (below q) (q ∷ [])
    ∙ ap (λ (l : List (ℤ × ℤ)). flat_map f (below q) ++ l) (append-nil (f q))

pub parts_kept : (bins nodes : ℕ) (start lists new : List (List ℤ)) (me : ℕ) (own : List ℤ) (got : List Letter) (part : List ℤ) (q : ℕ)
    → lists ≡ dealt_rows bins nodes start (map (stepped bins) (all_pairs q me own got))
    → part ≡ part_of me own got q → new ≡ dealt_rows bins nodes lists (map (stepped bins) (pairs_in part))
    → new ≡ dealt_rows bins nodes start (map (stepped bins) (all_pairs (q + 1) me own got))
parts_kept bins nodes start lists new me own got part q before here is =
    let pairs = all_pairs q me own got in
    let more = pairs_in (part_of me own got q) in
    is
    ∙ ap (λ l. dealt_rows bins nodes l (map (stepped bins) (pairs_in part))) before
    ∙ ap (λ l. dealt_rows bins nodes (dealt_rows bins nodes start (map (stepped bins) pairs)) (map (stepped bins) (pairs_in l))) here
    ∙ sym (dealt-append bins nodes start (map (stepped bins) pairs) (map (stepped bins) more))
    ∙ ap (dealt_rows bins nodes start) (sym (map-append (stepped bins) pairs more) ∙ ap (map (stepped bins)) (sym (part_more q me own got)))

pub pairs_kept : (me : ℕ) (own : List ℤ) (got : List Letter) (part : List ℤ) (pairs new : List (ℤ × ℤ)) (q : ℕ)
    → pairs ≡ all_pairs q me own got → part ≡ part_of me own got q → new ≡ pairs ++ pairs_in part → new ≡ all_pairs (q + 1) me own got
pairs_kept me own got part pairs new q before here is =
    is
    ∙ ap (λ (l : List (ℤ × ℤ)). l ++ pairs_in part) before
    ∙ ap (λ l. all_pairs q me own got ++ pairs_in l) here
    ∙ sym (part_more q me own got)

-- ---- pairs as numbers

pub add_kept : (before new total : List (ℤ × ℤ)) (rows : List ℤ) (k : ℕ) (b v : ℤ) (x : ℤ × ℤ) → k < length rows / 2
    → b ≡ number_at rows (2 * k) → v ≡ number_at rows (2 * k + 1) → x ≡ (b, v)
    → before ++ pairs_in (drop (2 * k) rows) ≡ total → new ≡ before ++ x ∷ [] → new ++ pairs_in (drop (2 * (k + 1)) rows) ≡ total
add_kept before new total rows k b v x less b_is v_is x_is all put =
    let rest = pairs_in (drop (2 * (k + 1)) rows) in
    ap (λ (l : List (ℤ × ℤ)). l ++ rest) (put ∙ ap (λ (y : ℤ × ℤ). before ++ y ∷ []) x_is)
    ∙ append_assoc before ((b, v) ∷ []) rest
    ∙ ap (λ (l : List (ℤ × ℤ)). before ++ l) (sym (next_pair rows k b v less b_is v_is))
    ∙ all

pub add_ended : (before total : List (ℤ × ℤ)) (rows : List ℤ) (k : ℕ) → length rows / 2 ≤ k → before ++ pairs_in (drop (2 * k) rows)
    ≡ total → before ≡ total
add_ended before total rows k over all =
    sym (append-nil before) ∙ ap (λ (l : List (ℤ × ℤ)). before ++ l) (sym (no_pair_more rows k over)) ∙ all

-- ---- lines

pub line_grouped : (t a d v : List ℕ) → ((((t ++ a) ++ d) ++ 58 ∷ []) ++ v) ++ 10 ∷ [] ≡ t ++ (((a ++ d) ++ 58 ∷ v) ++ 10 ∷ [])
line_grouped t a d v = simp append_assoc

lines_last : (bin : ℕ) (pairs : List (ℤ × ℤ)) → lines_from (suc bin) pairs ≡ lines_from bin pairs ++ bin_line (suc bin)
    (values_at pairs (suc bin))
lines_last bin pairs =
    let f = λ (b : ℕ). bin_line b (values_at pairs b) in
    ap (flat_map f) (up_to-last bin)
    ∙ flat_map-append f (up_to bin) (suc bin ∷ [])
    ∙ ap (λ (l : List ℕ). flat_map f (up_to bin) ++ l) (append-nil (f (suc bin)))

pub mapped_again : {X Y Z : Type 0} (f : Y → Z) (g : X → Y) (xs : List X) → map (λ x. f (g x)) xs ≡ map f (map g xs)
mapped_again f g [] = refl
mapped_again f g (x ∷ xs) = ap (λ l. f (g x) ∷ l) (mapped_again f g xs)

range_is : {X : Type 0} (xs : List X) (from to : ℕ) → take (to - from) (drop from xs) ≡ drop from (take to xs)
range_is xs from to = search (rules, between_is)

-- the line of the next bin, from the pairs that stand there in an ascending list
pub lines_kept : (pairs : List (ℤ × ℤ)) (bin from to : ℕ) (text new : List ℕ) (keys : List ℕ) → IsAscending pair_le pairs
    → text ≡ lines_from bin pairs → from ≡ through bin pairs → to ≡ through (bin + 1) pairs
    → map pair_of keys ≡ take (to - from) (drop from pairs) → new ≡ text ++ bin_line (bin + 1) (map (λ k. (pair_of k).1) keys)
    → new ≡ lines_from (bin + 1) pairs
lines_kept pairs bin from to text new keys up before from_is to_is between is =
    let values : map (λ k. (pair_of k).1) keys ≡ values_at pairs (suc bin) =
    mapped_again (λ (x : ℤ × ℤ). x.1) pair_of keys
    ∙ ap (map (λ (x : ℤ × ℤ). x.1))
    (between
    ∙ range_is pairs from to
    ∙ ap (λ n. drop n (take to pairs)) from_is
    ∙ ap (λ n. drop (through bin pairs) (take n pairs)) (to_is ∙ ap (λ b. through b pairs) (add-one bin))
    ∙ next_bin bin pairs up) in
    is
    ∙ ap (λ (l : List ℕ). l ++ bin_line (bin + 1) (map (λ k. (pair_of k).1) keys)) before
    ∙ ap (λ b. lines_from bin pairs ++ bin_line b (map (λ k. (pair_of k).1) keys)) (add-one bin)
    ∙ ap (λ vs. lines_from bin pairs ++ bin_line (suc bin) vs) values
    ∙ sym (lines_last bin pairs)
    ∙ ap (λ b. lines_from b pairs) (sym (add-one bin))
