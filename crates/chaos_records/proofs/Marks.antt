-- The numbers that references name, marked one reference after another.
use Rattle.std.specs.Prelude.{◌≡◌, refl, ℕ, zero, suc, ◌+◌, ◌-◌, ◌<◌, ℤ, Bool, true, false, ◌&&◌, ◌||◌, ◌==◌, if◌then◌else◌, List, [], ◌∷◌}
use Rattle.std.specs.Prelude.{◌++◌, length, map, filter, replicate, slice_get, unwrap_or, Option, Some, None}
use Rattle.std.specs.List.{range_with_len, list_any}
use Rattle.std.proofs.Common.{ap, sym, ◌∙◌, arith, append_assoc, get_or}
use Rattle.chaos_dist.specs.Counting.{below}
use Rattle.fd_program.specs.Past.{decompositions_of, index_arrays_of}
use Rattle.fd_words.specs.Roles.{is_index}
use Rattle.fd_program.specs.declared.checked.Checked.{Checked}
use Rattle.fd_program.specs.declared.loop_record.LoopRecord.{LoopRecord}
use Rattle.fd_program.specs.declared.reference.Reference.{Reference}
use Rattle.fd_program.specs.declared.site.Site.{Site}
use Rattle.chaos_records.specs.Keeping.{named_decomposition, named_index, mark, marked, is_marked, marked_below, given_if}
use Rattle.chaos_records.specs.Numbering.{same_map, same_filter, get_below, set_below, replicate_map}

pub picked_next : (p : ℕ → Bool) (f : ℕ → ℤ) (out : List ℤ) (n d : ℕ) → d < n
    → out ++ map f (filter p (range_with_len d (n - d)))
    ≡ (out ++ given_if (p d) (f d)) ++ map f (filter p (range_with_len (d + 1) (n - (d + 1))))
picked_next p f out n d less =
    let left : n - d ≡ suc (n - (d + 1)) = omega (arith, less) in
    ap (λ m. out ++ map f (filter p (range_with_len d m))) left
    ∙ ap (λ l. out ++ l) (by (p d))
    ∙ sym (append_assoc out (given_if (p d) (f d)) (map f (filter p (range_with_len (d + 1) (n - (d + 1))))))
  where
    by : (b : Bool) → map f (if b then d ∷ filter p (range_with_len (d + 1) (n - (d + 1)))
        else filter p (range_with_len (d + 1) (n - (d + 1))))
        ≡ given_if b (f d) ++ map f (filter p (range_with_len (d + 1) (n - (d + 1))))
    by true = refl
    by false = refl

-- ---- what is marked is what is named

abbrev is_named : Option ℕ → ℕ → Bool
is_named None d = false
is_named (Some k) d = k == d

or_false : (b : Bool) → b ≡ (b || false)
or_false true = refl
or_false false = refl

or_given : (a b c : Bool) → ((if a then true else b) || c) ≡ (b || (a || c))
or_given true true c = refl
or_given true false c = refl
or_given false true c = refl
or_given false false c = refl

marks_named : (name : Reference → Option ℕ) (n : ℕ) (references : List Reference) (f : ℕ → Bool)
    → marked name (map f (below n)) references ≡ map (λ d. f d || list_any (λ r. is_named (name r) d) references) (below n)
marks_named name n [] f = same_map f (λ d. f d || false) 0 n (λ d low high. or_false (f d))
marks_named name n (r ∷ rs) f = by (name r) (marks_named name n rs)
  where
    by : (o : Option ℕ)
        → ((g : ℕ → Bool) → marked name (map g (below n)) rs ≡ map (λ d. g d || list_any (λ r. is_named (name r) d) rs) (below n))
        → marked name (mark (map f (below n)) o) rs ≡ map (λ d. f d || (is_named o d || list_any (λ r. is_named (name r) d) rs)) (below n)
    by None rest = rest f
    by (Some k) rest =
        let g : ℕ → Bool = λ d. if k == d then true else f d in
        ap (λ marks. marked name marks rs) (set_below f true n k)
        ∙ rest g
        ∙ same_map (λ d. g d || list_any (λ r. is_named (name r) d) rs) (λ d. f d || ((k == d) || list_any (λ r. is_named (name r) d) rs))
        0 n
        (λ d low high. or_given (k == d) (f d) (list_any (λ r. is_named (name r) d) rs))

marked_map : (q : ℕ → Bool) (n : ℕ) → marked_below (map q (below n)) n ≡ filter q (below n)
marked_map q n =
    same_filter (is_marked (map q (below n))) q 0 n (λ d low high. ap (λ o. unwrap_or o false) (get_below q n d (omega (arith, high))))

marked_names : (name : Reference → Option ℕ) (n : ℕ) (references : List Reference)
    → marked_below (marked name (replicate n false) references) n ≡ filter (λ d. list_any (λ r. is_named (name r) d) references) (below n)
marked_names name n references =
    ap (λ marks. marked_below (marked name marks references) n) (replicate_map false 0 n)
    ∙ ap (λ marks. marked_below marks n) (marks_named name n references (λ d. false))
    ∙ marked_map (λ d. list_any (λ r. is_named (name r) d) references) n

pub marked_decompositions : (c : Checked) (site : Site)
    → marked_below (marked (named_decomposition c.arrays) (replicate (length c.layouts) false) site.references) (length c.layouts)
    ≡ decompositions_of c site
marked_decompositions c site = marked_names (named_decomposition c.arrays) (length c.layouts) site.references

named_indexes : (d : ℕ) (references : List Reference)
    → list_any (λ r. is_named (named_index r) d) references ≡ list_any (λ (r : Reference). is_index r.role && (r.array == d)) references
named_indexes d [] = refl
named_indexes d (r ∷ rs) = by (is_index r.role) (named_indexes d rs)
  where
    by : (b : Bool) → list_any (λ r. is_named (named_index r) d) rs ≡ list_any (λ (r : Reference). is_index r.role && (r.array == d)) rs
        → (is_named (if b then Some r.array else None) d || list_any (λ r. is_named (named_index r) d) rs)
        ≡ ((b && (r.array == d)) || list_any (λ (r : Reference). is_index r.role && (r.array == d)) rs)
    by true rest = ap (λ b. (r.array == d) || b) rest
    by false rest = rest

pub marked_indexes : (c : Checked) (site : Site)
    → marked_below (marked named_index (replicate (length c.arrays) false) site.references) (length c.arrays) ≡ index_arrays_of c site
marked_indexes c site =
    marked_names named_index (length c.arrays) site.references
    ∙ same_filter (λ d. list_any (λ r. is_named (named_index r) d) site.references)
    (λ d. list_any (λ (r : Reference). is_index r.role && (r.array == d)) site.references) 0 (length c.arrays)
    (λ d low high. named_indexes d site.references)

-- one more number is looked at
pub picked_kept : (p : ℕ → Bool) (f : ℕ → ℤ) (out more : List ℤ) (n d : ℕ) (is : Bool) (value : ℤ) (all : List ℤ) → d < n
    → is ≡ p d → value ≡ f d → more ≡ out ++ given_if is value
    → out ++ map f (filter p (range_with_len d (n - d))) ≡ all
    → more ++ map f (filter p (range_with_len (d + 1) (n - (d + 1)))) ≡ all
picked_kept p f out more n d is value all less e1 e2 e3 h =
    let rest = map f (filter p (range_with_len (d + 1) (n - (d + 1)))) in
    ap (λ l. l ++ rest) e3
    ∙ ap (λ b. (out ++ given_if b value) ++ rest) e1
    ∙ ap (λ v. (out ++ given_if (p d) v) ++ rest) e2
    ∙ sym (picked_next p f out n d less)
    ∙ h

-- the element at a place within a list
pub given_at : {A : Type 0} (xs : List A) (k : ℕ) (x none : A) → k < length xs → x ≡ get_or xs k x → x ≡ unwrap_or (slice_get xs k) none
given_at [] k x none less e = absurd (omega (arith, less))
given_at (y ∷ ys) zero x none less e = e
given_at (y ∷ ys) (suc k) x none less e = given_at ys k x none (omega (arith, less)) e

-- a record of the same parts
abbrev pub made_of : ℤ → ℤ → List ℤ → List ℤ → List ℤ → LoopRecord
made_of low high adds versions changes = record { low = low; high = high; adds = adds; versions = versions; changes = changes }

pub same_parts : (low low' high high' : ℤ) (adds adds' versions versions' changes changes' : List ℤ)
    → low ≡ low' → high ≡ high' → adds ≡ adds' → versions ≡ versions' → changes ≡ changes'
    → made_of low high adds versions changes ≡ made_of low' high' adds' versions' changes'
same_parts low low' high high' adds adds' versions versions' changes changes' e1 e2 e3 e4 e5 =
    ap (λ x. made_of x high adds versions changes) e1
    ∙ ap (λ x. made_of low' x adds versions changes) e2
    ∙ ap (λ x. made_of low' high' x versions changes) e3
    ∙ ap (λ x. made_of low' high' adds' x changes) e4
    ∙ ap (made_of low' high' adds' versions') e5
