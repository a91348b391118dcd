-- A set of tables in which one is changed.
use Rattle.std.proofs.Common.{◌≡◌, ℕ, zero, suc, ◌+◌, ◌<◌, ◌≤◌, true, cond, List, [], ◌∷◌, length, Option, Some, None, refl, ap, sym, subst}
use Rattle.std.proofs.Common.{◌∙◌, arith, Ordering, Less, Equal, Greater, inl, inr, nat_eq, Ok, Err, max, replicate}
use Rattle.std.specs.Prelude.{◌≢◌, slice_set, if◌then◌else◌, ◌==◌, MatchOption, Result, IfOk, OnOk, OnErr}
use Rattle.std.specs.List.{slice_index_or}
use Rattle.fd_words.specs.declared.place.Place.{Place}
use lib.Dec.{T}
use Rattle.std.specs.Ordering.{nat_cmp, is_lt, MatchOrdering}
use Rattle.std.specs.Cmp.{nat_cmp_total, unsigned_tied, ranks}
use Rattle.std.specs.FinMap as fin
use Rattle.std.specs.FinMap.Entries.{below_all, is_sorted}
use Rattle.std.proofs.lemmas.Bool.Decides.{eqb_tells}
use Rattle.std.proofs.lemmas.List.{get_or-set_other, get_or-set_same}
use Rattle.std.proofs.lemmas.Option.{none-some, unwrap_or-slice_get}
use Rattle.chaos_hash.specs.Stamps.{Stamps, cleared, entered, IsFree}
use Rattle.chaos_hash.specs.declared.held.Held.{Held}
use Rattle.list_laws.proofs.Ascending.{first, second}
use Rattle.plan_tables.specs.Tables.{no_table, table_at, entry_at, entered_in, dropped_in, HasElements, AreTables}
use Rattle.fd_program.specs.Checks.{IsExtent}

-- ---- one of a list

pub table_same : (ts : List Stamps) (d : ℕ) (t : Stamps) → d < length ts → table_at (slice_set ts d t) d ≡ t
table_same ts d t h = unwrap_or-slice_get (slice_set ts d t) d no_table ∙ get_or-set_same ts d t no_table h

pub table_other : (ts : List Stamps) (d e : ℕ) (t : Stamps) → e ≢ d → table_at (slice_set ts d t) e ≡ table_at ts e
table_other ts d e t h =
    unwrap_or-slice_get (slice_set ts d t) e no_table ∙ get_or-set_other ts d e t no_table h ∙ sym (unwrap_or-slice_get ts e no_table)

-- ---- elements

pub tables_set : (ts : List Stamps) (d : ℕ) (t : Stamps) → AreTables ts → HasElements t → AreTables (slice_set ts d t)
tables_set [] d t h g = tt
tables_set (x ∷ xs) zero t h g = (g, h.1)
tables_set (x ∷ xs) (suc d) t h g = (h.0, tables_set xs d t h.1 g)

pub table_has : (ts : List Stamps) (d : ℕ) → AreTables ts → HasElements (table_at ts d)
table_has [] d h = λ e k found. absurd (none-some k (sym (fin.get-empty nat_cmp e) ∙ found))
table_has (x ∷ xs) zero h = h.0
table_has (x ∷ xs) (suc d) h = table_has xs d h.1

pub has_cleared : (t u : Stamps) (mask : ℕ) → HasElements t → ((q : ℕ) → fin.get u.held q ≡ cleared mask (fin.get t.held q)) → HasElements u
has_cleared t u mask h is e k found = by (fin.get t.held e) refl (sym (is e) ∙ found)
  where
    by : (o : Option Held) → fin.get t.held e ≡ o → cleared mask o ≡ Some k → IsExtent e
    by None same none = absurd (none-some k none)
    by (Some old) same left = h e old same

pub has_entered : (t u : Stamps) (element : ℕ) (v : Held) → HasElements t → IsExtent element → u.held ≡ fin.insert t.held element v
    → HasElements u
has_entered t u element v h within is e k found =
    elim (eqb_tells e element) [
      | inl same ↦ subst IsExtent (sym same.1) within
      | inr other ↦ h e k (sym (ap (λ b. cond b (Some v) (fin.get t.held e)) other.0)
          ∙ sym (ap (λ b. cond b (Some v) (fin.get t.held e)) (unsigned_tied e element))
          ∙ sym (fin.get-insert nat_cmp_total t.held element v e) ∙ sym (ap (λ m. fin.get m e) is) ∙ found)
    ]

-- ---- as many entries as elements at most

is_less : (r : Ordering) (A B C : Type 0) → MatchOrdering r A B C → T (is_lt r) → A
is_less Less A B C a h = a
is_less Equal A B C a h = absurd h
is_less Greater A B C a h = absurd h

above : (k : ℕ) (es : List (ℕ × Held)) (q : ℕ) (h : Held) → T (below_all nat_cmp k es) → fin.find nat_cmp q es ≡ Some h → k < q
above k [] q h sorted found = absurd (none-some h found)
above k (e ∷ es) q h sorted found =
    elim (eqb_tells q e.0) [
      | inl same ↦ subst (λ n. k < n) (sym same.1) (is_less (nat_cmp k e.0) (k < e.0) (k ≡ e.0) (e.0 < k) (ranks k e.0)
          (first (is_lt (nat_cmp k e.0)) _ sorted))
      | inr other ↦ above k es q h (second (is_lt (nat_cmp k e.0)) _ sorted)
          (sym (ap (λ b. cond b (Some e.1) (fin.find nat_cmp q es)) (unsigned_tied q e.0 ∙ other.0)) ∙ found)
    ]

few_from : (low n : ℕ) (es : List (ℕ × Held)) → low ≤ n + 1 → T (is_sorted nat_cmp es)
    → ((q : ℕ) (h : Held) → fin.find nat_cmp q es ≡ Some h → (low ≤ q) × (q ≤ n)) → length es + low ≤ n + 1
few_from low n [] small sorted within = omega (arith, small)
few_from low n (e ∷ es) small sorted within =
    let at = λ (q : ℕ). ap (λ b. cond b (Some e.1) (fin.find nat_cmp q es)) (unsigned_tied q e.0) in
    let itself : fin.find nat_cmp e.0 (e ∷ es) ≡ Some e.1 = at e.0 ∙ ap (λ b. cond b (Some e.1) (fin.find nat_cmp e.0 es)) (tied e.0) in
    let here = within e.0 e.1 itself in
    let rest = few_from (e.0 + 1) n es (omega (arith, here.1)) (second (below_all nat_cmp e.0 es) _ sorted) (λ q h found.
    let more : e.0 < q = above e.0 es q h (first (below_all nat_cmp e.0 es) _ sorted) found in (
      omega (arith, more),
      elim (eqb_tells q e.0) [
        | inl same ↦ subst (λ k. k ≤ n) (sym same.1) here.1
        | inr other ↦ (within q h (at q ∙ ap (λ b. cond b (Some e.1) (fin.find nat_cmp q es)) other.0 ∙ found)).1
      ],
    )) in
    omega (arith, rest, here.0)
  where
    tied : (k : ℕ) → nat_eq k k ≡ true
    tied k = elim (eqb_tells k k) [ inl same ↦ same.0 | inr other ↦ absurd (other.1 refl) ]

pub few_entries : (t : Stamps) → HasElements t → fin.len t.held < 4294967295
few_entries t h =
    let most = few_from 1 1048576 (fin.entries t.held) (omega arith) (fin.entries_sorted t.held) (λ q k found.
    let e = h q k (fin.get-entries t.held q ∙ found) in (e.some, e.most)) in
    let count = fin.len-entries t.held in
    omega (arith, most, count)

-- ---- one table that is lent

same_stamps : (a b : Stamps) → a.held ≡ b.held → a.peak ≡ b.peak → a ≡ b
same_stamps a b h p = ap (λ m. let t : Stamps = record { held = m; peak = a.peak } in t) h
    ∙ ap (λ n. let t : Stamps = record { held = b.held; peak = n } in t) p

lent : (items : List Stamps) (d : ℕ) (t : Stamps) → d < length items → t ≡ slice_index_or items d t → t ≡ table_at items d
lent [] d t h e = absurd (omega arith)
lent (x ∷ xs) zero t h e = e
lent (x ∷ xs) (suc d) t h e = lent xs d t (omega arith) e

set_itself : (items : List Stamps) (d : ℕ) → slice_set items d (table_at items d) ≡ items
set_itself [] d = refl
set_itself (x ∷ xs) zero = refl
set_itself (x ∷ xs) (suc d) = ap (λ l. x ∷ l) (set_itself xs d)

-- the table `old` of decomposition d is lent, where the tables are seen as `ts`
module _ (items ts : List Stamps) (view : items ≡ ts) (d : ℕ) (old : Stamps) (within : d < length ts)
    (at : old ≡ slice_index_or items d old) where
  inside : d < length items
  inside = subst (λ l. d < length l) (sym view) within

  is : old ≡ table_at items d
  is = lent items d old inside at

  seen : old ≡ table_at ts d
  seen = is ∙ ap (λ l. table_at l d) view

  pub has_lent : AreTables items → HasElements old
  has_lent h = subst HasElements (sym is) (table_has items d h)

  pub cleared_in : (mask : ℕ) (new : Stamps) → ((q : ℕ) → fin.get new.held q ≡ cleared mask (fin.get old.held q))
      → (c q : ℕ) → entry_at (slice_set items d new) c q ≡ (if c == d then cleared mask (entry_at ts c q) else entry_at ts c q)
  cleared_in mask new h c q =
      elim (eqb_tells c d) [
        | inl same ↦
            ap (λ k. entry_at (slice_set items d new) k q) same.1 ∙ ap (λ (t : Stamps). fin.get t.held q) (table_same items d new inside)
            ∙ h q
            ∙ ap (λ (t : Stamps). cleared mask (fin.get t.held q)) seen
            ∙ ap (λ k. cleared mask (entry_at ts k q)) (sym same.1)
            ∙ sym (ap (λ b. if b then cleared mask (entry_at ts c q) else entry_at ts c q) same.0)
        | inr other ↦
            ap (λ (t : Stamps). fin.get t.held q) (table_other items d c new other.1) ∙ ap (λ l. entry_at l c q) view
            ∙ sym (ap (λ b. if b then cleared mask (entry_at ts c q) else entry_at ts c q) other.0)
      ]

  pub dropped_is : (new : Stamps) → new.held ≡ fin.empty → new.peak ≡ old.peak → slice_set items d new ≡ dropped_in ts d
  dropped_is new none peak =
      ap (λ l. slice_set l d new) view ∙ ap (slice_set ts d) (same_stamps new _ none (peak ∙ ap (λ (t : Stamps). t.peak) seen))

-- and element e is entered into it
module _ {E : Type 0} (items ts : List Stamps) (view : items ≡ ts) (d e : ℕ) (place : Place) (stamp : ℕ) (old new : Stamps)
    (within : d < length ts) (at : old ≡ slice_index_or items d old) where
  pub has_either : (r : Result ℕ E) → AreTables items → IsExtent e
      → IfOk r (λ slot. new.held ≡ fin.insert old.held e (entered (fin.get old.held e) place stamp slot)) → OnErr r (new ≡ old)
      → HasElements new
  has_either (Ok slot) all extent h none = has_entered old new e _ (has_lent items ts view d old within at all) extent h
  has_either (Err x) all extent none same = subst HasElements (sym same) (has_lent items ts view d old within at all)

  pub entered_is : (r : Result ℕ E) → IfOk r (λ slot. new.held ≡ fin.insert old.held e (entered (fin.get old.held e) place stamp slot))
      → OnOk r (new.peak ≡ max old.peak (fin.len new.held)) → IfOk r (λ slot. slice_set items d new ≡ entered_in ts d e place stamp slot)
  entered_is (Err x) h p = tt
  entered_is (Ok slot) h p =
      let held : new.held ≡ fin.insert (table_at ts d).held e (entered (entry_at ts d e) place stamp slot) =
      h ∙ ap (λ (t : Stamps). fin.insert t.held e (entered (fin.get t.held e) place stamp slot))
      (seen items ts view d old within at) in
      let peak : new.peak ≡ max (table_at ts d).peak
      (fin.len (fin.insert (table_at ts d).held e (entered (entry_at ts d e) place stamp slot))) =
      p ∙ ap (λ (t : Stamps). max t.peak (fin.len new.held)) (seen items ts view d old within at)
      ∙ ap (λ m. max (table_at ts d).peak (fin.len m)) held in
      ap (λ l. slice_set l d new) view ∙ ap (slice_set ts d) (same_stamps new _ held peak)

  pub slot_is : (r : Result ℕ E) → IfOk r (λ slot. MatchOption (fin.get old.held e) (IsFree old.held slot) (λ h. slot ≡ h.slot))
      → IfOk r (λ slot. MatchOption (entry_at ts d e) (IsFree (table_at ts d).held slot) (λ h. slot ≡ h.slot))
  slot_is r h = subst (λ (t : Stamps). IfOk r (λ slot. MatchOption (fin.get t.held e) (IsFree t.held slot) (λ k. slot ≡ k.slot)))
      (seen items ts view d old within at) h

  pub kept_err : (r : Result ℕ E) → OnErr r (new ≡ old) → OnErr r (slice_set items d new ≡ ts)
  kept_err (Ok slot) h = tt
  kept_err (Err x) h = ap (slice_set items d) (h ∙ is items ts view d old within at) ∙ set_itself items d ∙ view

pub has_none : (t : Stamps) → t.held ≡ fin.empty → HasElements t
has_none t none e k found = absurd (none-some k (sym (fin.get-empty nat_cmp e) ∙ ap (λ m. fin.get m e) (sym none) ∙ found))

pub tables_none : (n : ℕ) → AreTables (replicate n no_table)
tables_none zero = tt
tables_none (suc n) = (has_none no_table refl, tables_none n)
