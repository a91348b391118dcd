-- How the table's changes are seen: as those of a map in the order of the elements.
use Rattle.std.proofs.Common.{◌≡◌, ℕ, suc, ◌+◌, Bool, true, false, cond, List, [], ◌∷◌, length, Some, None, refl, ap, sym, subst, ◌∙◌}
use Rattle.std.proofs.Common.{arith}
use Rattle.std.specs.Prelude.{nat_eq, if◌then◌else◌}
use Rattle.std.specs.List.{AllByRecursion, IsDistinct}
use Rattle.std.specs.Map.{lookup, keys_of, update}
use Rattle.std.specs.Ordering.{nat_cmp, eq_by_cmp}
use Rattle.std.specs.Cmp.{unsigned_tied, nat_cmp_total, nat_eq_equiv}
use Rattle.std.specs.FinMap as fin
use Rattle.std.proofs.lemmas.Map.Keys.{IsDistinct-head, IsDistinct-tail}
use Rattle.chaos_hash.specs.declared.held.Held.{Held}
use Rattle.chaos_hash.specs.Stamps.{cleared, cleared_list, less, lives}

pub find-lookup : {X : Type 0} (es : List (ℕ × X)) (q : ℕ) → fin.find nat_cmp q es ≡ lookup (nat_eq q) es
find-lookup [] q = refl
find-lookup (e ∷ es) q = ap (λ b. cond b (Some e.1) (fin.find nat_cmp q es)) (unsigned_tied q e.0)
    ∙ ap (cond (nat_eq q e.0) (Some e.1)) (find-lookup es q)

-- the map in order answers as the table
pub seen : {X : Type 0} (es : List (ℕ × X)) (q : ℕ) → fin.get (fin.from_entries {R = nat_cmp} es) q ≡ lookup (nat_eq q) es
seen es q = fin.get-from_entries nat_cmp_total es q ∙ find-lookup es q

pub seen-put : (es more : List (ℕ × Held)) (k : ℕ) (v : Held)
    → ((q : ℕ) → lookup (nat_eq q) more ≡ update nat_eq (λ x. lookup (nat_eq x) es) k (Some v) q)
    → fin.from_entries {R = nat_cmp} more ≡ fin.insert (fin.from_entries es) k v
seen-put es more k v is = fin.same_map nat_cmp_total fin.nat_cmp-IsAntisymmetric _ _ (λ q.
    seen more q ∙ is q ∙ ap (λ b. cond b (Some v) (lookup (nat_eq q) es)) (nat_eq_equiv.symm k q ∙ sym (unsigned_tied q k))
    ∙ ap (cond (eq_by_cmp nat_cmp q k) (Some v)) (sym (seen es q)) ∙ sym (fin.get-insert nat_cmp_total (fin.from_entries es) k v q))

none_further : {X : Type 0} (q x : ℕ) (es : List (ℕ × X)) → nat_eq q x ≡ true → AllByRecursion (λ y. nat_eq x y ≡ false) (keys_of es)
    → lookup (nat_eq q) es ≡ None
none_further q x [] e h = refl
none_further q x (f ∷ es) e h = ap (λ b. cond b (Some f.1) (lookup (nat_eq q) es)) (nat_eq_equiv.congr q x f.0 e ∙ h.0)
    ∙ none_further q x es e h.1

pub lookup-cleared : (stamps q : ℕ) (es : List (ℕ × Held)) → IsDistinct nat_eq (keys_of es) → lookup (nat_eq q) (cleared_list stamps es)
    ≡ cleared stamps (lookup (nat_eq q) es)
lookup-cleared stamps q [] h = refl
lookup-cleared stamps q (e ∷ es) h =
    let rest = lookup-cleared stamps q es (IsDistinct-tail nat_eq e.0 (keys_of es) h) in
    let left = less stamps e.1 in
    elim (nat_eq q e.0) as (λ b. nat_eq q e.0 ≡ b
    → lookup (nat_eq q) (cond (lives left) ((e.0, left) ∷ cleared_list stamps es) (cleared_list stamps es)) ≡ cleared stamps
    (cond b (Some e.1) (lookup (nat_eq q) es))) [
      | true ↦ λ here.
          let none : lookup (nat_eq q) (cleared_list stamps es) ≡ None = rest
          ∙ ap (cleared stamps) (none_further q e.0 es here (IsDistinct-head nat_eq e.0 (keys_of es) h)) in
          elim (lives left) as (λ l. lookup (nat_eq q) (cond l ((e.0, left) ∷ cleared_list stamps es) (cleared_list stamps es))
          ≡ (if l then Some left else None)) [
            | true ↦ ap (λ b. cond b (Some left) (lookup (nat_eq q) (cleared_list stamps es))) here
            | false ↦ none
          ]
      | false ↦ λ off.
          elim (lives left) as (λ l. lookup (nat_eq q) (cond l ((e.0, left) ∷ cleared_list stamps es) (cleared_list stamps es))
          ≡ cleared stamps (lookup (nat_eq q) es)) [
            | true ↦ ap (λ b. cond b (Some left) (lookup (nat_eq q) (cleared_list stamps es))) off ∙ rest
            | false ↦ rest
          ]
    ] refl

pub seen-cleared : (stamps : ℕ) (es : List (ℕ × Held)) → IsDistinct nat_eq (keys_of es) → (q : ℕ)
    → fin.get (fin.from_entries {R = nat_cmp} (cleared_list stamps es)) q ≡ cleared stamps (fin.get (fin.from_entries {R = nat_cmp} es) q)
seen-cleared stamps es h q = seen (cleared_list stamps es) q ∙ lookup-cleared stamps q es h ∙ ap (cleared stamps) (sym (seen es q))

more_by : (b : Bool) (n : ℕ) → b ≡ false → cond b n (n + 1) ≡ suc n
more_by true n e = absurd (subst (λ b. cond b (Unit {0}) ⊥) e tt)
more_by false n e = omega arith

none_of : (k : ℕ) (es : List (ℕ × Held)) → AllByRecursion (λ y. nat_eq k y ≡ false) (keys_of es) → lookup (nat_eq k) es ≡ None
none_of k es h = none_further k k es (nat_eq_equiv.refl k) h

-- and has as many entries
pub seen-len : (es : List (ℕ × Held)) → IsDistinct nat_eq (keys_of es) → fin.len (fin.from_entries {R = nat_cmp} es) ≡ length es
seen-len [] h = fin.len-empty nat_cmp Held
seen-len (e ∷ es) h =
    let none : fin.get (fin.from_entries {R = nat_cmp} es) e.0 ≡ None = seen es e.0
    ∙ none_of e.0 es (IsDistinct-head nat_eq e.0 (keys_of es) h) in
    fin.len-insert nat_cmp_total (fin.from_entries es) e.0 e.1
    ∙ more_by (fin.contains_key (fin.from_entries {R = nat_cmp} es) e.0) (fin.len (fin.from_entries {R = nat_cmp} es))
    (ap (λ o. elim o as (λ _. Bool) [ None ↦ false | Some _ ↦ true ]) none)
    ∙ ap suc (seen-len es (IsDistinct-tail nat_eq e.0 (keys_of es) h))
