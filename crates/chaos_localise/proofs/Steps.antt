-- One item that is entered.
use Rattle.std.proofs.Common.{◌≡◌, ℕ, ◌+◌, ◌<◌, ◌≤◌, Bool, true, false, cond, not, ◌&&◌, List, [], ◌∷◌, ◌++◌, length, take, get_or, Option}
use Rattle.std.proofs.Common.{Some, None, refl, ap, sym, subst, ◌∙◌, arith, true≢false}
use Rattle.std.specs.Prelude.{nat_eq, ◌≢◌, if◌then◌else◌, MatchOption, Result, OnErr}
use Rattle.std.proofs.Common.{Ok, Err}
use Rattle.std.specs.List.{AllZip}
use Rattle.std.specs.Cmp.{nat_cmp_total, unsigned_tied}
use Rattle.std.specs.FinMap as fin
use Rattle.std.proofs.lemmas.Bool.Decides.{eqb_tells}
use Rattle.std.proofs.Common.{inl, inr}
use Rattle.std.proofs.lemmas.List.{take_more}
use Rattle.fd_words.specs.declared.Place.{Place}
use Rattle.chaos_hash.specs.declared.held.Held.{Held}
use Rattle.chaos_hash.specs.Stamps.{Entries, entered}
use Rattle.chaos_localise.specs.declared.entered.Entered.{Entered}
use Rattle.chaos_sched.specs.declared.local_ref.LocalRef.{LocalRef}
use Rattle.chaos_sched.specs.declared.local_ref.LocalRef.TheVariants.{Here, Ghost}
use Rattle.chaos_localise.specs.Local.{bare, bare_entered, after_items, IsLocal, KeepsSlots}

bare-entered : (o : Option Held) (place : Place) (stamp slot : ℕ) → bare (Some (entered o place stamp slot)) ≡ bare_entered (bare o) place
    stamp
bare-entered None place stamp slot = refl
bare-entered (Some h) place stamp slot = refl

other_node : (a b : ℕ) → a ≢ b → nat_eq a b ≡ false
other_node a b h = elim (eqb_tells a b) [ inl same ↦ absurd (h same.1) | inr other ↦ other.0 ]

module _ (m : Entries) (element : ℕ) (place : Place) (stamp slot : ℕ) where
  abbrev new : Held
  new = entered (fin.get m element) place stamp slot

  got : (q : ℕ) → fin.get (fin.insert m element new) q ≡ cond (nat_eq q element) (Some new) (fin.get m q)
  got q = fin.get-insert nat_cmp_total m element new q ∙ ap (λ b. cond b (Some new) (fin.get m q)) (unsigned_tied q element)

  pub bare-insert : (owner me q : ℕ) → owner ≢ me → bare (fin.get (fin.insert m element new) q)
      ≡ (if not (nat_eq owner me) && nat_eq q element then bare_entered (bare (fin.get m q)) place stamp else bare (fin.get m q))
  bare-insert owner me q off =
      ap bare (got q)
      ∙ elim (nat_eq q element) as (λ b. nat_eq q element ≡ b → bare (cond b (Some new) (fin.get m q))
      ≡ (if b then bare_entered (bare (fin.get m q)) place stamp else bare (fin.get m q))) [
        | true ↦ λ e. bare-entered (fin.get m element) place stamp slot ∙ ap (λ k. bare_entered (bare (fin.get m k)) place stamp)
            (sym (is q e))
        | false ↦ λ _. refl
      ] refl
      ∙ ap (λ b. if not b && nat_eq q element then bare_entered (bare (fin.get m q)) place stamp else bare (fin.get m q))
      (sym (other_node owner me off))
    where
      is : (q : ℕ) {k : ℕ} → nat_eq q k ≡ true → q ≡ k
      is q {k = k} e = elim (eqb_tells q k) [ inl same ↦ same.1 | inr other ↦ absurd (true≢false (sym e ∙ other.0)) ]

  own_slot : (o : Option Held) (h : Held) → o ≡ Some h → (entered o place stamp slot).slot ≡ h.slot
  own_slot None h e = absurd (subst (λ x. elim x as (λ _. Type 0) [ None ↦ Unit {0} | Some y ↦ ⊥ ]) e tt)
  own_slot (Some k) h e = ap (λ x. elim x as (λ _. ℕ) [ None ↦ 0 | Some y ↦ y.slot ]) e

  pub keeps-insert : KeepsSlots m (fin.insert m element new)
  keeps-insert q h found =
      elim (eqb_tells q element) [
        | inl same ↦ (
          new,
          got q ∙ ap (λ b. cond b (Some new) (fin.get m q)) same.0,
          own_slot (fin.get m element) h
              (ap (fin.get m) (sym same.1) ∙ found),
        )
        | inr apart ↦ (h, got q ∙ ap (λ b. cond b (Some new) (fin.get m q)) apart.0 ∙ found, refl)
      ]

  told_slot : (o : Option Held) (P : ℕ → Type 0) → MatchOption o (P slot) (λ h. slot ≡ h.slot) → (entered o place stamp slot).slot ≡ slot
  told_slot None P h = refl
  told_slot (Some k) P h = sym h

  pub local-insert : (P : ℕ → Type 0) → MatchOption (fin.get m element) (P slot) (λ h. slot ≡ h.slot) → (h : Held)
      × (fin.get (fin.insert m element new) element ≡ Some h) × (h.slot ≡ slot)
  local-insert P told = (
    new,
    got element ∙ ap (λ b. cond b (Some new) (fin.get m element)) (itself element),
    told_slot (fin.get m element) P told,
  )
    where
      itself : (k : ℕ) → nat_eq k k ≡ true
      itself k = elim (eqb_tells k k) [ inl same ↦ same.0 | inr other ↦ absurd (other.1 refl) ]

  one_at_most : (b : Bool) (n : ℕ) → cond b n (n + 1) ≤ n + 1
  one_at_most true n = omega arith
  one_at_most false n = omega arith

  pub few-insert : fin.len (fin.insert m element new) ≤ fin.len m + 1
  few-insert = subst (λ n. n ≤ fin.len m + 1) (sym (fin.len-insert nat_cmp_total m element new)) (one_at_most (fin.contains_key m element)
      (fin.len m))

-- ---- the loop

after_items-append : (me q : ℕ) (xs ys : List Entered) (b : Option (Place × ℕ)) → after_items me q (xs ++ ys) b ≡ after_items me q ys
    (after_items me q xs b)
after_items-append me q [] ys b = refl
after_items-append me q (x ∷ xs) ys b = after_items-append me q xs ys (after_items me q (x ∷ []) b)

pub seen-more : (me q : ℕ) (list : List Entered) (i : ℕ) (d : Entered) (old now later : Option (Place × ℕ)) → i < length list
    → now ≡ after_items me q (take i list) old → later ≡ after_items me q (get_or list i d ∷ []) now
    → later ≡ after_items me q (take (i + 1) list) old
seen-more me q list i d old now later lt before step =
    step ∙ ap (after_items me q (get_or list i d ∷ [])) before ∙ sym (after_items-append me q (take i list) (get_or list i d ∷ []) old)
    ∙ ap (λ xs. after_items me q xs old) (sym (take_more list i d lt))

pub any_err : {X E P : Type 0} (r : Result X E) → P → OnErr r P
any_err (Ok x) p = tt
any_err (Err e) p = p

pub keeps-more : (l m n : Entries) → KeepsSlots l m → KeepsSlots m n → KeepsSlots l n
keeps-more l m n f g q h found = let k = f q h found in let j = g q k.0 k.1 in (j.0, j.1, j.2 ∙ k.2)

pub local-kept : (me : ℕ) (m n : Entries) → KeepsSlots m n → (i : Entered) (r : LocalRef) → IsLocal me m i r → IsLocal me n i r
local-kept me m n keeps i (Here local) h = h
local-kept me m n keeps i (Ghost slot) h = let k = keeps i.element h.1.0 h.1.1 in (h.0, (k.0, k.1, k.2 ∙ h.1.2))

zip-weaker : {A B : Type 0} (P Q : A → B → Type 0) → ((a : A) (b : B) → P a b → Q a b) → (xs : List A) (ys : List B) → AllZip P xs ys
    → AllZip Q xs ys
zip-weaker P Q f [] [] h = tt
zip-weaker P Q f [] (y ∷ ys) h = h
zip-weaker P Q f (x ∷ xs) [] h = h
zip-weaker P Q f (x ∷ xs) (y ∷ ys) h = (f x y h.0, zip-weaker P Q f xs ys h.1)

zip-push : {A B : Type 0} (P : A → B → Type 0) (xs : List A) (ys : List B) (x : A) (y : B) → AllZip P xs ys → P x y
    → AllZip P (xs ++ x ∷ []) (ys ++ y ∷ [])
zip-push P [] [] x y h p = (p, tt)
zip-push P [] (z ∷ ys) x y h p = absurd h
zip-push P (w ∷ xs) [] x y h p = absurd h
zip-push P (w ∷ xs) (z ∷ ys) x y h p = (h.0, zip-push P xs ys x y h.1 p)

pub local-more : (me : ℕ) (m n : Entries) (list : List Entered) (i : ℕ) (d : Entered) (refs more : List LocalRef) (r : LocalRef)
    → i < length list → KeepsSlots m n
    → AllZip (IsLocal me m) (take i list) refs → IsLocal me n (get_or list i d) r → more ≡ refs ++ r ∷ []
    → AllZip (IsLocal me n) (take (i + 1) list) more
local-more me m n list i d refs more r lt keeps before here pushed =
    let grown = zip-push (IsLocal me n) (take i list) refs (get_or list i d) r (zip-weaker (IsLocal me m) (IsLocal me n)
    (local-kept me m n keeps) (take i list) refs before) here in
    subst (λ ys. AllZip (IsLocal me n) (take (i + 1) list) ys) (sym pushed) (subst (λ xs. AllZip (IsLocal me n) xs (refs ++ r ∷ []))
    (sym (take_more list i d lt)) grown)
