-- One reference that is entered, and several.
use Rattle.fd_program.specs.AmongLaws.{zip_weaker}
use Rattle.std.proofs.Common.{◌≡◌, ℕ, ◌+◌, ◌<◌, cond, List, [], ◌∷◌, ◌++◌, length, take, drop, get_or, take-append-drop, Option, Some, None}
use Rattle.std.proofs.Common.{refl, ap, sym, subst, ◌∙◌, arith, inl, inr, ◌⊎◌, nat_eq}
use Rattle.std.specs.Prelude.{◌≢◌, MatchOption}
use Rattle.std.specs.Int.{w128, bit_at}
use Rattle.std.specs.List.{AllZip}
use Rattle.std.specs.Cmp.{nat_cmp_total, unsigned_tied}
use Rattle.std.specs.FinMap as fin
use Rattle.std.proofs.lemmas.Bool.Decides.{eqb_tells}
use Rattle.std.proofs.lemmas.List.{take_more}
use Rattle.std.proofs.lemmas.Nat.Bits.{bit_at-zero, bit_at-lt, bit_at_or, bit_at_set_same, bit_at_set_other}
use Rattle.std.proofs.lemmas.Option.{same_Some}
use Rattle.fd_words.specs.declared.place.Place.{Place}
use Rattle.chaos_hash.specs.Stamps.{Stamps, entered, mask_of, with_stamps}
use Rattle.chaos_hash.specs.declared.held.Held.{Held}
use Rattle.fd_program.specs.Met.{decomposition_met, stands_met}
use Rattle.plan_tables.specs.Tables.{table_at, entry_at, entered_in, HasStamp}
use Rattle.inspect_uses.specs.Accepted.{IsAccepted}
use Rattle.inspect_uses.specs.Standing.{standing}
use Rattle.inspect_enter.specs.Placed.{MayBeStamped, Reaches, IsGrown, HaveGrown, IsBy, Comes, AllCome, IsFound}
use Rattle.inspect_enter.specs.declared.placed.Placed.{Placed}
use Rattle.node_tables.proofs.Sets.{table_same, table_other}
use Rattle.chaos_sched.specs.declared.local_ref.LocalRef.{LocalRef}
use Rattle.chaos_sched.specs.declared.local_ref.LocalRef.TheVariants.{Here, Ghost}
use Rattle.fd_program.specs.ListLaws.{among_left, among_right}
use Rattle.fd_program.specs.declared.loop_facts.LoopFacts.{LoopFacts}

-- ---- stamps of a mask

one_of : (mask stamp t : ℕ) → stamp < 128 → bit_at (mask_of stamp) t ≡ 1 → stamp ≡ t
one_of mask stamp t small has =
    elim (eqb_tells t stamp) [
      | inl same ↦ sym same.1
      | inr other ↦
          let none = bit_at_set_other w128 0 stamp small t other.1 in
          let parts = bit_at_or 0 (mask_of stamp) t in
          let zero = bit_at-zero t in
          absurd (omega (arith, none, parts, zero, has))
    ]

itself : (stamp : ℕ) → stamp < 128 → bit_at (mask_of stamp) stamp ≡ 1
itself stamp small =
    let one = bit_at_set_same w128 0 stamp small in
    let parts = bit_at_or 0 (mask_of stamp) stamp in
    let zero = bit_at-zero stamp in
    omega (arith, one, parts, zero)

still_has : (mask other t : ℕ) → bit_at mask t ≡ 1 → bit_at (with_stamps mask (mask_of other)) t ≡ 1
still_has mask other t has =
    let parts = bit_at_or mask (mask_of other) t in
    let lt = bit_at-lt (mask_of other) t in
    omega (arith, parts, lt, has)

either_has : (a b t : ℕ) → bit_at (with_stamps a b) t ≡ 1 → (bit_at a t ≡ 1) ⊎ (bit_at b t ≡ 1)
either_has a b t has =
    let parts = bit_at_or a b t in
    let low = bit_at-lt a t in
    let lower = bit_at-lt b t in
    elim (eqb_tells (bit_at a t) 1) [
      | inl one ↦ inl one.1
      | inr other ↦ let less = other.1 in inr (omega (arith, parts, low, lower, less, has))
    ]

-- ---- one that is entered

module _ (ts : List Stamps) (d e : ℕ) (place : Place) (stamp slot : ℕ) (within : d < length ts) where
  abbrev new : Held
  new = entered (entry_at ts d e) place stamp slot

  abbrev after : List Stamps
  after = entered_in ts d e place stamp slot

  pub entry_after : (c q : ℕ) → ((c ≡ d) × (q ≡ e) × (entry_at after c q ≡ Some new)) ⊎ (entry_at after c q ≡ entry_at ts c q)
  entry_after c q =
      elim (eqb_tells c d) [
        | inl same ↦ elim (eqb_tells q e) [
          | inl also ↦ inl (same.1, also.1, at c same.1 ∙ ap (λ b. cond b (Some new) (entry_at ts d q)) also.0)
          | inr other ↦ inr (at c same.1 ∙ ap (λ b. cond b (Some new) (entry_at ts d q)) other.0 ∙ ap (λ k. entry_at ts k q) (sym same.1))
        ]
        | inr other ↦ inr (ap (λ (t : Stamps). fin.get t.held q) (table_other ts d c _ other.1))
      ]
    where
      at : (c : ℕ) → c ≡ d → entry_at after c q ≡ cond (nat_eq q e) (Some new) (entry_at ts d q)
      at c same =
          ap (λ k. entry_at after k q) same ∙ ap (λ (t : Stamps). fin.get t.held q) (table_same ts d _ within)
          ∙ fin.get-insert nat_cmp_total (table_at ts d).held e new q ∙ ap (λ b. cond b (Some new) (entry_at ts d q)) (unsigned_tied q e)

  grown : (o : Option Held) (h : Held) → o ≡ Some h → IsGrown h (Some (entered o place stamp slot))
  grown o h found =
      subst (λ k. IsGrown h (Some (entered k place stamp slot))) (sym found)
      (record {
        held = entered (Some h) place stamp slot;
        is = refl;
        place = refl;
        slot = refl;
        stamps = λ t has. still_has h.mask stamp t
            has;
      })

  pub all_grown : HaveGrown ts after
  all_grown c q h found = elim (entry_after c q) [
    | inl (c_is, q_is, now) ↦ subst (IsGrown h) (sym now) (grown (entry_at ts d e) h (sym (ap (λ k. entry_at ts k e) c_is)
        ∙ sym (ap (entry_at ts c) q_is) ∙ found))
    | inr same ↦ record { held = h; is = same ∙ found; place = refl; slot = refl; stamps = λ t has. has }
  ]

  slot_told : (o : Option Held) (P : ℕ → Type 0) → MatchOption o (P slot) (λ h. slot ≡ h.slot) → (entered o place stamp slot).slot ≡ slot
  slot_told None P h = refl
  slot_told (Some k) P h = sym h

  has_own : (o : Option Held) → stamp < 128 → bit_at (entered o place stamp slot).mask stamp ≡ 1
  has_own None small = itself stamp small
  has_own (Some k) small = bit_at_set_same w128 k.mask stamp small

  pub entry_found : (P : ℕ → Type 0) → stamp < 128 → MatchOption (entry_at ts d e) (P slot) (λ h. slot ≡ h.slot)
      → (h : Held) × (entry_at after d e ≡ Some h) × (h.slot ≡ slot) × (bit_at h.mask stamp ≡ 1)
  entry_found P small told = (new, now, slot_told (entry_at ts d e) P told, has_own (entry_at ts d e) small)
    where
      now : entry_at after d e ≡ Some new
      now = elim (entry_after d e) [
        | inl found ↦ found.2
        | inr same ↦ elim (eqb_tells e e) [
          | inl same ↦ ap (λ (t : Stamps). fin.get t.held e) (table_same ts d _ within)
              ∙ fin.get-insert nat_cmp_total (table_at ts d).held e new e ∙ ap (λ b. cond b (Some new) (entry_at ts d e))
              (unsigned_tied e e ∙ same.0)
          | inr other ↦ absurd (other.1 refl)
        ]
      ]

module _ (f : LoopFacts) (me : ℕ) where
  comes_itself : (d e : ℕ) (o : Option Held) (xs : List Placed) (h : Held) → o ≡ Some h → Comes f me d e o xs h
  comes_itself d e o xs h found = record {
    place = inl (h, found, refl);
    stamps = λ t has. inl (subst (λ k. HasStamp k t) (sym found) has);
  }

  comes_new : (d e : ℕ) (x : Placed) → Reaches f me d e x → x.used.stamp < 128 → (o : Option Held) (slot : ℕ)
      → Comes f me d e o (x ∷ []) (entered o x.place x.used.stamp slot)
  comes_new d e x reaches small None slot = record {
    place = inr (record { by = x; among = inl refl; reaches = reaches; has = refl });
    stamps = λ t has. inr (record { by = x; among = inl refl; reaches = reaches; has = one_of 0 x.used.stamp t small has });
  }
  comes_new d e x reaches small (Some k) slot = record {
    place = inl (k, refl, refl);
    stamps = λ t has. elim (either_has k.mask (mask_of x.used.stamp) t has) [
      | inl old ↦ inl old
      | inr one ↦ inr (record { by = x; among = inl refl; reaches = reaches; has = one_of 0 x.used.stamp t small one })
    ];
  }

  pub all_come : (ts : List Stamps) (x : Placed) (slot : ℕ) → decomposition_met f x.used < length ts → x.place.owner ≢ me
      → x.used.stamp < 128
      → AllCome f me ts (x ∷ []) (entered_in ts (decomposition_met f x.used) (stands_met f x.used) x.place x.used.stamp slot)
  all_come ts x slot within other small c q h found =
      elim (entry_after ts (decomposition_met f x.used) (stands_met f x.used) x.place x.used.stamp slot within c q) [
        | inl (c_is, q_is, now) ↦
            let is : entered (entry_at ts (decomposition_met f x.used) (stands_met f x.used)) x.place x.used.stamp slot ≡ h =
            same_Some _ _ (sym now ∙ found) in
            let here = comes_new (decomposition_met f x.used) (stands_met f x.used) x
            (record { other = other; decomposition = refl; element = refl }) small
            (entry_at ts (decomposition_met f x.used) (stands_met f x.used)) slot in
            subst (λ k. Comes f me c q (entry_at ts c q) (x ∷ []) k) is
            (subst (λ n. Comes f me n q (entry_at ts n q) (x ∷ [])
            (entered (entry_at ts (decomposition_met f x.used) (stands_met f x.used)) x.place x.used.stamp slot)) (sym c_is)
            (subst (λ n. Comes f me (decomposition_met f x.used) n (entry_at ts (decomposition_met f x.used) n) (x ∷ [])
            (entered (entry_at ts (decomposition_met f x.used) (stands_met f x.used)) x.place x.used.stamp slot)) (sym q_is) here))
        | inr same ↦ comes_itself c q (entry_at ts c q) (x ∷ []) h (sym same ∙ found)
      ]

  pub come_none : (ts : List Stamps) (xs : List Placed) → AllCome f me ts xs ts
  come_none ts xs c q h found = comes_itself c q (entry_at ts c q) xs h found

  by_left : (d e : ℕ) (xs ys : List Placed) (P : Placed → Type 0) → IsBy f me d e xs P → IsBy f me d e (xs ++ ys) P
  by_left d e xs ys P b = record { by = b.by; among = among_left b.by xs ys b.among; reaches = b.reaches; has = b.has }

  by_right : (d e : ℕ) (xs ys : List Placed) (P : Placed → Type 0) → IsBy f me d e ys P → IsBy f me d e (xs ++ ys) P
  by_right d e xs ys P b = record { by = b.by; among = among_right b.by xs ys b.among; reaches = b.reaches; has = b.has }

  stamps_of_entry : (d e : ℕ) (old mid : Option Held) (xs : List Placed) (t : ℕ) → ((h : Held) → mid ≡ Some h → Comes f me d e old xs h)
      → HasStamp mid t
      → HasStamp old t ⊎ IsBy f me d e xs (λ x. x.used.stamp ≡ t)
  stamps_of_entry d e old None xs t first has = absurd has
  stamps_of_entry d e old (Some k) xs t first has = (first k refl).stamps t has

  pub come_further : (a b c : List Stamps) (xs ys : List Placed) → AllCome f me a xs b → AllCome f me b ys c → AllCome f me a (xs ++ ys) c
  come_further a b c xs ys first second d e h found =
      let here = second d e h found in
      record {
        place = elim here.place [
          | inl (k, there, same) ↦ elim (first d e k there).place [
            | inl (j, old, also) ↦ inl (j, old, same ∙ also)
            | inr by ↦ inr (by_left d e xs ys (λ x. h.place ≡ x.place) (record {
              by = by.by;
              among = by.among;
              reaches = by.reaches;
              has = same ∙ by.has;
            }))
          ]
          | inr by ↦ inr (by_right d e xs ys (λ x. h.place ≡ x.place) by)
        ];
        stamps = λ t has. elim (here.stamps t has) [
          | inl mid ↦ elim (stamps_of_entry d e (entry_at a d e) (entry_at b d e) xs t (first d e) mid) [
            | inl old ↦ inl old
            | inr by ↦ inr (by_left d e xs ys (λ x. x.used.stamp ≡ t) by)
          ]
          | inr by ↦ inr (by_right d e xs ys (λ x. x.used.stamp ≡ t) by)
        ];
      }

  pub grown_further : (a b c : List Stamps) → HaveGrown a b → HaveGrown b c → HaveGrown a c
  grown_further a b c first second d e h found =
      let k = first d e h found in
      let j = second d e k.held k.is in
      record { held = j.held; is = j.is; place = j.place ∙ k.place; slot = j.slot ∙ k.slot; stamps = λ t has. j.stamps t (k.stamps t has) }

  pub grown_none : (a : List Stamps) → HaveGrown a a
  grown_none a d e h found = record { held = h; is = found; place = refl; slot = refl; stamps = λ t has. has }

  found_further : (b c : List Stamps) → HaveGrown b c → (x : Placed) (r : LocalRef) → IsFound f me b x r → IsFound f me c x r
  found_further b c grow x (Here local) h = h
  found_further b c grow x (Ghost slot) (other, (h, is, at, has)) =
      let k = grow (decomposition_met f x.used) (stands_met f x.used) h is in
      (other, (k.held, k.is, k.slot ∙ at, k.stamps x.used.stamp has))

  zip_push : {A B : Type 0} (P : A → B → Type 0) (xs : List A) (ys : List B) (x : A) (y : B) → AllZip P xs ys → P x y
      → AllZip P (xs ++ x ∷ []) (ys ++ y ∷ [])
  zip_push P [] [] x y h p = (p, tt)
  zip_push P [] (z ∷ ys) x y h p = absurd h
  zip_push P (w ∷ xs) [] x y h p = absurd h
  zip_push P (w ∷ xs) (z ∷ ys) x y h p = (h.0, zip_push P xs ys x y h.1 p)

  pub found_more : (b c : List Stamps) (xs : List Placed) (k : ℕ) (d : Placed) (refs more : List LocalRef) (r : LocalRef) → k < length xs
      → HaveGrown b c
      → AllZip (IsFound f me b) (take k xs) refs → IsFound f me c (get_or xs k d) r → more ≡ refs ++ r ∷ []
      → AllZip (IsFound f me c) (take (k + 1) xs) more
  found_more b c xs k d refs more r lt grow before here pushed =
      subst (λ ys. AllZip (IsFound f me c) (take (k + 1) xs) ys) (sym pushed)
      (subst (λ ys. AllZip (IsFound f me c) ys (refs ++ r ∷ [])) (sym (take_more xs k d lt))
      (zip_push (IsFound f me c) (take k xs) refs (get_or xs k d) r (zip_weaker (IsFound f me b) (IsFound f me c) (found_further b c grow)
      (take k xs) refs before) here))

  pub come_more : (a b c : List Stamps) (xs : List Placed) (k : ℕ) (d : Placed) → k < length xs → AllCome f me a (take k xs) b
      → AllCome f me b (get_or xs k d ∷ []) c
      → AllCome f me a (take (k + 1) xs) c
  come_more a b c xs k d lt first second =
      subst (λ ys. AllCome f me a ys c) (sym (take_more xs k d lt)) (come_further a b c (take k xs) (get_or xs k d ∷ []) first second)

  pub come_upto : (a b : List Stamps) (xs : List Placed) (k : ℕ) → AllCome f me a (take k xs) b → AllCome f me a xs b
  come_upto a b xs k first = subst (λ ys. AllCome f me a ys b) (take-append-drop k xs) (come_further a b b (take k xs) (drop k xs) first
      (come_none b (drop k xs)))

  pub come_so_far : (a b c : List Stamps) (xs : List Placed) (k : ℕ) (d : Placed) → k < length xs → AllCome f me a (take k xs) b
      → AllCome f me b (get_or xs k d ∷ []) c
      → AllCome f me a xs c
  come_so_far a b c xs k d lt first second = come_upto a c xs (k + 1) (come_more a b c xs k d lt first second)

-- ---- one that the node enters

module _ (f : LoopFacts) (accepted : IsAccepted f) (ts after : List Stamps) (x : Placed) (slot number element : ℕ)
    (same : length ts ≡ length f.layouts) (kept : MayBeStamped f x.used)
    (at : number ≡ decomposition_met f x.used) (there : element ≡ stands_met f x.used) where
  within : decomposition_met f x.used < length ts
  within = subst (λ n. decomposition_met f x.used < n) (sym same) (standing f accepted x.used kept.met).decomposition

  module _ (is : after ≡ entered_in ts number element x.place x.used.stamp slot) where
    put : after ≡ entered_in ts (decomposition_met f x.used) (stands_met f x.used) x.place x.used.stamp slot
    put = is ∙ ap (λ d. entered_in ts d element x.place x.used.stamp slot) at
        ∙ ap (λ e. entered_in ts (decomposition_met f x.used) e x.place x.used.stamp slot) there

    pub grown_after : HaveGrown ts after
    grown_after = subst (HaveGrown ts) (sym put) (all_grown ts (decomposition_met f x.used) (stands_met f x.used) x.place x.used.stamp
        slot within)

    pub come_after : (me : ℕ) → x.place.owner ≢ me → AllCome f me ts (x ∷ []) after
    come_after me other = subst (AllCome f me ts (x ∷ [])) (sym put) (all_come f me ts x slot within other kept.small)

    pub found_after : (P : ℕ → Type 0) → MatchOption (entry_at ts number element) (P slot) (λ h. slot ≡ h.slot)
        → (h : Held) × (entry_at after (decomposition_met f x.used) (stands_met f x.used) ≡ Some h) × (h.slot ≡ slot)
        × (bit_at h.mask x.used.stamp ≡ 1)
    found_after P told =
        let here : MatchOption (entry_at ts (decomposition_met f x.used) (stands_met f x.used)) (P slot) (λ h. slot ≡ h.slot) =
        subst (λ e. MatchOption (entry_at ts (decomposition_met f x.used) e) (P slot) (λ h. slot ≡ h.slot)) there
        (subst (λ d. MatchOption (entry_at ts d element) (P slot) (λ h. slot ≡ h.slot)) at told) in
        subst (λ (tables : List Stamps). (h : Held) × (entry_at tables (decomposition_met f x.used) (stands_met f x.used) ≡ Some h)
        × (h.slot ≡ slot) × (bit_at h.mask x.used.stamp ≡ 1)) (sym put)
        (entry_found ts (decomposition_met f x.used) (stands_met f x.used) x.place x.used.stamp slot within P kept.small here)
