-- A turn keeps a World at its place.
use Rattle.std.proofs.Common.{◌≡◌, ◌≢◌, ◌==◌, ℕ, suc, zero, ◌+◌, ◌*◌, ◌/◌, ◌%◌, ◌<◌, ◌≤◌, List, [], ◌∷◌, ◌++◌, inl, inr, if◌then◌else◌}
use Rattle.std.proofs.Common.{length, get_or, set, map, slice_get, Some, refl, sym, ◌∙◌, ap, subst, arith, add-one}
use Rattle.std.proofs.lemmas.List.{get_or-set_same, get_or-set_other, length-set, length-map, map-set}
use Rattle.std.proofs.lemmas.Option.{slice_get_within, slice_get_cases, slice_get_past, slice_get-get_or, get_or_from_slice_get}
use Rattle.std.proofs.lemmas.Bool.{cases_eq}
use Rattle.std.proofs.lemmas.Bool.Decides.{nat_tests}
use Rattle.std.proofs.Math.Arith.{digits_div, digits_mod}
use Rattle.std.proofs.Math.Nat.{mul-le-mul_right}
use Rattle.chaos_letter.specs.declared.letter.Letter.{Letter}
use Rattle.chaos_letter.specs.declared.wanted.Wanted.{Wanted}
use Rattle.chaos_letter.specs.Fits.{Fits}
use Rattle.bsp_core.specs.Views.{Face, View, for_node, Meets, ready, sent_from, taken_into}
use Rattle.bsp_core.specs.Lockstep.{StandsAt}
use Rattle.bsp_core.specs.Turns.{ListsInLockstep, face_of, faces_of, sent_of, taken_of_pair, moves_of, Knows}
use Rattle.bsp_core.proofs.Places.{send_stand, take_stand, work_stand, front_is, is_ready}
use Rattle.bsp_core.proofs.Sums.{times_last, times_not, below_last}

-- places of pairs
pub place_in : (n p q : ℕ) → p < n → q < n → p * n + q < n * n
place_in n p q a b = let h : suc p * n ≤ n * n = mul-le-mul_right n a in omega (arith, h)

pub place_small : (n p q : ℕ) → p < n → q < n → n ≤ 16 → p * n + q < 256
place_small n p q a b c = let h : n * n ≤ 16 * n = mul-le-mul_right n c in omega (arith, place_in n p q a b, h)

pub place_same : (n p q r s : ℕ) → q < n → s < n → p * n + q ≡ r * n + s → (p ≡ r) × (q ≡ s)
place_same n p q r s a b e =
    (sym (digits_div p a) ∙ ap (λ (z : ℕ). z / n) e ∙ digits_div r b, sym (digits_mod p a) ∙ ap (λ (z : ℕ). z % n) e ∙ digits_mod r b)

-- what a set changes
set_here : {X : Type 0} (xs : List X) (i : ℕ) (x d : X) → i < length xs → get_or (set xs i x) i d ≡ x
set_here xs i x d l = get_or-set_same xs i x d l

-- the face at a place
pub face_at : {S : Type 0} (views : List (View S)) (i : ℕ) (v : View S) (d : Face) → slice_get views i ≡ Some v
    → faces_of d views i ≡ v.face
face_at {S} [] i v d e = absurd (cc)
face_at {S} (x ∷ xs) zero v d e = ap (λ (u : View S). u.face) (let h : x ≡ v = cc in h)
face_at {S} (x ∷ xs) (suc i) v d e = face_at xs i v d e

pub get_below : {X : Type 0} (xs : List X) (i : ℕ) → i < length xs → (v : X) × (slice_get xs i ≡ Some v)
get_below [] i l = absurd (omega arith)
get_below (x ∷ xs) zero l = (x, refl)
get_below (x ∷ xs) (suc i) l = get_below xs i (omega arith)

pub get_map : {N S : Type 0} (view : N → S) (nodes : List N) (i : ℕ) (v : N) → slice_get nodes i ≡ Some v → slice_get (map view nodes) i
    ≡ Some (view v)
get_map view [] i v e = absurd (cc)
get_map view (x ∷ xs) zero v e = ap (λ (u : _). Some (view u)) (let h : x ≡ v = cc in h)
get_map view (x ∷ xs) (suc i) v e = get_map view xs i v e

pub get_set_same : {X : Type 0} (xs : List X) (i : ℕ) (x y : X) → slice_get (set xs i x) i ≡ Some y → y ≡ x
get_set_same [] i x y e = absurd (cc)
get_set_same (z ∷ zs) zero x y e = (let h : y ≡ x = cc in h)
get_set_same (z ∷ zs) (suc i) x y e = get_set_same zs i x y e

pub get_set_other : {X : Type 0} (xs : List X) (i j : ℕ) (x : X) → j ≢ i → slice_get (set xs i x) j ≡ slice_get xs j
get_set_other xs i j x n = elim (slice_get_cases xs j).1 [
  | inl a ↦ slice_get-get_or (set xs i x) j a.0 (omega (arith, length-set xs i x, a.1))
      ∙ ap Some (get_or-set_other xs i j x a.0 n ∙ a.3) ∙ sym a.2
  | inr a ↦ slice_get_past (set xs i x) j (omega (arith, length-set xs i x, a.0)) ∙ sym a.1
]

-- each node stands where the plan has it
pub stand_at : {S : Type 0} (rows : ℕ → ℕ → Face) (holds : ℕ → ℕ → S → Type 0) (n : ℕ) (views : List (View S)) (sent : List (List Letter))
    (taken moved : List ℕ) (p : ℕ) (v : View S) →
    ListsInLockstep rows holds n views sent taken moved → slice_get views p ≡ Some v →
    (p < n) × ((f : ℕ) × StandsAt rows n p f v.face (sent_of n sent p) (λ q. taken_of_pair n taken q p) (moves_of moved p)
    × holds f p v.state)
stand_at {S} rows holds n views sent taken moved p v h e =
    let l : p < n = omega (arith, slice_get_within views p v e, h.views_len) in
    let s : (f : ℕ) × StandsAt rows n p f (faces_of (rows 0 0) views p) (sent_of n sent p) (λ q. taken_of_pair n taken q p)
    (moves_of moved p) × Knows holds views f p = h.stands p l in (
      l,
      (
        s.0,
        subst (λ (u : Face). StandsAt rows n p s.0 u (sent_of n sent p) (λ q. taken_of_pair n taken q p) (moves_of moved p))
            (face_at views p v (rows 0 0) e) s.1,
        s.2 v e,
      ),
    )

pub count_at : (rows : ℕ → ℕ → Face) (n p f : ℕ) (v : Face) (sent : ℕ → List Letter) (taken : ℕ → ℕ) (moves : ℕ) →
    ((t : ℕ) → Meets n (rows t)) → p < n → StandsAt rows n p f v sent taken moves → v.count ≡ n
count_at rows n p f v sent taken moves meets l h = ap (λ (u : Face). u.count) h.is ∙ (meets f).count p l

pub stand_eq : (rows : ℕ → ℕ → Face) (n p f : ℕ) (v v' : Face) (sent sent' : ℕ → List Letter) (taken taken' : ℕ → ℕ) (moves moves' : ℕ) →
    StandsAt rows n p f v sent taken moves → v' ≡ v → ((r : ℕ) → r < n → sent' r ≡ sent r) → ((r : ℕ) → r < n → taken' r ≡ taken r)
    → moves' ≡ moves → StandsAt rows n p f v' sent' taken' moves'
stand_eq rows n p f v v' sent sent' taken taken' moves moves' h e hs ht hm =
    let k : StandsAt rows n p f v sent' taken' moves' = record {
      posted = h.posted;
      fetched = h.fetched;
      is = h.is;
      out = h.out;
      due = h.due;
      order = h.order;
      sent_is = λ r l. ap (λ (z : List Letter). z ++ for_node r v.out) (hs r l) ∙ h.sent_is r l;
      taken_is = λ r l. ap (λ (z : ℕ). z + length (for_node r v.due)) (ht r l) ∙ h.taken_is r l;
      moves_are = ap (λ (z : ℕ). z + (length v.out + length v.due)) hm ∙ h.moves_are;
      before = h.before;
    } in
    subst (λ (u : Face). StandsAt rows n p f u sent' taken' moves') (sym e) k

if_same : {X : Type 0} (a b : ℕ) (x y : X) → a ≡ b → (if a == b then x else y) ≡ x
if_same a b x y e = grind (arith, nat_tests)

if_other : {X : Type 0} (a b : ℕ) (x y : X) → a ≢ b → (if a == b then x else y) ≡ y
if_other a b x y e = grind (arith, nat_tests)

-- one node goes on, and the others stay
update : {S : Type 0} (rows : ℕ → ℕ → Face) (holds : ℕ → ℕ → S → Type 0) (n : ℕ) (views : List (View S)) (sent sent' : List (List Letter))
    (taken taken' moved : List ℕ) (p f : ℕ) (w : View S) →
    ListsInLockstep rows holds n views sent taken moved → p < n → length sent' ≡ length sent → length taken' ≡ length taken →
    StandsAt rows n p f w.face (sent_of n sent' p) (λ q. taken_of_pair n taken' q p) (moves_of (moved ++ p ∷ []) p) → holds f p w.state →
    ((q r : ℕ) → q < n → r < n → q ≢ p → sent_of n sent' q r ≡ sent_of n sent q r) →
    ((q r : ℕ) → q < n → r < n → q ≢ p → taken_of_pair n taken' r q ≡ taken_of_pair n taken r q) →
    ListsInLockstep rows holds n (set views p w) sent' taken' (moved ++ p ∷ [])
update {S} rows holds n views sent sent' taken taken' moved p f w h lp ls lt here known hs ht =
    let lv : p < length (map face_of views) = omega (arith, h.views_len, lp, length-map views face_of) in
    let d : Face = rows 0 0 in
    let same : map face_of (set views p w) ≡ set (map face_of views) p w.face = map-set face_of views p w in
    record {
      views_len = length-set views p w ∙ h.views_len;
      sent_len = ls ∙ h.sent_len;
      taken_len = lt ∙ h.taken_len;
      moved_in = below_last n p moved h.moved_in lp;
      stands = λ q lq. elim (cases_eq q p) [
        | inl i ↦ (
          f,
          subst (λ (k : ℕ). StandsAt rows n k f (faces_of d (set views p w) k) (sent_of n sent' k) (λ r. taken_of_pair n taken' r k)
              (moves_of (moved ++ p ∷ []) k)) (sym i)
              (subst (λ (u : Face). StandsAt rows n p f u (sent_of n sent' p) (λ r. taken_of_pair n taken' r p)
              (moves_of (moved ++ p ∷ []) p))
              (sym (ap (λ (z : List Face). get_or z p d) same ∙ get_or-set_same (map face_of views) p w.face d lv)) here),
          λ v e. subst (λ (u : View S). holds f q u.state)
              (sym (get_set_same views p w v (subst (λ (k : ℕ). slice_get (set views p w) k ≡ Some v) i e)))
              (subst (λ (k : ℕ). holds f k w.state) (sym i) known),
        )
        | inr i ↦
            let s : (g : ℕ) × StandsAt rows n q g (faces_of d views q) (sent_of n sent q) (λ r. taken_of_pair n taken r q)
            (moves_of moved q) × Knows holds views g q = h.stands q lq in (
              s.0,
              stand_eq rows n q s.0 (faces_of d views q) (faces_of d (set views p w) q) (sent_of n sent q) (sent_of n sent' q)
                  (λ r. taken_of_pair n taken r q) (λ r. taken_of_pair n taken' r q) (moves_of moved q) (moves_of (moved ++ p ∷ []) q) s.1
                  (ap (λ (z : List Face). get_or z q d) same ∙ get_or-set_other (map face_of views) p q w.face d i)
                  (λ r l. hs q r lq l i) (λ r l. ht q r lq l i) (times_not q p moved i),
              λ v e. s.2 v (sym (get_set_other views p q w i) ∙ e),
            )
      ];
    }

-- a send
pub send_at_place : {S : Type 0} (rows : ℕ → ℕ → Face) (holds : ℕ → ℕ → S → Type 0) (n : ℕ) (views : List (View S))
    (sent : List (List Letter)) (taken moved : List ℕ) (p : ℕ) (v w : View S)
    (to : ℕ) (x : Letter) (rest : List (ℕ × Letter)) →
    ListsInLockstep rows holds n views sent taken moved → slice_get views p ≡ Some v → to < n → v.face.out ≡ (to, x) ∷ rest
    → w ≡ record { face = sent_from v.face rest; state = v.state } →
    ListsInLockstep rows holds n (set views p w) (set sent (p * n + to) (sent_of n sent p to ++ x ∷ [])) taken (moved ++ p ∷ [])
send_at_place {S} rows holds n views sent taken moved p v w to x rest h e lt o is =
    let at : (p < n) × ((f : ℕ) × StandsAt rows n p f v.face (sent_of n sent p) (λ q. taken_of_pair n taken q p) (moves_of moved p)
    × holds f p v.state) = stand_at rows holds n views sent taken moved p v h e in
    let y : List Letter = sent_of n sent p to ++ x ∷ [] in
    let lk : p * n + to < length sent = omega (arith, h.sent_len, place_in n p to at.0 lt) in
    update rows holds n views sent (set sent (p * n + to) y) taken taken moved p at.1.0 w h at.0 (length-set sent (p * n + to) y) refl
    (subst (λ (u : Face). StandsAt rows n p at.1.0 u (sent_of n (set sent (p * n + to) y) p) (λ q. taken_of_pair n taken q p)
    (moves_of (moved ++ p ∷ []) p)) (sym (ap (λ (u : View S). u.face) is))
    (stand_eq rows n p at.1.0 (sent_from v.face rest) (sent_from v.face rest)
    (λ q. if q == to then y else sent_of n sent p q) (sent_of n (set sent (p * n + to) y) p) (λ q. taken_of_pair n taken q p)
    (λ q. taken_of_pair n taken q p)
    (moves_of (moved ++ p ∷ []) p) (moves_of (moved ++ p ∷ []) p)
    (send_stand rows n p at.1.0 v.face to x rest (sent_of n sent p) (λ q. if q == to then y else sent_of n sent p q)
    (λ q. taken_of_pair n taken q p) (moves_of moved p) (moves_of (moved ++ p ∷ []) p)
    at.1.1 o (if_same to to y (sent_of n sent p to) refl) (λ q ne. if_other q to y (sent_of n sent p q) ne) (times_last p moved))
    refl
    (λ r l. elim (cases_eq r to) [
      | inl i ↦ ap (λ (k : ℕ). get_or (set sent (p * n + to) y) (p * n + k) []) i ∙ get_or-set_same sent (p * n + to) y [] lk
          ∙ sym (if_same r to y (sent_of n sent p r) i)
      | inr i ↦ get_or-set_other sent (p * n + to) (p * n + r) y [] (λ k. i (omega arith)) ∙ sym (if_other r to y (sent_of n sent p r) i)
    ])
    (λ r l. refl) refl))
    (subst (λ (u : View S). holds at.1.0 p u.state) (sym is) at.1.2)
    (λ q r lq lr ne. get_or-set_other sent (p * n + to) (q * n + r) y [] (λ k. ne (place_same n q r p to lr lt k).0))
    (λ q r lq lr ne. refl)

-- the letter that a take gets, and the take
pub take_at_place : {S : Type 0} (rows : ℕ → ℕ → Face) (holds : ℕ → ℕ → S → Type 0) (n : ℕ) (views : List (View S))
    (sent : List (List Letter)) (taken moved : List ℕ) (p : ℕ) (v : View S)
    (from : ℕ) (wanted : Wanted) (rest : List (ℕ × Wanted)) (x : Letter) → ((t : ℕ) → Meets n (rows t)) →
    ListsInLockstep rows holds n views sent taken moved → slice_get views p ≡ Some v → from < n → v.face.due ≡ (from, wanted) ∷ rest →
    slice_get (sent_of n sent from p) (taken_of_pair n taken from p) ≡ Some x →
    Fits wanted x × (v.face.out ≡ [] → (w : View S) → w ≡ record { face = taken_into v.face rest x; state = v.state } →
    ListsInLockstep rows holds n (set views p w) sent (set taken (from * n + p) (taken_of_pair n taken from p + 1)) (moved ++ p ∷ []))
take_at_place {S} rows holds n views sent taken moved p v from wanted rest x meets h e lf o got =
    let at : (p < n) × ((f : ℕ) × StandsAt rows n p f v.face (sent_of n sent p) (λ q. taken_of_pair n taken q p) (moves_of moved p)
    × holds f p v.state) = stand_at rows holds n views sent taken moved p v h e in
    let by : (g : ℕ) × StandsAt rows n from g (faces_of (rows 0 0) views from) (sent_of n sent from) (λ q. taken_of_pair n taken q from)
    (moves_of moved from) × Knows holds views g from = h.stands from lf in
    let place : ℕ = from * n + p in
    let k : ℕ = taken_of_pair n taken from p in
    let lk : place < length taken = omega (arith, h.taken_len, place_in n from p lf at.0) in
    let front : Fits wanted (get_or (get_or sent place []) k x) × (for_node p (rows at.1.0 from).out ≡ get_or (get_or sent place []) k x
    ∷ []) =
    front_is rows n from p at.1.0 by.0 (faces_of (rows 0 0) views from) v.face wanted rest (sent_of n sent from) (sent_of n sent p)
    (λ q. taken_of_pair n taken q from) (λ q. taken_of_pair n taken q p) (moves_of moved from) (moves_of moved p) x meets lf at.0 by.1
    at.1.1 o (slice_get_within (get_or sent place []) k x got) in
    let same : get_or (get_or sent place []) k x ≡ x = get_or_from_slice_get (get_or sent place []) k x x got in (
      subst (λ (z : Letter). Fits wanted z) same front.0,
      λ out w is.
          update rows holds n views sent sent taken (set taken place (k + 1)) moved p at.1.0 w h at.0 refl (length-set taken place (k + 1))
          (subst (λ (u : Face). StandsAt rows n p at.1.0 u (sent_of n sent p) (λ q. taken_of_pair n (set taken place (k + 1)) q p)
          (moves_of (moved ++ p ∷ []) p)) (sym (ap (λ (u : View S). u.face) is))
          (stand_eq rows n p at.1.0 (taken_into v.face rest x) (taken_into v.face rest x)
          (sent_of n sent p) (sent_of n sent p)
          (λ q. if q == from then k + 1 else taken_of_pair n taken q p) (λ q. taken_of_pair n (set taken place (k + 1)) q p)
          (moves_of (moved ++ p ∷ []) p) (moves_of (moved ++ p ∷ []) p)
          (take_stand rows n from p at.1.0 v.face x wanted rest (sent_of n sent p) (λ q. taken_of_pair n taken q p)
          (λ q. if q == from then k + 1 else taken_of_pair n taken q p) (moves_of moved p) (moves_of (moved ++ p ∷ []) p) at.1.1 out o
          (front.1 ∙ ap (λ (z : Letter). z ∷ []) same)
          (if_same from from (k + 1) k refl) (λ q ne. if_other q from (k + 1) (taken_of_pair n taken q p) ne) (times_last p moved))
          refl (λ r l. refl)
          (λ r l. elim (cases_eq r from) [
            | inl i ↦ ap (λ (j : ℕ). get_or (set taken place (k + 1)) (j * n + p) 0) i ∙ get_or-set_same taken place (k + 1) 0 lk
                ∙ sym (if_same r from (k + 1) (taken_of_pair n taken r p) i)
            | inr i ↦ get_or-set_other taken place (r * n + p) (k + 1) 0 (λ j. i (place_same n r p from p at.0 at.0 j).0)
                ∙ sym (if_other r from (k + 1) (taken_of_pair n taken r p) i)
          ]) refl))
          (subst (λ (u : View S). holds at.1.0 p u.state) (sym is) at.1.2)
          (λ q r lq lr ne. refl)
          (λ q r lq lr ne. get_or-set_other taken place (r * n + q) (k + 1) 0 (λ j. ne (place_same n r q from p lq at.0 j).1)),
    )

-- a work
pub work_at_place : {S : Type 0} (rows : ℕ → ℕ → Face) (holds : ℕ → ℕ → S → Type 0) (n : ℕ) (views : List (View S))
    (sent : List (List Letter)) (taken moved : List ℕ) (p : ℕ) (v w : View S) →
    ((t : ℕ) → Meets n (rows t)) →
    ListsInLockstep rows holds n views sent taken moved → slice_get views p ≡ Some v → v.face.out ≡ [] → v.face.due ≡ [] → v.face.left ≢ 0 →
    ((t q : ℕ) → q < n → v.face ≡ ready (rows t) q → holds t q v.state → (w.face ≡ rows (t + 1) q) × holds (t + 1) q w.state) →
    ListsInLockstep rows holds n (set views p w) sent taken (moved ++ p ∷ [])
work_at_place {S} rows holds n views sent taken moved p v w meets h e o d more works =
    let at : (p < n) × ((f : ℕ) × StandsAt rows n p f v.face (sent_of n sent p) (λ q. taken_of_pair n taken q p) (moves_of moved p)
    × holds f p v.state) = stand_at rows holds n views sent taken moved p v h e in
    let is : (w.face ≡ rows (at.1.0 + 1) p) × holds (at.1.0 + 1) p w.state =
    works at.1.0 p at.0 (is_ready rows n p at.1.0 v.face (sent_of n sent p) (λ q. taken_of_pair n taken q p) (moves_of moved p) at.1.1 o
    d) at.1.2 in
    update rows holds n views sent sent taken taken moved p (suc at.1.0) w h at.0 refl refl
    (work_stand rows n p at.1.0 v.face w.face (sent_of n sent p) (λ q. taken_of_pair n taken q p) (moves_of moved p)
    (moves_of (moved ++ p ∷ []) p) meets at.0 at.1.1 o d more
    (is.0 ∙ ap (λ (t : ℕ). rows t p) (add-one at.1.0)) (times_last p moved))
    (subst (λ (t : ℕ). holds t p w.state) (add-one at.1.0) is.1)
    (λ q r lq lr ne. refl) (λ q r lq lr ne. refl)
