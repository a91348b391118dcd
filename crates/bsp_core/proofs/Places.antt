-- Each action keeps a node at its place.
use Rattle.std.proofs.Common.{◌≡◌, ◌≢◌, ℕ, suc, zero, ◌+◌, ◌<◌, ◌≤◌, List, [], ◌∷◌, ◌++◌, ◌⊎◌, inl, inr, length, get_or, leb, refl, sym}
use Rattle.std.proofs.Common.{◌∙◌, ap, subst, arith, length-append, append_assoc}
use Rattle.std.proofs.lemmas.List.{append-nil, get_or_append_left, get_or_at}
use Rattle.std.proofs.lemmas.Grind.{common_steps}
use Rattle.std.proofs.lemmas.Bool.Decides.{nat_tests}
use Rattle.std.proofs.lemmas.Bool.{cases_eq, cases_Bool, leb-true, leb-false}
use Rattle.chaos_letter.specs.declared.letter.Letter.{Letter}
use Rattle.chaos_letter.specs.declared.wanted.Wanted.{Wanted}
use Rattle.chaos_letter.specs.Fits.{Fits}
use Rattle.bsp_core.specs.Views.{Face, for_node, incoming, Meets, Serves, ready, sent_from, taken_into, Ascends, nodes_in}
use Rattle.bsp_core.specs.Lockstep.{upto, StandsAt, moves_in, moves_before}

-- a list for one node, of the parts
pub for_node-append : {A : Type 0} (q : ℕ) (xs ys : List (ℕ × A)) → for_node q (xs ++ ys) ≡ for_node q xs ++ for_node q ys
for_node-append q [] ys = refl
for_node-append q (x ∷ xs) ys = grind (arith, for_node-append q xs ys, nat_tests)

pub incoming-append : (row : ℕ → Face) (q : ℕ) (xs ys : List (ℕ × Wanted)) → incoming row q (xs ++ ys) ≡ incoming row q xs
    ++ incoming row q ys
incoming-append row q [] ys = refl
incoming-append row q (x ∷ xs) ys =
    ap (λ (z : List Letter). for_node q (row x.0).out ++ z) (incoming-append row q xs ys)
    ∙ sym (append_assoc (for_node q (row x.0).out) (incoming row q xs) (incoming row q ys))

pub for_node_same : {A : Type 0} (q to : ℕ) (x : A) (rest : List (ℕ × A)) → q ≡ to → for_node q ((to, x) ∷ rest) ≡ x ∷ for_node q rest
for_node_same q to x rest h = grind (arith, nat_tests)

pub for_node_other : {A : Type 0} (q to : ℕ) (x : A) (rest : List (ℕ × A)) → q ≢ to → for_node q ((to, x) ∷ rest) ≡ for_node q rest
for_node_other q to x rest h = grind (arith, nat_tests)

-- what is wanted once is served once
pub serves_mid : (es : List Wanted) (w : Wanted) (bs : List Wanted) (xs : List Letter) → Serves (es ++ w ∷ bs) xs →
    (x : Letter) × (xs ≡ x ∷ []) × Fits w x × (es ≡ []) × (bs ≡ [])
serves_mid [] w [] (x ∷ []) h = (x, refl, h, refl, refl)
serves_mid [] w [] [] h = absurd h
serves_mid [] w [] (x ∷ y ∷ ys) h = absurd h
serves_mid [] w (b ∷ bs) xs h = absurd h
serves_mid (a ∷ []) w bs xs h = absurd h
serves_mid (a ∷ c ∷ es) w bs xs h = absurd h

pub serves_length : (ws : List Wanted) (xs : List Letter) → Serves ws xs → length ws ≡ length xs
serves_length [] [] h = refl
serves_length (w ∷ []) (x ∷ []) h = refl
serves_length [] (x ∷ xs) h = absurd h
serves_length (w ∷ []) [] h = absurd h
serves_length (w ∷ []) (x ∷ y ∷ ys) h = absurd h
serves_length (w ∷ v ∷ ws) xs h = absurd h

-- earlier phases come first
pub upto_more : (rows : ℕ → ℕ → Face) (p q a b : ℕ) → a ≤ b → (rest : List Letter) × (upto rows p q b ≡ upto rows p q a ++ rest)
upto_more rows p q a zero h = ([], grind (arith, common_steps))
upto_more rows p q a (suc b) h =
    elim (cases_eq a (suc b)) [
      | inl e ↦ ([], rw e (sym (append-nil (upto rows p q (suc b)))))
      | inr n ↦
          let ih : (rest : List Letter) × (upto rows p q b ≡ upto rows p q a ++ rest) = upto_more rows p q a b (omega arith) in (
            ih.0 ++ for_node q (rows b p).out,
            ap (λ (z : List Letter). z ++ for_node q (rows b p).out) ih.1 ∙ append_assoc (upto rows p q a) ih.0 (for_node q (rows b p).out),
          )
    ]

one_less : (m m' a b d all : ℕ) → m' ≡ m + 1 → a ≡ suc b → m + (a + d) ≡ all → m' + (b + d) ≡ all
one_less m m' a b d all e i h = omega arith

one_less_due : (m m' a b d all : ℕ) → m' ≡ m + 1 → a ≡ suc b → m + (d + a) ≡ all → m' + (d + b) ≡ all
one_less_due m m' a b d all e i h = omega arith

-- a send
pub send_stand : (rows : ℕ → ℕ → Face) (n p f : ℕ) (v : Face) (to : ℕ) (x : Letter) (rest : List (ℕ × Letter))
    (sent sent' : ℕ → List Letter) (taken : ℕ → ℕ) (moves moves' : ℕ) → StandsAt rows n p f v sent taken moves → v.out ≡ (to, x) ∷ rest →
    sent' to ≡ sent to ++ x ∷ [] → ((q : ℕ) → q ≢ to → sent' q ≡ sent q) → moves' ≡ moves + 1
    → StandsAt rows n p f (sent_from v rest) sent' taken moves'
send_stand rows n p f v to x rest sent sent' taken moves moves' h e here there one = record {
  posted = h.posted ++ (to, x) ∷ [];
  fetched = h.fetched;
  is = ap (λ (u : Face). sent_from u rest) h.is;
  out = append_assoc h.posted ((to, x) ∷ []) rest ∙ ap (λ (z : List (ℕ × Letter)). h.posted ++ z) (sym e) ∙ h.out;
  due = h.due;
  order = elim h.order [ inl o ↦ absurd (cc) | inr o ↦ inr o ];
  sent_is = λ q l. elim (cases_eq q to) [
    | inl i ↦
        ap (λ (z : List Letter). z ++ for_node q rest) (ap sent' i ∙ here ∙ ap (λ (k : ℕ). sent k ++ x ∷ []) (sym i))
        ∙ append_assoc (sent q) (x ∷ []) (for_node q rest)
        ∙ ap (λ (z : List Letter). sent q ++ z) (sym (ap (for_node q) e ∙ for_node_same q to x rest i))
        ∙ h.sent_is q l
    | inr i ↦
        ap (λ (z : List Letter). z ++ for_node q rest) (there q i)
        ∙ ap (λ (z : List Letter). sent q ++ z) (sym (ap (for_node q) e ∙ for_node_other q to x rest i))
        ∙ h.sent_is q l
  ];
  taken_is = h.taken_is;
  moves_are = one_less moves moves' (length v.out) (length rest) (length v.due) (moves_before rows p f + moves_in rows p f) one
      (ap length e) h.moves_are;
  before = h.before;
}

front_at : (s m up more : List Letter) (x d : Letter) (k : ℕ) → s ++ m ≡ (up ++ x ∷ []) ++ more → length up ≡ k → k < length s
    → get_or s k d ≡ x
front_at s m up more x d k e l lt =
    sym (get_or_append_left s m d k lt) ∙ ap (λ (z : List Letter). get_or z k d) (e ∙ append_assoc up (x ∷ []) more)
    ∙ get_or_at up x more d k l

not_behind : (s m all : List Letter) (k : ℕ) → s ++ m ≡ all → length all ≤ k → k < length s → ⊥
not_behind s m all k e l lt = omega (arith, length-append s m, ap length e)

pub le_or_more : (a b : ℕ) → (a ≤ b) ⊎ (b < a)
le_or_more a b = elim (cases_Bool (leb a b)) [ inl t ↦ inl (leb-true a b t) | inr t ↦ inr (leb-false a b t) ]

count_up : (k a b : ℕ) (up xs : List Letter) (x : Letter) → k + a ≡ length (up ++ xs) → xs ≡ x ∷ [] → a ≡ 1 → length up ≡ k
count_up k a b up xs x e i j = omega (arith, length-append up xs, ap length i)

-- the one letter that is planned for a take
pub planned_one : (rows : ℕ → ℕ → Face) (n p q f : ℕ) (v : Face) (from : Wanted) (rest : List (ℕ × Wanted))
    (sentq : ℕ → List Letter) (takenq : ℕ → ℕ) (moves : ℕ) →
    ((t : ℕ) → Meets n (rows t)) → p < n → q < n → StandsAt rows n q f v sentq takenq moves → v.due ≡ (p, from) ∷ rest →
    (x : Letter) × (for_node q (rows f p).out ≡ x ∷ []) × Fits from x × (length (upto rows p q f) ≡ takenq p)
planned_one rows n p q f v from rest sentq takenq moves meets lp lq hv e =
    let due_is : for_node p (rows f q).due ≡ for_node p hv.fetched ++ from ∷ for_node p rest =
    ap (for_node p) (sym hv.due) ∙ for_node-append p hv.fetched v.due
    ∙ ap (λ (z : List Wanted). for_node p hv.fetched ++ z) (ap (for_node p) e ∙ for_node_same p p from rest refl) in
    let served : Serves (for_node p hv.fetched ++ from ∷ for_node p rest) (for_node q (rows f p).out) =
    subst (λ (z : List Wanted). Serves z (for_node q (rows f p).out)) due_is ((meets f).serves p q lp lq) in
    let one : (x : Letter) × (for_node q (rows f p).out ≡ x ∷ []) × Fits from x × (for_node p hv.fetched ≡ []) × (for_node p rest ≡ []) =
    serves_mid (for_node p hv.fetched) from (for_node p rest) (for_node q (rows f p).out) served in (
      one.0,
      one.1,
      one.2,
      count_up (takenq p) (length (for_node p v.due)) 0 (upto rows p q f) (for_node q (rows f p).out) one.0 (hv.taken_is p lp) one.1
          (ap length (ap (for_node p) e ∙ for_node_same p p from rest refl ∙ ap (λ (z : List Wanted). from ∷ z) one.4)),
    )

-- the letter that a take gets is the planned one
pub front_is : (rows : ℕ → ℕ → Face) (n p q f g : ℕ) (u v : Face) (from : Wanted) (rest : List (ℕ × Wanted))
    (sentp sentq : ℕ → List Letter) (takenp takenq : ℕ → ℕ) (movesp moves : ℕ) (d : Letter) →
    ((t : ℕ) → Meets n (rows t)) → p < n → q < n → StandsAt rows n p g u sentp takenp movesp → StandsAt rows n q f v sentq takenq moves →
    v.due ≡ (p, from) ∷ rest → takenq p < length (sentp q) →
    Fits from (get_or (sentp q) (takenq p) d) × (for_node q (rows f p).out ≡ get_or (sentp q) (takenq p) d ∷ [])
front_is rows n p q f g u v from rest sentp sentq takenp takenq movesp moves d meets lp lq hu hv e more =
    let one = planned_one rows n p q f v from rest sentq takenq moves meets lp lq hv e in
    let count = one.3 in
    let here : upto rows p q (suc f) ≡ upto rows p q f ++ one.0 ∷ [] = ap (λ (z : List Letter). upto rows p q f ++ z) one.1 in
    let same : get_or (sentp q) (takenq p) d ≡ one.0 =
    elim (le_or_more f g) [
      | inl le ↦
          let m : (more : List Letter) × (upto rows p q (suc g) ≡ upto rows p q (suc f) ++ more) = upto_more rows p q (suc f) (suc g)
          (omega arith) in
          front_at (sentp q) (for_node q u.out) (upto rows p q f) m.0 one.0 d (takenq p)
          (hu.sent_is q lq ∙ m.1 ∙ ap (λ (z : List Letter). z ++ m.0) here) count more
      | inr lt ↦
          let m : (more : List Letter) × (upto rows p q f ≡ upto rows p q (suc g) ++ more) = upto_more rows p q (suc g) f (omega arith) in
          absurd (not_behind (sentp q) (for_node q u.out) (upto rows p q (suc g)) (takenq p) (hu.sent_is q lq)
          (let l : length (upto rows p q f) ≡ length (upto rows p q (suc g)) + length m.0 = ap length m.1
          ∙ length-append (upto rows p q (suc g)) m.0 in omega (arith, l, count)) more)
    ] in
    (subst (λ (z : Letter). Fits from z) (sym same) one.2, one.1 ∙ ap (λ (z : Letter). z ∷ []) (sym same))

took_here : (k' k a b all : ℕ) → k' ≡ k + 1 → a ≡ suc b → k + a ≡ all → k' + b ≡ all
took_here k' k a b all e i h = omega arith

worked_taken : (k a b : ℕ) (up xs : List Letter) → k + a ≡ length up → a ≡ 0 → b ≡ length xs → k + b ≡ length (up ++ xs)
worked_taken k a b up xs h e i = omega (arith, length-append up xs)

-- a take
pub take_stand : (rows : ℕ → ℕ → Face) (n p q f : ℕ) (v : Face) (x : Letter) (from : Wanted) (rest : List (ℕ × Wanted))
    (sent : ℕ → List Letter) (taken taken' : ℕ → ℕ) (moves moves' : ℕ) → StandsAt rows n q f v sent taken moves → v.out ≡ []
    → v.due ≡ (p, from) ∷ rest →
    for_node q (rows f p).out ≡ x ∷ [] → taken' p ≡ taken p + 1 → ((r : ℕ) → r ≢ p → taken' r ≡ taken r) → moves' ≡ moves + 1 →
    StandsAt rows n q f (taken_into v rest x) sent taken' moves'
take_stand rows n p q f v x from rest sent taken taken' moves moves' h o e planned here there one = record {
  posted = h.posted;
  fetched = h.fetched ++ (p, from) ∷ [];
  is =
      ap (λ (u : Face). record u { due = rest; got = u.got ++ x ∷ [] }) h.is
      ∙ ap (λ (z : List Letter). let b : Face = rows f q in record b { out = v.out; due = rest; got = z })
      (append_assoc (rows f q).got (incoming (rows f) q h.fetched) (x ∷ [])
      ∙ ap (λ (z : List Letter). (rows f q).got ++ z) (sym (incoming-append (rows f) q h.fetched ((p, from) ∷ [])
      ∙ ap (λ (z : List Letter). incoming (rows f) q h.fetched ++ z) (append-nil (for_node q (rows f p).out) ∙ planned))));
  out = h.out;
  due = append_assoc h.fetched ((p, from) ∷ []) rest ∙ ap (λ (z : List (ℕ × Wanted)). h.fetched ++ z) (sym e) ∙ h.due;
  order = inl o;
  sent_is = h.sent_is;
  taken_is = λ r l. elim (cases_eq r p) [
    | inl i ↦ took_here (taken' r) (taken r) (length (for_node r v.due)) (length (for_node r rest)) (length (upto rows r q (suc f)))
        (ap taken' i ∙ here ∙ ap (λ (k : ℕ). taken k + 1) (sym i)) (ap length (ap (for_node r) e ∙ for_node_same r p from rest i))
        (h.taken_is r l)
    | inr i ↦
        ap (λ (k : ℕ). k + length (for_node r rest)) (there r i)
        ∙ ap (λ (k : ℕ). taken r + k) (sym (ap length (ap (for_node r) e ∙ for_node_other r p from rest i)))
        ∙ h.taken_is r l
  ];
  moves_are = one_less_due moves moves' (length v.due) (length rest) (length v.out) (moves_before rows q f + moves_in rows q f) one
      (ap length e) h.moves_are;
  before = h.before;
}

-- all is sent and taken
pub is_ready : (rows : ℕ → ℕ → Face) (n p f : ℕ) (v : Face) (sent : ℕ → List Letter) (taken : ℕ → ℕ) (moves : ℕ) →
    StandsAt rows n p f v sent taken moves → v.out ≡ [] → v.due ≡ [] → v ≡ ready (rows f) p
is_ready rows n p f v sent taken moves h o d =
    h.is ∙ ap (λ (z : List (ℕ × Letter)). let b : Face = rows f p in
    record b { out = z; due = v.due; got = (rows f p).got ++ incoming (rows f) p h.fetched }) o
    ∙ ap (λ (z : List (ℕ × Wanted)). let b : Face = rows f p in
    record b { out = []; due = z; got = (rows f p).got ++ incoming (rows f) p h.fetched }) d
    ∙ ap (λ (z : List (ℕ × Wanted)). let b : Face = rows f p in
    record b { out = []; due = []; got = (rows f p).got ++ incoming (rows f) p z })
    (sym (append-nil h.fetched) ∙ ap (λ (z : List (ℕ × Wanted)). h.fetched ++ z) (sym d) ∙ h.due)

some_left : (a b : ℕ) → a ≡ b → a ≢ 0 → 0 < b
some_left a b e h = omega arith

next_moves : (m m' a b all c d : ℕ) → m' ≡ m + 1 → a ≡ 0 → b ≡ 0 → c ≡ d → m + (a + b) ≡ all → m' + c ≡ all + 1 + d
next_moves m m' a b all c d e i j k h = omega arith

-- a work
pub work_stand : (rows : ℕ → ℕ → Face) (n p f : ℕ) (v w : Face) (sent : ℕ → List Letter) (taken : ℕ → ℕ) (moves moves' : ℕ) →
    ((t : ℕ) → Meets n (rows t)) → p < n → StandsAt rows n p f v sent taken moves → v.out ≡ [] → v.due ≡ [] → v.left ≢ 0
    → w ≡ rows (suc f) p → moves' ≡ moves + 1 →
    StandsAt rows n p (suc f) w sent taken moves'
work_stand rows n p f v w sent taken moves moves' meets lp h o d more e one = record {
  posted = [];
  fetched = [];
  is = e ∙ ap (λ (u : Face). let b : Face = rows (suc f) p in record b { out = u.out; due = u.due; got = (rows (suc f) p).got }) (sym e)
      ∙ ap (λ (z : List Letter). let b : Face = rows (suc f) p in record b { out = w.out; due = w.due; got = z })
      (sym (append-nil (rows (suc f) p).got));
  out = ap (λ (u : Face). u.out) e;
  due = ap (λ (u : Face). u.due) e;
  order = inr refl;
  sent_is = λ q l.
      ap (λ (z : List (ℕ × Letter)). sent q ++ for_node q z) (ap (λ (u : Face). u.out) e)
      ∙ ap (λ (z : List Letter). z ++ for_node q (rows (suc f) p).out)
      (sym (append-nil (sent q)) ∙ ap (λ (z : List (ℕ × Letter)). sent q ++ for_node q z) (sym o) ∙ h.sent_is q l);
  taken_is = λ q l.
      worked_taken (taken q) (length (for_node q v.due)) (length (for_node q w.due)) (upto rows q p (suc f))
      (for_node p (rows (suc f) q).out)
      (h.taken_is q l) (ap (λ (z : List (ℕ × Wanted)). length (for_node q z)) d)
      (ap (λ (u : Face). length (for_node q u.due)) e ∙ serves_length _ _ ((meets (suc f)).serves q p l lp));
  moves_are = next_moves moves moves' (length v.out) (length v.due) (moves_before rows p f + moves_in rows p f)
      (length w.out + length w.due) (moves_in rows p (suc f)) one
      (ap length o) (ap length d) (ap (λ (u : Face). length u.out + length u.due) e) h.moves_are;
  before = λ t lt. elim (cases_eq t f) [
    | inl i ↦ subst (λ (k : ℕ). 0 < (rows k 0).left) (sym i)
        (some_left v.left (rows f 0).left (ap (λ (u : Face). u.left) h.is ∙ (meets f).left p lp) more)
    | inr i ↦ h.before t (omega arith)
  ];
}

-- lists by nodes name others
pub ascends_mid : {A : Type 0} (me n low : ℕ) (xs : List (ℕ × A)) (k : ℕ) (w : A) (ys : List (ℕ × A))
    → Ascends me n low (nodes_in (xs ++ (k, w) ∷ ys)) → (k < n) × (k ≢ me)
ascends_mid me n low [] k w ys h = (h.1, h.2)
ascends_mid me n low (x ∷ xs) k w ys h = ascends_mid me n (x.0 + 1) xs k w ys h.3

pub ascends_few : {A : Type 0} (me n low : ℕ) (xs : List (ℕ × A)) → low ≤ n → Ascends me n low (nodes_in xs) → low + length xs ≤ n
ascends_few me n low [] l h = omega arith
ascends_few me n low (x ∷ xs) l h = omega (arith, h.0, ascends_few me n (x.0 + 1) xs (omega (arith, h.1)) h.3)

pub row_room : {A B : Type 0} (me n : ℕ) (xs : List (ℕ × A)) (ys : List (ℕ × B)) → n ≤ 16 → Ascends me n 0 (nodes_in xs)
    → Ascends me n 0 (nodes_in ys) → length xs + length ys ≤ 32
row_room me n xs ys l h i = omega (arith, ascends_few me n 0 xs (omega arith) h, ascends_few me n 0 ys (omega arith) i)
