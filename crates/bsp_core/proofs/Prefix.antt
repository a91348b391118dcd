-- The prefix law.
use Rattle.std.proofs.Common.{◌≡◌, ◌≢◌, ◌==◌, ℕ, suc, zero, ◌+◌, ◌-◌, ◌<◌, ◌≤◌, List, [], ◌∷◌, ◌++◌, ◌⊎◌, inl, inr, if◌then◌else◌, length}
use Rattle.std.proofs.Common.{get_or, refl, sym, ◌∙◌, ap, subst, arith, length-append, append_assoc, add-one}
use Rattle.std.proofs.lemmas.List.{append-nil, get_or_append_left, get_or_at}
use Rattle.std.proofs.lemmas.Bool.{cases_eq}
use Rattle.std.proofs.lemmas.Bool.Decides.{nat_tests}
use Rattle.chaos_letter.specs.declared.letter.Letter.{Letter}
use Rattle.chaos_letter.specs.declared.wanted.Wanted.{Wanted}
use Rattle.chaos_letter.specs.Fits.{Fits}
use Rattle.bsp_core.specs.Views.{Face, View, Meets, ready, for_node, WorksFor, Ascends, nodes_in}
use Rattle.bsp_core.specs.Lockstep.{upto, StandsAt, AllStand, IsOver}
use Rattle.bsp_core.specs.Follows.{Act, Sent, Took, Worked, put_to, taken_of, Does, Follows, AreHistories, AreLawful, KnowsBy}
use Rattle.bsp_core.proofs.Places.{upto_more, send_stand, take_stand, work_stand, is_ready, planned_one, front_is, ascends_mid}
use Rattle.bsp_core.proofs.Dues.{is_send, is_take, is_work, first_same, first_wanted}
use Rattle.bsp_core.proofs.Starts.{begin_stand}
use Rattle.bsp_core.proofs.Ends.{is_over}
use Rattle.bsp_core.proofs.Scene.{stand_eq}

-- what a node did, the latest first
abbrev pub back : List Act → List Act → List Act
back [] acc = acc
back (d ∷ ds) acc = back ds (d ∷ acc)

abbrev pub put_back : ℕ → List Act → List Letter
put_back q [] = []
put_back q (Sent to x ∷ ds) = if to == q then put_back q ds ++ x ∷ [] else put_back q ds
put_back q (Took from x ∷ ds) = put_back q ds
put_back q (Worked ∷ ds) = put_back q ds

abbrev pub taken_back : ℕ → List Act → List Letter
taken_back q [] = []
taken_back q (Sent to x ∷ ds) = taken_back q ds
taken_back q (Took from x ∷ ds) = if from == q then taken_back q ds ++ x ∷ [] else taken_back q ds
taken_back q (Worked ∷ ds) = taken_back q ds

abbrev pub LatestFirst : {S : Type 0} → (View S → View S → Type 0) → View S → List Act → View S → Type 0
LatestFirst works start [] v = v ≡ start
LatestFirst {S} works start (d ∷ ds) v = (u : View S) × LatestFirst works start ds u × Does works u d v

back_follows : {S : Type 0} (works : View S → View S → Type 0) (start u : View S) (acc ds : List Act) (w : View S)
    → LatestFirst works start acc u → Follows works u ds w → LatestFirst works start (back ds acc) w
back_follows {S} works start u acc [] w h r = subst (λ (z : View S). LatestFirst works start acc z) (sym r) h
back_follows {S} works start u acc (d ∷ ds) w h r = back_follows works start r.0 (d ∷ acc) ds w (u, h, r.1) r.2

back_length : (ds acc : List Act) → length (back ds acc) ≡ length acc + length ds
back_length [] acc = omega arith
back_length (d ∷ ds) acc = omega (arith, back_length ds (d ∷ acc))

-- the lists agree as far as both go
abbrev pub Agree : List Letter → List Letter → Type 0
Agree xs ys = (k : ℕ) (d : Letter) → k < length xs → k < length ys → get_or xs k d ≡ get_or ys k d

agree_front : (xs ys zs : List Letter) → Agree (xs ++ ys) zs → Agree xs zs
agree_front xs ys zs h k d a b = sym (get_or_append_left xs ys d k a) ∙ h k d (omega (arith, length-append xs ys)) b

-- a prefix of a list that another list begins with, or that begins with it
agree_short : (xs a put b all : List Letter) → put ≡ xs ++ a → put ++ b ≡ all → Agree xs all
agree_short xs a put b all e i k d l m =
    sym (get_or_append_left xs a d k l) ∙ ap (λ (z : List Letter). get_or z k d) (sym e)
    ∙ sym (get_or_append_left put b d k (omega (arith, ap length e, length-append xs a))) ∙ ap (λ (z : List Letter). get_or z k d) i

agree_long : (xs a put b all : List Letter) → put ≡ xs ++ a → put ≡ all ++ b → Agree xs all
agree_long xs a put b all e i k d l m =
    sym (get_or_append_left xs a d k l) ∙ ap (λ (z : List Letter). get_or z k d) (sym e ∙ i) ∙ get_or_append_left all b d k m

put_same : (q to : ℕ) (x : Letter) (ds : List Act) → q ≡ to → put_back q (Sent to x ∷ ds) ≡ put_back q ds ++ x ∷ []
put_same q to x ds e = grind (arith, nat_tests)

put_other : (q to : ℕ) (x : Letter) (ds : List Act) → q ≢ to → put_back q (Sent to x ∷ ds) ≡ put_back q ds
put_other q to x ds e = grind (arith, nat_tests)

taken_same : (q from : ℕ) (x : Letter) (ds : List Act) → q ≡ from → taken_back q (Took from x ∷ ds) ≡ taken_back q ds ++ x ∷ []
taken_same q from x ds e = grind (arith, nat_tests)

taken_other : (q from : ℕ) (x : Letter) (ds : List Act) → q ≢ from → taken_back q (Took from x ∷ ds) ≡ taken_back q ds
taken_other q from x ds e = grind (arith, nat_tests)

to_same : (q to : ℕ) (x : Letter) (ds : List Act) → q ≡ to → put_to q (Sent to x ∷ ds) ≡ x ∷ put_to q ds
to_same q to x ds e = grind (arith, nat_tests)

to_other : (q to : ℕ) (x : Letter) (ds : List Act) → q ≢ to → put_to q (Sent to x ∷ ds) ≡ put_to q ds
to_other q to x ds e = grind (arith, nat_tests)

of_same : (q from : ℕ) (x : Letter) (ds : List Act) → q ≡ from → taken_of q (Took from x ∷ ds) ≡ x ∷ taken_of q ds
of_same q from x ds e = grind (arith, nat_tests)

of_other : (q from : ℕ) (x : Letter) (ds : List Act) → q ≢ from → taken_of q (Took from x ∷ ds) ≡ taken_of q ds
of_other q from x ds e = grind (arith, nat_tests)

pub put_turned : (q : ℕ) (ds acc : List Act) → put_back q (back ds acc) ≡ put_back q acc ++ put_to q ds
put_turned q [] acc = sym (append-nil (put_back q acc))
put_turned q (Sent to x ∷ ds) acc = put_turned q ds (Sent to x ∷ acc) ∙ elim (cases_eq q to) [
  | inl e ↦ ap (λ (z : List Letter). z ++ put_to q ds) (put_same q to x acc e) ∙ append_assoc (put_back q acc) (x ∷ []) (put_to q ds)
      ∙ ap (λ (z : List Letter). put_back q acc ++ z) (sym (to_same q to x ds e))
  | inr e ↦ ap (λ (z : List Letter). z ++ put_to q ds) (put_other q to x acc e) ∙ ap (λ (z : List Letter). put_back q acc ++ z)
      (sym (to_other q to x ds e))
]
put_turned q (Took from x ∷ ds) acc = put_turned q ds (Took from x ∷ acc)
put_turned q (Worked ∷ ds) acc = put_turned q ds (Worked ∷ acc)

pub taken_turned : (q : ℕ) (ds acc : List Act) → taken_back q (back ds acc) ≡ taken_back q acc ++ taken_of q ds
taken_turned q [] acc = sym (append-nil (taken_back q acc))
taken_turned q (Sent to x ∷ ds) acc = taken_turned q ds (Sent to x ∷ acc)
taken_turned q (Took from x ∷ ds) acc = taken_turned q ds (Took from x ∷ acc) ∙ elim (cases_eq q from) [
  | inl e ↦ ap (λ (z : List Letter). z ++ taken_of q ds) (taken_same q from x acc e) ∙ append_assoc (taken_back q acc) (x ∷ [])
      (taken_of q ds) ∙ ap (λ (z : List Letter). taken_back q acc ++ z) (sym (of_same q from x ds e))
  | inr e ↦ ap (λ (z : List Letter). z ++ taken_of q ds) (taken_other q from x acc e) ∙ ap (λ (z : List Letter). taken_back q acc ++ z)
      (sym (of_other q from x ds e))
]
taken_turned q (Worked ∷ ds) acc = taken_turned q ds (Worked ∷ acc)

agree_tail : (q from : ℕ) (x : Letter) (ds : List Act) (zs : List Letter) → Agree (taken_back q (Took from x ∷ ds)) zs
    → Agree (taken_back q ds) zs
agree_tail q from x ds zs h = elim (cases_eq q from) [
  | inl e ↦ agree_front (taken_back q ds) (x ∷ []) zs (subst (λ (z : List Letter). Agree z zs) (taken_same q from x ds e) h)
  | inr e ↦ subst (λ (z : List Letter). Agree z zs) (taken_other q from x ds e) h
]

-- the letter at an index
last_is : (xs up more all : List Letter) (x y : Letter) → Agree (xs ++ x ∷ []) all → all ≡ (up ++ y ∷ []) ++ more → length up ≡ length xs
    → x ≡ y
last_is xs up more all x y h e l =
    let k : ℕ = length xs in
    let a : get_or (xs ++ x ∷ []) k x ≡ x = get_or_at xs x [] x k refl in
    let b : get_or all k x ≡ y = ap (λ (z : List Letter). get_or z k x) (e ∙ append_assoc up (y ∷ []) more) ∙ get_or_at up y more x k l in
    sym a ∙ h k x (omega (arith, length-append xs (x ∷ []))) (omega (
      arith,
      ap length e,
      length-append (up ++ y ∷ []) more,
      length-append up (y ∷ []),
    )) ∙ b

-- what is known of a work for one plan
abbrev pub WorksBy : {S : Type 0} → (ℕ → ℕ → Face) → (ℕ → ℕ → S → Type 0) → ℕ → View S → View S → Type 0
WorksBy rows holds n v w = (t p : ℕ) → p < n → v.face ≡ ready (rows t) p → holds t p v.state → (w.face ≡ rows (t + 1) p)
    × holds (t + 1) p w.state

module _ {S : Type 0} (rows : ℕ → ℕ → Face) (holds : ℕ → ℕ → S → Type 0) (n : ℕ) (meets : (t : ℕ) → Meets n (rows t)) (t : ℕ) where
  abbrev pub Short : ℕ → List Act → View S → Type 0
  Short p ds v = (f : ℕ) × (f ≤ t) × (f ≤ length ds) × StandsAt rows n p f v.face (λ q. put_back q ds) (λ q. length (taken_back q ds))
      (length ds) × holds f p v.state

  abbrev pub Long : ℕ → List Act → Type 0
  Long p ds = (t ≤ length ds) × ((q : ℕ) → q < n → (rest : List Letter) × (put_back q ds ≡ upto rows p q (suc t) ++ rest))

  all_put : (p f : ℕ) (ds : List Act) (u : View S) → StandsAt rows n p f u.face (λ q. put_back q ds) (λ q. length (taken_back q ds))
      (length ds) → u.face.out ≡ [] → f ≡ t →
      (q : ℕ) → q < n → (rest : List Letter) × (put_back q ds ≡ upto rows p q (suc t) ++ rest)
  all_put p f ds u h o e q l = (
    [],
    sym (append-nil (put_back q ds)) ∙ ap (λ (z : List (ℕ × Letter)). put_back q ds ++ for_node q z) (sym o) ∙ h.sent_is q l
        ∙ ap (λ (k : ℕ). upto rows p q (suc k)) e
        ∙ sym (append-nil (upto rows p q (suc t))),
  )

  pub run : (p : ℕ) → p < n → (start : View S) → start.face ≡ rows 0 p → holds 0 p start.state → (ds : List Act) (v : View S)
      → LatestFirst (WorksBy rows holds n) start ds v →
      ((q : ℕ) → q < n → Agree (taken_back q ds) (upto rows q p t)) → Short p ds v ⊎ Long p ds
  run p lp start es hs [] v h agree =
      inl (
        0,
        omega arith,
        omega arith,
        begin_stand rows n p v.face (λ q. []) (λ q. 0) meets lp (ap (λ (w : View S). w.face) h ∙ es)
            (λ q. refl) (λ q. refl),
        subst (λ (w : View S). holds 0 p w.state) (sym h) hs,
      )
  run p lp start es hs (Sent to x ∷ ds) v (u, hu, (due, posts)) agree = elim (run p lp start es hs ds u hu agree) [
    | inl s ↦
        let d : (y : Letter) × (rest : List (ℕ × Letter)) × (u.face.out ≡ (to, y) ∷ rest) = is_send u.face to due in
        let o : u.face.out ≡ (to, x) ∷ posts.1 = posts.2
        ∙ ap (λ (k : ℕ). (k, x) ∷ posts.1) (first_same posts.0 to x d.0 posts.1 d.1 (sym posts.2 ∙ d.2)) in
        inl (
          s.0,
          s.1,
          omega (arith, s.2),
          subst (λ (w : View S). StandsAt rows n p s.0 w.face (λ q. put_back q (Sent to x ∷ ds)) (λ q. length (taken_back q ds))
              (suc (length ds))) (sym posts.3)
              (send_stand rows n p s.0 u.face to x posts.1 (λ q. put_back q ds) (λ q. put_back q (Sent to x ∷ ds))
              (λ q. length (taken_back q ds)) (length ds) (suc (length ds)) s.3 o (put_same to to x ds refl)
              (λ q e. put_other q to x ds e) (sym (add-one (length ds)))),
          subst (λ (w : View S). holds s.0 p w.state) (sym posts.3) s.4,
        )
    | inr s ↦ inr (
      omega (arith, s.0),
      λ q l. elim (cases_eq q to) [
        | inl e ↦ (
          (s.1 q l).0 ++ x ∷ [],
          put_same q to x ds e ∙ ap (λ (z : List Letter). z ++ x ∷ []) (s.1 q l).1
              ∙ append_assoc (upto rows p q (suc t)) (s.1 q l).0 (x ∷ []),
        )
        | inr e ↦ ((s.1 q l).0, put_other q to x ds e ∙ (s.1 q l).1)
      ],
    )
  ]
  run p lp start es hs (Worked ∷ ds) v (u, hu, (due, works)) agree =
      let w : (u.face.out ≡ []) × (u.face.due ≡ []) × (u.face.left ≢ 0) = is_work u.face due in
      elim (run p lp start es hs ds u hu agree) [
        | inl s ↦ elim (cases_eq s.0 t) [
          | inl e ↦ inr (omega (arith, s.2, e), all_put p s.0 ds u s.3 w.0 e)
          | inr e ↦
              let next : (v.face ≡ rows (s.0 + 1) p) × holds (s.0 + 1) p v.state =
              works s.0 p lp (is_ready rows n p s.0 u.face (λ q. put_back q ds) (λ q. length (taken_back q ds)) (length ds) s.3 w.0 w.1)
              s.4 in
              inl (
                suc s.0,
                omega (arith, s.1, e),
                omega (arith, s.2),
                work_stand rows n p s.0 u.face v.face (λ q. put_back q ds) (λ q. length (taken_back q ds)) (length ds) (suc (length ds))
                    meets lp s.3 w.0 w.1 w.2
                    (next.0 ∙ ap (λ (k : ℕ). rows k p) (add-one s.0)) (sym (add-one (length ds))),
                subst (λ (k : ℕ). holds k p v.state) (add-one s.0) next.1,
              )
        ]
        | inr s ↦ inr (omega (arith, s.0), s.1)
      ]
  run p lp start es hs (Took from x ∷ ds) v (u, hu, (due, takes)) agree =
      let d : (u.face.out ≡ []) × ((w : Wanted) × (rest : List (ℕ × Wanted)) × (u.face.due ≡ (from, w) ∷ rest)) = is_take u.face from due in
      elim (run p lp start es hs ds u hu (λ q l. agree_tail q from x ds (upto rows q p t) (agree q l))) [
        | inl s ↦ elim (cases_eq s.0 t) [
          | inl e ↦ inr (omega (arith, s.2, e), all_put p s.0 ds u s.3 d.0 e)
          | inr e ↦
              let wanted : Wanted = takes.1 in
              let rest : List (ℕ × Wanted) = takes.2 in
              let o : u.face.due ≡ (from, wanted) ∷ rest = takes.3
              ∙ ap (λ (k : ℕ). (k, wanted) ∷ rest) (first_wanted takes.0 from wanted d.1.0 rest d.1.1 (sym takes.3 ∙ d.1.2)) in
              let lfn : from < n = (ascends_mid p n 0 s.3.fetched from wanted rest
              (subst (λ (z : List (ℕ × Wanted)). Ascends p n 0 (nodes_in z)) (sym s.3.due
              ∙ ap (λ (z : List (ℕ × Wanted)). s.3.fetched ++ z) o) ((meets s.0).due p lp))).0 in
              let one : (y : Letter) × (for_node p (rows s.0 from).out ≡ y ∷ []) × Fits wanted y
              × (length (upto rows from p s.0) ≡ length (taken_back from ds)) =
              planned_one rows n from p s.0 u.face wanted rest (λ q. put_back q ds) (λ q. length (taken_back q ds)) (length ds) meets lfn
              lp s.3 o in
              let m : (more : List Letter) × (upto rows from p t ≡ upto rows from p (suc s.0) ++ more) = upto_more rows from p (suc s.0) t
              (omega (arith, s.1, e)) in
              let same : x ≡ one.0 =
              last_is (taken_back from ds) (upto rows from p s.0) m.0 (upto rows from p t) x one.0
              (subst (λ (z : List Letter). Agree z (upto rows from p t)) (taken_same from from x ds refl) (agree from lfn))
              (m.1 ∙ ap (λ (z : List Letter). (upto rows from p s.0 ++ z) ++ m.0) one.1) one.3 in
              inl (
                s.0,
                s.1,
                omega (arith, s.2),
                subst (λ (w : View S). StandsAt rows n p s.0 w.face (λ q. put_back q ds) (λ q. length (taken_back q (Took from x ∷ ds)))
                    (suc (length ds))) (sym takes.5)
                    (take_stand rows n from p s.0 u.face x wanted rest (λ q. put_back q ds) (λ q. length (taken_back q ds))
                    (λ q. length (taken_back q (Took from x ∷ ds))) (length ds) (suc (length ds)) s.3 d.0 o
                    (one.1 ∙ ap (λ (z : Letter). z ∷ []) (sym same))
                    (ap length (taken_same from from x ds refl) ∙ length-append (taken_back from ds) (x ∷ []))
                    (λ q ne. ap length (taken_other q from x ds ne)) (sym (add-one (length ds)))),
                subst (λ (w : View S). holds s.0 p w.state) (sym takes.5) s.4,
              )
        ]
        | inr s ↦ inr (omega (arith, s.0), s.1)
      ]

module _ {S : Type 0} (rows : ℕ → ℕ → Face) (holds : ℕ → ℕ → S → Type 0) (n : ℕ) (meets : (t : ℕ) → Meets n (rows t))
    (acts : ℕ → List Act) (views : ℕ → View S) (sent : ℕ → ℕ → List Letter)
    (follows : (p : ℕ) → p < n → (start : View S) × (start.face ≡ rows 0 p) × holds 0 p start.state
    × LatestFirst (WorksBy rows holds n) start (acts p) (views p))
    (puts : (p q : ℕ) → p < n → q < n → (rest : List Letter) × (put_back q (acts p) ≡ sent p q ++ rest))
    (takes : (p q : ℕ) → p < n → q < n → (rest : List Letter) × (sent p q ≡ taken_back p (acts q) ++ rest)) where
  -- the letters up to each phase are the plan's, whoever took them
  pub law_by : (t p q : ℕ) → p < n → q < n → Agree (taken_back p (acts q)) (upto rows p q t)
  law_by zero p q lp lq = λ k d a b. absurd (omega arith)
  law_by (suc t) p q lp lq =
      let a : (rest : List Letter) × (put_back q (acts p) ≡ sent p q ++ rest) = puts p q lp lq in
      let b : (rest : List Letter) × (sent p q ≡ taken_back p (acts q) ++ rest) = takes p q lp lq in
      let e : put_back q (acts p) ≡ taken_back p (acts q) ++ (b.0 ++ a.0) = a.1 ∙ ap (λ (z : List Letter). z ++ a.0) b.1
      ∙ append_assoc (taken_back p (acts q)) b.0 a.0 in
      let f : (start : View S) × (start.face ≡ rows 0 p) × holds 0 p start.state × LatestFirst (WorksBy rows holds n) start (acts p)
      (views p) = follows p lp in
      elim (run rows holds n meets t p lp f.0 f.1 f.2 (acts p) (views p) f.3 (λ r l. law_by t r p l lp)) [
        | inl s ↦
            let m : (more : List Letter) × (upto rows p q (suc t) ≡ upto rows p q (suc s.0) ++ more) = upto_more rows p q (suc s.0)
            (suc t) (omega (arith, s.1)) in
            agree_short (taken_back p (acts q)) (b.0 ++ a.0) (put_back q (acts p)) (for_node q (views p).face.out ++ m.0)
            (upto rows p q (suc t)) e
            (sym (append_assoc (put_back q (acts p)) (for_node q (views p).face.out) m.0)
            ∙ ap (λ (z : List Letter). z ++ m.0) (s.3.sent_is q lq) ∙ sym m.1)
        | inr s ↦ agree_long (taken_back p (acts q)) (b.0 ++ a.0) (put_back q (acts p)) (s.1 q lq).0 (upto rows p q (suc t)) e (s.1 q lq).1
      ]

  -- each node stands at its place in the plan, with what it put and took
  pub all_stand : (p : ℕ) → p < n → (f : ℕ) × StandsAt rows n p f (views p).face (λ q. put_back q (acts p))
      (λ q. length (taken_back q (acts p))) (length (acts p)) × holds f p (views p).state
  all_stand p lp =
      let f : (start : View S) × (start.face ≡ rows 0 p) × holds 0 p start.state × LatestFirst (WorksBy rows holds n) start (acts p)
      (views p) = follows p lp in
      elim (run rows holds n meets (suc (length (acts p))) p lp f.0 f.1 f.2 (acts p) (views p) f.3
      (λ r l. law_by (suc (length (acts p))) r p l lp)) [
        | inl s ↦ (s.0, s.3, s.4)
        | inr s ↦ absurd (omega (arith, s.0))
      ]

-- what follows by all plans follows by one
by_one : {P S : Type 0} (is : P → Type 0) (count : P → ℕ) (rows : P → ℕ → ℕ → Face) (holds : P → ℕ → ℕ → S → Type 0) (plan : P) → is plan
    → (start : View S) (ds : List Act) (v : View S) →
    LatestFirst (WorksFor is count rows holds) start ds v → LatestFirst (WorksBy (rows plan) (holds plan) (count plan)) start ds v
by_one is count rows holds plan i start [] v h = h
by_one is count rows holds plan i start (Sent to x ∷ ds) v (u, h, r) = (u, by_one is count rows holds plan i start ds u h, r)
by_one is count rows holds plan i start (Took from x ∷ ds) v (u, h, r) = (u, by_one is count rows holds plan i start ds u h, r)
by_one is count rows holds plan i start (Worked ∷ ds) v (u, h, (due, works)) = (
  u,
  by_one is count rows holds plan i start ds u h,
  (due, λ t p l e k. works plan t p i l e k),
)

-- the next letter that was sent to a node that waits for one fits
next_fits : (rows : ℕ → ℕ → Face) (knows : ℕ → ℕ → Type 0) (n : ℕ) → ((t : ℕ) → Meets n (rows t))
    → (views : ℕ → Face) (put : ℕ → ℕ → List Letter) (taken : ℕ → ℕ → ℕ) (moves : ℕ → ℕ) →
    AllStand rows knows n views put taken moves → (p q : ℕ) → p < n → q < n → (sent rest : List Letter) → put p q ≡ sent ++ rest →
    (wanted : Wanted) (due : List (ℕ × Wanted)) → (views q).due ≡ (p, wanted) ∷ due → taken p q < length sent → (d : Letter)
    → Fits wanted (get_or sent (taken p q) d)
next_fits rows knows n meets views put taken moves h p q lp lq sent rest e wanted due is more d =
    let hp : (g : ℕ) × StandsAt rows n p g (views p) (put p) (λ r. taken r p) (moves p) × knows g p = h p lp in
    let hq : (f : ℕ) × StandsAt rows n q f (views q) (put q) (λ r. taken r q) (moves q) × knows f q = h q lq in
    let k : ℕ = taken p q in
    let l : k < length (put p q) = omega (arith, ap length e, length-append sent rest) in
    let f : Fits wanted (get_or (put p q) k d) × (for_node q (rows hq.0 p).out ≡ get_or (put p q) k d ∷ []) =
    front_is rows n p q hq.0 hp.0 (views p) (views q) wanted due (put p) (put q) (λ r. taken r p) (λ r. taken r q) (moves p)
    (moves q) d meets lp lq hp.1 hq.1 is l in
    subst (λ (z : Letter). Fits wanted z) (ap (λ (z : List Letter). get_or z k d) e ∙ get_or_append_left sent rest d k more) f.0

no_more : (a b : List Letter) → length b ≡ 0 → a ++ b ≡ a
no_more a [] e = append-nil a
no_more a (x ∷ b) e = absurd (omega arith)

whole_lists : (put sent taken all a b : List Letter) → put ≡ sent ++ a → sent ≡ taken ++ b → put ≡ all → length taken ≡ length all
    → (sent ≡ all) × (taken ≡ all)
whole_lists put sent taken all a b e i k l =
    let j : length put ≡ length sent + length a = ap length e ∙ length-append sent a in
    let m : length sent ≡ length taken + length b = ap length i ∙ length-append taken b in
    let za : length a ≡ 0 = omega (arith, j, m, l, ap length k) in
    let zb : length b ≡ 0 = omega (arith, j, m, l, ap length k) in
    let s : sent ≡ all = sym (no_more sent a za) ∙ sym e ∙ k in
    (s, sym (no_more taken b zb) ∙ sym i ∙ s)

pub lawful : {P S : Type 0} (is : P → Type 0) (count : P → ℕ) (rows : P → ℕ → ℕ → Face) (holds : P → ℕ → ℕ → S → Type 0) (plan : P)
    → is plan → 0 < count plan →
    ((t : ℕ) → Meets (count plan) (rows plan t)) → ((t : ℕ) → (rows plan (t + 1) 0).left ≤ (rows plan t 0).left - 1) →
    (acts : ℕ → List Act) (views : ℕ → View S) (sent : ℕ → ℕ → List Letter)
    → AreHistories (rows plan) (holds plan) (WorksFor is count rows holds) (count plan) acts views sent →
    AreLawful (rows plan) (holds plan) (count plan) acts views sent
lawful {P} {S} is count rows holds plan i some meets falls acts views sent h =
    let n : ℕ = count plan in
    let turned : ℕ → List Act = λ p. back (acts p) [] in
    let follows : (p : ℕ) → p < n → (start : View S) × (start.face ≡ rows plan 0 p) × holds plan 0 p start.state
    × LatestFirst (WorksBy (rows plan) (holds plan) n) start (turned p) (views p) =
    λ p l. (
      (h.begun p l).0,
      (h.begun p l).1,
      (h.begun p l).2,
      by_one is count rows holds plan i (h.begun p l).0 (turned p) (views p) (back_follows (WorksFor is count rows holds) (h.begun p l).0
          (h.begun p l).0 [] (acts p) (views p) refl (h.begun p l).3),
    ) in
    let puts : (p q : ℕ) → p < n → q < n → (rest : List Letter) × (put_back q (turned p) ≡ sent p q ++ rest) =
    λ p q lp lq. ((h.put p q lp lq).0, put_turned q (acts p) [] ∙ (h.put p q lp lq).1) in
    let takes : (p q : ℕ) → p < n → q < n → (rest : List Letter) × (sent p q ≡ taken_back p (turned q) ++ rest) =
    λ p q lp lq. (
      (h.taken p q lp lq).0,
      (h.taken p q lp lq).1 ∙ ap (λ (z : List Letter). z ++ (h.taken p q lp lq).0)
          (sym (taken_turned p (acts q) [])),
    ) in
    let at : AllStand (rows plan) (KnowsBy (holds plan) views) n (λ p. (views p).face) (λ p q. put_to q (acts p))
    (λ p q. length (taken_of p (acts q))) (λ p. length (acts p)) = λ p lp.
    let s : (f : ℕ) × StandsAt (rows plan) n p f (views p).face (λ q. put_back q (turned p)) (λ q. length (taken_back q (turned p)))
    (length (turned p)) × holds plan f p (views p).state =
    all_stand (rows plan) (holds plan) n meets turned views sent follows puts takes p lp in (
      s.0,
      stand_eq (rows plan) n p s.0 (views p).face (views p).face (λ q. put_back q (turned p)) (λ q. put_to q (acts p))
          (λ q. length (taken_back q (turned p))) (λ q. length (taken_of q (acts p)))
          (length (turned p)) (length (acts p)) s.1 refl (λ q l. sym (put_turned q (acts p) []))
          (λ q l. ap length (sym (taken_turned q (acts p) []))) (let j : length (acts p) ≡ length (back (acts p) []) = omega
          (arith, back_length (acts p) []) in j),
      s.2,
    ) in
    record {
      at = at;
      prefix = λ p q lp lq. (suc (at p lp).0, for_node q (views p).face.out, sym ((at p lp).1.sent_is q lq));
      fits = λ p q lp lq due more.
          let d : ((views q).face.out ≡ []) × ((w : Wanted) × (rest : List (ℕ × Wanted)) × ((views q).face.due ≡ (p, w) ∷ rest)) =
          is_take (views q).face p due in (
            d.1.0,
            d.1.1,
            d.1.2,
            λ dflt. next_fits (rows plan) (KnowsBy (holds plan) views) n meets (λ r. (views r).face) (λ r s. put_to s (acts r))
                (λ r s. length (taken_of r (acts s))) (λ r. length (acts r)) at p q lp lq
                (sent p q) (h.put p q lp lq).0 (h.put p q lp lq).1 d.1.0 d.1.1 d.1.2 more dflt,
          );
      over = λ done.
          let o : (t : ℕ) × IsOver (rows plan) (KnowsBy (holds plan) views) n t (λ p. (views p).face) (λ p q. put_to q (acts p))
          (λ p q. length (taken_of p (acts q))) (λ p. length (acts p)) =
          is_over (rows plan) n meets falls (KnowsBy (holds plan) views) (λ p. (views p).face) (λ p q. put_to q (acts p))
          (λ p q. length (taken_of p (acts q))) (λ p. length (acts p)) at done some in (
            o.0,
            o.1,
            λ p q lp lq. whole_lists (put_to q (acts p)) (sent p q) (taken_of p (acts q)) (upto (rows plan) p q o.0) (h.put p q lp lq).0
                (h.taken p q lp lq).0
                (h.put p q lp lq).1 (h.taken p q lp lq).1 (o.1.sent_is p q lp lq) (o.1.taken_is p q lp lq),
          );
    }
