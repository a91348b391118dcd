-- What a turn needs and keeps.
use Rattle.std.proofs.Common.{◌≡◌, ℕ, suc, zero, ◌+◌, ◌*◌, ◌<◌, ◌≤◌, List, [], ◌∷◌, ◌++◌, length, get_or, set, map, slice_get, Some}
use Rattle.std.proofs.Common.{refl, sym, ◌∙◌, ap, subst, arith, Bool, true, false, Ok}
use Rattle.std.proofs.lemmas.List.{length-map, map-set}
use Rattle.std.proofs.lemmas.Option.{slice_get_within, get_or_from_slice_get}
use Rattle.chaos_letter.specs.declared.letter.Letter.{Letter}
use Rattle.chaos_letter.specs.declared.wanted.Wanted.{Wanted}
use Rattle.chaos_letter.specs.Fits.{Fits}
use Rattle.bsp_core.specs.declared.phased.Want.{Want}
use Rattle.bsp_core.specs.declared.phased.Want.TheVariants.{Send, Take, Work}
use Rattle.bsp_core.specs.Lists.{OnOkTrue}
use Rattle.bsp_core.specs.Views.{Face, View, Meets, ready, next_of, Posts, Takes, sent_from, taken_into}
use Rattle.bsp_core.specs.Lockstep.{StandsAt}
use Rattle.bsp_core.specs.Turns.{ListsInLockstep, weight, total, sent_of, taken_of_pair, moves_of, world_state, Moves, Sends, TakesUp}
use Rattle.bsp_core.specs.Turns.{Works, WorldState, Acted}
use Rattle.bsp_core.proofs.Places.{is_ready, row_room}
use Rattle.bsp_core.proofs.Dues.{is_send, is_take, is_work, first_same, first_wanted}
use Rattle.bsp_core.proofs.Scene.{stand_at, count_at, place_in, get_map, send_at_place, take_at_place, work_at_place}

falls_by : (a b c d e f : ℕ) → a + b ≡ c + d → b ≡ e → d < e → f ≡ a → f < c
falls_by a b c d e f h i j k = omega arith

total_set : {S : Type 0} (xs : List (View S)) (i : ℕ) (w d : View S) → i < length xs → total (set xs i w) + weight (get_or xs i d).face
    ≡ total xs + weight w.face
total_set [] i w d l = absurd (omega arith)
total_set (x ∷ xs) zero w d l = omega arith
total_set (x ∷ xs) (suc i) w d l = omega (arith, total_set xs i w d (omega arith))

falls_at : {N S : Type 0} (view : N → View S) (nodes nodes' : List N) (p : ℕ) (v w : N) → slice_get nodes p ≡ Some v
    → nodes' ≡ set nodes p w →
    weight (view w).face < weight (view v).face → total (map view nodes') < total (map view nodes)
falls_at {N} {S} view nodes nodes' p v w e en l =
    let lp : p < length (map view nodes) = omega (arith, slice_get_within nodes p v e, length-map nodes view) in
    let a : get_or (map view nodes) p (view v) ≡ view v = get_or_from_slice_get (map view nodes) p (view v) (view v)
    (get_map view nodes p v e) in
    let b : map view nodes' ≡ set (map view nodes) p (view w) = ap (λ (z : List N). map view z) en ∙ map-set view nodes p w in
    let t : total (set (map view nodes) p (view w)) + weight (get_or (map view nodes) p (view v)).face ≡ total (map view nodes)
    + weight (view w).face = total_set (map view nodes) p (view w) (view v) lp in
    falls_by (total (set (map view nodes) p (view w))) (weight (get_or (map view nodes) p (view v)).face) (total (map view nodes))
    (weight (view w).face) (weight (view v).face) (total (map view nodes'))
    t (ap (λ (u : View S). weight u.face) a) l (ap (λ (z : List (View S)). total z) b)

send_less : (v : Face) (to : ℕ) (x : Letter) (rest : List (ℕ × Letter)) → v.out ≡ (to, x) ∷ rest → weight (sent_from v rest) < weight v
send_less v to x rest e = omega (arith, ap length e)

take_less : (v : Face) (from : ℕ) (y : Wanted) (rest : List (ℕ × Wanted)) (x : Letter) → v.due ≡ (from, y) ∷ rest
    → weight (taken_into v rest x) < weight v
take_less v from y rest x e = omega (arith, ap length e)

pub send_falls : {N S : Type 0} (view : N → View S) (nodes nodes' : List N) (p : ℕ) (v w : N) (x : Letter) → slice_get nodes p ≡ Some v
    → Posts (view v) x (view w) →
    nodes' ≡ set nodes p w → total (map view nodes') < total (map view nodes)
send_falls {N} {S} view nodes nodes' p v w x e posts en =
    falls_at view nodes nodes' p v w e en (subst (λ (u : View S). weight u.face < weight (view v).face) (sym posts.3)
    (send_less (view v).face posts.0 x posts.1 posts.2))

pub take_falls : {N S : Type 0} (view : N → View S) (nodes nodes' : List N) (p : ℕ) (v w : N) (x : Letter) → slice_get nodes p ≡ Some v
    → Takes (view v) x (view w) →
    nodes' ≡ set nodes p w → total (map view nodes') < total (map view nodes)
take_falls {N} {S} view nodes nodes' p v w x e takes en =
    falls_at view nodes nodes' p v w e en (subst (λ (u : View S). weight u.face < weight (view v).face) (sym takes.5)
    (take_less (view v).face takes.0 takes.1 takes.2 x takes.3))

work_less : (v w r : Face) → v.out ≡ [] → v.due ≡ [] → w.left < v.left → w ≡ r → length r.out + length r.due ≤ 32 → weight w < weight v
work_less v w r o d l e room = omega (arith, ap (λ (u : Face). length u.out + length u.due) e)

-- what is due of a node that is read twice
due_is : {N S : Type 0} (view : N → View S) (nodes : List N) (p : ℕ) (u v : N) (want : Want) → slice_get nodes p ≡ Some u
    → want ≡ next_of (view u).face → slice_get nodes p ≡ Some v → next_of (view v).face ≡ want
due_is {N} view nodes p u v want eu due ev =
    let uv : u ≡ v = cc in
    ap (λ (z : N). next_of (view z).face) (sym uv) ∙ sym due

module _ {N S : Type 0} (view : N → View S) (rows : ℕ → ℕ → Face) (holds : ℕ → ℕ → S → Type 0) (n : ℕ) (meets : (t : ℕ) → Meets n (rows t))
    (nodes : List N) (sent : List (List Letter)) (taken moved : List ℕ) (h : ListsInLockstep rows holds n (map view nodes) sent taken
    moved) where
  pub n_is : n ≡ length nodes
  n_is = sym h.views_len ∙ length-map nodes view

  pub stand_in : (p : ℕ) (v : N) → slice_get nodes p ≡ Some v →
      (p < n) × ((f : ℕ) × StandsAt rows n p f (view v).face (sent_of n sent p) (λ q. taken_of_pair n taken q p) (moves_of moved p)
      × holds f p (view v).state)
  stand_in p v e = stand_at rows holds n (map view nodes) sent taken moved p (view v) h (get_map view nodes p v e)

  pub other_in : (p k : ℕ) (v : N) → slice_get nodes p ≡ Some v → k < (view v).face.count → k < length nodes
  other_in p k v e l =
      let at : (p < n) × ((f : ℕ) × StandsAt rows n p f (view v).face (sent_of n sent p) (λ q. taken_of_pair n taken q p)
      (moves_of moved p) × holds f p (view v).state) = stand_in p v e in
      let c : (view v).face.count ≡ n = count_at rows n p at.1.0 (view v).face (sent_of n sent p) (λ q. taken_of_pair n taken q p)
      (moves_of moved p) meets at.0 at.1.1 in
      omega (arith, c, n_is)

  pub place_sent : (p q place : ℕ) → p < length nodes → q < length nodes → place ≡ p * length nodes + q → place < length sent
  place_sent p q place a b e =
      subst (λ (z : ℕ). place < z) (sym h.sent_len)
      (subst (λ (z : ℕ). place < z * z) (sym n_is) (subst (λ (z : ℕ). z < length nodes * length nodes) (sym e)
      (place_in (length nodes) p q a b)))

  pub place_taken : (p q place : ℕ) → p < length nodes → q < length nodes → place ≡ p * length nodes + q → place < length taken
  place_taken p q place a b e =
      subst (λ (z : ℕ). place < z) (sym h.taken_len)
      (subst (λ (z : ℕ). place < z * z) (sym n_is) (subst (λ (z : ℕ). z < length nodes * length nodes) (sym e)
      (place_in (length nodes) p q a b)))

  seen : (p : ℕ) (w : N) (nodes' : List N) (sent' : List (List Letter)) (taken' moved' : List ℕ) → nodes' ≡ set nodes p w
      → moved' ≡ moved ++ p ∷ [] →
      ListsInLockstep rows holds n (set (map view nodes) p (view w)) sent' taken' (moved ++ p ∷ [])
      → ListsInLockstep rows holds n (map view nodes') sent' taken' moved'
  seen p w nodes' sent' taken' moved' en em k =
      subst (λ (z : List (View S)). ListsInLockstep rows holds n z sent' taken' moved') (sym (ap (λ (z : List N). map view z) en
      ∙ map-set view nodes p w))
      (subst (λ (z : List ℕ). ListsInLockstep rows holds n (set (map view nodes) p (view w)) sent' taken' z) (sym em) k)

  pub send_turn : (p place to : ℕ) (u v w : N) (x : Letter) (nodes' : List N) (sent' : List (List Letter)) (moved' : List ℕ) →
      slice_get nodes p ≡ Some u → Send to ≡ next_of (view u).face → to < (view u).face.count → place ≡ p * length nodes + to
      → slice_get nodes p ≡ Some v →
      Posts (view v) x (view w) → nodes' ≡ set nodes p w → sent' ≡ set sent place (get_or sent place [] ++ x ∷ [])
      → moved' ≡ moved ++ p ∷ [] → ListsInLockstep rows holds n (map view nodes') sent' taken moved'
  send_turn p place to u v w x nodes' sent' moved' eu due lt e ev posts en es em =
      let l : to < n = subst (λ (z : ℕ). to < z) (sym n_is) (other_in p to u eu lt) in
      let s : (y : Letter) × (rest : List (ℕ × Letter)) × ((view v).face.out ≡ (to, y) ∷ rest) =
      is_send (view v).face to (due_is view nodes p u v (Send to) eu due ev) in
      let o : (view v).face.out ≡ (to, x) ∷ posts.1 = posts.2
      ∙ ap (λ (k : ℕ). (k, x) ∷ posts.1) (first_same posts.0 to x s.0 posts.1 s.1 (sym posts.2 ∙ s.2)) in
      let k : place ≡ p * n + to = e ∙ ap (λ (z : ℕ). p * z + to) (sym n_is) in
      seen p w nodes' sent' taken moved' en em
      (subst (λ (z : List (List Letter)). ListsInLockstep rows holds n (set (map view nodes) p (view w)) z taken (moved ++ p ∷ [])) (sym es)
      (subst (λ (z : ℕ). ListsInLockstep rows holds n (set (map view nodes) p (view w)) (set sent z (get_or sent z [] ++ x ∷ [])) taken
      (moved ++ p ∷ [])) (sym k)
      (send_at_place rows holds n (map view nodes) sent taken moved p (view v) (view w) to x posts.1 h (get_map view nodes p v ev) l o
      posts.3)))

  taken_here : (p place from : ℕ) (u v : N) (from' : ℕ) (wanted : Wanted) (rest : List (ℕ × Wanted)) (x : Letter) →
      slice_get nodes p ≡ Some u → Take from ≡ next_of (view u).face → from < (view u).face.count → place ≡ from * length nodes + p
      → slice_get nodes p ≡ Some v →
      (view v).face.due ≡ (from', wanted) ∷ rest → slice_get (get_or sent place []) (get_or taken place 0) ≡ Some x →
      (place ≡ from * n + p) × ((view v).face.out ≡ []) × Fits wanted x
      × ((w : View S) → w ≡ record { face = taken_into (view v).face rest x; state = (view v).state } →
      ListsInLockstep rows holds n (set (map view nodes) p w) sent (set taken (from * n + p) (get_or taken (from * n + p) 0 + 1))
      (moved ++ p ∷ []))
  taken_here p place from u v from' wanted rest x eu due lt e ev dues got =
      let l : from < n = subst (λ (z : ℕ). from < z) (sym n_is) (other_in p from u eu lt) in
      let s : ((view v).face.out ≡ []) × ((y : Wanted) × (r : List (ℕ × Wanted)) × ((view v).face.due ≡ (from, y) ∷ r)) =
      is_take (view v).face from (due_is view nodes p u v (Take from) eu due ev) in
      let o : (view v).face.due ≡ (from, wanted) ∷ rest = dues
      ∙ ap (λ (k : ℕ). (k, wanted) ∷ rest) (first_wanted from' from wanted s.1.0 rest s.1.1 (sym dues ∙ s.1.2)) in
      let k : place ≡ from * n + p = e ∙ ap (λ (z : ℕ). from * z + p) (sym n_is) in
      let t = take_at_place rows holds n (map view nodes) sent taken moved p (view v) from wanted rest x meets h (get_map view nodes p v ev)
      l o (subst (λ (z : ℕ). slice_get (get_or sent z []) (get_or taken z 0) ≡ Some x) k got) in
      (k, s.0, t.0, t.1 s.0)

  pub take_fits : (p place from : ℕ) (u v : N) (from' : ℕ) (wanted : Wanted) (rest : List (ℕ × Wanted)) (x : Letter) →
      slice_get nodes p ≡ Some u → Take from ≡ next_of (view u).face → from < (view u).face.count → place ≡ from * length nodes + p
      → slice_get nodes p ≡ Some v →
      (view v).face.due ≡ (from', wanted) ∷ rest → slice_get (get_or sent place []) (get_or taken place 0) ≡ Some x → Fits wanted x
  take_fits p place from u v from' wanted rest x eu due lt e ev dues got =
      (taken_here p place from u v from' wanted rest x eu due lt e ev dues got).2

  pub take_turn : (p place from : ℕ) (u v w : N) (x : Letter) (nodes' : List N) (taken' moved' : List ℕ) →
      slice_get nodes p ≡ Some u → Take from ≡ next_of (view u).face → from < (view u).face.count → place ≡ from * length nodes + p
      → slice_get nodes p ≡ Some v →
      slice_get (get_or sent place []) (get_or taken place 0) ≡ Some x →
      Takes (view v) x (view w) → nodes' ≡ set nodes p w → taken' ≡ set taken place (get_or taken place 0 + 1) → moved' ≡ moved ++ p ∷ []
      → ListsInLockstep rows holds n (map view nodes') sent taken' moved'
  take_turn p place from u v w x nodes' taken' moved' eu due lt e ev got takes en et em =
      let t = taken_here p place from u v takes.0 takes.1 takes.2 x eu due lt e ev takes.3 got in
      seen p w nodes' sent taken' moved' en em
      (subst (λ (z : List ℕ). ListsInLockstep rows holds n (set (map view nodes) p (view w)) sent z (moved ++ p ∷ [])) (sym et)
      (subst (λ (z : ℕ). ListsInLockstep rows holds n (set (map view nodes) p (view w)) sent (set taken z (get_or taken z 0 + 1))
      (moved ++ p ∷ [])) (sym t.0) (t.3 (view w) takes.5)))

  -- wherever the node at q stands at its work, it comes to the next row
  abbrev WorksOn : N → N → Type 0
  WorksOn v w = (t q : ℕ) → q < n → (view v).face ≡ ready (rows t) q → holds t q (view v).state → ((view w).face ≡ rows (t + 1) q)
      × holds (t + 1) q (view w).state

  pub work_turn : (p : ℕ) (u v w : N) (nodes' : List N) (moved' : List ℕ) → slice_get nodes p ≡ Some u → Work ≡ next_of (view u).face
      → slice_get nodes p ≡ Some v → WorksOn v w → nodes' ≡ set nodes p w → moved' ≡ moved ++ p ∷ []
      → ListsInLockstep rows holds n (map view nodes') sent taken moved'
  work_turn p u v w nodes' moved' eu due ev works en em =
      let s = is_work (view v).face (due_is view nodes p u v Work eu due ev) in
      seen p w nodes' sent taken moved' en em (work_at_place rows holds n (map view nodes) sent taken moved p (view v) (view w) meets h
      (get_map view nodes p v ev) s.0 s.1 s.2 works)

  pub work_falls : (p : ℕ) (u v w : N) (nodes' : List N) → length nodes ≤ 16 → slice_get nodes p ≡ Some u → Work ≡ next_of (view u).face
      → slice_get nodes p ≡ Some v → WorksOn v w → (view w).face.left < (view v).face.left → nodes' ≡ set nodes p w →
      total (map view nodes') < total (map view nodes)
  work_falls p u v w nodes' few eu due ev works less en =
      let s = is_work (view v).face (due_is view nodes p u v Work eu due ev) in
      let at : (p < n) × ((f : ℕ) × StandsAt rows n p f (view v).face (sent_of n sent p) (λ q. taken_of_pair n taken q p)
      (moves_of moved p) × holds f p (view v).state) = stand_in p v ev in
      let m : Meets n (rows (at.1.0 + 1)) = meets (at.1.0 + 1) in
      falls_at view nodes nodes' p v w ev en
      (work_less (view v).face (view w).face (rows (at.1.0 + 1) p) s.0 s.1 less
      (works at.1.0 p at.0 (is_ready rows n p at.1.0 (view v).face (sent_of n sent p) (λ q. taken_of_pair n taken q p) (moves_of moved p)
      at.1.1 s.0 s.1) at.1.2).0
      (row_room p n (rows (at.1.0 + 1) p).out (rows (at.1.0 + 1) p).due (omega (arith, n_is)) (m.out p at.0) (m.due p at.0)))

-- what kind of turn it was
moved_by : {N S : Type 0} (view : N → View S) (p : ℕ) (v w : N) (old new : WorldState N) → slice_get old.nodes p ≡ Some v
    → new.nodes ≡ set old.nodes p w → new.moved ≡ old.moved ++ p ∷ [] → Acted view p v w old new → Moves view p old new
moved_by view p v w old new is nodes moved act = record { node = v; after = w; is = is; nodes = nodes; moved = moved; act = act }

pub sends_as : {N S : Type 0} (view : N → View S) (nodes nodes' : List N) (sent sent' : List (List Letter)) (taken moved moved' : List ℕ)
    (p place to : ℕ) (u v w : N) (x : Letter) →
    slice_get nodes p ≡ Some u → Send to ≡ next_of (view u).face → place ≡ p * length nodes + to → slice_get nodes p ≡ Some v →
    Posts (view v) x (view w) → nodes' ≡ set nodes p w → sent' ≡ set sent place (get_or sent place [] ++ x ∷ [])
    → moved' ≡ moved ++ p ∷ [] →
    Moves view p (world_state nodes sent taken moved) (world_state nodes' sent' taken moved')
sends_as view nodes nodes' sent sent' taken moved moved' p place to u v w x eu due e ev posts en es em =
    moved_by view p v w (world_state nodes sent taken moved) (world_state nodes' sent' taken moved') ev en em
    (Sends to x (due_is view nodes p u v (Send to) eu due ev) posts refl
    (es ∙ ap (λ (k : ℕ). set sent k (get_or sent k [] ++ x ∷ [])) e))

pub takes_as : {N S : Type 0} (view : N → View S) (nodes nodes' : List N) (sent : List (List Letter)) (taken taken' moved moved' : List ℕ)
    (p place from : ℕ) (u v w : N) (x : Letter) →
    slice_get nodes p ≡ Some u → Take from ≡ next_of (view u).face → place ≡ from * length nodes + p → slice_get nodes p ≡ Some v →
    slice_get (get_or sent place []) (get_or taken place 0) ≡ Some x →
    Takes (view v) x (view w) → nodes' ≡ set nodes p w → taken' ≡ set taken place (get_or taken place 0 + 1) → moved' ≡ moved ++ p ∷ [] →
    Moves view p (world_state nodes sent taken moved) (world_state nodes' sent taken' moved')
takes_as view nodes nodes' sent taken taken' moved moved' p place from u v w x eu due e ev got takes en et em =
    moved_by view p v w (world_state nodes sent taken moved) (world_state nodes' sent taken' moved') ev en em
    (TakesUp from x (due_is view nodes p u v (Take from) eu due ev) takes refl
    (subst (λ (k : ℕ). slice_get (get_or sent k []) (get_or taken k 0) ≡ Some x) e got)
    (et ∙ ap (λ (k : ℕ). set taken k (get_or taken k 0 + 1)) e))

pub works_as : {N S : Type 0} (view : N → View S) (nodes nodes' : List N) (sent : List (List Letter)) (taken moved moved' : List ℕ)
    (p : ℕ) (u v w : N) →
    slice_get nodes p ≡ Some u → Work ≡ next_of (view u).face → slice_get nodes p ≡ Some v → nodes' ≡ set nodes p w
    → moved' ≡ moved ++ p ∷ [] →
    Moves view p (world_state nodes sent taken moved) (world_state nodes' sent taken moved')
works_as view nodes nodes' sent taken moved moved' p u v w eu due ev en em =
    moved_by view p v w (world_state nodes sent taken moved) (world_state nodes' sent taken moved') ev en em
    (Works (due_is view nodes p u v Work eu due ev) refl refl)

pub on_true : {P : Type 0} (b : Bool) → b ≡ true → OnOkTrue (Ok b) P → P
on_true true e h = h
on_true false e h = absurd (cc)
