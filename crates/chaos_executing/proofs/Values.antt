-- The ghost of each element that a node reads of another has the element's value before the loop.
use Rattle.std.proofs.Common.{◌≡◌, ℕ, ◌<◌, ℤ, pos, true, false, ◌==◌, List, [], ◌∷◌, Option, Some, ap, sym, subst, ◌∙◌, inl, inr}
use Rattle.std.specs.Prelude.{slice_get, IsSomeAnd}
use Rattle.std.specs.List.{AllZip}
use Rattle.fd_words.specs.Lists.{list_at}
use Rattle.chaos_dist.specs.Counting.{below}
use Rattle.fd_program.specs.Cells.{Cell}
use Rattle.fd_program.specs.Homes.{uses_at, owner_met, executed_by, cell_of, cells_of, needed_of}
use Rattle.fd_program.specs.ListLaws.{Among}
use Rattle.fd_program.specs.Stores.{element, number_at}
use Rattle.fd_words.specs.Roles.{is_read}
use Rattle.fd_program.specs.declared.loop_facts.LoopFacts.{LoopFacts}
use Rattle.fd_program.specs.declared.loop_use.Use.{Use}
use Rattle.chaos_sched.specs.declared.prepared.Prepared.{Prepared}
use Rattle.chaos_move.specs.Moves.{value_at}
use Rattle.plan_tables.specs.Fits.{IsOther, slot_for}
use Rattle.plan_loop.specs.LoopLetters.{value_before}
use Rattle.chaos_execute.specs.Executed.{IsReady, ghosts_gathered}
use Rattle.chaos_execute.proofs.Booleans.{never, number_true}
use Rattle.chaos_execute.proofs.Gathered.{IsMetBy, from_between, met_among, reached, cell_is, ghost_value}
use Rattle.chaos_execute.proofs.Lists.{below_among, listed_among}

-- what an element of the first list is paired with
zip_among : {A B : Type 0} (R : A → B → Type 0) (xs : List A) (ys : List B) (x : A) → AllZip R xs ys → Among x xs → (y : B) × R x y
zip_among R [] ys x h a = absurd a
zip_among R (v ∷ xs) [] x h a = absurd h
zip_among R (v ∷ xs) (y ∷ ys) x h (inl e) = (y, subst (λ w. R w y) (sym e) h.0)
zip_among R (v ∷ xs) (y ∷ ys) x h (inr a) = zip_among R xs ys x h.1 a

some_and : {T : Type 0} (P : T → Type 0) (o : Option T) (x : T) → o ≡ Some x → P x → IsSomeAnd o P
some_and P o x e h = subst (λ o. IsSomeAnd o P) (sym e) h

module _ (f : LoopFacts) (owners : List (List ℕ)) (store : List (List ℤ)) (slots : ℕ → ℕ → Option ℕ) (p : ℕ) (kept : Prepared)
    (ghosts : List (List ℤ)) (ready : IsReady f owners store slots p kept ghosts) where
  -- the ghost of an element that one of the node's iterations reads
  value_here : (i : ℤ) (u : Use) (x : Cell) (slot : ℕ) → Among i (executed_by f owners store p) → Among u (uses_at f store i)
      → is_read u.role ≡ true
      → (p == owner_met f owners u) ≡ false → x ≡ cell_of u → slot_for f slots x.array (pos x.element) ≡ Some slot
      → number_at (list_at (ghosts_gathered f owners store p kept ghosts) x.array) slot ≡ value_before store x
  value_here i u x slot executed used read apart same there =
      let z_is : u.subscript ≡ pos (cell_of u).element = cell_is f owners store ready.site ready.none u
      (reached f owners store ready.site ready.none p i u executed used) in
      let at : slot_for f slots u.array u.subscript ≡ Some slot =
      ap (slot_for f slots u.array) z_is ∙ ap (λ (c : Cell). slot_for f slots c.array (pos c.element)) (sym same) ∙ there in
      ap (λ (c : Cell). value_at (ghosts_gathered f owners store p kept ghosts) c.array slot) same
      ∙ ghost_value f owners store slots p kept ghosts ready i u slot executed used read
      (λ here. never (sym (number_true p (owner_met f owners u) (sym here)) ∙ apart)) at
      ∙ ap (element store u.array) z_is
      ∙ ap (value_before store) (sym same)

  -- an element that is fetched has a slot
  slot_is : (q : ℕ) (x : Cell) → q < f.nodes → Among x (needed_of f owners store p q) → (slot : ℕ)
      × (slot_for f slots x.array (pos x.element) ≡ Some slot)
  slot_is q x node among =
      let fetched = zip_among (λ q items. AllZip (IsOther f owners slots) (needed_of f owners store p q) items) (below f.nodes)
      kept.schedule.gather_fetch q ready.fits.gather_fetch (below_among f.nodes q node) in
      let item = zip_among (IsOther f owners slots) (needed_of f owners store p q) fetched.0 x fetched.1 among in
      (item.0.slot, item.1.1)

  read_here : (q : ℕ) (x : Cell) → Among x (needed_of f owners store p q) → ((p == q) ≡ false) × IsMetBy f owners store is_read p q x
  read_here q x among =
      let apart = from_between f owners store p q x (cells_of f owners store is_read p q) among in
      (apart.0, met_among f owners store is_read p q x apart.1)

  owner_is_node : (q : ℕ) (x : Cell) → IsMetBy f owners store is_read p q x → q < f.nodes
  owner_is_node q x m =
      let r = reached f owners store ready.site ready.none p m.i m.u m.executed m.used in
      subst (λ n. n < f.nodes) m.owner (ready.owned m.u.array m.u.subscript r.array r.within).2

  pub ghosts_are_values : (q i : ℕ) (x : Cell) → slice_get (needed_of f owners store p q) i ≡ Some x
      → IsSomeAnd (slot_for f slots x.array (pos x.element))
      (λ slot. number_at (list_at (ghosts_gathered f owners store p kept ghosts) x.array) slot ≡ value_before store x)
  ghosts_are_values q i x e =
      let among = listed_among (needed_of f owners store p q) i x e in
      let here = read_here q x among in
      let m = here.1 in
      let found = slot_is q x (owner_is_node q x m) among in
      some_and (λ slot. number_at (list_at (ghosts_gathered f owners store p kept ghosts) x.array) slot ≡ value_before store x)
      (slot_for f slots x.array (pos x.element)) found.0 found.1
      (value_here m.i m.u x found.0 m.executed m.used m.wanted (subst (λ n. (p == n) ≡ false) (sym m.owner) here.0) m.cell found.1)
