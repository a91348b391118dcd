-- A share that is held is that of the run, and so is its move.
use Rattle.std.proofs.Common.{◌≡◌, refl, ℕ, ◌+◌, ◌<◌, ◌≤◌, ℤ, pos, negsuc, ◌+ℤ◌, List, length, map, Option, Some, None, ap, sym, subst, ◌∙◌}
use Rattle.std.proofs.Common.{arith}
use Rattle.std.specs.Prelude.{IfSome, IsSomeAnd, MatchOption, ◌==◌, ◌≤ℤ◌, false, slice_get, true, unwrap_or}
use Rattle.std.specs.List.{list_all}
use Rattle.std.specs.Option.{option_map, option_map_or}
use Rattle.std.proofs.lemmas.Int.{ints}
use Rattle.std.proofs.lemmas.List.Elements.{recursion_from_All}
use Rattle.fd_words.specs.Lists.{list_at}
use Rattle.chaos_dist.specs.Homes.{natural}
use Rattle.chaos_dist.specs.Layout.{given_size}
use Rattle.chaos_dist.specs.Owners.{elements_on, owner_in}
use Rattle.chaos_dist.specs.declared.shape.Shape.{Shape}
use Rattle.chaos_dist.specs.declared.step_form.StepForm.{StepForm}
use Rattle.chaos_dist.specs.declared.step_form.StepForm.TheVariants.{Regular, Map}
use Rattle.chaos_facts.proofs.Owned.{run_keeps_extents}
use Rattle.fd_program.specs.ListLaws.{some_at, all_at}
use Rattle.fd_program.specs.OwnedLaws.{extent_found}
use Rattle.fd_program.specs.StepLaws.{IsStepIn}
use Rattle.chaos_moving.proofs.InRunLaws.{owners_are_by_form, owners_are_nodes, shares_are_held}
use Rattle.chaos_moving.specs.InRun.{owners_after}
use Rattle.chaos_moving.specs.IsMoving.{HasShare, IsMoving}
use Rattle.chaos_moving.specs.declared.moving.Moving.{Moving}
use Rattle.chaos_moving.specs.declared.share.Share.{Share}
use Rattle.chaos_records.proofs.Kept.{move_keeps}
use Rattle.chaos_records.specs.Keeping.{Keeps, is_repeated}
use Rattle.plan_run.specs.Held.{Held}
use Rattle.plan_run.specs.Phases.{arrays_in, moving_stages}
use Rattle.fd_program.specs.Checks.{IsAligned, IsChecked, layout_extent}
use Rattle.fd_program.specs.Layouts.{Scene, owners_at, owners_by, store_at}
use Rattle.fd_program.specs.Past.{is_repeat}
use Rattle.fd_program.specs.Places.{decomposition_of, part_of}
use Rattle.fd_program.specs.StoreLaws.{run_keeps_lengths, length-list_at}
use Rattle.fd_program.specs.Stores.{array_at, no_array}
use Rattle.fd_program.specs.declared.array.ArrayFacts.{ArrayFacts}
use Rattle.fd_program.specs.declared.array.LayoutName.{LayoutName}
use Rattle.fd_program.specs.declared.checked.Checked.{Checked}
use Rattle.fd_program.specs.declared.trace.Step.{Step}
use Rattle.fd_program.specs.declared.trace.Step.TheVariants.{Distribute}
use Rattle.chaos_begin.specs.Begins.{HasMapHere, IsBegun, IsBetween, IsByMap, IsByShape, IsFitMove, IsMoveIn, IsMoveOf, IsFitBegun}
use Rattle.chaos_begin.specs.Begins.{IsShareOf}
use Rattle.chaos_begin.specs.Begins.{IsSoundBetween, has_share, is_within_extent, lists_in}
use Rattle.chaos_begin.specs.declared.begun.Begun.{Begun}
use Rattle.chaos_begin.specs.declared.begun.Begun.TheVariants as begun
use Rattle.chaos_begin.proofs.Pieces.{range_within, some_weaker}
use Rattle.chaos_begin.specs.declared.between.Between.{Between}

abbrev IsHere : Between → ℕ → Share → Type 0
IsHere b d share = IsShareOf b d (layout_extent b.checked.now.layouts d) share

share_held : (s : Scene) (past : List Step) (v : Held) (b : Between) (d : ℕ) (share : Share) → IsBetween s past v b
    → d < length s.checked.layouts → IsHere b d share
    → HasShare share s (owners_at s past) (store_at s past)
share_held s past v b d share between less h =
    let owners = owners_at s past in
    let store = store_at s past in
    let told = shares_are_held s past b.me v between.stands in
    record {
      count = h.nodes ∙ sym between.nodes;
      size = ap (λ k. length (list_at owners k)) h.decomposition
          ∙ run_keeps_extents s past d between.run less
          ∙ ap (λ (c : Checked). layout_extent c.layouts d) between.checked
          ∙ sym h.size;
      owned = owners_are_nodes s past share.decomposition between.run.some_nodes;
      mine = h.elements
          ∙ ap (λ (l : List (List ℤ)). list_at l d) (sym between.elements)
          ∙ told.mine d
          ∙ ap (λ k. map pos (elements_on (list_at owners k) b.me)) (sym h.decomposition)
          ∙ ap (λ p. map pos (elements_on (list_at owners share.decomposition) p)) (sym h.me);
      parts = h.pieces
          ∙ ap (λ c. lists_in c b.parts.now d) (sym between.checked)
          ∙ ap (λ l. lists_in s.checked l d) (sym between.parts)
          ∙ told.pieces d
          ∙ ap (λ k. map (part_of s.checked.arrays owners store b.me) (arrays_in s.checked k)) (sym h.decomposition)
          ∙ ap (λ p. map (part_of s.checked.arrays owners store p) (arrays_in s.checked share.decomposition)) (sym h.me);
    }

-- the new owners, where the share has the extent of the decomposition
after_form : (s : Scene) (past : List Step) (v : Held) (b : Between) (d : ℕ) (share : Share) (form : StepForm) → IsBetween s past v b
    → d < length s.checked.layouts → IsHere b d share
    → owners_by s share.extent (form, past) ≡ owners_after s past d form
after_form s past v b d share form between less h =
    let found = some_at s.checked.layouts d less in
    let extent : share.extent ≡ found.0.extent = h.size ∙ ap (λ (c : Checked). layout_extent c.layouts d) (sym between.checked)
    ∙ extent_found s.checked.layouts d found.0 found.1 in
    ap (λ n. owners_by s n (form, past)) extent ∙ sym (owners_are_by_form s past d form found.0 found.1)

pub shape_moves : (s : Scene) (past : List Step) (v : Held) (b : Between) (d : ℕ) (share : Share) (shape : Shape) (m : Moving)
    → IsBetween s past v b
    → IsStepIn s.checked (Distribute d (Regular shape)) → IsHere b d share → IsByShape share shape m
    → IsMoveIn s past b.me d (Regular shape) m
shape_moves s past v b d share shape m between step h by = record {
  node = ap (λ (x : Share). x.me) by.mine ∙ h.me;
  decomposition = ap (λ (x : Share). x.decomposition) by.mine ∙ h.decomposition;
  given = by.form;
  stages = by.stages;
  moving = subst (IsMoving m s (owners_at s past) (store_at s past)) (after_form s past v b d share (Regular shape) between step.0 h)
      (by.moving s (owners_at s past) (store_at s past) (share_held s past v b d share between step.0 h));
}

aligned_at : (s : Scene) (array : ℕ) → IsChecked s.checked → array < length s.checked.arrays
    → IsAligned s.checked.layouts (array_at s.checked.arrays array)
aligned_at s array known less =
    let found = some_at s.checked.arrays array less in
    subst (IsAligned s.checked.layouts) (sym (ap (λ o. unwrap_or o no_array) found.1))
    (all_at (IsAligned s.checked.layouts) s.checked.arrays array found.0
    (recursion_from_All (IsAligned s.checked.layouts) s.checked.arrays known.arrays) found.1)

stands_natural : (z : ℤ) → pos 0 ≤ℤ z → z ≡ pos (natural z)
stands_natural (pos n) h = refl
stands_natural (negsuc n) h = absurd (omega (arith, ints, h))

last_natural : (z : ℤ) (extent limit : ℕ) → pos 0 ≤ℤ z → (pos extent +ℤ z) ≤ℤ pos limit → extent + natural z ≤ limit
last_natural (pos n) extent limit h last = omega (arith, ints, last)
last_natural (negsuc n) extent limit h last = absurd (omega (arith, ints, h))

map_held : (s : Scene) (past : List Step) (v : Held) (b : Between) (d : ℕ) (share : Share) (array : ℕ) → IsSoundBetween b
    → IsBetween s past v b
    → IsStepIn s.checked (Distribute d (Map array)) → IsHere b d share → HasMapHere b share array s (owners_at s past) (store_at s past)
map_held s past v b d share array sound between step h =
    let c = s.checked in
    let owners = owners_at s past in
    let store = store_at s past in
    let told = shares_are_held s past b.me v between.stands in
    let a : ArrayFacts = array_at c.arrays array in
    let aligned = aligned_at s array (subst IsChecked (sym between.checked) sound.checked) step.1.0 in
    let same : share.extent ≡ a.extent = h.size ∙ ap (λ (c : Checked). layout_extent c.layouts d) (sym between.checked) ∙ sym step.1.1 in
    let offset : natural (array_at b.checked.now.arrays array).offset ≡ natural a.offset
    = ap (λ (c : Checked). natural (array_at c.arrays array).offset) (sym between.checked) in
    let place : decomposition_of b.checked.now.arrays array ≡ decomposition_of c.arrays array =
    ap (λ (c : Checked). decomposition_of c.arrays array) (sym between.checked) in
    let extent = run_keeps_extents s past a.decomposition between.run aligned.decomposition in
    let last = last_natural a.offset a.extent (layout_extent c.layouts a.decomposition) aligned.first aligned.last in
    record {
      extent = sym same;
      stands = stands_natural a.offset aligned.first ∙ ap pos (sym offset);
      last = omega (arith, same, offset, extent, last);
      owned = owners_are_nodes s past (decomposition_of c.arrays array) between.run.some_nodes;
      size = (length-list_at c.arrays store array (run_keeps_lengths s past between.run.history between.run.fits) step.1.0).1 ∙ sym same;
      mine = ap (list_at b.elements.now) place
          ∙ ap (λ (l : List (List ℤ)). list_at l (decomposition_of c.arrays array)) (sym between.elements)
          ∙ told.mine (decomposition_of c.arrays array)
          ∙ ap (λ p. map pos (elements_on (list_at owners (decomposition_of c.arrays array)) p)) (sym h.me);
      part = ap (λ (l : List (List ℤ)). list_at l array) (sym between.parts)
          ∙ told.part array step.1.0
          ∙ ap (λ p. part_of c.arrays owners store p array) (sym h.me);
    }

pub map_moves : (s : Scene) (past : List Step) (v : Held) (b : Between) (d : ℕ) (share : Share) (array : ℕ) (m : Moving) → IsSoundBetween b
    → IsBetween s past v b
    → IsStepIn s.checked (Distribute d (Map array)) → IsHere b d share → IsByMap b share array m → IsMoveIn s past b.me d (Map array) m
map_moves s past v b d share array m sound between step h by = record {
  node = ap (λ (x : Share). x.me) by.mine ∙ h.me;
  decomposition = ap (λ (x : Share). x.decomposition) by.mine ∙ h.decomposition;
  given = by.form;
  stages = by.stages;
  moving = subst (IsMoving m s (owners_at s past) (store_at s past)) (after_form s past v b d share (Map array) between step.0 h)
      (by.moving s (owners_at s past) (store_at s past) (share_held s past v b d share between step.0 h)
      (map_held s past v b d share array sound between step h));
}

-- ---- what a DISTRIBUTE begins with

pub share_there : (s : Scene) (past : List Step) (v : Held) (b : Between) (d : ℕ) → IsBetween s past v b → d < length s.checked.layouts
    → has_share b d ≡ true
share_there s past v b d between less =
    let found = some_at s.checked.layouts d less in
    let l = found.0 in
    let told = shares_are_held s past b.me v between.stands in
    let owners = list_at (owners_at s past) d in
    let size : length owners ≡ l.extent = run_keeps_extents s past d between.run less ∙ extent_found s.checked.layouts d l found.1 in
    let mine : list_at b.elements.now d ≡ map pos (elements_on owners b.me) = ap (λ (l : List (List ℤ)). list_at l d)
    (sym between.elements) ∙ told.mine d in
    ap (λ (c : Checked). option_map_or (λ (l : LayoutName). list_all (is_within_extent l.extent) (list_at b.elements.now d))
    (slice_get c.layouts d) false) (sym between.checked)
    ∙ ap (λ (o : Option LayoutName). option_map_or (λ (l : LayoutName). list_all (is_within_extent l.extent) (list_at b.elements.now d)) o
    false) found.1
    ∙ ap (list_all (is_within_extent l.extent)) mine
    ∙ range_within l.extent (λ g. owner_in owners g == b.me) 1 (length owners) (omega arith) (omega (arith, size))

pub by_shape_moves : (s : Scene) (past : List Step) (v : Held) (b : Between) (d : ℕ) (share : Share) (shape : Shape) (form : StepForm)
    (o : Option Moving)
    → form ≡ Regular shape → MatchOption o (given_size shape ≡ 0) (IsByShape share shape) → IsBetween s past v b
    → IsStepIn s.checked (Distribute d form) → IsHere b d share
    → IsSomeAnd o (IsMoveIn s past b.me d form)
by_shape_moves s past v b d share shape form o e h between step here =
    subst (λ form. IsStepIn s.checked (Distribute d form) → IsSomeAnd o (IsMoveIn s past b.me d form)) (sym e)
    (λ step. some_weaker (IsByShape share shape) (IsMoveIn s past b.me d (Regular shape))
    (λ m. shape_moves s past v b d share shape m between step here) o (shaped o h step.1.some)) step
  where
    shaped : (o : Option Moving) → MatchOption o (given_size shape ≡ 0) (IsByShape share shape) → 1 ≤ given_size shape
        → IsSomeAnd o (IsByShape share shape)
    shaped None h some = absurd (omega (arith, h, some))
    shaped (Some m) h some = h

pub by_map_moves : (s : Scene) (past : List Step) (v : Held) (b : Between) (d : ℕ) (share : Share) (array : ℕ) (form : StepForm)
    (m : Moving) → IsSoundBetween b
    → form ≡ Map array → IsByMap b share array m → IsBetween s past v b → IsStepIn s.checked (Distribute d form) → IsHere b d share
    → IsMoveIn s past b.me d form m
by_map_moves s past v b d share array form m sound e h between step here =
    subst (λ form. IsStepIn s.checked (Distribute d form) → IsMoveIn s past b.me d form m) (sym e)
    (λ step. map_moves s past v b d share array m sound between step here h) step

pub repeat_known : (s : Scene) (past : List Step) (v : Held) (b : Between) (d : ℕ) (form : StepForm) → IsBetween s past v b
    → IsStepIn s.checked (Distribute d form)
    → is_repeated b.records.now d form ≡ is_repeat s.checked past d form
repeat_known s past v b d form between step =
    (move_keeps s.checked past d form b.records.now (subst (Keeps s.checked past) between.records between.stands.records) step.0 step.1).0

pub move_begins : (N : Type 0) (s : Scene) (past : List Step) (p d : ℕ) (form : StepForm) (o : Option Moving) (x : Option Begun)
    → x ≡ option_map begun.Move o
    → is_repeat s.checked past d form ≡ false → IsSomeAnd o (IsMoveIn s past p d form)
    → MatchOption x N (IsBegun s past (Distribute d form) p)
move_begins N s past p d form o x e moves h = subst (λ x. MatchOption x N (IsBegun s past (Distribute d form) p)) (sym e) (by o h)
  where
    by : (o : Option Moving) → IsSomeAnd o (IsMoveIn s past p d form)
        → MatchOption (option_map begun.Move o) N (IsBegun s past (Distribute d form) p)
    by None h = absurd h
    by (Some m) h = record { d = d; form = form; is = refl; moves = moves; begins = h }

-- ---- what is known without a run

pub shape_plain : (share : Share) (shape : Shape) (form : StepForm) (o : Option Moving) → form ≡ Regular shape
    → MatchOption o (given_size shape ≡ 0) (IsByShape share shape)
    → IfSome o (IsMoveOf share form)
shape_plain share shape form None e h = tt
shape_plain share shape form (Some m) e h = subst (λ form. IsMoveOf share form m) (sym e)
    (record { mine = h.mine; given = h.form; stages = h.stages })

pub move_plain : (b : Between) (d extent : ℕ) (form : StepForm) (share : Option Share) (o : Option Moving)
    → MatchOption share (has_share b d ≡ false) (IsShareOf b d extent)
    → IfSome o (λ m. IsSomeAnd share (λ x. IsMoveOf x form m)) → IfSome o (IsFitMove b)
move_plain b d extent form None None h moves = tt
move_plain b d extent form None (Some m) h moves = absurd moves
move_plain b d extent form (Some x) None h moves = tt
move_plain b d extent form (Some x) (Some m) h moves = record {
  node = ap (λ (x : Share). x.me) moves.mine ∙ h.me;
  nodes = ap (λ (x : Share). x.nodes) moves.mine ∙ h.nodes;
  there = subst (λ d. d < length b.checked.now.layouts) (sym (ap (λ (x : Share). x.decomposition) moves.mine ∙ h.decomposition)) h.there;
  stages = moves.stages ∙ ap moving_stages (sym moves.given);
}

pub begun_plain : (b : Between) (o : Option Moving) (x : Option Begun) → x ≡ option_map begun.Move o → IfSome o (IsFitMove b)
    → IfSome x (IsFitBegun b)
begun_plain b o x e h = subst (λ x. IfSome x (IsFitBegun b)) (sym e) (by o h)
  where
    by : (o : Option Moving) → IfSome o (IsFitMove b) → IfSome (option_map begun.Move o) (IsFitBegun b)
    by None h = tt
    by (Some m) h = h
