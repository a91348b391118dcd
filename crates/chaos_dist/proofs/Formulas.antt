-- The laws of layouts, at the numbers as the code has them.
use Rattle.std.proofs.Common.{◌≡◌, ℕ, ◌+◌, ◌*◌, ◌/◌, ◌%◌, ◌≤◌, ◌<◌, sym, ◌∙◌, arith}
use Rattle.chaos_dist.specs.Layout.{owner_of, local_of, length_of, element_of, width_of, StaysBelow}
use Rattle.chaos_dist.specs.LayoutLaws.{count_on-is, element_at-below, owner_of-element_at, local_of-element_at, element_of-is, same_place}
use Rattle.chaos_dist.specs.Rounds.{last_round, element_at, le-element_at}
use Rattle.chaos_dist.specs.declared.shape.Shape.{Shape}

-- the length of a node's part
pub length_of_is : (shape : Shape) (e n node w n' r : ℕ) → 1 ≤ n → 1 ≤ width_of shape e n → node < n → w ≡ width_of shape e n → n' ≡ n
    → r ≡ last_round w (e / w % n') (e % w) node → e / w / n' * w + r ≡ length_of shape e n node
length_of_is shape e n node w n' r nodes width is_node ew en er =
    rw er (rw (ew, en) (sym (count_on-is shape e n node e nodes width is_node (omega arith))))

-- an element stands alone at a local address of a node
pub record StandsAt (shape : Shape) (e n node l g : ℕ) : Type 0 where
  pub within : g ≤ e
  pub owner : owner_of shape e n g ≡ node
  pub local : local_of shape e n g ≡ l
  pub element : g ≡ element_of shape e n node l
  pub only : (h : ℕ) → 1 ≤ h → h ≤ e → owner_of shape e n h ≡ node → local_of shape e n h ≡ l → h ≡ g

module _ (shape : Shape) (e n node l w n' node' : ℕ) (nodes : 1 ≤ n) (width : 1 ≤ width_of shape e n) (is_node : node < n)
    (place : l < length_of shape e n node) (ew : w ≡ width_of shape e n) (en : n' ≡ n) (ep : node' ≡ node) where
  pub StaysBelow-element : (top : ℕ) → e < top → StaysBelow w n' node' l top
  StaysBelow-element top ht =
      let below : element_at (width_of shape e n) n node l < e = element_at-below shape e n node l nodes width is_node place in
      let parts = le-element_at (width_of shape e n) n node l width in
      rw (ew, en, ep) (record {
        rounds = omega (arith, parts.0);
        runs = omega (arith, parts.1);
        before = omega (arith, parts.2);
        element = omega arith;
        from_one = omega arith;
      })

  pub StandsAt-element : StandsAt shape e n node l ((l / w * n' + node') * w + l % w + 1)
  StandsAt-element =
      let below : element_at (width_of shape e n) n node l < e = element_at-below shape e n node l nodes width is_node place in
      let its_owner = owner_of-element_at shape e n node l nodes width is_node place in
      let its_local = local_of-element_at shape e n node l nodes width is_node place in
      rw (ew, en, ep) (record {
        within = omega arith;
        owner = its_owner;
        local = its_local;
        element = element_of-is shape e n node l nodes width is_node place;
        only = λ h from_one inside owner local. same_place shape e n h (element_at (width_of shape e n) n node l + 1) from_one (omega arith)
            (owner ∙ sym its_owner) (local ∙ sym its_local);
      })
