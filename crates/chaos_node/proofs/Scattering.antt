-- A node in the second phase of an execution, whose parts are moved out of it.
use Rattle.std.specs.Prelude.{◌≡◌, ℕ, ℤ, List, [], true, false, Some, None, is_some}
use Rattle.std.proofs.Common.{ap, sym, ◌∙◌, subst}
use Rattle.bsp_core.specs.Views.{View}
use Rattle.chaos_entering.specs.State.{NodeState}
use Rattle.chaos_entering.specs.declared.activity.Activity.{Activity}
use Rattle.chaos_entering.specs.declared.activity.Activity.TheVariants.{Printing, Output, Moving, Inspecting, Gathering, Scattering, Ended}
use Rattle.chaos_executing.specs.declared.executing.Executing.{Executing}
use Rattle.chaos_begin.specs.declared.between.Between.{Between}
use Rattle.chaos_records.specs.declared.records.Records.{Records}
use Rattle.chaos_entering.specs.Coming.{entered_state, face_entered}
use Rattle.chaos_node.specs.Changing.{CanBeMade, ChangesRight, IsMade, change_with, changed_by, executing_in, with_parts}
use Rattle.chaos_node.specs.declared.change.Executed.{Executed}
use Rattle.chaos_node.specs.Ends.{LooksWith}

pub executing_is : (a : Activity) (x : Executing) → executing_in a ≡ Some x → a ≡ Scattering x
executing_is Printing x e = cc
executing_is (Output n) x e = cc
executing_is (Moving m) x e = cc
executing_is (Inspecting i) x e = cc
executing_is Gathering x e = cc
executing_is (Scattering y) x e = ap Scattering (let same : y ≡ x = cc in same)
executing_is Ended x e = cc

pub none_executing : (a : Activity) → is_some (executing_in a) ≡ true → executing_in a ≡ None → ⊥
none_executing a some none = let both : false ≡ true = sym (ap is_some none) ∙ some in cc

pub not_scattering : (a : Activity) (x : Executing) → is_some (executing_in a) ≡ false → a ≡ Scattering x → ⊥
not_scattering a x none at = let both : true ≡ false = sym (ap (λ b. is_some (executing_in b)) at) ∙ none in cc

-- what is looked at doesn't depend on the node's own parts
pub looks_with_parts : (v : View NodeState) (here : List (List ℤ)) (me : ℕ) (elements parts : List (List ℤ)) (records : Records)
    (b : Between) → LooksWith v.state me elements parts records b → LooksWith (with_parts v here).state me elements parts records b
looks_with_parts v here me elements parts records b h = record {
  checked = h.checked;
  nodes = h.nodes;
  rule = h.rule;
  node = h.node;
  elements_are = h.elements_are;
  parts_are = h.parts_are;
  records_are = h.records_are;
  kept = h.kept;
}

-- the node whose parts, which were these, and writes are moved out of it
module _ (v moved : View NodeState) (is : moved ≡ with_parts v []) (parts : List (List ℤ)) (held : parts ≡ v.state.holdings.parts) where
  -- where the parts are given back it is as it was
  pub given_back : (w : View NodeState) (back : List (List ℤ)) → back ≡ parts → w ≡ with_parts moved back → w ≡ v
  given_back w back same e =
      e ∙ ap (λ (x : View NodeState). with_parts x back) is ∙ ap (with_parts v) (same ∙ held)

  same_right : with_parts moved parts ≡ v
  same_right = ap (λ (x : View NodeState). with_parts x parts) is ∙ ap (with_parts v) held

  -- where all is put in place the change is made
  pub executed_made : (w : View NodeState) (x : Executed) (after : List (List ℤ)) → CanBeMade moved (change_with after x)
      → ChangesRight (with_parts moved parts) (change_with after x) → w.face ≡ face_entered moved.face.me moved.face.count x.entered
      → w.state ≡ entered_state (changed_by moved.state (change_with after x)) x.entered → IsMade v w
  executed_made w x after made right face state = record {
    change = change_with after x;
    made = let can : CanBeMade (with_parts v []) (change_with after x)
        = subst (λ (y : View NodeState). CanBeMade y (change_with after x)) is made in
        record { stands = can.stands; falls = can.falls };
    right = subst (λ (y : View NodeState). ChangesRight y (change_with after x)) same_right right;
    face = face ∙ ap (λ (y : View NodeState). face_entered y.face.me y.face.count x.entered) is;
    state = state ∙ ap (λ (y : View NodeState). entered_state (changed_by y.state (change_with after x)) x.entered) is;
  }
