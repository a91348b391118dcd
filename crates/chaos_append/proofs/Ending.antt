-- The letters and the text of nodes that were driven.
use Rattle.std.proofs.Common.{◌≡◌, ℕ, ◌≤◌, List, length, map, slice_get, Some, ◌∙◌, subst, arith}
use Rattle.chaos_letter.specs.declared.letter.Letter.{Letter}
use Rattle.bsp_core.specs.Turns.{Begins}
use Rattle.bsp_core.specs.Views.{View}
use Rattle.bsp_desk.specs.Nodes.{first_node, nodes_count, uniform_due}
use Rattle.bsp_desk.specs.Uniform.{letters_of}
use Rattle.bsp_mail.specs.Mails.{ArePrefixes}
use Rattle.bsp_mail.specs.declared.seat.MailSeat.{MailSeat}
use Rattle.bsp_threads.specs.Alls.{AreAtEnd, AreEmptyFrom, AreOfPlan}
use Rattle.bsp_threads.specs.Due.{AreCut, AreDue, HasLetters}
use Rattle.chaos_bins.specs.Appended.{PlanIsAppended}
use Rattle.chaos_bins.specs.Bins.{lines_of}
use Rattle.chaos_bins.specs.Plan.{AppendPlan, IsAppendPlan, append_rows, phases_of, round_at}
use Rattle.append_node.specs.Ending.{NodesEndWithTheLines}
use Rattle.append_node.specs.Node.{AppendState, append_holds}
use Rattle.chaos_append.specs.Letters.{AreAppendedInPart, AreAppendedWhole}

-- the letters that are due in a plan
abbrev pub due_in : AppendPlan → ℕ → ℕ → List Letter
due_in plan p q = letters_of (phases_of plan) (round_at plan) p q

pub has_letters : (plan : AppendPlan) → HasLetters (append_rows plan) plan.nodes (due_in plan)
has_letters plan = uniform_due plan.nodes (phases_of plan) (round_at plan)

-- node 0 has the lines
pub text_at_end : (plan : AppendPlan) (nodes : List (View AppendState)) (mails : List MailSeat) → 1 ≤ plan.nodes → NodesEndWithTheLines
    → AreAtEnd (append_rows plan) (append_holds plan) plan.nodes (map (λ (s : View AppendState). s) nodes) mails
    → (text : List ℕ) → ((v : View AppendState) → slice_get nodes 0 ≡ Some v → text ≡ v.state.text)
    → text ≡ lines_of plan.bins plan.steps plan.particles
text_at_end plan nodes mails some law ended text told =
    let v = first_node nodes (omega (arith, some, ended.count)) in
    told v.0 v.1 ∙ law plan ended.phase 0 v.0.state ended.end (ended.nodes 0 v.0 v.2).1

abbrev pub Begin : AppendPlan → List (View AppendState) → Type 0
Begin plan nodes = Begins (append_rows plan) (append_holds plan) plan.nodes (map (λ (s : View AppendState). s) nodes)

-- nodes of a plan that were driven; the pairs of the seats that have no node have no letters
module _ (plan : AppendPlan) (is : IsAppendPlan plan) (appended : PlanIsAppended) (nodes : List (View AppendState)) (mails : List MailSeat)
    (begin : Begin plan nodes) (empty : AreEmptyFrom (length nodes) mails) where
  others : AreEmptyFrom plan.nodes mails
  others = subst (λ n. AreEmptyFrom n mails) (nodes_count (append_rows plan) (append_holds plan) plan.nodes nodes begin) empty

  pub whole : (HasLetters (append_rows plan) plan.nodes (due_in plan) → AreEmptyFrom plan.nodes mails
      → AreDue plan.nodes (due_in plan) mails)
      → AreAppendedWhole plan mails
  whole law = record {
    due = due_in plan;
    appended = λ p q lp lq apart. appended plan p q is lp apart;
    letters = law (has_letters plan) others;
  }

  pub in_part : ((plan : AppendPlan) → IsAppendPlan plan → Begin plan nodes → AreOfPlan (append_rows plan) plan.nodes mails)
      → ArePrefixes mails
      → ((plan : AppendPlan) → IsAppendPlan plan → (due : ℕ → ℕ → List Letter) → HasLetters (append_rows plan) plan.nodes due
      → (mails : List MailSeat) → AreOfPlan (append_rows plan) plan.nodes mails → ArePrefixes mails → AreEmptyFrom plan.nodes mails
      → AreCut plan.nodes due mails)
      → AreAppendedInPart plan mails
  in_part within prefixes law = record {
    due = due_in plan;
    appended = λ p q lp lq apart. appended plan p q is lp apart;
    letters = law plan is (due_in plan) (has_letters plan) mails (within plan is begin) prefixes others;
  }
