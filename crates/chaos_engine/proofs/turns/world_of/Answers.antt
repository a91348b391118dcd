use Rattle.std.proofs.Common.{refl, List, map, ap, sym, subst, length, ◌∙◌}
use Rattle.std.proofs.lemmas.List.{length-map}
use Rattle.bsp_core.specs.Turns.{Begins}
use Rattle.bsp_core.specs.Views.{View}
use Rattle.chaos_entering.specs.Standing.{node_holds}
use Rattle.chaos_entering.specs.State.{NodeState}
use Rattle.plan_run.specs.Rows.{node_row}
use Rattle.chaos_engine.specs.Runs.{plan_of}
use Rattle.chaos_engine.proofs.Begun.{admitted, session_is}
use Rattle.chaos_engine.proofs.turns.world_of.Goals as goal

pub new-requires : goal.new-requires
new-requires c =
    let s = c.args.session.now in
    let store = c.args.store.now in
    let is = admitted s store c.requires in
    record { together = (plan_of s store, is, c.in_ok-nodes.ensures (plan_of s store) is (session_is s store c.requires) refl) }

pub returns-clause-nodes : goal.returns-clause-nodes
returns-clause-nodes c =
    let s = c.args.session.now in
    let store = c.args.store.now in
    let begin = c.in_ok-nodes.ensures (plan_of s store) (admitted s store c.requires) (session_is s store c.requires) refl in
    ap length c.in_ok-world.ensures.nodes ∙ sym (length-map c.in_ok-nodes.nodes (λ (v : View NodeState). v)) ∙ begin.0

pub returns-clause-begins : goal.returns-clause-begins
returns-clause-begins c =
    let s = c.args.session.now in
    let store = c.args.store.now in
    let is = admitted s store c.requires in
    subst (λ (l : List (View NodeState)). Begins (node_row (plan_of s store)) (node_holds (plan_of s store)) s.nodes
    (map (λ (v : View NodeState). v) l)) (sym c.in_ok-world.ensures.nodes)
    (c.in_ok-nodes.ensures (plan_of s store) is (session_is s store c.requires) refl)

pub returns-clause-at : goal.returns-clause-at
returns-clause-at c =
    let s = c.args.session.now in
    let store = c.args.store.now in
    let is = admitted s store c.requires in
    c.in_ok-world.ensures.at (plan_of s store) is (c.in_ok-nodes.ensures (plan_of s store) is (session_is s store c.requires) refl)
