use Rattle.std.proofs.Common.{refl, [], None, ap, sym, ◌∙◌, replicate}
use Rattle.fd_program.specs.Reports.{no_count}
use Rattle.fd_program.specs.Trace.{trace_of}
use Rattle.chaos_entering.specs.Coming.{noted_if}
use Rattle.chaos_entering.specs.Standing.{session_in}
use Rattle.chaos_entering.specs.State.{NodeState}
use Rattle.chaos_holdings.specs.declared.session.NodeEnd.{NodeEnd}
use Rattle.chaos_holdings.specs.declared.session.Session.{Session}
use Rattle.chaos_node.proofs.Started.{covers_same, if_both, started, state_first}
use Rattle.chaos_node.proofs.node.Node.start.Goals as goal

pub returns : goal.returns
returns c =
    let s = c.args.session.now in
    let e = c.in_ok-entered.entered in
    let h = c.in_ok-holdings.holdings in
    let end : NodeEnd = record { refused = None; counts = c.in_ok-counts_of_none.field-0 } in
    if_both c.noting.result _ _ _
    (λ node face state.
    started s c.args.id c.in_ok-left.left c.args.own h end e node.face node.state c.requires.node c.in_ok-holdings.ensures
    (record { refused = refl; counts = c.in_ok-counts_of_none.ensures ∙ ap (λ n. replicate n no_count) c.len.ensures })
    c.in_ok-left.ensures.is
    (λ plan is same next.
    c.in_ok-entered.ensures.right plan [] (trace_of plan.checked) (state_first (session_in plan) e.at h end) is same refl
    (record {
      checked = ap (λ (x : Session). x.checked) same;
      nodes = ap (λ (x : Session). x.nodes) same;
      rule = ap (λ (x : Session). x.rule) same;
      elements = refl;
      parts = refl;
      records = refl;
      kept = covers_same _ h.kept c.as_slice.ensures;
    }) refl next)
    (face ∙ c.node_with-node.ensures.face)
    (state ∙ ap (λ (st : NodeState). record st { inspected = noted_if e.begins e.at.execution st.inspected })
    c.node_with-node.ensures.state))
    c.noting.ensures.face c.noting.ensures.state

pub noting-requires : goal.noting-requires
noting-requires c = c.in_ok-entered.ensures.made.number
