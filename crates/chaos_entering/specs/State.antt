-- What a node knows beside its face.
use Rattle.std.specs.Prelude.{ℕ, ℤ, List, []}
use Rattle.plan_run.specs.Held.{Held, no_hand}
use Rattle.chaos_entering.specs.declared.activity.At.{At}
use Rattle.chaos_holdings.specs.declared.holdings.Holdings.{Holdings}
use Rattle.chaos_holdings.specs.declared.session.NodeEnd.{NodeEnd}
use Rattle.chaos_holdings.specs.declared.session.Session.{Session}

-- The session, where the node is in it, what it has between the steps, the lines so far, the inspected executions, and what it tells at
-- its end.
pub record NodeState : Type 0 where
  pub session : Session
  pub at : At
  pub holdings : Holdings
  pub text : List ℕ
  pub inspected : List ℤ
  pub end : NodeEnd

-- what a node of any run holds, but for its list for itself and what is in hand within a step
abbrev pub held_of : NodeState → Held
held_of st = record {
  parts = st.holdings.parts;
  elements = st.holdings.elements;
  records = st.holdings.records;
  pages = st.holdings.pages;
  kept = st.holdings.kept;
  counts = st.end.counts;
  tables = st.holdings.tables;
  inspected = st.inspected;
  text = st.text;
  refused = st.end.refused;
  own = [];
  hand = no_hand;
}
