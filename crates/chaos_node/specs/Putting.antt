-- A change put in place in two parts: what takes memory, and the rest.
use Rattle.std.specs.Prelude.{ℕ, Bool, List, ◌++◌}
use Rattle.chaos_holdings.specs.Effects.{end_after, holdings_after}
use Rattle.chaos_entering.specs.Coming.{begun_holdings, noted_if}
use Rattle.chaos_entering.specs.State.{NodeState}
use Rattle.chaos_node.specs.declared.change.Change.{Change}

abbrev pub recorded : Bool → ℕ → List ℕ → NodeState → NodeState
recorded begins execution line st = record st { inspected = noted_if begins execution st.inspected; text = st.text ++ line }

abbrev pub put_in_place : Change → NodeState → NodeState
put_in_place change st = record st {
  at = change.entered.at;
  holdings = begun_holdings (holdings_after st.session.checked st.at.site change.effect st.holdings) change.entered;
  end = end_after st.at.site change.effect st.end;
}
