-- What the ends of phases look at.
use Rattle.std.specs.Prelude.{◌≡◌, ℕ, ℤ, List}
use Rattle.chaos_begin.specs.declared.between.Between.{Between}
use Rattle.chaos_records.specs.declared.records.Records.{Records}
use Rattle.chaos_entering.specs.State.{NodeState}

-- what a node looks at as a step begins, where its elements, parts and records are these
pub record LooksWith (st : NodeState) (me : ℕ) (elements parts : List (List ℤ)) (records : Records) (b : Between) : Type 0 where
  pub checked : b.checked.now ≡ st.session.checked
  pub nodes : b.nodes ≡ st.session.nodes
  pub rule : b.rule ≡ st.session.rule
  pub node : b.me ≡ me
  pub elements_are : b.elements.now ≡ elements
  pub parts_are : b.parts.now ≡ parts
  pub records_are : b.records.now ≡ records
  pub kept : b.kept.now ≡ st.holdings.kept

abbrev pub LooksAt : NodeState → ℕ → Between → Type 0
LooksAt st me b = LooksWith st me st.holdings.elements st.holdings.parts st.holdings.records b
