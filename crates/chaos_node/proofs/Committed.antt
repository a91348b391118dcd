-- What is put in place, one part after another.
use Rattle.std.specs.Prelude.{◌≡◌, refl, ℕ, Bool, ℤ, List, ◌++◌}
use Rattle.std.proofs.Common.{ap, sym, ◌∙◌}
use Rattle.bsp_core.specs.Views.{Face, View}
use Rattle.chaos_node.specs.Changing.{changed_by}
use Rattle.chaos_node.specs.Putting.{put_in_place, recorded}
use Rattle.chaos_holdings.specs.Effects.{end_after, holdings_after}
use Rattle.chaos_entering.specs.Coming.{begun_holdings, entered_state, noted_if}
use Rattle.chaos_entering.specs.State.{NodeState}
use Rattle.chaos_node.specs.declared.change.Change.{Change}
use Rattle.chaos_holdings.specs.declared.effect.Effect.{Effect}

abbrev with_note : Bool → ℕ → NodeState → NodeState
with_note begins execution st = record st { inspected = noted_if begins execution st.inspected }

abbrev with_line : List ℕ → NodeState → NodeState
with_line line st = record st { text = st.text ++ line }

abbrev with_changes : Change → NodeState → NodeState
with_changes change st = record st {
  holdings = holdings_after st.session.checked st.at.site change.effect st.holdings;
  end = end_after st.at.site change.effect st.end;
}

abbrev without_kept : Change → NodeState → NodeState
without_kept change st = record st { holdings = begun_holdings st.holdings change.entered }

abbrev with_place : Change → NodeState → NodeState
with_place change st = record st { at = change.entered.at }

pub state_recorded : (begins : Bool) (execution : ℕ) (line : List ℕ) (s0 s1 s2 : NodeState) → s1 ≡ with_note begins execution s0
    → s2 ≡ with_line line s1
    → s2 ≡ recorded begins execution line s0
state_recorded begins execution line s0 s1 s2 e1 e2 = e2 ∙ ap (with_line line) e1

pub state_put : (change : Change) (s0 s1 s2 s3 : NodeState) → s1 ≡ with_changes change s0 → s2 ≡ without_kept change s1
    → s3 ≡ with_place change s2
    → s3 ≡ put_in_place change s0
state_put change s0 s1 s2 s3 e1 e2 e3 = e3 ∙ ap (with_place change) (e2 ∙ ap (without_kept change) e1)

pub state_committed : (change : Change) (s0 s1 s2 : NodeState) → s1 ≡ recorded change.entered.begins change.entered.at.execution
    change.line s0 → s2 ≡ put_in_place change s1
    → s2 ≡ entered_state (changed_by s0 change) change.entered
state_committed change s0 s1 s2 e1 e2 = e2 ∙ ap (put_in_place change) e1

same_view : (v w : View NodeState) → v.face ≡ w.face → v.state ≡ w.state → v ≡ w
same_view v w faces states = ap (λ f. record v { face = f }) faces ∙ ap (λ s. record w { state = s }) states

-- a note that was taken back leaves what was before
pub taken_back : (begins : Bool) (at : ℕ) (v v1 v2 v3 : View NodeState) → v1.face ≡ v.face → v1.state ≡ with_note begins at v.state
    → v2 ≡ v1 → v3.face ≡ v2.face
    → ((execution : ℕ) (before : List ℤ) → v2.state.inspected ≡ noted_if begins execution before
    → v3.state ≡ record v2.state { inspected = before }) → v3 ≡ v
taken_back begins at v v1 v2 v3 face1 state1 same face3 back =
    let states : v2.state ≡ with_note begins at v.state = ap (λ (x : View NodeState). x.state) same ∙ state1 in
    same_view v3 v (face3 ∙ ap (λ (x : View NodeState). x.face) same ∙ face1)
    (back at v.state.inspected (ap (λ (s : NodeState). s.inspected) states)
    ∙ ap (λ (s : NodeState). record s { inspected = v.state.inspected }) states)
