use Rattle.std.specs.Prelude.{◌≡◌, ◌<◌, ◌≤◌, ◌^◌, ℕ}
use Rattle.std.proofs.Common.{arith, sym, subst}
use Rattle.bsp_core.specs.Views.{View}
use Rattle.chaos_entering.specs.State.{NodeState}
use Rattle.chaos_holdings.specs.declared.effect.Effect.TheVariants.{Refuses}
use Rattle.chaos_node.specs.Changing.{ChangesRight}
use Rattle.plan_run.specs.Held.{text_on}
use Rattle.fd_program.specs.Texts.{refusal_line}
use Rattle.chaos_entering.specs.Enters.{EntersOutput}
use Rattle.chaos_node.proofs.InspectionStops.{inspection_stops, refused_here}
use Rattle.chaos_node.proofs.Seen.{made_seen}
use Rattle.chaos_node.proofs.node.Node.refuse.Goals as goal

less_small : (n left : ℕ) → n < left → left < 2 ^ 31 → n < 2 ^ 31
less_small n left less few = omega (arith, less, few)

falls_more : (e n left : ℕ) → e ≤ n → n < left → e < left
falls_more e n left most less = omega (arith, most, less)

pub enter_output-requires : goal.enter_output-requires
enter_output-requires c = record {
  left = less_small c.outputs_left.result c.self.inside.left (subst (λ (x : View NodeState). c.outputs_left.result < x.face.left)
      (sym c.self.view_is) c.outputs_left.ensures.falls)
      c.self.invariant.left;
}

pub returns-clause-made : goal.returns-clause-made
returns-clause-made c =
    made_seen c.self.inside c.args.self.now (record {
      effect = Refuses (refused_here c.self.inside.at.site c.args.offence);
      line = c.in_ok-line.line;
      entered = c.in_ok-entered.entered;
    })
    c.self.view_is c.in_ok-entered.ensures.made
    (falls_more c.in_ok-entered.entered.left c.outputs_left.result c.self.inside.left c.in_ok-entered.ensures.falls
    (subst (λ (x : View NodeState). c.outputs_left.result < x.face.left) (sym c.self.view_is) c.outputs_left.ensures.falls))

pub returns-clause-right : goal.returns-clause-right
returns-clause-right c =
    let e = c.in_ok-entered.entered in
    let left = c.outputs_left.result in
    subst (λ (x : View NodeState). ChangesRight c.args.self.now (record {
      effect = Refuses (refused_here x.state.at.site c.args.offence);
      line = c.in_ok-line.line;
      entered = e;
    })) (sym c.self.view_is)
    (inspection_stops c.args.self.now c.requires.told.0 c.requires.told.1 c.args.offence c.in_ok-line.line e left c.requires.told.3
    c.requires.told.2
    (subst (λ (x : View NodeState). c.in_ok-line.line ≡ text_on c.args.self.now.face.me
    (refusal_line c.args.self.now.state.session.checked (refused_here x.state.at.site c.args.offence))) c.self.view_is
    c.in_ok-line.ensures) c.outputs_left.ensures.is
    (subst (λ (x : View NodeState). EntersOutput x.state.session x.face.me 0 x.state.holdings.elements x.state.holdings.parts left e)
    c.self.view_is c.in_ok-entered.ensures.right))
