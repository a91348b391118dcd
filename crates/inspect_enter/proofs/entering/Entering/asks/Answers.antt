use Rattle.std.proofs.Common.{◌∙◌, Ok, Err}
use Rattle.std.specs.Prelude.{Result, IfOk}
use Rattle.inspect_enter.proofs.Asked.{asks_are}
use Rattle.plan_tables.specs.Tables.{slots_entered}
use Rattle.inspect_enter.proofs.entering.Entering.asks.Goals as goal

if_ok : {X E : Type 0} (P Q : X → Type 0) (r : Result X E) → IfOk r P → ((x : X) → P x → Q x) → IfOk r Q
if_ok P Q (Ok x) h g = g x h
if_ok P Q (Err e) h g = tt

pub returns : goal.returns
returns c = if_ok _ _ c.asks_of.result c.asks_of.ensures (λ asks is owners store p tables settled entering.
    is ∙ asks_are c.args.facts.now owners store settled (slots_entered c.args.facts.now tables) p c.args.self.now.needs entering.needs)
