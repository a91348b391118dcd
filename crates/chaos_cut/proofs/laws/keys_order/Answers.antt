use Rattle.chaos_cut.proofs.laws.keys_order.Goals as goal
use Rattle.chaos_cut.specs.KeyLaws.{no_key_twice, order_is_keys}

pub returns-clause-order : goal.returns-clause-order
returns-clause-order c = order_is_keys

pub returns-clause-once : goal.returns-clause-once
returns-clause-once c = no_key_twice
