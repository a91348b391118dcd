use Rattle.chaos_bins.proofs.laws.one_order.Goals as goal
use Rattle.chaos_bins.specs.Ascending.{one_order_of_keys, one_order_of_values}

pub returns-clause-values : goal.returns-clause-values
returns-clause-values c = one_order_of_values

pub returns-clause-keys : goal.returns-clause-keys
returns-clause-keys c = one_order_of_keys
