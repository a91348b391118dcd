use Rattle.chaos_moving.proofs.InRunLaws.{letters_are_of_run, owners_are_by_form, owners_are_nodes, shares_are_held}
use Rattle.chaos_moving.proofs.laws.moves_are_of_run.Goals as goal

pub returns : goal.returns
returns c = record {
  letters = letters_are_of_run;
  owners = owners_are_by_form;
  nodes = owners_are_nodes;
  held = shares_are_held;
}
