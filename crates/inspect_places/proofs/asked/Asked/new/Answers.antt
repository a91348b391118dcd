use Rattle.std.proofs.Common.{◌∙◌, length}
use Rattle.fd_program.specs.Met.{decomposition_met}
use Rattle.inspect_places.specs.Asks.{wanted_row}
use Rattle.list_laws.specs.Rows.{dealt_all}
use Rattle.inspect_places.proofs.asked.Asked.new.Goals as goal

pub returns : goal.returns
returns c =
    let f = c.args.facts.now in
    record {
      few_layouts = c.requires.accepted.few_layouts;
      met = c.requires.met;
      decompositions = c.in_ok-decompositions.ensures;
      wanted = c.in_ok-wanted.ensures ∙ dealt_all (decomposition_met f) (wanted_row f) (length f.layouts) c.args.uses.now;
    }
