-- In a run each decomposition has as many owners as elements.
use Rattle.fd_program.specs.OwnedLaws.{length_owners}
use Rattle.chaos_print.specs.InRun.{ElementsAreOwned}

pub elements_are_owned : ElementsAreOwned
elements_are_owned s past fits history steps d less = length_owners s past d fits history steps less
