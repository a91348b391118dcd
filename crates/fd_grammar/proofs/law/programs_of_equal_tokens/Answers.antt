use Rattle.fd_grammar.specs.Complete.{reads_program}
use Rattle.fd_grammar.proofs.law.programs_of_equal_tokens.Goals as goal

pub returns : goal.returns
returns c = λ ts p q h g. let f = reads_program h in let e = reads_program g in cc
