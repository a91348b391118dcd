use Rattle.fd_lexer.proofs.Numbers.{front_passes}
use Rattle.fd_lexer.proofs.piece.number_at.Goals as goal

pub number_of-requires : goal.number_of-requires
number_of-requires c = rw c.digits_len-len.ensures (front_passes _ c.args.text.now)
