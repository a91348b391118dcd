use Rattle.std.specs.Prelude.{refl}
use Rattle.std.specs.Int.{int_wrap}
use Rattle.std.specs.Fmt.{digits}
use Rattle.fd_program.specs.Texts.{refused_loop, refused_subscript, refused_range}
use Rattle.plan_examples.proofs.texts.refused_loops.Goals as goal

pub returns : goal.returns
unfolding int_wrap digits refused_loop refused_subscript refused_range
returns c = record { outside = refl; index = refl; exact = refl }
