use Rattle.std.proofs.Common.{◌≡◌, ◌++◌, take}
use Rattle.std.specs.List.{flat_map}
use Rattle.fd_program.specs.Texts.{output_line, refusal_text}
use Rattle.fd_meaning.proofs.run.finish.Given as goal

abbrev pub invariant-loop-output : goal.invariant-loop-output
invariant-loop-output l =
    l.text ≡ l.fn.text ++ refusal_text l.checked l.refused ++ flat_map (output_line l.checked l.store) (take l.output-index l.outputs)
