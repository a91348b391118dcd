use Rattle.std.proofs.Common.{◌≡◌, take}
use Rattle.chaos_deref.specs.Asking.{answers_to}
use Rattle.chaos_deref.proofs.answers.answer_all.Given as goal

abbrev pub invariant-loop-i : goal.invariant-loop-i
invariant-loop-i l = l.answers ≡ answers_to l.pages (take l.i l.asked)
