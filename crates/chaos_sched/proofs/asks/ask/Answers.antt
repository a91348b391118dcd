use Rattle.std.proofs.Common.{All, sym, ◌∙◌, subst}
use Rattle.fd_words.specs.declared.place.Role.TheVariants.{Read, Target}
use Rattle.chaos_sched.specs.Scheduled.{IsSmall, ask_to, needed_from}
use Rattle.chaos_sched.proofs.Each.{both_parts}
use Rattle.chaos_sched.proofs.Small.{needed_small}
use Rattle.chaos_sched.proofs.asks.ask.Goals as goal

pub add_rows-requires : goal.add_rows-requires
add_rows-requires c =
    subst (All IsSmall) (sym (c.as_slice.ensures.value ∙ c.in_ok-reads.ensures))
    (needed_small Read c.args.owner c.args.needs.now c.requires.elements c.requires.locals)

pub add_rows-requires-2 : goal.add_rows-requires-2
add_rows-requires-2 c =
    subst (All IsSmall) (sym (c.as_slice-2.ensures.value ∙ c.in_ok-targets.ensures))
    (needed_small Target c.args.owner c.args.needs.now c.requires.elements c.requires.locals)

pub returns : goal.returns
unfolding ask_to
returns c =
    both_parts _ _ _ _ _ (needed_from Read c.args.owner c.args.needs.now) (needed_from Target c.args.owner c.args.needs.now)
    c.new-ask.ensures c.in_ok-add_rows.ensures c.in_ok-add_rows-2.ensures
    (c.as_slice.ensures.value ∙ c.in_ok-reads.ensures) (c.as_slice-2.ensures.value ∙ c.in_ok-targets.ensures)
