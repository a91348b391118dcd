use Rattle.std.proofs.Common.{◌≡◌, ◌∙◌, ap, map, string_bytes, refl, true}
use Rattle.clap.specs.Words.{App, app_of, is_simple, matches_of}
use Rattle.fd_command.specs.ClapCommand.{the_app}
use Rattle.fd_command.proofs.command.parsed.Goals as goal

is_simple_app : is_simple the_app ≡ true
is_simple_app = refl

pub returns-in-Ok-try_get_matches_from-clause-rows : goal.returns-in-Ok-try_get_matches_from-clause-rows
returns-in-Ok-try_get_matches_from-clause-rows c =
    let simple : is_simple (app_of c.in-Ok.command) ≡ true = ap is_simple c.in-Ok.ensures ∙ is_simple_app in
    (c.in-Ok-try_get_matches_from.ensures.matches simple).0 ∙ ap (λ (a : App). matches_of a (map string_bytes c.args.words.now))
    c.in-Ok.ensures
