use Rattle.std.proofs.Common.{◌≡◌, ◌∙◌, sym, true, false, map, string_bytes, rules, subst}
use Rattle.std.specs.List.{list_all}
use Rattle.clap.specs.Words.{found_of, rows_of}
use Rattle.fd_command.specs.ClapCommand.{is_clear}
use Rattle.fd_command.proofs.Agree.{unclear_asks_none}
use Rattle.fd_command.proofs.Result.{AsksBy, accepted, refused}
use Rattle.fd_command.proofs.request.requested.Goals as goal

pub returns-then-not-are_clear-clause-refused : goal.returns-then-not-are_clear-clause-refused
returns-then-not-are_clear-clause-refused c =
    let unclear : list_all is_clear (map string_bytes c.args.words.now) ≡ false = search rules in
    λ same. unclear_asks_none (map string_bytes c.args.words.now) unclear

pub returns-in-Err-clause-refused : goal.returns-in-Err-clause-refused
returns-in-Err-clause-refused c =
    let clear : list_all is_clear (map string_bytes c.args.words.now) ≡ true = search rules in
    λ same. refused (map string_bytes c.args.words.now) clear (c.in-Err.ensures.refused cc)

pub returns-in-None-clause-refused : goal.returns-in-None-clause-refused
returns-in-None-clause-refused c =
    let words = map string_bytes c.args.words.now in
    let clear : list_all is_clear words ≡ true = search rules in
    let asks : AsksBy words (rows_of (found_of c.in-Ok.matches)) = subst (AsksBy words) (sym c.in-Ok.ensures.rows)
    (accepted words clear c.in-Ok.ensures.taken) in
    λ same. asks.4 ∙ sym (c.in-None.ensures.asked asks.0 asks.2 asks.1 asks.3)

pub returns-clause-taken : goal.returns-clause-taken
returns-clause-taken c =
    let words = map string_bytes c.args.words.now in
    let clear : list_all is_clear words ≡ true = search rules in
    let asks : AsksBy words (rows_of (found_of c.in-Ok.matches)) = subst (AsksBy words) (sym c.in-Ok.ensures.rows)
    (accepted words clear c.in-Ok.ensures.taken) in
    asks.4 ∙ sym (c.in-Some.ensures.asked asks.0 asks.2 asks.1 asks.3)
