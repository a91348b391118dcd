use Rattle.std.proofs.Common.{◌∙◌, ap, List, ℕ, codes}
use Rattle.std.proofs.lemmas.Result.{IfOk-weaker}
use Rattle.clap.specs.Words.{App, with_rule}
use Rattle.fd_command.specs.ClapCommand.{value_rule, flag_rule, source_rule}
use Rattle.fd_command.proofs.command.command.Goals as goal

pub returns : goal.returns
returns c =
    let v : List ℕ → App → App = λ name a. with_rule a (value_rule name) in
    let f : List ℕ → App → App = λ name a. with_rule a (flag_rule name) in
    let one = c.in_ok-command.ensures ∙ ap (v (codes "nodes")) c.bare_command-command.ensures in
    let two = c.in_ok-command-2.ensures ∙ ap (v (codes "iterations")) one in
    let three = c.in_ok-command-3.ensures ∙ ap (v (codes "mesh")) two in
    let four = c.in_ok-command-4.ensures ∙ ap (v (codes "size")) three in
    let five = c.in_ok-command-5.ensures ∙ ap (v (codes "turns")) four in
    let six = c.in_ok-command-6.ensures ∙ ap (f (codes "report")) five in
    let seven = c.in_ok-command-7.ensures ∙ ap (f (codes "plain")) six in
    IfOk-weaker c.with_source.result _ _ (λ r h. h ∙ ap (λ (a : App). with_rule a source_rule) seven) c.with_source.ensures
