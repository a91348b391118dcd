use Rattle.std.proofs.Common.{◌≡◌, ◌∙◌, ap, sym, refl, Bool, true, false, Option, Some, None, codes, option_map}
use Rattle.clap.specs.Words.{found_of, first_of, one_of, rows_of, one_text}
use Rattle.clap.proofs.WalkLemmas.{first_value-rows, one_text-rows}
use Rattle.clap.specs.declared.parser.matches.Found.{Found}
use Rattle.fd_command.specs.Options.{Text, source_name}
use Rattle.fd_command.specs.Asked.{AskedOrigin, both, manner_of, origin_of}
use Rattle.fd_command.specs.ClapCommand.{flag_text}
use Rattle.fd_command.specs.ClapRows.{manner_with, origin_by}
use Rattle.fd_command.specs.Shown.{shown_origin}
use Rattle.fd_command.proofs.Uses.{no_manner}
use Rattle.fd_command.proofs.request.read.Goals as goal

raised : (f : Found) (id : Text) (r : Bool) → ((one_text f id ≡ Some (codes "true")) → r ≡ true) → ((one_text f id ≡ Some (codes "false"))
    → r ≡ false)
    → (b : Bool) → one_of id (rows_of f) ≡ Some (flag_text b) → r ≡ b
raised f id r on off true e = on (one_text-rows f id ∙ e)
raised f id r on off false e = off (one_text-rows f id ∙ e)

by_texts : (f : Found) (a b d : Option Text) → a ≡ first_of source_name (rows_of f) → b ≡ first_of (codes "mesh") (rows_of f)
    → d ≡ first_of (codes "size") (rows_of f)
    → origin_of a b d ≡ origin_by (rows_of f)
by_texts f a b d p q r = rw (p, q, r) refl

by_words : (f : Found) (a b d : Option Text) (s t u v : Bool) → a ≡ first_of (codes "nodes") (rows_of f)
    → b ≡ first_of (codes "turns") (rows_of f)
    → d ≡ first_of (codes "iterations") (rows_of f) → s ≡ u → t ≡ v → manner_of a b d s t ≡ manner_with (rows_of f) u v
by_words f a b d s t u v p q r x y = rw (p, q, r, x, y) refl

pub returns-in_default-clause-asked : goal.returns-in_default-clause-asked
returns-in_default-clause-asked c = λ report plain e g.
    let f = found_of c.args.matches.now in
    let origin : origin_by (rows_of f) ≡ None =
    sym (by_texts f _ _ _ (c.get_str-source.ensures ∙ first_value-rows f source_name) (c.get_str.ensures
    ∙ first_value-rows f (codes "mesh"))
    (c.get_str-2.ensures ∙ first_value-rows f (codes "size"))) ∙ sym c.origin_of.ensures.origin
    ∙ ap (option_map shown_origin) c.in_default.is in
    sym (ap (λ (o : Option AskedOrigin). both o (manner_with (rows_of f) report plain)) origin)

pub returns-in_default-manner_of-clause-asked : goal.returns-in_default-manner_of-clause-asked
returns-in_default-manner_of-clause-asked c = λ report plain e g.
    let f = found_of c.args.matches.now in
    let s : c.get_flag-report.result ≡ report = raised f (codes "report") c.get_flag-report.result c.get_flag-report.ensures.value
    c.get_flag-report.ensures.other report e in
    let t : c.get_flag-plain.result ≡ plain = raised f (codes "plain") c.get_flag-plain.result c.get_flag-plain.ensures.value
    c.get_flag-plain.ensures.other plain g in
    let manner : manner_with (rows_of f) report plain ≡ None =
    sym (by_words f _ _ _ _ _ _ _ (c.get_str-nodes.ensures ∙ first_value-rows f (codes "nodes")) (c.get_str-turns.ensures
    ∙ first_value-rows f (codes "turns"))
    (c.get_str-iterations.ensures ∙ first_value-rows f (codes "iterations")) s t) ∙ sym c.manner_of.ensures.manner
    ∙ c.in_default-manner_of.is in
    sym (ap (both (origin_by (rows_of f))) manner ∙ no_manner (origin_by (rows_of f)))

pub returns-clause-asked : goal.returns-clause-asked
returns-clause-asked c = λ report plain e g.
    let f = found_of c.args.matches.now in
    let origin : origin_by (rows_of f) ≡ Some (shown_origin c.in-Some.origin) =
    sym (by_texts f _ _ _ (c.get_str-source.ensures ∙ first_value-rows f source_name) (c.get_str.ensures
    ∙ first_value-rows f (codes "mesh"))
    (c.get_str-2.ensures ∙ first_value-rows f (codes "size"))) ∙ sym c.origin_of.ensures.origin
    ∙ ap (option_map shown_origin) c.in-Some.is in
    let s : c.get_flag-report.result ≡ report = raised f (codes "report") c.get_flag-report.result c.get_flag-report.ensures.value
    c.get_flag-report.ensures.other report e in
    let t : c.get_flag-plain.result ≡ plain = raised f (codes "plain") c.get_flag-plain.result c.get_flag-plain.ensures.value
    c.get_flag-plain.ensures.other plain g in
    let manner : manner_with (rows_of f) report plain ≡ Some c.in-Some-manner_of.manner =
    sym (by_words f _ _ _ _ _ _ _ (c.get_str-nodes.ensures ∙ first_value-rows f (codes "nodes")) (c.get_str-turns.ensures
    ∙ first_value-rows f (codes "turns"))
    (c.get_str-iterations.ensures ∙ first_value-rows f (codes "iterations")) s t) ∙ sym c.manner_of.ensures.manner
    ∙ c.in-Some-manner_of.is in
    sym (ap (λ (o : Option AskedOrigin). both o (manner_with (rows_of f) report plain)) origin
    ∙ ap (both (Some (shown_origin c.in-Some.origin))) manner)
