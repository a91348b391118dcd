use Rattle.std.proofs.Common.{ℕ, ◌<◌, length, refl, sym, ◌∙◌, [], arith}
use Rattle.fd_mesh.specs.Mesh.{lines_of, numbers_by}
use Rattle.fd_mesh.specs.declared.rule.Rule.{Rule}
use Rattle.fd_mesh.proofs.Lines.{rules_more}
use Rattle.fd_mesh.proofs.files.file_by.Goals as goal

pub loop-rule-init : goal.loop-rule-init
unfolding lines_of
loop-rule-init c = c.new-content.ensures

pub loop-rule-preserved : goal.loop-rule-preserved
loop-rule-preserved c =
    let less : c.loop-rule.rule-index < length c.args.rules.now = omega (arith, c.loop-rule-test.true) in
    rules_more (λ (r : Rule). numbers_by r c.args.seed c.args.size) c.args.rules.now c.loop-rule.rule-index _ _ c.loop-rule.content
    c.append_lines.new.text less refl c.loop-rule.invariant c.in_ok-append_lines.ensures
