use Rattle.std.proofs.Common.{rules, ◌≡◌, sym, subst, ap, ◌∙◌, None}
use Rattle.std.specs.List.{fold}
use Rattle.fd_scope.specs.Faults.{IsFirst, lesser}
use Rattle.fd_scope.proofs.Least.{is_first}
use Rattle.fd_scope.proofs.faults.Faults.first.Goals as goal

pub returns : goal.returns
returns c =
    let e : c.as_slice.result.now ≡ c.args.self.now = search rules in
    subst (λ r. IsFirst r c.args.self.now) (sym (c.least_of.ensures ∙ ap (fold lesser None) e)) (is_first c.args.self.now)
