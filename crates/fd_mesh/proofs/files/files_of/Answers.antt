use Rattle.std.proofs.Common.{◌≡◌, ℕ, List, [], ◌++◌, codes, ap, ◌∙◌}
use Rattle.std.proofs.lemmas.List.{append-nil}
use Rattle.fd_mesh.specs.Mesh.{file_of, files_of, numbers_by}
use Rattle.fd_mesh.specs.declared.rule.Rule.{Rule}
use Rattle.fd_mesh.specs.declared.rule.Rule.TheVariants as rule
use Rattle.fd_mesh.proofs.Lines.{places_all}
use Rattle.fd_mesh.proofs.Made.{four_files}
use Rattle.fd_mesh.proofs.files.files_of.Goals as goal

pub returns : goal.returns
unfolding files_of
returns c =
    let by = λ (r : Rule). numbers_by r c.args.seed c.args.size in
    four_files _ _ _ _ _ _ _ _ _ _ _ _ _ c.new-files.ensures
    c.in_ok-push.ensures.ok c.in_ok-push-2.ensures.ok c.in_ok-push-3.ensures.ok c.in_ok-push-4.ensures.ok
    (c.in_ok-values.ensures ∙ ap (file_of (codes "x.csv")) (append-nil (by rule.Place) ∙ places_all c.args.size))
    (c.in_ok-map.ensures ∙ ap (file_of (codes "m.csv")) (append-nil (by rule.Mapped)))
    (c.in_ok-begins.ensures
    ∙ ap (λ (l : List ℕ). file_of (codes "e1.csv") (by rule.Place ++ l)) (append-nil (by rule.Place))
    ∙ ap (λ (l : List ℕ). file_of (codes "e1.csv") (l ++ l)) (places_all c.args.size))
    (c.in_ok-ends.ensures ∙ ap (λ (l : List ℕ). file_of (codes "e2.csv") (by rule.Ring ++ l)) (append-nil (by rule.Chord)))
