-- One more line of the report, over plain lists.
use Rattle.std.proofs.Common.{◌≡◌, ℕ, ◌+◌, ◌<◌, List, ◌∷◌, ◌++◌, length, get_or, drop, ap, sym, ◌∙◌, append_assoc}
use Rattle.std.proofs.lemmas.List.{drop_more}
use Rattle.fd_program.specs.Reports.{report_line, report_of}
use Rattle.fd_program.specs.declared.count.SiteCount.{SiteCount}
use Rattle.fd_program.specs.declared.site.Site.{Site}

pub one_line : (sites : List Site) (counts : List SiteCount) (k : ℕ) (d : Site) (e : SiteCount) (t t' : List ℕ)
    → k < length sites → k < length counts → t' ≡ t ++ report_line (get_or sites k d).at.line (get_or counts k e)
    → t' ++ report_of (drop (k + 1) sites) (drop (k + 1) counts) ≡ t ++ report_of (drop k sites) (drop k counts)
one_line sites counts k d e t t' h g appended =
    ap (λ x. x ++ report_of (drop (k + 1) sites) (drop (k + 1) counts)) appended
    ∙ append_assoc t (report_line (get_or sites k d).at.line (get_or counts k e)) (report_of (drop (k + 1) sites) (drop (k + 1) counts))
    ∙ ap (λ ss. t ++ report_of ss (get_or counts k e ∷ drop (k + 1) counts)) (sym (drop_more sites k d h))
    ∙ ap (λ cs. t ++ report_of (drop k sites) cs) (sym (drop_more counts k e g))
