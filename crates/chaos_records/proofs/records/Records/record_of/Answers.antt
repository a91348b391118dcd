use Rattle.std.proofs.Common.{rules, ◌≡◌, ap, ◌∙◌, map, to_z, of_z, w64, get_or}
use Rattle.fd_program.specs.Past.{decompositions_of, index_arrays_of}
use Rattle.fd_program.specs.Stores.{number_at}
use Rattle.fd_program.specs.Trace.{site_at, no_site}
use Rattle.chaos_records.specs.Keeping.{setting_in}
use Rattle.chaos_records.proofs.Marks.{given_at, same_parts}
use Rattle.chaos_records.proofs.records.Records.record_of.Goals as goal

pub returns : goal.returns
returns c =
    let it = site_at c.args.checked.now.sites c.args.site in
    let low : to_z w64 (of_z w64 c.args.turn.now.low) ≡ c.args.turn.now.low = search rules in
    let high : to_z w64 (of_z w64 c.args.turn.now.high) ≡ c.args.turn.now.high = search rules in
    let adds : c.in_ok-adds.adds ≡ c.args.turn.now.adds = search rules in
    let sites : c.as_slice.result.now ≡ c.args.checked.now.sites = c.as_slice.ensures in
    let found : c.index-as_slice-site.result ≡ it =
    given_at c.args.checked.now.sites c.args.site c.index-as_slice-site.result no_site c.requires.site
    (c.index-as_slice-site.is ∙ ap (λ l. get_or l c.args.site c.index-as_slice-site.result) sites) in
    let versions : c.in_ok-versions.versions ≡ map (λ d. (setting_in c.args.self.now d).version)
    (decompositions_of c.args.checked.now it) = search (rules, found) in
    let changes : c.in_ok-changes.changes ≡ map (number_at c.args.self.now.changes) (index_arrays_of c.args.checked.now it) =
    search (rules, found) in
    same_parts _ _ _ _ _ _ _ _ _ _ low high adds versions changes
