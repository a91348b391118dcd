use Rattle.std.proofs.Common.{◌+◌, [], ◌∷◌, ◌++◌, map, take, drop, sym, subst, ◌∙◌, arith, string_bytes, Ok}
use Rattle.std.proofs.lemmas.Result.{err_from_is_err_and}
use Rattle.fd_edge.specs.Endings.{StopsAs}
use Rattle.fd_edge.specs.Files.{Reads}
use Rattle.fd_edge.specs.Readings.{files_read, reading}
use Rattle.fd_edge.specs.Unusable.{IsUnusable}
use Rattle.chaos_rcb.specs.Columns.{AreRead, IsColumnsEnd, NoColumns}
use Rattle.chaos_rcb.proofs.Reading.{all_read, names_more, names_split, no_columns}
use Rattle.chaos_rcb.proofs.columns.columns.Goals as goal

pub returns-in_err-column-clause-read : goal.returns-in_err-column-clause-read
returns-in_err-column-clause-read g c =
    let names = c.args.names.now in
    let i = c.loop-name.name-index in
    let item = c.name-item.result in
    let told = g.F.Files.contents in
    let counts = g.F.Files.faults in
    let files = c.loop-name.files in
    let stop = c.in_err-column.field-0.0 in
    let whole = files_read told counts c.args.files.now c.column.new.files in
    let e = err_from_is_err_and c.from_residual.result c.from_residual.ensures.1 in
    let there : StopsAs (IsUnusable (reading (told files) (counts files) (counts c.column.new.files)) c.args.count (string_bytes item))
    stop =
    subst (λ name. StopsAs (IsUnusable (reading (told files) (counts files) (counts c.column.new.files)) c.args.count name) stop)
    c.as_str.ensures.value c.in_err-column.ensures.read in
    subst (IsColumnsEnd whole c.args.count (map string_bytes names)) (sym e.1)
    (subst (StopsAs (NoColumns whole c.args.count (map string_bytes names))) (sym e.2)
    (no_columns (told c.args.files.now) (told files) (counts c.args.files.now) (counts files) (counts c.column.new.files) c.args.count
    (map string_bytes names) (map string_bytes (take i names)) (map string_bytes (drop (i + 1) names)) (string_bytes item)
    c.loop-name.columns stop (names_split string_bytes names i item c.loop-name-test.true c.name-item.is) c.loop-name.invariant.read
    c.loop-name.invariant.contents c.loop-name.invariant.faults there))

pub loop-name-preserved : goal.loop-name-preserved
loop-name-preserved g c =
    let names = c.args.names.now in
    let i = c.loop-name.name-index in
    let item = c.name-item.result in
    let told = g.F.Files.contents in
    let column = c.in_ok-column.column in
    let one : Reads (told c.args.files.now) (string_bytes item) c.args.count (Ok column) =
    subst (λ name. Reads (told c.args.files.now) name c.args.count (Ok column)) c.as_str.ensures.value
    (subst (λ t. Reads t c.as_str.result.now c.args.count (Ok column)) c.loop-name.invariant.contents c.in_ok-column.ensures.read) in
    let all = all_read (told c.args.files.now) c.args.count (map string_bytes (take i names)) c.loop-name.columns (string_bytes item) column
    c.loop-name.invariant.read one in
    record {
      read = subst (λ ns. AreRead (told c.args.files.now) c.args.count ns c.push.new.self)
          (sym (names_more string_bytes names i item c.loop-name-test.true c.name-item.is))
          (subst (AreRead (told c.args.files.now) c.args.count (map string_bytes (take i names) ++ string_bytes item ∷ []))
          (sym c.in-Ok.ensures.ok) all);
      contents = c.column.ensures.contents ∙ c.loop-name.invariant.contents;
      faults = λ other. omega (arith, c.loop-name.invariant.faults other, c.column.ensures.faults other);
    }
