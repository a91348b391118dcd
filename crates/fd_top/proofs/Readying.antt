-- Sources that are made ready, and lines where there is none.
use Rattle.std.proofs.Common.{◌≡◌, ℕ, ◌<◌, ◌≤◌, List, length, ap, sym, ◌∙◌, subst}
use Rattle.std.specs.Prelude.{ℤ, Option, Some, Result, Ok, Err, IfOk, IfErr}
use Rattle.fd_outside.specs.Causes.{NoneFell}
use Rattle.fd_words.specs.declared.source.SourceStop.{SourceStop}
use Rattle.fd_words.specs.declared.source.SourceStop.TheVariants as stop
use Rattle.fd_words.specs.declared.wanting.Memory as wanting
use Rattle.fd_edge.specs.Endings.{StopsAs, stop_of}
use Rattle.fd_edge.specs.EndLaws.{stops_more}
use Rattle.fd_edge.specs.Files.{IsHeld}
use Rattle.fd_edge.specs.Readings.{Told, Counts, Reading, reading}
use Rattle.fd_edge.specs.declared.ending.Stop.{Stop}
use Rattle.fd_command.specs.Asked.{Asked, file, mesh}
use Rattle.fd_command.specs.declared.request.Refused as command
use Rattle.fd_command.specs.declared.request.Refused.TheVariants as request
use Rattle.fd_front.specs.Lines.{fault_line}
use Rattle.fd_front.specs.Sources.{IsSource, IsReadAs}
use Rattle.fd_front.specs.declared.source.Source.{Source}
use Rattle.fd_load.specs.LoadLaws.{loaded_earlier}
use Rattle.fd_load.specs.Loads.{IsLoaded}
use Rattle.fd_load.specs.declared.store.LoadStop.{LoadStop}
use Rattle.fd_load.specs.declared.store.LoadStop.TheVariants as load
use Rattle.fd_mesh.specs.Source.{source_of}
use Rattle.fd_mesh.specs.Mesh.{files_of}
use Rattle.fd_mesh.specs.declared.files.FileData.{FileData}
use Rattle.fd_top.specs.Made.{told_made}
use Rattle.fd_top.specs.Outcomes.{Gives, AreAccepted, TextStops, refused, unread_file, faulty_file, ReadingStops, in_text, CallStops}
use Rattle.fd_top.specs.Outcomes.{untaken}
use Rattle.fd_top.specs.Outcomes.{stopped}
use Rattle.fd_top.specs.Ready.{IsRefused, IsUnloaded, IsUntaken, Tells}

pub ok_more : {X E : Type 0} (P Q : X → Type 0) (r : Result X E) → ((x : X) → P x → Q x) → IfOk r P → IfOk r Q
ok_more P Q (Ok x) more p = more x p
ok_more P Q (Err e) more p = tt

pub err_more : {X E : Type 0} (P Q : E → Type 0) (r : Result X E) → ((e : E) → P e → Q e) → IfErr r P → IfErr r Q
err_more P Q (Ok x) more p = tt
err_more P Q (Err e) more p = more e p

-- ---- lines

-- what is said of a line is said of one that is the same
said : (P : ℕ → List ℕ → Type 0) (n : ℕ) (text : List ℕ) (status : ℕ) (line : List ℕ) → P n text
    → (status ≡ n) × (line ≡ text) → P status line
said P n text status line p e = subst (λ k. P k line) (sym e.0) (subst (λ (l : List ℕ). P n l) (sym e.1) p)

pub says_line : (P : ℕ → List ℕ → Type 0) (n : ℕ) (text : List ℕ) (stop : Stop) → P n text
    → StopsAs (λ status line. (status ≡ n) × (line ≡ text)) stop → StopsAs P stop
says_line P n text stop p says =
    stops_more (λ status line. (status ≡ n) × (line ≡ text)) P stop (λ status line e. said P n text status line p e) says

-- the stop with a line, if memory sufficed for it
pub stop_line : (P : ℕ → List ℕ → Type 0) (status : ℕ) (text : List ℕ) (line : Result (List ℕ) wanting.Memory) (stop : Stop)
    → stop ≡ stop_of status line → P status text → IfOk line (λ l. l ≡ text) → StopsAs P stop
stop_line P status text line stop is p same = subst (StopsAs P) (sym is) (by line same)
  where
    by : (l : Result (List ℕ) wanting.Memory) → IfOk l (λ x. x ≡ text) → StopsAs P (stop_of status l)
    by (Ok l) e = subst (λ (x : List ℕ). P status x) (sym e) p
    by (Err m) e = tt

refused_line : (r : Reading) (text : List ℕ) (s : SourceStop) (status : ℕ) (line : List ℕ) → IsReadAs text (Err s)
    → IsRefused s status line → TextStops r text status line
refused_line r text (stop.Fault fault) status line is e =
    said (TextStops r text) 65 (fault_line fault) status line (refused fault is) e
refused_line r text stop.Memory status line is e = absurd e

unloaded_line : (r : Reading) (text : List ℕ) (s : Source) (end : LoadStop) (status : ℕ) (line : List ℕ) → IsSource text s
    → IsLoaded r s.checked (Err end) → IsUnloaded s.checked end status line → TextStops r text status line
unloaded_line r text s (load.Unread array) status line is l e =
    said (TextStops r text) 69 _ status line (unread_file s is array l) e
unloaded_line r text s (load.Fault array fault) status line is l e =
    said (TextStops r text) 66 _ status line (faulty_file s is array fault l) e
unloaded_line r text s load.Memory status line is l e = absurd e

pub refused_text : (r : Reading) (text : List ℕ) (s : SourceStop) (stop : Stop) → IsReadAs text (Err s) → StopsAs (IsRefused s) stop
    → StopsAs (TextStops r text) stop
refused_text r text s stop is e =
    stops_more (IsRefused s) (TextStops r text) stop (λ status line. refused_line r text s status line is) e

pub unloaded_text : (r : Reading) (text : List ℕ) (s : Source) (end : LoadStop) (stop : Stop) → IsSource text s
    → IsLoaded r s.checked (Err end) → StopsAs (IsUnloaded s.checked end) stop → StopsAs (TextStops r text) stop
unloaded_text r text s end stop is l e =
    stops_more (IsUnloaded s.checked end) (TextStops r text) stop (λ status line. unloaded_line r text s end status line is l) e

-- the line of words that aren't taken
pub untaken_call : (usage : List ℕ) (asked : Option Asked) (r : Reading) (e : command.Refused) (stop : Stop) → Tells asked (Err e)
    → StopsAs (IsUntaken usage e) stop → StopsAs (CallStops usage asked r) stop
untaken_call usage asked r request.NotTaken stop none says =
    stops_more (IsUntaken usage request.NotTaken) (CallStops usage asked r) stop
    (λ status line e. said (CallStops usage asked r) 2 usage status line (untaken none) e) says
untaken_call usage asked r request.Memory stop none says =
    stops_more (IsUntaken usage request.Memory) (CallStops usage asked r) stop (λ status line e. absurd e) says

-- the line of what is asked for
pub stopped_call : (usage : List ℕ) (asked : Option Asked) (r : Reading) (w : Asked) (stop : Stop) → asked ≡ Some w
    → StopsAs (ReadingStops w.origin r) stop → StopsAs (CallStops usage asked r) stop
stopped_call usage asked r w stop is says =
    stops_more (ReadingStops w.origin r) (CallStops usage asked r) stop (λ status line s. stopped w is status line s) says

-- ---- after an earlier count

gives_earlier : (contents : Told) (before from now : Counts) (text : List ℕ) (s : Source) (store : List (List ℤ)) → NoneFell before from
    → Gives (reading contents from now) text s store → Gives (reading contents before now) text s store
gives_earlier contents before from now text s store later g =
    record { read = g.read; loaded = loaded_earlier contents before from now s.checked (Ok store) later g.loaded }

stops_earlier : (contents : Told) (before from now : Counts) (text : List ℕ) {status : ℕ} {line : List ℕ} → NoneFell before from
    → TextStops (reading contents from now) text status line → TextStops (reading contents before now) text status line
stops_earlier contents before from now text later (refused fault is) = refused fault is
stops_earlier contents before from now text later (unread_file s is array l) =
    unread_file s is array (loaded_earlier contents before from now s.checked (Err (load.Unread array)) later l)
stops_earlier contents before from now text later (faulty_file s is array fault l) =
    faulty_file s is array fault (loaded_earlier contents before from now s.checked (Err (load.Fault array fault)) later l)

-- ---- a text that was read from a file

module _ (name : List ℕ) (contents middle : Told) (before from now : Counts) (text bytes : List ℕ) (is_text : text ≡ bytes)
    (are_held : IsHeld contents name bytes) (few : length bytes ≤ 1048576) (same : middle ≡ contents) (later : NoneFell before from) where
  held : IsHeld contents name text
  held = subst (IsHeld contents name) (sym is_text) are_held

  short : length text ≤ 1048576
  short = subst (λ (t : List ℕ). length t ≤ 1048576) (sym is_text) few

  pub file_gives : (s : Source) (store : List (List ℤ)) → Gives (reading middle from now) text s store
      → AreAccepted (file name) (reading contents before now) s store
  file_gives s store g = record {
    text = text;
    held = held;
    short = short;
    gives = gives_earlier contents before from now text s store later
        (subst (λ (told : Told). Gives (reading told from now) text s store) same g);
  }

  pub file_stops : (stop : Stop) → StopsAs (TextStops (reading middle from now) text) stop
      → StopsAs (ReadingStops (file name) (reading contents before now)) stop
  file_stops stop s =
      stops_more (TextStops (reading middle from now) text) (ReadingStops (file name) (reading contents before now)) stop
      (λ status line t. in_text text held short status line
      (stops_earlier contents before from now text later (subst (λ (told : Told). TextStops (reading told from now) text status line) same
      t))) s

-- ---- a mesh

pub long_mesh : (size size-1 len : ℕ) (made : List ℕ) → made ≡ source_of size-1 → size-1 ≡ size → len ≡ length made → 1048576 < len
    → 1048576 < length (source_of size)
long_mesh size size-1 len made is same is_len more =
    subst (λ n. 1048576 < length (source_of n)) same (subst (λ (t : List ℕ). 1048576 < length t) is (subst (λ n. 1048576 < n) is_len more))

abbrev pub no_faults : Counts
no_faults other = 0

module _ (seed size seed-1 size-1 len : ℕ) (r : Reading) (made text : List ℕ) (files : List FileData)
    (is_source : made ≡ source_of size-1) (are_files : files ≡ files_of seed-1 size-1) (same_seed : seed-1 ≡ seed)
    (same_size : size-1 ≡ size)
    (is_text : text ≡ made) (is_len : len ≡ length made) (few : len ≤ 1048576) where
  whole : text ≡ source_of size
  whole = is_text ∙ is_source ∙ ap source_of same_size

  little : length text ≤ 1048576
  little = subst (λ (t : List ℕ). length t ≤ 1048576) (sym is_text) (subst (λ n. n ≤ 1048576) is_len few)

  same : files ≡ files_of seed size
  same = are_files ∙ ap (λ n. files_of n size-1) same_seed ∙ ap (files_of seed) same_size

  pub mesh_gives : (s : Source) (store : List (List ℤ)) → Gives (reading (told_made files) no_faults no_faults) text s store
      → AreAccepted (mesh seed size) r s store
  mesh_gives s store g = record {
    text = text;
    held = whole;
    short = little;
    gives = subst (λ (fs : List FileData). Gives (reading (told_made fs) no_faults no_faults) text s store) same g;
  }

  pub mesh_stops : (stop : Stop) → StopsAs (TextStops (reading (told_made files) no_faults no_faults) text) stop
      → StopsAs (ReadingStops (mesh seed size) r) stop
  mesh_stops stop s =
      stops_more (TextStops (reading (told_made files) no_faults no_faults) text) (ReadingStops (mesh seed size) r) stop
      (λ status line t. in_text text whole little status line
      (subst (λ (fs : List FileData). TextStops (reading (told_made fs) no_faults no_faults) text status line) same t)) s
