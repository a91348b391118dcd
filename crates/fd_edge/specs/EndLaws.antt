-- Laws of ending: one end within another, and what an end says.
use Rattle.std.specs.Prelude.{ℕ, ◌≡◌, List, Option, Result, Ok, Err, OnErr, OnOk}
use Rattle.std.proofs.Common.{refl, sym, ◌∙◌, inl, inr}
use Rattle.fd_outside.specs.Causes.{Rose}
use Rattle.fd_edge.specs.declared.ending.Stop.{Stop}
use Rattle.fd_edge.specs.declared.ending.Stop.TheVariants.{Line, Memory}
use Rattle.fd_edge.specs.Endings.{Outcome, a_line, Left, left, IsWritten, IsLine, StopsAs, IsStopped}
use Rattle.fd_edge.specs.Endings.{Ends, EndsBy, IsWhole, IsComplete}

-- what comes may say more, and so may the cut
pub ends_more : {A : Type 0} (P Q : Outcome A → Type 0) (C D : A → A → Type 0) (result : ℕ) (old new : Left A)
    → ((o : Outcome A) → P o → Q o) → ((x y : A) → C x y → D x y) → EndsBy P C result old new → EndsBy Q D result old new
ends_more P Q C D result old new more cut (inl e) = inl (e.0, (more e.0 e.1.0, e.1.1))
ends_more P Q C D result old new more cut (inr m) =
    inr (record { status = m.status; written = m.written; letters = cut old.letters new.letters m.letters })

pub ends_one : {A : Type 0} (Q : Outcome A → Type 0) (D : A → A → Type 0) (o : Outcome A) (result : ℕ) (old new : Left A)
    → Q o → Ends o result old new → EndsBy Q D result old new
ends_one Q D o result old new q e = inl (o, (q, e))

-- a line, which leaves the letters that stood there
pub ends_line : {A : Type 0} (Q : Outcome A → Type 0) (D : A → A → Type 0) (status : ℕ) (bytes : List ℕ)
    (result before now : ℕ) (old new : Option (List ℕ)) (letters : A)
    → Q (a_line status bytes) → IsWritten status bytes result before now old new
    → EndsBy Q D result (left before old letters) (left now new letters)
ends_line Q D status bytes result before now old new letters q w =
    ends_one Q D (a_line status bytes) result (left before old letters) (left now new letters) q (record { wrote = w; letters = refl })

-- or want of memory, where all stays
pub ends_unread : {A : Type 0} (Q : Outcome A → Type 0) (D : A → A → Type 0) (status : ℕ) (bytes : List ℕ)
    (result before now : ℕ) (old new : Option (List ℕ)) (letters : A)
    → Q (a_line status bytes) → D letters letters → IsLine status bytes result before now old new
    → EndsBy Q D result (left before old letters) (left now new letters)
ends_unread Q D status bytes result before now old new letters q d (inl w) =
    ends_line Q D status bytes result before now old new letters q w
ends_unread Q D status bytes result before now old new letters q d (inr m) = inr (record { status = m.0; written = m.1; letters = d })

-- a stop whose line says what comes
pub ends_stop : {A : Type 0} (Q : Outcome A → Type 0) (D : A → A → Type 0) (stop : Stop)
    (result before now : ℕ) (old new : Option (List ℕ)) (letters : A)
    → StopsAs (λ status line. Q (a_line status line)) stop → D letters letters → IsStopped stop result before now old new
    → EndsBy Q D result (left before old letters) (left now new letters)
ends_stop Q D (Line status line) result before now old new letters q d w =
    ends_line Q D status line result before now old new letters q w
ends_stop Q D Memory result before now old new letters q d m = inr (record { status = m.0; written = m.1; letters = d })

-- what is said of a stop may say more
pub stops_more : (P Q : ℕ → List ℕ → Type 0) (stop : Stop) → ((status : ℕ) (line : List ℕ) → P status line → Q status line)
    → StopsAs P stop → StopsAs Q stop
stops_more P Q (Line status line) more p = more status line p
stops_more P Q Memory more p = tt

-- ---- whole ends

-- where the sink didn't fail, or the status isn't that of its failure, an outcome comes to its end whole
pub whole_by : {A : Type 0} (o : Outcome A) (result : ℕ) (old new : Left A)
    → ((result ≡ 74) × Rose old.failures new.failures → ⊥) → Ends o result old new → IsWhole o result old new
whole_by o result old new none e = by e.wrote
  where
    by : IsWritten o.status o.bytes result old.failures new.failures old.written new.written → IsWhole o result old new
    by (inl w) = record { status = w.0; written = w.1; letters = e.letters }
    by (inr f) = absurd (none (f.0, f.1.0))

-- without a failure of the sink and where none of the outcomes is that of a failed read, one of them comes whole
pub complete : {A : Type 0} (Comes : Outcome A → Type 0) (IsCut : A → A → Type 0) (result : ℕ) (old new : Left A)
    → ((o : Outcome A) → Comes o → o.status ≡ 69 → ⊥) → (Rose old.failures new.failures → ⊥)
    → EndsBy Comes IsCut result old new → IsComplete Comes IsCut result old new
complete Comes IsCut result old new read sink (inr m) = inr m
complete Comes IsCut result old new read sink (inl e) =
    let whole = whole_by e.0 result old new (λ f. sink f.1) e.1.1 in
    inl (
      e.0,
      (
        e.1.0,
        record {
          status = whole.status;
          read = λ failed. read e.0 e.1.0 (sym whole.status ∙ failed);
          written = whole.written;
          letters = whole.letters;
        },
      ),
    )

-- a status that is neither that of wanting memory nor that of a sink that failed is that of an outcome, which came whole
pub ended_whole : {A : Type 0} (Comes : Outcome A → Type 0) (IsCut : A → A → Type 0) (result : ℕ) (old new : Left A)
    → (result ≡ 70 → ⊥) → (result ≡ 74 → ⊥) → EndsBy Comes IsCut result old new
    → (o : Outcome A) × (Comes o × IsWhole o result old new)
ended_whole Comes IsCut result old new memory sink (inr m) = absurd (memory m.status)
ended_whole Comes IsCut result old new memory sink (inl e) = (e.0, (e.1.0, whole_by e.0 result old new (λ f. sink f.0) e.1.1))

-- ---- answers of calls that may fail

-- whatever the answer
pub always : {X E P : Type 0} (result : Result X E) → P → OnErr result P
always (Ok x) p = tt
always (Err e) p = p

pub ok_holds : {X E P : Type 0} (result : Result X E) → P → OnOk result P
ok_holds (Ok x) p = p
ok_holds (Err e) p = tt
