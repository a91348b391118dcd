-- What comes of a call, what it answers, and what it says where nothing failed.
use Rattle.std.specs.Prelude.{ℕ, ℤ, ◌≡◌, ◌⊎◌, List, Option, Some, IsSomeAnd, codes}
use Rattle.fd_outside.specs.Causes.{Rose}
use Rattle.fd_edge.specs.Comes.{Comes, HasRun}
use Rattle.fd_edge.specs.Endings.{EndsBy, IsComplete, Left, Outcome}
use Rattle.fd_edge.specs.Readings.{Reading}
use Rattle.bsp_mail.specs.declared.mail.Mail.{Mail}
use Rattle.chaos_bins.specs.Bins.{lines_of}
use Rattle.chaos_bins.specs.Plan.{AppendPlan}
use Rattle.chaos_append.specs.Asked.{AskedToAppend}
use Rattle.chaos_append.specs.Letters.{AreAppendedInPart, AreAppendedWhole}
use Rattle.chaos_append.specs.Reading.{AreRead, GivesParticles, ReadingStops}

unfoldable pub usage_line : List ℕ
usage_line = codes "usage: chaosappend BINS STEPS COUNT NODES BINFILE VALUEFILE\n"

abbrev pub plan_by : ℕ → ℕ → ℕ → ℕ → List ℤ → List ℤ → AppendPlan
plan_by bins steps nodes count firsts amounts = record {
  bins = bins;
  steps = steps;
  nodes = nodes;
  particles = record { count = count; bins = firsts; values = amounts };
}

-- the plan of what was asked for, with these first bins and values
abbrev pub plan_for : AskedToAppend → List ℤ → List ℤ → AppendPlan
plan_for w firsts amounts = plan_by w.bins w.steps w.nodes w.count firsts amounts

-- the words ask for particles that the files give
pub record Accepted (request : Option AskedToAppend) (r : Reading) : Type 0 where
  pub asked : AskedToAppend
  pub taken : request ≡ Some asked
  pub firsts : List ℤ
  pub amounts : List ℤ
  pub given : GivesParticles asked r firsts amounts

-- a run: the lines of the final bins, and letters by which the particles were appended
pub record Runs (plan : AppendPlan) (o : Outcome Mail) : Type 0 where
  pub status : o.status ≡ 0
  pub bytes : o.bytes ≡ lines_of plan.bins plan.steps plan.particles
  pub letters : IsSomeAnd o.letters (λ mail. AreAppendedWhole plan mail.seats.items)

abbrev pub plan_in : {request : Option AskedToAppend} {r : Reading} → Accepted request r → AppendPlan
plan_in a = plan_for a.asked a.firsts a.amounts

abbrev pub IsRun : (request : Option AskedToAppend) (r : Reading) → Accepted request r → Outcome Mail → Type 0
IsRun request r a o = Runs (plan_in a) o

-- the usage line for words that aren't taken; or for what they ask for a line where there are no particles, and else its run
abbrev pub ToCome : Option AskedToAppend → Reading → Outcome Mail → Type 0
ToCome request r = Comes usage_line (λ w. ReadingStops w r) (Accepted request r) (IsRun request r) request

-- where memory is wanting: the Mail is as it was, or has the first of the letters of a run of what words ask for
abbrev pub IsCut : Option AskedToAppend → Reading → Mail → Mail → Type 0
IsCut request r old new = (new ≡ old) ⊎ ((a : Accepted request r) × AreAppendedInPart (plan_in a) new.seats.items)

abbrev pub IsAnswered : Option AskedToAppend → Reading → ℕ → Left Mail → Left Mail → Type 0
IsAnswered request r result old new = EndsBy (ToCome request r) (IsCut request r) result old new

-- the names of the files that a call may read: that of first bins, and where these are bins, that of values
pub data Names (request : Option AskedToAppend) (r : Reading) : List ℕ → Type 0 where
  the_bins : (w : AskedToAppend) → request ≡ Some w → Names request r w.bin_file
  the_values : (w : AskedToAppend) → request ≡ Some w → (firsts : List ℤ) → AreRead w r firsts → Names request r w.value_file

-- no read of these files failed in this call
abbrev pub NoneFailed : Option AskedToAppend → Reading → Type 0
NoneFailed request r = (name : List ℕ) → Names request r name → Rose (r.before name) (r.now name) → ⊥

-- where neither the sink nor such a read failed, what comes is written whole, or memory was wanting
abbrev pub IsCompleted : Option AskedToAppend → Reading → ℕ → Left Mail → Left Mail → Type 0
IsCompleted request r result old new =
    (Rose old.failures new.failures → ⊥) → NoneFailed request r → IsComplete (ToCome request r) (IsCut request r) result old new

-- the particles were moved right, all lines were written, and the letters stand
abbrev pub RanRight : Option AskedToAppend → Reading → ℕ → Left Mail → Left Mail → Type 0
RanRight request r result old new = HasRun (Accepted request r) (IsRun request r) result old new
