-- What comes of a call, what it answers, and what it says where nothing failed.
use Rattle.std.specs.Prelude.{ℕ, ℤ, ◌≡◌, ◌⊎◌, ◌++◌, ◌<◌, ◌==◌, List, ◌∷◌, Option, Some, IsSomeAnd, codes, count_by}
use Rattle.fd_outside.specs.Causes.{Rose}
use Rattle.fd_edge.specs.Comes.{Comes, HasRun}
use Rattle.fd_edge.specs.Endings.{EndsBy, IsComplete, Left, Outcome}
use Rattle.fd_edge.specs.Readings.{Reading}
use Rattle.chaos_letter.specs.declared.letter.Letter.{Letter}
use Rattle.bsp_desk.specs.Uniform.{letters_of}
use Rattle.bsp_mail.specs.declared.mail.Mail.{Mail}
use Rattle.bsp_threads.specs.Due.{AreCut, AreDue}
use Rattle.chaos_cut.specs.Bisection.{map_of}
use Rattle.chaos_cut.specs.Sizes.{share_of}
use Rattle.bisect_node.specs.Plans.{BisectPlan, round_at, text_of}
use Rattle.bisect_node.specs.Stages.{phases_of}
use Rattle.chaos_rcb.specs.Asked.{AskedToBisect}
use Rattle.chaos_rcb.specs.Columns.{AreRead, NoColumns}

unfoldable pub usage_line : List ℕ
usage_line = codes "usage: chaosbisect PARTS COUNT NODES FILE [FILE [FILE]]\n"

-- the letters that are due in a plan
abbrev pub due_by_plan : BisectPlan → ℕ → ℕ → List Letter
due_by_plan plan p q = letters_of (phases_of plan.parts) (round_at plan) p q

-- the plan of what was asked for, with these coordinates
abbrev pub plan_by : ℕ → ℕ → ℕ → List (List ℤ) → BisectPlan
plan_by parts count nodes columns = record { parts = parts; count = count; nodes = nodes; axes = columns }

abbrev pub plan_for : AskedToBisect → List (List ℤ) → BisectPlan
plan_for w columns = plan_by w.parts w.count w.nodes columns

-- the words ask for elements that the files give coordinates of
pub record Accepted (request : Option AskedToBisect) (r : Reading) : Type 0 where
  pub asked : AskedToBisect
  pub taken : request ≡ Some asked
  pub columns : List (List ℤ)
  pub read : AreRead r.contents asked.count asked.files columns

abbrev pub plan_in : {request : Option AskedToBisect} {r : Reading} → Accepted request r → BisectPlan
plan_in a = plan_for a.asked a.columns

-- each part has as many elements as all, the first ones one more
abbrev pub HasPartSizes : BisectPlan → Type 0
HasPartSizes plan = (i : ℕ) → i < plan.parts
    → count_by (λ part. part == i) (map_of plan.axes plan.parts plan.count) ≡ share_of plan.count plan.parts i

-- a run: the map, and between any two nodes just the letters that its regions and keys give
pub record Runs (plan : BisectPlan) (o : Outcome Mail) : Type 0 where
  pub status : o.status ≡ 0
  pub bytes : o.bytes ≡ text_of plan
  pub shares : HasPartSizes plan
  pub letters : IsSomeAnd o.letters (λ mail. AreDue plan.nodes (due_by_plan plan) mail.seats.items)

-- what stops it: a file that gives no coordinates
abbrev pub IsStop : Reading → AskedToBisect → ℕ → List ℕ → Type 0
IsStop r w status line = NoColumns r w.count w.files status line

abbrev pub IsRun : (request : Option AskedToBisect) (r : Reading) → Accepted request r → Outcome Mail → Type 0
IsRun request r a o = Runs (plan_in a) o

-- the usage line for words that aren't taken; or for what they ask for a line where a file gives no coordinates, and else its run
abbrev pub ToCome : Option AskedToBisect → Reading → Outcome Mail → Type 0
ToCome request r = Comes usage_line (IsStop r) (Accepted request r) (IsRun request r) request

-- where memory is wanting: the Mail is as it was, or has the first of the letters of a run of what words ask for
abbrev pub IsCut : Option AskedToBisect → Reading → Mail → Mail → Type 0
IsCut request r old new = (new ≡ old) ⊎ ((a : Accepted request r) × AreCut (plan_in a).nodes (due_by_plan (plan_in a)) new.seats.items)

abbrev pub IsAnswered : Option AskedToBisect → Reading → ℕ → Left Mail → Left Mail → Type 0
IsAnswered request r result old new = EndsBy (ToCome request r) (IsCut request r) result old new

-- the names of the files that a call may read: the first, and each where those before it gave coordinates
pub record Names (request : Option AskedToBisect) (r : Reading) (name : List ℕ) : Type 0 where
  pub asked : AskedToBisect
  pub taken : request ≡ Some asked
  pub before : List (List ℕ)
  pub after : List (List ℕ)
  pub split : asked.files ≡ before ++ name ∷ after
  pub columns : List (List ℤ)
  pub read : AreRead r.contents asked.count before columns

-- no read of these files failed in this call
abbrev pub NoneFailed : Option AskedToBisect → Reading → Type 0
NoneFailed request r = (name : List ℕ) → Names request r name → Rose (r.before name) (r.now name) → ⊥

-- where neither the sink nor such a read failed, what comes is written whole, or memory was wanting
abbrev pub IsCompleted : Option AskedToBisect → Reading → ℕ → Left Mail → Left Mail → Type 0
IsCompleted request r result old new =
    (Rose old.failures new.failures → ⊥) → NoneFailed request r → IsComplete (ToCome request r) (IsCut request r) result old new

-- the elements were bisected right, the map was written whole, and the letters stand
abbrev pub RanRight : Option AskedToBisect → Reading → ℕ → Left Mail → Left Mail → Type 0
RanRight request r result old new = HasRun (Accepted request r) (IsRun request r) result old new
