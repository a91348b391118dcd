-- What an answer says.
use Rattle.std.proofs.Common.{◌≡◌, ℕ, ◌⊎◌, ◌<◌, ◌≤◌, Bool, true, false, List, refl, ap, ◌∙◌, subst, inl, inr, arith, get_or, length}
use Rattle.std.specs.Prelude.{ℤ, pos, ◌≤ℤ◌, ◌||◌, int_lt, nat_lt, cond, Option, Some, None, Result, Ok, Err, IfOk, OnErr, OnOk, MatchResult}
use Rattle.std.specs.List.{position_or_len}
use Rattle.std.proofs.lemmas.Bool.Decides.{nat_tests}
use Rattle.std.proofs.lemmas.Int.{ints}
use Rattle.std.proofs.lemmas.List.Sums.{fails_before_first}
use Rattle.fd_words.specs.declared.wanting.Memory as wanting
use Rattle.fd_edge.specs.Comes.{comes_complete, comes_right, run_answers}
use Rattle.fd_edge.specs.Endings.{IsWritten, Left, left}
use Rattle.fd_edge.specs.Readings.{Reading}
use Rattle.fd_edge.specs.Unusable.{unusable_failed, unusable_status}
use Rattle.bsp_mail.specs.declared.mail.Mail.{Mail}
use Rattle.chaos_bins.specs.Bins.{lines_of}
use Rattle.chaos_bins.specs.Plan.{AppendPlan}
use Rattle.chaos_append.specs.Asked.{AskedToAppend}
use Rattle.chaos_append.specs.Letters.{AreAppendedInPart, AreAppendedWhole}
use Rattle.chaos_append.specs.Outcomes.{Accepted, IsAnswered, IsCompleted, IsCut, IsRun, NoneFailed, RanRight, Runs, plan_by, plan_for}
use Rattle.chaos_append.specs.Outcomes.{the_bins, the_values, usage_line}
use Rattle.chaos_append.specs.Reading.{GivesParticles, ReadingStops, first_outside, in_bins, in_values, is_outside, no_such_bin}

-- a run of the plan of a job
pub job_answers : (w : AskedToAppend) (r : Reading) (plan : AppendPlan) (firsts amounts : List ℤ) (run : Result (List ℕ) wanting.Memory)
    (result before now : ℕ) (was is : Option (List ℕ)) (old new : Mail) → plan ≡ plan_for w firsts amounts
    → GivesParticles w r firsts amounts
    → IfOk run (λ text. text ≡ lines_of plan.bins plan.steps plan.particles) → OnOk run (AreAppendedWhole plan new.seats.items)
    → OnErr run ((new ≡ old) ⊎ AreAppendedInPart plan new.seats.items)
    → MatchResult run (λ text. IsWritten 0 text result before now was is) (λ memory. (result ≡ 70) × (is ≡ was))
    → IsAnswered (Some w) r result (left before was old) (left now is new)
job_answers w r plan firsts amounts run result before now was is old new same gives lines whole cut ends =
    let accepted : Accepted (Some w) r = record { asked = w; taken = refl; firsts = firsts; amounts = amounts; given = gives } in
    let end = run_answers usage_line (λ v. ReadingStops v r)
    (Accepted (Some w) r) (IsRun (Some w) r) (Some w) (IsCut (Some w) r) accepted run
    result before now was is old new in
    end (runs run (subst (λ (p : AppendPlan). IfOk run (λ text. text ≡ lines_of p.bins p.steps p.particles)) same lines)
    (subst (λ (p : AppendPlan). OnOk run (AreAppendedWhole p new.seats.items)) same whole))
    (part run (subst (λ (p : AppendPlan). OnErr run ((new ≡ old) ⊎ AreAppendedInPart p new.seats.items)) same cut)) ends
  where
    runs : (run : Result (List ℕ) wanting.Memory)
        → IfOk run (λ text. text ≡ lines_of w.bins w.steps (plan_for w firsts amounts).particles)
        → OnOk run (AreAppendedWhole (plan_for w firsts amounts) new.seats.items)
        → IfOk run (λ text. Runs (plan_for w firsts amounts) (record { status = 0; bytes = text; letters = Some new }))
    runs (Ok text) lines whole = record { status = refl; bytes = lines; letters = whole }
    runs (Err m) lines whole = tt

    part : (run : Result (List ℕ) wanting.Memory) → OnErr run ((new ≡ old) ⊎ AreAppendedInPart (plan_for w firsts amounts) new.seats.items)
        → OnErr run (IsCut (Some w) r old new)
    part (Ok text) cut = tt
    part (Err m) (inl stays) = inl stays
    part (Err m) (inr some) = inr (record { asked = w; taken = refl; firsts = firsts; amounts = amounts; given = gives }, some)

pub same_plan : (w : AskedToAppend) (bins steps count : ℕ) (firsts amounts : List ℤ) → bins ≡ w.bins → steps ≡ w.steps → count ≡ w.count
    → plan_by bins steps w.nodes count firsts amounts ≡ plan_for w firsts amounts
same_plan w bins steps count firsts amounts b s c =
    ap (λ k. plan_by k steps w.nodes count firsts amounts) b
    ∙ ap (λ k. plan_by w.bins k w.nodes count firsts amounts) s
    ∙ ap (λ k. plan_by w.bins w.steps w.nodes k firsts amounts) c

-- ---- each first bin is one of the bins

inside : (z : ℤ) (bins : ℕ) → is_outside bins z ≡ false → (pos 1 ≤ℤ z) × (z ≤ℤ pos bins)
inside z bins e = by (int_lt z (pos 1)) refl (int_lt (pos bins) z) refl e
  where
    by : (a : Bool) → int_lt z (pos 1) ≡ a → (b : Bool) → int_lt (pos bins) z ≡ b → (a || b) ≡ false → (pos 1 ≤ℤ z) × (z ≤ℤ pos bins)
    by true low b high e = cc
    by false low true high e = cc
    by false low false high e = (grind (arith, ints, low), grind (arith, ints, high))

none_before : (bins : ℕ) (xs : List ℤ) → first_outside bins xs ≡ None → length xs ≤ position_or_len (is_outside bins) xs
none_before bins xs e = by (nat_lt n (length xs)) refl e
  where
    n : ℕ
    n = position_or_len (is_outside bins) xs

    over : (a b : ℕ) → nat_lt a b ≡ false → b ≤ a
    over a b f = grind (arith, nat_tests)

    by : (b : Bool) → nat_lt n (length xs) ≡ b → cond b (Some n) None ≡ None → length xs ≤ n
    by true f e = cc
    by false f e = over n (length xs) f

pub all_inside : (bins : ℕ) (xs : List ℤ) → first_outside bins xs ≡ None → (k : ℕ) (d : ℤ) → k < length xs
    → (pos 1 ≤ℤ get_or xs k d) × (get_or xs k d ≤ℤ pos bins)
all_inside bins xs e k d low =
    inside (get_or xs k d) bins (fails_before_first (is_outside bins) xs k d (omega (arith, low, none_before bins xs e)))

-- ---- whatever was asked for

failed_stop : (request : Option AskedToAppend) (r : Reading) {status : ℕ} {line : List ℕ} (w : AskedToAppend) → request ≡ Some w
    → NoneFailed request r → ReadingStops w r status line → status ≡ 69 → ⊥
failed_stop request r w is none (in_bins status line u) e = none w.bin_file (the_bins w is) (unusable_failed u e)
failed_stop request r w is none (no_such_bin firsts read at first) e = omega (arith, e)
failed_stop request r w is none (in_values firsts read status line u) e =
    none w.value_file (the_values w is firsts read) (unusable_failed u e)

no_run : {w : AskedToAppend} {r : Reading} {status : ℕ} {line : List ℕ} → ReadingStops w r status line → status ≡ 0 → ⊥
no_run (in_bins status line u) e = unusable_status u e
no_run (no_such_bin firsts read at first) e = omega (arith, e)
no_run (in_values firsts read status line u) e = unusable_status u e

pub completes : (request : Option AskedToAppend) (r : Reading) (result : ℕ) (old new : Left Mail) → IsAnswered request r result old new
    → IsCompleted request r result old new
completes request r result old new ends sink none =
    comes_complete usage_line (λ v. ReadingStops v r)
    (Accepted request r) (IsRun request r) request (IsCut request r) (λ a o runs. runs.status)
    result old new (λ w status line is stops e. failed_stop request r w is none stops e) ends sink

pub ran_right : (request : Option AskedToAppend) (r : Reading) (result : ℕ) (old new : Left Mail) → IsAnswered request r result old new
    → result ≡ 0 → RanRight request r result old new
ran_right request r result old new =
    comes_right usage_line (λ v. ReadingStops v r) (Accepted request r) (IsRun request r) request (IsCut request r) result old new
    (λ w status line stops e. no_run stops e)
