-- A Mail while its lines are opened, pair by pair.
use Rattle.std.specs.Prelude.{◌≡◌, ℕ, ◌+◌, nat_lt, nat_eq, cond, Some, List, [], ◌∷◌, ◌++◌, length, slice_get}
use Rattle.bsp_mail.specs.declared.end.End.{End}
use Rattle.bsp_mail.specs.declared.queues.Queues.{Queues}
use Rattle.bsp_mail.specs.declared.seat.MailSeat.{MailSeat}
use Rattle.bsp_mail.specs.Rule.{sender, receiver}
use Rattle.bsp_mail.specs.Seats.{below, place, IsPeer, IsOutOf, IsInOf, view_of}

-- one more end to send
abbrev pub GetsOut : MailSeat → MailSeat → End → Type 0
GetsOut old new e = (new.me ≡ old.me) × (new.outs.items ≡ old.outs.items ++ e ∷ []) × (new.ins ≡ old.ins)

-- one more end to take
abbrev pub GetsIn : MailSeat → MailSeat → End → Type 0
GetsIn old new e = (new.me ≡ old.me) × (new.outs ≡ old.outs) × (new.ins.items ≡ old.ins.items ++ e ∷ [])

-- so many seats, without ends
pub record AreBare (seats : List MailSeat) (n : ℕ) : Type 0 where
  pub count : length seats ≡ n
  pub each : (j : ℕ) (m : MailSeat) → slice_get seats j ≡ Some m → (m.me ≡ j) × (m.outs.items ≡ []) × (m.ins.items ≡ [])

-- seat j has its first ends, so many to send and so many to take, none used yet
pub record IsSeated (queues : Queues) (j : ℕ) (m : MailSeat) (outs ins : ℕ) : Type 0 where
  pub me : m.me ≡ j
  pub out_count : length m.outs.items ≡ outs
  pub in_count : length m.ins.items ≡ ins
  pub out_ends : (q : ℕ) (e : End) → IsPeer j q → slice_get m.outs.items (below j q) ≡ Some e → IsOutOf queues j q e × (view_of e ≡ sender)
  pub in_ends : (q : ℕ) (e : End) → IsPeer j q → slice_get m.ins.items (below j q) ≡ Some e → IsInOf queues j q e × (view_of e ≡ receiver)

-- how many ends of seat j there are before the line from `from` to `to`, where all lines from lower
-- seats come first
abbrev pub outs_before : ℕ → ℕ → ℕ → ℕ
outs_before from to j = cond (nat_lt j from) 15 (cond (nat_eq j from) (below from to) 0)

abbrev pub ins_before : ℕ → ℕ → ℕ → ℕ
ins_before from to j = below j (cond (nat_lt j to) (from + 1) from)

-- the lines before that one are there
pub record IsOpening (queues : Queues) (seats : List MailSeat) (from to : ℕ) : Type 0 where
  pub lines : length queues.lines.items ≡ place from to
  pub count : length seats ≡ 16
  pub each : (j : ℕ) (m : MailSeat) → slice_get seats j ≡ Some m → IsSeated queues j m (outs_before from to j) (ins_before from to j)
