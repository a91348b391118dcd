-- What a clause sees of the seats.
use Rattle.std.specs.Prelude.{◌≡◌, ◌≢◌, ℕ, ◌+◌, ◌-◌, ◌*◌, ◌<◌, true, ◌==◌, cond, nat_lt, Option, Some, List, [], ◌∷◌, length, map}
use Rattle.std.specs.Prelude.{slice_get, slice_index_or}
use Rattle.crossbeam_queue.specs.SegTies.{IsSegPassOf}
use Rattle.atomic_blocks.specs.declared.web.Seat.{Seat}
use Rattle.crossbeam_queue.specs.declared.seg_queue.Going.{Going}
use Rattle.std.specs.declared.alloc.Global.{Global}
use Rattle.chaos_letter.specs.declared.letter.Letter.{Letter}
use Rattle.bsp_mail.specs.declared.hand.Hand.{Hand}
use Rattle.bsp_mail.specs.declared.end.End.{End}
use Rattle.bsp_mail.specs.declared.queues.Queue.{Queue}
use Rattle.bsp_mail.specs.declared.queues.Queues.{Queues}
use Rattle.bsp_mail.specs.declared.seat.MailSeat.{MailSeat}
use Rattle.bsp_mail.specs.Rule.{nobody}

-- how many of the seats below `to` aren't `me`
abbrev pub below : ℕ → ℕ → ℕ
below me to = cond (nat_lt me to) (to - 1) to

-- where the line of a pair stands
abbrev pub place : ℕ → ℕ → ℕ
place from to = 15 * from + below from to

abbrev pub IsPeer : ℕ → ℕ → Type 0
IsPeer me q = (q < 16) × (q ≢ me)

abbrev pub view_of : End → Hand
view_of e = e.pass.me.view.client

-- it is an end of the line at this place
abbrev pub IsEndOf : Queues → ℕ → End → Type 0
IsEndOf queues k e = (queue : Queue) × (slice_get queues.lines.items k ≡ Some queue) × IsSegPassOf queue.line e.pass

abbrev pub IsOutOf : Queues → ℕ → ℕ → End → Type 0
IsOutOf queues me q e = IsEndOf queues (place me q) e × ((view_of e).sends ≡ true)

abbrev pub IsInOf : Queues → ℕ → ℕ → End → Type 0
IsInOf queues me q e = IsEndOf queues (place q me) e × ((view_of e).takes ≡ true) × ((view_of e).dropped ≡ [])

-- the seat is of these queues and may put and take
pub record IsOpenOn (queues : Queues) (s : MailSeat) : Type 0 where
  pub me : s.me < 16
  pub outs : length s.outs.items ≡ 15
  pub ins : length s.ins.items ≡ 15
  pub lines : length queues.lines.items ≡ 240
  pub out_ends : (q : ℕ) (e : End) → IsPeer s.me q → slice_get s.outs.items (below s.me q) ≡ Some e → IsOutOf queues s.me q e
  pub in_ends : (q : ℕ) (e : End) → IsPeer s.me q → slice_get s.ins.items (below s.me q) ≡ Some e → IsInOf queues s.me q e

abbrev pub hand_at : List End → ℕ → Hand
hand_at ends k = slice_index_or (map view_of ends) k nobody

abbrev pub sent_to : MailSeat → ℕ → List Letter
sent_to s q = (hand_at s.outs.items (below s.me q)).sent

abbrev pub taken_from : MailSeat → ℕ → List Letter
taken_from s q = (hand_at s.ins.items (below s.me q)).taken

abbrev pub polls_of : MailSeat → ℕ → ℕ
polls_of s q = (hand_at s.ins.items (below s.me q)).polls

-- one letter, at one of the seats
abbrev pub only : ℕ → ℕ → Letter → List Letter
only to q x = cond (q == to) (x ∷ []) []

-- of one line alone
abbrev pub IsOutAt : Queues → MailSeat → ℕ → Type 0
IsOutAt queues s q = (e : End) → slice_get s.outs.items (below s.me q) ≡ Some e → IsOutOf queues s.me q e

abbrev pub IsInAt : Queues → MailSeat → ℕ → Type 0
IsInAt queues s q = (e : End) → slice_get s.ins.items (below s.me q) ≡ Some e → IsInOf queues s.me q e

-- a pass with the right to take from this line, and what it has taken
abbrev pub IsHeirOf : Queues → ℕ → List Letter → Seat (Option Letter) (Going Letter Hand) Global → Type 0
IsHeirOf queues k taken pass = ((queue : Queue) → slice_get queues.lines.items k ≡ Some queue → IsSegPassOf queue.line pass)
    × (pass.me.view.client.takes ≡ true) × (pass.me.view.client.taken ≡ taken)
