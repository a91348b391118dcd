-- What a clause sees of all seats.
use Rattle.std.specs.Prelude.{◌≡◌, ℕ, ◌+◌, ◌*◌, ◌<◌, ◌≤◌, Option, Some, List, [], length, map, slice_get, slice_index_or}
use Rattle.chaos_letter.specs.declared.letter.Letter.{Letter}
use Rattle.bsp_mail.specs.declared.end.End.{End}
use Rattle.bsp_mail.specs.declared.queues.Queues.{Queues}
use Rattle.bsp_mail.specs.declared.seat.MailSeat.{MailSeat}
use Rattle.bsp_mail.specs.Rule.{IsPrefix}
use Rattle.bsp_mail.specs.Seats.{below, IsPeer, IsOpenOn, IsOutOf, IsInOf, hand_at}

-- a part of the j-th seat
abbrev pub part : {A : Type 0} → (MailSeat → A) → A → List MailSeat → ℕ → A
part f d seats j = slice_index_or (map f seats) j d

abbrev pub number_of : MailSeat → ℕ
number_of s = s.me

abbrev pub outs_of : MailSeat → List End
outs_of s = s.outs.items

abbrev pub ins_of : MailSeat → List End
ins_of s = s.ins.items

-- the two ends of a pair's line
abbrev pub out_end : List MailSeat → ℕ → ℕ → Option End
out_end seats p q = slice_get (part outs_of [] seats p) (below p q)

abbrev pub in_end : List MailSeat → ℕ → ℕ → Option End
in_end seats p q = slice_get (part ins_of [] seats q) (below q p)

-- a pair's lists
abbrev pub sent_on : List MailSeat → ℕ → ℕ → List Letter
sent_on seats p q = (hand_at (part outs_of [] seats p) (below p q)).sent

abbrev pub taken_on : List MailSeat → ℕ → ℕ → List Letter
taken_on seats p q = (hand_at (part ins_of [] seats q) (below q p)).taken

abbrev pub polls_on : List MailSeat → ℕ → ℕ → ℕ
polls_on seats p q = (hand_at (part ins_of [] seats q) (below q p)).polls

abbrev pub IsPair : ℕ → ℕ → Type 0
IsPair p q = (p < 16) × IsPeer p q

pub record IsShaped (queues : Queues) (seats : List MailSeat) : Type 0 where
  pub lines : length queues.lines.items ≡ 240
  pub count : length seats ≡ 16
  pub numbers : (j : ℕ) → j < 16 → part number_of 16 seats j ≡ j
  pub outs : (j : ℕ) → j < 16 → length (part outs_of [] seats j) ≡ 15
  pub ins : (j : ℕ) → j < 16 → length (part ins_of [] seats j) ≡ 15

-- the line of this pair isn't settled
pub record IsOpenPair (queues : Queues) (seats : List MailSeat) (p q : ℕ) : Type 0 where
  pub outs : (e : End) → out_end seats p q ≡ Some e → IsOutOf queues p q e
  pub ins : (e : End) → in_end seats p q ≡ Some e → IsInOf queues q p e

-- the sixteen seats of the queues, in their order, and no line is settled
pub record IsWhole (queues : Queues) (seats : List MailSeat) : Type 0 where
  pub count : length seats ≡ 16
  pub each : (j : ℕ) (m : MailSeat) → slice_get seats j ≡ Some m → (m.me ≡ j) × IsOpenOn queues m

-- whole, and no letter was sent, none taken, and no empty poll counted
pub record IsFresh (queues : Queues) (seats : List MailSeat) : Type 0 where
  pub whole : IsWhole queues seats
  pub sent : (p q : ℕ) → IsPair p q → sent_on seats p q ≡ []
  pub taken : (p q : ℕ) → IsPair p q → taken_on seats p q ≡ []
  pub polls : (p q : ℕ) → IsPair p q → polls_on seats p q ≡ 0

pub record SameLists (xs ys : List MailSeat) : Type 0 where
  pub sent : (p q : ℕ) → IsPair p q → sent_on ys p q ≡ sent_on xs p q
  pub taken : (p q : ℕ) → IsPair p q → taken_on ys p q ≡ taken_on xs p q

-- no line but this pair's is touched
pub record SameElse (xs ys : List MailSeat) (from to : ℕ) : Type 0 where
  pub outs : (p q : ℕ) → IsPair p q → ((p ≡ from) × (q ≡ to) → ⊥) → out_end ys p q ≡ out_end xs p q
  pub ins : (p q : ℕ) → IsPair p q → ((p ≡ from) × (q ≡ to) → ⊥) → in_end ys p q ≡ in_end xs p q

-- the sender's end of this pair's line may send
abbrev pub IsOutOn : Queues → List MailSeat → ℕ → ℕ → Type 0
IsOutOn queues seats p q = (e : End) → out_end seats p q ≡ Some e → IsOutOf queues p q e

-- the receiver of this pair's line has given its right away, and no sender's end has changed
pub record AreRetired (queues : Queues) (xs ys : List MailSeat) (from to : ℕ) : Type 0 where
  pub shape : IsShaped queues ys
  pub same : SameLists xs ys
  pub others : SameElse xs ys from to
  pub outs : (j : ℕ) → part outs_of [] ys j ≡ part outs_of [] xs j

-- the sender of this pair's line has taken that right in
pub record AreUnited (queues : Queues) (xs ys : List MailSeat) (from to : ℕ) : Type 0 where
  pub shape : IsShaped queues ys
  pub same : SameLists xs ys
  pub others : SameElse xs ys from to

-- each taken list is a prefix of its sent list
abbrev pub ArePrefixes : List MailSeat → Type 0
ArePrefixes seats = (p q : ℕ) → IsPair p q → IsPrefix (taken_on seats p q) (sent_on seats p q)

-- the pairs before the n-th are settled
pub record Settling (queues : Queues) (xs ys : List MailSeat) (n : ℕ) : Type 0 where
  pub shape : IsShaped queues ys
  pub same : SameLists xs ys
  pub opened : (p q : ℕ) → IsPair p q → n ≤ 16 * p + q → IsOpenPair queues ys p q
  pub settled : (p q : ℕ) → IsPair p q → 16 * p + q < n → IsPrefix (taken_on ys p q) (sent_on ys p q)
