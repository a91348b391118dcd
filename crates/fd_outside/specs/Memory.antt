-- What a sink in memory shows.
use Rattle.std.specs.Prelude.{ℕ, ℤ, pos, ◌-◌, ◌≤◌, ◌≡◌, ◌⊎◌, List, take, length, true}
use Rattle.std.specs.List.{list_any}
use Rattle.std.specs.Ordering.{int_eq}
use Rattle.std.proofs.Common.{max}
use Rattle.fd_outside.specs.declared.sink.MemorySink.{MemorySink}

abbrev pub sink_bytes : MemorySink → List ℕ
sink_bytes s = take s.len s.bytes.items

abbrev pub sink_faults : MemorySink → ℕ
sink_faults s = s.faults

-- the number of the next call
abbrev pub next_call : MemorySink → ℕ
next_call s = s.calls

abbrev pub failing_calls : MemorySink → List ℤ
failing_calls s = s.failing

-- how many bytes there is room for
abbrev pub sink_room : MemorySink → ℕ
sink_room s = length s.bytes.items - s.len

-- how many bytes a call takes at most
abbrev pub sink_step : MemorySink → ℕ
sink_step s = max s.per_call 1

-- the next call is one of those that fail, or has bytes for which there is no room
abbrev pub CannotTake : MemorySink → List ℕ → Type 0
CannotTake s piece = (list_any (λ v. int_eq v (pos s.calls)) s.failing ≡ true) ⊎ ((1 ≤ length piece) × (sink_room s ≡ 0))
