-- What a phase begins with on a node.
use Rattle.std.specs.Prelude.{◌≡◌, ℕ, ◌/◌, ◌==◌, ◌≤◌, ℤ, if◌then◌else◌, List, [], length, vec_capacity}
use Rattle.fd_words.specs.Lists.{list_at}
use Rattle.bsp_core.specs.Views.{Ascends, nodes_in}
use Rattle.bsp_desk.specs.Picks.{picked}
use Rattle.bsp_desk.specs.Ways.{sends}
use Rattle.bsp_desk.specs.declared.way.Way.TheVariants.{ToAll, ToFirst}
use Rattle.chaos_bins.specs.Plan.{print_wanted, sizes_wanted}
use Rattle.append_node.specs.Telling.{print_told, rows_told, size_told}
use Rattle.append_node.specs.declared.begin.Begun.{Begun}
use Rattle.append_node.specs.declared.begin.Seat.{Seat}

-- a phase as a desk takes it
pub record CanBegin (seat : Seat) (phases : ℕ) (b : Begun) : Type 0 where
  pub left : b.phase.left ≡ phases
  pub got : b.phase.got.items ≡ []
  pub room : length b.phase.due.items ≤ vec_capacity b.phase.got
  pub out_up : Ascends seat.me seat.count 0 (nodes_in b.phase.out.items)
  pub due_up : Ascends seat.me seat.count 0 (nodes_in b.phase.due.items)
  pub next_up : Ascends seat.me seat.count 0 (nodes_in b.next.items)

-- a round: how many pairs are in the list of each, and next the list itself
pub record RoundBegins (seat : Seat) (round left : ℕ) (lists : List (List ℤ)) (b : Begun) : Type 0 where
  pub can : CanBegin seat left b
  pub out : b.phase.out.items ≡ picked (λ q. size_told round (length (list_at lists q) / 2)) (λ q. sends ToAll seat.me q) 0 seat.count
  pub due : b.phase.due.items ≡ picked (λ q. sizes_wanted round) (λ q. sends ToAll q seat.me) 0 seat.count
  pub own : b.own ≡ list_at lists seat.me
  pub next : b.next.items ≡ picked (λ q. rows_told round (list_at lists q)) (λ q. sends ToAll seat.me q) 0 seat.count

-- the last phase: these rows to node 0, which keeps its own
pub record PrintBegins (seat : Seat) (steps left : ℕ) (rows : List ℤ) (b : Begun) : Type 0 where
  pub can : CanBegin seat left b
  pub out : b.phase.out.items ≡ picked (λ q. print_told steps rows) (λ q. sends ToFirst seat.me q) 0 seat.count
  pub due : b.phase.due.items ≡ picked (λ q. print_wanted steps) (λ q. sends ToFirst q seat.me) 0 seat.count
  pub own : b.own ≡ (if seat.me == 0 then rows else [])
  pub next : b.next.items ≡ []
