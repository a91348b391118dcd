-- What a phase begins with, put into a node.
use Rattle.std.specs.Prelude.{◌≡◌, ℕ, ◌+◌, ◌-◌, ◌*◌, ◌/◌, ◌==◌, ◌<◌, ℤ, Bool, cond, List, [], length, map, replicate}
use Rattle.std.specs.List.{zip}
use Rattle.std.proofs.Common.{ap, sym, ◌∙◌, arith, refl}
use Rattle.fd_words.specs.Lists.{list_at}
use Rattle.chaos_letter.specs.declared.letter.Letter.{Letter}
use Rattle.chaos_letter.specs.declared.wanted.Wanted.{Wanted}
use Rattle.bsp_core.specs.Views.{Face, View}
use Rattle.bsp_desk.specs.Picks.{picked}
use Rattle.bsp_desk.specs.Ways.{sends}
use Rattle.bsp_desk.specs.declared.way.Way.TheVariants.{ToAll, ToFirst}
use Rattle.chaos_bins.specs.Coming.{all_pairs}
use Rattle.chaos_bins.specs.Plan.{AppendPlan, IsAppendPlan, append_letter, append_rows, flat, print_letter, print_wanted, rows_at}
use Rattle.chaos_bins.specs.Plan.{sizes_letter, sizes_wanted, phases_of}
use Rattle.chaos_bins.specs.declared.stage.Stage.{Stage}
use Rattle.chaos_bins.specs.declared.stage.Stage.TheVariants.{Printing, Sizing}
use Rattle.append_node.specs.Begins.{PrintBegins, RoundBegins}
use Rattle.chaos_bins.specs.Dealing.{dealt_rows, length-dealt, length_empty, of_owner, stepped}
use Rattle.append_node.specs.Node.{AppendState, Holds, IsBlock, IsJob, all_sorted, append_ended, last_ended, next_rows, pairs_of, put_in}
use Rattle.append_node.specs.Node.{with_phase}
use Rattle.append_node.specs.NodeLaws.{face_between, first_rows, next_row, own_dealt, rows_dealt, sizes_dealt}
use Rattle.append_node.specs.Telling.{picked_alike, print_told, rows_told, size_told}
use Rattle.append_node.specs.declared.begin.Begun.{Begun}
use Rattle.append_node.specs.declared.begin.Seat.{Seat}
use Rattle.append_node.specs.declared.job.AppendJob.{AppendJob}

-- a node with other parts
abbrev shaped : View AppendState → Stage → ℕ → List (ℕ × Letter) → List (ℕ × Wanted) → List ℤ → List (ℕ × Letter) → View AppendState
shaped v stage left out due own next = record {
  face = with_phase v.face left out due;
  state = record { job = v.state.job; at = stage; own = own; next = next; text = v.state.text };
}

same_shape : (v : View AppendState) (stage : Stage) (left left' : ℕ) (out out' : List (ℕ × Letter)) (due due' : List (ℕ × Wanted))
    (own own' : List ℤ)
    (next next' : List (ℕ × Letter)) → left ≡ left' → out ≡ out' → due ≡ due' → own ≡ own' → next ≡ next'
    → shaped v stage left out due own next ≡ shaped v stage left' out' due' own' next'
same_shape v stage left left' out out' due due' own own' next next' l o d w n =
    ap (λ x. shaped v stage x out due own next) l
    ∙ ap (λ x. shaped v stage left' x due own next) o
    ∙ ap (λ x. shaped v stage left' out' x own next) d
    ∙ ap (λ x. shaped v stage left' out' due' x next) w
    ∙ ap (λ x. shaped v stage left' out' due' own' x) n

-- the lists that a node deals out, by what it is seen as
pub lists_are : (v : View AppendState) (lists : List (List ℤ)) (extent nodes me : ℕ) (own : List ℤ) (got : List Letter)
    → lists ≡ dealt_rows extent nodes (replicate nodes []) (map (stepped extent) (all_pairs nodes me own got))
    → extent ≡ v.state.job.bins → nodes ≡ v.state.job.nodes → v.face.count ≡ v.state.job.nodes → me ≡ v.face.me → own ≡ v.state.own
    → got ≡ v.face.got
    → lists ≡ dealt_rows v.state.job.bins v.state.job.nodes (replicate v.state.job.nodes []) (map (stepped v.state.job.bins) (pairs_of v))
lists_are v lists extent nodes me own got is bins_is nodes_is count_is me_is own_is got_is =
    let b = v.state.job.bins in
    let n = v.state.job.nodes in
    let made = λ (xs : List (ℤ × ℤ)). dealt_rows b n (replicate n []) (map (stepped b) xs) in
    is
    ∙ ap (λ e. dealt_rows e nodes (replicate nodes []) (map (stepped e) (all_pairs nodes me own got))) bins_is
    ∙ ap (λ k. dealt_rows b k (replicate k []) (map (stepped b) (all_pairs k me own got))) nodes_is
    ∙ ap (λ k. made (all_pairs k me own got)) (sym count_is)
    ∙ ap (λ m. made (all_pairs v.face.count m own got)) me_is
    ∙ ap (λ l. made (all_pairs v.face.count v.face.me l got)) own_is
    ∙ ap (λ l. made (all_pairs v.face.count v.face.me v.state.own l)) got_is

pub length-lists : (lists : List (List ℤ)) (extent nodes : ℕ) (xs : List (ℤ × ℤ)) → lists ≡ dealt_rows extent nodes (replicate nodes []) xs
    → length lists ≡ nodes
length-lists lists extent nodes xs e = ap length e ∙ length-dealt extent nodes (replicate nodes []) xs ∙ length_empty nodes

pub round_is_put : (v : View AppendState) (seat : Seat) (t left : ℕ) (lists : List (List ℤ)) (b : Begun)
    → RoundBegins seat (t + 1) left lists b
    → lists ≡ dealt_rows v.state.job.bins v.state.job.nodes (replicate v.state.job.nodes []) (map (stepped v.state.job.bins) (pairs_of v))
    → seat.me ≡ v.face.me → seat.count ≡ v.face.count → v.face.count ≡ v.state.job.nodes → v.face.me < v.face.count → left ≡ v.face.left - 1
    → put_in v (Sizing (t + 1)) b ≡ append_ended v t
round_is_put v seat t left lists b h is me count nodes low left_is =
    let bins = v.state.job.bins in
    let n = v.state.job.nodes in
    let xs = map (stepped bins) (pairs_of v) in
    let to = λ (q : ℕ). sends ToAll v.face.me q in
    let sizes = λ (q : ℕ). size_told (t + 1) (length (list_at lists q) / 2) in
    let rows = λ (q : ℕ). rows_told (t + 1) (list_at lists q) in
    same_shape v (Sizing (t + 1)) b.phase.left (v.face.left - 1) b.phase.out.items
    (picked (λ q. sizes_letter (t + 1) (next_rows v q)) to 0 v.face.count) b.phase.due.items
    (picked (λ q. sizes_wanted (t + 1)) (λ q. sends ToAll q v.face.me) 0 v.face.count) b.own (flat (next_rows v v.face.me)) b.next.items
    (picked (λ q. append_letter (t + 1) (next_rows v q)) to 0 v.face.count) (h.can.left ∙ left_is)
    (h.out
    ∙ ap (λ m. picked sizes (λ q. sends ToAll m q) 0 seat.count) me
    ∙ ap (λ k. picked sizes to 0 k) (count ∙ nodes)
    ∙ sizes_dealt bins n (t + 1) lists xs to is
    ∙ ap (λ k. picked (λ q. sizes_letter (t + 1) (next_rows v q)) to 0 k) (sym nodes))
    (h.due
    ∙ ap (λ m. picked (λ q. sizes_wanted (t + 1)) (λ q. sends ToAll q m) 0 seat.count) me
    ∙ ap (λ k. picked (λ q. sizes_wanted (t + 1)) (λ q. sends ToAll q v.face.me) 0 k) count)
    (h.own ∙ ap (list_at lists) me ∙ own_dealt bins n v.face.me lists xs (omega (arith, low, nodes)) is)
    (h.next
    ∙ ap (λ m. picked rows (λ q. sends ToAll m q) 0 seat.count) me
    ∙ ap (λ k. picked rows to 0 k) (count ∙ nodes)
    ∙ rows_dealt bins n (t + 1) lists xs to is
    ∙ ap (λ k. picked (λ q. append_letter (t + 1) (next_rows v q)) to 0 k) (sym nodes))

pub print_is_put : (v : View AppendState) (seat : Seat) (steps left : ℕ) (rows : List ℤ) (b : Begun) → PrintBegins seat steps left rows b
    → steps ≡ v.state.job.steps → rows ≡ flat (all_sorted v) → seat.me ≡ v.face.me → seat.count ≡ v.face.count → left ≡ v.face.left - 1
    → put_in v Printing b ≡ last_ended v
print_is_put v seat steps left rows b h steps_is rows_is me count left_is =
    let letter = λ (q : ℕ). print_letter v.state.job.steps (all_sorted v) in
    same_shape v Printing b.phase.left (v.face.left - 1) b.phase.out.items (picked letter (λ q. sends ToFirst v.face.me q) 0 v.face.count)
    b.phase.due.items (picked (λ q. print_wanted v.state.job.steps) (λ q. sends ToFirst q v.face.me) 0 v.face.count) b.own
    (cond (v.face.me == 0) (flat (all_sorted v)) []) b.next.items [] (h.can.left ∙ left_is)
    (h.out
    ∙ ap (λ s. picked (λ q. print_told s rows) (λ q. sends ToFirst seat.me q) 0 seat.count) steps_is
    ∙ ap (λ r. picked (λ q. print_told v.state.job.steps r) (λ q. sends ToFirst seat.me q) 0 seat.count) rows_is
    ∙ ap (λ m. picked letter (λ q. sends ToFirst m q) 0 seat.count) me
    ∙ ap (λ k. picked letter (λ q. sends ToFirst v.face.me q) 0 k) count)
    (h.due
    ∙ ap (λ s. picked (λ q. print_wanted s) (λ q. sends ToFirst q seat.me) 0 seat.count) steps_is
    ∙ ap (λ m. picked (λ q. print_wanted v.state.job.steps) (λ q. sends ToFirst q m) 0 seat.count) me
    ∙ ap (λ k. picked (λ q. print_wanted v.state.job.steps) (λ q. sends ToFirst q v.face.me) 0 k) count)
    (h.own ∙ ap (λ r. cond (seat.me == 0) r []) rows_is ∙ ap (λ m. cond (m == 0) (flat (all_sorted v)) []) me)
    h.next

-- ---- the beginning

pub first_lists : (job : AppendJob) (lists : List (List ℤ)) (extent nodes : ℕ) (firsts amounts xs ys : List ℤ)
    → lists ≡ dealt_rows extent nodes (replicate nodes []) (zip xs ys) → extent ≡ job.bins → nodes ≡ job.nodes → xs ≡ firsts → ys ≡ amounts
    → lists ≡ dealt_rows job.bins job.nodes (replicate job.nodes []) (zip firsts amounts)
first_lists job lists extent nodes firsts amounts xs ys is bins_is nodes_is firsts_is amounts_is =
    is
    ∙ ap (λ e. dealt_rows e nodes (replicate nodes []) (zip xs ys)) bins_is
    ∙ ap (λ k. dealt_rows job.bins k (replicate k []) (zip xs ys)) nodes_is
    ∙ ap (λ l. dealt_rows job.bins job.nodes (replicate job.nodes []) (zip l ys)) firsts_is
    ∙ ap (λ l. dealt_rows job.bins job.nodes (replicate job.nodes []) (zip firsts l)) amounts_is

module _ (plan : AppendPlan) (is : IsAppendPlan plan) (job : AppendJob) (is_job : IsJob plan job) (p : ℕ) (low : p < plan.nodes)
    (firsts amounts : List ℤ)
    (block : IsBlock plan p firsts amounts) (lists : List (List ℤ))
    (made : lists ≡ dealt_rows job.bins job.nodes (replicate job.nodes []) (zip firsts amounts)) (b : Begun)
    (begins : RoundBegins (record { me = p; count = job.nodes }) 0 (2 * (job.steps + 1) + 1) lists b) where
  abbrev to : ℕ → Bool
  to q = sends ToAll p q

  row : (q : ℕ) → of_owner job.bins job.nodes (zip firsts amounts) q ≡ rows_at plan 0 p q
  row q =
      ap (λ e. of_owner e job.nodes (zip firsts amounts) q) is_job.bins
      ∙ ap (λ n. of_owner plan.bins n (zip firsts amounts) q) is_job.nodes
      ∙ first_rows plan p q firsts amounts low block

  each_row : (f : List (ℤ × ℤ) → Letter)
      → picked (λ q. f (of_owner job.bins job.nodes (zip firsts amounts) q)) to 0 job.nodes ≡ picked (λ q. f (rows_at plan 0 p q)) to 0
      plan.nodes
  each_row f =
      picked_alike (λ q. f (of_owner job.bins job.nodes (zip firsts amounts) q)) (λ q. f (rows_at plan 0 p q)) to 0 job.nodes
      (λ q l m s. ap f (row q))
      ∙ ap (λ n. picked (λ q. f (rows_at plan 0 p q)) to 0 n) is_job.nodes

  left_is : b.phase.left ≡ phases_of plan - 0
  left_is = begins.can.left ∙ ap (λ s. 2 * (s + 1) + 1) is_job.steps ∙ omega arith

  face_is : face_between p job.nodes b.phase.left b.phase.out.items b.phase.due.items ≡ append_rows plan 0 p
  face_is =
      ap (λ n. face_between p n b.phase.left b.phase.out.items b.phase.due.items) is_job.nodes
      ∙ next_row plan 0 p b.phase.left b.phase.out.items b.phase.due.items (Sizing 0) refl left_is (omega (arith, left_is))
      (begins.out ∙ sizes_dealt job.bins job.nodes 0 lists (zip firsts amounts) to made ∙ each_row (sizes_letter 0))
      (begins.due ∙ ap (λ n. picked (λ q. sizes_wanted 0) (λ q. sends ToAll q p) 0 n) is_job.nodes)

  pub starts : (face : Face) (text : List ℕ) → face ≡ face_between p job.nodes b.phase.left b.phase.out.items b.phase.due.items → text ≡ []
      → (face ≡ append_rows plan 0 p) × Holds plan 0 p (record { job = job; at = Sizing 0; own = b.own; next = b.next.items; text = text })
  starts face text seen none = (
    seen ∙ face_is,
    record {
      job = is_job;
      at = refl;
      has = record {
        own = begins.own ∙ own_dealt job.bins job.nodes p lists (zip firsts amounts) (omega (arith, low, is_job.nodes)) made
            ∙ ap flat (row p);
        next = begins.next ∙ rows_dealt job.bins job.nodes 0 lists (zip firsts amounts) to made ∙ each_row (append_letter 0);
        text = none;
      };
    },
  )
