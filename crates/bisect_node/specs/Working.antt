-- A work takes a node from phase to phase, and what it begins with.
use Rattle.std.specs.Prelude.{◌≡◌, ℕ, ◌+◌, ◌-◌, ◌^◌, ◌==◌, ◌≤◌, ◌<◌, ℤ, pos, Bool, true, false, cond, List, [], ◌∷◌, length, map, filter}
use Rattle.std.specs.Prelude.{unwrap_or}
use Rattle.std.specs.List.{range_with_len}
use Rattle.std.proofs.Common.{ap, sym, ◌∙◌, subst, arith, refl, inl, inr}
use Rattle.std.proofs.lemmas.Bool.{cases_lt, eqb-true, le-ltb, lt-ltb}
use Rattle.chaos_letter.specs.declared.letter.Letter.{Letter}
use Rattle.chaos_letter.specs.declared.wanted.Wanted.{Wanted}
use Rattle.bsp_core.specs.Views.{Face, View, ready}
use Rattle.bsp_desk.specs.Uniform.{IsAt, row_begun, uniform_got, uniform_work}
use Rattle.bsp_desk.specs.Ways.{letter_as, sends}
use Rattle.bsp_desk.specs.declared.desk.Phase.{Phase}
use Rattle.bsp_desk.specs.declared.way.Way.TheVariants.{ToFirst}
use Rattle.chaos_dist.specs.Counting.{below, up_to}
use Rattle.chaos_dist.specs.Layout.{element_of, length_of}
use Rattle.chaos_dist.specs.LayoutLaws.{length-elements_of}
use Rattle.chaos_dist.specs.declared.shape.Shape.TheVariants.{Block}
use Rattle.chaos_cut.specs.Bisection.{levels_of}
use Rattle.chaos_cut.specs.Regions.{length-range}
use Rattle.bisect_node.specs.Ends.{IsPhaseFor, after_print, after_rank, after_spread, cut_at, due_in, entered, found_behind, next_face}
use Rattle.bisect_node.specs.Ends.{out_in, phase_after, ranked_again, spread_work, told_begun, told_in, worked, worked_in}
use Rattle.bisect_node.specs.ListLaws.{map-below}
use Rattle.bisect_node.specs.Plans.{BisectPlan, IsBisectPlan, IsOfJob, bisect_rows, coordinates_of, own_elements, numbers_at, numbers_in}
use Rattle.bisect_node.specs.Plans.{part_rows, round_at, stage_in, text_of, wanted_at}
use Rattle.bisect_node.specs.Printing.{text_from}
use Rattle.bisect_node.specs.StageLaws.{behind_rank, behind_ranks, behind_spread, print_at, rank_at}
use Rattle.bisect_node.specs.Stages.{level_of, phases_of, stage_of, way_of}
use Rattle.bisect_node.specs.States.{BisectState, Holds, found_at, pieces_of, work_at}
use Rattle.bisect_node.specs.Steps.{counted, cut_pieces}
use Rattle.bisect_node.specs.TextLaws.{text-is}
use Rattle.bisect_node.specs.WorkLaws.{cut-goes, face-begins, found-goes, rank-goes, spread-goes, spread_by, told-goes, work_by}
use Rattle.bisect_node.specs.declared.job.Job.{Job}
use Rattle.bisect_node.specs.declared.pieces.Piece.{Piece}
use Rattle.bisect_node.specs.declared.stage.Stage.{Stage}
use Rattle.bisect_node.specs.declared.stage.Stage.TheVariants.{Spread, Rank, Print}
use Rattle.bisect_node.specs.declared.work.Work.{Work}

-- ---- where a level begins

abbrev level_work : List Piece → List ℤ → Work
level_work pieces told = record { pieces = pieces; cuts = []; found = []; told = told; text = [] }

level-work : (plan : BisectPlan) (level p : ℕ) (stage : Stage) → ((bits : ℕ) → stage ≡ Rank bits → ⊥)
    → level_work (pieces_of plan level p) (numbers_in plan level p stage) ≡ work_by plan level p stage
level-work plan level p Spread not = refl
level-work plan level p (Rank bits) not = absurd (not bits refl)
level-work plan level p Print not = refl

-- what is told there, by the job's numbers
told-by : (plan : BisectPlan) (job : Job) → IsOfJob job plan → (t p : ℕ) (pieces : List Piece)
    → told_begun job t p pieces ≡ told_in (stage_in plan t) plan.count plan.nodes p pieces
told-by plan job of t p pieces =
    ap (λ k. told_in (stage_of (levels_of k) t) job.count job.nodes p pieces) of.parts
    ∙ ap (λ k. told_in (stage_in plan t) k job.nodes p pieces) of.count
    ∙ ap (λ k. told_in (stage_in plan t) plan.count k p pieces) of.nodes

abbrev face_made : ℕ → ℕ → ℕ → List (ℕ × Letter) → List (ℕ × Wanted) → Face
face_made me count left out due = record { me = me; count = count; left = left; out = out; due = due; got = [] }

-- ---- from phase to phase

module _ (plan : BisectPlan) (h : IsBisectPlan plan) (t p : ℕ) (less : p < plan.nodes) (v : View BisectState)
    (ready_is : v.face ≡ ready (bisect_rows plan t) p) (some : 0 < v.face.left) (holds : Holds plan t p v.state) where
  abbrev phases : ℕ
  phases = phases_of plan.parts

  abbrev levels : ℕ
  levels = levels_of plan.parts

  abbrev level : ℕ
  level = level_of t

  abbrev job : Job
  job = v.state.job

  at : IsAt plan.nodes phases t p v.face
  at = uniform_work plan.nodes phases (round_at plan) t p v.face ready_is some

  low : level ≤ levels
  low = omega (arith, at.within)

  phase-is : phases_of job.parts - v.face.left ≡ t
  phase-is = ap (λ k. phases_of k - v.face.left) holds.job.parts ∙ omega (arith, at.left, at.within)

  after-is : phase_after job v.face ≡ t + 1
  after-is = ap (λ k. k + 1) phase-is

  abbrev Next : View BisectState → Type 0
  Next u = (u.face ≡ bisect_rows plan (t + 1) p) × Holds plan (t + 1) p u.state

  enters-next : (work : Work) → t + 1 < phases → work ≡ work_at plan (t + 1) p → Next (entered v work)
  enters-next work more e =
      let told = numbers_at plan (t + 1) p in
      let left : v.face.left - 1 ≡ phases - (t + 1) = omega (arith, at.left) in (
        ap (λ (w : Work). next_face job v.face w.told) e
            ∙ ap (λ me. face_made me v.face.count (v.face.left - 1) (out_in job (phase_after job v.face) me told)
            (due_in job (phase_after job v.face) me (length told))) at.me
            ∙ ap (λ n. face_made p n (v.face.left - 1) (out_in job (phase_after job v.face) p told)
            (due_in job (phase_after job v.face) p (length told))) at.count
            ∙ ap (λ s. face_made p plan.nodes (v.face.left - 1) (out_in job s p told) (due_in job s p (length told))) after-is
            ∙ face-begins plan job holds.job (t + 1) p (v.face.left - 1) more left,
        record {
          job = holds.job;
          work = λ l. e;
          text = λ over. absurd (omega (arith, more, over));
        },
      )

  -- what it knows and what it took, by the stage
  work-is : (stage : Stage) → stage_in plan t ≡ stage → v.state.work ≡ work_by plan level p stage
  work-is stage e = holds.work at.within ∙ ap (work_by plan level p) e

  abbrev letters : Stage → List Letter
  letters stage =
      map (λ q. letter_as (wanted_at plan t) (numbers_in plan level q stage))
      (filter (λ q. sends (way_of stage) q p) (range_with_len 0 plan.nodes))

  got-is : (stage : Stage) → stage_in plan t ≡ stage → v.face.got ≡ letters stage
  got-is stage e = uniform_got plan.nodes phases (round_at plan) t p v.face less ready_is at.within ∙ ap letters e

  at-spread : stage_in plan t ≡ Spread → Next (after_spread v)
  at-spread e =
      let next = behind_spread levels t e in
      enters-next (spread_work job v.state.work v.face.got) (omega (arith, next.within))
      (ap (λ (w : Work). spread_work job w v.face.got) (work-is Spread e)
      ∙ ap (λ (g : List Letter). spread_work job (work_by plan level p Spread) g) (got-is Spread e)
      ∙ ap (λ k. spread_by plan h p less level low k (letters Spread)) holds.job.axes
      ∙ spread-goes plan h p less level low (wanted_at plan t)
      ∙ sym (ap (λ k. work_by plan k p (stage_in plan (t + 1))) next.level ∙ ap (work_by plan level p) next.stage))

  -- behind a Rank
  module _ (bits : ℕ) (e : stage_in plan t ≡ Rank bits) where
    few : bits ≤ 83
    few = let is = rank_at levels t bits e in let rest = is.1 in omega (arith, rest)

    abbrev found : List ℕ
    found = found_at plan level (Rank (bits + 1))

    found-is : found_behind bits v.state.work v.face.got ≡ found
    found-is =
        ap (λ (w : Work). found_behind bits w v.face.got) (work-is (Rank bits) e)
        ∙ ap (λ (g : List Letter). found_behind bits (work_by plan level p (Rank bits)) g) (got-is (Rank bits) e)
        ∙ found-goes plan h p less level low (wanted_at plan t) bits few

    ranks-on : bits < 83 → Next (ranked_again bits found v)
    ranks-on more =
        let next = behind_rank levels t bits e more in
        let with = λ (w : Work).
        let k : Work = record {
          pieces = w.pieces;
          cuts = w.cuts;
          found = found;
          told = counted (2 ^ (83 - (bits + 1))) w.cuts found;
          text = w.text;
        } in k in
        enters-next (with v.state.work) (omega (arith, next.within))
        (ap with (work-is (Rank bits) e)
        ∙ rank-goes plan h p less level low bits more
        ∙ sym (ap (λ k. work_by plan k p (stage_in plan (t + 1))) next.level ∙ ap (work_by plan level p) next.stage))

    cuts-on : 83 ≤ bits → Next (cut_at found v)
    cuts-on all =
        let next = behind_ranks levels t bits e all in
        let whole = next.whole in
        let within = next.within in
        let up = next.level in
        let stage = stage_in plan (t + 1) in
        let last : bits ≡ 83 = omega (arith, all, few) in
        let not = λ (b : ℕ) (f : stage ≡ Rank b). let is = rank_at levels (t + 1) b f in let rest = is.1 in let none : ⊥ =
        omega (arith, rest, whole) in none in
        let with = λ (w : Work).
        let halves = cut_pieces w.cuts found 0 w.pieces in
        let k : Work = record {
          pieces = halves;
          cuts = [];
          found = [];
          told = told_begun job (phase_after job v.face) v.face.me halves;
          text = w.text;
        } in k in
        let pieces = pieces_of plan (level + 1) p in
        let told : told_begun job (phase_after job v.face) v.face.me pieces ≡ numbers_in plan (level + 1) p stage =
        ap (λ s. told_begun job s v.face.me pieces) after-is
        ∙ ap (λ me. told_begun job (t + 1) me pieces) at.me
        ∙ told-by plan job holds.job (t + 1) p pieces
        ∙ told-goes plan h p less (level + 1) stage (λ f. tt) (λ f. let over = print_at levels (t + 1) f in
        omega (arith, over, within, up)) not in
        enters-next (with v.state.work) (omega (arith, within))
        (ap with (work-is (Rank bits) e)
        ∙ ap (λ (l : List Piece). level_work l (told_begun job (phase_after job v.face) v.face.me l))
        (cut-goes plan h p less level low bits last)
        ∙ ap (λ (l : List ℤ). level_work pieces l) told
        ∙ level-work plan (level + 1) p stage not
        ∙ sym (ap (λ k. work_by plan k p stage) up))

    at-rank : Next (after_rank bits v)
    at-rank =
        let last = found_behind bits v.state.work v.face.got in
        let either = λ (b : Bool) (l : List ℕ). cond b (ranked_again bits l v) (cut_at l v) in
        elim (cases_lt bits 83) [
          | inl more ↦ subst Next (sym (ap (λ b. either b last) (lt-ltb bits 83 more) ∙ ap (λ l. either true l) found-is)) (ranks-on more)
          | inr all ↦ subst Next (sym (ap (λ b. either b last) (le-ltb bits 83 all) ∙ ap (λ l. either false l) found-is)) (cuts-on all)
        ]

  -- the end
  writes : (b : Bool) → (p == 0) ≡ b
      → cond b (text_from (part_rows plan (own_elements plan p)) (letters Print)) [] ≡ cond b (text_of plan) []
  writes true e =
      let first : p ≡ 0 = eqb-true p 0 e in
      ap (λ k. text_from (part_rows plan (own_elements plan k))
      (map (λ q. letter_as (wanted_at plan t) (part_rows plan (own_elements plan q)))
      (filter (λ q. sends ToFirst q k) (below plan.nodes)))) first
      ∙ text-is plan h (wanted_at plan t)
  writes false e = refl

  at-print : stage_in plan t ≡ Print → Next (after_print v)
  at-print e =
      let over = print_at levels t e in
      let within = at.within in
      let none : 0 ≡ phases - (t + 1) = omega (arith, over) in (
        ap (λ me. face_made me v.face.count 0 [] []) at.me
            ∙ ap (λ n. face_made p n 0 [] []) at.count
            ∙ row_begun plan.nodes phases (round_at plan) (t + 1) p 0 [] [] none (record {
              some_out = λ l. absurd (omega (arith, l));
              some_due = λ l. absurd (omega (arith, l));
              none_out = λ n. refl;
              none_due = λ n. refl;
            }),
        record {
          job = holds.job;
          work = λ l. absurd (omega (arith, l, over));
          text = λ end.
              ap (λ me. cond (me == 0) (text_from v.state.work.told v.face.got) v.state.work.text) at.me
              ∙ ap (λ (w : Work). cond (p == 0) (text_from w.told v.face.got) w.text) (work-is Print e)
              ∙ ap (λ (g : List Letter). cond (p == 0) (text_from (part_rows plan (own_elements plan p)) g) []) (got-is Print e)
              ∙ writes (p == 0) refl;
        },
      )

  at-stage : (stage : Stage) → stage_in plan t ≡ stage → Next (worked_in stage v)
  at-stage Spread e = at-spread e
  at-stage (Rank bits) e = at-rank bits e
  at-stage Print e = at-print e

  pub goes-on : Next (worked v)
  goes-on =
      let now : stage_of (levels_of job.parts) (phases_of job.parts - v.face.left) ≡ stage_in plan t =
      ap (λ k. stage_of (levels_of job.parts) k) phase-is ∙ ap (λ k. stage_of (levels_of k) t) holds.job.parts in
      subst Next (sym (ap (λ s. worked_in s v) now)) (at-stage (stage_in plan t) refl)

-- ---- what a node begins with

module _ (plan : BisectPlan) (h : IsBisectPlan plan) (job : Job) (of : IsOfJob job plan) (p : ℕ) (less : p < plan.nodes) where
  -- the piece of all elements
  pub whole-is : (elements : List ℤ) (own : List (List ℤ))
      → elements ≡ map (λ k. pos (element_of Block job.count job.nodes p k)) (below (length_of Block job.count job.nodes p))
      → own ≡ coordinates_of plan.axes (own_elements plan p)
      → record { first = 0; parts = job.parts; size = job.count; elements = elements; coordinates = own } ∷ [] ≡ pieces_of plan 0 p
  whole-is elements own listed held =
      let make = λ (parts size : ℕ) (elements : List ℤ) (coordinates : List (List ℤ)).
      let piece : Piece = record { first = 0; parts = parts; size = size; elements = elements; coordinates = coordinates } in piece ∷ [] in
      let all : elements ≡ map pos (own_elements plan p) =
      listed
      ∙ ap (λ n. map (λ k. pos (element_of Block n job.nodes p k)) (below (length_of Block n job.nodes p))) of.count
      ∙ ap (λ n. map (λ k. pos (element_of Block plan.count n p k)) (below (length_of Block plan.count n p))) of.nodes
      ∙ ap (λ n. map (λ k. pos (element_of Block plan.count plan.nodes p k)) (below n))
      (sym (length-elements_of Block plan.count plan.nodes p))
      ∙ map-below (λ k. pos (element_of Block plan.count plan.nodes p k)) pos 0 (own_elements plan p)
      (λ k g e. let here : 0 + k ≡ k = omega arith in ap (λ j. pos (element_of Block plan.count plan.nodes p j)) here
      ∙ ap (λ o. pos (unwrap_or o 0)) e) in
      ap (λ k. make k job.count elements own) of.parts
      ∙ ap (λ k. make plan.parts k elements own) (of.count ∙ sym (length-range plan.count 1))
      ∙ ap (λ l. make plan.parts (length (up_to plan.count)) l own) all
      ∙ ap (λ l. make plan.parts (length (up_to plan.count)) (map pos (own_elements plan p)) l) held

  pub begins : (pieces : List Piece) (told : List ℤ) (phase : Phase) (face : Face) → pieces ≡ pieces_of plan 0 p
      → told ≡ told_begun job 0 p pieces
      → IsPhaseFor job 0 (phases_of job.parts) p told phase
      → face ≡ record { me = p; count = job.nodes; left = phase.left; out = phase.out.items; due = phase.due.items; got = [] }
      → (face ≡ bisect_rows plan 0 p)
      × Holds plan 0 p (record { job = job; work = record { pieces = pieces; cuts = []; found = []; told = told; text = [] } })
  begins pieces told phase face all is made put =
      let levels = levels_of plan.parts in
      let stage = stage_in plan 0 in
      let not = λ (b : ℕ) (f : stage ≡ Rank b). let at = rank_at levels 0 b f in let rest = at.1 in let none : ⊥ = omega (arith, rest) in
      none in
      let numbers : told ≡ numbers_at plan 0 p =
      is
      ∙ ap (λ (l : List Piece). told_begun job 0 p l) all
      ∙ told-by plan job of 0 p (pieces_of plan 0 p)
      ∙ told-goes plan h p less 0 stage (λ f. tt) (λ f. let over = print_at levels 0 f in omega (arith, over)) not in
      let some : 0 < phases_of plan.parts = omega arith in
      let rest : phases_of plan.parts ≡ phases_of plan.parts - 0 = omega arith in (
        put
            ∙ ap (λ n. face_made p job.nodes n phase.out.items phase.due.items) made.left
            ∙ ap (λ l. face_made p job.nodes (phases_of job.parts) l phase.due.items) made.out
            ∙ ap (λ l. face_made p job.nodes (phases_of job.parts) (out_in job 0 p told) l) made.due
            ∙ ap (λ (l : List ℤ). face_made p job.nodes (phases_of job.parts) (out_in job 0 p l) (due_in job 0 p (length l))) numbers
            ∙ ap (λ n. face_made p n (phases_of job.parts) (out_in job 0 p (numbers_at plan 0 p))
            (due_in job 0 p (length (numbers_at plan 0 p)))) of.nodes
            ∙ ap (λ k. face_made p plan.nodes (phases_of k) (out_in job 0 p (numbers_at plan 0 p))
            (due_in job 0 p (length (numbers_at plan 0 p)))) of.parts
            ∙ face-begins plan job of 0 p (phases_of plan.parts) some rest,
        record {
          job = of;
          work = λ l. ap (λ (x : List Piece). level_work x told) all ∙ ap (λ (x : List ℤ). level_work (pieces_of plan 0 p) x) numbers
              ∙ level-work plan 0 p stage not;
          text = λ over. absurd (omega (arith, some, over));
        },
      )
