-- In a plan the end of a phase leads to the beginning of the next.
use Rattle.std.specs.Prelude.{◌≡◌, ◌≢◌, ◌&&◌, refl, ℕ, ◌+◌, ◌-◌, ◌/◌, ◌==◌, ◌≤◌, ◌<◌, ℤ, pos, Bool, true, false, cond, not, int_lt, List}
use Rattle.std.specs.Prelude.{[], ◌∷◌, length, count_by, map, filter, flat_map, nat_lt, replicate}
use Rattle.std.specs.List.{range_with_len, zip}
use Rattle.std.proofs.Common.{ap, sym, ◌∙◌, subst, arith, add-one}
use Rattle.std.proofs.lemmas.Bool.{ltb-true}
use Rattle.std.proofs.lemmas.Bool.Decides.{nat_tests}
use Rattle.std.proofs.lemmas.List.{map-id}
use Rattle.fd_words.specs.Lists.{list_at}
use Rattle.chaos_letter.specs.declared.letter.Letter.{Letter}
use Rattle.chaos_letter.specs.declared.wanted.Wanted.{Wanted}
use Rattle.bsp_core.specs.Views.{Face, View, WorksFor, ready}
use Rattle.bsp_desk.specs.Picks.{picked}
use Rattle.bsp_desk.specs.Rounds.{letters_to}
use Rattle.bsp_desk.specs.Uniform.{IsAt, row_begun, uniform_got, uniform_work}
use Rattle.bsp_desk.specs.Ways.{sends}
use Rattle.bsp_desk.specs.declared.way.Way.TheVariants.{ToAll, ToFirst}
use Rattle.chaos_dist.specs.Counting.{below, up_to}
use Rattle.chaos_dist.specs.Layout.{owner_of}
use Rattle.chaos_dist.specs.declared.shape.Shape.TheVariants.{Block}
use Rattle.chaos_bins.specs.Ascending.{pairs_are_sorted, sorted_pairs_are_only}
use Rattle.chaos_bins.specs.Bins.{first_bin, lines_of, value}
use Rattle.chaos_bins.specs.Coming.{all_pairs, pairs_are, told, told_is}
use Rattle.chaos_bins.specs.Lines.{lines_are_shown, lines_from}
use Rattle.chaos_bins.specs.Moving.{all_particles_held, come_is_held, come_to, moved, owner, particle, rows_go_on}
use Rattle.chaos_bins.specs.Plan.{AppendPlan, IsAppendPlan, append_letter, append_rows, append_wanted, flat, held_by, letter_due, phases_of}
use Rattle.chaos_bins.specs.Plan.{print_letter, print_rows, print_wanted, round_at, round_in, rows_at, sizes_letter, sizes_wanted}
use Rattle.chaos_bins.specs.Plan.{stage_after, stage_at, wanted_in, way_in}
use Rattle.chaos_bins.specs.PlanLaws.{IsPlace, length-flat, placed}
use Rattle.chaos_bins.specs.Rounds.{bag_flat_map, first_stands}
use Rattle.chaos_bins.specs.declared.stage.Stage.{Stage}
use Rattle.chaos_bins.specs.declared.stage.Stage.TheVariants.{Appending, Ended, Printing, Sizing}
use Rattle.chaos_bins.specs.Dealing.{dealt_rows, all_dealt_to, of_owner, stepped}
use Rattle.append_node.specs.Node.{AppendState, HasIn, Holds, IsBlock, IsJob, all_sorted, append_ended, append_holds, last_ended, next_rows}
use Rattle.append_node.specs.Node.{pairs_of, print_ended, sizes_ended, with_phase, worked, worked_in}
use Rattle.append_node.specs.Telling.{picked_alike, rows_told, size_in, size_told}

-- ---- rows

abbrev pub face_between : ℕ → ℕ → ℕ → List (ℕ × Letter) → List (ℕ × Wanted) → Face
face_between me count left out due = record { me = me; count = count; left = left; out = out; due = due; got = [] }

pub next_row : (plan : AppendPlan) (phase p left : ℕ) (out : List (ℕ × Letter)) (due : List (ℕ × Wanted)) (stage : Stage)
    → stage_at plan.steps phase ≡ stage → left ≡ phases_of plan - phase → 0 < left
    → out ≡ picked (letter_due plan stage p) (sends (way_in stage) p) 0 plan.nodes
    → due ≡ picked (λ q. wanted_in plan stage q p) (λ q. sends (way_in stage) q p) 0 plan.nodes
    → face_between p plan.nodes left out due ≡ append_rows plan phase p
next_row plan phase p left out due stage at e some o d =
    row_begun plan.nodes (phases_of plan) (round_at plan) phase p left out due e
    (record {
      some_out = λ l. o ∙ ap (λ s. picked (letter_due plan s p) (sends (way_in s) p) 0 plan.nodes) (sym at);
      some_due = λ l. d ∙ ap (λ s. picked (λ q. wanted_in plan s q p) (λ q. sends (way_in s) q p) 0 plan.nodes) (sym at);
      none_out = λ z. absurd (omega (arith, some, z));
      none_due = λ z. absurd (omega (arith, some, z));
    })

last_row : (plan : AppendPlan) (phase p : ℕ) → phases_of plan ≤ phase → face_between p plan.nodes 0 [] [] ≡ append_rows plan phase p
last_row plan phase p over =
    row_begun plan.nodes (phases_of plan) (round_at plan) phase p 0 [] [] (omega (arith, over))
    (record {
      some_out = λ l. absurd (omega (arith, l));
      some_due = λ l. absurd (omega (arith, l));
      none_out = λ z. refl;
      none_due = λ z. refl;
    })

-- ---- lists dealt out are the rows

half-flat : (xs : List (ℤ × ℤ)) → length (flat xs) / 2 ≡ length xs
half-flat xs = omega (arith, length-flat xs)

-- what is told of lists that were dealt out, by the pairs in them
pub sizes_dealt : (bins nodes round : ℕ) (lists : List (List ℤ)) (xs : List (ℤ × ℤ)) (P : ℕ → Bool)
    → lists ≡ dealt_rows bins nodes (replicate nodes []) xs
    → picked (λ q. size_told round (length (list_at lists q) / 2)) P 0 nodes ≡ picked (λ q. sizes_letter round (of_owner bins nodes xs q))
    P 0 nodes
sizes_dealt bins nodes round lists xs P e =
    picked_alike (λ q. size_told round (length (list_at lists q) / 2)) (λ q. sizes_letter round (of_owner bins nodes xs q)) P 0 nodes
    (λ q l m s.
    let here : list_at lists q ≡ flat (of_owner bins nodes xs q) = ap (λ l. list_at l q) e
    ∙ all_dealt_to bins nodes xs q (omega (arith, m)) in
    ap (size_told round) (ap (λ (l : List ℤ). length l / 2) here ∙ half-flat (of_owner bins nodes xs q)))

pub rows_dealt : (bins nodes round : ℕ) (lists : List (List ℤ)) (xs : List (ℤ × ℤ)) (P : ℕ → Bool)
    → lists ≡ dealt_rows bins nodes (replicate nodes []) xs
    → picked (λ q. rows_told round (list_at lists q)) P 0 nodes ≡ picked (λ q. append_letter round (of_owner bins nodes xs q)) P 0 nodes
rows_dealt bins nodes round lists xs P e =
    picked_alike (λ q. rows_told round (list_at lists q)) (λ q. append_letter round (of_owner bins nodes xs q)) P 0 nodes
    (λ q l m s. ap (rows_told round) (ap (λ l. list_at l q) e ∙ all_dealt_to bins nodes xs q (omega (arith, m))))

pub own_dealt : (bins nodes me : ℕ) (lists : List (List ℤ)) (xs : List (ℤ × ℤ)) → me < nodes
    → lists ≡ dealt_rows bins nodes (replicate nodes []) xs
    → list_at lists me ≡ flat (of_owner bins nodes xs me)
own_dealt bins nodes me lists xs low e = ap (λ l. list_at l me) e ∙ all_dealt_to bins nodes xs me low

-- ---- the beginning

zipped : {X Y : Type 0} (f : ℕ → X) (g : ℕ → Y) (is : List ℕ) → zip (map f is) (map g is) ≡ map (λ i. (f i, g i)) is
zipped f g [] = refl
zipped {X} {Y} f g (i ∷ is) = ap (λ (l : List (X × Y)). (f i, g i) ∷ l) (zipped f g is)

-- the particles of a block, by the owners of their first bins, are the rows of round 0
pub first_rows : (plan : AppendPlan) (p q : ℕ) (bins values : List ℤ) → p < plan.nodes → IsBlock plan p bins values
    → of_owner plan.bins plan.nodes (zip bins values) q ≡ rows_at plan 0 p q
first_rows plan p q bins values low block =
    let begin = owner_of Block plan.particles.count plan.nodes in
    let es = filter (λ g. begin g == p) (up_to plan.particles.count) in
    let all : zip bins values ≡ map (particle plan.particles) es =
    ap (λ l. zip l values) block.bins ∙ ap (zip (map (first_bin plan.particles) es)) block.values
    ∙ zipped (first_bin plan.particles) (value plan.particles) es in
    ap (λ l. of_owner plan.bins plan.nodes l q)
    (all
    ∙ sym (first_stands plan.nodes (up_to plan.particles.count) (particle plan.particles) begin (moved plan.bins)
    (owner plan.bins plan.nodes) p low)
    ∙ sym (map-id _))

-- ---- from phase to phase

not_itself : (q p : ℕ) → not (q == p) ≡ true → q ≢ p
not_itself q p e f = grind (arith, nat_tests)

not_negative : (c : ℕ) → int_lt (pos c) (pos 0) ≡ false
not_negative c = grind (arith, nat_tests)

size_of_one : (c : ℕ) → size_in (pos c ∷ []) ≡ c
size_of_one c = ap (λ b. cond b 0 c) (not_negative c)

is_first : (p : ℕ) → (p == 0) ≡ true → p ≡ 0
is_first p e = grind (arith, nat_tests)

kept_alike : (P Q : ℕ → Bool) (is : List ℕ) → ((i : ℕ) → P i ≡ Q i) → filter P is ≡ filter Q is
kept_alike P Q [] h = refl
kept_alike P Q (i ∷ is) h =
    ap (λ b. cond b (i ∷ filter P is) (filter P is)) (h i) ∙ ap (λ l. cond (Q i) (i ∷ l) l) (kept_alike P Q is h)

and_true : (a b : Bool) → b ≡ true → (a && b) ≡ a
and_true true b e = e
and_true false b e = refl

module _ (plan : AppendPlan) (is : IsAppendPlan plan) (phase p : ℕ) (low : p < plan.nodes) (v : View AppendState)
    (face : v.face ≡ ready (append_rows plan phase) p) (some : 0 < v.face.left) (job : IsJob plan v.state.job) where
  abbrev Next : View AppendState → Type 0
  Next w = (w.face ≡ append_rows plan (phase + 1) p) × Holds plan (phase + 1) p w.state

  here : IsAt plan.nodes (phases_of plan) phase p v.face
  here = uniform_work plan.nodes (phases_of plan) (round_at plan) phase p v.face face some

  got_is : (stage : Stage) → stage_at plan.steps phase ≡ stage
      → v.face.got ≡ map (λ q. letter_due plan stage q p) (filter (λ q. sends (way_in stage) q p) (range_with_len 0 plan.nodes))
  got_is stage e =
      uniform_got plan.nodes (phases_of plan) (round_at plan) phase p v.face low face here.within
      ∙ ap (λ s. letters_to plan.nodes (round_in plan s) p) e

  after : (stage : Stage) → stage_at plan.steps phase ≡ stage → stage_at plan.steps (phase + 1) ≡ stage_after plan.steps stage
  after stage e = ap (stage_at plan.steps) (add-one phase) ∙ ap (stage_after plan.steps) e

  faced : (left : ℕ) (out : List (ℕ × Letter)) (due : List (ℕ × Wanted)) → with_phase v.face left out due ≡ face_between p plan.nodes left
      out due
  faced left out due =
      ap (λ m. face_between m v.face.count left out due) here.me ∙ ap (λ n. face_between p n left out due) here.count

  one_less : v.face.left - 1 ≡ phases_of plan - (phase + 1)
  one_less = omega (arith, here.left)

  begins : (stage : Stage) (out : List (ℕ × Letter)) (due : List (ℕ × Wanted)) → stage_at plan.steps (phase + 1) ≡ stage
      → phase + 1 < phases_of plan
      → out ≡ picked (letter_due plan stage p) (sends (way_in stage) p) 0 plan.nodes
      → due ≡ picked (λ q. wanted_in plan stage q p) (λ q. sends (way_in stage) q p) 0 plan.nodes
      → with_phase v.face (v.face.left - 1) out due ≡ append_rows plan (phase + 1) p
  begins stage out due at within o d =
      faced (v.face.left - 1) out due
      ∙ next_row plan (phase + 1) p (v.face.left - 1) out due stage at one_less (omega (arith, one_less, within)) o d

  knows : (state : AppendState) (stage : Stage) → stage_at plan.steps (phase + 1) ≡ stage → IsJob plan state.job → state.at ≡ stage
      → HasIn plan p stage state
      → Holds plan (phase + 1) p state
  knows state stage at is_job in_stage has = record {
    job = is_job;
    at = in_stage ∙ sym at;
    has = subst (λ s. HasIn plan p s state) (sym at) has;
  }

  -- those that are by all others, by the plan's numbers
  to_all : {A : Type 0} (f : ℕ → A) → picked f (λ q. sends ToAll v.face.me q) 0 v.face.count ≡ picked f (λ q. sends ToAll p q) 0 plan.nodes
  to_all f =
      ap (λ m. picked f (λ q. sends ToAll m q) 0 v.face.count) here.me ∙ ap (λ n. picked f (λ q. sends ToAll p q) 0 n) here.count

  from_all : {A : Type 0} (f : ℕ → A) → picked f (λ q. sends ToAll q v.face.me) 0 v.face.count ≡ picked f (λ q. sends ToAll q p) 0
      plan.nodes
  from_all f =
      ap (λ m. picked f (λ q. sends ToAll q m) 0 v.face.count) here.me ∙ ap (λ n. picked f (λ q. sends ToAll q p) 0 n) here.count

  -- ---- how many come is told

  told_size : (t : ℕ) → stage_at plan.steps phase ≡ Sizing t → (q : ℕ) → q < plan.nodes → q ≢ p
      → size_in (told v.face.me v.face.got q) ≡ length (rows_at plan t q p)
  told_size t e q less apart =
      let f = λ (r : ℕ). sizes_letter t (rows_at plan t r p) in
      ap (λ m. size_in (told m v.face.got q)) here.me
      ∙ ap (λ l. size_in (told p l q)) (got_is (Sizing t) e)
      ∙ ap size_in (told_is f p plan.nodes q less apart)
      ∙ size_of_one (length (rows_at plan t q p))

  sizes_next : (t : ℕ) → stage_at plan.steps phase ≡ Sizing t → IsPlace plan.steps phase (Sizing t) → HasIn plan p (Sizing t) v.state
      → Next (sizes_ended v t)
  sizes_next t e place has = (
    begins (Appending t) v.state.next
        (picked (λ q. append_wanted t (size_in (told v.face.me v.face.got q))) (λ q. sends ToAll q v.face.me) 0 v.face.count)
        (after (Sizing t) e) (omega (arith, place.0, place.1)) has.next
        (from_all (λ q. append_wanted t (size_in (told v.face.me v.face.got q)))
        ∙ picked_alike (λ q. append_wanted t (size_in (told v.face.me v.face.got q))) (λ q. append_wanted t (length (rows_at plan t q p)))
        (λ q. sends ToAll q p) 0 plan.nodes
        (λ q l m sent. ap (append_wanted t) (told_size t e q (omega (arith, m)) (not_itself q p sent)))),
    knows (sizes_ended v t).state (Appending t) (after (Sizing t) e) job refl (record { own = has.own; next = refl; text = has.text }),
  )

  -- ---- the particles of a round have come

  come_is : (t : ℕ) → stage_at plan.steps phase ≡ Appending t → v.state.own ≡ flat (rows_at plan t p p)
      → pairs_of v ≡ come_to plan.bins plan.nodes plan.particles t p
  come_is t e own =
      ap (λ n. all_pairs n v.face.me v.state.own v.face.got) here.count
      ∙ ap (λ m. all_pairs plan.nodes m v.state.own v.face.got) here.me
      ∙ pairs_are (λ q. append_letter t (rows_at plan t q p)) p plan.nodes v.state.own v.face.got (λ q. rows_at plan t q p)
      (λ q. refl) own (got_is (Appending t) e)

  rows_next : (t : ℕ) → stage_at plan.steps phase ≡ Appending t → v.state.own ≡ flat (rows_at plan t p p) → (q : ℕ)
      → next_rows v q ≡ rows_at plan (t + 1) p q
  rows_next t e own q =
      ap (λ b. of_owner b v.state.job.nodes (map (stepped b) (pairs_of v)) q) job.bins
      ∙ ap (λ n. of_owner plan.bins n (map (stepped plan.bins) (pairs_of v)) q) job.nodes
      ∙ ap (λ l. of_owner plan.bins plan.nodes (map (stepped plan.bins) l) q) (come_is t e own)
      ∙ sym (rows_go_on plan.bins plan.nodes plan.particles t p q low)
      ∙ ap (λ s. rows_at plan s p q) (sym (add-one t))

  all_next : (t : ℕ) → stage_at plan.steps phase ≡ Appending t → v.state.own ≡ flat (rows_at plan t p p) → (f : List (ℤ × ℤ) → Letter)
      → picked (λ q. f (next_rows v q)) (λ q. sends ToAll v.face.me q) 0 v.face.count
      ≡ picked (λ q. f (rows_at plan (t + 1) p q)) (λ q. sends ToAll p q) 0 plan.nodes
  all_next t e own f =
      to_all (λ q. f (next_rows v q))
      ∙ picked_alike (λ q. f (next_rows v q)) (λ q. f (rows_at plan (t + 1) p q)) (λ q. sends ToAll p q) 0 plan.nodes
      (λ q l m sent. ap f (rows_next t e own q))

  append_next : (t : ℕ) → stage_at plan.steps phase ≡ Appending t → IsPlace plan.steps phase (Appending t) → t < plan.steps
      → HasIn plan p (Appending t) v.state → Next (append_ended v t)
  append_next t e place more has =
      let at : stage_at plan.steps (phase + 1) ≡ Sizing (t + 1) =
      after (Appending t) e ∙ ap (λ b. cond b Printing (Sizing (t + 1))) (apart t plan.steps more) in (
        begins (Sizing (t + 1))
            (picked (λ q. sizes_letter (t + 1) (next_rows v q)) (λ q. sends ToAll v.face.me q) 0 v.face.count)
            (picked (λ q. sizes_wanted (t + 1)) (λ q. sends ToAll q v.face.me) 0 v.face.count)
            at (omega (arith, place.0, more)) (all_next t e has.own (sizes_letter (t + 1))) (from_all (λ q. sizes_wanted (t + 1))),
        knows (append_ended v t).state (Sizing (t + 1)) at job refl
            (record {
              own = ap (λ m. flat (next_rows v m)) here.me ∙ ap flat (rows_next t e has.own p);
              next = all_next t e has.own (append_letter (t + 1));
              text = has.text;
            }),
      )
    where
      apart : (t steps : ℕ) → t < steps → (t == steps) ≡ false
      apart t steps l = grind (arith, nat_tests)

  -- ---- those of the last round have come

  all_is : (t : ℕ) → t ≡ plan.steps → stage_at plan.steps phase ≡ Appending t → v.state.own ≡ flat (rows_at plan t p p)
      → all_sorted v ≡ print_rows plan p
  all_is t last e own =
      sorted_pairs_are_only (held_by plan p) (all_sorted v) (pairs_are_sorted (pairs_of v)).1
      (λ test.
      come_is_held plan.bins plan.nodes plan.particles plan.steps p is.some_nodes is.in_bins low test
      ∙ ap (λ s. count_by test (come_to plan.bins plan.nodes plan.particles s p)) (sym last)
      ∙ ap (count_by test) (sym (come_is t e own))
      ∙ (pairs_are_sorted (pairs_of v)).0 test)

  last_next : (t : ℕ) → stage_at plan.steps phase ≡ Appending t → IsPlace plan.steps phase (Appending t) → t ≡ plan.steps
      → HasIn plan p (Appending t) v.state → Next (last_ended v)
  last_next t e place last has =
      let at : stage_at plan.steps (phase + 1) ≡ Printing =
      after (Appending t) e ∙ ap (λ b. cond b Printing (Sizing (t + 1))) (equal t plan.steps last) in
      let told : print_letter v.state.job.steps (all_sorted v) ≡ print_letter plan.steps (print_rows plan p) =
      ap (λ s. print_letter s (all_sorted v)) job.steps ∙ ap (print_letter plan.steps) (all_is t last e has.own) in (
        begins Printing
            (picked (λ q. print_letter v.state.job.steps (all_sorted v)) (λ q. sends ToFirst v.face.me q) 0 v.face.count)
            (picked (λ q. print_wanted v.state.job.steps) (λ q. sends ToFirst q v.face.me) 0 v.face.count)
            at (omega (arith, place.0, last))
            (ap (λ x. picked (λ q. x) (λ q. sends ToFirst v.face.me q) 0 v.face.count) told
            ∙ ap (λ m. picked (λ q. print_letter plan.steps (print_rows plan p)) (λ q. sends ToFirst m q) 0 v.face.count) here.me
            ∙ ap (λ n. picked (λ q. print_letter plan.steps (print_rows plan p)) (λ q. sends ToFirst p q) 0 n) here.count)
            (ap (λ s. picked (λ q. print_wanted s) (λ q. sends ToFirst q v.face.me) 0 v.face.count) job.steps
            ∙ ap (λ m. picked (λ q. print_wanted plan.steps) (λ q. sends ToFirst q m) 0 v.face.count) here.me
            ∙ ap (λ n. picked (λ q. print_wanted plan.steps) (λ q. sends ToFirst q p) 0 n) here.count),
        knows (last_ended v).state Printing at job refl
            (record {
              own = ap (λ m. cond (m == 0) (flat (all_sorted v)) []) here.me
                  ∙ ap (λ l. cond (p == 0) (flat l) []) (all_is t last e has.own);
              next = refl;
              text = has.text;
            }),
      )
    where
      equal : (t steps : ℕ) → t ≡ steps → (t == steps) ≡ true
      equal t steps l = grind (arith, nat_tests)

  -- ---- all is on node 0

  all_come : p ≡ 0 → stage_at plan.steps phase ≡ Printing → v.state.own ≡ flat (print_rows plan p)
      → pairs_of v ≡ flat_map (print_rows plan) (below plan.nodes)
  all_come first e own =
      ap (λ n. all_pairs n v.face.me v.state.own v.face.got) here.count
      ∙ ap (λ m. all_pairs plan.nodes m v.state.own v.face.got) here.me
      ∙ pairs_are (λ q. print_letter plan.steps (print_rows plan q)) p plan.nodes v.state.own v.face.got (print_rows plan)
      (λ q. refl) own
      (got_is Printing e
      ∙ ap (map (λ q. print_letter plan.steps (print_rows plan q)))
      (kept_alike (λ q. sends ToFirst q p) (λ q. not (q == p)) (range_with_len 0 plan.nodes)
      (λ q. and_true (not (q == p)) (p == 0) (zeroth p first))))
    where
      zeroth : (p : ℕ) → p ≡ 0 → (p == 0) ≡ true
      zeroth p e = grind (arith, nat_tests)

  text_is : stage_at plan.steps phase ≡ Printing → p ≡ 0 → v.state.own ≡ flat (print_rows plan p)
      → lines_from plan.bins (all_sorted v) ≡ lines_of plan.bins plan.steps plan.particles
  text_is e first own =
      lines_are_shown plan.bins plan.steps plan.particles (all_sorted v) (pairs_are_sorted (pairs_of v)).1
      (λ test.
      all_particles_held plan.bins plan.nodes plan.particles is.some_nodes is.in_bins plan.steps test
      ∙ bag_flat_map (held_by plan) (print_rows plan) (below plan.nodes) (λ q. (pairs_are_sorted (held_by plan q)).0) test
      ∙ ap (count_by test) (sym (all_come first e own))
      ∙ (pairs_are_sorted (pairs_of v)).0 test)

  print_next : stage_at plan.steps phase ≡ Printing → IsPlace plan.steps phase Printing → HasIn plan p Printing v.state
      → Next (print_ended v)
  print_next e place has = (
    faced 0 [] [] ∙ last_row plan (phase + 1) p (omega (arith, place)),
    knows (print_ended v).state Ended (after Printing e) job refl
        (record {
          own = refl;
          next = refl;
          text = ap (λ m. cond (m == 0) (lines_from v.state.job.bins (all_sorted v)) []) here.me
              ∙ ap (λ b. cond (p == 0) (lines_from b (all_sorted v)) []) job.bins
              ∙ by (p == 0) refl;
        }),
  )
    where
      by : (b : Bool) → (p == 0) ≡ b
          → cond b (lines_from plan.bins (all_sorted v)) [] ≡ cond b (lines_of plan.bins plan.steps plan.particles) []
      by true f = text_is e (is_first p f) (has.own ∙ ap (λ b. cond b (flat (print_rows plan p)) []) f)
      by false f = refl

  -- ---- each stage

  round_next : (t : ℕ) → stage_at plan.steps phase ≡ Appending t → IsPlace plan.steps phase (Appending t)
      → HasIn plan p (Appending t) v.state
      → (b : Bool) → nat_lt t v.state.job.steps ≡ b → Next (cond b (append_ended v t) (last_ended v))
  round_next t e place has true f =
      let less : t < v.state.job.steps = ltb-true t v.state.job.steps f in
      append_next t e place (omega (arith, less, job.steps)) has
  round_next t e place has false f =
      let over : v.state.job.steps ≤ t = not_less t v.state.job.steps f in
      last_next t e place (omega (arith, over, job.steps, place.1)) has
    where
      not_less : (t steps : ℕ) → nat_lt t steps ≡ false → steps ≤ t
      not_less t steps f = grind (arith, nat_tests)

  stage_next : (stage : Stage) → stage_at plan.steps phase ≡ stage → IsPlace plan.steps phase stage → HasIn plan p stage v.state
      → Next (worked_in v stage)
  stage_next (Sizing t) e place has = sizes_next t e place has
  stage_next (Appending t) e place has = round_next t e place has (nat_lt t v.state.job.steps) refl
  stage_next Printing e place has = print_next e place has
  stage_next Ended e place has = absurd (omega (arith, place, here.within))

pub append_works : (v : View AppendState) → 0 < v.face.left → WorksFor IsAppendPlan (λ (plan : AppendPlan). plan.nodes) append_rows
    append_holds v (worked v)
append_works v some plan phase p is low face holds =
    subst (λ s. ((worked_in v s).face ≡ append_rows plan (phase + 1) p) × Holds plan (phase + 1) p (worked_in v s).state) (sym holds.at)
    (stage_next plan is phase p low v face some holds.job (stage_at plan.steps phase) refl (placed plan.steps phase) holds.has)
