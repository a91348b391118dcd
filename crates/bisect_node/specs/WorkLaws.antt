-- A work takes a node from what it knows as a phase begins to what it knows as the next begins.
use Rattle.std.specs.Prelude.{◌≡◌, ℕ, zero, suc, ◌+◌, ◌-◌, ◌*◌, ◌^◌, ◌==◌, ◌≤◌, ◌<◌, ℤ, pos, not, List, [], ◌∷◌, length, map, nat_lt}
use Rattle.std.specs.List.{AllByRecursion}
use Rattle.std.proofs.Common.{ap, sym, ◌∙◌, arith, refl}
use Rattle.std.proofs.lemmas.List.{length-map}
use Rattle.chaos_letter.specs.declared.letter.Letter.{Letter}
use Rattle.chaos_letter.specs.declared.wanted.Wanted.{Wanted}
use Rattle.bsp_core.specs.Views.{Face}
use Rattle.bsp_desk.specs.Picks.{picked}
use Rattle.bsp_desk.specs.Uniform.{row_begun}
use Rattle.bsp_desk.specs.Ways.{letter_as, sends}
use Rattle.chaos_cut.specs.Bisection.{Region, levels_of}
use Rattle.chaos_cut.specs.Keys.{found_in}
use Rattle.chaos_cut.specs.Told.{AreOwned, others}
use Rattle.bisect_node.specs.CutLaws.{IsCuttable, pieces-are}
use Rattle.bisect_node.specs.Ends.{due_in, out_in, told_in}
use Rattle.bisect_node.specs.Plans.{BisectPlan, IsBisectPlan, IsOfJob, bisect_rows, count_in_stage, numbers_at, numbers_in, open_at, owned}
use Rattle.bisect_node.specs.Plans.{owner_by_block, rank_of, regions_in, round_at, stage_in}
use Rattle.bisect_node.specs.RankLaws.{counted-is, found-next}
use Rattle.bisect_node.specs.ListLaws.{all-filter, all-weaker}
use Rattle.bisect_node.specs.RegionFacts.{IsRegion, regions-are, regions-few}
use Rattle.bisect_node.specs.RowLaws.{length-spreads}
use Rattle.bisect_node.specs.SpreadLaws.{AreElements, cuts-are, told-pieces}
use Rattle.bisect_node.specs.Stages.{level_of, phases_of, stage_of, wanted_in, way_of}
use Rattle.bisect_node.specs.States.{cut_of, cuts_in, found_at, pieces_of}
use Rattle.bisect_node.specs.Steps.{counted, cut_pieces, cuts_from, found_by}
use Rattle.bisect_node.specs.TextLaws.{rows-are}
use Rattle.bisect_node.specs.declared.cuts.Cut.{Cut}
use Rattle.bisect_node.specs.declared.job.Job.{Job}
use Rattle.bisect_node.specs.declared.stage.Stage.{Stage}
use Rattle.bisect_node.specs.declared.stage.Stage.TheVariants.{Spread, Rank, Print}
use Rattle.bisect_node.specs.declared.work.Work.{Work}

-- ---- the begin of a phase

-- what is wanted, by the numbers that are told
wanted-same : (plan : BisectPlan) (level t p : ℕ) (stage : Stage)
    → wanted_in (length plan.axes) (length (numbers_in plan level p stage)) t stage ≡ wanted_in (length plan.axes)
    (count_in_stage plan level stage) t stage
wanted-same plan level t p Spread =
    ap (λ n. wanted_in (length plan.axes) n t Spread) (length-spreads plan.axes (λ region. owned plan p region.elements)
    (open_at plan level))
wanted-same plan level t p (Rank bits) =
    ap (λ n. wanted_in (length plan.axes) n t (Rank bits)) (length-map (open_at plan level) (λ region. pos (rank_of plan p bits region)))
wanted-same plan level t p Print = refl

abbrev out_by : ℕ → ℕ → ℕ → ℕ → ℕ → ℕ → List ℤ → List (ℕ × Letter)
out_by parts axes nodes count t me told =
    let stage = stage_of (levels_of parts) t in
    picked (λ q. letter_as (wanted_in axes count t stage) told) (λ q. sends (way_of stage) me q) 0 nodes

abbrev due_by : ℕ → ℕ → ℕ → ℕ → ℕ → ℕ → List (ℕ × Wanted)
due_by parts axes nodes count t me =
    let stage = stage_of (levels_of parts) t in
    picked (λ q. wanted_in axes count t stage) (λ q. sends (way_of stage) q me) 0 nodes

module _ (plan : BisectPlan) (job : Job) (of : IsOfJob job plan) (t p : ℕ) where
  abbrev told : List ℤ
  told = numbers_at plan t p

  out-is : out_in job t p told ≡ picked ((round_at plan t).letter p) ((round_at plan t).sent p) 0 plan.nodes
  out-is =
      ap (λ k. out_by k job.axes job.nodes (length told) t p told) of.parts
      ∙ ap (λ k. out_by plan.parts k job.nodes (length told) t p told) of.axes
      ∙ ap (λ k. out_by plan.parts (length plan.axes) k (length told) t p told) of.nodes
      ∙ ap (λ w. picked (λ q. letter_as w told) (λ q. sends (way_of (stage_in plan t)) p q) 0 plan.nodes)
      (wanted-same plan (level_of t) t p (stage_in plan t))

  due-is : due_in job t p (length told) ≡ picked (λ q. (round_at plan t).wanted q p) (λ q. (round_at plan t).sent q p) 0 plan.nodes
  due-is =
      ap (λ k. due_by k job.axes job.nodes (length told) t p) of.parts
      ∙ ap (λ k. due_by plan.parts k job.nodes (length told) t p) of.axes
      ∙ ap (λ k. due_by plan.parts (length plan.axes) k (length told) t p) of.nodes
      ∙ ap (λ w. picked (λ q. w) (λ q. sends (way_of (stage_in plan t)) q p) 0 plan.nodes)
      (wanted-same plan (level_of t) t p (stage_in plan t))

  abbrev face_with : ℕ → List (ℕ × Letter) → List (ℕ × Wanted) → Face
  face_with left out due = record { me = p; count = plan.nodes; left = left; out = out; due = due; got = [] }

  -- the face of a node that tells the plan's numbers
  pub face-begins : (left : ℕ) → t < phases_of plan.parts → left ≡ phases_of plan.parts - t
      → face_with left (out_in job t p told) (due_in job t p (length told)) ≡ bisect_rows plan t p
  face-begins left less e =
      let some : 0 < left = omega (arith, e, less) in
      row_begun plan.nodes (phases_of plan.parts) (round_at plan) t p left (out_in job t p told) (due_in job t p (length told)) e (record {
        some_out = λ l. out-is;
        some_due = λ l. due-is;
        none_out = λ none. absurd (omega (arith, some, none));
        none_due = λ none. absurd (omega (arith, some, none));
      })

-- ---- what a node knows, by level and stage

abbrev pub work_by : BisectPlan → ℕ → ℕ → Stage → Work
work_by plan level p stage = record {
  pieces = pieces_of plan level p;
  cuts = cuts_in plan level p stage;
  found = found_at plan level stage;
  told = numbers_in plan level p stage;
  text = [];
}

module _ (plan : BisectPlan) (h : IsBisectPlan plan) (p : ℕ) (less : p < plan.nodes) (level : ℕ) (low : level ≤ levels_of plan.parts) where
  abbrev levels : ℕ
  levels = levels_of plan.parts

  abbrev cut_ones : List Region
  cut_ones = open_at plan level

  abbrev regions : List Region
  regions = regions_in plan level

  abbrev letters : Wanted → Stage → List Letter
  letters wanted stage = map (λ q. letter_as wanted (numbers_in plan level q stage)) (others plan.nodes p)

  are : AllByRecursion (IsRegion plan (levels - level)) regions
  are = regions-are plan h level low

  elements-owned : (region : Region) → IsRegion plan (levels - level) region → AreElements (owned plan p region.elements)
  elements-owned region is = all-filter (λ g. (1 ≤ g) × (g ≤ 2 ^ 20)) (λ g. owner_by_block plan g == p) region.elements is.cuttable.all

  -- behind the Spread
  abbrev cuts : List Cut
  cuts = map (cut_of plan p) cut_ones

  cuts-begin : (wanted : Wanted) → cuts_from (length plan.axes) (numbers_in plan level p Spread) (letters wanted Spread) 0
      (pieces_of plan level p) ≡ cuts
  cuts-begin wanted =
      cuts-are plan p less wanted (λ q. numbers_in plan level q Spread) 0 regions
      (all-weaker (IsRegion plan (levels - level)) (λ region. AreOwned (owner_by_block plan) plan.nodes region.elements
      × AreElements (owned plan p region.elements)) regions
      (λ region is. (is.owned, elements-owned region is)) are)
      (λ q. refl) (small (length plan.axes) (length cut_ones) h.few_axes (regions-few plan h level low))
    where
      small : (a n : ℕ) → a ≤ 3 → n ≤ 64 → 0 + 2 * a * n < 2 ^ 64
      small zero n few also = omega (arith, also)
      small (suc zero) n few also = omega (arith, also)
      small (suc (suc zero)) n few also = omega (arith, also)
      small (suc (suc (suc zero))) n few also = omega (arith, also)
      small (suc (suc (suc (suc a)))) n few also = absurd (omega (arith, few))

  zeros : (rs : List Region) → map (λ (_ : Cut). 0) (map (cut_of plan p) rs) ≡ map (λ region. found_in plan.axes region 0) rs
  zeros [] = refl
  zeros (region ∷ rs) = ap (λ l. 0 ∷ l) (zeros rs)

  abbrev pub spread_by : ℕ → List Letter → Work
  spread_by axes got =
      let cuts = cuts_from axes (numbers_in plan level p Spread) got 0 (pieces_of plan level p) in
      record {
        pieces = pieces_of plan level p;
        cuts = cuts;
        found = map (λ _. 0) cuts;
        told = counted (2 ^ 83) cuts (map (λ _. 0) cuts);
        text = [];
      }

  abbrev with_cuts : List Cut → List ℕ → List ℤ → Work
  with_cuts cuts found told = record { pieces = pieces_of plan level p; cuts = cuts; found = found; told = told; text = [] }

  pub spread-goes : (wanted : Wanted) → spread_by (length plan.axes) (letters wanted Spread) ≡ work_by plan level p (Rank 0)
  spread-goes wanted =
      ap (λ c. with_cuts c (map (λ _. 0) c) (counted (2 ^ 83) c (map (λ _. 0) c))) (cuts-begin wanted)
      ∙ ap (λ f. with_cuts cuts f (counted (2 ^ 83) cuts f)) (zeros cut_ones)
      ∙ ap (λ l. with_cuts cuts (found_at plan level (Rank 0)) l) (counted-is plan p 0 cut_ones (omega arith))

  -- behind a Rank
  pub found-goes : (wanted : Wanted) (bits : ℕ) → bits ≤ 83
      → found_by (2 ^ (83 - bits)) (numbers_in plan level p (Rank bits)) (letters wanted (Rank bits)) cuts (found_at plan level (Rank bits))
      ≡ found_at plan level (Rank (bits + 1))
  found-goes wanted bits few =
      found-next plan p bits less few cut_ones wanted
      (all-filter (λ region. AreOwned (owner_by_block plan) plan.nodes region.elements × (length region.elements < 2 ^ 63))
      (λ region. nat_lt 1 region.parts) regions
      (all-weaker (IsRegion plan (levels - level)) (λ region. AreOwned (owner_by_block plan) plan.nodes region.elements
      × (length region.elements < 2 ^ 63)) regions
      (λ region is. (is.owned, omega (arith, is.long, h.few_elements))) are))

  pub rank-goes : (bits : ℕ) → bits < 83
      → with_cuts cuts (found_at plan level (Rank (bits + 1)))
      (counted (2 ^ (83 - (bits + 1))) cuts (found_at plan level (Rank (bits + 1))))
      ≡ work_by plan level p (Rank (bits + 1))
  rank-goes bits few = ap (λ l. with_cuts cuts (found_at plan level (Rank (bits + 1))) l)
      (counted-is plan p (bits + 1) cut_ones (omega (arith, few)))

  -- the pieces of the next level
  pub cut-goes : (bits : ℕ) → bits ≡ 83 → cut_pieces cuts (found_at plan level (Rank (bits + 1))) 0 (pieces_of plan level p)
      ≡ pieces_of plan (level + 1) p
  cut-goes bits all =
      let last : bits + 1 ≡ 84 = omega (arith, all) in
      let next : level + 1 ≡ suc level = omega arith in
      ap (λ k. cut_pieces cuts (found_at plan level (Rank k)) 0 (pieces_of plan level p)) last
      ∙ pieces-are plan h.signed h.few_elements p cuts (found_at plan level (Rank 84)) 0 regions
      (all-weaker (IsRegion plan (levels - level)) (IsCuttable plan) regions (λ region is. is.cuttable) are) (refl, refl)
      ∙ sym (ap (λ k. pieces_of plan k p) next)

-- what a node tells as a level begins
pub told-goes : (plan : BisectPlan) (h : IsBisectPlan plan) (p : ℕ) → p < plan.nodes → (level : ℕ) (stage : Stage)
    → (stage ≡ Spread → Unit {0})
    → (stage ≡ Print → level ≡ levels_of plan.parts) → ((bits : ℕ) → stage ≡ Rank bits → ⊥)
    → told_in stage plan.count plan.nodes p (pieces_of plan level p) ≡ numbers_in plan level p stage
told-goes plan h p less level Spread is last not = told-pieces plan p (regions_in plan level)
told-goes plan h p less level (Rank bits) is last not = absurd (not bits refl)
told-goes plan h p less level Print is last not =
    ap (λ k. told_in Print plan.count plan.nodes p (pieces_of plan k p)) (last refl) ∙ rows-are plan h p less
