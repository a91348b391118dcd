-- What the ends of phases make of a node, whatever the letters are.
use Rattle.std.specs.Prelude.{◌≡◌, ℕ, ℤ, ◌+◌, ◌-◌, ◌^◌, ◌≤◌, ◌==◌, nat_lt, if◌then◌else◌, List, [], ◌++◌, length, map, vec_capacity}
use Rattle.chaos_letter.specs.declared.letter.Letter.{Letter}
use Rattle.chaos_letter.specs.declared.wanted.Wanted.{Wanted}
use Rattle.bsp_core.specs.Views.{Face, View}
use Rattle.bsp_desk.specs.Picks.{picked}
use Rattle.bsp_desk.specs.Ways.{letter_as, sends}
use Rattle.bsp_desk.specs.declared.desk.Phase.{Phase}
use Rattle.chaos_cut.specs.Bisection.{levels_of}
use Rattle.bisect_node.specs.Printing.{lines_of, lines_told, rows_on}
use Rattle.bisect_node.specs.Stages.{phases_of, stage_of, wanted_in, way_of}
use Rattle.bisect_node.specs.States.{BisectState}
use Rattle.bisect_node.specs.Steps.{counted, cut_pieces, cuts_from, found_by, told_of_pieces}
use Rattle.bisect_node.specs.declared.job.Job.{Job}
use Rattle.bisect_node.specs.declared.pieces.Piece.{Piece}
use Rattle.bisect_node.specs.declared.stage.Stage.{Stage}
use Rattle.bisect_node.specs.declared.stage.Stage.TheVariants.{Spread, Rank, Print}
use Rattle.bisect_node.specs.declared.work.Work.{Work}

-- ---- the begin of a phase

-- the letters and wants of node `me` in phase t, where it tells these numbers
abbrev pub out_in : Job → ℕ → ℕ → List ℤ → List (ℕ × Letter)
out_in job t me told =
    let stage = stage_of (levels_of job.parts) t in
    picked (λ q. letter_as (wanted_in job.axes (length told) t stage) told) (λ q. sends (way_of stage) me q) 0 job.nodes

abbrev pub due_in : Job → ℕ → ℕ → ℕ → List (ℕ × Wanted)
due_in job t me count =
    let stage = stage_of (levels_of job.parts) t in
    picked (λ q. wanted_in job.axes count t stage) (λ q. sends (way_of stage) q me) 0 job.nodes

-- what is made for it, where so many phases are left
pub record IsPhaseFor (job : Job) (t remain me : ℕ) (told : List ℤ) (phase : Phase) : Type 0 where
  pub left : phase.left ≡ remain
  pub out : phase.out.items ≡ out_in job t me told
  pub due : phase.due.items ≡ due_in job t me (length told)
  pub got : phase.got.items ≡ []
  pub room : length phase.due.items ≤ vec_capacity phase.got

-- the phase after the one that a node is in
abbrev pub phase_after : Job → Face → ℕ
phase_after job v = phases_of job.parts - v.left + 1

abbrev pub next_face : Job → Face → List ℤ → Face
next_face job v told = record {
  me = v.me;
  count = v.count;
  left = v.left - 1;
  out = out_in job (phase_after job v) v.me told;
  due = due_in job (phase_after job v) v.me (length told);
  got = [];
}

-- what a node tells as a level begins, or at the end of its elements' parts
abbrev pub told_in : Stage → ℕ → ℕ → ℕ → List Piece → List ℤ
told_in Print count nodes me pieces = rows_on count nodes me pieces
told_in Spread count nodes me pieces = told_of_pieces pieces
told_in (Rank bits) count nodes me pieces = told_of_pieces pieces

abbrev pub told_begun : Job → ℕ → ℕ → List Piece → List ℤ
told_begun job t me pieces = told_in (stage_of (levels_of job.parts) t) job.count job.nodes me pieces

-- ---- the ends

-- the node enters the next phase with this work
abbrev pub entered : View BisectState → Work → View BisectState
entered v work = record { face = next_face v.state.job v.face work.told; state = record { job = v.state.job; work = work } }

abbrev pub spread_work : Job → Work → List Letter → Work
spread_work job work got =
    let cuts = cuts_from job.axes work.told got 0 work.pieces in
    record {
      pieces = work.pieces;
      cuts = cuts;
      found = map (λ _. 0) cuts;
      told = counted (2 ^ 83) cuts (map (λ _. 0) cuts);
      text = work.text;
    }

abbrev pub after_spread : View BisectState → View BisectState
after_spread v = entered v (spread_work v.state.job v.state.work v.face.got)

-- what is found behind a Rank
abbrev pub found_behind : ℕ → Work → List Letter → List ℕ
found_behind bits work got = found_by (2 ^ (83 - bits)) work.told got work.cuts work.found

abbrev pub ranked_again : ℕ → List ℕ → View BisectState → View BisectState
ranked_again bits found v =
    let work = v.state.work in
    entered v (record {
      pieces = work.pieces;
      cuts = work.cuts;
      found = found;
      told = counted (2 ^ (83 - (bits + 1))) work.cuts found;
      text = work.text;
    })

abbrev pub cut_at : List ℕ → View BisectState → View BisectState
cut_at found v =
    let work = v.state.work in
    let job = v.state.job in
    let halves = cut_pieces work.cuts found 0 work.pieces in
    entered v (record {
      pieces = halves;
      cuts = [];
      found = [];
      told = told_begun job (phase_after job v.face) v.face.me halves;
      text = work.text;
    })

abbrev pub after_rank : ℕ → View BisectState → View BisectState
after_rank bits v =
    let found = found_behind bits v.state.work v.face.got in
    if nat_lt bits 83 then ranked_again bits found v else cut_at found v

-- no phase is left; node 0 has written two texts, one behind the other
abbrev pub printed : List ℕ → List ℕ → View BisectState → View BisectState
printed first second v =
    let work = v.state.work in
    let text = if v.face.me == 0 then first ++ second else work.text in
    record {
      face = record { me = v.face.me; count = v.face.count; left = 0; out = []; due = []; got = [] };
      state = record {
        job = v.state.job;
        work = record { pieces = work.pieces; cuts = work.cuts; found = work.found; told = work.told; text = text };
      };
    }

-- the lines of its own rows, on node 0
abbrev pub own_lines : View BisectState → List ℕ
own_lines v = if v.face.me == 0 then lines_of v.state.work.told else []

abbrev pub after_print : View BisectState → View BisectState
after_print v = printed (lines_of v.state.work.told) (lines_told v.face.got) v

-- what a work makes of a node
abbrev pub worked_in : Stage → View BisectState → View BisectState
worked_in Spread v = after_spread v
worked_in (Rank bits) v = after_rank bits v
worked_in Print v = after_print v

abbrev pub worked : View BisectState → View BisectState
worked v = worked_in (stage_of (levels_of v.state.job.parts) (phases_of v.state.job.parts - v.face.left)) v
