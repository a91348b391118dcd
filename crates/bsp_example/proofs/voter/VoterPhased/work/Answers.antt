use Rattle.std.proofs.Common.{◌≡◌, ◌≤◌, ℕ, Bool, List, subst, sym, ◌∙◌, ap}
use Rattle.chaos_letter.specs.declared.letter.Letter.{Letter}
use Rattle.bsp_core.specs.Views.{View}
use Rattle.bsp_core.proofs.Dues.{is_work}
use Rattle.bsp_example.specs.Rows.{VoterState, new_flag, new_left, all_of, face_by}
use Rattle.bsp_example.specs.Laws.{work_row, worked}
use Rattle.bsp_example.proofs.voter.VoterPhased.work.Goals as goal

pub returns-clause-ok : goal.returns-clause-ok
returns-clause-ok c plan t p is lt e h =
    let s = c.self.inside in
    let v = s.desk in
    let f : Bool = c.flag_after-flag.result in
    let left = c.left_after-left.result in
    let k = work_row plan t p c.args.self.now.face c.args.self.now.state.flag lt (is_work c.args.self.now.face c.requires).2 e h.0 in
    let told : f ≡ new_flag v.left s.flag v.got =
    c.flag_after-flag.ensures
    ∙ ap (λ (z : ℕ). new_flag z s.flag c.got.result.now) c.left-before.ensures.is
    ∙ ap (λ (z : List Letter). new_flag v.left s.flag z) c.got.ensures in
    let fewer : left ≡ new_left v.left f = c.left_after-left.ensures.is ∙ ap (λ (z : ℕ). new_left z f) c.left-before.ensures.is in (
      ap (λ (w : View VoterState). w.face) c.drop.view_is
          ∙ c.in_ok-next.ensures.face
          ∙ ap (λ (n : ℕ). face_by n c.me.result left (all_of left f) f) c.count.ensures.is
          ∙ ap (λ (m : ℕ). face_by v.count m left (all_of left f) f) c.me.ensures.is
          ∙ ap (λ (j : ℕ). face_by v.count v.me j (all_of j f) f) fewer
          ∙ ap (λ (b : Bool). face_by v.count v.me (new_left v.left b) (all_of (new_left v.left b) b) b) told
          ∙ ap (λ (w : View VoterState). worked w.face (new_flag w.face.left w.state.flag w.face.got)) c.self.view_is
          ∙ k.0,
      (
        ap (λ (w : View VoterState). w.state.flag) c.drop.view_is
            ∙ c.in_ok-next.ensures.flag
            ∙ told
            ∙ ap (λ (w : View VoterState). new_flag w.face.left w.state.flag w.face.got) c.self.view_is
            ∙ k.1,
        subst (λ (z : ℕ). 4 ≤ z) (sym (ap (λ (w : View VoterState). w.state.room) c.drop.view_is)) c.in_ok-next.ensures.pool,
      ),
    )
