-- What a node took in a phase.
use Rattle.std.specs.Prelude.{◌≡◌, ℕ, ◌<◌, Bool, if◌then◌else◌, List, [], ◌∷◌}
use Rattle.std.proofs.Common.{ap, ◌∙◌, arith}
use Rattle.bsp_core.specs.Views.{incoming, ready}
use Rattle.fd_program.specs.Layouts.{Scene}
use Rattle.plan_run.specs.Phases.{Phase, is_sent, letter_of, takes_at, wanted_at}
use Rattle.plan_run.specs.Picks.{picked_one, incoming_picked}
use Rattle.plan_run.specs.Rows.{face_left, scene_in}
use Rattle.chaos_print.specs.InRun.{LettersCameIn, letters_to}

-- the letters that p takes in a phase
got_in : (s : Scene) (f : Phase) (rest : List Phase) (p : ℕ) → p < s.nodes → incoming (face_left s (f ∷ rest)) p (takes_at s f p)
    ≡ letters_to s f p
got_in s f rest p less =
    incoming_picked (face_left s (f ∷ rest)) (wanted_at s f p) (λ q. letter_of s f q p) (λ q. is_sent f.stage q p) p 0 s.nodes
    (λ q l m sent. picked_one (letter_of s f q) (is_sent f.stage q) p 0 s.nodes (omega arith) (omega (arith, less))
    ∙ ap (λ (b : Bool). if b then letter_of s f q p ∷ [] else []) sent)

pub letters_came_in : LettersCameIn
letters_came_in plan t p f later less e = ap (λ fs. (ready (face_left (scene_in plan) fs) p).got) e ∙ got_in (scene_in plan) f later p less
