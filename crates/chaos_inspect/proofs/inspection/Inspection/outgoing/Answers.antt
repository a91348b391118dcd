use Rattle.std.proofs.Common.{◌∙◌}
use Rattle.std.proofs.lemmas.Result.{IfOk-weaker}
use Rattle.chaos_inspect.specs.declared.stage.Stage.TheVariants.{Seeking, Telling, Fetching, Answering, Voting, Homing}
use Rattle.chaos_inspect.proofs.Arms.{due_at, hand_at}
use Rattle.chaos_inspect.proofs.inspection.Inspection.outgoing.Goals as goal

pub returns-in-Seeking : goal.returns-in-Seeking
returns-in-Seeking c = IfOk-weaker c.place_asks.result _ _ (λ lists e owners store tables h pieces pages.
    due_at c.args.self.now owners store (Seeking _) c.in-Seeking.is lists
    (e owners store _ (hand_at c.args.self.now owners store (Seeking _) c.in-Seeking.is tables h))) c.place_asks.ensures

pub returns-in-Telling : goal.returns-in-Telling
returns-in-Telling c = IfOk-weaker c.answers.result _ _ (λ lists e owners store tables h pieces pages.
    due_at c.args.self.now owners store (Telling _ _) c.in-Telling.is lists
    (e owners store c.args.self.now.me _ h.owned pages (hand_at c.args.self.now owners store (Telling _ _) c.in-Telling.is tables h).1))
    c.answers.ensures

pub returns-in-Fetching : goal.returns-in-Fetching
returns-in-Fetching c = IfOk-weaker c.asks.result _ _ (λ lists e owners store tables h pieces pages.
    due_at c.args.self.now owners store (Fetching _) c.in-Fetching.is lists
    (e owners store tables _ h (hand_at c.args.self.now owners store (Fetching _) c.in-Fetching.is tables h).0)) c.asks.ensures

pub returns-in-Answering : goal.returns-in-Answering
returns-in-Answering c = IfOk-weaker c.answers-in-Answering.result _ _ (λ lists e owners store tables h pieces pages.
    due_at c.args.self.now owners store (Answering _ c.in-Answering.asked) c.in-Answering.is lists
    (e owners store tables _ h pieces (c.as_slice.ensures
    ∙ (hand_at c.args.self.now owners store (Answering _ c.in-Answering.asked) c.in-Answering.is tables h).1)))
    c.answers-in-Answering.ensures

pub returns-in-Voting : goal.returns-in-Voting
returns-in-Voting c = IfOk-weaker c.votes.result _ _ (λ lists e owners store tables h pieces pages.
    due_at c.args.self.now owners store Voting c.in-Voting.is lists
    (e owners store tables h (hand_at c.args.self.now owners store Voting c.in-Voting.is tables h))) c.votes.ensures

pub returns-in-Homing : goal.returns-in-Homing
returns-in-Homing c = IfOk-weaker c.home_rows.result _ _ (λ lists e owners store tables h pieces pages.
    let hand = hand_at c.args.self.now owners store (Homing c.in-Homing.told) c.in-Homing.is tables h in
    due_at c.args.self.now owners store (Homing c.in-Homing.told) c.in-Homing.is lists
    (e owners store tables h hand.0 hand.1 (c.as_slice-in-Homing.ensures ∙ hand.2))) c.home_rows.ensures
