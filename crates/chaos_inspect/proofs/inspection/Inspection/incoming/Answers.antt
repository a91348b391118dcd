use Rattle.std.proofs.lemmas.Result.{on_ok_weaker}
use Rattle.chaos_inspect.specs.declared.stage.Stage.TheVariants.{Seeking, Telling, Fetching, Answering, Voting, Homing}
use Rattle.chaos_inspect.proofs.Arms.{hand_at, owed_at}
use Rattle.chaos_inspect.proofs.inspection.Inspection.incoming.Goals as goal

pub returns-in-Seeking-clause-inspecting : goal.returns-in-Seeking-clause-inspecting
returns-in-Seeking-clause-inspecting c = on_ok_weaker c.take_place_asks.result (λ e owners store h owed.
    e owners store c.args.tables.now h (hand_at c.args.self.now owners store (Seeking _) c.in-Seeking.is c.args.tables.now h)
    (owed_at c.args.self.now owners store (Seeking _) c.in-Seeking.is c.args.taken.now owed)) c.take_place_asks.ensures.inspecting

pub returns-in-Fetching-clause-inspecting : goal.returns-in-Fetching-clause-inspecting
returns-in-Fetching-clause-inspecting c = on_ok_weaker c.take_asks.result (λ e owners store h owed.
    let hand = hand_at c.args.self.now owners store (Fetching _) c.in-Fetching.is c.args.tables.now h in
    e owners store c.args.tables.now h hand.0 hand.1
    (owed_at c.args.self.now owners store (Fetching _) c.in-Fetching.is c.args.taken.now owed)) c.take_asks.ensures.inspecting

pub returns-in-Voting-clause-inspecting : goal.returns-in-Voting-clause-inspecting
returns-in-Voting-clause-inspecting c = on_ok_weaker c.take_votes.result (λ e owners store h owed.
    e owners store c.args.tables.now h (hand_at c.args.self.now owners store Voting c.in-Voting.is c.args.tables.now h)
    (owed_at c.args.self.now owners store Voting c.in-Voting.is c.args.taken.now owed)) c.take_votes.ensures.inspecting

pub returns-in-Telling-clause-inspecting : goal.returns-in-Telling-clause-inspecting
returns-in-Telling-clause-inspecting c = on_ok_weaker c.take_places.result (λ e owners store h owed.
    e owners store h (hand_at c.args.self.now owners store (Telling _ _) c.in-Telling.is c.args.tables.now h).0
    (owed_at c.args.self.now owners store (Telling _ _) c.in-Telling.is c.args.taken.now owed)) c.take_places.ensures.inspecting

pub returns-in-Answering-clause-inspecting : goal.returns-in-Answering-clause-inspecting
returns-in-Answering-clause-inspecting c = on_ok_weaker c.take_values.result (λ e owners store h owed.
    let hand = (hand_at c.args.self.now owners store (Answering _ _) c.in-Answering.is c.args.tables.now h).0 in
    e owners store c.args.tables.now h hand.0 hand.1
    (owed_at c.args.self.now owners store (Answering _ _) c.in-Answering.is c.args.taken.now owed)) c.take_values.ensures.inspecting

pub returns-in-Homing-clause-inspecting : goal.returns-in-Homing-clause-inspecting
returns-in-Homing-clause-inspecting c = on_ok_weaker c.take_rows.result (λ e owners store h owed.
    e owners store h (hand_at c.args.self.now owners store (Homing _) c.in-Homing.is c.args.tables.now h).1
    (owed_at c.args.self.now owners store (Homing _) c.in-Homing.is c.args.taken.now owed)) c.take_rows.ensures.inspecting

pub returns-in-Telling-clause-places : goal.returns-in-Telling-clause-places
returns-in-Telling-clause-places c = λ owners store h owed places.
    c.take_places.ensures.places owners store h (hand_at c.args.self.now owners store (Telling _ _) c.in-Telling.is c.args.tables.now h).0
    (owed_at c.args.self.now owners store (Telling _ _) c.in-Telling.is c.args.taken.now owed) places

pub returns-in-Homing-clause-places : goal.returns-in-Homing-clause-places
returns-in-Homing-clause-places c = λ owners store h owed places.
    c.take_rows.ensures.places owners store h (hand_at c.args.self.now owners store (Homing _) c.in-Homing.is c.args.tables.now h).1
    (owed_at c.args.self.now owners store (Homing _) c.in-Homing.is c.args.taken.now owed) places
