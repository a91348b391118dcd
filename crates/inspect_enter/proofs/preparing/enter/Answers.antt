use Rattle.fd_program.specs.AmongLaws.{zip_length}
use Rattle.std.proofs.Common.{◌≡◌, ◌<◌, ◌^◌, ℕ, ℤ, List, filter, length, map, All, ap, sym, subst, ◌∙◌}
use Rattle.std.specs.List.{AllByRecursion, AllZip, flat_map}
use Rattle.fd_program.specs.Met.{kept_uses}
use Rattle.plan_loop.specs.LoopLetters.{iteration_row}
use Rattle.inspect_enter.specs.Rows.{AreMet}
use Rattle.inspect_uses.specs.Accepted.{AreOwners}
use Rattle.fd_program.specs.declared.loop_facts.LoopFacts.{LoopFacts}
use Rattle.fd_program.specs.declared.loop_use.Use.{Use}
use Rattle.inspect_enter.proofs.AllMet.{executed_met}
use Rattle.fd_words.specs.declared.place.Place.{Place}
use Rattle.inspect_uses.specs.Reached.{place_met}
use Rattle.inspect_enter.proofs.Whole as whole
use Rattle.inspect_enter.specs.Needs.{needs_of}
use Rattle.inspect_enter.specs.Placed.{MayBeStamped, IsFound, AllCome, is_mapped, placed_at}
use Rattle.inspect_enter.specs.Preparing.{AreGiven, IsNeed, uses_beyond}
use Rattle.plan_tables.specs.Tables.{KeepsOtherStamps, HasPlaces, slots_entered}
use Rattle.inspect_enter.specs.declared.placed.Placed.{Placed}
use Rattle.chaos_sched.specs.declared.need.Need.{Need}
use Rattle.fd_program.specs.Homes.{executed_by}
use Rattle.inspect_enter.proofs.preparing.enter.Goals as goal
use Rattle.inspect_enter.proofs.preparing.enter.Goals.{After-enter_all}

-- each reference with its place
placed_are : (f : LoopFacts) (owners : List (List ℕ)) (store : List (List ℤ)) (p : ℕ) (rows : List ℤ) (places : List Place)
    → AreGiven f owners store p rows places
    → (own uses : List Use) (placed : List Placed) → uses ≡ own
    → ((st : List (List ℤ)) (its : List ℤ) → AreMet f st its → rows ≡ flat_map (iteration_row f st) its → own ≡ kept_uses f st its)
    → ((os : List (List ℕ)) → AreOwners f os → places ≡ map (place_met f os) (filter (is_mapped f) uses)
    → placed ≡ map (placed_at f os) uses)
    → placed ≡ map (placed_at f owners) (kept_uses f store (executed_by f owners store p))
placed_are f owners store p rows places given own uses placed lent read told =
    let is = lent ∙ read store (executed_by f owners store p) (executed_met f owners store p given.settled.accepted given.settled.sound)
    given.read in
    told owners given.settled.owned (given.told ∙ ap (λ us. map (place_met f owners) (filter (is_mapped f) us)) (sym is))
    ∙ ap (map (placed_at f owners)) is

-- where all references are entered, other loops' stamps stay
others_kept : (c : After-enter_all) → KeepsOtherStamps c.args.facts.now c.args.tables.now c.enter_all.new.tables
others_kept c =
    whole.keeps_others c.args.facts.now c.args.me c.requires.accepted c.args.tables.now c.clear_own.new.tables c.enter_all.new.tables
    c.in_ok-placed.placed c.in_ok-placed.ensures.kept
    c.clear_own.ensures.entries c.enter_all.ensures.grown
    (subst (λ l. AllCome c.args.facts.now c.args.me c.clear_own.new.tables l c.enter_all.new.tables) c.as_slice-2.ensures
    c.enter_all.ensures.come)

-- and places stand in the tables
places_kept : (c : After-enter_all) (owners : List (List ℕ)) (store : List (List ℤ))
    → AreGiven c.args.facts.now owners store c.args.me c.args.rows.now c.args.places.now → HasPlaces owners c.args.tables.now
    → HasPlaces owners c.enter_all.new.tables
places_kept c owners store given before =
    whole.has_places c.args.facts.now c.args.me c.requires.accepted c.args.tables.now c.clear_own.new.tables c.enter_all.new.tables
    c.in_ok-placed.placed c.in_ok-placed.ensures.kept
    c.clear_own.ensures.entries c.enter_all.ensures.grown
    (subst (λ l. AllCome c.args.facts.now c.args.me c.clear_own.new.tables l c.enter_all.new.tables) c.as_slice-2.ensures
    c.enter_all.ensures.come)
    owners (kept_uses c.args.facts.now store (executed_by c.args.facts.now owners store c.args.me))
    (placed_are c.args.facts.now owners store c.args.me c.args.rows.now c.args.places.now given c.in_ok-own.own.uses c.as_slice.result.now
    c.in_ok-placed.placed c.as_slice.ensures c.in_ok-own.ensures.uses c.in_ok-placed.ensures.places)
    before

pub returns-in_err-references-clause-others : goal.returns-in_err-references-clause-others
returns-in_err-references-clause-others c = others_kept (goal.at.returns-in_err-references-clause-others c).After-enter_all

pub returns-in_err-references-clause-places : goal.returns-in_err-references-clause-places
returns-in_err-references-clause-places c = places_kept (goal.at.returns-in_err-references-clause-places c).After-enter_all

pub returns-in_err-needs-clause-others : goal.returns-in_err-needs-clause-others
returns-in_err-needs-clause-others c = others_kept (goal.at.returns-in_err-needs-clause-others c).After-enter_all

pub returns-in_err-needs-clause-places : goal.returns-in_err-needs-clause-places
returns-in_err-needs-clause-places c = places_kept (goal.at.returns-in_err-needs-clause-places c).After-enter_all

pub returns-clause-others : goal.returns-clause-others
returns-clause-others c = others_kept (goal.at.returns-clause-others c).After-enter_all

pub returns-clause-places : goal.returns-clause-places
returns-clause-places c = places_kept (goal.at.returns-clause-places c).After-enter_all

pub needs_of-requires-clause-each : goal.needs_of-requires-clause-each
needs_of-requires-clause-each c =
    ap length (c.as_slice-3.ensures ∙ sym c.as_slice-2.ensures) ∙ zip_length _ c.as_slice-2.result.now c.in_ok-references.references
    c.in_ok-references.ensures.found ∙ ap length (sym c.as_slice-4.ensures)

pub invariant_of-result : goal.invariant_of-result
invariant_of-result c =
    let is = c.in_ok-needs.ensures.needs ∙ ap (λ l. needs_of l c.as_slice-4.result.now) c.as_slice-3.ensures in
    let small = whole.small_needs c.args.facts.now c.requires.accepted c.in_ok-placed.placed c.as_slice-4.result.now
    c.in_ok-placed.ensures.kept c.in_ok-placed.ensures.locals in
    record {
      elements = subst (All (λ (n : Need). n.element < 2 ^ 63)) (sym is) small.0;
      locals = subst (All (λ (n : Need). n.place.local < 2 ^ 63)) (sym is) small.1;
    }

pub returns-clause-entering : goal.returns-clause-entering
returns-clause-entering c = λ owners store given.
    let f = c.args.facts.now in
    let me = c.args.me in
    let executed = executed_by f owners store me in
    let met = executed_met f owners store me given.settled.accepted given.settled.sound in
    let uses = c.in_ok-own.ensures.uses store executed met given.read in
    let is = placed_are f owners store me c.args.rows.now c.args.places.now given c.in_ok-own.own.uses c.as_slice.result.now
    c.in_ok-placed.placed c.as_slice.ensures c.in_ok-own.ensures.uses c.in_ok-placed.ensures.places in
    let come = subst (λ l. AllCome f me c.clear_own.new.tables l c.enter_all.new.tables) c.as_slice-2.ensures c.enter_all.ensures.come in
    let found : AllZip (IsFound f me c.enter_all.new.tables) c.in_ok-placed.placed c.in_ok-references.references =
    subst (λ l. AllZip (IsFound f me c.enter_all.new.tables) l c.in_ok-references.references) c.as_slice-2.ensures
    c.in_ok-references.ensures.found in
    let at_uses : AllZip (IsFound f me c.enter_all.new.tables) (map (placed_at f owners) (kept_uses f store executed))
    c.in_ok-references.references =
    subst (λ l. AllZip (IsFound f me c.enter_all.new.tables) l c.in_ok-references.references) is found in
    let kept = subst (AllByRecursion (MayBeStamped f)) uses c.in_ok-own.ensures.kept in
    let needs = c.in_ok-needs.ensures.needs ∙ ap (λ l. needs_of l c.as_slice-4.result.now) (c.as_slice-3.ensures ∙ is)
    ∙ ap (needs_of (map (placed_at f owners) (kept_uses f store executed))) c.as_slice-4.ensures in
    record {
      iterations = c.in_ok-own.ensures.iterations store executed met given.read;
      references = whole.all_stand f me owners c.enter_all.new.tables (kept_uses f store executed) c.in_ok-references.references kept
          at_uses;
      needs = subst (AllZip (IsNeed f owners (slots_entered f c.enter_all.new.tables)) (uses_beyond f owners store me)) (sym needs)
          (whole.all_need f me owners c.enter_all.new.tables (kept_uses f store executed) c.in_ok-references.references kept at_uses);
      entered = λ d e stamp own. (
        whole.entered_there f me c.requires.accepted c.args.tables.now c.clear_own.new.tables c.enter_all.new.tables c.in_ok-placed.placed
            c.in_ok-placed.ensures.kept c.clear_own.ensures.entries
            c.enter_all.ensures.grown come owners (kept_uses f store executed) is c.in_ok-references.references found d e stamp own,
        whole.there_entered f me c.requires.accepted c.args.tables.now c.clear_own.new.tables c.enter_all.new.tables c.in_ok-placed.placed
            c.in_ok-placed.ensures.kept c.clear_own.ensures.entries
            c.enter_all.ensures.grown come owners (kept_uses f store executed) is c.in_ok-references.references found d e stamp,
      );
    }
