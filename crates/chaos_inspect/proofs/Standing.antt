-- Where the elements of a level's index references stand, and which of their places are asked for.
use Rattle.std.proofs.Common.{◌≡◌, ℕ, ℤ, List, [], map, filter, ap, sym, ◌∙◌, append-nil}
use Rattle.std.specs.List.{flat_map}
use Rattle.fd_program.specs.Homes.{inspected_by, uses_at}
use Rattle.fd_program.specs.Met.{is_map, layout_for}
use Rattle.fd_program.specs.declared.loop_facts.LoopFacts.{LoopFacts}
use Rattle.plan_loop.specs.LoopLetters.{indexes_of}
use Rattle.plan_loop.specs.declared.loop_phase.Asking.TheVariants.{Indexes}
use Rattle.plan_loop.specs.declared.loop_phase.Level.{Level}
use Rattle.inspect_uses.specs.Accepted.{AreOwners, IsAccepted}
use Rattle.inspect_places.specs.Laws.{uses_wanted}
use Rattle.chaos_inspect.specs.Inspecting.{AreKnown}
use Rattle.chaos_inspect.specs.Met.{places_asked, spot_met}
use Rattle.chaos_inspect.specs.Walking.{is_asked, known_through, spots_told}
use Rattle.chaos_inspect.proofs.IndexLaws.{level_right, reached_indexes}
use Rattle.chaos_inspect.proofs.Turns.{asked_filtered, in_turn, told_filtered}

pub spots_right : (f : LoopFacts) (owners : List (List ℕ)) (store : List (List ℤ)) (p : ℕ) (level : Level) (values : List ℤ) → IsAccepted f
    → AreOwners f owners → AreKnown f store p level values
    → spots_told f (Indexes level) (places_asked f owners store (Indexes level) p) (known_through f (inspected_by f p) values)
    ≡ map (spot_met f owners) (indexes_of f store level p)
spots_right f owners store p level values accepted owned known =
    let asking = Indexes level in
    let told = places_asked f owners store asking p in
    let all = flat_map (uses_at f store) (inspected_by f p) in
    told_filtered f asking told (known_through f (inspected_by f p) values)
    ∙ ap (spots_told f asking told) (level_right f store p level values accepted.site known)
    ∙ sym (told_filtered f asking told all)
    ∙ ap (λ ps. spots_told f asking ps all) (sym (append-nil told))
    ∙ in_turn f owners asking accepted owned all []
    ∙ ap (map (spot_met f owners)) (reached_indexes f store p level)

pub indexes_wanted : (f : LoopFacts) (owners : List (List ℕ)) (store : List (List ℤ)) (p : ℕ) (level : Level) (values : List ℤ)
    → IsAccepted f → AreKnown f store p level values
    → filter (is_asked f (Indexes level)) (known_through f (inspected_by f p) values) ≡ uses_wanted f owners store (Indexes level) p
indexes_wanted f owners store p level values accepted known =
    let is = inspected_by f p in
    asked_filtered f (Indexes level) (known_through f is values)
    ∙ ap (filter (λ u. is_map (layout_for f u.array).form)) (level_right f store p level values accepted.site known)
    ∙ sym (asked_filtered f (Indexes level) (flat_map (uses_at f store) is))
