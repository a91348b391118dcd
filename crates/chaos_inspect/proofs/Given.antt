-- What a node prepares its iterations from.
use Rattle.std.proofs.Common.{◌≡◌, ℕ, ℤ, Bool, true, false, cond, not, ◌&&◌, List, [], ◌∷◌, None, map, filter, refl, ap, sym, ◌∙◌}
use Rattle.std.proofs.Common.{true≢false}
use Rattle.std.specs.List.{flat_map}
use Rattle.fd_words.specs.declared.place.Place.{Place}
use Rattle.inspect_places.specs.Laws.{uses_wanted}
use Rattle.chaos_hash.specs.Stamps.{Stamps}
use Rattle.fd_program.specs.Homes.{executed_by, uses_at}
use Rattle.fd_program.specs.ListLaws.{all_flat_map}
use Rattle.fd_program.specs.Loops.{offence_of}
use Rattle.fd_program.specs.Uses.{is_met}
use Rattle.fd_words.specs.Roles.{is_index}
use Rattle.fd_program.specs.declared.loop_facts.LoopFacts.{LoopFacts}
use Rattle.fd_program.specs.declared.loop_use.Use.{Use}
use Rattle.fd_program.specs.Met.{kept_uses, is_map, layout_for}
use Rattle.plan_loop.specs.LoopLetters.{asks_places}
use Rattle.plan_loop.specs.declared.loop_phase.Asking.TheVariants.{References}
use Rattle.inspect_enter.specs.Placed.{is_mapped}
use Rattle.inspect_enter.specs.Preparing.{AreGiven, IsSettled}
use Rattle.inspect_enter.proofs.AllMet.{executed_met}
use Rattle.inspect_enter.proofs.NoMap.{formulas_tell_all}
use Rattle.inspect_uses.specs.Accepted.{IsAccepted}
use Rattle.inspect_uses.specs.Reached.{place_met}
use Rattle.chaos_inspect.specs.Inspecting.{HasNoOffence, IsInspecting}
use Rattle.chaos_inspect.specs.Met.{places_asked, rows_of}
use Rattle.chaos_inspect.specs.Walking.{is_asked}
use Rattle.chaos_inspect.specs.declared.inspection.Inspection.{Inspection}
use Rattle.chaos_inspect.proofs.Sound.{AllMet}

pub settled : (x : Inspection) (owners : List (List ℕ)) (store : List (List ℤ)) (tables : List Stamps) → IsInspecting x owners store tables
    → HasNoOffence x store → IsSettled x.facts owners store
settled x owners store tables h sound = record { accepted = h.loop.accepted; few = h.loop.few; sound = sound; owned = h.owned }

-- with each met, the references that are asked for are those that no formula places
kept_asked : (f : LoopFacts) (us : List Use) → AllMet f.arrays us → filter (is_asked f References) us ≡ filter (is_mapped f)
    (filter (λ u. not (is_index u.role)) us)
kept_asked f [] met = refl
kept_asked f (u ∷ us) met = by (is_index u.role) (is_met f.arrays u) met.0 (kept_asked f us met.1)
  where
    by : (a b : Bool) → b ≡ true → filter (is_asked f References) us ≡ filter (is_mapped f) (filter (λ v. not (is_index v.role)) us)
        → cond (not a && b && is_map (layout_for f u.array).form) (u ∷ filter (is_asked f References) us)
        (filter (is_asked f References) us)
        ≡ filter (is_mapped f) (cond (not a) (u ∷ filter (λ v. not (is_index v.role)) us) (filter (λ v. not (is_index v.role)) us))
    by true b m e = e
    by false true m e = ap (λ l. cond (is_map (layout_for f u.array).form) (u ∷ l) l) e
    by false false m e = absurd (true≢false (sym m))

pub references_asked : (f : LoopFacts) (owners : List (List ℕ)) (store : List (List ℤ)) (p : ℕ) → IsAccepted f
    → offence_of f.arrays f.site f.turn store ≡ None
    → uses_wanted f owners store References p ≡ filter (is_mapped f) (kept_uses f store (executed_by f owners store p))
references_asked f owners store p accepted sound =
    kept_asked f (flat_map (uses_at f store) (executed_by f owners store p))
    (all_flat_map (λ u. is_met f.arrays u ≡ true) (uses_at f store) (executed_by f owners store p)
    (executed_met f owners store p accepted sound))

pub given : (x : Inspection) (owners : List (List ℕ)) (store : List (List ℤ)) (tables : List Stamps) (rows : List ℤ) (told : List Place)
    → IsInspecting x owners store tables
    → HasNoOffence x store → rows ≡ rows_of x.facts owners store x.me → told ≡ places_asked x.facts owners store References x.me
    → AreGiven x.facts owners store x.me rows told
given x owners store tables rows told h sound read places = record {
  settled = settled x owners store tables h sound;
  read = read;
  told = places ∙ ap (map (place_met x.facts owners)) (references_asked x.facts owners store x.me h.loop.accepted sound);
}

-- without asking
pub given_none : (x : Inspection) (owners : List (List ℕ)) (store : List (List ℤ)) (tables : List Stamps) (rows : List ℤ)
    → IsInspecting x owners store tables
    → HasNoOffence x store → rows ≡ rows_of x.facts owners store x.me → asks_places x.facts References ≡ false
    → AreGiven x.facts owners store x.me rows []
given_none x owners store tables rows h sound read none = record {
  settled = settled x owners store tables h sound;
  read = read;
  told = sym (ap (map (place_met x.facts owners)) (formulas_tell_all x.facts store (executed_by x.facts owners store x.me) none));
}
