-- Where an inspection begins.
use Rattle.std.proofs.Common.{◌≡◌, ℕ, ◌+◌, ℤ, Bool, true, false, cond, List, [], ◌∷◌, ◌++◌, map, filter, Option, Some, None, refl, ap, sym}
use Rattle.std.proofs.Common.{subst, ◌∙◌}
use Rattle.std.specs.Prelude.{◌&&◌, ◌||◌}
use Rattle.std.specs.List.{flat_map, list_any, cons_option}
use Rattle.fd_program.specs.Homes.{inspected_by}
use Rattle.fd_program.specs.Stores.{number_at}
use Rattle.fd_program.specs.Uses.{index_value, index_values, is_met, read_of, subscript_of, use_of, uses_from}
use Rattle.fd_words.specs.Roles.{is_index}
use Rattle.fd_program.specs.declared.loop_facts.LoopFacts.{LoopFacts}
use Rattle.fd_program.specs.declared.reference.Reference.{Reference}
use Rattle.inspect_places.specs.Asks.{IsAsked}
use Rattle.inspect_places.specs.declared.asked.Asked.{Asked}
use Rattle.chaos_hash.specs.Stamps.{Stamps}
use Rattle.plan_loop.specs.LoopLetters.{asks_places, has_level}
use Rattle.plan_loop.specs.declared.loop_phase.Asking.TheVariants.{Indexes}
use Rattle.plan_loop.specs.declared.loop_phase.Level.TheVariants.{First, Second}
use Rattle.plan_loop.specs.declared.loop_phase.LoopPhase.TheVariants.{Vote}
use Rattle.inspect_uses.specs.Accepted.{AreOwners, IsAccepted}
use Rattle.inspect_uses.specs.Reached.{place_met}
use Rattle.inspect_uses.specs.ReachedLaws.{values_at}
use Rattle.chaos_inspect.specs.Inspecting.{InHand, first_phase, first_stage, phase_into, phase_of, second_phase}
use Rattle.chaos_inspect.specs.Walking.{is_asked, known_through, spots_told}
use Rattle.chaos_inspect.specs.declared.inspection.Inspection.{Inspection}
use Rattle.chaos_inspect.specs.declared.stage.Stage.{Stage}
use Rattle.chaos_inspect.specs.PhaseLaws.{indexes_from}
use Rattle.chaos_inspect.proofs.IndexLaws.{no_indexes, second_off}
use Rattle.chaos_inspect.proofs.Rounds.{none_asked}
use Rattle.chaos_inspect.proofs.Standing.{indexes_wanted, spots_right}

neither : (a b : Bool) → (a || b) ≡ false → (a ≡ false) × (b ≡ false)
neither true b e = cc
neither false b e = (refl, e)

none_given : (f : LoopFacts) (store : List (List ℤ)) (i : ℤ) (place : ℕ) (before : Option ℤ) (references : List Reference)
    → list_any (λ (r : Reference). is_index r.role) references ≡ false
    → index_values f.arrays store (uses_from f.arrays f.turn.adds store i place before references) ≡ []
none_given f store i place before [] none = refl
none_given f store i place before (r ∷ rs) none =
    let u = use_of r i (place + 1) (subscript_of r.subscript i (number_at f.turn.adds place) before) in
    let parts = neither (is_index r.role) (list_any (λ (s : Reference). is_index s.role) rs) none in
    let later = index_values f.arrays store (uses_from f.arrays f.turn.adds store i (place + 1) (index_value f.arrays store u) rs) in
    ap (λ b. cons_option (cond (b && is_met f.arrays u) (Some (read_of store u)) None) later) parts.0
    ∙ none_given f store i (place + 1) (index_value f.arrays store u) rs parts.1

no_values : (f : LoopFacts) (store : List (List ℤ)) → list_any (λ (r : Reference). is_index r.role) f.site.references ≡ false
    → (is : List ℤ)
    → flat_map (values_at f store) is ≡ []
no_values f store none [] = refl
no_values f store none (i ∷ is) = ap (λ l. l ++ flat_map (values_at f store) is) (none_given f store i 0 None f.site.references none)
    ∙ no_values f store none is

-- what is asked for at these iterations
abbrev pub Begun : LoopFacts → Asked → List ℤ → Type 0
Begun f asked is = IsAsked f (filter (is_asked f (Indexes First)) (known_through f is [])) asked

-- what is in hand then
pub record Begins (x : Inspection) (seeks has : Bool) : Type 0 where
  pub accepted : IsAccepted x.facts
  pub mine : x.mine ≡ inspected_by x.facts x.me
  pub asks : asks_places x.facts (Indexes First) ≡ seeks
  pub indexes : has_level x.facts First ≡ has
  pub values : x.values ≡ []
  pub asked : seeks ≡ true → Begun x.facts x.asked x.mine
  pub spots : seeks ≡ false → x.spots ≡ spots_told x.facts (Indexes First) [] (known_through x.facts x.mine [])

pub hand_first : (x : Inspection) (owners : List (List ℕ)) (store : List (List ℤ)) (tables : List Stamps) (seeks has : Bool)
    → AreOwners x.facts owners → Begins x seeks has
    → InHand x owners store tables (first_stage seeks has)
hand_first x owners store tables true has owned h = (
  subst (λ us. IsAsked x.facts us x.asked)
      (ap (λ is. filter (is_asked x.facts (Indexes First)) (known_through x.facts is [])) h.mine
      ∙ indexes_wanted x.facts owners store x.me First [] h.accepted tt) (h.asked refl),
  tt,
)
hand_first x owners store tables false true owned h = (
  h.spots refl
      ∙ ap (λ is. spots_told x.facts (Indexes First) [] (known_through x.facts is [])) h.mine
      ∙ ap (λ us. spots_told x.facts (Indexes First) (map (place_met x.facts owners) us)
      (known_through x.facts (inspected_by x.facts x.me) []))
      (sym (none_asked x.facts (Indexes First) store (inspected_by x.facts x.me) h.asks))
      ∙ spots_right x.facts owners store x.me First [] h.accepted owned tt,
  tt,
)
hand_first x owners store tables false false owned h =
    h.values ∙ sym (no_values x.facts store (no_indexes x.facts h.accepted.site h.indexes) (inspected_by x.facts x.me))

-- where there is nothing to fetch at the first level, there is nothing at the second
none_second : (f : LoopFacts) → IsAccepted f → has_level f First ≡ false → second_phase f ≡ Vote
none_second f accepted none =
    let off = second_off f Second (no_indexes f accepted.site none) in
    by (asks_places f (Indexes Second)) (has_level f Second) (indexes_from f Second 1 f.site.references) off
  where
    by : (a h : Bool) → (a ≡ true → h ≡ true) → h ≡ false → phase_into a h Second Vote ≡ Vote
    by true h e off = let on : h ≡ true = e refl in cc
    by false true e off = cc
    by false false e off = refl

pub phase_begun : (f : LoopFacts) (stage : Stage) (seeks has : Bool) → IsAccepted f → stage ≡ first_stage seeks has
    → seeks ≡ asks_places f (Indexes First) → has ≡ has_level f First
    → phase_of stage ≡ Some (first_phase f)
phase_begun f stage seeks has accepted begun asks indexes =
    ap phase_of begun ∙ by seeks has (λ none. none_second f accepted (sym indexes ∙ none))
    ∙ ap (λ b. Some (phase_into b has First (second_phase f))) asks
    ∙ ap (λ b. Some (phase_into (asks_places f (Indexes First)) b First (second_phase f))) indexes
  where
    by : (a b : Bool) → (b ≡ false → second_phase f ≡ Vote) → phase_of (first_stage a b) ≡ Some (phase_into a b First (second_phase f))
    by true b none = refl
    by false true none = refl
    by false false none = ap Some (sym (none refl))
