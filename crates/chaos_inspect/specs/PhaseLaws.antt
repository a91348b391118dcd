-- An inspection goes through the phases of its loop.
use Rattle.std.specs.Prelude.{◌≡◌, refl, ℕ, ◌+◌, Bool, true, false, if◌then◌else◌, List, [], ◌∷◌, ◌++◌, Option, Some, None, ◌&&◌, ◌||◌}
use Rattle.std.specs.List.{list_any, enumerate_from}
use Rattle.std.proofs.Common.{ap, sym, subst}
use Rattle.fd_words.specs.Roles.{is_index}
use Rattle.fd_program.specs.Met.{is_map, layout_for}
use Rattle.fd_program.specs.Uses.{is_plain}
use Rattle.fd_program.specs.declared.loop_facts.LoopFacts.{LoopFacts}
use Rattle.fd_program.specs.declared.reference.Reference.{Reference}
use Rattle.plan_loop.specs.LoopLetters.{asking_phases, asks_places, fetching_phases, has_level, is_at, is_for, phases_from_vote}
use Rattle.plan_loop.specs.LoopLetters.{phases_to_vote, round_phases}
use Rattle.plan_loop.specs.declared.loop_phase.Asking.{Asking}
use Rattle.plan_loop.specs.declared.loop_phase.Asking.TheVariants.{Indexes, Homes, References}
use Rattle.plan_loop.specs.declared.loop_phase.Level.{Level}
use Rattle.plan_loop.specs.declared.loop_phase.Level.TheVariants.{First, Second}
use Rattle.plan_loop.specs.declared.loop_phase.LoopPhase.{LoopPhase}
use Rattle.plan_loop.specs.declared.loop_phase.LoopPhase.TheVariants.{DerefAsk, DerefAnswer, IndexAsk, IndexValues, Iterations, ScheduleAsk}
use Rattle.plan_loop.specs.declared.loop_phase.LoopPhase.TheVariants.{Vote}
use Rattle.chaos_inspect.specs.Inspecting.{first_phase, phase_after, phase_behind, phase_into, second_phase}

-- these phases follow one another, the first where one begins, and the last leads where one ends
abbrev pub Leads : (LoopPhase → Option LoopPhase) → Option LoopPhase → List LoopPhase → Option LoopPhase → Type 0
Leads after begin [] end = begin ≡ end
Leads after begin (phase ∷ phases) end = (begin ≡ Some phase) × Leads after (after phase) phases end

-- from the first phase on they are the phases up to the vote and from it on
abbrev pub PhasesFollow : Type 0
PhasesFollow = (f : LoopFacts) → Leads (phase_after f) (Some (first_phase f)) (phases_to_vote f ++ phases_from_vote f) None

leads_on : (after : LoopPhase → Option LoopPhase) (begin middle end : Option LoopPhase) (xs ys : List LoopPhase)
    → Leads after begin xs middle → Leads after middle ys end → Leads after begin (xs ++ ys) end
leads_on after begin middle end [] ys h g = subst (λ b. Leads after b ys end) (sym h) g
leads_on after begin middle end (x ∷ xs) ys h g = (h.0, leads_on after (after x) middle end xs ys h.1 g)

-- places of index references of a level are asked for only where there are some
pub indexes_from : (f : LoopFacts) (level : Level) (number : ℕ) (references : List Reference)
    → list_any (λ (n, r). is_for f (Indexes level) n r.role (is_plain r.subscript) && is_map (layout_for f r.array).form)
    (enumerate_from number references) ≡ true
    → list_any (λ (r : Reference). is_index r.role && is_at level (is_plain r.subscript)) references ≡ true
indexes_from f level number [] e = e
indexes_from f level number (r ∷ rs) e =
    by (is_index r.role && is_at level (is_plain r.subscript)) (is_map (layout_for f r.array).form) _ e
    (indexes_from f level (number + 1) rs)
  where
    later : Bool
    later = list_any (λ (s : Reference). is_index s.role && is_at level (is_plain s.subscript)) rs

    by : (a b c : Bool) → ((a && b) || c) ≡ true → (c ≡ true → later ≡ true) → (a || later) ≡ true
    by true b c e rest = refl
    by false b c e rest = rest e

-- a round of fetching leads to what follows it
round_leads : (f : LoopFacts) (level : Level) (next : LoopPhase) → phase_after f (IndexValues level) ≡ Some next
    → Leads (phase_after f) (Some (phase_into (asks_places f (Indexes level)) (has_level f level) level next)) (round_phases f level)
    (Some next)
round_leads f level next follows =
    by (asks_places f (Indexes level)) (has_level f level) (indexes_from f level 1 f.site.references)
  where
    by : (a h : Bool) → (a ≡ true → h ≡ true)
        → Leads (phase_after f) (Some (phase_into a h level next))
        ((if a then DerefAsk (Indexes level) ∷ DerefAnswer (Indexes level) ∷ [] else [])
        ++ (if h then IndexAsk level ∷ IndexValues level ∷ [] else [])) (Some next)
    by true true e = (refl, (refl, (refl, (refl, follows))))
    by true false e = absurd (none (e refl))
      where
        none : false ≡ true → ⊥
        none e = cc
    by false true e = (refl, (refl, follows))
    by false false e = refl

from_vote : (f : LoopFacts) → Leads (phase_after f) (Some Vote) (Vote ∷ phases_from_vote f) None
from_vote f = by (asks_places f Homes) (asks_places f References)
  where
    by : (h r : Bool) → Leads (phase_behind (second_phase f) h r) (Some Vote)
        (Vote ∷ ((if h then DerefAsk Homes ∷ DerefAnswer Homes ∷ [] else []) ++ Iterations ∷ []
        ++ (if r then DerefAsk References ∷ DerefAnswer References ∷ [] else []) ++ ScheduleAsk ∷ [])) None
    by true true = (refl, (refl, (refl, (refl, (refl, (refl, (refl, refl)))))))
    by true false = (refl, (refl, (refl, (refl, (refl, refl)))))
    by false true = (refl, (refl, (refl, (refl, (refl, refl)))))
    by false false = (refl, (refl, (refl, refl)))

append_vote : (xs ys : List LoopPhase) → (xs ++ Vote ∷ []) ++ ys ≡ xs ++ Vote ∷ ys
append_vote [] ys = refl
append_vote (x ∷ xs) ys = ap (λ l. x ∷ l) (append_vote xs ys)

pub phases_follow : PhasesFollow
phases_follow f =
    let after = phase_after f in
    subst (λ l. Leads after (Some (first_phase f)) l None)
    (sym (append_vote (round_phases f First ++ round_phases f Second) (phases_from_vote f)))
    (leads_on after (Some (first_phase f)) (Some Vote) None (round_phases f First ++ round_phases f Second) (Vote ∷ phases_from_vote f)
    (leads_on after (Some (first_phase f)) (Some (second_phase f)) (Some Vote) (round_phases f First) (round_phases f Second)
    (round_leads f First (second_phase f) refl) (round_leads f Second Vote refl))
    (from_vote f))
