use Rattle.std.proofs.Common.{◌≡◌, ℕ, Some, None, [], ◌∷◌, ◌++◌, length, nat_eq, ap, sym, ◌∙◌, subst}
use Rattle.std.specs.Map.{lookup, update}
use Rattle.std.specs.List.{AllByRecursion}
use Rattle.std.specs.Prelude.{slice_get}
use Rattle.std.proofs.lemmas.Option.{slice_get_within}
use Rattle.indexmap.specs.IndexMap.{insert_entry}
use Rattle.fd_words.specs.declared.Place.{Place}
use Rattle.chaos_hash.specs.declared.held.Held.{Held}
use Rattle.chaos_hash.proofs.Lists.{second-all}
use Rattle.chaos_hash.specs.Stamps.{IsKept}
use Rattle.chaos_hash.proofs.Kept.{kept-changed, kept-range}
use Rattle.chaos_hash.proofs.Taken.{kept-taken}
use Rattle.chaos_hash.proofs.Masks.{with-some, mask-some}
use Rattle.chaos_hash.proofs.Entered as by
use Rattle.chaos_hash.proofs.stamp_table.StampTable.enter.Goals as goal

abbrev entered_with : Place → ℕ → ℕ → Held
entered_with place mask slot = record { place = place; mask = mask; slot = slot }

pub invariant_of-self : goal.invariant_of-self
invariant_of-self c =
    subst (λ es. IsKept es c.self.inside.pool) (sym c.change.ensures.entries)
    (kept-changed c.self.inside.table.entries c.self.inside.pool c.args.element c.in-Some.held.now c.stamped.result c.self.invariant
    (sym c.in-Some.ensures.value)
    (ap (λ h. h.slot) c.stamped.ensures) (λ z. with-some c.in-Some.held.now.mask c.args.stamp c.requires.stamp
    (sym (ap (λ h. h.mask) c.stamped.ensures) ∙ z)))

pub take-requires-clause-range : goal.take-requires-clause-range
take-requires-clause-range c = kept-range c.self.inside.table.entries c.self.inside.pool c.self.invariant

pub returns-in-Some-clause-entered : goal.returns-in-Some-clause-entered
returns-in-Some-clause-entered c =
    by.entered-held c.self.inside.table.entries c.self.inside.pool c.args.self.now c.self.view_is c.change.new.table.entries
    c.args.element c.stamped.result c.args.place c.args.stamp c.in-Some.held.now.slot
    (Some c.in-Some.held.now) (sym c.in-Some.ensures.value) c.stamped.ensures c.change.ensures.updates.0

pub returns-in-Some-clause-slot : goal.returns-in-Some-clause-slot
returns-in-Some-clause-slot c = by.slot-again c.self.inside.table.entries c.self.inside.pool c.args.self.now c.self.view_is c.args.element
    c.in-Some.held.now (sym c.in-Some.ensures.value)

pub returns-in-Some-clause-below : goal.returns-in-Some-clause-below
returns-in-Some-clause-below c = by.below-again c.self.inside.table.entries c.self.inside.pool c.args.self.now c.self.view_is
    c.args.element c.in-Some.held.now (sym c.in-Some.ensures.value) c.self.invariant

pub returns-in-Some-clause-peak : goal.returns-in-Some-clause-peak
returns-in-Some-clause-peak c =
    by.peak-again c.self.inside.table.entries c.self.inside.pool c.args.self.now c.self.view_is c.change.new.table.entries
    c.change.ensures.unique (invariant_of-self c)

pub take-requires-clause-few : goal.take-requires-clause-few
take-requires-clause-few c =
    by.few-fresh c.self.inside.table.entries c.self.inside.pool c.args.self.now c.self.view_is c.make_room.ensures.unique c.self.invariant
    c.requires.few

none_here : (c : goal.After-put) → lookup (nat_eq c.args.element) c.self.inside.table.entries ≡ None
none_here c = sym c.in-None.ensures.value

new_held : goal.After-put → Held
new_held c = record { place = c.args.place; mask = c.mask-mask.result; slot = c.in_ok-slot-in-None.slot }

put-is : (c : goal.After-put) → c.put.new.table.entries ≡ c.self.inside.table.entries ++ (c.args.element, new_held c) ∷ []
unfolding new_held
put-is c =
    c.put.ensures.entries ∙ ap (λ es. insert_entry nat_eq es c.args.element (new_held c)) c.make_room.ensures.entries
    ∙ by.inserted-new c.self.inside.table.entries c.args.element (new_held c) (none_here c)

pub invariant_of-self-in-None : goal.invariant_of-self-in-None
unfolding new_held
invariant_of-self-in-None c =
    let few = by.few-fresh c.self.inside.table.entries c.self.inside.pool c.args.self.now c.self.view_is c.make_room.ensures.unique
    c.self.invariant c.requires.few in
    subst (λ es. IsKept es c.take.new.self) (sym (put-is c))
    (subst (IsKept (c.self.inside.table.entries ++ (c.args.element, new_held c) ∷ [])) (sym c.in_ok-slot-in-None.ensures.took)
    (kept-taken c.self.inside.table.entries c.self.inside.pool c.args.element (new_held c) c.self.invariant few
    c.in_ok-slot-in-None.ensures.slot
    (λ z. mask-some c.args.stamp c.requires.stamp (sym c.mask-mask.ensures ∙ z))))

pub returns-in_ok-slot-in-None-clause-entered : goal.returns-in_ok-slot-in-None-clause-entered
unfolding new_held
returns-in_ok-slot-in-None-clause-entered c =
    by.entered-held c.self.inside.table.entries c.self.inside.pool c.args.self.now c.self.view_is c.put.new.table.entries c.args.element
    (new_held c) c.args.place c.args.stamp c.in_ok-slot-in-None.slot
    None (none_here c) (ap (λ m. entered_with c.args.place m c.in_ok-slot-in-None.slot) c.mask-mask.ensures)
    (λ q. c.put.ensures.updates.0 q ∙ ap (λ es. update nat_eq (λ x. lookup (nat_eq x) es) c.args.element (Some (new_held c)) q)
    c.make_room.ensures.entries)

pub returns-in_ok-slot-in-None-clause-slot : goal.returns-in_ok-slot-in-None-clause-slot
returns-in_ok-slot-in-None-clause-slot c =
    by.slot-fresh c.self.inside.table.entries c.self.inside.pool c.args.self.now c.self.view_is c.args.element c.in_ok-slot-in-None.slot
    (none_here c) c.in_ok-slot-in-None.ensures.slot c.self.invariant

pub returns-in_ok-slot-in-None-clause-below : goal.returns-in_ok-slot-in-None-clause-below
unfolding new_held
returns-in_ok-slot-in-None-clause-below c =
    let kept = invariant_of-self-in-None c in
    let all = subst (AllByRecursion (λ e. slice_get c.take.new.self.holders e.1.slot ≡ Some e.0)) (put-is c) kept.holders in
    let last = second-all (λ (e : ℕ × Held). slice_get c.take.new.self.holders e.1.slot ≡ Some e.0) c.self.inside.table.entries
    ((c.args.element, new_held c) ∷ []) all in
    slice_get_within c.take.new.self.holders c.in_ok-slot-in-None.slot c.args.element last.0

pub returns-in_ok-slot-in-None-clause-peak : goal.returns-in_ok-slot-in-None-clause-peak
returns-in_ok-slot-in-None-clause-peak c =
    ap (λ p. length p.holders) c.in_ok-slot-in-None.ensures.took
    ∙ by.peak-fresh c.self.inside.table.entries c.self.inside.pool c.args.self.now c.self.view_is c.put.new.table.entries c.args.element
    (new_held c) c.put.ensures.unique (put-is c) c.self.invariant
