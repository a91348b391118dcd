-- One element more that is asked for.
use Rattle.std.proofs.Common.{◌≡◌, refl, ℕ, zero, suc, ◌+◌, ◌*◌, ◌≤◌, ◌<◌, Bool, true, false, ◌==◌, cond, List, [], ◌∷◌, ◌++◌, length, take}
use Rattle.std.proofs.Common.{map, count_by, get_or, ap, sym, subst, ◌∙◌, arith, append-nil, append_assoc, inl, inr}
use Rattle.std.specs.Prelude.{ℤ, pos, ◌≢◌, slice_set, flat_map, filter}
use Rattle.std.specs.List.{range_with_len}
use Rattle.std.proofs.lemmas.Bool.Decides.{eqb_tells}
use Rattle.std.proofs.lemmas.List.{take_more, take_all, get_or-set_same, get_or-set_other}
use Rattle.std.proofs.lemmas.List.Sums.{count_by_more_yes, count_by_more_no}
use Rattle.fd_words.specs.Lists.{list_at, pushed_at}
use Rattle.fd_words.specs.declared.place.Place.{Place}
use Rattle.chaos_dist.specs.Counting.{below, below-last}
use Rattle.list_laws.specs.Dealt.{dealt, dealt-more, dealt-own}
use Rattle.chaos_table.specs.declared.pages.Pages.{Pages}
use Rattle.chaos_deref.specs.Asking.{page_for, asks_for, place_looked_up, numbers_of, answers_to, place_read, joined_at}

-- ---- asks

pub ask_step : (extent nodes : ℕ) (wanted : List ℤ) (i page : ℕ) (lists new : List (List ℤ)) → i < length wanted
    → lists ≡ dealt (page_for extent nodes) (λ v. v) nodes (take i wanted)
    → page ≡ page_for extent nodes (get_or wanted i (pos 0)) → new ≡ pushed_at lists page (get_or wanted i (pos 0))
    → new ≡ dealt (page_for extent nodes) (λ v. v) nodes (take (i + 1) wanted)
ask_step extent nodes wanted i page lists new h before at pushed =
    let v = get_or wanted i (pos 0) in
    pushed ∙ ap (λ p. pushed_at lists p v) at ∙ ap (λ l. pushed_at l (page_for extent nodes v) v) before
    ∙ dealt-more (page_for extent nodes) (λ (v : ℤ). v) nodes (take i wanted) v
    ∙ ap (dealt (page_for extent nodes) (λ (v : ℤ). v) nodes) (sym (take_more wanted i (pos 0) h))

pub all_asked : (extent nodes : ℕ) (wanted : List ℤ) (i : ℕ) (lists : List (List ℤ)) → length wanted ≤ i
    → lists ≡ dealt (page_for extent nodes) (λ v. v) nodes (take i wanted)
    → lists ≡ asks_for extent nodes wanted
all_asked extent nodes wanted i lists end is =
    is ∙ ap (dealt (page_for extent nodes) (λ (v : ℤ). v) nodes) (take_all i wanted end) ∙ dealt-own (page_for extent nodes) nodes wanted

-- ---- answers

flat_map-push : {A B : Type 0} (f : A → List B) (xs : List A) (x : A) → flat_map f (xs ++ x ∷ []) ≡ flat_map f xs ++ f x
flat_map-push f [] x = append-nil (f x)
flat_map-push f (y ∷ xs) x = ap (λ l. f y ++ l) (flat_map-push f xs x) ∙ sym (append_assoc (f y) (flat_map f xs) (f x))

pub answer_step : (page : Pages) (asked : List ℤ) (i : ℕ) (place : Place) (answers new : List ℤ) → i < length asked
    → answers ≡ answers_to page (take i asked)
    → place ≡ place_looked_up page (get_or asked i (pos 0)) → new ≡ answers ++ numbers_of place → new ≡ answers_to page (take (i + 1) asked)
answer_step page asked i place answers new h before at pushed =
    pushed ∙ ap (λ p. answers ++ numbers_of p) at ∙ ap (λ l. l ++ numbers_of (place_looked_up page (get_or asked i (pos 0)))) before
    ∙ sym (ap (answers_to page) (take_more asked i (pos 0) h) ∙ flat_map-push (λ v. numbers_of (place_looked_up page v)) (take i asked)
    (get_or asked i (pos 0)))

-- ---- joined

map-push : {A B : Type 0} (f : A → B) (xs : List A) (x : A) → map f (xs ++ x ∷ []) ≡ map f xs ++ f x ∷ []
map-push f [] x = refl
map-push f (y ∷ xs) x = ap (λ l. f y ∷ l) (map-push f xs x)

one_more : {B : Type 0} (f : ℕ → B) (i : ℕ) → map f (below (i + 1)) ≡ map f (below i) ++ f i ∷ []
one_more f i =
    let e : i + 1 ≡ suc i = omega arith in
    ap (λ k. map f (below k)) e ∙ ap (map f) (below-last i) ∙ map-push f (below i) i

pub join_step : (extent nodes : ℕ) (wanted : List ℤ) (answers : List (List ℤ)) (i page rank : ℕ) (place : Place) (places new : List Place)
    → places ≡ map (joined_at extent nodes wanted answers) (below i) → page ≡ page_for extent nodes (get_or wanted i (pos 0))
    → rank ≡ count_by (λ v. page_for extent nodes v == page) (take i wanted) → place ≡ place_read (list_at answers page) rank
    → new ≡ places ++ place ∷ [] → new ≡ map (joined_at extent nodes wanted answers) (below (i + 1))
join_step extent nodes wanted answers i page rank place places new before at ranked read pushed =
    let here : place ≡ joined_at extent nodes wanted answers i =
    read ∙ ap (place_read (list_at answers page)) ranked
    ∙ ap (λ p. place_read (list_at answers p) (count_by (λ v. page_for extent nodes v == p) (take i wanted))) at in
    pushed ∙ ap (λ p. places ++ p ∷ []) here ∙ ap (λ l. l ++ joined_at extent nodes wanted answers i ∷ []) before
    ∙ sym (one_more (joined_at extent nodes wanted answers) i)

pub taken_step : (extent nodes : ℕ) (wanted : List ℤ) (taken : List ℕ) (i k page : ℕ) → i < length wanted
    → page ≡ page_for extent nodes (get_or wanted i (pos 0)) → k < length taken
    → get_or taken k 0 ≡ count_by (λ v. page_for extent nodes v == k) (take i wanted)
    → get_or (slice_set taken page (get_or taken page 0 + 1)) k 0 ≡ count_by (λ v. page_for extent nodes v == k) (take (i + 1) wanted)
taken_step extent nodes wanted taken i k page h is low now =
    let test = λ (v : ℤ). page_for extent nodes v == k in
    elim (eqb_tells (page_for extent nodes (get_or wanted i (pos 0))) k) [
      | inl same ↦
          let here : page ≡ k = is ∙ same.1 in
          let set_here : get_or (slice_set taken k (get_or taken k 0 + 1)) k 0 ≡ get_or taken k 0 + 1 =
          get_or-set_same taken k (get_or taken k 0 + 1) 0 low in
          let more : count_by test (take (i + 1) wanted) ≡ count_by test (take i wanted) + 1 = count_by_more_yes test wanted i
          (pos 0) h same.0 in
          ap (λ y. get_or (slice_set taken y (get_or taken y 0 + 1)) k 0) here ∙ set_here ∙ omega (arith, more, now)
      | inr other ↦
          let away : k ≢ page = λ e. other.1 (sym is ∙ sym e) in
          let same : count_by test (take (i + 1) wanted) ≡ count_by test (take i wanted) = count_by_more_no test wanted i
          (pos 0) h other.0 in
          get_or-set_other taken page k (get_or taken page 0 + 1) 0 away ∙ now ∙ sym same
    ]
