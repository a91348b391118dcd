-- One entry more.
use Rattle.std.proofs.Common.{◌≡◌, ℕ, ◌+◌, ◌<◌, List, [], ◌∷◌, ◌++◌, length, take, get_or, ap, sym, ◌∙◌}
use Rattle.std.specs.Prelude.{ℤ, not}
use Rattle.std.proofs.lemmas.List.{take_more}
use Rattle.std.proofs.lemmas.List.Elements.{filter-append}
use Rattle.fd_words.specs.Lists.{pushed_at}
use Rattle.list_laws.specs.Dealt.{dealt-more}
use Rattle.chaos_hash.specs.declared.held.Held.{Held}
use Rattle.chaos_hash.specs.Stamps.{meets}
use Rattle.chaos_merge.specs.Merged.{by_owner, unstamped, number_of}

pub dealt_step : (nodes : ℕ) (found : List (ℕ × Held)) (i : ℕ) (d : ℕ × Held) (lists new : List (List ℤ)) → i < length found
    → lists ≡ by_owner nodes (take i found)
    → new ≡ pushed_at lists (get_or found i d).1.place.owner (number_of (get_or found i d).0) → new ≡ by_owner nodes (take (i + 1) found)
dealt_step nodes found i d lists new h before pushed =
    let e = get_or found i d in
    pushed ∙ ap (λ l. pushed_at l e.1.place.owner (number_of e.0)) before
    ∙ dealt-more (λ (x : ℕ × Held). x.1.place.owner) (λ (x : ℕ × Held). number_of x.0) nodes (take i found) e
    ∙ ap (by_owner nodes) (sym (take_more found i d h))

pub kept_step : (mask : ℕ) (found : List (ℕ × Held)) (i : ℕ) (d : ℕ × Held) (more new : List (ℕ × Held)) → i < length found
    → more ≡ unstamped mask (take i found)
    → new ≡ more ++ unstamped mask (get_or found i d ∷ []) → new ≡ unstamped mask (take (i + 1) found)
kept_step mask found i d more new h before kept =
    kept ∙ ap (λ l. l ++ unstamped mask (get_or found i d ∷ [])) before
    ∙ sym (ap (unstamped mask) (take_more found i d h) ∙ filter-append (λ (e : ℕ × Held). not (meets e.1.mask mask)) (take i found)
    (get_or found i d ∷ []))
