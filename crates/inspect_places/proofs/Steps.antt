-- One step further of each loop, over plain lists.
use Rattle.std.proofs.Common.{◌≡◌, refl, ℕ, ◌+◌, ◌*◌, ◌/◌, ◌<◌, ◌≤◌, ℤ, pos, List, [], ◌∷◌, ◌++◌, length, map, drop, get_or, ap, sym, ◌∙◌}
use Rattle.std.proofs.Common.{append_assoc, append-nil}
use Rattle.std.specs.List.{flat_map}
use Rattle.fd_words.specs.Lists.{list_at}
use Rattle.chaos_table.specs.Pages.{pairs_in}
use Rattle.chaos_table.proofs.Noted.{none_left, two_more}
use Rattle.inspect_places.specs.Dealing.{drawn_after, draws, pair_at, pair_drawn}
use Rattle.list_laws.specs.Rows.{appended_at, dealt_onto}
use Rattle.inspect_places.specs.Telling.{ask_row, page_in, pair_row}

abbrev pub pair_in : List ℤ → ℕ → ℤ × ℤ
pair_in list i = (get_or list (2 * i) (pos 0), get_or list (2 * i + 1) (pos 0))

-- ---- two numbers further

pub one_more : (list : List ℤ) (i : ℕ) → i < length list / 2 → pairs_in (drop (2 * i) list) ≡ pair_in list i
    ∷ pairs_in (drop (2 * (i + 1)) list)
one_more list i h = two_more (pos 0) list i (2 * i) (2 * i + 1) (2 * (i + 1)) refl refl refl h

no_more : (list : List ℤ) (i : ℕ) → length list / 2 ≤ i → pairs_in (drop (2 * i) list) ≡ []
no_more list i h = none_left list i (2 * i) refl h

-- rows one after another
pub rows_step : (row : ℤ × ℤ → List ℤ) (list : List ℤ) (i : ℕ) (before after all : List ℤ) → i < length list / 2
    → after ≡ before ++ row (pair_in list i)
    → before ++ flat_map row (pairs_in (drop (2 * i) list)) ≡ all → after ++ flat_map row (pairs_in (drop (2 * (i + 1)) list)) ≡ all
rows_step row list i before after all h is so_far =
    ap (λ l. l ++ flat_map row (pairs_in (drop (2 * (i + 1)) list))) is
    ∙ append_assoc before (row (pair_in list i)) (flat_map row (pairs_in (drop (2 * (i + 1)) list)))
    ∙ ap (λ ps. before ++ flat_map row ps) (sym (one_more list i h))
    ∙ so_far

pub rows_done : (row : ℤ × ℤ → List ℤ) (list : List ℤ) (i : ℕ) (before all : List ℤ) → length list / 2 ≤ i
    → before ++ flat_map row (pairs_in (drop (2 * i) list)) ≡ all → before ≡ all
rows_done row list i before all h so_far = sym (append-nil before) ∙ ap (λ ps. before ++ flat_map row ps) (sym (no_more list i h)) ∙ so_far

-- ---- asks

pub asks_step : (d : ℕ) (list : List ℤ) (i : ℕ) (lists further all : List (List ℤ)) → i < length list / 2
    → further ≡ appended_at lists (page_in (pair_in list i)) (ask_row d (pair_in list i))
    → dealt_onto page_in (ask_row d) lists (pairs_in (drop (2 * i) list)) ≡ all
    → dealt_onto page_in (ask_row d) further (pairs_in (drop (2 * (i + 1)) list)) ≡ all
asks_step d list i lists further all h is so_far =
    ap (λ l. dealt_onto page_in (ask_row d) l (pairs_in (drop (2 * (i + 1)) list))) is
    ∙ ap (dealt_onto page_in (ask_row d) lists) (sym (one_more list i h))
    ∙ so_far

pub asks_done : (d : ℕ) (list : List ℤ) (i : ℕ) (lists all : List (List ℤ)) → length list / 2 ≤ i
    → dealt_onto page_in (ask_row d) lists (pairs_in (drop (2 * i) list)) ≡ all → lists ≡ all
asks_done d list i lists all h so_far = ap (dealt_onto page_in (ask_row d) lists) (sym (no_more list i h)) ∙ so_far

-- ---- places told

module _ (answers : List (List ℤ)) (list : List ℤ) where
  abbrev keys_from : ℕ → List ℕ
  keys_from i = map page_in (pairs_in (drop (2 * i) list))

  pub told_step : (i : ℕ) (drawn later : List ℕ) (before after all : List ℤ) → i < length list / 2
      → after ≡ before ++ pair_row (pair_at (list_at answers (page_in (pair_in list i))) (get_or drawn (page_in (pair_in list i)) 0))
      → later ≡ pair_drawn answers drawn (page_in (pair_in list i))
      → before ++ flat_map pair_row (draws answers drawn (map page_in (pairs_in (drop (2 * i) list)))) ≡ all
      → after ++ flat_map pair_row (draws answers later (map page_in (pairs_in (drop (2 * (i + 1)) list)))) ≡ all
  told_step i drawn later before after all h is drew so_far =
      let here = pair_row (pair_at (list_at answers (page_in (pair_in list i))) (get_or drawn (page_in (pair_in list i)) 0)) in
      let rest = flat_map pair_row (draws answers (pair_drawn answers drawn (page_in (pair_in list i))) (keys_from (i + 1))) in
      ap (λ l. l ++ flat_map pair_row (draws answers later (keys_from (i + 1)))) is
      ∙ ap (λ d. before ++ here ++ flat_map pair_row (draws answers d (keys_from (i + 1)))) drew
      ∙ append_assoc before here rest
      ∙ ap (λ ps. before ++ flat_map pair_row (draws answers drawn (map page_in ps))) (sym (one_more list i h))
      ∙ so_far

  pub drawn_step : (i : ℕ) (drawn later all : List ℕ) → i < length list / 2
      → later ≡ pair_drawn answers drawn (page_in (pair_in list i))
      → drawn_after answers drawn (map page_in (pairs_in (drop (2 * i) list))) ≡ all
      → drawn_after answers later (map page_in (pairs_in (drop (2 * (i + 1)) list))) ≡ all
  drawn_step i drawn later all h drew so_far =
      ap (λ d. drawn_after answers d (keys_from (i + 1))) drew
      ∙ ap (λ ps. drawn_after answers drawn (map page_in ps)) (sym (one_more list i h))
      ∙ so_far

  pub told_done : (i : ℕ) (drawn : List ℕ) (before all : List ℤ) → length list / 2 ≤ i
      → before ++ flat_map pair_row (draws answers drawn (map page_in (pairs_in (drop (2 * i) list)))) ≡ all → before ≡ all
  told_done i drawn before all h so_far = sym (append-nil before)
      ∙ ap (λ ps. before ++ flat_map pair_row (draws answers drawn (map page_in ps))) (sym (no_more list i h)) ∙ so_far

  pub drawn_done : (i : ℕ) (drawn all : List ℕ) → length list / 2 ≤ i
      → drawn_after answers drawn (map page_in (pairs_in (drop (2 * i) list))) ≡ all → drawn ≡ all
  drawn_done i drawn all h so_far = ap (λ ps. drawn_after answers drawn (map page_in ps)) (sym (no_more list i h)) ∙ so_far
