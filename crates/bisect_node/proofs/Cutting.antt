-- One piece more of a level.
use Rattle.std.proofs.Common.{◌≡◌, ℕ, ◌+◌, ◌*◌, ◌<◌, ℤ, Bool, true, false, cond, List, [], ◌∷◌, ◌++◌, length, drop, get_or, ap, sym, ◌∙◌}
use Rattle.std.specs.Prelude.{nat_lt}
use Rattle.std.proofs.lemmas.List.{append_assoc, drop_more}
use Rattle.chaos_letter.specs.declared.letter.Letter.{Letter}
use Rattle.bisect_node.specs.Steps.{cut_by, cut_pieces, cuts_from, halves_by, place_past}
use Rattle.bisect_node.specs.declared.cuts.Cut.{Cut}
use Rattle.bisect_node.specs.declared.pieces.Piece.{Piece}

next-piece : (pieces : List Piece) (i : ℕ) (piece : Piece) → i < length pieces → piece ≡ get_or pieces i piece
    → drop i pieces ≡ piece ∷ drop (i + 1) pieces
next-piece pieces i piece less is = drop_more pieces i piece less ∙ ap (λ (x : Piece). x ∷ drop (i + 1) pieces) (sym is)

module _ (axes : ℕ) (told : List ℤ) (got : List Letter) (pieces : List Piece) (i : ℕ) (piece : Piece)
    (less : i < length pieces) (is : piece ≡ get_or pieces i piece) (cuts all : List Cut) (base : ℕ)
    (before : cuts ++ cuts_from axes told got base (drop i pieces) ≡ all) where
  abbrev rest : List Piece
  rest = drop (i + 1) pieces

  pub cuts_then : (new : List Cut) (after : ℕ) → nat_lt 1 piece.parts ≡ true → new ≡ cuts ++ cut_by axes told got base piece ∷ []
      → after ≡ place_past base (2 * axes) → new ++ cuts_from axes told got after rest ≡ all
  cuts_then new after cut more place =
      let one = cut_by axes told got base piece in
      let later = cuts_from axes told got (place_past base (2 * axes)) rest in
      ap (λ (l : List Cut). l ++ cuts_from axes told got after rest) more
      ∙ ap (λ n. (cuts ++ one ∷ []) ++ cuts_from axes told got n rest) place
      ∙ append_assoc cuts (one ∷ []) later
      ∙ sym (ap (λ (l : List Piece). cuts ++ cuts_from axes told got base l) (next-piece pieces i piece less is)
      ∙ ap (λ (b : Bool). cuts ++ cond b (one ∷ later) (cuts_from axes told got base rest)) cut)
      ∙ before

  pub cuts_else : (new : List Cut) (after : ℕ) → nat_lt 1 piece.parts ≡ false → new ≡ cuts → after ≡ base
      → new ++ cuts_from axes told got after rest ≡ all
  cuts_else new after cut same place =
      let one = cut_by axes told got base piece in
      let later = cuts_from axes told got (place_past base (2 * axes)) rest in
      ap (λ (l : List Cut). l ++ cuts_from axes told got after rest) same
      ∙ ap (λ n. cuts ++ cuts_from axes told got n rest) place
      ∙ sym (ap (λ (l : List Piece). cuts ++ cuts_from axes told got base l) (next-piece pieces i piece less is)
      ∙ ap (λ (b : Bool). cuts ++ cond b (one ∷ later) (cuts_from axes told got base rest)) cut)
      ∙ before

module _ (cuts : List Cut) (found : List ℕ) (pieces : List Piece) (i : ℕ) (piece : Piece)
    (less : i < length pieces) (is : piece ≡ get_or pieces i piece) (halves all : List Piece) (at : ℕ)
    (before : halves ++ cut_pieces cuts found at (drop i pieces) ≡ all) where
  abbrev behind : List Piece
  behind = drop (i + 1) pieces

  here : (b : Bool) → nat_lt 1 piece.parts ≡ b
      → halves ++ cond b (halves_by cuts found at piece ++ cut_pieces cuts found (at + 1) behind)
      (piece ∷ cut_pieces cuts found at behind) ≡ all
  here b e =
      sym (ap (λ (l : List Piece). halves ++ cut_pieces cuts found at l) (next-piece pieces i piece less is)
      ∙ ap (λ (b : Bool). halves ++ cond b (halves_by cuts found at piece ++ cut_pieces cuts found (at + 1) behind)
      (piece ∷ cut_pieces cuts found at behind)) e)
      ∙ before

  pub halves_then : (new : List Piece) (after : ℕ) → nat_lt 1 piece.parts ≡ true → new ≡ halves ++ halves_by cuts found at piece
      → after ≡ at + 1
      → new ++ cut_pieces cuts found after behind ≡ all
  halves_then new after cut more place =
      ap (λ (l : List Piece). l ++ cut_pieces cuts found after behind) more
      ∙ ap (λ n. (halves ++ halves_by cuts found at piece) ++ cut_pieces cuts found n behind) place
      ∙ append_assoc halves (halves_by cuts found at piece) (cut_pieces cuts found (at + 1) behind)
      ∙ here true cut

  pub halves_else : (new : List Piece) (after : ℕ) → nat_lt 1 piece.parts ≡ false → new ≡ halves ++ piece ∷ [] → after ≡ at
      → new ++ cut_pieces cuts found after behind ≡ all
  halves_else new after cut more place =
      ap (λ (l : List Piece). l ++ cut_pieces cuts found after behind) more
      ∙ ap (λ n. (halves ++ piece ∷ []) ++ cut_pieces cuts found n behind) place
      ∙ append_assoc halves (piece ∷ []) (cut_pieces cuts found at behind)
      ∙ here false cut
