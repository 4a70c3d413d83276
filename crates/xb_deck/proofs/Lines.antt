-- How the cut of a deck goes line by line.
use Rattle.std.proofs.Common.{◌≡◌, ◌≤◌, ◌+◌, ◌-◌, ℕ, List, [], ◌++◌, length, take, drop, Option, Some, None, true, false, refl, sym, ap, ◌∙◌, arith, append_assoc}
use Rattle.std.specs.Prelude.{option_map}
use Rattle.std.specs.List.{position}
use Rattle.std.proofs.lemmas.List.{append-nil, length-drop, take_rest}
use Rattle.std.proofs.lemmas.List.Quantifiers.{position-Some}
use Rattle.std.proofs.lemmas.List.Splits.{join_with_byte-slice_split}
use Rattle.xb_text.proofs.PlacedPieces.{drop-piece, first_piece, one_piece, piece_length, take-piece, with_byte}
use Rattle.xb_deck.specs.Deck.{Parts, with_earlier, deck_parts, ends_line, is_cut, line_feed}

-- bytes before bytes before the table
pub with_earlier-with_earlier : (a b : List ℕ) (o : Option Parts) → option_map (with_earlier a) (option_map (with_earlier b) o) ≡ option_map (with_earlier (a ++ b)) o
with_earlier-with_earlier a b None = refl
with_earlier-with_earlier a b (Some p) = rw (append_assoc a b p.table) refl

-- the deck is cut as its rest from a line's start on is, after the earlier lines
abbrev pub IsRestCut : List ℕ → ℕ → Type 0
IsRestCut xs start = deck_parts xs ≡ option_map (with_earlier (take start xs)) (deck_parts (drop start xs))

-- a line is the cut
pub cut-here : (xs : List ℕ) (start n : ℕ) → IsRestCut xs start
    → Some n ≡ position ends_line (take (length xs - start) (drop start xs)) → true ≡ is_cut (take (start + n - start) (drop start xs))
    → Some (record { table = take start xs; rows = take (length xs - (start + n + 1)) (drop (start + n + 1) xs) }) ≡ deck_parts xs
cut-here xs start n whole e t =
    let at = rw (take_rest xs start) at (sym e) in
    let is = rw (piece_length start n) at (sym t) in
    let here : deck_parts (drop start xs) ≡ Some (record { table = []; rows = drop (n + 1) (drop start xs) })
    = rw (first_piece line_feed (drop start xs) n at, is) (rw (join_with_byte-slice_split line_feed (drop (n + 1) (drop start xs))) refl) in
    sym (whole ∙ ap (option_map (with_earlier (take start xs))) here ∙ rw (append-nil (take start xs), drop-piece xs start n, take_rest xs (start + n + 1)) refl)

-- a line is not the cut
pub no-cut_here : (xs : List ℕ) (start n : ℕ) → IsRestCut xs start
    → Some n ≡ position ends_line (take (length xs - start) (drop start xs)) → false ≡ is_cut (take (start + n - start) (drop start xs))
    → (start + n + 1 ≤ length xs) × IsRestCut xs (start + n + 1)
no-cut_here xs start n whole e t =
    let at = rw (take_rest xs start) at (sym e) in
    let is = rw (piece_length start n) at (sym t) in
    let (within, lf, before) = position-Some ends_line (drop start xs) n 0 at in
    let here : deck_parts (drop start xs) ≡ option_map (with_earlier (take (n + 1) (drop start xs))) (deck_parts (drop (n + 1) (drop start xs)))
    = rw (first_piece line_feed (drop start xs) n at, is, with_byte line_feed (drop start xs) n at) refl in (
      omega (arith, length-drop start xs),
      whole ∙ ap (option_map (with_earlier (take start xs))) here ∙ with_earlier-with_earlier (take start xs) (take (n + 1) (drop start xs)) _ ∙ rw (take-piece xs start n, drop-piece xs start n) refl,
    )

-- no line is the cut
pub no-cut : (xs : List ℕ) (start : ℕ) → IsRestCut xs start
    → None ≡ position ends_line (take (length xs - start) (drop start xs)) → false ≡ is_cut (take (length xs - start) (drop start xs))
    → None ≡ deck_parts xs
no-cut xs start whole e t =
    let at = rw (take_rest xs start) at (sym e) in
    let is = rw (take_rest xs start) at (sym t) in
    let here : deck_parts (drop start xs) ≡ None = rw (one_piece line_feed (drop start xs) at, is) refl in
    sym (whole ∙ ap (option_map (with_earlier (take start xs))) here)
