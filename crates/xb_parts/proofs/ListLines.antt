-- A text line of a list that writes no range.
use Rattle.std.proofs.Common.{◌≡◌, ◌∙◌, ℕ, List, [], ◌∷◌, true, false, length, None, sym, ap}
use Rattle.std.specs.Prelude.{◌==◌}
use Rattle.std.specs.List.{join_with_byte}
use Rattle.std.proofs.lemmas.List.Splits.{join_with_byte-slice_split}
use Rattle.xb_parts.specs.Lists.{before, line_feed, range_of_words, ranges_of_lines, space}
use Rattle.xb_text.specs.Pieces.{pieces}

false_is_true : false ≡ true → ⊥
false_is_true e = cc

-- what is left is no end, and so no list
pub no_range : (text line : List ℕ) (lines : List (List ℕ)) → pieces line_feed text ≡ line ∷ lines → (length text == 0) ≡ false
    → None ≡ range_of_words (pieces space line) → ranges_of_lines (line ∷ lines) ≡ None
no_range text [] [] cut some none =
    let empty : text ≡ [] = sym (join_with_byte-slice_split line_feed text) ∙ ap (join_with_byte line_feed) cut in
    absurd (false_is_true (sym some ∙ ap (λ (t : List ℕ). length t == 0) empty))
no_range text [] (next ∷ lines) cut some none = ap (λ r. before r (ranges_of_lines (next ∷ lines))) (sym none)
no_range text (byte ∷ bytes) lines cut some none = ap (λ r. before r (ranges_of_lines lines)) (sym none)
