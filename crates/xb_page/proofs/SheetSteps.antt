-- How a page is read line by line.
use Rattle.std.proofs.Common.{◌≡◌, ◌≤◌, ◌<◌, ◌+◌, ◌-◌, ℕ, true, false, not, List, ◌∷◌, ◌++◌, length, take, drop, Some, None, sym, ap, ap₂, ◌∙◌, arith, append_assoc}
use Rattle.std.specs.Prelude.{Ok, Err, Result, codes}
use Rattle.std.specs.List.{join_with_byte, position, slice_split}
use Rattle.std.proofs.lemmas.Bool.{cond-true, cond-false, eq-eqb, ne_eqb}
use Rattle.std.proofs.lemmas.List.{length-drop, take_rest}
use Rattle.std.proofs.lemmas.List.Quantifiers.{position-Some}
use Rattle.std.proofs.lemmas.List.Splits.{join_with_byte-slice_split}
use Rattle.xb_text.proofs.PlacedPieces.{drop-piece, first_piece, one_piece, piece_length, take-piece, with_byte}
use Rattle.xb_page.specs.declared.fault.PageFault.{PageFault}
use Rattle.xb_page.specs.declared.fault.PageFault.TheVariants as fault
use Rattle.xb_page.specs.declared.page_place.PagePlace.{PagePlace}
use Rattle.xb_page.specs.PageLines.{Read, ends_line, has_more, place_and, read_lines, read_page, read_totals, read_with, words}
use Rattle.xb_page.specs.Places.{line_feed, text_line}
use Rattle.xb_page.specs.ReadPages.{after_entry, is_totals, says_totals}
use Rattle.xb_page.proofs.ReadEntries.{has_more-slice_split, read_lines-more}

-- a page is read as its rest from a line's start on is, after the earlier lines
abbrev pub IsRestRead : ℕ → List ℕ → PagePlace → ℕ → Type 0
IsRestRead from page place start =
    read_page from page ≡ read_lines (take start page) place (slice_split ends_line (drop start page))

module _ (from : ℕ) (page : List ℕ) (place : PagePlace) (start n : ℕ) (rest : IsRestRead from page place start)
    (e : Some n ≡ position ends_line (take (length page - start) (drop start page))) where
  -- the text of the line
  abbrev pub text : List ℕ
  text = take (start + n - start) (drop start page)

  at : position ends_line (drop start page) ≡ Some n
  at = rw (take_rest page start) at (sym e)

  is_text : text ≡ take n (drop start page)
  is_text = ap (λ (k : ℕ). take k (drop start page)) (piece_length start n)

  pub line_within : start + n + 1 ≤ length page
  line_within =
      let (within, lf, before) = position-Some ends_line (drop start page) n 0 at in
      omega (arith, length-drop start page)

  abbrev pub later : List (List ℕ)
  later = slice_split ends_line (drop (start + n + 1) page)

  pub lines_from : slice_split ends_line (drop start page) ≡ text ∷ later
  lines_from =
      first_piece line_feed (drop start page) n at
      ∙ ap₂ (λ (t : List ℕ) (r : List ℕ). t ∷ slice_split ends_line r) (sym is_text) (drop-piece page start n)

  here : read_page from page ≡ read_lines (take start page) place (text ∷ later)
  here = rest ∙ ap (read_lines (take start page) place) lines_from

  more : has_more later ≡ true
  more = has_more-slice_split (drop (start + n + 1) page)

  -- a line that is not the totals
  pub not_totals : false ≡ is_totals (words text)
      → read_page from page ≡ place_and (after_entry place (words text)) (λ next. read_lines (take (start + n + 1) page) next (slice_split ends_line (drop (start + n + 1) page)))
  not_totals other =
      here ∙ read_lines-more (take start page) place text later more (sym other)
      ∙ ap (λ (bytes : List ℕ). place_and (after_entry place (words text)) (λ next. read_lines bytes next later))
      (append_assoc (take start page) text (codes "\n")
      ∙ ap (λ (t : List ℕ). take start page ++ (t ++ codes "\n")) is_text
      ∙ ap (λ (t : List ℕ). take start page ++ t) (with_byte line_feed (drop start page) n at)
      ∙ take-piece page start n)

  -- the totals
  pub totals : true ≡ is_totals (words text) → read_page from page ≡ read_totals (take start page) place text (slice_split ends_line (drop (start + n + 1) page))
  totals t = here ∙ cond-false _ _ _ (ap not more) ∙ cond-true _ _ _ (sym t)

  -- wrong ones
  pub wrong_totals : true ≡ is_totals (words text) → false ≡ says_totals place (words text) → read_page from page ≡ Err (fault.Totals (text_line place))
  wrong_totals t f = totals t ∙ cond-true _ _ _ (ap not (sym f))

  -- the bytes after the totals
  after : length (join_with_byte line_feed (slice_split ends_line (drop (start + n + 1) page))) ≡ length page - (start + n + 1)
  after = ap length (join_with_byte-slice_split line_feed (drop (start + n + 1) page)) ∙ length-drop (start + n + 1) page

  -- right ones, with something after them
  pub goes_on : true ≡ is_totals (words text) → true ≡ says_totals place (words text) → start + n + 1 < length page → read_page from page ≡ Err (fault.GoesOn (text_line place))
  goes_on t says far =
      totals t ∙ cond-false _ _ _ (ap not (sym says))
      ∙ cond-false _ _ _ (ne_eqb (length (join_with_byte line_feed later)) 0 (λ none. omega (arith, after, none)))

  -- right ones at the end
  pub ends : true ≡ is_totals (words text) → true ≡ says_totals place (words text) → length page ≤ start + n + 1
      → read_page from page ≡ Ok (read_with (take start page) place)
  ends t says far =
      totals t ∙ cond-false _ _ _ (ap not (sym says))
      ∙ cond-true _ _ _ (eq-eqb (length (join_with_byte line_feed later)) 0 (omega (arith, after)))

-- a line that is wrong
pub after_fails : (d : PageFault) → (place : PagePlace) (text : List ℕ) (next : PagePlace → Result Read PageFault)
    → Err d ≡ after_entry place (words text) → place_and (after_entry place (words text)) next ≡ Err d
after_fails d place bytes next e = ap (λ (r : Result PagePlace PageFault). place_and r next) (sym e)

-- a line that is right
pub after_goes : (place' place : PagePlace) (text : List ℕ) (next : PagePlace → Result Read PageFault)
    → Ok place' ≡ after_entry place (words text) → place_and (after_entry place (words text)) next ≡ next place'
after_goes place' place bytes next e = ap (λ (r : Result PagePlace PageFault). place_and r next) (sym e)

-- no line is left
pub no_line : (from : ℕ) (page : List ℕ) (place : PagePlace) (start : ℕ) → IsRestRead from page place start
    → None ≡ position ends_line (take (length page - start) (drop start page)) → read_page from page ≡ Err (fault.NoTotals (text_line place))
no_line from page place start rest e =
    let at = rw (take_rest page start) at (sym e) in
    rest ∙ ap (read_lines (take start page) place) (one_piece line_feed (drop start page) at)
