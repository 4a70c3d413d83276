-- The ranges of a plan have decks that an office takes.
use Rattle.std.proofs.Common.{◌≡◌, ◌≤◌, ◌<◌, ◌+◌, ℕ, List, [], ◌∷◌, ◌++◌, length, codes, arith, length-append}
use Rattle.std.specs.Prelude.{sum_by}
use Rattle.std.specs.List.{AllByRecursion, flat_map}
use Rattle.std.proofs.lemmas.List.Concat.{length-flat_map}
use Rattle.std.proofs.lemmas.List.Elements.{All-from_recursion, recursion_from_All}
use Rattle.xb_model.specs.declared.line.TheConstants.{LINES}
use Rattle.xb_model.specs.Rows.{LoopRow}
use Rattle.xb_rows.specs.WrittenRows.{record_text, text_of_rows}
use Rattle.xb_deck.specs.MadeDecks.{with_ends}
use Rattle.xb_office.specs.MadeDecks.{deck_of}
use Rattle.xb_parts.specs.declared.load.Load.{Load}
use Rattle.xb_parts.specs.declared.range.LineRange.{LineRange}
use Rattle.xb_parts.specs.Counts.{AreLoadsOf, row_bytes}
use Rattle.xb_parts.specs.Ranges.{Cover, rows_in}
use Rattle.xb_parts.specs.Loads.{Fits}
use Rattle.xb_parts.proofs.CountedRanges.{fitting_ranges_have_few}
use Rattle.xb_together.specs.SplitDecks.{IsSmall, LeavesRoom, PlannedDecksMakeThePage, SplitDecksMakeThePage, ranges_of}

-- the bytes of a deck: of its table, its head, and its rows
length-deck_of : (lines : List (List ℕ)) (rows : List LoopRow)
    → length (deck_of lines rows) ≡ length (with_ends lines) + 18 + sum_by row_bytes rows
length-deck_of lines rows =
    let records = length-flat_map record_text rows in
    let headed = length-append (codes "line,state,ms\n") (flat_map record_text rows) in
    let cut : length (with_ends lines ++ codes "---\n") ≡ length (with_ends lines) + 4 = length-append (with_ends lines) (codes "---\n") in
    omega (arith, length-append (with_ends lines ++ codes "---\n") (text_of_rows rows), cut, headed, records)

-- ranges end where they began, or after it
pub Cover-le : (a b : ℕ) (ranges : List LineRange) → Cover a b ranges → a ≤ b
Cover-le a b [] cover = omega arith
Cover-le a b (range ∷ ranges) cover = omega (arith, cover.1, Cover-le range.end b ranges cover.2)

module _ (lines : List (List ℕ)) (rows : List LoopRow) (loads : List Load) (most : Load)
    (are_loads : AreLoadsOf rows loads) (all : length loads ≡ LINES) (room : LeavesRoom lines most) where
  -- a range that fits has a small deck
  small : (range : LineRange) → range.first ≤ range.end → range.end ≤ LINES → Fits loads most range → IsSmall lines rows range
  small range up within fits =
      let few = fitting_ranges_have_few rows loads most range are_loads all up within (omega (arith, room.records)) (omega (arith, room.bytes)) fits in
      let bytes = length-deck_of lines (rows_in range rows) in
      (omega (arith, few.0, room.records), omega (arith, few.1, room.bytes, bytes))

  all_small : (a b : ℕ) (ranges : List LineRange) → b ≤ LINES → Cover a b ranges → AllByRecursion (Fits loads most) ranges
      → AllByRecursion (IsSmall lines rows) ranges
  all_small a b [] within cover fit = tt
  all_small a b (range ∷ ranges) within cover fit =
      let first : range.first ≡ a = cover.0 in
      let up : a < range.end = cover.1 in
      let end : range.end ≤ b = Cover-le range.end b ranges cover.2 in
      (small range (omega arith) (omega arith) fit.0, all_small range.end b ranges within cover.2 fit.1)

pub planned_decks_make_the_page : SplitDecksMakeThePage → PlannedDecksMakeThePage
planned_decks_make_the_page small_make lines table rows loads most parts are_lines is_table are_rows are_loads all room cover fit says_them =
    let fits = recursion_from_All (Fits loads most) (ranges_of parts) fit in
    let smalls = all_small lines rows loads most are_loads all room 0 LINES (ranges_of parts) (omega arith) cover fits in
    small_make lines table rows parts are_lines is_table are_rows cover
    (All-from_recursion (IsSmall lines rows) (ranges_of parts) smalls) says_them
