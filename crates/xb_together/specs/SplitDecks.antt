-- The decks of the parts of a large deck.
use Rattle.std.specs.Prelude.{ℕ, ◌≡◌, ◌≤◌, ◌+◌, codes, List, length, map, Ok}
use Rattle.std.specs.List.{All}
use Rattle.xb_model.specs.declared.line.TheConstants.{LINES}
use Rattle.xb_model.specs.Rows.{LoopRow}
use Rattle.xb_routes.specs.Table.{Table}
use Rattle.xb_routes.specs.Text.{table_of_text}
use Rattle.xb_rows.specs.declared.scan.TheConstants.{MOST_RECORDS}
use Rattle.xb_rows.specs.WrittenRows.{AreRows}
use Rattle.xb_deck.specs.declared.deck.TheConstants.{MOST_DECK_BYTES}
use Rattle.xb_deck.specs.MadeDecks.{AreTableLines, with_ends}
use Rattle.xb_office.specs.DeckPage.{page_of, says}
use Rattle.xb_office.specs.MadeDecks.{deck_of}
use Rattle.xb_parts.specs.declared.load.Load.{Load}
use Rattle.xb_parts.specs.declared.range.LineRange.{LineRange}
use Rattle.xb_parts.specs.Counts.{AreLoadsOf}
use Rattle.xb_parts.specs.Ranges.{CoverAll, rows_in}
use Rattle.xb_parts.specs.Loads.{Fits}
use Rattle.xb_parts.specs.Joining.{Given, join_of}

-- the ranges of parts
abbrev pub ranges_of : List Given → List LineRange
ranges_of parts = map (λ part. part.lines) parts

-- the deck of a range of lines: the table, and the rows of the range
abbrev pub range_deck : List (List ℕ) → List LoopRow → LineRange → List ℕ
range_deck lines rows range = deck_of lines (rows_in range rows)

-- it is a deck that an office takes
abbrev pub IsSmall : List (List ℕ) → List LoopRow → LineRange → Type 0
IsSmall lines rows range =
    (length (rows_in range rows) ≤ MOST_RECORDS) × (length (range_deck lines rows range) ≤ MOST_DECK_BYTES)

-- the page of a part is what an office says of its deck
abbrev pub HasItsPage : List (List ℕ) → List LoopRow → Given → Type 0
HasItsPage lines rows part = says (range_deck lines rows part.lines) ≡ Ok part.page

-- pages that the decks of ranges say, joined, are the page of all rows
abbrev pub SplitDecksMakeThePage : Type 0
SplitDecksMakeThePage =
    (lines : List (List ℕ)) (table : Table) (rows : List LoopRow) (parts : List Given)
    → AreTableLines lines → table_of_text (with_ends lines) ≡ Ok table → AreRows rows
    → CoverAll (ranges_of parts) → All (IsSmall lines rows) (ranges_of parts) → All (HasItsPage lines rows) parts
    → join_of parts ≡ Ok (page_of table rows)

-- what stands between the table and the first record
abbrev pub head : List ℕ
head = codes "---\nline,state,ms\n"

-- what the records of a part may have: the most records, and the bytes that the table and the head leave
pub record LeavesRoom (lines : List (List ℕ)) (most : Load) : Type 0 where
  pub records : most.records ≤ MOST_RECORDS
  pub bytes : length (with_ends lines) + length head + most.bytes ≤ MOST_DECK_BYTES

-- the same by counts: each line's load is counted, and the ranges are those of a plan
abbrev pub PlannedDecksMakeThePage : Type 0
PlannedDecksMakeThePage =
    (lines : List (List ℕ)) (table : Table) (rows : List LoopRow) (loads : List Load) (most : Load) (parts : List Given)
    → AreTableLines lines → table_of_text (with_ends lines) ≡ Ok table → AreRows rows
    → AreLoadsOf rows loads → length loads ≡ LINES → LeavesRoom lines most
    → CoverAll (ranges_of parts) → All (Fits loads most) (ranges_of parts) → All (HasItsPage lines rows) parts
    → join_of parts ≡ Ok (page_of table rows)
