-- Where the records of a deck stand among its text lines.
use Rattle.std.specs.Prelude.{ℕ, ◌+◌, ◌-◌, ◌==◌, ◌&&◌, not, List, length, take, Bool, if◌then◌else◌, Option, Some, None}
use Rattle.std.specs.List.{filter, list_any}
use Rattle.xb_deck.specs.Deck.{Parts, deck_parts, ends_line}
use Rattle.xb_rows.specs.RowTexts.{rows_of_text}

abbrev pub is_quote : ℕ → Bool
is_quote byte = byte == 34

abbrev pub is_return : ℕ → Bool
is_return byte = byte == 13

-- how many line feeds a text has
abbrev pub line_feeds : List ℕ → ℕ
line_feeds text = length (filter ends_line text)

-- each text line of rows is one record, the header the first: without a quote and a CR no record goes on beyond its line
-- and no line has two, and so many records and the header leave no line empty
abbrev pub are_lines : List ℕ → ℕ → Bool
are_lines rows records =
    not (list_any is_quote rows) && (not (list_any is_return rows)
    && line_feeds (take (length rows - 1) rows) == records)

-- how many text lines stand before the first record: those of the table, the cut, and the header
abbrev pub lines_before : List ℕ → List ℕ → ℕ → Option ℕ
lines_before table rows records = if are_lines rows records then Some (line_feeds table + 2) else None

abbrev pub before_records_of : Option Parts → Option ℕ
before_records_of None = None
before_records_of (Some parts) = lines_before parts.table parts.rows (length (rows_of_text parts.rows))

-- the same of a deck
abbrev pub before_records : List ℕ → Option ℕ
before_records deck = before_records_of (deck_parts deck)
