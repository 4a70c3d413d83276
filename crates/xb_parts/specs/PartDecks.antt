-- What the decks of parts have.
use Rattle.std.specs.Prelude.{ℕ, ◌<◌, ◌==◌, ◌++◌, length, nat_lt, if◌then◌else◌, List, [], codes, slice_index_or, Option}
use Rattle.std.specs.List.{flat_map}
use Rattle.std.specs.Io.KnownBytes.{Appends}
use Rattle.xb_model.specs.Rows.{LoopRow}
use Rattle.xb_model.specs.Sources.{Rest}
use Rattle.xb_rows.specs.WrittenRows.{record_text, text_of_rows}
use Rattle.xb_parts.specs.declared.range.LineRange.{LineRange}
use Rattle.xb_parts.specs.Ranges.{rows_in}
use Rattle.xb_parts.specs.Counts.{AreLoadsOf}
use Rattle.xb_parts.specs.declared.load.Load.{Load}
use Rattle.xb_parts.specs.RowStreams.{HasGivenAll}

-- what each deck has, by its number, where it is known
abbrev pub Decks : Type 0
Decks = ℕ → Option (List ℕ)

-- each deck got these bytes
abbrev pub Gets : (ℕ → List ℕ) → Decks → Decks → Type 0
Gets bytes old new = (i : ℕ) → Appends (old i) (new i) (bytes i)

-- bytes for one deck, and none for the others
abbrev pub only_for : ℕ → List ℕ → ℕ → List ℕ
only_for part bytes i = if i == part then bytes else []

-- the range of a part; one that is none has no line
abbrev pub range_at : List LineRange → ℕ → LineRange
range_at ranges i = slice_index_or ranges i (record { first = 0; end = 0 })

-- the records of the rows of a part, in their order
abbrev pub records_of_part : List LineRange → List LoopRow → ℕ → List ℕ
records_of_part ranges rows i = flat_map record_text (rows_in (range_at ranges i) rows)

-- the table, the cut and the header
abbrev pub head_of : List ℕ → List ℕ
head_of table = table ++ codes "---\nline,state,ms\n"

-- bytes for the decks below a number, and none for the others
abbrev pub only_below : ℕ → List ℕ → ℕ → List ℕ
only_below parts bytes i = if nat_lt i parts then bytes else []

-- the deck of a part: the table, the cut, the header, and exactly the rows of its lines, in their order
abbrev pub deck_of_part : List ℕ → List LineRange → List LoopRow → ℕ → List ℕ
deck_of_part table ranges rows i = table ++ codes "---\n" ++ text_of_rows (rows_in (range_at ranges i) rows)

-- each deck got the records of its part of all rows, and each line has these loads of them
abbrev pub GetsRecords : Option Rest → List LineRange → List Load → Decks → Decks → Type 0
GetsRecords start ranges loads old new = (rows : List LoopRow) × HasGivenAll rows start
    × AreLoadsOf rows loads × Gets (records_of_part ranges rows) old new

-- the deck of each part got the table, the cut, the header and its rows, of which each line has these loads
abbrev pub GetsDecks : List ℕ → Option Rest → List LineRange → List Load → Decks → Decks → Type 0
GetsDecks table start ranges loads old new =
    (rows : List LoopRow) × HasGivenAll rows start × AreLoadsOf rows loads
    × ((i : ℕ) → i < length ranges → Appends (old i) (new i) (deck_of_part table ranges rows i))
