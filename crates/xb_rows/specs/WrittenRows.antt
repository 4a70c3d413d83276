-- The text of rows.
use Rattle.std.specs.Prelude.{ℕ, ◌≡◌, ◌≤◌, ◌<◌, ◌++◌, List, [], ◌∷◌, codes, decimal, length, map, None}
use Rattle.std.specs.List.{All, flat_map}
use Rattle.csv.specs.Writing.{default_writer, row_text}
use Rattle.xb_model.specs.declared.line.TheConstants.{LINES}
use Rattle.xb_model.specs.declared.row.Contact.{Contact}
use Rattle.xb_model.specs.declared.row.Contact.TheVariants.{Make, Brk, Close}
use Rattle.xb_model.specs.Rows.{IsRow, LoopRow}
use Rattle.xb_rows.specs.declared.scan.TheConstants.{MOST_RECORDS}
use Rattle.xb_rows.specs.RowTexts.{Fields, rest_of_text, rows_and_stop}

-- the letter of a contact
abbrev pub contact_text : Contact → List ℕ
contact_text Make = codes "M"
contact_text Brk = codes "B"
contact_text Close = codes "C"

-- the line, the contact and the time, and the end of the text line
abbrev pub record_text : LoopRow → List ℕ
record_text row =
    decimal row.line ++ codes "," ++ contact_text row.contact ++ codes "," ++ decimal row.ms ++ codes "\n"

-- the header, and a record for each row
abbrev pub text_of_rows : List LoopRow → List ℕ
text_of_rows rows = codes "line,state,ms\n" ++ flat_map record_text rows

-- a line and a time that a row may have
abbrev pub IsLawfulRow : LoopRow → Type 0
IsLawfulRow row = (row.line < LINES) × IsRow row.contact row.ms

abbrev pub AreRows : List LoopRow → Type 0
AreRows rows = All IsLawfulRow rows

-- what is written is read: the rows, and no fault
abbrev pub WrittenRowsAreRead : Type 0
WrittenRowsAreRead =
    (rows : List LoopRow) → AreRows rows → length rows ≤ MOST_RECORDS
    → rest_of_text (text_of_rows rows) ≡ rows_and_stop rows None

-- the fields of the header
abbrev pub header : Fields
header = codes "line" ∷ codes "state" ∷ codes "ms" ∷ []

-- the fields of a row
abbrev pub fields_of_row : LoopRow → Fields
fields_of_row row = decimal row.line ∷ contact_text row.contact ∷ decimal row.ms ∷ []

-- the text that a `csv` writer writes of records
abbrev pub csv_text : List Fields → List ℕ
csv_text records = flat_map (row_text default_writer) records

-- what is written is what a `csv` writer writes
abbrev pub WrittenRowsAreCsv : Type 0
WrittenRowsAreCsv =
    (rows : List LoopRow) → AreRows rows → text_of_rows rows ≡ csv_text (header ∷ map fields_of_row rows)
