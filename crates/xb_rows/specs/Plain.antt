-- Records that are read directly of the bytes, and the scan that reads them.
use Rattle.std.specs.Prelude.{ℕ, ◌≡◌, ◌+◌, ◌⊎◌, ◌++◌, List, [], ◌∷◌, Option, Some, None, Result, Ok}
use Rattle.csv.specs.Machine.{next_record}
use Rattle.csv.specs.Reading.{default_config, records, strip_bom}
use Rattle.csv.specs.declared.parser.State.TheVariants as st
use Rattle.xb_model.specs.Rows.{LoopRow}
use Rattle.xb_model.specs.declared.row.Contact.{Contact}
use Rattle.xb_model.specs.Sources.{Gives, Rest, told}
use Rattle.xb_model.specs.declared.fault.RowFault.{RowFault}
use Rattle.xb_model.specs.declared.fault.RowFault.TheVariants as fault
use Rattle.xb_rows.specs.declared.scan.TheConstants.{MOST_RECORDS}
use Rattle.xb_model.specs.Fields.{field_number}
use Rattle.xb_rows.specs.RowTexts.{Fields, contact_of, rest_from, row_of_fields, three_fields}

-- a text begins with no byte order mark, and with a record of these fields, after which `csv` stops at this
-- rest
abbrev pub BeginsWith : List ℕ → Fields → List ℕ → Type 0
BeginsWith text fields rest =
    (strip_bom text ≡ text)
    × (next_record default_config st.StartRecord [] [] text ≡ Some (fields, st.StartRecord, rest))

-- a text begins with this number of at most so many digits, and this follows it
abbrev pub BeginsWithNumber : ℕ → List ℕ → ℕ → List ℕ → Type 0
BeginsWithNumber most text n rest =
    (field : List ℕ) × (text ≡ field ++ rest) × (field_number most field ≡ Some n)

-- a text begins with what the loop does, between two commas, and this follows them
abbrev pub BeginsWithContact : List ℕ → Contact → List ℕ → Type 0
BeginsWithContact text contact rest =
    (field : List ℕ) × (text ≡ 44 ∷ (field ++ 44 ∷ rest)) × (contact_of field ≡ Some contact)

-- the first record of a text is this row, whatever its number is
abbrev pub IsPlainRow : List ℕ → LoopRow → List ℕ → Type 0
IsPlainRow text row rest = (fields : Fields) × BeginsWith text fields rest
    × ((n : ℕ) → row_of_fields n (three_fields fields) ≡ Ok row)

-- the rest after the header and so many records, where this text is left
abbrev pub rest_of_bytes : ℕ → List ℕ → Rest
rest_of_bytes taken text = rest_from MOST_RECORDS (taken + 1) (records default_config text)

-- a scan of that rest, or one for which memory ran out
abbrev pub IsScanAfter : ℕ → List ℕ → Rest → Type 0
IsScanAfter taken text scan = (scan ≡ rest_of_bytes taken text) ⊎ (scan ≡ told (Some fault.NoMemory))

-- what a scan has still to give: that of `csv`, or where it has none, the rest of its text
abbrev pub rest_after : ℕ → List ℕ → Option Rest → Rest
rest_after taken text None = rest_of_bytes taken text
rest_after taken text (Some csv) = csv

-- a scan without `csv` stands after a record of its text
abbrev pub IsPlainSoFar : List ℕ → List ℕ → Option Rest → Type 0
IsPlainSoFar last text None = (fields : Fields) × BeginsWith last fields text
IsPlainSoFar last text (Some csv) = Unit {0}

-- what the first step of `csv` gives, and what it has then to give
abbrev pub HandsOver : ℕ → List ℕ → Result (Option LoopRow) RowFault → Option Rest → Type 0
HandsOver taken text result None = ⊥
HandsOver taken text result (Some csv) = Gives (rest_of_bytes taken text) result csv
