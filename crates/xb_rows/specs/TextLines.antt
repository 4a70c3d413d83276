-- Records that stand in a text line of their own.
use Rattle.std.specs.Prelude.{ℕ, ◌≡◌, ◌≤◌, ◌+◌, ◌++◌, ◌==◌, false, List, [], ◌∷◌, codes, if◌then◌else◌, Option, Some, None, Result, Ok, Err}
use Rattle.csv.specs.Machine.{Read, next_record}
use Rattle.csv.specs.Reading.{default_config, records}
use Rattle.csv.specs.declared.parser.State.TheVariants as csv_st
use Rattle.xb_model.specs.Fields.{field_number, line_of}
use Rattle.xb_model.specs.Rows.{LoopRow, row_of, may_last}
use Rattle.xb_model.specs.Sources.{Rest}
use Rattle.xb_model.specs.declared.row.Contact.{Contact}
use Rattle.xb_model.specs.declared.fault.RowFault.{RowFault}
use Rattle.xb_model.specs.declared.fault.RowFault.TheVariants as fault
use Rattle.xb_rows.specs.declared.record.TheConstants.{MS_DIGITS}
use Rattle.xb_rows.specs.declared.text_line.FieldsSaid.{FieldsSaid}
use Rattle.xb_rows.specs.declared.text_line.FieldsSaid.TheVariants as said
use Rattle.xb_rows.specs.RowTexts.{Fields, contact_of, fault_alone, or_fault, rest_from, rest_of_text, row_and_rest, row_of_fields, stop_alone, three_fields}

-- a row, which is there
abbrev pub some_row : Result LoopRow RowFault → Result (Option LoopRow) RowFault
some_row (Ok row) = Ok (Some row)
some_row (Err f) = Err f

-- the row that record n writes, if a record was read
abbrev pub row_of_read : ℕ → Option Read → Result (Option LoopRow) RowFault
row_of_read n None = Ok None
row_of_read n (Some read) = some_row (row_of_fields n (three_fields read.0))

-- the row that the first record of a text without a header writes as record n, if there is one
abbrev pub row_of_line : ℕ → List ℕ → Result (Option LoopRow) RowFault
row_of_line n text = row_of_read n (next_record default_config csv_st.StartRecord [] [] text)

-- what rows begin with: a row, or the stop of rows that have none
abbrev pub BeginsAs : Result (Option LoopRow) RowFault → Rest → Type 0
BeginsAs (Ok (Some row)) rest = (later : List LoopRow) × (rest.rows ≡ row ∷ later)
BeginsAs (Ok None) rest = rest ≡ stop_alone None
BeginsAs (Err f) rest = rest ≡ fault_alone f

-- a text without a header is read as the rows of the header and this text begin
abbrev pub LinesAreRecords : Type 0
LinesAreRecords = (text : List ℕ) → BeginsAs (row_of_line 1 text) (rest_of_text (codes "line,state,ms\n" ++ text))

-- a byte that is neither a quote nor one that ends a record: CR, LF
abbrev pub IsPlainByte : ℕ → Type 0
IsPlainByte byte = ((byte == 34) ≡ false) × ((byte == 13) ≡ false) × ((byte == 10) ≡ false)

abbrev pub IsPlainLine : List ℕ → Type 0
IsPlainLine [] = Unit {0}
IsPlainLine (byte ∷ line) = IsPlainByte byte × IsPlainLine line

-- the rest from record n on, where its text line gives this
abbrev pub rest_by : ℕ → ℕ → Result (Option LoopRow) RowFault → List Fields → Rest
rest_by most n (Ok None) later = rest_from most n later
rest_by most n (Ok (Some row)) later = row_and_rest (Ok row) (rest_from most (n + 1) later)
rest_by most n (Err f) later = fault_alone f

-- a text line of such bytes gives what it gives by itself, wherever it stands in the rows of a text
abbrev pub LinesStandAlone : Type 0
LinesStandAlone = (most n : ℕ) (line later : List ℕ) → IsPlainLine line → n ≤ most
    → rest_from most n (records default_config (line ++ 10 ∷ later))
    ≡ rest_by most n (row_of_line n line) (records default_config later)

-- what fields say with one field more
abbrev pub fields_with : FieldsSaid → List ℕ → FieldsSaid
fields_with said.Nothing field = said.Line (line_of field)
fields_with (said.Line line) field = said.State line (contact_of field)
fields_with (said.State line contact) field = said.Ms line contact (field_number MS_DIGITS field)
fields_with (said.Ms line contact ms) field = said.TooMany
fields_with said.TooMany field = said.TooMany

-- what all these fields say
abbrev pub fields_said : Fields → FieldsSaid
fields_said [] = said.Nothing
fields_said (a ∷ []) = said.Line (line_of a)
fields_said (a ∷ b ∷ []) = said.State (line_of a) (contact_of b)
fields_said (a ∷ b ∷ c ∷ []) = said.Ms (line_of a) (contact_of b) (field_number MS_DIGITS c)
fields_said (a ∷ b ∷ c ∷ d ∷ rest) = said.TooMany

-- a row of this contact that lasts so long, if it may
abbrev pub row_said_of : ℕ → ℕ → Contact → ℕ → Result LoopRow RowFault
row_said_of n line contact ms = if may_last contact ms then Ok (row_of line contact ms) else Err (fault.Ms n)

-- the row that record n is with fields that say this, or its first fault
abbrev pub row_said : ℕ → FieldsSaid → Result LoopRow RowFault
row_said n (said.Ms line contact ms) =
    or_fault (fault.Line n) line (λ l. or_fault (fault.Contact n) contact (λ c.
    or_fault (fault.Ms n) ms (λ m. row_said_of n l c m)))
row_said n said.Nothing = Err (fault.Fields n)
row_said n (said.Line line) = Err (fault.Fields n)
row_said n (said.State line contact) = Err (fault.Fields n)
row_said n said.TooMany = Err (fault.Fields n)
