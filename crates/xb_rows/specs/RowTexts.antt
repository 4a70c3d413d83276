-- What the text of the loop rows says: its rows before the first fault, and that fault,
-- read as `csv` reads it. A text, its records, and the records from the n-th on are each a `Rest`:
-- what a source of their rows has to give.
use Rattle.std.specs.Prelude.{ℕ, ◌+◌, ◌&&◌, nat_lt, if◌then◌else◌, List, [], ◌∷◌, codes, Bool, false, true, Option, Some, None, Result, Ok, Err, bytes_eq, option_and_then}
use Rattle.csv.specs.Reading.{default_config, records, strip_bom}
use Rattle.xb_model.specs.Sources.{Rest}
use Rattle.xb_model.specs.declared.row.Contact.{Contact}
use Rattle.xb_model.specs.declared.row.Contact.TheVariants.{Make, Brk, Close}
use Rattle.xb_model.specs.declared.fault.RowFault.{RowFault}
use Rattle.xb_model.specs.declared.fault.RowFault.TheVariants as fault
use Rattle.xb_model.specs.Rows.{LoopRow, may_last, row_of}
use Rattle.xb_model.specs.Fields.{field_number, line_of}
use Rattle.xb_rows.specs.declared.record.TheConstants.{MS_DIGITS}
use Rattle.xb_rows.specs.declared.scan.TheConstants.{MOST_RECORDS}

-- what the loop does, as a field names it
abbrev pub contact_of : List ℕ → Option Contact
contact_of field =
    if bytes_eq field (codes "M") then Some Make
    else if bytes_eq field (codes "B") then Some Brk
    else if bytes_eq field (codes "C") then Some Close
    else None

-- the time that a field writes, for a row of this contact
abbrev pub ms_of : Contact → List ℕ → Option ℕ
ms_of contact field =
    option_and_then (λ ms. if may_last contact ms then Some ms else None) (field_number MS_DIGITS field)

-- the fields of a record
abbrev pub Fields : Type 0
Fields = List (List ℕ)

-- three fields: line, state, ms
abbrev pub ThreeFields : Type 0
ThreeFields = List ℕ × List ℕ × List ℕ

-- the fields of a record that has three
abbrev pub three_fields : Fields → Option ThreeFields
three_fields [] = None
three_fields (a ∷ []) = None
three_fields (a ∷ b ∷ []) = None
three_fields (a ∷ b ∷ c ∷ []) = Some (a, b, c)
three_fields (a ∷ b ∷ c ∷ d ∷ rest) = None

-- what is there, or else a fault
abbrev pub or_fault : {A B : Type 0} → RowFault → Option A → (A → Result B RowFault) → Result B RowFault
or_fault f None next = Err f
or_fault f (Some x) next = next x

-- the row that record n writes, or its first fault: fields, line, state, ms
abbrev pub row_of_fields : ℕ → Option ThreeFields → Result LoopRow RowFault
row_of_fields n fields =
    or_fault (fault.Fields n) fields (λ t.
    or_fault (fault.Line n) (line_of t.0) (λ line.
    or_fault (fault.Contact n) (contact_of t.1) (λ contact.
    or_fault (fault.Ms n) (ms_of contact t.2) (λ ms.
    Ok (row_of line contact ms)))))

-- rows of a text, whose reading may allocate, and the stop after them
abbrev pub rows_and_stop : List LoopRow → Option RowFault → Rest
rows_and_stop rows stop = record { rows = rows; stop = stop; may_allocate = true }

-- no row, and a stop
abbrev pub stop_alone : Option RowFault → Rest
stop_alone stop = rows_and_stop [] stop

-- no row, and a fault
abbrev pub fault_alone : RowFault → Rest
fault_alone f = stop_alone (Some f)

-- a row before what follows it, or a fault in place of both
abbrev pub row_and_rest : Result LoopRow RowFault → Rest → Rest
row_and_rest (Ok row) rest = rows_and_stop (row ∷ rest.rows) rest.stop
row_and_rest (Err f) rest = fault_alone f

-- the rest from record n on, where at most so many records may follow the header
unfoldable pub rest_from : ℕ → ℕ → List Fields → Rest
rest_from most n [] = stop_alone None
rest_from most n (fields ∷ later) =
    if nat_lt most n then fault_alone fault.TooMany
    else row_and_rest (row_of_fields n (three_fields fields)) (rest_from most (n + 1) later)

-- whether a record is the header
abbrev pub is_header : Option ThreeFields → Bool
is_header None = false
is_header (Some t) = bytes_eq t.0 (codes "line") && bytes_eq t.1 (codes "state") && bytes_eq t.2 (codes "ms")

-- all records: the first is the header, and those after it count from 1
abbrev pub rest_of_records : ℕ → List Fields → Rest
rest_of_records most [] = fault_alone fault.Header
rest_of_records most (first ∷ later) =
    if is_header (three_fields first) then rest_from most 1 later else fault_alone fault.Header

-- a text, where at most so many records may follow the header
abbrev pub rest_within : ℕ → List ℕ → Rest
rest_within most text = rest_of_records most (records default_config (strip_bom text))

-- the text of a deck's rows
abbrev pub rest_of_text : List ℕ → Rest
rest_of_text text = rest_within MOST_RECORDS text

-- the rows of a text before its first fault, and that fault
abbrev pub rows_of_text : List ℕ → List LoopRow
rows_of_text text = (rest_of_text text).rows

abbrev pub fault_of_text : List ℕ → Option RowFault
fault_of_text text = (rest_of_text text).stop
