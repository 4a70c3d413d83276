-- Records that are written are read.
use Rattle.std.proofs.Common.{◌≡◌, ◌≤◌, ◌+◌, ℕ, List, [], ◌∷◌, length, Some, None, refl, sym, ap, ◌∙◌, arith, Ok}
use Rattle.std.specs.Prelude.{map}
use Rattle.csv.specs.Machine.{Read}
use Rattle.csv.specs.Reading.{default_config, records, strip_bom}
use Rattle.csv.specs.Writing.{read_back}
use Rattle.csv.specs.declared.parser.State.TheVariants as st
use Rattle.csv.proofs.RoundTrip.{read-write}
use Rattle.std.proofs.lemmas.List.Elements.{All-head, All-tail}
use Rattle.xb_model.specs.declared.row.Contact.{Contact}
use Rattle.xb_model.specs.declared.row.Contact.TheVariants.{Make, Brk, Close}
use Rattle.xb_model.specs.Rows.{LoopRow}
use Rattle.xb_model.proofs.RowTimes.{at_most_a_day}
use Rattle.xb_rows.specs.declared.scan.TheConstants.{MOST_RECORDS}
use Rattle.xb_model.specs.declared.field.TheConstants.{LINE_DIGITS}
use Rattle.xb_rows.specs.declared.record.TheConstants.{MS_DIGITS}
use Rattle.xb_rows.specs.RowTexts.{Fields, contact_of, rest_of_records, row_of_fields, row_and_rest, rest_from, rows_and_stop, three_fields}
use Rattle.xb_rows.specs.WrittenRows.{AreRows, IsLawfulRow, WrittenRowsAreRead, contact_text, csv_text, fields_of_row, header, text_of_rows}
use Rattle.xb_rows.proofs.CsvTexts.{written_rows_are_csv}
use Rattle.xb_rows.proofs.RecordCounts.{records-end, records-more}
use Rattle.xb_rows.proofs.RestOfRecords.{rest_from-more, rest_from-none}
use Rattle.xb_model.proofs.WrittenFields.{field_number-decimal}

-- the records of a text of records
records_of_text : (rs : List Fields) → records default_config (csv_text rs) ≡ map read_back rs
records_of_text [] = records-end default_config 1
records_of_text (r ∷ rs) =
    let first : Read = (read_back r, st.StartRecord, csv_text rs) in
    records-more default_config st.StartRecord (csv_text (r ∷ rs)) first (read-write r (csv_text rs))
    ∙ ap (λ (more : List Fields). read_back r ∷ more) (records_of_text rs)

-- the state of a written record is read
contact_of_text : (contact : Contact) → contact_of (contact_text contact) ≡ Some contact
contact_of_text Make = refl
contact_of_text Brk = refl
contact_of_text Close = refl

-- the row of a written record
row_of_written : (n : ℕ) (row : LoopRow) → IsLawfulRow row
    → row_of_fields n (three_fields (read_back (fields_of_row row))) ≡ Ok row
row_of_written n row h =
    let short = at_most_a_day row.contact row.ms h.1 in
    let line = field_number-decimal LINE_DIGITS row.line (omega arith) (omega arith) (omega arith) in
    let ms = field_number-decimal MS_DIGITS row.ms (omega arith) (omega arith) (omega arith) in
    rw (line, contact_of_text row.contact, ms, h.1) refl

-- the rows of written records
rows_of_written : (n : ℕ) (rows : List LoopRow) → AreRows rows → n + length rows ≤ MOST_RECORDS + 1
    → rest_from MOST_RECORDS n (map read_back (map fields_of_row rows)) ≡ rows_and_stop rows None
rows_of_written n [] h few = rest_from-none MOST_RECORDS n [] refl
rows_of_written n (row ∷ rows) h few =
    rest_from-more MOST_RECORDS n _ _ _ (Ok row) refl (omega arith) (sym (row_of_written n row (All-head IsLawfulRow row rows h)))
    ∙ ap (row_and_rest (Ok row)) (rows_of_written (n + 1) rows (All-tail IsLawfulRow row rows h) (omega arith))

-- a text that begins with the header begins with no byte order mark
no_mark : (rows : List LoopRow) → strip_bom (text_of_rows rows) ≡ text_of_rows rows
unfolding strip_bom
no_mark rows = refl

-- rows that are written are read as they were
pub written_rows_are_read : WrittenRowsAreRead
written_rows_are_read rows h few =
    let fields = header ∷ map fields_of_row rows in
    ap (rest_of_records MOST_RECORDS) (ap (records default_config) (no_mark rows ∙ written_rows_are_csv rows h) ∙ records_of_text fields)
    ∙ rows_of_written 1 rows h (omega arith)
