-- What stands between the fields of a text line: a comma, or what a spreadsheet writes in its place.
use Rattle.std.specs.Prelude.{ℕ, ◌==◌, not, List, map, Bool, true, false, if◌then◌else◌, Option, Some, None, is_some}
use Rattle.xb_findings.specs.declared.finding.What.{What}
use Rattle.xb_findings.specs.declared.finding.What.TheVariants as what
use Rattle.xb_findings.specs.declared.records.Record.{Record}
use Rattle.xb_findings.specs.declared.records.Record.TheVariants as read
use Rattle.xb_findings.specs.declared.separators.Separator.{Separator}
use Rattle.xb_findings.specs.declared.separators.Separator.TheVariants as between
use Rattle.xb_findings.specs.Records.{record_of_line, wrong_header}

-- what is said of fields that are separated so
abbrev pub what_of_separator : Separator → Option What
what_of_separator between.Comma = None
what_of_separator between.Semicolon = Some what.Semicolons
what_of_separator between.Tab = Some what.Tabs

abbrev pub is_other : Separator → Bool
is_other between.Comma = false
is_other between.Semicolon = true
is_other between.Tab = true

-- a text line with a comma in place of each such byte
abbrev pub comma_for : ℕ → ℕ → ℕ
comma_for separator byte = if byte == separator then 44 else byte

abbrev pub with_commas : ℕ → List ℕ → List ℕ
with_commas separator line = map (comma_for separator) line

-- the first of commas, semicolons and tabs by which a text line can be read, and else commas
abbrev pub first_of : Bool → Bool → Bool → Separator
first_of commas semicolons tabs =
    if commas then between.Comma
    else if semicolons then between.Semicolon
    else if tabs then between.Tab
    else between.Comma

abbrev pub lacks_fields : What → Bool
lacks_fields what.Fields = true
lacks_fields wrong = false

-- a record of three fields, right or wrong, or none since nothing is written
abbrev pub is_whole : Record → Bool
is_whole (read.Row row) = true
is_whole (read.Wrong wrong) = not (lacks_fields wrong)
is_whole read.Empty = true

-- a text line after the header, read as a record by what stands between its fields
abbrev pub record_by : Separator → List ℕ → Record
record_by between.Comma line = record_of_line line
record_by between.Semicolon line = record_of_line (with_commas 59 line)
record_by between.Tab line = record_of_line (with_commas 9 line)

unfoldable pub separator_of : List ℕ → Separator
separator_of line = first_of (is_whole (record_by between.Comma line)) (is_whole (record_by between.Semicolon line))
    (is_whole (record_by between.Tab line))

unfoldable pub record_in : List ℕ → Record
record_in line = record_by (separator_of line) line

-- the same of the header
abbrev pub is_header_line : List ℕ → Bool
is_header_line line = not (is_some (wrong_header line))

unfoldable pub separator_of_header : List ℕ → Separator
separator_of_header line =
    first_of (is_header_line line) (is_header_line (with_commas 59 line)) (is_header_line (with_commas 9 line))

abbrev pub or_what : Option What → Option What → Option What
or_what (Some wrong) other = Some wrong
or_what None other = other

-- what is said of a text line of which this is wrong: what stands between its fields comes first, unless it was told
-- of an earlier one
abbrev pub what_of_line : Bool → Separator → Option What → Option What
what_of_line told separator wrong = if told then wrong else or_what (what_of_separator separator) wrong
