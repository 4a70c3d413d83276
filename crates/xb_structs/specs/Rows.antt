-- The rows that plain numbers say.
use Rattle.std.specs.Prelude.{ℕ, ◌==◌, nat_lt, if◌then◌else◌, Option, Some, None, Result, Ok, Err}
use Rattle.xb_model.specs.declared.line.TheConstants.{LINES}
use Rattle.xb_model.specs.declared.row.Contact.{Contact}
use Rattle.xb_model.specs.declared.row.Contact.TheVariants.{Make, Brk, Close}
use Rattle.xb_model.specs.Rows.{LoopRow, may_last, row_of}
use Rattle.xb_structs.specs.declared.refusal.Refusal.{Refusal}
use Rattle.xb_structs.specs.declared.refusal.Refusal.TheVariants as refusal
use Rattle.xb_structs.specs.declared.row.PlainRow.{PlainRow}

-- the line of a number
abbrev pub line_in : ℕ → Option ℕ
line_in number = if nat_lt number LINES then Some number else None

-- what a loop does, by the letter M, B or C
abbrev pub contact_in : ℕ → Option Contact
contact_in letter = if letter == 77 then Some Make else (if letter == 66 then Some Brk else (
    if letter == 67 then Some Close else None))

abbrev pub timed : ℕ → Contact → ℕ → Result LoopRow Refusal
timed line contact ms = if may_last contact ms then Ok (row_of line contact ms) else Err refusal.Ms

abbrev pub lettered : ℕ → Option Contact → ℕ → Result LoopRow Refusal
lettered line None ms = Err refusal.State
lettered line (Some contact) ms = timed line contact ms

-- the row that three numbers say, or the first of them that is wrong
abbrev pub row_in : PlainRow → Result LoopRow Refusal
row_in row = if nat_lt row.line LINES then lettered row.line (contact_in row.state) row.ms else Err refusal.Line
