-- What is suspicious on each line of the office.
use Rattle.std.specs.Prelude.{ℕ, ◌&&◌, ◌==◌, not, nat_lt, List, Bool, false, if◌then◌else◌, slice_index_or}
use Rattle.std.specs.List.{filter, list_any}
use Rattle.xb_model.specs.declared.limits.Limits.{Limits}
use Rattle.xb_model.specs.declared.line.TheConstants.{LINES}
use Rattle.xb_model.specs.Records.{Run, attempts_of, is_make, record_of}
use Rattle.xb_model.specs.Rows.{LoopRow}
use Rattle.xb_doubts.specs.declared.lines.Told.{Told}
use Rattle.xb_doubts.specs.Attempts.{has_number}
use Rattle.xb_doubts.specs.Exchanged.{dial_limits, exchanged_rows}

-- in a record of a line three clear digits are dialled in an attempt
abbrev pub calls_in : Limits → List Run → Bool
calls_in limits record_ = list_any (has_number limits) (attempts_of limits record_)

-- the line is quiet where no make of its record is heard; its makes and breaks look exchanged where three clear digits are
-- dialled once they are exchanged, of pulses that are no bell's, and not as they are
abbrev pub told_of_records : Limits → List Run → List Run → Told
told_of_records limits record_ exchanged = record {
  is_quiet = not (list_any is_make record_);
  is_exchanged = not (calls_in limits record_) && calls_in (dial_limits limits) exchanged;
}

abbrev pub nothing_told : Told
nothing_told = record { is_quiet = false; is_exchanged = false }

-- of each line
abbrev pub OfLines : Type 0
OfLines = ℕ → Told

-- what is told of the lines of the office below one, by the rows of all
abbrev pub told_below : Limits → List LoopRow → ℕ → OfLines
told_below limits rows n l =
    if nat_lt l n then told_of_records limits (record_of l rows) (record_of l (exchanged_rows rows)) else nothing_told

-- and of all its lines
abbrev pub told_in : Limits → List LoopRow → OfLines
told_in limits rows = told_below limits rows LINES

-- the same of a list with a value for each line of the office
abbrev pub told_by : List Told → OfLines
told_by lines l = slice_index_or lines l nothing_told

abbrev pub nothing_told_of_any : OfLines
nothing_told_of_any l = nothing_told

-- of the line of this number, if the office has one
abbrev pub told_of_number : OfLines → ℕ → Told
told_of_number told number = if nat_lt number LINES then told number else nothing_told

-- of each line, of one of which this is told
abbrev pub told_at : ℕ → Told → OfLines → OfLines
told_at k told others l = if l == k then told else others l

-- the rows of the lines that do not look exchanged
abbrev pub rows_of_others : OfLines → List LoopRow → List LoopRow
rows_of_others told rows = filter (λ row. not (told row.line).is_exchanged) rows

abbrev pub straight_rows : Limits → List LoopRow → List LoopRow
straight_rows limits rows = rows_of_others (told_in limits rows) rows
