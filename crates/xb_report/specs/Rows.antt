-- The rows of a line's table, in the words of the report.
use Rattle.std.specs.Prelude.{ℕ, ◌+◌, List, [], ◌∷◌, ◌++◌, codes, decimal, Some, None}
use Rattle.xb_model.specs.declared.dialled.Dialled.{Dialled}
use Rattle.xb_model.specs.declared.limits.Limits.{Limits}
use Rattle.xb_heard.specs.declared.run.PlacedRun.{PlacedRun}
use Rattle.xb_heard.specs.declared.row.DigitRow.{DigitRow}
use Rattle.xb_heard.specs.declared.row.Remark.{Remark}
use Rattle.xb_heard.specs.declared.row.Remark.TheVariants as remark
use Rattle.xb_heard.specs.Attempts.{AttemptOfRuns}
use Rattle.xb_heard.specs.Digits.{DigitOfRuns}
use Rattle.xb_heard.specs.DigitRows.{row_of}
use Rattle.xb_report.specs.Cells.{at_right, extent_text, tenths_or_dash}
use Rattle.xb_report.specs.ReportTexts.{heading_text, name_text, release_text, timeout_text, unfinished_text}
use Rattle.xb_report.specs.Words.{is_taken}
use Rattle.xb_report.specs.Marked.{spoiler_marked}

-- the end of a cell, and the beginning of the next one
abbrev pub next : List ℕ
next = codes "</td><td>"

-- what is said of a digit after its figures
abbrev pub remark_cell : Limits → Remark → List ℕ
remark_cell limits remark.Good = []
remark_cell limits (remark.Spoiled spoiler) = spoiler_marked limits spoiler
remark_cell limits (remark.Ignored None) = codes "ignored"
remark_cell limits (remark.Ignored (Some spoiler)) = codes "ignored; " ++ spoiler_marked limits spoiler

-- the row of a digit: its figures, each in its cell
abbrev pub digit_row : Limits → DigitRow → List ℕ
digit_row limits row =
    codes "<tr><td>" ++ at_right 7 (name_text row.name) ++ next ++ at_right 0 (decimal row.pulses) ++ next
    ++ at_right 0 (tenths_or_dash row.speed) ++ next ++ at_right 0 (tenths_or_dash row.share) ++ next
    ++ at_right 0 (extent_text row.breaks) ++ next ++ at_right 0 (extent_text row.makes) ++ next
    ++ at_right 0 (decimal row.pause) ++ next ++ remark_cell limits row.remark ++ codes "</td></tr>\n"

-- the rows of the digits of an attempt, from digit k on
abbrev pub digit_rows : Limits → Dialled → ℕ → List DigitOfRuns → List ℕ
digit_rows limits outcome k [] = []
digit_rows limits outcome k (digit ∷ digits) =
    digit_row limits (row_of (is_taken outcome k) digit) ++ digit_rows limits outcome (k + 1) digits

-- the first row of attempt n of a line
abbrev pub heading_row : ℕ → ℕ → List PlacedRun → Dialled → List ℕ
heading_row line n runs outcome =
    codes "<tr><th colspan=\"8\">" ++ heading_text line n runs outcome ++ codes "</th></tr>\n"

-- its last row: pulses that no pause ended, the make after which nothing is heard, and how it ended
abbrev pub end_row : AttemptOfRuns → List ℕ
end_row attempt =
    codes "<tr><td colspan=\"8\">" ++ unfinished_text attempt.unfinished
    ++ timeout_text attempt.outcome attempt.timeout ++ release_text attempt.release ++ codes "</td></tr>\n"

-- attempt n of a line, and what came of it
abbrev pub attempt_rows : Limits → ℕ → ℕ → AttemptOfRuns → List ℕ
attempt_rows limits line n attempt =
    heading_row line n attempt.runs attempt.outcome ++ digit_rows limits attempt.outcome 0 attempt.digits
    ++ end_row attempt

-- the attempts of a line, from attempt n on
abbrev pub rows_from : Limits → ℕ → ℕ → List AttemptOfRuns → List ℕ
rows_from limits line n [] = []
rows_from limits line n (attempt ∷ attempts) =
    attempt_rows limits line n attempt ++ rows_from limits line (n + 1) attempts
