-- The text of a report: ASCII, each line ended by one LF.
use Rattle.std.specs.Prelude.{ℕ, ◌+◌, ◌==◌, List, [], ◌∷◌, ◌++◌, codes, decimal, length, if◌then◌else◌, Option, Some, None}
use Rattle.xb_model.specs.declared.dialled.Dialled.{Dialled}
use Rattle.xb_model.specs.declared.limits.Limits.{Limits}
use Rattle.xb_model.specs.Page.{four_digits}
use Rattle.xb_heard.specs.declared.fault.Spoiler.{Spoiler}
use Rattle.xb_heard.specs.declared.run.PlacedRun.{PlacedRun}
use Rattle.xb_heard.specs.declared.row.DigitRow.{DigitRow}
use Rattle.xb_heard.specs.declared.row.Remark.{Remark}
use Rattle.xb_heard.specs.declared.row.Remark.TheVariants as remark
use Rattle.xb_heard.specs.Attempts.{AttemptOfRuns}
use Rattle.xb_heard.specs.Digits.{DigitOfRuns}
use Rattle.xb_heard.specs.DigitRows.{row_of}
use Rattle.xb_heard.specs.Figures.{times_of}
use Rattle.xb_report.specs.Cells.{cells_text, extent_text, gap, place_text, tenths_or_dash}
use Rattle.xb_report.specs.Words.{fault_with, is_taken, is_timed_out, outcome_text}

-- the first line: the limits
abbrev pub limits_text : Limits → List ℕ
limits_text limits =
    codes "limits in ms: break " ++ decimal limits.pulse_min ++ codes " to " ++ decimal limits.pulse_max
    ++ codes ", make from " ++ decimal limits.make_min ++ codes ", pause from " ++ decimal limits.pause
    ++ codes ", release from " ++ decimal limits.release
    ++ codes ", time-out from " ++ decimal limits.timeout ++ codes "\n"

-- the digit that is heard, or x where it is spoiled
abbrev pub name_text : Option ℕ → List ℕ
name_text None = codes "x"
name_text (Some digit) = decimal digit

-- what spoils a digit, and where, with these signs for less and for more
abbrev pub spoiler_with : List ℕ → List ℕ → Limits → Spoiler → List ℕ
spoiler_with less more limits spoiler =
    fault_with less more limits spoiler.fault spoiler.run.ms ++ codes " at " ++ place_text spoiler.run

abbrev pub spoiler_text : Limits → Spoiler → List ℕ
spoiler_text limits spoiler = spoiler_with (codes "<") (codes ">") limits spoiler

-- what is said of a digit after its figures
abbrev pub remark_text : Limits → Remark → List ℕ
remark_text limits remark.Good = []
remark_text limits (remark.Spoiled spoiler) = gap ++ spoiler_text limits spoiler
remark_text limits (remark.Ignored None) = gap ++ codes "ignored"
remark_text limits (remark.Ignored (Some spoiler)) = gap ++ codes "ignored; " ++ spoiler_text limits spoiler

-- how wide the columns are, at the least
abbrev pub widths : List ℕ
widths = 5 ∷ 6 ∷ 5 ∷ 7 ∷ 8 ∷ 8 ∷ 8 ∷ []

abbrev pub columns_text : List ℕ
columns_text =
    cells_text widths (codes "digit" ∷ codes "pulses" ∷ codes "p/s" ∷ codes "% break" ∷ codes "break ms"
    ∷ codes "make ms" ∷ codes "pause ms" ∷ [])
    ++ codes "\n"

-- the figures of a digit, one for each column
abbrev pub figures_text : DigitRow → List ℕ
figures_text row =
    cells_text widths (name_text row.name ∷ decimal row.pulses ∷ tenths_or_dash row.speed
    ∷ tenths_or_dash row.share ∷ extent_text row.breaks ∷ extent_text row.makes ∷ decimal row.pause ∷ [])

-- the line of a digit
abbrev pub digit_text : Limits → DigitRow → List ℕ
digit_text limits row = figures_text row ++ remark_text limits row.remark ++ codes "\n"

-- the lines of the digits of an attempt, from digit k on
abbrev pub digits_from : Limits → Dialled → ℕ → List DigitOfRuns → List ℕ
digits_from limits outcome k [] = []
digits_from limits outcome k (digit ∷ digits) =
    digit_text limits (row_of (is_taken outcome k) digit) ++ digits_from limits outcome (k + 1) digits

-- the table of the digits, where there are any
abbrev pub table_text : Limits → Dialled → List DigitOfRuns → List ℕ
table_text limits outcome digits =
    if length digits == 0 then [] else columns_text ++ digits_from limits outcome 0 digits

-- so many pulses after the last digit, from a run on
abbrev pub pulses_text : ℕ → PlacedRun → List ℕ
pulses_text count run =
    codes "  pulses that no pause ended: " ++ decimal count ++ codes ", from " ++ place_text run ++ codes "\n"

-- the pulses after the last digit, where there are any
abbrev pub unfinished_text : List PlacedRun → List ℕ
unfinished_text [] = []
unfinished_text (run ∷ rest) = pulses_text (times_of (run ∷ rest)).breaks run

-- the make after which nothing is heard; it is no fault where the attempt was not refused for it
abbrev pub timeout_text : Dialled → Option PlacedRun → List ℕ
timeout_text outcome None = []
timeout_text outcome (Some run) =
    (if is_timed_out outcome then codes "  timed out by a make of "
    else codes "  nothing more is heard after a make of ")
    ++ decimal run.ms ++ codes " ms at " ++ place_text run ++ codes "\n"

-- how the attempt ended
abbrev pub release_text : Option PlacedRun → List ℕ
release_text None = codes "  the record ends\n"
release_text (Some run) =
    codes "  hung up for " ++ decimal run.ms ++ codes " ms at " ++ place_text run ++ codes "\n"

-- where an attempt begins
abbrev pub front_text : List PlacedRun → List ℕ
front_text [] = []
front_text (run ∷ rest) = codes " from " ++ place_text run

-- the first line of attempt n of a line
abbrev pub heading_text : ℕ → ℕ → List PlacedRun → Dialled → List ℕ
heading_text line n runs outcome =
    codes "\nline " ++ four_digits line ++ codes ", attempt " ++ decimal n ++ front_text runs ++ codes ": "
    ++ outcome_text outcome ++ codes "\n"

-- attempt n of a line, and what came of it
abbrev pub attempt_text : Limits → ℕ → ℕ → AttemptOfRuns → List ℕ
attempt_text limits line n attempt =
    heading_text line n attempt.runs attempt.outcome ++ table_text limits attempt.outcome attempt.digits
    ++ unfinished_text attempt.unfinished ++ timeout_text attempt.outcome attempt.timeout
    ++ release_text attempt.release

-- the attempts of a line, from attempt n on
abbrev pub attempts_from : Limits → ℕ → ℕ → List AttemptOfRuns → List ℕ
attempts_from limits line n [] = []
attempts_from limits line n (attempt ∷ attempts) =
    attempt_text limits line n attempt ++ attempts_from limits line (n + 1) attempts
