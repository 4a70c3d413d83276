-- What a picture says of a digit.
use Rattle.std.specs.Prelude.{ℕ, ◌+◌, List, [], ◌∷◌, ◌++◌, Bool, true, false, codes, decimal, is_some, if◌then◌else◌, nat_le, Option, Some, None}
use Rattle.xb_model.specs.declared.dialled.Dialled.{Dialled}
use Rattle.xb_model.specs.declared.limits.Limits.{Limits}
use Rattle.xb_heard.specs.declared.fault.Spoiler.{Spoiler}
use Rattle.xb_heard.specs.declared.run.PlacedRun.{PlacedRun}
use Rattle.xb_heard.specs.Digits.{DigitOfRuns}
use Rattle.xb_heard.specs.Faults.{fault_at, one_if_break}
use Rattle.xb_heard.specs.declared.row.DigitRow.{DigitRow}
use Rattle.xb_heard.specs.declared.row.Remark.{Remark}
use Rattle.xb_heard.specs.declared.row.Remark.TheVariants as remark
use Rattle.xb_heard.specs.DigitRows.{row_of}
use Rattle.xb_report.specs.Words.{fault_text, is_taken}
use Rattle.xb_picture.specs.Labels.{record_text, tenths_with}
use Rattle.xb_picture.specs.declared.course.TheConstants.{TRAIN}
use Rattle.xb_picture.specs.declared.figures.TheConstants.{TOLD}
use Rattle.xb_picture.specs.Courses.{fitting}

-- how long a run is
abbrev pub time_text : ℕ → List ℕ
time_text ms = decimal ms ++ codes " ms"

-- a make that is long enough has its time over it
abbrev pub make_words : ℕ → List (List ℕ)
make_words ms = if nat_le TOLD ms then time_text ms ∷ [] else []

-- over a digit: its value, unless it is spoiled
abbrev pub value_words : Option ℕ → List (List ℕ)
value_words None = []
value_words (Some digit) = decimal digit ∷ []

-- a figure in tenths, and its unit, where there is one
abbrev pub tenths_words : Option ℕ → List ℕ → List (List ℕ)
tenths_words None unit = []
tenths_words (Some tenths) unit = tenths_with tenths unit ∷ []

-- under a good digit: its figures
abbrev pub figure_words : DigitRow → List (List ℕ)
figure_words row = tenths_words row.speed (codes "/s") ++ tenths_words row.share (codes " %")

-- the runs that are wrong, where n breaks of the train stand before these
abbrev pub wrong_words : Limits → ℕ → List PlacedRun → List (List ℕ)
wrong_words limits n [] = []
wrong_words limits n (run ∷ rest) =
    (if is_some (fault_at limits (n + one_if_break run.contact) run.contact run.ms) then decimal run.ms ∷ [] else [])
    ++ wrong_words limits (n + one_if_break run.contact) rest

-- under a spoiled digit that the register took, or did not: its first fault, and where
abbrev pub fault_words : Limits → Bool → Spoiler → List (List ℕ)
fault_words limits taken spoiler =
    fault_text limits spoiler.fault spoiler.run.ms ∷ record_text taken spoiler.run.first_record ∷ []

-- the same, and then each run that is wrong
abbrev pub spoiler_words : Limits → List PlacedRun → Bool → Spoiler → List (List ℕ)
spoiler_words limits pulses taken spoiler =
    fault_words limits taken spoiler ++ wrong_words limits 0 (fitting TRAIN pulses)

-- under a digit; a good one that the register did not take has no figures
abbrev pub remark_words : Limits → List PlacedRun → DigitRow → Remark → List (List ℕ)
remark_words limits pulses row remark.Good = figure_words row
remark_words limits pulses row (remark.Spoiled spoiler) = spoiler_words limits pulses true spoiler
remark_words limits pulses row (remark.Ignored None) = []
remark_words limits pulses row (remark.Ignored (Some spoiler)) = spoiler_words limits pulses false spoiler

-- a digit, its row, and its pause
abbrev pub digit_words : Limits → DigitOfRuns → DigitRow → List (List ℕ)
digit_words limits digit row =
    value_words row.name ++ remark_words limits digit.pulses row row.remark ++ make_words digit.pause.ms

-- digits, from digit k on
abbrev pub digits_words : Limits → Dialled → ℕ → List DigitOfRuns → List (List ℕ)
digits_words limits outcome k [] = []
digits_words limits outcome k (digit ∷ digits) =
    digit_words limits digit (row_of (is_taken outcome k) digit) ++ digits_words limits outcome (k + 1) digits
