-- The JSON objects of attempts.
use Rattle.std.specs.Prelude.{ℕ, ◌+◌, ◌-◌, ◌^◌, min, List, [], ◌∷◌, ◌++◌, codes, length, Bool, Option, Some, None}
use Rattle.serde_json.specs.Data.{Data, array, boolean, member, no_members, null, number, object, string, unsigned}
use Rattle.serde_json.specs.View.{items_of}
use Rattle.serde_json.specs.Written.{compact_text}
use Rattle.xb_json.specs.Keys.{digits_text}
use Rattle.xb_model.specs.declared.dialled.Dialled.{Dialled}
use Rattle.xb_model.specs.declared.dialled.Dialled.TheVariants as dialled
use Rattle.xb_model.specs.declared.limits.Limits.{Limits}
use Rattle.xb_model.specs.Page.{reason_text}
use Rattle.xb_heard.specs.declared.fault.Spoiler.{Spoiler}
use Rattle.xb_heard.specs.declared.figures.Extent.{Extent}
use Rattle.xb_heard.specs.declared.figures.Times.{Times}
use Rattle.xb_heard.specs.declared.row.DigitRow.{DigitRow}
use Rattle.xb_heard.specs.declared.run.PlacedRun.{PlacedRun}
use Rattle.xb_heard.specs.Attempts.{AttemptOfRuns}
use Rattle.xb_heard.specs.DigitRows.{row_of}
use Rattle.xb_heard.specs.Digits.{DigitOfRuns}
use Rattle.xb_heard.specs.Figures.{times_of, whole_periods}
use Rattle.xb_report.specs.Words.{fault_name, is_taken, limit_of}

-- a count; it stops at 2^64 - 1
abbrev pub count_value : ℕ → Data
count_value n = number (unsigned (min n (2 ^ 64 - 1)))

-- what is there, or null
abbrev pub or_null : {A : Type 0} → (A → Data) → Option A → Data
or_null value_of None = null
or_null value_of (Some item) = value_of item

-- the text line in which a run begins, where so many stand before the first record
abbrev pub text_line : Option ℕ → PlacedRun → Data
text_line before run = or_null (λ lines. count_value (lines + run.first_record)) before

-- when a run begins, in ms from the line's first record, in which record, and how long it is
abbrev pub run_object : Option ℕ → PlacedRun → Data
run_object before run = object
    (member (codes "from_ms") (number (unsigned run.start))
    (member (codes "ms") (number (unsigned run.ms))
    (member (codes "record") (number (unsigned run.first_record))
    (member (codes "text_line") (text_line before run) no_members))))

-- the shortest and the longest, in ms
abbrev pub extent_object : Extent → Data
extent_object extent = object
    (member (codes "least") (number (unsigned extent.least))
    (member (codes "most") (number (unsigned extent.most)) no_members))

-- how many breaks, how long they are, and how long all is
abbrev pub times_object : Times → Data
times_object times = object
    (member (codes "count") (number (unsigned times.breaks))
    (member (codes "ms") (count_value times.all_ms)
    (member (codes "open_ms") (count_value times.open_ms) no_members)))

-- what spoils a digit, and where
abbrev pub fault_object : Option ℕ → Limits → Spoiler → Data
fault_object before limits spoiler = object
    (member (codes "from_ms") (number (unsigned spoiler.run.start))
    (member (codes "kind") (string (fault_name spoiler.fault))
    (member (codes "limit") (number (unsigned (limit_of limits spoiler.fault)))
    (member (codes "ms") (number (unsigned spoiler.run.ms))
    (member (codes "record") (number (unsigned spoiler.run.first_record))
    (member (codes "text_line") (text_line before spoiler.run) no_members))))))

-- a digit that the register took, or did not, by its row, with what has an object of its own
abbrev pub digit_of_parts : Bool → DigitRow → Data → Data → Data → Data → Data
digit_of_parts taken row breaks fault makes periods = object
    (member (codes "breaks_ms") breaks
    (member (codes "digit") (or_null (λ digit. number (unsigned digit)) row.name)
    (member (codes "fault") fault
    (member (codes "makes_ms") makes
    (member (codes "open_permille") (or_null count_value row.share)
    (member (codes "pause_ms") (number (unsigned row.pause))
    (member (codes "periods") periods
    (member (codes "pulses") (number (unsigned row.pulses))
    (member (codes "speed_tenths") (or_null count_value row.speed)
    (member (codes "taken") (boolean taken) no_members))))))))))

-- and with its whole periods, of which the last break is none
abbrev pub object_of_row : Option ℕ → Limits → Bool → DigitRow → Times → Option Spoiler → Data
object_of_row before limits taken row periods spoiler =
    digit_of_parts taken row (or_null extent_object row.breaks) (or_null (fault_object before limits) spoiler)
    (or_null extent_object row.makes) (times_object periods)

abbrev pub digit_object : Option ℕ → Limits → Bool → DigitOfRuns → Data
digit_object before limits taken digit =
    object_of_row before limits taken (row_of taken digit) (times_of (whole_periods digit.pulses)) digit.spoiler

-- the digits of an attempt with this outcome, from digit k on
abbrev pub digits_from : Option ℕ → Limits → Dialled → ℕ → List DigitOfRuns → List Data
digits_from before limits outcome k [] = []
digits_from before limits outcome k (digit ∷ digits) =
    digit_object before limits (is_taken outcome k) digit ∷ digits_from before limits outcome (k + 1) digits

-- what came of an attempt: its number, or why there is none, and how many good digits were heard
abbrev pub outcome_name : Dialled → List ℕ
outcome_name (dialled.Number digits) = codes "NUMBER"
outcome_name (dialled.Refused reason heard) = codes "REFUSED"

abbrev pub number_in : Dialled → Data
number_in (dialled.Number digits) = string (digits_text digits)
number_in (dialled.Refused reason heard) = null

abbrev pub reason_in : Dialled → Data
reason_in (dialled.Number digits) = null
reason_in (dialled.Refused reason heard) = string (reason_text reason)

abbrev pub heard_in : Dialled → ℕ
heard_in (dialled.Number digits) = length digits
heard_in (dialled.Refused reason heard) = heard

-- the first of runs, or null
abbrev pub first_run : Option ℕ → List PlacedRun → Data
first_run before [] = null
first_run before (run ∷ rest) = run_object before run

-- how an attempt ended: the break that hung up, the make after which nothing is heard, the first of the pulses that no
-- pause ended, and how many they are
abbrev pub end_of_parts : ℕ → Data → Data → Data → Data
end_of_parts pulses released timeout unfinished = object
    (member (codes "released") released
    (member (codes "timeout") timeout
    (member (codes "unfinished") unfinished
    (member (codes "unfinished_pulses") (number (unsigned pulses)) no_members))))

abbrev pub end_object : Option ℕ → AttemptOfRuns → Data
end_object before attempt =
    end_of_parts (times_of attempt.unfinished).breaks (or_null (run_object before) attempt.release)
    (or_null (run_object before) attempt.timeout) (first_run before attempt.unfinished)

-- attempt n of a line: the make with which it begins, its digits, how it ended, and what came of it
abbrev pub attempt_of_parts : ℕ → ℕ → Dialled → Data → Data → Data → Data
attempt_of_parts line n outcome begins digits end = object
    (member (codes "attempt") (number (unsigned n))
    (member (codes "begins") begins
    (member (codes "digits") digits
    (member (codes "end") end
    (member (codes "heard") (number (unsigned (heard_in outcome)))
    (member (codes "line") (number (unsigned line))
    (member (codes "number") (number_in outcome)
    (member (codes "outcome") (string (outcome_name outcome))
    (member (codes "reason") (reason_in outcome) no_members)))))))))

abbrev pub attempt_object : Option ℕ → Limits → ℕ → ℕ → AttemptOfRuns → Data
attempt_object before limits line n attempt =
    attempt_of_parts line n attempt.outcome (first_run before attempt.runs)
    (array (items_of (digits_from before limits attempt.outcome 0 attempt.digits))) (end_object before attempt)

-- the objects of the attempts of a line, from attempt n on, each a text line
abbrev pub objects_from : Option ℕ → Limits → ℕ → ℕ → List AttemptOfRuns → List ℕ
objects_from before limits line n [] = []
objects_from before limits line n (attempt ∷ attempts) =
    (compact_text (attempt_object before limits line n attempt) ++ codes "\n")
    ++ objects_from before limits line (n + 1) attempts
