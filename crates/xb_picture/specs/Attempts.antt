-- What a picture says of an attempt.
use Rattle.std.specs.Prelude.{ℕ, ◌-◌, List, [], ◌∷◌, ◌++◌, codes, decimal, length, nat_lt, take, if◌then◌else◌, Option, Some, None}
use Rattle.xb_model.specs.declared.dialled.Dialled.{Dialled}
use Rattle.xb_model.specs.declared.limits.Limits.{Limits}
use Rattle.xb_heard.specs.declared.run.PlacedRun.{PlacedRun}
use Rattle.xb_heard.specs.Attempts.{AttemptOfRuns}
use Rattle.xb_heard.specs.Digits.{DigitOfRuns}
use Rattle.xb_heard.specs.Figures.{times_of}
use Rattle.xb_report.specs.Cells.{place_text}
use Rattle.xb_report.specs.Words.{outcome_text}
use Rattle.xb_picture.specs.declared.attempt.TheConstants.{MOST_DIGITS}
use Rattle.xb_picture.specs.Digits.{digits_words, make_words, time_text}

-- where an attempt begins, and how long its first make is
abbrev pub front_words : List PlacedRun → List (List ℕ)
front_words [] = []
front_words (run ∷ rest) = (codes "from " ++ place_text run) ∷ [] ++ make_words run.ms

-- the digits, the first of them; of others, how many there are
abbrev pub more_words : ℕ → List (List ℕ)
more_words n = if nat_lt 0 n then (decimal n ++ codes " more digits are not drawn") ∷ [] else []

abbrev pub table_words : Limits → Dialled → List DigitOfRuns → List (List ℕ)
table_words limits outcome digits =
    digits_words limits outcome 0 (take MOST_DIGITS digits) ++ more_words (length digits - MOST_DIGITS)

-- the pulses that no pause ended, where there are any
abbrev pub unended_words : List PlacedRun → List (List ℕ)
unended_words [] = []
unended_words (run ∷ rest) = (decimal (times_of (run ∷ rest)).breaks ++ codes " not ended") ∷ []

-- the break that hangs up
abbrev pub release_words : Option PlacedRun → List (List ℕ)
release_words None = []
release_words (Some run) = time_text run.ms ∷ []

-- attempt n of a line, and what came of it
abbrev pub attempt_words : Limits → ℕ → AttemptOfRuns → List (List ℕ)
attempt_words limits n attempt =
    (codes "attempt " ++ decimal n) ∷ outcome_text attempt.outcome ∷ [] ++ front_words attempt.runs
    ++ table_words limits attempt.outcome attempt.digits ++ unended_words attempt.unfinished
    ++ release_words attempt.release
