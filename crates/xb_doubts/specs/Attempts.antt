-- The attempts of the lines of a deck, by the digits that are dialled in them.
use Rattle.std.specs.Prelude.{ℕ, ◌&&◌, not, nat_le, nat_lt, List, [], ◌∷◌, Bool, true, false, count_by}
use Rattle.std.specs.List.{list_any, sum_by}
use Rattle.xb_model.specs.declared.limits.Limits.{Limits}
use Rattle.xb_model.specs.declared.line.TheConstants.{LINES}
use Rattle.xb_model.specs.declared.signal.TheConstants.{MOST_PULSES}
use Rattle.xb_model.specs.Lines.{lines_below}
use Rattle.xb_model.specs.Records.{Attempt, Run, Train, attempts_of, is_make, record_of, trains_of}
use Rattle.xb_model.specs.Rows.{LoopRow}
use Rattle.xb_model.specs.Signals.{breaks_in, is_bad_train}
use Rattle.xb_doubts.specs.declared.counted.TheConstants.{LEAST_DIGITS, LEAST_PULSES, RINGING_MS}

abbrev pub has_trains : List Train → Bool
has_trains [] = false
has_trains (train ∷ trains) = true

-- an attempt in which a digit is dialled
abbrev pub has_digit : Limits → Attempt → Bool
has_digit limits attempt = has_trains (trains_of limits attempt.runs)

-- a digit that no pulse spoils
abbrev pub is_whole : Limits → Train → Bool
is_whole limits train = not (is_bad_train limits train)

-- an attempt in which such a digit is dialled
abbrev pub has_whole_digit : Limits → Attempt → Bool
has_whole_digit limits attempt = list_any (is_whole limits) (trains_of limits attempt.runs)

-- such a digit of two to ten pulses, so that no single contact makes it
abbrev pub is_clear : Limits → Train → Bool
is_clear limits train =
    is_whole limits train && (nat_le LEAST_PULSES (breaks_in train) && nat_le (breaks_in train) MOST_PULSES)

-- an attempt in which three or more of these are dialled
abbrev pub has_number : Limits → Attempt → Bool
has_number limits attempt = nat_le LEAST_DIGITS (count_by (is_clear limits) (trains_of limits attempt.runs))

-- a make as short as those of ringing
abbrev pub is_short_make : Run → Bool
is_short_make run = is_make run && nat_lt run.ms RINGING_MS

abbrev pub begins_short : List Run → Bool
begins_short [] = false
begins_short (run ∷ runs) = is_short_make run

-- an attempt as ringing makes it: it begins with a make of under 100 ms, and has no digit
abbrev pub is_ring : Limits → Attempt → Bool
is_ring limits attempt = begins_short attempt.runs && not (has_digit limits attempt)

-- the attempts on line l
abbrev pub attempts_on : Limits → List LoopRow → ℕ → List Attempt
attempts_on limits rows l = attempts_of limits (record_of l rows)

-- on some line a digit is dialled
abbrev pub dials : Limits → List LoopRow → Bool
dials limits rows = list_any (λ l. list_any (has_digit limits) (attempts_on limits rows l)) (lines_below LINES)

-- on some line a digit is dialled that no pulse spoils
abbrev pub dials_whole : Limits → List LoopRow → Bool
dials_whole limits rows =
    list_any (λ l. list_any (has_whole_digit limits) (attempts_on limits rows l)) (lines_below LINES)

-- how many attempts of all lines are as ringing makes them
abbrev pub rings : Limits → List LoopRow → ℕ
rings limits rows = sum_by (λ l. count_by (is_ring limits) (attempts_on limits rows l)) (lines_below LINES)
