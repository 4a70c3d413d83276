-- What comes of an attempt, by its digits.
use Rattle.std.specs.Prelude.{ℕ, List, map, length, Bool, Option, is_none, is_some}
use Rattle.std.specs.List.{list_any}
use Rattle.xb_model.specs.declared.dialled.Dialled.{Dialled}
use Rattle.xb_model.specs.declared.dialled.Dialled.TheVariants.{Refused}
use Rattle.xb_model.specs.declared.plan.Plan.{Plan}
use Rattle.xb_model.specs.declared.reason.Reason.{Reason}
use Rattle.xb_model.specs.Numbers.{before_mutilated, digit_of_count, or_refused, shortest_complete, without_number}
use Rattle.xb_heard.specs.Digits.{DigitOfRuns}
use Rattle.xb_heard.specs.Faults.{breaks_among}

-- the digit of a train; none where the train is spoiled
abbrev pub value_of : DigitOfRuns → Option ℕ
value_of digit = digit_of_count (breaks_among digit.pulses) (is_some digit.spoiler)

abbrev pub values_of : List DigitOfRuns → List (Option ℕ)
values_of digits = map value_of digits

-- a refusal, with the count of good digits
abbrev pub refused : Reason → List ℕ → Dialled
refused reason good = Refused reason (length good)

-- the first digits that are a complete number, or why there is none
abbrev pub outcome_by : Plan → Bool → List (Option ℕ) → Dialled
outcome_by plan timed values =
    or_refused (shortest_complete plan (before_mutilated values))
    (without_number (list_any is_none values) timed (length (before_mutilated values)))
