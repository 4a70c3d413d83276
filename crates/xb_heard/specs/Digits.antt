-- The digits of an attempt, as they were heard.
use Rattle.std.specs.Prelude.{List, [], ◌∷◌, ◌++◌, map, Option, Some, None}
use Rattle.xb_model.specs.declared.limits.Limits.{Limits}
use Rattle.xb_model.specs.Records.{Train}
use Rattle.xb_heard.specs.declared.run.PlacedRun.{PlacedRun}
use Rattle.xb_heard.specs.declared.parts.Cut.TheVariants.{AtPauses}
use Rattle.xb_heard.specs.declared.digit.HeardDigit.{HeardDigit}
use Rattle.xb_heard.specs.declared.fault.Spoiler.{Spoiler}
use Rattle.xb_heard.specs.PlacedRuns.{run_in}
use Rattle.xb_heard.specs.Parts.{RunsPart, parts_of, heard_placed, without_front}
use Rattle.xb_heard.specs.Faults.{first_spoiler}

-- the train of a digit, the make that ends it, and what spoils it
pub record DigitOfRuns : Type 0 where
  pub pulses : List PlacedRun
  pub pause : PlacedRun
  pub spoiler : Option Spoiler

abbrev pub digit_by : Limits → List PlacedRun → PlacedRun → DigitOfRuns
digit_by limits pulses pause =
    record { pulses = pulses; pause = pause; spoiler = first_spoiler limits 0 pulses }

-- what a digit in the code says
abbrev pub digit_in : HeardDigit → DigitOfRuns
digit_in digit = record { pulses = digit.pulses.now; pause = digit.pause; spoiler = digit.spoiler }

-- a part that a pause ends is a digit; one that no pause ends is the last, and none
abbrev pub onto_digits : Limits → List PlacedRun → Option PlacedRun → List DigitOfRuns → List DigitOfRuns
onto_digits limits pulses None digits = []
onto_digits limits pulses (Some pause) digits = digit_by limits pulses pause ∷ digits

abbrev pub digits_of_parts : Limits → List RunsPart → List DigitOfRuns
digits_of_parts limits [] = []
digits_of_parts limits (part ∷ parts) =
    onto_digits limits part.inner part.last (digits_of_parts limits parts)

-- the digits of an attempt: what is heard after its first make, cut at the pauses
abbrev pub digits_of : Limits → List PlacedRun → List DigitOfRuns
digits_of limits runs =
    digits_of_parts limits (parts_of limits AtPauses (without_front (heard_placed limits runs)))

-- the train of a digit
abbrev pub train_in : DigitOfRuns → Train
train_in digit = record { inner = map run_in digit.pulses; last = run_in digit.pause }

-- the runs of a digit: its pulses, and the make that ends it
abbrev pub runs_in_digit : DigitOfRuns → List PlacedRun
runs_in_digit digit = digit.pulses ++ digit.pause ∷ []

-- the pulses of a part that no pause ends
abbrev pub unless_ended : List PlacedRun → Option PlacedRun → List PlacedRun → List PlacedRun
unless_ended pulses None later = pulses
unless_ended pulses (Some pause) later = later

abbrev pub unfinished_of_parts : List RunsPart → List PlacedRun
unfinished_of_parts [] = []
unfinished_of_parts (part ∷ parts) = unless_ended part.inner part.last (unfinished_of_parts parts)

-- what is heard of an attempt after its first make and its last pause
abbrev pub unfinished_of : Limits → List PlacedRun → List PlacedRun
unfinished_of limits runs =
    unfinished_of_parts (parts_of limits AtPauses (without_front (heard_placed limits runs)))
