-- What is heard in some worked rows, by the standard limits.
use Rattle.std.specs.Prelude.{◌≡◌, ℕ, List, [], ◌∷◌, ◌++◌, map, Option, Some, None}
use Rattle.xb_model.specs.declared.row.Contact.TheVariants.{Make, Brk}
use Rattle.xb_model.specs.declared.plan.Plan.TheVariants.{Seven}
use Rattle.xb_model.specs.LawfulLimits.{standard_limits}
use Rattle.xb_model.specs.Records.{Run, make, break}
use Rattle.xb_model.specs.WorkedRows.{close, pulses, dial, rows_on}
use Rattle.xb_heard.specs.declared.run.PlacedRun.{PlacedRun}
use Rattle.xb_heard.specs.declared.fault.PulseFault.TheVariants.{ShortBreak, LongBreak, ShortMake, TooManyPulses}
use Rattle.xb_heard.specs.declared.fault.Spoiler.{Spoiler}
use Rattle.xb_heard.specs.PlacedRuns.{placed, placed_runs, run_in}
use Rattle.xb_heard.specs.Faults.{spoiler, breaks_among}
use Rattle.xb_heard.specs.Figures.{extent_from, percent_of, speed_of}
use Rattle.xb_heard.specs.Attempts.{AttemptOfRuns, heard_attempts}

-- the attempts of line 7, where rows of line 8 stand before its own
abbrev pub report_of : List Run → List AttemptOfRuns
report_of runs = heard_attempts Seven standard_limits (placed_runs 7 (rows_on 8 (dial 3) ++ rows_on 7 runs))

-- how many pulses each digit has, and what spoils it
abbrev pub digits_told : AttemptOfRuns → List (ℕ × Option Spoiler)
digits_told attempt = map (λ digit. (breaks_among digit.pulses, digit.spoiler)) attempt.digits

abbrev pub Tells : List Run → List (List (ℕ × Option Spoiler)) → Type 0
Tells runs told = map digits_told (report_of runs) ≡ told

-- the pulses of each attempt that no pause ended
abbrev pub Leaves : List Run → List (List Run) → Type 0
Leaves runs left = map (λ attempt. map run_in attempt.unfinished) (report_of runs) ≡ left

-- a break is named with its place: record 7 is the first of line 7
pub record WorkedReports : Type 0 where
  pub good : Tells (make 500 ∷ dial 2 ++ dial 0) (((2, None) ∷ (10, None) ∷ []) ∷ [])
  pub long_break : Tells (make 500 ∷ break 60 ∷ make 40 ∷ break 131 ∷ make 600 ∷ [])
      (((2, Some (spoiler LongBreak (placed Brk 131 600 10))) ∷ []) ∷ [])
  pub split_break : Tells (make 500 ∷ break 60 ∷ break 0 ∷ break 71 ∷ make 600 ∷ [])
      (((1, Some (spoiler LongBreak (placed Brk 131 500 8))) ∷ []) ∷ [])
  pub short_break : Tells (break 900 ∷ make 500 ∷ break 19 ∷ make 600 ∷ [])
      (((1, Some (spoiler ShortBreak (placed Brk 19 1400 9))) ∷ []) ∷ [])
  pub short_make : Tells (make 500 ∷ break 60 ∷ make 14 ∷ break 130 ∷ make 600 ∷ [])
      (((2, Some (spoiler ShortMake (placed Make 14 560 9))) ∷ []) ∷ [])
  pub eleven_pulses : Tells (make 500 ∷ pulses 11 600)
      (((11, Some (spoiler TooManyPulses (placed Brk 60 1500 28))) ∷ []) ∷ [])
  pub at_the_limits : Tells (make 500 ∷ break 20 ∷ make 15 ∷ break 119 ∷ make 180 ∷ [])
      (((2, None) ∷ []) ∷ [])
  pub not_ended : Tells (make 500 ∷ break 60 ∷ make 179 ∷ []) ([] ∷ [])
  pub two_attempts : Tells
      (make 500 ∷ dial 1 ++ break 400 ∷ make 300 ∷ dial 3 ++ break 300 ∷ make 1 ∷ close ∷ dial 4)
      (((1, None) ∷ []) ∷ ((3, None) ∷ []) ∷ [] ∷ [])
  pub timed_out : Tells (make 500 ∷ break 60 ∷ make 20000 ∷ dial 3) (((1, None) ∷ []) ∷ [])
  pub unfinished : Leaves (make 500 ∷ dial 2 ++ break 60 ∷ make 40 ∷ break 61 ∷ make 179 ∷ [])
      ((break 60 ∷ make 40 ∷ break 61 ∷ make 179 ∷ []) ∷ [])
  pub all_finished : Leaves (make 500 ∷ dial 2 ++ break 300 ∷ make 20000 ∷ dial 3) ([] ∷ [] ∷ [])

-- a train as line 7 dials it after a make of 500 ms
abbrev pub train_of_runs : List Run → List PlacedRun
train_of_runs runs = placed_runs 7 (rows_on 7 runs)

-- ten pulses a second, three fifths break; quotients are rounded, a half up
pub record WorkedFigures : Type 0 where
  pub speed : speed_of (train_of_runs (break 60 ∷ make 40 ∷ break 60 ∷ make 40 ∷ break 60 ∷ [])) ≡ Some 100
  pub percent : percent_of (train_of_runs (break 60 ∷ make 40 ∷ break 60 ∷ make 40 ∷ break 60 ∷ [])) ≡ Some 600
  pub but_the_last : speed_of (train_of_runs (break 60 ∷ make 40 ∷ break 90 ∷ [])) ≡ Some 100
  pub rounded : speed_of (train_of_runs (break 57 ∷ make 40 ∷ break 60 ∷ [])) ≡ Some 103
  pub rounded_percent : percent_of (train_of_runs (break 57 ∷ make 40 ∷ break 60 ∷ [])) ≡ Some 588
  pub half_up : percent_of (train_of_runs (break 41 ∷ make 359 ∷ break 60 ∷ [])) ≡ Some 103
  pub single : speed_of (train_of_runs (break 60 ∷ [])) ≡ None
  pub breaks : extent_from Brk None
      (train_of_runs (break 60 ∷ make 40 ∷ break 58 ∷ make 44 ∷ break 61 ∷ []))
      ≡ Some (record { least = 58; most = 61 })
