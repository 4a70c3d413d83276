-- The figures of a train in words.
use Rattle.std.specs.Prelude.{ℕ, ◌≡◌, ◌*◌, List, None, length, nat_le, if◌then◌else◌}
use Rattle.std.specs.List.{filter, sum_by}
use Rattle.xb_model.specs.Records.{is_break}
use Rattle.xb_heard.specs.declared.figures.TheConstants.{MANY_RUNS}
use Rattle.xb_heard.specs.declared.run.PlacedRun.{PlacedRun}
use Rattle.xb_heard.specs.Figures.{percent_of, quotient_of, speed_of, whole_periods}
use Rattle.xb_heard.specs.PlacedRuns.{run_in}

abbrev pub breaks_in : List PlacedRun → List PlacedRun
breaks_in runs = filter (λ (run : PlacedRun). is_break (run_in run)) runs

abbrev pub ms_in : List PlacedRun → ℕ
ms_in runs = sum_by (λ (run : PlacedRun). run.ms) runs

-- the speed is the number of whole periods by their time, and the share of break the time of their breaks by it
pub record FiguresAreOfPeriods (train : List PlacedRun) : Type 0 where
  pub speed : speed_of train
      ≡ quotient_of (1000 * length (breaks_in (whole_periods train))) (ms_in (whole_periods train))
  pub share : percent_of train
      ≡ (if nat_le MANY_RUNS (length train) then None
      else quotient_of (100 * ms_in (breaks_in (whole_periods train))) (ms_in (whole_periods train)))

-- so it is of each train
abbrev pub GoByWholePeriods : Type 0
GoByWholePeriods = (train : List PlacedRun) → FiguresAreOfPeriods train
