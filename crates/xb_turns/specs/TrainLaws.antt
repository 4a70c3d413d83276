-- A train in the words of the field, and what is measured of it.
use Rattle.std.specs.Prelude.{ℕ, ◌≡◌, ◌<◌, ◌≤◌, ◌+◌, ◌*◌, ◌^◌, max, min, List, [], ◌∷◌, ◌++◌, Option, Some, None, length, map, nat_le, if◌then◌else◌}
use Rattle.std.specs.List.{flat_map, fold, reduce, sum_by}
use Rattle.xb_model.specs.declared.limits.Limits.{Limits}
use Rattle.xb_contact.specs.declared.level.Level.{Level}
use Rattle.xb_contact.specs.declared.level.Level.TheVariants.{Closed, Open}
use Rattle.xb_contact.specs.declared.scale.Scale.{Scale}
use Rattle.xb_contact.specs.Holds.{total_of}
use Rattle.xb_contact.specs.Times.{scale_by}
use Rattle.xb_heard.specs.declared.run.PlacedRun.{PlacedRun}
use Rattle.xb_heard.specs.Figures.{percent_of, quotient_of, speed_of as speed_heard}
use Rattle.xb_heard.specs.PlacedRuns.{run_in}
use Rattle.xb_turns.specs.declared.dial.Place.{Place}
use Rattle.xb_turns.specs.declared.dial.Place.TheVariants.{OnHook, Waiting}
use Rattle.xb_turns.specs.declared.dial.Said.{Said}
use Rattle.xb_turns.specs.declared.dial.Said.TheVariants.{Digit}
use Rattle.xb_turns.specs.declared.figures.TheConstants.{MANY_PULSES}
use Rattle.xb_turns.specs.declared.train.Spread.{Spread}
use Rattle.xb_turns.specs.declared.train.Train.{Train}
use Rattle.xb_turns.specs.DialLaws.{Piece, holds_in, runs_from, told_of_pieces}
use Rattle.xb_turns.specs.Dials.{begun_dial, place_after}
use Rattle.xb_turns.specs.Digits.{Run, timed_run}
use Rattle.xb_turns.specs.Figures.{share_of, speed_of}
use Rattle.xb_turns.specs.ReportLaws.{runs_in_ms}
use Rattle.xb_turns.specs.Trains.{spread_of}

-- a whole period: a break, and the make after it
pub record Period : Type 0 where
  pub break : Run
  pub make : Run

abbrev pub break_ticks : Period → ℕ
break_ticks period = period.break.hold.ticks

abbrev pub make_ticks : Period → ℕ
make_ticks period = period.make.hold.ticks

abbrev pub period_ticks : Period → ℕ
period_ticks period = break_ticks period + make_ticks period

-- the runs of a train: its whole periods, and the last break
abbrev pub runs_of_period : Period → List Run
runs_of_period period = period.break ∷ period.make ∷ []

abbrev pub runs_of_train : List Period → Run → List Run
runs_of_train whole last = flat_map runs_of_period whole ++ last ∷ []

-- from a tick on: a break that is a pulse, a make within a train, and a make that ends it
pub record IsPulse (limits : Limits) (scale : Scale) (from : ℕ) (run : Run) : Type 0 where
  pub level : run.hold.level ≡ Open
  pub lasts : 1 ≤ run.hold.ticks
  pub no_release : (timed_run scale from run).ms < limits.release

pub record IsRest (limits : Limits) (scale : Scale) (from : ℕ) (run : Run) : Type 0 where
  pub level : run.hold.level ≡ Closed
  pub lasts : 1 ≤ run.hold.ticks
  pub no_pause : (timed_run scale from run).ms < limits.pause
  pub no_timeout : (timed_run scale from run).ms < limits.timeout

pub record IsPause (limits : Limits) (scale : Scale) (from : ℕ) (run : Run) : Type 0 where
  pub level : run.hold.level ≡ Closed
  pub long : limits.pause ≤ (timed_run scale from run).ms

-- so are the runs of a train and the one that ends it
abbrev pub IsDigit : Limits → Scale → ℕ → List Period → Run → Run → Type 0
IsDigit limits scale from [] last pause =
    IsPulse limits scale from last × IsPause limits scale (from + last.hold.ticks) pause
IsDigit limits scale from (period ∷ rest) last pause =
    IsPulse limits scale from period.break × IsRest limits scale (from + break_ticks period) period.make
    × IsDigit limits scale (from + break_ticks period + make_ticks period) rest last pause

-- the least and the greatest of some times, the first, and the last
abbrev pub spread_in : List ℕ → Option Spread
spread_in [] = None
spread_in (ticks ∷ rest) = Some (spread_of (fold min ticks rest) (fold max ticks rest))

abbrev pub first_or : ℕ → List ℕ → ℕ
first_or none [] = none
first_or none (ticks ∷ rest) = ticks

abbrev pub last_or : ℕ → List ℕ → ℕ
last_or none [] = none
last_or none (ticks ∷ rest) = last_or ticks rest

-- what is measured of a train that begins at a tick
pub record IsMeasured (from : ℕ) (whole : List Period) (last : Run) (train : Train) : Type 0 where
  pub pulses : train.pulses ≡ length whole + 1
  pub first : train.first ≡ from
  pub last_break : train.last ≡ from + sum_by period_ticks whole
  pub broken : train.broken ≡ sum_by break_ticks whole
  pub breaks : Some train.breaks ≡ spread_in (map break_ticks whole ++ last.hold.ticks ∷ [])
  pub makes : train.makes ≡ spread_in (map make_ticks whole)
  pub first_period : train.first_period ≡ first_or 0 (map period_ticks whole)
  pub last_period : train.last_period ≡ last_or 0 (map period_ticks whole)
  pub bounce : Some train.bounce ≡ reduce max (map (λ (run : Run). run.bounce) (runs_of_train whole last))

-- the speed is the number of whole periods by their time, and the share of break the time of their breaks by it
pub record GoesByPeriods (scale : Scale) (whole : List Period) (train : Train) : Type 0 where
  pub speed : speed_of scale train
      ≡ (if nat_le MANY_PULSES (length whole + 1) then None
      else quotient_of (1000 * (length whole * scale.ticks)) (sum_by period_ticks whole * scale.ms))
  pub share : share_of train ≡ quotient_of (100 * sum_by break_ticks whole) (sum_by period_ticks whole)

-- a line's place after runs, and the tick at which they end
abbrev pub place_of_runs : Limits → Scale → Place → ℕ → List Run → Place
place_of_runs limits scale place from [] = place
place_of_runs limits scale place from (run ∷ rest) =
    place_of_runs limits scale (place_after limits place run.hold.level (timed_run scale from run))
    (from + run.hold.ticks) rest

abbrev pub tick_after : ℕ → List Run → ℕ
tick_after from [] = from
tick_after from (run ∷ rest) = tick_after (from + run.hold.ticks) rest

-- among the runs of a record, from a tick on, stand those of a train that a pause ends, where the line waits for one
pub record IsDialled (limits : Limits) (scale : Scale) (first : Level) (pieces : List Piece)
    (from : ℕ) (whole : List Period) (last pause : Run) : Type 0 where
  pub before : List Run
  pub after : List Run
  pub runs : runs_from first pieces ≡ before ++ (runs_of_train whole last ++ pause ∷ after)
  pub waits : place_of_runs limits scale OnHook 0 before ≡ Waiting
  pub begins : tick_after 0 before ≡ from
  pub digit : IsDigit limits scale from whole last pause

-- a digit is told of which that is measured
pub record TellsTrain (scale : Scale) (from : ℕ) (whole : List Period) (last pause : Run) (told : List Said) : Type 0 where
  pub train : Train
  pub earlier : List Said
  pub later : List Said
  pub digit : told ≡ earlier ++ Digit train (max train.bounce pause.edge) ∷ later
  pub measured : IsMeasured from whole last train
  pub figures : GoesByPeriods scale whole train

-- so it is of each train in a settled record
abbrev pub MeasuresTrains : Type 0
MeasuresTrains =
    (limits : Limits) (scale : Scale) (first : Level) (pieces : List Piece)
    (from : ℕ) (whole : List Period) (last pause : Run)
    → 0 < scale.ticks → total_of (holds_in pieces) < 2 ^ 64
    → IsDialled limits scale first pieces from whole last pause
    → TellsTrain scale from whole last pause (told_of_pieces (begun_dial limits scale first) pieces)

-- a digit is told that has these figures
pub record TellsFigures (scale : Scale) (speed share : Option ℕ) (told : List Said) : Type 0 where
  pub train : Train
  pub bounce : ℕ
  pub earlier : List Said
  pub later : List Said
  pub digit : told ≡ earlier ++ Digit train bounce ∷ later
  pub speed_told : speed_of scale train ≡ speed
  pub share_told : share_of train ≡ share

-- where a tick is a ms, they are those that the report has of the same runs
abbrev pub FiguresAreReported : Type 0
FiguresAreReported =
    (limits : Limits) (first : Level) (pieces : List Piece)
    (from : ℕ) (whole : List Period) (last pause : Run) (runs : List PlacedRun)
    → total_of (holds_in pieces) < 2 ^ 64 → IsDialled limits (scale_by 1 1) first pieces from whole last pause
    → length whole + 1 < MANY_PULSES → map run_in runs ≡ runs_in_ms (scale_by 1 1) from (runs_of_train whole last)
    → TellsFigures (scale_by 1 1) (speed_heard runs) (percent_of runs)
    (told_of_pieces (begun_dial limits (scale_by 1 1) first) pieces)
