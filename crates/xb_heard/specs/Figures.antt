-- The figures of a train, as a dial test set gives them.
use Rattle.std.specs.Prelude.{ℕ, ◌+◌, ◌*◌, ◌/◌, ◌-◌, ◌==◌, min, max, List, [], ◌∷◌, length, take, nat_le, if◌then◌else◌, Option, Some, None}
use Rattle.xb_model.specs.declared.row.Contact.{Contact}
use Rattle.xb_model.specs.Records.{is_break, same_contact}
use Rattle.xb_heard.specs.declared.run.PlacedRun.{PlacedRun}
use Rattle.xb_heard.specs.declared.figures.Extent.{Extent}
use Rattle.xb_heard.specs.declared.figures.Times.{Times}
use Rattle.xb_heard.specs.declared.figures.TheConstants.{MANY_RUNS}
use Rattle.xb_heard.specs.PlacedRuns.{run_in}

-- how many breaks, how long they are, and how long all runs are
abbrev pub times : ℕ → ℕ → ℕ → Times
times breaks open_ms all_ms = record { breaks = breaks; open_ms = open_ms; all_ms = all_ms }

abbrev pub with_run : PlacedRun → Times → Times
with_run run rest =
    if is_break (run_in run) then times (rest.breaks + 1) (rest.open_ms + run.ms) (rest.all_ms + run.ms)
    else times rest.breaks rest.open_ms (rest.all_ms + run.ms)

abbrev pub times_from : Times → List PlacedRun → Times
times_from so_far [] = so_far
times_from so_far (run ∷ rest) = times_from (with_run run so_far) rest

abbrev pub times_of : List PlacedRun → Times
times_of runs = times_from (times 0 0 0) runs

-- the runs of a train before its last break: as many breaks as makes
abbrev pub whole_periods : List PlacedRun → List PlacedRun
whole_periods train = take (length train - 1) train

-- a quotient in tenths, a half rounded up; none by 0
abbrev pub quotient_of : ℕ → ℕ → Option ℕ
quotient_of number divisor =
    if divisor == 0 then None else Some ((20 * number + divisor) / (2 * divisor))

-- pulses a second, in tenths: so many whole periods in so many ms
abbrev pub speed_by : ℕ → ℕ → Option ℕ
speed_by periods ms = quotient_of (1000 * periods) ms

-- how much of a time is break, in tenths of a percent
abbrev pub share_by : ℕ → ℕ → Option ℕ
share_by broken all = quotient_of (100 * broken) all

-- the speed of a train; none of a single pulse
abbrev pub speed_of : List PlacedRun → Option ℕ
speed_of train = let whole = times_of (whole_periods train) in speed_by whole.breaks whole.all_ms

-- how much of its time is break; none of a single pulse, or of too many runs
abbrev pub percent_of : List PlacedRun → Option ℕ
percent_of train =
    if nat_le MANY_RUNS (length train) then None
    else (let whole = times_of (whole_periods train) in share_by whole.open_ms whole.all_ms)

abbrev pub wider : Option Extent → ℕ → Option Extent
wider None ms = Some (record { least = ms; most = ms })
wider (Some others) ms = Some (record { least = min others.least ms; most = max others.most ms })

-- the shortest and the longest of the breaks, or of the makes
abbrev pub extent_from : Contact → Option Extent → List PlacedRun → Option Extent
extent_from contact so_far [] = so_far
extent_from contact so_far (run ∷ rest) =
    extent_from contact (if same_contact run.contact contact then wider so_far run.ms else so_far) rest
