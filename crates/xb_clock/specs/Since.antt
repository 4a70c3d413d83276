-- The time of day that a word says.
use Rattle.std.specs.Prelude.{◌≡◌, ℕ, ℤ, List, Option, Some, None, Result, Ok, Err}
use Rattle.jiff_core.specs.declared.error.Error.{Error}
use Rattle.jiff_core.specs.declared.timestamp.Timestamp.{Timestamp}
use Rattle.jiff_fmt.specs.Temporal.{parse_timestamp}
use Rattle.xb_clock.specs.declared.since.Since.{Since}
use Rattle.xb_clock.specs.declared.since.Since.TheVariants as since

-- what is read of a text as jiff reads an instant: that instant, or no time
abbrev pub IsRead : Result ℤ Error → Since → Type 0
IsRead (Ok nanos) given = (time : Timestamp) × (time.nanosecond ≡ nanos) × (given ≡ since.Time time)
IsRead (Err e) given = given ≡ since.NoTime

abbrev pub ReadsSince : Option (List ℕ) → Since → Type 0
ReadsSince None given = given ≡ since.NotGiven
ReadsSince (Some text) given = IsRead (parse_timestamp text) given
