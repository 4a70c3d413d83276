-- Times of day, counted from one that is given.
use Rattle.std.specs.Prelude.{◌≡◌, ◌⊎◌, ℕ, ◌*◌, ℤ, pos, ◌+ℤ◌, false, List, ◌++◌, codes, Option, Some, None, option_map}
use Rattle.arrayvec.specs.ArrayString.{ArrayString}
use Rattle.jiff_core.specs.declared.civil.datetime.DateTime.{DateTime}
use Rattle.jiff_core.specs.declared.timestamp.Timestamp.{Timestamp}
use Rattle.jiff_core.specs.DateTime.{civil_nanos}
use Rattle.jiff_core.specs.Timestamp.{IsTimestampNanos}
use Rattle.jiff_fmt.specs.Text.{datetime_text}
use Rattle.xb_clock.specs.declared.times.Times.{Times}

-- the text of the time of day at each count of ms
abbrev pub Clock : Type 0
Clock = ℕ → List ℕ

-- so many ms after an instant, in ns since 1970
abbrev pub nanos_after : Timestamp → ℕ → ℤ
nanos_after since ms = since.nanosecond +ℤ pos (ms * 1_000_000)

-- this is the time of day then, in UTC, as 2026-11-25T20:00:00.5Z
abbrev pub IsTimeText : Timestamp → ℕ → List ℕ → Type 0
IsTimeText since ms text = (time : DateTime)
    × (civil_nanos time ≡ nanos_after since ms)
    × (text ≡ datetime_text false 84 None time ++ codes "Z")

-- a clock tells each time of day after one that is given
abbrev pub IsClockSince : Option Timestamp → Clock → Type 0
IsClockSince None clock = Unit {0}
IsClockSince (Some since) clock = (ms : ℕ) (text : List ℕ) → IsTimeText since ms text → clock ms ≡ text

-- so many ms after it are past the last instant that there is
abbrev pub IsLateAfter : Timestamp → ℕ → Type 0
IsLateAfter since ms = IsTimestampNanos (nanos_after since ms) → ⊥

-- and where one is given
abbrev pub IsLateAt : Option Timestamp → ℕ → Type 0
IsLateAt None at = ⊥
IsLateAt (Some since) at = IsLateAfter since at

-- one of two times is
abbrev pub IsLateSince : Option Timestamp → ℕ → ℕ → Type 0
IsLateSince None began at = ⊥
IsLateSince (Some since) began at = IsLateAfter since began ⊎ IsLateAfter since at

-- the time at a count of ms, where times are asked for
abbrev pub time_at : Option Timestamp → Clock → ℕ → Option (List ℕ)
time_at None clock ms = None
time_at (Some since) clock ms = Some (clock ms)

-- this is the text of that time
abbrev pub TellsTime : Option Timestamp → ℕ → Option (List ℕ) → Type 0
TellsTime None ms text = text ≡ None
TellsTime (Some since) ms None = ⊥
TellsTime (Some since) ms (Some text) = IsTimeText since ms text

abbrev pub text_in : Option ArrayString → Option (List ℕ)
text_in time = option_map (λ (text : ArrayString). text.bytes) time

-- these are the times at which an entry began and at which it is complete
pub record AreTimes (since : Option Timestamp) (began completed : ℕ) (times : Times) : Type 0 where
  pub from : TellsTime since began (text_in times.from)
  pub at : TellsTime since completed (text_in times.at)
