-- The objects of keys and of entries, with their times of day where these are told.
use Rattle.std.specs.Prelude.{ℕ, List, [], ◌++◌, codes, Option, None}
use Rattle.jiff_core.specs.declared.timestamp.Timestamp.{Timestamp}
use Rattle.serde_json.specs.Data.{Data}
use Rattle.serde_json.specs.Written.{compact_text}
use Rattle.xb_clock.specs.Clocks.{Clock, time_at}
use Rattle.xb_clock.specs.Objects.{with_time}
use Rattle.xb_measured.specs.declared.heard.Heard.{Heard}
use Rattle.xb_measured.specs.declared.figures.Figures.{Figures}
use Rattle.xb_measured.specs.Objects.{object_of}
use Rattle.xb_measured.specs.DoubtLines.{began_ms}
use Rattle.xb_measured.specs.Entries.{ended_ms, entry_object}

-- the time of day at which the sound begins, where it is given, and the clock that tells those after it
pub record Timing : Type 0 where
  pub since : Option Timestamp
  pub clock : Clock

abbrev pub timing_by : Option Timestamp → Clock → Timing
timing_by since clock = record { since = since; clock = clock }

-- no times of day are told
abbrev pub untimed : Timing
untimed = timing_by None (λ ms. [])

abbrev pub time_in : Timing → ℕ → Option (List ℕ)
time_in timing ms = time_at timing.since timing.clock ms

-- the object of a key, which also has the time at which it begins
abbrev pub key_at : Option (List ℕ) → Figures → Data
key_at at figures = with_time (codes "at") at (object_of figures)

-- the object of the entry of a keying, which also has the times at which it begins and ends
abbrev pub entry_between : Option (List ℕ) → Option (List ℕ) → ℕ → List Heard → Data
entry_between from to n keys = with_time (codes "to") to (with_time (codes "from") from (entry_object n keys))

-- an object as a line
abbrev pub object_text : Data → List ℕ
object_text value = compact_text value ++ codes "\n"

abbrev pub key_line : Timing → Figures → List ℕ
key_line timing figures = object_text (key_at (time_in timing figures.start_ms) figures)

abbrev pub entry_line : Timing → ℕ → List Heard → List ℕ
entry_line timing n keys =
    object_text (entry_between (time_in timing (began_ms keys)) (time_in timing (ended_ms keys)) n keys)
