-- The JSON objects that are printed of events.
use Rattle.std.specs.Prelude.{ℕ, List, [], codes, Bool, true, false, Option, Some, None}
use Rattle.serde_json.specs.Data.{Data, member, no_members, null, number, object, string, unsigned}
use Rattle.xb_json.specs.Keys.{digits_text}
use Rattle.xb_model.specs.declared.signal.Signal.{Signal}
use Rattle.xb_model.specs.declared.signal.Signal.TheVariants.{Seize, Digit, TimeOut, Release, Close}
use Rattle.xb_model.specs.Numbers.{digit_of_count}
use Rattle.xb_live.specs.Events.{Event}
use Rattle.xb_clock.specs.Objects.{with_time}
use Rattle.xb_live.specs.Objects.{line_of}

-- each signal is told as an event but a line's close
abbrev pub is_event : Signal → Bool
is_event Close = false
is_event Seize = true
is_event (Digit count bad) = true
is_event TimeOut = true
is_event Release = true

-- the object of an event that is no digit, by its name
abbrev pub bare_object : ℕ → ℕ → List ℕ → Data
bare_object line at name = object
    (member (codes "at_ms") (number (unsigned at))
    (member (codes "event") (string name)
    (member (codes "line") (number (unsigned line)) no_members)))

-- a digit, or null where it is mutilated
abbrev pub digit_value : Option ℕ → Data
digit_value None = null
digit_value (Some digit) = number (unsigned digit)

-- the object of a digit, with what is dialled so far
abbrev pub digit_object : ℕ → ℕ → List ℕ → Option ℕ → Data
digit_object line at dialled digit = object
    (member (codes "at_ms") (number (unsigned at))
    (member (codes "dialled") (string (digits_text dialled))
    (member (codes "digit") (digit_value digit)
    (member (codes "event") (string (codes "DIGIT"))
    (member (codes "line") (number (unsigned line)) no_members)))))

-- the object of a signal; a line's close has none
abbrev pub object_by : ℕ → ℕ → List ℕ → Signal → Option Data
object_by line at dialled Seize = Some (bare_object line at (codes "SEIZED"))
object_by line at dialled (Digit count bad) = Some (digit_object line at dialled (digit_of_count count bad))
object_by line at dialled TimeOut = Some (bare_object line at (codes "TIMEDOUT"))
object_by line at dialled Release = Some (bare_object line at (codes "RELEASED"))
object_by line at dialled Close = None

-- the object of an event
abbrev pub event_object : Event → Option Data
event_object event = object_by event.line event.at event.dialled event.signal

-- an object, if there is one, as a text line, which also has the time of the event
abbrev pub line_at : Option (List ℕ) → Option Data → List ℕ
line_at time None = []
line_at time (Some value) = line_of (with_time (codes "at") time value)
