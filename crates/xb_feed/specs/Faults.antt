-- Which fault is told of a recording that is refused.
use Rattle.std.specs.Prelude.{◌≡◌, ◌≢◌, ◌⊎◌, ℕ, List, [], ◌∷◌, ◌++◌, Some, None, true, false, map, nat_le, string_bytes, take, ◌&&◌, if◌then◌else◌}
use Rattle.xb_contact.specs.declared.event.Refusal.{Refusal}
use Rattle.xb_contact.specs.declared.event.Refusal.TheVariants as refusals
use Rattle.xb_recording.specs.declared.reader.Reader.{Reader}
use Rattle.xb_recording.specs.Places.{line_number, lines_ended, one_more, sample_number}
use Rattle.xb_recording.specs.Says.{Refuses, RestSays, Takes, is_text}
use Rattle.xb_contact.specs.declared.event.Event.{Event}
use Rattle.xb_feed.specs.declared.feed.TheConstants.{MOST_SHOWN_BYTES}
use Rattle.xb_feed.specs.Followers.{Follower}
use Rattle.xb_feed.specs.Watching.{CanHear, Watch, silent_line, watch_after}
use Rattle.xb_feed.specs.declared.fault.RecordingFault.{RecordingFault}
use Rattle.xb_feed.specs.declared.fault.RecordingFault.TheVariants as faults

-- what is shown of a line: its first 40 bytes, each that is not printed, from a space to a tilde, as a point
abbrev pub shown_byte : ℕ → ℕ
shown_byte byte = if nat_le 32 byte && nat_le byte 126 then byte else 46

abbrev pub shown_text : List ℕ → List ℕ
shown_text line = map shown_byte (take MOST_SHOWN_BYTES line)

-- the reason of a refusal is told as it is, but that memory ran out
abbrev pub IsReason : Refusal → Refusal → Type 0
IsReason refusal reason = (reason ≡ refusal) × (refusal ≢ refusals.NoMemory)

-- the fault of a refusal where a reader stands, unless memory ran out: of a text it tells the line and what came of it,
-- of samples which one, once they have begun
abbrev pub IsFaultOf : Reader → Refusal → RecordingFault → Type 0
IsFaultOf reader refusal (faults.Line number reason shown) =
    (is_text reader.source ≡ true) × (number ≡ line_number reader) × IsReason refusal reason
    × (string_bytes shown ≡ shown_text reader.line.items)
IsFaultOf reader refusal (faults.Sample number reason) =
    (is_text reader.source ≡ false) × (sample_number reader.source ≡ Some number) × IsReason refusal reason
IsFaultOf reader refusal (faults.Beginning reason) =
    (is_text reader.source ≡ false) × (sample_number reader.source ≡ None) × IsReason refusal reason
IsFaultOf reader refusal faults.NoMemory = Unit {0}
IsFaultOf reader refusal (faults.End reason) = ⊥
IsFaultOf reader refusal (faults.NoLevel line) = ⊥
IsFaultOf reader refusal (faults.Read unread) = ⊥
IsFaultOf reader refusal faults.Write = ⊥

-- of what is said this was put down, and what comes next has a time that is too late
pub record IsTooLate {C G : Type 0} (f : Follower C G)
    (watch : Watch C G) (said put : List Event) : Type 0 where
  pub event : Event
  pub later : List Event
  pub are : said ≡ put ++ event ∷ later
  pub late : CanHear f (watch_after f watch put) event → ⊥

-- the fault of bytes after which the reader stands so: it refused them, or they say what is too late after what was put
-- down; of a text it is told at the line of the last byte
pub record IsFaultAfter {C G : Type 0} (f : Follower C G)
    (reader : Reader) (watch : Watch C G) (bytes : List ℕ) (put : List Event) (after : Reader) (fault : RecordingFault)
    : Type 0 where
  pub refusal : Refusal
  pub told : IsFaultOf after refusal fault
  pub place : is_text reader.source ≡ true → line_number after ≡ one_more (lines_ended reader)
  pub why : (Refuses reader bytes refusal × (put ≡ []))
      ⊎ ((refusal ≡ refusals.TooLate)
      × ((events : List Event) × Takes reader after bytes events × IsTooLate f watch events put))

-- the same at the end of the recording, of whose last line nothing is put down
pub record IsFaultAtEnd {C G : Type 0} (f : Follower C G)
    (reader : Reader) (watch : Watch C G) (fault : RecordingFault) : Type 0 where
  pub after : Reader
  pub told : IsFaultOf after refusals.TooLate fault
  pub place : line_number after ≡ one_more (lines_ended reader)
  pub events : List Event
  pub says : RestSays reader [] events
  pub put : List Event
  pub late : IsTooLate f watch events put

-- the fault at the end of a recording in which the wire of a line has no level
abbrev pub IsSilence : {C G : Type 0} → Watch C G → RecordingFault → Type 0
IsSilence watch fault =
    (fault ≡ faults.NoMemory)
    ⊎ ((number : ℕ) × (fault ≡ faults.NoLevel number) × (silent_line watch.lines ≡ Some number))
