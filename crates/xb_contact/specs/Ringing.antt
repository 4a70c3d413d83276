-- A line whose bell may ring, hold by hold. The laws say what this comes to over a whole recording.
use Rattle.std.specs.Prelude.{ℕ, ◌-◌, List, [], ◌∷◌, Bool, Option, Some, None, nat_lt, nat_le, ◌==◌, ◌&&◌, if◌then◌else◌}
use Rattle.xb_contact.specs.declared.bell.Bell.{Bell}
use Rattle.xb_contact.specs.declared.level.Level.{Level}
use Rattle.xb_contact.specs.declared.level.Level.TheVariants.{Open, Closed}
use Rattle.xb_contact.specs.declared.hold.Hold.{Hold}
use Rattle.xb_contact.specs.Holds.{hold_of}
use Rattle.xb_contact.specs.Seizures.{is_open, is_short_on_hook}

abbrev pub bell_of : ℕ → ℕ → ℕ → Bell
bell_of period lacks waits = record { period = period; lacks = lacks; waits = waits }

-- nothing was heard of the bell
abbrev pub silent : Bell
silent = bell_of 0 8 0

-- so many ms later
abbrev pub bell_later : Bell → ℕ → Bell
bell_later bell ticks = bell_of (bell.period - ticks) bell.lacks (bell.waits - ticks)

-- the last make began 15 to 67 ms ago, which is counted down from 68
abbrev pub is_due : ℕ → Bool
is_due period = nat_lt 0 period && nat_le period 53

-- how many periods a burst lacks where another make begins
abbrev pub periods_lacked : Bell → ℕ
periods_lacked bell = if is_due bell.period then bell.lacks - 1 else 8

-- another make begins
abbrev pub bell_with_make : ℕ → Bell → Bell
bell_with_make wait bell =
    bell_of 68 (periods_lacked bell) (if periods_lacked bell == 0 then wait else bell.waits)

-- how it is listened to; the level of the last hold, and that at which the makes of the call are given; what the line
-- lacks of a break to be on hook, and of a make to be off hook; and what was heard of its bell
pub record Ringing : Type 0 where
  pub wait : ℕ
  pub least : ℕ
  pub release : ℕ
  pub level : Level
  pub call : Level
  pub lacks : ℕ
  pub wants : ℕ
  pub bell : Bell

abbrev pub ringing_of : ℕ → ℕ → ℕ → Level → Level → ℕ → ℕ → Bell → Ringing
ringing_of wait least release level call lacks wants bell =
    record {
      wait = wait;
      least = least;
      release = release;
      level = level;
      call = call;
      lacks = lacks;
      wants = wants;
      bell = bell;
    }

-- on hook at the beginning
abbrev pub begun_ringing : ℕ → ℕ → ℕ → Ringing
begun_ringing wait least release = ringing_of wait least release Open Closed 0 0 silent

abbrev pub ringing_with : Ringing → Level → Level → ℕ → ℕ → Bell → Ringing
ringing_with line level call lacks wants bell =
    ringing_of line.wait line.least line.release level call lacks wants bell

-- at which level a make is given that begins on hook
abbrev pub call_level : Bell → Level
call_level bell = if bell.waits == 0 then Closed else Open

-- a break
abbrev pub in_break : Ringing → ℕ → Ringing
in_break line ticks =
    ringing_with line Open line.call (line.lacks - ticks) line.wants (bell_later line.bell ticks)

-- a make begins after a break
abbrev pub with_next_make : Ringing → Ringing
with_next_make line =
    if line.lacks == 0
    then ringing_with line Closed (call_level (bell_with_make line.wait line.bell)) line.lacks line.least
    (bell_with_make line.wait line.bell)
    else ringing_with line Closed line.call line.lacks line.wants line.bell

-- a make goes on, or begins
abbrev pub with_make_on : Ringing → Ringing
with_make_on line = if is_open line.level then with_next_make line else line

-- it lasts: a make that is long enough takes the line off hook
abbrev pub make_lasts : Ringing → ℕ → Ringing
make_lasts line ticks =
    if is_short_on_hook line.wants line.lacks ticks
    then ringing_with line Closed line.call line.lacks (line.wants - ticks) (bell_later line.bell ticks)
    else ringing_with line Closed line.call line.release 0 silent

abbrev pub in_make : Ringing → ℕ → Ringing
in_make line ticks = make_lasts (with_make_on line) ticks

-- whether the line is in a call that answers the bell
abbrev pub is_answering : Ringing → Bool
is_answering line = nat_lt 0 line.lacks && is_open line.call

-- what is given of a hold, and the line then
pub record Rung : Type 0 where
  pub given : Hold
  pub after : Ringing

abbrev pub rung_of : Hold → Ringing → Rung
rung_of given after = record { given = given; after = after }

abbrev pub with_hold : Level → Ringing → ℕ → Rung
with_hold Open line ticks = rung_of (hold_of Open ticks) (in_break line ticks)
with_hold Closed line ticks = rung_of (hold_of (in_make line ticks).call ticks) (in_make line ticks)

-- any hold
abbrev pub rung : Ringing → Hold → Rung
rung line hold = if hold.ticks == 0 then rung_of hold line else with_hold hold.level line hold.ticks

-- the same of a piece, if there is one
abbrev pub piece_rung : Ringing → Option Hold → Option Hold
piece_rung line None = None
piece_rung line (Some hold) = Some (rung line hold).given

abbrev pub rung_past : Ringing → Option Hold → Ringing
rung_past line None = line
rung_past line (Some hold) = (rung line hold).after

-- all that is given of holds, one after the other
abbrev pub all_rung : Ringing → List Hold → List Hold
all_rung line [] = []
all_rung line (hold ∷ rest) = (rung line hold).given ∷ all_rung (rung line hold).after rest

-- the line after them
abbrev pub ringing_after : Ringing → List Hold → Ringing
ringing_after line [] = line
ringing_after line (hold ∷ rest) = ringing_after (rung line hold).after rest
