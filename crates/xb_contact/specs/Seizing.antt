-- A line that is watched for seizures, hold by hold. The laws say what this comes to over a whole recording.
use Rattle.std.specs.Prelude.{ℕ, ◌+◌, ◌-◌, ◌<◌, ◌≤◌, ◌^◌, List, [], ◌∷◌, ◌++◌, Option, Some, None, ◌==◌, if◌then◌else◌}
use Rattle.xb_contact.specs.declared.certain.Certain.{Certain}
use Rattle.xb_contact.specs.declared.level.Level.{Level}
use Rattle.xb_contact.specs.declared.level.Level.TheVariants.{Open, Closed}
use Rattle.xb_contact.specs.declared.hold.Hold.{Hold}
use Rattle.xb_contact.specs.Holds.{hold_of}
use Rattle.xb_contact.specs.Joints.{left_of}
use Rattle.xb_contact.specs.Machine.{pieces_of}
use Rattle.xb_contact.specs.Seizures.{is_short_on_hook}

-- how it is watched, what it lacks to be on hook, and what is withheld there: of a break, and of a make after it
pub record Seizing : Type 0 where
  pub least : ℕ
  pub release : ℕ
  pub most : ℕ
  pub lacks : ℕ
  pub rest : ℕ
  pub make : ℕ

abbrev pub seizing_of : ℕ → ℕ → ℕ → ℕ → ℕ → ℕ → Seizing
seizing_of least release most lacks rest make =
    record { least = least; release = release; most = most; lacks = lacks; rest = rest; make = make }

-- so much of it can be counted
pub record AreFew (least most rest make : ℕ) : Type 0 where
  pub least_fits : least < 2 ^ 32
  pub most_fits : most < 2 ^ 32
  pub rest_fits : rest ≤ most
  pub make_fits : make ≤ least

-- from how many ticks on a break on hook is given in parts: where each make seizes nothing is withheld
abbrev pub most_withheld : ℕ → ℕ → ℕ
most_withheld least most = if least == 0 then 0 else most

-- on hook at the beginning
abbrev pub begun_seizing : ℕ → ℕ → ℕ → Seizing
begun_seizing least release most = seizing_of least release (most_withheld least most) 0 0 0

-- nothing is certain
abbrev pub nothing : Certain
nothing = record { first = None; second = None; third = None }

-- what was withheld is, and then a hold
abbrev pub certain_with : ℕ → ℕ → Hold → Certain
certain_with rest make hold =
    record { first = left_of (hold_of Open rest); second = left_of (hold_of Closed make); third = Some hold }

abbrev pub pieces_in : Certain → List Hold
pieces_in certain = pieces_of certain.first ++ (pieces_of certain.second ++ pieces_of certain.third)

-- what is certain with a hold, and the line then
pub record Taken : Type 0 where
  pub given : Certain
  pub after : Seizing

abbrev pub taken_of : Certain → Seizing → Taken
taken_of given after = record { given = given; after = after }

abbrev pub line_with : Seizing → ℕ → ℕ → ℕ → Seizing
line_with line lacks rest make = seizing_of line.least line.release line.most lacks rest make

-- a break: a short make before it was none; it is withheld on hook, up to `most` ticks
abbrev pub with_break : Seizing → ℕ → Taken
with_break line ticks =
    if is_short_on_hook (line.most - (line.rest + line.make)) (line.lacks - ticks) ticks
    then taken_of nothing (line_with line (line.lacks - ticks) ((line.rest + line.make) + ticks) 0)
    else taken_of (certain_with (line.rest + line.make) 0 (hold_of Open ticks))
    (line_with line (line.lacks - ticks) 0 0)

-- a make: it is withheld on hook until it is long enough
abbrev pub with_make : Seizing → ℕ → Taken
with_make line ticks =
    if is_short_on_hook (line.least - line.make) line.lacks ticks
    then taken_of nothing (line_with line line.lacks line.rest (line.make + ticks))
    else taken_of (certain_with line.rest line.make (hold_of Closed ticks)) (line_with line line.release 0 0)

abbrev pub with_level : Level → Seizing → ℕ → Taken
with_level Open line ticks = with_break line ticks
with_level Closed line ticks = with_make line ticks

-- any hold
abbrev pub passed : Seizing → Hold → Taken
passed line hold = if hold.ticks == 0 then taken_of nothing line else with_level hold.level line hold.ticks

-- the same of a piece, if there is one
abbrev pub piece_passed : Seizing → Option Hold → List Hold
piece_passed line None = []
piece_passed line (Some hold) = pieces_in (passed line hold).given

abbrev pub line_past : Seizing → Option Hold → Seizing
line_past line None = line
line_past line (Some hold) = (passed line hold).after

-- what is left where the recording ends
abbrev pub withheld : Seizing → Option Hold
withheld line = left_of (hold_of Open (line.rest + line.make))

-- what is certain with holds, one after the other
abbrev pub certain_of : Seizing → List Hold → List Hold
certain_of line [] = []
certain_of line (hold ∷ rest) = pieces_in (passed line hold).given ++ certain_of (passed line hold).after rest

-- the line after them
abbrev pub line_after : Seizing → List Hold → Seizing
line_after line [] = line
line_after line (hold ∷ rest) = line_after (passed line hold).after rest

-- all that is given of holds
abbrev pub all_passed : Seizing → List Hold → List Hold
all_passed line holds = certain_of line holds ++ pieces_of (withheld (line_after line holds))
