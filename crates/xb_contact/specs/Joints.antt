-- Holds joined as they come.
use Rattle.std.specs.Prelude.{ℕ, ◌+◌, List, [], ◌∷◌, ◌++◌, Option, Some, None, nat_le, ◌==◌, if◌then◌else◌}
use Rattle.xb_contact.specs.declared.hold.Hold.{Hold}
use Rattle.xb_contact.specs.Holds.{hold_of, same_level}
use Rattle.xb_contact.specs.Machine.{pieces_of}
use Rattle.xb_contact.specs.declared.joint.Joint.{Joint}

abbrev pub joint_of : Option Hold → Hold → Joint
joint_of given last = record { given = given; last = last }

-- a hold that has grown longer is given once it has `most` ticks
abbrev pub full : ℕ → Hold → Joint
full most sum = if nat_le most sum.ticks then joint_of (Some sum) (hold_of sum.level 0) else joint_of None sum

-- what is given of a hold that another level ends
abbrev pub left_of : Hold → Option Hold
left_of last = if last.ticks == 0 then None else Some last

-- a hold after the one that may still grow longer
abbrev pub joined_by : ℕ → Hold → Hold → Joint
joined_by most last hold =
    if same_level last.level hold.level then full most (hold_of last.level (last.ticks + hold.ticks))
    else joint_of (left_of last) hold

-- all that is given of holds after the one that may still grow longer
abbrev pub all_joined : ℕ → Hold → List Hold → List Hold
all_joined most last [] = pieces_of (left_of last)
all_joined most last (hold ∷ rest) =
    pieces_of (joined_by most last hold).given ++ all_joined most (joined_by most last hold).last rest
