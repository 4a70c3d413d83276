-- What is wrong with a make or break that a row ends.
use Rattle.std.specs.Prelude.{ℕ, ◌+◌, ◌==◌, if◌then◌else◌, Option, Some, None}
use Rattle.xb_heard.specs.declared.fault.PulseFault.{PulseFault}
use Rattle.xb_heard.specs.declared.fault.PulseFault.TheVariants.{ShortBreak, LongBreak, ShortMake, TooManyPulses}
use Rattle.xb_heard.specs.Faults.{fault_at}
use Rattle.xb_model.specs.declared.limits.Limits.{Limits}
use Rattle.xb_model.specs.declared.row.Contact.{Contact}
use Rattle.xb_model.specs.declared.row.Contact.TheVariants.{Make, Brk}
use Rattle.xb_pulse.specs.declared.state.Phase.{Phase}
use Rattle.xb_pulse.specs.declared.state.Phase.TheVariants.{InBreak, InMake}
use Rattle.xb_structs.specs.declared.row.PlainRow.{PlainRow}
use Rattle.xb_structs.specs.Rows.{contact_in}

-- what is wrong with the run that a contact ends: in a train a make ends a break, the next one of the train, and a break
-- ends a make
abbrev pub fault_ended : Limits → Phase → Option Contact → Option PulseFault
fault_ended limits (InBreak total tally) (Some Make) = fault_at limits (tally.breaks + 1) Brk total
fault_ended limits (InMake total tally) (Some Brk) = fault_at limits tally.breaks Make total
fault_ended limits phase contact = None

-- what is wrong with the run that a row ends, which lasts at all
abbrev pub fault_by : Limits → Phase → PlainRow → Option PulseFault
fault_by limits phase row = if row.ms == 0 then None else fault_ended limits phase (contact_in row.state)

-- the number of a fault
abbrev pub fault_number : Option PulseFault → ℕ
fault_number None = 0
fault_number (Some ShortBreak) = 1
fault_number (Some LongBreak) = 2
fault_number (Some ShortMake) = 3
fault_number (Some TooManyPulses) = 4
