-- Which wire a recording lacks that is asked for.
use Rattle.std.specs.Prelude.{ℕ, List, Option, Some, None, slice_get}
use Rattle.std.specs.Option.{option_and_then}
use Rattle.xb_contact.specs.declared.event.Refusal.{Refusal}
use Rattle.xb_contact.specs.declared.event.Refusal.TheVariants as refusals
use Rattle.xb_feed.specs.declared.fault.RecordingFault.{RecordingFault}
use Rattle.xb_feed.specs.declared.fault.RecordingFault.TheVariants as faults

-- where a recording is refused since it has no wire of a name, the first such wire of those that are asked for
abbrev pub missing_in : Refusal → Option ℕ
missing_in (refusals.NoWire wire) = Some wire
missing_in refusal = None

abbrev pub missing_wire : RecordingFault → Option ℕ
missing_wire (faults.Line number reason shown) = missing_in reason
missing_wire (faults.Sample number reason) = missing_in reason
missing_wire (faults.Beginning reason) = missing_in reason
missing_wire (faults.End reason) = missing_in reason
missing_wire fault = None

-- its name, of those that are asked for
abbrev pub missing_name : RecordingFault → List (List ℕ) → Option (List ℕ)
missing_name fault names = option_and_then (slice_get names) (missing_wire fault)
