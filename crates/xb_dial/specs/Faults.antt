-- What is returned where a part is refused.
use Rattle.std.specs.Prelude.{◌≡◌, ◌≢◌, ◌⊎◌}
use Rattle.xb_text.specs.declared.reading.ReadFault.{ReadFault}
use Rattle.xb_text.specs.declared.reading.ReadFault.TheVariants as read_fault
use Rattle.xb_calls.specs.declared.fault.CallFault.{CallFault}
use Rattle.xb_calls.specs.declared.fault.CallFault.TheVariants as call_fault
use Rattle.xb_dial.specs.declared.trace_fault.TraceFault.{TraceFault}
use Rattle.xb_dial.specs.declared.trace_fault.TraceFault.TheVariants as trace_fault
use Rattle.xb_worn.specs.declared.worn_fault.WornFault.{WornFault}
use Rattle.xb_worn.specs.declared.worn_fault.WornFault.TheVariants as worn_fault
use Rattle.xb_dial.specs.declared.fault.DialFault.{DialFault}
use Rattle.xb_dial.specs.declared.fault.DialFault.TheVariants as fault

abbrev pub of_read : ReadFault → DialFault
of_read read_fault.Failed = fault.Read
of_read read_fault.TooLong = fault.TooLong
of_read read_fault.NoMemory = fault.NoMemory

-- running out of memory is one fault, in whatever part
abbrev pub IsOfCalls : CallFault → DialFault → Type 0
IsOfCalls f e = ((f ≡ call_fault.NoMemory) × (e ≡ fault.NoMemory))
    ⊎ ((f ≢ call_fault.NoMemory) × (e ≡ fault.Calls f))

abbrev pub IsOfWorn : WornFault → DialFault → Type 0
IsOfWorn f e = ((f ≡ worn_fault.NoMemory) × (e ≡ fault.NoMemory))
    ⊎ ((f ≢ worn_fault.NoMemory) × (e ≡ fault.Worn f))

abbrev pub of_trace : TraceFault → DialFault
of_trace trace_fault.TooLong = fault.LongDump
of_trace trace_fault.NoMemory = fault.NoMemory
of_trace trace_fault.Write = fault.Write
