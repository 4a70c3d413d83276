-- One step after another, up to the first fault.
use Rattle.std.specs.Prelude.{Option, Some, None, Result, Ok, Err}

-- what is there, or else a fault
abbrev pub or_fault : {F A B : Type 0} → F → Option A → (A → Result B F) → Result B F
or_fault f None next = Err f
or_fault f (Some x) next = next x

abbrev pub and_then : {F A B : Type 0} → Result A F → (A → Result B F) → Result B F
and_then (Err f) next = Err f
and_then (Ok x) next = next x
