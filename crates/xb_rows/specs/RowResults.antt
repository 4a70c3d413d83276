-- What the calls that read rows return.
use Rattle.std.specs.Prelude.{ℕ, ◌≡◌, ◌⊎◌, List, Option, Some, None, Result, Err}
use Rattle.std.specs.Io.KnownBytes.{IsAtEnd}
use Rattle.xb_model.specs.declared.fault.RowFault.{RowFault}
use Rattle.xb_model.specs.declared.fault.RowFault.TheVariants as fault
use Rattle.xb_model.specs.Rows.{LoopRow}
use Rattle.xb_text.specs.declared.reading.ReadFault.{ReadFault}
use Rattle.xb_text.specs.declared.reading.ReadFault.TheVariants as read_fault
use Rattle.xb_rows.specs.RowTexts.{fault_of_text, rows_of_text}

-- the rows of a text that has no fault
abbrev pub AreRowsOf : List ℕ → List LoopRow → Type 0
AreRowsOf text rows = (rows ≡ rows_of_text text) × (fault_of_text text ≡ None)

-- memory ran out, or the fault of a text
abbrev pub IsFaultOf : List ℕ → RowFault → Type 0
IsFaultOf text f = (f ≡ fault.NoMemory) ⊎ (fault_of_text text ≡ Some f)

-- the same, where the text may not be read at all
abbrev pub IsReadFaultOf : List ℕ → RowFault → Type 0
IsReadFaultOf text f = (f ≡ fault.Read) ⊎ IsFaultOf text f

-- memory ran out, or the reader failed: all its bytes are within the limit
abbrev pub fault_of_read : ReadFault → RowFault
fault_of_read read_fault.NoMemory = fault.NoMemory
fault_of_read read_fault.Failed = fault.Read
fault_of_read read_fault.TooLong = fault.Read

-- the reader was read to its end: not where reading failed, or memory ran out
abbrev pub IsReadToEnd : {T : Type 0} → Result T RowFault → Option (List ℕ) → Type 0
IsReadToEnd (Err fault.Read) left = Unit {0}
IsReadToEnd (Err fault.NoMemory) left = Unit {0}
IsReadToEnd result left = IsAtEnd left
