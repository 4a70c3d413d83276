-- The text of each fault.
use Rattle.std.specs.Prelude.{ℕ, ◌++◌, List, codes}
use Rattle.xb_calls.specs.FaultTexts.{call_text, speed_text}
use Rattle.xb_worn.specs.FaultTexts.{worn_text}
use Rattle.xb_dial.specs.declared.fault.DialFault.{DialFault}
use Rattle.xb_dial.specs.declared.fault.DialFault.TheVariants as dial

-- of rows that are not printed
abbrev pub dial_text : DialFault → List ℕ
dial_text (dial.Speed fault) = codes "speed: " ++ speed_text fault
dial_text dial.Read = codes "the calls could not be read"
dial_text dial.TooLong = codes "the calls are longer than 16777216 bytes"
dial_text (dial.Calls fault) = call_text fault
dial_text dial.SeveralLines = codes "the calls are of several lines, and a dump has the contact of one"
dial_text (dial.Worn fault) = worn_text fault
dial_text dial.LongDump = codes "the dump is too long"
dial_text dial.NoMemory = codes "out of memory"
dial_text dial.Write = codes "the rows could not be written"
