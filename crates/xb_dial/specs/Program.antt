-- What the program does.
use Rattle.std.specs.Prelude.{Some, Err, Ok}
use Rattle.std.specs.Io.KnownBytes.{Keeps}
use Rattle.xb_command.specs.Programs.{Streams}
use Rattle.xb_command.specs.Telling.{Tells}
use Rattle.xb_command.specs.Works.{Rules, text_source}
use Rattle.xb_command.specs.declared.table.Program.{Program}
use Rattle.xb_dial.specs.declared.fault.DialFault.{DialFault}
use Rattle.xb_dial.specs.declared.request.Asked.{Asked}
use Rattle.xb_dial.specs.Options.{Asks, IsUnfit}
use Rattle.xb_dial.specs.Printed.{Delivers, JudgesSpeed}
use Rattle.xb_dial.specs.FaultTexts.{dial_text}

-- exactly the rows of the calls were written
pub record WritesRows (asked : Asked) (old new : Streams) : Type 0 where
  pub judged : JudgesSpeed asked.request.manner (Ok tt)
  pub rows : Delivers asked.request old.input (Ok tt) old.output new.output
  pub quiet : Keeps old.errors new.errors

-- there was a fault, and a line says so
pub record HasFault (asked : Asked) (program : Program) (old new : Streams) : Type 0 where
  pub fault : DialFault
  pub judged : JudgesSpeed asked.request.manner (Err fault)
  pub rows : Delivers asked.request old.input (Err fault) old.output new.output
  pub line : Tells program.name.now (Some (dial_text fault)) old.errors new.errors

-- what the words ask for, what is read, and what is done
abbrev pub by_dial : Rules Asked
by_dial = record {
  Asks = Asks;
  Misfits = IsUnfit;
  source = λ asked. text_source asked.calls;
  Done = λ asked program bytes old new. WritesRows asked old new;
  Fails = λ asked program bytes old new. HasFault asked program old new;
}
