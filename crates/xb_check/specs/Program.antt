-- What the program does.
use Rattle.std.specs.Prelude.{Some, Err, Ok}
use Rattle.std.specs.Io.KnownBytes.{Keeps}
use Rattle.xb_command.specs.Programs.{Streams}
use Rattle.xb_command.specs.Telling.{Tells}
use Rattle.xb_command.specs.Works.{AsksBy, Rules, text_source}
use Rattle.xb_command.specs.declared.table.Program.{Program}
use Rattle.xb_check.specs.declared.fault.CheckFault.{CheckFault}
use Rattle.xb_check.specs.declared.words.Request.{Request}
use Rattle.xb_check.specs.Named.{Reports}
use Rattle.xb_check.specs.Options.{SayNoName, Says}
use Rattle.xb_check.specs.FaultTexts.{check_text}

-- `mfbank` takes the deck, and exactly its report was written
pub record Accepts (request : Request) (old new : Streams) : Type 0 where
  pub report : Reports request old.input (Ok tt) old.output new.output
  pub quiet : Keeps old.errors new.errors

-- there was a fault, and a line says so: `mfbank` refuses the deck by it, and its report was written; or the deck could
-- not be checked
pub record Refuses (request : Request) (program : Program) (old new : Streams) : Type 0 where
  pub fault : CheckFault
  pub report : Reports request old.input (Err fault) old.output new.output
  pub line : Tells program.name.now (Some (check_text fault)) old.errors new.errors

-- what the words ask for, which value is refused, what is read, and what is done
abbrev pub by_check : Rules Request
by_check = record {
  Asks = AsksBy Says (λ request. Some request);
  Misfits = SayNoName;
  source = λ request. text_source request.deck;
  Done = λ request program bytes old new. Accepts request old new;
  Fails = λ request program bytes old new. Refuses request program old new;
}
