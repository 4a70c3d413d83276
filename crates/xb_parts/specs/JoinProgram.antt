-- What a join does.
use Rattle.std.specs.Prelude.{Some, Err, Ok}
use Rattle.std.specs.Io.KnownBytes.{Keeps}
use Rattle.xb_command.specs.Files.{Bytes}
use Rattle.xb_command.specs.Programs.{Streams}
use Rattle.xb_command.specs.Telling.{Tells}
use Rattle.xb_command.specs.Works.{AsksBy, Rules}
use Rattle.xb_command.specs.declared.table.Program.{Program}
use Rattle.xb_command.specs.declared.work.Source.TheVariants as source
use Rattle.xb_parts.specs.JoinedFiles.{Delivers}
use Rattle.xb_parts.specs.JoinOptions.{NameNoFile, Say}
use Rattle.xb_parts.specs.declared.join_fault.JoinFault.{JoinFault}
use Rattle.xb_parts.specs.declared.join_words.JoinRequest.{JoinRequest}
use Rattle.xb_parts.specs.FaultTexts.{join_text}

-- exactly the page that the files make was written
pub record WritesPage (request : JoinRequest) (bytes : Bytes) (old new : Streams) : Type 0 where
  pub input : Keeps old.input new.input
  pub page : Delivers bytes request (Ok tt) old.output new.output
  pub quiet : Keeps old.errors new.errors

-- the files gave a fault, and a line says so
pub record HasFault (request : JoinRequest) (program : Program) (bytes : Bytes) (old new : Streams) : Type 0 where
  pub fault : JoinFault
  pub input : Keeps old.input new.input
  pub page : Delivers bytes request (Err fault) old.output new.output
  pub line : Tells program.name.now (join_text fault) old.errors new.errors

-- what the words ask for, which value is refused, and what is done; the input is not read
abbrev pub by_join : Rules JoinRequest
by_join = record {
  Asks = AsksBy Say (λ request. Some request);
  Misfits = NameNoFile;
  source = λ request. source.Input;
  Done = λ request program bytes old new. WritesPage request bytes old new;
  Fails = HasFault;
}
