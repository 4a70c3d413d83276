-- What the program does.
use Rattle.std.specs.Prelude.{Some, Err, Ok}
use Rattle.std.specs.Io.KnownBytes.{Keeps}
use Rattle.xb_command.specs.Files.{Bytes}
use Rattle.xb_command.specs.Programs.{Streams}
use Rattle.xb_command.specs.Telling.{Tells}
use Rattle.xb_command.specs.Works.{AsksBy, Rules}
use Rattle.xb_command.specs.declared.table.Program.{Program}
use Rattle.xb_command.specs.declared.work.Source.TheVariants as source
use Rattle.xb_route.specs.declared.fault.RoutingFault.{RoutingFault}
use Rattle.xb_route.specs.declared.words.Request.{Request}
use Rattle.xb_route.specs.Options.{IsUnfit, Say}
use Rattle.xb_route.specs.Routing.{Delivers}
use Rattle.xb_route.specs.FaultTexts.{routing_text}

-- exactly the lines of the numbers were written
pub record WritesLines (request : Request) (bytes : Bytes) (old new : Streams) : Type 0 where
  pub lines : Delivers bytes request old.input (Ok tt) old.output new.output
  pub quiet : Keeps old.errors new.errors

-- there was a fault, and a line says so
pub record HasFault (request : Request) (program : Program) (bytes : Bytes) (old new : Streams) : Type 0 where
  pub fault : RoutingFault
  pub lines : Delivers bytes request old.input (Err fault) old.output new.output
  pub line : Tells program.name.now (routing_text fault) old.errors new.errors

-- what the words ask for, why they ask for nothing, and what is done; the numbers are the input, if no word is one
abbrev pub by_route : Rules Request
by_route = record {
  Asks = AsksBy Say (λ request. Some request);
  Misfits = IsUnfit;
  source = λ request. source.Input;
  Done = λ request program bytes old new. WritesLines request bytes old new;
  Fails = HasFault;
}
