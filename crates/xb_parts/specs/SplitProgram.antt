-- What a split does.
use Rattle.std.specs.Prelude.{ℕ, Bool, List, Option, Err, Ok}
use Rattle.std.specs.Io.KnownBytes.{Keeps}
use Rattle.xb_command.specs.Files.{Bytes}
use Rattle.xb_command.specs.Programs.{Streams}
use Rattle.xb_command.specs.Telling.{Tells}
use Rattle.xb_command.specs.Works.{AsksBy, AsksNothing, Rules}
use Rattle.xb_command.specs.declared.asking.Misfit.{Misfit}
use Rattle.xb_command.specs.declared.table.Call.{Call}
use Rattle.xb_command.specs.declared.table.Program.{Program}
use Rattle.xb_command.specs.declared.work.Source.TheVariants as source
use Rattle.xb_parts.specs.SplitOptions.{Say, request_of}
use Rattle.xb_parts.specs.PartDecks.{Decks}
use Rattle.xb_parts.specs.SplitFaults.{Delivers}
use Rattle.xb_parts.specs.declared.split_fault.SplitFault.{SplitFault}
use Rattle.xb_parts.specs.declared.split_words.SplitRequest.{SplitRequest}
use Rattle.xb_parts.specs.FaultTexts.{split_text}

-- what is known of the folders of parts: whether one has anything in it, and what a deck has that was just made; then
-- the decks that have their names, and the list of each folder before and after
pub record Folders : Type 0 where
  pub has_any : List ℕ → Option Bool
  pub fresh : Option (List ℕ)
  pub named : List ℕ → Decks
  pub before : List ℕ → Option (List ℕ)
  pub after : List ℕ → Option (List ℕ)

-- the words of a call ask for this split
abbrev pub Asks : Call → SplitRequest → Type 0
Asks = AsksBy Say request_of

-- they are taken, and do not name a deck and a folder
abbrev pub AskNothing : Call → Misfit → Type 0
AskNothing call misfit = AsksNothing Say request_of call

-- the decks of all parts and their list have their names
pub record SplitsDeck (folders : Folders) (request : SplitRequest) (bytes : Bytes) (old new : Streams) : Type 0 where
  pub split : Delivers (bytes request.big.now) (folders.has_any request.folder.now) folders.fresh request.parts (Ok tt)
      (folders.named request.folder.now) (folders.before request.folder.now) (folders.after request.folder.now)
  pub output : Keeps old.output new.output
  pub quiet : Keeps old.errors new.errors

-- there was a fault, and a line says so
pub record HasFault (folders : Folders) (request : SplitRequest) (program : Program) (bytes : Bytes) (old new : Streams)
    : Type 0 where
  pub fault : SplitFault
  pub split : Delivers (bytes request.big.now) (folders.has_any request.folder.now) folders.fresh request.parts
      (Err fault) (folders.named request.folder.now) (folders.before request.folder.now)
      (folders.after request.folder.now)
  pub output : Keeps old.output new.output
  pub line : Tells program.name.now (split_text fault) old.errors new.errors

-- what the words ask for, and what is done; the input is not read
abbrev pub by_split : Folders → Rules SplitRequest
by_split folders = record {
  Asks = Asks;
  Misfits = AskNothing;
  source = λ request. source.Input;
  Done = λ request program bytes old new. SplitsDeck folders request bytes old new;
  Fails = HasFault folders;
}
