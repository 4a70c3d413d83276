-- What a program did with its words, its files and its streams, by its status.
use Rattle.std.specs.Prelude.{ℕ, ◌≡◌, ◌⊎◌, ◌≤◌, List, Option, Some, None, if◌then◌else◌, codes}
use Rattle.std.specs.Borrow.{Bor}
use Rattle.std.specs.Str.{bytes_eq}
use Rattle.std.specs.Io.KnownBytes.{Appends, Keeps}
use Rattle.clap.specs.Walk.{Row, Text}
use Rattle.xb_text.specs.Writing.{AppendsBeginning}
use Rattle.xb_command.specs.Answering.{answer_line, version_by}
use Rattle.xb_command.specs.Answers.{IsAnswer, Takes}
use Rattle.xb_command.specs.FaultTexts.{open_text}
use Rattle.xb_command.specs.Files.{Bytes, IsNoText, IsUnreadable, OpensText, ReadsBytes}
use Rattle.xb_command.specs.Programs.{OnlyTells, Streams}
use Rattle.xb_command.specs.Telling.{Tells, no_memory_line}
use Rattle.xb_command.specs.Usage.{help_by}
use Rattle.xb_command.specs.declared.asking.Answer.{Answer}
use Rattle.xb_command.specs.declared.asking.Answer.TheVariants as answer
use Rattle.xb_command.specs.declared.asking.Misfit.{Misfit}
use Rattle.xb_command.specs.declared.opening.OpenFault.{OpenFault}
use Rattle.xb_command.specs.declared.table.Call.{Call}
use Rattle.xb_command.specs.declared.table.Program.{Program}
use Rattle.xb_command.specs.declared.telling.TheConstants.{DONE, FAULT, WORDS_REFUSED}
use Rattle.xb_command.specs.declared.work.Source.{Source}
use Rattle.xb_command.specs.declared.work.Source.TheVariants as source

-- the source that a word names: standard input where there is none, or it is `-`
abbrev pub text_source : Option (Bor Text) → Source
text_source None = source.Input
text_source (Some name) = if bytes_eq name.now (codes "-") then source.Input else source.Text name

abbrev pub file_source : Option (Bor Text) → Source
file_source None = source.Input
file_source (Some name) = if bytes_eq name.now (codes "-") then source.Input else source.File name

-- a program: the words of a call ask for this, or name this value that is none; what is read; and what holds of the
-- files and the streams where it was done, and where it failed
pub record Rules (Q : Type 0) : Type 1 where
  pub Asks : Call → Q → Type 0
  pub Misfits : Call → Misfit → Type 0
  pub source : Q → Source
  pub Done : Q → Program → Bytes → Streams → Streams → Type 0
  pub Fails : Q → Program → Bytes → Streams → Streams → Type 0

-- why the words of a call choose nothing
abbrev pub IsWrong : (Call → Misfit → Type 0) → Call → Answer → Type 0
IsWrong Misfits call (answer.Unfit misfit) = Misfits call misfit
IsWrong Misfits call other = IsAnswer call other

-- what was done, by its status
pub record Runs (Done Fails : Streams → Streams → Type 0) (old new : Streams) (status : ℕ) : Type 0 where
  pub statuses : status ≤ FAULT
  pub done : status ≡ DONE → Done old new
  pub fault : status ≡ FAULT → Fails old new

-- what holds where standard input is read; or a file, and standard input is left as it was
abbrev pub FromFile : (Option Text → Type 0) → (Streams → Streams → Type 0) → Streams → Streams → Type 0
FromFile Left Does old new = Keeps old.input new.input × ((left : Option Text) × (after : Option Text) × Left left
    × Does (record old { input = left }) (record new { input = after }))

abbrev pub FromSource : Bytes → Source → (Streams → Streams → Type 0) → Streams → Streams → Type 0
FromSource bytes source.Input Does old new = Does old new
FromSource bytes (source.Text name) Does old new = FromFile (OpensText bytes name.now) Does old new
FromSource bytes (source.File name) Does old new = FromFile (ReadsBytes bytes name.now) Does old new

-- the file that is to be read was not opened, and a line says why
abbrev pub IsUnopened : Bytes → Source → OpenFault → Type 0
IsUnopened bytes source.Input fault = ⊥
IsUnopened bytes (source.Text name) fault = IsNoText bytes name.now fault
IsUnopened bytes (source.File name) fault = IsUnreadable name.now fault

pub record CannotOpen (program : Program) (bytes : Bytes) (from : Source) (old new : Streams) : Type 0 where
  pub fault : OpenFault
  pub unopened : IsUnopened bytes from fault
  pub input : Keeps old.input new.input
  pub output : Keeps old.output new.output
  pub line : Tells program.name.now (open_text fault) old.errors new.errors

-- what was done with the source, by its status
pub record PerformsBy {Q : Type 0} (rules : Rules Q) (request : Q) (program : Program) (bytes : Bytes)
    (old new : Streams) (status : ℕ) : Type 0 where
  pub statuses : status ≤ FAULT
  pub done : status ≡ DONE → FromSource bytes (rules.source request) (rules.Done request program bytes) old new
  pub fault : status ≡ FAULT → FromSource bytes (rules.source request) (rules.Fails request program bytes) old new
      ⊎ CannotOpen program bytes (rules.source request) old new

-- a text that the words ask for was written, and nothing else
pub record Gives (call : Call) (a : Answer) (text : Text) (old new : Streams) : Type 0 where
  pub asked : IsAnswer call a
  pub input : Keeps old.input new.input
  pub output : Appends old.output new.output text
  pub errors : Keeps old.errors new.errors

-- nothing was read; such a text was begun, if anything, and the line that memory ran out
pub record OnlyBegins (call : Call) (old new : Streams) : Type 0 where
  pub input : Keeps old.input new.input
  pub output : AppendsBeginning old.output new.output (help_by call.program.now)
      ⊎ AppendsBeginning old.output new.output (version_by call.program.now)
  pub errors : AppendsBeginning old.errors new.errors (no_memory_line call.program.now.name.now)

-- the words are wrong, and one line says why
pub record Refuses (Misfits : Call → Misfit → Type 0) (call : Call) (old new : Streams) : Type 0 where
  pub answer : Answer
  pub wrong : IsWrong Misfits call answer
  pub told : OnlyTells (answer_line call.program.now answer) old new

-- what the program did with its words, the files and its streams
pub record AttendsBy {Q : Type 0} (rules : Rules Q) (call : Call) (bytes : Bytes) (old new : Streams) (status : ℕ)
    : Type 0 where
  pub statuses : status ≤ WORDS_REFUSED
  pub done : status ≡ DONE
      → ((request : Q) × rules.Asks call request
      × FromSource bytes (rules.source request) (rules.Done request call.program.now bytes) old new)
      ⊎ Gives call answer.Help (help_by call.program.now) old new
      ⊎ Gives call answer.Version (version_by call.program.now) old new
  pub fault : status ≡ FAULT
      → ((request : Q) × rules.Asks call request
      × (FromSource bytes (rules.source request) (rules.Fails request call.program.now bytes) old new
      ⊎ CannotOpen call.program.now bytes (rules.source request) old new))
      ⊎ OnlyBegins call old new
  pub refused : status ≡ WORDS_REFUSED → Refuses rules.Misfits call old new

-- the words of a call are taken, and what clap matched says options that ask for this
pub record AsksBy {O Q : Type 0} (Say : List Row → O → Type 0) (asked : O → Option Q) (call : Call) (request : Q)
    : Type 0 where
  pub rows : List Row
  pub takes : Takes call rows
  pub options : O
  pub says : Say rows options
  pub asks : asked options ≡ Some request

-- they are taken, and say options that ask for nothing
pub record AsksNothing {O Q : Type 0} (Say : List Row → O → Type 0) (asked : O → Option Q) (call : Call) : Type 0 where
  pub rows : List Row
  pub takes : Takes call rows
  pub options : O
  pub says : Say rows options
  pub asks : asked options ≡ None
