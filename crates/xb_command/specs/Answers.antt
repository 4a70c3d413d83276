-- What words say by the table of a program, or why they choose nothing.
use Rattle.std.specs.Prelude.{ℕ, ◌≡◌, ◌≢◌, ◌||◌, ◌==◌, nat_lt, if◌then◌else◌, List, [], map, take, Some, None}
use Rattle.clap.specs.Faults.{fault_of}
use Rattle.clap.specs.Kinds.{IsAmong}
use Rattle.clap.specs.Simple.{App, matches_of}
use Rattle.clap.specs.Walk.{Row, Text}
use Rattle.clap.specs.declared.error.kind.ErrorKind.{ErrorKind}
use Rattle.clap.specs.declared.error.kind.ErrorKind.TheVariants.{DisplayHelp, DisplayVersion, OutOfMemory}
use Rattle.xb_command.specs.Commands.{texts_of}
use Rattle.xb_command.specs.Given.{IsTaken}
use Rattle.xb_command.specs.Judging.{breach_in}
use Rattle.xb_command.specs.Tables.{command_by}
use Rattle.xb_command.specs.declared.asking.Answer.{Answer}
use Rattle.xb_command.specs.declared.asking.Answer.TheVariants as answer
use Rattle.xb_command.specs.declared.table.Call.{Call}

-- a byte as it is told in a line: `?` (63) for a control character
abbrev pub in_line : ℕ → ℕ
in_line byte = if nat_lt byte 32 || byte == 127 then 63 else byte

-- it is a text without control characters
abbrev pub IsOneLine : List ℕ → Type 0
IsOneLine line = (text : List ℕ) × (line ≡ map in_line text)

-- the words of a call are taken, and say this: clap takes them, and nothing is wrong with them beside each other
pub record Takes (call : Call) (rows : List Row) : Type 0 where
  pub taken : IsTaken (command_by call.program.now) (texts_of call.words.now)
  pub rows_are : rows ≡ matches_of (command_by call.program.now) (texts_of call.words.now)
  pub fitting : breach_in rows call ≡ None

-- the answer to words at which clap has one of these kinds of error
abbrev pub AnswersKinds : List ErrorKind → Answer → Type 0
AnswersKinds kinds answer.NoMemory = Unit {0}
AnswersKinds kinds answer.Help = IsAmong DisplayHelp kinds
AnswersKinds kinds answer.Version = IsAmong DisplayVersion kinds
AnswersKinds kinds (answer.Wrong kind reason) = IsAmong kind kinds × IsOneLine reason.items
AnswersKinds kinds _ = ⊥

-- the answer to an error of this kind
abbrev pub AnswersError : ErrorKind → Answer → Type 0
AnswersError kind answer.NoMemory = Unit {0}
AnswersError kind answer.Help = kind ≡ DisplayHelp
AnswersError kind answer.Version = kind ≡ DisplayVersion
AnswersError kind (answer.Wrong told reason) = (kind ≡ told) × (told ≢ OutOfMemory) × IsOneLine reason.items
AnswersError kind _ = ⊥

-- clap refuses the words, and this is the answer to a beginning of them
abbrev pub IsRefusal : App → List Text → Answer → Type 0
IsRefusal command words a = (fault_of command words ≢ [])
    × ((count : ℕ) × AnswersKinds (fault_of command (take count words)) a)

-- why the words of a call choose nothing: clap refuses them; or it takes them, and this is wrong with them beside each
-- other
abbrev pub IsAnswer : Call → Answer → Type 0
IsAnswer call answer.NoMemory = Unit {0}
IsAnswer call (answer.Against breach) = IsTaken (command_by call.program.now) (texts_of call.words.now)
    × (breach_in (matches_of (command_by call.program.now) (texts_of call.words.now)) call ≡ Some breach)
IsAnswer call other = IsRefusal (command_by call.program.now) (texts_of call.words.now) other
