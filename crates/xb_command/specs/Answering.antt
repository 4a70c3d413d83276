-- What is told of words that choose nothing, and what a program did by its status.
use Rattle.std.specs.Prelude.{ℕ, ◌≡◌, ◌⊎◌, ◌≤◌, ◌++◌, List, [], ◌∷◌, codes, map, Option}
use Rattle.std.specs.Borrow.{Bor}
use Rattle.std.specs.Io.KnownBytes.{Appends, Keeps}
use Rattle.clap.specs.Walk.{Text}
use Rattle.xb_text.specs.Writing.{AppendsBeginning}
use Rattle.xb_command.specs.Answers.{in_line}
use Rattle.xb_command.specs.Telling.{no_memory_line}
use Rattle.xb_command.specs.Usage.{help_by, named, or_names}
use Rattle.xb_command.specs.declared.asking.Answer.{Answer}
use Rattle.xb_command.specs.declared.asking.Answer.TheVariants as answer
use Rattle.xb_command.specs.declared.asking.Misfit.{Misfit}
use Rattle.xb_command.specs.declared.judging.Breach.{Breach}
use Rattle.xb_command.specs.declared.judging.Breach.TheVariants.{Beside, Lacks, Shown, Typed}
use Rattle.xb_command.specs.declared.table.Program.{Program}
use Rattle.xb_command.specs.declared.table.TheConstants.{VERSION}
use Rattle.xb_command.specs.declared.telling.TheConstants.{DONE, FAULT, WORDS_REFUSED}

-- what an option wants
abbrev pub wants_text : List (Bor Text) → Text
wants_text [] = []
wants_text (first ∷ rest) = codes " wants " ++ (named first.now ++ or_names rest)

abbrev pub lacks_text : Text → List (Bor Text) → Text
lacks_text name wants = named name ++ wants_text wants

abbrev pub beside_text : Text → Text → Text
beside_text name other = named name ++ codes " and " ++ named other ++ codes " do not go together"

-- what is wrong with words beside each other
abbrev pub breach_text : Breach → Text
breach_text (Lacks name wants) = lacks_text name.now wants.now
breach_text (Beside name other) = beside_text name.now other.now
breach_text Typed = codes "standard input is a terminal: name a file, or - to read what is typed"
breach_text Shown =
    codes "standard output is a terminal, and sound is no text: write it to a file, as in > call.wav"

abbrev pub why_text : Misfit → Text
why_text misfit = codes "' for '" ++ named misfit.option.now ++ codes "': " ++ misfit.reason.now

-- which value is none, and why
abbrev pub misfit_text : Misfit → Text
misfit_text misfit = codes "invalid value '" ++ map in_line misfit.value.now ++ why_text misfit

abbrev pub answer_text : Answer → Text
answer_text (answer.Wrong kind reason) = reason.items
answer_text (answer.Against breach) = breach_text breach
answer_text (answer.Unfit misfit) = misfit_text misfit
answer_text _ = []

-- where more is said, and how the program is called where that is fixed
abbrev pub closing_text : Program → Text
closing_text program = codes "; " ++ program.name.now ++ codes " --help says more\n" ++ program.usage.now

-- the line of words that are wrong
abbrev pub answer_line : Program → Answer → Text
answer_line program a = program.name.now ++ codes ": " ++ answer_text a ++ closing_text program

-- the line of the version
abbrev pub version_by : Program → Text
version_by program = program.name.now ++ codes " " ++ VERSION.now ++ codes "\n"

-- a text was written, or its beginning
pub record TellsText (text : Text) (out out_after : Option Text) (status : ℕ) : Type 0 where
  pub statuses : status ≤ FAULT
  pub done : status ≡ DONE → Appends out out_after text
  pub output : AppendsBeginning out out_after text

-- a text that was asked for was written, or its beginning, or that memory ran out
pub record TellsAsked (program : Program) (text : Text) (out out_after err err_after : Option Text) (status : ℕ)
    : Type 0 where
  pub statuses : status ≤ FAULT
  pub done : status ≡ DONE → Appends out out_after text × Keeps err err_after
  pub output : AppendsBeginning out out_after text
  pub errors : AppendsBeginning err err_after (no_memory_line program.name.now)

-- the line of words that are wrong was told, or that memory ran out
abbrev pub TellsWrong : Program → Answer → Option Text → Option Text → ℕ → Type 0
TellsWrong program a err err_after status =
    ((status ≡ WORDS_REFUSED) × AppendsBeginning err err_after (answer_line program a))
    ⊎ ((status ≡ FAULT) × AppendsBeginning err err_after (no_memory_line program.name.now))

-- what is told of an answer
abbrev pub TellsAnswer : Program → Answer → Option Text → Option Text → Option Text → Option Text → ℕ → Type 0
TellsAnswer program answer.Help out out_after err err_after status =
    TellsAsked program (help_by program) out out_after err err_after status
TellsAnswer program answer.Version out out_after err err_after status =
    TellsAsked program (version_by program) out out_after err err_after status
TellsAnswer program answer.NoMemory out out_after err err_after status = (status ≡ FAULT)
    × Keeps out out_after × AppendsBeginning err err_after (no_memory_line program.name.now)
TellsAnswer program a out out_after err err_after status =
    Keeps out out_after × TellsWrong program a err err_after status
