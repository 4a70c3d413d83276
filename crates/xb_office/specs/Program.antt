-- What the program did, by its status.
use Rattle.std.specs.Prelude.{ℕ, ◌≡◌, ◌≢◌, ◌⊎◌, ◌≤◌, Bool, true, false, List, [], ◌∷◌, None, Some, Option, Err, Ok, codes}
use Rattle.std.specs.Borrow.{Bor}
use Rattle.std.specs.Io.KnownBytes.{Keeps}
use Rattle.clap.specs.Faults.{fault_of}
use Rattle.clap.specs.Simple.{App, matches_of, with_rule}
use Rattle.clap.specs.Walk.{Rule, Text}
use Rattle.xb_command.specs.Programs.{OnlyTells, Streams}
use Rattle.xb_command.specs.Tables.{new_command, rule_by_value}
use Rattle.xb_command.specs.Telling.{Tells, no_memory_line}
use Rattle.xb_command.specs.Works.{Rules, text_source}
use Rattle.xb_command.specs.declared.asking.Answer.{Answer}
use Rattle.xb_command.specs.declared.asking.Answer.TheVariants as answer
use Rattle.xb_command.specs.declared.table.Value.TheVariants as value
use Rattle.xb_command.specs.declared.telling.TheConstants.{DONE, FAULT, WORDS_REFUSED}
use Rattle.xb_office.specs.declared.fault.OfficeFault.{OfficeFault}
use Rattle.xb_office.specs.declared.options.Asked.{Asked}
use Rattle.xb_office.specs.declared.options.Options.{Options}
use Rattle.xb_office.specs.declared.words.Said.{Said}
use Rattle.xb_office.specs.DeckPage.{Delivers, Reads}
use Rattle.xb_office.specs.Options as asking
use Rattle.xb_office.specs.FaultTexts.{office_text}

-- exactly the page was written
pub record WritesPage (old new : Streams) : Type 0 where
  pub page : Delivers old.input (Ok tt) old.output new.output
  pub read : Reads (Ok tt) old.input new.input
  pub quiet : Keeps old.errors new.errors

-- there was a fault, of which a line was told, or the beginning of it
pub record HasFault (name : Text) (old new : Streams) : Type 0 where
  pub fault : OfficeFault
  pub page : Delivers old.input (Err fault) old.output new.output
  pub read : Reads (Err fault) old.input new.input
  pub line : Tells name (Some (office_text fault)) old.errors new.errors

-- what the words ask for, what is read, and what is done
abbrev pub by_bank : Rules Asked
by_bank = record {
  Asks = asking.Asks;
  Misfits = λ call misfit. asking.AskForNothing call;
  source = λ asked. text_source asked.deck;
  Done = λ asked program bytes old new. WritesPage old new;
  Fails = λ asked program bytes old new. HasFault program.name.now old new;
}

-- the program's name, and the line for options that are refused
abbrev pub program : Text
program = codes "mfbank"

abbrev pub usage_line : Text
usage_line = codes "mfbank: usage: mfbank [--senders N] [--ring N]\n"

-- an option that takes a number from 1 to the greatest, or else its default
abbrev pub size_rule : Text → ℕ → Text → Rule
size_rule name greatest default = record (rule_by_value name (value.Number 1 greatest)) { defaults = default ∷ [] }

-- `mfbank [--senders N] [--ring N]`
abbrev pub command_of_options : App
command_of_options = with_rule (with_rule (new_command program) (size_rule (codes "senders") 8 (codes "4")))
    (size_rule (codes "ring") 1024 (codes "64"))

-- clap takes the words, and they ask for so many senders and rings of so many items
abbrev pub Asks : List Text → ℕ → ℕ → Type 0
Asks words senders ring = (deck : Option (Bor Text)) × (fault_of command_of_options words ≡ [])
    × ((said : Said) × asking.Say (matches_of command_of_options words) said
    × (asking.chosen_by said ≡ Some (deck, (senders, ring))))

-- clap refuses the words, or a number is out of its range
abbrev pub AreRefused : List Text → Type 0
AreRefused words = (fault_of command_of_options words ≢ [])
    ⊎ ((said : Said) × asking.Say (matches_of command_of_options words) said × (asking.chosen_by said ≡ None))

-- memory ran out while words were read
abbrev pub is_no_memory : Answer → Bool
is_no_memory answer.NoMemory = true
is_no_memory a = false

-- the options ask for this, and exactly the page was written
pub record AskForPage (words : List Text) (old new : Streams) : Type 0 where
  pub options : Options
  pub asks : Asks words options.senders options.ring
  pub written : WritesPage old new

-- they ask for this, and there was a fault
pub record AskInVain (words : List Text) (old new : Streams) : Type 0 where
  pub options : Options
  pub asks : Asks words options.senders options.ring
  pub fault : HasFault program old new

-- what the program did with options alone and its streams, by its status
pub record AttendsBank (words : List Text) (old new : Streams) (status : ℕ) : Type 0 where
  pub statuses : status ≤ WORDS_REFUSED
  pub done : status ≡ DONE → AskForPage words old new
  pub fault : status ≡ FAULT → AskInVain words old new ⊎ OnlyTells (no_memory_line program) old new
  pub refused : status ≡ WORDS_REFUSED → AreRefused words × OnlyTells usage_line old new
