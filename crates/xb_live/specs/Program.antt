-- What the program does.
use Rattle.std.specs.Prelude.{ℕ, zero, suc, ◌≡◌, ◌⊎◌, ◌++◌, List, [], codes, decimal, Option, Some, None, Result, Err, Ok}
use Rattle.std.specs.Io.KnownBytes.{Appends}
use Rattle.clap.specs.Walk.{Text}
use Rattle.xb_command.specs.Programs.{Streams}
use Rattle.xb_command.specs.Telling.{Tells}
use Rattle.xb_command.specs.Works.{Rules, text_source}
use Rattle.xb_command.specs.declared.table.Program.{Program}
use Rattle.xb_command.specs.declared.telling.TheConstants.{DONE, FAULT}
use Rattle.xb_live.specs.declared.request.Asked.{Asked}
use Rattle.xb_live.specs.declared.request.Request.{Request}
use Rattle.xb_live.specs.declared.request.Request.TheVariants.{Entries, Sound, StartedSound}
use Rattle.xb_live.specs.declared.fault.LiveFault.{LiveFault}
use Rattle.xb_live.specs.declared.fault.NoteFault.TheVariants as note
use Rattle.xb_clock.specs.Clocks.{Clock}
use Rattle.xb_live.specs.Clocks.{IsClockOf, styled}
use Rattle.xb_live.specs.Options.{Asks, AsksNothing}
use Rattle.xb_live.specs.Runs.{Runs}
use Rattle.xb_text.specs.Writing.{AppendsBeginning}
use Rattle.xb_live.specs.Starting.{asked_of}
use Rattle.xb_live.specs.SoundedDecks.{JudgesCadence, SoundsDeck}
use Rattle.xb_live.specs.FaultTexts.{live_text, note_text}

-- what is returned, where nothing is counted
abbrev pub uncounted : Result ℕ LiveFault → Result (Unit {0}) LiveFault
uncounted (Ok n) = Ok tt
uncounted (Err f) = Err f

-- what was written of a deck, by what is asked for: its entries in a form, or the sound of a line, whose cadence is
-- judged first
abbrev pub Delivers :
    Request → Result ℕ LiveFault → Option (List ℕ) → Option (List ℕ) → Option (List ℕ) → Type 0
Delivers (Entries form) result input old new =
    (clock : Clock) → IsClockOf form clock → Runs (styled form clock) input (uncounted result) old new
Delivers (Sound line cadence) result input old new =
    JudgesCadence cadence result × SoundsDeck (asked_of line None) cadence input result old new
Delivers (StartedSound line start cadence) result input old new =
    JudgesCadence cadence result × SoundsDeck (asked_of line (Some start)) cadence input result old new

-- the line that sounds, if one does
abbrev pub sounding_line : Request → Option ℕ
sounding_line (Entries form) = None
sounding_line (Sound line cadence) = Some line
sounding_line (StartedSound line start cadence) = Some line

-- the line of a note: how many keyings of a line were given up
abbrev pub note_line : ℕ → ℕ → List ℕ
note_line line given_up = codes "mflive: keyings of line " ++ (decimal line
    ++ (codes " given up for want of a start: " ++ (decimal given_up ++ codes "\n")))

-- what is told of keyings of a line that were given up: nothing where there is none
abbrev pub note_of : Option ℕ → ℕ → List ℕ
note_of None given_up = []
note_of (Some line) zero = []
note_of (Some line) (suc n) = note_line line (suc n)

-- the note could not be told, and a line was that says so
abbrev pub IsUntold : Text → Option ℕ → ℕ → Option (List ℕ) → Option (List ℕ) → Type 0
IsUntold program line given_up old new = Tells program (Some (note_text note.NoMemory)) old new
    ⊎ ((begun : Option (List ℕ)) × AppendsBeginning old begun (note_of line given_up)
    × Tells program (Some (note_text note.Write)) begun new)

-- what became of the note, and the status
abbrev pub TellsNote : Text → Option ℕ → ℕ → Option (List ℕ) → Option (List ℕ) → ℕ → Type 0
TellsNote program line given_up old new status = ((status ≡ DONE) × Appends old new (note_of line given_up))
    ⊎ ((status ≡ FAULT) × IsUntold program line given_up old new)

-- exactly what the deck says of what is asked for was written, and how many keyings were given up, if any were
pub record WritesAsked (request : Request) (old new : Streams) : Type 0 where
  pub given_up : ℕ
  pub written : Delivers request (Ok given_up) old.input old.output new.output
  pub note : Appends old.errors new.errors (note_of (sounding_line request) given_up)

-- there was a fault, and a line says so
pub record HasFault (request : Request) (program : Program) (old new : Streams) : Type 0 where
  pub fault : LiveFault
  pub written : Delivers request (Err fault) old.input old.output new.output
  pub line : Tells program.name.now (Some (live_text fault)) old.errors new.errors

-- all was written, and how many keyings were given up could not be told
pub record HasUntold (request : Request) (program : Program) (old new : Streams) : Type 0 where
  pub given_up : ℕ
  pub written : Delivers request (Ok given_up) old.input old.output new.output
  pub untold : IsUntold program.name.now (sounding_line request) given_up old.errors new.errors

abbrev pub Fails : Request → Program → Streams → Streams → Type 0
Fails request program old new = HasFault request program old new ⊎ HasUntold request program old new

-- what the words ask for, what is read, and what is done
abbrev pub by_live : Rules Asked
by_live = record {
  Asks = Asks;
  Misfits = AsksNothing;
  source = λ asked. text_source asked.deck;
  Done = λ asked program bytes old new. WritesAsked asked.request old new;
  Fails = λ asked program bytes old new. Fails asked.request program old new;
}
