-- What the program does.
use Rattle.std.specs.Prelude.{ℕ, zero, suc, ◌≡◌, ◌⊎◌, List, [], ◌++◌, codes, decimal, Option, Some, Err, Ok}
use Rattle.std.specs.Io.KnownBytes.{Appends}
use Rattle.xb_command.specs.Files.{Bytes}
use Rattle.xb_command.specs.Programs.{Streams}
use Rattle.xb_command.specs.Telling.{Tells}
use Rattle.xb_command.specs.Works.{AsksBy, Rules, file_source}
use Rattle.xb_command.specs.declared.table.Program.{Program}
use Rattle.xb_command.specs.declared.telling.TheConstants.{DONE, FAULT}
use Rattle.xb_text.specs.Writing.{AppendsBeginning}
use Rattle.xb_tandem.specs.declared.fault.NoteFault.TheVariants as note
use Rattle.xb_tandem.specs.declared.fault.TandemFault.{TandemFault}
use Rattle.xb_tandem.specs.declared.request.Asked.{Asked}
use Rattle.xb_tandem.specs.declared.request.Form.{Form}
use Rattle.xb_tandem.specs.declared.request.Form.TheVariants as forms
use Rattle.xb_tandem.specs.Options.{AskNothing, Say, asked_by}
use Rattle.xb_tandem.specs.Relaying.{Delivers}
use Rattle.xb_tandem.specs.FaultTexts.{note_text, tandem_text}

-- the line of a note: how many calls are not in what was written
abbrev pub note_line : Form → ℕ → List ℕ
note_line forms.Page left = codes "mftandem: calls by dial pulses, which --rows prints: " ++ decimal left ++ codes "\n"
note_line forms.Json left = codes "mftandem: calls by dial pulses, which --rows prints: " ++ decimal left ++ codes "\n"
note_line forms.Rows left =
    codes "mftandem: calls that are keyed or refused, which the page has: " ++ decimal left ++ codes "\n"

-- what is told of calls that are not in what was written: nothing where there is none
abbrev pub note_of : Form → ℕ → List ℕ
note_of form zero = []
note_of form (suc n) = note_line form (suc n)

-- the note could not be told, and a line was that says so
abbrev pub IsUntold : Program → Form → ℕ → Option (List ℕ) → Option (List ℕ) → Type 0
IsUntold program form left old new = Tells program.name.now (Some (note_text note.NoMemory)) old new
    ⊎ ((begun : Option (List ℕ)) × AppendsBeginning old begun (note_of form left)
    × Tells program.name.now (Some (note_text note.Write)) begun new)

-- what became of the note, and the status
abbrev pub TellsNote : Program → Form → ℕ → Option (List ℕ) → Option (List ℕ) → ℕ → Type 0
TellsNote program form left old new status =
    ((status ≡ DONE) × Appends old new (note_of form left)) ⊎ ((status ≡ FAULT) × IsUntold program form left old new)

-- exactly the page of the keys was written
pub record WritesAll (asked : Asked) (bytes : Bytes) (old new : Streams) : Type 0 where
  pub left : ℕ
  pub page : Delivers bytes asked.table.now asked.request old.input (Ok left) old.output new.output
  pub note : Appends old.errors new.errors (note_of asked.request.form left)

-- there was a fault, and a line says so
pub record HasFault (asked : Asked) (program : Program) (bytes : Bytes) (old new : Streams) : Type 0 where
  pub fault : TandemFault
  pub page : Delivers bytes asked.table.now asked.request old.input (Err fault) old.output new.output
  pub line : Tells program.name.now (tandem_text fault) old.errors new.errors

-- all was written, and how many calls are not in it could not be told
pub record HasUntold (asked : Asked) (program : Program) (bytes : Bytes) (old new : Streams) : Type 0 where
  pub left : ℕ
  pub page : Delivers bytes asked.table.now asked.request old.input (Ok left) old.output new.output
  pub untold : IsUntold program asked.request.form left old.errors new.errors

-- what the words ask for, what is read, and what is done
abbrev pub by_tandem : Rules Asked
by_tandem = record {
  Asks = AsksBy Say asked_by;
  Misfits = AskNothing;
  source = λ asked. file_source asked.keys;
  Done = λ asked program bytes old new. WritesAll asked bytes old new;
  Fails = λ asked program bytes old new. HasFault asked program bytes old new ⊎ HasUntold asked program bytes old new;
}
