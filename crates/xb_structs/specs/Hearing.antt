-- What a line that is told what was heard on it gives, and the state in which that leaves it.
use Rattle.std.specs.Prelude.{◌≡◌, ℕ, ◌+◌, ◌<◌, Bool, true, false, if◌then◌else◌, List, [], ◌∷◌, ◌++◌, Result, Ok, Err, Some, None, fold, length, map, take}
use Rattle.xb_model.specs.declared.stage.TheConstants.{MOST_OUTPUTS}
use Rattle.xb_model.specs.declared.signal.Signal.{Signal}
use Rattle.xb_pulse.specs.declared.state.Phase.{Phase as PulsePhase}
use Rattle.xb_pulse.specs.declared.state.Phase.TheVariants as pulse
use Rattle.xb_register.specs.declared.state.Phase.{Phase as RegisterPhase}
use Rattle.xb_register.specs.declared.state.Phase.TheVariants as register
use Rattle.xb_register.specs.Machine.{outcomes_by}
use Rattle.xb_routes.specs.Table.{Table}
use Rattle.xb_serial.specs.Entrances.{marks_of_signal, marks_of_signals, outcomes_from, signal_machine, state_after_signal}
use Rattle.xb_structs.specs.declared.heard_signal.HeardSignal.{HeardSignal}
use Rattle.xb_structs.specs.declared.heard_signal.HeardSignal.TheVariants.{Seizure, Digit, MutilatedDigit, TimeOut, Release}
use Rattle.xb_structs.specs.declared.line.PlainLine.{PlainLine}
use Rattle.xb_structs.specs.declared.mark.PlainMark.{PlainMark}
use Rattle.xb_structs.specs.declared.not_heard.NotHeard.{NotHeard}
use Rattle.xb_structs.specs.declared.not_heard.NotHeard.TheVariants as why
use Rattle.xb_structs.specs.declared.table.PlainTable.{PlainTable}
use Rattle.xb_structs.specs.HeardSignals.{signal_in}
use Rattle.xb_structs.specs.Lines.{pulse_in, register_in, state_in}
use Rattle.xb_structs.specs.Marks.{mark_on}
use Rattle.xb_structs.specs.Rows.{line_in}
use Rattle.xb_structs.specs.Tables.{Holds, IsOpen}
use Rattle.xb_structs.specs.Taking.{counted}

-- the record of a line has ended
abbrev pub is_closed : PulsePhase → Bool
is_closed pulse.OnHook = false
is_closed (pulse.BetweenTrains total) = false
is_closed (pulse.InBreak total tally) = false
is_closed (pulse.InMake total tally) = false
is_closed (pulse.TimedOut total) = false
is_closed pulse.Closed = true

-- an attempt has begun, and the line was not released since
abbrev pub is_seized : RegisterPhase → Bool
is_seized register.OnHook = false
is_seized (register.Listening digits) = true
is_seized register.Done = true

-- the digits of an attempt that has no outcome yet
abbrev pub digits_so_far : RegisterPhase → List ℕ
digits_so_far register.OnHook = []
digits_so_far (register.Listening digits) = digits
digits_so_far register.Done = []

-- a seizure comes on a line that is not seized, and anything else on one that is
abbrev pub is_due : HeardSignal → Bool → Result (Unit {0}) NotHeard
is_due Seizure seized = if seized then Err why.Seized else Ok tt
is_due (Digit digit) seized = if seized then Ok tt else Err why.NotSeized
is_due MutilatedDigit seized = if seized then Ok tt else Err why.NotSeized
is_due TimeOut seized = if seized then Ok tt else Err why.NotSeized
is_due Release seized = if seized then Ok tt else Err why.NotSeized

-- on a line that is closed nothing does
abbrev pub is_fit : PlainLine → HeardSignal → Result (Unit {0}) NotHeard
is_fit line heard =
    if is_closed (pulse_in line.pulse) then Err why.Closed else is_due heard (is_seized (register_in line.register))

-- by a table: the line is in the state after the signal, and so many at the front of the room are its marks
pub record HearsSignal (table : Table) (number : ℕ) (old new : PlainLine) (signal : Signal) (room : List PlainMark) (count : ℕ) : Type 0 where
  pub state : state_in new ≡ state_after_signal table (state_in old) signal
  pub marks : take count room ≡ map (mark_on number) (marks_of_signal table (register_in old.register) signal)
  pub entries : new.entries ≡ counted (old.entries + length (outcomes_by table.plan (register_in old.register) signal))

-- what a line knows and has given is what the chain makes of these signals on it, by a table
pub record HasHeard (table : Table) (number : ℕ) (line : PlainLine) (signals : List Signal) (marks : List PlainMark) : Type 0 where
  pub state : state_in line ≡ fold (signal_machine table).next (signal_machine table).start signals
  pub given : marks ≡ map (mark_on number) (marks_of_signals table signals)
  pub entries : line.entries ≡ counted (length (outcomes_from table register.OnHook signals))

-- what was heard is taken, by an open table: by the table that it holds, so many marks at the front of the room
-- are those of its signal, on its line, and the line has heard one signal more
pub record Hears (plain : PlainTable) (number : ℕ) (old new : PlainLine) (heard : HeardSignal) (room : List PlainMark) (count : ℕ) : Type 0 where
  pub is_open : IsOpen plain
  pub line : line_in number ≡ Some number
  pub fit : is_fit old heard ≡ Ok tt
  pub signal : Signal
  pub says : signal_in heard ≡ Some signal
  pub hears : (table : Table) → Holds plain table → HearsSignal table number old new signal room count
  pub goes_on : (table : Table) → Holds plain table → (signals : List Signal) (marks : List PlainMark)
      → HasHeard table number old signals marks → HasHeard table number new (signals ++ signal ∷ []) (marks ++ take count room)

-- it is a signal on a line, and the table is open
pub record IsSignal (plain : PlainTable) (number : ℕ) (heard : HeardSignal) : Type 0 where
  pub is_open : IsOpen plain
  pub line : line_in number ≡ Some number
  pub signal : Signal
  pub says : signal_in heard ≡ Some signal

-- a signal that does not fit the line as it stands
abbrev pub IsUnfit : NotHeard → PlainTable → ℕ → PlainLine → HeardSignal → Type 0
IsUnfit refusal plain number line heard = IsSignal plain number heard × (is_fit line heard ≡ Err refusal)

-- a signal that fits, and gives more marks than there is room for; 24 are always enough
pub record LacksRoom (plain : PlainTable) (number : ℕ) (line : PlainLine) (heard : HeardSignal) (room : ℕ) : Type 0 where
  pub is : IsSignal plain number heard
  pub fit : is_fit line heard ≡ Ok tt
  pub few : room < MOST_OUTPUTS
  pub less : (table : Table) → Holds plain table
      → room < length (marks_of_signal table (register_in line.register) is.signal)

-- when each refusal comes
abbrev pub IsNotHeard : NotHeard → PlainTable → ℕ → PlainLine → HeardSignal → ℕ → Type 0
IsNotHeard why.NotOpened table number line heard room = IsOpen table → ⊥
IsNotHeard why.Line table number line heard room = IsOpen table × (line_in number ≡ None)
IsNotHeard why.Digit table number line heard room =
    IsOpen table × (line_in number ≡ Some number) × (signal_in heard ≡ None)
IsNotHeard why.Closed table number line heard room = IsUnfit why.Closed table number line heard
IsNotHeard why.Seized table number line heard room = IsUnfit why.Seized table number line heard
IsNotHeard why.NotSeized table number line heard room = IsUnfit why.NotSeized table number line heard
IsNotHeard why.Room table number line heard room = LacksRoom table number line heard room
