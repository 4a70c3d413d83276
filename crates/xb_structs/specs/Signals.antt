-- What a row tells the register, as plain numbers.
use Rattle.std.specs.Prelude.{◌≡◌, ℕ, ◌<◌, if◌then◌else◌, List, Bool, Ok, Err, length, map, take}
use Rattle.xb_model.specs.declared.signal.Signal.{Signal}
use Rattle.xb_model.specs.declared.signal.Signal.TheVariants.{Seize, Digit, TimeOut, Release, Close}
use Rattle.xb_model.specs.Rows.{LoopRow}
use Rattle.xb_model.specs.TwoOfFive.{at_rest, pattern_of_count}
use Rattle.xb_pulse.specs.Machine.{signals_by}
use Rattle.xb_structs.specs.declared.line.PlainLine.{PlainLine}
use Rattle.xb_structs.specs.declared.refusal.Refusal.{Refusal}
use Rattle.xb_structs.specs.declared.refusal.Refusal.TheVariants.{NotOpened, Line, State, Ms, Room}
use Rattle.xb_structs.specs.declared.row.PlainRow.{PlainRow}
use Rattle.xb_structs.specs.declared.row_signals.PlainSignal.{PlainSignal}
use Rattle.xb_structs.specs.declared.table.PlainTable.{PlainTable}
use Rattle.xb_structs.specs.Lines.{pulse_in}
use Rattle.xb_structs.specs.Rows.{row_in}
use Rattle.xb_structs.specs.Tables.{IsOpen}

abbrev pub bit_of : Bool → ℕ
bit_of bit = if bit then 1 else 0

-- which elements operate, by 1 and 0
abbrev pub bits_of : List Bool → List ℕ
bits_of pattern = map bit_of pattern

abbrev pub signal_of : ℕ → ℕ → Bool → List Bool → PlainSignal
signal_of kind breaks bad pattern =
    record { kind = kind; breaks = breaks; bad = bit_of bad; elements = bits_of pattern }

-- a signal that is no digit operates no element
abbrev pub bare : ℕ → PlainSignal
bare kind = record { kind = kind; breaks = 0; bad = 0; elements = bits_of at_rest }

abbrev pub plain_signal : Signal → PlainSignal
plain_signal Seize = bare 0
plain_signal (Digit count bad) = signal_of 1 count bad (pattern_of_count count bad)
plain_signal TimeOut = bare 2
plain_signal Release = bare 3
plain_signal Close = bare 4

-- the row that the numbers say tells these signals at the front of the room, so many, by an open table
pub record Hears (plain : PlainTable) (line : PlainLine) (row : PlainRow) (room : List PlainSignal) (count : ℕ) : Type 0 where
  pub is_open : IsOpen plain
  pub taken : LoopRow
  pub says : row_in row ≡ Ok taken
  pub signals : take count room ≡ map plain_signal (signals_by plain.limits (pulse_in line.pulse) taken)

-- a row of an open table that is wrong itself
abbrev pub IsWrong : PlainTable → PlainRow → Refusal → Type 0
IsWrong table row refusal = IsOpen table × (row_in row ≡ Err refusal)

-- the row, by an open table, tells more than there is room for
pub record LacksRoom (table : PlainTable) (row : PlainRow) (line : PlainLine) (room : ℕ) : Type 0 where
  pub is_open : IsOpen table
  pub taken : LoopRow
  pub says : row_in row ≡ Ok taken
  pub less : room < length (signals_by table.limits (pulse_in line.pulse) taken)

-- when each refusal comes
abbrev pub IsNotHeard : Refusal → PlainTable → PlainRow → PlainLine → ℕ → Type 0
IsNotHeard NotOpened table row line room = IsOpen table → ⊥
IsNotHeard Line table row line room = IsWrong table row Line
IsNotHeard State table row line room = IsWrong table row State
IsNotHeard Ms table row line room = IsWrong table row Ms
IsNotHeard Room table row line room = LacksRoom table row line room
