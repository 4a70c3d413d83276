-- What a caller hears on a line by itself, as signals.
use Rattle.std.specs.Prelude.{ℕ, ◌==◌, nat_lt, if◌then◌else◌, Option, Some, None, true, false}
use Rattle.xb_model.specs.declared.digit.TheConstants.{DIGITS}
use Rattle.xb_model.specs.declared.signal.Signal.{Signal}
use Rattle.xb_model.specs.declared.signal.Signal.TheVariants as signal
use Rattle.xb_model.specs.declared.signal.TheConstants.{MOST_PULSES}
use Rattle.xb_model.specs.Numbers.{digit_of_count}
use Rattle.xb_structs.specs.declared.heard_signal.HeardSignal.{HeardSignal}
use Rattle.xb_structs.specs.declared.heard_signal.HeardSignal.TheVariants.{Seizure, Digit, MutilatedDigit, TimeOut, Release}

-- the pulses of a digit, 10 for 0
abbrev pub pulses_of : ℕ → ℕ
pulses_of digit = if digit == 0 then MOST_PULSES else digit

-- the signal of a digit, and of one that cannot be told
abbrev pub digit_signal : Option ℕ → Signal
digit_signal None = signal.Digit 0 true
digit_signal (Some digit) = signal.Digit (pulses_of digit) false

-- what the register is told; nothing of a digit over 9
abbrev pub signal_in : HeardSignal → Option Signal
signal_in Seizure = Some signal.Seize
signal_in (Digit digit) = if nat_lt digit DIGITS then Some (digit_signal (Some digit)) else None
signal_in MutilatedDigit = Some (digit_signal None)
signal_in TimeOut = Some signal.TimeOut
signal_in Release = Some signal.Release

-- a signal as a caller tells it who hears digits and no pulses
abbrev pub as_heard : Signal → Signal
as_heard signal.Seize = signal.Seize
as_heard (signal.Digit count bad) = digit_signal (digit_of_count count bad)
as_heard signal.TimeOut = signal.TimeOut
as_heard signal.Release = signal.Release
as_heard signal.Close = signal.Close
