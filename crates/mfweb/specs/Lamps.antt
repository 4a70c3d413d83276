-- What is known of a line, as lamps show it.
use Rattle.std.specs.Prelude.{◌≡◌, ℕ, ◌≤◌, List, map, take, false}
use Rattle.xb_model.specs.TwoOfFive.{pattern_of_count}
use Rattle.xb_pulse.specs.Plain.{plain_of as pulse_numbers}
use Rattle.xb_register.specs.declared.state.Phase.{Phase as RegisterPhase}
use Rattle.xb_register.specs.declared.state.Phase.TheVariants.{OnHook, Listening, Done}
use Rattle.xb_register.specs.Plain.{plain_of as register_numbers}
use Rattle.xb_structs.specs.declared.line.PlainLine.{PlainLine}
use Rattle.xb_structs.specs.HeardSignals.{pulses_of}
use Rattle.xb_structs.specs.Hearing.{digits_so_far}
use Rattle.xb_structs.specs.Lines.{pulse_in, register_in}
use Rattle.xb_structs.specs.Signals.{bits_of}
use Rattle.mfweb.specs.declared.lamps.WebDigit.{WebDigit}
use Rattle.mfweb.specs.declared.lamps.WebLamps.{WebLamps}

-- the two of five elements of a digit, which are those of its pulses
abbrev pub elements_of : ℕ → List ℕ
elements_of digit = bits_of (pattern_of_count (pulses_of digit) false)

abbrev pub lit_digit : ℕ → WebDigit
lit_digit digit = record { value = digit; elements = elements_of digit }

-- the lamps show what is known of a line: where its loop and its attempt stand, and the digits of an attempt that has no
-- outcome yet
pub record AreLamps (line : PlainLine) (lamps : WebLamps) : Type 0 where
  pub entries : lamps.entries ≡ line.entries
  pub phase : let pulse = pulse_numbers (pulse_in line.pulse) in lamps.phase ≡ pulse.phase
  pub breaks : let pulse = pulse_numbers (pulse_in line.pulse) in lamps.breaks ≡ pulse.breaks
  pub attempt : let register = register_numbers (register_in line.register) in lamps.attempt ≡ register.phase
  pub digits : take lamps.count lamps.digits ≡ map lit_digit (digits_so_far (register_in line.register))
  pub few : lamps.count ≤ 10

-- 1 where a digit is heard by the register in this phase
abbrev pub listens : RegisterPhase → ℕ
listens OnHook = 0
listens (Listening digits) = 1
listens Done = 0
