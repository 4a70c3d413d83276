-- The faults of a dial, each at one place.
use Rattle.std.specs.Prelude.{ℕ, ◌==◌, ◌&&◌, Bool, if◌then◌else◌, List, [], ◌∷◌, Option, Some, None}
use Rattle.xb_worn.specs.declared.fault.DigitFault.{DigitFault}
use Rattle.xb_worn.specs.declared.fault.DigitPlace.{DigitPlace}
use Rattle.xb_worn.specs.declared.fault.Fault.{Fault}
use Rattle.xb_worn.specs.declared.fault.Fault.TheVariants.{Pulse, Digit, Preliminary}
use Rattle.xb_worn.specs.declared.fault.PulseFault.{PulseFault}
use Rattle.xb_worn.specs.declared.fault.PulsePlace.{PulsePlace}

abbrev pub digit_place : ℕ → ℕ → DigitPlace
digit_place call digit = record { call = call; digit = digit }

abbrev pub pulse_place : DigitPlace → ℕ → PulsePlace
pulse_place place pulse = record { place = place; pulse = pulse }

abbrev pub same_digit : DigitPlace → DigitPlace → Bool
same_digit a b = (a.call == b.call) && (a.digit == b.digit)

abbrev pub same_pulse : PulsePlace → PulsePlace → Bool
same_pulse a b = same_digit a.place b.place && (a.pulse == b.pulse)

-- what a fault does to a pulse, to the end of a digit, and to a call, which is how long the break of a preliminary
-- pulse lasts
abbrev pub fault_of_pulse : PulsePlace → Fault → Option PulseFault
fault_of_pulse place (Pulse at kind) = if same_pulse at place then Some kind else None
fault_of_pulse place (Digit at kind) = None
fault_of_pulse place (Preliminary call ms) = None

abbrev pub fault_of_digit : DigitPlace → Fault → Option DigitFault
fault_of_digit place (Pulse at kind) = None
fault_of_digit place (Digit at kind) = if same_digit at place then Some kind else None
fault_of_digit place (Preliminary call ms) = None

abbrev pub fault_of_call : ℕ → Fault → Option ℕ
fault_of_call number (Pulse at kind) = None
fault_of_call number (Digit at kind) = None
fault_of_call number (Preliminary call ms) = if call == number then Some ms else None

abbrev pub or_later : {A : Type 0} → Option A → Option A → Option A
or_later None later = later
or_later (Some x) later = Some x

-- the first that a list of faults does to it
abbrev pub pulse_fault : PulsePlace → List Fault → Option PulseFault
pulse_fault place [] = None
pulse_fault place (fault ∷ faults) = or_later (fault_of_pulse place fault) (pulse_fault place faults)

abbrev pub digit_fault : DigitPlace → List Fault → Option DigitFault
digit_fault place [] = None
digit_fault place (fault ∷ faults) = or_later (fault_of_digit place fault) (digit_fault place faults)

abbrev pub preliminary_of : ℕ → List Fault → Option ℕ
preliminary_of number [] = None
preliminary_of number (fault ∷ faults) = or_later (fault_of_call number fault) (preliminary_of number faults)

-- a fault stands in the call of this number
abbrev pub stands_in : ℕ → Fault → Bool
stands_in number (Pulse at kind) = at.place.call == number
stands_in number (Digit at kind) = at.call == number
stands_in number (Preliminary call ms) = call == number
