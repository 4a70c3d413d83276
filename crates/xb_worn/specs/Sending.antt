-- Calls as a worn dial with faults sends them.
use Rattle.std.specs.Prelude.{◌≡◌, ℕ, zero, suc, ◌+◌, List, [], ◌∷◌, ◌++◌, Option, Some, None}
use Rattle.xb_calls.specs.Calls.{DialledCall}
use Rattle.xb_calls.specs.Dialling.{pulse_count}
use Rattle.xb_chance.specs.Words.{state_after, word_of}
use Rattle.xb_worn.specs.declared.fault.DigitFault.{DigitFault}
use Rattle.xb_worn.specs.declared.fault.DigitFault.TheVariants.{Pause, Flash}
use Rattle.xb_worn.specs.declared.fault.DigitPlace.{DigitPlace}
use Rattle.xb_worn.specs.declared.fault.Fault.{Fault}
use Rattle.xb_worn.specs.declared.fault.PulseFault.{PulseFault}
use Rattle.xb_worn.specs.declared.fault.PulseFault.TheVariants.{Break, Lost, Extra}
use Rattle.xb_worn.specs.declared.pulse.SentPulse.{SentPulse}
use Rattle.xb_worn.specs.declared.wear.Wear.{Wear}
use Rattle.xb_worn.specs.Faults.{digit_fault, digit_place, preliminary_of, pulse_fault, pulse_place}
use Rattle.xb_worn.specs.SentCalls.{SentCall, pulse_of, sent_call}
use Rattle.xb_worn.specs.Wears.{worn_pulse}

-- a pulse as its fault sends it: with another break, not at all, or twice
abbrev pub with_fault : Option PulseFault → SentPulse → List SentPulse
with_fault None pulse = pulse ∷ []
with_fault (Some (Break ms)) pulse = pulse_of ms pulse.make_ms ∷ []
with_fault (Some Lost) pulse = []
with_fault (Some Extra) pulse = pulse ∷ pulse ∷ []

-- n pulses of a digit, with so many before them
unfoldable pub pulses_from : Wear → List Fault → DigitPlace → ℕ → ℕ → ℕ → List SentPulse
pulses_from wear faults place state before zero = []
pulses_from wear faults place state before (suc n) =
    with_fault (pulse_fault (pulse_place place (before + 1)) faults) (worn_pulse wear state before)
    ++ pulses_from wear faults place state (before + 1) n

-- pulses whose last make is a pause
abbrev pub ended : ℕ → List SentPulse → List SentPulse
ended pause_ms [] = []
ended pause_ms (pulse ∷ []) = pulse_of pulse.break_ms pause_ms ∷ []
ended pause_ms (pulse ∷ next ∷ more) = pulse ∷ ended pause_ms (next ∷ more)

-- the pause after a digit
abbrev pub pause_after : Option DigitFault → ℕ → ℕ
pause_after None pause_ms = pause_ms
pause_after (Some (Pause ms)) pause_ms = ms
pause_after (Some (Flash ms)) pause_ms = pause_ms

-- a flash after it: a break, and a make as long as a pause
abbrev pub flash_after : Option DigitFault → ℕ → List SentPulse
flash_after None pause_ms = []
flash_after (Some (Pause ms)) pause_ms = []
flash_after (Some (Flash ms)) pause_ms = pulse_of ms pause_ms ∷ []

-- a digit: as many pulses as it has, the pause, and a flash
abbrev pub sent_digit : Wear → List Fault → DigitPlace → ℕ → ℕ → List SentPulse
sent_digit wear faults place state digit =
    let fault = digit_fault place faults in
    ended (pause_after fault wear.speed.pause_ms) (pulses_from wear faults place state 0 (pulse_count digit))
    ++ flash_after fault wear.speed.pause_ms

-- the digits of a call from the one of a number on; each has for its state the next word of the call's
abbrev pub sent_digits : Wear → List Fault → ℕ → ℕ → ℕ → List ℕ → List SentPulse
sent_digits wear faults call state number [] = []
sent_digits wear faults call state number (digit ∷ digits) =
    let next : ℕ = state_after state 1 in
    sent_digit wear faults (digit_place call number) (word_of next) digit
    ++ sent_digits wear faults call next (number + 1) digits

-- a preliminary pulse before them: a break, and a make as long as a pause
abbrev pub preliminary : Option ℕ → ℕ → List SentPulse
preliminary None pause_ms = []
preliminary (Some ms) pause_ms = pulse_of ms pause_ms ∷ []

-- the pulses of the call of a number
abbrev pub sent_pulses : Wear → List Fault → ℕ → ℕ → List ℕ → List SentPulse
sent_pulses wear faults number state digits =
    preliminary (preliminary_of number faults) wear.speed.pause_ms
    ++ sent_digits wear faults number state 1 digits

-- with some faults the call of this number is sent as with all
abbrev pub SendsAsWith : ℕ → List Fault → List Fault → Type 0
SendsAsWith number all some =
    (wear : Wear) (state : ℕ) (digits : List ℕ)
    → sent_pulses wear some number state digits ≡ sent_pulses wear all number state digits

-- the call of a number
abbrev pub call_sent : Wear → List Fault → ℕ → ℕ → DialledCall → SentCall
call_sent wear faults number state call =
    sent_call call.line wear.speed.seize_ms (sent_pulses wear faults number state call.digits)

-- the calls from the one of a number on; each has for its state the next word of the seed
abbrev pub sent_calls : Wear → List Fault → ℕ → ℕ → List DialledCall → List SentCall
sent_calls wear faults state number [] = []
sent_calls wear faults state number (call ∷ calls) =
    let next : ℕ = state_after state 1 in
    call_sent wear faults number (word_of next) call ∷ sent_calls wear faults next (number + 1) calls

-- all calls as they are sent
abbrev pub sent : Wear → List Fault → List DialledCall → List SentCall
sent wear faults calls = sent_calls wear faults wear.seed 1 calls
