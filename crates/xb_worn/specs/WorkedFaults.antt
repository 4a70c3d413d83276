-- Worked bad calls, at 10 pulses a second, by plan Seven and the standard limits.
use Rattle.std.specs.Prelude.{◌≡◌, ℕ, List, [], ◌∷◌, map, Some, None}
use Rattle.std.specs.List.{flat_map}
use Rattle.xb_model.specs.declared.dialled.Dialled.{Dialled}
use Rattle.xb_model.specs.declared.dialled.Dialled.TheVariants.{Number, Refused}
use Rattle.xb_model.specs.declared.plan.Plan.TheVariants.{Seven}
use Rattle.xb_model.specs.declared.reason.Reason.TheVariants.{Abandoned, Mutilated, TimedOut}
use Rattle.xb_model.specs.LawfulLimits.{standard_limits}
use Rattle.xb_model.specs.Numbers.{outcomes_of}
use Rattle.xb_model.specs.Records.{break, make, record_of}
use Rattle.xb_calls.specs.Calls.{DialledCall, call_of}
use Rattle.xb_calls.specs.Speeds.{ten_pulses_a_second}
use Rattle.xb_worn.specs.declared.fault.DigitFault.TheVariants.{Flash, Pause}
use Rattle.xb_worn.specs.declared.fault.Fault.{Fault}
use Rattle.xb_worn.specs.declared.fault.Fault.TheVariants.{Digit, Preliminary, Pulse}
use Rattle.xb_worn.specs.declared.fault.PulseFault.TheVariants.{Break, Extra, Lost}
use Rattle.xb_worn.specs.declared.fault.PulsePlace.{PulsePlace}
use Rattle.xb_worn.specs.declared.wear.Wear.{Wear}
use Rattle.xb_worn.specs.Faults.{digit_place, pulse_place}
use Rattle.xb_worn.specs.HeardCalls.{outcomes_after}
use Rattle.xb_worn.specs.Places.{absent_from, repeated_from}
use Rattle.xb_worn.specs.Sending.{sent}
use Rattle.xb_worn.specs.SentCalls.{call_runs, line_rows}
use Rattle.xb_worn.specs.WornRows.{misfit_from}

-- a dial of 10 pulses a second that slows by so many percent, and swings by so many ms
abbrev pub dial_of : ℕ → ℕ → ℕ → Wear
dial_of slow_percent jitter_ms seed = record {
  speed = ten_pulses_a_second;
  slow_percent = slow_percent;
  jitter_ms = jitter_ms;
  seed = seed;
}

-- of a call on line 7 these outcomes come, as they are said of its pulses, and as its rows are heard
abbrev pub Gives : Wear → List Fault → List ℕ → List Dialled → Type 0
Gives wear faults number outcomes =
    let calls = sent wear faults (call_of 7 number ∷ []) in
    (flat_map (outcomes_after Seven standard_limits) calls ≡ outcomes)
    × (outcomes_of Seven standard_limits (record_of 7 (line_rows 400 calls 7)) ≡ outcomes)

-- a steady dial with one fault
abbrev pub With : Fault → List ℕ → List Dialled → Type 0
With fault number outcomes = Gives (dial_of 0 0 0) (fault ∷ []) number outcomes

abbrev pub seven_digits : List ℕ
seven_digits = 2 ∷ 3 ∷ 4 ∷ 5 ∷ 6 ∷ 7 ∷ 8 ∷ []

abbrev pub service : List ℕ
service = 4 ∷ 1 ∷ 1 ∷ []

abbrev pub pulse_at : ℕ → ℕ → PulsePlace
pulse_at digit pulse = pulse_place (digit_place 1 digit) pulse

-- faults of one pulse: a break of 119 ms is still one, and of 120 none; one that is lost or more is another digit; ten
-- and one more are none
pub record PulsesAtFault : Type 0 where
  pub long : With (Pulse (pulse_at 3 2) (Break 130)) seven_digits (Refused Mutilated 2 ∷ [])
  pub longest : With (Pulse (pulse_at 3 2) (Break 119)) seven_digits (Number seven_digits ∷ [])
  pub too_long : With (Pulse (pulse_at 3 2) (Break 120)) seven_digits (Refused Mutilated 2 ∷ [])
  pub lost : With (Pulse (pulse_at 1 2) Lost) service (Number (3 ∷ 1 ∷ 1 ∷ []) ∷ [])
  pub last_lost : With (Pulse (pulse_at 1 4) Lost) service (Number (3 ∷ 1 ∷ 1 ∷ []) ∷ [])
  pub extra : With (Pulse (pulse_at 1 4) Extra) service (Number (5 ∷ 1 ∷ 1 ∷ []) ∷ [])
  pub only_lost : With (Pulse (pulse_at 3 1) Lost) service (Refused Abandoned 2 ∷ [])
  pub eleven : With (Pulse (pulse_at 1 10) Extra) (0 ∷ []) (Refused Mutilated 0 ∷ [])
  pub hung_up : With (Pulse (pulse_at 3 2) (Break 300)) seven_digits
      (Refused Abandoned 2 ∷ Refused Abandoned 5 ∷ [])

-- faults of the end of a digit, and of the beginning of a call: digits run together, a number that ends too early, a
-- time-out, a flash that spoils and one that hangs up, a preliminary pulse that is a digit and one that is none
pub record EndsAtFault : Type 0 where
  pub together : With (Digit (digit_place 1 1) (Pause 100)) seven_digits (Refused Abandoned 6 ∷ [])
  pub shortest : With (Digit (digit_place 1 1) (Pause 180)) seven_digits (Number seven_digits ∷ [])
  pub last_short : With (Digit (digit_place 1 7) (Pause 179)) seven_digits (Refused Abandoned 6 ∷ [])
  pub timed_out : With (Digit (digit_place 1 3) (Pause 20000)) seven_digits (Refused TimedOut 3 ∷ [])
  pub spoiled : With (Digit (digit_place 1 2) (Flash 200)) seven_digits (Refused Mutilated 2 ∷ [])
  pub hung_up : With (Digit (digit_place 1 2) (Flash 350)) seven_digits
      (Refused Abandoned 2 ∷ Refused Abandoned 5 ∷ [])
  pub after_all : With (Digit (digit_place 1 3) (Flash 200)) service (Number service ∷ [])
  pub preliminary : With (Preliminary 1 60) service (Refused Abandoned 4 ∷ [])
  pub short_preliminary : With (Preliminary 1 10) service (Refused Mutilated 0 ∷ [])

-- slower by 20 percent a pulse, the fifth break is 108 ms and the sixth 120; and draws of the seed 1234567 by 10 ms,
-- reckoned by another program
pub record WornDials : Type 0 where
  pub slow : Gives (dial_of 20 0 0) [] seven_digits (Refused Mutilated 4 ∷ [])
  pub slow_five : Gives (dial_of 20 0 0) [] (5 ∷ 1 ∷ 1 ∷ []) (Number (5 ∷ 1 ∷ 1 ∷ []) ∷ [])
  pub swings :
      map call_runs (sent (dial_of 0 10 1234567) [] (call_of 7 service ∷ []))
      ≡ (make 500 ∷ break 56 ∷ make 38 ∷ break 69 ∷ make 30 ∷ break 53 ∷ make 38 ∷ break 57 ∷ make 600 ∷ break 61
      ∷ make 600 ∷ break 67 ∷ make 600 ∷ [])
      ∷ []

abbrev pub three_calls : List DialledCall
three_calls = call_of 7 seven_digits ∷ call_of 8 (3 ∷ []) ∷ call_of 9 service ∷ []

-- places that are not there, a place that has two faults, and times that do not fit
pub record PlacesOfFaults : Type 0 where
  pub fourth_call : absent_from three_calls 1 (Preliminary 3 60 ∷ Preliminary 4 60 ∷ []) ≡ Some 2
  pub eighth_digit :
      absent_from three_calls 1 (Digit (digit_place 1 7) (Pause 100) ∷ Digit (digit_place 1 8) (Pause 100) ∷ [])
      ≡ Some 2
  pub fourth_pulse :
      absent_from three_calls 1
      (Pulse (pulse_place (digit_place 2 1) 3) Lost ∷ Pulse (pulse_place (digit_place 2 1) 4) Lost ∷ [])
      ≡ Some 2
  pub none_is_zero : absent_from three_calls 1 (Pulse (pulse_place (digit_place 2 1) 0) Lost ∷ []) ≡ Some 1
  pub all_there :
      absent_from three_calls 1 (Preliminary 1 60 ∷ Digit (digit_place 3 3) (Flash 400) ∷ []) ≡ None
  pub two_at_one :
      repeated_from [] 1
      (Pulse (pulse_at 1 2) Lost ∷ Digit (digit_place 1 1) (Pause 100) ∷ Pulse (pulse_at 1 2) Extra ∷ [])
      ≡ Some 3
  pub no_time :
      misfit_from 1 (sent (dial_of 0 0 0) (Pulse (pulse_place (digit_place 3 2) 1) (Break 0) ∷ []) three_calls)
      ≡ Some 3
