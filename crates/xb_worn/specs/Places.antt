-- The places that calls have.
use Rattle.std.specs.Prelude.{◌≡◌, ℕ, ◌+◌, ◌-◌, ◌==◌, ◌&&◌, nat_le, Bool, false, not, if◌then◌else◌, List, [], ◌∷◌, ◌++◌, length, slice_get, Option, Some, None}
use Rattle.std.specs.List.{list_any}
use Rattle.xb_calls.specs.Calls.{DialledCall}
use Rattle.xb_calls.specs.Dialling.{pulse_count}
use Rattle.xb_worn.specs.declared.fault.DigitPlace.{DigitPlace}
use Rattle.xb_worn.specs.declared.fault.Fault.{Fault}
use Rattle.xb_worn.specs.declared.fault.Fault.TheVariants.{Pulse, Digit, Preliminary}
use Rattle.xb_worn.specs.Faults.{same_digit, same_pulse}

-- the item of this number, from 1
abbrev pub item : {A : Type 0} → ℕ → List A → Option A
item number xs = if number == 0 then None else slice_get xs (number - 1)

abbrev pub digits_or_none : Option DialledCall → List ℕ
digits_or_none None = []
digits_or_none (Some call) = call.digits

-- the digits of the call of this number
abbrev pub digits_at : List DialledCall → ℕ → List ℕ
digits_at calls number = digits_or_none (item number calls)

abbrev pub pulses_or_none : Option ℕ → ℕ
pulses_or_none None = 0
pulses_or_none (Some digit) = pulse_count digit

-- how many pulses the digit of this place has
abbrev pub pulses_at : List DialledCall → DigitPlace → ℕ
pulses_at calls place = pulses_or_none (item place.digit (digits_at calls place.call))

-- a number is one of 1 to a count
abbrev pub is_number : ℕ → ℕ → Bool
is_number count number = nat_le 1 number && nat_le number count

-- the place of a fault is there
abbrev pub is_there : List DialledCall → Fault → Bool
is_there calls (Pulse at kind) = is_number (pulses_at calls at.place) at.pulse
is_there calls (Digit at kind) = is_number (length (digits_at calls at.call)) at.digit
is_there calls (Preliminary number ms) = is_number (length calls) number

-- the number of the first of which a test holds, where they count from n
abbrev pub first_from : {A : Type 0} → (A → Bool) → ℕ → List A → Option ℕ
first_from test n [] = None
first_from test n (x ∷ xs) = if test x then Some n else first_from test (n + 1) xs

-- the number of the first fault whose place is not there, where they count from n
abbrev pub absent_from : List DialledCall → ℕ → List Fault → Option ℕ
absent_from calls n faults = first_from (λ fault. not (is_there calls fault)) n faults

-- two faults stand at one place
abbrev pub same_place : Fault → Fault → Bool
same_place (Pulse a kind) (Pulse b other) = same_pulse a b
same_place (Digit a kind) (Digit b other) = same_digit a b
same_place (Preliminary a ms) (Preliminary b other) = a == b
same_place _ _ = false

-- the number of the first fault at whose place an earlier one stands, where they count from n after the earlier ones
abbrev pub repeated_from : List Fault → ℕ → List Fault → Option ℕ
repeated_from earlier n [] = None
repeated_from earlier n (fault ∷ faults) =
    if list_any (same_place fault) earlier then Some n
    else repeated_from (earlier ++ fault ∷ []) (n + 1) faults

-- each fault has a place of its own, which is there
pub record ArePlaced (calls : List DialledCall) (faults : List Fault) : Type 0 where
  pub there : absent_from calls 1 faults ≡ None
  pub apart : repeated_from [] 1 faults ≡ None
