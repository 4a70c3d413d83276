-- What an office makes of bad dialling, in the field's words.
use Rattle.std.specs.Prelude.{◌≡◌, ℕ, ◌+◌, ◌-◌, ◌<◌, ◌≤◌, nat_le, List, [], ◌∷◌, ◌++◌, map, length, true, false, Option, Some, None}
use Rattle.std.specs.List.{list_any}
use Rattle.xb_model.specs.declared.dialled.Dialled.TheVariants.{Number, Refused}
use Rattle.xb_model.specs.declared.limits.Limits.{Limits}
use Rattle.xb_model.specs.declared.plan.Plan.{Plan}
use Rattle.xb_model.specs.declared.reason.Reason.TheVariants.{Mutilated}
use Rattle.xb_model.specs.declared.signal.TheConstants.{MOST_PULSES}
use Rattle.xb_model.specs.Numbers.{digit_of_count, is_complete, shortest_complete}
use Rattle.xb_calls.specs.Dialling.{pulse_count}
use Rattle.xb_worn.specs.declared.fault.DigitPlace.{DigitPlace}
use Rattle.xb_worn.specs.declared.fault.Fault.{Fault}
use Rattle.xb_worn.specs.declared.fault.Fault.TheVariants.{Pulse}
use Rattle.xb_worn.specs.declared.fault.PulseFault.TheVariants.{Lost, Extra}
use Rattle.xb_worn.specs.declared.pulse.SentPulse.{SentPulse}
use Rattle.xb_worn.specs.declared.wear.Wear.{Wear}
use Rattle.xb_worn.specs.Faults.{pulse_place}
use Rattle.xb_worn.specs.HeardCalls.{digit_heard, digits_heard, digits_of, hangs_up, is_pulse, keeps_apart, outcome_after, outcomes_after}
use Rattle.xb_worn.specs.Sending.{sent_digit}
use Rattle.xb_worn.specs.SentCalls.{SentCall, sent_call}
use Rattle.xb_worn.specs.Wears.{worn_pulse}

-- where no break hangs up, one outcome comes of a call
abbrev pub OneOutcome : Type 0
OneOutcome =
    (plan : Plan) (limits : Limits) (call : SentCall) → list_any (hangs_up limits) call.pulses ≡ false
    → outcomes_after plan limits call ≡ outcome_after plan limits call ∷ []

-- a spoiled digit mutilates: where the digits before it neither are nor begin with a complete number, the call is
-- refused as mutilated, with their count
abbrev pub SpoiledMutilates : Type 0
SpoiledMutilates =
    (plan : Plan) (limits : Limits) (call : SentCall) (good : List ℕ) (later : List (Option ℕ))
    → digits_heard limits call ≡ map Some good ++ None ∷ later → shortest_complete plan good ≡ None
    → outcome_after plan limits call ≡ Refused Mutilated (length good)

-- digits that are a complete number are that number, whatever digits come after, spoiled ones too
abbrev pub CompleteIsHeard : Type 0
CompleteIsHeard =
    (plan : Plan) (limits : Limits) (call : SentCall) (number : List ℕ) (later : List (Option ℕ))
    → digits_heard limits call ≡ map Some number ++ later → is_complete plan number ≡ true
    → outcome_after plan limits call ≡ Number number

-- what follows is ignored: a number that was heard stays, whatever pulses come after
abbrev pub NumbersStay : Type 0
NumbersStay =
    (plan : Plan) (limits : Limits) (line seize_ms : ℕ) (pulses later : List SentPulse) (number : List ℕ)
    → outcome_after plan limits (sent_call line seize_ms pulses) ≡ Number number
    → outcome_after plan limits (sent_call line seize_ms (pulses ++ later)) ≡ Number number

-- a pulse whose break is one, and whose make keeps it apart from the next and is no pause
pub record IsGoodPulse (limits : Limits) (pulse : SentPulse) : Type 0 where
  pub break_is : is_pulse limits pulse ≡ true
  pub apart : keeps_apart limits pulse ≡ true
  pub short : nat_le limits.pause pulse.make_ms ≡ false

-- each of ten pulses of a digit is good, and the pause after it is one
pub record IsGoodDigit (limits : Limits) (wear : Wear) (state : ℕ) : Type 0 where
  pub pulses : (before : ℕ) → before < MOST_PULSES → IsGoodPulse limits (worn_pulse wear state before)
  pub pause : nat_le limits.pause wear.speed.pause_ms ≡ true

-- the digits that are heard of one digit with faults
abbrev pub heard_of_digit : Limits → Wear → List Fault → DigitPlace → ℕ → ℕ → List (Option ℕ)
heard_of_digit limits wear faults place state digit =
    map (digit_heard limits) (digits_of limits (sent_digit wear faults place state digit))

-- of a good digit of two pulses or more that loses one, the digit of one pulse less is heard
abbrev pub LostPulse : Type 0
LostPulse =
    (limits : Limits) (wear : Wear) (place : DigitPlace) (state digit pulse : ℕ) → IsGoodDigit limits wear state
    → 2 ≤ pulse_count digit → pulse_count digit ≤ MOST_PULSES → 1 ≤ pulse → pulse ≤ pulse_count digit
    → heard_of_digit limits wear (Pulse (pulse_place place pulse) Lost ∷ []) place state digit
    ≡ digit_of_count (pulse_count digit - 1) false ∷ []

-- of a good digit with an extra pulse, the digit of one pulse more is heard: of eleven, none
abbrev pub ExtraPulse : Type 0
ExtraPulse =
    (limits : Limits) (wear : Wear) (place : DigitPlace) (state digit pulse : ℕ) → IsGoodDigit limits wear state
    → pulse_count digit ≤ MOST_PULSES → 1 ≤ pulse → pulse ≤ pulse_count digit
    → heard_of_digit limits wear (Pulse (pulse_place place pulse) Extra ∷ []) place state digit
    ≡ digit_of_count (pulse_count digit + 1) false ∷ []
