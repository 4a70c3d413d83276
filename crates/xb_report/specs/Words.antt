-- The words of a report.
use Rattle.std.specs.Prelude.{ℕ, List, [], ◌∷◌, ◌++◌, codes, decimal, length, nat_le, nat_lt, Bool, true, false}
use Rattle.xb_model.specs.declared.dialled.Dialled.{Dialled}
use Rattle.xb_model.specs.declared.dialled.Dialled.TheVariants as dialled
use Rattle.xb_model.specs.declared.limits.Limits.{Limits}
use Rattle.xb_model.specs.declared.reason.Reason.TheVariants as reason
use Rattle.xb_model.specs.declared.signal.TheConstants.{MOST_PULSES}
use Rattle.xb_model.specs.Page.{reason_text}
use Rattle.xb_heard.specs.declared.fault.PulseFault.{PulseFault}
use Rattle.xb_heard.specs.declared.fault.PulseFault.TheVariants as fault

-- digits, one after the other
abbrev pub digits_text : List ℕ → List ℕ
digits_text [] = []
digits_text (digit ∷ digits) = decimal digit ++ digits_text digits

-- what came of an attempt: its number, or why it was refused, in the words of the page
abbrev pub outcome_text : Dialled → List ℕ
outcome_text (dialled.Number digits) = codes "NUMBER " ++ digits_text digits
outcome_text (dialled.Refused r heard) = codes "REFUSED " ++ reason_text r ++ codes " " ++ decimal heard

-- what is wrong with a run of so many ms, and the limit, with these signs for less and for more
abbrev pub fault_with : List ℕ → List ℕ → Limits → PulseFault → ℕ → List ℕ
fault_with less more limits fault.ShortBreak ms =
    codes "break " ++ decimal ms ++ codes " ms " ++ less ++ codes " " ++ decimal limits.pulse_min
fault_with less more limits fault.LongBreak ms =
    codes "break " ++ decimal ms ++ codes " ms " ++ more ++ codes " " ++ decimal limits.pulse_max
fault_with less more limits fault.ShortMake ms =
    codes "make " ++ decimal ms ++ codes " ms " ++ less ++ codes " " ++ decimal limits.make_min
fault_with less more limits fault.TooManyPulses ms = codes "pulse 11"

abbrev pub fault_text : Limits → PulseFault → ℕ → List ℕ
fault_text limits fault ms = fault_with (codes "<") (codes ">") limits fault ms

-- the name of a fault, and the limit that it breaks: in ms, or of eleven pulses the most
abbrev pub fault_name : PulseFault → List ℕ
fault_name fault.ShortBreak = codes "SHORT_BREAK"
fault_name fault.LongBreak = codes "LONG_BREAK"
fault_name fault.ShortMake = codes "SHORT_MAKE"
fault_name fault.TooManyPulses = codes "TOO_MANY_PULSES"

abbrev pub limit_of : Limits → PulseFault → ℕ
limit_of limits fault.ShortBreak = limits.pulse_min
limit_of limits fault.LongBreak = limits.pulse_max
limit_of limits fault.ShortMake = limits.make_min
limit_of limits fault.TooManyPulses = MOST_PULSES

-- whether the register takes digit k of an attempt, from 0: it takes none after a complete number, and
-- none after a mutilated digit, before which so many good ones were heard
abbrev pub is_taken : Dialled → ℕ → Bool
is_taken (dialled.Number digits) k = nat_lt k (length digits)
is_taken (dialled.Refused r heard) k = nat_le k heard

-- whether the attempt was refused because it timed out
abbrev pub is_timed_out : Dialled → Bool
is_timed_out (dialled.Number digits) = false
is_timed_out (dialled.Refused reason.Mutilated heard) = false
is_timed_out (dialled.Refused reason.Unknown heard) = false
is_timed_out (dialled.Refused reason.Abandoned heard) = false
is_timed_out (dialled.Refused reason.TimedOut heard) = true
