-- What an office makes of a call, said of its pulses.
use Rattle.std.specs.Prelude.{◌≡◌, ℕ, ◌<◌, ◌≤◌, nat_le, List, [], ◌∷◌, map, length, Bool, true, not, ◌&&◌, ◌||◌, if◌then◌else◌, Option, is_none}
use Rattle.std.specs.List.{AllByRecursion, flat_map, list_any}
use Rattle.xb_model.specs.declared.dialled.Dialled.{Dialled}
use Rattle.xb_model.specs.declared.limits.Limits.{Limits}
use Rattle.xb_model.specs.declared.plan.Plan.{Plan}
use Rattle.xb_model.specs.Numbers.{before_mutilated, digit_of_count, or_refused, outcomes_of, shortest_complete, without_number}
use Rattle.xb_model.specs.Records.{record_of}
use Rattle.xb_model.specs.Rows.{LoopRow}
use Rattle.xb_worn.specs.declared.pulse.SentPulse.{SentPulse}
use Rattle.xb_worn.specs.SentCalls.{AreSent, Lasts, SentCall, calls_on, sent_call}

-- a break of `release` or more hangs up
abbrev pub hangs_up : Limits → SentPulse → Bool
hangs_up limits pulse = nat_le limits.release pulse.break_ms

-- the pulses before the first break that hangs up
abbrev pub before_hang_up : Limits → List SentPulse → List SentPulse
before_hang_up limits [] = []
before_hang_up limits (pulse ∷ rest) = if hangs_up limits pulse then [] else pulse ∷ before_hang_up limits rest

-- after each break that hangs up the call goes on as another, which the make after that break seizes
abbrev pub after_hang_ups : Limits → ℕ → List SentPulse → List SentCall
after_hang_ups limits line [] = []
after_hang_ups limits line (pulse ∷ rest) =
    if hangs_up limits pulse
    then sent_call line pulse.make_ms (before_hang_up limits rest) ∷ after_hang_ups limits line rest
    else after_hang_ups limits line rest

-- the calls that an office takes a call for: one, where no break hangs up
abbrev pub taken_for : Limits → SentCall → List SentCall
taken_for limits call =
    sent_call call.line call.seize_ms (before_hang_up limits call.pulses)
    ∷ after_hang_ups limits call.line call.pulses

-- a make of `timeout` or more times out
abbrev pub times_out : Limits → ℕ → Bool
times_out limits make_ms = nat_le limits.timeout make_ms

-- pulses are heard up to and with the first whose make times out
abbrev pub up_to_timeout : Limits → List SentPulse → List SentPulse
up_to_timeout limits [] = []
up_to_timeout limits (pulse ∷ rest) =
    pulse ∷ (if times_out limits pulse.make_ms then [] else up_to_timeout limits rest)

-- the pulses of a call that are heard: none, where the make that seizes times out
abbrev pub pulses_heard : Limits → SentCall → List SentPulse
pulses_heard limits call = if times_out limits call.seize_ms then [] else up_to_timeout limits call.pulses

-- a make of the call times out
abbrev pub is_timed_out : Limits → SentCall → Bool
is_timed_out limits call =
    times_out limits call.seize_ms || list_any (λ pulse. times_out limits pulse.make_ms) call.pulses

-- a pulse before the first digit; before none it belongs to no digit
abbrev pub onto_digit : SentPulse → List (List SentPulse) → List (List SentPulse)
onto_digit pulse [] = []
onto_digit pulse (digit ∷ digits) = (pulse ∷ digit) ∷ digits

-- a digit ends where a make lasts `pause` or more: pulses with shorter makes between them run together, and those
-- after the last such make are no digit
abbrev pub digits_of : Limits → List SentPulse → List (List SentPulse)
digits_of limits [] = []
digits_of limits (pulse ∷ rest) =
    if nat_le limits.pause pulse.make_ms then (pulse ∷ []) ∷ digits_of limits rest
    else onto_digit pulse (digits_of limits rest)

-- a break that is a pulse
abbrev pub is_pulse : Limits → SentPulse → Bool
is_pulse limits pulse = nat_le limits.pulse_min pulse.break_ms && nat_le pulse.break_ms limits.pulse_max

-- a make that keeps two pulses apart
abbrev pub keeps_apart : Limits → SentPulse → Bool
keeps_apart limits pulse = nat_le limits.make_min pulse.make_ms

-- each break of a digit is a pulse, and each make between two of them keeps them apart
abbrev pub are_good : Limits → List SentPulse → Bool
are_good limits [] = true
are_good limits (pulse ∷ []) = is_pulse limits pulse
are_good limits (pulse ∷ next ∷ more) =
    is_pulse limits pulse && (keeps_apart limits pulse && are_good limits (next ∷ more))

-- the digit that is heard: of 1 to 10 good pulses, and else none: it is spoiled
abbrev pub digit_heard : Limits → List SentPulse → Option ℕ
digit_heard limits digit = digit_of_count (length digit) (not (are_good limits digit))

-- the digits that are heard of a call in which nothing hangs up
abbrev pub digits_heard : Limits → SentCall → List (Option ℕ)
digits_heard limits call = map (digit_heard limits) (digits_of limits (pulses_heard limits call))

-- of the digits before the first spoiled one, the shortest complete number; else a refusal with their count: mutilated
-- where a digit is spoiled, else timed out where a make times out, else abandoned
abbrev pub outcome_after : Plan → Limits → SentCall → Dialled
outcome_after plan limits call =
    let digits = digits_heard limits call in
    let good = before_mutilated digits in
    or_refused (shortest_complete plan good)
    (without_number (list_any is_none digits) (is_timed_out limits call) (length good))

-- what comes of a call: one outcome, and a further one after each break that hangs up
abbrev pub outcomes_after : Plan → Limits → SentCall → List Dialled
outcomes_after plan limits call = map (outcome_after plan limits) (taken_for limits call)

-- of each line the outcomes are those of its calls
abbrev pub AreHeard : Plan → Limits → List SentCall → List LoopRow → Type 0
AreHeard plan limits calls rows =
    (l : ℕ) → outcomes_of plan limits (record_of l rows) ≡ flat_map (outcomes_after plan limits) (calls_on l calls)

-- this holds by every plan and all limits by which the hang-up between two calls is one, of every list of rows in
-- which those of each line are sent, and no time is 0
abbrev pub OutcomesAreHeard : Type 0
OutcomesAreHeard =
    (plan : Plan) (limits : Limits) (hang_up_ms : ℕ) (calls : List SentCall) (rows : List LoopRow)
    → AllByRecursion Lasts calls → 0 < hang_up_ms → limits.release ≤ hang_up_ms → AreSent hang_up_ms calls rows
    → AreHeard plan limits calls rows
