-- The outcomes that plain numbers say.
use Rattle.std.specs.Prelude.{ℕ, ◌==◌, if◌then◌else◌, Option, Some, None}
use Rattle.xb_model.specs.declared.dialled.Dialled.{Dialled}
use Rattle.xb_model.specs.declared.dialled.Dialled.TheVariants.{Number, Refused}
use Rattle.xb_model.specs.declared.digits.TheConstants.{NUMBER_DIGITS}
use Rattle.xb_model.specs.declared.reason.Reason.{Reason}
use Rattle.xb_model.specs.declared.reason.Reason.TheVariants.{Mutilated, Unknown, Abandoned, TimedOut}
use Rattle.xb_structs.specs.Digits.{digits_in}
use Rattle.xb_onward.specs.declared.outcome.PlainOutcome.{PlainOutcome}

-- why there is no number, by the numbers that marks have for it
abbrev pub reason_in : ℕ → Option Reason
reason_in kind =
    if kind == 4 then Some Mutilated
    else if kind == 5 then Some Unknown
    else if kind == 6 then Some Abandoned
    else if kind == 7 then Some TimedOut
    else None

abbrev pub reason_number : Reason → ℕ
reason_number Mutilated = 4
reason_number Unknown = 5
reason_number Abandoned = 6
reason_number TimedOut = 7

abbrev pub outcome_by : PlainOutcome → Option Reason → Dialled
outcome_by outcome (Some reason) = Refused reason outcome.count
outcome_by outcome None = Number (digits_in NUMBER_DIGITS outcome.count outcome.digits)

-- a number of ten digits at most, or why there is none
abbrev pub outcome_in : PlainOutcome → Dialled
outcome_in outcome = outcome_by outcome (reason_in outcome.kind)
