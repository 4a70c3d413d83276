-- What a register gives for the signals of a line.
use Rattle.std.specs.Prelude.{◌≡◌, ℕ, ◌+◌, ◌≤◌, List, ◌∷◌, ◌++◌, length, Bool, true, false}
use Rattle.std.specs.List.{filter}
use Rattle.xb_model.specs.declared.dialled.Dialled.{Dialled}
use Rattle.xb_model.specs.declared.limits.Limits.{Limits}
use Rattle.xb_model.specs.declared.line.LineNo.{LineNo}
use Rattle.xb_model.specs.declared.on.On.{On}
use Rattle.xb_model.specs.declared.plan.Plan.{Plan}
use Rattle.xb_model.specs.declared.signal.Signal.{Signal}
use Rattle.xb_model.specs.declared.signal.Signal.TheVariants.{Seize, Digit, TimeOut, Release, Close}
use Rattle.xb_model.specs.Records.{Run}
use Rattle.xb_model.specs.Numbers.{outcomes_of}
use Rattle.xb_model.specs.Signals.{signals_of}
use Rattle.xb_model.specs.Image.{Machine, image_on}
use Rattle.xb_model.specs.OnLines.{on_line}

-- a signal that seizes a register
abbrev pub is_seizure : Signal → Bool
is_seizure Seize = true
is_seizure (Digit count bad) = false
is_seizure TimeOut = false
is_seizure Release = false
is_seizure Close = false

-- how often a line is seized
abbrev pub seizures : List Signal → ℕ
seizures signals = length (filter is_seizure signals)

-- the outcomes that the signals of a line give
abbrev pub outcomes_given :
    {S : Type 0} → Machine (On Signal) (On Dialled) S → LineNo → List Signal → List (On Dialled)
outcomes_given machine line signals = image_on machine (on_line line signals)

-- the signals of a record give its outcomes, one for each attempt, in order
abbrev pub GivesOutcomes : {S : Type 0} → Plan → Machine (On Signal) (On Dialled) S → Type 0
GivesOutcomes plan machine =
    (limits : Limits) (line : LineNo) (record_ : List Run)
    → outcomes_given machine line (signals_of limits record_)
    ≡ on_line line (outcomes_of plan limits record_)

-- each seizure, with what comes after it up to the next, adds one outcome at most
abbrev pub EachSeizureGivesAtMostOne : {S : Type 0} → Machine (On Signal) (On Dialled) S → Type 0
EachSeizureGivesAtMostOne machine =
    (line : LineNo) (before after : List Signal)
    → seizures after ≡ 0
    → length (outcomes_given machine line (before ++ Seize ∷ after))
    ≤ length (outcomes_given machine line before) + 1

-- so there are no more outcomes than seizures
abbrev pub GivesNoMoreThanSeizures : {S : Type 0} → Machine (On Signal) (On Dialled) S → Type 0
GivesNoMoreThanSeizures machine =
    (line : LineNo) (signals : List Signal)
    → length (outcomes_given machine line signals) ≤ seizures signals

-- what comes before the first seizure gives nothing, and changes nothing of what comes after
abbrev pub GivesNoneBeforeASeizure : {S : Type 0} → Machine (On Signal) (On Dialled) S → Type 0
GivesNoneBeforeASeizure machine =
    (line : LineNo) (before after : List Signal)
    → seizures before ≡ 0
    → outcomes_given machine line (before ++ after) ≡ outcomes_given machine line after
