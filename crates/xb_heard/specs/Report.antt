-- The report of a line tells the story of the page.
use Rattle.std.specs.Prelude.{◌≡◌, List, [], ◌∷◌, ◌++◌, map, Bool, ◌||◌, nat_lt, is_some, IfSome}
use Rattle.std.specs.List.{flat_map, AllByRecursion}
use Rattle.xb_model.specs.declared.limits.Limits.{Limits}
use Rattle.xb_model.specs.declared.plan.Plan.{Plan}
use Rattle.xb_model.specs.declared.signal.Signal.{Signal}
use Rattle.xb_model.specs.declared.signal.Signal.TheVariants.{Seize, TimeOut, Release, Close}
use Rattle.xb_model.specs.declared.signal.TheConstants.{MOST_PULSES}
use Rattle.xb_model.specs.Numbers.{outcomes_of}
use Rattle.xb_model.specs.Records.{Run, attempts_of, trains_of, is_timed}
use Rattle.xb_model.specs.Signals.{signals_of, digit_signal, is_bad_train, breaks_in, when}
use Rattle.xb_heard.specs.Faults.{IsFirstFault}
use Rattle.xb_heard.specs.Digits.{DigitOfRuns, train_in}
use Rattle.xb_heard.specs.Parts.{heard_placed}
use Rattle.xb_heard.specs.Attempts.{AttemptOfRuns, all_parts, attempt_alone, outcomes_told}

-- the signals that an attempt of the report tells
abbrev pub signals_in : Limits → AttemptOfRuns → List Signal
signals_in limits attempt =
    Seize ∷ (map (λ digit. digit_signal limits (train_in digit)) attempt.digits
    ++ (when (is_some attempt.timeout) TimeOut ++ when (is_some attempt.release) Release))

-- those of the report, and at the end the close
abbrev pub signals_told : Limits → List AttemptOfRuns → List Signal
signals_told limits attempts = flat_map (signals_in limits) attempts ++ Close ∷ []

-- a train has a wrong run, or too many breaks
abbrev pub is_spoiled : Limits → DigitOfRuns → Bool
is_spoiled limits digit =
    is_bad_train limits (train_in digit) || nat_lt MOST_PULSES (breaks_in (train_in digit))

-- a digit names what spoils its train: something exactly where it is spoiled, and then the first
pub record NamesItsFault (limits : Limits) (digit : DigitOfRuns) : Type 0 where
  pub named : is_some digit.spoiler ≡ is_spoiled limits digit
  pub first : IfSome digit.spoiler (IsFirstFault limits digit.pulses)

-- each digit of an attempt does, and they are its trains; and its parts are all that is heard of it
pub record TellsTrains (limits : Limits) (attempt : AttemptOfRuns) : Type 0 where
  pub trains : map train_in attempt.digits ≡ trains_of limits (attempt_alone attempt).runs
  pub timed : is_some attempt.timeout ≡ is_timed limits (attempt_alone attempt).runs
  pub faults : AllByRecursion (NamesItsFault limits) attempt.digits
  pub parts : all_parts attempt ≡ heard_placed limits attempt.runs

-- what the report of a record tells; what it says came of the attempts is what the page has of the record
pub record Tells (plan : Plan) (limits : Limits) (record_ : List Run) (attempts : List AttemptOfRuns)
    : Type 0 where
  pub outcomes : outcomes_told attempts ≡ outcomes_of plan limits record_
  pub signals : signals_told limits attempts ≡ signals_of limits record_
  pub attempts_are : map attempt_alone attempts ≡ attempts_of limits record_
  pub each : AllByRecursion (TellsTrains limits) attempts
