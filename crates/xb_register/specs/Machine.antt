-- The register, signal by signal.
use Rattle.std.specs.Prelude.{ℕ, List, [], ◌∷◌, ◌++◌, length, if◌then◌else◌, Option, Some, None}
use Rattle.std.specs.Option.{option_to_list}
use Rattle.xb_model.specs.Image.{Machine}
use Rattle.xb_model.specs.OnLines.{whats_on_lines}
use Rattle.xb_model.specs.declared.on.On.{On}
use Rattle.xb_model.specs.declared.plan.Plan.{Plan}
use Rattle.xb_model.specs.declared.signal.Signal.{Signal}
use Rattle.xb_model.specs.declared.signal.Signal.TheVariants.{Seize, Digit, TimeOut, Release, Close}
use Rattle.xb_model.specs.declared.reason.Reason.{Reason}
use Rattle.xb_model.specs.declared.reason.Reason.TheVariants.{Mutilated, Abandoned, TimedOut}
use Rattle.xb_model.specs.declared.dialled.Dialled.{Dialled}
use Rattle.xb_model.specs.declared.dialled.Dialled.TheVariants.{Number, Refused}
use Rattle.xb_model.specs.Plans.{plan_len}
pub use Rattle.xb_model.specs.Numbers.{reaches}
use Rattle.xb_model.specs.TwoOfFive.{digit_of_pattern, pattern_of_count}
use Rattle.xb_register.specs.declared.step.Step.{Step}
use Rattle.xb_register.specs.declared.state.Phase.{Phase}
use Rattle.xb_register.specs.declared.state.Phase.TheVariants.{OnHook, Listening, Done}

-- no outcome, and the next phase
abbrev pub enter : Phase → Step
enter phase = record { outcome = None; phase = phase }

-- the outcome of the attempt, and the next phase
abbrev pub give : Dialled → Phase → Step
give outcome phase = record { outcome = Some outcome; phase = phase }

-- a refusal, with the count of good digits
abbrev pub refuse : Reason → List ℕ → Phase → Step
refuse reason digits phase = give (Refused reason (length digits)) phase

-- after one digit more
abbrev pub with_digits : Plan → List ℕ → Step
with_digits plan digits =
    if reaches (plan_len plan digits) (length digits)
    then give (Number digits) Done
    else enter (Listening digits)

-- a digit, or a pattern that is none
abbrev pub store : Plan → List ℕ → Option ℕ → Step
store plan digits None = refuse Mutilated digits Done
store plan digits (Some d) = with_digits plan (digits ++ d ∷ [])

-- a signal in an attempt
abbrev pub listen : Plan → List ℕ → Signal → Step
listen plan digits Seize = enter (Listening digits)
listen plan digits (Digit count bad) =
    store plan digits (digit_of_pattern (pattern_of_count count bad))
listen plan digits TimeOut = refuse TimedOut digits Done
listen plan digits Release = refuse Abandoned digits OnHook
listen plan digits Close = refuse Abandoned digits OnHook

-- a signal in any phase
abbrev pub advance : Plan → Phase → Signal → Step
advance plan OnHook Seize = enter (Listening [])
advance plan OnHook (Digit count bad) = enter OnHook
advance plan OnHook TimeOut = enter OnHook
advance plan OnHook Release = enter OnHook
advance plan OnHook Close = enter OnHook
advance plan (Listening digits) signal = listen plan digits signal
advance plan Done Seize = enter Done
advance plan Done (Digit count bad) = enter Done
advance plan Done TimeOut = enter Done
advance plan Done Release = enter OnHook
advance plan Done Close = enter OnHook

-- the phase after a signal
abbrev pub phase_after : Plan → Phase → Signal → Phase
phase_after plan phase signal = (advance plan phase signal).phase

-- the outcome that a signal brings, if it does
abbrev pub outcomes_by : Plan → Phase → Signal → List Dialled
outcomes_by plan phase signal = option_to_list (advance plan phase signal).outcome

-- what the stage does on one line
abbrev pub machine : Plan → Machine (On Signal) (On Dialled) Phase
machine plan = whats_on_lines OnHook (phase_after plan) (outcomes_by plan)
