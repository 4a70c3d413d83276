-- What spoils a train.
use Rattle.std.specs.Prelude.{◌≡◌, ℕ, ◌+◌, ◌<◌, List, [], ◌∷◌, ◌++◌, Bool, false, if◌then◌else◌, nat_lt, Option, Some, None, length}
use Rattle.std.specs.List.{filter, list_any}
use Rattle.xb_model.specs.declared.row.Contact.{Contact}
use Rattle.xb_model.specs.declared.row.Contact.TheVariants.{Make, Brk, Close}
use Rattle.xb_model.specs.declared.limits.Limits.{Limits}
use Rattle.xb_model.specs.declared.signal.TheConstants.{MOST_PULSES}
use Rattle.xb_model.specs.Records.{is_break}
use Rattle.xb_model.specs.Signals.{is_bad_run}
use Rattle.xb_heard.specs.declared.run.PlacedRun.{PlacedRun}
use Rattle.xb_heard.specs.declared.fault.PulseFault.{PulseFault}
use Rattle.xb_heard.specs.declared.fault.PulseFault.TheVariants.{ShortBreak, LongBreak, ShortMake, TooManyPulses}
use Rattle.xb_heard.specs.declared.fault.Spoiler.{Spoiler}
use Rattle.xb_heard.specs.PlacedRuns.{run_in}

-- whether a break ends there that is counted
abbrev pub one_if_break : Contact → ℕ
one_if_break Make = 0
one_if_break Brk = 1
one_if_break Close = 0

-- what is wrong with a run, if it is a break the n-th of its train
abbrev pub fault_at : Limits → ℕ → Contact → ℕ → Option PulseFault
fault_at limits n Make ms = if nat_lt ms limits.make_min then Some ShortMake else None
fault_at limits n Brk ms =
    if nat_lt ms limits.pulse_min then Some ShortBreak
    else (if nat_lt limits.pulse_max ms then Some LongBreak
    else (if nat_lt MOST_PULSES n then Some TooManyPulses else None))
fault_at limits n Close ms = None

abbrev pub spoiler : PulseFault → PlacedRun → Spoiler
spoiler fault run = record { fault = fault; run = run }

abbrev pub or_first : Option PulseFault → PlacedRun → Option Spoiler → Option Spoiler
or_first (Some fault) run later = Some (spoiler fault run)
or_first None run later = later

-- the first run of a train that is wrong, where n breaks of it stand before these runs
abbrev pub first_spoiler : Limits → ℕ → List PlacedRun → Option Spoiler
first_spoiler limits n [] = None
first_spoiler limits n (run ∷ rest) =
    or_first (fault_at limits (n + one_if_break run.contact) run.contact run.ms) run
    (first_spoiler limits (n + one_if_break run.contact) rest)

-- in words

-- a run alone is out of its limits
abbrev pub is_out : Limits → PlacedRun → Bool
is_out limits run = is_bad_run limits run.contact run.ms

abbrev pub breaks_among : List PlacedRun → ℕ
breaks_among runs = length (filter (λ run. is_break (run_in run)) runs)

-- what a fault says of its run is so, where these runs of the train stand before it
abbrev pub IsTrueFault : Limits → List PlacedRun → PulseFault → PlacedRun → Type 0
IsTrueFault limits before ShortBreak run = (run.contact ≡ Brk) × (run.ms < limits.pulse_min)
IsTrueFault limits before LongBreak run = (run.contact ≡ Brk) × (limits.pulse_max < run.ms)
IsTrueFault limits before ShortMake run = (run.contact ≡ Make) × (run.ms < limits.make_min)
IsTrueFault limits before TooManyPulses run = (run.contact ≡ Brk) × (breaks_among before ≡ MOST_PULSES)

-- it is so of a run of the train, and of no run before it
pub record IsFirstFault (limits : Limits) (train : List PlacedRun) (found : Spoiler) : Type 0 where
  pub before : List PlacedRun
  pub after : List PlacedRun
  pub stands : train ≡ before ++ found.run ∷ after
  pub is_true : IsTrueFault limits before found.fault found.run
  pub none_out : list_any (is_out limits) before ≡ false
  pub few_breaks : nat_lt MOST_PULSES (breaks_among before) ≡ false
