-- What the words of the command line ask for, as clap reads them.
use Rattle.std.specs.Prelude.{ℕ, ◌≡◌, ◌⊎◌, ◌==◌, ◌&&◌, ◌||◌, Bool, true, false, List, Option, Some, None, codes, is_none, is_some, option_and_then, option_map, if◌then◌else◌}
use Rattle.std.specs.Option.{unwrap_or}
use Rattle.clap.specs.Walk.{Row, first_of}
use Rattle.xb_command.specs.Answers.{Takes}
use Rattle.xb_command.specs.Given.{ReadsFlag, ReadsNumber, given_by}
use Rattle.xb_command.specs.declared.asking.Answer.{Answer}
use Rattle.xb_command.specs.declared.asking.Answer.TheVariants as answer
use Rattle.xb_command.specs.declared.asking.Misfit.{Misfit}
use Rattle.xb_command.specs.declared.table.Call.{Call}
use Rattle.xb_model.specs.Plans.{plan_of_digits}
use Rattle.xb_calls.specs.declared.order.RowOrder.TheVariants.{ByLine, InTurn}
use Rattle.xb_calls.specs.declared.speed.Speed.{Speed}
use Rattle.xb_calls.specs.Speeds.{speed_of, ten_pulses_a_second, twenty_pulses_a_second}
use Rattle.xb_dial.specs.declared.bouncing.Bouncing.{Bouncing}
use Rattle.xb_worn.specs.declared.wear.Wear.{Wear}
use Rattle.xb_dial.specs.declared.request.Asked.{Asked}
use Rattle.xb_dial.specs.declared.request.Form.{Form}
use Rattle.xb_dial.specs.declared.request.Form.TheVariants.{Rows, Trace}
use Rattle.xb_dial.specs.declared.request.Manner.{Manner}
use Rattle.xb_dial.specs.declared.words.Options.{Options}
use Rattle.xb_dial.specs.FaultWords.{AreNoFaults, faults_said, in_range}

-- what clap matched says these options
pub record SayOptions (rows : List Row) (options : Options) : Type 0 where
  pub calls : option_map (λ text. text.now) options.calls ≡ first_of (codes "CALLS") rows
  pub speed : ReadsNumber (given_by rows (codes "speed")) options.speed
  pub break_ms : ReadsNumber (given_by rows (codes "break")) options.break_ms
  pub make_ms : ReadsNumber (given_by rows (codes "make")) options.make_ms
  pub pause_ms : ReadsNumber (given_by rows (codes "pause")) options.pause_ms
  pub seize_ms : ReadsNumber (given_by rows (codes "seize")) options.seize_ms
  pub hang_up_ms : ReadsNumber (given_by rows (codes "hang-up")) options.hang_up_ms
  pub slow : ReadsNumber (given_by rows (codes "slow")) options.slow
  pub jitter : ReadsNumber (given_by rows (codes "jitter")) options.jitter
  pub bounce : ReadsNumber (given_by rows (codes "bounce")) options.bounce
  pub seed : ReadsNumber (given_by rows (codes "seed")) options.seed
  pub plan : ReadsNumber (given_by rows (codes "plan")) options.plan
  pub beyond : ReadsFlag (given_by rows (codes "out-of-limits")) options.beyond
  pub vcd : ReadsFlag (given_by rows (codes "vcd")) options.vcd
  pub in_turn : ReadsFlag (given_by rows (codes "in-turn")) options.in_turn
  pub any : ReadsFlag (given_by rows (codes "incomplete")) options.any

abbrev pub standard_speed : ℕ → Option Speed
standard_speed pulses =
    if pulses == 10 then Some ten_pulses_a_second
    else (if pulses == 20 then Some twenty_pulses_a_second else None)

-- a standard speed, with each time that is given in place of its own
abbrev pub speed_of_options : Options → Speed → Speed
speed_of_options options standard =
    speed_of (unwrap_or options.break_ms standard.break_ms) (unwrap_or options.make_ms standard.make_ms)
    (unwrap_or options.pause_ms standard.pause_ms) (unwrap_or options.seize_ms standard.seize_ms)
    (unwrap_or options.hang_up_ms standard.hang_up_ms)

-- a number that is 0 unless it is given, and not greater than the most
abbrev pub up_to : ℕ → Option ℕ → Option ℕ
up_to most given = in_range 0 most (unwrap_or given 0)

-- how the dial is worn: by up to 1,000 % for each pulse before, and by up to 10,000 ms by chance
abbrev pub wear_of : Options → Speed → Option Wear
wear_of options standard =
    option_and_then (λ slow. option_map (λ jitter. record {
      speed = speed_of_options options standard;
      slow_percent = slow;
      jitter_ms = jitter;
      seed = unwrap_or options.seed 0;
    }) (up_to 10000 options.jitter)) (up_to 1000 options.slow)

-- what is printed: bounces belong to a dump, and take 8 to 100,000 us
abbrev pub bouncing : Options → ℕ → Bouncing
bouncing options us = record { us = us; seed = unwrap_or options.seed 0 }

abbrev pub form_by : Options → Bool → Option ℕ → Option Form
form_by options false None = Some Rows
form_by options false (Some us) = None
form_by options true None = Some (Trace (bouncing options 0))
form_by options true (Some us) = option_map (λ us. Trace (bouncing options us)) (in_range 8 100000 us)

abbrev pub form_of : Options → Option Form
form_of options = form_by options options.vcd options.bounce

-- a seed is given for nothing: no time swings, and no contact bounces
abbrev pub has_idle_seed : Options → Bool
has_idle_seed options = is_some options.seed && (is_none options.jitter && is_none options.bounce)

-- what the options ask for, where there is such a standard speed and such a plan, each number is in its range, a seed is for
-- something, and no order of lines is asked for the contact of one
abbrev pub manner_of : Options → Option Manner
manner_of options =
    if has_idle_seed options || (options.vcd && options.in_turn) then None
    else option_and_then (λ standard. option_and_then (λ plan. option_and_then (λ wear. option_map (λ form. record {
      wear = wear;
      beyond = options.beyond;
      order = if options.in_turn then InTurn else ByLine;
      whole = if options.any then None else Some plan;
      form = form;
    }) (form_of options)) (wear_of options standard)) (plan_of_digits (unwrap_or options.plan 7)))
    (standard_speed (unwrap_or options.speed 10))

-- what clap matched says this
pub record Say (rows : List Row) (asked : Asked) : Type 0 where
  pub options : Options
  pub says : SayOptions rows options
  pub calls : asked.calls ≡ options.calls
  pub manner : manner_of options ≡ Some asked.request.manner
  pub faults : faults_said (first_of (codes "fault") rows) ≡ Some asked.request.faults.items

-- what clap matched says options that ask for nothing
abbrev pub AskNothing : List Row → Type 0
AskNothing rows = (options : Options) × SayOptions rows options × (manner_of options ≡ None)

-- why what clap matched says nothing that there is: its options ask for nothing, its faults are none, or memory ran out
abbrev pub IsNothing : List Row → Answer → Type 0
IsNothing rows answer.NoMemory = Unit {0}
IsNothing rows (answer.Unfit misfit) = AskNothing rows ⊎ AreNoFaults (first_of (codes "fault") rows) misfit
IsNothing rows _ = ⊥

-- the words of a call are taken, and ask for this
pub record Asks (call : Call) (asked : Asked) : Type 0 where
  pub rows : List Row
  pub takes : Takes call rows
  pub says : Say rows asked

-- they are taken, and this is why they ask for nothing
pub record IsUnfit (call : Call) (misfit : Misfit) : Type 0 where
  pub rows : List Row
  pub takes : Takes call rows
  pub says : IsNothing rows (answer.Unfit misfit)
