-- The dial of a line, settled run by settled run. The laws say what this comes to over a whole recording.
use Rattle.std.specs.Prelude.{ℕ, ◌-◌, ◌^◌, ◌==◌, min, max, Option, Some, None, nat_le, if◌then◌else◌}
use Rattle.xb_model.specs.declared.limits.Limits.{Limits}
use Rattle.xb_contact.specs.declared.hold.Hold.{Hold}
use Rattle.xb_contact.specs.declared.level.Level.{Level}
use Rattle.xb_contact.specs.declared.level.Level.TheVariants.{Closed, Open}
use Rattle.xb_contact.specs.declared.scale.Scale.{Scale}
use Rattle.xb_contact.specs.Holds.{same_level}
use Rattle.xb_contact.specs.Times.{ms_at}
use Rattle.xb_turns.specs.declared.dial.Dial.{Dial}
use Rattle.xb_turns.specs.declared.dial.Place.{Place}
use Rattle.xb_turns.specs.declared.dial.Place.TheVariants.{OnHook, Waiting, Pulsing, Over}
use Rattle.xb_turns.specs.declared.dial.Said.{Said}
use Rattle.xb_turns.specs.declared.dial.Said.TheVariants.{Digit, HungUp}
use Rattle.xb_turns.specs.declared.train.Timed.{Timed}
use Rattle.xb_turns.specs.declared.train.Train.{Train}
use Rattle.xb_turns.specs.Trains.{plus, train_begun, with_break, with_make}

-- how many ms lie between two ticks, each rounded once; 2^64 - 1 at most, and 0 where a tick has no length
abbrev pub ms_between : Scale → ℕ → ℕ → ℕ
ms_between scale from until =
    if scale.ticks == 0 then 0 else min (ms_at scale until - ms_at scale from) (2 ^ 64 - 1)

-- what is told with a make: a pause ends a digit
abbrev pub said_by_make : Limits → Place → Timed → ℕ → Option Said
said_by_make limits OnHook run edge = None
said_by_make limits Waiting run edge = None
said_by_make limits (Pulsing train) run edge =
    if nat_le limits.pause run.ms then Some (Digit train (max train.bounce edge)) else None
said_by_make limits Over run edge = None

-- with a break: one of the release hangs up
abbrev pub hung_up : Place → ℕ → Option Said
hung_up OnHook edge = None
hung_up Waiting edge = Some (HungUp None)
hung_up (Pulsing train) edge = Some (HungUp (Some (train, max train.bounce edge)))
hung_up Over edge = Some (HungUp None)

abbrev pub said_by_break : Limits → Place → Timed → ℕ → Option Said
said_by_break limits place run edge = if nat_le limits.release run.ms then hung_up place edge else None

abbrev pub said_of : Limits → Place → Level → Timed → ℕ → Option Said
said_of limits place Closed run edge = said_by_make limits place run edge
said_of limits place Open run edge = said_by_break limits place run edge

-- where the line is after a make: after the time-out nothing is heard, and a pause ends the pulses
abbrev pub unless_over : Limits → Place → Timed → Place
unless_over limits OnHook run = Waiting
unless_over limits Waiting run = Waiting
unless_over limits (Pulsing train) run =
    if nat_le limits.pause run.ms then Waiting else Pulsing (with_make limits train run)
unless_over limits Over run = Over

abbrev pub place_after_make : Limits → Place → Timed → Place
place_after_make limits place run =
    if nat_le limits.timeout run.ms then Over else unless_over limits place run

-- after a break: one of the release hangs up, and any other is a pulse
abbrev pub pulse_more : Limits → Place → Timed → Place
pulse_more limits OnHook run = OnHook
pulse_more limits Waiting run = Pulsing (train_begun limits run)
pulse_more limits (Pulsing train) run = Pulsing (with_break limits train run)
pulse_more limits Over run = Over

abbrev pub place_after_break : Limits → Place → Timed → Place
place_after_break limits place run =
    if nat_le limits.release run.ms then OnHook else pulse_more limits place run

abbrev pub place_after_level : Limits → Place → Level → Timed → Place
place_after_level limits place Closed run = place_after_make limits place run
place_after_level limits place Open run = place_after_break limits place run

-- a run that does not last changes nothing
abbrev pub place_after : Limits → Place → Level → Timed → Place
place_after limits place level run =
    if run.ticks == 0 then place else place_after_level limits place level run

-- a dial on hook, whose contact has this level at tick 0
abbrev pub begun_dial : Limits → Scale → Level → Dial
begun_dial limits scale level = record {
  limits = limits;
  scale = scale;
  place = OnHook;
  level = level;
  from = 0;
  until = 0;
  edge = 0;
  bounce = 0;
}

-- the run under way, and what is told with it
abbrev pub run_of : Dial → Timed
run_of dial = record {
  from = dial.from;
  ticks = dial.until - dial.from;
  ms = ms_between dial.scale dial.from dial.until;
  bounce = dial.bounce;
}

abbrev pub said_by : Dial → Option Said
said_by dial = said_of dial.limits dial.place dial.level (run_of dial) dial.edge

-- it goes on, or a run of the other level begins
abbrev pub lengthened : Dial → ℕ → ℕ → Dial
lengthened dial ticks bounce =
    record dial { until = plus dial.until ticks; bounce = max dial.bounce bounce }

abbrev pub turned : Dial → Hold → ℕ → Dial
turned dial hold bounce = record dial {
  place = place_after dial.limits dial.place dial.level (run_of dial);
  level = hold.level;
  from = dial.until;
  until = plus dial.until hold.ticks;
  edge = bounce;
  bounce = bounce;
}

-- a piece of the settled record, and the longest bounce before it settled: the dial then
abbrev pub dial_after : Dial → Hold → ℕ → Dial
dial_after dial hold bounce =
    if same_level hold.level dial.level then lengthened dial hold.ticks bounce else turned dial hold bounce

-- what is told with it: what was told of a run is not told again
abbrev pub said_then : Option Said → Option Said → Option Said
said_then (Some before) said = None
said_then None said = said

abbrev pub said_now : Dial → Hold → ℕ → Option Said
said_now dial hold bounce =
    if same_level hold.level dial.level then said_then (said_by dial) (said_by (lengthened dial hold.ticks bounce))
    else said_by (turned dial hold bounce)

-- where the recording ends: the pulses that no pause ended, if there are any, of a line that is off hook
abbrev pub left_at : Place → Option (Option (Train × ℕ))
left_at OnHook = None
left_at Waiting = Some None
left_at (Pulsing train) = Some (Some (train, train.bounce))
left_at Over = Some None

abbrev pub left_by : Dial → Option (Option (Train × ℕ))
left_by dial = left_at (place_after dial.limits dial.place dial.level (run_of dial))
