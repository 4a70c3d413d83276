-- The pulse stage on one line, row by row: what a row sends, and the phase in which it leaves the
-- line. The laws say what this comes to over a whole record.
use Rattle.std.specs.Prelude.{ℕ, ◌+◌, min, List, [], ◌∷◌, false, ◌||◌, if◌then◌else◌, nat_le, ◌==◌}
use Rattle.xb_model.specs.declared.row.Contact.{Contact}
use Rattle.xb_model.specs.declared.row.Contact.TheVariants as contacts
use Rattle.xb_model.specs.declared.limits.Limits.{Limits}
use Rattle.xb_model.specs.declared.limits.TheConstants.{GREATEST_LIMIT}
use Rattle.xb_model.specs.declared.on.On.{On}
use Rattle.xb_model.specs.declared.signal.Signal.{Signal}
use Rattle.xb_model.specs.declared.signal.Signal.TheVariants.{Seize, Digit, TimeOut, Release, Close}
use Rattle.xb_model.specs.declared.signal.TheConstants.{MANY_BREAKS}
use Rattle.xb_model.specs.Lines.{row_line}
use Rattle.xb_model.specs.Rows.{LoopRow}
use Rattle.xb_model.specs.Signals.{is_bad_run}
use Rattle.xb_model.specs.Image.{Machine}
use Rattle.xb_model.specs.OnLines.{on_lines}
use Rattle.xb_pulse.specs.declared.state.Tally.{Tally}
use Rattle.xb_pulse.specs.declared.state.Phase.{Phase}
use Rattle.xb_pulse.specs.declared.state.Phase.TheVariants.{OnHook, BetweenTrains, InBreak, InMake, TimedOut, Closed}
use Rattle.xb_pulse.specs.declared.step.Step.{Step}

-- nothing is sent, and the line enters this phase
abbrev pub enter : Phase → Step
enter phase = record { sent = record { items = [] }; phase = phase }

-- a signal is sent before what a step sends
abbrev pub with_first : Signal → Step → Step
with_first signal step = record { sent = record { items = signal ∷ step.sent.items }; phase = step.phase }

-- a running total, which stops at the greatest limit that there is
abbrev pub longer : ℕ → ℕ → ℕ
longer total ms = min (total + ms) GREATEST_LIMIT

-- a train before its first break
abbrev pub no_breaks : Tally
no_breaks = record { breaks = 0; bad = false }

-- the tally after a break of this length has ended
abbrev pub with_break : Limits → ℕ → Tally → Tally
with_break limits total tally =
    record {
      breaks = min (tally.breaks + 1) MANY_BREAKS;
      bad = tally.bad || is_bad_run limits contacts.Brk total;
    }

-- the tally after a make of this length, inside the train, has ended
abbrev pub with_make : Limits → ℕ → Tally → Tally
with_make limits total tally =
    record {
      breaks = tally.breaks;
      bad = tally.bad || is_bad_run limits contacts.Make total;
    }

-- a make of this length in no train times the attempt out once it reaches `timeout`
abbrev pub judge_timeout : Limits → ℕ → Step
judge_timeout limits total =
    if nat_le limits.timeout total then with_first TimeOut (enter (TimedOut 0))
    else enter (BetweenTrains total)

-- a make of this length after a part of a train ends the train once it reaches `pause`
abbrev pub judge_pause : Limits → ℕ → Tally → Step
judge_pause limits total tally =
    if nat_le limits.pause total then with_first (Digit tally.breaks tally.bad) (judge_timeout limits total)
    else enter (InMake total tally)

-- a make row of 1 ms or more
abbrev pub take_make : Limits → Phase → ℕ → Step
take_make limits OnHook ms = with_first Seize (judge_timeout limits (longer 0 ms))
take_make limits (BetweenTrains total) ms = judge_timeout limits (longer total ms)
take_make limits (InBreak total tally) ms = judge_pause limits (longer 0 ms) (with_break limits total tally)
take_make limits (InMake total tally) ms = judge_pause limits (longer total ms) tally
take_make limits (TimedOut total) ms = enter (TimedOut 0)
take_make limits Closed ms = enter Closed

-- a break begins or grows longer; on hook it is idle time
abbrev pub lengthen_break : Limits → Phase → ℕ → Phase
lengthen_break limits OnHook ms = OnHook
lengthen_break limits (BetweenTrains total) ms = InBreak (longer 0 ms) no_breaks
lengthen_break limits (InBreak total tally) ms = InBreak (longer total ms) tally
lengthen_break limits (InMake total tally) ms = InBreak (longer 0 ms) (with_make limits total tally)
lengthen_break limits (TimedOut total) ms = TimedOut (longer total ms)
lengthen_break limits Closed ms = Closed

-- a phase of an attempt in a break of this length, which releases the line once it reaches `release`
abbrev pub release_at : Limits → ℕ → Phase → Step
release_at limits total phase =
    if nat_le limits.release total then with_first Release (enter OnHook) else enter phase

-- the break of a phase releases the line if it is long enough
abbrev pub judge_release : Limits → Phase → Step
judge_release limits (InBreak total tally) = release_at limits total (InBreak total tally)
judge_release limits (TimedOut total) = release_at limits total (TimedOut total)
judge_release limits phase = enter phase

-- a break row of 1 ms or more
abbrev pub take_break : Limits → Phase → ℕ → Step
take_break limits phase ms = judge_release limits (lengthen_break limits phase ms)

-- a close row: only the first is heard
abbrev pub take_close : Phase → Step
take_close Closed = enter Closed
take_close _ = with_first Close (enter Closed)

-- a row of this contact and length; makes and breaks of 0 ms count for nothing
abbrev pub take_row : Limits → Phase → Contact → ℕ → Step
take_row limits phase contacts.Make ms = if ms == 0 then enter phase else take_make limits phase ms
take_row limits phase contacts.Brk ms = if ms == 0 then enter phase else take_break limits phase ms
take_row limits phase contacts.Close ms = take_close phase

-- a row of the line
abbrev pub step_of : Limits → Phase → LoopRow → Step
step_of limits phase row = take_row limits phase row.contact row.ms

-- the phase after a row
abbrev pub phase_after : Limits → Phase → LoopRow → Phase
phase_after limits phase row = (step_of limits phase row).phase

-- the signals that a row sends
abbrev pub signals_by : Limits → Phase → LoopRow → List Signal
signals_by limits phase row = (step_of limits phase row).sent.items

-- what the stage does on one line
abbrev pub machine : Limits → Machine LoopRow (On Signal) Phase
machine limits = on_lines row_line OnHook (phase_after limits) (signals_by limits)
