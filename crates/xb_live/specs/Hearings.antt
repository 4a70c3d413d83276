-- What is heard of a line beside its marks, row by row.
use Rattle.std.specs.Prelude.{◌≡◌, ℕ, ◌+◌, ◌-◌, ◌^◌, min, List, [], fold, Option, Some, None, if◌then◌else◌}
use Rattle.xb_model.specs.declared.dialled.Dialled.{Dialled}
use Rattle.xb_model.specs.declared.dialled.Dialled.TheVariants.{Number, Refused}
use Rattle.xb_model.specs.declared.limits.Limits.{Limits}
use Rattle.xb_model.specs.declared.plan.Plan.{Plan}
use Rattle.xb_model.specs.declared.signal.Signal.{Signal}
use Rattle.xb_model.specs.Image.{Machine, state_after}
use Rattle.xb_model.specs.Lines.{row_line}
use Rattle.xb_model.specs.States.{AreStates}
use Rattle.xb_model.specs.Rows.{LoopRow}
use Rattle.xb_pulse.specs.Machine.{machine as pulse_machine, phase_after, signals_by}
use Rattle.xb_register.specs.declared.state.Phase.{Phase}
use Rattle.xb_register.specs.declared.state.Phase.TheVariants.{OnHook, Listening, Done}
use Rattle.xb_register.specs.Laws.{is_seizure}
use Rattle.xb_register.specs.Machine.{advance, machine as register_machine}
use Rattle.xb_routes.specs.Table.{Table}
use Rattle.xb_live.specs.declared.line_hearing.Hearing.{Hearing}
use Rattle.xb_live.specs.declared.hearings.Hearings.{Hearings}

-- the digits after a signal: those of the number that it brings, or those that the register has kept
abbrev pub digits_kept : Phase → List ℕ → List ℕ
digits_kept OnHook before = before
digits_kept (Listening digits) before = digits
digits_kept Done before = before

abbrev pub digits_by : Option Dialled → Phase → List ℕ → List ℕ
digits_by None phase before = digits_kept phase before
digits_by (Some (Number digits)) phase before = digits
digits_by (Some (Refused reason heard)) phase before = before

-- after a signal of a row before which the line's rows lasted `at`
abbrev pub after_signal : Plan → Hearing → Signal → Hearing
after_signal plan heard signal =
    let step = advance plan heard.register signal in
    record {
      pulse = heard.pulse;
      register = step.phase;
      at = heard.at;
      began = if is_seizure signal then heard.at else heard.began;
      dialled = digits_by step.outcome step.phase heard.dialled;
    }

abbrev pub after_signals : Plan → Hearing → List Signal → Hearing
after_signals plan heard signals = fold (after_signal plan) heard signals

-- with this phase of the pulse stage
abbrev pub in_phase : Limits → LoopRow → Hearing → Hearing
in_phase limits row heard =
    record {
      pulse = phase_after limits heard.pulse row;
      register = heard.register;
      at = heard.at;
      began = heard.began;
      dialled = heard.dialled;
    }

-- this many ms later
abbrev pub later_by : ℕ → Hearing → Hearing
later_by ms heard =
    record {
      pulse = heard.pulse;
      register = heard.register;
      at = min (heard.at + ms) (2 ^ 64 - 1);
      began = heard.began;
      dialled = heard.dialled;
    }

-- after a row of the line
abbrev pub after_row : Limits → Plan → Hearing → LoopRow → Hearing
after_row limits plan heard row =
    later_by row.ms (after_signals plan (in_phase limits row heard) (signals_by limits heard.pulse row))

-- before the first row
abbrev pub fresh_hearing : Limits → Plan → Hearing
fresh_hearing limits plan =
    record {
      pulse = (pulse_machine limits).start;
      register = (register_machine plan).start;
      at = 0;
      began = 0;
      dialled = [];
    }

-- what is heard of one line, row by row
abbrev pub hearing_machine : Limits → Plan → Machine LoopRow Signal Hearing
hearing_machine limits plan = record {
  start = fresh_hearing limits plan;
  next = after_row limits plan;
  outs = λ heard row. signals_by limits heard.pulse row;
}

-- the signals of a row that comes after earlier ones
abbrev pub row_signals : Table → List LoopRow → LoopRow → List Signal
row_signals table earlier row =
    let heard = state_after row_line (hearing_machine table.limits table.plan) earlier row.line in
    signals_by table.limits heard.pulse row

-- an office by this table has heard these rows
pub record HasHeard (table : Table) (hearings : Hearings) (rows : List LoopRow) : Type 0 where
  pub limits_are : hearings.limits ≡ table.limits
  pub plan_is : hearings.plan ≡ table.plan
  pub lines : AreStates row_line (hearing_machine table.limits table.plan) hearings.lines rows
