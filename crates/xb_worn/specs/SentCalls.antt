-- Calls as they are sent, by any dial.
use Rattle.std.specs.Prelude.{◌≡◌, ℕ, ◌<◌, List, [], ◌∷◌, ◌++◌}
use Rattle.std.specs.List.{AllByRecursion, flat_map}
use Rattle.xb_model.specs.Lines.{of_line}
use Rattle.xb_model.specs.Records.{Run, break, make, rows_of}
use Rattle.xb_model.specs.Rows.{LoopRow}
use Rattle.xb_calls.specs.Dialling.{on_line}
use Rattle.xb_worn.specs.declared.pulse.SentPulse.{SentPulse}

abbrev pub pulse_of : ℕ → ℕ → SentPulse
pulse_of break_ms make_ms = record { break_ms = break_ms; make_ms = make_ms }

-- a call as it is sent: its line, the make that seizes, and the pulses of all its digits
pub record SentCall : Type 0 where
  pub line : ℕ
  pub seize_ms : ℕ
  pub pulses : List SentPulse

abbrev pub sent_call : ℕ → ℕ → List SentPulse → SentCall
sent_call line seize_ms pulses = record { line = line; seize_ms = seize_ms; pulses = pulses }

-- a pulse is a break, and the make after it
abbrev pub pulse_runs : SentPulse → List Run
pulse_runs pulse = break pulse.break_ms ∷ make pulse.make_ms ∷ []

-- a call is the make that seizes, and its pulses
abbrev pub call_runs : SentCall → List Run
call_runs call = make call.seize_ms ∷ flat_map pulse_runs call.pulses

-- the calls of one line, with a break that hangs up between two of them
abbrev pub line_runs : ℕ → List SentCall → List Run
line_runs hang_up_ms [] = []
line_runs hang_up_ms (call ∷ []) = call_runs call
line_runs hang_up_ms (call ∷ next ∷ more) =
    call_runs call ++ break hang_up_ms ∷ line_runs hang_up_ms (next ∷ more)

abbrev pub sent_line : SentCall → ℕ
sent_line call = call.line

-- the calls of line l, in order
abbrev pub calls_on : ℕ → List SentCall → List SentCall
calls_on l calls = of_line sent_line l calls

-- the rows of line l
abbrev pub line_rows : ℕ → List SentCall → ℕ → List LoopRow
line_rows hang_up_ms calls l = on_line l (line_runs hang_up_ms (calls_on l calls))

-- the rows of each line are those of its calls, whatever stands between them
abbrev pub AreSent : ℕ → List SentCall → List LoopRow → Type 0
AreSent hang_up_ms calls rows = (l : ℕ) → rows_of l rows ≡ line_rows hang_up_ms calls l

-- a break and a make of a pulse are over 0 ms
abbrev pub PulseLasts : SentPulse → Type 0
PulseLasts pulse = (0 < pulse.break_ms) × (0 < pulse.make_ms)

-- each time of a call is over 0 ms
pub record Lasts (call : SentCall) : Type 0 where
  pub seizes : 0 < call.seize_ms
  pub pulses : AllByRecursion PulseLasts call.pulses
