-- The rows of calls as they are sent.
use Rattle.std.specs.Prelude.{◌≡◌, ℕ, ◌<◌, ◌≤◌, nat_le, ◌&&◌, Bool, false, not, List, [], ◌∷◌, ◌++◌, map, slice_index_or, slice_set, Option, Some, None}
use Rattle.std.specs.List.{list_all}
use Rattle.xb_model.specs.declared.limits.Limits.{Limits}
use Rattle.xb_model.specs.declared.plan.Plan.{Plan}
use Rattle.xb_model.specs.declared.line.TheConstants.{LINES}
use Rattle.xb_model.specs.declared.row.TheConstants.{GREATEST_MS}
use Rattle.xb_model.specs.Lines.{lines_below}
use Rattle.xb_model.specs.Records.{Run, break}
use Rattle.xb_model.specs.Rows.{LoopRow}
use Rattle.xb_calls.specs.Calls.{DialledCall}
use Rattle.xb_calls.specs.Dialling.{in_order, on_line}
use Rattle.xb_calls.specs.declared.order.RowOrder.{RowOrder}
use Rattle.xb_worn.specs.declared.fault.Fault.{Fault}
use Rattle.xb_worn.specs.declared.pulse.SentPulse.{SentPulse}
use Rattle.xb_worn.specs.declared.runs.RunFault.{RunFault}
use Rattle.xb_worn.specs.declared.runs.RunFault.TheVariants as run
use Rattle.xb_worn.specs.declared.wear.Wear.{Wear}
use Rattle.xb_worn.specs.declared.worn_fault.WornFault.{WornFault}
use Rattle.xb_worn.specs.declared.worn_fault.WornFault.TheVariants as worn
use Rattle.xb_worn.specs.HeardCalls.{AreHeard}
use Rattle.xb_worn.specs.Places.{ArePlaced, absent_from, first_from, repeated_from}
use Rattle.xb_worn.specs.Sending.{sent}
use Rattle.xb_worn.specs.SentCalls.{SentCall, call_runs, line_rows}

-- the rows of each line, from line 0 on
abbrev pub rows_by_line : ℕ → List SentCall → List (List LoopRow)
rows_by_line hang_up_ms calls = map (line_rows hang_up_ms calls) (lines_below LINES)

-- the rows of calls as a worn dial with faults sends them, in an order of the lines
abbrev pub worn_rows : RowOrder → Wear → List Fault → List DialledCall → List LoopRow
worn_rows order wear faults calls =
    in_order order (rows_by_line wear.speed.hang_up_ms (sent wear faults calls))

-- a time of a row: 1 ms to a day
abbrev pub is_time : ℕ → Bool
is_time ms = nat_le 1 ms && nat_le ms GREATEST_MS

abbrev pub pulse_fits : SentPulse → Bool
pulse_fits pulse = is_time pulse.break_ms && is_time pulse.make_ms

-- each time of a call is one of a row
abbrev pub times_fit : SentCall → Bool
times_fit call = is_time call.seize_ms && list_all pulse_fits call.pulses

-- the number of the first call that has another time, where they count from n
abbrev pub misfit_from : ℕ → List SentCall → Option ℕ
misfit_from n calls = first_from (λ call. not (times_fit call)) n calls

-- a fault that tells of a time comes only where times do not fit
abbrev pub IsMisfit : RunFault → Bool → Type 0
IsMisfit run.Time fit = fit ≡ false
IsMisfit run.NoMemory fit = Unit {0}

-- after rows of a line a break hangs up
abbrev pub hang_up_after : {A : Type 0} → List A → ℕ → List Run
hang_up_after [] hang_up_ms = []
hang_up_after (row ∷ rows) hang_up_ms = break hang_up_ms ∷ []

-- the rows of a line, with one call more
abbrev pub next_rows : ℕ → SentCall → List LoopRow → List LoopRow
next_rows hang_up_ms call rows =
    rows ++ on_line call.line (hang_up_after rows hang_up_ms ++ call_runs call)

-- the rows of each line, with one call more, and with calls more
abbrev pub with_call : ℕ → SentCall → List (List LoopRow) → List (List LoopRow)
with_call hang_up_ms call lists =
    slice_set lists call.line (next_rows hang_up_ms call (slice_index_or lists call.line []))

abbrev pub with_calls : ℕ → List SentCall → List (List LoopRow) → List (List LoopRow)
with_calls hang_up_ms [] lists = lists
with_calls hang_up_ms (call ∷ calls) lists = with_calls hang_up_ms calls (with_call hang_up_ms call lists)

-- lines of the office
abbrev pub IsOnLine : SentCall → Type 0
IsOnLine call = call.line < LINES

-- a fault tells of the call of this number only where its times do not fit
abbrev pub TellsOf : ℕ → Bool → WornFault → Type 0
TellsOf number fit (worn.Time n) = (n ≡ number) × (fit ≡ false)
TellsOf number fit worn.NoMemory = Unit {0}
TellsOf number fit worn.HangUp = ⊥
TellsOf number fit (worn.NoSuchPlace n) = ⊥
TellsOf number fit (worn.SamePlace n) = ⊥

-- a fault tells of the first call whose times do not fit
abbrev pub TellsMisfit : Option ℕ → WornFault → Type 0
TellsMisfit first (worn.Time n) = first ≡ Some n
TellsMisfit first worn.NoMemory = Unit {0}
TellsMisfit first worn.HangUp = ⊥
TellsMisfit first (worn.NoSuchPlace n) = ⊥
TellsMisfit first (worn.SamePlace n) = ⊥

-- why there are no rows, in this order: a place that is not there, two faults at one place, the hang-up, a time, memory
abbrev pub IsFaultOf : Wear → List Fault → List DialledCall → WornFault → Type 0
IsFaultOf wear faults calls (worn.NoSuchPlace n) = absent_from calls 1 faults ≡ Some n
IsFaultOf wear faults calls (worn.SamePlace n) =
    (absent_from calls 1 faults ≡ None) × (repeated_from [] 1 faults ≡ Some n)
IsFaultOf wear faults calls worn.HangUp = ArePlaced calls faults × (is_time wear.speed.hang_up_ms ≡ false)
IsFaultOf wear faults calls (worn.Time n) =
    ArePlaced calls faults × (misfit_from 1 (sent wear faults calls) ≡ Some n)
IsFaultOf wear faults calls worn.NoMemory = Unit {0}

-- by every plan, and all limits by which the hang-up is one, each line is heard as its calls are
abbrev pub IsHeard : ℕ → List SentCall → List LoopRow → Type 0
IsHeard hang_up_ms calls rows =
    (plan : Plan) (limits : Limits) → limits.release ≤ hang_up_ms → AreHeard plan limits calls rows
