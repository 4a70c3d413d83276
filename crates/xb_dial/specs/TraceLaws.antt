-- What traces come to.
use Rattle.std.specs.Prelude.{◌≡◌, ℕ, ◌+◌, ◌/◌, ◌<◌, ◌^◌, List, Ok}
use Rattle.xb_model.specs.Rows.{LoopRow}
use Rattle.xb_contact.specs.declared.level.Level.{Level}
use Rattle.xb_contact.specs.Bounces.{AllBounceWithin, clean, recorded}
use Rattle.xb_contact.specs.Holds.{AllLast, IsAlternating, runs_of, total_of}
use Rattle.xb_contact.specs.Listening.{all_told, begun_at}
use Rattle.xb_contact.specs.Settled.{settled}
use Rattle.xb_contact.specs.Times.{rounded, scale_by}
use Rattle.xb_vcd.specs.VcdTexts.{begun_vcd, vcd_says}
use Rattle.xb_vcd.specs.WrittenVcd.{vcd_events}
use Rattle.xb_dial.specs.declared.bouncing.Bouncing.{Bouncing}
use Rattle.xb_dial.specs.Runs.{runs_in, us_in}
use Rattle.xb_dial.specs.Traces.{clean_of, trace_changes, trace_end, trace_lines, trace_of, wires}

-- whatever the rows are, the trace is read back as the changes of the contact
abbrev pub TracesAreRead : Type 0
TracesAreRead =
    (bouncing : Bouncing) (rows : List LoopRow) → us_in rows < 2 ^ 64
    → vcd_says (begun_vcd wires) (trace_lines bouncing rows)
    ≡ Ok (vcd_events (trace_changes bouncing rows) (trace_end rows))

-- the bounces disturb the runs of the rows, whose levels alternate, and take no time of them
abbrev pub TracesKeepRuns : Type 0
TracesKeepRuns =
    (bouncing : Bouncing) (rows : List LoopRow)
    → (clean (trace_of bouncing rows) ≡ clean_of rows) × IsAlternating (clean_of rows)
    × (total_of (recorded (trace_of bouncing rows)) ≡ us_in rows) × (trace_end rows ≡ us_in rows)

-- an eighth of the time of the bounces is shorter than a settled run, and each run is longer than that time by one
abbrev pub AreLong : ℕ → Bouncing → List LoopRow → Type 0
AreLong least bouncing rows = (bouncing.us / 8 < least) × AllLast (least + bouncing.us) (clean_of rows)

-- then all bounces are short and end in time, and settled they leave no trace
abbrev pub TracesSettle : Type 0
TracesSettle =
    (least : ℕ) (first : Level) (bouncing : Bouncing) (rows : List LoopRow) → AreLong least bouncing rows
    → AllBounceWithin least bouncing.us (trace_of bouncing rows)
    × (settled least first (recorded (trace_of bouncing rows)) ≡ clean_of rows)

-- and its runs in ms are those of the rows, as they are told to who listens
abbrev pub TracesAreTheRows : Type 0
TracesAreTheRows =
    (least most : ℕ) (first : Level) (bouncing : Bouncing) (rows : List LoopRow) → AreLong least bouncing rows
    → (rounded (scale_by 1 1000) 0 (settled least first (recorded (trace_of bouncing rows))) ≡ runs_in rows)
    × (runs_of (all_told (begun_at least (scale_by 1 1000) most first) (recorded (trace_of bouncing rows)))
    ≡ runs_in rows)
