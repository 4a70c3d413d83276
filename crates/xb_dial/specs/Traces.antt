-- The trace of a contact that dials rows.
use Rattle.std.specs.Prelude.{ℕ, ◌+◌, List, [], ◌∷◌, ◌++◌, codes, map}
use Rattle.xb_model.specs.Rows.{LoopRow}
use Rattle.xb_contact.specs.declared.level.Level.{Level}
use Rattle.xb_contact.specs.declared.hold.Hold.{Hold}
use Rattle.xb_contact.specs.Bounces.{Disturbed, recorded, recorded_run}
use Rattle.xb_contact.specs.Changes.{Change}
use Rattle.xb_contact.specs.Holds.{total_of}
use Rattle.xb_vcd.specs.WrittenVcd.{change_lines, time_line, vcd_lines}
use Rattle.xb_dial.specs.declared.bouncing.Bouncing.{Bouncing}
use Rattle.xb_dial.specs.Drawn.{disturbed_by, disturbed_from}
use Rattle.xb_dial.specs.Runs.{in_us, runs_in}

-- the contact without its bounces, in us
abbrev pub clean_of : List LoopRow → List Hold
clean_of rows = map in_us (runs_in rows)

-- the contact with them: each run bounces but the first
abbrev pub trace_of : Bouncing → List LoopRow → List Disturbed
trace_of bouncing rows = disturbed_from 0 bouncing.us bouncing.seed (clean_of rows)

-- what changes from this tick on: the one wire has the level of each hold where it begins
abbrev pub change_at : ℕ → Level → Change
change_at tick level = record { tick = tick; wire = 0; level = level }

abbrev pub changes_from : ℕ → List Hold → List Change
changes_from tick [] = []
changes_from tick (hold ∷ rest) = change_at tick hold.level ∷ changes_from (tick + hold.ticks) rest

abbrev pub trace_changes : Bouncing → List LoopRow → List Change
trace_changes bouncing rows = changes_from 0 (recorded (trace_of bouncing rows))

-- the recording ends where the clean one does
abbrev pub trace_end : List LoopRow → ℕ
trace_end rows = total_of (clean_of rows)

-- the wire
abbrev pub wires : List (List ℕ)
wires = codes "loop" ∷ []

abbrev pub trace_lines : Bouncing → List LoopRow → List (List ℕ)
trace_lines bouncing rows = vcd_lines wires (trace_changes bouncing rows) (trace_end rows)

-- each line is ended by LF
abbrev pub text_of : List (List ℕ) → List ℕ
text_of [] = []
text_of (line ∷ rest) = (line ++ codes "\n") ++ text_of rest

abbrev pub trace_text : Bouncing → List LoopRow → List ℕ
trace_text bouncing rows = text_of (trace_lines bouncing rows)

-- the text of a change, and of all changes of a run that begins at this tick
abbrev pub change_text : ℕ → Level → List ℕ
change_text tick level = text_of (change_lines (change_at tick level ∷ []))

abbrev pub run_text : ℕ → ℕ → ℕ → Hold → List ℕ
run_text tick us state run =
    text_of (change_lines (changes_from tick (recorded_run (disturbed_by us state run))))

-- the text of the end, and of all that comes after the head of runs in ms
abbrev pub end_text : ℕ → List ℕ
end_text tick = text_of (time_line tick ∷ [])

abbrev pub runs_text : Bouncing → List Hold → List ℕ
runs_text bouncing runs =
    text_of
    (change_lines (changes_from 0 (recorded (disturbed_from 0 bouncing.us bouncing.seed (map in_us runs))))
    ++ time_line (total_of (map in_us runs)) ∷ [])
