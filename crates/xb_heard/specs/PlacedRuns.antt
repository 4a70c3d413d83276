-- The runs of a line, each with its place in the recording.
use Rattle.std.specs.Prelude.{ℕ, ◌≡◌, ◌<◌, ◌+◌, List, [], ◌∷◌, Bool, if◌then◌else◌, ◌==◌, map, slice_index_or}
use Rattle.xb_model.specs.declared.line.TheConstants.{LINES}
use Rattle.xb_model.specs.declared.row.Contact.{Contact}
use Rattle.xb_model.specs.Rows.{LoopRow}
use Rattle.xb_model.specs.Records.{Run, run_of, is_close, same_contact, joined, record_of}
use Rattle.xb_heard.specs.declared.run.PlacedRun.{PlacedRun}

abbrev pub placed : Contact → ℕ → ℕ → ℕ → PlacedRun
placed contact ms start first_record =
    record { contact = contact; ms = ms; start = start; first_record = first_record }

-- the run alone, without its place
abbrev pub run_in : PlacedRun → Run
run_in run = run_of run.contact run.ms

-- what rows say of line l up to its first close, those of 0 ms left out: the first of the rows is
-- record n, and t ms of the line's record stand before it
abbrev pub placed_from : ℕ → ℕ → ℕ → List LoopRow → List PlacedRun
placed_from l n t [] = []
placed_from l n t (row ∷ rows) =
    if row.line == l then (if is_close row.contact then []
    else (if row.ms == 0 then placed_from l (n + 1) t rows
    else placed row.contact row.ms t n ∷ placed_from l (n + 1) (t + row.ms) rows))
    else placed_from l (n + 1) t rows

-- a run before others: neighbours of one contact add up, and the place is that of the first
abbrev pub join_placed : PlacedRun → List PlacedRun → List PlacedRun
join_placed run [] = run ∷ []
join_placed run (next ∷ rest) =
    if same_contact run.contact next.contact
    then placed run.contact (run.ms + next.ms) run.start run.first_record ∷ rest
    else run ∷ next ∷ rest

abbrev pub joined_placed : List PlacedRun → List PlacedRun
joined_placed [] = []
joined_placed (run ∷ rest) = join_placed run (joined_placed rest)

-- the makes and breaks of line l, each with its place; idle time at the beginning is one of them
abbrev pub placed_runs : ℕ → List LoopRow → List PlacedRun
placed_runs l rows = joined_placed (placed_from l 1 0 rows)

-- of the runs of all lines, each line's are those of its record
abbrev pub AreOfRecords : List LoopRow → List (List PlacedRun) → Type 0
AreOfRecords rows lines = (l : ℕ) (none : List PlacedRun) → l < LINES
    → map run_in (slice_index_or lines l none) ≡ joined (record_of l rows)

-- when the last of runs ends, in ms from the line's first row
abbrev pub end_of : List PlacedRun → ℕ
end_of [] = 0
end_of (run ∷ []) = run.start + run.ms
end_of (run ∷ next ∷ rest) = end_of (next ∷ rest)

-- runs that are joined, and what more runs make of the last of them and after it
abbrev pub joined_after : List PlacedRun → List PlacedRun → List PlacedRun
joined_after [] more = joined_placed more
joined_after (run ∷ []) more = joined_placed (run ∷ more)
joined_after (run ∷ next ∷ rest) more = run ∷ joined_after (next ∷ rest) more

-- the runs of line l, where these are those of its rows so far, and more rows come, the first of which
-- is record n: once the line is closed, rows add nothing
abbrev pub runs_after : List PlacedRun → Bool → ℕ → ℕ → List LoopRow → List PlacedRun
runs_after runs closed l n rows =
    if closed then runs else joined_after runs (placed_from l n (end_of runs) rows)
