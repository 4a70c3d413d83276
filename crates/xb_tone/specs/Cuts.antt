-- Which entries are cut by the next one, and the lines that tell it.
use Rattle.std.specs.Prelude.{ℕ, ◌*◌, ◌-◌, List, [], ◌∷◌, ◌++◌, Bool, codes, decimal, if◌then◌else◌, length, nat_lt, Option, None, Some}
use Rattle.std.specs.List.{slice_get}
use Rattle.xb_sound.specs.declared.cadence.Cadence.{Cadence}
use Rattle.xb_tone.specs.declared.entry.PlacedEntry.{PlacedEntry}
use Rattle.xb_tone.specs.Sounds.{entry_sound}

-- an entry comes before the sound of the one before it has ended
abbrev pub cuts : Cadence → PlacedEntry → PlacedEntry → Bool
cuts cadence before entry = nat_lt ((entry.at_ms - before.at_ms) * 8) (length (entry_sound cadence before))

-- the line that tells it, after the program's name
abbrev pub cut_line : List ℕ → PlacedEntry → PlacedEntry → List ℕ
cut_line program before entry =
    program ++ (codes ": entry " ++ (decimal before.number ++ (codes " of line " ++ (decimal before.line
    ++ (codes " is cut at " ++ (decimal entry.at_ms ++ (codes " ms by entry " ++ (decimal entry.number
    ++ (codes " of line " ++ (decimal entry.line ++ codes "\n"))))))))))

-- the line of an entry, if there is a next one that cuts it
abbrev pub line_between : List ℕ → Cadence → PlacedEntry → Option PlacedEntry → List ℕ
line_between program cadence before None = []
line_between program cadence before (Some entry) =
    if cuts cadence before entry then cut_line program before entry else []

-- a line for each entry that the next one cuts
abbrev pub lines_of_cuts : List ℕ → Cadence → List PlacedEntry → List ℕ
lines_of_cuts program cadence [] = []
lines_of_cuts program cadence (entry ∷ entries) =
    line_between program cadence entry (slice_get entries 0) ++ lines_of_cuts program cadence entries
