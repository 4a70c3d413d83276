-- The entries that a text tells, one object a line, and the totals in its last one.
use Rattle.std.specs.Prelude.{ℕ, ◌≡◌, ◌+◌, ◌-◌, ◌==◌, ◌&&◌, List, [], ◌∷◌, ◌++◌, Bool, true, false, count_by, if◌then◌else◌, length, Result, Ok, Err}
use Rattle.xb_text.specs.Pieces.{pieces}
use Rattle.xb_tone.specs.declared.entry.PlacedEntry.{PlacedEntry}
use Rattle.xb_tone.specs.declared.objects_fault.LineFault.{LineFault}
use Rattle.xb_tone.specs.declared.objects_fault.LineFault.TheVariants as line_fault
use Rattle.xb_tone.specs.declared.objects_fault.TextFault.{TextFault}
use Rattle.xb_tone.specs.declared.objects_fault.TextFault.TheVariants as fault
use Rattle.xb_tone.specs.declared.text_line.Told.TheVariants as told
use Rattle.xb_tone.specs.Entries.{is_keyed}
use Rattle.xb_tone.specs.Objects.{Said, told_of_line}

-- entries, or the first text line that is wrong, with its number, and why
abbrev pub Entries : Type 0
Entries = Result (List PlacedEntry) (ℕ × LineFault)

-- nothing is left, or nothing after the last LF
abbrev pub ends : List (List ℕ) → Bool
ends [] = true
ends ([] ∷ []) = true
ends other = false

-- so many of the entries are keyed, and so many are not
abbrev pub are_totals : ℕ → ℕ → List PlacedEntry → Bool
are_totals keyed refused entries =
    keyed == count_by is_keyed entries && refused == length entries - count_by is_keyed entries

-- whether a text line is the last one, and the entries up to it; or its fault
abbrev pub Step : Type 0
Step = Result (Bool × List PlacedEntry) (ℕ × LineFault)

-- totals that are those of the entries before them, and after which nothing stands, are the last text line
abbrev pub end_at : ℕ → ℕ → ℕ → List PlacedEntry → List (List ℕ) → Step
end_at n keyed refused entries later =
    if are_totals keyed refused entries
    then (if ends later then Ok (true, entries) else Err (n, line_fault.GoesOn))
    else Err (n, line_fault.Totals)

abbrev pub step_with : ℕ → List PlacedEntry → List (List ℕ) → Said → Step
step_with n entries later (Err f) = Err (n, f)
step_with n entries later (Ok (told.Entry entry)) = Ok (false, entries ++ (entry ∷ []))
step_with n entries later (Ok told.Event) = Ok (false, entries)
step_with n entries later (Ok (told.Totals keyed refused)) = end_at n keyed refused entries later

-- what text line n does, after entries, and before the later text lines
abbrev pub step : ℕ → List PlacedEntry → List ℕ → List (List ℕ) → Step
step n entries line later = step_with n entries later (told_of_line n line)

abbrev pub go_on : Step → (List PlacedEntry → Entries) → Entries
go_on (Err wrong) rest = Err wrong
go_on (Ok (true, entries)) rest = Ok entries
go_on (Ok (false, entries)) rest = rest entries

-- the entries up to the totals, of text lines of which the first has this number, after earlier ones
unfoldable pub entries_from : ℕ → List PlacedEntry → List (List ℕ) → Entries
entries_from n earlier [] = Err (n, line_fault.NoTotals)
entries_from n earlier (line ∷ lines) =
    if ends (line ∷ lines) then Err (n, line_fault.NoTotals)
    else go_on (step n earlier line lines) (λ entries. entries_from (n + 1) entries lines)

-- the entries of a text, whose lines end at LF, and whose last one has the totals
abbrev pub entries_of_text : List ℕ → Entries
entries_of_text text = entries_from 1 [] (pieces 10 text)

-- memory ran out, or it is the fault of a step
abbrev pub IsFaultOf : Step → TextFault → Type 0
IsFaultOf step fault.NoMemory = Unit {0}
IsFaultOf step (fault.TextLine n f) = step ≡ Err (n, f)

-- memory ran out, or this is the first text line that is wrong
abbrev pub IsFaultOfText : List ℕ → TextFault → Type 0
IsFaultOfText text fault.NoMemory = Unit {0}
IsFaultOfText text (fault.TextLine n f) = entries_of_text text ≡ Err (n, f)
