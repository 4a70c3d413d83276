-- What was written of the entries of rows.
use Rattle.std.specs.Prelude.{◌≡◌, ◌≢◌, ◌⊎◌, ℕ, List, [], ◌∷◌, ◌++◌, Option, Result, Ok, Err}
use Rattle.std.specs.Io.KnownBytes.{Appends}
use mathlib.Core.List.{IsPrefix}
use Rattle.xb_model.specs.declared.signal.Signal.{Signal}
use Rattle.xb_model.specs.Rows.{LoopRow}
use Rattle.xb_routes.specs.Table.{Table}
use Rattle.xb_text.specs.Writing.{AppendsBeginning}
use Rattle.xb_live.specs.declared.fault.EntriesFault.{EntriesFault}
use Rattle.xb_live.specs.declared.fault.EntriesFault.TheVariants.{Late, LateEvent, NoMemory, Write}
use Rattle.xb_live.specs.declared.hearings.Hearings.{Hearings}
use Rattle.xb_live.specs.declared.entry_text.EntryForm.{EntryForm}
use Rattle.xb_live.specs.declared.entry_text.EntryForm.TheVariants.{Entries, Events, Marks, Objects, MarkObjects}
use Rattle.xb_live.specs.Clocks.{IsLate, IsLateEvent, Style}
use Rattle.xb_live.specs.Counting.{Counted, HasCounted}
use Rattle.xb_live.specs.Events.{made_by}
use Rattle.xb_live.specs.Hearings.{HasHeard, row_signals}
use Rattle.xb_live.specs.Pages.{SortsIntoPage}
use Rattle.xb_live.specs.Texts.{entries_text, whole_text, with_closes}
use Rattle.xb_live.specs.TimedEntries.{TimedEntry, told_of_rows}
use Rattle.xb_live.specs.Times.{ms_on}

-- these rows were heard, where what is printed tells of it
abbrev pub Hears : EntryForm → Table → Hearings → List LoopRow → Type 0
Hears Entries table hearings rows = Unit {0}
Hears Marks table hearings rows = Unit {0}
Hears (Objects since) table hearings rows = HasHeard table hearings rows
Hears (MarkObjects since) table hearings rows = HasHeard table hearings rows
Hears (Events since) table hearings rows = HasHeard table hearings rows

-- these are the signals of a row after earlier ones, where what is printed tells of them
abbrev pub AreSignals : EntryForm → Table → List LoopRow → LoopRow → List Signal → Type 0
AreSignals Entries table earlier row signals = Unit {0}
AreSignals Marks table earlier row signals = Unit {0}
AreSignals (Objects since) table earlier row signals = Unit {0}
AreSignals (MarkObjects since) table earlier row signals = Unit {0}
AreSignals (Events since) table earlier row signals = signals ≡ row_signals table earlier row

-- an office has taken these rows, and a writer that had `start` got exactly their entries
pub record HasWritten (style : Style) (office : Counted) (hearings : Hearings) (rows : List LoopRow)
    (start out : Option (List ℕ)) : Type 0 where
  pub counted : HasCounted office rows
  pub heard : Hears style.form office.live.table hearings rows
  pub text : Appends start out (entries_text style office.live.table rows)

-- a writer got the entries of the first of these rows, and nothing more
abbrev pub GotFirst : Style → Table → List LoopRow → Option (List ℕ) → Option (List ℕ) → Type 0
GotFirst style table rows start out =
    (first : List LoopRow) × IsPrefix first rows × Appends start out (entries_text style table first)

-- a writer got the beginning of the entries of the first of these rows
abbrev pub GotBeginning : Style → Table → List LoopRow → Option (List ℕ) → Option (List ℕ) → Type 0
GotBeginning style table rows start out =
    (first : List LoopRow) × IsPrefix first rows
    × AppendsBeginning start out (entries_text style table first)

-- a row after earlier ones completes this entry of a line, and a time of it is past the last instant
abbrev pub CompletesLate : EntryForm → ℕ → ℕ → Table → List LoopRow → LoopRow → Type 0
CompletesLate form line number table earlier row =
    (told : TimedEntry) × (told_of_rows table (earlier ++ row ∷ []) ≡ told_of_rows table earlier ++ told ∷ [])
    × (told.line ≡ line) × (told.number ≡ number) × IsLate form told

-- a writer got the entries of the rows before one that does, which is among these
abbrev pub GotUntilLate :
    Style → ℕ → ℕ → Table → List LoopRow → Option (List ℕ) → Option (List ℕ) → Type 0
GotUntilLate style line number table rows start out =
    (earlier : List LoopRow) × ((row : LoopRow) × IsPrefix (earlier ++ row ∷ []) rows
    × Appends start out (entries_text style table earlier) × CompletesLate style.form line number table earlier row)

-- a row of a line after earlier ones makes an event, and the time of it is past the last instant
abbrev pub MakesLate : EntryForm → ℕ → Table → List LoopRow → LoopRow → Type 0
MakesLate form line table earlier row = (row.line ≡ line) × (made_by table.limits earlier row ≢ [])
    × IsLateEvent form (ms_on line (earlier ++ row ∷ []))

-- a writer got what is told of the rows before one that does, which is among these
abbrev pub GotUntilLateEvent :
    Style → ℕ → Table → List LoopRow → Option (List ℕ) → Option (List ℕ) → Type 0
GotUntilLateEvent style line table rows start out =
    (earlier : List LoopRow) × ((row : LoopRow) × IsPrefix (earlier ++ row ∷ []) rows
    × Appends start out (entries_text style table earlier) × MakesLate style.form line table earlier row)

-- what came of rows of which the last were to be taken: where memory ran out, or a time is past the last instant, the
-- entries of the first of them stand; where a write failed, the beginning of these
abbrev pub Writes :
    Style → Counted → Hearings → List LoopRow → Result (Unit {0}) EntriesFault → Option (List ℕ)
    → Option (List ℕ) → Type 0
Writes style office hearings rows (Ok u) start out = HasWritten style office hearings rows start out
Writes style office hearings rows (Err NoMemory) start out = GotFirst style office.live.table rows start out
Writes style office hearings rows (Err (Late line number)) start out =
    GotUntilLate style line number office.live.table rows start out
Writes style office hearings rows (Err (LateEvent line)) start out =
    GotUntilLateEvent style line office.live.table rows start out
Writes style office hearings rows (Err Write) start out = GotBeginning style office.live.table rows start out

-- a writer got all that is printed of rows that end: sorted by line and number, this is their page
abbrev pub GotAll : Style → Table → List LoopRow → Option (List ℕ) → Option (List ℕ) → Type 0
GotAll style table rows start out = Appends start out (whole_text style table rows) × SortsIntoPage table rows

-- what came of the end of rows
abbrev pub Ends :
    Style → Table → List LoopRow → Result (Unit {0}) EntriesFault → Option (List ℕ) → Option (List ℕ) → Type 0
Ends style table rows (Ok u) start out = GotAll style table rows start out
Ends style table rows (Err NoMemory) start out = GotFirst style table (with_closes rows) start out
Ends style table rows (Err (Late line number)) start out =
    GotUntilLate style line number table (with_closes rows) start out
Ends style table rows (Err (LateEvent line)) start out =
    GotUntilLateEvent style line table (with_closes rows) start out
Ends style table rows (Err Write) start out = AppendsBeginning start out (whole_text style table rows)
    ⊎ GotBeginning style table (with_closes rows) start out
