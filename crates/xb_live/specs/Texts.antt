-- What is printed of entries.
use Rattle.std.specs.Prelude.{ℕ, List, [], ◌++◌, map, Option, Some, None}
use Rattle.std.specs.List.{flat_map}
use Rattle.std.proofs.Common.{inl, inr}
use Rattle.xb_model.specs.declared.line.TheConstants.{LINES}
use Rattle.xb_model.specs.declared.mark.Mark.{Mark}
use Rattle.xb_model.specs.declared.signal.Signal.{Signal}
use Rattle.xb_model.specs.Lines.{lines_below}
use Rattle.xb_model.specs.Page.{entry_text, totals_text}
use Rattle.xb_model.specs.Rows.{LoopRow, close_row}
use Rattle.xb_routes.specs.Table.{Table}
use Rattle.xb_tape.specs.MarkLines.{mark_line}
use Rattle.xb_live.specs.declared.line_hearing.Hearing.{Hearing}
use Rattle.xb_live.specs.declared.entry_text.EntryForm.{EntryForm}
use Rattle.xb_live.specs.declared.entry_text.EntryForm.TheVariants as form
use Rattle.xb_live.specs.Entries.{count_keyed, count_refused, entries_of_rows}
use Rattle.xb_clock.specs.Clocks.{Clock, time_at}
use Rattle.xb_live.specs.Clocks.{Style}
use Rattle.xb_live.specs.EventObjects.{event_object, line_at}
use Rattle.xb_live.specs.Events.{Event, event_with}
use Rattle.xb_live.specs.Objects.{line_of, timed_mark, timed_object, totals_object}
use Rattle.xb_live.specs.TimedEntries.{TimedEntry, told_with}
use Rattle.xb_live.specs.Told.{Told, all_of_rows}

-- an entry: its line as the page has it, or a line for each of its marks; or its object, or one for each mark, with
-- its times where they are asked for; beside events its object
abbrev pub text_by : EntryForm → Clock → TimedEntry → List ℕ
text_by form.Entries clock told = entry_text told.line told.number told.marks
text_by form.Marks clock told = flat_map (λ mark. mark_line told.line told.number mark) told.marks
text_by (form.Objects since) clock told =
    line_of (timed_object (time_at since clock told.began) (time_at since clock told.at) told)
text_by (form.MarkObjects since) clock told =
    flat_map (λ mark. line_of (timed_mark (time_at since clock told.at) told.line told.number told.at mark)) told.marks
text_by (form.Events since) clock told =
    line_of (timed_object (time_at since clock told.began) (time_at since clock told.at) told)

abbrev pub text_of : Style → TimedEntry → List ℕ
text_of style told = text_by style.form style.clock told

-- an event: its object, with its time where it is asked for; in the other forms none is told
abbrev pub event_text : EntryForm → Clock → Event → List ℕ
event_text form.Entries clock event = []
event_text form.Marks clock event = []
event_text (form.Objects since) clock event = []
event_text (form.MarkObjects since) clock event = []
event_text (form.Events since) clock event = line_at (time_at since clock event.at) (event_object event)

-- a form in which entries alone are told
abbrev pub TellsEntries : EntryForm → Type 0
TellsEntries form.Entries = Unit {0}
TellsEntries form.Marks = Unit {0}
TellsEntries (form.Objects since) = Unit {0}
TellsEntries (form.MarkObjects since) = Unit {0}
TellsEntries (form.Events since) = ⊥

-- an event, or an entry
abbrev pub told_text : Style → Told → List ℕ
told_text style (inl event) = event_text style.form style.clock event
told_text style (inr told) = text_of style told

-- all that is told of rows, in the order in which it becomes certain
abbrev pub entries_text : Style → Table → List LoopRow → List ℕ
entries_text style table rows = flat_map (told_text style) (all_of_rows table rows)

-- what a row of a line tells: its signals, and the entry of this number, if it completes one
abbrev pub completed_text : Style → ℕ → List Mark → Hearing → Option ℕ → List ℕ
completed_text style line marks heard None = []
completed_text style line marks heard (Some number) = text_of style (told_with line number marks heard)

abbrev pub signals_text : EntryForm → Clock → ℕ → Hearing → List Signal → List ℕ
signals_text form.Entries clock line heard signals = []
signals_text form.Marks clock line heard signals = []
signals_text (form.Objects since) clock line heard signals = []
signals_text (form.MarkObjects since) clock line heard signals = []
signals_text (form.Events since) clock line heard signals =
    flat_map (event_text (form.Events since) clock) (map (event_with line heard) signals)

abbrev pub row_text : Style → ℕ → List Signal → Option ℕ → List Mark → Hearing → List ℕ
row_text style line signals number marks heard =
    signals_text style.form style.clock line heard signals ++ completed_text style line marks heard number

-- rows that end, after which each line is closed, the lines ascending
abbrev pub with_closes : List LoopRow → List LoopRow
with_closes rows = rows ++ map close_row (lines_below LINES)

-- the totals, as the page has them or as an object
abbrev pub totals_of : EntryForm → ℕ → ℕ → List ℕ
totals_of form.Entries keyed refused = totals_text keyed refused
totals_of form.Marks keyed refused = totals_text keyed refused
totals_of (form.Objects since) keyed refused = line_of (totals_object keyed refused)
totals_of (form.MarkObjects since) keyed refused = line_of (totals_object keyed refused)
totals_of (form.Events since) keyed refused = line_of (totals_object keyed refused)

-- all that is printed of rows that end: what is told of them, of the closes too, and the totals
abbrev pub whole_text : Style → Table → List LoopRow → List ℕ
whole_text style table rows =
    let entries = entries_of_rows table (with_closes rows) in
    entries_text style table (with_closes rows)
    ++ totals_of style.form (count_keyed entries) (count_refused entries)
