-- What is printed of rows that end, beside their page.
use Rattle.std.specs.Prelude.{◌≡◌, ◌⊎◌, ℕ, ◌<◌, List, ◌++◌, map, IsPermutation}
use Rattle.std.specs.List.{AllPairs, flat_map}
use Rattle.xb_model.specs.Page.{entry_text, page_text, totals_text}
use Rattle.xb_model.specs.Rows.{LoopRow}
use Rattle.xb_model.specs.Tapes.{tapes_of}
use Rattle.xb_routes.specs.Table.{Table}
use Rattle.xb_live.specs.Clocks.{Style}
use Rattle.xb_live.specs.Entries.{Numbered, count_keyed, count_refused, entries_of_rows}
use Rattle.xb_live.specs.Texts.{TellsEntries, text_of, told_text, totals_of, whole_text, with_closes}
use Rattle.xb_live.specs.TimedEntries.{TimedEntry, entry_in, told_of_rows}
use Rattle.xb_live.specs.Told.{TellsAll, Told, all_of_rows}

-- the entries of rows that end, in the order in which they are printed
abbrev pub printed_entries : Table → List LoopRow → List TimedEntry
printed_entries table rows = told_of_rows table (with_closes rows)

-- all that is told of rows that end, in the same order: events too, where they are asked for
abbrev pub printed : Table → List LoopRow → List Told
printed table rows = all_of_rows table (with_closes rows)

-- the text line after them
abbrev pub last_line : Style → Table → List LoopRow → List ℕ
last_line style table rows =
    let entries = entries_of_rows table (with_closes rows) in
    totals_of style.form (count_keyed entries) (count_refused entries)

-- one entry is on a lower line than another, or on the same one with a lower number
abbrev pub ComesBefore : Numbered → Numbered → Type 0
ComesBefore a b = (a.line < b.line) ⊎ ((a.line ≡ b.line) × (a.number < b.number))

-- the text of an entry on the page
abbrev pub page_line : Numbered → List ℕ
page_line entry = entry_text entry.line entry.number entry.marks

-- sorted by line and number, the entries that are printed of rows that end are their page; the totals stay last
pub record SortsIntoPage (table : Table) (rows : List LoopRow) : Type 0 where
  pub whole : (style : Style) → whole_text style table rows
      ≡ flat_map (told_text style) (printed table rows) ++ last_line style table rows
  pub tells : TellsAll table (with_closes rows)
  pub alone : (style : Style) → TellsEntries style.form → whole_text style table rows
      ≡ flat_map (text_of style) (printed_entries table rows) ++ last_line style table rows
  pub sorted : List Numbered
  pub same : IsPermutation (map entry_in (printed_entries table rows)) sorted
  pub order : AllPairs ComesBefore sorted
  pub page : page_text (tapes_of table.plan table.limits table.routes rows)
      ≡ flat_map page_line sorted
      ++ totals_text (count_keyed (entries_of_rows table (with_closes rows))) (count_refused (entries_of_rows table (with_closes rows)))
