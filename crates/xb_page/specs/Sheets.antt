-- The sheet of tapes: what their page says, before its numbers are written out.
use Rattle.std.specs.Prelude.{ℕ, ◌+◌, List, [], ◌∷◌, ◌++◌}
use Rattle.xb_model.specs.declared.mark.Mark.{Mark}
use Rattle.xb_model.specs.Page.{tapes_text, totals_text, count_entries, is_keyed, is_refused}

-- the text of the entries, and how many of them are keyed and how many refused
pub record Sheet : Type 0 where
  pub entries : List ℕ
  pub keyed : ℕ
  pub refused : ℕ

abbrev pub sheet_with : List ℕ → ℕ → ℕ → Sheet
sheet_with entries keyed refused = record { entries = entries; keyed = keyed; refused = refused }

-- without entries
abbrev pub no_entries : Sheet
no_entries = sheet_with [] 0 0

-- one sheet, and another after it
abbrev pub followed_by : Sheet → Sheet → Sheet
followed_by first next =
    sheet_with (first.entries ++ next.entries) (first.keyed + next.keyed) (first.refused + next.refused)

-- sheets, one after the other
abbrev pub joined_sheets : List Sheet → Sheet
joined_sheets [] = no_entries
joined_sheets (sheet ∷ sheets) = followed_by sheet (joined_sheets sheets)

-- the page of a sheet: the entries, and the line of the totals
abbrev pub sheet_text : Sheet → List ℕ
sheet_text sheet = sheet.entries ++ totals_text sheet.keyed sheet.refused

-- the sheet of the tapes of all lines, whose page is the page of the tapes
abbrev pub sheet_of : List (List Mark) → Sheet
sheet_of tapes = sheet_with (tapes_text 0 tapes) (count_entries is_keyed tapes) (count_entries is_refused tapes)
