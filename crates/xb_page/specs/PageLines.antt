-- What a page says whose entries are not kept.
use Rattle.std.specs.Prelude.{ℕ, ◌==◌, not, if◌then◌else◌, List, [], ◌∷◌, ◌++◌, length, codes, Bool, true, false, Result, Ok, Err}
use Rattle.std.specs.List.{join_with_byte, slice_split}
use Rattle.xb_text.specs.Pieces.{pieces}
use Rattle.xb_page.specs.declared.fault.PageFault.{PageFault}
use Rattle.xb_page.specs.declared.fault.PageFault.TheVariants as fault
use Rattle.xb_page.specs.declared.heads.ReadPage.{ReadPage}
use Rattle.xb_page.specs.declared.page_place.PagePlace.{PagePlace}
use Rattle.xb_page.specs.Places.{line_after, line_feed, place_with, space, text_line}
use Rattle.xb_page.specs.ReadPages.{after_entry, is_totals, says_totals}
use Rattle.xb_page.specs.Sheets.{Sheet, sheet_with}

abbrev pub ends_line : ℕ → Bool
ends_line byte = byte == line_feed

-- where the reading of a page begins: at the first line that it may have
abbrev pub start_at : ℕ → PagePlace
start_at line = place_with line 0 0 0

-- the fields of a text line
abbrev pub words : List ℕ → List (List ℕ)
words text = pieces space text

-- what a page gives: its sheet, and the first line that the next page may have
pub record Read : Type 0 where
  pub sheet : Sheet
  pub next_line : ℕ

abbrev pub read_with : List ℕ → PagePlace → Read
read_with entries place =
    record { sheet = sheet_with entries place.keyed place.refused; next_line = line_after place }

-- the same, as the code has it
abbrev pub read_of : ReadPage → Read
read_of page =
    record { sheet = sheet_with page.entries.now page.keyed page.refused; next_line = page.next_line }

-- the totals, after these entries; `later` is what follows their LF, cut at each LF
abbrev pub read_totals : List ℕ → PagePlace → List ℕ → List (List ℕ) → Result Read PageFault
read_totals entries place text later =
    if not (says_totals place (words text)) then Err (fault.Totals (text_line place))
    else if length (join_with_byte line_feed later) == 0 then Ok (read_with entries place)
    else Err (fault.GoesOn (text_line place))

abbrev pub has_more : List (List ℕ) → Bool
has_more [] = false
has_more (line ∷ lines) = true

abbrev pub place_and : Result PagePlace PageFault → (PagePlace → Result Read PageFault) → Result Read PageFault
place_and (Err f) next = Err f
place_and (Ok place) next = next place

-- a page from a place on, after these entries: what stands between its LFs, the last of which is not
-- ended by one
abbrev pub read_lines : List ℕ → PagePlace → List (List ℕ) → Result Read PageFault
read_lines entries place [] = Err (fault.NoTotals (text_line place))
read_lines entries place (text ∷ later) =
    if not (has_more later) then Err (fault.NoTotals (text_line place))
    else if is_totals (words text) then read_totals entries place text later
    else place_and (after_entry place (words text))
    (λ next. read_lines (entries ++ text ++ codes "\n") next later)

-- what a page gives, whose first entry is of this line or a later one; or what is wrong with it
abbrev pub read_page : ℕ → List ℕ → Result Read PageFault
read_page from page = read_lines [] (start_at from) (slice_split ends_line page)
