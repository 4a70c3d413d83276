-- Parts that are joined take all lines, and their pages are the texts of their sheets.
use Rattle.std.proofs.Common.{◌≡◌, ◌≤◌, ◌+◌, ◌==◌, ℕ, ltb, Bool, true, false, cond, List, [], ◌∷◌, map, refl, sym, ap, ap₂, ◌∙◌}
use Rattle.std.specs.Prelude.{Err, Ok, Result}
use Rattle.std.proofs.lemmas.Bool.{and_parts, eqb-true, leb-true}
use Rattle.xb_model.specs.declared.line.TheConstants.{LINES}
use Rattle.xb_page.specs.declared.fault.PageFault.{PageFault}
use Rattle.xb_page.specs.PageLines.{Read, read_page}
use Rattle.xb_page.specs.Sheets.{Sheet, followed_by, joined_sheets, no_entries, sheet_text}
use Rattle.xb_page.proofs.LineSheets.{followed_by-assoc, no_entries-first, no_entries-last}
use Rattle.xb_page.proofs.ReadSheets.{accepted_page}
use Rattle.xb_parts.specs.declared.parts_fault.PartsFault.{PartsFault}
use Rattle.xb_parts.specs.declared.parts_fault.PartsFault.TheVariants as fault
use Rattle.xb_parts.specs.Joining.{Given, JoinedPartsAreWhole, TakeLines, goes_on_from, join_from, or_fault, sheet_given, sheet_within}

-- what a part that is taken gives: its lines go on from the line, and its page is the text of its sheet
record IsTaken (line : ℕ) (part : Given) (sheet : Sheet) : Type 0 where
  first : part.lines.first ≡ line
  up : line ≤ part.lines.end
  page : part.page ≡ sheet_text sheet

taken : (number line : ℕ) (part : Given) (sheet : Sheet)
    → sheet_given number line part.lines part.page ≡ Ok sheet → IsTaken line part sheet
taken number line part sheet e = at (goes_on_from line part.lines) refl e
  where
    page_is : (past : Bool) (read : Read) → read_page line part.page ≡ Ok read
        → cond past (Err (fault.PastEnd number)) (Ok read.sheet) ≡ Ok sheet → part.page ≡ sheet_text sheet
    page_is true read is e = absurd (let no : ⊥ = cc in no)
    page_is false read is e =
        let same : read.sheet ≡ sheet = cc in accepted_page line part.page read is ∙ ap sheet_text same

    within : (found : Result Read PageFault) → read_page line part.page ≡ found
        → sheet_within number part.lines.end found ≡ Ok sheet → part.page ≡ sheet_text sheet
    within (Err f) is e = absurd (let no : ⊥ = cc in no)
    within (Ok read) is e = page_is (ltb part.lines.end read.next_line) read is e

    at : (goes : Bool) → goes_on_from line part.lines ≡ goes
        → cond goes (sheet_within number part.lines.end (read_page line part.page)) (Err (fault.Lines number)) ≡ Ok sheet
        → IsTaken line part sheet
    at false goes e = absurd (let no : ⊥ = cc in no)
    at true goes e =
        let parts = and_parts _ _ goes in
        let front = and_parts _ _ parts.0 in
        record {
          first = eqb-true part.lines.first line front.0;
          up = leb-true line part.lines.end front.1;
          page = within (read_page line part.page) refl e;
        }

-- the sheets of parts that are joined
record AreSheetsOf (line : ℕ) (parts : List Given) (before : Sheet) (page : List ℕ) : Type 0 where
  lines : TakeLines line LINES parts
  sheets : List Sheet
  pages_are : map (λ part. part.page) parts ≡ map sheet_text sheets
  page_is : page ≡ sheet_text (followed_by before (joined_sheets sheets))

sheets_of : (number line : ℕ) (before : Sheet) (parts : List Given) (page : List ℕ)
    → join_from number line before parts ≡ Ok page → AreSheetsOf line parts before page
sheets_of number line before [] page e = at (line == LINES) refl e
  where
    at : (all : Bool) → (line == LINES) ≡ all → cond all (Ok (sheet_text before)) (Err (fault.Missing line)) ≡ Ok page
        → AreSheetsOf line [] before page
    at false all e = absurd (let no : ⊥ = cc in no)
    at true all e = record {
      lines = eqb-true line LINES all;
      sheets = [];
      pages_are = refl;
      page_is = let same : page ≡ sheet_text before = cc in same ∙ ap sheet_text (sym (no_entries-last before));
    }
sheets_of number line before (part ∷ parts) page e =
    at (sheet_given number line part.lines part.page) refl
    (λ here. sheets_of (number + 1) part.lines.end (followed_by before here) parts page) e
  where
    at : (found : Result Sheet PartsFault) → sheet_given number line part.lines part.page ≡ found
        → ((here : Sheet) → join_from (number + 1) part.lines.end (followed_by before here) parts ≡ Ok page
        → AreSheetsOf part.lines.end parts (followed_by before here) page)
        → or_fault found (λ here. join_from (number + 1) part.lines.end (followed_by before here) parts) ≡ Ok page
        → AreSheetsOf line (part ∷ parts) before page
    at (Err f) is rest e = absurd (let no : ⊥ = cc in no)
    at (Ok here) is rest e =
        let later = rest here e in
        let of = taken number line part here is in
        record {
          lines = (of.first, of.up, later.lines);
          sheets = here ∷ later.sheets;
          pages_are = ap₂ (λ (p : List ℕ) (ps : List (List ℕ)). p ∷ ps) of.page later.pages_are;
          page_is = later.page_is ∙ ap sheet_text (followed_by-assoc before here (joined_sheets later.sheets));
        }

pub joined_parts_are_whole : JoinedPartsAreWhole
joined_parts_are_whole parts page e =
    let of = sheets_of 1 0 no_entries parts page e in
    (of.lines, of.sheets, of.pages_are, of.page_is ∙ ap sheet_text (no_entries-first (joined_sheets of.sheets)))
