-- The page that the pages of parts make together, or the first fault of them.
use Rattle.std.specs.Prelude.{ℕ, ◌+◌, ◌≡◌, ◌≤◌, ◌==◌, ◌&&◌, nat_le, nat_lt, if◌then◌else◌, Bool, List, [], ◌∷◌, map, Result, Ok, Err}
use Rattle.xb_model.specs.declared.limits.Limits.{Limits}
use Rattle.xb_model.specs.declared.line.TheConstants.{LINES}
use Rattle.xb_model.specs.declared.plan.Plan.{Plan}
use Rattle.xb_model.specs.Page.{page_text}
use Rattle.xb_model.specs.Routing.{AreRoutes, CodedRoute}
use Rattle.xb_model.specs.Rows.{LoopRow}
use Rattle.xb_model.specs.Tapes.{tapes_of}
use Rattle.xb_parts.specs.Parts.{AreAllParts, Part}
use Rattle.xb_parts.specs.declared.range.LineRange.{LineRange}
use Rattle.xb_parts.specs.PartPages.{part_page}
use Rattle.xb_page.specs.declared.fault.PageFault.{PageFault}
use Rattle.xb_page.specs.declared.fault.PageFault.TheVariants as page
use Rattle.xb_parts.specs.declared.damage.Damage.TheVariants as damage
use Rattle.xb_parts.specs.declared.parts_fault.PartsFault.{PartsFault}
use Rattle.xb_parts.specs.declared.parts_fault.PartsFault.TheVariants as fault
use Rattle.xb_parts.specs.declared.pages.PartPage.{PartPage}
use Rattle.xb_page.specs.PageLines.{Read, read_page}
use Rattle.xb_page.specs.Sheets.{Sheet, followed_by, joined_sheets, no_entries, sheet_text}

-- the lines of a part, and its page
pub record Given : Type 0 where
  pub lines : LineRange
  pub page : List ℕ

abbrev pub given_with : LineRange → List ℕ → Given
given_with lines page = record { lines = lines; page = page }

abbrev pub given_of : PartPage → Given
given_of part = given_with part.lines part.page.now

-- whether the lines of a part begin with this one, and are lines of the office
abbrev pub goes_on_from : ℕ → LineRange → Bool
goes_on_from line lines = lines.first == line && nat_le line lines.end && nat_le lines.end LINES

abbrev pub or_fault : {A : Type 0} → Result Sheet PartsFault → (Sheet → Result A PartsFault) → Result A PartsFault
or_fault (Err f) next = Err f
or_fault (Ok sheet) next = next sheet

-- what is wrong with the page of the part of this number
abbrev pub fault_of_page : ℕ → PageFault → PartsFault
fault_of_page number page.NoMemory = fault.NoMemory
fault_of_page number (page.Line n) = fault.Part number (damage.NoEntry n)
fault_of_page number (page.Early n) = fault.Part number (if n == 1 then damage.Overlaps else damage.OutOfOrder n)
fault_of_page number (page.Number n) = fault.Part number (damage.OutOfOrder n)
fault_of_page number (page.Kind n) = fault.Part number (damage.NoEntry n)
fault_of_page number (page.Key n) = fault.Part number (damage.WrongKey n)
fault_of_page number (page.Refusal n) = fault.Part number (damage.WrongRefusal n)
fault_of_page number (page.Totals n) = fault.Part number damage.WrongTotals
fault_of_page number (page.NoTotals n) = fault.Part number damage.NoTotals
fault_of_page number (page.GoesOn n) = fault.Part number damage.GoesOn

-- the sheet of a page that is whole and has no line from `end` on
abbrev pub sheet_within : ℕ → ℕ → Result Read PageFault → Result Sheet PartsFault
sheet_within number end (Err f) = Err (fault_of_page number f)
sheet_within number end (Ok read) =
    if nat_lt end read.next_line then Err (fault.PastEnd number) else Ok read.sheet

-- the sheet of the part of this number, the lines before which end before `line`
abbrev pub sheet_given : ℕ → ℕ → LineRange → List ℕ → Result Sheet PartsFault
sheet_given number line lines page =
    if goes_on_from line lines then sheet_within number lines.end (read_page line page)
    else Err (fault.Lines number)

-- the parts from this line on, after the sheet so far
abbrev pub join_from : ℕ → ℕ → Sheet → List Given → Result (List ℕ) PartsFault
join_from number line sheet [] = if line == LINES then Ok (sheet_text sheet) else Err (fault.Missing line)
join_from number line sheet (part ∷ parts) =
    or_fault (sheet_given number line part.lines part.page)
    (λ here. join_from (number + 1) part.lines.end (followed_by sheet here) parts)

-- the page of all parts, or the fault of the first that has one, or the first line that no part has
abbrev pub join_of : List Given → Result (List ℕ) PartsFault
join_of parts = join_from 1 0 no_entries parts

-- the lines from this one on that a page takes: up to that of its last entry, or all where it is damaged
abbrev pub lines_by : ℕ → Result Read PageFault → LineRange
lines_by first (Ok read) = record { first = first; end = read.next_line }
lines_by first (Err f) = record { first = first; end = LINES }

abbrev pub lines_taken : ℕ → List ℕ → LineRange
lines_taken first page = lines_by first (read_page first page)

-- memory ran out, or what the pages say
abbrev pub IsFaultOf : Result (List ℕ) PartsFault → PartsFault → Type 0
IsFaultOf said fault.NoMemory = Unit {0}
IsFaultOf said f = said ≡ Err f

-- the lines of a part of rows, and its page
abbrev pub given_part : Plan → Limits → List CodedRoute → Part → Given
given_part plan limits routes part =
    given_with (record { first = part.first; end = part.end }) (part_page plan limits routes part)

-- by routes as tables have them, the pages of the parts of rows, joined, are the page of the rows: none of
-- them has a fault
abbrev pub PartsMakeTheWhole : Type 0
PartsMakeTheWhole =
    (plan : Plan) (limits : Limits) (routes : List CodedRoute) (rows : List LoopRow) (parts : List Part)
    → AreRoutes routes → AreAllParts rows parts
    → join_of (map (given_part plan limits routes) parts) ≡ Ok (page_text (tapes_of plan limits routes rows))

-- where pages are those of the parts of rows, this is the page of the rows
abbrev pub MakesTheWhole : List Given → List ℕ → Type 0
MakesTheWhole given page =
    (plan : Plan) (limits : Limits) (routes : List CodedRoute) (rows : List LoopRow) (parts : List Part)
    → AreRoutes routes → AreAllParts rows parts → given ≡ map (given_part plan limits routes) parts
    → page ≡ page_text (tapes_of plan limits routes rows)

-- where pages are those of the parts of rows, the fault is none of theirs
abbrev pub BlamesNoPart : List Given → PartsFault → Type 0
BlamesNoPart given f =
    (plan : Plan) (limits : Limits) (routes : List CodedRoute) (rows : List LoopRow) (parts : List Part)
    → AreRoutes routes → AreAllParts rows parts → given ≡ map (given_part plan limits routes) parts
    → f ≡ fault.NoMemory

-- parts that take the lines from a on, up to but without b, one after the other
abbrev pub TakeLines : ℕ → ℕ → List Given → Type 0
TakeLines a b [] = a ≡ b
TakeLines a b (part ∷ parts) = (part.lines.first ≡ a) × (a ≤ part.lines.end) × TakeLines part.lines.end b parts

-- parts that are joined take all lines; the page of each is a text of entries and a line of totals; and the
-- page that they make is all these texts, part by part, and the sums of the totals
abbrev pub JoinedPartsAreWhole : Type 0
JoinedPartsAreWhole =
    (parts : List Given) (page : List ℕ) → join_of parts ≡ Ok page
    → TakeLines 0 LINES parts
    × (sheets : List Sheet) × (map (λ part. part.page) parts ≡ map sheet_text sheets)
    × (page ≡ sheet_text (joined_sheets sheets))
