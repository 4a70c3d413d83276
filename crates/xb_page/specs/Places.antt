-- Where the reading of a page stands, and the head of the entry that comes next.
use Rattle.std.specs.Prelude.{ℕ, ◌+◌, ◌==◌, if◌then◌else◌, nat_lt, List, [], length, drop, codes, decimal, slice_index_or, Bool, true, false, Option, Some, None, option_copied, Result, Ok, Err, bytes_eq}
use Rattle.xb_model.specs.Fields.{field_number}
use Rattle.xb_model.specs.Page.{is_refused}
use Rattle.xb_text.specs.Pieces.{pieces_left}
use Rattle.xb_page.specs.Entries.{Entry}
use Rattle.xb_page.specs.declared.fault.PageFault.{PageFault}
use Rattle.xb_page.specs.declared.fault.PageFault.TheVariants as fault
use Rattle.xb_page.specs.declared.page_place.Head.{Head as WrittenHead}
use Rattle.xb_page.specs.declared.page_place.PagePlace.{PagePlace}

-- LF, space
abbrev pub line_feed : ℕ
line_feed = 10

abbrev pub space : ℕ
space = 32

abbrev pub place_with : ℕ → ℕ → ℕ → ℕ → PagePlace
place_with line entries keyed refused =
    record { line = line; entries = entries; keyed = keyed; refused = refused }

-- the number of the text line at a place
abbrev pub text_line : PagePlace → ℕ
text_line place = place.keyed + place.refused + 1

-- the number that four digits write
abbrev pub four_digits_of : List ℕ → Option ℕ
four_digits_of text = if length text == 4 then field_number 4 text else None

-- the number of the next entry, if it is of this line
abbrev pub number_at : PagePlace → ℕ → ℕ
number_at place line = if line == place.line then place.entries + 1 else 1

-- the number of the next entry, if the field writes it
abbrev pub next_number : PagePlace → ℕ → List ℕ → Option ℕ
next_number place line text =
    if bytes_eq text (decimal (number_at place line)) then Some (number_at place line) else None

-- whether a field says that an entry is refused, or that it is keyed
abbrev pub is_refusal : List ℕ → Option Bool
is_refusal field =
    if bytes_eq field (codes "KEYED") then Some false
    else (if bytes_eq field (codes "REFUSED") then Some true else None)

-- the head of an entry: its line, its number, whether it is refused, and the fields that follow
pub record Head : Type 0 where
  pub line : ℕ
  pub number : ℕ
  pub refused : Bool
  pub rest : List (List ℕ)

abbrev pub head_with : ℕ → ℕ → Bool → List (List ℕ) → Head
head_with line number refused rest = record { line = line; number = number; refused = refused; rest = rest }

-- a head, as the code has it
abbrev pub written : WrittenHead → Head
written head = head_with head.line head.number head.refused (pieces_left space (option_copied head.rest))

-- what is there, or else a fault
abbrev pub or_fault : {A B : Type 0} → PageFault → Option A → (A → Result B PageFault) → Result B PageFault
or_fault f None next = Err f
or_fault f (Some x) next = next x

-- field k of a text line; one that is missing is empty
abbrev pub field_at : List (List ℕ) → ℕ → List ℕ
field_at fields k = slice_index_or fields k []

-- the head that fields write, if it is the next one at a place, or its first fault
abbrev pub head_of_words : PagePlace → List ℕ → List ℕ → List ℕ → List (List ℕ) → Result Head PageFault
head_of_words place line number kind rest =
    or_fault (fault.Line (text_line place)) (four_digits_of line) (λ l.
    if nat_lt l place.line then Err (fault.Early (text_line place)) else
    or_fault (fault.Number (text_line place)) (next_number place l number) (λ n.
    or_fault (fault.Kind (text_line place)) (is_refusal kind) (λ refused.
    Ok (head_with l n refused rest))))

-- the head that the text line at a place writes, or its first fault
abbrev pub head_of_fields : PagePlace → List (List ℕ) → Result Head PageFault
head_of_fields place fields =
    head_of_words place (field_at fields 0) (field_at fields 1) (field_at fields 2) (drop 3 fields)

abbrev pub head_and : {A : Type 0} → Result Head PageFault → (Head → Result A PageFault) → Result A PageFault
head_and (Err f) next = Err f
head_and (Ok head) next = next head

-- the place after an entry
abbrev pub next_place : PagePlace → ℕ → ℕ → Bool → PagePlace
next_place place line number refused =
    if refused
    then place_with line number place.keyed (place.refused + 1)
    else place_with line number (place.keyed + 1) place.refused

abbrev pub place_after : PagePlace → Entry → PagePlace
place_after place entry = next_place place entry.line entry.number (is_refused entry.marks)

-- the first line that the next page may have
abbrev pub line_after : PagePlace → ℕ
line_after place = if place.entries == 0 then place.line else place.line + 1
