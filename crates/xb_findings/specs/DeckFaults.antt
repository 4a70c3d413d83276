-- What is wrong in the text lines of a deck, each read by itself.
use Rattle.std.specs.Prelude.{ℕ, ◌+◌, ◌==◌, ◌||◌, nat_lt, List, [], ◌∷◌, ◌++◌, length, Bool, false, if◌then◌else◌, Option, Some, None}
use Rattle.xb_deck.specs.declared.deck.TheConstants.{MOST_DECK_BYTES}
use Rattle.xb_deck.specs.Deck.{Parts, deck_parts}
use Rattle.xb_findings.specs.declared.finding.What.{What}
use Rattle.xb_findings.specs.Findings.{Found}
use Rattle.xb_findings.specs.Places.{faults_of_table, line_after_cut}
use Rattle.xb_findings.specs.Records.{Closed, closed_after, found_at, no_closes, what_of_record, with_point, wrong_header}
use Rattle.xb_findings.specs.Separators.{is_other, record_in, separator_of, separator_of_header, what_of_line}
use Rattle.xb_findings.specs.Findings.{with_meant}
use Rattle.xb_findings.specs.TextLines.{text_lines}

-- a text line that is passed over before the header, since nothing is written in it
abbrev pub is_empty : List ℕ → Bool
is_empty line = length line == 0

-- what is wrong with a text line as the header
abbrev pub what_of_header : List ℕ → Option What
what_of_header line = what_of_line false (separator_of_header line) (wrong_header line)

-- what is wrong with a record, or suspicious in it
abbrev pub what_of_record_line : Closed → Bool → List ℕ → Option What
what_of_record_line closed told line =
    what_of_line told (separator_of line) (with_point line (what_of_record closed (record_in line)))

-- the text lines from n on, which are records, each with what is wrong or suspicious; these lines of the office
-- were closed before, and by what fields are separated was told, or not
unfoldable pub faults_of_records : Closed → Bool → ℕ → List (List ℕ) → List Found
faults_of_records closed told n [] = []
faults_of_records closed told n (line ∷ lines) =
    found_at n line (with_meant (what_of_record_line closed told line) None)
    ++ faults_of_records (closed_after closed n (record_in line)) (told || is_other (separator_of line)) (n + 1) lines

-- the text lines from n on, before the header
unfoldable pub faults_of_lines : ℕ → List (List ℕ) → List Found
faults_of_lines n [] = []
faults_of_lines n (line ∷ lines) =
    if is_empty line then faults_of_lines (n + 1) lines
    else found_at n line (with_meant (what_of_header line) None)
    ++ faults_of_records no_closes (is_other (separator_of_header line)) (n + 1) lines

-- the text lines of the rows, if a line cuts the deck
abbrev pub faults_of_rows : List ℕ → Option Parts → List Found
faults_of_rows deck None = []
faults_of_rows deck (Some parts) = faults_of_lines (line_after_cut deck parts) (text_lines parts.rows)

-- what is wrong in a deck that is not too long: in its route table, and in each text line of its rows, read by itself
abbrev pub faults_of_deck : List ℕ → List Found
faults_of_deck deck =
    if nat_lt MOST_DECK_BYTES (length deck) then []
    else faults_of_table deck ++ faults_of_rows deck (deck_parts deck)
