-- Text lines of a deck of which more may be said once the whole deck is known.
use Rattle.std.specs.Prelude.{ℕ, ◌+◌, ◌==◌, List, [], ◌∷◌, ◌++◌, Bool, true, false, if◌then◌else◌, Option, Some, None, slice_index_or}
use Rattle.xb_deck.specs.Deck.{Parts, deck_parts}
use Rattle.xb_findings.specs.declared.kept_lines.KeptLine.{KeptLine}
use Rattle.xb_findings.specs.declared.kept_lines.LineKind.{LineKind}
use Rattle.xb_findings.specs.declared.kept_lines.LineKind.TheVariants as kind
use Rattle.xb_findings.specs.declared.records.Record.{Record}
use Rattle.xb_findings.specs.declared.records.Record.TheVariants as read
use Rattle.xb_findings.specs.DeckFaults.{is_empty}
use Rattle.xb_findings.specs.Places.{line_after_cut}
use Rattle.xb_findings.specs.Separators.{record_in}
use Rattle.xb_findings.specs.TextLines.{text_lines}

-- a text line with its number, and what it is
pub record Kept : Type 0 where
  pub n : ℕ
  pub text : List ℕ
  pub kind : LineKind

abbrev pub kept_line_of : KeptLine → Kept
kept_line_of line = record { n = line.n; text = line.text.now; kind = line.kind }

abbrev pub kept_at : ℕ → List ℕ → LineKind → Kept
kept_at n text kind = record { n = n; text = text; kind = kind }

-- which lines of the office have a record
abbrev pub WhichSeen : Type 0
WhichSeen = ℕ → Bool

-- the same of a list with a value for each line of the office
abbrev pub seen_of : List Bool → WhichSeen
seen_of lines l = slice_index_or lines l false

abbrev pub none_seen : WhichSeen
none_seen l = false

abbrev pub seen_with : ℕ → WhichSeen → WhichSeen
seen_with k seen l = if l == k then true else seen l

-- the same after a text line that is this record
abbrev pub seen_after : WhichSeen → Record → WhichSeen
seen_after seen (read.Row row) = seen_with row.line seen
seen_after seen other = seen

-- text line n, where it is the first record of its line of the office
abbrev pub first_at : WhichSeen → ℕ → List ℕ → Record → List Kept
first_at seen n text (read.Row row) = if seen row.line then [] else kept_at n text (kind.First row.line) ∷ []
first_at seen n text other = []

-- of the text lines from n on, which are records, the first of each line of the office that has none yet
unfoldable pub firsts_of_records : WhichSeen → ℕ → List (List ℕ) → List Kept
firsts_of_records seen n [] = []
firsts_of_records seen n (text ∷ later) =
    first_at seen n text (record_in text) ++ firsts_of_records (seen_after seen (record_in text)) (n + 1) later

-- of the text lines from n on, before the header, the header and the first record of each line
unfoldable pub kept_of_lines : ℕ → List (List ℕ) → List Kept
kept_of_lines n [] = []
kept_of_lines n (text ∷ later) =
    if is_empty text then kept_of_lines (n + 1) later
    else (kept_at n text kind.Header ∷ []) ++ firsts_of_records none_seen (n + 1) later

-- the same of the rows, if a line cuts the deck
abbrev pub kept_of_rows : List ℕ → Option Parts → List Kept
kept_of_rows deck None = []
kept_of_rows deck (Some parts) = kept_of_lines (line_after_cut deck parts) (text_lines parts.rows)

-- the header of a deck, and the first record of each line of the office
abbrev pub kept_of_deck : List ℕ → List Kept
kept_of_deck deck = kept_of_rows deck (deck_parts deck)
