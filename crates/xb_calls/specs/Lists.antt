-- Texts with one thing in each text line: calls, or numbers.
use Rattle.std.specs.Prelude.{ℕ, ◌==◌, ◌||◌, if◌then◌else◌, List, [], ◌∷◌, map, Bool, true}
use Rattle.std.specs.Str.Lines.{strip_carriage_return}
use Rattle.csv.specs.Reading.{strip_bom}
use Rattle.xb_text.specs.Pieces.{pieces}

-- the bytes that set things apart: LF, tab, space, hyphen, #
abbrev pub line_feed : ℕ
line_feed = 10

abbrev pub tab : ℕ
tab = 9

abbrev pub space : ℕ
space = 32

abbrev pub hyphen : ℕ
hyphen = 45

abbrev pub hash : ℕ
hash = 35

-- text lines end at LF or at the end of the text; one CR before that end is dropped, and at the beginning of the
-- text a byte order mark, as `csv` drops it
abbrev pub text_lines : List ℕ → List (List ℕ)
text_lines text = map strip_carriage_return (pieces line_feed (strip_bom text))

-- blanks are spaces and tabs
abbrev pub is_blank : ℕ → Bool
is_blank byte = (byte == space) || (byte == tab)

-- digits may be grouped by blanks and hyphens
abbrev pub is_grouping : ℕ → Bool
is_grouping byte = is_blank byte || (byte == hyphen)

-- what follows the blanks at the beginning of a text line
abbrev pub after_blanks : List ℕ → List ℕ
after_blanks [] = []
after_blanks (byte ∷ rest) = if is_blank byte then after_blanks rest else byte ∷ rest

-- nothing, or a comment, which begins with #
abbrev pub is_comment : List ℕ → Bool
is_comment [] = true
is_comment (byte ∷ rest) = byte == hash

-- a text line is passed over where its blanks are followed by nothing, or by a comment
abbrev pub is_passed_over : List ℕ → Bool
is_passed_over line = is_comment (after_blanks line)
