-- The list of parts (own format): a text line for each, with the name of its deck, its first and its last
-- line, and how many records it has.
use Rattle.std.specs.Prelude.{ℕ, ◌≡◌, ◌+◌, ◌-◌, ◌++◌, List, [], ◌∷◌, codes, decimal, slice_index_or, Option, Some, None, option_and_then, option_map}
use Rattle.std.specs.List.{flat_map}
use Rattle.xb_model.specs.Page.{four_digits}
use Rattle.xb_model.specs.Fields.{line_of}
use Rattle.xb_parts.specs.declared.list.ListFault.{ListFault}
use Rattle.xb_parts.specs.declared.list.ListFault.TheVariants as fault
use Rattle.xb_parts.specs.declared.list.ListedPart.{ListedPart}
use Rattle.xb_parts.specs.declared.range.LineRange.{LineRange}
use Rattle.xb_text.specs.Pieces.{pieces}

-- LF, space
abbrev pub line_feed : ℕ
line_feed = 10

abbrev pub space : ℕ
space = 32

-- the name of the deck of a range, as 0000-4999.deck
abbrev pub deck_name : LineRange → List ℕ
deck_name range = four_digits range.first ++ codes "-" ++ four_digits (range.end - 1) ++ codes ".deck"

-- the text line of a part
abbrev pub listed_part : ListedPart → List ℕ
listed_part part =
    deck_name part.lines ++ codes " " ++ decimal part.lines.first ++ codes " " ++ decimal (part.lines.end - 1)
    ++ codes " " ++ decimal part.records ++ codes "\n"

-- the list of parts
abbrev pub list_of : List ListedPart → List ℕ
list_of parts = flat_map listed_part parts

-- the range from a first line to a last one
abbrev pub range_to : ℕ → ℕ → LineRange
range_to first last = record { first = first; end = last + 1 }

abbrev pub range_of_two : Option ℕ → Option ℕ → Option LineRange
range_of_two first last = option_and_then (λ f. option_map (λ l. range_to f l) last) first

-- word k of a text line; one that is missing is empty
abbrev pub word_at : List (List ℕ) → ℕ → List ℕ
word_at words k = slice_index_or words k []

-- the range that the words of a text line write
abbrev pub range_of_words : List (List ℕ) → Option LineRange
range_of_words words = range_of_two (line_of (word_at words 1)) (line_of (word_at words 2))

abbrev pub before : Option LineRange → Option (List LineRange) → Option (List LineRange)
before range ranges = option_and_then (λ r. option_map (λ rs. r ∷ rs) ranges) range

-- ranges after earlier ones
abbrev pub with_earlier : List LineRange → Option (List LineRange) → Option (List LineRange)
with_earlier earlier ranges = option_map (λ later. earlier ++ later) ranges

-- the ranges that text lines write, the last of which is empty
abbrev pub ranges_of_lines : List (List ℕ) → Option (List LineRange)
ranges_of_lines [] = None
ranges_of_lines ([] ∷ []) = Some []
ranges_of_lines (line ∷ lines) = before (range_of_words (pieces space line)) (ranges_of_lines lines)

-- the ranges of a list, each of whose lines ends with LF
abbrev pub ranges_of_list : List ℕ → Option (List LineRange)
ranges_of_list text = ranges_of_lines (pieces line_feed text)

-- memory ran out, or the text is no list
abbrev pub IsListFault : List ℕ → ListFault → Type 0
IsListFault text fault.NoMemory = Unit {0}
IsListFault text fault.NoList = ranges_of_list text ≡ None
