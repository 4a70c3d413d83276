-- The two parts of a deck.
use Rattle.std.specs.Prelude.{ℕ, ◌==◌, ◌||◌, List, [], ◌∷◌, ◌++◌, codes, Bool, Option, Some, None, option_map, if◌then◌else◌, bytes_eq}
use Rattle.std.specs.List.{slice_split, join_with_byte}
use Rattle.xb_deck.specs.declared.deck.Deck.{Deck}

-- the byte that ends a line: LF
abbrev pub line_feed : ℕ
line_feed = 10

abbrev pub ends_line : ℕ → Bool
ends_line byte = byte == line_feed

-- whether a line is the cut: `---`, and one CR may stand before its end
abbrev pub is_cut : List ℕ → Bool
is_cut line = bytes_eq line (codes "---") || bytes_eq line (codes "---\r")

-- the text of the route table, and that of the rows
pub record Parts : Type 0 where
  pub table : List ℕ
  pub rows : List ℕ

abbrev pub parts_of_deck : Deck → Parts
parts_of_deck deck = record { table = deck.table.now; rows = deck.rows.now }

-- bytes before the route table
abbrev pub with_earlier : List ℕ → Parts → Parts
with_earlier bytes parts = record { table = bytes ++ parts.table; rows = parts.rows }

-- lines, cut at the first that is the cut
abbrev pub parts_of_lines : List (List ℕ) → Option Parts
parts_of_lines [] = None
parts_of_lines (line ∷ lines) =
    if is_cut line then Some (record { table = []; rows = join_with_byte line_feed lines })
    else option_map (λ parts. with_earlier (line ++ codes "\n") parts) (parts_of_lines lines)

-- the parts of a deck, whose lines are what stands between its LFs
abbrev pub deck_parts : List ℕ → Option Parts
deck_parts bytes = parts_of_lines (slice_split ends_line bytes)
