-- The cells of a line.
use Rattle.std.specs.Prelude.{ℕ, ◌+◌, ◌-◌, List, Bool, Option, Some, None, bytes_eq, drop, length, map, nat_eq, take, if◌then◌else◌}
use Rattle.std.specs.Char.{is_ascii_whitespace}
use Rattle.std.specs.List.{list_any, position_from, prefix_len, starts_with, suffix_len}
use Rattle.xb_text.specs.Pieces.{pieces}

-- a text without the blanks before it, after it, and around it
abbrev pub trimmed_start : List ℕ → List ℕ
trimmed_start text = drop (prefix_len is_ascii_whitespace text) text

abbrev pub trimmed_end : List ℕ → List ℕ
trimmed_end text = take (length text - suffix_len is_ascii_whitespace text) text

unfoldable pub trimmed : List ℕ → List ℕ
trimmed text = trimmed_end (trimmed_start text)

-- what follows a text that a line begins with
abbrev pub after : List ℕ → List ℕ → Option (List ℕ)
after beginning line = if starts_with nat_eq line beginning then Some (drop (length beginning) line) else None

-- the texts between the commas of a line, without the blanks around them
unfoldable pub cells_of : List ℕ → List (List ℕ)
cells_of line = map trimmed (pieces 44 line)

-- the number of the first cell that is this text, among the first 65,535
unfoldable pub cell_number : List ℕ → List (List ℕ) → Option ℕ
cell_number text cells = position_from (λ cell. bytes_eq cell text) 0 (take 65535 cells)

-- whether a cell after the one of this number is this text too, among the first 65,535
unfoldable pub stands_after : List ℕ → ℕ → List (List ℕ) → Bool
stands_after text number cells = list_any (λ cell. bytes_eq cell text) (drop (number + 1) (take 65535 cells))
