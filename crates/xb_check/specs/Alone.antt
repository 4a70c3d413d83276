-- Texts that are no deck, since no line cuts them, and are a route table alone.
use Rattle.std.specs.Prelude.{ℕ, nat_eq, ◌||◌, ◌&&◌, not, List, codes, Bool, false, Option, Some, None}
use Rattle.std.specs.List.{list_all, list_any, starts_with}
use Rattle.xb_text.specs.Pieces.{cut_at}
use Rattle.xb_keys.specs.Table.{is_bare, is_heading, squeezed}
use Rattle.xb_findings.specs.TextLines.{text_lines}

-- a text line that no table has: it begins as the line that cuts a deck, or as the header
abbrev pub is_of_deck : List ℕ → Bool
is_of_deck line =
    starts_with nat_eq line (codes "---") || starts_with nat_eq line (codes "line,state,ms")

-- a bare key stands before the first =
abbrev pub is_bare_key : Option (List ℕ × List ℕ) → Bool
is_bare_key None = false
is_bare_key (Some parts) = list_all is_bare parts.0

-- a text line of a table, without its blanks: a heading, or a key with its value
abbrev pub is_of_table : List ℕ → Bool
is_of_table line = is_heading line || is_bare_key (cut_at 61 line)

-- whether a text that no line cuts is a route table: it has a text line of one, and none of a deck
abbrev pub is_table : List ℕ → Bool
is_table text = not (list_any is_of_deck (text_lines text))
    && list_any (λ line. is_of_table (squeezed line)) (text_lines text)
