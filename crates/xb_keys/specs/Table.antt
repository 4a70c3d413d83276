-- The text lines of a route table, each read by itself.
use Rattle.std.specs.Prelude.{ℕ, nat_eq, drop, ◌==◌, ◌||◌, not, List, [], ◌∷◌, Bool, false, if◌then◌else◌}
use Rattle.std.specs.List.{filter, starts_with}
use Rattle.std.specs.Char.{is_ascii_alphanumeric}

-- blanks and tabs
abbrev pub is_blank : ℕ → Bool
is_blank byte = (byte == 32) || (byte == 9)

-- a text without its blanks
abbrev pub without_blanks : List ℕ → List ℕ
without_blanks text = filter (λ byte. not (is_blank byte)) text

-- a text line without the byte order mark that the first may begin with
abbrev pub without_mark : List ℕ → List ℕ
without_mark line = if starts_with nat_eq line (0xEF ∷ 0xBB ∷ 0xBF ∷ []) then drop 3 line else line

-- a text line as it is read: without that mark, and without its blanks
abbrev pub squeezed : List ℕ → List ℕ
squeezed line = without_blanks (without_mark line)

-- a letter, a digit, _ or -: what keys have that stand without quotes
abbrev pub is_bare : ℕ → Bool
is_bare byte = is_ascii_alphanumeric byte || (byte == 95) || (byte == 45)

-- a heading, as [limits]
abbrev pub is_heading : List ℕ → Bool
is_heading [] = false
is_heading (byte ∷ rest) = byte == 91
