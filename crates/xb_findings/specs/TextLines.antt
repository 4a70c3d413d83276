-- The text lines of a text, as editors show them: each ends with LF, with CR LF, or with a CR alone.
use Rattle.std.specs.Prelude.{ℕ, ◌==◌, ◌||◌, ◌&&◌, List, [], ◌∷◌, Bool, false, if◌then◌else◌, Option, Some, None}
use Rattle.std.specs.List.{onto_first}

-- LF, CR
abbrev pub ends_line : ℕ → Bool
ends_line byte = (byte == 10) || (byte == 13)

-- the text lines of bytes before which a CR stands, or does not: an LF after a CR ends no further line
unfoldable pub lines_after : Bool → List ℕ → List (List ℕ)
lines_after returned [] = [] ∷ []
lines_after returned (byte ∷ bytes) =
    if returned && (byte == 10) then lines_after false bytes
    else if ends_line byte then [] ∷ lines_after (byte == 13) bytes
    else onto_first byte (lines_after false bytes)

abbrev pub text_lines : List ℕ → List (List ℕ)
text_lines text = lines_after false text

-- those that are left of a text
abbrev pub lines_left : Option (List ℕ) → List (List ℕ)
lines_left None = []
lines_left (Some text) = text_lines text

-- a text without the LF that it may begin with
abbrev pub without_lf : List ℕ → List ℕ
without_lf [] = []
without_lf (byte ∷ bytes) = if byte == 10 then bytes else byte ∷ bytes

-- what follows the end of a text line, of which this is the first byte
abbrev pub after_end : ℕ → List ℕ → List ℕ
after_end byte text = if byte == 13 then without_lf text else text
