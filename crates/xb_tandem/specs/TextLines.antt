-- The lines of a text, and the keys that they say.
use Rattle.std.specs.Prelude.{ℕ, ◌≡◌, ◌⊎◌, ◌<◌, ◌+◌, ◌==◌, List, [], ◌∷◌, ◌++◌, length, Bool, true, false, if◌then◌else◌, Option, Some, None, Result, Ok, Err}
use Rattle.std.specs.Io.KnownBytes.{Consumes, IsAtEnd}
use Rattle.xb_incoming.specs.declared.key.TimedKey.{TimedKey}
use Rattle.xb_tandem.specs.declared.fault.LineFault.{LineFault}
use Rattle.xb_tandem.specs.declared.bytes.Unread.{Unread}
use Rattle.xb_tandem.specs.declared.fault.ReadingFault.{ReadingFault}
use Rattle.xb_tandem.specs.declared.lines.TheConstants.{MOST_LINE_BYTES}
use Rattle.xb_tandem.specs.KeyLines.{Said, key_of_line}

-- what comes after the last line feed is a line, too, where there is something
abbrev pub last_line : List ℕ → List (List ℕ)
last_line [] = []
last_line (byte ∷ bytes) = (byte ∷ bytes) ∷ []

-- the lines of a text of which the first has begun so
abbrev pub lines_after : List ℕ → List ℕ → List (List ℕ)
lines_after begun [] = last_line begun
lines_after begun (byte ∷ bytes) = if byte == 10 then begun ∷ lines_after [] bytes
    else lines_after (begun ++ byte ∷ []) bytes

-- the lines of a text, each without its line feed
abbrev pub text_lines : List ℕ → List (List ℕ)
text_lines text = lines_after [] text

-- keys, or the first line that is wrong, with its number, and why
abbrev pub Keys : Type 0
Keys = Result (List TimedKey) (ℕ × LineFault)

abbrev pub with_keys : List TimedKey → Keys → Keys
with_keys first (Ok keys) = Ok (first ++ keys)
with_keys first (Err wrong) = Err wrong

abbrev pub key_and_rest : ℕ → Said → Keys → Keys
key_and_rest n (Err f) rest = Err (n, f)
key_and_rest n (Ok None) rest = rest
key_and_rest n (Ok (Some key)) rest = with_keys (key ∷ []) rest

-- the keys that lines say, of which the first has this number
unfoldable pub keys_from : ℕ → List (List ℕ) → Keys
keys_from n [] = Ok []
keys_from n (line ∷ lines) = key_and_rest n (key_of_line line) (keys_from (n + 1) lines)

-- the keys of a text
abbrev pub keys_of_text : List ℕ → Keys
keys_of_text text = keys_from 1 (text_lines text)

-- the keys that lines say before the first that is wrong
abbrev pub key_read : Said → List TimedKey → List TimedKey
key_read (Err f) rest = []
key_read (Ok None) rest = rest
key_read (Ok (Some key)) rest = key ∷ rest

unfoldable pub keys_read : List (List ℕ) → List TimedKey
keys_read [] = []
keys_read (line ∷ lines) = key_read (key_of_line line) (keys_read lines)

-- one byte was read, or none at the end
abbrev pub ReadsByte : Option (List ℕ) → Option (List ℕ) → Result (Option ℕ) Unread → Type 0
ReadsByte old new (Ok (Some byte)) = Consumes old new (byte ∷ [])
ReadsByte old new (Ok None) = Consumes old new [] × IsAtEnd new
ReadsByte old new (Err unread) = Unit {0}

-- a text begins with a line that is longer than this, and too long
abbrev pub IsLong : List ℕ → List ℕ → Type 0
IsLong text line = (MOST_LINE_BYTES < length line)
    × ((more : List ℕ) × ((later : List (List ℕ)) × (text_lines text ≡ (line ++ more) ∷ later)))

-- a text is this line, and the lines of what is left of it; or it begins with a line that is too long
abbrev pub IsLine : List ℕ → Option (List ℕ) → List ℕ → Type 0
IsLine text None line = ⊥
IsLine text (Some rest) line = (text_lines text ≡ line ∷ text_lines rest) ⊎ IsLong text line

-- a line of a text was read, or there is none
abbrev pub ReadsLine : Option (List ℕ) → Option (List ℕ) → List ℕ → Result Bool ReadingFault → Type 0
ReadsLine None left line result = Unit {0}
ReadsLine (Some text) left line (Ok true) = IsLine text left line
ReadsLine (Some text) left line (Ok false) = text_lines text ≡ []
ReadsLine (Some text) left line (Err f) = Unit {0}
