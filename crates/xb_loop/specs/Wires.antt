-- The names of the wires of a recording, as its beginning tells them.
use Rattle.std.specs.Prelude.{ℕ, min, List, [], ◌∷◌, ◌++◌, Bool, Option, Some, None, Result, Ok, Err, bytes_eq, codes, count_by, map, nat_eq, ◌==◌, if◌then◌else◌, option_map}
use Rattle.std.specs.List.{flat_map, starts_with}
use Rattle.std.specs.Str.Lossy.{utf8_lossy}
use Rattle.xb_text.specs.Pieces.{cut_at, pieces, pieces_left}
use Rattle.xb_csv.specs.Cells.{trimmed}
use Rattle.xb_csv.specs.Gpiomons.{wire_of_edge}
use Rattle.xb_csv.specs.Tables.{is_seconds}
use Rattle.xb_csv.specs.Written.{numbers_from as decimals_from}
use Rattle.xb_recording.specs.declared.format.Format.{Format}
use Rattle.xb_recording.specs.declared.format.Format.TheVariants as formats
use Rattle.xb_recording.specs.Says.{without_mark}
use Rattle.xb_riff.specs.declared.head.HeadFault.{HeadFault}
use Rattle.xb_riff.specs.declared.head.WavFormat.{WavFormat}
use Rattle.xb_riff.specs.Heads.{Samples, head_of}
use Rattle.xb_vcd.specs.VcdTexts.{words_of}
use Rattle.xb_loop.specs.declared.found_names.TheConstants.{MOST_COLUMNS}

-- the numbers from this one on, so many of them
abbrev pub numbers_from : ℕ → ℕ → List (List ℕ)
numbers_from first count = decimals_from first count

-- a text, whose bytes that are no UTF-8 are U+FFFD
abbrev pub names_if : Option (List ℕ) → List (List ℕ)
names_if None = []
names_if (Some name) = utf8_lossy name ∷ []

-- the name that the words after `$var` declare: a kind, `1`, which is its bits, a code, and the name
abbrev pub declared_name : List (List ℕ) → Option (List ℕ)
declared_name (kind ∷ size ∷ code ∷ name ∷ rest) = if bytes_eq size (codes "1") then Some name else None
declared_name words = None

-- the names that words of a VCD declare, after each `$var`
abbrev pub declared_names : List (List ℕ) → List (List ℕ)
declared_names [] = []
declared_names (word ∷ rest) =
    (if bytes_eq word (codes "$var") then names_if (declared_name rest) else []) ++ declared_names rest

-- the names after the colon of sigrok's comment on its channels
abbrev pub channel_cells : List ℕ → Option (List ℕ)
channel_cells line =
    if starts_with nat_eq line (codes "; Channels (") then option_map (λ parts. parts.1) (cut_at 58 line) else None

-- the cells of a header after the label of its time
abbrev pub header_cells : List (List ℕ) → List (List ℕ)
header_cells [] = []
header_cells (label ∷ cells) = if is_seconds (trimmed label) then cells else []

abbrev pub cell_names : List (List ℕ) → List (List ℕ)
cell_names cells = map (λ cell. utf8_lossy (trimmed cell)) cells

-- the numbers of the columns after the first one, up to 33
abbrev pub column_names : List ℕ → List (List ℕ)
column_names line = numbers_from 1 (min (count_by (λ byte. byte == 44) line) MOST_COLUMNS)

-- the names in a line
abbrev pub line_names : Format → List ℕ → List (List ℕ)
line_names formats.Vcd line = declared_names (words_of line)
line_names formats.Gpiomon line = names_if (wire_of_edge line)
line_names formats.Sigrok line = cell_names (pieces_left 44 (channel_cells line))
line_names formats.Saleae line = cell_names (header_cells (pieces 44 line))
line_names formats.Edges line = column_names line
line_names formats.Bits line = []
line_names formats.WideBits line = []
line_names formats.Sixteen line = []
line_names formats.Wav line = []

-- the lines that have ended; the last one has where the recording does
abbrev pub ended_lines : Bool → List (List ℕ) → List (List ℕ)
ended_lines is_end [] = []
ended_lines is_end (line ∷ []) = if is_end then line ∷ [] else []
ended_lines is_end (line ∷ next ∷ rest) = line ∷ ended_lines is_end (next ∷ rest)

abbrev pub names_in_lines : Format → Bool → List (List ℕ) → List (List ℕ)
names_in_lines format is_end lines = flat_map (line_names format) (ended_lines is_end lines)

abbrev pub text_names : Format → Bool → List ℕ → List (List ℕ)
text_names format is_end text = names_in_lines format is_end (pieces 10 text)

-- how a WAV file is, and how many channels it has
abbrev pub format_in : Result Samples HeadFault → Result WavFormat HeadFault
format_in (Ok samples) = Ok samples.0
format_in (Err fault) = Err fault

abbrev pub channels_by : Result WavFormat HeadFault → ℕ
channels_by (Ok format) = format.channels
channels_by (Err fault) = 0

abbrev pub channels_of : List ℕ → ℕ
channels_of text = channels_by (format_in (head_of text))

-- the names that a beginning tells, or all of a recording
abbrev pub names_told : Format → Bool → List ℕ → List (List ℕ)
names_told formats.Vcd is_end text = text_names formats.Vcd is_end (without_mark text)
names_told formats.Gpiomon is_end text = text_names formats.Gpiomon is_end (without_mark text)
names_told formats.Sigrok is_end text = text_names formats.Sigrok is_end (without_mark text)
names_told formats.Saleae is_end text = text_names formats.Saleae is_end (without_mark text)
names_told formats.Edges is_end text = text_names formats.Edges is_end (without_mark text)
names_told formats.Bits is_end text = numbers_from 0 8
names_told formats.WideBits is_end text = numbers_from 0 16
names_told formats.Sixteen is_end text = numbers_from 1 1
names_told formats.Wav is_end text = numbers_from 1 (channels_of text)
