-- Text lines of a text without a line that cuts it, which are nearly that line.
use Rattle.std.specs.Prelude.{ℕ, ◌+◌, ◌==◌, ◌||◌, ◌&&◌, nat_lt, List, [], ◌∷◌, ◌++◌, Bool, if◌then◌else◌, count_by, Option, Some, None}
use Rattle.std.specs.List.{list_all}
use Rattle.xb_findings.specs.declared.finding.What.{What}
use Rattle.xb_findings.specs.declared.finding.What.TheVariants as what
use Rattle.xb_keys.specs.declared.key.Key.{Key}
use Rattle.xb_findings.specs.Findings.{Found}
use Rattle.xb_findings.specs.Records.{found_at}
use Rattle.xb_keys.specs.Table.{is_blank, without_mark}

-- a byte of a hyphen, or of a dash, – or —, in UTF-8
abbrev pub is_dash : ℕ → Bool
is_dash byte = (byte == 45) || (byte == 0xE2) || (byte == 0x80) || (byte == 0x93) || (byte == 0x94)

-- what a spreadsheet or a hand puts beside them: blanks, commas, semicolons, quotes
abbrev pub is_padding : ℕ → Bool
is_padding byte = is_blank byte || (byte == 44) || (byte == 59) || (byte == 34)

abbrev pub is_of_cut : ℕ → Bool
is_of_cut byte = is_dash byte || is_padding byte

-- a text line of these alone, with more than one hyphen, or a dash
abbrev pub is_nearly_cut : List ℕ → Bool
is_nearly_cut line = list_all is_of_cut (without_mark line) && nat_lt 1 (count_by is_dash (without_mark line))

abbrev pub near_cut : List ℕ → Option (What × Option Key)
near_cut line = if is_nearly_cut line then Some (what.NearCut, None) else None

-- of the text lines from n on, those that are nearly the line that cuts
abbrev pub near_cuts : ℕ → List (List ℕ) → List Found
near_cuts n [] = []
near_cuts n (line ∷ lines) = found_at n line (near_cut line) ++ near_cuts (n + 1) lines
