-- A text line of JSON, read back.
use Rattle.std.specs.Prelude.{◌≡◌, ◌≤◌, ℕ, List, ◌++◌, codes, Some}
use Rattle.serde_json.specs.Data.{Data, depth}
use Rattle.serde_json.specs.Read.{max_depth, read}

-- the line is a text and a line feed, and the text is read back to the value, unless that nests too deep to be read
abbrev pub IsReadBack : List ℕ → Data → Type 0
IsReadBack line value =
    (text : List ℕ) × (line ≡ text ++ codes "\n") × (depth value ≤ max_depth → read text ≡ Some value)
