-- Rows of all lines, split by contiguous ranges of lines.
use Rattle.std.specs.Prelude.{◌≡◌, ℕ, ◌<◌, ◌≤◌, List, [], ◌∷◌}
use Rattle.xb_model.specs.declared.line.TheConstants.{LINES}
use Rattle.xb_model.specs.Records.{rows_of}
use Rattle.xb_model.specs.Rows.{LoopRow}

-- a part: the rows of the lines from `first` on, up to but without `end`
pub record Part : Type 0 where
  pub first : ℕ
  pub end : ℕ
  pub rows : List LoopRow

-- the part has the rows of each of its lines, in their order, and no row of another line; rows of
-- different lines may stand in any order
pub record IsPartOf (rows : List LoopRow) (part : Part) : Type 0 where
  pub own : (l : ℕ) → part.first ≤ l → l < part.end → rows_of l part.rows ≡ rows_of l rows
  pub before : (l : ℕ) → l < part.first → rows_of l part.rows ≡ []
  pub after : (l : ℕ) → part.end ≤ l → rows_of l part.rows ≡ []

-- parts of rows that take the lines from `from` on, up to but without `to`, one range after the other
abbrev pub AreParts : List LoopRow → ℕ → ℕ → List Part → Type 0
AreParts rows from to [] = from ≡ to
AreParts rows from to (part ∷ parts) =
    (part.first ≡ from) × (from ≤ part.end) × IsPartOf rows part × AreParts rows part.end to parts

-- parts that have all lines
abbrev pub AreAllParts : List LoopRow → List Part → Type 0
AreAllParts rows parts = AreParts rows 0 LINES parts
