-- The times of the entries of a line ascend.
use Rattle.std.specs.Prelude.{◌≡◌, ◌≤◌, List}
use Rattle.std.specs.List.{AllByRecursion, AllPairs}
use Rattle.xb_model.specs.Rows.{LoopRow}
use Rattle.xb_routes.specs.Table.{Table}
use Rattle.xb_live.specs.TimedEntries.{TimedEntry, told_of_rows}

-- of two entries of one line the first is completed no later than the second
abbrev pub ComesNoLater : TimedEntry → TimedEntry → Type 0
ComesNoLater a b = a.line ≡ b.line → a.at ≤ b.at

-- whatever the rows, each attempt begins no later than its entry is completed, and the entries of a line are told in
-- the order of their times
pub record TimesAscend (table : Table) (rows : List LoopRow) : Type 0 where
  pub begins : AllByRecursion (λ (told : TimedEntry). told.began ≤ told.at) (told_of_rows table rows)
  pub ascends : AllPairs ComesNoLater (told_of_rows table rows)
