-- The line that an item is on, and the items of one line.
use Rattle.std.specs.Prelude.{ℕ, ◌==◌, List}
use Rattle.std.specs.List.{filter, range_with_len}
use Rattle.xb_model.specs.declared.on.On.{On}
use Rattle.xb_model.specs.Rows.{LoopRow}

abbrev pub row_line : LoopRow → ℕ
row_line row = row.line

abbrev pub on_line_of : {A : Type 0} → On A → ℕ
on_line_of item = item.line

-- the items of line l, in order
abbrev pub of_line : {X : Type 0} → (X → ℕ) → ℕ → List X → List X
of_line line l items = filter (λ item. line item == l) items

-- the lines below n, ascending
unfoldable pub lines_below : ℕ → List ℕ
lines_below n = range_with_len 0 n
