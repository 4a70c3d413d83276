-- What the rows so far leave of a line.
use Rattle.std.specs.Prelude.{ℕ, List, Bool, true, false, fold, slice_index_or}
use Rattle.xb_model.specs.declared.row.Contact.{Contact}
use Rattle.xb_model.specs.declared.row.Contact.TheVariants.{Make, Brk, Close}
use Rattle.xb_model.specs.Rows.{LoopRow}
use Rattle.xb_closes.specs.declared.line_use.LineUse.{LineUse}
use Rattle.xb_closes.specs.declared.line_use.LineUse.TheVariants.{NoRows, Open, Closed}

abbrev pub is_closed : LineUse → Bool
is_closed NoRows = false
is_closed Open = false
is_closed Closed = true

abbrev pub is_open_use : LineUse → Bool
is_open_use NoRows = false
is_open_use Open = true
is_open_use Closed = false

-- a line that was not closed, after one more row
abbrev pub heard_use : Contact → LineUse
heard_use Make = Open
heard_use Brk = Open
heard_use Close = Closed

-- a line after one more row
abbrev pub next_use : LineUse → Contact → LineUse
next_use NoRows contact = heard_use contact
next_use Open contact = heard_use contact
next_use Closed contact = Closed

-- a line after further rows
abbrev pub use_after : LineUse → List LoopRow → LineUse
use_after before rows = fold (λ line_use row. next_use line_use row.contact) before rows

-- line l, of the uses of all lines
abbrev pub use_at : List LineUse → ℕ → LineUse
use_at uses l = slice_index_or uses l NoRows
