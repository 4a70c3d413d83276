-- The rows of loop records.
use Rattle.std.specs.Prelude.{ℕ, Bool, IsTrue, nat_le, ◌==◌}
use Rattle.xb_model.specs.declared.row.Contact.{Contact}
use Rattle.xb_model.specs.declared.row.Contact.TheVariants.{Make, Brk, Close}
use Rattle.xb_model.specs.declared.row.TheConstants.{GREATEST_MS}

-- a line, what its loop does, and for how many ms
pub record LoopRow : Type 0 where
  pub line : ℕ
  pub contact : Contact
  pub ms : ℕ

abbrev pub row_of : ℕ → Contact → ℕ → LoopRow
row_of line contact ms = record { line = line; contact = contact; ms = ms }

-- the row that ends the record of line l
abbrev pub close_row : ℕ → LoopRow
close_row l = row_of l Close 0

-- whether a row may say so many ms: at most a day, and nothing in a close
abbrev pub may_last : Contact → ℕ → Bool
may_last Make ms = nat_le ms GREATEST_MS
may_last Brk ms = nat_le ms GREATEST_MS
may_last Close ms = ms == 0

-- what may stand in a row
abbrev pub IsRow : Contact → ℕ → Type 0
IsRow contact ms = IsTrue (may_last contact ms)
