-- A row may be cut into two.
use Rattle.std.specs.Prelude.{◌≡◌, ℕ, ◌+◌, List, [], ◌∷◌, ◌++◌}
use Rattle.xb_model.specs.declared.row.Contact.{Contact}
use Rattle.xb_model.specs.Rows.{LoopRow, row_of}
use Rattle.xb_model.specs.Records.{rows_of, record_of, runs_of}

-- the runs of every line are the same where a row is cut into two of its contact, whatever rows of
-- other lines stand between the two
abbrev pub RowsMayBeCut : Type 0
RowsMayBeCut =
    (l line m n : ℕ) (contact : Contact) (earlier between later : List LoopRow) → rows_of line between ≡ [] →
    runs_of (record_of l (earlier ++ row_of line contact m ∷ (between ++ row_of line contact n ∷ later)))
    ≡ runs_of (record_of l (earlier ++ row_of line contact (m + n) ∷ (between ++ later)))
