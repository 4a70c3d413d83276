-- What a call that takes a row answers.
use Rattle.std.specs.Prelude.{◌≡◌, ℕ, ◌≤◌, List, length}
use Rattle.xb_structs.specs.declared.line.PlainLine.{PlainLine}
use Rattle.xb_structs.specs.declared.mark.PlainMark.{PlainMark}
use Rattle.xb_structs.specs.declared.refusal.Refusal.{Refusal}
use Rattle.xb_structs.specs.declared.row.PlainRow.{PlainRow}
use Rattle.xb_structs.specs.declared.table.PlainTable.{PlainTable}
use Rattle.xb_structs.specs.Status.{refusal_status}
use Rattle.xb_structs.specs.Taking.{IsRefused, Takes}

-- the row is taken, and its marks are in the room, which is no smaller than it was
pub record IsTaken (table : PlainTable) (old new : PlainLine) (row : PlainRow) (room : List PlainMark) (count : ℕ) : Type 0 where
  pub takes : Takes table old new row room count
  pub few : count ≤ length room

-- the status says why the row is not taken, no mark is given, and the line and the room are as they were
pub record IsNotTaken (table : PlainTable) (old new : PlainLine) (row : PlainRow) (room given : List PlainMark) (count status : ℕ) : Type 0 where
  pub refusal : Refusal
  pub is : status ≡ refusal_status refusal
  pub why : IsRefused refusal table row old (length room)
  pub none : count ≡ 0
  pub line : new ≡ old
  pub same : given ≡ room
