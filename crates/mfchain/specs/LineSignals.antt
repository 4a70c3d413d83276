-- What the calls do by which C tells what it hears on a line.
use Rattle.std.specs.Prelude.{◌≡◌, ℕ, ◌≤◌, List, length}
use Rattle.xb_structs.specs.declared.heard_signal.HeardSignal.{HeardSignal}
use Rattle.xb_structs.specs.declared.line.PlainLine.{PlainLine}
use Rattle.xb_structs.specs.declared.mark.PlainMark.{PlainMark}
use Rattle.xb_structs.specs.declared.not_heard.NotHeard.{NotHeard}
use Rattle.xb_structs.specs.declared.table.PlainTable.{PlainTable}
use Rattle.xb_structs.specs.Hearing as hearing
use Rattle.xb_structs.specs.Status.{not_heard_status}

-- it is heard, and its marks are in the room, which is no smaller than it was
pub record IsHeard (table : PlainTable) (old new : PlainLine) (number : ℕ) (heard : HeardSignal) (room : List PlainMark) (count : ℕ) : Type 0 where
  pub hears : hearing.Hears table number old new heard room count
  pub few : count ≤ length room

-- the status says why it is not heard, no mark is given, and the line and the room are as they were
pub record IsNotHeard (table : PlainTable) (old new : PlainLine) (number : ℕ) (heard : HeardSignal) (room given : List PlainMark) (count status : ℕ) : Type 0 where
  pub refusal : NotHeard
  pub is : status ≡ not_heard_status refusal
  pub why : hearing.IsNotHeard refusal table number old heard (length room)
  pub none : count ≡ 0
  pub line : new ≡ old
  pub same : given ≡ room
