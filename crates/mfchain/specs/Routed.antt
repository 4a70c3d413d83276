-- What a call for a number that is dialled on no line answers.
use Rattle.std.specs.Prelude.{◌≡◌, ℕ, ◌≤◌, List, length}
use Rattle.xb_structs.specs.declared.mark.PlainMark.{PlainMark}
use Rattle.xb_structs.specs.declared.number.NotRouted.{NotRouted}
use Rattle.xb_structs.specs.declared.table.PlainTable.{PlainTable}
use Rattle.xb_structs.specs.Numbers as numbers
use Rattle.xb_structs.specs.Status.{not_routed_status}

-- the marks of the number are in the room
pub record IsRouted (table : PlainTable) (digits : List ℕ) (room : List PlainMark) (count : ℕ) : Type 0 where
  pub routes : numbers.Routes table digits room count
  pub few : count ≤ length room

-- the status says why there are none, and the room is as it was
pub record IsNotRouted (table : PlainTable) (digits : List ℕ) (room given : List PlainMark) (count status : ℕ) : Type 0 where
  pub why : NotRouted
  pub is : status ≡ not_routed_status why
  pub so : numbers.IsNotRouted why table digits (length room)
  pub none : count ≡ 0
  pub same : given ≡ room
