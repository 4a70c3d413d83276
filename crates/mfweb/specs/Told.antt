-- What the calls answer by which a page tells what it hears on a line, or asks of a number.
use Rattle.std.specs.Prelude.{◌≡◌, ℕ, ◌≤◌, ◌==◌, if◌then◌else◌, List, length}
use Rattle.xb_structs.specs.declared.heard_signal.HeardSignal.{HeardSignal}
use Rattle.xb_structs.specs.declared.heard_signal.HeardSignal.TheVariants as heard
use Rattle.xb_structs.specs.declared.line.PlainLine.{PlainLine}
use Rattle.xb_structs.specs.declared.mark.PlainMark.{PlainMark}
use Rattle.xb_structs.specs.declared.not_heard.NotHeard.{NotHeard}
use Rattle.xb_structs.specs.declared.number.NotRouted.{NotRouted}
use Rattle.xb_structs.specs.declared.table.PlainTable.{PlainTable}
use Rattle.xb_structs.specs.Hearing.{Hears, IsNotHeard}
use Rattle.xb_structs.specs.Numbers as numbers
use Rattle.xb_structs.specs.Status.{not_heard_status, not_routed_status}

-- what was heard, by its kind
abbrev pub heard_in : ℕ → ℕ → HeardSignal
heard_in kind digit =
    if kind == 0 then heard.Seizure
    else if kind == 1 then heard.Digit digit
    else if kind == 2 then heard.MutilatedDigit
    else if kind == 3 then heard.TimeOut
    else heard.Release

-- it is heard, and its marks are in the room, which is no smaller than it was
pub record IsTold (table : PlainTable) (old new : PlainLine) (line : ℕ) (heard : HeardSignal) (room : List PlainMark) (count : ℕ) : Type 0 where
  pub hears : Hears table line old new heard room count
  pub few : count ≤ length room

-- the status says why it is not heard, no mark is given, and the line and the room are as they were
pub record IsNotTold (table : PlainTable) (old new : PlainLine) (line : ℕ) (heard : HeardSignal) (room given : List PlainMark) (count status : ℕ) : Type 0 where
  pub refusal : NotHeard
  pub is : status ≡ not_heard_status refusal
  pub why : IsNotHeard refusal table line old heard (length room)
  pub none : count ≡ 0
  pub kept : new ≡ old
  pub same : given ≡ room

-- the marks of the number are in the room
pub record IsRouted (table : PlainTable) (digits : List ℕ) (room : List PlainMark) (count : ℕ) : Type 0 where
  pub routes : numbers.Routes table digits room count
  pub few : count ≤ length room

-- the status says why there are none, and the room is as it was
pub record IsNotRouted (table : PlainTable) (digits : List ℕ) (room given : List PlainMark) (count status : ℕ) : Type 0 where
  pub reason : NotRouted
  pub is : status ≡ not_routed_status reason
  pub so : numbers.IsNotRouted reason table digits (length room)
  pub none : count ≡ 0
  pub same : given ≡ room
