-- What the calls do by which a page shows a route and an entry.
use Rattle.std.specs.Prelude.{◌≡◌, ℕ, ◌≤◌, ◌⊎◌, ◌++◌, List, codes, length, take, Some, None}
use Rattle.xb_model.specs.declared.digits.TheConstants.{NUMBER_DIGITS}
use Rattle.xb_routes.specs.Table.{Table}
use Rattle.xb_structs.specs.declared.mark.PlainMark.{PlainMark}
use Rattle.xb_structs.specs.declared.printing.PrintFault.{PrintFault}
use Rattle.xb_structs.specs.declared.refusal.Refusal.TheVariants.{NotOpened}
use Rattle.xb_structs.specs.declared.table.PlainTable.{PlainTable}
use Rattle.xb_structs.specs.Deciding.{Decides}
use Rattle.xb_structs.specs.Digits.{digits_in}
use Rattle.xb_structs.specs.EntryLines.{IsNotPrinted, MayBeEntry, line_in}
use Rattle.xb_structs.specs.Status.{print_status, refusal_status}
use Rattle.xb_structs.specs.Tables.{Holds, IsOpen}
use Rattle.mfweb.specs.declared.status.TheConstants.{NO_CODE}

-- the number of the bytes: ten digits at most
abbrev pub number_in : List ℕ → List ℕ
number_in bytes = digits_in NUMBER_DIGITS (length bytes) bytes

-- by the open table that is held, the code of so many digits decides
pub record FindsCode (plain : PlainTable) (digits : List ℕ) (count : ℕ) : Type 0 where
  pub is_open : IsOpen plain
  pub decides : (table : Table) → Holds plain table → Decides table.routes digits (Some count)

-- by the open table that is held no code decides
pub record HasNoCode (plain : PlainTable) (digits : List ℕ) : Type 0 where
  pub is_open : IsOpen plain
  pub decides : (table : Table) → Holds plain table → Decides table.routes digits None

-- no code decides, or the table is none that was opened: the status says which
pub record FindsNoCode (plain : PlainTable) (digits : List ℕ) (count status : ℕ) : Type 0 where
  pub why : (status ≡ NO_CODE) × HasNoCode plain digits
      ⊎ (status ≡ refusal_status NotOpened) × (IsOpen plain → ⊥)
  pub none : count ≡ 0

-- the line of the entry, but its LF, is in the room
pub record PrintsEntry (line n : ℕ) (marks : List PlainMark) (room : List ℕ) (count : ℕ) : Type 0 where
  pub says : MayBeEntry marks
  pub printed : take count room ++ codes "\n" ≡ line_in line n marks
  pub few : count ≤ length room

-- the status says why the entry is not printed, and the room is as it was
pub record DoesNotPrint (line n : ℕ) (marks : List PlainMark) (room given : List ℕ) (count status : ℕ) : Type 0 where
  pub fault : PrintFault
  pub is : status ≡ print_status fault
  pub why : IsNotPrinted fault line n marks (length room)
  pub none : count ≡ 0
  pub same : given ≡ room
