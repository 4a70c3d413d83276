-- What the calls of the library do.
use Rattle.std.specs.Prelude.{◌≡◌, ◌≢◌, ℕ, List, Ok, Err}
use Rattle.xb_routes.specs.declared.fault.RouteFault.{RouteFault}
use Rattle.xb_routes.specs.declared.fault.RouteFault.TheVariants.{NoMemory}
use Rattle.xb_routes.specs.Table.{Table}
use Rattle.xb_routes.specs.Text.{table_of_text}
use Rattle.xb_structs.specs.declared.row.PlainRow.{PlainRow}
use Rattle.xb_structs.specs.declared.table.PlainTable.{PlainTable}
use Rattle.xb_structs.specs.Tables.{Holds}
use Rattle.xb_structs.specs.Status.{fault_status}

-- the table holds what the text writes
abbrev pub Opens : List ℕ → PlainTable → Type 0
Opens text plain = (table : Table) × (table_of_text text ≡ Ok table) × Holds plain table

-- the status is that of the text's fault, or says that memory ran out, and the table is as it was
pub record DoesNotOpen (text : List ℕ) (old new : PlainTable) (status : ℕ) : Type 0 where
  pub fault : RouteFault
  pub is : status ≡ fault_status fault
  pub why : fault ≢ NoMemory → table_of_text text ≡ Err fault
  pub kept : new ≡ old

-- the row that ends the record of a line
abbrev pub close_of : ℕ → PlainRow
close_of line = record { line = line; state = 67; ms = 0 }
