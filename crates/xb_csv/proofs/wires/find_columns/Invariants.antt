use Rattle.std.proofs.Common.{◌≡◌, ◌++◌, drop, map}
use Rattle.xb_contact.specs.Steps.{result_map}
use Rattle.xb_csv.specs.Cells.{cells_of}
use Rattle.xb_csv.specs.Tables.{columns_for}
use Rattle.xb_csv.proofs.wires.find_columns.Given as goal

abbrev pub invariant-loop-wire : goal.invariant-loop-wire
invariant-loop-wire l =
    result_map (λ later. l.columns.items ++ later)
    (columns_for l.wire (cells_of l.line) (map (λ name. name.now) (drop l.wire l.names)))
    ≡ columns_for 0 (cells_of l.line) (map (λ name. name.now) l.names)
