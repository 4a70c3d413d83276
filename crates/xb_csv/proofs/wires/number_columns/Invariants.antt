use Rattle.std.proofs.Common.{◌≡◌, ◌++◌, drop, map}
use Rattle.xb_contact.specs.Steps.{result_map}
use Rattle.xb_csv.specs.Tables.{numbered_from}
use Rattle.xb_csv.proofs.wires.number_columns.Given as goal

abbrev pub invariant-loop-wire : goal.invariant-loop-wire
invariant-loop-wire l =
    result_map (λ later. l.columns.items ++ later)
    (numbered_from l.wire (map (λ name. name.now) (drop l.wire l.names)))
    ≡ numbered_from 0 (map (λ name. name.now) l.names)
