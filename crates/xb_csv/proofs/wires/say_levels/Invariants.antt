use Rattle.std.proofs.Common.{◌≡◌, ◌++◌, drop}
use Rattle.xb_contact.specs.Steps.{result_map}
use Rattle.xb_csv.specs.Cells.{cells_of}
use Rattle.xb_csv.specs.Tables.{levels_from}
use Rattle.xb_csv.proofs.wires.say_levels.Given as goal

abbrev pub invariant-loop-wire : goal.invariant-loop-wire
invariant-loop-wire l =
    result_map (λ later. l.events.items ++ later)
    (levels_from l.wire l.before (cells_of l.line) (drop l.wire l.columns))
    ≡ result_map (λ later. l.initial.events.items ++ later) (levels_from 0 l.before (cells_of l.line) l.columns)
