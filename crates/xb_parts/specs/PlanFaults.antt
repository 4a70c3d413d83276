-- Why there is no plan.
use Rattle.std.specs.Prelude.{◌<◌, List, slice_index_or}
use Rattle.xb_model.specs.declared.line.TheConstants.{LINES}
use Rattle.xb_parts.specs.declared.load.Load.{Load}
use Rattle.xb_parts.specs.declared.planning.PlanFault.{PlanFault}
use Rattle.xb_parts.specs.declared.planning.PlanFault.TheVariants as fault
use Rattle.xb_parts.specs.Loads.{IsWithin}

-- memory ran out, or a line that has more than this by itself
abbrev pub IsPlanFault : List Load → Load → PlanFault → Type 0
IsPlanFault loads most fault.NoMemory = Unit {0}
IsPlanFault loads most (fault.Line line) =
    (line < LINES) × ((d : Load) → IsWithin (slice_index_or loads line d) most → ⊥)
