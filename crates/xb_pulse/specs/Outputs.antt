-- Where a row's signals stand.
use Rattle.std.specs.Prelude.{◌≡◌}
use Rattle.std.specs.List.{AllByRecursion}
use Rattle.xb_model.specs.declared.limits.Limits.{Limits}
use Rattle.xb_model.specs.Lines.{row_line, on_line_of}
use Rattle.xb_model.specs.Rows.{LoopRow}
use Rattle.xb_model.specs.OnLines.{outs_on_line as item_on_line}
use Rattle.xb_pulse.specs.declared.state.Phase.{Phase}
use Rattle.xb_pulse.specs.Machine.{signals_by, machine}

-- what a row sends is on the row's line
pub outs_on_line :
    (limits : Limits) (phase : Phase) (row : LoopRow)
    → AllByRecursion (λ sent. on_line_of sent ≡ row_line row) ((machine limits).outs phase row)
outs_on_line limits phase row = item_on_line row_line (signals_by limits) phase row
