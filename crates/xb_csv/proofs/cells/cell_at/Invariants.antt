use Rattle.std.proofs.Common.{◌≡◌, ◌-◌}
use Rattle.std.specs.Prelude.{slice_get}
use Rattle.xb_csv.specs.Cells.{cells_of}
use Rattle.xb_csv.proofs.cells.cell_at.Given as goal

abbrev pub invariant-loop-step : goal.invariant-loop-step
invariant-loop-step l = slice_get (cells_of l.rest) (l.number - l._step) ≡ slice_get (cells_of l.fn.line) l.number
