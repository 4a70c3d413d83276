use Rattle.std.proofs.Common.{◌≡◌, ◌-◌, take}
use Rattle.std.specs.Prelude.{bytes_eq}
use Rattle.std.specs.List.{position_from}
use Rattle.xb_csv.specs.Cells.{cell_number, cells_of}
use Rattle.xb_csv.proofs.cells.cell_of.Given as goal

abbrev pub invariant-loop-number : goal.invariant-loop-number
invariant-loop-number l =
    position_from (λ cell. bytes_eq cell l.text) l.number (take (65535 - l.number) (cells_of l.rest))
    ≡ cell_number l.text (cells_of l.fn.line)
