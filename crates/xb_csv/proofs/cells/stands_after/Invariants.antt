use Rattle.std.proofs.Common.{◌≡◌, ◌+◌, ◌-◌, drop, take}
use Rattle.std.specs.Prelude.{bytes_eq}
use Rattle.std.specs.List.{list_any}
use Rattle.xb_csv.specs.Cells.{cells_of, stands_after}
use Rattle.xb_csv.proofs.cells.stands_after.Given as goal

abbrev pub invariant-loop-step : goal.invariant-loop-step
invariant-loop-step l =
    list_any (λ cell. bytes_eq cell l.text) (drop (l.number + 1 - l.step) (take (65535 - l.step) (cells_of l.rest)))
    ≡ stands_after l.text l.number (cells_of l.fn.line)
