use Rattle.std.proofs.Common.{◌≡◌, ◌++◌, drop, map, take}
use Rattle.xb_contact.specs.Steps.{result_map}
use Rattle.xb_csv.specs.Gpiomons.{levels_after}
use Rattle.xb_csv.proofs.gpiomon.take_levels.Given as goal

abbrev pub invariant-loop-i : goal.invariant-loop-i
invariant-loop-i l =
    result_map (λ later. take l.i l.levels ++ later)
    (levels_after l.lossy l.text l.level (map (λ name. name.now) (drop l.i l.names)) (drop l.i l.levels))
    ≡ levels_after l.lossy l.text l.level (map (λ name. name.now) l.names) l.initial.levels
