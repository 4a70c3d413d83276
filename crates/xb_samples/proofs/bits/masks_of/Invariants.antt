use Rattle.std.proofs.Common.{◌≡◌, ◌++◌, drop, map}
use Rattle.xb_contact.specs.Steps.{result_map}
use Rattle.xb_samples.specs.Samples.{masks_from}
use Rattle.xb_samples.proofs.bits.masks_of.Given as goal

abbrev pub invariant-loop-wire : goal.invariant-loop-wire
invariant-loop-wire l =
    result_map (λ later. l.masks.items ++ later) (masks_from l.wire l.width (map (λ name. name.now) (drop l.wire l.names)))
    ≡ masks_from 0 l.width (map (λ name. name.now) l.names)
