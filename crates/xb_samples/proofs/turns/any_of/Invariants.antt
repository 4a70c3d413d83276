use Rattle.std.proofs.Common.{◌≡◌, drop}
use Rattle.xb_samples.specs.Turns.{any_from}
use Rattle.xb_samples.proofs.turns.any_of.Given as goal

abbrev pub invariant-loop-mask : goal.invariant-loop-mask
invariant-loop-mask l = any_from l.all (drop l.mask-index l.masks) ≡ any_from 0 l.masks
