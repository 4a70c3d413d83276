use Rattle.std.proofs.Common.{refl}
use Rattle.xb_signal.proofs.laws.samples_are_known.Goals as goal

pub returns : goal.returns
returns c = (refl, refl)
