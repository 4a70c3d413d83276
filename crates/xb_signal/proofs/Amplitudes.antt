-- The amplitudes of levels.
use Rattle.std.proofs.Common.{refl}
use Rattle.xb_signal.specs.Levels.{AmplitudesAreRounded, amplitudes, are_rounded}

pub amplitudes_are_rounded : AmplitudesAreRounded
unfolding amplitudes are_rounded
amplitudes_are_rounded = refl
