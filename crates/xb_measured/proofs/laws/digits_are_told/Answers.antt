use Rattle.std.proofs.Common.{refl}
use Rattle.xb_ear.specs.Levels.{correlated, squares}
use Rattle.xb_signal.specs.Waves.{quarter}
use Rattle.xb_measured.proofs.laws.digits_are_told.Goals as goal

pub returns : goal.returns
unfolding correlated squares quarter
returns c = refl
