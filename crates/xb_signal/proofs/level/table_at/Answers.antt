use Rattle.std.proofs.Common.{refl}
use Rattle.xb_signal.specs.Levels.{amplitudes}
use Rattle.xb_signal.proofs.level.table_at.Goals as goal

pub returns : goal.returns
unfolding amplitudes
returns c = refl
