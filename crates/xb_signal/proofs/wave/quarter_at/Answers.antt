use Rattle.std.proofs.Common.{refl}
use Rattle.xb_signal.specs.Waves.{quarter}
use Rattle.xb_signal.proofs.Waves.{quarter-small}
use Rattle.xb_signal.proofs.wave.quarter_at.Goals as goal

pub returns-clause-value : goal.returns-clause-value
unfolding quarter
returns-clause-value c = refl

pub returns-clause-bound : goal.returns-clause-bound
unfolding quarter
returns-clause-bound c = quarter-small c.args.place
