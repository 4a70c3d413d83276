use Rattle.std.proofs.Common.{refl}
use Rattle.xb_measured.specs.Waves.{weights}
use Rattle.xb_measured.proofs.WaveSums.{weight-light}
use Rattle.xb_measured.proofs.wave_sums.weight_at.Goals as goal

pub returns-clause-value : goal.returns-clause-value
unfolding weights
returns-clause-value c = refl

pub returns-clause-bound : goal.returns-clause-bound
unfolding weights
returns-clause-bound c = weight-light c.args.place
